-- What an array's `map` gives.
use Rattle.std.proofs.Common.{◌≡◌, ℕ, zero, suc, ◌+◌, List, map, length, drop, sym, subst, ap, ◌∙◌, arith}
use Rattle.std.proofs.lemmas.List.{drop_all, drop_more, map-id}
use Rattle.std.specs.Array.{IsMapOf, MapsFrom}
use Rattle.std.specs.Fn.{Called}
use denote.Param.Members.{Mut}

-- u of a new element is v of the old one where a call gives the one of the other, and no call changes the function
module _ {A B C F : Type 0} (u : B → C) (v : A → C) {g : Mut F (A × Unit {0}) B} {f : F} (gives : (x : A) (y : B) (q : F) → Called g f (x, tt) y q → (u y ≡ v x) × (q ≡ f)) where
  map-from_MapsFrom : (xs : List A) (ys : List B) (i n : ℕ) → i + n ≡ length xs → length ys ≡ length xs → MapsFrom g f xs ys i n → map u (drop i ys) ≡ map v (drop i xs)
  map-from_MapsFrom xs ys i zero e l m =
      ap (map u) (drop_all i ys (omega arith)) ∙ sym (ap (map v) (drop_all i xs (omega arith)))
  map-from_MapsFrom xs ys i (suc n) e l (q, x, y, at_x, at_y, called, more) =
      let here = gives x y q called in
      let rest = map-from_MapsFrom xs ys (i + 1) n (omega arith) l (subst (λ (p : F). MapsFrom g p xs ys (i + 1) n) here.1 more) in
      cc (here.0, rest, at_x.0, at_y.0, ap (map u) (drop_more ys i y (omega arith)), ap (map v) (drop_more xs i x (omega arith)))

  pub map-from_IsMapOf : {xs : List A} {ys : List B} {n : ℕ} → length xs ≡ n → IsMapOf g f xs ys n → map u ys ≡ map v xs
  map-from_IsMapOf {xs = xs} {ys = ys} {n = n} l m =
      map-from_MapsFrom xs ys 0 n (omega arith) (m.long ∙ sym l) m.each

-- a closure that computes a function maps by it
pub mapped : {A B F : Type 0} (v : A → B) {g : Mut F (A × Unit {0}) B} {f : F} {xs : List A} {ys : List B} {n : ℕ} → ((x : A) (y : B) (q : F) → Called g f (x, tt) y q → (y ≡ v x) × (q ≡ f)) → length xs ≡ n → IsMapOf g f xs ys n → ys ≡ map v xs
mapped v {ys = ys} gives l m = sym (map-id ys) ∙ map-from_IsMapOf (λ y. y) v gives l m
