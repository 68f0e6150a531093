-- Padded arrays: how one is filled, and that its meant elements name it.
use Rattle.std.proofs.Common.{◌≡◌, ℕ, zero, suc, ◌+◌, ◌-◌, ◌<◌, ◌≤◌, Bool, true, eqb, leb, List, [], ◌∷◌, ◌++◌, length, take, drop, set, replicate, sym, refl, ap, ◌∙◌, arith, length-append, length-drop, take-append-drop}
use Rattle.std.proofs.Math.Seq.{drop-append_seam}
use Rattle.std.proofs.lemmas.List.{drop-drop, drop-replicate, drop-set-lt, length-replicate, length-set, length-take-le}
use Rattle.std.proofs.lemmas.Bool.{and_parts, and_from, le-leb, eq-eqb, leb-true, eqb-true}
use Rattle.std.specs.List.{list_all}
use Rattle.terms.specs.Padding.{padded}

module _ {X : Type 0} (blank : X → Bool) where
  -- what a padded array is known to hold
  pub padded_parts : (size count : ℕ) (xs : List X) → padded blank size count xs ≡ true → (length xs ≡ size) × (count ≤ size) × (list_all blank (drop count xs) ≡ true)
  padded_parts size count xs e =
      let p = and_parts (eqb (length xs) size) _ e in
      let q = and_parts (leb count size) _ p.1 in
      (eqb-true _ _ p.0, leb-true _ _ q.0, q.1)

  padded_from : (size count : ℕ) (xs : List X) → length xs ≡ size → count ≤ size → list_all blank (drop count xs) ≡ true → padded blank size count xs ≡ true
  padded_from size count xs l c e = and_from _ _ (eq-eqb _ _ l) (and_from _ _ (le-leb _ _ c) e)

  -- one more element in the first blank place
  pub padded_push : (size count : ℕ) (xs : List X) (x : X) → padded blank size count xs ≡ true → count < size → padded blank size (count + 1) (set xs count x) ≡ true
  padded_push size count xs x e room =
      let p = padded_parts size count xs e in
      padded_from size (count + 1) (set xs count x) (length-set xs count x ∙ p.0) (omega (arith, room))
      (ap (list_all blank) (drop-set-lt (count + 1) xs count x (omega arith) ∙ sym (drop-drop 1 count xs)) ∙ all_drop 1 (drop count xs) p.2)
    where
      all_drop : (n : ℕ) (xs : List X) → list_all blank xs ≡ true → list_all blank (drop n xs) ≡ true
      all_drop zero xs e = e
      all_drop (suc n) [] e = refl
      all_drop (suc n) (x ∷ xs) e = all_drop n xs (and_parts (blank x) (list_all blank xs) e).1

  module _ (d : X) where
    all_replicate : blank d ≡ true → (n : ℕ) → list_all blank (replicate n d) ≡ true
    all_replicate b zero = refl
    all_replicate b (suc n) = and_from _ _ b (all_replicate b n)

    -- elements put at the front of blank places
    pub padded_front : blank d ≡ true → (size : ℕ) (xs places : List X) → length xs ≤ size → places ≡ xs ++ drop (length xs) (replicate size d) → padded blank size (length xs) places ≡ true
    padded_front b size xs places few e =
        padded_from size (length xs) places (ap length e ∙ simp (length-append, length-drop, length-replicate) (omega (arith, few))) few
        (ap (list_all blank) (ap (drop (length xs)) e ∙ drop-append_seam xs _ ∙ drop-replicate (length xs) size d) ∙ all_replicate b (size - length xs))

    pub padded_none : blank d ≡ true → (size : ℕ) → padded blank size 0 (replicate size d) ≡ true
    padded_none b size = padded_from size 0 (replicate size d) (length-replicate size d) (omega arith) (all_replicate b size)

    module _ (only : (x : X) → blank x ≡ true → x ≡ d) where
      blank_same : (xs ys : List X) → length xs ≡ length ys → list_all blank xs ≡ true → list_all blank ys ≡ true → xs ≡ ys
      blank_same [] [] l p q = refl
      blank_same [] (y ∷ ys) l p q = absurd (omega arith)
      blank_same (x ∷ xs) [] l p q = absurd (omega arith)
      blank_same (x ∷ xs) (y ∷ ys) l p q =
          let s = and_parts (blank x) (list_all blank xs) p in
          let t = and_parts (blank y) (list_all blank ys) q in
          let e : x ≡ y = only x s.0 ∙ sym (only y t.0) in
          λ j. e j ∷ blank_same xs ys (omega arith) s.1 t.1 j

      -- two padded arrays with the same meant elements are the same
      pub padded_same : (size m n : ℕ) (xs ys : List X) → padded blank size m xs ≡ true → padded blank size n ys ≡ true → take m xs ≡ take n ys → (m ≡ n) × (xs ≡ ys)
      padded_same size m n xs ys p q e =
          let a = padded_parts size m xs p in
          let b = padded_parts size n ys q in
          let c : m ≡ n = sym (length-take-le m xs (omega arith)) ∙ ap length e ∙ length-take-le n ys (omega arith) in
          let l : length (drop m xs) ≡ length (drop n ys) = simp length-drop (omega arith) in
          let r = blank_same (drop m xs) (drop n ys) l a.2 b.2 in
          (c, sym (take-append-drop m xs) ∙ (λ j. e j ++ r j) ∙ take-append-drop n ys)
