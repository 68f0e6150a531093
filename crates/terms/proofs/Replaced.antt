-- A loop that writes over each element of a list: g of the new elements is f of the old ones.
use Rattle.std.proofs.Common.{◌≡◌, ℕ, ◌+◌, ◌<◌, ◌≤◌, List, [], ◌∷◌, ◌++◌, map, length, get_or, take, drop, set, sym, ap, ◌∙◌, arith}
use Rattle.std.proofs.lemmas.List.{append_assoc, append-nil, drop_all, drop_more, drop-set-lt, map_push, take_all, take_more_set}

module _ {X Y : Type 0} (f g : X → Y) (xs ys : List X) (i : ℕ) (inv : map g (take i ys) ++ map f (drop i ys) ≡ map f xs) where
  pub replaced_more : (x y : X) → i < length ys → g y ≡ f (get_or ys i x) → map g (take (i + 1) (set ys i y)) ++ map f (drop (i + 1) (set ys i y)) ≡ map f xs
  replaced_more x y l e =
      ap (λ t. map g t ++ map f (drop (i + 1) (set ys i y))) (take_more_set ys i y l)
      ∙ ap (λ t. map g (take i ys ++ y ∷ []) ++ map f t) (drop-set-lt (i + 1) ys i y (omega arith))
      ∙ ap (λ t. t ++ map f (drop (i + 1) ys)) (map_push g (take i ys) y)
      ∙ append_assoc (map g (take i ys)) (g y ∷ []) (map f (drop (i + 1) ys))
      ∙ ap (λ z. map g (take i ys) ++ z ∷ map f (drop (i + 1) ys)) e
      ∙ ap (λ t. map g (take i ys) ++ map f t) (sym (drop_more ys i x l))
      ∙ inv

  pub replaced_all : length ys ≤ i → map g ys ≡ map f xs
  replaced_all l = sym (simp (take_all i ys l, drop_all i ys l, append-nil)) ∙ inv
