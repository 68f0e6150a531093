-- The points of items, as their bytes spell them.
use Rattle.std.proofs.Common.{◌≡◌, ℕ, Bool, ◌==◌, ◌||◌, List, [], ◌∷◌, sym, refl, ap, ◌∙◌}
use Rattle.std.specs.List.{list_any}
use Rattle.terms.specs.Points.{point_number}
use Rattle.frame.specs.Items.{item_bytes, spelt, has_point, some_twice}
use Rattle.frame.specs.declared.item.Item.{Item}

any_point : (p : ℕ) (xs : List Item) → list_any (λ (x : Item). point_number x.point == p) xs ≡ has_point p (spelt (item_bytes xs))
any_point p [] = refl
any_point p (x ∷ xs) = ap (λ b. point_number x.point == p || b) (any_point p xs)

-- a point that comes again decides; one that does not leaves it to the others
pub twice_from : (xs : List Item) (x : Item) (others : List Item) → xs ≡ x ∷ others → (found : Bool) → found ≡ list_any (λ (y : Item). point_number y.point == point_number x.point) others → some_twice (spelt (item_bytes xs)) ≡ (found || some_twice (spelt (item_bytes others)))
twice_from xs x others e found h =
    ap (λ ys. some_twice (spelt (item_bytes ys))) e ∙ ap (λ b. b || some_twice (spelt (item_bytes others))) (sym (h ∙ any_point (point_number x.point) others))
