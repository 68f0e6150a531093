-- Items: a detection point and the mode in which it is asked for.
use Rattle.std.specs.Prelude.{◌≡◌, ℕ, Bool, true, false, ◌&&◌, ◌||◌, List, [], ◌∷◌, codes, ◌==◌, nat_le}
use Rattle.std.proofs.Common.{arith}
use Rattle.terms.specs.Points.{point_number, is_point}
use Rattle.terms.specs.declared.point.Point.TheVariants.{OrigAttemptAuthorized}
use Rattle.frame.specs.declared.item.Mode.{Mode}
use Rattle.frame.specs.declared.item.Mode.TheVariants.{Interrupt, Notify, Transparent}
use Rattle.frame.specs.declared.item.Item.{Item}

abbrev pub mode_number : Mode → ℕ
mode_number Interrupt = 0
mode_number Notify = 1
mode_number Transparent = 2

-- the mode in a word
abbrev pub mode_name : Mode → List ℕ
mode_name Interrupt = codes "interrupt"
mode_name Notify = codes "notify"
mode_name Transparent = codes "transparent"

-- whether a number is that of a mode
abbrev pub is_mode : ℕ → Bool
is_mode n = nat_le n 2

-- the bytes of items, two to each: the point's number and the mode's
abbrev pub item_bytes : List Item → List ℕ
item_bytes [] = []
item_bytes (x ∷ xs) = point_number x.point ∷ mode_number x.mode ∷ item_bytes xs

-- the items that bytes spell, each as a point's and a mode's number, whether or not these exist
abbrev pub spelt : List ℕ → List (ℕ × ℕ)
spelt [] = []
spelt (p ∷ []) = []
spelt (p ∷ m ∷ rest) = (p, m) ∷ spelt rest

abbrev pub is_item : ℕ × ℕ → Bool
is_item x = is_point x.0 && is_mode x.1

-- whether the point is one of the items'
abbrev pub has_point : ℕ → List (ℕ × ℕ) → Bool
has_point p [] = false
has_point p (x ∷ xs) = x.0 == p || has_point p xs

-- whether a point comes twice
abbrev pub some_twice : List (ℕ × ℕ) → Bool
some_twice [] = false
some_twice (x ∷ xs) = has_point x.0 xs || some_twice xs

-- the item that fills the places of a list that are not used
abbrev pub blank_item : Item
blank_item = record { point = OrigAttemptAuthorized; mode = Interrupt }

-- whether this is that item
abbrev pub is_blank : Item → Bool
is_blank x = point_number x.point == 1 && mode_number x.mode == 0

-- no other item is
pub blank_alone : (x : Item) → is_blank x ≡ true → x ≡ blank_item
blank_alone x e =
    let p : x.point ≡ OrigAttemptAuthorized = grind arith in
    let m : x.mode ≡ Interrupt = grind arith in
    λ j. record { point = p j; mode = m j }
