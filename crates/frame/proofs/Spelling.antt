-- Items and the bytes that spell them.
use Rattle.std.proofs.Common.{◌≡◌, ℕ, ◌+◌, ◌*◌, ◌%◌, ◌≤◌, Bool, true, false, not, ◌&&◌, cond, eqb, List, [], ◌∷◌, ◌++◌, length, get_or, take, drop, Ok, Err, Result, sym, refl, ap, ◌∙◌, subst, arith, append_assoc}
use Rattle.std.specs.List.{list_all}
use Rattle.std.proofs.lemmas.Bool.{le-leb, eq-eqb, eqb-false, and_from, cond-true, not-true}
use Rattle.terms.specs.Points.{point_number}
use Rattle.terms.specs.Refusals.{refusal_number}
use Rattle.terms.specs.declared.refusal.Refusal.{Refusal}
use Rattle.terms.specs.declared.refusal.Refusal.TheVariants.{PointTwice, ArgumentLength}
use Rattle.terms.proofs.Numbered.{point_exists}
use Rattle.frame.specs.Limits.{item_size, longest_argument, most_items}
use Rattle.frame.specs.Items.{mode_number, is_mode, item_bytes, spelt, is_item, some_twice}
use Rattle.frame.specs.Format.{items_length, items_fault}
use Rattle.frame.specs.Steps.{Checks}
use Rattle.frame.specs.declared.item.Mode.{Mode}
use Rattle.frame.specs.declared.item.Item.{Item}

mode_exists : (m : Mode) → is_mode (mode_number m) ≡ true
mode_exists m = grind arith

pub item_exists : (x : Item) → is_item (point_number x.point, mode_number x.mode) ≡ true
item_exists x = and_from _ _ (point_exists x.point) (mode_exists x.mode)

items_exist : (xs : List Item) → list_all is_item (spelt (item_bytes xs)) ≡ true
items_exist [] = refl
items_exist (x ∷ xs) = and_from _ _ (item_exists x) (items_exist xs)

pub length_item_bytes : (xs : List Item) → length (item_bytes xs) ≡ 2 * length xs
length_item_bytes [] = refl
length_item_bytes (x ∷ xs) = let more = length_item_bytes xs in omega arith

-- of items that are there and not too many, only a point that comes twice is a fault
items_twice : (xs : List Item) → length xs ≤ most_items → 1 ≤ length xs → items_fault (item_bytes xs) ≡ cond (some_twice (spelt (item_bytes xs))) (refusal_number PointTwice) 0
items_twice xs few some =
    let size = length_item_bytes xs in
    let right : items_length (item_bytes xs) ≡ true = and_from _ _ (and_from _ _ (le-leb 2 (length (item_bytes xs)) (omega arith)) (le-leb (length (item_bytes xs)) longest_argument (omega arith))) (eq-eqb (length (item_bytes xs) % item_size) 0 (omega arith)) in
    cond-true _ _ _ right ∙ cond-true _ _ _ (items_exist xs)

-- what was asked and answered by Ok holds
asked : (holds : Bool) (e : Refusal) (r : Result (Unit {0}) Refusal) (v : Unit {0}) → r ≡ cond holds (Ok tt) (Err e) → r ≡ Ok v → holds ≡ true
asked true e r v h o = refl
asked false e r v h o = absurd (let z : ◌≡◌ {A = Result (Unit {0}) Refusal} (Err e) (Ok v) = sym h ∙ o in cc)

by_twice : (twice : Bool) (f : ℕ) (r : Result (Unit {0}) Refusal) → f ≡ cond twice (refusal_number PointTwice) 0 → r ≡ cond twice (Err PointTwice) (Ok tt) → Checks f r
by_twice true f r e h = subst (Checks f) (sym h) e
by_twice false f r e h = subst (Checks f) (sym h) e

pub items_checked : (xs ys : List Item) (empty : Bool) (first r : Result (Unit {0}) Refusal) (v : Unit {0}) → ys ≡ xs → length ys ≤ most_items → empty ≡ eqb (length ys) 0 → first ≡ cond (not empty) (Ok tt) (Err ArgumentLength) → first ≡ Ok v → r ≡ cond (some_twice (spelt (item_bytes ys))) (Err PointTwice) (Ok tt) → Checks (items_fault (item_bytes xs)) r
items_checked xs ys empty first r v e few none a o h =
    let some : 1 ≤ length ys = omega (arith, eqb-false (length ys) 0 (sym none ∙ not-true empty (asked (not empty) ArgumentLength first v a o))) in
    by_twice (some_twice (spelt (item_bytes ys))) _ r (ap (λ l. items_fault (item_bytes l)) (sym e) ∙ items_twice ys few some) h

pub item_bytes_push : (xs : List Item) (x : Item) → item_bytes (xs ++ x ∷ []) ≡ item_bytes xs ++ point_number x.point ∷ mode_number x.mode ∷ []
item_bytes_push [] x = refl
item_bytes_push (y ∷ xs) x = ap (λ l. point_number y.point ∷ mode_number y.mode ∷ l) (item_bytes_push xs x)

first_two : (rest numbers others : List ℕ) → numbers ≡ take 2 rest → others ≡ drop 2 rest → length others + 2 ≡ length rest → rest ≡ get_or numbers 0 0 ∷ get_or numbers 1 0 ∷ others
first_two [] numbers others n o l = absurd (omega arith)
first_two (p ∷ []) numbers others n o l = absurd (omega arith)
first_two (p ∷ m ∷ rest) numbers others n o l = rw (n, o) refl

-- one more item is read
module _ (bytes rest numbers others : List ℕ) (xs ys : List Item) (x : Item) (n : numbers ≡ take 2 rest) (o : others ≡ drop 2 rest) (l : length others + 2 ≡ length rest) (pushed : ys ≡ xs ++ x ∷ []) (p : point_number x.point ≡ get_or numbers 0 0) (m : mode_number x.mode ≡ get_or numbers 1 0) where
  next : rest ≡ point_number x.point ∷ mode_number x.mode ∷ others
  next = first_two rest numbers others n o l ∙ (λ j. sym p j ∷ sym m j ∷ others)

  pub read_more : item_bytes xs ++ rest ≡ bytes → item_bytes ys ++ others ≡ bytes
  read_more read =
      ap (λ l. item_bytes l ++ others) pushed ∙ ap (λ l. l ++ others) (item_bytes_push xs x) ∙
      append_assoc (item_bytes xs) (point_number x.point ∷ mode_number x.mode ∷ []) others ∙ ap (λ l. item_bytes xs ++ l) (sym next) ∙ read

  pub left_more : list_all is_item (spelt rest) ≡ list_all is_item (spelt bytes) → list_all is_item (spelt others) ≡ list_all is_item (spelt bytes)
  left_more left = ap (λ b. b && list_all is_item (spelt others)) (sym (item_exists x)) ∙ ap (λ l. list_all is_item (spelt l)) (sym next) ∙ left
