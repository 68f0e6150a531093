-- The first character that is no digit, by its place.
use Rattle.std.proofs.Common.{◌≡◌, ℕ, zero, suc, ◌+◌, ◌≤◌, Bool, true, false, not, cond, List, [], ◌∷◌, length, take, position, Some, None, refl, ap, ◌∙◌, sym, arith}
use Rattle.std.specs.List.{list_all, position_or_len}
use Rattle.std.proofs.lemmas.Bool.{and_from, not-true, ltb-false}
use Rattle.std.proofs.lemmas.List.{take_all}
use Rattle.std.proofs.lemmas.List.Quantifiers.{position-Some}
use Rattle.hexadecimal.specs.Text.{is_hex_digit}
use Rattle.hexadecimal.specs.Promises.{FirstOther}

one_more : (b : Bool) (n i : ℕ) → suc i ≤ cond (not (not b)) (1 + n) 0 → (b ≡ true) × (i ≤ n)
one_more true n i h = (refl, omega arith)
one_more false n i h = absurd (omega arith)

digits_before : (text : List ℕ) (i : ℕ) → i ≤ position_or_len (λ c. not (is_hex_digit c)) text → list_all is_hex_digit (take i text) ≡ true
digits_before text zero h = refl
digits_before [] (suc i) h = refl
digits_before (c ∷ text) (suc i) h = let m = one_more (is_hex_digit c) (position_or_len (λ c. not (is_hex_digit c)) text) i h in and_from _ _ m.0 (digits_before text i m.1)

found : (b : Bool) (n i : ℕ) → cond b (Some n) None ≡ Some i → n ≡ i
found true n i e = cc
found false n i e = cc

not_found : (b : Bool) (n : ℕ) → cond b (Some n) None ≡ None → b ≡ false
not_found true n e = cc
not_found false n e = refl

pub some_other : (text : List ℕ) (i : ℕ) → position (λ c. not (is_hex_digit c)) text ≡ Some i → FirstOther text i
some_other text i e =
    let h = position-Some _ text i 0 e in
    let at = found _ (position_or_len (λ c. not (is_hex_digit c)) text) i e in
    (h.0, not-true _ h.1, digits_before text i (omega (arith, at)))

pub no_other : (text : List ℕ) → position (λ c. not (is_hex_digit c)) text ≡ None → list_all is_hex_digit text ≡ true
no_other text e =
    let past : length text ≤ position_or_len (λ c. not (is_hex_digit c)) text = ltb-false _ _ (not_found _ (position_or_len (λ c. not (is_hex_digit c)) text) e) in
    ap (list_all is_hex_digit) (sym (take_all (length text) text (omega arith))) ∙ digits_before text (length text) past
