-- Bytes in capital hexadecimal, two digits to each.
use Rattle.std.specs.Prelude.{ℕ, ◌+◌, ◌-◌, ◌*◌, Bool, if◌then◌else◌, ◌||◌, List, [], ◌∷◌, nat_le}
use Rattle.terms.specs.Ranges.{within}

-- the digits 0 to 9 and A to F, as ASCII bytes
abbrev pub is_hex_digit : ℕ → Bool
is_hex_digit c = within 48 57 c || within 65 70 c

abbrev pub digit_value : ℕ → ℕ
digit_value c = if nat_le c 57 then c - 48 else c - 55

-- the bytes that a text spells
abbrev pub bytes_of : List ℕ → List ℕ
bytes_of [] = []
bytes_of (h ∷ []) = []
bytes_of (h ∷ l ∷ rest) = (16 * digit_value h + digit_value l) ∷ bytes_of rest
