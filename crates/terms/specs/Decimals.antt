-- Decimal digits, as ASCII bytes.
use Rattle.std.specs.Prelude.{ℕ, Bool, ◌&&◌, List, length, nat_le}
use Rattle.std.specs.List.{list_all}
use Rattle.terms.specs.Ranges.{within}

-- at most this many digits
abbrev pub most_digits : ℕ
most_digits = 15

abbrev pub is_digit : ℕ → Bool
is_digit b = within 48 57 b

-- whether a list of bytes is a number of digits that the exchange keeps
abbrev pub are_digits : List ℕ → Bool
are_digits bs = nat_le (length bs) most_digits && list_all is_digit bs
