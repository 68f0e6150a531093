-- What decoding promises.
use Rattle.std.specs.Prelude.{◌≡◌, ℕ, ◌*◌, ◌%◌, ◌<◌, ◌≤◌, true, false, List, ◌++◌, length, take, drop, Ok, Err, Result, slice_index}
use Rattle.std.specs.List.{list_all}
use Rattle.hexadecimal.specs.Text.{bytes_of, is_hex_digit}
use Rattle.hexadecimal.specs.declared.fault.HexFault.{HexFault}
use Rattle.hexadecimal.specs.declared.fault.HexFault.TheVariants.{TooLong, Character, Odd}

-- the first character that is no digit stands at this place
abbrev pub FirstOther : List ℕ → ℕ → Type 0
FirstOther text at = (at < length text) × (is_hex_digit (slice_index text at) ≡ false) × (list_all is_hex_digit (take at text) ≡ true)

-- decoding a text into a buffer: the bytes that it spells in front of what stood behind them; a fault leaves all as it was
abbrev pub Decodes : List ℕ → List ℕ → Result ℕ HexFault → List ℕ → Type 0
Decodes text out (Ok n) after =
    (length text ≤ 2 * length out) × (list_all is_hex_digit text ≡ true) × (length text ≡ 2 * n) × (after ≡ bytes_of text ++ drop n out)
Decodes text out (Err TooLong) after = (2 * length out < length text) × (after ≡ out)
Decodes text out (Err (Character at)) after = (length text ≤ 2 * length out) × FirstOther text at × (after ≡ out)
Decodes text out (Err Odd) after =
    (length text ≤ 2 * length out) × (list_all is_hex_digit text ≡ true) × (length text % 2 ≡ 1) × (after ≡ out)
