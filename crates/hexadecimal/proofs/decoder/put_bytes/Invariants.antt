use Rattle.std.proofs.Common.{◌≡◌, true, ◌+◌, ◌*◌, ◌++◌, length, take, drop}
use Rattle.std.specs.List.{list_all}
use Rattle.hexadecimal.specs.Text.{bytes_of, is_hex_digit}
use Rattle.hexadecimal.proofs.decoder.put_bytes.Given as goal

abbrev pub invariant-loop-pair : goal.invariant-loop-pair
invariant-loop-pair l = record {
  digits : list_all is_hex_digit l.rest ≡ true;
  size : 2 * l.n + length l.rest ≡ length l.text;
  room : length l.out ≡ length l.initial.out;
  written : take l.n l.out ++ bytes_of l.rest ≡ bytes_of l.text;
  behind : drop l.n l.out ≡ drop l.n l.initial.out;
}

abbrev pub decreases-loop-pair : goal.decreases-loop-pair
decreases-loop-pair l = length l.rest
