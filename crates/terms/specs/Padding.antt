-- A short list in an array of fixed size: a count says how many elements are meant, and those behind them are blank.
use Rattle.std.specs.Prelude.{ℕ, Bool, ◌&&◌, List, length, drop, ◌==◌, nat_le}
use Rattle.std.specs.List.{list_all}

abbrev pub padded : {X : Type 0} → (X → Bool) → ℕ → ℕ → List X → Bool
padded blank size count xs = length xs == size && (nat_le count size && list_all blank (drop count xs))
