-- What a `Digits` stands for: its ASCII bytes.
use Rattle.std.specs.Prelude.{ℕ, List}
use Rattle.terms.specs.ShortLists.{elements}
use Rattle.terms.specs.declared.digits.Digits.{Digits}

abbrev pub ascii : Digits → List ℕ
ascii d = elements d.digits
