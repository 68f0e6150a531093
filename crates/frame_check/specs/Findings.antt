-- What the tool finds out about some bytes.
use Rattle.std.specs.Prelude.{◌≡◌, ℕ, true, List, Ok, Err, Result}
use Rattle.terms.specs.declared.refusal.Refusal.{Refusal}
use Rattle.frame.specs.Promises.{Reads}
use Rattle.frame_check.specs.declared.Finding.{Finding}

-- the frame that they are, which is always the same bytes when it is written again; or the reader's refusal
abbrev pub Finds : List ℕ → Result Finding Refusal → Type 0
Finds bs (Ok x) = Reads bs (Ok x.frame) × (x.same ≡ true)
Finds bs (Err e) = Reads bs (Err e)
