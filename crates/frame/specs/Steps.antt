-- What the steps of the reader and the writer promise each other.
use Rattle.std.specs.Prelude.{◌≡◌, ℕ, List, ◌++◌, length, drop, Some, Ok, Err, Option, Result, slice_index}
use Rattle.terms.specs.declared.refusal.Refusal.{Refusal}
use Rattle.terms.specs.Refusals.{refusal_number}
use Rattle.frame.specs.Operations.{argument, code_in}
use Rattle.frame.specs.Format.{argument_fault, code_byte, content_fault, head_fault}
use Rattle.frame.specs.declared.code.Code.{Code}
use Rattle.frame.specs.declared.operation.Frame.{Frame}

-- an answer to what may have a fault: a value of which P holds, or the refusal with the fault's number
abbrev pub GivesOr : {V : Type 0} → ℕ → (V → Type 0) → Result V Refusal → Type 0
GivesOr f P (Ok v) = P v
GivesOr f P (Err e) = f ≡ refusal_number e

-- the same where there is nothing to give: no fault, or the fault
abbrev pub Checks : ℕ → Result (Unit {0}) Refusal → Type 0
Checks f r = GivesOr f (λ _. f ≡ 0) r

-- of the head of a frame: one that is right leaves the fault to the argument, one that is wrong has it whatever the argument
abbrev pub ChecksHead : ℕ → Option Code → ℕ → Result Code Refusal → Type 0
ChecksHead d o i (Ok k) = (o ≡ Some k) × ((arg : List ℕ) → content_fault d o i arg ≡ argument_fault k arg)
ChecksHead d o i (Err e) = (arg : List ℕ) → content_fault d o i arg ≡ refusal_number e

-- bytes put at the front of a buffer: how many, and what the buffer then holds
abbrev pub Puts : List ℕ → List ℕ → ℕ → List ℕ → Type 0
Puts bytes out n after = (n ≡ length bytes) × (after ≡ bytes ++ drop n out)

-- reading what stands behind the length, of a head and an argument
abbrev pub Contains : List ℕ → List ℕ → Result Frame Refusal → Type 0
Contains head arg (Ok f) =
    (head_fault head arg ≡ 0) × (f.dialogue ≡ slice_index head 3) × (f.invoke ≡ slice_index head 5) ×
    (code_byte (code_in f.operation) ≡ slice_index head 4) × (argument f.operation ≡ arg)
Contains head arg (Err e) = head_fault head arg ≡ refusal_number e
