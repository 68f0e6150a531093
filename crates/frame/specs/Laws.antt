-- What ties the writer to the reader: a frame has one reading and one spelling.
use Rattle.std.specs.Prelude.{◌≡◌, ℕ, ◌≤◌, List, length, take, Ok, Result}
use Rattle.terms.specs.declared.refusal.Refusal.{Refusal}
use Rattle.frame.specs.Limits.{longest_frame}
use Rattle.frame.specs.Promises.{Reads, Writes}
use Rattle.frame.specs.declared.operation.Frame.{Frame}

-- however these bytes are read, they are this frame
abbrev pub ReadsOnlyAs : List ℕ → Frame → Type 0
ReadsOnlyAs bs f = (r : Result Frame Refusal) → Reads bs r → r ≡ Ok f

-- wherever there is room, this frame is written as these bytes
abbrev pub WrittenOnlyAs : Frame → List ℕ → Type 0
WrittenOnlyAs f bs =
    (out after : List ℕ) (r : Result ℕ Refusal) → longest_frame ≤ length out → Writes f out r after →
    (r ≡ Ok (length bs)) × (take (length bs) after ≡ bs)
