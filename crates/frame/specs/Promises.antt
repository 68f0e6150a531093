-- What the reader and the writer promise.
use Rattle.std.specs.Prelude.{◌≡◌, ℕ, if◌then◌else◌, List, ◌++◌, length, drop, Ok, Err, Result, nat_le}
use Rattle.terms.specs.declared.refusal.Refusal.{Refusal}
use Rattle.terms.specs.declared.refusal.Refusal.TheVariants as R
use Rattle.terms.specs.Refusals.{refusal_number}
use Rattle.frame.specs.Limits.{longest_frame}
use Rattle.frame.specs.Format.{fault, frame_fault, wire}
use Rattle.frame.specs.declared.operation.Frame.{Frame}

-- reading: the frame whose bytes these are, where they have no fault; else the first fault
abbrev pub Reads : List ℕ → Result Frame Refusal → Type 0
Reads bs (Ok f) = (fault bs ≡ 0) × (wire f ≡ bs)
Reads bs (Err e) = fault bs ≡ refusal_number e

-- the first fault of a frame that is to be written into so much room
abbrev pub write_fault : ℕ → Frame → ℕ
write_fault room f = if nat_le longest_frame room then frame_fault f else refusal_number R.Room

-- writing: the frame's bytes in front of what stood behind them; a refusal leaves all as it was
abbrev pub Writes : Frame → List ℕ → Result ℕ Refusal → List ℕ → Type 0
Writes f out (Ok n) after = (write_fault (length out) f ≡ 0) × (n ≡ length (wire f)) × (after ≡ wire f ++ drop n out)
Writes f out (Err e) after = (write_fault (length out) f ≡ refusal_number e) × (after ≡ out)
