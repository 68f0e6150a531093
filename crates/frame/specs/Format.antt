-- The format of a frame: the bytes of each, and the first fault of a list of bytes, as the number of its refusal; 0 is no fault.
use Rattle.std.specs.Prelude.{ℕ, ◌+◌, ◌*◌, ◌/◌, ◌%◌, Bool, if◌then◌else◌, ◌&&◌, List, ◌∷◌, length, take, drop, Some, None, Option, ◌==◌, nat_le, slice_index}
use Rattle.terms.specs.Ranges.{within}
use Rattle.std.specs.List.{list_all}
use Rattle.terms.specs.Decimals.{is_digit, most_digits}
use Rattle.terms.specs.ErrorCodes.{is_error_code}
use Rattle.terms.specs.Refusals.{refusal_number}
use Rattle.terms.specs.declared.refusal.Refusal.TheVariants as R
use Rattle.frame.specs.Limits.{version, head_size, longest_frame, longest_argument, last_dialogue, last_invoke, last_cause, most_ticks, item_size}
use Rattle.frame.specs.Items.{spelt, is_item, some_twice}
use Rattle.frame.specs.Operations.{code_number, code_at, code_in, argument}
use Rattle.frame.specs.declared.code.Code.{Code}
use Rattle.frame.specs.declared.code.Code.TheVariants as C
use Rattle.frame.specs.declared.operation.Frame.{Frame}

-- the byte of an operation; 256, which is no byte, for one outside the table
abbrev pub code_byte : Option Code → ℕ
code_byte None = 256
code_byte (Some k) = code_number k

-- the length that a frame with this argument carries: it counts what follows it
abbrev pub carried : List ℕ → ℕ
carried arg = 4 + length arg

-- the bytes of a frame
abbrev pub wire : Frame → List ℕ
wire f =
    (carried (argument f.operation) / 256) ∷ (carried (argument f.operation) % 256) ∷ version ∷ f.dialogue ∷
    code_byte (code_in f.operation) ∷ f.invoke ∷ argument f.operation

-- arguments: first the length, then the values, then that no point comes twice
abbrev pub none_fault : List ℕ → ℕ
none_fault arg = if length arg == 0 then 0 else refusal_number R.ArgumentLength

abbrev pub error_fault : List ℕ → ℕ
error_fault arg =
    if length arg == 1 then (if is_error_code (slice_index arg 0) then 0 else refusal_number R.Value)
    else refusal_number R.ArgumentLength

abbrev pub cause_fault : List ℕ → ℕ
cause_fault arg =
    if length arg == 1 then (if within 1 last_cause (slice_index arg 0) then 0 else refusal_number R.Value)
    else refusal_number R.ArgumentLength

abbrev pub ticks_fault : List ℕ → ℕ
ticks_fault arg =
    if length arg == 2 then (if within 1 most_ticks (256 * slice_index arg 0 + slice_index arg 1) then 0 else refusal_number R.Value)
    else refusal_number R.ArgumentLength

-- a count from 1 to 15 and as many digits
abbrev pub address_length : List ℕ → Bool
address_length arg = within 2 (1 + most_digits) (length arg) && slice_index arg 0 + 1 == length arg

abbrev pub address_fault : List ℕ → ℕ
address_fault arg =
    if address_length arg then (if list_all is_digit (drop 1 arg) then 0 else refusal_number R.Value)
    else refusal_number R.ArgumentLength

abbrev pub items_length : List ℕ → Bool
items_length arg = within item_size longest_argument (length arg) && length arg % item_size == 0

abbrev pub items_fault : List ℕ → ℕ
items_fault arg =
    if items_length arg then
    (if list_all is_item (spelt arg) then (if some_twice (spelt arg) then refusal_number R.PointTwice else 0)
    else refusal_number R.Value)
    else refusal_number R.ArgumentLength

abbrev pub argument_fault : Code → List ℕ → ℕ
argument_fault C.InitialDpError arg = error_fault arg
argument_fault C.EstablishTemporaryConnection arg = address_fault arg
argument_fault C.DisconnectForwardConnection arg = none_fault arg
argument_fault C.ConnectToResource arg = none_fault arg
argument_fault C.Connect arg = address_fault arg
argument_fault C.ReleaseCall arg = cause_fault arg
argument_fault C.RequestReportBcsmEvent arg = items_fault arg
argument_fault C.CollectInformation arg = none_fault arg
argument_fault C.Continue arg = none_fault arg
argument_fault C.ResetTimer arg = ticks_fault arg
argument_fault C.ApplyCharging arg = none_fault arg
argument_fault C.CallInformationRequest arg = none_fault arg
argument_fault C.Cancel arg = none_fault arg
argument_fault C.ActivityTest arg = none_fault arg

-- from the operation on
abbrev pub operation_fault : Option Code → ℕ → List ℕ → ℕ
operation_fault None invoke arg = refusal_number R.Operation
operation_fault (Some k) invoke arg = if nat_le invoke last_invoke then argument_fault k arg else refusal_number R.Invoke

-- from the dialogue on
abbrev pub content_fault : ℕ → Option Code → ℕ → List ℕ → ℕ
content_fault dialogue k invoke arg =
    if nat_le dialogue last_dialogue then operation_fault k invoke arg else refusal_number R.Dialogue

-- from the version on
abbrev pub version_fault : ℕ → ℕ → ℕ → ℕ → List ℕ → ℕ
version_fault v dialogue n invoke arg =
    if v == version then content_fault dialogue (code_at n) invoke arg else refusal_number R.Version

-- whether a list of bytes has a frame's length, and carries it
abbrev pub frame_length : List ℕ → Bool
frame_length bs = within head_size longest_frame (length bs) && 256 * slice_index bs 0 + slice_index bs 1 + 2 == length bs

-- the first fault behind the length, of a head and an argument
abbrev pub head_fault : List ℕ → List ℕ → ℕ
head_fault head arg = version_fault (slice_index head 2) (slice_index head 3) (slice_index head 4) (slice_index head 5) arg

-- the first fault of a list of bytes
abbrev pub fault : List ℕ → ℕ
fault bs = if frame_length bs then head_fault (take head_size bs) (drop head_size bs) else refusal_number R.FrameLength

-- the first fault of a frame that is to be written
abbrev pub frame_fault : Frame → ℕ
frame_fault f = content_fault f.dialogue (code_in f.operation) f.invoke (argument f.operation)
