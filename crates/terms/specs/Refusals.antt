-- Refusals: the number of each, and the error code that answers it.
use Rattle.std.specs.Prelude.{ℕ, List, Some, codes, Option}
use Rattle.terms.specs.declared.error_code.ErrorCode.{ErrorCode}
use Rattle.terms.specs.declared.error_code.ErrorCode.TheVariants.{MissingParameter, ParameterOutOfRange, SystemFailure, TaskRefused, UnexpectedDataValue}
use Rattle.terms.specs.declared.refusal.Refusal.{Refusal}
use Rattle.terms.specs.declared.refusal.Refusal.TheVariants as R

abbrev pub refusal_number : Refusal → ℕ
refusal_number R.Room = 1
refusal_number R.FrameLength = 2
refusal_number R.Version = 3
refusal_number R.Dialogue = 4
refusal_number R.Operation = 5
refusal_number R.Invoke = 6
refusal_number R.ArgumentLength = 7
refusal_number R.Value = 8
refusal_number R.PointTwice = 9

-- the error code of the answer to a refused frame; none for a refusal that no frame gets
abbrev pub refusal_error : Refusal → Option ErrorCode
refusal_error R.Room = Some SystemFailure
refusal_error R.FrameLength = Some TaskRefused
refusal_error R.Version = Some TaskRefused
refusal_error R.Dialogue = Some TaskRefused
refusal_error R.Operation = Some TaskRefused
refusal_error R.Invoke = Some TaskRefused
refusal_error R.ArgumentLength = Some MissingParameter
refusal_error R.Value = Some ParameterOutOfRange
refusal_error R.PointTwice = Some UnexpectedDataValue

-- what a person is told
abbrev pub refusal_meaning : Refusal → List ℕ
refusal_meaning R.Room = codes "too little room"
refusal_meaning R.FrameLength = codes "frame too short or too long, or its length field wrong"
refusal_meaning R.Version = codes "unknown version"
refusal_meaning R.Dialogue = codes "no such dialogue"
refusal_meaning R.Operation = codes "unknown operation"
refusal_meaning R.Invoke = codes "invoke number too high"
refusal_meaning R.ArgumentLength = codes "argument of the wrong length"
refusal_meaning R.Value = codes "argument value or digits not allowed"
refusal_meaning R.PointTwice = codes "detection point twice in one frame"
