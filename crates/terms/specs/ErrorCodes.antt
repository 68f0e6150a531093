-- Error codes: the number and the name of each.
use Rattle.std.specs.Prelude.{ℕ, Bool, ◌||◌, List, codes}
use Rattle.terms.specs.Ranges.{within}
use Rattle.terms.specs.declared.error_code.ErrorCode.{ErrorCode}
use Rattle.terms.specs.declared.error_code.ErrorCode.TheVariants as E

abbrev pub error_number : ErrorCode → ℕ
error_number E.MissingCustomerRecord = 6
error_number E.MissingParameter = 7
error_number E.ParameterOutOfRange = 8
error_number E.SystemFailure = 11
error_number E.TaskRefused = 12
error_number E.UnexpectedComponentSequence = 14
error_number E.UnexpectedDataValue = 15
error_number E.UnexpectedParameter = 16

-- whether a number is that of an error code
abbrev pub is_error_code : ℕ → Bool
is_error_code n = within 6 8 n || (within 11 12 n || within 14 16 n)

-- the code's name in the trade
abbrev pub error_name : ErrorCode → List ℕ
error_name E.MissingCustomerRecord = codes "missingCustomerRecord"
error_name E.MissingParameter = codes "missingParameter"
error_name E.ParameterOutOfRange = codes "parameterOutOfRange"
error_name E.SystemFailure = codes "systemFailure"
error_name E.TaskRefused = codes "taskRefused"
error_name E.UnexpectedComponentSequence = codes "unexpectedComponentSequence"
error_name E.UnexpectedDataValue = codes "unexpectedDataValue"
error_name E.UnexpectedParameter = codes "unexpectedParameter"
