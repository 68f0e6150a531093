-- The operations: the number and the name of each, and the bytes of its argument.
use Rattle.std.specs.Prelude.{ℕ, ◌/◌, ◌%◌, if◌then◌else◌, List, [], ◌∷◌, length, Some, None, codes, Option, ◌==◌}
use Rattle.terms.specs.declared.digits.Digits.{Digits}
use Rattle.terms.specs.Digits.{ascii}
use Rattle.terms.specs.ShortLists.{elements}
use Rattle.terms.specs.ErrorCodes.{error_number}
use Rattle.frame.specs.Items.{item_bytes}
use Rattle.frame.specs.declared.item.Item.{Item}
use Rattle.frame.specs.declared.items.Items.{Items}
use Rattle.frame.specs.declared.code.Code.{Code}
use Rattle.frame.specs.declared.code.Code.TheVariants as C
use Rattle.frame.specs.declared.operation.Operation.{Operation}
use Rattle.frame.specs.declared.operation.Operation.TheVariants as O

abbrev pub code_number : Code → ℕ
code_number C.InitialDpError = 0
code_number C.EstablishTemporaryConnection = 17
code_number C.DisconnectForwardConnection = 18
code_number C.ConnectToResource = 19
code_number C.Connect = 20
code_number C.ReleaseCall = 22
code_number C.RequestReportBcsmEvent = 23
code_number C.CollectInformation = 27
code_number C.Continue = 31
code_number C.ResetTimer = 33
code_number C.ApplyCharging = 35
code_number C.CallInformationRequest = 45
code_number C.Cancel = 53
code_number C.ActivityTest = 55

-- every operation
abbrev pub operations : List Code
operations =
    C.InitialDpError ∷ C.EstablishTemporaryConnection ∷ C.DisconnectForwardConnection ∷ C.ConnectToResource ∷ C.Connect ∷
    C.ReleaseCall ∷ C.RequestReportBcsmEvent ∷ C.CollectInformation ∷ C.Continue ∷ C.ResetTimer ∷ C.ApplyCharging ∷
    C.CallInformationRequest ∷ C.Cancel ∷ C.ActivityTest ∷ []

-- the operation of a number among some
abbrev pub numbered : ℕ → List Code → Option Code
numbered n [] = None
numbered n (k ∷ ks) = if n == code_number k then Some k else numbered n ks

-- the operation of a number, if there is one
abbrev pub code_at : ℕ → Option Code
code_at n = numbered n operations

-- which operation this is; none where it stands for one outside the table
abbrev pub code_in : Operation → Option Code
code_in (O.InitialDpError e) = Some C.InitialDpError
code_in (O.EstablishTemporaryConnection a) = Some C.EstablishTemporaryConnection
code_in O.DisconnectForwardConnection = Some C.DisconnectForwardConnection
code_in O.ConnectToResource = Some C.ConnectToResource
code_in (O.Connect a) = Some C.Connect
code_in (O.ReleaseCall v) = Some C.ReleaseCall
code_in (O.RequestReportBcsmEvent xs) = Some C.RequestReportBcsmEvent
code_in O.CollectInformation = Some C.CollectInformation
code_in O.Continue = Some C.Continue
code_in (O.ResetTimer t) = Some C.ResetTimer
code_in O.ApplyCharging = Some C.ApplyCharging
code_in O.CallInformationRequest = Some C.CallInformationRequest
code_in O.Cancel = Some C.Cancel
code_in O.ActivityTest = Some C.ActivityTest
code_in O.Unknown = None

-- the operation's name in the trade
abbrev pub operation_name : Operation → List ℕ
operation_name (O.InitialDpError e) = codes "error to InitialDP"
operation_name (O.EstablishTemporaryConnection a) = codes "EstablishTemporaryConnection"
operation_name O.DisconnectForwardConnection = codes "DisconnectForwardConnection"
operation_name O.ConnectToResource = codes "ConnectToResource"
operation_name (O.Connect a) = codes "Connect"
operation_name (O.ReleaseCall v) = codes "ReleaseCall"
operation_name (O.RequestReportBcsmEvent xs) = codes "RequestReportBCSMEvent"
operation_name O.CollectInformation = codes "CollectInformation"
operation_name O.Continue = codes "Continue"
operation_name (O.ResetTimer t) = codes "ResetTimer"
operation_name O.ApplyCharging = codes "ApplyCharging"
operation_name O.CallInformationRequest = codes "CallInformationRequest"
operation_name O.Cancel = codes "Cancel"
operation_name O.ActivityTest = codes "ActivityTest"
operation_name O.Unknown = codes "unknown operation"

-- an address: how many digits, then the digits
abbrev pub address_bytes : Digits → List ℕ
address_bytes a = length (ascii a) ∷ ascii a

-- the items that are meant
abbrev pub items_in : Items → List Item
items_in xs = elements xs.items

abbrev pub argument : Operation → List ℕ
argument (O.InitialDpError e) = error_number e ∷ []
argument (O.EstablishTemporaryConnection a) = address_bytes a
argument O.DisconnectForwardConnection = []
argument O.ConnectToResource = []
argument (O.Connect a) = address_bytes a
argument (O.ReleaseCall v) = v ∷ []
argument (O.RequestReportBcsmEvent xs) = item_bytes (items_in xs)
argument O.CollectInformation = []
argument O.Continue = []
argument (O.ResetTimer t) = (t / 256) ∷ (t % 256) ∷ []
argument O.ApplyCharging = []
argument O.CallInformationRequest = []
argument O.Cancel = []
argument O.ActivityTest = []
argument O.Unknown = []
