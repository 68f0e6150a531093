-- One reading: two operations of one number and one argument are the same, and so are two frames of the same bytes.
use Rattle.std.proofs.Common.{◌≡◌, ℕ, ◌/◌, ◌%◌, ◌≤◌, List, [], ◌∷◌, length, get_or, drop, Some, None, Option, sym, refl, ap, ◌∙◌, subst, arith, lit≤}
use Rattle.terms.specs.Points.{point_number}
use Rattle.terms.specs.declared.digits.Digits.{Digits}
use Rattle.terms.specs.declared.error_code.ErrorCode.{ErrorCode}
use Rattle.terms.proofs.Numbered.{point_same, error_same}
use Rattle.terms.proofs.Tested.{list_same, list_short, digits_same, digits_few}
use Rattle.frame.specs.Limits.{longest_argument}
use Rattle.frame.specs.Items.{mode_number, item_bytes, blank_alone}
use Rattle.frame.specs.Operations.{code_at, code_in, argument, items_in, address_bytes}
use Rattle.frame.specs.Format.{code_byte, wire}
use Rattle.frame.specs.declared.item.Item.{Item}
use Rattle.frame.specs.declared.item.Mode.{Mode}
use Rattle.frame.specs.declared.items.Items.{Items}
use Rattle.frame.specs.declared.code.Code.{Code}
use Rattle.frame.specs.declared.code.Code.TheVariants as C
use Rattle.frame.specs.declared.operation.Operation.{Operation}
use Rattle.frame.specs.declared.operation.Operation.TheVariants as O
use Rattle.frame.specs.declared.operation.Frame.{Frame}
use Rattle.frame.proofs.Spelling.{length_item_bytes}

mode_same : (m n : Mode) → mode_number m ≡ mode_number n → m ≡ n
mode_same m n e = grind arith

item_same : (x y : Item) → point_number x.point ≡ point_number y.point → mode_number x.mode ≡ mode_number y.mode → x ≡ y
item_same x y p m =
    let a = point_same x.point y.point p in
    let b = mode_same x.mode y.mode m in
    λ j. record { point = a j; mode = b j }

item_bytes_same : (xs ys : List Item) → item_bytes xs ≡ item_bytes ys → xs ≡ ys
item_bytes_same [] [] e = refl
item_bytes_same [] (y ∷ ys) e = absurd (let l = ap length e in omega arith)
item_bytes_same (x ∷ xs) [] e = absurd (let l = ap length e in omega arith)
item_bytes_same (x ∷ xs) (y ∷ ys) e =
    let p : point_number x.point ≡ point_number y.point = cc in
    let m : mode_number x.mode ≡ mode_number y.mode = cc in
    let r : item_bytes xs ≡ item_bytes ys = cc in
    λ j. item_same x y p m j ∷ item_bytes_same xs ys r j

items_same : (a b : Items) → item_bytes (items_in a) ≡ item_bytes (items_in b) → a ≡ b
items_same a b e = let s = list_same blank_alone a.items b.items (item_bytes_same _ _ e) in λ j. record { items = s j }

address_same : (a b : Digits) → address_bytes a ≡ address_bytes b → a ≡ b
address_same a b e = digits_same a b (cc)

-- what an operation of a code holds
abbrev Held : Option Code → Type 0
Held (Some C.InitialDpError) = ErrorCode
Held (Some C.EstablishTemporaryConnection) = Digits
Held (Some C.DisconnectForwardConnection) = Unit {0}
Held (Some C.ConnectToResource) = Unit {0}
Held (Some C.Connect) = Digits
Held (Some C.ReleaseCall) = ℕ
Held (Some C.RequestReportBcsmEvent) = Items
Held (Some C.CollectInformation) = Unit {0}
Held (Some C.Continue) = Unit {0}
Held (Some C.ResetTimer) = ℕ
Held (Some C.ApplyCharging) = Unit {0}
Held (Some C.CallInformationRequest) = Unit {0}
Held (Some C.Cancel) = Unit {0}
Held (Some C.ActivityTest) = Unit {0}
Held None = Unit {0}

abbrev make : (k : Option Code) → Held k → Operation
make (Some C.InitialDpError) x = O.InitialDpError x
make (Some C.EstablishTemporaryConnection) x = O.EstablishTemporaryConnection x
make (Some C.DisconnectForwardConnection) x = O.DisconnectForwardConnection
make (Some C.ConnectToResource) x = O.ConnectToResource
make (Some C.Connect) x = O.Connect x
make (Some C.ReleaseCall) x = O.ReleaseCall x
make (Some C.RequestReportBcsmEvent) x = O.RequestReportBcsmEvent x
make (Some C.CollectInformation) x = O.CollectInformation
make (Some C.Continue) x = O.Continue
make (Some C.ResetTimer) x = O.ResetTimer x
make (Some C.ApplyCharging) x = O.ApplyCharging
make (Some C.CallInformationRequest) x = O.CallInformationRequest
make (Some C.Cancel) x = O.Cancel
make (Some C.ActivityTest) x = O.ActivityTest
make None x = O.Unknown

held : (p : Operation) → (x : Held (code_in p)) × (make (code_in p) x ≡ p)
held (O.InitialDpError x) = (x, refl)
held (O.EstablishTemporaryConnection x) = (x, refl)
held O.DisconnectForwardConnection = (tt, refl)
held O.ConnectToResource = (tt, refl)
held (O.Connect x) = (x, refl)
held (O.ReleaseCall x) = (x, refl)
held (O.RequestReportBcsmEvent x) = (x, refl)
held O.CollectInformation = (tt, refl)
held O.Continue = (tt, refl)
held (O.ResetTimer x) = (x, refl)
held O.ApplyCharging = (tt, refl)
held O.CallInformationRequest = (tt, refl)
held O.Cancel = (tt, refl)
held O.ActivityTest = (tt, refl)
held O.Unknown = (tt, refl)

held_same : (k : Option Code) (x y : Held k) → argument (make k x) ≡ argument (make k y) → x ≡ y
held_same (Some C.InitialDpError) x y e = error_same x y (cc)
held_same (Some C.EstablishTemporaryConnection) x y e = address_same x y e
held_same (Some C.DisconnectForwardConnection) x y e = refl
held_same (Some C.ConnectToResource) x y e = refl
held_same (Some C.Connect) x y e = address_same x y e
held_same (Some C.ReleaseCall) x y e = cc
held_same (Some C.RequestReportBcsmEvent) x y e = items_same x y e
held_same (Some C.CollectInformation) x y e = refl
held_same (Some C.Continue) x y e = refl
held_same (Some C.ResetTimer) x y e = let h : x / 256 ≡ y / 256 = cc in let l : x % 256 ≡ y % 256 = cc in omega arith
held_same (Some C.ApplyCharging) x y e = refl
held_same (Some C.CallInformationRequest) x y e = refl
held_same (Some C.Cancel) x y e = refl
held_same (Some C.ActivityTest) x y e = refl
held_same None x y e = refl

of_code_same : (k l : Option Code) (e : k ≡ l) (x : Held k) (y : Held l) → argument (make k x) ≡ argument (make l y) → make k x ≡ make l y
of_code_same k l e x =
    subst (λ (m : Option Code). (y : Held m) → argument (make k x) ≡ argument (make m y) → make k x ≡ make m y) e (λ y h. ap (make k) (held_same k x y h))

operation_same : (p q : Operation) → code_in p ≡ code_in q → argument p ≡ argument q → p ≡ q
operation_same p q e h =
    let x = held p in
    let y = held q in
    sym x.1 ∙ of_code_same (code_in p) (code_in q) e x.0 y.0 (ap argument x.1 ∙ h ∙ sym (ap argument y.1)) ∙ y.1

-- an operation's byte names it
pub named : (k : Option Code) → code_at (code_byte k) ≡ k
named (Some C.InitialDpError) = refl
named (Some C.EstablishTemporaryConnection) = refl
named (Some C.DisconnectForwardConnection) = refl
named (Some C.ConnectToResource) = refl
named (Some C.Connect) = refl
named (Some C.ReleaseCall) = refl
named (Some C.RequestReportBcsmEvent) = refl
named (Some C.CollectInformation) = refl
named (Some C.Continue) = refl
named (Some C.ResetTimer) = refl
named (Some C.ApplyCharging) = refl
named (Some C.CallInformationRequest) = refl
named (Some C.Cancel) = refl
named (Some C.ActivityTest) = refl
named None = refl

pub wire_same : (f g : Frame) → wire f ≡ wire g → f ≡ g
wire_same f g e =
    let d : f.dialogue ≡ g.dialogue = ap (λ l. get_or l 3 0) e in
    let i : f.invoke ≡ g.invoke = ap (λ l. get_or l 5 0) e in
    let b : code_byte (code_in f.operation) ≡ code_byte (code_in g.operation) = ap (λ l. get_or l 4 0) e in
    let a : argument f.operation ≡ argument g.operation = ap (drop 6) e in
    let k = sym (named (code_in f.operation)) ∙ ap code_at b ∙ named (code_in g.operation) in
    let o = operation_same f.operation g.operation k a in
    λ j. record { dialogue = d j; invoke = i j; operation = o j }

address_short : (a : Digits) → length (address_bytes a) ≤ longest_argument
address_short a = let l = digits_few a in omega arith

items_short : (a : Items) → length (item_bytes (items_in a)) ≤ longest_argument
items_short a = omega (arith, list_short a.items, length_item_bytes (items_in a))

-- no argument is longer than there is room for
pub argument_short : (p : Operation) → length (argument p) ≤ longest_argument
argument_short (O.InitialDpError x) = lit≤ tt
argument_short (O.EstablishTemporaryConnection x) = address_short x
argument_short O.DisconnectForwardConnection = lit≤ tt
argument_short O.ConnectToResource = lit≤ tt
argument_short (O.Connect x) = address_short x
argument_short (O.ReleaseCall x) = lit≤ tt
argument_short (O.RequestReportBcsmEvent x) = items_short x
argument_short O.CollectInformation = lit≤ tt
argument_short O.Continue = lit≤ tt
argument_short (O.ResetTimer x) = lit≤ tt
argument_short O.ApplyCharging = lit≤ tt
argument_short O.CallInformationRequest = lit≤ tt
argument_short O.Cancel = lit≤ tt
argument_short O.ActivityTest = lit≤ tt
argument_short O.Unknown = lit≤ tt
