-- What an order says: the number of its kind, its cause, and its address as ASCII bytes.
use Rattle.std.specs.Prelude.{ℕ, List, []}
use Rattle.terms.specs.Digits.{ascii}
use Rattle.host.specs.declared.order.Order.{Order}
use Rattle.host.specs.declared.order.Order.TheVariants.{Continue, Connect, Collect, DefaultRoute, Clear, Resource, TemporaryConnection}

abbrev pub order_kind : Order → ℕ
order_kind Continue = 1
order_kind (Connect address) = 2
order_kind Collect = 3
order_kind DefaultRoute = 4
order_kind (Clear cause) = 5
order_kind Resource = 6
order_kind (TemporaryConnection address) = 7

abbrev pub order_cause : Order → ℕ
order_cause Continue = 0
order_cause (Connect address) = 0
order_cause Collect = 0
order_cause DefaultRoute = 0
order_cause (Clear cause) = cause
order_cause Resource = 0
order_cause (TemporaryConnection address) = 0

abbrev pub order_address : Order → List ℕ
order_address Continue = []
order_address (Connect address) = ascii address
order_address Collect = []
order_address DefaultRoute = []
order_address (Clear cause) = []
order_address Resource = []
order_address (TemporaryConnection address) = ascii address
