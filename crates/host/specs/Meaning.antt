-- What a host means: the mode and the last order of each call, and how many ports and circuits there are.
use Rattle.std.specs.Prelude.{◌≡◌, ℕ, ◌≤◌, Bool, ◌&&◌, if◌then◌else◌, List, length, replicate, count_by, Some, None, Option, nat_lt, slice_index_or, slice_set}
use Rattle.host.specs.Modes.{same_mode}
use Rattle.host.specs.Places.{mode_on}
use Rattle.host.specs.declared.mode.Mode.{Mode}
use Rattle.host.specs.declared.mode.Mode.TheVariants.{NotHeld, Held}
use Rattle.host.specs.declared.order.Order.{Order}
use Rattle.host.specs.declared.place.Place.{Place}
use Rattle.host.specs.declared.place.Place.TheVariants.{Port, Circuit}

-- of each call in turn its mode and its last order, none where none was given; then the numbers of ports and circuits
pub record HostMeaning : Type 0 where
  pub modes : List Mode
  pub orders : List (Option Order)
  pub ports : ℕ
  pub circuits : ℕ

-- the calls of a host: 0 to 63
abbrev pub call_count : ℕ
call_count = 64

-- at most this many ports, and as many circuits
abbrev pub most_places : ℕ
most_places = 64

-- the ranges that every host keeps to
abbrev pub HostRanges : HostMeaning → Type 0
HostRanges h = (length h.modes ≡ call_count) × (length h.orders ≡ call_count) × (h.ports ≤ most_places) × (h.circuits ≤ most_places)

-- the mode of a call; not held where there is no such call
abbrev pub mode_of : HostMeaning → ℕ → Mode
mode_of h call = slice_index_or h.modes call NotHeld

-- the last order of a call; none where none was given or there is no such call
abbrev pub last_order : HostMeaning → ℕ → Option Order
last_order h call = slice_index_or h.orders call None

-- no call held, no order given
abbrev pub vacant : ℕ → ℕ → HostMeaning
vacant ports circuits = record { modes = replicate call_count NotHeld; orders = replicate call_count None; ports = ports; circuits = circuits }

-- cleared out; ports and circuits stay as many as they are
abbrev pub cleared : HostMeaning → HostMeaning
cleared h = vacant h.ports h.circuits

-- the call takes this mode, and its last order stays
abbrev pub with_mode : HostMeaning → ℕ → Mode → HostMeaning
with_mode h call m = record { modes = slice_set h.modes call m; orders = h.orders; ports = h.ports; circuits = h.circuits }

-- the call takes this mode on this order
abbrev pub with_order : HostMeaning → ℕ → Mode → Order → HostMeaning
with_order h call m order = record { modes = slice_set h.modes call m; orders = slice_set h.orders call (Some order); ports = h.ports; circuits = h.circuits }

-- a call held, on no port and no circuit
abbrev pub holding : HostMeaning → ℕ → HostMeaning
holding h call = with_mode h call Held

-- a call let go on this order
abbrev pub letting_go : HostMeaning → ℕ → Order → HostMeaning
letting_go h call order = with_order h call NotHeld order

-- how many calls are in this mode
abbrev pub in_mode : Mode → List Mode → ℕ
in_mode m modes = count_by (λ x. same_mode x m) modes

-- how many such places there are
abbrev pub total_of : HostMeaning → Place → ℕ
total_of h Port = h.ports
total_of h Circuit = h.circuits

-- whether a call can join: it is held, and of such places not all are in use
abbrev pub can_join : HostMeaning → ℕ → Place → Bool
can_join h call place = same_mode (mode_of h call) Held && nat_lt (in_mode (mode_on place) h.modes) (total_of h place)

-- a call that joins on this order, or all as it was where it cannot
abbrev pub joining : HostMeaning → ℕ → Place → Order → HostMeaning
joining h call place order = if can_join h call place then with_order h call (mode_on place) order else h
