-- What the host by place means.
use Rattle.std.specs.Prelude.{ℕ, Bool, false, if◌then◌else◌, map, Some, None, Option, slice_index_or, slice_set}
use Rattle.host.specs.Meaning.{HostMeaning, call_count}
use Rattle.host.specs.Places.{mode_on}
use Rattle.host.specs.declared.mode.Mode.{Mode}
use Rattle.host.specs.declared.mode.Mode.TheVariants.{NotHeld, Held}
use Rattle.host.specs.declared.order.Order.{Order}
use Rattle.host.specs.declared.place.Place.{Place}
use Rattle.host_by_place.specs.Places.{listing}
use Rattle.host_by_place.specs.AllPlaces.{place_of}
use Rattle.host_by_place.specs.declared.table.PlaceTable.{PlaceTable}

-- the mode of a call by the place that it is on, and where it is on none by whether it is held
abbrev pub mode_at : Option Place → Bool → Mode
mode_at (Some place) held = mode_on place
mode_at None held = if held then Held else NotHeld

-- where a call stands
abbrev pub standing : PlaceTable → ℕ → Mode
standing t call = mode_at (place_of t.places call) (slice_index_or (map (λ c. c.held) t.calls) call false)

abbrev pub by_place : PlaceTable → HostMeaning
by_place t = record { modes = listing call_count (standing t); orders = map (λ c. c.order) t.calls; ports = t.places.ports.total; circuits = t.places.circuits.total }

-- the call takes this mode, and this last order, or none
abbrev pub with_entry : HostMeaning → ℕ → Mode → Option Order → HostMeaning
with_entry h call m order = record { modes = slice_set h.modes call m; orders = slice_set h.orders call order; ports = h.ports; circuits = h.circuits }
