-- Ports and circuits together: on which place each call is, and how it comes and leaves.
use Rattle.std.specs.Prelude.{◌≡◌, ℕ, ◌+◌, ◌≤◌, Bool, false, if◌then◌else◌, List, map, replicate, Some, None, Option, slice_index_or}
use Rattle.host.specs.Meaning.{most_places}
use Rattle.host.specs.declared.place.Place.{Place}
use Rattle.host.specs.declared.place.Place.TheVariants.{Port, Circuit}
use Rattle.host_by_place.specs.Places.{has_free, is_on, taking, times, without}
use Rattle.host_by_place.specs.declared.all_places.AllPlaces.{AllPlaces}

-- the place that a call is on, if it is on one
abbrev pub place_of : AllPlaces → ℕ → Option Place
place_of a call = if is_on call a.ports.calls then Some Port else (if is_on call a.circuits.calls then Some Circuit else None)

-- of what is said of ports and of circuits, that of such a place
abbrev pub of_place : {X : Type 0} → Place → X → X → X
of_place Port ports circuits = ports
of_place Circuit ports circuits = circuits

-- whether such a place is free
abbrev pub has_free_on : AllPlaces → Place → Bool
has_free_on a place = of_place place (has_free a.ports.total a.ports.calls) (has_free a.circuits.total a.circuits.calls)

-- no call is on a place
pub record AllFree (a : AllPlaces) : Type 0 where
  pub ports : a.ports.calls ≡ replicate most_places None
  pub circuits : a.circuits.calls ≡ replicate most_places None

-- the places are as many as before
pub record AsMany (old new : AllPlaces) : Type 0 where
  pub ports : new.ports.total ≡ old.ports.total
  pub circuits : new.circuits.total ≡ old.circuits.total

-- the call leaves its place, if it is on one
pub record Leaves (old new : AllPlaces) (call : ℕ) : Type 0 where
  pub ports : new.ports.calls ≡ map (without call) old.ports.calls
  pub circuits : new.circuits.calls ≡ map (without call) old.circuits.calls
  pub totals : AsMany old new

-- the call takes the first such place that is free, if there is one
pub record Takes (old new : AllPlaces) (call : ℕ) (place : Place) : Type 0 where
  pub ports : new.ports.calls ≡ of_place place (taking call old.ports.total old.ports.calls) old.ports.calls
  pub circuits : new.circuits.calls ≡ of_place place old.circuits.calls (taking call old.circuits.total old.circuits.calls)
  pub totals : AsMany old new

-- each call is on one port or one circuit or held on neither, if at all
abbrev pub Apart : AllPlaces → List Bool → Type 0
Apart a held = (call : ℕ) → times call a.ports.calls + times call a.circuits.calls + (if slice_index_or held call false then 1 else 0) ≤ 1
