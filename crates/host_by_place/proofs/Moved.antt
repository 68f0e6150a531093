-- A call that comes to a place or leaves it, on ports and circuits together.
use Rattle.std.specs.Prelude.{◌≡◌, ◌≢◌, ℕ, ◌+◌, ◌≤◌, true, false, if◌then◌else◌, nat_eq, nat_lt, Some, None, Option, refl}
use Rattle.std.proofs.Common.{sym, ap, ◌∙◌, arith}
use Rattle.std.proofs.lemmas.Bool.{eq-eqb, ne_eqb}
use Rattle.host.specs.declared.place.Place.{Place}
use Rattle.host.specs.declared.place.Place.TheVariants.{Port, Circuit}
use Rattle.host_by_place.specs.Places.{has_call, has_free, taking, times}
use Rattle.host_by_place.specs.AllPlaces.{AsMany, Leaves, Takes, has_free_on, place_of}
use Rattle.host_by_place.specs.declared.places.Places.{Places}
use Rattle.host_by_place.specs.declared.all_places.AllPlaces.{AllPlaces}
use Rattle.host_by_place.proofs.Seats.{any-count, one, taking_none, times_kept, times_left, times_taking}

-- the place of a call that is so many times on ports, and so many times on circuits
abbrev pub place_by : ℕ → ℕ → Option Place
place_by m n = if nat_lt 0 m then Some Port else (if nat_lt 0 n then Some Circuit else None)

pub place_of-times : (a : AllPlaces) (call : ℕ) → place_of a call ≡ place_by (times call a.ports.calls) (times call a.circuits.calls)
place_of-times a call = λ j. if any-count (has_call call) a.ports.calls j then Some Port else (if any-count (has_call call) a.circuits.calls j then Some Circuit else None)

-- how many times a call that is there is on ports, and on circuits
abbrev pub on_ports : Option Place → ℕ
on_ports None = 0
on_ports (Some Port) = 1
on_ports (Some Circuit) = 0

abbrev pub on_circuits : Option Place → ℕ
on_circuits None = 0
on_circuits (Some Port) = 0
on_circuits (Some Circuit) = 1

pub on_one : (place : Option Place) → on_ports place + on_circuits place ≤ 1
on_one None = omega arith
on_one (Some Port) = omega arith
on_one (Some Circuit) = omega arith

-- the call is then there, and every other stands where it stood
pub record Moves (old new : AllPlaces) (call : ℕ) (to : Option Place) : Type 0 where
  pub ports : times call new.ports.calls ≡ on_ports to
  pub circuits : times call new.circuits.calls ≡ on_circuits to
  pub beside_ports : (other : ℕ) → other ≢ call → times other new.ports.calls ≡ times other old.ports.calls
  pub beside_circuits : (other : ℕ) → other ≢ call → times other new.circuits.calls ≡ times other old.circuits.calls
  pub totals : AsMany old new

module _ (old new : AllPlaces) (call : ℕ) where
  pub moved_to : (to : Option Place) → Moves old new call to → place_of new call ≡ to
  moved_to to m = place_of-times new call ∙ (λ j. place_by (m.ports j) (m.circuits j)) ∙ there to
    where
      there : (to : Option Place) → place_by (on_ports to) (on_circuits to) ≡ to
      there None = refl
      there (Some Port) = refl
      there (Some Circuit) = refl

  pub moved_beside : (to : Option Place) → Moves old new call to → (other : ℕ) → other ≢ call → place_of new other ≡ place_of old other
  moved_beside to m other d = place_of-times new other ∙ (λ j. place_by (m.beside_ports other d j) (m.beside_circuits other d j)) ∙ sym (place_of-times old other)

  pub left : Leaves old new call → Moves old new call None
  left l = record {
    ports = ap (times call) l.ports ∙ times_left old.ports.calls call;
    circuits = ap (times call) l.circuits ∙ times_left old.circuits.calls call;
    beside_ports = λ other d. ap (times other) l.ports ∙ times_kept old.ports.calls call other d;
    beside_circuits = λ other d. ap (times other) l.circuits ∙ times_kept old.circuits.calls call other d;
    totals = l.totals;
  }

  comes : (x : Places) → true ≡ has_free x.total x.calls → (other : ℕ) → times other (taking call x.total x.calls) ≡ one (nat_eq call other) + times other x.calls
  comes x f other = times_taking x.total x.calls x.kept call other ∙ (λ j. (if sym f j then one (nat_eq call other) else 0) + times other x.calls)

  here : one (nat_eq call call) ≡ 1
  here = ap one (eq-eqb call call refl)

  beside : (other : ℕ) → other ≢ call → one (nat_eq call other) ≡ 0
  beside other d = ap one (ne_eqb call other (λ e. d (sym e)))

  -- a call that was on no place, and takes one
  pub took : (place : Place) → times call old.ports.calls ≡ 0 → times call old.circuits.calls ≡ 0 → true ≡ has_free_on old place → Takes old new call place → Moves old new call (Some place)
  took Port p c f k = record {
    ports = omega (arith, ap (times call) k.ports, comes old.ports f call, here, p);
    circuits = ap (times call) k.circuits ∙ c;
    beside_ports = λ other d. omega (arith, ap (times other) k.ports, comes old.ports f other, beside other d);
    beside_circuits = λ other d. ap (times other) k.circuits;
    totals = k.totals;
  }
  took Circuit p c f k = record {
    ports = ap (times call) k.ports ∙ p;
    circuits = omega (arith, ap (times call) k.circuits, comes old.circuits f call, here, c);
    beside_ports = λ other d. ap (times other) k.ports;
    beside_circuits = λ other d. omega (arith, ap (times other) k.circuits, comes old.circuits f other, beside other d);
    totals = k.totals;
  }

  -- a call that found no such place free
  pub refused : (place : Place) → false ≡ has_free_on old place → Takes old new call place → (new.ports.calls ≡ old.ports.calls) × (new.circuits.calls ≡ old.circuits.calls)
  refused Port f k = (k.ports ∙ taking_none old.ports.total old.ports.calls call (sym f), k.circuits)
  refused Circuit f k = (k.ports, k.circuits ∙ taking_none old.circuits.total old.circuits.calls call (sym f))
