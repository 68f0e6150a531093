-- The modes of calls by where they stand.
use Rattle.std.specs.Prelude.{◌≡◌, ◌≢◌, ℕ, ◌+◌, ◌<◌, ◌≤◌, Bool, true, false, ◌&&◌, if◌then◌else◌, List, length, map, count_by, is_some, nat_lt, Some, None, Option, slice_index_or, slice_set, replicate, refl}
use Rattle.std.proofs.Common.{sym, ap, ◌∙◌, subst, ⊎_elim, arith}
use Rattle.std.proofs.lemmas.List.{get_or_past, get_or-set_same, get_or-set_other, length-map, length-set, map-set}
use Rattle.std.proofs.lemmas.Bool.{cases_eq, cases_lt, false≢true}
use Rattle.host.specs.Modes.{same_mode}
use Rattle.host.specs.Places.{mode_on}
use Rattle.host.specs.Meaning.{HostMeaning, call_count, can_join, in_mode, mode_of}
use Rattle.host.specs.declared.mode.Mode.{Mode}
use Rattle.host.specs.declared.mode.Mode.TheVariants.{NotHeld, Held}
use Rattle.host.specs.declared.order.Order.{Order}
use Rattle.host.specs.declared.place.Place.{Place}
use Rattle.host.specs.declared.place.Place.TheVariants.{Port, Circuit}
use Rattle.host_by_place.specs.Places.{is_on, listing, listing_length, times}
use Rattle.host_by_place.specs.AllPlaces.{AllFree, Apart, Takes, has_free_on, of_place, place_of}
use Rattle.host_by_place.specs.ByPlace.{by_place, mode_at, standing}
use Rattle.host_by_place.specs.declared.all_places.AllPlaces.{AllPlaces}
use Rattle.host_by_place.specs.declared.table.Call.{Call}
use Rattle.host_by_place.specs.declared.table.PlaceTable.{PlaceTable}
use Rattle.host_by_place.proofs.Listed.{listing_at, listing_set, in_mode_sum, sum}
use Rattle.host_by_place.proofs.Moved.{Moves, moved_beside, moved_to, on_circuits, on_ports, place_by, place_of-times, refused}
use Rattle.host_by_place.proofs.Seats.{has_free-count, one, taken_sum}

abbrev meaning : List Mode → List (Option Order) → ℕ → ℕ → HostMeaning
meaning ms os p c = record { modes = ms; orders = os; ports = p; circuits = c }

-- meanings are equal where their parts are
pub alike : {ms ns : List Mode} {os qs : List (Option Order)} {p q c d : ℕ} → ms ≡ ns → os ≡ qs → p ≡ q → c ≡ d → meaning ms os p c ≡ meaning ns qs q d
alike m o p c = λ i. meaning (m i) (o i) (p i) (c i)

-- a call whose mode is held is marked as held
held_at : (place : Option Place) (held : Bool) → same_mode (mode_at place held) Held ≡ true → held ≡ true
held_at None true e = refl
held_at None false e = absurd (false≢true e)
held_at (Some Port) held e = absurd (false≢true e)
held_at (Some Circuit) held e = absurd (false≢true e)

-- how often a call counts as one on such a place
counted : (place : Place) (m n : ℕ) (held : Bool) → m + n ≤ 1 → one (same_mode (mode_at (place_by m n) held) (mode_on place)) ≡ of_place place m n
counted place m n held l =
    ⊎_elim
    (λ (p : m ≡ 0). ⊎_elim (λ (q : n ≡ 0). rw (p, q) (nowhere place held)) (λ d. let q : n ≡ 1 = omega arith in rw (p, q) (circuit place held)) (cases_eq n 0))
    (λ d.
    let p : m ≡ 1 = omega arith in
    let q : n ≡ 0 = omega arith in
    rw (p, q) (port place held))
    (cases_eq m 0)
  where
    nowhere : (place : Place) (held : Bool) → one (same_mode (mode_at None held) (mode_on place)) ≡ of_place place 0 0
    nowhere Port true = refl
    nowhere Port false = refl
    nowhere Circuit true = refl
    nowhere Circuit false = refl

    port : (place : Place) (held : Bool) → one (same_mode (mode_at (Some Port) held) (mode_on place)) ≡ of_place place 1 0
    port Port held = refl
    port Circuit held = refl

    circuit : (place : Place) (held : Bool) → one (same_mode (mode_at (Some Circuit) held) (mode_on place)) ≡ of_place place 0 1
    circuit Port held = refl
    circuit Circuit held = refl

-- no call on a place, none held
pub none_stands : (places : AllPlaces) → AllFree places → listing call_count (λ call. mode_at (place_of places call) (slice_index_or (replicate call_count false) call false)) ≡ replicate call_count NotHeld
unfolding listing
none_stands places free = rw (free.ports, free.circuits) refl

module _ (t : PlaceTable) where
  abbrev flags : List Bool
  flags = map (λ c. c.held) t.calls

  flags_long : length flags ≡ call_count
  flags_long = length-map t.calls (λ c. c.held) ∙ t.whole

  -- the mode that the list of all modes has for a call, in range or not
  pub listed : (call : ℕ) → mode_of (by_place t) call ≡ standing t call
  listed call =
      ⊎_elim
      (λ b. listing_at call_count (standing t) call NotHeld b)
      (λ b.
      let nowhere = place_of-times t.places call ∙ (λ j. place_by (t.places.ports.kept.in_range call b j) (t.places.circuits.kept.in_range call b j)) in
      let idle = get_or_past flags call false (omega (arith, flags_long)) in
      get_or_past (listing call_count (standing t)) call NotHeld (omega (arith, listing_length call_count (standing t))) ∙ (λ j. mode_at (sym nowhere j) (sym idle j)))
      (cases_lt call call_count)

  -- the calls on such places are as many as the places that have a call
  on_places : (place : Place) → in_mode (mode_on place) (listing call_count (standing t)) ≡ of_place place (count_by is_some t.places.ports.calls) (count_by is_some t.places.circuits.calls)
  on_places place = in_mode_sum (mode_on place) call_count (standing t) ∙ (λ j. sum call_count (λ call. each call j)) ∙ taken place
    where
      each : (call : ℕ) → one (same_mode (standing t call) (mode_on place)) ≡ of_place place (times call t.places.ports.calls) (times call t.places.circuits.calls)
      each call =
          (λ j. one (same_mode (mode_at (place_of-times t.places call j) (slice_index_or flags call false)) (mode_on place)))
          ∙ counted place (times call t.places.ports.calls) (times call t.places.circuits.calls) (slice_index_or flags call false) (omega (arith, t.apart call))

      taken : (place : Place) → sum call_count (λ call. of_place place (times call t.places.ports.calls) (times call t.places.circuits.calls)) ≡ of_place place (count_by is_some t.places.ports.calls) (count_by is_some t.places.circuits.calls)
      taken Port = taken_sum call_count t.places.ports.calls t.places.ports.kept.in_range
      taken Circuit = taken_sum call_count t.places.circuits.calls t.places.circuits.kept.in_range

  -- a call that is held
  module _ (call : ℕ) (e : true ≡ same_mode (mode_of (by_place t) call) Held) where
    marked : slice_index_or flags call false ≡ true
    marked = held_at _ _ (ap (λ m. same_mode m Held) (sym (listed call)) ∙ sym e)

    pub held_nowhere : (times call t.places.ports.calls ≡ 0) × (times call t.places.circuits.calls ≡ 0)
    held_nowhere = (omega (arith, t.apart call, ap one marked), omega (arith, t.apart call, ap one marked))

    pub held_in_range : call < call_count
    held_in_range =
        ⊎_elim
        (λ b. b)
        (λ b. absurd (false≢true (sym (get_or_past flags call false (omega (arith, flags_long))) ∙ marked)))
        (cases_lt call call_count)

    -- it can join where such a place is free
    pub joins : (place : Place) {free : Bool} → free ≡ has_free_on t.places place → free ≡ can_join (by_place t) call place
    joins Port f =
        f ∙ has_free-count t.places.ports.total t.places.ports.calls t.places.ports.kept
        ∙ ap (λ n. nat_lt n t.places.ports.total) (sym (on_places Port))
        ∙ ap (λ b. b && nat_lt (in_mode (mode_on Port) (listing call_count (standing t))) t.places.ports.total) e
    joins Circuit f =
        f ∙ has_free-count t.places.circuits.total t.places.circuits.calls t.places.circuits.kept
        ∙ ap (λ n. nat_lt n t.places.circuits.total) (sym (on_places Circuit))
        ∙ ap (λ b. b && nat_lt (in_mode (mode_on Circuit) (listing call_count (standing t))) t.places.circuits.total) e

  -- a call moves, and its entry is written anew
  module _ (call : ℕ) (to : Option Place) (entry : Call) (places' : AllPlaces) (calls' : List Call) (m : Moves t.places places' call to) (p : calls' ≡ slice_set t.calls call entry) where
    flags_set : map (λ c. c.held) calls' ≡ slice_set flags call entry.held
    flags_set = ap (map (λ c. c.held)) p ∙ map-set (λ c. c.held) t.calls call entry

    here : call < call_count → slice_index_or (map (λ c. c.held) calls') call false ≡ entry.held
    here b = ap (λ hs. slice_index_or hs call false) flags_set ∙ get_or-set_same flags call entry.held false (omega (arith, flags_long))

    beside : (other : ℕ) → other ≢ call → slice_index_or (map (λ c. c.held) calls') other false ≡ slice_index_or flags other false
    beside other d = ap (λ hs. slice_index_or hs other false) flags_set ∙ get_or-set_other flags call other entry.held false d

    pub moved : meaning (listing call_count (λ c. mode_at (place_of places' c) (slice_index_or (map (λ c. c.held) calls') c false))) (map (λ c. c.order) calls') places'.ports.total places'.circuits.total ≡ meaning (slice_set (listing call_count (standing t)) call (mode_at to entry.held)) (slice_set (map (λ c. c.order) t.calls) call entry.order) t.places.ports.total t.places.circuits.total
    moved =
        alike
        (listing_set call_count (standing t) _ call (mode_at to entry.held) (λ b. λ j. mode_at (moved_to t.places places' call to m j) (here b j)) (λ other d. λ j. mode_at (moved_beside t.places places' call to m other d j) (beside other d j)))
        (ap (map (λ c. c.order)) p ∙ map-set (λ c. c.order) t.calls call entry)
        m.totals.ports m.totals.circuits

    pub moved_long : length calls' ≡ call_count
    moved_long = ap length p ∙ length-set t.calls call entry ∙ t.whole

    pub moved_apart : on_ports to + on_circuits to + one entry.held ≤ 1 → Apart places' (map (λ c. c.held) calls')
    moved_apart few other =
        ⊎_elim
        (λ s. subst (λ n. times n places'.ports.calls + times n places'.circuits.calls + one (slice_index_or (map (λ c. c.held) calls') n false) ≤ 1) (sym s) (omega (arith, m.ports, m.circuits, few, marked_at)))
        (λ d. omega (arith, t.apart other, m.beside_ports other d, m.beside_circuits other d, ap one (beside other d)))
        (cases_eq other call)
      where
        marked_at : one (slice_index_or (map (λ c. c.held) calls') call false) ≤ one entry.held
        marked_at =
            ⊎_elim
            (λ b. omega (arith, ap one (here b)))
            (λ b. omega (arith, ap one (get_or_past (map (λ c. c.held) calls') call false (omega (arith, length-map calls' (λ c. c.held), moved_long)))))
            (cases_lt call call_count)

  -- a call that found no such place free
  module _ (call : ℕ) (place : Place) (places' : AllPlaces) (f : false ≡ has_free_on t.places place) (k : Takes t.places places' call place) where
    same : (places'.ports.calls ≡ t.places.ports.calls) × (places'.circuits.calls ≡ t.places.circuits.calls)
    same = refused t.places places' call place f k

    pub stays : meaning (listing call_count (λ c. mode_at (place_of places' c) (slice_index_or flags c false))) (map (λ c. c.order) t.calls) places'.ports.total places'.circuits.total ≡ by_place t
    stays =
        alike
        (λ j. listing call_count (λ c. mode_at (if is_on c (same.0 j) then Some Port else (if is_on c (same.1 j) then Some Circuit else None)) (slice_index_or flags c false)))
        refl k.totals.ports k.totals.circuits

    pub stays_apart : Apart places' flags
    stays_apart other = omega (arith, t.apart other, ap (times other) same.0, ap (times other) same.1)
