-- Calls on places: how often each stands there, and what a call that comes or leaves changes.
use Rattle.std.specs.Prelude.{◌≡◌, ◌≢◌, ℕ, suc, ◌+◌, ◌-◌, ◌<◌, ◌≤◌, Bool, true, false, if◌then◌else◌, not, ◌||◌, List, [], ◌∷◌, length, map, drop, take, replicate, count_by, position, nat_eq, nat_lt, is_none, is_some, Some, None, Option, slice_index_or, slice_set, refl}
use Rattle.std.specs.List.{list_any, position_or_len}
use Rattle.std.specs.Option.{option_map_or}
use Rattle.std.proofs.Common.{sym, ap, ◌∙◌, ⊎_elim, arith}
use Rattle.std.proofs.lemmas.List.{drop-map, drop-replicate, drop-set-lt, get_or-take, length-map, length-set, length-take-le}
use Rattle.std.proofs.lemmas.List.Folds.{fold-map, sum_by-replicate}
use Rattle.std.proofs.lemmas.List.Sums.{count_by-le-length, sum_by-cons, sum_by-le-sum_by, sum_by-set, sum_by-take-drop}
use Rattle.std.proofs.lemmas.List.Quantifiers.{position-Some}
use Rattle.std.proofs.lemmas.Bool.{cases_eq, cases_lt, eq-eqb, ne_eqb, eqb-true, false≢true, lt-ltb, le-ltb, cond-true}
use Rattle.host.specs.Meaning.{call_count, most_places}
use Rattle.host_by_place.specs.Places.{times, has_call, without, free_place, has_free, taking, Kept}
use Rattle.host_by_place.proofs.Listed.{sum, sum_none, sum_both, sum_one}

abbrev pub one : Bool → ℕ
one b = if b then 1 else 0

pub at_most_one : (b : Bool) → one b ≤ 1
at_most_one true = omega arith
at_most_one false = omega arith

-- some element passes where more than none do
pub any-count : {X : Type 0} (p : X → Bool) (xs : List X) → list_any p xs ≡ nat_lt 0 (count_by p xs)
any-count p [] = refl
any-count p (x ∷ xs) = step (p x) (list_any p xs) (count_by p xs) (any-count p xs) ∙ ap (nat_lt 0) (sym (sum_by-cons (λ y. one (p y)) x xs))
  where
    step : (b r : Bool) (n : ℕ) → r ≡ nat_lt 0 n → (b || r) ≡ nat_lt 0 (one b + n)
    step true r n e = sym (lt-ltb _ _ (omega arith))
    step false r n e = e ∙ ap (nat_lt 0) (omega arith)

-- a place that the call has left
left : (call : ℕ) (place : Option ℕ) → has_call call (without call place) ≡ false
left call place = step (has_call call place) refl
  where
    step : (b : Bool) → has_call call place ≡ b → has_call call (if b then None else place) ≡ false
    step true e = refl
    step false e = e

-- any other call is there as it was
kept_there : (call other : ℕ) (place : Option ℕ) → other ≢ call → has_call other (without call place) ≡ has_call other place
kept_there call other None d = refl
kept_there call other (Some on) d = step (nat_eq on call) refl
  where
    step : (b : Bool) → nat_eq on call ≡ b → has_call other (if b then None else Some on) ≡ nat_eq on other
    step true e = sym (ne_eqb on other (λ same. d (sym same ∙ eqb-true on call e)))
    step false e = refl

-- a call that left is on no place
pub times_left : (ps : List (Option ℕ)) (call : ℕ) → times call (map (without call) ps) ≡ 0
times_left ps call = fold-map (λ n p. n + one (has_call call p)) (without call) 0 ps ∙ (λ j. count_by (λ p. left call p j) ps) ∙ none_pass ps
  where
    none_pass : (ps : List (Option ℕ)) → count_by (λ p. false) ps ≡ 0
    none_pass [] = refl
    none_pass (p ∷ ps) = none_pass ps

-- and every other call stands where it stood
pub times_kept : (ps : List (Option ℕ)) (call other : ℕ) → other ≢ call → times other (map (without call) ps) ≡ times other ps
times_kept ps call other d = fold-map (λ n p. n + one (has_call other p)) (without call) 0 ps ∙ (λ j. count_by (λ p. kept_there call other p d j) ps)

-- a call that takes a free place
times_taken : (ps : List (Option ℕ)) (k call other : ℕ) → k < length ps → slice_index_or ps k None ≡ None → times other (slice_set ps k (Some call)) ≡ one (nat_eq call other) + times other ps
times_taken ps k call other l free = omega (arith, sum_by-set (λ p. one (has_call other p)) ps k (Some call) None l, ap (λ p. one (has_call other p)) free)

lt_suc : (m n : ℕ) → nat_lt m n ≡ nat_lt (1 + m) (suc n)
lt_suc m n =
    ⊎_elim
    (λ l. lt-ltb m n l ∙ sym (lt-ltb _ _ (omega arith)))
    (λ l. le-ltb m n l ∙ sym (le-ltb _ _ (omega arith)))
    (cases_lt m n)

-- some place is free where fewer have a call than there are
free-count : (ps : List (Option ℕ)) → list_any is_none ps ≡ nat_lt (count_by is_some ps) (length ps)
free-count [] = refl
free-count (None ∷ ps) = sym (lt-ltb _ _ (omega (arith, sum_by-cons (λ p. one (is_some p)) None ps, count_by-le-length is_some ps)))
free-count (Some c ∷ ps) = free-count ps ∙ lt_suc _ _ ∙ ap (λ n. nat_lt n (suc (length ps))) (sym (sum_by-cons (λ p. one (is_some p)) (Some c) ps))

-- the search for a place that passes finds one where there is one
pub any_position : {X : Type 0} (p : X → Bool) (xs : List X) → list_any p xs ≡ is_some (position p xs)
any_position p xs = sym (found (nat_lt (position_or_len p xs) (length xs)) (position_or_len p xs) ∙ within p xs)
  where
    found : (b : Bool) (n : ℕ) → is_some (if b then Some n else None) ≡ b
    found true n = refl
    found false n = refl

    step : (b : Bool) (m n : ℕ) (r : Bool) → nat_lt m n ≡ r → nat_lt (if not b then 1 + m else 0) (suc n) ≡ (b || r)
    step true m n r e = lt-ltb _ _ (omega arith)
    step false m n r e = sym (lt_suc m n) ∙ e

    within : {X : Type 0} (p : X → Bool) (xs : List X) → nat_lt (position_or_len p xs) (length xs) ≡ list_any p xs
    within p [] = refl
    within p (x ∷ xs) = step (p x) (position_or_len p xs) (length xs) (list_any p xs) (within p xs)

-- as many places have a call as calls below n are on one, where no other is
pub taken_sum : (n : ℕ) (ps : List (Option ℕ)) → ((call : ℕ) → n ≤ call → times call ps ≡ 0) → sum n (λ call. times call ps) ≡ count_by is_some ps
taken_sum n [] h = sum_none n
taken_sum n (p ∷ ps) h =
    let more : (call : ℕ) → times call (p ∷ ps) ≡ one (has_call call p) + times call ps = λ call. sum_by-cons (λ q. one (has_call call q)) p ps in
    let here = counted p (λ call l. omega (arith, h call l, more call)) in
    let rest = taken_sum n ps (λ call l. omega (arith, h call l, more call)) in
    (λ j. sum n (λ call. more call j)) ∙ (omega (arith, here, rest, sum_both n (λ call. one (has_call call p)) (λ call. times call ps), sum_by-cons (λ q. one (is_some q)) p ps))
  where
    counted : (p : Option ℕ) → ((call : ℕ) → n ≤ call → one (has_call call p) ≡ 0) → sum n (λ call. one (has_call call p)) ≡ one (is_some p)
    counted None h = sum_none n
    counted (Some c) h =
        ⊎_elim
        (λ l. sum_one n c l)
        (λ l. absurd (omega (arith, h c l, cond-true {A = ℕ} _ 1 0 (eq-eqb c c refl))))
        (cases_lt c n)

module _ (total : ℕ) (ps : List (Option ℕ)) (h : Kept total ps) where
  -- one of the places is free where fewer have a call than there are
  pub has_free-count : has_free total ps ≡ nat_lt (count_by is_some ps) total
  has_free-count =
      let long = length-take-le total ps (omega (arith, h.whole, h.few)) in
      let same : count_by is_some (take total ps) ≡ count_by is_some ps = omega (arith, sum_by-take-drop (λ p. one (is_some p)) ps total, h.rest_free) in
      free-count (take total ps) ∙ (λ j. nat_lt (same j) (long j))

  -- a call that left
  pub kept_without : (call : ℕ) → Kept total (map (without call) ps)
  kept_without call = record {
    whole = length-map ps (without call) ∙ h.whole;
    few = h.few;
    rest_free = ap (count_by is_some) (drop-map (without call) total ps) ∙ (omega (arith, fewer (drop total ps), h.rest_free));
    in_range = λ other l. ⊎_elim (λ e. ap (λ n. times n (map (without call) ps)) e ∙ times_left ps call) (λ d. times_kept ps call other d ∙ h.in_range other l) (cases_eq other call);
  }
    where
      step : (b : Bool) (p : Option ℕ) → one (is_some (if b then None else p)) ≤ one (is_some p)
      step true p = omega arith
      step false p = omega arith

      fewer : (qs : List (Option ℕ)) → count_by is_some (map (without call) qs) ≤ count_by is_some qs
      fewer qs = omega (arith, fold-map (λ n p. n + one (is_some p)) (without call) 0 qs, sum_by-le-sum_by (λ p. one (is_some (without call p))) (λ p. one (is_some p)) qs (λ p. step (has_call call p) p))

  -- a call that takes the first free place
  module _ (call k : ℕ) (free : free_place total ps ≡ Some k) where
    found : (k < total) × (slice_index_or ps k None ≡ None)
    found =
        let f = position-Some is_none (take total ps) k None free in
        let l : k < total = omega (arith, f.0, length-take-le total ps (omega (arith, h.whole, h.few))) in
        (l, none_there _ (ap is_none (sym (get_or-take total ps k None l)) ∙ f.1))
      where
        none_there : (p : Option ℕ) → is_none p ≡ true → p ≡ None
        none_there None e = refl
        none_there (Some c) e = absurd (false≢true e)

    times_joined : (other : ℕ) → times other (slice_set ps k (Some call)) ≡ one (nat_eq call other) + times other ps
    times_joined other = times_taken ps k call other (omega (arith, found.0, h.whole, h.few)) found.1

    pub kept_taken : call < call_count → Kept total (slice_set ps k (Some call))
    kept_taken c = record {
      whole = length-set ps k (Some call) ∙ h.whole;
      few = h.few;
      rest_free = ap (count_by is_some) (drop-set-lt total ps k (Some call) found.0) ∙ h.rest_free;
      in_range = λ other l. omega (arith, times_joined other, h.in_range other l, ap one (ne_eqb call other (λ e. omega arith)));
    }

  -- where a place is free, the call is on one more; each other call is on as many as before
  pub times_taking : (call other : ℕ) → times other (taking call total ps) ≡ (if has_free total ps then one (nat_eq call other) else 0) + times other ps
  times_taking call other = (λ j. go (free_place total ps) refl j) ∙ (λ j. (if sym (any_position is_none (take total ps)) j then one (nat_eq call other) else 0) + times other ps)
    where
      go : (o : Option ℕ) → free_place total ps ≡ o → times other (option_map_or (λ k. slice_set ps k (Some call)) o ps) ≡ (if is_some o then one (nat_eq call other) else 0) + times other ps
      go None e = omega arith
      go (Some k) e = times_joined call k e other

-- where none is free, the call changes nothing
pub taking_none : (total : ℕ) (ps : List (Option ℕ)) (call : ℕ) → has_free total ps ≡ false → taking call total ps ≡ ps
taking_none total ps call f = go (free_place total ps) (sym (any_position is_none (take total ps)) ∙ f)
  where
    go : (o : Option ℕ) → is_some o ≡ false → option_map_or (λ k. slice_set ps k (Some call)) o ps ≡ ps
    go None e = refl
    go (Some k) e = absurd (false≢true (sym e))

pub kept_new : (total : ℕ) → total ≤ most_places → Kept total (replicate most_places None)
kept_new total l = record {
  whole = refl;
  few = l;
  rest_free = ap (count_by is_some) (drop-replicate total most_places None) ∙ sum_by-replicate (λ p. one (is_some p)) (most_places - total) None ∙ (omega arith);
  in_range = λ call h. refl;
}
