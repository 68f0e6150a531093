-- Every number is in time, after each change as before.
use Rattle.std.proofs.Common.{◌≡◌, ℕ, true, List, map, length, slice_set, slice_index_or, Some, None, Option, refl, ap, ⊎_elim, arith}
use Rattle.std.proofs.lemmas.List.{get_or_past, length-map, map-set}
use Rattle.std.proofs.lemmas.List.Elements.{All-get_or, All-map, All-set, All-weaker}
use Rattle.std.proofs.lemmas.List.Sums.{AllPass-from_list_all, list_all-from_AllPass}
use Rattle.std.proofs.lemmas.Bool.{cases_lt}
use Rattle.std.proofs.lemmas.Bool.Decides.{nat_tests}
use Rattle.std.specs.List.{All, list_all}
use Rattle.clock.specs.Meaning.{in_time, one_tick_less}

abbrev InTime : Option ℕ → Type 0
InTime t = in_time t ≡ true

less_in_time : (t : Option ℕ) → InTime t → InTime (one_tick_less t)
less_in_time (Some k) e = grind (arith, nat_tests)
less_in_time None e = refl

module _ (times : List (Option ℕ)) (e : list_all in_time times ≡ true) where
  each_in_time : All InTime times
  each_in_time = AllPass-from_list_all in_time times e

  pub in_time-set : (n : ℕ) (time : Option ℕ) → in_time time ≡ true → list_all in_time (slice_set times n time) ≡ true
  in_time-set n time h = list_all-from_AllPass in_time _ (All-set InTime times n time h each_in_time)

  pub in_time-map : list_all in_time (map one_tick_less times) ≡ true
  in_time-map =
      list_all-from_AllPass in_time _
      (All-map InTime one_tick_less times (All-weaker InTime (λ t. InTime (one_tick_less t)) less_in_time times each_in_time))

  -- whatever the number
  pub in_time-at : (n : ℕ) → in_time (slice_index_or times n None) ≡ true
  in_time-at n =
      ⊎_elim (λ l. All-get_or InTime times n None l each_in_time)
      (λ l. ap in_time (get_or_past times n None l)) (cases_lt n (length times))

-- what a change of one number, or of all of them, comes to
pub ruleset changes = (in_time-set, in_time-map, map-set, length-map)
