-- Calls on places: for each port, or circuit, the call on it, or none.
use Rattle.std.specs.Prelude.{◌≡◌, ℕ, zero, suc, ◌≤◌, Bool, if◌then◌else◌, List, [], ◌∷◌, length, drop, take, count_by, position, Some, None, Option, is_none, is_some, nat_eq, slice_set, refl}
use Rattle.std.specs.List.{list_any}
use Rattle.std.specs.Option.{option_eq, option_map_or}
use Rattle.std.proofs.Common.{ap}
use Rattle.host.specs.Meaning.{call_count, most_places}

-- whether a place has the call
abbrev pub has_call : ℕ → Option ℕ → Bool
has_call call place = option_eq nat_eq place (Some call)

-- how many of the places have the call
abbrev pub times : ℕ → List (Option ℕ) → ℕ
times call ps = count_by (has_call call) ps

-- whether the call is on one of the places
abbrev pub is_on : ℕ → List (Option ℕ) → Bool
is_on call ps = list_any (has_call call) ps

-- a place that the call has left
abbrev pub without : ℕ → Option ℕ → Option ℕ
without call place = if has_call call place then None else place

-- the first free place below the total, if there is one
abbrev pub free_place : ℕ → List (Option ℕ) → Option ℕ
free_place total ps = position is_none (take total ps)

-- whether one of the places below the total is free
abbrev pub has_free : ℕ → List (Option ℕ) → Bool
has_free total ps = list_any is_none (take total ps)

-- the call takes the first free place, if there is one
abbrev pub taking : ℕ → ℕ → List (Option ℕ) → List (Option ℕ)
taking call total ps = option_map_or (λ k. slice_set ps k (Some call)) (free_place total ps) ps

-- what is kept of ports, or of circuits
pub record Kept (total : ℕ) (ps : List (Option ℕ)) : Type 0 where
  pub whole : length ps ≡ most_places
  pub few : total ≤ most_places
  -- those from the total on have no call
  pub rest_free : count_by is_some (drop total ps) ≡ 0
  -- none has a call above 63
  pub in_range : (call : ℕ) → call_count ≤ call → times call ps ≡ 0

-- what f gives for the first n numbers, from 0
unfoldable pub listing : {X : Type 0} → ℕ → (ℕ → X) → List X
listing zero f = []
listing (suc n) f = f 0 ∷ listing n (λ k. f (suc k))

-- a listing is as long as asked for
pub listing_length : {X : Type 0} (n : ℕ) (f : ℕ → X) → length (listing n f) ≡ n
unfolding listing
listing_length zero f = refl
listing_length (suc n) f = ap suc (listing_length n (λ k. f (suc k)))
