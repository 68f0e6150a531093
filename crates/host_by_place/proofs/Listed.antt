-- Lists of what a function gives for the first numbers, and sums over them.
use Rattle.std.specs.Prelude.{◌≡◌, ◌≢◌, ℕ, zero, suc, ◌+◌, ◌<◌, if◌then◌else◌, ◌∷◌, nat_eq, slice_index_or, slice_set, refl}
use Rattle.std.proofs.Common.{zero-add, arith}
use Rattle.std.proofs.Math.Dec.{eqb-suc-suc, eqb-suc-zero, eqb-zero-suc}
use Rattle.std.proofs.lemmas.List.{set-set}
use Rattle.std.proofs.lemmas.List.Sums.{sum_by-cons}
use Rattle.host.specs.Modes.{same_mode}
use Rattle.host.specs.Meaning.{in_mode}
use Rattle.host_by_place.specs.Places.{listing}
use Rattle.host.specs.declared.mode.Mode.{Mode}

pub listing_at : {X : Type 0} (n : ℕ) (f : ℕ → X) (k : ℕ) (d : X) → k < n → slice_index_or (listing n f) k d ≡ f k
unfolding listing
listing_at zero f k d l = absurd (omega arith)
listing_at (suc n) f zero d l = refl
listing_at (suc n) f (suc k) d l = listing_at n (λ j. f (suc j)) k d (omega arith)

-- functions that differ at one number
pub listing_set : {X : Type 0} (n : ℕ) (f g : ℕ → X) (k : ℕ) (v : X) → (k < n → g k ≡ v) → ((j : ℕ) → j ≢ k → g j ≡ f j) → listing n g ≡ slice_set (listing n f) k v
unfolding listing
listing_set zero f g k v here rest = refl
listing_set (suc n) f g zero v here rest =
    let e = here (omega arith) in
    λ j. e j ∷ listing n (λ k. rest (suc k) (λ z. omega arith) j)
listing_set (suc n) f g (suc k) v here rest =
    let e = rest 0 (λ z. omega arith) in
    let r = listing_set n (λ k. f (suc k)) (λ k. g (suc k)) k v (λ l. here (omega arith)) (λ j d. rest (suc j) (λ z. d (omega arith))) in
    λ j. e j ∷ r j

unfoldable pub sum : ℕ → (ℕ → ℕ) → ℕ
sum zero f = 0
sum (suc n) f = f 0 + sum n (λ k. f (suc k))

pub sum_none : (n : ℕ) → sum n (λ k. 0) ≡ 0
unfolding sum
sum_none zero = refl
sum_none (suc n) = omega (arith, sum_none n)

pub sum_both : (n : ℕ) (f g : ℕ → ℕ) → sum n (λ k. f k + g k) ≡ sum n f + sum n g
unfolding sum
sum_both zero f g = refl
sum_both (suc n) f g = omega (arith, sum_both n (λ k. f (suc k)) (λ k. g (suc k)))

-- one number below n counts once
pub sum_one : (n c : ℕ) → c < n → sum n (λ k. if nat_eq c k then 1 else 0) ≡ 1
unfolding sum
sum_one zero c l = absurd (omega arith)
sum_one (suc n) zero l =
    let rest : sum n (λ k. if nat_eq 0 (suc k) then 1 else 0) ≡ 0 = simp eqb-zero-suc (sum_none n) in
    omega (arith, rest)
sum_one (suc n) (suc c) l = simp (eqb-suc-zero, eqb-suc-suc, zero-add) (sum_one n c (omega arith))

-- the calls in a mode are those of the first numbers that are in it
pub in_mode_sum : (m : Mode) (n : ℕ) (f : ℕ → Mode) → in_mode m (listing n f) ≡ sum n (λ k. if same_mode (f k) m then 1 else 0)
unfolding listing sum
in_mode_sum m zero f = refl
in_mode_sum m (suc n) f = omega (arith, in_mode_sum m n (λ k. f (suc k)), sum_by-cons (λ x. if same_mode x m then 1 else 0) (f 0) (listing n (λ k. f (suc k))))

-- what is set twice at one place holds the last; a must-fail edit that sets a call aside and then more goes by it
pub ruleset again = (set-set)
