-- Short lists and digits are named by their elements: equal elements, equal values.
use Rattle.std.proofs.Common.{◌≡◌, ℕ, ◌≤◌, Bool, true, List, length, ap, subst, arith}
use Rattle.std.proofs.Math.Bool.{Bool-set}
use Rattle.std.proofs.lemmas.Bool.{and_parts, leb-true, eqb-true}
use Rattle.std.proofs.lemmas.List.{length-take-le}
use Rattle.terms.specs.Padding.{padded}
use Rattle.terms.specs.ShortLists.{elements}
use Rattle.terms.specs.Decimals.{are_digits, most_digits}
use Rattle.terms.specs.Digits.{ascii}
use Rattle.terms.specs.declared.short_list.ShortList.{ShortList}
use Rattle.terms.specs.declared.short_list.Blank.{Ghosts}
use Rattle.terms.specs.declared.digits.Digits.{Digits}
use Rattle.terms.proofs.Padded.{padded_parts, padded_same}

-- values made of what passes a test are equal where that is: the proof of the test does not matter
made_same : {X V : Type 0} (test : X → Bool) (make : (x : X) → test x ≡ true → V) (x y : X) → x ≡ y → (p : test x ≡ true) (q : test y ≡ true) → make x p ≡ make y q
made_same {X} test make x y e p q = subst (λ (z : X). (q : test z ≡ true) → make x p ≡ make z q) e (λ q. ap (make x) (Bool-set _ _ p q)) q

module _ {T : Type 0} {N : ℕ} {g : Ghosts T} where
  pub list_same : ((x : T) → g.is_blank x ≡ true → x ≡ g.blank) → (s t : ShortList T N g) → elements s ≡ elements t → s ≡ t
  list_same alone s t e =
      let h = padded_same g.is_blank g.blank alone N s.count t.count s.places t.places s.kept t.kept e in
      made_same (λ (x : ℕ × List T). padded g.is_blank N x.0 x.1) (λ x kept. record { count = x.0; places = x.1; kept = kept }) (s.count, s.places) (t.count, t.places) (λ j. (h.0 j, h.1 j)) s.kept t.kept

  pub list_short : (s : ShortList T N g) → length (elements s) ≤ N
  list_short s =
      let p = padded_parts g.is_blank N s.count s.places s.kept in
      omega (arith, p.0, p.1, length-take-le s.count s.places (omega (arith, p.0, p.1)))

pub digits_same : (d e : Digits) → ascii d ≡ ascii e → d ≡ e
digits_same d e h = made_same (λ s. are_digits (elements s)) (λ s decimal. record { digits = s; decimal = decimal }) d.digits e.digits (list_same (λ n b. eqb-true n 0 b) d.digits e.digits h) d.decimal e.decimal

pub digits_few : (d : Digits) → length (ascii d) ≤ most_digits
digits_few d = leb-true _ _ (and_parts _ _ d.decimal).0
