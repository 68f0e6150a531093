use Rattle.std.proofs.Common.{refl, sym, ◌∙◌, arith}
use Rattle.hexadecimal.proofs.Others.{some_other}
use Rattle.hexadecimal.proofs.decoder.decode.Goals as goal

pub returns-in-Some-clause-decodes : goal.returns-in-Some-clause-decodes
returns-in-Some-clause-decodes c = (omega (arith, c.div_ceil.ensures), some_other _ _ (sym c.first_other.ensures ∙ c.in-Some.is), refl)
