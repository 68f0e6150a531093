use Rattle.std.proofs.Common.{None, sym, ◌∙◌, arith}
use Rattle.std.proofs.lemmas.List.{map-id}
use Rattle.clock.specs.Meaning.{one_tick_less}
use Rattle.terms.proofs.Replaced.{replaced_more, replaced_all}
use Rattle.clock.proofs.countdown.take_one_tick.Goals as goal

pub loop-time-preserved : goal.loop-time-preserved
loop-time-preserved c =
    replaced_more one_tick_less (λ t. t) _ c.loop-time.times c.loop-time.time-index c.loop-time.invariant None _ (omega arith) c.one_tick_less.ensures

pub returns : goal.returns
returns c =
    sym (map-id c.loop-time.times)
    ∙ replaced_all one_tick_less (λ t. t) _ c.loop-time.times c.loop-time.time-index c.loop-time.invariant (omega arith)
