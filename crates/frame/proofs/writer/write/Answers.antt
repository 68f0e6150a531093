use Rattle.std.proofs.Common.{Ok, ◌∙◌}
use Rattle.std.proofs.lemmas.Bool.{le-leb, cond-true}
use Rattle.frame.specs.Limits.{longest_frame}
use Rattle.frame.proofs.Ties.{reads_back}
use Rattle.frame.proofs.writer.write.Goals as goal

pub returns-clause-one_reading : goal.returns-clause-one_reading
returns-clause-one_reading c =
    let room = cond-true _ _ _ (le-leb longest_frame _ c.if-out-lt-LONGEST_FRAME.false) in
    reads_back c.args.frame.now c.args.out.now c.put.new.out (Ok c.put.result) (room ∙ c.in_ok-code.ensures.1, c.put.ensures.puts.0, c.put.ensures.puts.1)
