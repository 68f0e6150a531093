use Rattle.std.proofs.Common.{sym, ◌∙◌, arith}
use Rattle.frame.proofs.Ties.{can_be_written, one_spelling, to_reads}
use Rattle.frame.proofs.reader.read.Goals as goal

pub returns-in-Some : goal.returns-in-Some
returns-in-Some c =
    let bs = c.args.bytes.now in
    let two = c.in-Some.ensures.cases in
    let h = to_reads bs c.in-Some.head.now c.in-Some.argument.now two.0 two.1 (sym c.if-has_frame_length.true ∙ c.has_frame_length.ensures) (omega (arith, c.type_inv.bytes 1)) c.content.result c.content.ensures in
    record { reads = h; can_be_written = can_be_written bs _ h; one_spelling = one_spelling bs _ h }
