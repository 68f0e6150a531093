use Rattle.std.proofs.Common.{None, map, arith}
use Rattle.std.proofs.Math.ListN.{get_or-map}
use Rattle.clock.specs.Marks.{until_mark}
use Rattle.clock.proofs.Kept.{in_time-at}
use Rattle.clock.proofs.mark.MarkClockClock.left.Goals as goal

pub overflow_cast-result : goal.overflow_cast-result
overflow_cast-result c =
    let s = c.args.self.now in
    grind (arith, in_time-at (map (until_mark s.count) s.marks) s.ranged.1 c.args.number, get_or-map (until_mark s.count) s.marks c.args.number None)
