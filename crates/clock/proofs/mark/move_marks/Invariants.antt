use Rattle.std.proofs.Common.{◌≡◌, ◌++◌, map, take, drop}
use Rattle.clock.specs.Meaning.{one_tick_less}
use Rattle.clock.specs.Marks.{count_after, until_mark}
use Rattle.clock.proofs.mark.move_marks.Given as goal

abbrev pub invariant-loop-mark : goal.invariant-loop-mark
invariant-loop-mark l =
    map (until_mark (count_after l.count 1)) (take l.mark-index l.marks)
    ++ map (λ m. one_tick_less (until_mark l.count m)) (drop l.mark-index l.marks)
    ≡ map (λ m. one_tick_less (until_mark l.count m)) l.initial.marks
