use Rattle.std.proofs.Common.{◌≡◌, ◌+◌, ◌≤◌, drop, map}
use Rattle.host.specs.Meaning.{in_mode}
use Rattle.host.proofs.by_call.methods.count_in.Given as goal

abbrev pub invariant-loop-call : goal.invariant-loop-call
invariant-loop-call l =
    (l.n ≤ l.call-index) × (l.n + in_mode l.mode (map (λ c. c.mode) (drop l.call-index l.calls)) ≡ in_mode l.mode (map (λ c. c.mode) l.calls))
