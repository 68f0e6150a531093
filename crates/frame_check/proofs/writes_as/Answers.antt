use Rattle.std.proofs.Common.{◌≡◌, ◌↔◌, IsTrue, take, sym, ap, ◌∙◌, rules}
use Rattle.std.proofs.lemmas.List.{take_at}
use Rattle.frame.specs.Format.{wire}
use Rattle.frame_check.proofs.writes_as.Goals as goal

pub returns-in-Ok : goal.returns-in-Ok
returns-in-Ok c =
    let w = c.in-Ok.ensures.writes in
    let front : take c.in-Ok.n c.write.new.out ≡ wire c.args.frame.now = ap (take c.in-Ok.n) w.2 ∙ take_at (wire c.args.frame.now) _ c.in-Ok.n (sym w.1) in
    let same : IsTrue c.eq.result ↔ (take c.in-Ok.n c.write.new.out ≡ c.args.bytes.now) = search rules in
    (λ t. (w.0, sym front ∙ same.0 t), λ h. same.1 (front ∙ h.1))
