use Rattle.std.proofs.Common.{◌≡◌, ◌+◌, ◌/◌, ◌%◌, ◌∷◌, ◌++◌, drop, sym, ap, ◌∙◌, arith}
use Rattle.frame.specs.Operations.{argument, code_in, code_number}
use Rattle.frame.specs.Format.{carried, code_byte}
use Rattle.frame.proofs.Put.{behind_head}
use Rattle.frame.proofs.writer.put.Goals as goal

pub returns-clause-puts : goal.returns-clause-puts
returns-clause-puts c =
    let f = c.args.frame.now in
    let out = c.args.out.now in
    let arg = argument f.operation in
    let n = c.put_argument-n.result in
    let p = c.put_argument-n.ensures in
    let head = c.copy_from_slice.ensures.after ∙ c.head.ensures in
    let behind = behind_head out c.put_argument-n.new.out arg n c.requires.0 p.few p.puts.1 in
    let b0 : 0 ≡ carried arg / 256 = omega (arith, p.puts.0, p.few) in
    let b1 : 4 + n ≡ carried arg % 256 = omega (arith, p.puts.0, p.few) in
    let k : code_number c.args.code ≡ code_byte (code_in f.operation) = sym (ap code_byte c.requires.1) in (
      omega (arith, p.puts.0),
      (λ j. head j ++ behind j) ∙ (λ j. b0 j ∷ b1 j ∷ 1 ∷ f.dialogue ∷ k j ∷ f.invoke ∷ (arg ++ drop (6 + n) out)),
    )
