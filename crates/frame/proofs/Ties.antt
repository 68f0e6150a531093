-- What ties the writer to the reader.
use Rattle.std.proofs.Common.{◌≡◌, ℕ, ◌+◌, ◌*◌, ◌/◌, ◌%◌, ◌<◌, ◌≤◌, Bool, true, false, cond, eqb, leb, List, [], ◌∷◌, ◌++◌, length, get_or, take, drop, IfOk, Ok, Err, Result, sym, refl, ap, ◌∙◌, subst, arith, length-drop}
use Rattle.std.proofs.lemmas.List.{take_at}
use Rattle.std.proofs.lemmas.Bool.{and_from, and_parts, cond-true, eq-eqb, eqb-true, le-leb, leb-true}
use Rattle.std.proofs.lemmas.Bool.Decides.{nat_tests}
use Rattle.terms.specs.Ranges.{within}
use Rattle.terms.specs.Refusals.{refusal_number}
use Rattle.terms.specs.declared.refusal.Refusal.{Refusal}
use Rattle.frame.specs.Limits.{longest_frame}
use Rattle.frame.specs.Operations.{argument, code_in}
use Rattle.frame.specs.Format.{carried, content_fault, fault, frame_fault, frame_length, head_fault, wire}
use Rattle.frame.specs.Promises.{Reads, Writes}
use Rattle.frame.specs.Steps.{Contains}
use Rattle.frame.specs.Laws.{ReadsOnlyAs, WrittenOnlyAs}
use Rattle.frame.specs.declared.operation.Frame.{Frame}
use Rattle.frame.proofs.Same.{argument_short, named, wire_same}

first_six : (bs : List ℕ) → 6 ≤ length bs → bs ≡ get_or bs 0 0 ∷ get_or bs 1 0 ∷ get_or bs 2 0 ∷ get_or bs 3 0 ∷ get_or bs 4 0 ∷ get_or bs 5 0 ∷ drop 6 bs
first_six [] h = absurd (omega arith)
first_six (a ∷ []) h = absurd (omega arith)
first_six (a ∷ b ∷ []) h = absurd (omega arith)
first_six (a ∷ b ∷ c ∷ []) h = absurd (omega arith)
first_six (a ∷ b ∷ c ∷ d ∷ []) h = absurd (omega arith)
first_six (a ∷ b ∷ c ∷ d ∷ e ∷ []) h = absurd (omega arith)
first_six (a ∷ b ∷ c ∷ d ∷ e ∷ f ∷ rest) h = refl

version_right : (v x : ℕ) → cond (eqb v 1) x 3 ≡ 0 → v ≡ 1
version_right v x e = grind (arith, nat_tests)

frame_length_parts : (bs : List ℕ) → frame_length bs ≡ true → (6 ≤ length bs) × (length bs ≤ longest_frame) × (256 * get_or bs 0 0 + get_or bs 1 0 + 2 ≡ length bs)
frame_length_parts bs e =
    let p = and_parts (within 6 longest_frame (length bs)) _ e in
    let q = and_parts (leb 6 (length bs)) _ p.0 in
    (leb-true _ _ q.0, leb-true _ _ q.1, eqb-true _ _ p.1)

-- what is read is what stands behind the length
pub to_reads : (bs head arg : List ℕ) → head ≡ take 6 bs → arg ≡ drop 6 bs → true ≡ frame_length bs → get_or bs 1 0 < 256 → (r : Result Frame Refusal) → Contains head arg r → Reads bs r
to_reads bs head arg hd ar len byte (Err e) h = cond-true _ _ _ (sym len) ∙ (λ j. head_fault (sym hd j) (sym ar j)) ∙ h
to_reads bs head arg hd ar len byte (Ok f) h =
    let l = frame_length_parts bs (sym len) in
    let six = first_six bs l.0 in
    let at = λ (k : ℕ). ap (λ l. get_or l k 0) (hd ∙ ap (take 6) six) in
    let rest = h.4 ∙ ar in
    let size = ap length rest ∙ length-drop 6 bs in
    let b0 : carried (argument f.operation) / 256 ≡ get_or bs 0 0 = omega arith in
    let b1 : carried (argument f.operation) % 256 ≡ get_or bs 1 0 = omega arith in
    let v = version_right (get_or head 2 0) _ h.0 in
    let d : f.dialogue ≡ get_or bs 3 0 = h.1 ∙ at 3 in
    let i : f.invoke ≡ get_or bs 5 0 = h.2 ∙ at 5 in
    let k = h.3 ∙ at 4 in
    let w : 1 ≡ get_or bs 2 0 = sym v ∙ at 2 in (
      cond-true _ _ _ (sym len) ∙ (λ j. head_fault (sym hd j) (sym ar j)) ∙ h.0,
      (λ j. b0 j ∷ b1 j ∷ w j ∷ d j ∷ k j ∷ i j ∷ rest j) ∙ sym six,
    )

-- the fault of a frame's bytes is the frame's
wire_fault : (f : Frame) → fault (wire f) ≡ frame_fault f
wire_fault f =
    let short = argument_short f.operation in
    cond-true _ _ _ (and_from _ _ (and_from _ _ (le-leb 6 (length (wire f)) (omega arith)) (le-leb (length (wire f)) longest_frame (omega arith))) (eq-eqb _ _ (omega arith))) ∙ ap (λ k. content_fault f.dialogue k f.invoke (argument f.operation)) (named (code_in f.operation))

some_number : (e : Refusal) → 0 < refusal_number e
some_number e = grind arith

room_left : (b : Bool) (x : ℕ) → cond b x 1 ≡ 0 → x ≡ 0
room_left true x e = e
room_left false x e = absurd (omega arith)

written : (f : Frame) (out after : List ℕ) (n : ℕ) → n ≡ length (wire f) → after ≡ wire f ++ drop n out → take n after ≡ wire f
written f out after n l e = ap (take n) e ∙ take_at (wire f) (drop n out) n (sym l)

wire_reads : (f : Frame) → frame_fault f ≡ 0 → ReadsOnlyAs (wire f) f
wire_reads f z (Ok g) h = ap Ok (wire_same g f h.1)
wire_reads f z (Err e) h = absurd (let w = wire_fault f in let n = some_number e in omega arith)

-- a frame that was written reads back as that frame
pub reads_back : (f : Frame) (out after : List ℕ) (r : Result ℕ Refusal) → Writes f out r after → IfOk r (λ n. ReadsOnlyAs (take n after) f)
reads_back f out after (Ok n) w =
    subst (λ bs. ReadsOnlyAs bs f) (sym (written f out after n w.1 w.2)) (wire_reads f (room_left (leb longest_frame (length out)) (frame_fault f) w.0))
reads_back f out after (Err e) w = tt

-- a frame that was read has no fault
no_fault : (bs : List ℕ) (f : Frame) → Reads bs (Ok f) → frame_fault f ≡ 0
no_fault bs f h = sym (wire_fault f) ∙ ap fault h.1 ∙ h.0

pub can_be_written : (bs : List ℕ) (r : Result Frame Refusal) → Reads bs r → IfOk r (λ f. frame_fault f ≡ 0)
can_be_written bs (Ok f) h = no_fault bs f h
can_be_written bs (Err e) h = tt

-- bytes that read as a frame are those that it is written as
written_as : (bs : List ℕ) (f : Frame) → Reads bs (Ok f) → WrittenOnlyAs f bs
written_as bs f h out after (Ok n) room w =
    let l : n ≡ length bs = w.1 ∙ ap length h.1 in
    (ap Ok l, ap (λ k. take k after) (sym l) ∙ written f out after n w.1 w.2 ∙ h.1)
written_as bs f h out after (Err e) room w =
    let free = cond-true (leb longest_frame (length out)) (frame_fault f) 1 (le-leb longest_frame (length out) room) in
    let none = no_fault bs f h in
    let n = some_number e in
    absurd (omega (arith, sym free ∙ w.0))

pub one_spelling : (bs : List ℕ) (r : Result Frame Refusal) → Reads bs r → IfOk r (λ f. WrittenOnlyAs f bs)
one_spelling bs (Ok f) h = written_as bs f h
one_spelling bs (Err e) h = tt
