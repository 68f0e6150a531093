-- What the writer leaves in the buffer.
use Rattle.std.proofs.Common.{◌≡◌, ℕ, ◌+◌, ◌*◌, ◌<◌, ◌≤◌, List, [], ◌∷◌, ◌++◌, length, get_or, take, drop, set, sym, ap, ◌∙◌, append_assoc, arith}
use borrow.Rule.Slice.PartMut.{put_mid}
use Rattle.std.proofs.lemmas.List.{take-append-drop, drop-append-le, drop-drop, drop_at, drop_more, length-drop, length_push, length-take-le, set_at, take_more}
use Rattle.terms.specs.Points.{point_number}
use Rattle.frame.specs.Limits.{longest_argument, longest_frame}
use Rattle.frame.specs.Items.{mode_number, item_bytes, blank_item}
use Rattle.frame.specs.declared.item.Item.{Item}
use Rattle.frame.proofs.Spelling.{item_bytes_push, length_item_bytes}

set_two : (p rest : List ℕ) (u v a b n : ℕ) → length p ≡ n → set (set (p ++ u ∷ v ∷ rest) n a) (n + 1) b ≡ (p ++ a ∷ b ∷ []) ++ rest
set_two p rest u v a b n e =
    ap (λ l. set l (n + 1) b) (set_at p u (v ∷ rest) a n e ∙ sym (append_assoc p (a ∷ []) (v ∷ rest))) ∙
    set_at (p ++ a ∷ []) v rest b (n + 1) (length_push p a ∙ ap (λ k. k + 1) e) ∙ append_assoc p (a ∷ []) (b ∷ rest) ∙
    sym (append_assoc p (a ∷ b ∷ []) rest)

drop_two : (was : List ℕ) (n : ℕ) → n + 1 < length was → drop n was ≡ get_or was n 0 ∷ get_or was (n + 1) 0 ∷ drop (n + 2) was
drop_two was n l =
    let next : n + 1 + 1 ≡ n + 2 = omega arith in
    drop_more was n 0 (omega arith) ∙ ap (λ t. get_or was n 0 ∷ t) (drop_more was (n + 1) 0 l ∙ ap (λ k. get_or was (n + 1) 0 ∷ drop k was) next)

-- one more item is written
pub put_more : (xs : List Item) (was o : List ℕ) (i n a b : ℕ) → i < length xs → n ≡ 2 * i → n + 1 < length was → o ≡ item_bytes (take i xs) ++ drop n was → a ≡ point_number (get_or xs i blank_item).point → b ≡ mode_number (get_or xs i blank_item).mode → set (set o n a) (n + 1) b ≡ item_bytes (take (i + 1) xs) ++ drop (n + 2) was
put_more xs was o i n a b l two h e p m =
    let size : length (item_bytes (take i xs)) ≡ n = length_item_bytes (take i xs) ∙ ap (λ k. 2 * k) (length-take-le i xs (omega arith)) ∙ sym two in
    ap (λ l. set (set l n a) (n + 1) b) (e ∙ ap (λ l. item_bytes (take i xs) ++ l) (drop_two was n h)) ∙
    set_two (item_bytes (take i xs)) (drop (n + 2) was) _ _ a b n size ∙
    (λ j. (item_bytes (take i xs) ++ p j ∷ m j ∷ []) ++ drop (n + 2) was) ∙
    ap (λ l. l ++ drop (n + 2) was) (sym (ap item_bytes (take_more xs i blank_item l) ∙ item_bytes_push (take i xs) (get_or xs i blank_item)))

-- what the argument's part leaves, and what stands behind that part
rest : (o : List ℕ) (r : ℕ) → longest_argument ≤ length o → r ≤ longest_argument → drop r (take longest_argument o) ++ drop longest_argument o ≡ drop r o
rest o r l h = sym (drop-append-le r (take longest_argument o) (drop longest_argument o) (rw length-take-le h)) ∙ ap (drop r) (take-append-drop longest_argument o)

-- what stands behind the head, once the argument is written
pub behind_head : (out ys arg : List ℕ) (r : ℕ) → longest_frame ≤ length out → r ≤ longest_argument → ys ≡ arg ++ drop r (take longest_argument (drop 6 out)) → drop 6 (put_mid 6 longest_argument out ys) ≡ arg ++ drop (6 + r) out
behind_head out ys arg r l h y =
    let six : length (take 6 out) ≡ 6 = length-take-le 6 out (omega arith) in
    let long : longest_argument ≤ length (drop 6 out) = rw length-drop (omega arith) in
    drop_at (take 6 out) (ys ++ drop longest_argument (drop 6 out)) 6 six ∙ ap (λ k. k ++ drop longest_argument (drop 6 out)) y ∙ append_assoc arg _ _ ∙
    ap (λ k. arg ++ k) (rest (drop 6 out) r long h ∙ drop-drop r 6 out)
