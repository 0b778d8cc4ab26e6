-- A text that was written between two indices.
use Rattle.std.proofs.Common.{◌≡◌, ℕ, ◌+◌, ◌≤◌, List, ◌++◌, length, take, drop, ap, sym, ◌∙◌, arith, length-append, append_assoc}
use Rattle.std.proofs.lemmas.List.{take-append-drop, take_at, drop_at, length-take-le}

-- the text stands after the bytes before it, and those after it are unchanged
pub written_between : (start finish : ℕ) (old new text : List ℕ) → start + length text ≡ finish → finish ≤ length old
    → drop start new ≡ text ++ drop finish old → take start new ≡ take start old
    → (take finish new ≡ take start old ++ text) × (drop finish new ≡ drop finish old)
written_between start finish old new text size within written before =
    let front = take start old ++ text in
    let all : new ≡ front ++ drop finish old =
    sym (take-append-drop start new) ∙ ap (λ (x : List ℕ). x ++ drop start new) before
    ∙ ap (λ (y : List ℕ). take start old ++ y) written ∙ sym (append_assoc (take start old) text (drop finish old)) in
    let long : length front ≡ finish = omega (arith, length-append (take start old) text, length-take-le start old (omega arith), size) in
    (ap (take finish) all ∙ take_at front (drop finish old) finish long, ap (drop finish) all ∙ drop_at front (drop finish old) finish long)
