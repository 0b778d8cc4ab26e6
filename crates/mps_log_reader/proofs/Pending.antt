-- What is pending in the buffer of an input.
use Rattle.std.proofs.Common.{◌≡◌, ℕ, ◌+◌, ◌-◌, ◌≤◌, Bool, List, [], ◌++◌, length, take, drop, Option, Some, None, sym, ap, subst, ◌∙◌, append_assoc, arith, inl}
use Rattle.std.specs.Prelude.{IfSome}
use Rattle.std.specs.Option.{option_map}
use Rattle.std.proofs.lemmas.List.{drop-drop, drop-take, length-append, length-drop, length-take, nil_from_length, take_at}
use Rattle.std.proofs.Math.Seq.{take-add}
use Rattle.mps_desk.specs.Desk.{Outside, OnlyReads}
use Rattle.mps_log_reader.specs.Input.{Buffered, ReadsMore}

abbrev pub buffered : List ℕ → (ended failed : Bool) → Buffered
buffered pending ended failed = record { pending = pending; ended = ended; failed = failed }

pub same_buffered : (a b : List ℕ) (ended failed : Bool) → a ≡ b
    → buffered a ended failed ≡ buffered b ended failed
same_buffered a b ended failed e = ap (λ (x : List ℕ). buffered x ended failed) e

-- bytes taken from the front
pub pending-take : (room : List ℕ) (from to count : ℕ) → count ≤ to - from
    → take (to - (from + count)) (drop (from + count) room) ≡ drop count (take (to - from) (drop from room))
pending-take room from to count le =
    let n : to - from ≡ count + (to - (from + count)) = omega arith in
    sym (ap (λ (k : ℕ). drop count (take k (drop from room))) n ∙ drop-take count (to - (from + count)) (drop from room)
    ∙ ap (take (to - (from + count))) (drop-drop count from room))

-- ---- reading more

rest_empty : (read : List ℕ) (x : Option (List ℕ)) → IfSome (option_map (λ left. read ++ left) x) (λ left. left ≡ [])
    → IfSome x (λ left. left ≡ [])
rest_empty read None h = tt
rest_empty read (Some left) h = nil_from_length left (omega (arith, ap length h, length-append read left))

-- some bytes came
pub reads_some : (a b : Outside) (x : Buffered) (room : List ℕ) (at count : ℕ) → take at room ≡ x.pending
    → a.input ≡ option_map (λ left. take count (drop at room) ++ left) b.input → a.in_faults ≤ b.in_faults → b.in_faults ≡ a.in_faults
    → OnlyReads a b
    → ReadsMore a b x (buffered (take (at + count - 0) (drop 0 room)) x.ended x.failed)
reads_some a b x room at count kept input counted steady others =
    let count-is : at + count - 0 ≡ at + count = omega arith in
    record {
      read = take count (drop at room);
      pending = ap (λ (k : ℕ). take k room) count-is ∙ take-add at count room ∙ ap (λ (p : List ℕ). p ++ take count (drop at room)) kept;
      input = input;
      end = λ h e. rest_empty (take count (drop at room)) b.input
          (subst (λ (o : Option (List ℕ)). IfSome o (λ left. left ≡ [])) input (h e));
      fault = λ h. inl h;
      counted = counted;
      steady = λ h. (h, steady);
      others = others;
    }

-- what is pending lies before `to`
pub pending-before : (room : List ℕ) (from to : ℕ) → from ≤ to → take (to - from) (drop from room) ≡ drop from (take to room)
pending-before room from to le = let e : to ≡ from + (to - from) = omega arith in
    sym (ap (λ (k : ℕ). drop from (take k room)) e ∙ drop-take from (to - from) room)

-- after the bytes up to `to` were rotated by `from`
pub moved_to_front : (room rotated : List ℕ) (from to : ℕ) → from ≤ to → to ≤ length room → rotated ≡ drop from (take to room)
    ++ take from (take to room)
    → take (to - from) (rotated ++ drop to room) ≡ take (to - from) (drop from room)
moved_to_front room rotated from to le within is =
    let front = drop from (take to room) in
    let size : length front ≡ to - from = omega (arith, length-drop from (take to room), length-take to room) in
    ap (λ (x : List ℕ). take (to - from) (x ++ drop to room)) is
    ∙ ap (λ (x : List ℕ). take (to - from) x) (append_assoc front (take from (take to room)) (drop to room))
    ∙ take_at front (take from (take to room) ++ drop to room) (to - from) size
    ∙ sym (pending-before room from to le)
