-- Parts of the buffer, and what comes next of them.
use Rattle.std.proofs.Common.{◌≡◌, ℕ, ◌+◌, ◌-◌, ◌≤◌, Result, Ok, Err, OnErr, List, ◌++◌, length, take, drop, sym, ◌∙◌, ap, arith, append_assoc}
use Rattle.std.proofs.Math.Seq.{take-append-add}
use Rattle.std.proofs.lemmas.List.{take_at, take-take, drop-take, drop-drop, drop-append-le, length-take-le, length-drop, take-append-le}
use Rattle.mps_lines.specs.Buffer.{bytes_between}

-- what lies before an index of a part
pub between_prefix : (s e n : ℕ) (xs : List ℕ) → s + n ≤ e → bytes_between s (s + n) xs ≡ take n (bytes_between s e xs)
between_prefix s e n xs h =
    let a : (s + n) - s ≡ n = omega arith in
    let b : n ≤ e - s = omega arith in
    rw a (sym (take-take n (e - s) (drop s xs) b))

-- what lies from an index of a part on
pub between_rest : (s e m from : ℕ) (xs : List ℕ) → s + m ≤ e → from ≡ s + m → bytes_between from e xs ≡ drop m (bytes_between s e xs)
between_rest s e m from xs h at =
    let a : e - s ≡ m + (e - (s + m)) = omega arith in
    ap (λ f. bytes_between f e xs) at
    ∙ (ap (take (e - (s + m))) (sym (drop-drop m s xs))
    ∙ (sym (drop-take m (e - (s + m)) (drop s xs)) ∙ ap (λ k. drop m (take k (drop s xs))) (sym a)))

-- a prefix of a list has the parts that end within it
pub between_take : (from to n : ℕ) (xs : List ℕ) → from ≤ to → to ≤ n → bytes_between from to (take n xs) ≡ bytes_between from to xs
between_take from to n xs h k =
    let a : n ≡ from + (n - from) = omega arith in
    let b : to - from ≤ n - from = omega arith in
    ap (λ m. bytes_between from to (take m xs)) a
    ∙ (ap (take (to - from)) (drop-take from (n - from) xs) ∙ take-take (to - from) (n - from) (drop from xs) b)

-- what stands after a part
pub between_after : (bytes rest : List ℕ) (s e n : ℕ) → s ≤ e → e ≤ length bytes
    → bytes_between s (e + n) (take e bytes ++ rest) ≡ bytes_between s e bytes ++ take n rest
between_after bytes rest s e n h k =
    let a : e ≡ s + (e - s) = omega arith in
    let long : length (take e bytes) ≡ e = length-take-le e bytes k in
    let short : s ≤ length (take e bytes) = omega arith in
    let part : drop s (take e bytes) ≡ take (e - s) (drop s bytes) =
    ap (λ m. drop s (take m bytes)) a ∙ drop-take s (e - s) bytes in
    let dropped : drop s (take e bytes ++ rest) ≡ take (e - s) (drop s bytes) ++ rest =
    drop-append-le s (take e bytes) rest short ∙ ap (λ p. p ++ rest) part in
    let room : e - s ≤ length (drop s bytes) = rw (length-drop s bytes) (omega arith) in
    let size : length (take (e - s) (drop s bytes)) + n ≡ (e + n) - s =
    rw (length-take-le (e - s) (drop s bytes) room) (omega arith) in
    rw (dropped, ← size) (take-append-add (take (e - s) (drop s bytes)) rest n)

-- what was read into the buffer after a part
pub between_grown : (bytes buf tail later : List ℕ) (s e n room : ℕ) → s ≤ e → e ≤ length bytes → n ≤ length buf → e + n ≤ room
    → bytes_between s (e + n) (take room ((take e bytes ++ (buf ++ tail)) ++ later)) ≡ bytes_between s e bytes ++ take n buf
between_grown bytes buf tail later s e n room h k m r =
    let a : s ≤ e + n = omega arith in
    let front : take n ((buf ++ tail) ++ later) ≡ take n buf =
    ap (take n) (append_assoc buf tail later) ∙ take-append-le n buf (tail ++ later) m in
    between_take s (e + n) room ((take e bytes ++ (buf ++ tail)) ++ later) a r
    ∙ (ap (bytes_between s (e + n)) (append_assoc (take e bytes) (buf ++ tail) later)
    ∙ (between_after bytes ((buf ++ tail) ++ later) s e n h k ∙ ap (λ p. bytes_between s e bytes ++ p) front))

-- what waited before a read that failed
pub between_kept : (bytes buf tail later : List ℕ) (s e room : ℕ) → s ≤ e → e ≤ length bytes → e ≤ room
    → bytes_between s e (take room ((take e bytes ++ (buf ++ tail)) ++ later)) ≡ bytes_between s e bytes
between_kept bytes buf tail later s e room h k r =
    let rest = (buf ++ tail) ++ later in
    let long : length (take e bytes) ≡ e = length-take-le e bytes k in
    let all : e ≤ e = omega arith in
    between_take s e room ((take e bytes ++ (buf ++ tail)) ++ later) h r
    ∙ (ap (bytes_between s e) (append_assoc (take e bytes) (buf ++ tail) later)
    ∙ (sym (between_take s e e (take e bytes ++ rest) h all)
    ∙ (ap (bytes_between s e) (take_at (take e bytes) rest e long) ∙ between_take s e e bytes h all)))

-- what holds holds at an error
pub at_an_error : {T E : Type 0} (r : Result T E) (P : Type 0) → P → OnErr r P
at_an_error (Ok value) P h = tt
at_an_error (Err why) P h = h
