-- A record at the beginning of a buffer.
use Rattle.std.proofs.Common.{◌≡◌, ℕ, ◌+◌, ◌-◌, ◌≤◌, List, ◌++◌, length, take, drop, ap, ◌∙◌, arith, length-append, length-drop}
use Rattle.std.proofs.lemmas.List.{take_at}
use Rattle.mps_base.specs.Record.{Record, record_bytes}

-- where a record was put over the beginning of a buffer, that many bytes of it are the record
pub prefix_is_record : (r : Record) (size : ℕ) (new old : List ℕ) → length new ≡ length old → size ≤ length old
    → new ≡ record_bytes r ++ drop size old → take size new ≡ record_bytes r
prefix_is_record r size new old same fits e =
    let whole : length new ≡ length (record_bytes r) + (length old - size) =
    ap length e ∙ (length-append (record_bytes r) (drop size old) ∙ ap (λ n. length (record_bytes r) + n) (length-drop size old)) in
    let long : length (record_bytes r) ≡ size = omega arith in
    ap (take size) e ∙ take_at (record_bytes r) (drop size old) size long
