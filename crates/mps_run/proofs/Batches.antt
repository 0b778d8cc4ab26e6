-- Records of moves that are put into a buffer, one after the other, and logged a batch at a time.
use Rattle.std.proofs.Common.{◌≡◌, ℕ, ◌+◌, ◌<◌, ◌≤◌, List, ◌++◌, length, get_or, take, refl, sym, ◌∙◌, ap, subst, arith}
use Rattle.std.specs.List.{flat_map}
use Rattle.std.proofs.lemmas.Grind.{flat_map-append}
use Rattle.std.proofs.lemmas.List.{take-take, length-take-le}
use Rattle.std.proofs.lemmas.Slice.{take-put_mid}
use Rattle.std.proofs.Math.Seq.{take-append-add}
use borrow.Rule.Slice.PartMut.{put_mid}
use Rattle.mps_desk.specs.Desk.{Outside}
use Rattle.mps_base.specs.declared.moves.Move.{Move}
use Rattle.mps_base.specs.Record.{record_bytes, records_bytes}
use Rattle.std.specs.Prelude.{All}
use Rattle.std.proofs.lemmas.List.{map-append}
use Rattle.std.proofs.lemmas.List.Elements.{All-append}
use Rattle.mps_event.specs.declared.version.Version.TheVariants.{Two}
use Rattle.mps_event.specs.Grammar.{IsRecord}
use Rattle.mps_model.specs.Log.{record_of, records_of}
use Rattle.mps_report.specs.Streams.{Logs, LogsPart}
use Rattle.mps_report.proofs.Logging.{logs_then, part_of_first, part_of_second}
use Rattle.mps_run.proofs.Pieces.{move_bytes, moves_bytes, one_more}

-- the bytes up to n are the records of moves; a record was put after them
pub one_record_more : (line : ℕ) (moves : List Move) (i : ℕ) (d : Move) (bytes part : List ℕ) (n room size : ℕ)
    → i < length moves → take n bytes ≡ records_bytes (records_of (take i moves) line)
    → take size part ≡ record_bytes (record_of (get_or moves i d) line)
    → n ≤ length bytes → size ≤ length part
    → take (n + size) (put_mid n room bytes part) ≡ records_bytes (records_of (take (i + 1) moves) line)
one_record_more line moves i d bytes part n room size h before next fits small =
    let written = put_mid n room bytes part in
    let long : length (take n bytes) ≡ n = length-take-le n bytes fits in
    let whole : take (n + length part) written ≡ take n bytes ++ part = take-put_mid n room bytes part _ refl fits in
    let both : take (n + size) written ≡ take n bytes ++ take size part =
    sym (take-take (n + size) (n + length part) written (omega arith))
    ∙ (ap (take (n + size)) whole
    ∙ (ap (λ k. take (k + size) (take n bytes ++ part)) (sym long) ∙ take-append-add (take n bytes) part size)) in
    both
    ∙ (ap (λ (p : List ℕ). p ++ take size part) before
    ∙ (ap (λ (p : List ℕ). records_bytes (records_of (take i moves) line) ++ p) next
    ∙ (ap (λ (p : List ℕ). p ++ move_bytes line (get_or moves i d)) (sym (moves_bytes line (take i moves)))
    ∙ (one_more (move_bytes line) moves i d h ∙ moves_bytes line (take (i + 1) moves)))))

-- the records of some moves and of those after them
pub records_append : (line : ℕ) (first second : List Move)
    → records_bytes (records_of first line) ++ records_bytes (records_of second line) ≡ records_bytes (records_of (first ++ second) line)
records_append line first second =
    ap (λ (p : List ℕ). p ++ records_bytes (records_of second line)) (sym (moves_bytes line first))
    ∙ (ap (λ (p : List ℕ). flat_map (move_bytes line) first ++ p) (sym (moves_bytes line second))
    ∙ (sym (flat_map-append (move_bytes line) first second) ∙ moves_bytes line (first ++ second)))

-- they are such as a log may hold
pub records_append_all : (line : ℕ) (first second : List Move) → All (IsRecord Two) (records_of first line)
    → All (IsRecord Two) (records_of second line) → All (IsRecord Two) (records_of (first ++ second) line)
records_append_all line first second a b =
    subst (All (IsRecord Two)) (sym (map-append (λ (m : Move). record_of m line) first second))
    (All-append (IsRecord Two) (records_of first line) (records_of second line) a b)

module _ (line : ℕ) (done batch rest moves : List Move) (a b c : Outside) where
  pub logs_batch : done ++ (batch ++ rest) ≡ moves → Logs a b (records_bytes (records_of done line))
      → Logs b c (records_bytes (records_of batch line)) → Logs a c (records_bytes (records_of (done ++ batch) line))
  logs_batch whole before next = subst (λ (p : List ℕ). Logs a c p) (records_append line done batch) (logs_then a b c _ _ before next)

  pub logs_part_of_batch : done ++ (batch ++ rest) ≡ moves → Logs a b (records_bytes (records_of done line))
      → LogsPart b c (records_bytes (records_of batch line)) → LogsPart a c (records_bytes (records_of moves line))
  logs_part_of_batch whole before next =
      subst (λ (p : List ℕ). LogsPart a c p)
      (ap (λ (p : List ℕ). records_bytes (records_of done line) ++ p) (records_append line batch rest)
      ∙ (records_append line done (batch ++ rest) ∙ ap (λ (ms : List Move). records_bytes (records_of ms line)) whole))
      (part_of_second a b c _ _ before (part_of_first b c _ _ next))
