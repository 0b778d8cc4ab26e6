-- The tables of marks stay as long where blocks move or are kept.
use Rattle.std.proofs.Common.{◌≡◌, ◌∙◌, ℕ, ◌<◌, true, false, List, length, slice_set, arith}
use Rattle.std.proofs.lemmas.List.{length-set}
use Rattle.mps_base.specs.Address.{Address, Word, word_of}
use Rattle.mps_base.specs.declared.names.Rank.{Rank}
use Rattle.mps_base.specs.declared.names.Rank.TheVariants as rank
use Rattle.mps_seg.specs.Marks.{MarkTables, with_grey, without_marks}
use Rattle.mps_seg.specs.Segs.{SegsState}
use Rattle.mps_seg.specs.Collecting.{rank_at}
use Rattle.mps_amc.specs.Moving.{moved_to, kept_in_place}
use Rattle.mps_trace_laws.specs.Image.Memory.{words_of_arena}
use Rattle.mps_trace_laws.proofs.Image.SegmentMarks.{HasMarks}
use Rattle.mps_trace_laws.specs.Fix.Tracing.{HasTables}

-- the tables of marks have n entries
record AreLong (n : ℕ) (m : MarkTables) : Type 0 where
  kept : length m.kept ≡ n
  exact : length m.exact ≡ n
  weak : length m.weak ≡ n

grey_long : (n : ℕ) (r : Rank) (word : Word) (m : MarkTables) → AreLong n m → AreLong n (with_grey r word m)
grey_long n rank.Exact word m long =
    record { kept = long.kept; exact = length-set m.exact word true ∙ long.exact; weak = long.weak }
grey_long n rank.Weak word m long =
    record { kept = long.kept; exact = long.exact; weak = length-set m.weak word true ∙ long.weak }

without_long : (n : ℕ) (word : Word) (m : MarkTables) → AreLong n m → AreLong n (without_marks word m)
without_long n word m long = record {
  kept = length-set m.kept word false ∙ long.kept;
  exact = length-set m.exact word false ∙ long.exact;
  weak = length-set m.weak word false ∙ long.weak;
}

long_of : (s : SegsState) → HasTables s → AreLong (words_of_arena s.grains) s.marks
long_of s tables = record { kept = tables.kept; exact = tables.exact; weak = tables.weak }

pub tables_moved : (s : SegsState) (from to : Address) (size : ℕ) (words : List ℕ) → HasTables s
    → HasTables (record (moved_to s from to size) { words = words })
tables_moved s from to size words tables =
    let n = words_of_arena s.grains in
    let long =
    grey_long n (rank_at s to) (word_of to) (without_marks (word_of from) s.marks)
    (without_long n (word_of from) s.marks (long_of s tables))
    in
    record { kept = long.kept; exact = long.exact; weak = long.weak; condemned = tables.condemned }

pub tables_kept : (s : SegsState) (at : Address) → HasTables s → HasTables (kept_in_place s at)
tables_kept s at tables =
    let n = words_of_arena s.grains in
    let kept : AreLong n (record s.marks { kept = slice_set s.marks.kept (word_of at) true }) =
    record { kept = length-set s.marks.kept (word_of at) true ∙ tables.kept; exact = tables.exact; weak = tables.weak }
    in
    let long = grey_long n (rank_at s at) (word_of at) (record s.marks { kept = slice_set s.marks.kept (word_of at) true }) kept in
    record { kept = long.kept; exact = long.exact; weak = long.weak; condemned = tables.condemned }

pub has_marks : (s : SegsState) (n : Word) → HasTables s → n < words_of_arena s.grains → HasMarks s.marks n
has_marks s n tables within =
    record {
      kept = omega (arith, within, tables.kept);
      exact = omega (arith, within, tables.exact);
      weak = omega
          (arith, within, tables.weak);
    }
