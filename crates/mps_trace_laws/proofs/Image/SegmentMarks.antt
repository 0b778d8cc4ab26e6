-- The calls of segments that change marks, by word.
use Rattle.std.proofs.Common.{◌≡◌, ◌∙◌, ◌<◌, Bool, true, false, refl, ap, inl, inr, List, length, arith}
use Rattle.std.proofs.lemmas.List.{get_or-set_same, get_or-set_other, get_or_past, length-set}
use Rattle.std.proofs.lemmas.Bool.{cases_lt, or_left, or_right}
use Rattle.std.specs.Prelude.{slice_set, ◌||◌, ◌≢◌}
use Rattle.mps_base.specs.Address.{Address, Word, word_of}
use Rattle.mps_base.specs.declared.names.Rank.{Rank}
use Rattle.mps_base.specs.declared.names.Rank.TheVariants.{Exact, Weak}
use Rattle.mps_extents.specs.Table.{bit}
use Rattle.mps_seg.specs.Marks.{MarkTables, with_grey, without_marks}
use Rattle.mps_seg.specs.Segs.{SegsState}
use Rattle.mps_seg.specs.Collecting.{keeping, greying, blackening, rank_at}
use Rattle.mps_trace_laws.specs.Image.Memory.{memory_in}
use Rattle.mps_trace_laws.specs.Image.Fixing.{IsMarkSet, IsMarkCleared, AreMarksMoved}

-- ---- one bit

pub set_bit : (bits : List Bool) (n : Word) → n < length bits → bit (slice_set bits n true) n ≡ true
unfolding bit
set_bit bits n lt = get_or-set_same bits n true false lt

pub other_bit : (bits : List Bool) (n m : Word) (b : Bool) → m ≢ n → bit (slice_set bits n b) m ≡ bit bits m
unfolding bit
other_bit bits n m b other = get_or-set_other bits n m b false other

pub clear_bit : (bits : List Bool) (n : Word) → bit (slice_set bits n false) n ≡ false
unfolding bit
clear_bit bits n =
    elim (cases_lt n (length bits)) [
      | inl within ↦ get_or-set_same bits n false false within
      | inr past ↦ get_or_past (slice_set bits n false) n false (omega (arith, past, length-set bits n false))
    ]

-- ---- the calls

-- the tables of marks have an entry for each word up to this one
pub record HasMarks (m : MarkTables) (n : Word) : Type 0 where
  pub kept : n < length m.kept
  pub exact : n < length m.exact
  pub weak : n < length m.weak

-- the grey blocks by word, of both ranks
abbrev grey_bit : MarkTables → Word → Bool
grey_bit m n = bit m.exact n || bit m.weak n

-- a block is kept
pub keeping_marks : (s : SegsState) (at : Address) → word_of at < length s.marks.kept
    → IsMarkSet (memory_in s).kept (memory_in (keeping s at)).kept (word_of at)
keeping_marks s at lt =
    record { set = set_bit s.marks.kept (word_of at) lt; others = λ n other. other_bit s.marks.kept (word_of at) n true other }

grey_set : (rank : Rank) (m : MarkTables) (n : Word) → HasMarks m n → grey_bit (with_grey rank n m) n ≡ true
grey_set Exact m n has = or_left (bit (slice_set m.exact n true) n) (bit m.weak n) (set_bit m.exact n has.exact)
grey_set Weak m n has = or_right (bit m.exact n) (bit (slice_set m.weak n true) n) (set_bit m.weak n has.weak)

grey_others : (rank : Rank) (m : MarkTables) (n l : Word) → l ≢ n → grey_bit (with_grey rank n m) l ≡ grey_bit m l
grey_others Exact m n l other = ap (λ b. b || bit m.weak l) (other_bit m.exact n l true other)
grey_others Weak m n l other = ap (λ b. bit m.exact l || b) (other_bit m.weak n l true other)

kept_still : (rank : Rank) (m : MarkTables) (n l : Word) → bit (with_grey rank n m).kept l ≡ bit m.kept l
kept_still Exact m n l = refl
kept_still Weak m n l = refl

-- a block becomes grey, and what is kept stays so
pub greying_marks : (s : SegsState) (at : Address) → HasMarks s.marks (word_of at)
    → IsMarkSet (memory_in s).grey (memory_in (greying s at)).grey (word_of at)
greying_marks s at has = record {
  set = grey_set (rank_at s at) s.marks (word_of at) has;
  others = λ n other. grey_others (rank_at s at) s.marks (word_of at) n other;
}

pub greying_keeps : (s : SegsState) (at : Address) (n : Word) → (memory_in (greying s at)).kept n ≡ (memory_in s).kept n
greying_keeps s at n = kept_still (rank_at s at) s.marks (word_of at) n

-- a block is grey no longer
pub blackening_clears : (s : SegsState) (at : Address) → IsMarkCleared (memory_in s).grey (memory_in (blackening s at)).grey (word_of at)
blackening_clears s at = record {
  clear =
      ap (λ b. b || bit (slice_set s.marks.weak (word_of at) false) (word_of at)) (clear_bit s.marks.exact (word_of at))
      ∙ clear_bit s.marks.weak (word_of at);
  others = λ n other.
      ap (λ b. b || bit (slice_set s.marks.weak (word_of at) false) n) (other_bit s.marks.exact (word_of at) n false other)
      ∙ ap (λ b. bit s.marks.exact n || b) (other_bit s.marks.weak (word_of at) n false other);
}

-- a block that goes has no mark any longer
pub removing_clears : (s : SegsState) (at : Address)
    → IsMarkCleared (memory_in s).kept (memory_in (record s { marks = without_marks (word_of at) s.marks })).kept (word_of at)
    × IsMarkCleared (memory_in s).grey (memory_in (record s { marks = without_marks (word_of at) s.marks })).grey (word_of at)
removing_clears s at = (
  record {
    clear = clear_bit s.marks.kept (word_of at);
    others = λ n other. other_bit s.marks.kept (word_of at) n false other;
  },
  record { clear = (blackening_clears s at).clear; others = λ n other. (blackening_clears s at).others n other },
)

-- a block goes in one place, and becomes grey in another
pub moving_marks : (s : SegsState) (from to : Address) → word_of from ≢ word_of to → HasMarks s.marks (word_of to)
    → AreMarksMoved (memory_in s).kept (memory_in s).grey
    (memory_in (greying (record s { marks = without_marks (word_of from) s.marks }) to)).kept
    (memory_in (greying (record s { marks = without_marks (word_of from) s.marks }) to)).grey (word_of from) (word_of to)
moving_marks s from to apart has =
    let gone : SegsState = record s { marks = without_marks (word_of from) s.marks } in
    let clears = removing_clears s from in
    let has' : HasMarks gone.marks (word_of to) = record {
      kept = omega (arith, has.kept, length-set s.marks.kept (word_of from) false);
      exact = omega (arith, has.exact, length-set s.marks.exact (word_of from) false);
      weak = omega (arith, has.weak, length-set s.marks.weak (word_of from) false);
    } in
    let greys = greying_marks gone to has' in
    record {
      set = greys.set;
      kept_clear = greying_keeps gone to (word_of from) ∙ clears.0.clear;
      grey_clear = greys.others (word_of from) apart ∙ clears.1.clear;
      kept_others = λ n not_from not_to. greying_keeps gone to n ∙ clears.0.others n not_from;
      grey_others = λ n not_from not_to. greys.others n not_to ∙ clears.1.others n not_from;
    }
