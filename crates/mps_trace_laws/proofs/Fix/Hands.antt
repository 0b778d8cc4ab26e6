-- The words into which a block is copied: those of a tail, or of a segment that is taken.
use Rattle.std.proofs.Common.{◌≡◌, ℕ, zero, suc, ◌+◌, ◌*◌, ◌%◌, ◌<◌, ◌≤◌, Bool, refl, sym, List, [], ◌∷◌, Option, Some, None, Result, Ok, Err, Contains, subst, inl, inr, arith}
use Rattle.std.proofs.lemmas.Bool.{cases_lt, and_from, cond-true, cond-false, le-leb, lt-ltb, lt-leb}
use Rattle.std.proofs.lemmas.Option.{none-some}
use Rattle.std.specs.Prelude.{nat_le, nat_lt, ◌&&◌, option_map}
use Rattle.mps_base.specs.Address.{Address, Id, Word, word_of, address_of_grain, address_of_word, grains_needed}
use Rattle.mps_base.specs.Placement.{Placement, Place, NewSegment, OverLimit, NoFreeRun}
use Rattle.mps_base.specs.Run.{Run, Covers, end_of, gaps, lowest_fitting}
use Rattle.mps_base.specs.Segment.{Segment, words_of_segment, segment_over}
use Rattle.mps_base.specs.declared.address.Addr.{Addr}
use Rattle.mps_base.specs.declared.refusal.Refusal.{Refusal}
use Rattle.mps_format.specs.Layout.{Layout}
use Rattle.mps_seg.specs.Arena.{answer_of_placement}
use Rattle.mps_seg.specs.Segs.{SegsState, held_runs, placement_for}
use Rattle.mps_seg.proofs.Placements.{placement_cases, placed, refused}
use Rattle.mps_seg.specs.declared.buffer.Buffer.{Buffer}
use Rattle.mps_seg.specs.Buffer.{placement_at_front}
use Rattle.mps_laws.proofs.Positions.Segments.{IsAmong, among_new, among_aligned, segment_bounds}
use Rattle.mps_model.specs.Graph.{Object, Point}
use Rattle.mps_model.specs.World.{PointMemory}
use Rattle.mps_trace_laws.specs.Image.Memory.{Setting, setting_in, pool_over_word}
use Rattle.mps_trace_laws.specs.Image.Image.{IsAddress, LieApart}
use Rattle.mps_trace_laws.specs.Image.Fixing.{AreAtHand}
use Rattle.mps_trace_laws.specs.Image.AtHand.{Hand}
use Rattle.mps_trace_laws.proofs.Image.AtHand.{at_hand}
use Rattle.mps_trace_laws.specs.Fix.Tracing.{AreHeld, HasTables, AreReservationsHeld, TailsStand, hand_of}
use Rattle.mps_trace_laws.proofs.Fix.Growing.{IsFree, with_one, held_more, not_held, its_pool, its_words_condemned}

-- ---- where a copy is placed

-- where n words are placed, where these words are at hand
pub data IsPlacedAt (s : SegsState) (b : Buffer) (size : ℕ) : Placement → Type 0 where
  in_tail : size ≤ b.count → IsPlacedAt s b size (Place b.from)
  in_new : (grain : ℕ) → lowest_fitting (grains_needed size) (gaps 1 (s.grains + 1) (held_runs s)) ≡ Some grain
      → IsPlacedAt s b size (NewSegment grain (grains_needed size))
  is_over : (committed need limit : ℕ) → IsPlacedAt s b size (OverLimit committed need limit)
  has_no_run : (need longest : ℕ) → IsPlacedAt s b size (NoFreeRun need longest)

refused_there : (s : SegsState) (b : Buffer) (size : ℕ) (p : Placement) (why : Refusal) → answer_of_placement p ≡ Err why
    → IsPlacedAt s b size p
refused_there s b size (Place word) why is =
    let left : Result Addr Refusal = Err why in let never : left ≡ Ok (record { 0 = address_of_word word }) = sym is in cc
refused_there s b size (NewSegment grain grains) why is =
    let left : Result Addr Refusal = Err why in let never : left ≡ Ok (record { 0 = address_of_grain grain }) = sym is in cc
refused_there s b size (OverLimit committed need limit) why is = is_over committed need limit
refused_there s b size (NoFreeRun need longest) why is = has_no_run need longest

pub placed_at : (s : SegsState) (b : Buffer) (size : ℕ) → IsPlacedAt s b size (placement_at_front s b size)
placed_at s b size =
    elim (cases_lt b.count size) [
      | inr fits ↦
          subst (IsPlacedAt s b size) (sym (cond-true (nat_le size b.count) (Place b.from) (placement_for s size)
          (le-leb size b.count fits)))
          (in_tail fits)
      | inl short ↦
          subst (IsPlacedAt s b size) (sym (cond-false (nat_le size b.count) (Place b.from) (placement_for s size)
          (lt-leb size b.count short)))
          (elim (placement_cases s.grains s.limit (held_runs s) (grains_needed size)) [
            | placed grain is lowest ↦ subst (IsPlacedAt s b size) (sym is) (in_new grain lowest)
            | refused why is ↦ refused_there s b size (placement_for s size) why is
          ])
    ]

-- ---- words at hand

pub contains_among : (ss : List Segment) (t : Segment) → Contains ss t → IsAmong t ss
contains_among [] t (k, within, is) = omega (arith, within)
contains_among (s ∷ ss) t (zero, within, is) = inl is
contains_among (s ∷ ss) t (suc k, within, is) = inr (contains_among ss t (k, omega (arith, within), is))

module _ (s : SegsState) (held : AreHeld s) (objects : List Object) (points : List (Option Point)) (memories : List PointMemory)
    (layout : ℕ → Layout) (at_flip : List (Option Address)) (condemned : List Id) (is_read : Id → Bool)
    (addresses : List (Option Address)) where
  abbrev setting_now : SegsState → Setting
  setting_now g = setting_in g objects points memories layout at_flip condemned is_read

  -- an address in a held segment is one of a word
  held_address : (t : Segment) (at : Address) → IsAmong t s.segments → t.base ≤ at → at % 8 ≡ 0 → word_of at < 512 * (s.grains + 1)
      → IsAddress at
  held_address t at there above aligned within =
      let bounds = segment_bounds 1 (s.grains + 1) s.segments t held.ascending there in
      let begins = among_aligned t s.segments held.aligned there in
      record {
        not_null = omega (arith, bounds.0, begins, above);
        aligned = aligned;
        small = omega (arith, held.small, aligned, within);
      }

  module _ (tail : (pool generation : ℕ) → Run) (tails : TailsStand (setting_now s) s.segments addresses tail) (pool generation : ℕ) where
    abbrev hand : Hand
    hand = record { pool = pool; number = generation }

    pub in_hand : (n : Word) → Covers (tail pool generation) n → hand_of pool generation (tail pool generation) n ≡ Some hand
    in_hand n covers =
        let words = tail pool generation in
        cond-true (nat_le words.from n && nat_lt n (end_of words)) (Some hand) None
        (and_from (nat_le words.from n) (nat_lt n (end_of words)) (le-leb words.from n covers.0) (lt-ltb n (end_of words) covers.1))

    -- the first words of a tail are at hand
    pub tail_at_hand : (size : ℕ) → 0 < size → size ≤ (tail pool generation).count
        → AreAtHand (setting_now s) addresses (address_of_word (tail pool generation).from) size pool
    tail_at_hand size positive fits =
        let words = tail pool generation in
        let all : (k : ℕ) → k < size → hand_of pool generation words (word_of (address_of_word words.from) + k) ≡ Some hand =
        λ k lt. in_hand (word_of (address_of_word words.from) + k) (omega arith, omega (arith, lt, fits))
        in
        let stands = tails.hands pool generation in
        let home = tails.home pool generation (omega (arith, positive, fits)) in
        let there = contains_among s.segments home.segment home.held in
        let begins = among_aligned home.segment s.segments held.aligned there in
        let within = stands.within (word_of (address_of_word words.from) + 0) hand (all 0 positive) in
        at_hand (setting_now s) (hand_of pool generation words) addresses (address_of_word words.from) size hand stands
        (held_address home.segment (address_of_word words.from) there (omega (arith, home.above, begins)) (omega arith) (omega
        (arith, within)))
        positive all

  module _ (tables : HasTables s) (apart : LieApart (setting_now s) addresses) (reserved : AreReservationsHeld s points memories)
      (u : Segment) (free : IsFree s u) where
    -- what is held lies elsewhere
    pub nothing_there : (n : Word) (pool : ℕ) → Covers (words_of_segment u) n → pool_over_word s n ≡ Some pool → ⊥
    nothing_there n pool covers is = go (segment_over s.segments (address_of_word n)) refl is
      where
        go : (o : Option Segment) → segment_over s.segments (address_of_word n) ≡ o → option_map (λ (t : Segment). t.pool) o ≡ Some pool → ⊥
        go None e h = none-some pool h
        go (Some t) e h = not_held s held tables u free n covers t e

    -- the first words of a segment that is taken are at hand
    pub new_at_hand : (size : ℕ) → 0 < size → size ≤ 512 * u.grains
        → AreAtHand (setting_now (with_one s u)) addresses u.base size u.pool
    new_at_hand size positive fits =
        let more = held_more s held tables u free in
        let among = among_new u s.segments in
        let bounds = segment_bounds 1 (s.grains + 1) (with_one s u).segments u more.ascending among in
        let covers : (k : ℕ) → k < size → Covers (words_of_segment u) (word_of u.base + k) = λ k lt. (
          omega arith,
          omega
              (arith, lt, fits),
        ) in
        record {
          address = record {
            not_null = omega (arith, bounds.0, free.aligned);
            aligned = omega (arith, free.aligned);
            small = omega (arith, held.small, free.aligned, bounds.2, bounds.1);
          };
          within = omega (arith, fits, free.aligned, bounds.2);
          free = λ k j l p lt there. nothing_there (word_of u.base + k) p.pool (covers k lt) (apart.home j l p (word_of u.base + k) there);
          unreserved = λ k point l r lt there.
              let home = reserved point l r (word_of u.base + k) there in
              nothing_there (word_of u.base + k) home.0 (covers k lt) home.1;
          not_condemned = λ k lt. its_words_condemned s held tables u free (word_of u.base + k) (covers k lt);
          home = λ k lt. its_pool s held tables u free (word_of u.base + k) (covers k lt);
        }
