-- A running collection goes on as far as it was over a call of the client, but for a registration that the call takes away.
use Rattle.std.proofs.Common.{◌≡◌, ◌∙◌, ℕ, ◌-◌, zero, suc, refl, sym, ap, List, [], ◌∷◌, ◌++◌, Option, None, Ok, Err, get_or, arith}
use Rattle.std.proofs.lemmas.Bool.{le-ltb}
use Rattle.std.specs.Prelude.{option_map, if◌then◌else◌, replicate}
use Rattle.mps_base.specs.Address.{Id, address_of_word}
use Rattle.mps_base.specs.Segment.{Segment, segment_over}
use Rattle.mps_base.specs.declared.refusal.Refusal.TheVariants as refusal
use Rattle.mps_extents.specs.Table.{bit}
use Rattle.mps_seg.specs.Collecting.{rank_of}
use Rattle.mps_seg.specs.Segs.{SegsState}
use Rattle.mps_seg.specs.Buffer.{empty_buffer, run_of}
use Rattle.mps_seg.specs.declared.buffer.Buffer.{Buffer}
use Rattle.mps_seg.specs.Marks.{MarkTables}
use Rattle.mps_trace.specs.AmcState.{tail_of, with_pool}
use Rattle.mps_trace.specs.declared.running.Running.{Running as RunningState}
use Rattle.mps_trace_laws.specs.Fix.Ranks.{AreMarksRanked}
use Rattle.mps_abstract.specs.ClientLaws.{collection_without, next_without}
use Rattle.mps_abstract.specs.Collecting.{Collecting, Running}
use Rattle.mps_model.specs.Checked.{Checked}
use Rattle.mps_model.specs.Collecting.{without_position}
use Rattle.mps_model.specs.History.{remembering}
use Rattle.mps_model.specs.World as world
use Rattle.mps_model.specs.World.{World}
use Rattle.mps_heap_spec.specs.Finalizing.{running_without}
use Rattle.mps_heap_spec.specs.State.{HeapState}
use Rattle.mps_refinement.specs.StandsFor.{AreCondemnedIn, AreOfFlip, CollectorState, IsTracing, Runs, Time, collector_of, time_at_rest}

-- how far a collection is if a registration was taken away from a position
abbrev pub running_after : (taken : Checked ℕ) → Option RunningState → Option RunningState
running_after (Ok position) running = option_map (running_without position) running
running_after (Err why) running = running

abbrev pub time_after : (taken : Checked ℕ) → Time → Time
time_after (Ok position) t = record t {
  next = without_position t.next position;
  registered_before = without_position t.registered_before position;
}
time_after (Err why) t = t

-- where none runs
pub none_running : (taken : Checked ℕ) → running_after taken None ≡ None
none_running (Ok position) = refl
none_running (Err why) = refl

pub rest_after : (taken : Checked ℕ) → time_after taken time_at_rest ≡ time_at_rest
rest_after (Ok position) =
    ap (λ b. record time_at_rest { next = if b then 0 - 1 else 0; registered_before = if b then 0 - 1 else 0 })
    (le-ltb position 0 (omega arith))
rest_after (Err why) = refl

-- what the collector has is as it was, but for a registration that was taken away from a position: its marks and its segments, the tails of
-- its pools, and how far a running collection is
abbrev pub KeepsCollector : (taken : Checked ℕ) → (s s' : CollectorState) → Type 0
KeepsCollector taken s s' =
    (s'.segs.condemned ≡ s.segs.condemned) × (s'.segs.marks ≡ s.segs.marks) × (s'.segs.segments ≡ s.segs.segments)
    × ((pool generation : ℕ) → tail_of s'.tails pool generation ≡ tail_of s.tails pool generation)
    × (s'.running ≡ running_after taken s.running)

-- no registration was taken away
abbrev pub KeepsAll : (s s' : CollectorState) → Type 0
KeepsAll s s' = KeepsCollector (Err refusal.NotRegistered) s s'

-- a heap keeps what its collector has
pub all_kept : {F : Type 0} (h : HeapState F) → KeepsAll (collector_of h) (collector_of h)
all_kept h = (refl, refl, refl, λ pool generation. refl, refl)

-- a pool that is made has empty tails
empty_row : (count generation : ℕ) → get_or (replicate count empty_buffer) generation empty_buffer ≡ empty_buffer
empty_row zero generation = refl
empty_row (suc count) zero = refl
empty_row (suc count) (suc generation) = empty_row count generation

one_more_row : (ts : List (List Buffer)) (count pool generation : ℕ)
    → get_or (get_or (ts ++ replicate count empty_buffer ∷ []) pool []) generation empty_buffer
    ≡ get_or (get_or ts pool []) generation empty_buffer
one_more_row [] count zero generation = empty_row count generation
one_more_row [] count (suc pool) generation = refl
one_more_row (t ∷ ts) count zero generation = refl
one_more_row (t ∷ ts) count (suc pool) generation = one_more_row ts count pool generation

pub one_more_kept : {F : Type 0} (h : HeapState F) (generations : ℕ)
    → KeepsAll (collector_of h) (record { segs = h.segs; tails = with_pool h.tails generations; running = h.running })
one_more_kept h generations = (refl, refl, refl, λ pool generation. one_more_row h.tails.tails generations pool generation, refl)

-- the same marks over the same segments have the same ranks
pub ranks_kept : (s s' : SegsState) → s'.marks ≡ s.marks → s'.segments ≡ s.segments → AreMarksRanked s → AreMarksRanked s'
ranks_kept s s' marks segments ranked = record {
  exact = λ n is.
      ap (λ (ts : List Segment). rank_of (segment_over ts (address_of_word n))) segments
      ∙ ranked.exact n (sym (ap (λ (m : MarkTables). bit m.exact n) marks) ∙ is);
  weak = λ n is.
      ap (λ (ts : List Segment). rank_of (segment_over ts (address_of_word n))) segments
      ∙ ranked.weak n (sym (ap (λ (m : MarkTables). bit m.weak n) marks) ∙ is);
}

-- what a call keeps of a running collection whose state of the abstract collector is this one
pub record IsRunKept (taken : Checked ℕ) (t : Time) (s s' : CollectorState) (u v : World) (y : Collecting) : Type 0 where
  pub running : s'.running ≡ running_after taken s.running
  pub tails : (pool generation : ℕ) → tail_of s'.tails pool generation ≡ tail_of s.tails pool generation
  pub world_tails : (pool generation : ℕ) → world.tail_of v pool generation ≡ world.tail_of u pool generation
  pub ranked : AreMarksRanked s.segs → AreMarksRanked s'.segs
  pub condemned : AreCondemnedIn s.segs.condemned u.segments y.running.condemned_segments
      → AreCondemnedIn s'.segs.condemned v.segments y.running.condemned_segments
  pub flip : AreOfFlip t.at_flip v

module _ (t : Time) (s s' : CollectorState) (u v : World) (y : Collecting) (r : Runs t s u y) (held : List Id) (after : World)
    (is : after ≡ v) where
  traced : (taken : Checked ℕ) → IsRunKept taken t s s' u v y → IsTracing t s u y → IsTracing t s' v y
  traced taken kept traces = record {
    read = traces.read;
    band = traces.band;
    tails = λ pool generation.
        ap run_of (kept.tails pool generation) ∙ traces.tails pool generation ∙ sym (kept.world_tails pool generation);
    ranked = kept.ranked traces.ranked;
  }

  -- it runs on
  pub runs_after : (taken : Checked ℕ)
      → Running (record y {
        world = after;
        running = remembering held (collection_without taken y.running);
        next = next_without taken y.next;
      })
      → IsRunKept taken t s s' u v y
      → Runs (time_after taken t) s' v
      (record y { world = after; running = remembering held (collection_without taken y.running); next = next_without taken y.next })
  runs_after (Ok position) runs kept = record {
    world = is;
    invariant = runs;
    run = running_without position r.run;
    running = kept.running ∙ ap (option_map (running_without position)) r.running;
    as_far = record {
      band = r.as_far.band;
      cursor = r.as_far.cursor;
      next = ap (λ n. without_position n position) r.as_far.next;
      registered_before = ap (λ n. without_position n position) r.as_far.registered_before;
    };
    condemned_ids = r.condemned_ids;
    colours = r.colours;
    next = ap (λ n. without_position n position) r.next;
    registered_before = ap (λ n. without_position n position) r.registered_before;
    tracing = λ goes.
        let traces = traced (Ok position) kept (r.tracing goes) in
        record { read = traces.read; band = traces.band; tails = traces.tails; ranked = traces.ranked };
    reclaiming = λ begun.
        let freed = r.reclaiming begun in record {
          none_at_flip = freed.none_at_flip;
          read = freed.read;
          band = freed.band;
          scanned = freed.scanned;
          examined = ap (λ n. without_position n position) freed.examined;
        };
    condemned = kept.condemned r.condemned;
    flip = record { made = kept.flip.made; still = kept.flip.still };
  }
  runs_after (Err why) runs kept = record {
    world = is;
    invariant = runs;
    run = r.run;
    running = kept.running ∙ r.running;
    as_far = record {
      band = r.as_far.band;
      cursor = r.as_far.cursor;
      next = r.as_far.next;
      registered_before = r.as_far.registered_before;
    };
    condemned_ids = r.condemned_ids;
    colours = r.colours;
    next = r.next;
    registered_before = r.registered_before;
    tracing = λ goes.
        let traces = traced (Err why) kept (r.tracing goes) in
        record { read = traces.read; band = traces.band; tails = traces.tails; ranked = traces.ranked };
    reclaiming = λ begun.
        let freed = r.reclaiming begun in
        record {
          none_at_flip = freed.none_at_flip;
          read = freed.read;
          band = freed.band;
          scanned = freed.scanned;
          examined = freed.examined;
        };
    condemned = kept.condemned r.condemned;
    flip = record { made = kept.flip.made; still = kept.flip.still };
  }
