-- A block was kept where it lies: the state stands for the world in which its object stays.
use Rattle.std.proofs.Common.{◌≡◌, ◌∙◌, ◌<◌, true, List, [], length, Option, Some, arith}
use Rattle.std.proofs.lemmas.List.{length-set}
use Rattle.mps_base.specs.Address.{Address, Id, word_of}
use Rattle.mps_seg.specs.Segs.{SegsState}
use Rattle.mps_seg.specs.Collecting.{keeping}
use Rattle.mps_amc.specs.Moving.{kept_in_place}
use Rattle.mps_amc.specs.Amc.{AmcState}
use Rattle.mps_trace.specs.GenState.{ChainsState}
use Rattle.mps_format.specs.Layout.{Layout}
use Rattle.mps_model.specs.Graph.{entry_at}
use Rattle.mps_model.specs.Effect.{with_collection, placing}
use Rattle.mps_abstract.specs.Colours as colours
use Rattle.mps_abstract.specs.Collecting.{Collecting}
use Rattle.mps_trace_laws.specs.Image.Memory.{memory_in, words_of_arena}
use Rattle.mps_trace_laws.specs.Image.Image.{CellSet}
use Rattle.mps_trace_laws.specs.Image.Fixing.{IsMarkSet}
use Rattle.mps_trace_laws.proofs.Image.Marked as marking
use Rattle.mps_trace_laws.proofs.Image.SegmentMarks.{HasMarks, keeping_marks, greying_marks, greying_keeps}
use Rattle.mps_trace_laws.specs.Fix.Tracing.{StateStands, setting_of}
use Rattle.mps_trace_laws.proofs.Fix.LongTables.{tables_kept, has_marks}
use Rattle.mps_format.specs.declared.pool.Policy.{Policy}
use Rattle.mps_abstract.specs.Fixing.{kept_by}

-- the abstract collector after an object that was white stays
abbrev pub stayed_in : Collecting → Id → Collecting
stayed_in y t = record y {
  world = with_collection y.world (placing t);
  running = placing t y.running;
  colours = colours.keeping y.colours t;
}

module _ (F : Type 0) (layout : F → Layout) (formats : List (Option (Policy F))) (of : ChainsState) (at_flip : List (Option Address))
    (done : CellSet) (state : AmcState) (s : SegsState) (y : Collecting)
    (stands : StateStands layout formats of at_flip done state s y) (t : Id) (now : Address)
    (there : entry_at y.world.addresses t ≡ Some now) (within : word_of now < words_of_arena s.grains) where
  has : HasMarks s.marks (word_of now)
  has = has_marks s (word_of now) stands.tables within

  keeps : IsMarkSet (memory_in s).kept (memory_in (kept_in_place s now)).kept (word_of now)
  keeps =
      let set = keeping_marks s now has.kept in
      record {
        set = greying_keeps (keeping s now) now (word_of now) ∙ set.set;
        others = λ n other. greying_keeps (keeping s now) now n ∙ set.others n other;
      }

  greys : IsMarkSet (memory_in s).grey (memory_in (kept_in_place s now)).grey (word_of now)
  greys =
      let marks = greying_marks (keeping s now) now (record {
        kept =
            let long : length (keeping s now).marks.kept ≡ length s.marks.kept = length-set s.marks.kept (word_of now) true in
            omega (arith, has.kept, long);
        exact = has.exact;
        weak = has.weak;
      }) in
      record { set = marks.set; others = marks.others }

  pub stayed_stands : StateStands layout formats of at_flip done state (kept_in_place s now) (stayed_in y t)
  stayed_stands = record {
    segments = record {
      same_grains = stands.segments.same_grains;
      same_limit = stands.segments.same_limit;
      same_segments = stands.segments.same_segments;
    };
    held = record { small = stands.held.small; aligned = stands.held.aligned; ascending = stands.held.ascending };
    tables = tables_kept s now stands.tables;
    covered = stands.covered;
    reserved = stands.reserved;
    condemned = record { is_bit = stands.condemned.is_bit; is_held = stands.condemned.is_held };
    image =
        marking.image_marked (setting_of s at_flip y) (memory_in s) y.world.addresses y.colours done t now
        (memory_in (kept_in_place s now)).kept (memory_in (kept_in_place s now)).grey stands.image there keeps greys;
    pools = stands.pools;
    collected = stands.collected;
    still = stands.still;
    tails = stands.tails;
    hands = stands.hands;
  }

  -- and for the world as it is, where it is marked
  pub marked_stands : StateStands layout formats of at_flip done state (kept_in_place s now) (kept_by y t [] y.running)
  marked_stands = record {
    segments = record {
      same_grains = stands.segments.same_grains;
      same_limit = stands.segments.same_limit;
      same_segments = stands.segments.same_segments;
    };
    held = stayed_stands.held;
    tables = stayed_stands.tables;
    covered = stayed_stands.covered;
    reserved = stayed_stands.reserved;
    condemned = record { is_bit = stayed_stands.condemned.is_bit; is_held = stayed_stands.condemned.is_held };
    image = stayed_stands.image;
    pools = stayed_stands.pools;
    collected = stayed_stands.collected;
    still = stayed_stands.still;
    tails = stayed_stands.tails;
    hands = stayed_stands.hands;
  }
