-- A state of segments stands after a reference became null.
use Rattle.std.proofs.Common.{◌≡◌, ◌∙◌, ℕ, ◌<◌, sym, ap, List, Option, Some, None, subst}
use Rattle.std.specs.Prelude.{IsTrue, slice_get}
use Rattle.mps_base.specs.Address.{Address, Id, Grain}
use Rattle.mps_format.specs.Layout.{Layout}
use Rattle.mps_format.specs.declared.pool.Policy.{Policy}
use Rattle.mps_trace.specs.GenState.{ChainsState}
use Rattle.mps_seg.specs.Segs.{SegsState}
use Rattle.mps_seg.specs.Collecting.{noting_in}
use Rattle.mps_amc.specs.Amc.{AmcState}
use Rattle.mps_model.specs.Graph.{Object, Cell, is_automatic}
use Rattle.mps_model.specs.World.{is_automatic_kind, is_copying_pool, pool_is}
use Rattle.mps_abstract.specs.Collecting.{Collecting}
use Rattle.mps_abstract.specs.Units.{collecting_after_splat}
use Rattle.mps_trace_laws.specs.Image.Memory.{Lies, memory_in}
use Rattle.mps_trace_laws.specs.Image.Image.{CellSet, ImageStands}
use Rattle.mps_trace_laws.specs.Image.Changes.{IsCellChanged}
use Rattle.mps_trace_laws.specs.Fix.Tracing.{StateStands, setting_of}

module _ {F : Type 0} (layout : F → Layout) (formats : List (Option (Policy F))) (of : ChainsState) (at_flip : List (Option Address))
    (done done' : CellSet) (state : AmcState) (s : SegsState) (y : Collecting)
    (stands : StateStands layout formats of at_flip done state s y) where
  -- the same objects, other words and zones
  rewritten : (words summaries : List ℕ)
      → ImageStands (setting_of s at_flip y) (memory_in (record s { words = words; summaries = summaries })) y.world.addresses y.colours
      done'
      → StateStands layout formats of at_flip done' state (record s { words = words; summaries = summaries }) y
  rewritten words summaries image = record {
    segments = record {
      same_grains = stands.segments.same_grains;
      same_limit = stands.segments.same_limit;
      same_segments = stands.segments.same_segments;
    };
    held = record { small = stands.held.small; aligned = stands.held.aligned; ascending = stands.held.ascending };
    tables = record {
      kept = stands.tables.kept;
      exact = stands.tables.exact;
      weak = stands.tables.weak;
      condemned = stands.tables.condemned;
    };
    covered = stands.covered;
    reserved = stands.reserved;
    condemned = record { is_bit = stands.condemned.is_bit; is_held = stands.condemned.is_held };
    image = image;
    pools = stands.pools;
    collected = stands.collected;
    still = stands.still;
    tails = stands.tails;
    hands = stands.hands;
  }

  pub noted : (words : List ℕ) (over : Option Grain) (to : Address)
      → ImageStands (setting_of s at_flip y) (memory_in (record s { words = words })) y.world.addresses y.colours done'
      → StateStands layout formats of at_flip done' state (noting_in (record s { words = words }) over to) y
  noted words None to image = rewritten words s.summaries image
  noted words (Some grain) to image = rewritten words (noting_in (record s { words = words }) (Some grain) to).summaries image

  -- another object, with a null reference
  module _ (holder i : ℕ) (new : Cell)
      (changed : IsCellChanged y.world.graph.objects (collecting_after_splat y holder i).world.graph.objects holder i new)
      (automatic_was : (id : Id) (p : Object) → slice_get (collecting_after_splat y holder i).world.graph.objects id ≡ Some p
      → IsTrue (is_automatic p)
      → (q : Object) × (slice_get y.world.graph.objects id ≡ Some q) × IsTrue (is_automatic q) × (q.pool ≡ p.pool)) where
    abbrev y' : Collecting
    y' = collecting_after_splat y holder i

    lay : (id k : ℕ) (p : Object) (n : ℕ) (l : Lies y'.world.graph.objects y.world.addresses id k p n)
        → Lies y.world.graph.objects y.world.addresses id k (changed.was id p l.object).object n
    lay id k p n l =
        let w = changed.was id p l.object in
        record { at = l.at; address = l.address; object = w.there; within = subst (λ m. k < m) (sym w.size) l.within; is = l.is }

    pub splatted_state : (words : List ℕ)
        → ImageStands (setting_of (record s { words = words }) at_flip y') (memory_in (record s { words = words })) y.world.addresses
        y.colours done'
        → StateStands layout formats of at_flip done' state (record s { words = words }) y'
    splatted_state words image = record {
      segments = record {
        same_grains = stands.segments.same_grains;
        same_limit = stands.segments.same_limit;
        same_segments = stands.segments.same_segments;
      };
      held = record { small = stands.held.small; aligned = stands.held.aligned; ascending = stands.held.ascending };
      tables = record {
        kept = stands.tables.kept;
        exact = stands.tables.exact;
        weak = stands.tables.weak;
        condemned = stands.tables.condemned;
      };
      covered = stands.covered;
      reserved = stands.reserved;
      condemned = record { is_bit = stands.condemned.is_bit; is_held = stands.condemned.is_held };
      image = image;
      pools = stands.pools;
      collected = λ id p there automatic.
          let q = automatic_was id p there automatic in
          ap (pool_is is_automatic_kind y.world) (sym q.3) ∙ stands.collected id q.0 q.1 q.2;
      still = λ id p from to there isnt was now.
          let w = changed.was id p there in
          stands.still id w.object from to w.there (ap (is_copying_pool y.world) w.pool ∙ isnt) was now;
      tails = stands.tails;
      hands = record {
        hands = λ pool generation.
            let h = stands.hands.hands pool generation in
            record {
              within = h.within;
              not_condemned = h.not_condemned;
              home = h.home;
              free = λ n p id k o is l. h.free n p id k (changed.was id o l.object).object is (lay id k o n l);
              unreserved = h.unreserved;
            };
        apart = stands.hands.apart;
        home = stands.hands.home;
      };
    }
