-- What notes zones leaves a state that stands.
use Rattle.std.proofs.Common.{ℕ, List, Option, Some, None}
use Rattle.mps_base.specs.Address.{Address, Id, Grain}
use Rattle.mps_format.specs.Layout.{Layout}
use Rattle.mps_format.specs.declared.pool.Policy.{Policy}
use Rattle.mps_seg.specs.Segs.{SegsState}
use Rattle.mps_seg.specs.Collecting.{noting_in}
use Rattle.mps_amc.specs.Amc.{AmcState}
use Rattle.mps_trace.specs.GenState.{ChainsState}
use Rattle.mps_trace.specs.Trace.{Traced}
use Rattle.mps_abstract.specs.Collecting.{Collecting}
use Rattle.mps_trace_laws.specs.Image.Memory.{memory_in}
use Rattle.mps_trace_laws.specs.Image.Image.{CellSet, ImageStands}
use Rattle.mps_trace_laws.specs.Fix.Tracing.{StateStands, setting_of}
use Rattle.mps_trace_laws.specs.Fix.Steps.{IsFixStep}

-- the state stands where only words and the zones of a segment changed, and the image does
module _ {F : Type 0} (layout : F → Layout) (formats : List (Option (Policy F))) (of : ChainsState) (at_flip : List (Option Address))
    (done done' : CellSet) (state : AmcState) (s : SegsState) (y : Collecting)
    (stands : StateStands layout formats of at_flip done state s y) (words : List ℕ) where
  abbrev with_these : (summaries : List ℕ) → SegsState
  with_these summaries = record s { words = words; summaries = summaries }

  pub rewritten : (summaries : List ℕ)
      → ImageStands (setting_of s at_flip y) (memory_in (with_these summaries)) y.world.addresses y.colours done'
      → StateStands layout formats of at_flip done' state (with_these summaries) y
  rewritten summaries image = record {
    segments = record {
      same_grains = stands.segments.same_grains;
      same_limit = stands.segments.same_limit;
      same_segments = stands.segments.same_segments;
    };
    held = record { small = stands.held.small; aligned = stands.held.aligned; ascending = stands.held.ascending };
    tables = record {
      kept = stands.tables.kept;
      exact = stands.tables.exact;
      weak = stands.tables.weak;
      condemned = stands.tables.condemned;
    };
    covered = stands.covered;
    reserved = stands.reserved;
    condemned = record { is_bit = stands.condemned.is_bit; is_held = stands.condemned.is_held };
    image = image;
    pools = stands.pools;
    collected = stands.collected;
    still = stands.still;
    tails = stands.tails;
    hands = stands.hands;
  }

  pub noted : (over : Option Grain) (to : Address)
      → ImageStands (setting_of s at_flip y) (memory_in (record s { words = words })) y.world.addresses y.colours done'
      → StateStands layout formats of at_flip done' state (noting_in (record s { words = words }) over to) y
  noted None to image = rewritten s.summaries image
  noted (Some grain) to image = rewritten (noting_in (record s { words = words }) (Some grain) to).summaries image

-- a fix is a step also if zones were noted after it
pub step_noted : {F : Type 0} (layout : F → Layout) (formats : List (Option (Policy F))) (of : ChainsState)
    (at_flip : List (Option Address)) (done : CellSet) (x z : Traced) (y : Collecting) (t : Id) (answer : Address) (summaries : List ℕ)
    → IsFixStep layout formats of at_flip done x z y t answer
    → IsFixStep layout formats of at_flip done x (record z { segs = record z.segs { summaries = summaries } }) y t answer
step_noted layout formats of at_flip done x z y t answer summaries step = record {
  moves = step.moves;
  after = step.after;
  fixes = step.fixes;
  stands = record {
    state =
        rewritten layout formats of at_flip done done z.amc z.segs step.after step.stands.state z.segs.words summaries
        step.stands.state.image;
    room = step.stands.room;
  };
  trail = step.trail;
  room_to_post = step.room_to_post;
  there = step.there;
  not_white = step.not_white;
  step = step.step;
  same = step.same;
  same_condemned = step.same_condemned;
}
