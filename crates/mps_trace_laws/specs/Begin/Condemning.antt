-- What a flip may condemn in an arena at rest, and which objects it has to scan besides.
use Rattle.std.specs.Prelude.{◌≡◌, [], List, refl}
use Rattle.mps_base.specs.Address.{Id}
use Rattle.mps_seg.specs.Collecting.{summary_at}
use Rattle.mps_seg.specs.Segs.{SegsState}
use Rattle.mps_model.specs.World.{World}
use Rattle.mps_abstract.specs.Collecting.{Collecting}
use Rattle.mps_abstract.specs.FlipLaws.{IsNumbered, collecting_after_flip}
use Rattle.mps_abstract.specs.Remembered.{RefersToNothingElse, remembered}
use Rattle.mps_trace.specs.Trace.{TraceState}
use Rattle.mps_trace.specs.declared.condemn.Condemn.{Condemn}
use Rattle.mps_trace.specs.declared.condemn.Condemn.TheVariants.{Everything}
use Rattle.mps_trace_laws.specs.Flip.Condemned.{CondemnsAlike, condemnation}

-- the objects that a flip has to scan besides those that it condemns, as the summaries of segments tell them
abbrev pub remembered_in : SegsState → World → Condemn → List Id
remembered_in s w what = remembered (summary_at s) w (condemnation what)

-- the abstract collector right after the flip
abbrev pub collecting_at_flip : SegsState → World → Condemn → Collecting
collecting_at_flip s w what = collecting_after_flip w (condemnation what) (remembered_in s w what)

-- a flip may condemn this: its numbers in the log mean it, the collector condemns what the model does, and what the flip neither condemns
-- nor remembers refers to nothing that it condemns
pub record MayCondemn {F : Type 0} (t : TraceState F) (s : SegsState) (w : World) (what : Condemn) : Type 0 where
  pub numbered : IsNumbered (condemnation what)
  pub alike : CondemnsAlike t.formats t.chains what w
  pub refers : RefersToNothingElse (summary_at s) w (condemnation what)

-- ---- vectors

pub a_full_flip_has_nothing_else_to_scan : (s : SegsState) (w : World) → remembered_in s w Everything ≡ []
a_full_flip_has_nothing_else_to_scan s w = refl
