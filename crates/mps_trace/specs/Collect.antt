-- A full collection: how it begins, and all its units.
use Rattle.std.specs.Prelude.{ℕ, ◌*◌, ◌+◌, ◌≡◌, Option, List, refl}
use Rattle.mps_base.specs.Address.{words_of_grain}
use Rattle.mps_base.specs.Trail.{Moves}
use Rattle.mps_buffer.specs.Points.{PointsState}
use Rattle.mps_final.specs.State.{FinalsState}
use Rattle.mps_format.specs.Layout.{Layout}
use Rattle.mps_gen.specs.State.{ChainsState}
use Rattle.mps_root.specs.State.{RootsState}
use Rattle.mps_seg.specs.Segs.{SegsState}
use Rattle.mps_trace.specs.Begin.{Begins, CanBegin, EndsAtOnce}
use Rattle.mps_trace.specs.Trace.{TraceState, Traced, traced}
use Rattle.mps_trace.specs.Unit.{UnitsTo, EndsWithin, AreUnitsReady}
use Rattle.mps_trace.specs.declared.condemn.Condemn.TheVariants.{Everything}
use Rattle.mps_trace.specs.declared.running.Running.{Running}
use Rattle.mps_format.specs.declared.pool.Policy.{Policy}

-- a full collection, from its flip to its end: it ends at once if nothing is condemned, and else within n units
pub data Collects {F : Type 0} (layout : F → Layout) (formats : List (Option (Policy F))) (chains : ChainsState) (points : PointsState)
    (roots : RootsState) (finals : FinalsState) (x : Traced) (most : ℕ) (roots' : RootsState) (finals' : FinalsState) (z : Traced) : Type 0
  where
    at_once : EndsAtOnce formats chains Everything points roots finals x roots' finals' z
        → Collects layout formats chains points roots finals x most roots' finals' z
    in_units : {between : Traced} {finals_between : FinalsState} (run : Running)
        → Begins layout formats chains Everything points roots finals x roots' finals_between between run
        → EndsWithin layout formats chains between finals_between run most z finals'
        → Collects layout formats chains points roots finals x most roots' finals' z

-- once it has begun, each of at most n units can be done when its turn comes, and it doesn't go on after all of them
pub record CanEnd {F : Type 0} (layout : F → Layout) (formats : List (Option (Policy F))) (chains : ChainsState) (z : Traced)
    (finals : FinalsState) (run : Running) (most : ℕ) : Type 0 where
  pub ready : AreUnitsReady layout (record { formats = formats; amc = z.amc; chains = chains }) z.segs z.moves finals run most
  pub ends : (last : Traced) (finals' : FinalsState) (run' : Running)
      → UnitsTo layout formats chains z finals run most last finals' run' → ⊥

-- a full collection can be done, in at most n units
pub record CanCollect {F : Type 0} (layout : F → Layout) (t : TraceState F) (points : PointsState) (roots : RootsState)
    (finals : FinalsState) (s : SegsState) (m : Moves) (most : ℕ) : Type 0 where
  pub begins : CanBegin layout t points roots finals s m
  pub units_ready : (roots' : RootsState) (finals' : FinalsState) (z : Traced) (run : Running)
      → Begins layout t.formats t.chains Everything points roots finals (traced t s m) roots' finals' z run
      → CanEnd layout t.formats t.chains z finals' run most

-- how many moves a full collection in an arena of these grains makes at most: two for each word of its grains, which is enough for each
-- block that is kept, posted, splatted or freed, for each segment, of which there is at most one a grain, and for its begin and end
abbrev pub most_moves : (grains : ℕ) → ℕ
most_moves grains = 2 * (words_of_grain * grains)

pub a_thousand_a_grain : most_moves 1 ≡ 1024
a_thousand_a_grain = refl

-- how many units it has at most, with n registrations: one for each block, of which there is at most one a word, one for each
-- registration, one for each segment, and one more
abbrev pub most_units : (grains registrations : ℕ) → ℕ
most_units grains registrations = words_of_grain * (grains + 1) + registrations + grains + 1

pub five_hundred_a_grain : most_units 1 3 ≡ 1029
five_hundred_a_grain = refl
