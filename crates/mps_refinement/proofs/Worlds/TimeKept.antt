-- What a call keeps of what is known of a collection.
use Rattle.std.proofs.Common.{◌≡◌, ◌∙◌, ℕ, false, refl, ap, None, Ok, Err, inl, inr}
use Rattle.std.specs.Prelude.{option_map}
use Rattle.mps_model.specs.declared.call.Call.{Call}
use Rattle.mps_model.specs.Checked.{Act, Checked}
use Rattle.mps_model.specs.Collecting.{without_registration}
use Rattle.mps_model.specs.Reply.{world_from}
use Rattle.mps_model.specs.World.{World}
use Rattle.mps_refinement.specs.StandsFor.{AreCondemnedIn, AreOfFlip, CollectorState, Runs, Time}
use Rattle.mps_base.specs.Address.{Word}
use Rattle.mps_extents.specs.Table.{bit}
use Rattle.mps_trace.specs.AmcState.{tail_of}
use Rattle.mps_trace_laws.specs.Fix.Ranks.{AreMarksRanked}
use Rattle.mps_abstract.specs.Collecting.{Collecting, Running}
use Rattle.mps_model.specs.World as world
use Rattle.mps_laws.proofs.Acts.{ForAct, accepted}
use Rattle.mps_laws.proofs.LeftByActs.{Leaves}
use Rattle.mps_base.specs.declared.refusal.Refusal.TheVariants as refusal
use Rattle.mps_refinement.proofs.Worlds.CollectorKept.{IsRunKept}

-- what a call keeps of what is known of a collection
pub record KeepsTime (t : Time) (s : CollectorState) (w : World) (s' : CollectorState) (v : World) : Type 0 where
  pub rest : w.collection ≡ None → v.collection ≡ None
  pub not_condemned : ((grain : ℕ) → bit s.segs.condemned grain ≡ false) → (grain : ℕ) → bit s'.segs.condemned grain ≡ false
  pub not_kept : ((grain : ℕ) → bit s.segs.condemned grain ≡ false) → ((n : Word) → bit s.segs.marks.kept n ≡ false) → (n : Word)
      → bit s'.segs.marks.kept n ≡ false
  pub running : s'.running ≡ s.running
  pub tails : (pool generation : ℕ) → tail_of s'.tails pool generation ≡ tail_of s.tails pool generation
  pub world_tails : (pool generation : ℕ) → world.tail_of v pool generation ≡ world.tail_of w pool generation
  pub ranked : (y : Collecting) → Runs t s w y → AreMarksRanked s.segs → AreMarksRanked s'.segs
  pub flip : AreOfFlip t.at_flip w → AreOfFlip t.at_flip v
  pub condemned : (y : Collecting) → y.world ≡ w → Running y → AreCondemnedIn s.segs.condemned w.segments y.running.condemned_segments
      → AreCondemnedIn s'.segs.condemned v.segments y.running.condemned_segments

-- a call that changes nothing keeps all of it
pub keeps_still : {t : Time} {s : CollectorState} {w : World} → KeepsTime t s w s w
keeps_still = record {
  rest = λ none. none;
  not_condemned = λ not_condemned. not_condemned;
  not_kept = λ not_condemned not_kept. not_kept;
  running = refl;
  tails = λ pool generation. refl;
  world_tails = λ pool generation. refl;
  ranked = λ y r ranked. ranked;
  flip = λ of. of;
  condemned = λ y is run marked. marked;
}

-- and so what a running one has
pub run_kept : {t : Time} {s s' : CollectorState} {w v : World} → KeepsTime t s w s' v → (y : Collecting) → Runs t s w y
    → IsRunKept (Err refusal.NotRegistered) t s s' w v y
run_kept keeps y r = record {
  running = keeps.running;
  tails = keeps.tails;
  world_tails = keeps.world_tails;
  ranked = keeps.ranked y r;
  condemned = keeps.condemned y r.world r.invariant;
  flip = keeps.flip r.flip;
}

-- a call without moves begins no collection
pub none_after : (c : Call) (w : World) (x : Checked Act) → ForAct (Leaves c w) x → w.collection ≡ None → (world_from w x).collection ≡ None
none_after c w (Ok a) (accepted left) none = elim left.collection [
  | inl e ↦ e ∙ none
  | inr p ↦ p.1 ∙ ap (option_map (without_registration p.0)) none
]
none_after c w (Err why) f none = none
