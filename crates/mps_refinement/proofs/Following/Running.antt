-- What the abstract collector promises stays true if cells of objects are cleared and pairs end, in every band.
use Rattle.std.proofs.Common.{◌≡◌, ◌∙◌, ◌≤◌, Bool, true, false, sym, ap, List, length, subst}
use Rattle.std.specs.Prelude.{option_map}
use Rattle.std.proofs.lemmas.List.{length-map}
use Rattle.mps_base.specs.Address.{Id}
use Rattle.mps_model.specs.Graph.{Object, contains, size_of, targets}
use Rattle.mps_abstract.specs.Collecting.{Collecting, Running}
use Rattle.mps_refinement.specs.Following.{CellOf, Following, followed, objects_cleared, paired_at_flip}
use Rattle.mps_refinement.proofs.Following.Cleared.{cleared_sizes, cleared_targets}
use Rattle.mps_refinement.proofs.Following.Legal.{automatic_same, copying_same, something_same, weak_same}

-- there are as many objects
pub length_cleared : (os : List Object) (cs : List CellOf) → length (objects_cleared os cs) ≡ length os
length_cleared os cs =
    sym (length-map (objects_cleared os cs) size_of) ∙ ap length (cleared_sizes os cs) ∙ length-map os size_of

-- a state of the abstract collector with what was done besides
abbrev pub collecting_followed : Collecting → Following → Collecting
collecting_followed x f = record x { world = followed x.world f; running = paired_at_flip f.at_flip x.running }

module _ (x : Collecting) (run : Running x) (f : Following) where
  abbrev none_weak : Id → Bool
  none_weak id = false

  before : (n t : Id) → contains (targets (followed x.world f).graph n) t ≡ true → contains (targets x.world.graph n) t ≡ true
  before n t h = cleared_targets x.world.graph.objects f.cells n t h

  pub running_followed : Running (collecting_followed x f)
  running_followed = record {
    runs = ap (option_map (paired_at_flip f.at_flip)) run.runs;
    different = run.different;
    condemned = record {
      objects = λ id h. automatic_same none_weak x.world f id ∙ run.condemned.objects id h;
      bases = run.condemned.bases;
      segments = run.condemned.segments;
    };
    coloured = record {
      held_live = run.coloured.held_live;
      held = run.coloured.held;
      referred_live = λ n t live black refers. run.coloured.referred_live n t live black (before n t refers);
      referred = λ n t live black white refers. run.coloured.referred n t live black white (before n t refers);
    };
    grey = record {
      grey_live = run.grey.grey_live;
      grey_automatic = λ id h. automatic_same none_weak x.world f id ∙ run.grey.grey_automatic id h;
      grey_kept = run.grey.grey_kept;
    };
    settled = record {
      settled = run.settled.settled;
      in_place = λ id copying. run.settled.in_place id (sym (copying_same none_weak x.world f id) ∙ copying);
    };
    survivors = record {
      existing = subst (λ m. length x.running.graph_at_flip.objects ≤ m) (sym (length_cleared x.world.graph.objects f.cells))
          run.survivors.existing;
      kept = run.survivors.kept;
      written = λ n t live refers. run.survivors.written n t live (before n t refers);
      outside = run.survivors.outside;
    };
    examined = record {
      live_registered = run.examined.live_registered;
      from = run.examined.from;
      up_to = run.examined.up_to;
      existing = run.examined.existing;
      examined = run.examined.examined;
    };
    band = record {
      tracing = run.band.tracing;
      splatting = run.band.splatting;
      drained = λ h id is. weak_same none_weak x.world f id ∙ run.band.drained h id is;
      examined = run.band.examined;
      scanned = run.band.scanned;
      referred_live = λ h n t live refers. run.band.referred_live h n t live (before n t refers);
      unswept = run.band.unswept;
    };
    swept = record {
      hold = λ base h below. something_same none_weak x.world f x.running base ∙ run.swept.hold base h below;
      to_go = run.swept.to_go;
      in_turn = run.swept.in_turn;
      one_left = run.swept.one_left;
    };
    units = run.units;
  }
