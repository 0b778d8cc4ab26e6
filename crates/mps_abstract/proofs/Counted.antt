-- A collection goes on where its counts are others, what the client had, or colours of which no more are white.
use Rattle.std.proofs.Common.{◌≡◌, ℕ, ◌+◌, ◌≤◌, Bool, true, false, List, Option, Some}
use Rattle.mps_base.specs.Address.{Id}
use Rattle.mps_model.specs.Collection.{Collection, Phase, is_settled}
use Rattle.mps_model.specs.Graph.{Graph}
use Rattle.mps_model.specs.World.{is_live}
use Rattle.mps_abstract.specs.Collecting.{AreExamined, Collecting, Running, units_left}
use Rattle.mps_abstract.specs.Colours.{AreSurvivors, Colours, is_white}

pub survivors_again : (g : Graph) (registered : List Id) (live : Id → Bool) (c : Collection) (k k' : Colours) (had : List Id)
    (before examined spent : ℕ)
    → ((id : Id) → is_white c.condemned k' id ≡ false → is_white c.condemned k id ≡ false) → AreSurvivors g live c k
    → AreSurvivors (record g { registered = registered }) live
    (record c { had = had; registered_before = before; examined = examined; spent = spent }) k'
survivors_again g registered live c k k' had before examined spent white s = record {
  existing = s.existing;
  kept = λ id there isnt. s.kept id there (white id isnt);
  written = s.written;
  outside = s.outside;
}

pub examined_again : (registered : List Id) (live : Id → Bool) (c : Collection) (k k' : Colours) (next : ℕ) (had : List Id) (phase : Phase)
    (spent : ℕ) → ((id : Id) → is_white c.condemned k id ≡ false → is_white c.condemned k' id ≡ false)
    → AreExamined registered live c k next → AreExamined registered live (record c { had = had; phase = phase; spent = spent }) k' next
examined_again registered live c k k' next had phase spent white e = record {
  live_registered = e.live_registered;
  from = e.from;
  up_to = e.up_to;
  existing = e.existing;
  examined = λ position id there part. white id (e.examined position id there part);
}

module _ (x : Collecting) (run : Running x) (had : List Id) (spent : ℕ) where
  -- the collection with what the client had, and what was asked of it
  abbrev pub counted : Collection
  counted = record x.running { had = had; spent = spent }

  pub counted_runs : (o : Option Collection) → o ≡ Some counted
      → ((id : Id) → is_settled counted id ≡ true → is_white x.running.condemned x.colours id ≡ false)
      → spent + units_left x ≤ x.running.units
      → Running (record x { world = record x.world { collection = o }; running = counted })
  counted_runs o runs settled units = record {
    runs = runs;
    different = run.different;
    condemned = record { objects = run.condemned.objects; bases = run.condemned.bases; segments = run.condemned.segments };
    coloured = run.coloured;
    grey = run.grey;
    settled = record { settled = settled; in_place = run.settled.in_place };
    survivors =
        survivors_again x.world.graph x.world.graph.registered
        (is_live x.world) x.running x.colours x.colours had x.running.registered_before x.running.examined spent
        (λ id white. white) run.survivors;
    examined =
        examined_again x.world.graph.registered (is_live x.world) x.running x.colours x.colours x.next had x.running.phase spent
        (λ id white. white)
        run.examined;
    band = record {
      tracing = run.band.tracing;
      splatting = run.band.splatting;
      drained = run.band.drained;
      examined = run.band.examined;
      scanned = run.band.scanned;
      referred_live = run.band.referred_live;
      unswept = run.band.unswept;
    };
    swept = record { hold = run.swept.hold; to_go = run.swept.to_go; in_turn = run.swept.in_turn; one_left = run.swept.one_left };
    units = units;
  }
