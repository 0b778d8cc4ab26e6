use Rattle.std.proofs.Common.{◌≡◌, ◌∙◌, ap, subst, ℕ, zero, suc, refl, true, false, [], ◌∷◌, ◌++◌, Some, None, inl, inr}
use Rattle.std.specs.Prelude.{IsTrue}
use Rattle.mps_base.specs.declared.moves.Move.TheVariants as moves
use Rattle.mps_base.specs.declared.names.Kind.TheVariants as kind
use Rattle.mps_base.specs.declared.names.Rank.TheVariants as rank
use Rattle.mps_model.specs.declared.call.Call.TheVariants as call
use Rattle.mps_model.specs.declared.reply.Reply.TheVariants as reply
use Rattle.mps_model.specs.Graph.{HeadCell, NumberCell, ReferenceCell, Automatic, Hold, TableThing, AreaThing, PoolThing, PointThing, empty_graph}
use Rattle.mps_model.specs.World.{World, Collected, empty_run, empty_world}
use Rattle.mps_model.specs.Step.{Step}
use Rattle.mps_model.specs.LegalMove.{ForOne, MayBeScanned}
use Rattle.mps_base.specs.Segment.{Segment}
use Rattle.mps_model.specs.Units.{Scans, scans_no_more, moves_target_to_segment, IsScannedByBarrier, IsBarrier, IsScannedByUnit, IsScannedTarget, splats, refers_to, none_yet, one_more}
use Rattle.mps_model.specs.History.{IsLegalFrom, IsLegalHistory, IsLegalStep, world_after, world_after_steps}
use Rattle.mps_model.proofs.Cutting.{one_unit}
use Rattle.mps_model.proofs.Appending.{IsLegalFrom-then, world_after_steps-append}
use Rattle.mps_model.proofs.Reaching.{PathLeads-closed}
use Rattle.mps_model_examples.specs.Script.{a, p, t, w, x, y, address, zones, step, grain_segment, words}
use Rattle.mps_model_examples.specs.KeptReferences.{link_head}
use Rattle.mps_model_examples.specs.WhiteScan.{garbage_chain, garbage_condemned, white_scanned, reference_splatted, pinned_beside, read_beside, read_pinned, white_read, ScanOfWhite, BarrierOverWhite}
use Rattle.mps_model_examples.proofs.Steps.{legal_step}
use Rattle.mps_model_examples.proofs.Refusing.{false_is_not_true, cannot_follow_from}
use Rattle.mps_model_examples.proofs.WrongUnits.{begins_with_segment}

-- the world of the two dropped blocks and the weak object
abbrev garbage_world : World
garbage_world = record empty_world {
  graph = record empty_graph {
    objects =
        record { pool = 0; body = Automatic 0x201 (HeadCell ∷ NumberCell 0 ∷ []) false }
        ∷ record { pool = 0; body = Automatic link_head (HeadCell ∷ ReferenceCell (Some 0) 0 ∷ []) false }
        ∷ record { pool = 1; body = Automatic link_head (HeadCell ∷ ReferenceCell (Some 1) 0 ∷ []) true }
        ∷ [];
    tables = Some (None ∷ Some 2 ∷ None ∷ None ∷ []) ∷ [];
    points =
        Some (record { pool = 0; rank = rank.Exact; reservation = None })
        ∷ Some (record { pool = 1; rank = rank.Weak; reservation = None })
        ∷ [];
    names =
        record { name = t; thing = TableThing 0 }
        ∷ record { name = p; thing = PoolThing 0 }
        ∷ record { name = x; thing = PointThing 0 }
        ∷ record { name = w; thing = PoolThing 1 }
        ∷ record { name = y; thing = PointThing 1 }
        ∷ [];
  };
  grains = 8;
  limit = 8;
  pools =
      record { kind = Collected kind.Amc; format = 1; chain = None }
      ∷ record { kind = Collected kind.Awl; format = 1; chain = None }
      ∷ [];
  segments = grain_segment 0x1000 0 ∷ record { base = 0x2000; grains = 1; pool = 1; generation = 0; rank = rank.Weak } ∷ [];
  addresses = Some 0x1000 ∷ Some 0x1010 ∷ Some 0x2000 ∷ [];
  point_memories =
      record { reserved_at = 0x1010; buffer = words 516 508 } ∷ record { reserved_at = 0x2000; buffer = empty_run } ∷ [];
}

garbage_leaves : world_after_steps empty_world garbage_chain ≡ garbage_world
garbage_leaves = refl

garbage_is_legal : IsLegalHistory garbage_chain
garbage_is_legal = (
  legal_step tt refl refl tt refl refl refl refl refl refl,
  (
    legal_step tt refl refl tt refl refl refl refl refl refl,
    (
      legal_step tt refl refl tt refl refl refl refl refl refl,
      (
        legal_step tt refl refl tt refl refl refl refl refl refl,
        (
          legal_step tt (record { poll = refl; segment = refl }) refl tt refl refl refl refl refl refl,
          (
            legal_step tt refl refl tt refl refl refl refl refl refl,
            (
              legal_step tt (record { poll = refl; segment = refl }) refl tt refl refl refl refl refl refl,
              (
                legal_step tt refl refl tt refl refl refl refl refl refl,
                (
                  legal_step tt refl refl tt refl refl refl refl refl refl,
                  (
                    legal_step tt refl refl tt refl refl refl refl refl refl,
                    (
                      legal_step tt refl refl tt refl refl refl refl refl refl,
                      (
                        legal_step tt (record { poll = refl; segment = refl }) refl tt refl refl refl refl refl refl,
                        (
                          legal_step tt refl refl tt refl refl refl refl refl refl,
                          (
                            legal_step tt refl refl tt refl refl refl refl refl refl,
                            (
                              legal_step tt refl refl tt refl refl refl refl refl refl,
                              tt,
                            ),
                          ),
                        ),
                      ),
                    ),
                  ),
                ),
              ),
            ),
          ),
        ),
      ),
    ),
  ),
)

abbrev start_garbage : Step
start_garbage = step 16 call.Start (moves.Flip (zones 2) 16 0 ∷ []) reply.Ok

abbrev condemned_world : World
condemned_world = world_after garbage_world start_garbage

condemned_leaves : world_after_steps empty_world garbage_condemned ≡ condemned_world
condemned_leaves =
    world_after_steps-append empty_world garbage_chain (start_garbage ∷ [])
    ∙ ap (λ left. world_after_steps left (start_garbage ∷ [])) garbage_leaves

condemned_is_legal : IsLegalHistory garbage_condemned
condemned_is_legal =
    IsLegalFrom-then empty_world garbage_world garbage_chain (start_garbage ∷ []) garbage_leaves garbage_is_legal
    (legal_step (record { none_runs = refl; of_zones = refl }, tt) refl refl tt refl refl refl refl refl refl, tt)

-- the second block alone refers to the first, and no unit may scan it
not_scanned : ForOne condemned_world.collection (λ c. MayBeScanned condemned_world c 1) → ⊥
not_scanned (inl kept) = false_is_not_true kept
not_scanned (inr (in_place, may)) = false_is_not_true in_place

no_holder : (id : ℕ) → IsScannedByUnit condemned_world id → IsTrue (refers_to condemned_world id 0x1000) → ⊥
no_holder zero scanned refers = false_is_not_true refers
no_holder (suc zero) scanned refers = not_scanned scanned.may_be_scanned
no_holder (suc (suc zero)) scanned refers = false_is_not_true refers
no_holder (suc (suc (suc id))) scanned refers = false_is_not_true refers

no_target : (id : ℕ) → IsScannedByUnit condemned_world id → IsScannedTarget (λ now holder. holder ≡ id) condemned_world 0x1000 → ⊥
no_target id scanned target =
    no_holder id scanned (subst (λ holder. IsTrue (refers_to condemned_world holder 0x1000)) target.scanned target.refers)

splatted_is_legal : IsLegalStep condemned_world reference_splatted
splatted_is_legal =
    legal_step (
      record {
        phase = refl;
        weak = refl;
        scanned = inl refl;
        target_is_gone = record {
          condemned = refl;
          not_settled = refl;
          lost = λ path. false_is_not_true (PathLeads-closed _ _ (2 ∷ []) refl refl path);
        };
      },
      tt,
    )
    (inl (one_more none_yet refl (splats (address 0x2000) (1 ∷ []) refl)))
    refl tt refl refl refl refl refl refl

pub scan_of_white : ScanOfWhite
scan_of_white = record {
  refused =
      cannot_follow_from condemned_world garbage_condemned white_scanned condemned_leaves
      (λ s. begins_with_segment condemned_world (address 0x3000) (address 0x1000) (address 0x3000) 1 0 0 no_target
      (one_unit s.moves_are_due));
  legal =
      IsLegalFrom-then empty_world condemned_world garbage_condemned (reference_splatted ∷ []) condemned_leaves condemned_is_legal
      (splatted_is_legal, tt);
}

-- ---- the read barrier

-- the world of the three blocks, of which the third is pinned
abbrev pinned_world : World
pinned_world = record garbage_world {
  graph = record garbage_world.graph {
    objects =
        garbage_world.graph.objects
        ++ record { pool = 0; body = Automatic link_head (HeadCell ∷ ReferenceCell None 0 ∷ []) false } ∷ [];
    tables = Some (Some 3 ∷ Some 2 ∷ None ∷ None ∷ []) ∷ [];
    areas = Some (Hold 3 0 ∷ []) ∷ [];
    names = garbage_world.graph.names ++ record { name = a; thing = AreaThing 0 } ∷ [];
  };
  addresses = garbage_world.addresses ++ Some 0x1020 ∷ [];
  point_memories =
      record { reserved_at = 0x1020; buffer = words 518 506 } ∷ record { reserved_at = 0x2000; buffer = empty_run } ∷ [];
}

abbrev start_pinned : Step
start_pinned = step 20 call.Start (moves.Flip (zones 2) 16 0 ∷ []) reply.Ok

abbrev read_world : World
read_world = world_after pinned_world start_pinned

beside_leaves : world_after_steps garbage_world pinned_beside ≡ read_world
beside_leaves = refl

beside_is_legal : IsLegalFrom garbage_world pinned_beside
beside_is_legal = (
  legal_step tt (record { poll = refl; segment = refl }) refl tt refl refl refl refl refl refl,
  (
    legal_step tt refl refl tt refl refl refl refl refl refl,
    (
      legal_step tt refl refl tt refl refl refl refl refl refl,
      (
        legal_step tt refl refl tt refl refl refl refl refl refl,
        (
          legal_step (record { none_runs = refl; of_zones = refl }, tt) refl refl tt refl refl refl refl refl refl,
          tt,
        ),
      ),
    ),
  ),
)

read_leaves : world_after_steps empty_world read_beside ≡ read_world
read_leaves =
    world_after_steps-append empty_world garbage_chain pinned_beside
    ∙ ap (λ left. world_after_steps left pinned_beside) garbage_leaves
    ∙ beside_leaves

read_is_legal : IsLegalHistory read_beside
read_is_legal = IsLegalFrom-then empty_world garbage_world garbage_chain pinned_beside garbage_leaves garbage_is_legal beside_is_legal

-- the second block alone refers to the first, and no read barrier may scan it
not_read : ForOne read_world.collection (λ c. MayBeScanned read_world c 1) → ⊥
not_read (inl kept) = false_is_not_true kept
not_read (inr (in_place, may)) = false_is_not_true in_place

no_holder_read : (id : ℕ) → ForOne read_world.collection (λ c. MayBeScanned read_world c id) → IsTrue (refers_to read_world id 0x1000) → ⊥
no_holder_read zero may refers = false_is_not_true refers
no_holder_read (suc zero) may refers = not_read may
no_holder_read (suc (suc zero)) may refers = false_is_not_true refers
no_holder_read (suc (suc (suc zero))) may refers = false_is_not_true refers
no_holder_read (suc (suc (suc (suc id)))) may refers = false_is_not_true refers

no_read : (s : Segment) → Scans (IsScannedByBarrier s) read_world white_read.moves → ⊥
no_read s (moves_target_to_segment target rest) = no_holder_read target.holder target.scanned.may_be_scanned target.refers

no_barrier : (s : Segment) → IsBarrier read_world s white_read.moves → ⊥
no_barrier s (inl scan) = no_read s scan
no_barrier s (inr splatted) = false_is_not_true splatted

pub barrier_over_white : BarrierOverWhite
barrier_over_white = record {
  refused = cannot_follow_from read_world read_beside white_read read_leaves (λ s. no_barrier _ s.moves_are_due);
  legal =
      IsLegalFrom-then empty_world read_world read_beside (read_pinned [] ∷ []) read_leaves read_is_legal
      (legal_step tt (inl scans_no_more) refl tt refl refl refl refl refl refl, tt);
}
