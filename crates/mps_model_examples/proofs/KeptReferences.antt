use Rattle.std.proofs.Common.{◌≡◌, ◌∙◌, ap, arith, ℕ, refl, Bool, true, false, [], ◌∷◌, ◌++◌, Some, None, inl, inr}
use Rattle.mps_base.specs.declared.moves.Move.TheVariants as moves
use Rattle.mps_base.specs.declared.names.Kind.TheVariants as kind
use Rattle.mps_base.specs.declared.names.Rank.TheVariants as rank
use Rattle.mps_model.specs.declared.call.Call.TheVariants as call
use Rattle.mps_model.specs.declared.reply.Reply.TheVariants as reply
use Rattle.mps_model.specs.Graph.{Object, HeadCell, NumberCell, ReferenceCell, Automatic, PlainWord, TableThing, PoolThing, PointThing, AreaThing, empty_graph}
use Rattle.mps_model.specs.World.{World, Collected, empty_run, empty_world}
use Rattle.mps_model.specs.Step.{Step, History}
use Rattle.mps_model.specs.Reachable.{begins, goes_on}
use Rattle.mps_model.specs.Units.{reclaims}
use Rattle.mps_model.specs.History.{IsLegalFrom, IsLegalHistory, IsLegalStep, world_after, world_after_steps}
use Rattle.mps_model.proofs.Appending.{IsLegalFrom-then, world_after_steps-append}
use Rattle.mps_model_examples.specs.Script.{a, p, q, t, v, w, x, y, at_index, zones, step, grain_segment, words}
use Rattle.mps_model_examples.specs.KeptReferences.{link_head, weakly_linked, pinned_link, drop_block, dropped, all_kept, splatted_anyway, registered, posted_anyway, begun, freed_anyway, nothing_freed, SplatOfKeptTarget, PostOfKeptTarget, FreeOfKeptTarget}
use Rattle.mps_model_examples.proofs.Steps.{legal_step}
use Rattle.mps_model_examples.proofs.Units.{at_rest, to_end, at_most}
use Rattle.mps_model_examples.proofs.Refusing.{cannot_follow_from}

-- ---- the worlds

abbrev plain_block : Object
plain_block = record { pool = 0; body = Automatic 0x201 (HeadCell ∷ NumberCell 0 ∷ []) false }

-- an object that refers to the block
abbrev link_of : (pool : ℕ) → (is_weak : Bool) → Object
link_of pool is_weak = record { pool = pool; body = Automatic link_head (HeadCell ∷ ReferenceCell (Some 0) 0 ∷ []) is_weak }

abbrev pub weak_world : World
weak_world = record empty_world {
  graph = record empty_graph {
    objects = plain_block ∷ link_of 1 true ∷ [];
    tables = Some (Some 0 ∷ Some 1 ∷ None ∷ []) ∷ [];
    points =
        Some (record { pool = 0; rank = rank.Exact; reservation = None })
        ∷ Some (record { pool = 1; rank = rank.Weak; reservation = None })
        ∷ [];
    names =
        record { name = t; thing = TableThing 0 }
        ∷ record { name = p; thing = PoolThing 0 }
        ∷ record { name = x; thing = PointThing 0 }
        ∷ record { name = w; thing = PoolThing 1 }
        ∷ record { name = y; thing = PointThing 1 }
        ∷ [];
  };
  grains = 8;
  limit = 8;
  pools =
      record { kind = Collected kind.Ams; format = 1; chain = None }
      ∷ record { kind = Collected kind.Awl; format = 1; chain = None }
      ∷ [];
  segments = grain_segment 0x1000 0 ∷ record { base = 0x2000; grains = 1; pool = 1; generation = 0; rank = rank.Weak } ∷ [];
  addresses = Some 0x1000 ∷ Some 0x2000 ∷ [];
  point_memories = record { reserved_at = 0x1000; buffer = empty_run } ∷ record { reserved_at = 0x2000; buffer = empty_run } ∷ [];
}

abbrev pinned_world : World
pinned_world = record weak_world {
  graph = record weak_world.graph {
    objects = plain_block ∷ link_of 1 true ∷ link_of 2 false ∷ [];
    areas = Some (PlainWord 0x3000 ∷ []) ∷ [];
    points = weak_world.graph.points ++ Some (record { pool = 2; rank = rank.Exact; reservation = None }) ∷ [];
    names =
        weak_world.graph.names
        ++ record { name = a; thing = AreaThing 0 }
        ∷ record { name = q; thing = PoolThing 2 }
        ∷ record { name = v; thing = PointThing 2 }
        ∷ [];
  };
  pools = weak_world.pools ++ record { kind = Collected kind.Amc; format = 1; chain = None } ∷ [];
  segments = weak_world.segments ++ grain_segment 0x3000 2 ∷ [];
  addresses = weak_world.addresses ++ Some 0x3000 ∷ [];
  point_memories = weak_world.point_memories ++ record { reserved_at = 0x3000; buffer = words 1538 510 } ∷ [];
}

abbrev dropped_world : World
dropped_world = record pinned_world { graph = record pinned_world.graph { tables = Some (None ∷ Some 1 ∷ None ∷ []) ∷ [] } }

abbrev registered_world : World
registered_world = record dropped_world { graph = record dropped_world.graph { registered = 0 ∷ [] } }

-- ---- what leads to them

pub weak_leaves : world_after_steps empty_world weakly_linked ≡ weak_world
weak_leaves = refl

pub weak_is_legal : IsLegalHistory weakly_linked
weak_is_legal = (
  legal_step tt refl refl tt refl refl refl refl refl refl,
  (
    legal_step tt refl refl tt refl refl refl refl refl refl,
    (
      legal_step tt refl refl tt refl refl refl refl refl refl,
      (
        legal_step tt refl refl tt refl refl refl refl refl refl,
        (
          legal_step tt (record { poll = refl; segment = refl }) refl tt refl refl refl refl refl refl,
          (
            legal_step tt refl refl tt refl refl refl refl refl refl,
            (
              legal_step tt refl refl tt refl refl refl refl refl refl,
              (
                legal_step tt refl refl tt refl refl refl refl refl refl,
                (
                  legal_step tt (record { poll = refl; segment = refl }) refl tt refl refl refl refl refl refl,
                  (
                    legal_step tt refl refl tt refl refl refl refl refl refl,
                    (
                      legal_step tt refl refl tt refl refl refl refl refl refl,
                      tt,
                    ),
                  ),
                ),
              ),
            ),
          ),
        ),
      ),
    ),
  ),
)

pinned_is_legal : IsLegalFrom weak_world pinned_link
pinned_is_legal = (
  legal_step tt refl refl tt refl refl refl refl refl refl,
  (
    legal_step tt refl refl tt refl refl refl refl refl refl,
    (
      legal_step tt refl refl tt refl refl refl refl refl refl,
      (
        legal_step tt refl refl tt refl refl refl refl refl refl,
        (
          legal_step tt (record { poll = refl; segment = refl }) refl tt refl refl refl refl refl refl,
          (
            legal_step tt refl refl tt refl refl refl refl refl refl,
            (
              legal_step tt refl refl tt refl refl refl refl refl refl,
              (
                legal_step tt refl refl tt refl refl refl refl refl refl,
                tt,
              ),
            ),
          ),
        ),
      ),
    ),
  ),
)

-- the world after both
both_leave : world_after_steps empty_world (weakly_linked ++ pinned_link) ≡ pinned_world
both_leave = world_after_steps-append empty_world weakly_linked pinned_link

both_are_legal : IsLegalHistory (weakly_linked ++ pinned_link)
both_are_legal = IsLegalFrom-then empty_world weak_world weakly_linked pinned_link weak_leaves weak_is_legal pinned_is_legal

dropped_leaves : world_after_steps empty_world dropped ≡ dropped_world
dropped_leaves =
    world_after_steps-append empty_world (weakly_linked ++ pinned_link) (drop_block 20 ∷ [])
    ∙ ap (λ left. world_after_steps left (drop_block 20 ∷ [])) both_leave

dropped_is_legal : IsLegalHistory dropped
dropped_is_legal =
    IsLegalFrom-then empty_world pinned_world (weakly_linked ++ pinned_link) (drop_block 20 ∷ []) both_leave both_are_legal
    (legal_step tt refl refl tt refl refl refl refl refl refl, tt)

-- ---- no splat

kept_is_legal : IsLegalStep dropped_world (all_kept 21)
kept_is_legal =
    legal_step (
      record { none_runs = refl; of_zones = refl },
      (
        record {
          survivors = (inr (goes_on (begins {id = 1} refl) refl), (inr (begins refl), (inl refl, tt)));
          copied = refl;
          segments = refl;
        },
        tt,
      ),
    )
    (at_rest refl (record {
      later = moves.End ∷ [];
      whole = refl;
      later_ends = to_end ((moves.End ∷ []) ∷ []) refl (reclaims (record {
        base = 0x3000;
        freed = [];
        condemned = refl;
        in_turn = refl;
        ascending = refl;
        in_segment = refl;
        whole = refl;
      })) refl refl;
      exact = record {
        posts = [];
        posted = refl;
        exact = refl;
        survivors = (goes_on (begins {id = 2} refl) refl, (begins refl, (begins refl, tt)));
      };
    }))
    refl tt refl refl refl refl refl refl

pub splat_of_kept_target : SplatOfKeptTarget
splat_of_kept_target = record {
  refused =
      cannot_follow_from dropped_world dropped splatted_anyway dropped_leaves
      (λ s. s.moves_are_legal.1.0.target_is_gone.lost (goes_on (begins {id = 2} refl) refl));
  legal = IsLegalFrom-then empty_world dropped_world dropped (all_kept 21 ∷ []) dropped_leaves dropped_is_legal (kept_is_legal, tt);
}

-- ---- no message

abbrev registering : History
registering = step 20 (call.Finalize (at_index t 0)) [] reply.Ok ∷ drop_block 21 ∷ []

registered_leaves : world_after_steps empty_world registered ≡ registered_world
registered_leaves =
    world_after_steps-append empty_world (weakly_linked ++ pinned_link) registering
    ∙ ap (λ left. world_after_steps left registering) both_leave

registered_is_legal : IsLegalHistory registered
registered_is_legal =
    IsLegalFrom-then empty_world pinned_world (weakly_linked ++ pinned_link) registering both_leave both_are_legal
    (legal_step tt refl refl tt refl refl refl refl refl refl, (legal_step tt refl refl tt refl refl refl refl refl refl, tt))

kept_registered_is_legal : IsLegalStep registered_world (all_kept 22)
kept_registered_is_legal =
    legal_step (
      record { none_runs = refl; of_zones = refl },
      (
        record {
          survivors = (inr (goes_on (begins {id = 1} refl) refl), (inr (begins refl), (inl refl, tt)));
          copied = refl;
          segments = refl;
        },
        tt,
      ),
    )
    (at_rest refl (record {
      later = moves.End ∷ [];
      whole = refl;
      later_ends = to_end ((moves.End ∷ []) ∷ []) refl (reclaims (record {
        base = 0x3000;
        freed = [];
        condemned = refl;
        in_turn = refl;
        ascending = refl;
        in_segment = refl;
        whole = refl;
      })) refl refl;
      exact = record {
        posts = [];
        posted = refl;
        exact = inr (goes_on (begins {id = 2} refl) refl, refl);
        survivors = (goes_on (begins {id = 2} refl) refl, (begins refl, (begins refl, tt)));
      };
    }))
    refl tt refl refl refl refl refl refl

pub post_of_kept_target : PostOfKeptTarget
post_of_kept_target = record {
  refused =
      cannot_follow_from registered_world registered posted_anyway registered_leaves
      (λ s. s.moves_are_legal.1.0.lost (goes_on (begins {id = 2} refl) refl));
  legal =
      IsLegalFrom-then empty_world registered_world registered (all_kept 22 ∷ []) registered_leaves registered_is_legal
      (kept_registered_is_legal, tt);
}

-- ---- no free

abbrev start_linked : Step
start_linked = step 21 call.Start (moves.Flip (zones 8) 16 0 ∷ []) reply.Ok

abbrev begun_world : World
begun_world = world_after dropped_world start_linked

begun_leaves : world_after_steps empty_world begun ≡ begun_world
begun_leaves =
    world_after_steps-append empty_world dropped (start_linked ∷ [])
    ∙ ap (λ left. world_after_steps left (start_linked ∷ [])) dropped_leaves

begun_is_legal : IsLegalHistory begun
begun_is_legal =
    IsLegalFrom-then empty_world dropped_world dropped (start_linked ∷ []) dropped_leaves dropped_is_legal
    (legal_step (record { none_runs = refl; of_zones = refl }, tt) refl refl tt refl refl refl refl refl refl, tt)

-- the collection that goes on to its end
nothing_freed_is_legal : IsLegalStep begun_world nothing_freed
nothing_freed_is_legal =
    legal_step (
      record {
        survivors = (inr (goes_on (begins {id = 1} refl) refl), (inl refl, (inl refl, tt)));
        copied = refl;
        segments = refl;
      },
      tt,
    )
    (at_most ((moves.End ∷ []) ∷ []) refl (reclaims (record {
      base = 0x3000;
      freed = [];
      condemned = refl;
      in_turn = refl;
      ascending = refl;
      in_segment = refl;
      whole = refl;
    })) refl (omega arith) refl)
    refl tt refl refl refl refl refl refl

pub free_of_kept_target : FreeOfKeptTarget
free_of_kept_target = record {
  refused =
      cannot_follow_from begun_world begun freed_anyway begun_leaves
      (λ s. s.moves_are_legal.0.gone.lost (goes_on (begins {id = 2} refl) refl));
  legal = IsLegalFrom-then empty_world begun_world begun (nothing_freed ∷ []) begun_leaves begun_is_legal (nothing_freed_is_legal, tt);
}
