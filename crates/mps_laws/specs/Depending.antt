-- Which blocks a location dependency depends on, and what it means that it isn't stale.
use Rattle.std.specs.Prelude.{◌≡◌, ℕ, false, List, [], ◌∷◌, ◌++◌, slice_get, Some, refl, None}
use Rattle.std.specs.List.{AllByRecursion}
use Rattle.std.specs.Option.{option_map_or}
use Rattle.mps_base.specs.Address.{Id, Address}
use Rattle.mps_base.specs.declared.names.Name.{Name}
use Rattle.mps_model.specs.Layout.{Layout}
use Rattle.mps_model.specs.declared.call.Call.{Call}
use Rattle.mps_model.specs.declared.call.Call.TheVariants as call
use Rattle.mps_model.specs.declared.reply.Reply.TheVariants as reply
use Rattle.mps_model.specs.Answer.{Replied}
use Rattle.mps_model.specs.Step.{Step, History}
use Rattle.mps_model.specs.Graph.{Automatic, DependencyThing, HeadCell, NumberCell, TableThing, empty_graph}
use Rattle.mps_model.specs.World.{Dependency, World, empty_world}
use Rattle.mps_model.specs.Checked.{as_dependency, number_named}
use Rattle.mps_model.specs.Reply.{act, world_from}
use Rattle.mps_model.specs.History.{IsLegalHistoryOf}
use Rattle.mps_laws.specs.Held.{letter, slot_of_t}
use Rattle.mps_laws.specs.Replay.{reached}
use Rattle.mps_laws.specs.Staying.{IsThereWhileLive}

-- an object, with the address where it was when it was added to a dependency
abbrev pub AddedBlock : Type 0
AddedBlock = Id × Address

-- The blocks on which the dependency of this name depends. `ld` and `ldreset` empty them, `ldadd` adds the object in a slot at its
-- address of that moment, and `ldmerge D E` adds to D's blocks those that E has at that moment
abbrev pub blocks_of_dependency : World → Name → List AddedBlock
blocks_of_dependency w name = option_map_or (λ number. option_map_or (λ (d : Dependency). d.blocks) (slice_get w.dependencies number) [])
    (number_named w name as_dependency) []

-- If `ldstale` answers `no`, each block on which the dependency depends lies at the address beside it, unless it is live no more.
abbrev pub FreshDependenciesHold : Type 0
FreshDependenciesHold =
    (formats : ℕ → Layout) (steps later : History) (s : Step) (name : Name) → IsLegalHistoryOf formats (steps ++ s ∷ later)
    → s.call ≡ call.DependencyStale name → s.answer ≡ Replied reply.No
    → AllByRecursion (λ (block : AddedBlock). IsThereWhileLive (reached formats steps) block.0 block.1)
    (blocks_of_dependency (reached formats steps) name)

-- ---- vectors

-- two dependencies d and e, the second of which has a block already, and a table t whose slot 0 refers to object 0 at 0x1000; slot 1 is
-- null
abbrev two_dependencies : World
two_dependencies = record empty_world {
  graph = record empty_graph {
    tables = Some (Some 0 ∷ None ∷ []) ∷ [];
    objects = record { pool = 0; body = Automatic 0x201 (HeadCell ∷ NumberCell 7 ∷ []) false } ∷ [];
    names = record { name = letter 100; thing = DependencyThing 0 }
        ∷ record { name = letter 101; thing = DependencyThing 1 }
        ∷ record { name = letter 116; thing = TableThing 0 } ∷ [];
  };
  addresses = Some 0x1000 ∷ [];
  dependencies = record { epoch = 0; zones = 0; blocks = [] } ∷ record { epoch = 0; zones = 1; blocks = (4, 0x2000) ∷ [] } ∷ [];
}

-- the blocks of the dependency of a letter after a call there
abbrev blocks_after : Call → (code : ℕ) → List AddedBlock
blocks_after c code =
    blocks_of_dependency (world_from two_dependencies (act false two_dependencies two_dependencies c)) (letter code)

pub a_block_is_added_where_it_is :
    blocks_after (call.DependencyAdd (letter 101) (slot_of_t 0)) 101 ≡ (4, 0x2000) ∷ (0, 0x1000) ∷ []
a_block_is_added_where_it_is = refl

pub the_blocks_of_another_are_merged : blocks_after (call.DependencyMerge (letter 100) (letter 101)) 100 ≡ (4, 0x2000) ∷ []
the_blocks_of_another_are_merged = refl

pub a_reset_forgets_them : blocks_after (call.DependencyReset (letter 101)) 101 ≡ []
a_reset_forgets_them = refl

pub a_new_one_has_none : blocks_after (call.Dependency (letter 102)) 102 ≡ []
a_new_one_has_none = refl

pub the_others_keep_theirs : blocks_after (call.Dependency (letter 102)) 101 ≡ (4, 0x2000) ∷ []
the_others_keep_theirs = refl

pub a_refused_call_adds_nothing : blocks_after (call.DependencyAdd (letter 101) (slot_of_t 1)) 101 ≡ (4, 0x2000) ∷ []
a_refused_call_adds_nothing = refl

pub no_block_is_added_to_another : blocks_after (call.DependencyAdd (letter 101) (slot_of_t 0)) 100 ≡ (0, 0x1000) ∷ [] → ⊥
no_block_is_added_to_another e = absurd cc
