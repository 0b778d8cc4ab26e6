-- Vectors of well-formed worlds: of their grains, segments, names, labels and running collections.
use Rattle.std.specs.Prelude.{◌≡◌, ℕ, true, false, ◌&&◌, nat_le, Some, None, List, [], ◌∷◌, ◌++◌, replicate, refl}
use Rattle.std.specs.List.{list_all}
use Rattle.mps_base.specs.Segment.{Segment}
use Rattle.mps_base.specs.declared.names.Name.{Name}
use Rattle.mps_base.specs.declared.names.Kind.TheVariants as kind
use Rattle.mps_base.specs.declared.names.Rank.TheVariants as rank
use Rattle.mps_model.specs.Graph.{Thing, TableThing, AreaThing, PoolThing, LabelThing, NamedThing}
use Rattle.mps_model.specs.Collection.{Collection, empty_collection}
use Rattle.mps_model.specs.World.{World, Collected, Unclamped, committed}
use Rattle.mps_model.specs.WellFormed.{IsWellFormed, is_of_pool, is_there, are_all_different, is_right_collection, small_world, ring}

-- ---- grains

pub as_many_grains_as_the_limit : nat_le (committed small_world) 2 ≡ true
as_many_grains_as_the_limit = refl

pub a_grain_above_the_limit : IsWellFormed (record small_world { limit = 1 }) → ⊥
a_grain_above_the_limit w = let h : false ≡ true = w.limit in absurd cc

-- ---- segments

-- an empty segment of a pool and a generation
abbrev empty_segment : (pool generation : ℕ) → Segment
empty_segment pool generation = record { base = 0x3000; grains = 1; pool = pool; generation = generation; rank = rank.Exact }

-- the small world with this segment too
abbrev with_third : Segment → World
with_third s = record small_world { segments = small_world.segments ++ s ∷ [] }

-- and with its pool on a chain of two generations
abbrev on_chain : World → World
on_chain w = record w {
  chains = (4 ∷ 8 ∷ []) ∷ [];
  pools = record { kind = Collected kind.Awl; format = 1; chain = Some 0 } ∷ [];
}

pub an_empty_segment : list_all (is_of_pool (with_third (empty_segment 0 0))) (with_third (empty_segment 0 0)).segments ≡ true
an_empty_segment = refl

pub a_segment_of_the_last_generation : list_all (is_of_pool (on_chain small_world)) (empty_segment 0 1 ∷ []) ≡ true
a_segment_of_the_last_generation = refl

pub a_segment_of_no_pool : IsWellFormed (with_third (empty_segment 99 0)) → ⊥
a_segment_of_no_pool w = let h : false ≡ true = w.pools in absurd cc

pub a_generation_without_a_chain : IsWellFormed (with_third (empty_segment 0 1)) → ⊥
a_generation_without_a_chain w = let h : false ≡ true = w.pools in absurd cc

pub a_generation_after_the_last : IsWellFormed (on_chain (with_third (empty_segment 0 2))) → ⊥
a_generation_after_the_last w = let h : false ≡ true = w.pools in absurd cc

-- ---- names

-- the name of one letter
abbrev letter : (code : ℕ) → Name
letter code = record { bytes = code ∷ replicate 15 0 }

-- the small world with these names and labels
abbrev with_labels : List NamedThing → List Name → World
with_labels names labels = record small_world { graph = record small_world.graph { names = names; labels = labels } }

-- the names t of the first table and u of another thing
abbrev table_and : Thing → List NamedThing
table_and thing = record { name = letter 116; thing = TableThing 0 } ∷ record { name = letter 117; thing = thing } ∷ []

pub two_names_of_two_things : list_all (λ (n : NamedThing). is_there small_world n.thing) (table_and (PoolThing 0))
    && are_all_different (table_and (PoolThing 0)) ≡ true
two_names_of_two_things = refl

pub a_name_of_a_pool_to_come : IsWellFormed (with_labels (table_and (PoolThing 1)) []) → ⊥
a_name_of_a_pool_to_come w = let h : false ≡ true = w.names in absurd cc

pub a_table_with_two_names : IsWellFormed (with_labels (table_and (TableThing 0)) []) → ⊥
a_table_with_two_names w = let h : false ≡ true = w.names in absurd cc

pub a_name_of_two_things :
    IsWellFormed (with_labels (record { name = letter 117; thing = PoolThing 0 } ∷ table_and (AreaThing 0)) []) → ⊥
a_name_of_two_things w = let h : false ≡ true = w.names in absurd cc

pub a_name_of_a_dropped_table :
    IsWellFormed (record small_world {
      graph = record small_world.graph { tables = None ∷ []; names = table_and (PoolThing 0); labels = [] };
    }) → ⊥
a_name_of_a_dropped_table w = let h : false ≡ true = w.names in absurd cc

pub a_label_without_a_name : IsWellFormed (with_labels [] (ring ∷ [])) → ⊥
a_label_without_a_name w = let h : false ≡ true = w.labels in absurd cc

pub a_label_twice : IsWellFormed (with_labels (record { name = ring; thing = LabelThing 0 } ∷ []) (ring ∷ ring ∷ [])) → ⊥
a_label_twice w = let h : false ≡ true = w.labels in absurd cc

pub a_label_by_the_name_of_a_table : IsWellFormed (with_labels (record { name = ring; thing = TableThing 0 } ∷ []) (ring ∷ [])) → ⊥
a_label_by_the_name_of_a_table w = let h : false ≡ true = w.labels in absurd cc

-- ---- the collection that runs

-- a collection of the small world that condemned all and has taken all its units
abbrev of_all : Collection
of_all = record (empty_collection small_world.graph) {
  condemned_segments = 0x1000 ∷ 0x2000 ∷ [];
  condemned = 0 ∷ 1 ∷ [];
  registered_before = 1;
  units = 5;
  spent = 5;
}

-- the small world, where this collection runs
abbrev with_running : Collection → World
with_running c = record small_world { state = Unclamped; collection = Some c }

pub all_are_condemned : is_right_collection (with_running of_all) of_all ≡ true
all_are_condemned = refl

pub a_condemned_object_that_was_never_made : IsWellFormed (with_running (record of_all { condemned = 0 ∷ 2 ∷ [] })) → ⊥
a_condemned_object_that_was_never_made w = let h : false ≡ true = w.running in absurd cc

pub a_condemned_segment_that_is_not_held :
    IsWellFormed (with_running (record of_all { condemned_segments = 0x1000 ∷ 0x3000 ∷ [] })) → ⊥
a_condemned_segment_that_is_not_held w = let h : false ≡ true = w.running in absurd cc

pub a_registration_too_many_before_the_flip : IsWellFormed (with_running (record of_all { registered_before = 2 })) → ⊥
a_registration_too_many_before_the_flip w = let h : false ≡ true = w.running in absurd cc

pub a_registration_too_many_examined : IsWellFormed (with_running (record of_all { examined = 2 })) → ⊥
a_registration_too_many_examined w = let h : false ≡ true = w.running in absurd cc

pub a_unit_too_many : IsWellFormed (with_running (record of_all { spent = 6 })) → ⊥
a_unit_too_many w = let h : false ≡ true = w.running in absurd cc
