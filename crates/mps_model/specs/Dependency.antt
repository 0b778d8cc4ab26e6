-- Location dependencies: when one is stale, and the commands on them.
use Rattle.std.specs.Prelude.{ℕ, IsTrue, min, bit_or, [], ◌++◌, length, slice_set}
use Rattle.mps_base.specs.Zones.{zone_bit_of}
use Rattle.mps_base.specs.Staleness.{is_stale}
use Rattle.mps_base.specs.declared.names.Name.{Name}
use Rattle.mps_base.specs.declared.names.Slot.{Slot}
use Rattle.mps_model.specs.Graph.{DependencyThing, with_last}
use Rattle.mps_model.specs.World.{World, Dependency}
use Rattle.mps_model.specs.Checked.{Act, Checked, ◌>>=◌, ◌>>◌, done, tells, dependency_named, slot_in, object_in, named}
use Rattle.mps_model.specs.Making.{refuse_taken, refuse_at_limit, most_dependencies}
use Rattle.mps_model.specs.Accessing.{address_or_null}

-- a dependency is stale if something in its zones may have moved since its epoch
abbrev pub IsStale : World → Dependency → Type 0
IsStale w d = IsTrue (is_stale w.flips d.epoch d.zones)

-- a dependency that depends on nothing, as of now
abbrev pub act_dependency : World → Name → Checked Act
act_dependency w name = do
  refuse_taken w name
  refuse_at_limit (length w.dependencies) most_dependencies
  done (record w {
    graph = named w.graph name (DependencyThing (length w.dependencies));
    dependencies = with_last w.dependencies (record { epoch = length w.flips; zones = 0; blocks = [] });
  })

abbrev pub with_dependency : World → (number : ℕ) → Dependency → World
with_dependency w number d = record w { dependencies = slice_set w.dependencies number d }

abbrev pub act_dependency_reset : World → Name → Checked Act
act_dependency_reset w name = do
  d ← dependency_named w name
  done (with_dependency w d.number (record { epoch = length w.flips; zones = 0; blocks = [] }))

-- an object is added, at the address where it is now
abbrev pub with_added : Dependency → (id address : ℕ) → Dependency
with_added d id address = record d { zones = bit_or d.zones (zone_bit_of address); blocks = with_last d.blocks (id, address) }

abbrev pub act_dependency_add : World → Name → Slot → Checked Act
act_dependency_add w name slot = do
  d ← dependency_named w name
  from ← slot_in w slot
  object ← object_in w from.value
  done (with_dependency w d.number (with_added d.value object.number (address_or_null w object.number)))

-- the earlier epoch, and the zones and blocks of both
abbrev pub merged : Dependency → Dependency → Dependency
merged d e = record { epoch = min d.epoch e.epoch; zones = bit_or d.zones e.zones; blocks = d.blocks ++ e.blocks }

abbrev pub act_dependency_merge : World → Name → Name → Checked Act
act_dependency_merge w name source = do
  d ← dependency_named w name
  e ← dependency_named w source
  done (with_dependency w d.number (merged d.value e.value))

abbrev pub act_dependency_stale : World → Name → Checked Act
act_dependency_stale w name = do
  d ← dependency_named w name
  tells (is_stale w.flips d.value.epoch d.value.zones) w
