-- The ranges of the numbers of a call, as a script has them.
use Rattle.std.specs.Prelude.{Bool, true, false, ℕ, ◌<◌, ◌≤◌, ◌≡◌, nat_le, IsTrue, List, ◌++◌, length, drop, replicate, codes, refl}
use Rattle.std.specs.List.{list_all}
use Rattle.mps_base.specs.Address.{max_grains}
use Rattle.mps_base.specs.Name.{is_name, max_name_bytes}
use Rattle.mps_base.specs.declared.names.Kind.{Kind}
use Rattle.mps_base.specs.declared.names.Kind.TheVariants as kind
use Rattle.mps_base.specs.declared.names.Name.{Name}
use Rattle.mps_model.specs.declared.call.Call.{Call}
use Rattle.mps_model.specs.declared.call.Call.TheVariants as call
use Rattle.mps_model.specs.Making.{most_slots}
use Rattle.mps_model.specs.Tagging.{tag_count}

-- the most generations of a chain
abbrev pub most_generations : ℕ
most_generations = 8

-- the most classes of a cache
abbrev pub most_classes : ℕ
most_classes = 8

-- whether a class may keep this many blocks
abbrev pub are_cached : ℕ → Bool
are_cached count = nat_le count 64

-- the number of the last format
abbrev pub last_format : ℕ
last_format = 3

-- whether the largest arena has at least these grains
abbrev pub are_grains : ℕ → Bool
are_grains count = nat_le count max_grains

-- whether a pool of this kind may stand on a chain
abbrev pub may_be_on_chain : Kind → Bool
may_be_on_chain kind.Amc = true
may_be_on_chain kind.Amcz = true
may_be_on_chain _ = false

-- the length of a table, an area or a table of blocks
abbrev pub IsLength : ℕ → Type 0
IsLength length = (1 ≤ length) × (length ≤ most_slots)

-- the number of a format
abbrev pub IsFormat : ℕ → Type 0
IsFormat format = (1 ≤ format) × (format ≤ last_format)

-- a name of the grammar, and zeros after it
pub record IsPaddedName (name : Name) : Type 0 where
  pub word : List ℕ
  pub is : is_name word ≡ true
  pub padded : name.bytes ≡ word ++ drop (length word) (replicate max_name_bytes 0)

-- the numbers of a call are in the ranges of the script, and what a call interns is a name of it; of other calls than these nothing is said
abbrev pub IsInRange : Call → Type 0
IsInRange (call.Arena grains limit) = (1 ≤ grains) × (grains ≤ max_grains) × (limit ≤ max_grains)
IsInRange (call.Limit limit) = limit ≤ max_grains
IsInRange (call.Chain chain count capacities) = (1 ≤ count) × (count ≤ most_generations) × IsTrue (list_all are_grains capacities)
IsInRange (call.Pool pool kind format) = IsFormat format
IsInRange (call.PoolOnChain pool kind format chain) = IsTrue (may_be_on_chain kind) × IsFormat format
IsInRange (call.Table table length) = IsLength length
IsInRange (call.Area area length) = IsLength length
IsInRange (call.Blocks blocks length) = IsLength length
IsInRange (call.SetTag slot cell tag) = tag < tag_count
IsInRange (call.Cache cache pool count sizes limits) = (1 ≤ count) × (count ≤ most_classes) × IsTrue (list_all are_cached limits)
IsInRange (call.Intern label) = IsPaddedName label
IsInRange _ = Unit {0}

pub a_limit_of_all_grains : are_grains 2048 ≡ true
a_limit_of_all_grains = refl

pub a_limit_of_more_grains : are_grains 2049 ≡ false
a_limit_of_more_grains = refl

pub a_class_of_many_blocks : are_cached 64 ≡ true
a_class_of_many_blocks = refl

pub a_class_of_too_many_blocks : are_cached 65 ≡ false
a_class_of_too_many_blocks = refl

pub no_pool_of_leaves_on_a_chain : may_be_on_chain kind.Lo ≡ false
no_pool_of_leaves_on_a_chain = refl

pub a_name_of_four_letters : IsInRange (call.Intern (record { bytes = codes "ring" ++ replicate 12 0 }))
a_name_of_four_letters = record { word = codes "ring"; is = refl; padded = refl }
