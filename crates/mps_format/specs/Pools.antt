-- What a heap's pools are, and what a collection knows of them.
use Rattle.std.specs.Prelude.{ℕ, ◌≡◌, Bool, true, false, not, ◌||◌, Option, Some, None, option_map, refl}
use Rattle.mps_base.specs.PoolKind.{traits_of}
use Rattle.mps_base.specs.declared.names.Kind.TheVariants as kind
use Rattle.mps_format.specs.declared.pool.Policy.{Policy}
use Rattle.mps_format.specs.declared.pool.Pool.{Pool}
use Rattle.mps_format.specs.declared.pool.Pool.TheVariants as pool

module _ {F : Type 0} where
  -- the format of the objects of a pool, where it is automatic
  abbrev pub format_of_pool : Pool F → Option F
  format_of_pool (pool.Automatic kind format) = Some format
  format_of_pool (pool.OneSize words) = None
  format_of_pool pool.AnySize = None

  abbrev pub is_automatic_pool : Pool F → Bool
  is_automatic_pool (pool.Automatic kind format) = true
  is_automatic_pool (pool.OneSize words) = false
  is_automatic_pool pool.AnySize = false

  -- whether a collection moves the blocks of a pool
  abbrev pub is_copying_pool : Pool F → Bool
  is_copying_pool (pool.Automatic kind format) = (traits_of kind).moves
  is_copying_pool (pool.OneSize words) = false
  is_copying_pool pool.AnySize = false

  -- what a collection knows of a pool, where it is automatic: the format of its objects, and whether it moves them
  abbrev pub policy_of_pool : Pool F → Option (Policy F)
  policy_of_pool p = option_map (λ (format : F). record { format = format; moves = is_copying_pool p }) (format_of_pool p)

  -- whether the objects of a pool have no references
  abbrev pub is_leaf_pool : Pool F → Bool
  is_leaf_pool (pool.Automatic kind format) = (traits_of kind).leaf
  is_leaf_pool (pool.OneSize words) = false
  is_leaf_pool pool.AnySize = false

  -- whether the objects of a pool may be weak
  abbrev pub is_weak_pool : Pool F → Bool
  is_weak_pool (pool.Automatic kind format) = (traits_of kind).weak
  is_weak_pool (pool.OneSize words) = false
  is_weak_pool pool.AnySize = false

  -- the size of a pool's blocks, 0 where that is open
  abbrev pub size_of_pool : Pool F → ℕ
  size_of_pool (pool.OneSize words) = words
  size_of_pool _ = 0

  -- the blocks of a pool are moved by a collection, or it isn't collected
  abbrev pub is_moved_or_manual : Pool F → Bool
  is_moved_or_manual p = not (is_automatic_pool p) || is_copying_pool p

-- ---- vectors

pub an_lo_pool_has_leaves : is_leaf_pool {F = ℕ} (pool.Automatic kind.Lo 7) ≡ true
an_lo_pool_has_leaves = refl

pub it_does_not_copy : is_copying_pool {F = ℕ} (pool.Automatic kind.Lo 7) ≡ false
it_does_not_copy = refl

pub a_manual_pool_has_no_format : format_of_pool {F = ℕ} (pool.OneSize 4) ≡ None
a_manual_pool_has_no_format = refl

pub a_pool_that_marks_is_not_moved : is_moved_or_manual {F = ℕ} (pool.Automatic kind.Ams 7) ≡ false
a_pool_that_marks_is_not_moved = refl

pub a_manual_pool_is_left_alone : is_moved_or_manual {F = ℕ} (pool.OneSize 4) ≡ true
a_manual_pool_is_left_alone = refl
