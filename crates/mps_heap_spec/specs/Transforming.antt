-- The outcomes of the calls on transforms. None takes memory, and none makes moves.
use Rattle.std.specs.Prelude.{ℕ, zero, suc, ◌≡◌, ◌%◌, ◌≤◌, Bool, true, false, not, ◌&&◌, nat_lt, Option, Some, None, List, Result, Ok, Err, is_some, length, slice_get, option_and_then}
use Rattle.std.specs.List.{All}
use Rattle.std.specs.Option.{option_map_or}
use Rattle.mps_base.specs.Address.{Address, bytes_of_word}
use Rattle.mps_base.specs.declared.names.Name.{Name}
use Rattle.mps_base.specs.declared.names.Slot.{Slot}
use Rattle.mps_base.specs.declared.refusal.Refusal.{Refusal}
use Rattle.mps_base.specs.declared.refusal.Refusal.TheVariants as refusal
use Rattle.mps_format.specs.Layout.{Layout}
use Rattle.mps_buffer.specs.Points.{has_live_reservation}
use Rattle.mps_format.specs.Pools.{format_of_pool, is_copying_pool}
use Rattle.mps_format.specs.declared.pool.Pool.{Pool}
use Rattle.mps_model.specs.Checked.{Checked, ◌>>=◌, ◌>>◌, refuse_when}
use Rattle.mps_model.specs.Making.{refuse_at_limit}
use Rattle.mps_model.specs.Transforms.{most_pairs, most_transforms}
use Rattle.mps_names.specs.State.{NamesState, Updates, own_room, thing_named}
use Rattle.mps_names.specs.declared.names.Thing.TheVariants as thing
use Rattle.mps_neighbours.specs.Transforms.{TransformsState, free_number, has_old, is_live, new_address, pair_of, with_pair, with_transform, without_transform}
use Rattle.mps_seg.specs.Segs.{SegsState}
use Rattle.mps_xform.specs.Applying.{CanApply, after_apply}
use Rattle.mps_xform.specs.Blocking.{is_blocked}
use Rattle.mps_xform.specs.Slots.{AreListedOnce, slots_after_apply}
use Rattle.mps_xform.specs.Summed.{AreBlocksSummed}
use Rattle.mps_xform.specs.declared.transforms.Pair.{Pair}
use Rattle.mps_heap_spec.specs.Coming.{Outcome, done}
use Rattle.mps_heap_spec.specs.Finding.{object_at, slot_in, transform_named}
use Rattle.mps_heap_spec.specs.Making.{refuse_taken}
use Rattle.mps_heap_spec.specs.State.{HeapState, pool_over}
use Rattle.mps_heap_spec.specs.declared.arena.ArenaState.{ArenaState}
use Rattle.mps_heap_spec.specs.declared.arena.ArenaState.TheVariants as arena
use Rattle.mps_heap_spec.specs.declared.found.Block.{Block}

-- whether an arena is parked
abbrev pub is_parked : ArenaState → Bool
is_parked arena.Unclamped = false
is_parked arena.Clamped = false
is_parked arena.Parked = true

module _ {F : Type 0} where
  -- the state with these transforms
  abbrev pub with_transforms : HeapState F → TransformsState → HeapState F
  with_transforms h transforms = record h { beside = record h.beside { transforms = transforms } }

  -- each transform that has a name is there. Each heap keeps it
  pub record AreTransformsThere (h : HeapState F) : Type 0 where
    pub there : (name : Name) (number : ℕ) → thing_named h.names name ≡ Some (thing.Transform number)
        → is_live h.beside.transforms number ≡ true

  -- ---- making

  -- one more transform fits, and so does its name
  abbrev pub has_room_for_transform : HeapState F → Bool
  has_room_for_transform h = nat_lt 0 (own_room h.names.counts (thing.Transform 0)) && is_some (free_number h.beside.transforms)

  abbrev pub check_transform : HeapState F → Name → Checked (Unit {0})
  check_transform h name = do
    refuse_taken h name
    refuse_when (not (has_room_for_transform h)) (refusal.TooMany most_transforms)

  -- a transform without pairs is made, of the lowest number that is free
  pub record MakesTransform (h : HeapState F) (name : Name) (number : ℕ) (after : HeapState F) : Type 0 where
    pub number_is : free_number h.beside.transforms ≡ Some number
    pub names : Updates h.names after.names name (Some (thing.Transform number))
    pub state : after ≡ record (with_transforms h (with_transform h.beside.transforms number)) { names = after.names }

  -- a call that makes a transform: it is refused, or the transform is made
  pub data IsTransforming (h : HeapState F) (name : Name) : Result (Unit {0}) Refusal → HeapState F → Type 0 where
    NotTransformed : {why : Refusal} → check_transform h name ≡ Err why → IsTransforming h name (Err why) h
    Transformed : {after : HeapState F} {number : ℕ} → check_transform h name ≡ Ok tt → MakesTransform h name number after
        → IsTransforming h name (Ok tt) after

  -- ---- dropping

  -- a transform goes with its pairs
  abbrev pub transform_dropped : HeapState F → Name → Checked (NamesState → HeapState F)
  transform_dropped h name = do
    number ← transform_named h name
    Ok (λ names. record (with_transforms h (without_transform h.beside.transforms number)) { names = names })

  -- ---- adding

  -- whether a collection moves the block at an address
  abbrev pub is_moved_at : HeapState F → Address → Bool
  is_moved_at h at = option_map_or (λ p. is_copying_pool p) (pool_over h at) false

  -- the pair of two objects
  abbrev pub pair_of_objects : HeapState F → (number : ℕ) → (old new : Block F) → Pair
  pair_of_objects h number old new = record {
    transform = number;
    old = record { 0 = old.at };
    new = record { 0 = new.at };
    inside = is_moved_at h old.at;
  }

  -- a pair is added, if its old object is in no pair of its transform and fewer pairs are there than there may be
  abbrev pub with_pair_checked : HeapState F → Pair → Checked (Outcome F (Unit {0}))
  with_pair_checked h pair = do
    refuse_when (has_old h.beside.transforms pair.transform pair.old.0) refusal.OldTwice
    refuse_at_limit (length h.beside.transforms.pairs) most_pairs
    done (with_transforms h (with_pair h.beside.transforms pair))

-- a pair of the objects in two slots is added to a transform
abbrev pub pair_added : {F : Type 0} → (layout : F → Layout) → HeapState F → Name → (old new : Slot) → Checked (Outcome F (Unit {0}))
pair_added layout h name old new = do
  number ← transform_named h name
  from ← slot_in h old
  to ← slot_in h new
  first ← object_at layout h from.value
  second ← object_at layout h to.value
  refuse_when (not (is_parked h.arena)) refusal.NotParked
  with_pair_checked h (pair_of_objects h number first second)

-- ---- applying

module _ {F : Type 0} where
  -- the transform that may be applied, by its number: the arena is parked, and no point has a reservation that no flip ended
  abbrev pub check_apply : HeapState F → Name → Checked ℕ
  check_apply h name = do
    number ← transform_named h name
    refuse_when (not (is_parked h.arena)) refusal.NotParked
    refuse_when (has_live_reservation h.points) refusal.Open
    Ok number

  -- the state with these segments
  abbrev pub with_segs : HeapState F → SegsState → HeapState F
  with_segs h segs = record h { segs = segs }

  -- a word of an area lies in an old block of a transform
  abbrev pub is_blocked_by : HeapState F → (number : ℕ) → Bool
  is_blocked_by h number = is_blocked (pair_of h.beside.transforms number) h.segs.blocks h.roots.areas

module _ {F : Type 0} (layout : F → Layout) where
  module _ (to : Address → Option Address) where
    -- the segments after the references of a pool lead to new addresses, by the pool's format. A manual pool has no references
    abbrev pub with_pool_applied : Option F → (number : ℕ) → SegsState → SegsState
    with_pool_applied None number s = s
    with_pool_applied (Some format) number s = after_apply (layout format) to s number

    -- the same of the pools below a number, each once
    abbrev pub with_pools_applied : List (Pool F) → (count : ℕ) → SegsState → SegsState
    with_pools_applied pools zero s = s
    with_pools_applied pools (suc number) s =
        with_pool_applied (option_and_then format_of_pool (slice_get pools number)) number (with_pools_applied pools number s)

  -- the references of all automatic pools, and the slots of all tables, lead to the new addresses of a transform
  abbrev pub with_transform_applied : HeapState F → (number : ℕ) → HeapState F
  with_transform_applied h number = record h {
    segs = with_pools_applied (new_address h.beside.transforms number) h.pools (length h.pools) h.segs;
    roots = slots_after_apply (new_address h.beside.transforms number) h.roots;
  }

  -- what applying a transform to the pools from a number on asks for: it can be applied to each automatic pool by its own format, blocks
  -- of those that are still to come are summed, each new address is that of a word, and the order of the tables has each key once
  pub record CanTransformFrom (h : HeapState F) (first : ℕ) : Type 0 where
    pub pools : (number : ℕ) (format : F) → option_and_then format_of_pool (slice_get h.pools number) ≡ Some format
        → CanApply (layout format) h.segs number
    pub summed : (number : ℕ) (format : F) → first ≤ number → option_and_then format_of_pool (slice_get h.pools number) ≡ Some format
        → AreBlocksSummed (layout format) h.segs number
    pub aligned : All (λ p. p.new.0 % bytes_of_word ≡ 0) h.beside.transforms.pairs
    pub slots : AreListedOnce h.roots

  -- what applying a transform asks for. Each parked heap keeps it
  abbrev pub CanTransform : HeapState F → Type 0
  CanTransform h = CanTransformFrom h 0

  -- a transform is applied, and goes with its pairs
  pub record AppliesTransform (h : HeapState F) (name : Name) (number : ℕ) (after : HeapState F) : Type 0 where
    pub names : Updates h.names after.names name None
    pub state : after
        ≡ record (with_transforms (with_transform_applied h number) (without_transform h.beside.transforms number)) { names = after.names }

  -- a call that applies a transform: it is refused, or an area word keeps it from being applied and nothing changes, or it is applied
  pub data IsApplying (h : HeapState F) (name : Name) : Result Bool Refusal → HeapState F → Type 0 where
    NotApplied : {why : Refusal} → check_apply h name ≡ Err why → IsApplying h name (Err why) h
    KeptFromApplying : {number : ℕ} → check_apply h name ≡ Ok number → is_blocked_by h number ≡ true → IsApplying h name (Ok false) h
    Applied : {after : HeapState F} {number : ℕ} → check_apply h name ≡ Ok number → is_blocked_by h number ≡ false
        → AppliesTransform h name number after → IsApplying h name (Ok true) after
