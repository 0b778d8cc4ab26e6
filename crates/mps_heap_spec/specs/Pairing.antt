-- The outcomes of the calls on pairs of holders and dependents.
use Rattle.std.specs.Prelude.{◌≡◌, Bool, false, not, ◌&&◌, Err, [], ◌∷◌, replicate, refl}
use Rattle.std.specs.Option.{option_map_or}
use Rattle.mps_base.specs.Address.{Address}
use Rattle.mps_base.specs.Segment.{same_rank}
use Rattle.mps_base.specs.declared.names.Rank.TheVariants.{Weak}
use Rattle.mps_base.specs.declared.names.Slot.{Slot}
use Rattle.mps_base.specs.declared.refusal.Refusal.TheVariants as refusal
use Rattle.mps_dep.specs.State.{dependent_of, is_full_for, max_pairs, the_pair, with_pair, without_holder}
use Rattle.mps_format.specs.Layout.{Layout}
use Rattle.mps_format.specs.Pools.{is_weak_pool}
use Rattle.mps_model.specs.Checked.{Checked, ◌>>=◌, ◌>>◌, refuse_when, required}
use Rattle.mps_seg.specs.Collecting.{rank_at}
use Rattle.mps_heap_spec.specs.Coming.{Outcome, done}
use Rattle.mps_heap_spec.specs.Finding.{object_at, object_in, slot_in}
use Rattle.mps_heap_spec.specs.Following.{with_dependents}
use Rattle.mps_heap_spec.specs.State.{HeapState, pool_over}

module _ {F : Type 0} where
  -- whether the object at an address is weak
  abbrev pub is_weak_at : HeapState F → Address → Bool
  is_weak_at h at = same_rank (rank_at h.segs at) Weak

  -- whether an object may be the dependent of another: that one is weak, and this one isn't, of a pool that may hold weak ones
  abbrev pub may_depend : HeapState F → (holder dependent : Address) → Bool
  may_depend h holder dependent =
      is_weak_at h holder && (option_map_or is_weak_pool (pool_over h dependent) false && not (is_weak_at h dependent))

  -- a holder has this dependent, in place of an earlier one, if it has one or fewer pairs are there than there may be
  abbrev pub with_pair_checked : HeapState F → (holder dependent : Address) → Checked (Outcome F (Unit {0}))
  with_pair_checked h holder dependent = do
    refuse_when (is_full_for h.beside.dependents holder) (refusal.TooMany max_pairs)
    done (with_dependents h (with_pair h.beside.dependents holder dependent))

  -- a holder has no dependent any more
  abbrev pub without_dependent : HeapState F → (holder : Address) → Checked (Outcome F (Unit {0}))
  without_dependent h holder = do
    required (dependent_of h.beside.dependents holder) refusal.NotLinked
    done (with_dependents h (without_holder h.beside.dependents holder))

module _ {F : Type 0} (layout : F → Layout) where
  -- the object in a slot has the one in another as its dependent
  abbrev pub dependent_linked : HeapState F → (holder dependent : Slot) → Checked (Outcome F (Unit {0}))
  dependent_linked h holder dependent = do
    from ← slot_in h holder
    to ← slot_in h dependent
    weak ← object_at layout h from.value
    exact ← object_at layout h to.value
    refuse_when (not (may_depend h weak.at exact.at)) refusal.WrongPool
    with_pair_checked h weak.at exact.at

  -- the object in a slot has no dependent any more
  abbrev pub dependent_unlinked : HeapState F → (holder : Slot) → Checked (Outcome F (Unit {0}))
  dependent_unlinked h holder = do
    weak ← object_in layout h holder
    without_dependent h weak.at

-- ---- vectors: the object at 40 has the one at 8 as its dependent

abbrev a_pair : {F : Type 0} → HeapState F → HeapState F
a_pair h = with_dependents h (the_pair 40 8 ∷ [])

abbrev full : {F : Type 0} → HeapState F → HeapState F
full h = with_dependents h (replicate max_pairs (the_pair 40 8))

pub another_takes_its_place : {F : Type 0} (h : HeapState F)
    → with_pair_checked (a_pair h) 40 16 ≡ done (with_dependents h (the_pair 40 16 ∷ []))
another_takes_its_place h = refl

pub one_pair_too_many : {F : Type 0} (h : HeapState F) → with_pair_checked (full h) 48 16 ≡ Err (refusal.TooMany 1024)
one_pair_too_many h = refl

pub the_pair_ends : {F : Type 0} (h : HeapState F) → without_dependent (a_pair h) 40 ≡ done (with_dependents h [])
the_pair_ends h = refl

pub a_dependent_has_none : {F : Type 0} (h : HeapState F) → without_dependent (a_pair h) 8 ≡ Err refusal.NotLinked
a_dependent_has_none h = refl
