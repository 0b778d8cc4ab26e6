-- `transadd` is right.
use Rattle.std.proofs.Common.{◌≡◌, ◌∙◌, ℕ, Bool, true, false, refl, sym, ap, subst, [], length, arith}
use Rattle.std.proofs.lemmas.Bool.{false≢true}
use Rattle.std.specs.Prelude.{nat_le, not}
use Rattle.std.specs.Option.{option_map_or}
use Rattle.mps_base.specs.declared.names.Name.{Name}
use Rattle.mps_base.specs.declared.names.Slot.{Slot}
use Rattle.mps_base.specs.declared.refusal.Refusal.{Refusal}
use Rattle.mps_base.specs.declared.refusal.Refusal.TheVariants as refusal
use Rattle.mps_format.specs.Layout.{Layout}
use Rattle.mps_format.specs.Pools.{is_copying_pool}
use Rattle.mps_laws.proofs.Same.{Same, fits, refused, same_next, same_refuse_when, same_then}
use Rattle.mps_model.specs.declared.call.Call.TheVariants as call
use Rattle.mps_model.specs.Checked.{Checked, Numbered, ◌>>◌, done, refuse_when}
use Rattle.mps_model.specs.Collecting.{with_state}
use Rattle.mps_model.specs.Graph.{Object}
use Rattle.mps_model.specs.Making.{refuse_at_limit}
use Rattle.mps_model.specs.Reply.{act}
use Rattle.mps_model.specs.Transforms.{is_old, most_pairs, pairs_of, with_pair}
use Rattle.mps_model.specs.World as world
use Rattle.mps_model.specs.World.{Parked, TransformPair, World, pairs_in}
use Rattle.mps_neighbours.specs.Transforms as ours
use Rattle.mps_neighbours.specs.Transforms.{has_old}
use Rattle.mps_xform.specs.declared.transforms.Pair.{Pair}
use Rattle.mps_format.specs.declared.pool.Pool.{Pool}
use Rattle.mps_heap_spec.specs.Coming.{Comes}
use Rattle.mps_heap_spec.specs.State.{HeapState}
use Rattle.mps_heap_spec.specs.Transforming.{is_moved_at, is_parked, pair_added, pair_of_objects, with_pair_checked, with_transforms}
use Rattle.mps_heap_spec.specs.declared.arena.ArenaState.{ArenaState}
use Rattle.mps_heap_spec.specs.declared.arena.ArenaState.TheVariants as arena
use Rattle.mps_heap_spec.specs.declared.found.Block.{Block}
use Rattle.mps_refinement.specs.Answering.{answer_to, says_ok}
use Rattle.mps_refinement.specs.RightStep.{IsRight}
use Rattle.mps_refinement.specs.StandsFor.{AreParts, Past, state_of}
use Rattle.mps_refinement.specs.Transforms.{IsPairOf}
use Rattle.mps_refinement.proofs.Calls.Transforming.{IsTransform, transform_same, transform_there}
use Rattle.mps_refinement.proofs.Lookups.LiveObjects.{IsObject, different, object_at_same, slot_may_read}
use Rattle.mps_refinement.proofs.Lookups.Lookups.{slot_same}
use Rattle.mps_refinement.proofs.Lookups.PoolKinds.{copying_by_number}
use Rattle.mps_refinement.proofs.Parts.Named.{named_alike}
use Rattle.mps_refinement.proofs.Parts.PartsMade.{transforms_changed}
use Rattle.mps_refinement.proofs.Parts.TransformChanges as changes
use Rattle.mps_refinement.proofs.Worlds.CollectorKept.{all_kept}
use Rattle.mps_refinement.proofs.Worlds.Known.{IsKnown}
use Rattle.mps_refinement.proofs.Worlds.Steps.{Leads, quiet_is_right}

-- a check that both make alike, and what comes next where it passes
pub same_unless : {A B : Type 0} {Fits : A → B → Type 0} {x : Checked A} {y : Checked B} (these those : Bool) (why : Refusal)
    → these ≡ those
    → (these ≡ false → Same Fits x y) → Same Fits (refuse_when these why >> x) (refuse_when those why >> y)
same_unless {Fits = Fits} {x = x} {y = y} these those why same next =
    subst (λ b. Same Fits (refuse_when these why >> x) (refuse_when b why >> y)) same (of_bool these next)
  where
    of_bool : (b : Bool) → (b ≡ false → Same Fits x y) → Same Fits (refuse_when b why >> x) (refuse_when b why >> y)
    of_bool true next = refused
    of_bool false next = next refl

module _ {F : Type 0} (layout : F → Layout) (h : HeapState F) (w : World) (past : Past) (parts : AreParts layout past h w)
    (knows : IsKnown past.time w) (name : Name) where
  parked_alike : is_parked h.arena ≡ world.is_parked w
  parked_alike = of_arena h.arena ∙ ap world.is_parked_state (sym parts.state)
    where
      of_arena : (a : ArenaState) → is_parked a ≡ world.is_parked_state (state_of a (pairs_in w.state))
      of_arena arena.Unclamped = refl
      of_arena arena.Clamped = refl
      of_arena arena.Parked = refl

  -- whether a collection moves an object, by the pool over its address
  moved_alike : (b : Block F) (n : Numbered Object) → IsObject layout past h w b n
      → is_moved_at h b.at ≡ world.is_copying_object w n.number
  moved_alike b n is =
      ap (λ o. option_map_or (λ (p : Pool F). is_copying_pool p) o false) is.block.pool_is
      ∙ copying_by_number layout w.formats is.block.pool is.block.models is.block.fit w n.value.pool is.block.has
      ∙ sym (ap (λ o. option_map_or (λ (x : Object). world.is_copying_pool w x.pool) o false) is.object)

  module _ (key number : ℕ) (is : IsTransform layout past h w parts name key number) (b c : Block F) (n m : Numbered Object)
      (first : IsObject layout past h w b n) (second : IsObject layout past h w c m) where
    abbrev pair : Pair
    pair = pair_of_objects h key b c

    abbrev theirs : TransformPair
    theirs = record { transform = number; old = n.number; new = m.number }

    fit : IsPairOf past.transform_number (world.is_copying_object w) w.addresses h.beside.transforms.live pair theirs
    fit = record {
      there = transform_there layout past h w parts name key number is;
      transform = is.number;
      old = first.address;
      new = second.address;
      inside = moved_alike b n first;
    }

    old_alike : has_old h.beside.transforms key b.at ≡ is_old (pairs_of w.state number) n.number
    old_alike =
        changes.same_old past.transform_number (world.is_copying_object w) w.addresses h.beside.transforms w.graph.transforms
        (pairs_in w.state) parts.transforms key (transform_there layout past h w parts name key number is)
        (different layout past h w parts) n.number b.at first.address
        ∙ ap (λ k. is_old (pairs_of w.state k) n.number) (sym is.number)

    abbrev state_added : world.ArenaState
    state_added = Parked (with_pair (pairs_in w.state) number n.number m.number)

    state_is : (a : ArenaState) → is_parked a ≡ true
        → state_added ≡ state_of a (with_pair (pairs_in w.state) number n.number m.number)
    state_is arena.Unclamped e = absurd (false≢true e)
    state_is arena.Clamped e = absurd (false≢true e)
    state_is arena.Parked e = refl

    added_parts : is_parked h.arena ≡ true
        → AreParts layout past (with_transforms h (ours.with_pair h.beside.transforms pair)) (with_state w state_added)
    added_parts parked =
        transforms_changed layout past h w parts past.transform_number (ours.with_pair h.beside.transforms pair) h.names
        w.graph.transforms w.graph.names state_added (state_is h.arena parked)
        (changes.pair_added past.transform_number (world.is_copying_object w) w.addresses h.beside.transforms w.graph.transforms
        (pairs_in w.state) parts.transforms pair theirs fit)
        (named_alike h (with_transforms h (ours.with_pair h.beside.transforms pair)) past w.graph.names w.graph.labels parts.names
        (λ other. refl) refl (record {
          pools = λ k low. low;
          caches = omega arith;
          tables = λ k some. some;
          areas = λ k some. some;
          blocks = λ k low. low;
          points = λ k some. some;
          dependencies = λ k low. low;
          chains = λ k low. low;
          transforms = refl;
        }))

    pair_same : is_parked h.arena ≡ true
        → Same (Leads layout says_ok h past w) (with_pair_checked h pair) (
        refuse_when (is_old (pairs_of w.state number) n.number) refusal.OldTwice
        >> (refuse_at_limit (length (pairs_in w.state)) most_pairs >> done (with_state w state_added))
        )
    pair_same parked =
        same_next
        (same_refuse_when (has_old h.beside.transforms key b.at) (is_old (pairs_of w.state number) n.number) refusal.OldTwice old_alike)
        (same_next (same_refuse_when (nat_le most_pairs (length h.beside.transforms.pairs)) (nat_le most_pairs (length (pairs_in w.state)))
        (refusal.TooMany most_pairs) (ap (nat_le most_pairs) (changes.same_length past.transform_number (world.is_copying_object w)
        w.addresses h.beside.transforms w.graph.transforms (pairs_in w.state) parts.transforms)))
        (fits (record {
          answer = refl;
          keeps = all_kept h;
          formats = refl;
          has = record { past = past; timed = refl; parts = added_parts parked };
        })))

  add_same : (old new : Slot) → Same (Leads layout says_ok h past w) (pair_added layout h name old new)
      (act false w w (call.TransformAdd name old new))
  add_same old new =
      same_then (transform_same layout past h w parts name) (λ key number is.
      same_then (slot_same layout past h w parts old) (λ from found has.
      same_then (slot_same layout past h w parts new) (λ to given has_too.
      same_then (object_at_same layout past h w parts knows from.value found.value has.fit.value
      (slot_may_read layout past h w parts knows old.index from found has.fit)) (λ b n first.
      same_then (object_at_same layout past h w parts knows to.value given.value has_too.fit.value
      (slot_may_read layout past h w parts knows new.index to given has_too.fit)) (λ c m second.
      same_unless (not (is_parked h.arena)) (not (world.is_parked w)) refusal.NotParked (ap not parked_alike) (λ parked.
      pair_same key number is b c n m first second (not_false (is_parked h.arena) parked)))))))
    where
      not_false : (b : Bool) → not b ≡ false → b ≡ true
      not_false true e = refl
      not_false false e = absurd (false≢true (sym e))

pub transadd_is_right : {F : Type 0} (layout : F → Layout) (h : HeapState F) (name : Name) (old new : Slot) (result : Checked (Unit {0}))
    (after : HeapState F) → Comes h (pair_added layout h name old new) result after
    → IsRight layout h (call.TransformAdd name old new) [] (answer_to says_ok result) after
transadd_is_right layout h name old new result after comes =
    quiet_is_right layout says_ok h (call.TransformAdd name old new) refl refl (pair_added layout h name old new) result after
    (λ w past parts knows. add_same layout h w past parts knows name old new) comes
