-- `depend` and `undepend` are right.
use Rattle.std.proofs.Common.{◌≡◌, ◌∙◌, ℕ, ◌+◌, true, false, refl, sym, ap, ap₂, subst, List, [], Option, Some, None, length}
use Rattle.std.proofs.lemmas.Bool.{and_from, and_parts}
use Rattle.std.proofs.lemmas.List.{length-map}
use Rattle.std.specs.Prelude.{◌&&◌, is_none, is_some, nat_le, not, option_map}
use Rattle.std.specs.List.{list_all}
use Rattle.std.specs.Option.{option_map_or}
use Rattle.mps_base.specs.Address.{Address, Id}
use Rattle.mps_base.specs.declared.names.Slot.{Slot}
use Rattle.mps_base.specs.declared.refusal.Refusal.TheVariants as refusal
use Rattle.mps_dep.specs.State.{dependent_of, is_full_for, max_pairs, with_pair, without_holder}
use Rattle.mps_dep.specs.declared.dependents.Pair.{Pair}
use Rattle.mps_format.specs.Layout.{Layout}
use Rattle.mps_format.specs.Pools.{is_weak_pool}
use Rattle.mps_format.specs.declared.pool.Pool.{Pool}
use Rattle.mps_laws.proofs.Positions.LegalMoves.{different}
use Rattle.mps_laws.proofs.Positions.Occupancy.{occupancy_of}
use Rattle.mps_laws.proofs.Same.{BothOrNeither, Same, both, fits, neither, same_next, same_refuse_when, same_required, same_then}
use Rattle.mps_laws.proofs.Sound.SoundGraph.{each-weaker}
use Rattle.mps_model.specs.declared.call.Call.TheVariants as call
use Rattle.mps_model.specs.Checked.{Checked, Numbered}
use Rattle.mps_model.specs.Dependents as model
use Rattle.mps_model.specs.Dependents.{most_dependents, with_dependent}
use Rattle.mps_model.specs.Graph as graph
use Rattle.mps_model.specs.Graph.{Object, dependent_in, entry_at, is_automatic, is_weak_object}
use Rattle.mps_model.specs.Reply.{act}
use Rattle.mps_model.specs.WellFormed.{is_live_automatic}
use Rattle.mps_model.specs.World.{World, is_live, is_weak_kind, object_is, pool_is}
use Rattle.mps_heap_spec.specs.Coming.{Comes}
use Rattle.mps_heap_spec.specs.Pairing.{dependent_linked, dependent_unlinked, is_weak_at, may_depend}
use Rattle.mps_heap_spec.specs.State.{HeapState, pool_over}
use Rattle.mps_heap_spec.specs.declared.found.Block.{Block}
use Rattle.mps_refinement.specs.Answering.{answer_to, says_ok}
use Rattle.mps_refinement.specs.Dependents.{kept_pair}
use Rattle.mps_refinement.specs.RightStep.{IsRight}
use Rattle.mps_refinement.specs.StandsFor.{AreParts, Past, address_of_id}
use Rattle.mps_refinement.proofs.Following.Pairs.{dependent_is, is_live_pair, linked_are, unlinked_are}
use Rattle.mps_refinement.proofs.Lookups.BlockRanks.{weak_there}
use Rattle.mps_refinement.proofs.Lookups.LiveObjects.{IsObject, object_at_same, object_then, slot_may_read}
use Rattle.mps_refinement.proofs.Lookups.Lookups.{slot_same}
use Rattle.mps_refinement.proofs.Lookups.PoolKinds.{weak_by_number}
use Rattle.mps_refinement.proofs.Parts.PairsKept.{is_automatic_pair, pairs_automatic}
use Rattle.mps_refinement.proofs.Parts.PairsWritten.{pairs_written}
use Rattle.mps_refinement.proofs.Worlds.CollectorKept.{all_kept}
use Rattle.mps_refinement.proofs.Worlds.Known.{IsKnown}
use Rattle.mps_refinement.proofs.Worlds.Steps.{Leads, quiet_is_right}

none_mapped : {A B : Type 0} (f : A → B) (o : Option A) → is_none (option_map f o) ≡ is_none o
none_mapped f None = refl
none_mapped f (Some a) = refl

both_mapped : {A B : Type 0} (f : A → B) (o : Option A) → BothOrNeither (λ (b : B) (a : A). Unit {0}) (option_map f o) o
both_mapped f None = neither
both_mapped f (Some a) = both tt

module _ {F : Type 0} (layout : F → Layout) (h : HeapState F) (w : World) (past : Past) (parts : AreParts layout past h w)
    (knows : IsKnown past.time w) where
  apart : (id other : Id) (at : Address) → entry_at w.addresses id ≡ Some at → entry_at w.addresses other ≡ Some at → id ≡ other
  apart = different (w.grains + 1) (occupancy_of w) knows.laid

  all_live : list_all (is_live_pair w.addresses apart) w.graph.dependents ≡ true
  all_live =
      each-weaker (is_automatic_pair w knows.graph knows.formed.dependents) (is_live_pair w.addresses apart) (λ p passes.
      let two = and_parts (is_live_automatic w p.0) (is_live_automatic w p.1) passes in
      and_from (is_some (entry_at w.addresses p.0)) (is_some (entry_at w.addresses p.1))
      (and_parts (is_live w p.0) (object_is is_automatic w p.0) two.0).0
      (and_parts (is_live w p.1) (object_is is_automatic w p.1) two.1).0) w.graph.dependents
      (pairs_automatic w knows.graph knows.formed.dependents)

  -- whether an object is weak, by the segment in which it lies
  weak_alike : (b : Block F) (n : Numbered Object) → IsObject layout past h w b n → is_weak_at h b.at ≡ is_weak_object n.value
  weak_alike b n is =
      weak_there h.segs w parts.segments knows.laid n.number b.at is.address is.block.address.aligned
      ∙ ap (λ o. option_map_or is_weak_object o false) is.object

  -- and whether its pool may hold weak ones, by the pool over its address
  pool_alike : (b : Block F) (n : Numbered Object) → IsObject layout past h w b n
      → option_map_or is_weak_pool (pool_over h b.at) false ≡ pool_is is_weak_kind w n.value.pool
  pool_alike b n is =
      ap (λ o. option_map_or (λ (p : Pool F). is_weak_pool p) o false) is.block.pool_is
      ∙ weak_by_number layout w.formats is.block.pool is.block.models is.block.fit w n.value.pool is.block.has

  may_alike : (b c : Block F) (n m : Numbered Object) → IsObject layout past h w b n → IsObject layout past h w c m
      → may_depend h b.at c.at ≡ model.may_depend w n.value m.value
  may_alike b c n m first second =
      ap (λ x. x && (option_map_or is_weak_pool (pool_over h c.at) false && not (is_weak_at h c.at))) (weak_alike b n first)
      ∙ ap (λ x. is_weak_object n.value && (x && not (is_weak_at h c.at))) (pool_alike c m second)
      ∙ ap (λ x. is_weak_object n.value && (pool_is is_weak_kind w m.value.pool && not x)) (weak_alike c m second)

  -- the dependent of an object
  found_alike : (b : Block F) (n : Numbered Object) → IsObject layout past h w b n
      → dependent_of h.beside.dependents b.at ≡ option_map (address_of_id w.addresses) (dependent_in w.graph.dependents n.number)
  found_alike b n is =
      ap (λ (ps : List Pair). dependent_of ps b.at) parts.beside.dependents
      ∙ dependent_is w.addresses apart w.graph.dependents n.number b.at all_live is.address

  full_alike : (b : Block F) (n : Numbered Object) → IsObject layout past h w b n
      → is_full_for h.beside.dependents b.at
      ≡ (is_none (dependent_in w.graph.dependents n.number) && nat_le most_dependents (length w.graph.dependents))
  full_alike b n is =
      ap₂ (λ x y. x && y)
      (ap is_none (found_alike b n is) ∙ none_mapped (address_of_id w.addresses) (dependent_in w.graph.dependents n.number))
      (ap (nat_le max_pairs)
      (ap length parts.beside.dependents ∙ length-map w.graph.dependents (kept_pair w.addresses)))

  depends_same : (holder dependent : Slot)
      → Same (Leads layout says_ok h past w) (dependent_linked layout h holder dependent) (act false w w (call.Depend holder dependent))
  depends_same holder dependent =
      same_then (slot_same layout past h w parts holder) (λ from found has.
      same_then (slot_same layout past h w parts dependent) (λ to given has_too.
      same_then (object_at_same layout past h w parts knows from.value found.value has.fit.value
      (slot_may_read layout past h w parts knows holder.index from found has.fit)) (λ b n first.
      same_then (object_at_same layout past h w parts knows to.value given.value has_too.fit.value
      (slot_may_read layout past h w parts knows dependent.index to given has_too.fit)) (λ c m second.
      same_next
      (same_refuse_when (not (may_depend h b.at c.at)) (not (model.may_depend w n.value m.value)) refusal.WrongPool
      (ap not (may_alike b c n m first second)))
      (same_next
      (same_refuse_when (is_full_for h.beside.dependents b.at)
      (is_none (dependent_in w.graph.dependents n.number) && nat_le most_dependents (length w.graph.dependents))
      (refusal.TooMany max_pairs) (full_alike b n first))
      (fits (record {
        answer = refl;
        keeps = all_kept h;
        formats = refl;
        has = record {
          past = past;
          timed = refl;
          parts = pairs_written layout past h w parts (with_pair h.beside.dependents b.at c.at)
              (with_dependent w.graph.dependents n.number m.number)
              (ap (λ (ps : List Pair). with_pair ps b.at c.at) parts.beside.dependents
              ∙ linked_are w.addresses apart w.graph.dependents n.number m.number b.at c.at all_live first.address second.address);
        };
      })))))))

  undepends_same : (holder : Slot)
      → Same (Leads layout says_ok h past w) (dependent_unlinked layout h holder) (act false w w (call.Undepend holder))
  undepends_same holder =
      object_then layout past h w parts knows holder (λ b n is.
      same_next
      (same_required refusal.NotLinked
      (subst (λ o. BothOrNeither (λ (x : Address) (y : ℕ). Unit {0}) o (dependent_in w.graph.dependents n.number))
      (sym (found_alike b n is)) (both_mapped (address_of_id w.addresses) (dependent_in w.graph.dependents n.number))))
      (fits (record {
        answer = refl;
        keeps = all_kept h;
        formats = refl;
        has = record {
          past = past;
          timed = refl;
          parts = pairs_written layout past h w parts (without_holder h.beside.dependents b.at)
              (graph.without_holder w.graph.dependents n.number)
              (ap (λ (ps : List Pair). without_holder ps b.at) parts.beside.dependents
              ∙ unlinked_are w.addresses apart w.graph.dependents n.number b.at all_live is.address);
        };
      })))

pub depend_is_right : {F : Type 0} (layout : F → Layout) (h : HeapState F) (holder dependent : Slot) (result : Checked (Unit {0}))
    (after : HeapState F) → Comes h (dependent_linked layout h holder dependent) result after
    → IsRight layout h (call.Depend holder dependent) [] (answer_to says_ok result) after
depend_is_right layout h holder dependent result after =
    quiet_is_right layout says_ok h (call.Depend holder dependent) refl refl (dependent_linked layout h holder dependent)
    result after (λ w past parts knows. depends_same layout h w past parts knows holder dependent)

pub undepend_is_right : {F : Type 0} (layout : F → Layout) (h : HeapState F) (holder : Slot) (result : Checked (Unit {0}))
    (after : HeapState F) → Comes h (dependent_unlinked layout h holder) result after
    → IsRight layout h (call.Undepend holder) [] (answer_to says_ok result) after
undepend_is_right layout h holder result after =
    quiet_is_right layout says_ok h (call.Undepend holder) refl refl (dependent_unlinked layout h holder)
    result after (λ w past parts knows. undepends_same layout h w past parts knows holder)
