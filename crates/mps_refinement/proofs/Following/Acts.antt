-- A heap has nothing to follow of the act of a flip: no reference is cleared in it, and no object freed.
use Rattle.std.proofs.Common.{◌≡◌, ◌∙◌, ℕ, Bool, true, false, refl, ap, List, [], ◌∷◌, ◌++◌}
use Rattle.std.specs.Prelude.{if◌then◌else◌}
use Rattle.mps_base.specs.Address.{Address, Id}
use Rattle.mps_base.specs.Placement.{Placement, Place, NewSegment, OverLimit, NoFreeRun}
use Rattle.mps_base.specs.declared.moves.Move.{Move}
use Rattle.mps_format.specs.Layout.{Layout}
use Rattle.mps_model.specs.Accessing.{address_or_null}
use Rattle.mps_model.specs.Effect.{Condemnation, condemned_by, world_after_moves}
use Rattle.mps_model.specs.Flip.{end_where, fix, fix_all, flip_act, is_nothing, moves_to, must_be_fixed, world_at_flip}
use Rattle.mps_model.specs.Graph.{ids_in_slots}
use Rattle.mps_model.specs.Placement.{ForMove, placement_of}
use Rattle.mps_model.specs.World.{World}
use Rattle.mps_heap_spec.specs.Following.{move_followed, moves_followed}
use Rattle.mps_heap_spec.specs.State.{HeapState}

module _ {F : Type 0} (layout : F → Layout) (h : HeapState F) where
  abbrev HasNothing : List Move → Type 0
  HasNothing ms = moves_followed layout h ms ≡ h

  both_followed : (g : HeapState F) (ms more : List Move)
      → moves_followed layout g (ms ++ more) ≡ moves_followed layout (moves_followed layout g ms) more
  both_followed g [] more = refl
  both_followed g (m ∷ ms) more = both_followed (move_followed layout g m) ms more

  both_nothing : (ms more : List Move) → HasNothing ms → HasNothing more → HasNothing (ms ++ more)
  both_nothing ms more first last =
      both_followed h ms more ∙ ap (λ (g : HeapState F). moves_followed layout g more) first ∙ last

  moves_to_nothing : (w : World) (id : Id) (from : Address) (p : Placement) → HasNothing (moves_to w id from p)
  moves_to_nothing w id from (Place word) = refl
  moves_to_nothing w id from (NewSegment grain grains) = refl
  moves_to_nothing w id from (OverLimit committed need limit) = refl
  moves_to_nothing w id from (NoFreeRun need longest) = refl

  fix_nothing : (w : World) (id : Id) → HasNothing (fix w id)
  fix_nothing w id =
      elim (must_be_fixed w id) as (λ b. HasNothing
      (if b then moves_to w id (address_or_null w id) (placement_of w (ForMove id)) else [])) [
        | true ↦ moves_to_nothing w id (address_or_null w id) (placement_of w (ForMove id))
        | false ↦ refl
      ]

  fix_all_nothing : (w : World) (ids : List ℕ) → HasNothing (fix_all w ids)
  fix_all_nothing w [] = refl
  fix_all_nothing w (id ∷ ids) =
      both_nothing (fix w id) (fix_all (world_after_moves w (fix w id)) ids) (fix_nothing w id)
      (fix_all_nothing (world_after_moves w (fix w id)) ids)

  end_nothing : (b : Bool) → HasNothing (end_where b)
  end_nothing true = refl
  end_nothing false = refl

  pub act_has_nothing : (w : World) (what : Condemnation) → moves_followed layout h (flip_act w what) ≡ h
  act_has_nothing w what =
      both_nothing (fix_all (world_at_flip w what) (ids_in_slots w.graph ++ w.graph.messages))
      (end_where (is_nothing (condemned_by w what)))
      (fix_all_nothing (world_at_flip w what) (ids_in_slots w.graph ++ w.graph.messages))
      (end_nothing (is_nothing (condemned_by w what)))
