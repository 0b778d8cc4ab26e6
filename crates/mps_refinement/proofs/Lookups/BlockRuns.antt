-- The runs of blocks against live objects: the run that begins at an object's address has its words, and where no collection runs these
-- are its image. So borrowed words are those of the model.
use Rattle.std.proofs.Common.{◌≡◌, ◌∙◌, ℕ, ◌+◌, Bool, true, refl, sym, ap, subst, List, [], map, Option, Some, None, Contains, inl, inr, is_some}
use Rattle.std.proofs.lemmas.Bool.{cases_eq}
use Rattle.std.proofs.lemmas.Option.{none-some, same_Some, slice_get-map}
use Rattle.std.specs.Prelude.{slice_get, slice_range, option_map}
use Rattle.std.specs.Option.{option_map_or}
use Rattle.mps_base.specs.Address.{Address, Id, word_of}
use Rattle.mps_base.specs.Run.{Run, in_order}
use Rattle.mps_trace_laws.specs.Image.AtRest.{AreTargetsLive, HoldsImages, StandsAtRest}
use Rattle.mps_trace_laws.specs.Image.Image.{LieApart}
use Rattle.mps_trace_laws.specs.Image.Memory.{Setting, all_cells}
use Rattle.mps_trace_laws.proofs.Image.AtRest.{resting_arena_holds_images}
use Rattle.mps_trace_laws.proofs.Image.BlockRuns as runs
use Rattle.mps_trace_laws.proofs.Image.BlockRuns.{all_contained}
use Rattle.mps_trace_laws.proofs.Image.Extents.{all_extents}
use Rattle.mps_trace_laws.proofs.Image.Marked.{begins_apart}
use Rattle.mps_laws.proofs.Positions.ApartRuns.{all_in_order}
use Rattle.mps_laws.proofs.Sound.HeldIds.{All}
use Rattle.mps_laws.proofs.QuietSteps.{IsSound}
use Rattle.mps_laws.proofs.Sound.Referred.{sound_parts}
use Rattle.mps_laws.proofs.Sound.SoundGraph.{PassesOrNull, entry-passes}
use Rattle.mps_model.proofs.AtRest.{is_running-none}
use Rattle.mps_model.specs.Graph.{Cell, NumberCell, Body, Automatic, Manual, Object, entry_at, size_of, target_of_cell, targets_of, targets_of_body}
use Rattle.mps_model.specs.Image.{image_of_body}
use Rattle.mps_model.specs.World.{World, extent, extents_of, is_live, words_of}
use Rattle.mps_seg.specs.Segs.{SegsState}
use Rattle.mps_refinement.proofs.Lookups.Found.{mapped_some, some_there}

-- ---- the run of a block

module _ (s : Setting) (addresses : List (Option Address)) (placed : LieApart s addresses) (g : SegsState)
    (blocks : g.blocks ≡ in_order (extents_of s.objects addresses)) (id : Id) (at : Address) (o : Object)
    (there : entry_at addresses id ≡ Some at) (object : slice_get s.objects id ≡ Some o) where
  -- it is one of the runs of blocks
  pub run_there : Contains g.blocks (extent at (size_of o))
  run_there =
      subst (λ rs. Contains rs (extent at (size_of o))) (sym blocks) (runs.run_there s.objects addresses id at o there object)

  -- and no other begins there
  pub run_is : (n : ℕ) → Contains g.blocks (record { from = word_of at; count = n }) → n ≡ size_of o
  run_is n has =
      let P : Run → Type 0 = λ r. r.from ≡ word_of at → r.count ≡ size_of o in
      all_contained P (in_order (extents_of s.objects addresses)) (record { from = word_of at; count = n })
      (all_in_order P (extents_of s.objects addresses) (all_extents P s.objects addresses (λ j bt p e x same.
      elim (cases_eq j id) [
        | inl one ↦
            let own : p ≡ o = same_Some p o (sym x ∙ ap (slice_get s.objects) one ∙ object) in ap (λ (q : Object). size_of q) own
        | inr other ↦ absurd (begins_apart s addresses placed j id bt at e there other same)
      ])))
      (subst (λ rs. Contains rs (record { from = word_of at; count = n })) blocks has) refl

-- ---- images

-- what a cell of an object refers to is one of its targets
cell_target : (test : ℕ → Bool) (b : Body) (i : ℕ) (c : Cell) (t : Id) → All test (targets_of_body b) → slice_get (all_cells b) i ≡ Some c
    → target_of_cell c ≡ Some t → test t ≡ true
cell_target test (Automatic head cells is_weak) i c t all cell is =
    subst (PassesOrNull test) is
    (entry-passes test (map target_of_cell cells) i (target_of_cell c) all
    (slice_get-map target_of_cell cells i ∙ ap (option_map target_of_cell) cell))
cell_target test (Manual words) i c t all cell is =
    let number = mapped_some NumberCell (slice_get words i) c (sym (slice_get-map NumberCell words i) ∙ cell) in
    absurd (none-some t (ap target_of_cell number.2 ∙ is))

-- where no collection runs, what live objects refer to is live
pub targets_live : (w : World) → w.collection ≡ None → IsSound w → AreTargetsLive w.graph.objects w.addresses
targets_live w rest sound id i o n c t l cell is =
    let referred = (sound_parts w sound).referred (is_running-none w rest) id (ap is_some l.address) in
    some_there (entry_at w.addresses t)
    (cell_target (is_live w) o.body i c t (subst (λ found. All (is_live w) (option_map_or targets_of found [])) l.object referred) cell is)

module _ (g : SegsState) (w : World) (stands : StandsAtRest g w) (rest : w.collection ≡ None) (sound : IsSound w) where
  pub holds_images : HoldsImages w g.words
  holds_images = resting_arena_holds_images g w stands (targets_live w rest sound)

  module _ (id : Id) (at : Address) (o : Object) (there : entry_at w.addresses id ≡ Some at) (object : slice_get w.graph.objects id
      ≡ Some o)
    where
      size_is : words_of w id ≡ size_of o
      size_is = ap (λ found. option_map_or size_of found 0) object

      -- the words of a live object are those of its body
      pub words_are : slice_range g.words (word_of at) (word_of at + size_of o) ≡ image_of_body w o.body
      words_are =
          ap (λ n. slice_range g.words (word_of at) (word_of at + n)) (sym size_is) ∙ holds_images id at there
          ∙ ap (λ found. option_map_or (λ (q : Object). image_of_body w q.body) found []) object
