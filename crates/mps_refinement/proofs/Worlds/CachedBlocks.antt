-- Worlds in which a block was taken from a cache, or put into one: what they hold is live, and they are laid out.
use Rattle.std.proofs.Common.{◌≡◌, ◌∙◌, ℕ, ◌+◌, Bool, true, refl, sym, ap, subst, List, [], ◌∷◌, Option, Some, None, inl, inr}
use Rattle.std.proofs.lemmas.Bool.{cases_eq}
use Rattle.std.proofs.lemmas.Option.{slice_get_within}
use Rattle.std.specs.Prelude.{◌||◌, slice_get, slice_set}
use Rattle.std.specs.List.{flat_map, list_all}
use Rattle.std.specs.Option.{option_map_or}
use Rattle.mps_base.specs.declared.moves.Move.{Move}
use Rattle.mps_base.specs.declared.names.Name.{Name}
use Rattle.mps_base.specs.declared.names.Slot.{Slot}
use Rattle.mps_changes.proofs.OneMore.{HasOneMore, both_pass, cache_less, cache_more, less_pass, more_pass, parts_pass, place_emptied, place_filled}
use Rattle.mps_laws.proofs.Lookups.{slice_get-set_other, slice_get-set_same}
use Rattle.mps_laws.proofs.Positions.LaidOut.{IsLaidOut}
use Rattle.mps_laws.proofs.Positions.LegalMoves.{HasLayout}
use Rattle.mps_laws.proofs.Replays.FreeSteps.{cache_free_step}
use Rattle.mps_laws.proofs.Replays.ManualSteps.{take_step}
use Rattle.mps_laws.proofs.Replays.Steps.{remembered_kept}
use Rattle.mps_model.specs.declared.reply.Reply.TheVariants as reply
use Rattle.mps_model.specs.Answer.{Answer, Replied}
use Rattle.mps_model.specs.Caches.{act_cache_alloc, act_cache_free, body_cleared, graph_cached, graph_cleared, graph_uncached, kept_in, taken_from, with_classes}
use Rattle.mps_model.specs.Checked.{Found, Numbered, block_place_in, cache_named, done, with_graph}
use Rattle.mps_model.specs.Effect.{world_after_moves}
use Rattle.mps_model.specs.Graph.{Body, Automatic, Manual, Cache, CacheClass, Graph, Object, ids_in_blocks, ids_in_caches, ids_in_places, object_at, targets, targets_of, targets_of_body}
use Rattle.mps_model.specs.History.{HeldAreLive, moves_of_cache_alloc, moves_of_cache_free, unless_refused, with_client_remembered}
use Rattle.mps_model.specs.Reply.{answer_from, world_from}
use Rattle.mps_model.specs.World.{World, is_live, is_running, live_ids}

abbrev ok : Answer
ok = Replied reply.Ok

-- ---- the words of a block are cleared

cleared_refers : (b : Body) → targets_of_body (body_cleared b) ≡ targets_of_body b
cleared_refers (Automatic head cells is_weak) = refl
cleared_refers (Manual words) = refl

-- it referred to nothing, and does so still
cleared_targets : (g : Graph) (id j : ℕ) → targets (graph_cleared g id) j ≡ targets g j
cleared_targets g id j = of_object (object_at g id) refl
  where
    of_object : (o : Option Object) → slice_get g.objects id ≡ o
        → option_map_or targets_of (slice_get (option_map_or (λ (x : Object). slice_set g.objects id
        (record x { body = body_cleared x.body })) o g.objects) j) [] ≡ option_map_or targets_of (slice_get g.objects j) []
    of_object None e = refl
    of_object (Some x) e =
        elim (cases_eq id j) [
          | inl same ↦
              ap (λ n. option_map_or targets_of (slice_get (slice_set g.objects id (record x { body = body_cleared x.body })) n) [])
              (sym same)
              ∙ ap (λ o. option_map_or targets_of o []) (slice_get-set_same g.objects id (record x { body = body_cleared x.body })
              (slice_get_within g.objects id x e))
              ∙ cleared_refers x.body
              ∙ sym (ap (λ o. option_map_or targets_of o []) (ap (slice_get g.objects) (sym same) ∙ e))
          | inr other ↦
              ap (λ o. option_map_or targets_of o []) (slice_get-set_other g.objects id j (record x { body = body_cleared x.body }) other)
        ]

flat_map_same : (f g : ℕ → List ℕ) (xs : List ℕ) → ((x : ℕ) → f x ≡ g x) → flat_map f xs ≡ flat_map g xs
flat_map_same f g [] same = refl
flat_map_same f g (x ∷ xs) same =
    ap (λ ys. Rattle.std.specs.Prelude.◌++◌ ys (flat_map f xs)) (same x)
    ∙ ap (λ ys. Rattle.std.specs.Prelude.◌++◌ (g x) ys) (flat_map_same f g xs same)

-- ---- a block comes from a cache

module _ (w : World) (q : Numbered Cache) (has : slice_get w.graph.caches q.number ≡ Some q.value) (place : Found (Option ℕ))
    (table : slice_get w.graph.blocks place.number ≡ Some place.list) where
  module _ (words id : ℕ) (left : List CacheClass) (taken : taken_from q.value.classes words ≡ Some (id, left)) where
    one_less : HasOneMore id (ids_in_caches (with_classes w.graph q left)) (ids_in_caches w.graph)
    one_less = cache_less w.graph q has words id left taken

    -- it passes what all cached blocks pass
    pub taken_passes : (test : ℕ → Bool) → list_all test (ids_in_caches w.graph) ≡ true → test id ≡ true
    taken_passes test all = (less_pass test one_less all).0

    abbrev pub world_taken : World
    world_taken = with_graph w (graph_uncached w.graph q left place id)

    pub blocks_taken : list_all (is_live w) (ids_in_blocks w.graph) ≡ true → slice_get place.list place.index ≡ Some None
        → list_all (is_live w) (ids_in_blocks world_taken.graph) ≡ true
    blocks_taken live empty =
        let parts = parts_pass (is_live w) (ids_in_places w.graph) (ids_in_caches w.graph) live in
        both_pass (is_live w) (ids_in_places world_taken.graph) (ids_in_caches world_taken.graph)
        (more_pass (is_live w) (place_filled w.graph place table id empty) (taken_passes (is_live w) parts.1) parts.0)
        (less_pass (is_live w) one_less parts.1).1

    pub live_taken : HeldAreLive w → slice_get place.list place.index ≡ Some None → HeldAreLive world_taken
    live_taken live empty = record {
      client = live.client;
      blocks = blocks_taken live.blocks empty;
      referred = ap (λ ids. is_running w || list_all (is_live w) ids)
          (flat_map_same (targets (graph_cleared w.graph id)) (targets w.graph) (live_ids w) (cleared_targets w.graph id)) ∙ live.referred;
      transforms = live.transforms;
    }

  -- ---- a block goes to a cache

  module _ (words id : ℕ) (now : List CacheClass) (kept : kept_in q.value.classes words id ≡ Some now)
      (full : slice_get place.list place.index ≡ Some (Some id)) where
    abbrev pub world_kept : World
    world_kept = with_graph w (graph_cached w.graph q now place)

    one_more : HasOneMore id (ids_in_caches w.graph) (ids_in_caches (with_classes w.graph q now))
    one_more = cache_more w.graph q has words id now kept

    pub blocks_kept : list_all (is_live w) (ids_in_blocks w.graph) ≡ true → list_all (is_live w) (ids_in_blocks world_kept.graph) ≡ true
    blocks_kept live =
        let parts = parts_pass (is_live w) (ids_in_places w.graph) (ids_in_caches w.graph) live in
        let own = less_pass (is_live w) (place_emptied w.graph place table id full) parts.0 in
        both_pass (is_live w) (ids_in_places world_kept.graph) (ids_in_caches world_kept.graph)
        own.1 (more_pass (is_live w) one_more own.0 parts.1)

    pub live_kept : HeldAreLive w → HeldAreLive world_kept
    live_kept live = record {
      client = live.client;
      blocks = blocks_kept live.blocks;
      referred = live.referred;
      transforms = live.transforms;
    }

-- ---- the worlds are laid out

module _ (w : World) (line : ℕ) (laid : HasLayout (w.grains + 1) w) (name : Name) (place : Slot) (v : World) (ms : List Move) where
  pub taken_laid : (words : ℕ) → ms ≡ unless_refused ok (moves_of_cache_alloc w (cache_named w name) words)
      → act_cache_alloc w (world_after_moves w ms) name words place ≡ done v → HasLayout (w.grains + 1) v
  taken_laid words due comes =
      let r = take_step (w.grains + 1) 0 line w laid name words place ms ok due (ap answer_from (sym comes)) in
      subst (IsLaidOut (w.grains + 1)) (remembered_kept v)
      (subst (λ x. HasLayout (w.grains + 1) (with_client_remembered (world_from (world_after_moves w ms) x))) comes r.layout)

  pub kept_laid : ms ≡ unless_refused ok (moves_of_cache_free w (cache_named w name) (block_place_in w place))
      → act_cache_free (world_after_moves w ms) name place ≡ done v → HasLayout (w.grains + 1) v
  kept_laid due comes =
      let r = cache_free_step (w.grains + 1) 0 line w laid name place ms ok due in
      subst (IsLaidOut (w.grains + 1)) (remembered_kept v)
      (subst (λ x. HasLayout (w.grains + 1) (with_client_remembered (world_from (world_after_moves w ms) x))) comes r.layout)
