-- What calls that read a heap, and aren't commands of a script, say of each world that the heap represents.
use Rattle.std.proofs.Common.{◌≡◌, ◌∙◌, ℕ, zero, suc, ◌+◌, ◌-◌, ◌<◌, refl, sym, ap, subst, List, [], ◌∷◌, length, Some, None, arith}
use Rattle.std.proofs.lemmas.List.{length-map}
use Rattle.std.proofs.lemmas.Option.{none-some}
use Rattle.std.specs.Prelude.{drop, nat_lt, slice_get, slice_range, take}
use Rattle.std.specs.Option.{option_map_or}
use Rattle.mps_base.specs.Address.{Address, word_of}
use Rattle.mps_format.specs.Layout.{Layout}
use Rattle.mps_laws.proofs.Finding.{id_at-there}
use Rattle.mps_model.specs.Graph.{Automatic, Body, Manual, Object, size_of, size_of_body}
use Rattle.mps_model.specs.Image.{image_of, image_of_body, image_of_cell}
use Rattle.mps_model.specs.World.{World}
use Rattle.mps_trace.specs.Collect.{most_moves}
use Rattle.mps_heap_spec.specs.Arena.{BlockBegins}
use Rattle.mps_heap_spec.specs.Collecting.{can_collect, most_flips}
use Rattle.mps_heap_spec.specs.State.{HeapState}
use Rattle.mps_refinement.specs.InWorlds.{SaysIfItCounts, SaysLength, SaysMostMoves, SaysWord}
use Rattle.mps_refinement.specs.StandsFor.{IsInTime, Rests, StandsFor, collector_of, rests, runs}
use Rattle.mps_refinement.proofs.Lookups.BlockRuns.{run_is, words_are}
use Rattle.mps_refinement.proofs.Lookups.Blocks.{object_begins, same_address}
use Rattle.mps_refinement.proofs.Lookups.ManualBlocks.{setting}
use Rattle.mps_refinement.proofs.Parts.Resting.{image_at_rest}
use Rattle.mps_refinement.proofs.Worlds.Known.{known_now}
use Rattle.mps_refinement.proofs.Worlds.RestingActs.{resting_sound}

-- ---- lists

got_in_drop : {A : Type 0} (xs : List A) (a k : ℕ) → slice_get (drop a xs) k ≡ slice_get xs (a + k)
got_in_drop [] zero k = refl
got_in_drop [] (suc a) k = refl
got_in_drop (x ∷ xs) zero k = ap (slice_get (x ∷ xs)) (let e : k ≡ 0 + k = omega arith in e)
got_in_drop (x ∷ xs) (suc a) k =
    got_in_drop xs a k ∙ ap (slice_get (x ∷ xs)) (let e : suc (a + k) ≡ suc a + k = omega arith in e)

got_in_take : {A : Type 0} (xs : List A) (n k : ℕ) → k < n → slice_get (take n xs) k ≡ slice_get xs k
got_in_take xs zero k below = absurd (omega (arith, below))
got_in_take [] (suc n) k below = refl
got_in_take (x ∷ xs) (suc n) zero below = refl
got_in_take (x ∷ xs) (suc n) (suc k) below = got_in_take xs n k (omega (arith, below))

got_in_range : {A : Type 0} (xs : List A) (a n k : ℕ) → k < n → slice_get (slice_range xs a (a + n)) k ≡ slice_get xs (a + k)
got_in_range xs a n k below =
    subst (λ (m : ℕ). slice_get (take m (drop a xs)) k ≡ slice_get xs (a + k)) (let e : n ≡ a + n - a = omega arith in e)
    (got_in_take (drop a xs) n k below ∙ got_in_drop xs a k)

length_of_image : (w : World) (b : Body) → length (image_of_body w b) ≡ size_of_body b
length_of_image w (Automatic head cells is_weak) = length-map cells (image_of_cell w head)
length_of_image w (Manual words) = refl

module _ {F : Type 0} (layout : F → Layout) (h : HeapState F) where
  pub says_if_it_counts : SaysIfItCounts layout h (can_collect h)
  says_if_it_counts w st = ap (λ (n : ℕ). nat_lt n most_flips) st.parts.point_flips

  pub says_most_moves : SaysMostMoves layout h (most_moves h.segs.grains)
  says_most_moves w st = ap (λ (n : ℕ). most_moves n) st.parts.grains

  rests_in : (w : World) (st : StandsFor layout h w) → w.collection ≡ None → Rests st.past.time (collector_of h) w
  rests_in w st none = of_time st.time
    where
      of_time : IsInTime st.past.time (collector_of h) w → Rests st.past.time (collector_of h) w
      of_time (rests rest) = rest
      of_time (runs x r) =
          absurd (none-some x.running (sym none ∙ subst (λ (v : World). v.collection ≡ Some x.running) r.world r.invariant.runs))

  pub says_word : (number : ℕ) → SaysWord layout h number (slice_get h.segs.words number)
  says_word number w st none id at there k within is =
      let rest = rests_in w st none in
      let knows = known_now st in
      let placed = st.parts.image.placed in
      let o = placed.exists id at there in
      let image : image_of w id ≡ image_of_body w o.0.body = ap (λ x. option_map_or (λ (q : Object). image_of_body w q.body) x []) o.1 in
      let long : length (image_of w id) ≡ size_of o.0 = ap (λ (ws : List ℕ). length ws) image ∙ length_of_image w o.0.body in
      let at_rest = image_at_rest layout st.past h w st.parts rest.time in
      let words = words_are h.segs w at_rest rest.none (resting_sound w rest.none knows.live) id at o.0 there o.1 in
      ap (slice_get h.segs.words) is
      ∙ sym (got_in_range h.segs.words (word_of at) (size_of o.0) k (omega (arith, long, within)))
      ∙ ap (λ (ws : List ℕ). slice_get ws k) (words ∙ sym image)

  pub says_length : (at : Address) (words : ℕ) → BlockBegins h at words → SaysLength layout h at words
  says_length at words begins w st =
      let s = setting layout st.past h w st.parts (known_now st) in
      let placed = st.parts.image.placed in
      let there = object_begins s w.addresses placed h.segs st.parts.image.runs.blocks at begins.at_word in
      let o = placed.exists there.0 at there.1 in
      let size = run_is s w.addresses placed h.segs st.parts.image.runs.blocks there.0 at o.0 there.1 o.1 words begins.run in
      let image = ap (λ x. option_map_or (λ (q : Object). image_of_body w q.body) x []) o.1 in (
        there.0,
        id_at-there w at there.0 (same_address s w.addresses placed) there.1,
        size ∙ sym (ap (λ (ws : List ℕ). length ws) image ∙ length_of_image w o.0.body),
      )
