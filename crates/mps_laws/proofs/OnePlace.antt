-- A manual block is in one place of a table of blocks, or in one cache, and in no other.
use Rattle.std.proofs.Common.{◌≡◌, ◌∙◌, ℕ, zero, suc, ◌+◌, ◌≤◌, ◌<◌, Bool, true, false, refl, sym, ap, subst, List, [], ◌∷◌, ◌++◌, length, length-append, Option, Some, None, Ok, arith}
use Rattle.std.proofs.lemmas.Bool.{and_parts, and_from, eqb-true, ltb-true, lt-ltb}
use Rattle.std.proofs.lemmas.List.{length-map}
use Rattle.std.specs.Prelude.{◌==◌, drop, if◌then◌else◌, nat_lt, replicate, slice_get}
use Rattle.std.specs.List.{list_all, flat_map}
use Rattle.mps_base.specs.declared.names.Slot.{Slot}
use Rattle.mps_model.specs.Layout.{Layout}
use Rattle.mps_model.specs.declared.call.Call.{Call}
use Rattle.mps_model.specs.Answer.{is_block}
use Rattle.mps_model.specs.Step.{Step, History}
use Rattle.mps_model.specs.Graph.{Manual, Object, Slots, entries, ids_in_blocks, ids_in_caches, ids_in_places, occurrences, with_last}
use Rattle.mps_model.specs.World.{World, empty_world_of, words_of}
use Rattle.mps_model.specs.Checked.{Found, as_blocks, block_place_in, number_named}
use Rattle.mps_model.specs.Allocating.{with_block_place}
use Rattle.mps_model.specs.Caches.{with_classes}
use Rattle.mps_model.specs.Reply.{act, world_from}
use Rattle.mps_model.specs.History.{IsLegalStep, IsLegalHistoryOf, judged_world, moved_world, world_after}
use Rattle.mps_changes.specs.Change.{Change, IsFoundBy, Now, Before, BlocksMade, PlaceEmptied, Allocated, CacheMade, BlockUncached, BlockCached, CacheFlushed, FramesPopped}
use Rattle.mps_changes.proofs.ActChanges.{of_changes}
use Rattle.mps_changes.proofs.Checks.{cache_named-is, for_world}
use Rattle.mps_changes.proofs.Frames.{places_occur, places_pass}
use Rattle.mps_changes.proofs.OneMore.{HasOneMore, after_others, before_others, both_pass, cache_added, cache_less, cache_more, flush_occurs, flush_passes, less_pass, more_pass, occurrences-append, occurs_more, parts_pass, place_emptied, place_filled}
use Rattle.mps_laws.specs.Replay.{reached}
use Rattle.mps_laws.specs.OnePlace.{BlocksAreInOnePlace}
use Rattle.mps_laws.proofs.Acts.{cleared_kept}
use Rattle.mps_laws.proofs.Entries.{GoesOn}
use Rattle.mps_laws.proofs.FoundBy.{found_by}
use Rattle.mps_laws.proofs.Held.{any_kind}
use Rattle.mps_laws.proofs.LeftByActs.{change_leaves, owners}
use Rattle.mps_laws.proofs.LegalHistories.{IsLegalFrom-first, kept_by_steps}
use Rattle.mps_laws.proofs.Lookups.{length-with_last}
use Rattle.mps_laws.proofs.Positions.Occupancy.{shape_of}
use Rattle.mps_laws.proofs.SameArena.{moved_alone, judged_alone}

-- of n objects that were made, no id stands twice in a list, and all in it were made
pub record AreOnce (made : ℕ) (ids : List ℕ) : Type 0 where
  pub once : (j : ℕ) → occurrences ids j ≤ 1
  pub below : list_all (λ id. nat_lt id made) ids ≡ true

abbrev pub AreInOnePlace : World → Type 0
AreInOnePlace w = AreOnce (length w.graph.objects) (ids_in_blocks w.graph)

-- ---- lists

pub later_made : (made more : ℕ) → made ≤ more → (ids : List ℕ) → list_all (λ id. nat_lt id made) ids ≡ true
    → list_all (λ id. nat_lt id more) ids ≡ true
later_made made more h [] all = refl
later_made made more h (id ∷ ids) all =
    let parts = and_parts (nat_lt id made) (list_all (λ id. nat_lt id made) ids) all in
    let low : id < made = ltb-true id made parts.0 in
    and_from (nat_lt id more) (list_all (λ id. nat_lt id more) ids)
    (lt-ltb id more (omega (arith, low, h))) (later_made made more h ids parts.1)

-- an id that isn't made yet stands nowhere
none_new : (made : ℕ) (ids : List ℕ) → list_all (λ id. nat_lt id made) ids ≡ true → occurrences ids made ≡ 0
none_new made [] all = refl
none_new made (id ∷ ids) all =
    let parts = and_parts (nat_lt id made) (list_all (λ id. nat_lt id made) ids) all in
    let rest : occurrences ids made ≡ 0 = none_new made ids parts.1 in
    of_test (id == made) refl (ltb-true id made parts.0) rest
  where
    of_test : (b : Bool) → (id == made) ≡ b → id < made → occurrences ids made ≡ 0
        → (if b then 1 else 0) + occurrences ids made ≡ 0
    of_test true e low none = let same : id ≡ made = eqb-true id made e in absurd (omega (arith, low, same))
    of_test false e low none = omega (arith, none)

-- one less, one more, and one moved
one_less : (made id : ℕ) (less more : List ℕ) → HasOneMore id less more → AreOnce made more → AreOnce made less
one_less made id less more h are = record {
  once = λ j.
      let sum = occurs_more j h in
      let most : occurrences more j ≤ 1 = are.once j in
      omega (arith, sum, most);
  below = (less_pass (λ n. nat_lt n made) h are.below).1;
}

pub one_new : (made : ℕ) (less more : List ℕ) → HasOneMore made less more → AreOnce made less → AreOnce (made + 1) more
one_new made less more h are = record {
  once = λ j. of_test j (made == j) refl;
  below = more_pass (λ n. nat_lt n (made + 1)) h (lt-ltb made (made + 1) (omega arith))
      (later_made made (made + 1) (omega arith) less are.below);
}
  where
    of_test : (j : ℕ) (b : Bool) → (made == j) ≡ b → occurrences more j ≤ 1
    of_test j true e =
        let sum : occurrences more j ≡ occurrences less j + 1 = occurs_more j h ∙ ap (λ b. occurrences less j + (if b then 1 else 0)) e in
        let none : occurrences less j ≡ 0 = subst (λ (n : ℕ). occurrences less n ≡ 0) (eqb-true made j e) (none_new made less are.below) in
        omega (arith, sum, none)
    of_test j false e =
        let sum : occurrences more j ≡ occurrences less j + 0 = occurs_more j h ∙ ap (λ b. occurrences less j + (if b then 1 else 0)) e in
        let most : occurrences less j ≤ 1 = are.once j in
        omega (arith, sum, most)

one_moved : (made id : ℕ) (middle before after : List ℕ) → HasOneMore id middle before → HasOneMore id middle after → AreOnce made before
    → AreOnce made after
one_moved made id middle before after g h are = record {
  once = λ j.
      let first = occurs_more j g in
      let second = occurs_more j h in
      let most : occurrences before j ≤ 1 = are.once j in
      omega (arith, first, second, most);
  below =
      let parts = less_pass (λ n. nat_lt n made) g are.below in
      more_pass (λ n. nat_lt n made) h parts.0 parts.1;
}

none_in_new : (count : ℕ) → entries (replicate count None) ≡ []
none_in_new zero = refl
none_in_new (suc count) = none_in_new count

pub table_added : (blocks : List Slots) (count : ℕ) → flat_map entries (with_last blocks (replicate count None)) ≡ flat_map entries blocks
table_added [] count = ap (λ ids. ids ++ []) (none_in_new count)
table_added (b ∷ bs) count = ap (λ ids. entries b ++ ids) (table_added bs count)

-- ---- acts

owners_grow : (v u : World) → GoesOn (owners v.graph) (owners u.graph) → length v.graph.objects ≤ length u.graph.objects
owners_grow v u more =
    let before = length-map v.graph.objects (λ (o : Object). o.pool) in
    let after = length-map u.graph.objects (λ (o : Object). o.pool) in
    let all = length-append (owners v.graph) more.0 in
    let same : length (owners u.graph) ≡ length (owners v.graph ++ more.0) = ap length more.1 in
    omega (arith, before, after, all, same)

module _ (judged v : World) (same : judged.graph.blocks ≡ v.graph.blocks) (are : AreInOnePlace v) where
  abbrev made : ℕ
  made = length v.graph.objects

  row_is : (place : Slot) (found : Found (Option ℕ)) → block_place_in v place ≡ Ok found
      → (slice_get v.graph.blocks found.number ≡ Some found.list) × (slice_get found.list found.index ≡ Some found.value)
  row_is place found e = found_by (number_named v place.name as_blocks) (λ n. slice_get v.graph.blocks n) place.index found e

  found_is : (found : Found (Option ℕ)) → IsFoundBy block_place_in judged v found
      → (slice_get v.graph.blocks found.number ≡ Some found.list) × (slice_get found.list found.index ≡ Some found.value)
  found_is found (Now place e) = row_is place found e
  found_is found (Before place e) =
      let f = found_by (number_named judged place.name as_blocks) (λ n. slice_get judged.graph.blocks n) place.index found e in
      (ap (λ bs. slice_get bs found.number) (sym same) ∙ f.0, f.1)

  -- the same blocks, and no fewer objects
  as_before : (u : World) → ids_in_blocks u.graph ≡ ids_in_blocks v.graph → made ≤ length u.graph.objects → AreInOnePlace u
  as_before u ids more = record {
    once = λ j. subst (λ (is : List ℕ). occurrences is j ≤ 1) (sym ids) (are.once j);
    below = subst (λ (is : List ℕ). list_all (λ id. nat_lt id (length u.graph.objects)) is ≡ true) (sym ids)
        (later_made made (length u.graph.objects) more (ids_in_blocks v.graph) are.below);
  }

  change_keeps : {marked : Bool} {c : Call} {u : World} → Change marked c judged v u → AreInOnePlace u
  change_keeps {u = u} (BlocksMade name places e) =
      as_before u (ap (λ ids. ids ++ ids_in_caches v.graph) (table_added v.graph.blocks places)) (omega arith)
  change_keeps {u = u} (PlaceEmptied from place id e found has freed) =
      let f = row_is from place found in
      one_less made id (ids_in_blocks u.graph) (ids_in_blocks v.graph)
      (before_others (place_emptied v.graph place f.0 id (f.1 ∙ ap Some has)) (ids_in_caches v.graph)) are
  change_keeps {u = u} (Allocated p words place at e of kind size found empty) =
      let f = found_is place found in
      subst (λ (n : ℕ). AreOnce n (ids_in_blocks u.graph))
      (sym (length-with_last v.graph.objects (record { pool = p.number; body = Manual (replicate words 0) })))
      (one_new made (ids_in_blocks v.graph) (ids_in_blocks u.graph)
      (before_others (place_filled v.graph place f.0 made (f.1 ∙ ap Some empty)) (ids_in_caches v.graph)) are)
  change_keeps {u = u} (CacheMade name pool of classes e may none) =
      as_before u (ap (λ ids. ids_in_places v.graph ++ ids)
      (cache_added v.graph.caches (record { pool = of.number; classes = classes }) none)) (omega arith)
  change_keeps {u = u} (BlockUncached name cache words into place id classes e is taken found empty) =
      let f = row_is into place found in
      let middle = ids_in_places v.graph ++ ids_in_caches (with_classes v.graph cache classes) in
      let as_many : length u.graph.objects ≡ made = sym (length-map u.graph.objects shape_of) ∙ ap length (cleared_kept v.graph id)
      ∙ length-map v.graph.objects shape_of in
      let moved = one_moved made id middle (ids_in_blocks v.graph) (ids_in_blocks u.graph)
      (after_others (cache_less v.graph cache (cache_named-is v name cache is) words id classes taken) (ids_in_places v.graph))
      (before_others (place_filled v.graph place f.0 id (f.1 ∙ ap Some empty)) (ids_in_caches (with_classes v.graph cache classes))) are in
      subst (λ (n : ℕ). AreOnce n (ids_in_blocks u.graph)) (sym as_many) moved
  change_keeps {u = u} (BlockCached name cache from place id classes e is found has own kept) =
      let f = row_is from place found in
      let middle = ids_in_places (with_block_place v.graph place None) ++ ids_in_caches v.graph in
      one_moved made id middle (ids_in_blocks v.graph) (ids_in_blocks u.graph)
      (before_others (place_emptied v.graph place f.0 id (f.1 ∙ ap Some has)) (ids_in_caches v.graph))
      (after_others (cache_more v.graph cache (cache_named-is v name cache is) (words_of v id) id classes kept)
      (ids_in_places (with_block_place v.graph place None))) are
  change_keeps {u = u} (CacheFlushed name cache e is) = record {
    once = λ j.
        let there = cache_named-is v name cache is in
        let less = flush_occurs v.graph cache there j in
        let most : occurrences (ids_in_blocks v.graph) j ≤ 1 = are.once j in
        let before = occurrences-append j (ids_in_places v.graph) (ids_in_caches v.graph) in
        let after = occurrences-append j (ids_in_places v.graph) (ids_in_caches u.graph) in
        omega (arith, less, most, before, after);
    below =
        let parts = parts_pass (λ n. nat_lt n made) (ids_in_places v.graph) (ids_in_caches v.graph) are.below in
        both_pass (λ n. nat_lt n made) (ids_in_places v.graph) (ids_in_caches u.graph) parts.0
        (flush_passes v.graph cache (cache_named-is v name cache is) (λ n. nat_lt n made) parts.1);
  }
  change_keeps {u = u} (FramesPopped name p frame before e found opened) = record {
    once = λ j.
        let fewer = places_occur (drop before p.blocks) v.graph.blocks j in
        let most : occurrences (ids_in_blocks v.graph) j ≤ 1 = are.once j in
        let was = occurrences-append j (ids_in_places v.graph) (ids_in_caches v.graph) in
        let is = occurrences-append j (ids_in_places u.graph) (ids_in_caches v.graph) in
        omega (arith, fewer, most, was, is);
    below =
        let parts = parts_pass (λ n. nat_lt n made) (ids_in_places v.graph) (ids_in_caches v.graph) are.below in
        both_pass (λ n. nat_lt n made) (ids_in_places u.graph) (ids_in_caches v.graph)
        (places_pass (drop before p.blocks) (λ n. nat_lt n made) v.graph.blocks parts.0) parts.1;
  }
  change_keeps {u = u} other = as_before u refl (owners_grow v u (change_leaves other).owned)

  act_keeps : (marked : Bool) (c : Call) → AreInOnePlace (world_from v (act marked judged v c))
  act_keeps marked c =
      for_world AreInOnePlace v (act marked judged v c) (of_changes marked judged v c (λ u change. change_keeps change)) are

-- ---- histories

step_keeps : (w : World) (s : Step) → AreInOnePlace w → Unit {0} → IsLegalStep w s → AreInOnePlace (world_after w s)
step_keeps w s are kind legal =
    let v = moved_world w s.call s.moves in
    let judged = judged_world w s.call s.moves in
    let alone = moved_alone w s.call s.moves in
    let as_many : length v.graph.objects ≡ length w.graph.objects =
    sym (length-map v.graph.objects shape_of) ∙ ap length alone.shapes
    ∙ length-map w.graph.objects shape_of in
    let ids : ids_in_blocks v.graph ≡ ids_in_blocks w.graph =
    ap (λ bs. flat_map entries bs ++ ids_in_caches v.graph) alone.blocks
    ∙ ap (λ qs. ids_in_places w.graph ++ flat_map Rattle.mps_model.specs.Graph.ids_of_cache qs) alone.caches in
    let moved : AreInOnePlace v = subst (λ (n : ℕ). AreOnce n (ids_in_blocks v.graph)) (sym as_many)
    (subst (λ (is : List ℕ). AreOnce (length w.graph.objects) is) (sym ids) are) in
    act_keeps judged v ((judged_alone w s.call s.moves).blocks ∙ sym alone.blocks) moved (is_block s.answer) s.call

pub in_one_place : (formats : ℕ → Layout) (steps : History) → IsLegalHistoryOf formats steps → AreInOnePlace (reached formats steps)
in_one_place formats steps legal =
    kept_by_steps AreInOnePlace (λ s. Unit {0}) step_keeps (empty_world_of formats) steps
    (record { once = λ j. omega arith; below = refl }) (any_kind steps) legal

pub blocks_in_one_place : BlocksAreInOnePlace
blocks_in_one_place formats steps later id legal =
    (in_one_place formats steps (IsLegalFrom-first (empty_world_of formats) steps later legal)).once id
