-- In each world that a legal history reaches a block is in one place of a table of blocks at most, and in no cache then; and each pool of
-- blocks of one size has blocks of a word at least.
use Rattle.std.proofs.Common.{◌≡◌, ◌∙◌, ◌⊎◌, ℕ, zero, suc, ◌+◌, ◌<◌, ◌≤◌, Bool, true, false, refl, sym, ap, subst, List, [], ◌∷◌, ◌++◌, length, Option, Some, None, inl, inr, arith}
use Rattle.std.proofs.lemmas.Bool.{and_parts, eq-eqb, leb-true, lt-ltb, ltb-true}
use Rattle.std.proofs.lemmas.Option.{none-some, same_Some}
use Rattle.std.specs.Prelude.{◌==◌, if◌then◌else◌, nat_le, nat_lt, slice_get, slice_set}
use Rattle.std.specs.List.{AllByRecursion, flat_map, list_all}
use Rattle.mps_trace_laws.proofs.Image.CellChanged.{set_cases}
use Rattle.mps_model.specs.declared.call.Call.{Call}
use Rattle.mps_model.specs.Answer.{is_block}
use Rattle.mps_model.specs.Step.{Step}
use Rattle.mps_model.specs.Graph.{Slots, entries, occurrences, with_last}
use Rattle.mps_model.specs.World.{World, Pool, PoolKind, Collected, OneSize, AnySize, Frames, empty_world_of}
use Rattle.mps_model.specs.Reply.{act}
use Rattle.mps_model.specs.History.{IsLegalStep, judged_world, moved_world, world_after}
use Rattle.mps_changes.specs.Change.{Change, is_kind_made, PoolMade}
use Rattle.mps_changes.proofs.ActChanges.{of_changes}
use Rattle.mps_changes.proofs.OneMore.{occurrences-append, parts_pass}
use Rattle.mps_laws.specs.Replay.{reached}
use Rattle.mps_laws.proofs.Acts.{for_world}
use Rattle.mps_laws.proofs.Held.{any_kind}
use Rattle.mps_laws.proofs.LegalHistories.{kept_by_steps}
use Rattle.mps_laws.proofs.OnePlace.{AreInOnePlace, in_one_place}
use Rattle.mps_refinement.specs.StandsFor.{IsReached}
use Rattle.mps_refinement.proofs.Worlds.PlacesByMoves.{Places, places_of, moved_kept}

-- ---- places

-- a block is in a place
pub record IsIn (blocks : List Slots) (n i id : ℕ) : Type 0 where
  pub row : Slots
  pub table : slice_get blocks n ≡ Some row
  pub entry : slice_get row i ≡ Some (Some id)

abbrev pub is_sized : PoolKind → Bool
is_sized (Collected kind) = true
is_sized (OneSize words) = nat_lt 0 words
is_sized AnySize = true
is_sized Frames = true

abbrev AreSized : List Pool → Type 0
AreSized pools = AllByRecursion (λ (q : Pool). is_sized q.kind ≡ true) pools

pub record ArePlacedOnce (p : Places) : Type 0 where
  pub once : (n i m j id : ℕ) → IsIn p.blocks n i id → IsIn p.blocks m j id → (n ≡ m) × (i ≡ j)
  pub not_cached : (n i id : ℕ) → IsIn p.blocks n i id → occurrences p.cached id ≡ 0
  pub below : (n i id : ℕ) → IsIn p.blocks n i id → id < p.made
  pub sized : AllByRecursion (λ (q : Pool). is_sized q.kind ≡ true) p.pools

-- a place that was written, and others
pub written_cases : (blocks : List Slots) (n i : ℕ) (row : Slots) (x : Option ℕ) (m j id : ℕ) → slice_get blocks n ≡ Some row
    → IsIn (slice_set blocks n (slice_set row i x)) m j id
    → ((m ≡ n) × (j ≡ i) × (x ≡ Some id)) ⊎ (IsIn blocks m j id × ((m ≡ n) × (j ≡ i) → ⊥))
written_cases blocks n i row x m j id has is =
    elim (set_cases blocks n (slice_set row i x) m is.row is.table) [
      | inl other ↦ inr (record { row = is.row; table = other.1; entry = is.entry }, (λ same. other.0 same.0))
      | inr own ↦
          elim (set_cases row i x j (Some id) (ap (λ r. slice_get r j) (sym own.1) ∙ is.entry)) [
            | inl other ↦
                inr (record { row = row; table = ap (slice_get blocks) own.0 ∙ has; entry = other.1 }, (λ same. other.0 same.1))
            | inr here ↦ inl (own.0, here.0, sym here.1)
          ]
    ]

-- ---- what stands in a place is counted

here_counts : (id n : ℕ) (ns : List ℕ) → n ≡ id → occurrences (n ∷ ns) id ≡ occurrences ns id + 1
here_counts id n ns same =
    let first : ◌≡◌ {A = ℕ} (if n == id then 1 else 0) 1 = ap (λ b. if b then 1 else 0) (eq-eqb n id same) in
    omega (arith, first)

row_counts : (row : Slots) (i id : ℕ) → slice_get row i ≡ Some (Some id) → 1 ≤ occurrences (entries row) id
row_counts [] i id e = absurd (none-some (Some id) e)
row_counts (None ∷ os) zero id e = absurd (none-some id (same_Some None (Some id) e))
row_counts (Some n ∷ os) zero id e =
    let one = here_counts id n (entries os) (same_Some n id (same_Some (Some n) (Some id) e)) in omega (arith, one)
row_counts (None ∷ os) (suc i) id e = row_counts os i id e
row_counts (Some n ∷ os) (suc i) id e = let later = row_counts os i id e in omega (arith, later)

table_counts : (blocks : List Slots) (n i id : ℕ) → IsIn blocks n i id → 1 ≤ occurrences (flat_map entries blocks) id
table_counts [] n i id is = absurd (none-some is.row is.table)
table_counts (b ∷ bs) zero i id is =
    let here = row_counts b i id (ap (λ r. slice_get r i) (same_Some b is.row is.table) ∙ is.entry) in
    let sum = occurrences-append id (entries b) (flat_map entries bs) in
    omega (arith, here, sum)
table_counts (b ∷ bs) (suc n) i id is =
    let later = table_counts bs n i id (record { row = is.row; table = is.table; entry = is.entry }) in
    let sum = occurrences-append id (entries b) (flat_map entries bs) in
    omega (arith, later, sum)

-- so what is counted once stands in one place
row_once : (row : Slots) (i j id : ℕ) → slice_get row i ≡ Some (Some id) → slice_get row j ≡ Some (Some id)
    → occurrences (entries row) id ≤ 1 → i ≡ j
row_once [] i j id e f most = absurd (none-some (Some id) e)
row_once (o ∷ os) zero zero id e f most = refl
row_once (None ∷ os) zero (suc j) id e f most = absurd (none-some id (same_Some None (Some id) e))
row_once (None ∷ os) (suc i) zero id e f most = absurd (none-some id (same_Some None (Some id) f))
row_once (Some n ∷ os) zero (suc j) id e f most =
    let one = here_counts id n (entries os) (same_Some n id (same_Some (Some n) (Some id) e)) in
    let later = row_counts os j id f in
    absurd (omega (arith, one, later, most))
row_once (Some n ∷ os) (suc i) zero id e f most =
    let one = here_counts id n (entries os) (same_Some n id (same_Some (Some n) (Some id) f)) in
    let later = row_counts os i id e in
    absurd (omega (arith, one, later, most))
row_once (None ∷ os) (suc i) (suc j) id e f most = ap suc (row_once os i j id e f most)
row_once (Some n ∷ os) (suc i) (suc j) id e f most = ap suc (row_once os i j id e f (omega (arith, most)))

tables_once : (blocks : List Slots) (n i m j id : ℕ) → IsIn blocks n i id → IsIn blocks m j id
    → occurrences (flat_map entries blocks) id ≤ 1 → (n ≡ m) × (i ≡ j)
tables_once [] n i m j id x y most = absurd (none-some x.row x.table)
tables_once (b ∷ bs) n i m j id x y most =
    of_both n m x y (occurrences-append id (entries b) (flat_map entries bs))
    (λ k l first second few. tables_once bs k i l j id first second few)
  where
    in_first : (k : ℕ) → (z : IsIn (b ∷ bs) 0 k id) → slice_get b k ≡ Some (Some id)
    in_first k z = ap (λ r. slice_get r k) (same_Some b z.row z.table) ∙ z.entry

    of_both : (k l : ℕ) → IsIn (b ∷ bs) k i id → IsIn (b ∷ bs) l j id
        → occurrences (entries b ++ flat_map entries bs) id ≡ occurrences (entries b) id + occurrences (flat_map entries bs) id
        → ((k l : ℕ) → IsIn bs k i id → IsIn bs l j id → occurrences (flat_map entries bs) id ≤ 1 → (k ≡ l) × (i ≡ j)) → (k ≡ l) × (i ≡ j)
    of_both zero zero first second sum later =
        (refl, row_once b i j id (in_first i first) (in_first j second) (omega (arith, sum, most)))
    of_both zero (suc l) first second sum later =
        let here = row_counts b i id (in_first i first) in
        let there = table_counts bs l j id (record { row = second.row; table = second.table; entry = second.entry }) in
        absurd (omega (arith, here, there, sum, most))
    of_both (suc k) zero first second sum later =
        let here = row_counts b j id (in_first j second) in
        let there = table_counts bs k i id (record { row = first.row; table = first.table; entry = first.entry }) in
        absurd (omega (arith, here, there, sum, most))
    of_both (suc k) (suc l) first second sum later =
        let same = later k l (record { row = first.row; table = first.table; entry = first.entry })
        (record { row = second.row; table = second.table; entry = second.entry }) (omega (arith, sum, most)) in
        (ap suc same.0, same.1)

below_made : (made : ℕ) (ids : List ℕ) (id : ℕ) → list_all (λ n. nat_lt n made) ids ≡ true → 1 ≤ occurrences ids id → id < made
below_made made [] id all some = absurd (omega (arith, some))
below_made made (n ∷ ns) id all some =
    let parts = and_parts (nat_lt n made) (list_all (λ n. nat_lt n made) ns) all in
    of_test (n == id) refl (ltb-true n made parts.0) (λ more. below_made made ns id parts.1 more)
  where
    of_test : (b : Bool) → (n == id) ≡ b → n < made → (1 ≤ occurrences ns id → id < made) → id < made
    of_test true e low later = let same = Rattle.std.proofs.lemmas.Bool.eqb-true n id e in omega (arith, low, same)
    of_test false e low later =
        let first : ◌≡◌ {A = ℕ} (if n == id then 1 else 0) 0 = ap (λ b. if b then 1 else 0) e in later (omega (arith, first, some))

placed : (w : World) → AreInOnePlace w → AreSized w.pools → ArePlacedOnce (places_of w)
placed w one sized = record {
  once = λ n i m j id x y.
      let most : occurrences (flat_map entries w.graph.blocks ++ (places_of w).cached) id ≤ 1 = one.once id in
      let sum = occurrences-append id (flat_map entries w.graph.blocks) (places_of w).cached in
      tables_once w.graph.blocks n i m j id x y (omega (arith, most, sum));
  not_cached = λ n i id x.
      let most : occurrences (flat_map entries w.graph.blocks ++ (places_of w).cached) id ≤ 1 = one.once id in
      let sum = occurrences-append id (flat_map entries w.graph.blocks) (places_of w).cached in
      let some = table_counts w.graph.blocks n i id x in
      omega (arith, most, sum, some);
  below = λ n i id x.
      let parts = parts_pass (λ n. nat_lt n (length w.graph.objects)) (flat_map entries w.graph.blocks) (places_of w).cached one.below in
      below_made (length w.graph.objects) (flat_map entries w.graph.blocks) id parts.0 (table_counts w.graph.blocks n i id x);
  sized = sized;
}

-- ---- pools

some_words : (kind : PoolKind) → is_kind_made kind ≡ true → is_sized kind ≡ true
some_words (Collected kind) h = refl
some_words (OneSize words) h =
    let both = and_parts (nat_le 1 words) (nat_le words 65536) h in
    let some = leb-true 1 words both.0 in
    lt-ltb 0 words (omega (arith, some))
some_words AnySize h = refl
some_words Frames h = refl

sized_last : (ps : List Pool) (p : Pool) → AreSized ps → is_sized p.kind ≡ true → AreSized (with_last ps p)
sized_last [] p all h = (h, tt)
sized_last (x ∷ xs) p all h = (all.0, sized_last xs p all.1 h)

change_sized : {marked : Bool} {c : Call} {judged v u : World} → AreSized v.pools → Change marked c judged v u → AreSized u.pools
change_sized {v = v} are (PoolMade name p e kind) = sized_last v.pools p are (some_words p.kind kind)
change_sized are _ = are

step_sized : (w : World) (s : Step) → AreSized w.pools → Unit {0} → IsLegalStep w s → AreSized (world_after w s).pools
step_sized w s are kind legal =
    let moved = moved_world w s.call s.moves in
    let judged = judged_world w s.call s.moves in
    let here : AreSized moved.pools = subst AreSized (sym (ap (λ (p : Places). p.pools) (moved_kept w s.call s.moves))) are in
    for_world (λ u. AreSized u.pools) moved (act (is_block s.answer) judged moved s.call)
    (of_changes (is_block s.answer) judged moved s.call (λ u change. change_sized here change)) here

-- ---- histories

pub placed_once : (w : World) → IsReached w → ArePlacedOnce (places_of w)
placed_once w r =
    subst (λ u. ArePlacedOnce (places_of u)) (sym r.is)
    (placed (reached w.formats r.history) (in_one_place w.formats r.history r.legal)
    (kept_by_steps (λ u. AreSized u.pools) (λ s. Unit {0}) step_sized (empty_world_of w.formats) r.history tt (any_kind r.history) r.legal))
