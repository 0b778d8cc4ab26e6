-- The parts of a heap stand for those of a world after the places of several blocks were emptied in both, none of which stands in frames.
use Rattle.std.proofs.Common.{◌≡◌, ◌∙◌, inl, inr, ℕ, zero, suc, Bool, true, false, refl, sym, ap, subst, List, [], ◌∷◌, map, drop, take, Option, Some, None, arith}
use Rattle.std.proofs.lemmas.Bool.{eq-eqb, false≢true, ne_eqb}
use Rattle.std.proofs.lemmas.Option.{get_or_from_slice_get, none-some, same_Some}
use Rattle.std.specs.List.{list_all}
use Rattle.std.specs.Prelude.{◌==◌, ◌||◌, not, if◌then◌else◌, slice_get, slice_index_or, slice_set}
use Rattle.mps_base.specs.Address.{Address, Id}
use Rattle.mps_changes.proofs.Frames.{blocks_in}
use Rattle.mps_format.specs.Layout.{Layout}
use Rattle.mps_model.specs.Checked.{Found, with_graph}
use Rattle.mps_model.specs.Frames.{place_without, places_without, popped}
use Rattle.mps_model.specs.Graph.{Slots, contains, frames_changed, from_last, with_last}
use Rattle.mps_model.specs.World.{World}
use Rattle.mps_root.specs.State.{with_place}
use Rattle.mps_snc.specs.State.{PoolState, pool_at, with_pool}
use Rattle.mps_snc.specs.declared.pool.Block.{Block}
use Rattle.mps_heap_spec.specs.Framing.{with_frames}
use Rattle.mps_heap_spec.specs.Popping.{closed, places_emptied}
use Rattle.mps_heap_spec.specs.State.{HeapState}
use Rattle.mps_heap_spec.specs.declared.found.Entry.{Entry}
use Rattle.mps_refinement.specs.Framed.{AreNoted}
use Rattle.mps_refinement.specs.StandsFor.{AreParts, Past}
use Rattle.mps_refinement.proofs.Parts.BlockParts.{parts_with_frames, world_with_frames}
use Rattle.mps_refinement.proofs.Parts.FramedParts.{framed_changed, noted_beside, noted_last, noted_still}
use Rattle.mps_refinement.proofs.Parts.PlaceWritten.{block_place_written}
use Rattle.mps_refinement.proofs.Worlds.PlacedOnce.{IsIn, written_cases}

-- ---- rows of noted blocks

module _ (places : List (List Address)) (slots : List Slots) where
  pub noted_cut : (n : ℕ) (bs : List Block) (ids : List Id) → AreNoted places slots bs ids
      → AreNoted places slots (take n bs) (take n ids)
  noted_cut zero bs ids are = tt
  noted_cut (suc n) [] [] are = tt
  noted_cut (suc n) [] (id ∷ ids) are = absurd are
  noted_cut (suc n) (b ∷ bs) [] are = absurd are
  noted_cut (suc n) (b ∷ bs) (id ∷ ids) are = (are.0, noted_cut n bs ids are.1)

  pub noted_after : (n : ℕ) (bs : List Block) (ids : List Id) → AreNoted places slots bs ids
      → AreNoted places slots (drop n bs) (drop n ids)
  noted_after zero bs ids are = are
  noted_after (suc n) [] [] are = tt
  noted_after (suc n) [] (id ∷ ids) are = absurd are
  noted_after (suc n) (b ∷ bs) [] are = absurd are
  noted_after (suc n) (b ∷ bs) (id ∷ ids) are = noted_after n bs ids are.1

  pub noted_back : (bs : List Block) (ids : List Id) → AreNoted places slots bs ids
      → AreNoted places slots (from_last bs) (from_last ids)
  noted_back [] [] are = tt
  noted_back [] (id ∷ ids) are = absurd are
  noted_back (b ∷ bs) [] are = absurd are
  noted_back (b ∷ bs) (id ∷ ids) are =
      noted_last places slots (from_last bs) (from_last ids) b id (noted_back bs ids are.1) are.0

-- ---- places are emptied one after the other

abbrev pub slots_emptied : List Slots → List Block → List Slots
slots_emptied slots [] = slots
slots_emptied slots (b ∷ bs) =
    slots_emptied (slice_set slots b.place.table (slice_set (slice_index_or slots b.place.table []) b.place.index None)) bs

-- no id stands in a row twice
abbrev pub AreOther : List Id → Type 0
AreOther [] = Unit {0}
AreOther (id ∷ ids) = (list_all (λ j. not (id == j)) ids ≡ true) × AreOther ids

-- none of these stands among others
abbrev pub AreApart : List Id → (others : List Id) → Type 0
AreApart [] others = Unit {0}
AreApart (id ∷ ids) others = (list_all (λ j. not (id == j)) others ≡ true) × AreApart ids others

other_than : (id j : ℕ) → not (id == j) ≡ true → id ≡ j → ⊥
other_than id j apart same = false≢true (ap not (sym (eq-eqb id j same)) ∙ apart)

pub places_left : {F : Type 0} (layout : F → Layout) (past : Past) (h : HeapState F) (w : World) (bs : List Block) (ids : List Id)
    → AreNoted h.roots.blocks w.graph.blocks bs ids → AreOther ids → AreApart ids (blocks_in w.graph.frames) → AreParts layout past h w
    → AreParts layout past (record h { roots = record h.roots { blocks = places_emptied h.roots.blocks bs } })
    (with_graph w (record w.graph { blocks = slots_emptied w.graph.blocks bs }))
places_left layout past h w [] [] are other apart parts = parts
places_left layout past h w [] (id ∷ ids) are other apart parts = absurd are
places_left layout past h w (b ∷ bs) [] are other apart parts = absurd are
places_left {F} layout past h w (b ∷ bs) (id ∷ ids) are other apart parts =
    let n = b.place.table in
    let i = b.place.index in
    let row = are.0.row in
    let entry : Entry Address = record { key = n; index = i; value = b.at.0 } in
    let found : Found (Option ℕ) = record { number = n; list = row; index = i; value = Some id } in
    let slots = slice_set w.graph.blocks n (slice_set row i None) in
    let once = block_place_written layout past h w parts entry found refl refl are.0.table 0 None refl (λ j. not (id == j)) apart.0
    (λ j there passes. other_than id j passes
    (same_Some id j (same_Some (Some id) (Some j) (sym are.0.entry ∙ there)))) in
    let left = noted_still h.roots.blocks (with_place h.roots.blocks n i 0) w.graph.blocks slots (λ j. not (id == j))
    (λ c j passes is. noted_beside h.roots.blocks w.graph.blocks n i row are.0.kept None 0 are.0.table are.0.there c j
    (λ same. other_than id j passes (same_Some id j (same_Some (Some id) (Some j)
    (sym are.0.entry ∙ ap (λ r. slice_get r i) (same_Some row is.row (sym are.0.table ∙ ap (slice_get w.graph.blocks) (sym same.0)
    ∙ is.table)) ∙ ap (slice_get is.row) (sym same.1) ∙ is.entry)))) is) bs ids other.0 are.1 in
    subst (λ r. AreParts layout past
    (record h { roots = record h.roots { blocks = places_emptied (with_place h.roots.blocks n i 0) bs } })
    (with_graph w (record w.graph { blocks = slots_emptied (slice_set w.graph.blocks n (slice_set r i None)) bs })))
    (sym (get_or_from_slice_get w.graph.blocks n row [] are.0.table))
    (places_left layout past (record h { roots = record h.roots { blocks = with_place h.roots.blocks n i 0 } })
    (with_graph w (record w.graph { blocks = slots })) bs ids left other.1 apart.1 once)

-- ---- which are those that the model empties

module _ (id : Id) (gone : List Id) where
  place_beside : (x : Option ℕ) → (x ≡ Some id → ⊥) → place_without (id ∷ gone) x ≡ place_without gone x
  place_beside None apart = refl
  place_beside (Some j) apart =
      ap (λ c. if c || contains gone j then None else Some j) (ne_eqb id j (λ same. apart (ap (λ n. Some n) (sym same))))

  place_gone : place_without (id ∷ gone) (Some id) ≡ None
  place_gone = ap (λ c. if c || contains gone id then None else Some id) (eq-eqb id id refl)

  row_beside : (row : Slots) → ((j : ℕ) → slice_get row j ≡ Some (Some id) → ⊥)
      → map (place_without (id ∷ gone)) row ≡ map (place_without gone) row
  row_beside [] apart = refl
  row_beside (x ∷ row) apart =
      ap (λ y. y ∷ map (place_without (id ∷ gone)) row) (place_beside x (λ e. apart 0 (ap (λ y. Some y) e)))
      ∙ ap (λ ys. place_without gone x ∷ ys) (row_beside row (λ j. apart (suc j)))

  row_gone : (row : Slots) (i : ℕ) → slice_get row i ≡ Some (Some id) → ((j : ℕ) → slice_get row j ≡ Some (Some id) → j ≡ i)
      → map (place_without (id ∷ gone)) row ≡ map (place_without gone) (slice_set row i None)
  row_gone [] i there once = absurd (none-some (Some id) there)
  row_gone (x ∷ row) zero there once =
      ap (λ y. place_without (id ∷ gone) y ∷ map (place_without (id ∷ gone)) row) (same_Some x (Some id) there)
      ∙ ap (λ y. y ∷ map (place_without (id ∷ gone)) row) place_gone
      ∙ ap (λ ys. None ∷ ys) (row_beside row (λ j e. let same = once (suc j) e in absurd (omega (arith, same))))
  row_gone (x ∷ row) (suc i) there once =
      ap (λ y. y ∷ map (place_without (id ∷ gone)) row)
      (place_beside x (λ e. let same = once 0 (ap (λ y. Some y) e) in omega (arith, same)))
      ∙ ap (λ ys. place_without gone x ∷ ys)
      (row_gone row i there (λ j e. let same = once (suc j) e in omega (arith, same)))

  rows_beside : (slots : List Slots) → ((n j : ℕ) (row : Slots) → slice_get slots n ≡ Some row → slice_get row j ≡ Some (Some id) → ⊥)
      → places_without (id ∷ gone) slots ≡ places_without gone slots
  rows_beside [] apart = refl
  rows_beside (row ∷ slots) apart =
      ap (λ r. r ∷ places_without (id ∷ gone) slots) (row_beside row (λ j. apart 0 j row refl))
      ∙ ap (λ rs. map (place_without gone) row ∷ rs) (rows_beside slots (λ n. apart (suc n)))

  rows_gone : (slots : List Slots) (n i : ℕ) (row : Slots) → slice_get slots n ≡ Some row → slice_get row i ≡ Some (Some id)
      → ((m j : ℕ) (other : Slots) → slice_get slots m ≡ Some other → slice_get other j ≡ Some (Some id) → (m ≡ n) × (j ≡ i))
      → places_without (id ∷ gone) slots ≡ places_without gone (slice_set slots n (slice_set row i None))
  rows_gone [] n i row there entry once = absurd (none-some row there)
  rows_gone (r ∷ slots) zero i row there entry once =
      let same : r ≡ row = same_Some r row there in
      ap (λ x. x ∷ places_without (id ∷ gone) slots)
      (ap (map (place_without (id ∷ gone))) same ∙ row_gone row i entry (λ j e. (once 0 j row there e).1))
      ∙ ap (λ rs. map (place_without gone) (slice_set row i None) ∷ rs)
      (rows_beside slots (λ m j other has e. let same = (once (suc m) j other has e).0 in absurd (omega (arith, same))))
  rows_gone (r ∷ slots) (suc n) i row there entry once =
      ap (λ x. x ∷ places_without (id ∷ gone) slots)
      (row_beside r (λ j e. let same = (once 0 j r refl e).0 in omega (arith, same)))
      ∙ ap (λ rs. map (place_without gone) r ∷ rs)
      (rows_gone slots n i row there entry (λ m j other has e.
      let same = once (suc m) j other has e in let table = same.0 in (omega (arith, table), same.1)))

-- no block is in two places
abbrev pub AreOnce : List Slots → Type 0
AreOnce slots = (n i m j id : ℕ) → IsIn slots n i id → IsIn slots m j id → (n ≡ m) × (i ≡ j)

none_gone : (row : Slots) → map (place_without []) row ≡ row
none_gone [] = refl
none_gone (None ∷ row) = ap (λ r. None ∷ r) (none_gone row)
none_gone (Some id ∷ row) = ap (λ r. Some id ∷ r) (none_gone row)

all_left : (slots : List Slots) → places_without [] slots ≡ slots
all_left [] = refl
all_left (row ∷ slots) = ap (λ r. r ∷ places_without [] slots) (none_gone row) ∙ ap (λ rs. row ∷ rs) (all_left slots)

-- a place that is emptied leaves each other block in its place
still_in : (slots : List Slots) (n i : ℕ) (row : Slots) → slice_get slots n ≡ Some row → (m j id : ℕ)
    → IsIn (slice_set slots n (slice_set row i None)) m j id → IsIn slots m j id
still_in slots n i row has m j id is =
    elim (written_cases slots n i row None m j id has is) [
      | inl own ↦ absurd (none-some id own.2)
      | inr other ↦ other.0
    ]

pub emptied_are : (places : List (List Address)) (slots : List Slots) (bs : List Block) (ids : List Id) → AreNoted places slots bs ids
    → AreOther ids → AreOnce slots → slots_emptied slots bs ≡ places_without ids slots
emptied_are places slots [] [] are other once = sym (all_left slots)
emptied_are places slots [] (id ∷ ids) are other once = absurd are
emptied_are places slots (b ∷ bs) [] are other once = absurd are
emptied_are places slots (b ∷ bs) (id ∷ ids) are other once =
    let n = b.place.table in
    let i = b.place.index in
    let row = are.0.row in
    let after = slice_set slots n (slice_set row i None) in
    let own : IsIn slots n i id = record { row = row; table = are.0.table; entry = are.0.entry } in
    let left = noted_still places (with_place places n i 0) slots after (λ j. not (id == j))
    (λ c j passes is. noted_beside places slots n i row are.0.kept None 0 are.0.table are.0.there c j
    (λ same. other_than id j passes (same_Some id j (same_Some (Some id) (Some j)
    (sym are.0.entry ∙ ap (λ r. slice_get r i) (same_Some row is.row (sym are.0.table ∙ ap (slice_get slots) (sym same.0)
    ∙ is.table)) ∙ ap (slice_get is.row) (sym same.1) ∙ is.entry)))) is) bs ids other.0 are.1 in
    ap (λ r. slots_emptied (slice_set slots n (slice_set r i None)) bs) (get_or_from_slice_get slots n row [] are.0.table)
    ∙ emptied_are (with_place places n i 0) after bs ids left other.1
    (λ a c d e j is those. once a c d e j (still_in slots n i row are.0.table a c j is) (still_in slots n i row are.0.table d e j those))
    ∙ sym (rows_gone id ids slots n i row are.0.table are.0.entry (λ m j r has e.
    once m j n i id (record { row = r; table = has; entry = e }) own))

-- ---- from the last to the first

contains_last : (ids : List Id) (id j : ℕ) → contains (with_last ids id) j ≡ (contains ids j || id == j)
contains_last [] id j = or_false (id == j)
  where
    or_false : (b : Bool) → (b || false) ≡ b
    or_false true = refl
    or_false false = refl
contains_last (k ∷ ids) id j =
    ap (λ c. k == j || c) (contains_last ids id j) ∙ or_assoc (k == j) (contains ids j) (id == j)
  where
    or_assoc : (a b c : Bool) → (a || (b || c)) ≡ ((a || b) || c)
    or_assoc true b c = refl
    or_assoc false b c = refl

pub contains_back : (ids : List Id) (j : ℕ) → contains (from_last ids) j ≡ contains ids j
contains_back [] j = refl
contains_back (id ∷ ids) j =
    contains_last (from_last ids) id j ∙ ap (λ c. c || id == j) (contains_back ids j) ∙ or_comm (contains ids j) (id == j)
  where
    or_comm : (a b : Bool) → (a || b) ≡ (b || a)
    or_comm true true = refl
    or_comm true false = refl
    or_comm false true = refl
    or_comm false false = refl

module _ (gone others : List Id) (same : (j : ℕ) → contains gone j ≡ contains others j) where
  rows_alike : (row : Slots) → map (place_without gone) row ≡ map (place_without others) row
  rows_alike [] = refl
  rows_alike (None ∷ row) = ap (λ r. None ∷ r) (rows_alike row)
  rows_alike (Some id ∷ row) =
      ap (λ c. (if c then None else Some id) ∷ map (place_without gone) row) (same id)
      ∙ ap (λ r. place_without others (Some id) ∷ r) (rows_alike row)

  places_alike : (slots : List Slots) → places_without gone slots ≡ places_without others slots
  places_alike [] = refl
  places_alike (row ∷ slots) =
      ap (λ r. r ∷ places_without gone slots) (rows_alike row)
      ∙ ap (λ rs. map (place_without others) row ∷ rs) (places_alike slots)

-- in whichever order places are emptied, the model's are left
pub back_alike : (ids : List Id) (slots : List Slots) → places_without (from_last ids) slots ≡ places_without ids slots
back_alike ids slots = places_alike (from_last ids) ids (contains_back ids) slots

-- ---- frames are closed

pub frames_cut : {F : Type 0} (layout : F → Layout) (past : Past) (h : HeapState F) (w : World) (pool frame before : ℕ) (p : PoolState)
    → pool_at h.beside.frames pool ≡ Some p → AreParts layout past h w
    → AreParts layout past (with_frames h (with_pool h.beside.frames pool (closed p frame before)))
    (world_with_frames w (frames_changed w.graph.frames pool (popped frame before)))
frames_cut layout past h w pool frame before p some parts =
    parts_with_frames layout past h w (with_pool h.beside.frames pool (closed p frame before))
    (frames_changed w.graph.frames pool (popped frame before))
    (framed_changed h.beside.frames h.roots.blocks w.graph.blocks w.pools w.graph.frames parts.framed pool p (closed p frame before)
    (popped frame before) some (λ f fits. record {
      pool = fits.pool;
      blocks = noted_cut h.roots.blocks w.graph.blocks before p.blocks f.blocks fits.blocks;
      opened = ap (take frame) fits.opened;
    })) parts
