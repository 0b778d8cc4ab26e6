-- Where a place of a table of blocks is empty, fewer blocks stand in the frames of a pool than there may be places: so there is room to
-- note one more.
use Rattle.std.proofs.Common.{◌≡◌, ◌∙◌, ℕ, zero, suc, ◌+◌, ◌<◌, ◌≤◌, Bool, true, false, refl, sym, ap, subst, List, [], ◌∷◌, length, Some, None, arith}
use Rattle.std.proofs.lemmas.Bool.{eq-eqb, eqb-true}
use Rattle.std.proofs.lemmas.List.{length-append}
use Rattle.std.proofs.lemmas.List.Sums.{sum_by-cons}
use Rattle.std.proofs.lemmas.Option.{none-some, same_Some}
use Rattle.std.specs.Prelude.{◌==◌, if◌then◌else◌, slice_get, sum_by}
use Rattle.std.specs.List.{flat_map}
use Rattle.mps_changes.proofs.Frames.{blocks_in, frames_in}
use Rattle.mps_laws.proofs.Frames.{AreRightFrames}
use Rattle.mps_laws.proofs.WellFormedHistories.{reached_kept}
use Rattle.mps_model.specs.Graph.{PoolFrames, Slots, entries, ids_in_places, occurrences}
use Rattle.mps_model.specs.Making.{most_slots}
use Rattle.mps_model.specs.World.{World}
use Rattle.mps_refinement.specs.StandsFor.{IsReached}

-- ---- lists of numbers

-- a list without one of its numbers
record IsWithout (x : ℕ) (ys zs : List ℕ) : Type 0 where
  pub longer : length ys ≡ length zs + 1
  pub counts : (j : ℕ) → occurrences ys j ≡ occurrences zs j + (if x == j then 1 else 0)

without_it : (x : ℕ) (ys : List ℕ) → 1 ≤ occurrences ys x → (zs : List ℕ) × IsWithout x ys zs
without_it x [] some = absurd (omega (arith, some))
without_it x (y ∷ ys) some = of_test (y == x) refl (without_it x ys)
  where
    of_test : (b : Bool) → (y == x) ≡ b → (1 ≤ occurrences ys x → (zs : List ℕ) × IsWithout x ys zs)
        → (zs : List ℕ) × IsWithout x (y ∷ ys) zs
    of_test true e later = (
      ys,
      record {
        longer = omega arith;
        counts = λ j.
            let same : ◌≡◌ {A = ℕ} (if y == j then 1 else 0) (if x == j then 1 else 0) =
            ap (λ n. if n == j then 1 else 0) (eqb-true y x e) in
            omega (arith, same);
      },
    )
    of_test false e later =
        let none : ◌≡◌ {A = ℕ} (if y == x then 1 else 0) 0 = ap (λ b. if b then 1 else 0) e in
        let rest = later (omega (arith, none, some)) in
        let is = rest.1 in
        let longer = is.longer in
        (y ∷ rest.0, record { longer = omega (arith, longer); counts = λ j. let e = is.counts j in omega (arith, e) })

-- a list in which each number stands no more often isn't longer
pub no_longer : (xs ys : List ℕ) → ((j : ℕ) → occurrences xs j ≤ occurrences ys j) → length xs ≤ length ys
no_longer [] ys fewer = omega arith
no_longer (x ∷ xs) ys fewer =
    let here = fewer x in
    let own : ◌≡◌ {A = ℕ} (if x == x then 1 else 0) 1 = ap (λ b. if b then 1 else 0) (eq-eqb x x refl) in
    let rest = without_it x ys (omega (arith, here, own)) in
    let is = rest.1 in
    let longer = is.longer in
    let later = no_longer xs rest.0 (λ j. let f = fewer j in let c = is.counts j in omega (arith, f, c)) in
    omega (arith, longer, later)

-- ---- places

entries_few : (row : Slots) → length (entries row) ≤ length row
entries_few [] = omega arith
entries_few (None ∷ os) = let later = entries_few os in omega (arith, later)
entries_few (Some id ∷ os) = let later = entries_few os in omega (arith, later)

entries_fewer : (row : Slots) (i : ℕ) → slice_get row i ≡ Some None → length (entries row) + 1 ≤ length row
entries_fewer [] i e = absurd (none-some None e)
entries_fewer (None ∷ os) zero e = let later = entries_few os in omega (arith, later)
entries_fewer (Some id ∷ os) zero e = absurd (none-some id (same_Some None (Some id) (sym e)))
entries_fewer (None ∷ os) (suc i) e = let later = entries_fewer os i e in omega (arith, later)
entries_fewer (Some id ∷ os) (suc i) e = let later = entries_fewer os i e in omega (arith, later)

places_few : (rows : List Slots) → length (flat_map entries rows) ≤ sum_by length rows
places_few [] = omega arith
places_few (row ∷ rows) =
    let here = entries_few row in
    let later = places_few rows in
    let both = length-append (entries row) (flat_map entries rows) in
    let sum = sum_by-cons length row rows in
    omega (arith, here, later, both, sum)

places_fewer : (rows : List Slots) (n i : ℕ) (row : Slots) → slice_get rows n ≡ Some row → slice_get row i ≡ Some None
    → length (flat_map entries rows) + 1 ≤ sum_by length rows
places_fewer [] n i row has e = absurd (none-some row has)
places_fewer (r ∷ rs) zero i row has e =
    let here = entries_fewer r i (ap (λ o. slice_get o i) (same_Some r row has) ∙ e) in
    let later = places_few rs in
    let both = length-append (entries r) (flat_map entries rs) in
    let sum = sum_by-cons length r rs in
    omega (arith, here, later, both, sum)
places_fewer (r ∷ rs) (suc n) i row has e =
    let here = entries_few r in
    let later = places_fewer rs n i row has e in
    let both = length-append (entries r) (flat_map entries rs) in
    let sum = sum_by-cons length r rs in
    omega (arith, here, later, both, sum)

-- ---- blocks of frames

pub found_few : (fs : List PoolFrames) (pool : ℕ) (f : PoolFrames) → frames_in fs pool ≡ Some f → length f.blocks ≤ length (blocks_in fs)
found_few [] pool f e = absurd (none-some f e)
found_few (g ∷ gs) pool f e = of_test (g.pool == pool) (found_few gs pool f) e
  where
    of_test : (b : Bool) → (frames_in gs pool ≡ Some f → length f.blocks ≤ length (blocks_in gs))
        → (if b then Some g else frames_in gs pool) ≡ Some f → length f.blocks ≤ length (blocks_in (g ∷ gs))
    of_test true later k =
        let same = ap (λ (x : PoolFrames). length x.blocks) (same_Some g f k) in
        let both = length-append g.blocks (blocks_in gs) in
        omega (arith, same, both)
    of_test false later k = let le = later k in let both = length-append g.blocks (blocks_in gs) in omega (arith, le, both)

pub room_for_notes : (w : World) → AreRightFrames w → sum_by length w.graph.blocks ≤ most_slots → (n i : ℕ) (row : Slots)
    → slice_get w.graph.blocks n ≡ Some row → slice_get row i ≡ Some None → (pool : ℕ) (f : PoolFrames)
    → frames_in w.graph.frames pool ≡ Some f → length f.blocks < most_slots
room_for_notes w right few n i row has empty pool f found =
    let most = found_few w.graph.frames pool f found in
    let placed = no_longer (blocks_in w.graph.frames) (ids_in_places w.graph) no_more in
    let fewer = places_fewer w.graph.blocks n i row has empty in
    omega (arith, most, placed, fewer, few)
  where
    no_more : (j : ℕ) → occurrences (blocks_in w.graph.frames) j ≤ occurrences (ids_in_places w.graph) j
    no_more j = of_count (occurrences (blocks_in w.graph.frames) j) refl
      where
        of_count : (c : ℕ) → occurrences (blocks_in w.graph.frames) j ≡ c
            → occurrences (blocks_in w.graph.frames) j ≤ occurrences (ids_in_places w.graph) j
        of_count zero e = omega (arith, e)
        of_count (suc c) e =
            let once = right.once.once j in let there = right.placed j (omega (arith, e)) in omega (arith, once, there, e)

pub reached_frames : (w : World) → IsReached w → AreRightFrames w
reached_frames w r = subst AreRightFrames (sym r.is) (reached_kept w.formats r.history r.once r.legal).framed
