-- The blocks of a map's entries, in ascending order of their addresses.
use Rattle.std.proofs.Common.{◌≡◌, ℕ, ◌+◌, ◌<◌, Bool, cond, eqb, ltb, [], ◌∷◌, ◌++◌, Option, Some, length, map, drop, get_or, drop-cons, add-one, true, false, refl, sym, ap, ◌∙◌}
use Rattle.std.specs.List.{AllByRecursion}
use Rattle.std.specs.List.Sorted.{IsStrictlySortedBy}
use Rattle.std.specs.Map.{keys_of}
use Rattle.std.specs.Ordering.{nat_cmp}
use Rattle.std.specs.declared.cmp.Ordering.TheVariants.{Less, Equal, Greater}
use Rattle.std.proofs.lemmas.Bool.{ltb-true, eqb-true}
use Rattle.std.proofs.lemmas.Map.Keys.{sorted_from_strictly_increasing}
use Rattle.mps_model.specs.Replay.{Block, block_at}
use Rattle.mps_address_map.specs.AddressMap.{found_at, Lists}
use Rattle.mps_blocks.specs.declared.replay.Extent.{Extent}
use Rattle.mps_blocks.specs.Entries.{block_of, store_of}
use Rattle.mps_blocks.specs.Listing.{block_line, listing}
use Rattle.mps_blocks.proofs.Ascending.{Above, Ascends}
use Rattle.mps_blocks.proofs.Stores.{same_store}
use Rattle.mps_blocks.proofs.Entries.{Entries, shown, eqb-sym, ascends-store, block_at-store}

-- ---- what is found

found_case : (c : Bool) (key q : ℕ) (x : Extent) (o : Option Extent) → (c ≡ true → key ≡ q)
    → cond c (Some (block_of (key, x))) (shown q o) ≡ shown q (cond c (Some x) o)
found_case true key q x o same = ap (λ (k : ℕ). Some (block_of (k, x))) (same refl)
found_case false key q x o same = refl

block_at-map : (es : Entries) (q : ℕ) → block_at (map block_of es) q ≡ shown q (found_at es q)
block_at-map [] q = refl
block_at-map (e ∷ es) q =
    ap (λ (o : Option Block). cond (eqb e.0 q) (Some (block_of e)) o) (block_at-map es q)
    ∙ found_case (eqb e.0 q) e.0 q e.1 (found_at es q) (eqb-true e.0 q)
    ∙ ap (λ (c : Bool). shown q (cond c (Some e.1) (found_at es q))) (eqb-sym e.0 q)

-- ---- in order

less_case : (c d : Bool) → cond c Less (cond d Equal Greater) ≡ Less → c ≡ true
less_case true d h = refl
less_case false true h = absurd cc
less_case false false h = absurd cc

less : (m n : ℕ) → nat_cmp m n ≡ Less → m < n
less m n h = ltb-true m n (less_case (ltb m n) (eqb m n) h)

above_each : (n : ℕ) (es : Entries) → AllByRecursion (λ (y : ℕ). nat_cmp n y ≡ Less) (keys_of es) → Above n (map block_of es)
above_each n [] h = tt
above_each n (e ∷ es) h = (less n e.0 h.0, above_each n es h.1)

ascends_each : (es : Entries) → IsStrictlySortedBy nat_cmp (keys_of es) → Ascends (map block_of es)
unfolding IsStrictlySortedBy
ascends_each [] h = tt
ascends_each (e ∷ es) h = (above_each e.0 es h.0, ascends_each es h.1)

-- ---- all of them

-- the entries of a map, in ascending order, are its blocks in order
pub all_in_order : (es sorted : Entries) → Lists es sorted → map block_of sorted ≡ store_of es
all_in_order es sorted lists =
    same_store (map block_of sorted) (store_of es)
    (ascends_each sorted (sorted_from_strictly_increasing (keys_of sorted) lists.ascending)) (ascends-store es)
    (λ q. block_at-map sorted q ∙ ap (shown q) (lists.same q) ∙ sym (block_at-store es q))

-- ---- the lines

-- what is listed from an index on is the line of the block there, and what is listed after it
pub listing_next : (es : Entries) (i : ℕ) (d : ℕ × Extent) → i < length es
    → listing (map block_of (drop i es)) ≡ block_line (block_of (get_or es i d)) ++ listing (map block_of (drop (i + 1) es))
listing_next es i d h =
    let next : drop i es ≡ get_or es i d ∷ drop (i + 1) es = rw (add-one, drop-cons es i d) refl in
    ap (λ (a : Entries). listing (map block_of a)) next
