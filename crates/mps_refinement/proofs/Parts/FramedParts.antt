-- The pools of frames of a heap still represent those of a world after places, pools, blocks or frames changed in both.
use Rattle.std.proofs.Common.{◌≡◌, ◌∙◌, ◌⊎◌, inl, inr, ℕ, zero, suc, ◌+◌, ◌<◌, ◌≤◌, Bool, true, false, refl, sym, ap, subst, List, [], ◌∷◌, ◌++◌, length, Option, Some, None, is_some, arith}
use Rattle.std.proofs.lemmas.Bool.{and_from, and_parts, cases_eq, cases_order, eq-eqb, eqb-true, ne_eqb, true≢false}
use Rattle.std.proofs.lemmas.List.Sums.{sum_by-cons, sum_by_push}
use Rattle.std.proofs.lemmas.Option.{get_or_from_slice_get, none-some, same_Some, slice_get_within, unwrap_or-slice_get}
use Rattle.std.specs.Prelude.{◌==◌, ◌&&◌, not, if◌then◌else◌, slice_get, slice_index_or, slice_set, sum_by}
use Rattle.std.specs.List.{list_all}
use Rattle.std.specs.Option.{option_map_or, unwrap_or}
use Rattle.mps_base.specs.Address.{Address, Id}
use Rattle.mps_changes.proofs.Frames.{blocks_in, frames_in}
use Rattle.mps_changes.proofs.Lookups.{slice_get-set_other, slice_get-set_same}
use Rattle.mps_changes.proofs.OneMore.{both_pass, parts_pass}
use Rattle.mps_laws.proofs.Lookups.{length-slice_set, slice_get-after_last, slice_get-at_last, slice_get-kept, slice_get-last}
use Rattle.mps_model.specs.Allocating.{with_block_noted}
use Rattle.mps_model.specs.Graph.{Object, PoolFrames, Slots, frames_changed, is_automatic, with_last}
use Rattle.mps_model.specs.Making.{most_slots}
use Rattle.mps_model.specs.WellFormed.{are_right_frames, are_rising, is_block_of}
use Rattle.mps_model.specs.World as world
use Rattle.mps_model.specs.World.{World, pool_is, pool_of}
use Rattle.mps_root.specs.State.{with_place}
use Rattle.mps_snc.specs.State.{PoolState, Pools, frames_count, frames_of, max_pools, new_pool, noted, pool_at, with_block, with_pool}
use Rattle.mps_snc.specs.declared.pool.Block.{Block}
use Rattle.mps_refinement.specs.Framed.{AreFramed, AreListed, AreNoted, IsListed, IsNoted, is_framed}

-- ---- places changed

module _ (places places_then : List (List Address)) (slots slots_then : List Slots) (test : Id → Bool)
    (still : (b : Block) (id : Id) → test id ≡ true → IsNoted places slots b id → IsNoted places_then slots_then b id) where
  pub noted_still : (bs : List Block) (ids : List Id) → list_all test ids ≡ true → AreNoted places slots bs ids
      → AreNoted places_then slots_then bs ids
  noted_still [] [] all are = tt
  noted_still [] (id ∷ ids) all are = absurd are
  noted_still (b ∷ bs) [] all are = absurd are
  noted_still (b ∷ bs) (id ∷ ids) all are =
      let parts = and_parts (test id) (list_all test ids) all in
      (still b id parts.0 are.0, noted_still bs ids parts.1 are.1)

  -- where each block that passes a test stands in its place, as all do
  pub listed_still : (n : ℕ) (os : Pools) (fs : List PoolFrames) → list_all test (blocks_in fs) ≡ true → AreListed places slots n os fs
      → AreListed places_then slots_then n os fs
  listed_still n [] [] all are = tt
  listed_still n [] (f ∷ fs) all are = absurd are
  listed_still n (None ∷ os) fs all are = listed_still (n + 1) os fs all are
  listed_still n (Some p ∷ os) [] all are = absurd are
  listed_still n (Some p ∷ os) (f ∷ fs) all are =
      let parts = parts_pass test f.blocks (blocks_in fs) all in (
        record {
          pool = are.0.pool;
          blocks = noted_still p.blocks f.blocks parts.0 are.0.blocks;
          opened = are.0.opened;
        },
        listed_still (n + 1) os fs parts.1 are.1,
      )

-- ---- one place written

module _ (places : List (List Address)) (slots : List Slots) (n i : ℕ) (row : Slots) (kept : List Address) (x : Option ℕ) (at : Address)
    (has : slice_get slots n ≡ Some row) (there : slice_get places n ≡ Some kept) where
  abbrev slots_after : List Slots
  slots_after = slice_set slots n (slice_set row i x)

  kept_is : slice_index_or places n [] ≡ kept
  kept_is = get_or_from_slice_get places n kept [] there

  table_after : slice_get slots_after n ≡ Some (slice_set row i x)
  table_after = slice_get-set_same slots n (slice_set row i x) (slice_get_within slots n row has)

  kept_after : slice_get (with_place places n i at) n ≡ Some (slice_set kept i at)
  kept_after =
      slice_get-set_same places n (slice_set (slice_index_or places n []) i at) (slice_get_within places n kept there)
      ∙ ap (λ xs. Some (slice_set xs i at)) kept_is

  -- a block in another place
  pub noted_beside : (b : Block) (id : Id) → ((b.place.table ≡ n) × (b.place.index ≡ i) → ⊥) → IsNoted places slots b id
      → IsNoted (with_place places n i at) slots_after b id
  noted_beside b id apart is =
      elim (cases_eq b.place.table n) [
        | inl same ↦
            let other : i ≡ b.place.index → ⊥ = (λ e. apart (same, sym e)) in
            let own : is.row ≡ row = same_Some is.row row (sym is.table ∙ ap (slice_get slots) same ∙ has) in
            let ours : is.kept ≡ kept = same_Some is.kept kept (sym is.there ∙ ap (slice_get places) same ∙ there) in
            record {
              row = slice_set row i x;
              table = ap (slice_get slots_after) same ∙ table_after;
              entry = slice_get-set_other row i b.place.index x other ∙ ap (λ r. slice_get r b.place.index) (sym own) ∙ is.entry;
              kept = slice_set kept i at;
              there = ap (slice_get (with_place places n i at)) same ∙ kept_after;
              at = slice_get-set_other kept i b.place.index at other ∙ ap (λ r. slice_get r b.place.index) (sym ours) ∙ is.at;
            }
        | inr apart_tables ↦
            let other : n ≡ b.place.table → ⊥ = (λ e. apart_tables (sym e)) in
            record {
              row = is.row;
              table = slice_get-set_other slots n b.place.table (slice_set row i x) other ∙ is.table;
              entry = is.entry;
              kept = is.kept;
              there = slice_get-set_other places n b.place.table (slice_set (slice_index_or places n []) i at) other ∙ is.there;
              at = is.at;
            }
      ]

  -- the block that was written there
  pub noted_there : (id : Id) (b : Block) → b.place.table ≡ n → b.place.index ≡ i → b.at.0 ≡ at → x ≡ Some id → i < length row
      → i < length kept → IsNoted (with_place places n i at) slots_after b id
  noted_there id b table index address is low ours = record {
    row = slice_set row i x;
    table = ap (slice_get slots_after) table ∙ table_after;
    entry = ap (slice_get (slice_set row i x)) index ∙ slice_get-set_same row i x low ∙ ap (λ o. Some o) is;
    kept = slice_set kept i at;
    there = ap (slice_get (with_place places n i at)) table ∙ kept_after;
    at = ap (slice_get (slice_set kept i at)) index ∙ slice_get-set_same kept i at ours ∙ ap (λ a. Some a) (sym address);
  }

-- ---- what a pool has

module _ (places : List (List Address)) (slots : List Slots) where
  -- no pool before the first of a list is in it
  listed_above : (n : ℕ) (os : Pools) (fs : List PoolFrames) (k : ℕ) → k < n → AreListed places slots n os fs → frames_in fs k ≡ None
  listed_above n [] [] k low are = refl
  listed_above n [] (f ∷ fs) k low are = absurd are
  listed_above n (None ∷ os) fs k low are = listed_above (n + 1) os fs k (omega (arith, low)) are
  listed_above n (Some p ∷ os) [] k low are = absurd are
  listed_above n (Some p ∷ os) (f ∷ fs) k low are =
      ap (λ b. if b then Some f else frames_in fs k) (ne_eqb f.pool k (λ e. let own = are.0.pool in omega (arith, e, own, low)))
      ∙ listed_above (n + 1) os fs k (omega (arith, low)) are.1

  -- a pool that isn't one of frames
  pub listed_absent : (n : ℕ) (os : Pools) (fs : List PoolFrames) (k m : ℕ) → m ≡ n + k → slice_index_or os k None ≡ None
      → AreListed places slots n os fs → frames_in fs m ≡ None
  listed_absent n [] [] k m is none are = refl
  listed_absent n [] (f ∷ fs) k m is none are = absurd are
  listed_absent n (None ∷ os) fs zero m is none are = listed_above (n + 1) os fs m (omega (arith, is)) are
  listed_absent n (None ∷ os) fs (suc k) m is none are = listed_absent (n + 1) os fs k m (omega (arith, is)) none are
  listed_absent n (Some p ∷ os) fs zero m is none are = absurd (none-some p (sym none))
  listed_absent n (Some p ∷ os) [] (suc k) m is none are = absurd are
  listed_absent n (Some p ∷ os) (f ∷ fs) (suc k) m is none are =
      ap (λ b. if b then Some f else frames_in fs m) (ne_eqb f.pool m (λ e. let own = are.0.pool in omega (arith, e, own, is)))
      ∙ listed_absent (n + 1) os fs k m (omega (arith, is)) none are.1

  -- and one of frames
  pub listed_found : (n : ℕ) (os : Pools) (fs : List PoolFrames) (k m : ℕ) (p : PoolState) → m ≡ n + k
      → slice_index_or os k None ≡ Some p → AreListed places slots n os fs
      → (f : PoolFrames) × (frames_in fs m ≡ Some f) × IsListed places slots m p f
  listed_found n [] fs k m p is some are = absurd (none-some p some)
  listed_found n (None ∷ os) fs zero m p is some are = absurd (none-some p some)
  listed_found n (None ∷ os) fs (suc k) m p is some are = listed_found (n + 1) os fs k m p (omega (arith, is)) some are
  listed_found n (Some q ∷ os) [] k m p is some are = absurd are
  listed_found n (Some q ∷ os) (f ∷ fs) zero m p is some are =
      let own = are.0.pool in (
        f,
        ap (λ b. if b then Some f else frames_in fs m) (eq-eqb f.pool m (omega (arith, own, is))),
        subst (λ (s : PoolState). IsListed places slots m s f) (same_Some q p some) (record {
          pool = omega (arith, own, is);
          blocks = are.0.blocks;
          opened = are.0.opened;
        }),
      )
  listed_found n (Some q ∷ os) (f ∷ fs) (suc k) m p is some are =
      let found = listed_found (n + 1) os fs k m p (omega (arith, is)) some are.1 in (
        found.0,
        ap (λ b. if b then Some f else frames_in fs m) (ne_eqb f.pool m (λ e. let own = are.0.pool in omega (arith, e, own, is))) ∙ found.1,
        found.2,
      )

  -- a pool of frames has others
  pub listed_changed : (n : ℕ) (os : Pools) (fs : List PoolFrames) (k m : ℕ) (p next : PoolState) (change : PoolFrames → PoolFrames)
      → m ≡ n + k → slice_index_or os k None ≡ Some p
      → ((f : PoolFrames) → IsListed places slots m p f → IsListed places slots m next (change f))
      → AreListed places slots n os fs → AreListed places slots n (slice_set os k (Some next)) (frames_changed fs m change)
  listed_changed n [] fs k m p next change is some fits are = absurd (none-some p some)
  listed_changed n (None ∷ os) fs zero m p next change is some fits are = absurd (none-some p some)
  listed_changed n (None ∷ os) fs (suc k) m p next change is some fits are =
      listed_changed (n + 1) os fs k m p next change (omega (arith, is)) some fits are
  listed_changed n (Some q ∷ os) [] k m p next change is some fits are = absurd are
  listed_changed n (Some q ∷ os) (f ∷ fs) zero m p next change is some fits are =
      let own = are.0.pool in
      let here = fits f (subst (λ (s : PoolState). IsListed places slots m s f) (same_Some q p some) (record {
        pool = omega (arith, own, is);
        blocks = are.0.blocks;
        opened = are.0.opened;
      })) in
      let pool = here.pool in
      subst (λ b. AreListed places slots n (Some next ∷ os) (if b then change f ∷ fs else f ∷ frames_changed fs m change))
      (sym (eq-eqb f.pool m (omega (arith, own, is))))
      (record { pool = omega (arith, pool, is); blocks = here.blocks; opened = here.opened }, are.1)
  listed_changed n (Some q ∷ os) (f ∷ fs) (suc k) m p next change is some fits are =
      subst (λ b. AreListed places slots n (Some q ∷ slice_set os k (Some next))
      (if b then change f ∷ fs else f ∷ frames_changed fs m change))
      (sym (ne_eqb f.pool m (λ e. let own = are.0.pool in omega (arith, e, own, is))))
      (are.0, listed_changed (n + 1) os fs k m p next change (omega (arith, is)) some fits are.1)

  none_left : (n : ℕ) (os : Pools) (fs : List PoolFrames) → ((k : ℕ) → slice_index_or os k None ≡ None) → AreListed places slots n os fs
      → fs ≡ []
  none_left n [] [] none are = refl
  none_left n [] (f ∷ fs) none are = absurd are
  none_left n (None ∷ os) fs none are = none_left (n + 1) os fs (λ k. none (suc k)) are
  none_left n (Some p ∷ os) fs none are = absurd (none-some p (sym (none 0)))

  -- one more pool of frames, after all that there are
  pub listed_added : (n : ℕ) (os : Pools) (fs : List PoolFrames) (k m : ℕ) → m ≡ n + k → k < length os
      → ((j : ℕ) → k ≤ j → slice_index_or os j None ≡ None) → AreListed places slots n os fs
      → AreListed places slots n (slice_set os k (Some new_pool)) (with_last fs (record { pool = m; blocks = []; opened = [] }))
  listed_added n [] fs k m is low none are = absurd (omega (arith, low))
  listed_added n (Some p ∷ os) fs zero m is low none are = absurd (none-some p (sym (none 0 (omega arith))))
  listed_added n (None ∷ os) fs zero m is low none are =
      let empty : fs ≡ [] = none_left (n + 1) os fs (λ k. none (suc k) (omega arith)) are in
      subst (λ gs. AreListed places slots n (Some new_pool ∷ os) (with_last gs (record { pool = m; blocks = []; opened = [] })))
      (sym empty)
      (record { pool = omega (arith, is); blocks = tt; opened = refl }, subst (AreListed places slots (n + 1) os) empty are)
  listed_added n (None ∷ os) fs (suc k) m is low none are =
      listed_added (n + 1) os fs k m (omega (arith, is)) (omega (arith, low)) (λ j le. none (suc j) (omega (arith, le))) are
  listed_added n (Some p ∷ os) [] (suc k) m is low none are = absurd are
  listed_added n (Some p ∷ os) (f ∷ fs) (suc k) m is low none are =
      (are.0, listed_added (n + 1) os fs k m (omega (arith, is)) (omega (arith, low)) (λ j le. none (suc j) (omega (arith, le))) are.1)

  -- ---- counts

  -- as many frames are open
  pub opened_alike : (n : ℕ) (os : Pools) (fs : List PoolFrames) → AreListed places slots n os fs
      → frames_count os ≡ sum_by (λ (f : PoolFrames). length f.opened) fs
  opened_alike n [] [] are = refl
  opened_alike n [] (f ∷ fs) are = absurd are
  opened_alike n (None ∷ os) fs are =
      let later = opened_alike (n + 1) os fs are in
      let ours = sum_by-cons frames_of None os in
      omega (arith, ours, later)
  opened_alike n (Some p ∷ os) [] are = absurd are
  opened_alike n (Some p ∷ os) (f ∷ fs) are =
      let own = ap length are.0.opened in
      let later = opened_alike (n + 1) os fs are.1 in
      let ours = sum_by-cons frames_of (Some p) os in
      let theirs = sum_by-cons (λ (g : PoolFrames). length g.opened) f fs in
      omega (arith, ours, theirs, own, later)

  -- as many blocks are noted
  pub noted_alike : (bs : List Block) (ids : List Id) → AreNoted places slots bs ids → length bs ≡ length ids
  noted_alike [] [] are = refl
  noted_alike [] (id ∷ ids) are = absurd are
  noted_alike (b ∷ bs) [] are = absurd are
  noted_alike (b ∷ bs) (id ∷ ids) are = ap suc (noted_alike bs ids are.1)

  -- one block more
  pub noted_last : (bs : List Block) (ids : List Id) (b : Block) (id : Id) → AreNoted places slots bs ids → IsNoted places slots b id
      → AreNoted places slots (bs ++ b ∷ []) (with_last ids id)
  noted_last [] [] b id are is = (is, tt)
  noted_last [] (j ∷ ids) b id are is = absurd are
  noted_last (c ∷ bs) [] b id are is = absurd are
  noted_last (c ∷ bs) (j ∷ ids) b id are is = (are.0, noted_last bs ids b id are.1 is)

-- where a pool has no frames, none change
pub changed_absent : (fs : List PoolFrames) (pool : ℕ) (change : PoolFrames → PoolFrames) → frames_in fs pool ≡ None
    → frames_changed fs pool change ≡ fs
changed_absent [] pool change none = refl
changed_absent (f ∷ fs) pool change none = of_test (f.pool == pool) (changed_absent fs pool change) none
  where
    of_test : (b : Bool) → (frames_in fs pool ≡ None → frames_changed fs pool change ≡ fs)
        → (if b then Some f else frames_in fs pool) ≡ None
        → (if b then change f ∷ fs else f ∷ frames_changed fs pool change) ≡ f ∷ fs
    of_test true later e = absurd (none-some f (sym e))
    of_test false later e = ap (λ gs. f ∷ gs) (later e)

pub all_true : (ids : List Id) → list_all (λ id. true) ids ≡ true
all_true [] = refl
all_true (id ∷ ids) = all_true ids

pub none_from : {X : Type 0} (xs : List X) (n : ℕ) → length xs ≤ n → slice_get xs n ≡ None
none_from [] n le = refl
none_from (x ∷ xs) zero le = absurd (omega (arith, le))
none_from (x ∷ xs) (suc n) le = none_from xs n (omega (arith, le))

-- whether a pool of a world has frames
abbrev pub kind_at : Option world.Pool → Bool
kind_at o = option_map_or (λ (x : world.Pool). world.has_frames x.kind) o false

-- two lists that have one entry alike
entry_alike : {X : Type 0} (xs ys : List (Option X)) (n : ℕ) → slice_get xs n ≡ slice_get ys n
    → slice_index_or xs n None ≡ slice_index_or ys n None
entry_alike xs ys n e = sym (unwrap_or-slice_get xs n None) ∙ ap (λ o. unwrap_or o None) e ∙ unwrap_or-slice_get ys n None

-- an entry that is there is within its list
some_within : {X : Type 0} (xs : List (Option X)) (n : ℕ) (x : X) → slice_index_or xs n None ≡ Some x → n < length xs
some_within [] n x e = absurd (none-some x e)
some_within (y ∷ ys) zero x e = omega arith
some_within (y ∷ ys) (suc n) x e = let later = some_within ys n x e in omega (arith, later)

-- ---- all of it, where a place is written

module _ (frames : Pools) (places : List (List Address)) (slots : List Slots) (pools : List world.Pool) (fs : List PoolFrames)
    (framed : AreFramed frames places slots pools fs) where
  -- what stood there is no block of a pool of frames
  pub framed_written : (n i : ℕ) (row : Slots) (kept : List Address) (x : Option ℕ) (at : Address) → slice_get slots n ≡ Some row
      → slice_get places n ≡ Some kept → (test : Id → Bool) → list_all test (blocks_in fs) ≡ true
      → ((id : Id) → slice_get row i ≡ Some (Some id) → test id ≡ true → ⊥)
      → sum_by length (slice_set slots n (slice_set row i x)) ≡ sum_by length slots
      → AreFramed frames (with_place places n i at) (slice_set slots n (slice_set row i x)) pools fs
  framed_written n i row kept x at has there test all apart same = record {
    listed = listed_still places (with_place places n i at) slots (slice_set slots n (slice_set row i x)) test
        (λ b id passes is.
        noted_beside places slots n i row kept x at has there b id (λ same.
        apart id (ap (slice_get row) (sym same.1)
        ∙ ap (λ r. slice_get r b.place.index) (same_Some row is.row (sym has ∙ ap (slice_get slots) (sym same.0) ∙ is.table)) ∙ is.entry)
        passes) is) 0 frames fs all framed.listed;
    count = framed.count;
    kinds = framed.kinds;
    few = let low = framed.few in omega (arith, low, same);
  }

  -- one more pool without frames
  pub framed_beside : (q : world.Pool) → world.has_frames q.kind ≡ false → AreFramed frames places slots (with_last pools q) fs
  framed_beside q plain = record {
    listed = framed.listed;
    count = framed.count;
    kinds = λ n. framed.kinds n ∙ sym (of_order n (cases_order n (length pools)));
    few = framed.few;
  }
    where
      of_order : (n : ℕ) → (n ≡ length pools) ⊎ ((n < length pools) ⊎ (length pools < n))
          → is_framed (with_last pools q) n ≡ is_framed pools n
      of_order n (inl at_last) =
          ap (is_framed (with_last pools q)) at_last ∙ ap kind_at (slice_get-at_last pools q) ∙ plain
          ∙ sym (ap kind_at (none_from pools n (omega (arith, at_last))))
      of_order n (inr (inl low)) = ap kind_at (slice_get-last pools q n low)
      of_order n (inr (inr high)) =
          ap kind_at (slice_get-after_last pools q n high ∙ sym (none_from pools n (omega (arith, high))))

  -- a table of places more, all of them empty, where there are few enough
  pub framed_added : (row : Slots) (kept : List Address) → sum_by length slots + length row ≤ most_slots
      → AreFramed frames (places ++ kept ∷ []) (with_last slots row) pools fs
  framed_added row kept few = record {
    listed = listed_still places (places ++ kept ∷ []) slots (with_last slots row) (λ id. true) (λ b id passes is. record {
      row = is.row;
      table = slice_get-kept slots row is.row b.place.table is.table;
      entry = is.entry;
      kept = is.kept;
      there = slice_get-kept places kept is.kept b.place.table is.there;
      at = is.at;
    }) 0 frames fs (all_true (blocks_in fs)) framed.listed;
    count = framed.count;
    kinds = framed.kinds;
    few = let sum = sum_by_push length slots row in omega (arith, few, sum);
  }

  -- one more pool, of frames, by the number that it has
  pub framed_made : (q : world.Pool) → world.has_frames q.kind ≡ true → length pools < max_pools
      → AreFramed (with_pool frames (length pools) new_pool) places slots (with_last pools q)
      (with_last fs (record { pool = length pools; blocks = []; opened = [] }))
  framed_made q plain low = record {
    listed = listed_added places slots 0 frames fs (length pools) (length pools) (omega arith)
        (let n = framed.count in omega (arith, n, low)) (λ j high. none_there j (framed.kinds j ∙ not_framed j high)) framed.listed;
    count = length-slice_set frames (length pools) (Some new_pool) ∙ framed.count;
    kinds = λ n. of_order n (cases_order n (length pools));
    few = framed.few;
  }
    where
      not_framed : (j : ℕ) → length pools ≤ j → is_framed pools j ≡ false
      not_framed j high = ap kind_at (none_from pools j high)

      none_there : (j : ℕ) → is_some (pool_at frames j) ≡ false → slice_index_or frames j None ≡ None
      none_there j e = of_entry (slice_index_or frames j None) e
        where
          of_entry : (o : Option PoolState) → is_some o ≡ false → o ≡ None
          of_entry None h = refl
          of_entry (Some p) h = absurd (true≢false h)

      other_entry : (n : ℕ) → (length pools ≡ n → ⊥) → pool_at (with_pool frames (length pools) new_pool) n ≡ pool_at frames n
      other_entry n apart = entry_alike (with_pool frames (length pools) new_pool) frames n
          (slice_get-set_other frames (length pools) n (Some new_pool) apart)

      of_order : (n : ℕ) → (n ≡ length pools) ⊎ ((n < length pools) ⊎ (length pools < n))
          → is_some (pool_at (with_pool frames (length pools) new_pool) n) ≡ is_framed (with_last pools q) n
      of_order n (inl at_last) =
          ap (λ m. is_some (pool_at (with_pool frames (length pools) new_pool) m)) at_last
          ∙ ap is_some (get_or_from_slice_get (with_pool frames (length pools) new_pool) (length pools) (Some new_pool) None
          (slice_get-set_same frames (length pools) (Some new_pool) (let e = framed.count in omega (arith, e, low))))
          ∙ sym (ap (is_framed (with_last pools q)) at_last ∙ ap kind_at (slice_get-at_last pools q) ∙ plain)
      of_order n (inr (inl less)) =
          ap is_some (other_entry n (λ e. omega (arith, e, less))) ∙ framed.kinds n
          ∙ sym (ap kind_at (slice_get-last pools q n less))
      of_order n (inr (inr high)) =
          ap is_some (other_entry n (λ e. omega (arith, e, high))) ∙ framed.kinds n ∙ not_framed n (omega (arith, high))
          ∙ sym (ap kind_at (slice_get-after_last pools q n high))

  -- a pool of frames has others, and no place changed
  pub framed_changed : (pool : ℕ) (p next : PoolState) (change : PoolFrames → PoolFrames) → pool_at frames pool ≡ Some p
      → ((f : PoolFrames) → IsListed places slots pool p f → IsListed places slots pool next (change f))
      → AreFramed (with_pool frames pool next) places slots pools (frames_changed fs pool change)
  framed_changed pool p next change some fits = record {
    listed = listed_changed places slots 0 frames fs pool pool p next change (omega arith) some fits framed.listed;
    count = length-slice_set frames pool (Some next) ∙ framed.count;
    kinds = λ n. of_equal n (cases_eq n pool) ∙ framed.kinds n;
    few = framed.few;
  }
    where
      of_equal : (n : ℕ) → (n ≡ pool) ⊎ (n ≡ pool → ⊥)
          → is_some (pool_at (with_pool frames pool next) n) ≡ is_some (pool_at frames n)
      of_equal n (inl same) =
          ap (λ m. is_some (pool_at (with_pool frames pool next) m)) same
          ∙ ap is_some (get_or_from_slice_get (with_pool frames pool next) pool (Some next) None
          (slice_get-set_same frames pool (Some next) (some_within frames pool p some)))
          ∙ sym (ap (λ m. is_some (pool_at frames m)) same ∙ ap is_some some)
      of_equal n (inr apart) =
          ap is_some (entry_alike (with_pool frames pool next) frames n
          (slice_get-set_other frames pool n (Some next) (λ e. apart (sym e))))

  -- a block is noted that stands in its place, if its pool is one of frames
  pub framed_noted : (pool : ℕ) (b : Block) (id : Id) → IsNoted places slots b id
      → AreFramed (noted frames pool b) places slots pools (with_block_noted fs pool id)
  framed_noted pool b id is = of_pool (pool_at frames pool) refl
    where
      of_pool : (o : Option PoolState) → pool_at frames pool ≡ o
          → AreFramed (option_map_or (λ p. with_pool frames pool (with_block p b)) o frames) places slots pools
          (with_block_noted fs pool id)
      of_pool None none =
          subst (AreFramed frames places slots pools)
          (sym (changed_absent fs pool (λ f. record f { blocks = with_last f.blocks id })
          (listed_absent places slots 0 frames fs pool pool (omega arith) none framed.listed))) framed
      of_pool (Some p) some =
          framed_changed pool p (with_block p b) (λ f. record f { blocks = with_last f.blocks id }) some (λ f fits. record {
            pool = fits.pool;
            blocks = noted_last places slots p.blocks f.blocks b id fits.blocks is;
            opened = fits.opened;
          })

-- ---- a block whose pool has no frames

module _ (w : World) (id : Id) (frameless : pool_is world.has_frames w (pool_of w id) ≡ false) where
  own_pool : (pool : ℕ) → is_block_of w pool id ≡ true → pool_of w id ≡ pool
  own_pool pool h = of_object (slice_get w.graph.objects id) h
    where
      of_object : (o : Option Object) → option_map_or (λ (x : Object). not (is_automatic x) && x.pool == pool) o false ≡ true
          → option_map_or (λ (x : Object). x.pool) o 0 ≡ pool
      of_object None e = absurd (true≢false (sym e))
      of_object (Some x) e = eqb-true x.pool pool (and_parts (not (is_automatic x)) (x.pool == pool) e).1

  row_others : (pool : ℕ) → pool_is world.has_frames w pool ≡ true → (ids : List Id) → list_all (is_block_of w pool) ids ≡ true
      → list_all (λ j. not (id == j)) ids ≡ true
  row_others pool has [] all = refl
  row_others pool has (j ∷ js) all =
      let parts = and_parts (is_block_of w pool j) (list_all (is_block_of w pool) js) all in
      and_from (not (id == j)) (list_all (λ k. not (id == k)) js)
      (ap not (ne_eqb id j (λ same.
      let own = own_pool pool (ap (is_block_of w pool) same ∙ parts.0) in
      true≢false (sym has ∙ ap (pool_is world.has_frames w) (sym own) ∙ frameless))))
      (row_others pool has js parts.1)

  -- stands in no frames
  pub frames_others : (fs : List PoolFrames) → list_all (are_right_frames w) fs ≡ true
      → list_all (λ j. not (id == j)) (blocks_in fs) ≡ true
  frames_others [] right = refl
  frames_others (f ∷ fs) right =
      let parts = and_parts (are_right_frames w f) (list_all (are_right_frames w) fs) right in
      let rising = are_rising 0 (length f.blocks) f.opened in
      let first = and_parts (pool_is world.has_frames w f.pool) (list_all (is_block_of w f.pool) f.blocks && rising) parts.0 in
      let rest = and_parts (list_all (is_block_of w f.pool) f.blocks) rising first.1 in
      both_pass (λ j. not (id == j)) f.blocks (blocks_in fs) (row_others f.pool first.0 f.blocks rest.0) (frames_others fs parts.1)
