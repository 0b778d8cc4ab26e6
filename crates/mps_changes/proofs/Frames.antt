-- The frames of pools: the frames that a search finds, what stands in them before and after they are changed, and places that are emptied.
use Rattle.std.proofs.Common.{◌≡◌, ◌∙◌, ◌⊎◌, inl, inr, ℕ, ◌+◌, ◌≤◌, Bool, true, false, refl, sym, ap, subst, List, [], ◌∷◌, ◌++◌, map, Option, Some, None, arith}
use Rattle.std.proofs.lemmas.Bool.{and_parts, and_from, eqb-true, eq-eqb, true≢false}
use Rattle.std.proofs.lemmas.List.{take-append-drop}
use Rattle.std.proofs.lemmas.Option.{none-some, same_Some}
use Rattle.std.specs.Prelude.{◌==◌, ◌||◌, if◌then◌else◌, find, take, drop}
use Rattle.std.specs.List.{list_all, flat_map}
use Rattle.mps_base.specs.Address.{Id}
use Rattle.mps_model.specs.Graph.{PoolFrames, Slots, contains, entries, frames_changed, occurrences}
use Rattle.mps_model.specs.Allocating.{with_block_noted}
use Rattle.mps_model.specs.Frames.{blocks_popped, place_without, places_without, popped}
use Rattle.mps_changes.proofs.OneMore.{HasOneMore, after_others, before_others, both_pass, last_more, occurrences-append, parts_pass, reversed_pass}

-- the blocks of pools of frames, pool by pool
abbrev pub blocks_in : List PoolFrames → List ℕ
blocks_in fs = flat_map (λ (f : PoolFrames). f.blocks) fs

-- ---- what a search finds

abbrev pub frames_in : List PoolFrames → (pool : ℕ) → Option PoolFrames
frames_in fs pool = find (λ (f : PoolFrames). f.pool == pool) fs

pub found_pool : (fs : List PoolFrames) (pool : ℕ) (f : PoolFrames) → frames_in fs pool ≡ Some f → f.pool ≡ pool
found_pool [] pool f e = absurd (none-some f e)
found_pool (g ∷ gs) pool f e = of_test (g.pool == pool) refl (found_pool gs pool f) e
  where
    of_test : (b : Bool) → (g.pool == pool) ≡ b → (frames_in gs pool ≡ Some f → f.pool ≡ pool)
        → (if b then Some g else frames_in gs pool) ≡ Some f → f.pool ≡ pool
    of_test true h later k = subst (λ (x : PoolFrames). x.pool ≡ pool) (same_Some g f k) (eqb-true g.pool pool h)
    of_test false h later k = later k

-- what passes of each, passes of the one that was found
pub found_passes : (test : PoolFrames → Bool) (fs : List PoolFrames) (pool : ℕ) (f : PoolFrames) → frames_in fs pool ≡ Some f
    → list_all test fs ≡ true → test f ≡ true
found_passes test [] pool f e all = absurd (none-some f e)
found_passes test (g ∷ gs) pool f e all =
    let parts = and_parts (test g) (list_all test gs) all in
    of_test (g.pool == pool) parts.0 (λ h. found_passes test gs pool f h parts.1) e
  where
    of_test : (b : Bool) → test g ≡ true → (frames_in gs pool ≡ Some f → test f ≡ true)
        → (if b then Some g else frames_in gs pool) ≡ Some f → test f ≡ true
    of_test true one later k = subst (λ x. test x ≡ true) (same_Some g f k) one
    of_test false one later k = later k

-- what passes of each block, passes of those of the one that was found
pub found_blocks_pass : (test : ℕ → Bool) (fs : List PoolFrames) (pool : ℕ) (f : PoolFrames) → frames_in fs pool ≡ Some f
    → list_all test (blocks_in fs) ≡ true → list_all test f.blocks ≡ true
found_blocks_pass test [] pool f e all = absurd (none-some f e)
found_blocks_pass test (g ∷ gs) pool f e all =
    let parts = parts_pass test g.blocks (blocks_in gs) all in
    of_test (g.pool == pool) parts.0 (λ h. found_blocks_pass test gs pool f h parts.1) e
  where
    of_test : (b : Bool) → list_all test g.blocks ≡ true → (frames_in gs pool ≡ Some f → list_all test f.blocks ≡ true)
        → (if b then Some g else frames_in gs pool) ≡ Some f → list_all test f.blocks ≡ true
    of_test true one later k = subst (λ (x : PoolFrames). list_all test x.blocks ≡ true) (same_Some g f k) one
    of_test false one later k = later k

-- ---- cut lists

pub cut_passes : (test : ℕ → Bool) (n : ℕ) (ids : List ℕ) → list_all test ids ≡ true
    → (list_all test (take n ids) ≡ true) × (list_all test (drop n ids) ≡ true)
cut_passes test n ids all =
    parts_pass test (take n ids) (drop n ids) (subst (λ (is : List ℕ). list_all test is ≡ true) (sym (take-append-drop n ids)) all)

pub cut_occurs : (n : ℕ) (ids : List ℕ) (j : ℕ) → occurrences ids j ≡ occurrences (take n ids) j + occurrences (drop n ids) j
cut_occurs n ids j =
    ap (λ (is : List ℕ). occurrences is j) (sym (take-append-drop n ids)) ∙ occurrences-append j (take n ids) (drop n ids)

pub popped_pass : (test : ℕ → Bool) (f : PoolFrames) (before : ℕ) → list_all test f.blocks ≡ true
    → list_all test (blocks_popped f before) ≡ true
popped_pass test f before all = reversed_pass test (drop before f.blocks) (cut_passes test before f.blocks all).1

-- ---- changed frames

-- each passes still where the first of the pool does
pub each_changed : (test : PoolFrames → Bool) (pool : ℕ) (change : PoolFrames → PoolFrames) (fs : List PoolFrames)
    → ((f : PoolFrames) → frames_in fs pool ≡ Some f → test f ≡ true → test (change f) ≡ true)
    → list_all test fs ≡ true → list_all test (frames_changed fs pool change) ≡ true
each_changed test pool change [] keeps all = refl
each_changed test pool change (g ∷ gs) keeps all =
    let parts = and_parts (test g) (list_all test gs) all in
    of_test (g.pool == pool) refl (λ each. each_changed test pool change gs each parts.1) parts.0 parts.1
  where
    found : (b : Bool) → (g.pool == pool) ≡ b → frames_in (g ∷ gs) pool ≡ (if b then Some g else frames_in gs pool)
    found b e = ap (λ c. if c then Some g else frames_in gs pool) e

    of_test : (b : Bool) → (g.pool == pool) ≡ b
        → (((f : PoolFrames) → frames_in gs pool ≡ Some f → test f ≡ true → test (change f) ≡ true)
        → list_all test (frames_changed gs pool change) ≡ true)
        → test g ≡ true → list_all test gs ≡ true
        → list_all test (if b then change g ∷ gs else g ∷ frames_changed gs pool change) ≡ true
    of_test true e later one rest = and_from (test (change g)) (list_all test gs) (keeps g (found true e) one) rest
    of_test false e later one rest =
        and_from (test g) (list_all test (frames_changed gs pool change)) one (later (λ f h. keeps f (found false e ∙ h)))

-- a block is noted, or its pool has no frames
pub noted_more : (fs : List PoolFrames) (pool id : ℕ)
    → (with_block_noted fs pool id ≡ fs) ⊎ HasOneMore id (blocks_in fs) (blocks_in (with_block_noted fs pool id))
noted_more [] pool id = inl refl
noted_more (g ∷ gs) pool id = of_test (g.pool == pool) (noted_more gs pool id)
  where
    noted : PoolFrames → PoolFrames
    noted f = record f { blocks = Rattle.mps_model.specs.Graph.with_last f.blocks id }

    of_test : (b : Bool) → (with_block_noted gs pool id ≡ gs) ⊎ HasOneMore id (blocks_in gs) (blocks_in (with_block_noted gs pool id))
        → ((if b then noted g ∷ gs else g ∷ with_block_noted gs pool id) ≡ g ∷ gs)
        ⊎ HasOneMore id (blocks_in (g ∷ gs)) (blocks_in (if b then noted g ∷ gs else g ∷ with_block_noted gs pool id))
    of_test true later = inr (before_others (last_more g.blocks id) (blocks_in gs))
    of_test false (inl same) = inl (ap (λ rest. g ∷ rest) same)
    of_test false (inr more) = inr (after_others more g.blocks)

-- frames are pushed, and the blocks stay
pub pushed_blocks : (fs : List PoolFrames) (pool : ℕ)
    → blocks_in (frames_changed fs pool Rattle.mps_model.specs.Frames.pushed) ≡ blocks_in fs
pushed_blocks [] pool = refl
pushed_blocks (g ∷ gs) pool = of_test (g.pool == pool) (pushed_blocks gs pool)
  where
    of_test : (b : Bool) → blocks_in (frames_changed gs pool Rattle.mps_model.specs.Frames.pushed) ≡ blocks_in gs
        → blocks_in (if b then Rattle.mps_model.specs.Frames.pushed g ∷ gs
        else g ∷ frames_changed gs pool Rattle.mps_model.specs.Frames.pushed)
        ≡ blocks_in (g ∷ gs)
    of_test true later = refl
    of_test false later = ap (λ ids. g.blocks ++ ids) later

-- frames are popped: what stood in them stands in them still, or goes
pub popped_occurs : (fs : List PoolFrames) (pool : ℕ) (f : PoolFrames) (frame before j : ℕ) → frames_in fs pool ≡ Some f
    → occurrences (blocks_in fs) j
    ≡ occurrences (blocks_in (frames_changed fs pool (popped frame before))) j + occurrences (drop before f.blocks) j
popped_occurs [] pool f frame before j e = absurd (none-some f e)
popped_occurs (g ∷ gs) pool f frame before j e = of_test (g.pool == pool) (popped_occurs gs pool f frame before j) e
  where
    of_test : (b : Bool)
        → (frames_in gs pool ≡ Some f → occurrences (blocks_in gs) j
        ≡ occurrences (blocks_in (frames_changed gs pool (popped frame before))) j + occurrences (drop before f.blocks) j)
        → (if b then Some g else frames_in gs pool) ≡ Some f
        → occurrences (g.blocks ++ blocks_in gs) j
        ≡ occurrences (blocks_in (if b then popped frame before g ∷ gs else g ∷ frames_changed gs pool (popped frame before))) j
        + occurrences (drop before f.blocks) j
    of_test true later k =
        let whole = occurrences-append j g.blocks (blocks_in gs) in
        let left = occurrences-append j (take before g.blocks) (blocks_in gs) in
        let cut = cut_occurs before g.blocks j in
        let same : occurrences (drop before g.blocks) j ≡ occurrences (drop before f.blocks) j =
        ap (λ (x : PoolFrames). occurrences (drop before x.blocks) j) (same_Some g f k) in
        omega (arith, whole, left, cut, same)
    of_test false later k =
        let whole = occurrences-append j g.blocks (blocks_in gs) in
        let left = occurrences-append j g.blocks (blocks_in (frames_changed gs pool (popped frame before))) in
        let rest = later k in
        omega (arith, whole, left, rest)

-- what passes, passes still
pub popped_blocks_pass : (test : ℕ → Bool) (fs : List PoolFrames) (pool frame before : ℕ) → list_all test (blocks_in fs) ≡ true
    → list_all test (blocks_in (frames_changed fs pool (popped frame before))) ≡ true
popped_blocks_pass test [] pool frame before all = refl
popped_blocks_pass test (g ∷ gs) pool frame before all =
    let parts = parts_pass test g.blocks (blocks_in gs) all in
    of_test (g.pool == pool) parts.0 parts.1 (popped_blocks_pass test gs pool frame before parts.1)
  where
    of_test : (b : Bool) → list_all test g.blocks ≡ true → list_all test (blocks_in gs) ≡ true
        → list_all test (blocks_in (frames_changed gs pool (popped frame before))) ≡ true
        → list_all test (blocks_in (if b then popped frame before g ∷ gs else g ∷ frames_changed gs pool (popped frame before))) ≡ true
    of_test true one rest later =
        both_pass test (take before g.blocks) (blocks_in gs) (cut_passes test before g.blocks one).0 rest
    of_test false one rest later =
        both_pass test g.blocks (blocks_in (frames_changed gs pool (popped frame before))) one later

-- ---- places that are emptied

module _ (gone : List Id) where
  row_passes : (test : ℕ → Bool) (row : Slots) → list_all test (entries row) ≡ true
      → list_all test (entries (map (place_without gone) row)) ≡ true
  row_passes test [] all = refl
  row_passes test (None ∷ os) all = row_passes test os all
  row_passes test (Some n ∷ os) all =
      let parts = and_parts (test n) (list_all test (entries os)) all in
      of_test (contains gone n) parts.0 (row_passes test os parts.1)
    where
      of_test : (b : Bool) → test n ≡ true → list_all test (entries (map (place_without gone) os)) ≡ true
          → list_all test (entries ((if b then None else Some n) ∷ map (place_without gone) os)) ≡ true
      of_test true one rest = rest
      of_test false one rest = and_from (test n) (list_all test (entries (map (place_without gone) os))) one rest

  pub places_pass : (test : ℕ → Bool) (blocks : List Slots) → list_all test (flat_map entries blocks) ≡ true
      → list_all test (flat_map entries (places_without gone blocks)) ≡ true
  places_pass test [] all = refl
  places_pass test (row ∷ rows) all =
      let parts = parts_pass test (entries row) (flat_map entries rows) all in
      both_pass test (entries (map (place_without gone) row)) (flat_map entries (places_without gone rows))
      (row_passes test row parts.0) (places_pass test rows parts.1)

  row_occurs : (row : Slots) (j : ℕ) → occurrences (entries (map (place_without gone) row)) j ≤ occurrences (entries row) j
  row_occurs [] j = omega arith
  row_occurs (None ∷ os) j = row_occurs os j
  row_occurs (Some n ∷ os) j = of_test (contains gone n) (row_occurs os j)
    where
      of_test : (b : Bool) → occurrences (entries (map (place_without gone) os)) j ≤ occurrences (entries os) j
          → occurrences (entries ((if b then None else Some n) ∷ map (place_without gone) os)) j
          ≤ (if n == j then 1 else 0) + occurrences (entries os) j
      of_test true rest = omega (arith, rest)
      of_test false rest = omega (arith, rest)

  -- no id stands in places more often
  pub places_occur : (blocks : List Slots) (j : ℕ)
      → occurrences (flat_map entries (places_without gone blocks)) j ≤ occurrences (flat_map entries blocks) j
  places_occur [] j = omega arith
  places_occur (row ∷ rows) j =
      let before = occurrences-append j (entries row) (flat_map entries rows) in
      let after = occurrences-append j (entries (map (place_without gone) row)) (flat_map entries (places_without gone rows)) in
      let first = row_occurs row j in
      let rest = places_occur rows j in
      omega (arith, before, after, first, rest)

  row_keeps : (row : Slots) (j : ℕ) → contains gone j ≡ false
      → occurrences (entries (map (place_without gone) row)) j ≡ occurrences (entries row) j
  row_keeps [] j stays = refl
  row_keeps (None ∷ os) j stays = row_keeps os j stays
  row_keeps (Some n ∷ os) j stays = of_test (contains gone n) (n == j) refl refl (row_keeps os j stays)
    where
      of_test : (b c : Bool) → contains gone n ≡ b → (n == j) ≡ c
          → occurrences (entries (map (place_without gone) os)) j ≡ occurrences (entries os) j
          → occurrences (entries ((if b then None else Some n) ∷ map (place_without gone) os)) j
          ≡ (if n == j then 1 else 0) + occurrences (entries os) j
      of_test true true e f rest =
          absurd (true≢false (sym e ∙ ap (contains gone) (eqb-true n j f) ∙ stays))
      of_test true false e f rest =
          let none : ◌≡◌ {A = ℕ} (if n == j then 1 else 0) 0 = ap (λ b. if b then 1 else 0) f in omega (arith, none, rest)
      of_test false c e f rest = ap (λ (m : ℕ). (if n == j then 1 else 0) + m) rest

  -- what stays stands where it did
  pub places_keep : (blocks : List Slots) (j : ℕ) → contains gone j ≡ false
      → occurrences (flat_map entries (places_without gone blocks)) j ≡ occurrences (flat_map entries blocks) j
  places_keep [] j stays = refl
  places_keep (row ∷ rows) j stays =
      let before = occurrences-append j (entries row) (flat_map entries rows) in
      let after = occurrences-append j (entries (map (place_without gone) row)) (flat_map entries (places_without gone rows)) in
      let first = row_keeps row j stays in
      let rest = places_keep rows j stays in
      omega (arith, before, after, first, rest)

-- what stands nowhere isn't contained
pub none_contained : (ids : List ℕ) (j : ℕ) → occurrences ids j ≡ 0 → contains ids j ≡ false
none_contained [] j none = refl
none_contained (n ∷ ns) j none = of_test (n == j) (none_contained ns j) none
  where
    of_test : (b : Bool) → (occurrences ns j ≡ 0 → contains ns j ≡ false) → (if b then 1 else 0) + occurrences ns j ≡ 0
        → (b || contains ns j) ≡ false
    of_test true later e = absurd (omega (arith, e))
    of_test false later e = later (omega (arith, e))

-- what stands in a list passes what all in it pass
pub counted_passes : (test : ℕ → Bool) (ids : List ℕ) (j : ℕ) → list_all test ids ≡ true → 1 ≤ occurrences ids j → test j ≡ true
counted_passes test [] j all some = absurd (omega (arith, some))
counted_passes test (n ∷ ns) j all some =
    let parts = and_parts (test n) (list_all test ns) all in
    of_test (n == j) refl parts.0 (counted_passes test ns j parts.1) some
  where
    of_test : (b : Bool) → (n == j) ≡ b → test n ≡ true → (1 ≤ occurrences ns j → test j ≡ true)
        → 1 ≤ (if b then 1 else 0) + occurrences ns j → test j ≡ true
    of_test true e one later some = subst (λ (m : ℕ). test m ≡ true) (eqb-true n j e) one
    of_test false e one later some = later (omega (arith, some))

-- all in a list pass what each passes that stands in it
pub all_counted : (test : ℕ → Bool) (ids : List ℕ) → ((j : ℕ) → 1 ≤ occurrences ids j → test j ≡ true) → list_all test ids ≡ true
all_counted test [] each = refl
all_counted test (n ∷ ns) each =
    and_from (test n) (list_all test ns)
    (each n (let here : ◌≡◌ {A = ℕ} (if n == n then 1 else 0) 1 = ap (λ b. if b then 1 else 0) (eq-eqb n n refl) in omega (arith, here)))
    (all_counted test ns (λ j some. each j (omega (arith, some))))
