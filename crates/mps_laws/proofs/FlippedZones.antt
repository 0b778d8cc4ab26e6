-- A flip: its zones have the zone of each object that it condemns in a copying pool.
use Rattle.std.proofs.Common.{◌≡◌, ◌⊎◌, inl, inr, ℕ, ◌+◌, ◌*◌, ◌/◌, ◌<◌, ◌≤◌, Bool, true, false, true≢false, refl, sym, ◌∙◌, ap, subst, List, [], ◌∷◌, ◌++◌, map, length, length-append, Some, None, arith}
use Rattle.std.proofs.lemmas.Bool.{cases_Bool, or_cases, and_parts, eqb-true, leb-true, ltb-true}
use Rattle.std.specs.Prelude.{◌||◌, ◌==◌, not, nat_le, nat_lt, if◌then◌else◌, filter, slice_get}
use Rattle.std.specs.List.{AllByRecursion, list_any}
use Rattle.std.specs.Option.{option_map_or}
use Rattle.mps_base.specs.Address.{grain_of, address_of_grain}
use Rattle.mps_base.specs.Segment.{Segment, is_in_segment, grains_of_segment}
use Rattle.mps_base.specs.Zones.{zones_meet, zone_bit_of, zones_from, zones_of_runs}
use Rattle.mps_model.specs.Graph.{contains}
use Rattle.mps_model.specs.World.{World, Pool, address_of, is_live_and, is_copying_kind, is_copying_pool, live_automatic_ids}
use Rattle.mps_model.specs.Effect.{Condemnation, Everything, Generations, after_flip, collection_at_flip, condemnation_of, condemned_by, condemned_ids, is_condemned_by, lies_in_one, world_flipped}
use Rattle.mps_model.specs.LegalMove.{IsLegalFlip}
use Rattle.mps_laws.proofs.LeftByActs.{owners}
use Rattle.mps_laws.proofs.Positions.Zones.{grain_meets, meets_first, meets_second}
use Rattle.mps_laws.proofs.Positions.Places.{IsUnmovable, not_condemned, still}
use Rattle.mps_laws.proofs.AddedBlocks.{IsAccounted, Accounts, flipped_before, flipped_now}

-- a segment of a pool that begins at a grain
pub record IsSegmentOf (number : ℕ) (s : Segment) : Type 0 where
  pub of_pool : s.pool ≡ number
  pub on_grain : address_of_grain (grain_of s.base) ≡ s.base

-- an object at an address is of a pool, and whatever held segment it lies in is of this pool
pub record IsHome (w : World) (id at : ℕ) : Type 0 where
  pub number : ℕ
  pub pool : Pool
  pub owned_by : slice_get (owners w.graph) id ≡ Some number
  pub there : slice_get w.pools number ≡ Some pool
  pub segments : AllByRecursion (λ s. is_in_segment s at ≡ true → IsSegmentOf number s) w.segments

-- so it is with each live object
abbrev pub AreHome : World → Type 0
AreHome w = (id at : ℕ) → address_of w id ≡ Some at → IsHome w id at

-- ---- zones

pub grains_between : (base at grains : ℕ) → 4096 * (base / 4096) ≡ base → base ≤ at → at < base + 4096 * grains
    → (base / 4096 ≤ at / 4096) × (at / 4096 < base / 4096 + grains)
grains_between base at grains on_grain low high = (omega (arith, on_grain, low, high), omega (arith, on_grain, low, high))

-- the zones of a segment have the zone of an address in it
segment_meets : (s : Segment) (at : ℕ) → address_of_grain (grain_of s.base) ≡ s.base → is_in_segment s at ≡ true
    → zones_meet (zone_bit_of at) (zones_from s.grains (grain_of s.base)) ≡ true
segment_meets s at on_grain inside =
    let parts = and_parts (nat_le s.base at) (nat_lt at (s.base + 4096 * s.grains)) inside in
    let between = grains_between s.base at s.grains on_grain (leb-true s.base at parts.0) (ltb-true at
    (s.base + 4096 * s.grains) parts.1) in
    grain_meets s.grains (grain_of s.base) (grain_of at) between.0 between.1

kept-filter : {X : Type 0} (Holds : X → Type 0) (p : X → Bool) (xs : List X) → AllByRecursion Holds xs → AllByRecursion Holds (filter p xs)
kept-filter Holds p [] all = tt
kept-filter Holds p (x ∷ xs) all = one (p x) (kept-filter Holds p xs all.1)
  where
    one : (b : Bool) → AllByRecursion Holds (filter p xs) → AllByRecursion Holds (if b then x ∷ filter p xs else filter p xs)
    one true rest = (all.0, rest)
    one false rest = rest

abbrev zones_of_copying : World → List Segment → ℕ
zones_of_copying w ss = zones_of_runs (map grains_of_segment (filter (λ s. is_copying_pool w s.pool) ss))

module _ (w : World) (id at number : ℕ) (pool : Pool) (there : slice_get w.pools number ≡ Some pool) (lies : address_of w id ≡ Some at)
    (copying : is_copying_kind pool.kind ≡ true) where
  copying_pool : (n : ℕ) → n ≡ number → is_copying_pool w n ≡ true
  copying_pool n same =
      ap (is_copying_pool w) same ∙ ap (λ o. option_map_or (λ (p : Pool). is_copying_kind p.kind) o false) there ∙ copying

  inside : (s : Segment) → is_live_and (is_in_segment s) w id ≡ is_in_segment s at
  inside s = ap (λ o. option_map_or (is_in_segment s) o false) lies

  -- the zones of the segments of copying pools have the zone of an address in one of them
  copying_meets : (ss : List Segment) → AllByRecursion (λ s. is_in_segment s at ≡ true → IsSegmentOf number s) ss
      → list_any (λ s. is_live_and (is_in_segment s) w id) ss ≡ true → zones_meet (zone_bit_of at) (zones_of_copying w ss) ≡ true
  copying_meets [] are some = absurd (true≢false (sym some))
  copying_meets (s ∷ ss) are some =
      elim (or_cases (is_live_and (is_in_segment s) w id) (list_any (λ s. is_live_and (is_in_segment s) w id) ss) some) [
        | inl here ↦
            let in_it : is_in_segment s at ≡ true = sym (inside s) ∙ here in
            let of = are.0 in_it in
            subst (λ (b : Bool). zones_meet (zone_bit_of at) (zones_of_runs (map grains_of_segment (if b then s ∷ filter
            (λ s. is_copying_pool w s.pool) ss else filter (λ s. is_copying_pool w s.pool) ss))) ≡ true)
            (sym (copying_pool s.pool of.of_pool))
            (meets_first (zone_bit_of at) (zones_from s.grains (grain_of s.base)) (zones_of_copying w ss)
            (segment_meets s at of.on_grain in_it))
        | inr later ↦ one (is_copying_pool w s.pool) (copying_meets ss are.1 later)
      ]
    where
      one : (b : Bool) → zones_meet (zone_bit_of at) (zones_of_copying w ss) ≡ true
          → zones_meet (zone_bit_of at) (zones_of_runs (map grains_of_segment (if b then s ∷ filter
          (λ s. is_copying_pool w s.pool) ss else filter (λ s. is_copying_pool w s.pool) ss))) ≡ true
      one true rest = meets_second (zone_bit_of at) (zones_from s.grains (grain_of s.base)) (zones_of_copying w ss) rest
      one false rest = rest

-- ---- what a flip condemns

filtered : (p : ℕ → Bool) (ns : List ℕ) (id : ℕ) → contains (filter p ns) id ≡ true → p id ≡ true
filtered p [] id h = absurd (true≢false (sym h))
filtered p (n ∷ ns) id h = one (p n) refl (filtered p ns id) h
  where
    one : (b : Bool) → p n ≡ b → (contains (filter p ns) id ≡ true → p id ≡ true)
        → contains (if b then n ∷ filter p ns else filter p ns) id ≡ true → p id ≡ true
    one true e rest h = elim (or_cases (n == id) (contains (filter p ns) id) h) [
      | inl same ↦ subst (λ (m : ℕ). p m ≡ true) (eqb-true n id same) e
      | inr later ↦ rest later
    ]
    one false e rest h = rest h

condemned_by_flipped : (w : World) (zones : ℕ) (what : Condemnation) → condemned_by (world_flipped w zones) what ≡ condemned_by w what
condemned_by_flipped w zones Everything = refl
condemned_by_flipped w zones (Generations chain generation) = refl

lies_in_none : (w : World) (ss : List Segment) (id : ℕ) → address_of w id ≡ None → lies_in_one w ss id ≡ false
lies_in_none w [] id none = refl
lies_in_none w (s ∷ ss) id none =
    ap (λ o. option_map_or (is_in_segment s) o false || lies_in_one w ss id) none ∙ lies_in_none w ss id none

module _ (w : World) (zones chain generation : ℕ) (legal : IsLegalFlip w zones chain generation) (home : AreHome w) where
  abbrev what : Condemnation
  what = condemnation_of chain generation

  -- what is condemned lies in a condemned segment
  lies_in_condemned : (id : ℕ) → contains (condemned_ids (world_flipped w zones) what) id ≡ true → lies_in_one w (condemned_by w what) id
      ≡ true
  lies_in_condemned id condemned =
      ap (λ ss. lies_in_one w ss id) (sym (condemned_by_flipped w zones what))
      ∙ filtered (lies_in_one (world_flipped w zones) (condemned_by (world_flipped w zones) what)) (live_automatic_ids
      (world_flipped w zones)) id condemned

  unmovable_there : (id at : ℕ) → address_of w id ≡ Some at → zones_meet (zone_bit_of at) zones ≡ false
      → IsUnmovable (owners w.graph) w.pools id (collection_at_flip (world_flipped w zones) what)
  unmovable_there id at lies apart = by_case (cases_Bool (contains (condemned_ids (world_flipped w zones) what) id)) (cases_Bool
      (is_copying_kind (home id at lies).pool.kind))
    where
      by_case : (contains (condemned_ids (world_flipped w zones) what) id ≡ true)
          ⊎ (contains (condemned_ids (world_flipped w zones) what) id ≡ false)
          → (is_copying_kind (home id at lies).pool.kind ≡ true) ⊎ (is_copying_kind (home id at lies).pool.kind ≡ false)
          → IsUnmovable (owners w.graph) w.pools id (collection_at_flip (world_flipped w zones) what)
      by_case (inr not) kind = not_condemned not
      by_case (inl condemned) (inr stays) = still (record {
        number = (home id at lies).number;
        pool = (home id at lies).pool;
        owned_by = (home id at lies).owned_by;
        there = (home id at lies).there;
        still = stays;
      })
      by_case (inl condemned) (inl copying) =
          let h = home id at lies in
          let meets = copying_meets w id at h.number h.pool h.there lies copying (condemned_by w what)
          (kept-filter (λ s. is_in_segment s at ≡ true → IsSegmentOf h.number s) (is_condemned_by w what) w.segments h.segments)
          (lies_in_condemned id condemned) in
          absurd (true≢false (sym meets ∙ ap (zones_meet (zone_bit_of at)) (sym legal.of_zones) ∙ apart))

  unmovable_after : (id at : ℕ) → (address_of w id ≡ Some at) ⊎ (address_of w id ≡ None) → zones_meet (zone_bit_of at) zones ≡ false
      → IsUnmovable (owners w.graph) w.pools id (collection_at_flip (world_flipped w zones) what)
  unmovable_after id at (inl lies) apart = unmovable_there id at lies apart
  unmovable_after id at (inr gone) apart = not_condemned (by_case (cases_Bool (contains (condemned_ids (world_flipped w zones) what) id)))
    where
      by_case : (contains (condemned_ids (world_flipped w zones) what) id ≡ true)
          ⊎ (contains (condemned_ids (world_flipped w zones) what) id ≡ false)
          → contains (condemned_ids (world_flipped w zones) what) id ≡ false
      by_case (inr not) = not
      by_case (inl condemned) =
          absurd (true≢false (sym (lies_in_condemned id condemned) ∙ lies_in_none w (condemned_by w what) id gone))

  -- after a flip each block is accounted for: a flip of its zone came, or this collection doesn't move it
  accounted_after : (epoch id at : ℕ) → epoch ≤ length w.flips → IsAccounted w epoch id at
      → IsAccounted (after_flip w zones what) epoch id at
  accounted_after epoch id at within (inl flipped) = inl (flipped_before w.flips (zones ∷ []) epoch at flipped)
  accounted_after epoch id at within (inr put) = by_case (cases_Bool (zones_meet (zone_bit_of at) zones))
    where
      by_case : (zones_meet (zone_bit_of at) zones ≡ true) ⊎ (zones_meet (zone_bit_of at) zones ≡ false)
          → IsAccounted (after_flip w zones what) epoch id at
      by_case (inl of_zone) = inl (flipped_now w.flips epoch at zones within of_zone)
      by_case (inr apart) = inr (record { made = put.made; address = put.address; unmovable = unmovable_after id at put.address apart })

  pub flip_accounts : Accounts w (after_flip w zones what)
  flip_accounts = record {
    flips = let l : length (w.flips ++ zones ∷ []) ≡ length w.flips + 1 = length-append w.flips (zones ∷ []) in omega (arith, l);
    blocks = accounted_after;
  }
