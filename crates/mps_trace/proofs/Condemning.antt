-- The segments that a flip condemns are condemned in ascending order. Their number is found, and the zones of those whose blocks move.
use Rattle.std.proofs.Common.{ℕ, ◌+◌, ◌^◌, ◌<◌, ◌≤◌, ◌≡◌, true, false, Option, Some, None, List, [], ◌∷◌, bit_or, length, map, refl, sym, ap, ◌∙◌, inl, inr, arith}
use Rattle.std.specs.Prelude.{Bool, if◌then◌else◌, is_some, filter, option_map, get_or}
use Rattle.std.specs.Option.{option_map_or}
use Rattle.std.proofs.lemmas.Bool.{cases_Bool, cond-true, cond-false, true≢false}
use Rattle.std.specs.Int.Bits.{or_zero_r}
use Rattle.mps_base.specs.Address.{Address, grain_of}
use Rattle.mps_base.specs.Segment.{Segment, grains_of_segment}
use Rattle.mps_base.specs.Zones.{zones_from}
use Rattle.mps_base.specs.declared.address.Addr.{Addr}
use Rattle.mps_seg.specs.Segs.{SegsState, segment_from, base_address}
use Rattle.mps_seg.specs.Collecting.{condemning}
use Rattle.mps_trace.specs.Condemned.{AreAscending}
use Rattle.mps_trace.specs.Flip.{is_automatic, moves_blocks, automatic_of, moving_of, condemning_all, zones_of}
use Rattle.mps_trace.proofs.Ordered.{Lowest, lowest_found, rest_from, rest_low, rest_none}
use Rattle.mps_trace.proofs.Zones.{or_assoc_below, runs_small, zones_small}
use Rattle.mps_format.specs.declared.pool.Policy.{Policy}

-- the zones of a segment, if its blocks move
abbrev pub zones_here : {F : Type 0} → (formats : List (Option (Policy F))) → Segment → ℕ
zones_here formats t = if moves_blocks formats t.pool then zones_from t.grains (grain_of t.base) else 0

-- the same, from what is known of the segment
pub zones_told : {F : Type 0} (formats : List (Option (Policy F))) (t : Segment) (pool grains base : ℕ) → pool ≡ t.pool → grains ≡ t.grains
    → t.base ≡ base → (if moves_blocks formats pool then zones_from grains (grain_of base) else 0) ≡ zones_here formats t
zones_told formats t pool grains base pool_is grains_is begins =
    ap (λ (p : ℕ). if moves_blocks formats p then zones_from grains (grain_of base) else 0) pool_is
    ∙ ap (λ (n : ℕ). if moves_blocks formats t.pool then zones_from n (grain_of base) else 0) grains_is
    ∙ ap (λ (b : Address). if moves_blocks formats t.pool then zones_from t.grains (grain_of b) else 0) (sym begins)

module _ (p : Segment → Bool) (t : Segment) (ts : List Segment) where
  pub passes_here : p t ≡ true → filter p (t ∷ ts) ≡ t ∷ filter p ts
  passes_here is = cond-true (p t) (t ∷ filter p ts) (filter p ts) is

  pub passes_later : p t ≡ false → filter p (t ∷ ts) ≡ filter p ts
  passes_later is = cond-false (p t) (t ∷ filter p ts) (filter p ts) is

-- the zones of a segment and those of the segments after it
zones_and_later : {F : Type 0} (formats : List (Option (Policy F))) (t : Segment) (ts : List Segment) (zones : ℕ) → zones < 2 ^ 64
    → bit_or (bit_or zones (zones_here formats t)) (zones_of (moving_of formats ts))
    ≡ bit_or zones (zones_of (moving_of formats (t ∷ ts)))
zones_and_later formats t ts zones small =
    let here = zones_from t.grains (grain_of t.base) in
    let rest = zones_of (moving_of formats ts) in
    elim (moves_blocks formats t.pool) as (λ b. bit_or (bit_or zones (if b then here else 0)) rest
    ≡ bit_or zones (zones_of (if b then t ∷ moving_of formats ts else moving_of formats ts))) [
      | true ↦
          or_assoc_below 64 zones here rest small (zones_small t.grains (grain_of t.base))
          (runs_small (map grains_of_segment (moving_of formats ts)))
      | false ↦ ap (λ (z : ℕ). bit_or z rest) (or_zero_r zones)
    ]

-- what moves is automatic, so a full flip has the zones of all that moves
module _ {F : Type 0} (formats : List (Option (Policy F))) where
  still_if_manual : (o : Option (Policy F)) → is_some o ≡ false → option_map_or (λ (p : Policy F). p.moves) o false ≡ false
  still_if_manual None is = refl
  still_if_manual (Some policy) is = absurd (true≢false is)

  pub all_that_moves : (ts : List Segment) → moving_of formats (automatic_of formats ts) ≡ moving_of formats ts
  all_that_moves [] = refl
  all_that_moves (t ∷ ts) =
      let automatic : Segment → Bool = λ u. is_automatic formats u.pool in
      let moves : Segment → Bool = λ u. moves_blocks formats u.pool in
      elim (cases_Bool (automatic t)) [
        | inl is ↦
            ap (λ (us : List Segment). moving_of formats us) (passes_here automatic t ts is)
            ∙ elim (moves t) as (λ b. (if b then t ∷ moving_of formats (automatic_of formats ts)
            else moving_of formats (automatic_of formats ts)) ≡ (if b then t ∷ moving_of formats ts else moving_of formats ts)) [
              | true ↦ ap (λ (us : List Segment). t ∷ us) (all_that_moves ts)
              | false ↦ all_that_moves ts
            ]
        | inr isnt ↦
            ap (λ (us : List Segment). moving_of formats us) (passes_later automatic t ts isnt) ∙ all_that_moves ts
            ∙ sym (passes_later moves t ts (still_if_manual (get_or formats t.pool None) isnt))
      ]

-- the next segment is found where other fields of the segments have changed
module _ (before s : SegsState) (same : s.segments ≡ before.segments) (at : Address) where
  pub next_found : (base : Addr) → AreAscending 0 before.segments → Some base ≡ option_map base_address (segment_from s.segments at)
      → Lowest before.segments at base
  next_found base ascending is =
      lowest_found 0 before.segments at base ascending
      (is ∙ ap (λ (ts : List Segment). option_map base_address (segment_from ts at)) same)

  pub none_found : None ≡ option_map base_address (segment_from s.segments at) → rest_from at before.segments ≡ []
  none_found is =
      rest_none before.segments at (is ∙ ap (λ (ts : List Segment). option_map base_address (segment_from ts at)) same)

-- the segments that pass a test and begin below an address are condemned, and the others are still to go
pub record AreCondemnedBelow {F : Type 0} (formats : List (Option (Policy F))) (p : Segment → Bool) (before : SegsState) (at : Address)
    (s : SegsState) (zones count : ℕ) : Type 0 where
  pub same : s.segments ≡ before.segments
  pub to_go : condemning_all (filter p (rest_from at before.segments)) s ≡ condemning_all (filter p before.segments) before
  pub zones_to_go : bit_or zones (zones_of (moving_of formats (filter p (rest_from at before.segments))))
      ≡ zones_of (moving_of formats (filter p before.segments))
  pub count_to_go : count + length (filter p (rest_from at before.segments)) ≡ length (filter p before.segments)
  pub few : count ≤ at

module _ {F : Type 0} (formats : List (Option (Policy F))) (p : Segment → Bool) (before : SegsState) where
  pub none_yet : AreAscending 0 before.segments → AreCondemnedBelow formats p before 0 before 0 0
  none_yet ascending =
      let all = rest_low 0 0 before.segments ascending (omega arith) in
      record {
        same = refl;
        to_go = ap (λ (ts : List Segment). condemning_all (filter p ts) before) all;
        zones_to_go = ap (λ (ts : List Segment). zones_of (moving_of formats (filter p ts))) all;
        count_to_go = omega (arith, ap (λ (ts : List Segment). length (filter p ts)) all);
        few = omega arith;
      }

  module _ (at base : Address) (s : SegsState) (zones count : ℕ) (so_far : AreCondemnedBelow formats p before at s zones count)
      (t : Segment) (begins : t.base ≡ base) (above : at ≤ base)
      (next : rest_from at before.segments ≡ t ∷ rest_from (base + 1) before.segments)
    where
      pub one_passed : (s' : SegsState) (zones' count' : ℕ) → p t ≡ false → s' ≡ s → zones' ≡ zones
          → count' ≡ count → AreCondemnedBelow formats p before (base + 1) s' zones' count'
      one_passed s' zones' count' is segs_is zones_is count_is =
          let rest = rest_from (base + 1) before.segments in
          let to : filter p rest ≡ filter p (rest_from at before.segments) =
          sym (ap (λ (ts : List Segment). filter p ts) next ∙ passes_later p t rest is)
          in
          record {
            same = ap (λ (x : SegsState). x.segments) segs_is ∙ so_far.same;
            to_go =
                ap (λ (x : SegsState). condemning_all (filter p rest) x) segs_is
                ∙ ap (λ (ts : List Segment). condemning_all ts s) to ∙ so_far.to_go;
            zones_to_go =
                ap (λ (z : ℕ). bit_or z (zones_of (moving_of formats (filter p rest)))) zones_is
                ∙ ap (λ (ts : List Segment). bit_or zones (zones_of (moving_of formats ts))) to ∙ so_far.zones_to_go;
            count_to_go = omega (arith, count_is, ap (λ (ts : List Segment). length ts) to, so_far.count_to_go);
            few = omega (arith, count_is, so_far.few, above);
          }

      pub one_condemned : (s' : SegsState) (zones' count' : ℕ) → p t ≡ true → s' ≡ condemning s base
          → zones' ≡ bit_or zones (zones_here formats t) → count' ≡ count + 1 → zones < 2 ^ 64
          → AreCondemnedBelow formats p before (base + 1) s' zones' count'
      one_condemned s' zones' count' is segs_is zones_is count_is small =
          let rest = rest_from (base + 1) before.segments in
          let to : t ∷ filter p rest ≡ filter p (rest_from at before.segments) =
          sym (ap (λ (ts : List Segment). filter p ts) next ∙ passes_here p t rest is)
          in
          record {
            same = ap (λ (x : SegsState). x.segments) segs_is ∙ so_far.same;
            to_go =
                ap (λ (x : SegsState). condemning_all (filter p rest) x)
                (segs_is ∙ ap (λ (a : Address). condemning s a) (sym begins))
                ∙ ap (λ (ts : List Segment). condemning_all ts s) to ∙ so_far.to_go;
            zones_to_go =
                ap (λ (z : ℕ). bit_or z (zones_of (moving_of formats (filter p rest)))) zones_is
                ∙ zones_and_later formats t (filter p rest) zones small
                ∙ ap (λ (ts : List Segment). bit_or zones (zones_of (moving_of formats ts))) to ∙ so_far.zones_to_go;
            count_to_go = omega (arith, count_is, ap (λ (ts : List Segment). length ts) to, so_far.count_to_go);
            few = omega (arith, count_is, so_far.few, above);
          }

  module _ (at : Address) (s : SegsState) (zones count : ℕ) (so_far : AreCondemnedBelow formats p before at s zones count)
      (none : rest_from at before.segments ≡ [])
    where
      pub all_done : s ≡ condemning_all (filter p before.segments) before
      all_done = sym (ap (λ (ts : List Segment). condemning_all (filter p ts) s) none) ∙ so_far.to_go

      pub zones_done : zones ≡ zones_of (moving_of formats (filter p before.segments))
      zones_done =
          sym (or_zero_r zones) ∙ sym (ap (λ (ts : List Segment). bit_or zones (zones_of (moving_of formats (filter p ts)))) none)
          ∙ so_far.zones_to_go

      pub count_done : count ≡ length (filter p before.segments)
      count_done = omega (arith, ap (λ (ts : List Segment). length (filter p ts)) none, so_far.count_to_go)
