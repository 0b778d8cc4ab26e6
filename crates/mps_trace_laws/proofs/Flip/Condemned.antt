-- The bits of condemned segments after a flip, and the model's flip.
use Rattle.std.proofs.Common.{◌≡◌, ◌∙◌, ℕ, suc, ◌==◌, ◌<◌, Bool, true, false, refl, sym, ap, subst, List, [], ◌∷◌, length, Option, Some, None, Contains, inl, inr, arith}
use Rattle.std.proofs.lemmas.Bool.{false≢true, cases_Bool, or_right, eqb-true, eqb-false, cond-true, cond-false}
use Rattle.std.proofs.lemmas.List.{get_or-set_same, get_or-set_other, length-set}
use Rattle.std.specs.Prelude.{◌||◌, ◌≢◌, filter, if◌then◌else◌, slice_set}
use Rattle.mps_base.specs.Address.{Address, Grain, address_of_grain, grain_of}
use Rattle.mps_base.specs.Segment.{Segment}
use Rattle.mps_base.specs.declared.moves.Move.{Move}
use Rattle.mps_base.specs.declared.moves.Move.TheVariants.{Flip}
use Rattle.mps_extents.specs.Table.{bit}
use Rattle.mps_buffer.specs.declared.point.Held.{Held}
use Rattle.mps_buffer.specs.declared.point.Point.{Point}
use Rattle.mps_buffer.specs.Points.{after_end, after_end_at, after_all_end, without_reservation, PointsState}
use Rattle.mps_abstract.proofs.Lists.{contains_cases}
use Rattle.mps_trace.specs.GenState.{ChainsState}
use Rattle.mps_model.specs.Graph.{contains}
use Rattle.mps_model.specs.World.{World, is_copying_pool}
use Rattle.mps_model.specs.Effect.{condemned_by, condemned_zones, is_condemned_by}
use Rattle.mps_model.specs.Effect as model
use Rattle.mps_seg.specs.Segs.{SegsState}
use Rattle.mps_seg.specs.Collecting.{condemning}
use Rattle.mps_trace.specs.Flip.{moves_blocks, condemns, condemned_of, moving_of, condemning_all, zones_of, at_flip, chain_of, oldest_of}
use Rattle.mps_trace.specs.declared.condemn.Condemn.{Condemn}
use Rattle.mps_trace.specs.declared.condemn.Condemn.TheVariants.{Everything, Generations}
use Rattle.mps_trace.proofs.Ending.{segments_stay}
use Rattle.mps_trace_laws.specs.Flip.Condemned.{bases_of, condemnation, AreCondemnedToo, BeginInTable, AreMovesOf, CondemnsAlike, IsFlipOf}
use Rattle.mps_trace_laws.proofs.Flip.Filtered.{filter_same}
use Rattle.mps_trace.specs.Trace.{Traced}
use Rattle.mps_format.specs.declared.pool.Policy.{Policy}

-- ---- the model's flip

-- the numbers of a flip are the model's
chain_is : (what : Condemn) → chain_of what ≡ model.chain_of (condemnation what)
chain_is Everything = refl
chain_is (Generations chain oldest) = refl

oldest_is : (what : Condemn) → oldest_of what ≡ model.oldest_of (condemnation what)
oldest_is Everything = refl
oldest_is (Generations chain oldest) = refl

-- if segments are those of a world, and what is condemned and what moves are as in it
pub flip_is_the_models : {F : Type 0}
    → (formats : List (Option (Policy F))) (chains : ChainsState) (what : Condemn) (ts : List Segment) (w : World) → ts ≡ w.segments
    → CondemnsAlike formats chains what w → AreMovesOf formats (is_copying_pool w)
    → IsFlipOf what (condemned_of formats chains what ts) (moving_of formats (condemned_of formats chains what ts)) w
flip_is_the_models formats chains what ts w same alike moves =
    let copies : Segment → Bool = λ t. is_copying_pool w t.pool in
    let condemned : Segment → Bool = is_condemned_by w (condemnation what) in
    let segments : condemned_of formats chains what ts ≡ condemned_by w (condemnation what) =
    filter_same (λ (t : Segment). condemns formats chains what t.pool t.generation) condemned ts alike
    ∙ ap (λ (xs : List Segment). filter condemned xs) same
    in
    let moving : moving_of formats (condemned_of formats chains what ts) ≡ filter copies (condemned_by w (condemnation what)) =
    filter_same (λ (t : Segment). moves_blocks formats t.pool) copies (condemned_of formats chains what ts) (λ t. moves t.pool)
    ∙ ap (λ (xs : List Segment). filter copies xs) segments
    in
    let zones = ap (λ (xs : List Segment). zones_of xs) moving in
    record {
      segments = segments;
      bases = ap (λ (xs : List Segment). bases_of xs) segments;
      zones = zones;
      move =
          ap (λ (z : ℕ). let m : Move = Flip (record { 0 = z }) (chain_of what) (oldest_of what) in m) zones
          ∙ ap (λ (n : ℕ). let m : Move =
          Flip (record { 0 = condemned_zones w (condemnation what) }) n (oldest_of what) in m) (chain_is what)
          ∙ ap (λ (n : ℕ). let m : Move =
          Flip (record { 0 = condemned_zones w (condemnation what) }) (model.chain_of (condemnation what)) n in m) (oldest_is what);
    }

-- ---- bits

bit_set : (bits : List Bool) (n : Grain) → n < length bits → bit (slice_set bits n true) n ≡ true
unfolding bit
bit_set bits n within = get_or-set_same bits n true false within

bit_other : (bits : List Bool) (n m : Grain) → m ≢ n → bit (slice_set bits n true) m ≡ bit bits m
unfolding bit
bit_other bits n m other = get_or-set_other bits n m true false other

-- whether a base is one of a list whose first is this one
first_or_later : (here later before set : Bool) → (here ≡ true → set ≡ true) → (here ≡ false → set ≡ before)
    → (later || set) ≡ ((here || later) || before)
first_or_later true later before set is_set same = or_right later set (is_set refl)
first_or_later false later before set is_set same = ap (λ b. later || b) (same refl)

-- segments that begin with a grain
abbrev AreAligned : List Segment → Type 0
AreAligned ts = (t : Segment) → Contains ts t → address_of_grain (grain_of t.base) ≡ t.base

there_first : (t : Segment) (ts : List Segment) → Contains (t ∷ ts) t
there_first t ts = (0, omega arith, refl)

there_later : (t u : Segment) (ts : List Segment) → Contains ts u → Contains (t ∷ ts) u
there_later t u ts (k, within, is) = (suc k, omega (arith, within), is)

module _ (p : Segment → Bool) (base : Address) where
  -- one more condemned segment
  with_one : address_of_grain (grain_of base) ≡ base → (t : Segment) (s : SegsState) (later : Bool)
      → address_of_grain (grain_of t.base) ≡ t.base → grain_of base < length s.condemned
      → (later || bit (condemning s t.base).condemned (grain_of base)) ≡ ((t.base == base || later) || bit s.condemned (grain_of base))
  with_one aligned t s later its within =
      first_or_later (t.base == base) later (bit s.condemned (grain_of base)) (bit (condemning s t.base).condemned (grain_of base))
      (λ e. subst (λ (b : Address). bit (slice_set s.condemned (grain_of b) true) (grain_of base) ≡ true)
      (sym (eqb-true t.base base e)) (bit_set s.condemned (grain_of base) within))
      (λ e. bit_other s.condemned (grain_of t.base) (grain_of base)
      (λ g. eqb-false t.base base e (sym its ∙ ap (λ (n : Grain). address_of_grain n) (sym g) ∙ aligned)))

  bit_after : address_of_grain (grain_of base) ≡ base → (ts : List Segment) (s : SegsState) → AreAligned ts
      → grain_of base < length s.condemned → bit (condemning_all (filter p ts) s).condemned (grain_of base)
      ≡ (contains (bases_of (filter p ts)) base || bit s.condemned (grain_of base))
  bit_after aligned [] s each within = refl
  bit_after aligned (t ∷ ts) s each within =
      let rest : AreAligned ts = λ u there. each u (there_later t u ts there) in
      elim (p t) as (λ b. bit (condemning_all (if b then t ∷ filter p ts else filter p ts) s).condemned (grain_of base)
      ≡ (contains (bases_of (if b then t ∷ filter p ts else filter p ts)) base || bit s.condemned (grain_of base))) [
        | true ↦
            bit_after aligned ts (condemning s t.base) rest
            (subst (λ (n : ℕ). grain_of base < n) (sym (length-set s.condemned (grain_of t.base) true)) within)
            ∙ with_one aligned t s (contains (bases_of (filter p ts)) base) (each t (there_first t ts)) within
        | false ↦ bit_after aligned ts s rest within
      ]

  -- what is condemned was held
  held_of : (ts : List Segment) → contains (bases_of (filter p ts)) base ≡ true → (t : Segment) × Contains ts t × (t.base ≡ base)
  held_of [] h = absurd (false≢true h)
  held_of (t ∷ ts) h =
      elim (p t) as (λ b. contains (bases_of (if b then t ∷ filter p ts else filter p ts)) base ≡ true
      → (u : Segment) × Contains (t ∷ ts) u × (u.base ≡ base)) [
        | true ↦ (λ g. elim (contains_cases t.base (bases_of (filter p ts)) base g) [
          | inl e ↦ (t, there_first t ts, e)
          | inr e ↦ let u = held_of ts e in (u.0, there_later t u.0 ts u.1, u.2)
        ])
        | false ↦ (λ g. let u = held_of ts g in (u.0, there_later t u.0 ts u.1, u.2))
      ] h

segments_after : (ts : List Segment) (s : SegsState) → (condemning_all ts s).segments ≡ s.segments
segments_after [] s = refl
segments_after (t ∷ ts) s = segments_after ts (condemning s t.base)

entries_after : (ts : List Segment) (s : SegsState) → length (condemning_all ts s).condemned ≡ length s.condemned
entries_after [] s = refl
entries_after (t ∷ ts) s = entries_after ts (condemning s t.base) ∙ length-set s.condemned (grain_of t.base) true

-- ---- the end of reservations condemns nothing

module _ (flips : ℕ) where
  one_condemns_none : (o : Option Held) (s : SegsState) → (after_end flips o s).condemned ≡ s.condemned
  one_condemns_none None s = refl
  one_condemns_none (Some h) s =
      let same : Bool = h.flips == flips in
      elim (cases_Bool same) [
        | inl is ↦ ap (λ (x : SegsState). x.condemned) (cond-true same (without_reservation s h) s is)
        | inr is ↦ ap (λ (x : SegsState). x.condemned) (cond-false same (without_reservation s h) s is)
      ]

  point_condemns_none : (o : Option Point) (s : SegsState) → (after_end_at flips o s).condemned ≡ s.condemned
  point_condemns_none None s = refl
  point_condemns_none (Some p) s = one_condemns_none p.reservation s

  condemned_stay : (ps : List (Option Point)) (s : SegsState) → (after_all_end flips ps s).condemned ≡ s.condemned
  condemned_stay [] s = refl
  condemned_stay (p ∷ ps) s = condemned_stay ps (after_end_at flips p s) ∙ point_condemns_none p s

-- ---- both

or_none : (b c : Bool) → c ≡ false → (b || c) ≡ b
or_none true c is = refl
or_none false c is = is

pub flip_condemns : {F : Type 0}
    → (formats : List (Option (Policy F))) (chains : ChainsState) (what : Condemn) (points : PointsState) (x : Traced)
    → BeginInTable x.segs.segments (length x.segs.condemned)
    → AreCondemnedToo x.segs (at_flip formats chains what points x).segs (bases_of (condemned_of formats chains what x.segs.segments))
flip_condemns formats chains what points x begin =
    let p : Segment → Bool = λ (t : Segment). condemns formats chains what t.pool t.generation in
    let e : SegsState = after_all_end points.flips points.points x.segs in
    let after : SegsState = condemning_all (condemned_of formats chains what e.segments) e in
    let ended_same : e.segments ≡ x.segs.segments = segments_stay points.flips points.points x.segs in
    let bits_same : e.condemned ≡ x.segs.condemned = condemned_stay points.flips points.points x.segs in
    let segments : after.segments ≡ x.segs.segments = segments_after (condemned_of formats chains what e.segments) e ∙ ended_same in
    let before : (t : Segment) → Contains after.segments t → Contains x.segs.segments t =
    λ t there. subst (λ (ts : List Segment). Contains ts t) segments there
    in
    let bits : (t : Segment) → Contains after.segments t → bit after.condemned (grain_of t.base)
    ≡ (contains (bases_of (condemned_of formats chains what x.segs.segments)) t.base || bit x.segs.condemned (grain_of t.base)) =
    λ t there.
    ap (λ (ts : List Segment). bit (condemning_all (condemned_of formats chains what ts) e).condemned (grain_of t.base)) ended_same
    ∙ bit_after p t.base (begin.aligned t (before t there)) x.segs.segments e begin.aligned
    (subst (λ (bs : List Bool). grain_of t.base < length bs) (sym bits_same) (begin.within t (before t there)))
    ∙ ap (λ (bs : List Bool). contains (bases_of (condemned_of formats chains what x.segs.segments)) t.base || bit bs (grain_of t.base))
    bits_same
    in
    record {
      segments = segments;
      entries = entries_after (condemned_of formats chains what e.segments) e ∙ ap (λ (bs : List Bool). length bs) bits_same;
      bits = bits;
      held = λ base listed.
          subst (λ (ts : List Segment). (t : Segment) × Contains ts t × (t.base ≡ base)) (sym segments)
          (held_of p base x.segs.segments listed);
      exactly = λ none t there.
          bits t there
          ∙ or_none (contains (bases_of (condemned_of formats chains what x.segs.segments)) t.base) (bit x.segs.condemned (grain_of t.base))
          (none t (before t there));
    }
