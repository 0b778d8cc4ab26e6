-- After a flip a word is condemned exactly where its segment is.
use Rattle.std.proofs.Common.{◌≡◌, ◌∙◌, zero, suc, ◌+◌, ◌≤◌, Bool, true, false, refl, sym, ap, subst, List, [], ◌∷◌, Option, Contains, inl, inr, arith}
use Rattle.std.proofs.lemmas.Bool.{false≢true, cases_Bool}
use Rattle.std.specs.Prelude.{filter, if◌then◌else◌, option_map}
use Rattle.mps_base.specs.Address.{Address, address_of_word, grain_of}
use Rattle.mps_base.specs.Segment.{Segment, segment_over}
use Rattle.mps_amc.proofs.Found.{over_is_there}
use Rattle.mps_abstract.proofs.Lists.{contains_here, contains_later, contains_cases}
use Rattle.mps_model.specs.Graph.{contains}
use Rattle.mps_seg.specs.Segs.{SegsState}
use Rattle.mps_seg.specs.Collecting.{bit_of}
use Rattle.mps_trace.specs.Condemned.{AreAscending}
use Rattle.mps_trace.specs.Flip.{condemns, condemned_of, at_flip}
use Rattle.mps_trace.specs.GenState.{ChainsState}
use Rattle.mps_trace.specs.declared.condemn.Condemn.{Condemn}
use Rattle.mps_trace_laws.specs.Flip.Condemned.{bases_of, AreCondemnedToo}
use Rattle.mps_trace_laws.proofs.Flip.Condemned.{flip_condemns}
use Rattle.mps_buffer.specs.Points.{PointsState}
use Rattle.mps_trace.specs.Trace.{Traced}
use Rattle.mps_format.specs.declared.pool.Policy.{Policy}
use Rattle.mps_trace_laws.specs.Flip.CondemnedWords.{AreReadyToCondemn, AreWordsCondemned}

-- ---- the segment at a base

above_low : (low : Address) (ts : List Segment) (t : Segment) → AreAscending low ts → Contains ts t → low ≤ t.base
above_low low [] t a (k, within, is) = absurd (omega (arith, within))
above_low low (x ∷ xs) t a (zero, within, is) = subst (λ (y : Segment). low ≤ y.base) is a.0
above_low low (x ∷ xs) t a (suc k, within, is) =
    let up = above_low (x.base + 1) xs t a.1 (k, omega (arith, within), is) in omega (arith, up, a.0)

one_at_base : (low : Address) (ts : List Segment) (t u : Segment) → AreAscending low ts → Contains ts t → Contains ts u
    → t.base ≡ u.base → t ≡ u
one_at_base low [] t u a (k, within, is) there e = absurd (omega (arith, within))
one_at_base low (x ∷ xs) t u a (zero, within, is) (zero, its, same) e = sym is ∙ same
one_at_base low (x ∷ xs) t u a (zero, within, is) (suc k, its, same) e =
    let up = above_low (x.base + 1) xs u a.1 (k, omega (arith, its), same) in
    absurd (omega (arith, up, e, ap (λ (y : Segment). y.base) is))
one_at_base low (x ∷ xs) t u a (suc k, within, is) (zero, its, same) e =
    let up = above_low (x.base + 1) xs t a.1 (k, omega (arith, within), is) in
    absurd (omega (arith, up, e, ap (λ (y : Segment). y.base) same))
one_at_base low (x ∷ xs) t u a (suc k, within, is) (suc l, its, same) e =
    one_at_base (x.base + 1) xs t u a.1 (k, omega (arith, within), is) (l, omega (arith, its), same) e

-- ---- the bases of segments that pass a test

module _ (p : Segment → Bool) where
  -- a segment that passes has its base among these
  listed : (ts : List Segment) (t : Segment) → Contains ts t → p t ≡ true → contains (bases_of (filter p ts)) t.base ≡ true
  listed [] t (k, within, is) passes = absurd (omega (arith, within))
  listed (x ∷ xs) t (zero, within, is) passes =
      subst (λ (b : Bool). contains (bases_of (if b then x ∷ filter p xs else filter p xs)) t.base ≡ true)
      (sym (ap p is ∙ passes))
      (subst (λ (y : Segment). contains (x.base ∷ bases_of (filter p xs)) y.base ≡ true) is (contains_here x.base (bases_of (filter p xs))))
  listed (x ∷ xs) t (suc k, within, is) passes =
      let rest = listed xs t (k, omega (arith, within), is) passes in
      elim (p x) as (λ b. contains (bases_of (if b then x ∷ filter p xs else filter p xs)) t.base ≡ true) [
        | true ↦ contains_later x.base (bases_of (filter p xs)) t.base rest
        | false ↦ rest
      ]

  -- and each of these is the base of one that passes
  passing_at : (ts : List Segment) (base : Address) → contains (bases_of (filter p ts)) base ≡ true
      → (t : Segment) × Contains ts t × (t.base ≡ base) × (p t ≡ true)
  passing_at [] base h = absurd (false≢true h)
  passing_at (x ∷ xs) base h =
      elim (p x) as (λ b. p x ≡ b → contains (bases_of (if b then x ∷ filter p xs else filter p xs)) base ≡ true
      → (u : Segment) × Contains (x ∷ xs) u × (u.base ≡ base) × (p u ≡ true)) [
        | true ↦ (λ is g. elim (contains_cases x.base (bases_of (filter p xs)) base g) [
          | inl e ↦ (x, (0, omega arith, refl), e, is)
          | inr e ↦ later x xs base (passing_at xs base e)
        ])
        | false ↦ (λ is g. later x xs base (passing_at xs base g))
      ] refl h
    where
      later : (x : Segment) (xs : List Segment) (base : Address) → (u : Segment) × Contains xs u × (u.base ≡ base) × (p u ≡ true)
          → (u : Segment) × Contains (x ∷ xs) u × (u.base ≡ base) × (p u ≡ true)
      later x xs base (u, (k, within, is), begins, passes) = (u, (suc k, omega (arith, within), is), begins, passes)

  is_listed : (ts : List Segment) (t : Segment) → AreAscending 0 ts → Contains ts t → contains (bases_of (filter p ts)) t.base ≡ p t
  is_listed ts t ascending there =
      elim (cases_Bool (p t)) [
        | inl passes ↦ listed ts t there passes ∙ sym passes
        | inr fails ↦ elim (cases_Bool (contains (bases_of (filter p ts)) t.base)) [
          | inl h ↦
              let u = passing_at ts t.base h in
              absurd (false≢true (sym fails ∙ ap p (one_at_base 0 ts t u.0 ascending there u.1 (sym u.2)) ∙ u.3))
          | inr h ↦ h ∙ sym fails
        ]
      ]

-- ---- words

pub flip_condemns_words : {F : Type 0}
    → (formats : List (Option (Policy F))) (chains : ChainsState) (what : Condemn) (points : PointsState) (x : Traced)
    → AreReadyToCondemn x.segs
    → AreWordsCondemned (λ t. condemns formats chains what t.pool t.generation) x.segs (at_flip formats chains what points x).segs
flip_condemns_words formats chains what points x ready =
    let s : SegsState = x.segs in
    let after : SegsState = (at_flip formats chains what points x).segs in
    let p : Segment → Bool = λ t. condemns formats chains what t.pool t.generation in
    let c : AreCondemnedToo s after (bases_of (condemned_of formats chains what s.segments)) =
    flip_condemns formats chains what points x ready.begin
    in
    record {
      words = λ n t over.
          let there : Contains s.segments t = over_is_there s.segments (address_of_word n) t over in
          ap (λ (ts : List Segment). bit_of after.condemned (option_map (λ (u : Segment). grain_of u.base)
          (segment_over ts (address_of_word n)))) c.segments
          ∙ ap (λ (o : Option Segment). bit_of after.condemned (option_map (λ (u : Segment). grain_of u.base) o)) over
          ∙ c.exactly ready.none t (subst (λ (ts : List Segment). Contains ts t) (sym c.segments) there)
          ∙ is_listed p s.segments t ready.ascending there;
      pools = λ n. ap (λ (ts : List Segment). option_map (λ (t : Segment). t.pool) (segment_over ts (address_of_word n))) c.segments;
    }
