-- A segment is taken for a copy: its words are at hand, and the other tails are as before.
use Rattle.std.proofs.Common.{◌≡◌, ◌∙◌, ℕ, zero, suc, ◌+◌, ◌<◌, Bool, refl, sym, ap, List, [], ◌∷◌, Option, Some, Contains, subst, inl, inr, arith}
use Rattle.mps_base.specs.Address.{Address, Id, Word}
use Rattle.mps_base.specs.Run.{Run, Covers}
use Rattle.mps_base.specs.Segment.{Segment, words_of_segment}
use Rattle.mps_base.specs.declared.names.Rank.TheVariants.{Exact}
use Rattle.mps_format.specs.Layout.{Layout}
use Rattle.mps_seg.specs.Segs.{SegsState}
use Rattle.mps_laws.proofs.Positions.Segments.{IsAmong, among_new, among_with, segment_bounds}
use Rattle.mps_model.specs.Graph.{Object, Point}
use Rattle.mps_model.specs.World.{PointMemory}
use Rattle.mps_trace_laws.specs.Image.Memory.{Setting, setting_in}
use Rattle.mps_trace_laws.specs.Image.Image.{LieApart}
use Rattle.mps_trace_laws.specs.Image.AtHand.{Hand, HandsStand}
use Rattle.mps_trace_laws.specs.Fix.Tracing.{AreHeld, HasTables, AreReservationsHeld, EndsSegment, TailsStand, hand_of}
use Rattle.mps_trace_laws.proofs.Fix.Growing.{IsFree, with_one, held_more, grows, its_pool, its_words_condemned}
use Rattle.mps_trace_laws.proofs.Fix.Hands.{nothing_there, contains_among}
use Rattle.mps_trace_laws.proofs.Fix.Taking.{hand_there, hand_covers, which}

pub among_contains : (ss : List Segment) (t : Segment) → IsAmong t ss → Contains ss t
among_contains [] t there = absurd there
among_contains (s ∷ ss) t (inl same) = (zero, omega arith, same)
among_contains (s ∷ ss) t (inr later) =
    let rest = among_contains ss t later in (suc rest.0, omega (arith, rest.1), rest.2)

-- the tails after the words of a segment were put in place of one
pub record IsNewTail (tail tail' : (pool generation : ℕ) → Run) (u : Segment) : Type 0 where
  pub own : tail' u.pool u.generation ≡ words_of_segment u
  pub others : (p g : ℕ) → (p ≡ u.pool → g ≡ u.generation → ⊥) → tail' p g ≡ tail p g

module _ (s : SegsState) (held : AreHeld s) (objects : List Object) (points : List (Option Point)) (memories : List PointMemory)
    (layout : ℕ → Layout) (at_flip : List (Option Address)) (condemned : List Id) (is_read : Id → Bool)
    (addresses : List (Option Address)) (tables : HasTables s)
    (placed : LieApart (setting_in s objects points memories layout at_flip condemned is_read) addresses)
    (reserved : AreReservationsHeld s points memories) (u : Segment) (exact : u.rank ≡ Exact) (free : IsFree s u)
    (tail tail' : (pool generation : ℕ) → Run)
    (tails : TailsStand (setting_in s objects points memories layout at_flip condemned is_read) s.segments addresses tail)
    (new : IsNewTail tail tail' u) where
  abbrev its_setting : SegsState → Setting
  its_setting g = setting_in g objects points memories layout at_flip condemned is_read

  abbrev after : SegsState
  after = with_one s u

  elsewhere : (n : Word) (pool : ℕ) → Covers (words_of_segment u) n → Rattle.mps_trace_laws.specs.Image.Memory.pool_over_word s n
      ≡ Some pool → ⊥
  elsewhere =
      nothing_there s held objects points memories layout at_flip condemned is_read addresses tables placed reserved u free

  hands_new : HandsStand (its_setting after) (hand_of u.pool u.generation (words_of_segment u)) addresses
  hands_new = record {
    within = λ n p e.
        let c = (hand_covers u.pool u.generation (words_of_segment u) n p e).0 in
        let bounds =
        segment_bounds 1 (s.grains + 1) after.segments u (held_more s held tables u free).ascending (among_new u s.segments)
        in
        omega (arith, c.1, bounds.2, free.aligned);
    not_condemned = λ n p e.
        its_words_condemned s held tables u free n (hand_covers u.pool u.generation (words_of_segment u) n p e).0;
    home = λ n p e.
        let c = hand_covers u.pool u.generation (words_of_segment u) n p e in
        its_pool s held tables u free n c.0 ∙ ap (λ (h : Hand). Some h.pool) c.1;
    free = λ n p id i o e there.
        elsewhere n o.pool (hand_covers u.pool u.generation (words_of_segment u) n p e).0 (placed.home id i o n there);
    unreserved = λ n p point l r e there.
        let home = reserved point l r n there in
        elsewhere n home.0 (hand_covers u.pool u.generation (words_of_segment u) n p e).0 home.1;
  }

  hands_old : (p g : ℕ) → HandsStand (its_setting after) (hand_of p g (tail p g)) addresses
  hands_old p g =
      let old = tails.hands p g in
      let grown = grows s held tables u free in
      record {
        within = old.within;
        not_condemned = λ n h e. grown.condemned n ∙ old.not_condemned n h e;
        home = λ n h e. grown.pools n h.pool (old.home n h e);
        free = old.free;
        unreserved = old.unreserved;
      }

  -- no word of the segment was at hand
  not_old : (p g : ℕ) (n : Word) → Covers (tail p g) n → Covers (words_of_segment u) n → ⊥
  not_old p g n c d =
      elsewhere n p d ((tails.hands p g).home n (record { pool = p; number = g }) (hand_there p g (tail p g) n c))

  -- each tail is the new one, or was there
  data Cases (p g : ℕ) : Type 0 where
    is_new : p ≡ u.pool → g ≡ u.generation → tail' p g ≡ words_of_segment u → Cases p g
    is_old : (p ≡ u.pool → g ≡ u.generation → ⊥) → tail' p g ≡ tail p g → Cases p g

  cases : (p g : ℕ) → Cases p g
  cases p g =
      elim (which p g u.pool u.generation) [
        | inl same ↦ is_new same.0 same.1 (ap (λ q. tail' q g) same.0 ∙ ap (tail' u.pool) same.1 ∙ new.own)
        | inr other ↦ is_old other (new.others p g other)
      ]

  hands : (p g : ℕ) → Cases p g → HandsStand (its_setting after) (hand_of p g (tail' p g)) addresses
  hands p g (is_new e f is) =
      subst (λ (r : Run). HandsStand (its_setting after) (hand_of p g r) addresses) (sym is)
      (subst (λ q. HandsStand (its_setting after) (hand_of q g (words_of_segment u)) addresses) (sym e)
      (subst (λ h. HandsStand (its_setting after) (hand_of u.pool h (words_of_segment u)) addresses) (sym f) hands_new))
  hands p g (is_old other is) =
      subst (λ (r : Run). HandsStand (its_setting after) (hand_of p g r) addresses) (sym is) (hands_old p g)

  apart : (p g q h : ℕ) (n : Word) → Cases p g → Cases q h → Covers (tail' p g) n → Covers (tail' q h) n → (p ≡ q) × (g ≡ h)
  apart p g q h n (is_new e f is) (is_new e' f' is') c d = (e ∙ sym e', f ∙ sym f')
  apart p g q h n (is_new e f is) (is_old other is') c d =
      absurd (not_old q h n (subst (λ (r : Run). Covers r n) is' d) (subst (λ (r : Run). Covers r n) is c))
  apart p g q h n (is_old other is) (is_new e f is') c d =
      absurd (not_old p g n (subst (λ (r : Run). Covers r n) is c) (subst (λ (r : Run). Covers r n) is' d))
  apart p g q h n (is_old other is) (is_old other' is') c d =
      tails.apart p g q h n (subst (λ (r : Run). Covers r n) is c) (subst (λ (r : Run). Covers r n) is' d)

  ends_new : EndsSegment after.segments u.pool (words_of_segment u)
  ends_new = record {
    segment = u;
    held = among_contains after.segments u (among_new u s.segments);
    home = refl;
    exact = exact;
    above = omega arith;
    ends = omega (arith, free.aligned);
  }

  home : (p g : ℕ) → Cases p g → 0 < (tail' p g).count → EndsSegment after.segments p (tail' p g)
  home p g (is_new e f is) some =
      subst (EndsSegment after.segments p) (sym is) (subst (λ q. EndsSegment after.segments q (words_of_segment u)) (sym e) ends_new)
  home p g (is_old other is) some =
      let old = tails.home p g (subst (λ (r : Run). 0 < r.count) is some) in
      subst (EndsSegment after.segments p) (sym is)
      (record {
        segment = old.segment;
        held = among_contains after.segments old.segment
            (among_with u old.segment s.segments (contains_among s.segments old.segment old.held));
        home = old.home;
        exact = old.exact;
        above = old.above;
        ends = old.ends;
      })

  pub new_tails : TailsStand (its_setting after) after.segments addresses tail'
  new_tails = record {
    hands = λ p g. hands p g (cases p g);
    apart = λ p g q h n c d. apart p g q h n (cases p g) (cases q h) c d;
    home = λ p g some. home p g (cases p g) some;
  }
