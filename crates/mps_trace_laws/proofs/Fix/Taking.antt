-- A block is copied to the first words of a tail: the rest of it and the other tails are at hand as before.
use Rattle.std.proofs.Common.{◌≡◌, ◌∙◌, ◌⊎◌, ℕ, ◌+◌, ◌-◌, ◌<◌, ◌≤◌, sym, ap, List, Option, Some, None, subst, inl, inr, arith}
use Rattle.std.proofs.lemmas.Bool.{cases_Bool, cases_eq, and_parts, and_from, cond-true, cond-false, leb-true, ltb-true, le-leb, lt-ltb}
use Rattle.std.proofs.lemmas.Option.{none-some, same_Some}
use Rattle.std.specs.Prelude.{◌≢◌, nat_le, nat_lt, ◌&&◌}
use Rattle.mps_base.specs.Address.{Address, Id, Word, word_of, address_of_word}
use Rattle.mps_base.specs.Run.{Run, Covers, end_of}
use Rattle.mps_base.specs.Segment.{Segment}
use Rattle.mps_model.specs.Graph.{Object, size_of}
use Rattle.mps_abstract.specs.Colours.{Colours}
use Rattle.mps_trace_laws.specs.Image.Memory.{Setting}
use Rattle.mps_trace_laws.specs.Image.Image.{LieApart}
use Rattle.mps_trace_laws.specs.Image.Fixing.{address_moved}
use Rattle.mps_trace_laws.specs.Image.AtHand.{Hand, AreTaken}
use Rattle.mps_trace_laws.proofs.Image.AtHand.{hands_moved}
use Rattle.mps_trace_laws.proofs.Image.Copied.{IsMove}
use Rattle.mps_trace_laws.specs.Fix.Tracing.{EndsSegment, TailsStand, hand_of}

-- ---- one tail, by word

module _ (pool generation : ℕ) (words : Run) (n : Word) where
  pub hand_there : Covers words n → hand_of pool generation words n ≡ Some (record { pool = pool; number = generation })
  hand_there covers =
      cond-true (nat_le words.from n && nat_lt n (end_of words)) (Some (record { pool = pool; number = generation })) None
      (and_from (nat_le words.from n) (nat_lt n (end_of words)) (le-leb words.from n covers.0) (lt-ltb n (end_of words) covers.1))

  pub hand_covers : (h : Hand) → hand_of pool generation words n ≡ Some h
      → Covers words n × (record { pool = pool; number = generation } ≡ h)
  hand_covers h is =
      let own : Hand = record { pool = pool; number = generation } in
      elim (cases_Bool (nat_le words.from n && nat_lt n (end_of words))) [
        | inl inside ↦
            let parts = and_parts (nat_le words.from n) (nat_lt n (end_of words)) inside in (
              (leb-true words.from n parts.0, ltb-true n (end_of words) parts.1),
              same_Some own h (sym (cond-true (nat_le words.from n && nat_lt n (end_of words)) (Some own) None inside) ∙ is),
            )
        | inr outside ↦
            absurd (none-some h (sym (cond-false (nat_le words.from n && nat_lt n (end_of words)) (Some own) None outside) ∙ is))
      ]

-- the words after the first ones
abbrev pub rest_of : Run → (size : ℕ) → Run
rest_of words size = record { from = words.from + size; count = words.count - size }

-- one tail is this one, or is another
pub which : (p g pool generation : ℕ) → ((p ≡ pool) × (g ≡ generation)) ⊎ (p ≡ pool → g ≡ generation → ⊥)
which p g pool generation =
    elim (cases_eq p pool) [
      | inl e ↦
          elim (cases_eq g generation) [
            | inl f ↦ inl (e, f)
            | inr f ↦ inr (λ a b. f b)
          ]
      | inr e ↦ inr (λ a b. e a)
    ]

-- the tails after the first words of one were taken
pub record IsFirstTaken (tail tail' : (pool generation : ℕ) → Run) (pool generation size : ℕ) : Type 0 where
  pub fits : size ≤ (tail pool generation).count
  pub own : tail' pool generation ≡ rest_of (tail pool generation) size
  pub others : (p g : ℕ) → (p ≡ pool → g ≡ generation → ⊥) → tail' p g ≡ tail p g

module _ (s : Setting) (segments : List Segment) (addresses : List (Option Address)) (k : Colours)
    (tail tail' : (pool generation : ℕ) → Run) (tails : TailsStand s segments addresses tail) (t : Id) (from to : Address) (o : Object)
    (generation : ℕ) (placed : LieApart s addresses) (v : IsMove s addresses k t from to o)
    (begins : to ≡ address_of_word (tail o.pool generation).from)
    (taken : IsFirstTaken tail tail' o.pool generation (size_of o)) where
  -- what is at hand was, and isn't one of the words that were taken
  record Stays (p g : ℕ) (n : Word) : Type 0 where
    covers : Covers (tail p g) n
    gone : (q : ℕ) → q < size_of o → n ≢ word_of to + q

  stays_own : (n : Word) → Covers (tail' o.pool generation) n → Stays o.pool generation n
  stays_own n c =
      let d : Covers (rest_of (tail o.pool generation) (size_of o)) n = subst (λ (r : Run). Covers r n) taken.own c in
      record {
        covers = (omega (arith, d.0), omega (arith, d.1, taken.fits));
        gone = λ q lt e. omega (arith, e, lt, d.0, begins);
      }

  stays_other : (p g : ℕ) (n : Word) → (p ≡ o.pool → g ≡ generation → ⊥) → Covers (tail' p g) n → Stays p g n
  stays_other p g n other c =
      let d : Covers (tail p g) n = subst (λ (r : Run). Covers r n) (taken.others p g other) c in
      record {
        covers = d;
        gone = λ q lt e.
            let inside : Covers (tail o.pool generation) n = (omega (arith, e, begins), omega (arith, e, lt, begins, taken.fits)) in
            let same = tails.apart p g o.pool generation n d inside in
            other same.0 same.1;
      }

  stays : (p g : ℕ) (n : Word) → Covers (tail' p g) n → Stays p g n
  stays p g n c =
      elim (which p g o.pool generation) [
        | inl same ↦
            subst (λ q. Stays q g n) (sym same.0)
            (subst (λ h. Stays o.pool h n) (sym same.1)
            (stays_own n (subst (λ h. Covers (tail' o.pool h) n) same.1 (subst (λ q. Covers (tail' q g) n) same.0 c))))
        | inr other ↦ stays_other p g n other c
      ]

  hand_taken : (p g : ℕ) → AreTaken (hand_of p g (tail p g)) (hand_of p g (tail' p g)) (word_of to) (size_of o)
  hand_taken p g = record {
    was = λ n h e.
        let c = hand_covers p g (tail' p g) n h e in
        let kept = stays p g n c.0 in hand_there p g (tail p g) n kept.covers ∙ ap (λ (x : Hand). Some x) c.1;
    gone = λ n q h e lt.
        let c = hand_covers p g (tail' p g) n h e in
        let kept = stays p g n c.0 in kept.gone q lt;
  }

  home_own : 0 < (tail' o.pool generation).count → EndsSegment segments o.pool (tail' o.pool generation)
  home_own some =
      let before = (tail o.pool generation).count in
      let left : 0 < before - size_of o = omega (arith, some, ap (λ (r : Run). r.count) taken.own) in
      let home = tails.home o.pool generation (omega (arith, left)) in
      subst (EndsSegment segments o.pool) (sym taken.own)
      (record {
        segment = home.segment;
        held = home.held;
        home = home.home;
        exact = home.exact;
        above = omega (arith, home.above);
        ends = omega (arith, home.ends, taken.fits);
      })

  pub tails_after : TailsStand s segments (address_moved addresses t to) tail'
  tails_after = record {
    hands = λ p g.
        hands_moved s (hand_of p g (tail p g)) (hand_of p g (tail' p g)) addresses k t from to o placed v (hand_taken p g)
        (tails.hands p g);
    apart = λ p g q h n c d. let a = stays p g n c in let b = stays q h n d in tails.apart p g q h n a.covers b.covers;
    home = λ p g some. elim (which p g o.pool generation) [
      | inl same ↦
          subst (λ q. EndsSegment segments q (tail' q g)) (sym same.0)
          (subst (λ h. EndsSegment segments o.pool (tail' o.pool h)) (sym same.1)
          (home_own (subst (λ h. 0 < (tail' o.pool h).count) same.1 (subst (λ q. 0 < (tail' q g).count) same.0 some))))
      | inr other ↦
          let e = taken.others p g other in
          subst (EndsSegment segments p) (sym e) (tails.home p g (subst (λ (r : Run). 0 < r.count) e some))
    ];
  }
