-- A white block is kept by the policy that is read of its pool.
use Rattle.std.proofs.Common.{ℕ, ◌<◌, ◌≡◌, true, false, Some, length, sym, ap, ◌∙◌, subst}
use Rattle.mps_base.specs.Generation.{target_generation}
use Rattle.mps_base.specs.Segment.{Segment, segment_over}
use Rattle.mps_base.specs.Trail.{Moves}
use Rattle.mps_base.specs.declared.address.Addr.{Addr}
use Rattle.mps_format.specs.Layout.{Layout}
use Rattle.mps_format.specs.declared.pool.Policy.{Policy}
use Rattle.mps_seg.specs.Buffer.{IsAtHand}
use Rattle.mps_seg.specs.Collecting.{owner_of}
use Rattle.mps_seg.specs.Segs.{SegsState}
use Rattle.mps_seg.specs.declared.segment_info.Owner.{Owner}
use Rattle.mps_amc.specs.Moving.{kept_in_place, size_at}
use Rattle.mps_amc.specs.Amc.{HasTail, tail_of, IsFixed}
use Rattle.mps_gen.specs.State.{generations_of}
use Rattle.mps_trace.specs.Trace.{TraceState, Traced, traced, CanMove, CanKeep, KeepsTo, moves, marks, target_of, with_copy_noted}
use Rattle.mps_trace.proofs.Known.{pool_is, target_is}

-- that a block can be kept, as the fields of the collector have it
pub can_there : {F : Type 0} (layout : F → Layout) (t t' : TraceState F) (s : SegsState) (m : Moves) (at : Addr) → t' ≡ t
    → CanKeep layout t.formats t.chains (traced t s m) at → CanKeep layout t'.formats t'.chains (traced t' s m) at
can_there {F} layout t t' s m at same can =
    let P : TraceState F → Type 0 = λ u. CanKeep layout u.formats u.chains (traced u s m) at in subst P (sym same) can

module _ {F : Type 0} (layout : F → Layout) (t : TraceState F) (s : SegsState) (m : Moves) (at : Addr)
    (can : CanKeep layout t.formats t.chains (traced t s m) at) (got : Policy F) (got_is : got ≡ can.format)
  where
    abbrev x : Traced
    x = traced t s m

    -- its pool keeps it where it lies
    pub marked : got.moves ≡ false → (s' : SegsState) → s' ≡ kept_in_place s at.0
        → KeepsTo layout t.formats t.chains x at (traced t s' m) at
    marked stays s' is =
        marks can.segment can.format can.over can.listed (ap (λ (p : Policy F). p.moves) (sym got_is) ∙ stays)
        (ap (λ (u : SegsState). let w : Traced = record x { segs = u } in w) is)

    module _ (moving : got.moves ≡ true) (owner : Owner)
        (owned : (u : Segment) → segment_over s.segments at.0 ≡ Some u → owner ≡ owner_of u)
      where
        moves_is : can.format.moves ≡ true
        moves_is = ap (λ (p : Policy F). p.moves) (sym got_is) ∙ moving

        pool_there : owner.pool ≡ can.segment.pool
        pool_there = pool_is t.formats t.chains s at owner can.segment can.format can.over can.listed owned

        pub pool_known : owner.pool < length t.chains.of_pool
        pool_known = let P : ℕ → Type 0 = λ n. n < length t.chains.of_pool in subst P (sym pool_there) (can.moving moves_is).known

        -- its pool moves it
        pub can_move : CanMove (layout got.format) t.chains x at.0 can.segment
        can_move =
            let P : Policy F → Type 0 = λ p. CanMove (layout p.format) t.chains x at.0 can.segment in
            subst P (sym got_is) (can.moving moves_is)

        module _ (generation : ℕ) (target : generation ≡ target_generation (generations_of t.chains owner.pool) owner.generation) where
          generation_there : generation ≡ target_of t.chains can.segment
          generation_there =
              target_is t.formats t.chains s at owner can.segment can.format can.over can.listed owned generation target

          pub has_tail : HasTail t.amc owner.pool generation
          has_tail =
              let P : ℕ → Type 0 = λ p. HasTail t.amc p generation in
              let Q : ℕ → Type 0 = λ g. HasTail t.amc can.segment.pool g in
              subst P (sym pool_there) (subst Q (sym generation_there) can_move.tail)

          pub at_hand : IsAtHand s (tail_of t.amc owner.pool generation)
          at_hand =
              let P : ℕ → Type 0 = λ p. IsAtHand s (tail_of t.amc p generation) in
              let Q : ℕ → Type 0 = λ g. IsAtHand s (tail_of t.amc can.segment.pool g) in
              subst P (sym pool_there) (subst Q (sym generation_there) can_move.at_hand)

          pub moved : (y z : Traced) (answer : Addr)
              → IsFixed (layout got.format) t.amc y.amc s y.segs m y.moves at owner.pool generation
              (size_at (layout got.format) s.words at.0) answer → z ≡ with_copy_noted (layout got.format) at.0 answer.0 y
              → KeepsTo layout t.formats t.chains x at z answer
          moved y z answer fixed noted =
              let P : ℕ → Type 0 = λ p. IsFixed (layout got.format) t.amc y.amc s y.segs m y.moves at p generation
              (size_at (layout got.format) s.words at.0) answer in
              let Q : ℕ → Type 0 = λ g. IsFixed (layout got.format) t.amc y.amc s y.segs m y.moves at can.segment.pool g
              (size_at (layout got.format) s.words at.0) answer in
              let R : Policy F → Type 0 =
              λ q. IsFixed (layout q.format) t.amc y.amc s y.segs m y.moves at can.segment.pool (target_of t.chains can.segment)
              (size_at (layout q.format) s.words at.0) answer
              in
              let S : Policy F → Type 0 = λ q. z ≡ with_copy_noted (layout q.format) at.0 answer.0 y in
              moves can.segment can.format answer can.over can.listed moves_is
              (subst R got_is (subst Q generation_there (subst P pool_there fixed))) (subst S got_is noted)
