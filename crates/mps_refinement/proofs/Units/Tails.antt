-- The tails of a world in which a collection runs lie in segments that aren't condemned, where nothing is, and apart from each other.
use Rattle.std.proofs.Common.{◌≡◌, ◌∙◌, ℕ, ◌+◌, ◌<◌, Bool, true, false, refl, sym, ap, subst, List, Option, Some, Contains, arith}
use Rattle.std.proofs.lemmas.Bool.{false≢true}
use Rattle.std.specs.Prelude.{option_map}
use Rattle.mps_base.specs.Address.{Address, Word, address_of_word, grain_of}
use Rattle.mps_base.specs.Run.{Covers}
use Rattle.mps_base.specs.Segment.{Segment, segment_over, words_of_segment}
use Rattle.mps_extents.specs.Table.{bit}
use Rattle.mps_format.specs.Layout.{Layout}
use Rattle.mps_seg.specs.Collecting.{bit_of}
use Rattle.mps_laws.proofs.Positions.LaidOut.{Home}
use Rattle.mps_laws.proofs.Positions.LegalMoves.{HasLayout}
use Rattle.mps_laws.proofs.Positions.Occupancy.{Occupant, OfBlock, OfReservation, OfTail, condemned_in, occupancy_of, rank_of_occupant}
use Rattle.mps_laws.proofs.Positions.Segments.{IsAmong, among_aligned, found_segment, segment_bounds}
use Rattle.mps_model.specs.Graph.{contains}
use Rattle.mps_model.specs.World.{World, tail_of}
use Rattle.mps_abstract.specs.Collecting.{Collecting, Running}
use Rattle.mps_trace_laws.specs.Image.AtHand.{Hand}
use Rattle.mps_trace_laws.specs.Image.Memory.{words_of_arena}
use Rattle.mps_trace_laws.specs.Fix.Tracing.{TailsStand, hand_of, setting_of}
use Rattle.mps_trace_laws.proofs.Fix.Taking.{hand_covers}
use Rattle.mps_heap_spec.specs.State.{HeapState}
use Rattle.mps_refinement.specs.StandsFor.{AreCondemnedIn, AreParts, Past}
use Rattle.mps_refinement.proofs.Parts.CommittedParts.{segment_there}
use Rattle.mps_refinement.proofs.Parts.ReservedImage.{block_covers, reservation_covers}

abbrev pool_of_tail : Occupant → ℕ
pool_of_tail (OfTail pool generation) = pool
pool_of_tail _ = 0

abbrev generation_of_tail : Occupant → ℕ
generation_of_tail (OfTail pool generation) = generation
generation_of_tail _ = 0

abbrev is_of_tail : Occupant → Bool
is_of_tail (OfTail pool generation) = true
is_of_tail _ = false

module _ {F : Type 0} (layout : F → Layout) (past : Past) (h : HeapState F) (x : Collecting) (parts : AreParts layout past h x.world)
    (laid : HasLayout (x.world.grains + 1) x.world) (run : Running x)
    (condemned : AreCondemnedIn h.segs.condemned x.world.segments x.running.condemned_segments) where
  abbrev w : World
  w = x.world

  -- a held segment of the world is one of the heap
  held_there : (t : Segment) → IsAmong t w.segments → Contains h.segs.segments t
  held_there t held =
      segment_there t h.segs.segments (subst (λ (ts : List Segment). IsAmong t ts) (sym parts.segments) held)

  pub condemned_bits : (t : Segment) → Contains h.segs.segments t
      → bit h.segs.condemned (grain_of t.base) ≡ contains x.running.condemned_segments t.base
  condemned_bits t there = condemned t (subst (λ (ts : List Segment). Contains ts t) parts.segments there)

  -- a word of a tail
  module _ (pool generation : ℕ) (n : Word) (p : Hand) (is : hand_of pool generation (tail_of w pool generation) n ≡ Some p) where
    covers_it : Covers (tail_of w pool generation) n
    covers_it = (hand_covers pool generation (tail_of w pool generation) n p is).0

    pool_is_its : pool ≡ p.pool
    pool_is_its = ap (λ (q : Hand). q.pool) (hand_covers pool generation (tail_of w pool generation) n p is).1

    home_of_it : Home w.segments w.pools (condemned_in w.collection) (OfTail pool generation) pool
        (rank_of_occupant (occupancy_of w) (OfTail pool generation)) (tail_of w pool generation)
    home_of_it = let c = covers_it in laid.placed.homes (OfTail pool generation) (omega (arith, c.0, c.1))

    inside_it : Covers (words_of_segment home_of_it.segment) n
    inside_it =
        let c = covers_it in let home = home_of_it in (omega (arith, home.above, c.0), omega (arith, home.below, c.1))

    over_it : segment_over h.segs.segments (address_of_word n) ≡ Some home_of_it.segment
    over_it =
        ap (λ (ts : List Segment). segment_over ts (address_of_word n)) parts.segments
        ∙ found_segment 1 (w.grains + 1) w.segments home_of_it.segment laid.ascending laid.aligned home_of_it.held n inside_it

    its_within : n < words_of_arena h.segs.grains
    its_within =
        let home = home_of_it in
        let bounds = segment_bounds 1 (w.grains + 1) w.segments home.segment laid.ascending home.held in
        let a = among_aligned home.segment w.segments laid.aligned home.held in
        let inside = inside_it in
        let same = parts.grains in
        omega (arith, inside.1, bounds.2, a, same)

    not_condemned_it : bit_of h.segs.condemned (option_map (λ (t : Segment). grain_of t.base) (segment_over h.segs.segments
        (address_of_word n))) ≡ false
    not_condemned_it =
        ap (λ o. bit_of h.segs.condemned (option_map (λ (t : Segment). grain_of t.base) o)) over_it
        ∙ condemned_bits home_of_it.segment (held_there home_of_it.segment home_of_it.held)
        ∙ ap (λ o. contains (condemned_in o) home_of_it.segment.base) (sym run.runs) ∙ home_of_it.spared refl

  pub tails_stand : (at_flip : List (Option Address)) → TailsStand (setting_of h.segs at_flip x) h.segs.segments w.addresses (tail_of w)
  tails_stand at_flip = record {
    hands = λ pool generation. record {
      within = λ n p is. its_within pool generation n p is;
      not_condemned = λ n p is. not_condemned_it pool generation n p is;
      home = λ n p is.
          ap (option_map (λ (t : Segment). t.pool)) (over_it pool generation n p is)
          ∙ ap Some ((home_of_it pool generation n p is).of_pool ∙ pool_is_its pool generation n p is);
      free = λ n p id i o is lies.
          false≢true (ap is_of_tail (laid.placed.apart (OfBlock id) (OfTail pool generation) n
          (block_covers (occupancy_of w) w.graph.objects w.addresses id i o n refl refl lies) (covers_it pool generation n p is)));
      unreserved = λ n p point l r is lies.
          false≢true (ap is_of_tail (laid.placed.apart (OfReservation point) (OfTail pool generation) n
          (reservation_covers (occupancy_of w) w.graph.points w.point_memories point l r n refl refl lies)
          (covers_it pool generation n p is)));
    };
    apart = λ pool generation other its n first second.
        let same = laid.placed.apart (OfTail pool generation) (OfTail other its) n first second in
        (ap pool_of_tail same, ap generation_of_tail same);
    home = λ pool generation some.
        let home = laid.placed.homes (OfTail pool generation) some in
        record {
          segment = home.segment;
          held = held_there home.segment home.held;
          home = home.of_pool;
          exact = home.of_rank;
          above = home.above;
          ends = let last = home.to_end refl in omega (arith, last);
        };
  }
