-- Each live object of a well-formed world lies in a held segment of its pool.
use Rattle.std.proofs.Common.{◌≡◌, ◌∙◌, ◌≤◌, true, false, sym, ap, Some, arith}
use Rattle.std.proofs.lemmas.Bool.{and_parts, and_from, eqb-true, leb-true, le-leb, lt-ltb}
use Rattle.std.specs.Prelude.{◌&&◌, ◌==◌, nat_le, nat_lt, if◌then◌else◌, is_some}
use Rattle.std.specs.Option.{option_map_or}
use Rattle.mps_base.specs.Address.{Id, Address, word_of, address_of_word}
use Rattle.mps_base.specs.Run.{end_of}
use Rattle.mps_base.specs.Segment.{Segment, is_in_segment, words_of_segment, end_of_segment, same_rank}
use Rattle.mps_base.specs.declared.names.Rank.TheVariants as rank
use Rattle.mps_model.specs.Graph.{Object, entry_at, object_at, is_weak_object, size_of}
use Rattle.mps_model.specs.World.{World, extent, live_ids, object_is, pool_of, words_of}
use Rattle.mps_model.specs.WellFormed.{IsWellFormed, is_right_place, is_home, lies_within}
use Rattle.mps_model.proofs.Reaching.{list_all-contains}
use Rattle.mps_abstract.proofs.Addresses.{live_is_listed}
use Rattle.mps_abstract.proofs.HeldSegments.{IsAmong, segment_has_grains, any_among}

-- where an object lies: its first word, and so its address
pub record LiesIn (w : World) (o : Object) (at : Address) : Type 0 where
  pub segment : Segment
  pub among : IsAmong segment w.segments
  pub of_pool : segment.pool ≡ o.pool
  pub word_inside : is_in_segment segment (address_of_word (word_of at)) ≡ true
  pub inside : is_in_segment segment at ≡ true

pub lies_at : (w : World) → IsWellFormed w → (id : Id) (o : Object) (at : Address) → object_at w.graph id ≡ Some o
    → entry_at w.addresses id ≡ Some at
    → 1 ≤ size_of o → LiesIn w o at
lies_at w formed id o at there e least =
    let right = list_all-contains (is_right_place w) (live_ids w) id formed.places (live_is_listed w id (ap is_some e)) in
    let home : is_home w o.pool (object_is is_weak_object w id) (extent at (size_of o)) ≡ true =
    sym (ap (λ q. option_map_or (λ a. is_home w (option_map_or (λ (b : Object). b.pool) q 0) (object_is is_weak_object w id)
    (extent a (option_map_or size_of q 0))) (Some at) false) there)
    ∙ (sym (ap (λ a. option_map_or (λ a. is_home w (pool_of w id) (object_is is_weak_object w id) (extent a (words_of w id))) a false) e)
    ∙ right) in
    let one = any_among (λ t. t.pool == o.pool && same_rank t.rank (if object_is is_weak_object w id then rank.Weak else rank.Exact)
    && lies_within (words_of_segment t) (extent at (size_of o))) w.segments home in
    let both = and_parts (one.segment.pool == o.pool && same_rank one.segment.rank
    (if object_is is_weak_object w id then rank.Weak else rank.Exact))
    (lies_within (words_of_segment one.segment) (extent at (size_of o))) one.passes in
    let within = and_parts (nat_le (words_of_segment one.segment).from (word_of at))
    (nat_le (end_of (extent at (size_of o))) (end_of (words_of_segment one.segment))) both.1 in
    let low = leb-true (words_of_segment one.segment).from (word_of at) within.0 in
    let high = leb-true (end_of (extent at (size_of o))) (end_of (words_of_segment one.segment)) within.1 in
    let aligned = (segment_has_grains w formed one.segment one.among).aligned in
    record {
      segment = one.segment;
      among = one.among;
      of_pool = eqb-true one.segment.pool o.pool (and_parts (one.segment.pool == o.pool)
          (same_rank one.segment.rank (if object_is is_weak_object w id then rank.Weak else rank.Exact)) both.0).0;
      word_inside = and_from (nat_le one.segment.base (address_of_word (word_of at)))
          (nat_lt (address_of_word (word_of at)) (end_of_segment one.segment))
          (le-leb one.segment.base (address_of_word (word_of at)) (omega (arith, low, aligned)))
          (lt-ltb (address_of_word (word_of at)) (end_of_segment one.segment) (omega (arith, high, aligned, least)));
      inside = and_from (nat_le one.segment.base at) (nat_lt at (end_of_segment one.segment))
          (le-leb one.segment.base at (omega (arith, low, aligned)))
          (lt-ltb at (end_of_segment one.segment) (omega (arith, high, aligned, least)));
    }
