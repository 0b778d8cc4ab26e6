-- A fact of a world after the segment of a point's own was taken, where that was needed.
use Rattle.std.proofs.Common.{ℕ, Bool, true, false, List, [], ◌∷◌, Option, Some, None}
use Rattle.std.specs.Prelude.{if◌then◌else◌}
use Rattle.mps_base.specs.Run.{Run}
use Rattle.mps_base.specs.Segment.{Segment, words_of_segment}
use Rattle.mps_base.specs.declared.moves.Move.{Move}
use Rattle.mps_base.specs.declared.moves.Move.TheVariants as moves
use Rattle.mps_model.specs.Effect.{holding, segment_of_move}
use Rattle.mps_model.specs.History.{after_own_segment, rank_of_point, with_buffer}
use Rattle.mps_model.specs.World.{World, is_copying_pool}

module _ (Holds : World → Type 0) (w : World) (as_it_was : Holds w) (held : (s : Segment) → Holds (holding w s))
    (at_hand : (s : Segment) (point : ℕ) (r : Run)
    → Holds (record (holding w s) { point_memories = with_buffer w.point_memories point r })) where
  pub own_segment_taken : (ms : List Move) (point : Option ℕ) → Holds (after_own_segment w ms point)
  own_segment_taken [] point = as_it_was
  own_segment_taken (moves.Seg base grains pool generation ∷ ms) None = as_it_was
  own_segment_taken (moves.Seg base grains pool generation ∷ ms) (Some point) = by_case (is_copying_pool w pool)
    where
      s : Segment
      s = segment_of_move base.0 grains pool generation

      by_case : (b : Bool) → Holds (if b then record (holding w (record s { rank = rank_of_point w point })) {
        point_memories = with_buffer w.point_memories point (words_of_segment s);
      } else holding w (record s { rank = rank_of_point w point }))
      by_case true = at_hand (record s { rank = rank_of_point w point }) point (words_of_segment s)
      by_case false = held (record s { rank = rank_of_point w point })
  own_segment_taken (_ ∷ ms) point = as_it_was
