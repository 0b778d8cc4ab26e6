-- After a `collect` each held segment has a live block, but for those of pools of blocks of one size.
use Rattle.std.proofs.Common.{◌≡◌, ℕ, Bool, true, false, refl, sym, ◌∙◌, ap, ◌∷◌, Option, Some, None}
use Rattle.std.proofs.lemmas.Bool.{true≢false, false≢true}
use Rattle.std.proofs.lemmas.Option.{none-some}
use Rattle.std.specs.Prelude.{◌==◌, is_some}
use Rattle.std.specs.Option.{option_map_or}
use Rattle.mps_base.specs.Segment.{Segment}
use Rattle.mps_base.specs.declared.moves.Move.TheVariants as moves
use Rattle.mps_model.proofs.Appending.{IsLegalFrom-later}
use Rattle.mps_model.specs.World.{World, Pool, PoolKind, Collected, OneSize, AnySize, Frames, empty_world_of, is_any_size_kind, is_automatic_kind, pool_at, pool_is, segment_at}
use Rattle.mps_model.specs.History.{world_after}
use Rattle.mps_laws.specs.Replay.{reached}
use Rattle.mps_laws.proofs.LegalHistories.{IsLegalFrom-first}
use Rattle.mps_laws.proofs.Positions.Segments.{found_among}
use Rattle.mps_client_laws.specs.Complete.{SegmentsHaveLiveBlocks, has_live_block, is_one_size_kind}
use Rattle.mps_client_laws.proofs.LiveBlocks.{block_in}
use Rattle.mps_client_laws.proofs.SegmentsInUse.{IsInUse, used, for_move, for_return}
use Rattle.mps_client_laws.proofs.SegmentsOfBlocks.{IsWellUsed, step_used, well_used}
use Rattle.mps_client_laws.proofs.SegmentsStand.{automatic_have_blocks}
use Rattle.mps_client_laws.proofs.SoundlyReached.{step_soundly}

-- in a world in which segments of pools of any sizes are in use, a segment of another pool than one of one size
module _ (w : World) (k : IsWellUsed w) (base : ℕ) (s : Segment) (found : segment_at w base ≡ Some s)
    (automatic : pool_is is_automatic_kind w s.pool ≡ true → has_live_block w s ≡ true) where
  in_use : IsInUse w None s → has_live_block w s ≡ true
  in_use (used id at is lies inside) = block_in w s id at lies inside
  in_use (for_move from to e inside) = absurd (none-some (moves.Moved from to) e)
  in_use (for_return at e same) = absurd (none-some (moves.Unseg at) e)

  of_kind : (kind : PoolKind) → ((test : PoolKind → Bool) → pool_is test w s.pool ≡ test kind)
      → pool_is is_one_size_kind w s.pool ≡ false → has_live_block w s ≡ true
  of_kind (Collected kind) is other = automatic (is is_automatic_kind)
  of_kind (OneSize words) is other = absurd (true≢false (sym (is is_one_size_kind) ∙ other))
  of_kind AnySize is other =
      in_use (k.in_use.each s (found_among (λ (t : Segment). t.base == base) w.segments s found).0 (is is_any_size_kind))
  of_kind Frames is other =
      in_use (k.in_use.each s (found_among (λ (t : Segment). t.base == base) w.segments s found).0 (is is_any_size_kind))

  held_has_block : pool_is is_one_size_kind w s.pool ≡ false → has_live_block w s ≡ true
  held_has_block other =
      of_pool (pool_at w s.pool) refl (k.in_use.pools s (found_among (λ (t : Segment). t.base == base) w.segments s found).0)
    where
      of_pool : (o : Option Pool) → pool_at w s.pool ≡ o → is_some o ≡ true → has_live_block w s ≡ true
      of_pool None e there = absurd (false≢true there)
      of_pool (Some p) e there = of_kind p.kind (λ test. ap (λ o. option_map_or (λ (q : Pool). test q.kind) o false) e) other

pub segments_have_live_blocks : SegmentsHaveLiveBlocks
segments_have_live_blocks formats steps later s legal is accepted base held found other =
    let first = empty_world_of formats in
    let w = reached formats steps in
    let k = well_used formats steps (IsLegalFrom-first first steps (s ∷ later) legal) in
    let now = (IsLegalFrom-later first steps (s ∷ later) legal).0 in
    let after = step_used w k.reached k.in_use s now (step_soundly w s k.reached now) in
    held_has_block (world_after w s) after base held found (automatic_have_blocks formats steps later s legal is accepted base held found)
    other
