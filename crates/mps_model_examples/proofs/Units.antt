-- Moves of a collection that are a row of pieces.
use Rattle.std.proofs.Common.{◌≡◌, ℕ, refl, subst, List, [], inl, inr, ◌<◌}
use Rattle.std.specs.Prelude.{IsTrue}
use Rattle.mps_base.specs.declared.moves.Move.{Move}
use Rattle.mps_model.specs.World.{World, is_running}
use Rattle.mps_model.specs.Units.{UnitsDone, AreUnits, AreUnitsToEnd, ends_in}
use Rattle.mps_model.specs.History.{FinishesCollection, IsFullCollection, AreMovesOfCollect}
use Rattle.mps_model.proofs.Cutting.{IsRow, moves_after, count_after, row_is_done}

module _ {w : World} {all : List Move} (pieces : List (List Move)) (runs : IsTrue (is_running w)) (row : IsRow w pieces)
    (cut : moves_after [] pieces ≡ all) where
  all_done : UnitsDone w (count_after 0 pieces) all
  all_done = subst (λ moves. UnitsDone w (count_after 0 pieces) moves) cut (row_is_done w pieces runs row)

  -- units to the end of the collection
  pub to_end : IsTrue (ends_in w all) → AreUnitsToEnd w all
  to_end ends = ((count_after 0 pieces, all_done), ends)

  -- n units
  pub exactly : {n : ℕ} → count_after 0 pieces ≡ n → AreUnits w n all
  exactly {n} e = inl (subst (λ count. UnitsDone w count all) e all_done)

  -- fewer, of which the last ends the collection
  pub at_most : {n : ℕ} → count_after 0 pieces < n → IsTrue (ends_in w all) → AreUnits w n all
  at_most {n} fewer ends = inr (count_after 0 pieces, fewer, all_done, ends)

-- a whole collection where none runs
pub at_rest : {w : World} {all : List Move} → FinishesCollection w [] → IsFullCollection w all → AreMovesOfCollect w all
at_rest {w} {all} none full = record { earlier = []; full = all; both = refl; earlier_ends = none; is_full = full }
