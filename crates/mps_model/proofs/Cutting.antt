-- Moves cut into units.
use Rattle.std.proofs.Common.{◌≡◌, ℕ, zero, suc, arith, inl, inr, refl, sym, subst, List, [], ◌∷◌, ◌++◌}
use Rattle.std.specs.Prelude.{IsTrue}
use Rattle.mps_base.specs.declared.moves.Move.{Move}
use Rattle.mps_model.specs.World.{World, is_running}
use Rattle.mps_model.specs.Effect.{world_after_move, world_after_moves}
use Rattle.mps_model.specs.Units.{IsUnitPiece, does_nothing, UnitsDone, none_yet, one_more, AreUnits}

-- moves that go on
pub world_after_moves-append : (w : World) (these those : List Move)
    → world_after_moves w (these ++ those) ≡ world_after_moves (world_after_moves w these) those
world_after_moves-append w [] those = refl
world_after_moves-append w (m ∷ ms) those = world_after_moves-append (world_after_move w m) ms those

-- each piece is a unit, and the collection still runs where the next begins
abbrev pub IsRow : World → List (List Move) → Type 0
IsRow w [] = Unit {0}
IsRow w (p ∷ []) = IsUnitPiece w p
IsRow w (p ∷ q ∷ ps) = IsUnitPiece w p × IsTrue (is_running (world_after_moves w p)) × IsRow (world_after_moves w p) (q ∷ ps)

-- the moves of the pieces, one after the other, after these
abbrev pub moves_after : List Move → List (List Move) → List Move
moves_after done [] = done
moves_after done (p ∷ ps) = moves_after (done ++ p) ps

-- how many units these and the pieces are
abbrev pub count_after : ℕ → List (List Move) → ℕ
count_after n [] = n
count_after n (p ∷ ps) = count_after (suc n) ps

module _ (w : World) where
  one_after : {n : ℕ} {done : List Move} (p : List Move) → UnitsDone w n done → IsTrue (is_running (world_after_moves w done))
      → IsUnitPiece (world_after_moves w done) p → UnitsDone w (suc n) (done ++ p)
  one_after p u runs piece = one_more u runs piece

  -- units go on by a row of pieces
  pub row_after : (n : ℕ) (done : List Move) (pieces : List (List Move)) → UnitsDone w n done
      → IsTrue (is_running (world_after_moves w done)) → IsRow (world_after_moves w done) pieces
      → UnitsDone w (count_after n pieces) (moves_after done pieces)
  row_after n done [] u runs row = u
  row_after n done (p ∷ []) u runs row = one_after p u runs row
  row_after n done (p ∷ q ∷ ps) u runs row =
      row_after (suc n) (done ++ p) (q ∷ ps) (one_after p u runs row.0)
      (subst (λ v. IsTrue (is_running v)) (sym (world_after_moves-append w done p)) row.1)
      (subst (λ v. IsRow v (q ∷ ps)) (sym (world_after_moves-append w done p)) row.2)

  -- a row of pieces is so many units
  pub row_is_done : (pieces : List (List Move)) → IsTrue (is_running w) → IsRow w pieces
      → UnitsDone w (count_after 0 pieces) (moves_after [] pieces)
  row_is_done pieces runs row = row_after 0 [] pieces none_yet runs row

one_of : {w : World} {all : List Move} → UnitsDone w 1 all → IsUnitPiece w all
one_of (one_more none_yet runs piece) = piece

none_of : {w : World} {all : List Move} → UnitsDone w 0 all → IsUnitPiece w all
none_of none_yet = does_nothing refl

-- the moves of one unit are a unit's
pub one_unit : {w : World} {all : List Move} → AreUnits w 1 all → IsUnitPiece w all
one_unit (inl u) = one_of u
one_unit (inr (zero, fewer, u, ends)) = none_of u
one_unit (inr (suc n, fewer, u, ends)) = absurd (omega (arith, fewer))
