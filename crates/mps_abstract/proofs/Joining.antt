-- Moves that are legal whatever comes before and after them, one after the other.
use Rattle.std.proofs.Common.{◌≡◌, sym, List, [], ◌∷◌, ◌++◌, Option, Some, subst, append_assoc}
use Rattle.std.proofs.lemmas.List.{append-nil}
use Rattle.mps_base.specs.declared.moves.Move.{Move}
use Rattle.mps_model.specs.World.{World}
use Rattle.mps_model.specs.Effect.{world_after_move, world_after_moves}
use Rattle.mps_model.specs.LegalMove.{ForOne, IsLegalMove, AreLegalMoves, first_move}
use Rattle.mps_model.proofs.Cutting.{world_after_moves-append}

-- moves that are legal, whatever comes before them, where what comes after them is
pub record AreLegalAnywhere (w : World) (ms : List Move) : Type 0 where
  pub go_on : (before : Option Move) (more : List Move) → ((last : Option Move) → AreLegalMoves (world_after_moves w ms) last more)
      → AreLegalMoves w before (ms ++ more)

pub no_moves_legal : (w : World) → AreLegalAnywhere w []
no_moves_legal w = record { go_on = λ before more rest. rest before }

-- one move
pub one_legal : (w : World) (m : Move) → ((before next : Option Move) → IsLegalMove w before m next) → AreLegalAnywhere w (m ∷ [])
one_legal w m legal = record { go_on = λ before more rest. (legal before (first_move more), rest (Some m)) }

-- two moves, of which the first is legal before the second, and the second after the first
pub two_legal : (w : World) (m n : Move) → ((before : Option Move) → IsLegalMove w before m (Some n))
    → ((next : Option Move) → IsLegalMove (world_after_move w m) (Some m) n next) → AreLegalAnywhere w (m ∷ n ∷ [])
two_legal w m n first second = record { go_on = λ before more rest. (first before, (second (first_move more), rest (Some n))) }

pub three_legal : (w : World) (l m n : Move) → ((before : Option Move) → IsLegalMove w before l (Some m))
    → IsLegalMove (world_after_move w l) (Some l) m (Some n)
    → ((next : Option Move) → IsLegalMove (world_after_move (world_after_move w l) m) (Some m) n next) → AreLegalAnywhere w (l ∷ m ∷ n ∷ [])
three_legal w l m n first second third =
    record { go_on = λ before more rest. (first before, (second, (third (first_move more), rest (Some n)))) }

-- moves that go on
pub legal_append : (w : World) (these those : List Move) → AreLegalAnywhere w these → AreLegalAnywhere (world_after_moves w these) those
    → AreLegalAnywhere w (these ++ those)
legal_append w these those a b = record {
  go_on = λ before more rest.
      subst (λ ms. AreLegalMoves w before ms) (sym (append_assoc these those more))
      (a.go_on before (those ++ more) (λ last. b.go_on last more
      (λ it. subst (λ v. AreLegalMoves v it more) (world_after_moves-append w these those) (rest it))));
}

-- moves by themselves
pub legal_alone : (w : World) (before : Option Move) (ms : List Move) → AreLegalAnywhere w ms → AreLegalMoves w before ms
legal_alone w before ms a = subst (λ all. AreLegalMoves w before all) (append-nil ms) (a.go_on before [] (λ last. tt))

-- a fact of the value that there is
pub for_some : {A : Type 0} (P : A → Type 0) (o : Option A) (x : A) → o ≡ Some x → P x → ForOne o P
for_some P o x e p = subst (λ found. ForOne found P) (sym e) p

pub from_some : {A : Type 0} (P : A → Type 0) (o : Option A) (x : A) → o ≡ Some x → ForOne o P → P x
from_some P o x e p = subst (λ found. ForOne found P) e p
