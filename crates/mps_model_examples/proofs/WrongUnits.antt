use Rattle.std.proofs.Common.{◌≡◌, ℕ, suc, refl, [], ◌∷◌, ◌++◌, length, Bool, true, false, List, arith, ap, sym, subst, ◌∙◌, Option, Some, None, zero, not}
use Rattle.std.specs.Prelude.{IsTrue, nat_lt}
use Rattle.std.proofs.lemmas.Bool.{ltb-true}
use Rattle.mps_model.specs.Graph.{is_weak_object}
use Rattle.mps_model.specs.History.{world_after_history}
use Rattle.mps_base.specs.declared.moves.Move.{Move}
use Rattle.mps_base.specs.declared.moves.Move.TheVariants as moves
use Rattle.mps_base.specs.declared.address.Addr.{Addr}
use Rattle.mps_model_examples.specs.Script.{address}
use Rattle.mps_model.specs.Collection.{Collection}
use Rattle.mps_model.specs.World.{World, object_is}
use Rattle.mps_model.specs.Effect.{Everything, world_after_moves}
use Rattle.mps_model.specs.LegalMove.{ForOne}
use Rattle.mps_model.specs.Units.{IsUnitPiece, IsReclaim, IsScannedByUnit, IsScannedTarget, Scans, moves_target_to_segment, IsExamination, refers_to, scans, examines, splats, reclaims, does_nothing, splats_of, frees_at, give_back_where}
use Rattle.mps_model.specs.Flip.{is_nothing, end_where, flip_act}
use Rattle.mps_model.proofs.Cutting.{one_unit}
use Rattle.mps_model_examples.specs.OneBlock.{one_block}
use Rattle.mps_model_examples.specs.WrongUnits as steps
use Rattle.mps_model_examples.specs.WrongUnits.{CollectWithoutMoves, StartDoesAll, TwoUnitsForOne, ReclaimedDownwards, WeakScannedAsExact, PollWhereClamped, middle_first}
use Rattle.mps_model_examples.specs.Polled.{clamped}
use Rattle.mps_model_examples.specs.Reclaiming.{two_to_reclaim}
use Rattle.mps_model_examples.specs.WeakReadEitherWay.{weakly_held}
use Rattle.mps_model_examples.proofs.ThreeToReclaim.{middle_first_is_legal}
use Rattle.mps_model_examples.proofs.Refusing.{false_is_not_true, cannot_follow}

-- what is appended to isn't empty, where the middle isn't
middle_remains : (first middle last : List Move) → is_nothing middle ≡ false → [] ≡ first ++ middle ++ last → ⊥
middle_remains [] [] last some e = absurd cc
middle_remains [] (m ∷ ms) last some e = absurd cc
middle_remains (f ∷ fs) middle last some e = absurd cc

-- a whole collection where none runs isn't nothing
no_moves : (w : World) (earlier full later : List Move) → [] ≡ earlier ++ full
    → full ≡ flip_act (world_after_moves w earlier) Everything ++ later → ⊥
no_moves w [] full later both whole = middle_remains [] (flip_act w Everything) later refl (both ∙ whole)
no_moves w (m ∷ ms) full later both whole = absurd cc

pub collect_without_moves : CollectWithoutMoves
collect_without_moves = cannot_follow one_block steps.idle_collect
    (λ s. no_moves _ s.moves_are_due.earlier s.moves_are_due.full s.moves_are_due.is_full.later s.moves_are_due.both
    s.moves_are_due.is_full.whole)

-- lists of different lengths are different
lengths_differ : (xs ys : List Move) (m n : ℕ) → length xs ≡ m → length ys ≡ n → (m ≡ n → ⊥) → xs ≡ ys → ⊥
lengths_differ xs ys m n mx ny differ e = differ (sym mx ∙ ap length e ∙ ny)

pub start_does_all : StartDoesAll
start_does_all =
    cannot_follow one_block steps.whole_start (λ s. lengths_differ _ _ 5 3 refl refl (λ (e : 5 ≡ 3). omega arith) s.moves_are_due)

-- whether a move splats a reference
abbrev is_splat : Move → Bool
is_splat (moves.Splat holder cell) = true
is_splat _ = false

-- splats are nothing but splats
no_splats : (m : Move) (rest : List Move) (holder : Addr) (cells : List ℕ) → is_splat m ≡ false → m ∷ rest ≡ splats_of holder cells → ⊥
no_splats m rest holder [] other e = absurd cc
no_splats m rest holder (n ∷ ns) other e = absurd cc

-- what a unit can't be that begins with a free
begins_with_free : (w : World) (at : Addr) (rest : List Move)
    → ((c : Collection) → w.collection ≡ Some c → IsReclaim w (moves.Free at ∷ rest) c → ⊥) → IsUnitPiece w (moves.Free at ∷ rest) → ⊥
begins_with_free w at rest reclaim (scans id i s) = of_scan s
  where
    of_scan : Scans (λ now holder. holder ≡ id) w (moves.Free at ∷ rest) → ⊥
    of_scan impossible = elim impossible [ ]
begins_with_free w at rest reclaim (examines e) = of_examination e
  where
    of_examination : IsExamination (moves.Free at ∷ rest) → ⊥
    of_examination impossible = elim impossible [ ]
begins_with_free w at rest reclaim (splats holder cells e) = no_splats _ _ holder cells refl e
begins_with_free w at rest reclaim (reclaims r) = of_collection w.collection refl r
  where
    of_collection : (o : Option Collection) → w.collection ≡ o → ForOne o (IsReclaim w (moves.Free at ∷ rest)) → ⊥
    of_collection None is r = r
    of_collection (Some c) is r = reclaim c is r
begins_with_free w at rest reclaim (does_nothing e) = absurd cc

-- a reclaim gives back one segment at most
two_segments : (a b c d : Addr) (freed : List ℕ) (base : ℕ) (empty last : Bool) → moves.Free a ∷ moves.Unseg b ∷ moves.Free c
    ∷ moves.Unseg d ∷ moves.End ∷ [] ≡ frees_at freed ++ give_back_where base empty ++ end_where last → ⊥
two_segments a b c d [] base true last e = absurd cc
two_segments a b c d [] base false true e = absurd cc
two_segments a b c d [] base false false e = absurd cc
two_segments a b c d (f ∷ []) base true true e = absurd cc
two_segments a b c d (f ∷ []) base true false e = absurd cc
two_segments a b c d (f ∷ []) base false true e = absurd cc
two_segments a b c d (f ∷ []) base false false e = absurd cc
two_segments a b c d (f ∷ g ∷ fs) base empty last e = absurd cc

pub two_units_for_one : TwoUnitsForOne
two_units_for_one =
    cannot_follow two_to_reclaim steps.two_reclaimed
    (λ s. begins_with_free _ _ _ (λ c is r. two_segments _ _ _ _ r.freed r.base _ _ r.whole) (one_unit s.moves_are_due))

-- the base of a segment that is given back second
second_base : List Move → ℕ
second_base (m ∷ moves.Unseg base ∷ ms) = base.0
second_base _ = 0

-- a reclaim that frees one block gives back its own segment
own_base : (a b : Addr) (freed : List ℕ) (base : ℕ) (empty last : Bool) → moves.Free a ∷ moves.Unseg b ∷ [] ≡ frees_at freed
    ++ give_back_where base empty ++ end_where last → b.0 ≡ base
unfolding second_base
own_base a b [] base true last e = absurd cc
own_base a b [] base false true e = absurd cc
own_base a b [] base false false e = absurd cc
own_base a b (f ∷ []) base true last e = ap second_base e
own_base a b (f ∷ []) base false true e = absurd cc
own_base a b (f ∷ []) base false false e = absurd cc
own_base a b (f ∷ g ∷ fs) base empty last e = absurd cc

-- the segment that the running collection reclaimed last
abbrev reclaimed_in : Option Collection → ℕ
reclaimed_in None = 0
reclaimed_in (Some c) = c.reclaimed_to

-- what was reclaimed last lies above
above : (o : Option Collection) (c : Collection) (base : ℕ) → reclaimed_in o ≡ 0x2000 → o ≡ Some c → nat_lt c.reclaimed_to base ≡ true
    → 0x1000 ≡ base → ⊥
above o c base last is in_turn own =
    let at : reclaimed_in o ≡ c.reclaimed_to = ap reclaimed_in is in
    omega (arith, ltb-true c.reclaimed_to base in_turn)

pub reclaimed_downwards : ReclaimedDownwards
reclaimed_downwards = record {
  middle_is_legal = middle_first_is_legal;
  not_then_lower =
      cannot_follow middle_first steps.lower_reclaimed
      (λ s. begins_with_free _ _ _ (λ c is r. above _ c r.base refl is r.in_turn (own_base _ _ r.freed r.base _ _ r.whole))
      (one_unit s.moves_are_due));
}

-- a reclaim takes no segment
takes_none : (base : Addr) (grains pool generation : ℕ) (rest : List Move) (freed : List ℕ) (at : ℕ) (empty last : Bool)
    → moves.Seg base grains pool generation ∷ rest ≡ frees_at freed ++ give_back_where at empty ++ end_where last → ⊥
takes_none base grains pool generation rest [] at true last e = absurd cc
takes_none base grains pool generation rest [] at false true e = absurd cc
takes_none base grains pool generation rest [] at false false e = absurd cc
takes_none base grains pool generation rest (f ∷ fs) at empty last e = absurd cc

-- what a unit can't be that takes a segment and moves a block, and posts nothing
pub begins_with_segment : (w : World) (base from to : Addr) (grains pool generation : ℕ)
    → ((id : ℕ) → IsScannedByUnit w id → IsScannedTarget (λ now holder. holder ≡ id) w from.0 → ⊥)
    → IsUnitPiece w (moves.Seg base grains pool generation ∷ moves.Moved from to ∷ []) → ⊥
begins_with_segment w base from to grains pool generation none (scans id i s) = of_scan s
  where
    of_scan : Scans (λ now holder. holder ≡ id) w (moves.Seg base grains pool generation ∷ moves.Moved from to ∷ []) → ⊥
    of_scan (moves_target_to_segment target rest) = none id i target
begins_with_segment w base from to grains pool generation none (examines e) = of_examination e
  where
    of_examination : IsExamination (moves.Seg base grains pool generation ∷ moves.Moved from to ∷ []) → ⊥
    of_examination impossible = elim impossible [ ]
begins_with_segment w base from to grains pool generation none (splats holder cells e) = no_splats _ _ holder cells refl e
begins_with_segment w base from to grains pool generation none (reclaims r) = of_collection w.collection r
  where
    of_collection : (o : Option Collection) → ForOne o (IsReclaim w (moves.Seg base grains pool generation ∷ moves.Moved from to ∷ []))
        → ⊥
    of_collection None r = r
    of_collection (Some c) r = takes_none base grains pool generation (moves.Moved from to ∷ []) r.freed r.base _ _ r.whole
begins_with_segment w base from to grains pool generation none (does_nothing e) = absurd cc

-- the object in slot 1 is weak, and no other refers to the block
no_scan : (id holder : ℕ) → holder ≡ id → IsTrue (not (object_is is_weak_object (world_after_history weakly_held) id))
    → IsTrue (refers_to (world_after_history weakly_held) holder 0x1000) → ⊥
no_scan id zero is strong refers = false_is_not_true refers
no_scan id (suc zero) is strong refers =
    false_is_not_true (subst (λ n. IsTrue (not (object_is is_weak_object (world_after_history weakly_held) n))) (sym is) strong)
no_scan id (suc (suc holder)) is strong refers = false_is_not_true refers

pub weak_scanned_as_exact : WeakScannedAsExact
weak_scanned_as_exact =
    cannot_follow weakly_held steps.weak_scanned
    (λ s. begins_with_segment (world_after_history weakly_held) (address 0x3000) (address 0x1000) (address 0x3000) 1 0 0
    (λ id i target. no_scan id target.holder target.scanned i.not_weak target.refers)
    (one_unit s.moves_are_due))

-- a poll that begins with a flip isn't none
not_none : (m : Move) (ms : List Move) → m ∷ ms ≡ [] → ⊥
not_none m ms e = absurd cc

pub poll_where_clamped : PollWhereClamped
poll_where_clamped = cannot_follow clamped steps.clamped_poll (λ s. not_none _ _ s.moves_are_due.poll)
