use Rattle.std.proofs.Common.{◌≡◌, ℕ, ap, arith, refl, [], ◌∷◌}
use Rattle.mps_base.specs.declared.moves.Move.TheVariants as moves
use Rattle.mps_model_examples.specs.Script.{address}
use Rattle.mps_model_examples.specs.Framed.{three_made, two_segments, pop_of_one_more, pop_of_one_less, pop_in_order, pop_that_keeps, FramedIsLegal, FrameSegmentsIsLegal, NoPopFreesOneMore, NoPopFreesOneLess, NoPopInOrder, NoPopKeepsASegment}
use Rattle.mps_model_examples.proofs.Steps.{legal_step}
use Rattle.mps_model_examples.proofs.Refusing.{cannot_follow, first_freed}

pub framed_is_legal : FramedIsLegal
framed_is_legal = (
  legal_step tt refl refl tt refl refl refl refl refl refl,
  (
    legal_step tt refl refl tt refl refl refl refl refl refl,
    (
      legal_step tt refl refl tt refl refl refl refl refl refl,
      (
        legal_step tt refl refl tt refl refl refl refl refl refl,
        (
          legal_step tt refl refl tt refl refl refl refl refl refl,
          (
            legal_step tt refl refl tt refl refl refl refl refl refl,
            (
              legal_step tt refl refl tt refl refl refl refl refl refl,
              (
                legal_step tt refl refl tt refl refl refl refl refl refl,
                (
                  legal_step tt refl refl tt refl refl refl refl refl refl,
                  (
                    legal_step tt refl refl tt refl refl refl refl refl refl,
                    (
                      legal_step tt refl refl tt refl refl refl refl refl refl,
                      (
                        legal_step tt refl refl tt refl refl refl refl refl refl,
                        (
                          legal_step tt refl refl tt refl refl refl refl refl refl,
                          (
                            legal_step tt refl refl tt refl refl refl refl refl refl,
                            tt,
                          ),
                        ),
                      ),
                    ),
                  ),
                ),
              ),
            ),
          ),
        ),
      ),
    ),
  ),
)

pub frame_segments_is_legal : FrameSegmentsIsLegal
frame_segments_is_legal = (
  legal_step tt refl refl tt refl refl refl refl refl refl,
  (
    legal_step tt refl refl tt refl refl refl refl refl refl,
    (
      legal_step tt refl refl tt refl refl refl refl refl refl,
      (
        legal_step tt refl refl tt refl refl refl refl refl refl,
        (
          legal_step tt refl refl tt refl refl refl refl refl refl,
          (
            legal_step tt refl refl tt refl refl refl refl refl refl,
            (
              legal_step tt refl refl tt refl refl refl refl refl refl,
              (
                legal_step tt refl refl tt refl refl refl refl refl refl,
                (
                  legal_step tt refl refl tt refl refl refl refl refl refl,
                  tt,
                ),
              ),
            ),
          ),
        ),
      ),
    ),
  ),
)

not_one_more : moves.Free (address 0x1040) ∷ moves.Free (address 0x1020) ∷ [] ≡ moves.Free (address 0x1040) ∷ [] → ⊥
not_one_more h = absurd cc

pub no_pop_frees_one_more : NoPopFreesOneMore
no_pop_frees_one_more = cannot_follow three_made pop_of_one_more (λ s. not_one_more s.moves_are_due)

not_one_less : moves.Free (address 0x1040) ∷ [] ≡ moves.Free (address 0x1040) ∷ moves.Free (address 0x1020) ∷ [] → ⊥
not_one_less h = absurd cc

pub no_pop_frees_one_less : NoPopFreesOneLess
no_pop_frees_one_less = cannot_follow three_made pop_of_one_less (λ s. not_one_less s.moves_are_due)

not_in_order : moves.Free (address 0x1020) ∷ moves.Free (address 0x1040) ∷ []
    ≡ moves.Free (address 0x1040) ∷ moves.Free (address 0x1020) ∷ [] → ⊥
not_in_order h = let at : ◌≡◌ {A = ℕ} 0x1020 0x1040 = ap first_freed h in omega (arith, at)

pub no_pop_in_order : NoPopInOrder
no_pop_in_order = cannot_follow three_made pop_in_order (λ s. not_in_order s.moves_are_due)

not_kept : moves.Free (address 0x2000) ∷ moves.Free (address 0x1000) ∷ moves.Unseg (address 0x1000) ∷ []
    ≡ moves.Free (address 0x2000) ∷ moves.Unseg (address 0x2000) ∷ moves.Free (address 0x1000) ∷ moves.Unseg (address 0x1000) ∷ [] → ⊥
not_kept h = absurd cc

pub no_pop_keeps_a_segment : NoPopKeepsASegment
no_pop_keeps_a_segment = cannot_follow two_segments pop_that_keeps (λ s. not_kept s.moves_are_due)
