use Rattle.std.proofs.Common.{◌≡◌, ℕ, ap, arith, refl, [], ◌∷◌, ◌++◌}
use Rattle.mps_base.specs.declared.moves.Move.TheVariants as moves
use Rattle.mps_model.specs.declared.reply.Reply.TheVariants as reply
use Rattle.mps_model.specs.Answer.{Replied}
use Rattle.mps_model_examples.specs.Script.{address}
use Rattle.mps_model_examples.specs.Cached.{one_cached, two_cached, one_taken, old_word, last_freed, flushed_in_order, CachedIsLegal, NoOldWordComesBack, TheFirstCachedStays, NoFlushInOrder}
use Rattle.mps_model_examples.proofs.Steps.{legal_step}
use Rattle.mps_model_examples.proofs.Refusing.{cannot_follow, first_freed}

pub cached_is_legal : CachedIsLegal
cached_is_legal = (
  legal_step tt refl refl tt refl refl refl refl refl refl,
  (
    legal_step tt refl refl tt refl refl refl refl refl refl,
    (
      legal_step tt refl refl tt refl refl refl refl refl refl,
      (
        legal_step tt refl refl tt refl refl refl refl refl refl,
        (
          legal_step tt refl refl tt refl refl refl refl refl refl,
          (
            legal_step tt refl refl tt refl refl refl refl refl refl,
            (
              legal_step tt refl refl tt refl refl refl refl refl refl,
              (
                legal_step tt refl refl tt refl refl refl refl refl refl,
                (
                  legal_step tt refl refl tt refl refl refl refl refl refl,
                  (
                    legal_step tt refl refl tt refl refl refl refl refl refl,
                    (
                      legal_step tt refl refl tt refl refl refl refl refl refl,
                      (
                        legal_step tt refl refl tt refl refl refl refl refl refl,
                        (
                          legal_step tt refl refl tt refl refl refl refl refl refl,
                          (
                            legal_step tt refl refl tt refl refl refl refl refl refl,
                            tt,
                          ),
                        ),
                      ),
                    ),
                  ),
                ),
              ),
            ),
          ),
        ),
      ),
    ),
  ),
)

not_seven : Replied (reply.Number 7) ≡ Replied (reply.Number 0) → ⊥
not_seven h = absurd cc

pub no_old_word_comes_back : NoOldWordComesBack
no_old_word_comes_back = cannot_follow one_cached old_word (λ s. not_seven s.answer_is_due)

not_the_last : moves.Free (address 0x1080) ∷ [] ≡ moves.Free (address 0x1000) ∷ [] → ⊥
not_the_last h = let at : ◌≡◌ {A = ℕ} 0x1080 0x1000 = ap first_freed h in omega (arith, at)

pub the_first_cached_stays : TheFirstCachedStays
the_first_cached_stays = cannot_follow (two_cached ++ one_taken ∷ []) last_freed (λ s. not_the_last s.moves_are_due)

not_in_order : moves.Free (address 0x1000) ∷ moves.Free (address 0x1080) ∷ moves.Unseg (address 0x1000) ∷ []
    ≡ moves.Free (address 0x1080) ∷ moves.Free (address 0x1000) ∷ moves.Unseg (address 0x1000) ∷ [] → ⊥
not_in_order h = let at : ◌≡◌ {A = ℕ} 0x1000 0x1080 = ap first_freed h in omega (arith, at)

pub no_flush_in_order : NoFlushInOrder
no_flush_in_order = cannot_follow two_cached flushed_in_order (λ s. not_in_order s.moves_are_due)
