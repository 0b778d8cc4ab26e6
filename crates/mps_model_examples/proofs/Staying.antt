use Rattle.std.proofs.Common.{refl, [], ◌∷◌, inl}
use Rattle.mps_base.specs.declared.moves.Move.TheVariants as moves
use Rattle.mps_model.specs.Units.{scans, scans_no_more, reclaims}
use Rattle.mps_model.specs.Reachable.{begins}
use Rattle.mps_model_examples.specs.Staying.{StayingIsLegal}
use Rattle.mps_model_examples.proofs.Units.{to_end, at_rest}
use Rattle.mps_model_examples.proofs.Steps.{legal_step}

pub staying_is_legal : StayingIsLegal
staying_is_legal = (
  legal_step tt refl refl tt refl refl refl refl refl refl,
  (
    legal_step tt refl refl tt refl refl refl refl refl refl,
    (
      legal_step tt refl refl tt refl refl refl refl refl refl,
      (
        legal_step tt refl refl tt refl refl refl refl refl refl,
        (
          legal_step tt
              (record { poll = refl; segment = refl }) refl tt refl refl refl refl refl refl,
          (
            legal_step tt refl refl tt refl refl refl refl refl refl,
            (
              legal_step (
                record { none_runs = refl; of_zones = refl },
                (
                  record { tracing = refl; condemned = refl; not_settled = refl; copying = refl; no_room = refl },
                  (record { survivors = (inl refl, tt); copied = refl; segments = refl }, tt),
                ),
              )
                  (at_rest refl (
                  record {
                    later = moves.End ∷ [];
                    whole = refl;
                    later_ends = to_end ([] ∷ (moves.End ∷ []) ∷ []) refl
                        ((
                          scans 0 (record { live = refl; not_weak = refl; may_be_scanned = inl refl }) scans_no_more,
                          refl,
                          reclaims (record {
                            base = 0x1000;
                            freed = [];
                            condemned = refl;
                            in_turn = refl;
                            ascending = refl;
                            in_segment =
                                refl;
                            whole = refl;
                          }),
                        )) refl refl;
                    exact = record { posts = []; posted = refl; exact = refl; survivors = (begins {id = 0} refl, tt) };
                  }))
                  refl tt refl refl refl refl refl refl,
              (legal_step tt refl refl tt refl refl refl refl refl refl, tt),
            ),
          ),
        ),
      ),
    ),
  ),
)
