use Rattle.std.proofs.Common.{◌≡◌, refl}
use Rattle.mps_model.specs.World.{empty_world}
use Rattle.mps_model.specs.History.{IsLegalFrom, IsLegalHistory, world_after_steps}
use Rattle.mps_model.proofs.Appending.{IsLegalFrom-then}
use Rattle.mps_model_examples.specs.Depending.{depending, stale_by_move, depending_world, DependingIsLegal}
use Rattle.mps_model_examples.proofs.Steps.{legal_step}

depending_leaves : world_after_steps empty_world depending ≡ depending_world
depending_leaves = refl

added_is_legal : IsLegalHistory depending
added_is_legal = (
  legal_step tt refl refl tt refl refl refl refl refl refl,
  (
    legal_step tt refl refl tt refl refl refl refl refl refl,
    (
      legal_step tt refl refl tt refl refl refl refl refl refl,
      (
        legal_step tt refl refl tt refl refl refl refl refl refl,
        (
          legal_step tt
              (record { poll = refl; segment = refl }) refl tt refl refl refl refl refl refl,
          (
            legal_step tt refl refl tt refl refl refl refl refl refl,
            (
              legal_step tt refl refl tt refl refl refl refl refl refl,
              (
                legal_step tt refl refl tt refl refl refl refl refl refl,
                (
                  legal_step tt refl refl tt refl refl refl refl refl refl,
                  (
                    legal_step tt refl refl tt refl refl refl refl refl refl,
                    tt,
                  ),
                ),
              ),
            ),
          ),
        ),
      ),
    ),
  ),
)

stale_is_legal : IsLegalFrom depending_world stale_by_move
stale_is_legal = (
  legal_step tt refl refl tt refl refl refl refl refl refl,
  (
    legal_step (
      record { none_runs = refl; of_zones = refl },
      (
        record { first = refl; placement = (refl, refl); of_pool = refl; of_generation = refl },
        (record { tracing = refl; condemned = refl; not_settled = refl; copying = refl; at_placement = refl }, tt),
      ),
    ) refl refl tt refl refl refl refl refl refl,
    (
      legal_step tt refl refl tt refl refl refl refl refl refl,
      (
        legal_step tt refl refl tt refl refl refl refl refl refl,
        (
          legal_step tt refl refl tt refl refl refl refl refl refl,
          (
            legal_step tt refl refl tt refl refl refl refl refl refl,
            (
              legal_step tt refl refl tt refl refl refl refl refl refl,
              (
                legal_step tt refl refl tt refl refl refl refl refl refl,
                (
                  legal_step tt refl refl tt refl refl refl refl refl refl,
                  (
                    legal_step tt refl refl tt refl refl refl refl refl refl,
                    tt,
                  ),
                ),
              ),
            ),
          ),
        ),
      ),
    ),
  ),
)

pub depending_is_legal : DependingIsLegal
depending_is_legal = IsLegalFrom-then empty_world depending_world depending stale_by_move depending_leaves added_is_legal stale_is_legal
