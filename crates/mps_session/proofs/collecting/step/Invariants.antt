use Rattle.mps_session.proofs.collecting.step.Given as goal

abbrev pub ghosts-counted_step : goal.ghosts-counted_step
ghosts-counted_step a = record { name = a.blank.name; parts = a.blank.parts }
