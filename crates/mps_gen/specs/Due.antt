-- A due generation as a call returns it.
use Rattle.mps_base.specs.Generation.{Due}
use Rattle.mps_gen.specs.declared.chains.DueGeneration.{DueGeneration}

-- the chain and the generation that are due, by their numbers
abbrev pub in_numbers : Due → DueGeneration
in_numbers due = record { chain = due.chain; generation = due.generation }
