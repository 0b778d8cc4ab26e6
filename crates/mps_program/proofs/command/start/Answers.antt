use Rattle.mps_program.proofs.command.start.Goals as goal

-- the words that are passed on are those that were given
pub returns-in-Ok-clause-usage : goal.returns-in-Ok-clause-usage
returns-in-Ok-clause-usage g c = rw c.in-Ok.is (rw c.deref.ensures.value at c.mps.ensures.usage)
