use Rattle.mps_model_examples.proofs.OtherCommands as history
use Rattle.mps_model_examples.proofs.other_commands_is_legal.Goals as goal

pub returns : goal.returns
returns c = history.other_commands_is_legal
