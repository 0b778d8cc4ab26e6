use Rattle.mps_txt.proofs.SplitAtByte.{splits_there, lacks_up_to_there, lacks_all}
use Rattle.mps_txt.proofs.words.index_of.Goals as goal

pub returns-clause-sound : goal.returns-clause-sound
returns-clause-sound c = splits_there c.args.byte c.args.text.now c.find_byte.result c.find_byte.ensures.index

pub returns-clause-first : goal.returns-clause-first
returns-clause-first c = lacks_up_to_there c.args.byte c.args.text.now c.find_byte.result c.find_byte.ensures.index

pub returns-clause-complete : goal.returns-clause-complete
returns-clause-complete c = lacks_all c.args.byte c.args.text.now c.find_byte.result c.find_byte.ensures.index
