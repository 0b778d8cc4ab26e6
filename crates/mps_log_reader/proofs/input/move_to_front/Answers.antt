use Rattle.mps_log_reader.proofs.Pending.{moved_to_front}
use Rattle.mps_log_reader.proofs.input.move_to_front.Goals as goal

pub returns-else-count-from-clause-moved : goal.returns-else-count-from-clause-moved
returns-else-count-from-clause-moved c =
    moved_to_front c.args.room.now c.rotate_left.new.self c.args.from c.args.to c.requires.ordered c.requires.fits
    c.rotate_left.ensures.after
