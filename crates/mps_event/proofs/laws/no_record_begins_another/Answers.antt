use Rattle.mps_event.proofs.Records.{one_beginning}
use Rattle.mps_event.proofs.laws.no_record_begins_another.Goals as goal

pub returns : goal.returns
returns c = λ version a b x y ga gb e. one_beginning version a b x y ga gb e
