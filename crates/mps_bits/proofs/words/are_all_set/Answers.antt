use Rattle.mps_bits.proofs.AllSet.{set_if_none, none_if_set}
use Rattle.mps_bits.proofs.words.are_all_set.Goals as goal

pub returns-else-from-eq0-clause-sound : goal.returns-else-from-eq0-clause-sound
returns-else-from-eq0-clause-sound c = λ known.
    set_if_none c.args.words.now c.args.from c.args.to c.lowest_clear_run.result c.is_none.result c.lowest_clear_run.ensures
    c.is_none.ensures
    known

pub returns-else-from-eq0-clause-complete : goal.returns-else-from-eq0-clause-complete
returns-else-from-eq0-clause-complete c = λ set.
    none_if_set c.args.words.now c.args.from c.args.to c.lowest_clear_run.result c.is_none.result c.lowest_clear_run.ensures
    c.is_none.ensures
    set
