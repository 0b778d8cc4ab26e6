-- The bytes after the text are unchanged.
use Rattle.std.proofs.Common.{arith}
use Rattle.std.proofs.lemmas.Slice.{drop-put_mid}
use Rattle.mps_numerals.proofs.put.put_text.Goals as goal

pub returns-clause-unchanged : goal.returns-clause-unchanged
returns-clause-unchanged c = drop-put_mid _ _ c.args.out.now c.copy_from_slice.new.self _ (omega arith) (omega arith) (omega arith)
