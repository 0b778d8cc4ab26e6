use Rattle.mps_run.proofs.log_moves.put_move.Goals as goal

pub returns-in-Seg-clause-written : goal.returns-in-Seg-clause-written
returns-in-Seg-clause-written c = rw c.in-Seg.is c.put_record.ensures.written

pub returns-in-Unseg-clause-written : goal.returns-in-Unseg-clause-written
returns-in-Unseg-clause-written c = rw c.in-Unseg.is c.put_record-in-Unseg.ensures.written

pub returns-in-Flip-clause-written : goal.returns-in-Flip-clause-written
returns-in-Flip-clause-written c = rw c.in-Flip.is c.put_record-in-Flip.ensures.written

pub returns-in-Moved-clause-written : goal.returns-in-Moved-clause-written
returns-in-Moved-clause-written c = rw c.in-Moved.is c.put_record-in-Moved.ensures.written

pub returns-in-Stay-clause-written : goal.returns-in-Stay-clause-written
returns-in-Stay-clause-written c = rw c.in-Stay.is c.put_record-in-Stay.ensures.written

pub returns-in-Splat-clause-written : goal.returns-in-Splat-clause-written
returns-in-Splat-clause-written c = rw c.in-Splat.is c.put_record-in-Splat.ensures.written

pub returns-in-Post-clause-written : goal.returns-in-Post-clause-written
returns-in-Post-clause-written c = rw c.in-Post.is c.put_record-in-Post.ensures.written

pub returns-in-Commit-clause-written : goal.returns-in-Commit-clause-written
returns-in-Commit-clause-written c = rw c.in-Commit.is c.put_block.ensures.written

pub returns-in-Alloc-clause-written : goal.returns-in-Alloc-clause-written
returns-in-Alloc-clause-written c = rw c.in-Alloc.is c.put_block-in-Alloc.ensures.written

pub returns-in-Free-clause-written : goal.returns-in-Free-clause-written
returns-in-Free-clause-written c = rw c.in-Free.is c.put_record-in-Free.ensures.written

pub returns-in-Seg-clause-recorded : goal.returns-in-Seg-clause-recorded
returns-in-Seg-clause-recorded c = rw c.in-Seg.is c.put_record.ensures.recorded

pub returns-in-Unseg-clause-recorded : goal.returns-in-Unseg-clause-recorded
returns-in-Unseg-clause-recorded c = rw c.in-Unseg.is c.put_record-in-Unseg.ensures.recorded

pub returns-in-Flip-clause-recorded : goal.returns-in-Flip-clause-recorded
returns-in-Flip-clause-recorded c = rw c.in-Flip.is c.put_record-in-Flip.ensures.recorded

pub returns-in-Moved-clause-recorded : goal.returns-in-Moved-clause-recorded
returns-in-Moved-clause-recorded c = rw c.in-Moved.is c.put_record-in-Moved.ensures.recorded

pub returns-in-Stay-clause-recorded : goal.returns-in-Stay-clause-recorded
returns-in-Stay-clause-recorded c = rw c.in-Stay.is c.put_record-in-Stay.ensures.recorded

pub returns-in-Splat-clause-recorded : goal.returns-in-Splat-clause-recorded
returns-in-Splat-clause-recorded c = rw c.in-Splat.is c.put_record-in-Splat.ensures.recorded

pub returns-in-Post-clause-recorded : goal.returns-in-Post-clause-recorded
returns-in-Post-clause-recorded c = rw c.in-Post.is c.put_record-in-Post.ensures.recorded

pub returns-in-Commit-clause-recorded : goal.returns-in-Commit-clause-recorded
returns-in-Commit-clause-recorded c = rw c.in-Commit.is c.put_block.ensures.recorded

pub returns-in-Alloc-clause-recorded : goal.returns-in-Alloc-clause-recorded
returns-in-Alloc-clause-recorded c = rw c.in-Alloc.is c.put_block-in-Alloc.ensures.recorded

pub returns-in-Free-clause-recorded : goal.returns-in-Free-clause-recorded
returns-in-Free-clause-recorded c = rw c.in-Free.is c.put_record-in-Free.ensures.recorded
