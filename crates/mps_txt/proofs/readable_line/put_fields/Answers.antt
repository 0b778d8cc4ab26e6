use Rattle.mps_txt.proofs.readable_line.put_fields.Goals as goal

pub returns-in-ArenaCreate-clause-text : goal.returns-in-ArenaCreate-clause-text
returns-in-ArenaCreate-clause-text c = λ before h. rw c.in-ArenaCreate.is (c.put_arena.ensures.text before c.args.labels.now)

pub returns-in-PoolCreate-clause-text : goal.returns-in-PoolCreate-clause-text
returns-in-PoolCreate-clause-text c = λ before h. rw c.in-PoolCreate.is (c.put_pool.ensures.text before c.args.labels.now)

pub returns-in-Flip-clause-text : goal.returns-in-Flip-clause-text
returns-in-Flip-clause-text c = λ before h. rw c.in-Flip.is (c.put_flip.ensures.text before c.args.labels.now)

pub returns-in-SegAlloc-clause-text : goal.returns-in-SegAlloc-clause-text
returns-in-SegAlloc-clause-text c = λ before h. rw c.in-SegAlloc.is (c.put_segment.ensures.text before c.args.labels.now)

pub returns-in-Intern-clause-text : goal.returns-in-Intern-clause-text
returns-in-Intern-clause-text c = λ before h. rw c.in-Intern.is (c.put_intern.ensures.text before c.args.labels.now)

pub returns-in-Label-clause-text : goal.returns-in-Label-clause-text
returns-in-Label-clause-text c = λ before h. rw c.in-Label.is (c.put_label.ensures.text before)
