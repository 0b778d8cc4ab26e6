use Rattle.std.proofs.Common.{◌∙◌, arith}
use Rattle.mps_extents.proofs.Swept.{size_of_table, in_blocks, runs_are_apart, room_for_frees, freed_are, fewer, swept_holds, swept_lists}
use Rattle.mps_extents.proofs.extents.Extents.drop_lost.Goals as goal

pub free_lost-requires-clause-small : goal.free_lost-requires-clause-small
free_lost-requires-clause-small c =
    let within = size_of_table c.self.inside c.args.self.now c.args.kept.now c.args.low c.args.high c.self.invariant c.self.view_is
    c.requires.ordered
    c.requires.in_table c.requires.whole in
    omega (arith, within, c.self.invariant.0.small)

pub free_lost-requires-clause-in_blocks : goal.free_lost-requires-clause-in_blocks
free_lost-requires-clause-in_blocks c =
    in_blocks c.self.inside c.args.self.now c.args.kept.now c.args.low c.args.high c.self.invariant c.self.view_is c.requires.ordered
    c.requires.in_table c.requires.whole

pub free_lost-requires-clause-fits : goal.free_lost-requires-clause-fits
free_lost-requires-clause-fits c =
    room_for_frees c.self.inside c.args.self.now c.args.kept.now c.args.low c.args.high c.self.invariant c.self.view_is c.requires.ordered
    c.requires.in_table c.requires.whole
    c.args.trail.now.spare
    c.requires.fits

pub clear_runs-words-requires-clause-in_table : goal.clear_runs-words-requires-clause-in_table
clear_runs-words-requires-clause-in_table c =
    let within = size_of_table c.self.inside c.args.self.now c.args.kept.now c.args.low c.args.high c.self.invariant c.self.view_is
    c.requires.ordered
    c.requires.in_table c.requires.whole in
    omega (arith, within, c.self.invariant.0.same_size.0)

pub clear_runs-words-requires-clause-in_begins : goal.clear_runs-words-requires-clause-in_begins
clear_runs-words-requires-clause-in_begins c =
    in_blocks c.self.inside c.args.self.now c.args.kept.now c.args.low c.args.high c.self.invariant c.self.view_is c.requires.ordered
    c.requires.in_table c.requires.whole

pub clear_runs-words-requires-clause-in_ends : goal.clear_runs-words-requires-clause-in_ends
clear_runs-words-requires-clause-in_ends c =
    let within = size_of_table c.self.inside c.args.self.now c.args.kept.now c.args.low c.args.high c.self.invariant c.self.view_is
    c.requires.ordered
    c.requires.in_table c.requires.whole in
    omega (arith, within, c.self.invariant.0.same_size.1)

pub clear_runs-words-requires-clause-apart : goal.clear_runs-words-requires-clause-apart
clear_runs-words-requires-clause-apart c =
    runs_are_apart c.self.inside c.args.self.now c.args.kept.now c.args.low c.args.high c.self.invariant c.self.view_is c.requires.ordered
    c.requires.in_table c.requires.whole

pub clear_unless-blocks-requires-clause-in_table : goal.clear_unless-blocks-requires-clause-in_table
clear_unless-blocks-requires-clause-in_table c =
    in_blocks c.self.inside c.args.self.now c.args.kept.now c.args.low c.args.high c.self.invariant c.self.view_is c.requires.ordered
    c.requires.in_table c.requires.whole

pub overflow_sub-self : goal.overflow_sub-self
overflow_sub-self c =
    let t = c.self.inside in
    let covered = c.clear_runs-words.new.self in
    let blocks = c.clear_unless-blocks.new.self in
    let swept_at = fewer t c.args.self.now c.args.kept.now c.args.low c.args.high c.self.invariant c.self.view_is c.requires.ordered
    c.requires.in_table c.requires.whole covered blocks c.clear_runs-words.result c.clear_unless-blocks.result
    c.clear_runs-words.ensures.len
    c.clear_runs-words.ensures.inside
    c.clear_runs-words.ensures.outside
    c.clear_unless-blocks.ensures.len
    c.clear_unless-blocks.ensures.inside
    c.clear_unless-blocks.ensures.outside
    c.clear_runs-words.ensures.counted
    c.clear_unless-blocks.ensures.counted
    in
    omega (arith, swept_at.1)

pub overflow_sub-self-2 : goal.overflow_sub-self-2
overflow_sub-self-2 c =
    let t = c.self.inside in
    let covered = c.clear_runs-words.new.self in
    let blocks = c.clear_unless-blocks.new.self in
    let swept_at = fewer t c.args.self.now c.args.kept.now c.args.low c.args.high c.self.invariant c.self.view_is c.requires.ordered
    c.requires.in_table c.requires.whole covered blocks c.clear_runs-words.result c.clear_unless-blocks.result
    c.clear_runs-words.ensures.len
    c.clear_runs-words.ensures.inside
    c.clear_runs-words.ensures.outside
    c.clear_unless-blocks.ensures.len
    c.clear_unless-blocks.ensures.inside
    c.clear_unless-blocks.ensures.outside
    c.clear_runs-words.ensures.counted
    c.clear_unless-blocks.ensures.counted
    in
    omega (arith, swept_at.0)

pub invariant_of-self : goal.invariant_of-self
invariant_of-self c =
    let t = c.self.inside in
    let covered = c.clear_runs-words.new.self in
    let blocks = c.clear_unless-blocks.new.self in
    let swept_at = swept_holds t c.args.self.now c.args.kept.now c.args.low c.args.high c.self.invariant c.self.view_is c.requires.ordered
    c.requires.in_table c.requires.whole covered blocks c.clear_runs-words.result c.clear_unless-blocks.result
    c.clear_runs-words.ensures.len
    c.clear_runs-words.ensures.inside
    c.clear_runs-words.ensures.outside
    c.clear_unless-blocks.ensures.len
    c.clear_unless-blocks.ensures.inside
    c.clear_unless-blocks.ensures.outside
    c.clear_runs-words.ensures.counted
    c.clear_unless-blocks.ensures.counted
    in
    swept_at

pub returns-clause-state : goal.returns-clause-state
returns-clause-state c =
    let t = c.self.inside in
    let covered = c.clear_runs-words.new.self in
    let blocks = c.clear_unless-blocks.new.self in
    let swept_at = swept_lists t c.args.self.now c.args.kept.now c.args.low c.args.high c.self.invariant c.self.view_is c.requires.ordered
    c.requires.in_table c.requires.whole covered blocks c.clear_runs-words.result c.clear_unless-blocks.result
    c.clear_runs-words.ensures.len
    c.clear_runs-words.ensures.inside
    c.clear_runs-words.ensures.outside
    c.clear_unless-blocks.ensures.len
    c.clear_unless-blocks.ensures.inside
    c.clear_unless-blocks.ensures.outside
    c.clear_runs-words.ensures.counted
    c.clear_unless-blocks.ensures.counted
    in
    swept_at

pub returns-clause-moves : goal.returns-clause-moves
returns-clause-moves c =
    c.free_lost.ensures
    ∙ freed_are c.self.inside c.args.self.now c.args.kept.now c.args.low c.args.high c.self.invariant c.self.view_is c.requires.ordered
    c.requires.in_table c.requires.whole
    c.args.trail.now
