use Rattle.std.proofs.Common.{◌+◌, Bool, false, List, length, ap, arith}
use Rattle.mps_bits.proofs.Ranges.{length-with_range}
use Rattle.mps_extents.proofs.Moved.{old_fits, new_fits, moved_sound, moved_apart, moved_lists, moved_tally}
use Rattle.mps_extents.proofs.extents.Extents.move_block.Goals as goal

pub move_run-requires-clause-from_in_table : goal.move_run-requires-clause-from_in_table
move_run-requires-clause-from_in_table c =
    let old =
    old_fits c.self.inside c.args.self.now c.args.from c.args.words c.self.invariant.0 c.self.invariant.1 c.self.view_is c.requires.block
    in
    omega (arith, old.fits.in_covered)

pub clear-requires : goal.clear-requires
clear-requires c =
    let old =
    old_fits c.self.inside c.args.self.now c.args.from c.args.words c.self.invariant.0 c.self.invariant.1 c.self.view_is c.requires.block
    in
    omega (arith, old.fits.in_blocks, old.fits.nonzero)

pub move_run-requires-clause-to_in_table : goal.move_run-requires-clause-to_in_table
move_run-requires-clause-to_in_table c =
    let old =
    old_fits c.self.inside c.args.self.now c.args.from c.args.words c.self.invariant.0 c.self.invariant.1 c.self.view_is c.requires.block
    in
    let new =
    new_fits c.self.inside c.args.self.now c.args.from c.args.words c.self.invariant.0 c.self.invariant.1 c.self.view_is c.requires.block
    c.args.to c.requires.nonzero c.requires.free
    in
    omega (
      arith,
      new.in_covered,
      length-with_range c.self.inside.covered c.args.from (c.args.from + c.args.words) false (omega arith)
          (omega (arith, old.fits.in_covered)),
    )

pub move_run-requires-clause-to_in_ends : goal.move_run-requires-clause-to_in_ends
move_run-requires-clause-to_in_ends c =
    let new =
    new_fits c.self.inside c.args.self.now c.args.from c.args.words c.self.invariant.0 c.self.invariant.1 c.self.view_is c.requires.block
    c.args.to c.requires.nonzero c.requires.free
    in
    omega (arith, new.in_ends)

pub set-requires : goal.set-requires
set-requires c =
    let new =
    new_fits c.self.inside c.args.self.now c.args.from c.args.words c.self.invariant.0 c.self.invariant.1 c.self.view_is c.requires.block
    c.args.to c.requires.nonzero c.requires.free
    in
    omega (arith, new.in_blocks, new.nonzero, ap (λ (bits : List Bool). length bits) c.clear.ensures.state)

pub invariant_of-self : goal.invariant_of-self
invariant_of-self c =
    let t = c.self.inside in
    rw (
      c.move_run.ensures.state,
      c.move_run.ensures.ends,
      c.set.ensures.state,
      c.clear.ensures.state,
    ) (
      moved_sound t c.args.self.now c.args.from c.args.words c.self.invariant.0 c.self.invariant.1 c.self.view_is c.requires.block c.args.to
          c.requires.nonzero c.requires.free,
      moved_apart t c.args.self.now c.args.from c.args.words c.self.invariant.0 c.self.invariant.1 c.self.view_is c.requires.block c.args.to
          c.requires.nonzero c.requires.free,
      moved_tally t c.args.self.now c.args.from c.args.words c.self.invariant.0 c.self.invariant.1 c.self.view_is c.requires.block c.args.to
          c.requires.nonzero c.requires.free c.self.invariant.2,
    )

pub returns : goal.returns
returns c =
    rw (c.move_run.ensures.ends, c.set.ensures.state, c.clear.ensures.state)
    (moved_lists c.self.inside c.args.self.now c.args.from c.args.words c.self.invariant.0 c.self.invariant.1 c.self.view_is
    c.requires.block c.args.to c.requires.nonzero c.requires.free)
