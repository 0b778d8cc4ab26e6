use Rattle.std.proofs.Common.{List, sym, subst, ap, ◌∙◌, arith}
use Rattle.mps_base.specs.Run.{Run, with_run}
use Rattle.mps_extents.specs.Extents.{ExtentLists}
use Rattle.mps_extents.specs.Inside.{IsTally}
use Rattle.mps_extents.proofs.PutExtent.{put_fits}
use Rattle.mps_extents.proofs.Tables.{cover_is_sound, cover_apart, cover_lists}
use Rattle.mps_extents.proofs.extents.Extents.cover.Goals as goal

pub overflow_add-at : goal.overflow_add-at
overflow_add-at c =
    let fits =
    put_fits c.self.inside c.args.self.now c.args.at c.args.words c.self.invariant.0 c.self.view_is c.requires.nonzero c.requires.free
    in
    omega arith

pub set_range-requires-clause-in_table : goal.set_range-requires-clause-in_table
set_range-requires-clause-in_table c =
    let fits =
    put_fits c.self.inside c.args.self.now c.args.at c.args.words c.self.invariant.0 c.self.view_is c.requires.nonzero c.requires.free
    in
    omega arith

pub overflow_add-at-2 : goal.overflow_add-at-2
overflow_add-at-2 c =
    let fits =
    put_fits c.self.inside c.args.self.now c.args.at c.args.words c.self.invariant.0 c.self.view_is c.requires.nonzero c.requires.free
    in
    omega arith

pub end_run-requires-clause-in_table : goal.end_run-requires-clause-in_table
end_run-requires-clause-in_table c =
    let fits =
    put_fits c.self.inside c.args.self.now c.args.at c.args.words c.self.invariant.0 c.self.view_is c.requires.nonzero c.requires.free
    in
    omega arith

pub set-requires : goal.set-requires
set-requires c =
    let fits =
    put_fits c.self.inside c.args.self.now c.args.at c.args.words c.self.invariant.0 c.self.view_is c.requires.nonzero c.requires.free
    in
    omega arith

pub invariant_of-self : goal.invariant_of-self
invariant_of-self c =
    let t = c.self.inside in
    let fits = put_fits t c.args.self.now c.args.at c.args.words c.self.invariant.0 c.self.view_is c.requires.nonzero c.requires.free in
    let P : List Run → Type 0 = λ rs. IsTally rs t.live_blocks t.live_words in
    rw (c.set_range.ensures.state, c.end_run.ensures.state, c.set.ensures.state) (
      cover_is_sound t.covered t.opens t.ends t.blocks c.args.at c.args.words c.self.invariant.1 fits.put,
      cover_apart t.covered t.opens t.ends t.blocks c.args.at c.args.words c.self.invariant.1 fits.put,
      subst P (sym (ap (λ (e : ExtentLists). e.blocks)
          (cover_lists t.covered t.opens t.ends t.blocks c.args.at c.args.words c.self.invariant.1 fits.put))) c.self.invariant.2,
    )

pub returns : goal.returns
returns c =
    let t = c.self.inside in
    let fits = put_fits t c.args.self.now c.args.at c.args.words c.self.invariant.0 c.self.view_is c.requires.nonzero c.requires.free in
    let r : Run = record { from = c.args.at; count = c.args.words } in
    rw (c.end_run.ensures.state, c.set.ensures.state)
    (cover_lists t.covered t.opens t.ends t.blocks c.args.at c.args.words c.self.invariant.1 fits.put
    ∙ ap (λ (e : ExtentLists). record e { covered = with_run r e.covered; reservations = with_run r e.reservations }) c.self.view_is)
