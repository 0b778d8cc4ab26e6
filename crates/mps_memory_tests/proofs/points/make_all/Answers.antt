use Rattle.std.proofs.Common.{None, refl, sym, subst, ◌∙◌}
use Rattle.mps_base.specs.declared.names.Rank.TheVariants.{Exact}
use Rattle.mps_buffer.specs.Points.{PointsState}
use Rattle.mps_buffer.specs.Tokens.{NoneIsOpen}
use Rattle.mps_buffer.proofs.NoneOpen.{none_are_reserved, none_open_emptied, none_open_with, ready_when_made}
use Rattle.mps_memory_tests.proofs.points.make_all.Goals as goal

pub flip-requires-clause-reserved : goal.flip-requires-clause-reserved
flip-requires-clause-reserved g c =
    none_are_reserved c.args.points.now.flips c.args.points.now.points c.args.segs.now c.requires.none_open

pub returns-in_default : goal.returns-in_default
returns-in_default g c =
    let P : PointsState → Type 0 = λ x. NoneIsOpen x.points in
    record {
      none_open = subst P (sym (c.in_default.ensures.refused.1 ∙ c.flip.ensures.points)) (none_open_emptied _ c.requires.none_open);
    }

pub compare_all-requires : goal.compare_all-requires
compare_all-requires g c =
    let P : PointsState → Type 0 = λ x. NoneIsOpen x.points in
    ready_when_made c.flip.new.self c.add.new.self c.flip.new.segs c.in-Ok.key 0 Exact c.in-Ok.ensures.made
    (subst P (sym c.flip.ensures.points) (none_open_emptied _ c.requires.none_open))

pub returns : goal.returns
returns g c =
    let P : PointsState → Type 0 = λ x. NoneIsOpen x.points in
    record {
      none_open = subst P (sym c.drop_point.ensures) (none_open_with _ c.in-Ok.key None c.compare_all.ensures.none_open refl);
    }
