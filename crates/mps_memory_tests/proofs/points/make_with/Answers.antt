use Rattle.std.proofs.Common.{Contains, sym, subst}
use Rattle.mps_extents.proofs.ApartRuns.{contains_put}
use Rattle.mps_seg.specs.Segs.{SegsState}
use Rattle.mps_buffer.specs.declared.point.Held.{Held}
use Rattle.mps_buffer.specs.Points.{placement_at, after_open, run_of_held}
use Rattle.mps_buffer.proofs.NoneOpen.{is_open, ready_again, at_hand_after}
use Rattle.mps_memory_tests.proofs.points.make_with.Goals as goal

pub commit-committed-requires-clause-open : goal.commit-committed-requires-clause-open
commit-committed-requires-clause-open c =
    let s = c.args.points.now in
    let ready = c.requires.ready in
    let p = ready.point in
    let pl = placement_at p c.args.segs.now c.args.words in
    let h : Held = record { at = c.in_ok-reserve.field-0; head = 7; words = c.args.words; flips = s.flips } in
    let reserved = c.in_ok-reserve.ensures.points p ready.there.there in
    let P : SegsState → Type 0 = λ x. Contains x.reservations (run_of_held h) in (
      after_open p pl h,
      h,
      is_open s c.reserve.new.self c.args.segs.now c.args.key ready h pl reserved,
      λ _. subst P (sym (c.in_ok-reserve.ensures.state p ready.there.there)) (contains_put (run_of_held h) c.args.segs.now.reservations),
    )

pub returns : goal.returns
returns c =
    let s = c.args.points.now in
    let ready = c.requires.ready in
    let p = ready.point in
    let pl = placement_at p c.args.segs.now c.args.words in
    let h : Held = record { at = c.in_ok-reserve.field-0; head = 7; words = c.args.words; flips = s.flips } in
    let reserved = c.in_ok-reserve.ensures.points p ready.there.there in
    let s2 = c.commit-committed.new.self in
    let has = is_open s c.reserve.new.self c.args.segs.now c.args.key ready h pl reserved in
    let after =
    at_hand_after c.commit-committed.result c.reserve.new.segs c.commit-committed.new.segs h (after_open p pl h).buffer
    (c.commit-committed.ensures.state (after_open p pl h) h has) (c.in_ok-reserve.ensures.at_hand p ready.there.there ready.is_copying) in
    record {
      ready =
          ready_again s c.reserve.new.self c.args.segs.now c.args.key ready h pl reserved s2 c.commit-committed.new.segs after
          (c.commit-committed.ensures.points (after_open p pl h) has.there);
    }
