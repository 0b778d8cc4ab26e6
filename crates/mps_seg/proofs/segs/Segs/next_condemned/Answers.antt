use Rattle.std.proofs.Common.{List, Option, IfNone, length, sym, subst}
use Rattle.mps_base.specs.declared.address.Addr.{Addr}
use Rattle.mps_seg.specs.Condemned.{NoneLeft}
use Rattle.mps_seg.specs.Table.{NoneCondemnedFirst, IsCondemnedFirst}
use Rattle.mps_seg.specs.declared.entry.Entry.{Entry}
use Rattle.mps_seg.proofs.CondemnedGrains.{next_is_condemned, none_is_left}
use Rattle.mps_seg.proofs.segs.Segs.next_condemned.Goals as goal

pub returns-in_err-next-clause-complete : goal.returns-in_err-next-clause-complete
returns-in_err-next-clause-complete c =
    let s = c.self.inside in
    let seen = c.args.self.now in
    let start = c.grain_from.result in
    let P : List Entry → Type 0 = λ es. NoneCondemnedFirst es s.condemned start (length es) in
    let Q : Option Addr → Type 0 = λ o. IfNone o (NoneLeft seen c.args.from.0) in
    subst Q (sym c.from_residual.ensures)
    (none_is_left s seen c.self.view_is c.args.from.0 start c.grain_from.ensures.sound c.grain_from.ensures.lowest
    (subst P c.deref.ensures.value c.in_err-next.ensures.none))

pub returns-clause-sound : goal.returns-clause-sound
returns-clause-sound c =
    let s = c.self.inside in
    let start = c.grain_from.result in
    let P : List Entry → Type 0 = λ es. IsCondemnedFirst es s.condemned start c.in_ok-next.next in
    next_is_condemned s c.args.self.now c.self.view_is c.args.from.0 start c.grain_from.ensures.sound c.grain_from.ensures.lowest
    c.in_ok-next.next (subst P c.deref.ensures.value c.in_ok-next.ensures.sound)
