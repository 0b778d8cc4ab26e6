use Rattle.std.proofs.Common.{ℕ, ◌+◌, ◌<◌, ◌≤◌, ◌⊎◌, ◌≡◌, List, Option, Some, None, length, get_or, sym, ap, ◌∙◌, subst, arith}
use Rattle.std.proofs.lemmas.List.{with_items_is}
use Rattle.mps_base.specs.Address.{grain_of}
use Rattle.mps_seg.specs.Collecting.{asked_of}
use Rattle.mps_seg.specs.declared.entry.CondemnedSegment.{CondemnedSegment}
use Rattle.mps_seg.specs.declared.segment_info.SegmentInfo.{SegmentInfo}
use Rattle.mps_seg.proofs.AskedNoted.{IsNotedFor}
use Rattle.mps_seg.proofs.Condemning.{grains_within, marked_condemned, noted_condemned}
use Rattle.mps_seg.proofs.FirstGrain.{in_condemned}
use Rattle.mps_seg.proofs.segs.Segs.condemn.Goals as goal

pub set-requires : goal.set-requires
set-requires c =
    let t = c.requires in
    let within = in_condemned c.self.inside c.args.self.now c.args.base.0 t.0 c.self.invariant c.self.view_is t.1 t.2 in
    omega (arith, within, c.grain-grain.ensures)

pub note_grains-requires : goal.note_grains-requires
note_grains-requires c =
    let s = c.self.inside in
    let t = c.requires in
    let within = grains_within s c.args.self.now c.args.base.0 t.0 c.self.invariant c.self.view_is t.1 t.2 in
    let grains = ap (λ (i : SegmentInfo). i.grains) (c.segment-info.ensures t.0 t.1 t.2) in
    omega (arith, within, grains, c.grain-grain.ensures, c.deref_mut.ensures.len, s.white.ok.0)

pub invariant_of-self : goal.invariant_of-self
invariant_of-self c =
    let s = c.self.inside in
    let t = c.requires in
    let grain = grain_of c.args.base.0 in
    let at : c.grain-grain.result ≡ grain = c.grain-grain.ensures in
    let info = c.segment-info.ensures t.0 t.1 t.2 in
    let grains = ap (λ (i : SegmentInfo). i.grains) info in
    let asked_by : SegmentInfo → CondemnedSegment =
    λ i. record { owner = record { pool = i.pool; generation = i.generation }; rank = i.rank }
    in
    let asked : Some (asked_by c.segment-info.result) ≡ Some (asked_of t.0) = ap (λ (i : SegmentInfo). Some (asked_by i)) info in
    let white = with_items_is s.white c.note_grains.new.table (omega (arith, c.note_grains.auto.table, c.deref_mut.ensures.len)) in
    let written : IsNotedFor s.white.items c.note_grains.new.table (record { from = grain; count = t.0.grains }) (Some (asked_of t.0)) =
    record {
      size = c.note_grains.ensures.size ∙ ap (λ (xs : List (Option CondemnedSegment)). length xs) c.deref_mut.ensures.value;
      inside = λ g from below.
          c.note_grains.ensures.written g None (omega (arith, from, at)) (omega (arith, below, grains, at)) ∙ asked;
      outside = λ g out.
          let P : ℕ → Type 0 = λ k. (g < k) ⊎ (k + t.0.grains ≤ g) in
          let Q : ℕ → Type 0 = λ n. (g < c.grain-grain.result) ⊎ (c.grain-grain.result + n ≤ g) in
          c.note_grains.ensures.unchanged g None (subst Q (sym grains) (subst P (sym at) out))
          ∙ ap (λ (xs : List (Option CondemnedSegment)). get_or xs g None) c.deref_mut.ensures.value;
    }
    in
    rw (white, c.set.ensures.state, at) (
      c.self.invariant.0,
      c.self.invariant.1,
      marked_condemned s c.args.self.now c.args.base.0 t.0 c.self.invariant c.self.view_is t.1 t.2,
      c.self.invariant.3,
      noted_condemned s c.args.self.now c.args.base.0 t.0 c.self.invariant c.self.view_is t.1 t.2 c.note_grains.new.table written,
    )
