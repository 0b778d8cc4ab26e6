use Rattle.std.proofs.Common.{◌∙◌, ◌<◌, length, ap, slice_index, arith}
use Rattle.std.proofs.lemmas.List.{get_or_read}
use Rattle.mps_base.specs.Address.{grain_of}
use Rattle.mps_base.specs.Zones.{zones_meet}
use Rattle.mps_seg.specs.Segs.{SegsState}
use Rattle.mps_seg.proofs.FirstGrain.{in_condemned}
use Rattle.mps_seg.proofs.segs.Segs.may_lead_to.Goals as goal

pub index-requires : goal.index-requires
index-requires c =
    let within =
    in_condemned c.self.inside c.args.self.now c.args.base.0 c.requires.0 c.self.invariant c.self.view_is c.requires.1 c.requires.2
    in
    let sizes = c.self.invariant.2 in
    omega (arith, within, c.grain.ensures, sizes.condemned_size, sizes.summaries_size)

pub returns : goal.returns
returns c =
    let within =
    in_condemned c.self.inside c.args.self.now c.args.base.0 c.requires.0 c.self.invariant c.self.view_is c.requires.1 c.requires.2
    in
    let sizes = c.self.invariant.2 in
    let summaries = c.self.inside.summaries.items in
    let below : c.grain.result < length summaries =
    omega (arith, within, c.grain.ensures, sizes.condemned_size, sizes.summaries_size)
    in
    let read = get_or_read summaries c.grain.result c.index.result.now below c.index.ensures 0 in
    ap (λ n. zones_meet n c.args.zones.0) read
    ∙ ap (λ n. zones_meet (slice_index summaries n) c.args.zones.0) c.grain.ensures
    ∙ ap (λ (st : SegsState). zones_meet (slice_index st.summaries (grain_of c.args.base.0)) c.args.zones.0) c.self.view_is
