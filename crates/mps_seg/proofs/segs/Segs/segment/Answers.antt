use Rattle.std.proofs.Common.{ℕ, ◌≡◌, Bool, get_or, sym, ap, subst, ◌∙◌, arith}
use Rattle.std.proofs.lemmas.List.{get_or_read}
use Rattle.mps_base.specs.Address.{grain_of}
use Rattle.mps_bits.specs.Table.{bit}
use Rattle.mps_seg.specs.Segs.{SegsState}
use Rattle.mps_seg.specs.declared.entry.Entry.{Entry}
use Rattle.mps_seg.specs.declared.entry.Entry.TheVariants.{Free, First}
use Rattle.mps_seg.proofs.Entries.{entry_at_seen_base}
use Rattle.mps_seg.proofs.FirstGrain.{in_condemned, info_of_entry}
use Rattle.mps_seg.proofs.segs.Segs.segment.Goals as goal

pub index-requires : goal.index-requires
index-requires c =
    let s = c.self.inside in
    let at = entry_at_seen_base s c.args.self.now c.args.base.0 c.requires.0 c.self.view_is c.requires.1 c.requires.2 in
    omega (arith, at.within, c.grain-grain.ensures, s.table.ok.0)

pub unreachable-requires : goal.unreachable-requires
unreachable-requires c =
    let s = c.self.inside in
    let t = c.requires.0 in
    let at = entry_at_seen_base s c.args.self.now c.args.base.0 t c.self.view_is c.requires.1 c.requires.2 in
    let P : ℕ → Type 0 = λ g. c.index.result.now ≡ get_or s.table.items g c.index.result.now in
    let here = subst P c.grain-grain.ensures c.index.ensures in
    let read = get_or_read s.table.items (grain_of c.args.base.0) c.index.result.now at.within here Free ∙ at.is in
    let never : Free ≡ First t.grains t.pool t.generation t.rank = sym c.in_default.is ∙ read in
    cc

pub test-requires : goal.test-requires
test-requires c =
    let within =
    in_condemned c.self.inside c.args.self.now c.args.base.0 c.requires.0 c.self.invariant c.self.view_is c.requires.1 c.requires.2
    in
    omega (arith, within, c.grain-grain.ensures)

pub returns : goal.returns
returns c =
    λ t listed begins.
    let s = c.self.inside in
    let at = entry_at_seen_base s c.args.self.now c.args.base.0 t c.self.view_is listed begins in
    let P : ℕ → Type 0 = λ g. c.index.result.now ≡ get_or s.table.items g c.index.result.now in
    let here = subst P c.grain-grain.ensures c.index.ensures in
    let read = get_or_read s.table.items (grain_of c.args.base.0) c.index.result.now at.within here Free ∙ at.is in
    let condemned : c.test.result ≡ bit c.args.self.now.condemned (grain_of t.base) =
    c.test.ensures ∙ ap (λ (st : SegsState). bit st.condemned c.grain-grain.result) c.self.view_is
    ∙ ap (λ (g : ℕ). bit c.args.self.now.condemned g) (c.grain-grain.ensures ∙ ap (λ (b : ℕ). grain_of b) (sym begins))
    in
    ap (λ (e : Entry). info_of_entry c.test.result e) (sym c.in-First.is ∙ read)
    ∙ ap (λ (b : Bool). info_of_entry b (First t.grains t.pool t.generation t.rank)) condemned
