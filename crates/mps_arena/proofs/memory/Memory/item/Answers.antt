use Rattle.std.proofs.Common.{ℕ, ◌<◌, length, sym, ap, ◌∙◌, arith, slice_get, Some}
use Rattle.mps_arena.specs.Memory.{StoredWords}
use Rattle.mps_arena.proofs.Padded.{sizes_of, padded_within, padded_past, padded_item, padded_no_item}
use Rattle.std.proofs.lemmas.Grind.{get_or_default_zero}
use Rattle.mps_arena.proofs.memory.Memory.item.Goals as goal

pub returns-then-word-len : goal.returns-then-word-len
returns-then-word-len c =
    let inside = c.self.inside in
    let sizes = sizes_of inside.size inside.stored (c.args.self.now) c.self.view_is c.self.invariant.0 in
    let inside_stored : c.args.word < length inside.stored.items =
    omega (arith, c.if-word-len.true, c.len.ensures, inside.stored.ok.0)
    in
    sym (
    ap (λ (m : StoredWords). slice_get m.words c.args.word) (sym c.self.view_is)
    ∙ padded_item inside.size inside.stored.items c.args.word sizes.few (omega (arith, inside_stored, sizes.few))
    ∙ ap (λ (x : ℕ). Some x)
    (padded_within inside.size inside.stored.items c.args.word inside_stored
    ∙ sym (c.index.ensures ∙ get_or_default_zero inside.stored.items c.args.word c.index.result.now inside_stored))
    )

pub returns-then-word-self : goal.returns-then-word-self
returns-then-word-self c =
    let inside = c.self.inside in
    let sizes = sizes_of inside.size inside.stored (c.args.self.now) c.self.view_is c.self.invariant.0 in
    sym (
    ap (λ (m : StoredWords). slice_get m.words c.args.word) (sym c.self.view_is)
    ∙ padded_item inside.size inside.stored.items c.args.word sizes.few c.if-word-self.true
    ∙ ap (λ (x : ℕ). Some x)
    (padded_past inside.size inside.stored.items c.args.word (omega (arith, c.if-word-len.false, c.len.ensures, inside.stored.ok.0)))
    )

pub returns-else-word-self : goal.returns-else-word-self
returns-else-word-self c =
    let inside = c.self.inside in
    let sizes = sizes_of inside.size inside.stored (c.args.self.now) c.self.view_is c.self.invariant.0 in
    sym (
    ap (λ (m : StoredWords). slice_get m.words c.args.word) (sym c.self.view_is)
    ∙ padded_no_item inside.size inside.stored.items c.args.word sizes.few c.if-word-self.false
    )
