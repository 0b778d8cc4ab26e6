use Rattle.std.proofs.Common.{ℕ, List, set, sym, ap, subst, ◌∙◌}
use Rattle.mps_final.specs.Inside.{IsEntry, IsSoundRow}
use Rattle.mps_final.specs.declared.entries.Cursor.{Cursor}
use Rattle.mps_final.proofs.LiveEntries.{sound_set, live_set}
use Rattle.mps_final.proofs.row.Row.set.Goals as goal

there : (c : goal.After-self-1) → IsEntry c.self.inside.entries.items c.args.position c.seek-found.result.index
there c =
    let P : List ℕ → Type 0 = λ xs. IsEntry xs c.args.position c.seek-found.result.index in
    subst P c.deref.ensures.value c.seek-found.ensures.entry

pub invariant_of-self : goal.invariant_of-self
invariant_of-self c =
    let old = c.self.inside in
    let i = c.seek-found.result.index in
    let P : Cursor → Type 0 = λ cursor. IsSoundRow (set old.entries.items i c.args.at) old.count cursor.position cursor.index in (
      subst P (sym c.seek-found.ensures.cursor) (sound_set old.entries.items old.count old.cursor.position old.cursor.index
          c.args.position i
          c.args.at c.self.invariant.0 (there c) c.requires.nonzero),
      c.self.invariant.1,
    )

pub returns : goal.returns
returns c =
    let entry = there c in
    live_set c.self.inside.entries.items c.args.position c.seek-found.result.index c.args.at entry.within entry.lives entry.before
    c.requires.nonzero
    ∙ ap (λ (xs : List ℕ). set xs c.args.position c.args.at) c.self.view_is
