use Rattle.std.proofs.Common.{ℕ, ◌-◌, ◌<◌, List, length, set, sym, ap, subst, ◌∙◌}
use Rattle.std.specs.List.{remove}
use Rattle.mps_final.specs.Inside.{IsEntry, IsSoundRow}
use Rattle.mps_final.specs.declared.entries.Cursor.{Cursor}
use Rattle.mps_final.proofs.LiveEntries.{sound_gone, live_gone}
use Rattle.mps_final.proofs.row.Row.remove.Goals as goal

there : (c : goal.After-self-2-1) → IsEntry c.self.inside.entries.items c.args.position c.seek-found.result.index
there c =
    let P : List ℕ → Type 0 = λ xs. IsEntry xs c.args.position c.seek-found.result.index in
    subst P c.deref.ensures.value c.seek-found.ensures.entry

pub invariant_of-self : goal.invariant_of-self
invariant_of-self c =
    let old = c.self.inside in
    let i = c.seek-found.result.index in
    let P : Cursor → Type 0 = λ cursor. IsSoundRow (set old.entries.items i 0) (old.count - 1) cursor.position cursor.index in
    let W : List ℕ → Type 0 = λ xs. c.args.position < length xs in (
      subst P (sym c.seek-found.ensures.cursor) (sound_gone old.entries.items old.count old.cursor.position old.cursor.index
          c.args.position i
          c.self.invariant.0 (there c) (subst W (sym c.self.view_is) c.requires)),
      c.self.invariant.1,
    )

pub returns-clause-state : goal.returns-clause-state
returns-clause-state c =
    let entry = there c in
    live_gone c.self.inside.entries.items c.args.position c.seek-found.result.index entry.within entry.lives entry.before
    ∙ ap (λ (xs : List ℕ). remove xs c.args.position) c.self.view_is
