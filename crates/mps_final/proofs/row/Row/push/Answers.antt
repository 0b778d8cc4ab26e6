use Rattle.std.proofs.Common.{ℕ, ◌+◌, ◌≡◌, ◌++◌, ◌∷◌, [], List, length, sym, ap, subst, ◌∙◌, arith}
use Rattle.mps_final.specs.Inside.{live, IsSoundRow}
use Rattle.mps_final.proofs.LiveEntries.{sound_push, live_push}
use Rattle.mps_final.proofs.row.Row.push.Goals as goal

pub invariant_of-self : goal.invariant_of-self
invariant_of-self c =
    let xs = c.make_room.new.entries.items in
    let cursor = c.make_room.new.cursor in
    let P : List ℕ → Type 0 = λ ys. IsSoundRow ys (c.self.inside.count + 1) cursor.position cursor.index in
    let counted : c.self.inside.count ≡ length (live xs) =
    omega (arith, c.self.invariant.0.counted, ap length c.make_room.ensures.unchanged)
    in (
      subst P (sym c.in-Ok.ensures.items) (sound_push xs c.self.inside.count cursor.position cursor.index c.args.at counted
          (omega (arith, c.requires.fits, ap length c.self.view_is, c.self.invariant.0.counted))
          (omega (arith, c.make_room.ensures.fits, c.make_room.new.entries.ok.0))
          c.make_room.ensures.within c.make_room.ensures.before c.requires.nonzero),
      omega (arith, c.self.invariant.1, c.make_room.ensures.capacity, c.in-Ok.ensures.capacity),
    )

pub returns : goal.returns
returns c =
    let at = c.args.at in
    ap (λ (ys : List ℕ). live ys) c.in-Ok.ensures.items ∙ live_push c.make_room.new.entries.items at c.requires.nonzero
    ∙ ap (λ (ys : List ℕ). ys ++ at ∷ []) (c.make_room.ensures.unchanged ∙ c.self.view_is)
