use Rattle.std.proofs.Common.{ℕ, ◌+◌, ◌*◌, ◌≡◌, List, length, replicate, sym, ap, ◌∙◌, subst}
use Rattle.mps_arena.specs.Grains.{runs_in}
use Rattle.mps_arena.specs.Inside.{AreHeldBelow, AreStored, IsSoundArena, memory_of}
use Rattle.mps_arena.specs.Memory.{StoredWords}
use Rattle.mps_arena.proofs.Below.{none_held_below}
use Rattle.mps_arena.proofs.Held.{none_are_stored}
use Rattle.mps_arena.proofs.Scan.{new_is_sound, new_state}
use Rattle.mps_arena.proofs.arena.Arena.new.Goals as goal
use Rattle.mps_base.specs.Address.{words_of_grain}

pub invariant_of-result : goal.invariant_of-result
invariant_of-result c =
    let all = words_of_grain * (c.args.grains + 1) in
    let runs : c.in_ok-runs.runs.items ≡ replicate (c.args.grains + 1) 0 = c.in_ok-runs.ensures.items_if_clones_equal (λ y h. h) in
    let P : StoredWords → List ℕ → Type 0 = λ m t.
    IsSoundArena m.words t 0 c.args.limit × AreStored (runs_in t) (length m.words) m.stored × AreHeldBelow t 1 in
    let fresh : StoredWords = record { words = replicate all 0; stored = 0 } in
    subst (λ (m : StoredWords). P m c.in_ok-runs.runs.items) (sym c.in_ok-memory.ensures)
    (subst (λ (t : List ℕ). P fresh t) (sym runs) (
      new_is_sound c.args.grains c.args.limit c.requires.nonzero c.requires.at_most,
      none_are_stored (c.args.grains + 1) (length (replicate {A = ℕ} all 0)) 0,
      none_held_below (replicate (c.args.grains + 1) 0),
    ))

pub returns : goal.returns
returns c =
    let runs : c.in_ok-runs.runs.items ≡ replicate (c.args.grains + 1) 0 = c.in_ok-runs.ensures.items_if_clones_equal (λ y h. h) in
    ap (λ (m : StoredWords). memory_of m.words c.in_ok-runs.runs.items c.args.limit) c.in_ok-memory.ensures
    ∙ ap (λ (t : List ℕ). memory_of (replicate (words_of_grain * (c.args.grains + 1)) 0) t c.args.limit) runs
    ∙ new_state c.args.grains c.args.limit
