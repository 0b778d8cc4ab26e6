use Rattle.std.proofs.Common.{ℕ, ◌≡◌, ◌==◌, ◌∙◌, not, List, length, ap, arith, rules}
use Rattle.std.proofs.lemmas.Fn.{filter_same}
use Rattle.mps_final.specs.Inside.{live}
use Rattle.mps_final.proofs.LiveEntries.{live_are_few, live_twice, nonzero_are_live}
use Rattle.mps_final.proofs.entries.make_room.Goals as goal

pub overflow_sub-removed : goal.overflow_sub-removed
overflow_sub-removed c =
    let entries = c.args.entries.now in
    omega (arith, live_are_few entries.items, entries.ok.0, c.len.ensures, c.requires.counted)

compacted : (c : goal.After-retain) → c.retain.new.self.items ≡ live c.args.entries.now.items
compacted c =
    filter_same _ (λ entry. not (entry == 0)) _ (λ x b f' k. search rules) _ _ c.retain.ensures.filtered
    ∙ nonzero_are_live c.args.entries.now.items

pub returns-then-removed-max-clause-unchanged : goal.returns-then-removed-max-clause-unchanged
returns-then-removed-max-clause-unchanged c =
    ap (λ (xs : List ℕ). live xs) (compacted c) ∙ live_twice c.args.entries.now.items

pub returns-then-removed-max-clause-fits : goal.returns-then-removed-max-clause-fits
returns-then-removed-max-clause-fits c = omega (arith, ap length (compacted c), c.requires.few, c.retain.new.self.ok.0)

pub returns-then-removed-max-clause-short : goal.returns-then-removed-max-clause-short
returns-then-removed-max-clause-short c = omega (arith, ap length (compacted c), c.requires.counted, c.retain.new.self.ok.0)
