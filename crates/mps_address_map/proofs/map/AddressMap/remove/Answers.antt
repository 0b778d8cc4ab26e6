use Rattle.std.proofs.Common.{ap, ◌∙◌, ◌++◌, ◌*◌, ℕ, List, None, subst}
use Rattle.mps_address_map.specs.AddressMap.{found_at, Changes}
use Rattle.mps_address_map.specs.Words.{words_of}
use Rattle.mps_address_map.proofs.Entries.{absent_after_removal}
use Rattle.mps_address_map.proofs.WordEntries.{found_in_table, found_in_entries, table_changes, entries_change}
use Rattle.mps_address_map.proofs.map.AddressMap.remove.Goals as goal

pub invariant_of-self-in-None : goal.invariant_of-self-in-None
invariant_of-self-in-None g c =
    let s = c.self.inside in (
      c.self.invariant.0,
      λ word low.
          absent_after_removal s.high.entries c.remove_high.new.high.entries c.args.at (8 * word)
          c.remove_high.ensures.changes
          (c.self.invariant.1 word low),
    )

pub returns-in-Some-clause-value : goal.returns-in-Some-clause-value
returns-in-Some-clause-value g c =
    let s = c.self.inside in
    let word = c.in-Some.ensures.word in
    c.remove_word.ensures.value
    ∙ found_in_table s.low.items s.high.entries c.in-Some.word c.args.at word.1 (c.self.invariant.1 c.in-Some.word word.0)
    ∙ ap (λ (es : List (ℕ × g.row.V.Denot)). found_at es c.args.at) c.self.view_is

pub returns-in-Some-clause-changes : goal.returns-in-Some-clause-changes
returns-in-Some-clause-changes g c =
    let s = c.self.inside in
    let word = c.in-Some.ensures.word in
    subst (λ (es : List (ℕ × g.row.V.Denot)). Changes es (words_of c.remove_word.new.words.items ++ s.high.entries) c.args.at None)
    c.self.view_is
    (table_changes s.low.items c.remove_word.new.words.items s.high.entries c.in-Some.word c.args.at None word.1
    (c.self.invariant.1 c.in-Some.word word.0) c.remove_word.ensures.changes)

pub returns-in-None-clause-value : goal.returns-in-None-clause-value
returns-in-None-clause-value g c =
    let s = c.self.inside in
    c.remove_high.ensures.value
    ∙ found_in_entries s.low.items s.high.entries 2097152 c.args.at c.self.invariant.0 c.in-None.ensures.other
    ∙ ap (λ (es : List (ℕ × g.row.V.Denot)). found_at es c.args.at) c.self.view_is

pub returns-in-None-clause-changes : goal.returns-in-None-clause-changes
returns-in-None-clause-changes g c =
    let s = c.self.inside in
    subst (λ (es : List (ℕ × g.row.V.Denot)). Changes es (words_of s.low.items ++ c.remove_high.new.high.entries) c.args.at None)
    c.self.view_is
    (entries_change s.low.items s.high.entries c.remove_high.new.high.entries 2097152 c.args.at None c.self.invariant.0
    c.in-None.ensures.other
    c.remove_high.ensures.changes)
