use Rattle.std.proofs.Common.{◌≡◌, ap, ◌∙◌, ◌++◌, ℕ, List, Some, subst}
use Rattle.std.proofs.lemmas.Result.{on_ok_weaker, IfOk-weaker}
use Rattle.mps_address_map.specs.AddressMap.{found_at, Changes}
use Rattle.mps_address_map.specs.Words.{at_word, words_of}
use Rattle.mps_address_map.proofs.WordEntries.{found_in_table, found_in_entries, table_changes, entries_change}
use Rattle.mps_address_map.proofs.map.AddressMap.insert.Goals as goal

pub returns-in-Some-clause-old : goal.returns-in-Some-clause-old
returns-in-Some-clause-old g c =
    let s = c.self.inside in
    let word = c.in-Some.ensures.word in
    let same =
    found_in_table s.low.items s.high.entries c.in-Some.word c.args.at word.1 (c.self.invariant.1 c.in-Some.word word.0)
    ∙ ap (λ (es : List (ℕ × g.row.V.Denot)). found_at es c.args.at) c.self.view_is in
    IfOk-weaker c.insert_word.result (λ old. old ≡ at_word s.low.items c.in-Some.word) _ (λ old is. is ∙ same) c.insert_word.ensures.old

pub returns-in-Some-clause-changes : goal.returns-in-Some-clause-changes
returns-in-Some-clause-changes g c =
    let s = c.self.inside in
    let word = c.in-Some.ensures.word in
    on_ok_weaker c.insert_word.result
    (λ change.
    subst (λ (es : List (ℕ × g.row.V.Denot)). Changes es (words_of c.insert_word.new.words.items ++ s.high.entries) c.args.at
    (Some c.args.value)) c.self.view_is
    (table_changes s.low.items c.insert_word.new.words.items s.high.entries c.in-Some.word c.args.at (Some c.args.value) word.1
    (c.self.invariant.1 c.in-Some.word word.0) change))
    c.insert_word.ensures.changes

pub returns-in-None-clause-old : goal.returns-in-None-clause-old
returns-in-None-clause-old g c =
    let s = c.self.inside in
    let same =
    found_in_entries s.low.items s.high.entries 2097152 c.args.at c.self.invariant.0 c.in-None.ensures.other
    ∙ ap (λ (es : List (ℕ × g.row.V.Denot)). found_at es c.args.at) c.self.view_is in
    IfOk-weaker c.insert_high.result (λ old. old ≡ found_at s.high.entries c.args.at) _ (λ old is. is ∙ same)
    c.insert_high.ensures.old

pub returns-in-None-clause-changes : goal.returns-in-None-clause-changes
returns-in-None-clause-changes g c =
    let s = c.self.inside in
    on_ok_weaker c.insert_high.result
    (λ change.
    subst (λ (es : List (ℕ × g.row.V.Denot)). Changes es (words_of s.low.items ++ c.insert_high.new.high.entries) c.args.at
    (Some c.args.value)) c.self.view_is
    (entries_change s.low.items s.high.entries c.insert_high.new.high.entries 2097152 c.args.at (Some c.args.value)
    c.self.invariant.0 c.in-None.ensures.other change))
    c.insert_high.ensures.changes
