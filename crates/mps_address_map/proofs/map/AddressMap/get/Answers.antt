use Rattle.std.proofs.Common.{ap, ◌∙◌, ℕ, List, Option}
use Rattle.mps_address_map.specs.AddressMap.{found_at}
use Rattle.mps_address_map.specs.Words.{at_word}
use Rattle.mps_address_map.proofs.WordEntries.{found_in_table, found_in_entries}
use Rattle.mps_address_map.proofs.map.AddressMap.get.Goals as goal

pub returns-in-Some : goal.returns-in-Some
returns-in-Some g c =
    let s = c.self.inside in
    let word = c.in-Some.ensures.word in
    c.value_at.ensures
    ∙ ap (λ (places : List (Option g.row.V.Denot)). at_word places c.in-Some.word) c.deref.ensures.value
    ∙ found_in_table s.low.items s.high.entries c.in-Some.word c.args.at word.1 (c.self.invariant.1 c.in-Some.word word.0)
    ∙ ap (λ (es : List (ℕ × g.row.V.Denot)). found_at es c.args.at) c.self.view_is

pub returns-in-None : goal.returns-in-None
returns-in-None g c =
    let s = c.self.inside in
    c.get_high.ensures
    ∙ found_in_entries s.low.items s.high.entries 2097152 c.args.at c.self.invariant.0 c.in-None.ensures.other
    ∙ ap (λ (es : List (ℕ × g.row.V.Denot)). found_at es c.args.at) c.self.view_is
