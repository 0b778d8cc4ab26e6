use Rattle.std.proofs.Common.{◌≡◌, ◌∙◌, ◌++◌, ap, eqb, ℕ, List, subst, rules}
use Rattle.std.specs.List.{IsDistinct}
use Rattle.std.specs.List.Sorted.{IsPermutation}
use Rattle.std.specs.Map.{keys_of}
use Rattle.std.proofs.lemmas.List.Sorted.{IsNonDecreasingBy-from_sort, answers_always}
use Rattle.mps_address_map.specs.Words.{words_of}
use Rattle.mps_address_map.proofs.Sorted.{distinct_of_both, lists_sorted}
use Rattle.mps_address_map.proofs.WordEntries.{distinct_words, apart_from_words}
use Rattle.mps_address_map.proofs.map.AddressMap.into_sorted.Goals as goal

pub returns : goal.returns
returns g c =
    let s = c.self.inside in
    let sorted = c.sort_unstable_by_key.new.self.items in
    let low = words_of s.low.items in
    let all : c.append_high.new.entries.items ≡ c.args.self =
    c.in_ok-append_high.ensures.all ∙ ap (λ (es : List (ℕ × g.row.V.Denot)). es ++ s.high.entries) c.in_ok-entries.ensures
    ∙ c.self.view_is in
    let key : ℕ × g.row.V.Denot → ℕ = λ e. e.0 in
    lists_sorted c.args.self sorted
    (subst (λ (es : List (ℕ × g.row.V.Denot)). IsDistinct eqb (keys_of es)) c.self.view_is
    (distinct_of_both low s.high.entries (distinct_words 0 s.low.items)
    c.append_high.ensures.once
    (apart_from_words s.high.entries s.low.items 2097152 c.self.invariant.0 c.self.invariant.1)))
    (subst (λ (es : List (ℕ × g.row.V.Denot)). IsPermutation es sorted) all c.sort_unstable_by_key.ensures.permutation)
    (IsNonDecreasingBy-from_sort key sorted
    (c.sort_unstable_by_key.ensures.sorted key (answers_always _ _ _ (λ f a r g h. search rules))))
