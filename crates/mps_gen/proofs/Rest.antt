-- Which generation is due, of the generations and the chains from an index on.
use Rattle.std.proofs.Common.{ℕ, ◌<◌, ◌≤◌, ◌+◌, ◌≡◌, ◌∙◌, min, List, [], ◌∷◌, length, map, get_or, drop, refl, sym, ap, arith}
use Rattle.std.specs.Prelude.{Option, None}
use Rattle.std.proofs.lemmas.Grind.{common_steps}
use Rattle.std.proofs.lemmas.List.{drop_more, length-drop, length-map}
use Rattle.mps_base.specs.Generation.{Due, greatest_over, due_or, due_from}
use Rattle.mps_gen.specs.State.{loads}
use Rattle.mps_gen.proofs.Sound.{seen_at}

none_is_over : (generation : ℕ) (capacities held : List ℕ) → min (length capacities) (length held) ≡ 0
    → greatest_over generation capacities held ≡ None
none_is_over generation [] held empty = refl
none_is_over generation (c ∷ cs) [] empty = refl
none_is_over generation (c ∷ cs) (h ∷ hs) empty = grind (arith, common_steps, empty)

-- where the capacities or the grains end, no generation is left
pub none_over_from : (generation : ℕ) (capacities held : List ℕ) (index : ℕ) → min (length capacities) (length held) ≤ index
    → greatest_over generation (drop index capacities) (drop index held) ≡ None
none_over_from generation capacities held index past = none_is_over generation (drop index capacities) (drop index held)
    (omega (arith, past, length-drop index capacities, length-drop index held))

none_is_due : (chain : ℕ) (chains held : List (List ℕ)) → min (length chains) (length held) ≡ 0
    → due_from chain (loads chains held) ≡ None
none_is_due chain [] held empty = refl
none_is_due chain (c ∷ cs) [] empty = refl
none_is_due chain (c ∷ cs) (h ∷ hs) empty = grind (arith, common_steps, empty)

-- where the chains or their grains end, no chain is left
pub none_due_from : (chain : ℕ) (chains held : List (List ℕ)) (index : ℕ) → min (length chains) (length held) ≤ index
    → due_from chain (loads (drop index chains) (drop index held)) ≡ None
none_due_from chain chains held index past = none_is_due chain (drop index chains) (drop index held)
    (omega (arith, past, length-drop index chains, length-drop index held))

due_at : (chain : ℕ) (chains held : List (List ℕ)) (index : ℕ) → index < length chains → index < length held
    → due_from chain (loads (drop index chains) (drop index held))
    ≡ due_or chain (greatest_over 0 (get_or chains index []) (get_or held index []))
    (due_from (chain + 1) (loads (drop (index + 1) chains) (drop (index + 1) held)))
due_at chain chains held index chain_is held_is =
    ap (λ (cs : List (List ℕ)). due_from chain (loads cs (drop index held))) (drop_more chains index [] chain_is)
    ∙ ap (λ (hs : List (List ℕ)). due_from chain (loads (get_or chains index [] ∷ drop (index + 1) chains) hs))
    (drop_more held index [] held_is)

-- The chain at an index comes before the later ones: with its generation, if it has one, as much is known of what is due. The chains
-- are seen through a map.
pub due_with_chain : {A : Type 0} (f : A → List ℕ) (number : ℕ) (chains : List A) (held : List (List ℕ)) (index : ℕ) (chain : A)
    (capacities : List ℕ) (found : Option ℕ) (due : Option Due) → index < length chains → index < length held
    → chain ≡ get_or chains index chain → capacities ≡ f chain → found ≡ greatest_over 0 capacities (get_or held index [])
    → due_from (number + index) (loads (drop index (map f chains)) (drop index held)) ≡ due
    → due_or (number + index) found (due_from (number + (index + 1)) (loads (drop (index + 1) (map f chains)) (drop (index + 1) held)))
    ≡ due
due_with_chain f number chains held index chain capacities found due chain_is held_is same capacities_are found_is due_is =
    let n = number + index in
    let seen = map f chains in
    let row = get_or held index [] in
    let next : number + (index + 1) ≡ n + 1 = omega arith in
    let rest = λ (m : ℕ). due_from m (loads (drop (index + 1) seen) (drop (index + 1) held)) in
    let greatest : found ≡ greatest_over 0 (get_or seen index []) row =
    found_is ∙ ap (λ (cs : List ℕ). greatest_over 0 cs row) (capacities_are ∙ sym (seen_at f chains index chain chain_is same))
    in
    ap (λ (m : ℕ). due_or n found (rest m)) next
    ∙ ap (λ (o : Option ℕ). due_or n o (rest (n + 1))) greatest
    ∙ sym (due_at n seen held index (omega (arith, chain_is, length-map chains f)) held_is)
    ∙ due_is
