-- The word of a cell after a transform was applied to it, over plain variables: it is that of the substituted cell.
use Rattle.std.proofs.Common.{◌≡◌, ◌∙◌, ℕ, ◌+◌, ◌%◌, ◌<◌, Bool, true, refl, sym, ap, subst, List, [], Option, Some, None, inl, inr, arith, lit≤}
use Rattle.std.proofs.lemmas.Option.{none-some, same_Some}
use Rattle.std.specs.Prelude.{if◌then◌else◌}
use Rattle.std.specs.Option.{option_map_or}
use Rattle.mps_base.specs.Address.{Address, Id}
use Rattle.mps_format.specs.Layout.{IsLawful, Layout}
use Rattle.mps_model.specs.Graph.{Cell, HeadCell, NumberCell, ReferenceCell, entry_at, is_reference_cell}
use Rattle.mps_model.specs.Transforms.{cell_substituted, new_for}
use Rattle.mps_model.specs.World.{TransformPair}
use Rattle.mps_trace_laws.specs.Image.Image.{IsAddress, IsCellWord}
use Rattle.mps_refinement.proofs.Lookups.Cells.{IsTargetAddress, tag_is, target_is}
use Rattle.mps_refinement.proofs.Substitution.Replaced.{Goes, IsReplaced, Stays}

module _ (f : Layout) (lawful : IsLawful f) (addresses : List (Option Address)) (pairs : List TransformPair)
    (to : Address → Option Address) (is_address : (id : Id) (at : Address) → entry_at addresses id ≡ Some at → IsAddress at)
    (null : to 0 ≡ None)
    (replaces : (id : Id) (at : Address) → entry_at addresses id ≡ Some at → IsReplaced addresses id (new_for pairs id) (to at))
    (head word : ℕ) where
  -- the new address that the word is given, where it is a reference, and the word with it
  abbrev pub given : (is_reference : Bool) → Option Address
  given is_reference = if is_reference then to (f.target word) else None

  abbrev pub word_given : (is_reference : Bool) → ℕ
  word_given is_reference =
      option_map_or (λ at. f.retarget word at) (if is_reference then to (f.target word) else None) word

  -- it is the word of the substituted cell, and leads to the new address that it was given
  pub record IsCellAfter (is_reference : Bool) (c : Cell) : Type 0 where
    pub holds : IsCellWord addresses [] head (cell_substituted pairs c) (word_given is_reference)
    pub leads : (at : Address) → given is_reference ≡ Some at → f.target (word_given is_reference) ≡ at

  target_address : (at : Address) → IsAddress at → IsTargetAddress at
  target_address at is = record { aligned = is.aligned; small = is.small }

  module _ (id : Id) (tag : ℕ) (low : tag < 8) (was : Address) (live : entry_at addresses id ≡ Some was) (is : word ≡ was + tag) where
    old_target : f.target word ≡ was
    old_target = target_is f lawful word was tag low (target_address was (is_address id was live)) is

    to_another : (o : Option Address) → to (f.target word) ≡ o → IsReplaced addresses id (new_for pairs id) o
        → IsCellAfter true (ReferenceCell (Some id) tag)
    to_another None e (Stays same) =
        let still : word_given true ≡ word = ap (λ (x : Option Address). option_map_or (λ at. f.retarget word at) x word) e in
        record {
          holds = record { address = was; is = still ∙ is; means = inl (ap (entry_at addresses) same ∙ live) };
          leads = λ at f. absurd (none-some at (sym e ∙ f));
        }
    to_another (Some at) e (Goes there) =
        let a = target_address at (is_address (new_for pairs id) at there) in
        let old = target_address was (is_address id was live) in
        let rest : word % 8 ≡ tag = tag_is word was tag low old is in
        let kept = lawful.retarget_keeps_tag word at (omega (arith, is, low, old.small)) (omega (arith, a.small)) a.aligned in
        let written : word_given true ≡ at + tag =
        ap (λ (x : Option Address). option_map_or (λ b. f.retarget word b) x word) e
        ∙ (let z : f.retarget word at ≡ at + tag = omega (arith, kept, rest) in z) in
        record {
          holds = record { address = at; is = written; means = inl there };
          leads = λ b g. target_is f lawful (word_given true) at tag low a written ∙ same_Some at b (sym e ∙ g);
        }

    reference_after : IsCellAfter true (ReferenceCell (Some id) tag)
    reference_after =
        to_another (to (f.target word)) refl
        (subst (λ (x : Address). IsReplaced addresses id (new_for pairs id) (to x)) (sym old_target) (replaces id was live))

  null_after : (tag : ℕ) → tag < 8 → word ≡ tag → IsCellAfter true (ReferenceCell None tag)
  null_after tag low is =
      let target : f.target word ≡ 0 =
      target_is f lawful word 0 tag low (record { aligned = refl; small = lit≤ tt }) (omega (arith, is)) in
      let e : to (f.target word) ≡ None = ap to target ∙ null in
      record {
        holds = ap (λ (x : Option Address). option_map_or (λ at. f.retarget word at) x word) e ∙ is;
        leads = λ at g. absurd (none-some at (sym e ∙ g));
      }

  of_reference : (target : Option Id) (tag : ℕ) → tag < 8 → IsCellWord addresses [] head (ReferenceCell target tag) word
      → IsCellAfter true (ReferenceCell target tag)
  of_reference None tag low is = null_after tag low is
  of_reference (Some id) tag low refers = elim refers.means [
    | inl live ↦ reference_after id tag low refers.address live refers.is
    | inr flip ↦ absurd (none-some refers.address flip)
  ]

  of_cell : (c : Cell) → ((target : Option Id) (tag : ℕ) → c ≡ ReferenceCell target tag → tag < 8) → IsCellWord addresses [] head c word
      → IsCellAfter (is_reference_cell c) c
  of_cell HeadCell low is = record { holds = is; leads = λ at e. absurd (none-some at e) }
  of_cell (NumberCell number) low is = record { holds = is; leads = λ at e. absurd (none-some at e) }
  of_cell (ReferenceCell target tag) low is = of_reference target tag (low target tag refl) is

  pub cell_after : (is_reference : Bool) (c : Cell) → is_reference_cell c ≡ is_reference
      → ((target : Option Id) (tag : ℕ) → c ≡ ReferenceCell target tag → tag < 8) → IsCellWord addresses [] head c word
      → IsCellAfter is_reference c
  cell_after is_reference c kind low is = subst (λ b. IsCellAfter b c) kind (of_cell c low is)
