-- What fills a cell of a block: a number, or else the reference in a slot.
use Rattle.std.proofs.Common.{◌≡◌, ℕ, Option, Some, None, option_map, List, [], ◌∷◌, refl, sym, ap, ◌∙◌}
use Rattle.mps_base.specs.declared.names.Name.{Name}
use Rattle.mps_base.specs.declared.names.Slot.{Slot}
use Rattle.mps_model.specs.declared.call.Call.{Call}
use Rattle.mps_model.specs.declared.call.Call.TheVariants as call
use Rattle.mps_numerals.specs.Decimal.{decimal_number}
use Rattle.mps_line_words.specs.Name.{name_of, slot_of}
use Rattle.mps_line_words.specs.Number.{number_of}
use Rattle.mps_line_words.specs.Reading.{both, first_of_two, single, pair, onto, headed}
use Rattle.mps_line_words.proofs.Headed.{onto_some}
use Rattle.mps_grammar.specs.Calls.{three}
use Rattle.mps_grammar.specs.Form.{init}

nothing_before : {A B : Type 0} (o : Option B) → both {A = A} {B = B} None o ≡ None
nothing_before None = refl
nothing_before (Some y) = refl

-- where the first word isn't read, none is
module _ {A B : Type 0} (read : List ℕ → Option A) (rest : List (List ℕ) → Option B) where
  none_by : (ws : List (List ℕ)) (o : Option A) → option_map {U = A × List (List ℕ)} (λ x. (x, ws)) o ≡ None
      → both o (rest ws) ≡ None
  none_by ws None none = nothing_before (rest ws)
  none_by ws (Some x) none = absurd cc

  onto_none : (ws : List (List ℕ)) → headed read ws ≡ None → onto read rest ws ≡ None
  onto_none [] none = refl
  onto_none (w ∷ ws) none = none_by ws (read w) none

module _ (ws later : List (List ℕ)) (point : Name) (named : headed name_of ws ≡ Some (point, later)) where
  after_name : {A : Type 0} (read : List ℕ → Option A)
      → onto name_of (pair decimal_number read) ws ≡ both (Some point) (pair decimal_number read later)
  after_name read = sym (onto_some name_of (pair decimal_number read) ws later point named (pair decimal_number read later) refl)

  pub no_cell : headed decimal_number later ≡ None → init ws ≡ None
  no_cell none =
      rw (
        after_name number_of,
        after_name slot_of,
        onto_none decimal_number (single number_of) later none,
        onto_none decimal_number (single slot_of) later none,
      ) refl

  module _ (left : List (List ℕ)) (cell : ℕ) (counted : headed decimal_number later ≡ Some (cell, left)) where
    after_cell : {A : Type 0} (read : List ℕ → Option A) → pair decimal_number read later ≡ both (Some cell) (single read left)
    after_cell read = sym (onto_some decimal_number (single read) later left cell counted (single read left) refl)

    three_words : {A : Type 0} (read : List ℕ → Option A) (form : Name → ℕ → A → Call)
        → three name_of decimal_number read form ws ≡ option_map (form point cell) (single read left)
    three_words {A = A} read form = rw (after_name read, after_cell read) (at (single read left))
      where
        at : (o : Option A) → option_map (λ p. form p.0 p.1.0 p.1.1) (both (Some point) (both (Some cell) o))
            ≡ option_map (form point cell) o
        at None = refl
        at (Some x) = refl

    is_init : init ws ≡ first_of_two (option_map (call.InitNumber point cell) (single number_of left))
        (option_map (call.InitReference point cell) (single slot_of left))
    is_init = ap (λ (o : Option Call). first_of_two o (three name_of decimal_number slot_of call.InitReference ws))
        (three_words number_of call.InitNumber)
        ∙ ap (first_of_two (option_map (call.InitNumber point cell) (single number_of left))) (three_words slot_of call.InitReference)

    pub of_number : (value : ℕ) → Some value ≡ single number_of left → Some (call.InitNumber point cell value) ≡ init ws
    of_number value is = sym (is_init ∙ rw (← is) refl)

    pub of_reference : (source : Slot) → None ≡ single number_of left → Some source ≡ single slot_of left
        → Some (call.InitReference point cell source) ≡ init ws
    of_reference source none is = sym (is_init ∙ rw (← none, ← is) refl)

    pub of_neither : None ≡ single number_of left → None ≡ single slot_of left → None ≡ init ws
    of_neither none other = sym (is_init ∙ rw (← none, ← other) refl)
