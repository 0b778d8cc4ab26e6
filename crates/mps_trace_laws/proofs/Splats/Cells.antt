-- The cells of a block, and what is known of each kind of them.
use Rattle.std.proofs.Common.{◌≡◌, ◌∙◌, ℕ, zero, suc, ◌<◌, true, false, refl, ap, List, [], ◌∷◌, length, map, Option, Some, None, inl, inr, arith}
use Rattle.std.proofs.lemmas.Bool.{eq-eqb, eqb-true, or_cases, false≢true}
use Rattle.std.proofs.lemmas.Option.{none-some}
use Rattle.std.specs.Prelude.{slice_get, ◌==◌}
use Rattle.mps_base.specs.Address.{Address, Id}
use Rattle.mps_model.specs.Graph.{Cell, HeadCell, NumberCell, ReferenceCell, entries, target_of_cell, targets_of_cells, is_reference_cell, contains}
use Rattle.mps_abstract.specs.Colours.{Colours}
use Rattle.mps_trace_laws.specs.Image.Image.{CellSet, with_cell, IsCellWord, IsFixedWord}

pub now_done : (done : CellSet) (id i : ℕ) → with_cell done id i id i ≡ true
now_done done id i = rw (eq-eqb id id refl, eq-eqb i i refl) refl

-- ---- cells

pub in_range : {X : Type 0} (xs : List X) (i : ℕ) → i < length xs → (x : X) × (slice_get xs i ≡ Some x)
in_range [] i lt = absurd (omega (arith, lt))
in_range (x ∷ xs) zero lt = (x, refl)
in_range (x ∷ xs) (suc i) lt = in_range xs i (omega (arith, lt))

pub below : {X : Type 0} (xs : List X) (i : ℕ) (x : X) → slice_get xs i ≡ Some x → i < length xs
below [] i x e = absurd (none-some x e)
below (y ∷ ys) zero x e = omega arith
below (y ∷ ys) (suc i) x e = let less = below ys i x e in omega (arith, less)

-- a target of cells is that of one of them
pub record IsTargetOf (cells : List Cell) (t : ℕ) : Type 0 where
  pub i : ℕ
  pub c : Cell
  pub cell : slice_get cells i ≡ Some c
  pub target : target_of_cell c ≡ Some t

later : (c : Cell) (cells : List Cell) (t : ℕ) → IsTargetOf cells t → IsTargetOf (c ∷ cells) t
later c cells t one = record { i = suc one.i; c = one.c; cell = one.cell; target = one.target }

pub target_among : (cells : List Cell) (t : ℕ) → contains (targets_of_cells cells) t ≡ true → IsTargetOf cells t
target_among [] t h = absurd (false≢true h)
target_among (c ∷ cells) t h = go (λ g. target_among cells t g) (target_of_cell c) refl h
  where
    go : (contains (targets_of_cells cells) t ≡ true → IsTargetOf cells t) → (o : Option ℕ) → target_of_cell c ≡ o
        → contains (entries (o ∷ map target_of_cell cells)) t ≡ true → IsTargetOf (c ∷ cells) t
    go rest None e h = later c cells t (rest h)
    go rest (Some u) e h = elim (or_cases (u == t) (contains (targets_of_cells cells) t) h) [
      | inl same ↦ record { i = 0; c = c; cell = refl; target = e ∙ ap (λ v. Some v) (eqb-true u t same) }
      | inr more ↦ later c cells t (rest more)
    ]

-- a cell is no reference, or leads to null or to an object
pub data CellCases (c : Cell) : Type 0 where
  is_none : is_reference_cell c ≡ false
      → ((condemned : List Id) (addresses at_flip : List (Option Address)) (k : Colours) (head word : ℕ)
      → IsCellWord addresses at_flip head c word → IsFixedWord condemned addresses k head c word)
      → CellCases c
  is_nothing : (tag : ℕ) → c ≡ ReferenceCell None tag → CellCases c
  is_one : (t tag : ℕ) → c ≡ ReferenceCell (Some t) tag → CellCases c

pub cell_cases : (c : Cell) → CellCases c
cell_cases HeadCell =
    is_none refl (λ condemned addresses at_flip k head word h. record { holds = h; not_white = λ t e. absurd (none-some t e) })
cell_cases (NumberCell number) =
    is_none refl (λ condemned addresses at_flip k head word h. record { holds = h; not_white = λ t e. absurd (none-some t e) })
cell_cases (ReferenceCell None tag) = is_nothing tag refl
cell_cases (ReferenceCell (Some t) tag) = is_one t tag refl
