-- The cells of an object one by one, and what they refer to.
use Rattle.std.proofs.Common.{◌≡◌, ℕ, zero, suc, ap, List, [], ◌∷◌, ◌++◌, map, Option, Some, None, inl, inr, arith}
use Rattle.std.proofs.lemmas.Bool.{or_cases, and_parts, ltb-true, and_from, eq-eqb, lt-ltb, or_left, or_right, cases_eq}
use Rattle.std.proofs.lemmas.Option.{none-some, same_Some}
use Rattle.std.specs.Prelude.{IsTrue, ◌==◌, ◌&&◌, nat_lt, slice_get, take}
use Rattle.mps_base.specs.Address.{Address}
use Rattle.mps_format.specs.Layout.{Layout}
use Rattle.mps_trace.specs.GenState.{ChainsState}
use Rattle.mps_model.specs.Graph.{Cell, entries, target_of_cell, targets_of_cells}
use Rattle.mps_abstract.specs.Collecting.{Collecting}
use Rattle.mps_trace_laws.specs.Image.Image.{CellSet, ImageStands, with_cell}
use Rattle.mps_trace_laws.specs.Image.Memory.{memory_in}
use Rattle.mps_trace.specs.Trace.{Traced}
use Rattle.mps_trace_laws.specs.Fix.Tracing.{TracingStands, setting_of}
use Rattle.mps_trace_laws.specs.Fix.Scanning.{with_cells}
use Rattle.mps_format.specs.declared.pool.Policy.{Policy}

-- what a cell more refers to
pub targets_more : (cells : List Cell) (k : ℕ) (c : Cell) (ids : List ℕ) → slice_get cells k ≡ Some c
    → targets_of_cells (take (suc k) cells) ++ ids ≡ targets_of_cells (take k cells) ++ (entries (target_of_cell c ∷ []) ++ ids)
targets_more [] k c ids is = absurd (none-some c is)
targets_more (x ∷ xs) zero c ids is = ap (λ (y : Cell). entries (target_of_cell y ∷ []) ++ ids) (same_Some x c is)
targets_more (x ∷ xs) (suc k) c ids is = go (target_of_cell x) (targets_more xs k c ids is)
  where
    go : (o : Option ℕ)
        → targets_of_cells (take (suc k) xs) ++ ids ≡ targets_of_cells (take k xs) ++ (entries (target_of_cell c ∷ []) ++ ids)
        → entries (o ∷ map target_of_cell (take (suc k) xs)) ++ ids
        ≡ entries (o ∷ map target_of_cell (take k xs)) ++ (entries (target_of_cell c ∷ []) ++ ids)
    go None rest = rest
    go (Some n) rest = ap (λ ns. n ∷ ns) rest

-- the facts hold of other fixed cells, where the image stands for these
pub image_again : {F : Type 0} (layout : F
    → Layout) (formats : List (Option (Policy F))) (of : ChainsState) (at_flip : List (Option Address))
    (done done' : CellSet) (x : Traced) (y : Collecting)
    → ImageStands (setting_of x.segs at_flip y) (memory_in x.segs) y.world.addresses y.colours done'
    → TracingStands layout formats of at_flip done x y → TracingStands layout formats of at_flip done' x y
image_again layout formats of at_flip done done' x y image stands =
    let st = stands.state in
    record {
      state = record {
        segments = st.segments;
        held = st.held;
        tables = st.tables;
        covered = st.covered;
        reserved = st.reserved;
        condemned = st.condemned;
        image = image;
        pools = st.pools;
        collected = st.collected;
        still = st.still;
        tails = st.tails;
        hands = st.hands;
      };
      room = stands.room;
    }

-- they hold of fewer
pub fewer_done : {F : Type 0} (layout : F
    → Layout) (formats : List (Option (Policy F))) (of : ChainsState) (at_flip : List (Option Address))
    (done done' : CellSet) (x : Traced) (y : Collecting) → ((id i : ℕ) → IsTrue (done' id i) → IsTrue (done id i))
    → TracingStands layout formats of at_flip done x y → TracingStands layout formats of at_flip done' x y
fewer_done layout formats of at_flip done done' x y sub stands =
    let image = stands.state.image in
    image_again layout formats of at_flip done done' x y (record {
      placed = image.placed;
      words = image.words;
      fixed = record {
        cells = λ id i o n c is lies cell. image.fixed.cells id i o n c (sub id i is) lies cell;
        reserved = image.fixed.reserved;
      };
      marks = image.marks;
      runs = image.runs;
    }) stands

-- one cell more is among the cells before the next
pub next_cells : (done : CellSet) (holder k id i : ℕ) → IsTrue (with_cells done holder (suc k) id i)
    → IsTrue (with_cell (with_cells done holder k) holder k id i)
next_cells done holder k id i is =
    elim (or_cases (id == holder && nat_lt i (suc k)) (done id i) is) [
      | inl new ↦
          let parts = and_parts (id == holder) (nat_lt i (suc k)) new in
          let below = ltb-true i (suc k) parts.1 in
          elim (cases_eq i k) [
            | inl same ↦
                or_left (id == holder && i == k) (with_cells done holder k id i)
                (and_from (id == holder) (i == k) parts.0 (eq-eqb i k same))
            | inr other ↦
                or_right (id == holder && i == k) (with_cells done holder k id i)
                (or_left (id == holder && nat_lt i k) (done id i)
                (and_from (id == holder) (nat_lt i k) parts.0 (lt-ltb i k (omega (arith, below, other)))))
          ]
      | inr old ↦
          or_right (id == holder && i == k) (with_cells done holder k id i) (or_right (id == holder && nat_lt i k) (done id i) old)
    ]

pub no_cells : (done : CellSet) (holder id i : ℕ) → IsTrue (with_cells done holder 0 id i) → IsTrue (done id i)
no_cells done holder id i is =
    elim (or_cases (id == holder && nat_lt i 0) (done id i) is) [
      | inl new ↦
          let below = ltb-true i 0 (and_parts (id == holder) (nat_lt i 0) new).1 in absurd (omega (arith, below))
      | inr old ↦ old
    ]
