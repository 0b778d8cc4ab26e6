-- The run over the references of a weak block is a sequence of splats, and each can be done when its turn comes.
use Rattle.std.proofs.Common.{◌≡◌, ◌∙◌, ℕ, zero, suc, ◌+◌, ◌-◌, ◌<◌, ◌≤◌, Bool, true, false, refl, sym, ap, List, [], length, Option, subst, arith}
use Rattle.std.proofs.lemmas.List.{append-nil}
use Rattle.std.specs.Prelude.{IsTrue, slice_get}
use Rattle.std.specs.Option.{option_map_or}
use Rattle.mps_base.specs.Address.{Address, Id, word_of}
use Rattle.mps_base.specs.declared.address.Addr.{Addr}
use Rattle.mps_format.specs.Layout.{Layout}
use Rattle.mps_format.specs.References.{HasNoReference}
use Rattle.mps_format.specs.declared.pool.Policy.{Policy}
use Rattle.mps_trace.specs.GenState.{ChainsState}
use Rattle.mps_trace.specs.Splat.{SplatsTo, begins, goes_on, SplatsCell, CanSplatCell, AreSplatsReady}
use Rattle.mps_trace.specs.Trace.{Traced}
use Rattle.mps_model.specs.Checked.{head_of_body}
use Rattle.mps_model.specs.Graph.{Cell, Automatic, Object, contains, entry_at, size_of, size_of_body, targets_of, targets_of_body, targets_of_cells}
use Rattle.mps_abstract.specs.Collecting.{Collecting}
use Rattle.mps_abstract.specs.Units.{Splats, splats_no_more, AreTargetsKept}
use Rattle.mps_trace_laws.specs.Image.Image.{CellSet, AreShaped}
use Rattle.mps_trace_laws.specs.Image.Memory.{all_cells, pool_layout}
use Rattle.mps_trace_laws.specs.Fix.Scanning.{IsToBeScanned}
use Rattle.mps_trace_laws.specs.Fix.Tracing.{StateStands}
use Rattle.mps_trace_laws.specs.Splats.Laws.{AreSplatsDone, ASplatRunIsSplats}
use Rattle.mps_trace_laws.proofs.Splats.Cells.{below, target_among}
use Rattle.mps_trace_laws.proofs.Splats.Run as each

module _ (F : Type 0) (layout : F → Layout) (formats : List (Option (Policy F))) (of : ChainsState) (at_flip : List (Option Address))
    (done : CellSet) (x : Traced) (y : Collecting) (holder : Id) (at : Addr) (o : Object) (cells : List Cell) (is_weak : Bool)
    (none_paired : y.world.graph.dependents ≡ []) (shaped : AreShaped y.world.graph.objects (pool_layout y.world))
    (st : StateStands layout formats of at_flip done x.amc x.segs y)
    (scan : IsToBeScanned y holder at.0 o) (body : o.body ≡ Automatic (head_of_body o.body) cells is_weak) where
  abbrev head : ℕ
  head = head_of_body o.body

  abbrev f : Layout
  f = pool_layout y.world o.pool

  -- the cells before one were gone over, and one more is
  abbrev pub To : Traced → (before : ℕ) → Type 0
  To z before = each.To F layout formats of at_flip done x y holder at o cells is_weak none_paired shaped st scan body z before

  start : To x 0
  start = each.start F layout formats of at_flip done x y holder at o cells is_weak none_paired shaped st scan body

  passed : (z : Traced) (i : ℕ) → To z i → i < length cells → f.is_reference head i ≡ false → To z (i + 1)
  passed z i run within isnt =
      each.passed F layout formats of at_flip done x y holder at o cells is_weak none_paired shaped st scan body z i run within isnt

  stepped : (w : Traced) (i : ℕ) → To w i → i < length cells → (z : Traced) → IsTrue (f.is_reference head i)
      → SplatsCell layout f formats at i w z → To z (i + 1)
  stepped w i run within z is cell =
      each.stepped F layout formats of at_flip done x y holder at o cells is_weak none_paired shaped st scan body w i run within z is cell

  can_step : (w : Traced) (i : ℕ) → To w i → i < length cells → IsTrue (f.is_reference head i) → length cells - 1 < x.moves.spare
      → CanSplatCell layout f formats w at i
  can_step w i run within is room =
      each.can_step F layout formats of at_flip done x y holder at o cells is_weak none_paired shaped st scan body w i run within is room

  size_is : size_of o ≡ length cells
  size_is = ap size_of_body body

  pass_all : (z : Traced) (n from : ℕ) → To z from → ((k : ℕ) → from ≤ k → k < from + n → f.is_reference head k ≡ false)
      → from + n ≤ length cells → To z (from + n)
  pass_all z zero from run none within = subst (To z) (let e : from ≡ from + 0 = omega arith in e) run
  pass_all z (suc n) from run none within =
      subst (To z) (let e : (from + 1) + n ≡ from + suc n = omega arith in e)
      (pass_all z n (from + 1) (passed z from run (omega (arith, within)) (none from (omega arith) (omega arith)))
      (λ k low high. none k (omega (arith, low)) (omega (arith, high))) (omega (arith, within)))

  pub within_cells : (k : ℕ) → IsTrue (f.is_reference head k) → k < length cells
  within_cells k is =
      let valid = shaped.valid holder o scan.object scan.automatic in
      let at_most = ((shaped.lawful o.pool).references head k valid is).1 in
      let whole = shaped.whole holder o scan.object scan.automatic in
      omega (arith, at_most, whole, size_is)

  pub to_cell : (z : Traced) (from cell : ℕ) → To z from → from ≤ cell → ((k : ℕ) → from ≤ k → k < cell → f.is_reference head k ≡ false)
      → cell ≤ length cells → To z cell
  to_cell z from cell run low none within =
      subst (To z) (let e : from + (cell - from) ≡ cell = omega (arith, low) in e)
      (pass_all z (cell - from) from run (λ k above below. none k above (omega (arith, below, low))) (omega (arith, low, within)))

  pub record Reached (z : Traced) (from : ℕ) : Type 0 where
    pub run : To z from
    pub few : from ≤ length cells

  pub run_to : {z : Traced} {from : ℕ} → SplatsTo layout f formats head at x from z → Reached z from
  run_to begins = record { run = start; few = omega arith }
  run_to {z = z} (goes_on {y = w} from cell earlier first one) =
      let r = run_to earlier in
      let inside = within_cells cell first.reference in
      let here = to_cell w from cell r.run first.not_before (λ k above below. first.none_between k above below) (omega (arith, inside)) in
      record { run = stepped w cell here inside z first.reference one; few = omega (arith, inside) }

  module _ (z : Traced) (run : To z (length cells)) where
    kept : AreTargetsKept run.after holder
    kept target among =
        let cells_now : contains (targets_of_cells run.left) target ≡ true =
        ap (λ b. contains (targets_of_body b) target) (sym run.body_now)
        ∙ ap (λ p. contains (option_map_or targets_of p []) target) (sym run.there_now) ∙ among
        in
        let one = target_among run.left target cells_now in
        let less = below run.left one.i one.c one.cell in
        let long = run.long in
        let within : one.i < length cells = omega (arith, less, long) in
        let size = ap size_of_body run.body_now in
        let fixed = run.state.image.fixed.cells holder one.i run.object (word_of at.0 + one.i) one.c (run.all one.i within)
        (record {
          at = at.0;
          address = ap (λ ps. entry_at ps holder) run.addresses ∙ scan.there;
          object = run.there_now;
          within = omega (arith, less, size);
          is = refl;
        })
        (ap (λ b. slice_get (all_cells b) one.i) run.body_now ∙ one.cell)
        in
        fixed.not_white target one.target

    finished : AreSplatsDone layout formats of at_flip done x z y holder at (size_of o)
    finished = record {
      after = run.after;
      cells = run.these;
      splats = subst (λ cs. Splats holder y cs run.after) (append-nil run.these) (run.row [] run.after (splats_no_more kept));
      trail = run.trail;
      done_after = run.done_after;
      all = λ l lt. run.all l (omega (arith, lt, size_is));
      more = run.more;
      state = run.state;
      same_addresses = run.addresses;
      same_colours = run.colours;
      same_condemned = run.condemned;
      few = let few = run.few in omega (arith, few, size_is);
      spare = run.spare;
      shaped = run.shaped_now;
      object = (run.object, run.there_now, ap size_of_body run.body_now ∙ run.long ∙ sym (ap size_of_body body));
    }

  -- each reference can be splatted when its turn comes
  pub ready : size_of o - 1 < x.moves.spare → AreSplatsReady layout f formats head at x
  ready room from cell w earlier first =
      let r = run_to earlier in
      let inside = within_cells cell first.reference in
      let here = to_cell w from cell r.run first.not_before (λ k above below. first.none_between k above below) (omega (arith, inside)) in
      can_step w cell here inside first.reference (omega (arith, room, size_is))

  run_done : (z : Traced) (from : ℕ) → SplatsTo layout f formats head at x from z → HasNoReference f head from
      → AreSplatsDone layout formats of at_flip done x z y holder at (size_of o)
  run_done z from run none =
      let r = run_to run in
      finished z (to_cell z from (length cells) r.run r.few (λ k above below. none k above) (omega arith))

pub run_is_splats : {F : Type 0} → ASplatRunIsSplats F
run_is_splats {F} layout formats of at_flip done x z y holder at o cells is_weak from none_paired shaped st scan body run none =
    run_done F layout formats of at_flip done x y holder at o cells is_weak none_paired shaped st scan body z from run none
