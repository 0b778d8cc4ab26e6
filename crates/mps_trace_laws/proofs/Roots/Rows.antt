-- A row of slots is fixed, one after the other: steps of the abstract collector.
use Rattle.std.proofs.Common.{◌≡◌, ◌∙◌, ℕ, zero, suc, ◌+◌, ◌<◌, ◌≤◌, false, refl, sym, ap, List, [], ◌∷◌, ◌++◌, length, Option, Some, None, subst, inl, inr, arith}
use Rattle.std.proofs.Math.Seq.{get_or-set_same, get_or-set_other}
use Rattle.std.proofs.lemmas.Bool.{cases_eq}
use Rattle.std.proofs.lemmas.List.{append_assoc}
use Rattle.std.proofs.lemmas.Option.{none-some, same_Some}
use Rattle.std.specs.Prelude.{slice_get, slice_set, slice_index_or, take}
use Rattle.mps_base.specs.Address.{Address, Id}
use Rattle.mps_trace.specs.State.{FinalsState}
use Rattle.mps_format.specs.Layout.{Layout}
use Rattle.mps_trace.specs.GenState.{ChainsState}
use Rattle.mps_model.specs.Graph.{Graph, entries}
use Rattle.mps_root.specs.State.{RootsState, items_of, with_item}
use Rattle.mps_abstract.specs.Colours.{is_white}
use Rattle.mps_abstract.specs.Collecting.{Collecting}
use Rattle.mps_abstract.specs.Fixing.{Fixes}
use Rattle.mps_trace_laws.specs.Image.Memory.{pool_layout}
use Rattle.mps_trace_laws.specs.Image.Image.{CellSet, AreShaped}
use Rattle.mps_trace_laws.specs.Image.Scanning.{LeavesOthers}
use Rattle.mps_trace_laws.proofs.Image.Scanning.{both_leave}
use Rattle.mps_trace.specs.Trace.{Traced}
use Rattle.mps_trace.specs.Roots.{FixesRoot, CanFixRootAt, FixesSlots, FixesMessages, begins, goes_on, slot_of, message_of}
use Rattle.mps_trace_laws.specs.Fix.Steps.{IsSameGraph}
use Rattle.mps_trace_laws.specs.Fix.Tracing.{TracingStands}
use Rattle.mps_trace_laws.proofs.Fix.ScanRun.{both_same, shaped_still}
use Rattle.mps_trace_laws.specs.Roots.OneRoot.{RefersTo, IsWhere, AreFixed}
use Rattle.mps_trace_laws.specs.Roots.Rows.{HoldsAtFlip, AreHeldAtFlip, AreFixedBefore}
use Rattle.mps_trace_laws.proofs.Roots.OneRoot.{can_root, none_fixed, root_step}
use Rattle.mps_format.specs.declared.pool.Policy.{Policy}

-- ---- lists

more_entries : (targets : List (Option Id)) (k : ℕ) (t : Option Id) (ids : List Id) → slice_get targets k ≡ Some t
    → entries (take (suc k) targets) ++ ids ≡ entries (take k targets) ++ (entries (t ∷ []) ++ ids)
more_entries [] k t ids is = absurd (none-some t is)
more_entries (u ∷ us) zero t ids is = ap (λ v. entries (v ∷ []) ++ ids) (same_Some u t is)
more_entries (None ∷ us) (suc k) t ids is = more_entries us k t ids is
more_entries (Some n ∷ us) (suc k) t ids is = ap (λ ns. n ∷ ns) (more_entries us k t ids is)

pub has_target : (targets : List (Option Id)) (k : ℕ) → k < length targets → (t : Option Id) × (slice_get targets k ≡ Some t)
has_target [] k within = absurd (omega (arith, within))
has_target (t ∷ ts) zero within = (t, refl)
has_target (t ∷ ts) (suc k) within = has_target ts k (omega (arith, within))

set_length : (xs : List Address) (k : ℕ) (at : Address) → length (slice_set xs k at) ≡ length xs
set_length [] k at = refl
set_length (x ∷ xs) zero at = refl
set_length (x ∷ xs) (suc k) at = ap suc (set_length xs k at)

items_written : (rows : List (Option (List ℕ))) (key index : ℕ) (value : Address) → index < length (items_of rows key)
    → items_of (with_item rows key index value) key ≡ slice_set (items_of rows key) index value
items_written [] key index value within = absurd (omega (arith, within))
items_written (None ∷ rows) zero index value within = absurd (omega (arith, within))
items_written (Some items ∷ rows) zero index value within = refl
items_written (row ∷ rows) (suc key) index value within = items_written rows key index value within

-- ---- what stays

still_refers : (at_flip : List (Option Address)) (y y' : Collecting) (at : Address) (target : Option Id)
    → LeavesOthers y.running.condemned y.world.addresses y'.world.addresses y.colours y'.colours → IsSameGraph y.world y'.world
    → HoldsAtFlip at_flip y at target → RefersTo at_flip y' at target
still_refers at_flip y y' at None leaves same null = null
still_refers at_flip y y' at (Some t) leaves same w =
    let live = leaves.live t w.now w.there in
    record {
      positive = w.positive;
      now = live.0;
      object = w.object;
      means = inr w.was;
      there = live.1;
      has = ap (λ (g : Graph). slice_get g.objects t) same.graph ∙ w.has;
      automatic = w.automatic;
    }

pub still_where : (y y' : Collecting) (at : Address) (target : Option Id)
    → LeavesOthers y.running.condemned y.world.addresses y'.world.addresses y.colours y'.colours
    → y'.running.condemned ≡ y.running.condemned → IsWhere y at target → IsWhere y' at target
still_where y y' at None leaves same null = null
still_where y y' at (Some t) leaves same w =
    (leaves.there t at w.1 w.0, subst (λ ids. is_white ids y'.colours t ≡ false) (sym same) (leaves.not_white t w.1))

module _ {F : Type 0} (layout : F → Layout) (formats : List (Option (Policy F))) (of : ChainsState) (at_flip : List (Option Address))
    (done : CellSet) where
  abbrev Fixed : Traced → Traced → Collecting → List (Option Id) → Type 0
  Fixed x z y ts = AreFixed layout formats of at_flip done x z y ts

  -- these were fixed, and then those
  unfoldable pub joined : (x z z' : Traced) (y : Collecting) (ts us vs : List (Option Id)) (one : Fixed x z y ts) → Fixed z z' one.after us
      → ((ids : List Id) → entries vs ++ ids ≡ entries ts ++ (entries us ++ ids)) → Fixed x z' y vs
  joined x z z' y ts us vs one two parts =
      let y' = one.after in
      record {
        moves = one.moves ++ two.moves;
        after = two.after;
        fixes = λ ids ms last rest.
            subst (λ these. Fixes y (entries vs ++ ids) these last) (sym (append_assoc one.moves two.moves ms))
            (subst (λ these. Fixes y these (one.moves ++ (two.moves ++ ms)) last) (sym (parts ids))
            (one.fixes (entries us ++ ids) (two.moves ++ ms) last (two.fixes ids ms last rest)));
        stands = two.stands;
        trail = two.trail ∙ ap (λ ms. ms ++ two.moves) one.trail ∙ append_assoc x.moves.moves one.moves two.moves;
        leaves =
            both_leave y.running.condemned y.world.addresses y'.world.addresses two.after.world.addresses y.colours y'.colours
            two.after.colours one.leaves
            (subst (λ ids. LeavesOthers ids y'.world.addresses two.after.world.addresses y'.colours two.after.colours)
            one.same_condemned two.leaves);
        same = both_same y.world y'.world two.after.world one.same two.same;
        same_condemned = two.same_condemned ∙ one.same_condemned;
      }

  module _ (x : Traced) (y : Collecting) (shaped : AreShaped y.world.graph.objects (pool_layout y.world))
      (stands : TracingStands layout formats of at_flip done x y) (slots : List Address) (targets : List (Option Id))
      (held : AreHeldAtFlip at_flip y slots targets) where
    abbrev Before : Traced → List Address → ℕ → Type 0
    Before z slots' before = AreFixedBefore layout formats of at_flip done x z y slots slots' targets before

    pub start : Before x slots 0
    start = record {
      fixed = none_fixed layout formats of at_flip done x y [] refl stands;
      long = refl;
      answers = λ i target below e. absurd (omega (arith, below));
      rest = λ i low. refl;
    }

    module _ (z : Traced) (slots' : List Address) (k : ℕ) (run : Before z slots' k) (within : k < length slots) where
      abbrev y' : Collecting
      y' = run.fixed.after

      target : (t : Option Id) × (slice_get targets k ≡ Some t)
      target = has_target targets k (let long = held.long in omega (arith, long, within))

      refers : RefersTo at_flip y' (slice_index_or slots' k 0) target.0
      refers =
          subst (λ at. RefersTo at_flip y' at target.0) (sym (run.rest k (omega arith)))
          (still_refers at_flip y y' (slice_index_or slots k 0) target.0 run.fixed.leaves run.fixed.same (held.each k target.0 target.1))

      shaped_now : AreShaped y'.world.graph.objects (pool_layout y'.world)
      shaped_now = shaped_still y.world y'.world run.fixed.same shaped

      pub can_next : CanFixRootAt layout formats of z (slice_index_or slots' k 0)
      can_next = can_root layout formats of at_flip done z y' shaped_now run.fixed.stands (slice_index_or slots' k 0) target.0 refers

      pub next : (z' : Traced) (at : Address) → FixesRoot layout formats of z (slice_index_or slots' k 0) z' at
          → Before z' (slice_set slots' k at) (k + 1)
      unfolding joined
      next z' at fixes =
          let step =
          root_step layout formats of at_flip done z y' shaped_now run.fixed.stands z' (slice_index_or slots' k 0) at target.0 refers fixes
          in
          let all =
          joined x z z' y (take k targets) (target.0 ∷ []) (take (k + 1) targets) run.fixed step.fixed
          (λ ids. ap (λ n. entries (take n targets) ++ ids) (let e : k + 1 ≡ suc k = omega arith in e)
          ∙ more_entries targets k target.0 ids target.1)
          in
          let long = run.long in
          let here : k < length slots' = omega (arith, long, within) in
          record {
            fixed = all;
            long = set_length slots' k at ∙ run.long;
            answers = λ i t below e. elim (cases_eq i k) [
              | inl is ↦
                  subst (λ n. IsWhere step.fixed.after (slice_index_or (slice_set slots' k at) n 0) t) (sym is)
                  (subst (λ a. IsWhere step.fixed.after a t) (sym (get_or-set_same slots' k at 0 here))
                  (subst (λ u. IsWhere step.fixed.after at u)
                  (same_Some target.0 t (sym target.1 ∙ ap (slice_get targets) (sym is) ∙ e)) step.answers))
              | inr other ↦
                  subst (λ a. IsWhere step.fixed.after a t) (sym (get_or-set_other slots' k i at 0 other))
                  (still_where y' step.fixed.after (slice_index_or slots' i 0) t step.fixed.leaves step.fixed.same_condemned
                  (run.answers i t (omega (arith, below, other)) e))
            ];
            rest = λ i low.
                get_or-set_other slots' k i at 0 (λ is. omega (arith, low, is)) ∙ run.rest i (omega (arith, low));
          }

  -- ---- the slots of a table

  module _ (x : Traced) (y : Collecting) (targets : List (Option Id)) (key : ℕ) (roots : RootsState)
      (shaped : AreShaped y.world.graph.objects (pool_layout y.world)) (stands : TracingStands layout formats of at_flip done x y)
      (held : AreHeldAtFlip at_flip y (items_of roots.tables key) targets) where
    abbrev slots : List Address
    slots = items_of roots.tables key

    pub run_slots : {count : ℕ} {roots' : RootsState} {z : Traced} → FixesSlots layout formats of key roots x count roots' z
        → count ≤ length slots
        → AreFixedBefore layout formats of at_flip done x z y slots (items_of roots'.tables key) targets count
    run_slots begins within = start x y shaped stands slots targets held
    run_slots {z = z} (goes_on {roots' = r} {roots'' = r'} {y = w} count at earlier fixes is) within =
        let run = run_slots earlier (omega (arith, within)) in
        let below : count < length slots = omega (arith, within) in
        let long = run.long in
        subst (λ row. AreFixedBefore layout formats of at_flip done x z y slots row targets (count + 1))
        (sym (ap (λ (q : RootsState). items_of q.tables key) is
        ∙ items_written r.tables key count at (omega (arith, below, long))))
        (next x y shaped stands slots targets held w (items_of r.tables key) count run below z at fixes)

    pub ready_slots : (count : ℕ) (roots' : RootsState) (z : Traced) → FixesSlots layout formats of key roots x count roots' z
        → count < length slots → CanFixRootAt layout formats of z (slot_of roots' key count)
    ready_slots count roots' z run within =
        can_next x y shaped stands slots targets held z (items_of roots'.tables key) count (run_slots run (omega (arith, within))) within

  -- ---- messages

  module _ (x : Traced) (y : Collecting) (targets : List (Option Id)) (finals : FinalsState)
      (shaped : AreShaped y.world.graph.objects (pool_layout y.world)) (stands : TracingStands layout formats of at_flip done x y)
      (held : AreHeldAtFlip at_flip y finals.messages targets) where
    pub run_messages : {count : ℕ} {finals' : FinalsState} {z : Traced} → FixesMessages layout formats of finals x count finals' z
        → count ≤ length finals.messages
        → AreFixedBefore layout formats of at_flip done x z y finals.messages finals'.messages targets count
    run_messages begins within = start x y shaped stands finals.messages targets held
    run_messages {z = z} (goes_on {finals' = r} {finals'' = r'} {y = w} count at earlier fixes is) within =
        let run = run_messages earlier (omega (arith, within)) in
        subst (λ (q : FinalsState). AreFixedBefore layout formats of at_flip done x z y finals.messages q.messages targets (count + 1))
        (sym is)
        (next x y shaped stands finals.messages targets held w r.messages count run (omega (arith, within)) z at fixes)

    pub ready_messages : (count : ℕ) (finals' : FinalsState) (z : Traced) → FixesMessages layout formats of finals x count finals' z
        → count < length finals.messages → CanFixRootAt layout formats of z (message_of finals' count)
    ready_messages count finals' z run within =
        can_next x y shaped stands finals.messages targets held z finals'.messages count (run_messages run (omega (arith, within))) within
