-- What an accepted `transapply` leaves.
use Rattle.std.proofs.Common.{◌≡◌, ◌∙◌, ℕ, Bool, true, false, refl, sym, ap, subst, List, [], ◌∷◌, Option, Some, None, Ok, Err, arith}
use Rattle.std.proofs.lemmas.Bool.{true≢false, false≢true, or_right}
use Rattle.std.proofs.lemmas.Option.{none-some, same_Some, slice_get-map}
use Rattle.std.specs.Prelude.{◌==◌, ◌||◌, ◌++◌, if◌then◌else◌, flat_map, map, not, option_and_then, option_map, slice_get}
use Rattle.std.specs.List.{list_any}
use Rattle.std.specs.Option.{option_map_or}
use Rattle.mps_base.specs.Address.{Id}
use Rattle.mps_base.specs.declared.names.Name.{Name}
use Rattle.mps_base.specs.declared.refusal.Refusal.{Refusal}
use Rattle.mps_base.specs.declared.refusal.Refusal.TheVariants as refusal
use Rattle.mps_model.proofs.Appending.{IsLegalFrom-later}
use Rattle.mps_model.specs.Layout.{Layout}
use Rattle.mps_model.specs.declared.call.Call.TheVariants as call
use Rattle.mps_model.specs.declared.reply.Reply.TheVariants as reply
use Rattle.mps_model.specs.declared.reply.Reply.{Reply}
use Rattle.mps_model.specs.Answer.{Answer, Replied}
use Rattle.mps_model.specs.Checked.{Act, Checked, as_transform, cells_of_body, number_named, refuse_when, says, transform_named}
use Rattle.mps_model.specs.Graph.{Body, Automatic, Cell, Graph, HeadCell, Manual, NumberCell, Object, ReferenceCell, Slots, contains, entries, slots_of}
use Rattle.mps_model.specs.History.{IsLegalHistoryOf, IsLegalStep, with_client_remembered, world_after}
use Rattle.mps_model.specs.Reply.{answer_from, world_from}
use Rattle.mps_model.specs.Step.{Step, History}
use Rattle.mps_model.specs.Transforms.{act_transform_apply, body_substituted, cell_substituted, graph_substituted, has_live_reservation, is_blocked, is_old, new_for, object_substituted, pairs_of, slots_substituted, target_substituted, world_substituted}
use Rattle.mps_model.specs.World.{TransformPair, World, empty_world_of, is_parked}
use Rattle.mps_changes.proofs.Checks.{required-is}
use Rattle.mps_laws.specs.Replay.{reached}
use Rattle.mps_laws.proofs.Reading.{bind_ok, next_ok}
use Rattle.mps_client_laws.specs.Objects.{pairs_named}
use Rattle.mps_client_laws.specs.Substituting.{AreReferencesOf, IsBlockedStep, NoChangesNothing, NoReferenceIsToOld, NoSlotRefersToOld, YesIsNotBlocked, YesIsTheSubstitution, is_new}
use Rattle.mps_client_laws.proofs.QuietCalls.{IsQuiet, act_in, quiet_answer, quiet_world}

-- ---- the new object for an old one is a new one

new_or_other : (pairs : List TransformPair) (id : Id) → is_old pairs (new_for pairs id) ≡ true → is_new pairs (new_for pairs id) ≡ true
new_or_other pairs id old = by_old (is_old pairs id) refl
  where
    -- the object for an old one is that of a pair
    is_of_pair : (ps : List TransformPair) (n : Id) → is_old ps n ≡ true → is_new ps (new_for ps n) ≡ true
    is_of_pair [] n e = absurd (false≢true e)
    is_of_pair (p ∷ ps) n e = by_first (is_of_pair ps n) (p.old == n) refl e
      where
        itself : (m : ℕ) → (m == m) ≡ true
        itself m = grind arith

        by_first : (is_old ps n ≡ true → is_new ps (new_for ps n) ≡ true) → (b : Bool) → (p.old == n) ≡ b
            → ((p.old == n) || is_old ps n) ≡ true
            → is_new (p ∷ ps) (if p.old == n then p.new else new_for ps n) ≡ true
        by_first later true is e =
            subst (λ b. is_new (p ∷ ps) (if b then p.new else new_for ps n) ≡ true) (sym is)
            (ap (λ b. b || is_new ps p.new) (itself p.new))
        by_first later false is e =
            subst (λ b. is_new (p ∷ ps) (if b then p.new else new_for ps n) ≡ true) (sym is)
            (or_right (p.new == new_for ps n) (is_new ps (new_for ps n)) (later (ap (λ b. b || is_old ps n) (sym is) ∙ e)))

    other_stays : (ps : List TransformPair) (n : Id) → is_old ps n ≡ false → new_for ps n ≡ n
    other_stays [] n e = refl
    other_stays (p ∷ ps) n e = by_first (other_stays ps n) (p.old == n) refl e
      where
        by_first : (is_old ps n ≡ false → new_for ps n ≡ n) → (b : Bool) → (p.old == n) ≡ b → ((p.old == n) || is_old ps n) ≡ false
            → (if p.old == n then p.new else new_for ps n) ≡ n
        by_first later true is e = absurd (true≢false (ap (λ b. b || is_old ps n) (sym is) ∙ e))
        by_first later false is e =
            ap (λ b. if b then p.new else new_for ps n) is ∙ later (ap (λ b. b || is_old ps n) (sym is) ∙ e)

    by_old : (b : Bool) → is_old pairs id ≡ b → is_new pairs (new_for pairs id) ≡ true
    by_old true e = is_of_pair pairs id e
    by_old false e = absurd (true≢false (sym old ∙ ap (is_old pairs) (other_stays pairs id e) ∙ e))

-- what a slot or a reference is to after a substitution
is_substituted : (pairs : List TransformPair) (target : Option ℕ) (id : Id) → target_substituted pairs target ≡ Some id
    → is_old pairs id ≡ true → is_new pairs id ≡ true
is_substituted pairs None id e old = absurd (none-some id e)
is_substituted pairs (Some was) id e old =
    let is = same_Some (new_for pairs was) id e in
    subst (λ n. is_new pairs n ≡ true) is (new_or_other pairs was (ap (is_old pairs) is ∙ old))

-- ---- slots

module _ (pairs : List TransformPair) (id : Id) (old : is_old pairs id ≡ true) where
  or_either : (a b : Bool) {A : Type 0} → (a || b) ≡ true → (a ≡ true → A) → (b ≡ true → A) → A
  or_either true b e one other = one refl
  or_either false b e one other = other e

  in_row : (ids : Slots) → contains (entries (map (target_substituted pairs) ids)) id ≡ true → is_new pairs id ≡ true
  in_row [] e = absurd (false≢true e)
  in_row (None ∷ ids) e = in_row ids e
  in_row (Some was ∷ ids) e =
      or_either (new_for pairs was == id) (contains (entries (map (target_substituted pairs) ids)) id) e
      (λ is. is_substituted pairs (Some was) id (ap Some (equal (new_for pairs was) id is)) old) (in_row ids)
    where
      equal : (a b : ℕ) → (a == b) ≡ true → a ≡ b
      equal a b e = grind arith

  in_both : (xs ys : List ℕ) {A : Type 0} → contains (xs ++ ys) id ≡ true → (contains xs id ≡ true → A) → (contains ys id ≡ true → A) → A
  in_both [] ys e one other = other e
  in_both (x ∷ xs) ys {A} e one other =
      or_either (x == id) (contains (xs ++ ys) id) e (λ is. one (ap (λ b. b || contains xs id) is))
      (λ later. in_both xs ys later (λ there. one (or_right (x == id) (contains xs id) there)) other)

  in_tables : (tables : List (Option Slots)) → contains (flat_map slots_of (map (slots_substituted pairs) tables)) id ≡ true
      → is_new pairs id ≡ true
  in_tables [] e = absurd (false≢true e)
  in_tables (None ∷ tables) e = in_tables tables e
  in_tables (Some ids ∷ tables) e =
      in_both (entries (map (target_substituted pairs) ids)) (flat_map slots_of (map (slots_substituted pairs) tables)) e (in_row ids)
      (in_tables tables)

-- ---- cells

cell_is_new : (pairs : List TransformPair) (c : Cell) (id : Id) (tag : ℕ) → cell_substituted pairs c ≡ ReferenceCell (Some id) tag
    → is_old pairs id ≡ true → is_new pairs id ≡ true
cell_is_new pairs HeadCell id tag e old = absurd cc
cell_is_new pairs (NumberCell number) id tag e old = absurd cc
cell_is_new pairs (ReferenceCell target with_tag) id tag e old =
    let is : target_substituted pairs target ≡ Some id = cc in is_substituted pairs target id is old

cells_are_new : (pairs : List TransformPair) (os : List Object) (object k : ℕ) (id : Id) (tag : ℕ)
    → option_and_then (λ (o : Object). slice_get (cells_of_body o.body) k) (slice_get (map (object_substituted pairs) os) object)
    ≡ Some (ReferenceCell (Some id) tag)
    → is_old pairs id ≡ true → is_new pairs id ≡ true
cells_are_new pairs os object k id tag e old =
    of_object (slice_get os object)
    (sym (ap (option_and_then (λ (o : Object). slice_get (cells_of_body o.body) k))
    (slice_get-map (object_substituted pairs) os object)) ∙ e)
  where
    of_cell : (c : Option Cell) → option_map (cell_substituted pairs) c ≡ Some (ReferenceCell (Some id) tag) → is_new pairs id ≡ true
    of_cell None f = absurd (none-some (ReferenceCell (Some id) tag) f)
    of_cell (Some c) f = cell_is_new pairs c id tag (same_Some (cell_substituted pairs c) (ReferenceCell (Some id) tag) f) old

    of_body : (b : Body) → slice_get (cells_of_body (body_substituted pairs b)) k ≡ Some (ReferenceCell (Some id) tag)
        → is_new pairs id ≡ true
    of_body (Automatic head cells is_weak) f = of_cell (slice_get cells k) (sym (slice_get-map (cell_substituted pairs) cells k) ∙ f)
    of_body (Manual words) f = absurd (none-some (ReferenceCell (Some id) tag) f)

    of_object : (o : Option Object)
        → option_and_then (λ (x : Object). slice_get (cells_of_body x.body) k) (option_map (object_substituted pairs) o)
        ≡ Some (ReferenceCell (Some id) tag)
        → is_new pairs id ≡ true
    of_object None f = absurd (none-some (ReferenceCell (Some id) tag) f)
    of_object (Some o) f = of_body o.body f

-- ---- the act

module _ (w : World) (transform : Name) where
  -- what it comes to, where the transform has this number
  abbrev told : (number : ℕ) → Bool → Checked Act
  told number b = if b then says reply.No w else says reply.Yes (world_substituted w transform number)

  told_yes : (number : ℕ) (b : Bool) (a : Act) → told number b ≡ Ok a → a.answer ≡ Replied reply.Yes
      → (b ≡ false) × (a.world ≡ world_substituted w transform number)
  told_yes number true a e is = absurd cc
  told_yes number false a e is = (refl, cc)

  told_no : (number : ℕ) (b : Bool) (a : Act) → told number b ≡ Ok a → a.answer ≡ Replied reply.No → (b ≡ true) × (a.world ≡ w)
  told_no number true a e is = (refl, cc)
  told_no number false a e is = absurd cc

  -- the number of the transform, and what its checks come to
  found : (a : Act) → act_transform_apply w transform ≡ Ok a
      → (number : ℕ) × (number_named w transform as_transform ≡ Some number) × (told number (is_blocked w (pairs_of w.state number)) ≡ Ok a)
  found a e =
      let p = bind_ok (transform_named w transform) _ a e in
      let first = next_ok (refuse_when (not (is_parked w)) refusal.NotParked) _ a p.2 in
      let last = next_ok (refuse_when (list_any has_live_reservation w.graph.points) refusal.Open) _ a first in (
        p.0,
        required-is (number_named w transform as_transform) refusal.BadName p.0 p.1,
        last,
      )

  named_pairs : (number : ℕ) → number_named w transform as_transform ≡ Some number → pairs_named w transform ≡ pairs_of w.state number
  named_pairs number is = ap (λ o. option_map_or (pairs_of w.state) o []) is

apply_is_quiet : (transform : Name) → IsQuiet (call.TransformApply transform)
apply_is_quiet transform = record { none = λ w a ms e. e; world = λ w a. refl; reply = λ m w. refl }

-- a yes and a no are no refusals
yes_is_none : (why : Refusal) → reply.Yes ≡ reply.Refused why → ⊥
yes_is_none why e = absurd cc

no_is_none : (why : Refusal) → reply.No ≡ reply.Refused why → ⊥
no_is_none why e = absurd cc

module _ (formats : ℕ → Layout) (steps later : History) (s : Step) (transform : Name)
    (legal : IsLegalHistoryOf formats (steps ++ s ∷ later)) (is : s.call ≡ call.TransformApply transform) where
  abbrev w : World
  w = reached formats steps

  legal_here : IsLegalStep w s
  legal_here = (IsLegalFrom-later (empty_world_of formats) steps (s ∷ later) legal).0

  module _ (r : Reply) (given : s.answer ≡ Replied r)
      (none : (why : Refusal) → r ≡ reply.Refused why → ⊥) where
    due : s.answer ≡ answer_from (act_in w (call.TransformApply transform))
    due = quiet_answer (call.TransformApply transform) (apply_is_quiet transform) w s legal_here is

    abbrev reply_in : Answer → Reply
    reply_in (Replied given) = given
    reply_in _ = r

    not_refused : (x : Checked Act) → act_in w (call.TransformApply transform) ≡ x
        → (a : Act) × (act_in w (call.TransformApply transform) ≡ Ok a)
    not_refused (Ok a) e = (a, e)
    not_refused (Err why) e =
        absurd (none why (ap reply_in (sym given ∙ due ∙ ap answer_from e)))

    the_act : (a : Act) × (act_in w (call.TransformApply transform) ≡ Ok a)
    the_act = not_refused (act_in w (call.TransformApply transform)) refl

    its_answer : (the_act.0).answer ≡ Replied r
    its_answer = sym (due ∙ ap answer_from the_act.1) ∙ given

    its_graph : (world_after w s).graph ≡ (the_act.0).world.graph
    its_graph =
        ap (λ (u : World). u.graph)
        (quiet_world (call.TransformApply transform) (apply_is_quiet transform) w s legal_here is
        ∙ ap (λ x. with_client_remembered (world_from w x)) the_act.1)

    the_pairs : (number : ℕ) × (number_named w transform as_transform ≡ Some number)
        × (told w transform number (is_blocked w (pairs_of w.state number)) ≡ Ok the_act.0)
    the_pairs = found w transform the_act.0 the_act.1

    pairs_are : pairs_named w transform ≡ pairs_of w.state the_pairs.0
    pairs_are = named_pairs w transform the_pairs.0 the_pairs.1

  module _ (given : s.answer ≡ Replied reply.Yes) where
    both : (is_blocked w (pairs_of w.state (the_pairs reply.Yes given yes_is_none).0) ≡ false)
        × (((the_act reply.Yes given yes_is_none).0).world
        ≡ world_substituted w transform (the_pairs reply.Yes given yes_is_none).0)
    both =
        told_yes w transform (the_pairs reply.Yes given yes_is_none).0
        (is_blocked w (pairs_of w.state (the_pairs reply.Yes given yes_is_none).0))
        (the_act reply.Yes given yes_is_none).0 (the_pairs reply.Yes given yes_is_none).2
        (its_answer reply.Yes given yes_is_none)

    graph_is : (world_after w s).graph ≡ (world_substituted w transform (the_pairs reply.Yes given yes_is_none).0).graph
    graph_is = its_graph reply.Yes given yes_is_none ∙ ap (λ (v : World). v.graph) both.1

    pub substituted : AreReferencesOf (world_after w s).graph (graph_substituted w.graph (pairs_named w transform))
    substituted = record {
      objects = ap (λ (g : Graph). g.objects) graph_is
          ∙ ap (λ ps. (graph_substituted w.graph ps).objects) (sym (pairs_are reply.Yes given yes_is_none));
      slots = ap (λ (g : Graph). g.tables) graph_is
          ∙ ap (λ ps. (graph_substituted w.graph ps).tables) (sym (pairs_are reply.Yes given yes_is_none));
    }

    pub not_blocked : is_blocked w (pairs_named w transform) ≡ false
    not_blocked = ap (is_blocked w) (pairs_are reply.Yes given yes_is_none) ∙ both.0

  pub blocked_step : s.answer ≡ Replied reply.No → IsBlockedStep w s transform
  blocked_step given =
      let both = told_no w transform (the_pairs reply.No given no_is_none).0
      (is_blocked w (pairs_of w.state (the_pairs reply.No given no_is_none).0)) (the_act reply.No given no_is_none).0
      (the_pairs reply.No given no_is_none).2 (its_answer reply.No given no_is_none) in
      record {
        blocked = ap (is_blocked w) (pairs_are reply.No given no_is_none) ∙ both.0;
        graph = its_graph reply.No given no_is_none ∙ ap (λ (v : World). v.graph) both.1;
      }

-- ---- the laws

pub yes_is_the_substitution : YesIsTheSubstitution
yes_is_the_substitution formats steps later s transform legal is says_yes = substituted formats steps later s transform legal is says_yes

pub yes_is_not_blocked : YesIsNotBlocked
yes_is_not_blocked formats steps later s transform legal is says_yes = not_blocked formats steps later s transform legal is says_yes

pub no_slot_refers_to_old : NoSlotRefersToOld
no_slot_refers_to_old formats steps later s transform id legal is says_yes held old =
    let pairs = pairs_named (reached formats steps) transform in
    in_tables pairs id old (reached formats steps).graph.tables
    (ap (λ tables. contains (flat_map slots_of tables) id)
    (sym (substituted formats steps later s transform legal is says_yes).slots) ∙ held)

pub no_reference_is_to_old : NoReferenceIsToOld
no_reference_is_to_old formats steps later s transform object id k tag legal is says_yes there old =
    let pairs = pairs_named (reached formats steps) transform in
    cells_are_new pairs (reached formats steps).graph.objects object k id tag
    (ap (λ os. option_and_then (λ (o : Object). slice_get (cells_of_body o.body) k) (slice_get os object))
    (sym (substituted formats steps later s transform legal is says_yes).objects) ∙ there) old

pub no_changes_nothing : NoChangesNothing
no_changes_nothing formats steps later s transform legal is says_no = blocked_step formats steps later s transform legal is says_no
