-- An examination is a unit of the abstract collector.
use Rattle.std.proofs.Common.{◌≡◌, ◌∙◌, ℕ, zero, suc, ◌<◌, true, refl, sym, ap, List, [], ◌∷◌, ◌++◌, length, Option, Some, None, subst, inr, arith, ◌-◌}
use Rattle.std.proofs.lemmas.Bool.{true≢false}
use Rattle.std.proofs.lemmas.List.{append-nil, append_assoc}
use Rattle.std.specs.Prelude.{slice_get, slice_index_or, IsTrue}
use Rattle.std.specs.Option.{option_map_or}
use Rattle.mps_base.specs.Address.{Address, Id}
use Rattle.mps_base.specs.declared.address.Addr.{Addr}
use Rattle.mps_base.specs.declared.moves.Move.{Move}
use Rattle.mps_base.specs.declared.moves.Move.TheVariants.{Post}
use Rattle.mps_format.specs.Layout.{Layout}
use Rattle.mps_format.specs.declared.pool.Policy.{Policy}
use Rattle.mps_trace.specs.GenState.{ChainsState}
use Rattle.mps_base.specs.Trail.{with_move}
use Rattle.mps_trace.specs.State.{FinalsState, with_registered_at, finals_after_post}
use Rattle.mps_trace.specs.Examine.{registration_of}
use Rattle.mps_trace.specs.Finding.{FindsTo}
use Rattle.mps_trace.specs.Trace.{Traced, KeepsTo, FixesTo}
use Rattle.mps_trace.specs.Trace as trace
use Rattle.mps_model.specs.Accessing.{address_or_null}
use Rattle.mps_model.specs.Collection.{Collection}
use Rattle.mps_model.specs.Effect.{world_after_moves}
use Rattle.mps_model.specs.Flip.{at_address}
use Rattle.mps_model.specs.Graph.{Object, entry_at, is_automatic}
use Rattle.mps_abstract.specs.Collecting.{Collecting, Final, is_white_in}
use Rattle.mps_abstract.specs.Fixing.{Keeps, Fixes, fixes_no_more, passes, keeps, kept_by}
use Rattle.mps_abstract.specs.Units.{IsUnit, examines, posts, IsExaminedNext, collecting_after_post}
use Rattle.mps_abstract.proofs.Addresses.{address_of-live}
use Rattle.mps_abstract.proofs.Lists.{contains_at}
use Rattle.mps_trace_laws.specs.Image.Memory.{pool_layout}
use Rattle.mps_trace_laws.specs.Image.Image.{CellSet, AreShaped}
use Rattle.mps_trace_laws.specs.Image.Fixing.{Target}
use Rattle.mps_trace_laws.specs.Fix.Tracing.{TracingStands, StateStands, setting_of}
use Rattle.mps_trace_laws.specs.Fix.Finding.{FindsObject, there, white}
use Rattle.mps_trace_laws.specs.Fix.Steps.{IsFixStep}
use Rattle.mps_trace_laws.specs.Units.Finals.{address_of_id}
use Rattle.mps_trace_laws.specs.Units.Standing.{AreFinalsOf}
use Rattle.mps_trace_laws.specs.Units.Examining.{IsOneDueIn, ExaminationsAreUnits, PostsAreUnits}
use Rattle.mps_trace_laws.proofs.Fix.EachFix.{fix_is_a_step}
use Rattle.mps_trace_laws.proofs.Fix.Finding.{object_found}
use Rattle.mps_trace_laws.proofs.Units.Finals.{finals_passed, finals_posted}
use Rattle.mps_trace_laws.proofs.Units.TwoLists.{due_mix, mix}

pub there_at : (xs : List Id) (n : ℕ) → n < length xs → (id : Id) × (slice_get xs n ≡ Some id)
there_at [] n less = absurd (omega (arith, less))
there_at (x ∷ xs) zero less = (x, refl)
there_at (x ∷ xs) (suc n) less = there_at xs n (omega (arith, less))

-- the object of the next registration, and where it lies now
pub record IsNextTarget (x : Traced) (y : Collecting) (f : FinalsState) (at_flip : List (Option Address)) : Type 0 where
  pub id : Id
  pub now : Address
  pub object : Object
  pub target : Target (setting_of x.segs at_flip y) y.world.addresses id (registration_of f y.next).0 now object

-- a fix of one white object keeps it
pub record IsKeptBy (y : Collecting) (t : Id) (ms : List Move) (after : Collecting) : Type 0 where
  pub c : Collection
  pub keep : Keeps y.world y.running t ms c
  pub is : after ≡ kept_by y t ms c

one_is_kept : {y after : Collecting} {t : Id} {ms : List Move} → Fixes y (t ∷ []) ms after → is_white_in y t ≡ true → IsKeptBy y t ms after
one_is_kept (passes black rest) is = absurd (true≢false (sym is ∙ black))
one_is_kept {y} {t = t} (keeps {these = these} {c = c} so keep fixes_no_more) is = record {
  c = c;
  keep = subst (λ ms. Keeps y.world y.running t ms c) (sym (append-nil these)) keep;
  is = ap (λ ms. kept_by y t ms c) (sym (append-nil these));
}

-- the next registration is of a white object: a fix keeps it, and it is posted
pub record IsPostedNext {F : Type 0} (layout : F → Layout) (formats : List (Option (Policy F))) (of : ChainsState)
    (at_flip : List (Option Address)) (done : CellSet) (x z : Traced) (y : Collecting) (f : FinalsState) (to : Addr) : Type 0 where
  pub id : Id
  pub next : IsExaminedNext y id
  pub white : is_white_in y id ≡ true
  pub step : IsFixStep layout formats of at_flip done x z y id to.0
  pub kept : IsKeptBy y id step.moves step.after
  pub unit : IsUnit y (step.moves ++ Post to ∷ []) (collecting_after_post (kept_by y id step.moves kept.c) id)
  pub state : StateStands layout formats of at_flip done z.amc z.segs (collecting_after_post (kept_by y id step.moves kept.c) id)
  pub trail : (with_move z.moves (Post to)).moves ≡ x.moves.moves ++ (step.moves ++ Post to ∷ [])
  pub finals : AreFinalsOf at_flip (collecting_after_post (kept_by y id step.moves kept.c) id)
      (finals_after_post (with_registered_at f y.next to.0) y.next)

module _ (F : Type 0) (layout : F → Layout) (formats : List (Option (Policy F))) (of : ChainsState) (at_flip : List (Option Address))
    (done : CellSet) (x : Traced) (y : Collecting) (f : FinalsState) (shaped : AreShaped y.world.graph.objects (pool_layout y.world))
    (stands : TracingStands layout formats of at_flip done x y) (given : IsOneDueIn at_flip y f) where
  abbrev regs : List Id
  regs = y.world.graph.registered

  abbrev one : (id : Id) × (slice_get regs y.next ≡ Some id)
  one = there_at regs y.next (let most = given.running.examined.existing in omega (arith, given.before, most))

  abbrev id : Id
  id = one.0

  next : IsExaminedNext y id
  next = record { drained = given.drained; before_flip = given.before; registered = one.1 }

  abbrev lived : (from : Address) × (entry_at at_flip id ≡ Some from)
  lived = given.due.lived y.next id (omega arith) given.before one.1

  abbrev from : Address
  from = lived.0

  entry_is : slice_index_or f.registered y.next 0 ≡ from
  entry_is =
      let due : ℕ = y.running.registered_before - suc y.next in
      let before = given.before in
      ap (λ l. slice_index_or l y.next 0) given.finals.registrations
      ∙ ap (λ (n : ℕ). slice_index_or (mix (address_of_id y.world.addresses) (address_of_id at_flip) y.next n regs) y.next 0)
      (let one_more : y.running.registered_before - y.next ≡ suc due = omega (arith, before) in one_more)
      ∙ due_mix (address_of_id y.world.addresses) (address_of_id at_flip) y.next due regs id one.1
      ∙ ap (λ o. option_map_or (λ at. at) o 0) lived.1

  abbrev now : Address
  now = address_or_null y.world id

  now_there : entry_at y.world.addresses id ≡ Some now
  now_there = address_of-live y.world id (given.running.examined.live_registered id (contains_at regs y.next id one.1))

  abbrev object : (o : Object) × (slice_get y.world.graph.objects id ≡ Some o) × IsTrue (is_automatic o)
  object = given.due.automatic y.next id one.1

  target : Target (setting_of x.segs at_flip y) y.world.addresses id (slice_index_or f.registered y.next 0) now object.0
  target = record {
    means = inr (lived.1 ∙ ap (λ a. Some a) (sym entry_is));
    there = now_there;
    object = object.1;
    automatic = object.2;
    read = refl;
  }

  pub next_target : IsNextTarget x y f at_flip
  next_target = record { id = id; now = now; object = object.0; target = target }

  is_found : (found : Option Addr) → FindsTo layout formats x.segs (registration_of f y.next) found
      → FindsObject y id (slice_index_or f.registered y.next 0) now found
  is_found found finds =
      object_found F layout formats of at_flip done x y shaped stands (registration_of f y.next) id now object.0 target found finds

  is_passed : (to : Addr) → FindsObject y id (slice_index_or f.registered y.next 0) now (Some to)
      → IsUnit y [] (record y { band = Final; next = suc y.next })
      × AreFinalsOf at_flip (record y { band = Final; next = suc y.next }) (with_registered_at f y.next to.0)
  is_passed to (there to' is black) =
      (examines id next black, finals_passed at_flip y f id to.0 given.before one.1 (now_there ∙ ap (λ a. Some a) (sym is)) given.finals)

  pub examined : (to : Addr) → FindsTo layout formats x.segs (registration_of f y.next) (Some to)
      → IsUnit y [] (record y { band = Final; next = suc y.next })
      × AreFinalsOf at_flip (record y { band = Final; next = suc y.next }) (with_registered_at f y.next to.0)
  examined to finds = is_passed to (is_found (Some to) finds)

  -- ---- a white one

  module _ (z : Traced) (to : Addr) (fixed : FixesTo layout formats of x (registration_of f y.next) z to)
      (is : is_white_in y id ≡ true) where
    step : IsFixStep layout formats of at_flip done x z y id to.0
    step = fix_is_a_step layout formats of at_flip done x z y (registration_of f y.next) to id now object.0 shaped stands target fixed

    kept : IsKeptBy y id step.moves step.after
    kept =
        subst (λ ms. IsKeptBy y id ms step.after) (append-nil step.moves)
        (one_is_kept (step.fixes [] [] step.after fixes_no_more) is)

    abbrev y' : Collecting
    y' = kept_by y id step.moves kept.c

    there_now : entry_at y'.world.addresses id ≡ Some to.0
    there_now = ap (λ (u : Collecting). entry_at u.world.addresses id) (sym kept.is) ∙ step.there

    post_is : at_address (address_or_null (world_after_moves y.world step.moves) id) ≡ to
    post_is = ap (λ o. at_address (option_map_or (λ at. at) o 0)) there_now

    state_then : StateStands layout formats of at_flip done z.amc z.segs y'
    state_then = subst (λ u. StateStands layout formats of at_flip done z.amc z.segs u) kept.is step.stands.state

    posted_state : StateStands layout formats of at_flip done z.amc z.segs (collecting_after_post y' id)
    posted_state = record {
      segments = record {
        same_grains = state_then.segments.same_grains;
        same_limit = state_then.segments.same_limit;
        same_segments = state_then.segments.same_segments;
      };
      held = state_then.held;
      tables = state_then.tables;
      covered = state_then.covered;
      reserved = state_then.reserved;
      condemned = record { is_bit = state_then.condemned.is_bit; is_held = state_then.condemned.is_held };
      image = state_then.image;
      pools = state_then.pools;
      collected = state_then.collected;
      still = state_then.still;
      tails = state_then.tails;
      hands = state_then.hands;
    }

    pub posted_next : IsPostedNext layout formats of at_flip done x z y f to
    posted_next = record {
      id = id;
      next = next;
      white = is;
      step = step;
      kept = kept;
      unit =
          subst (λ a. IsUnit y (step.moves ++ Post a ∷ []) (collecting_after_post y' id)) post_is (posts id next is kept.keep);
      state = posted_state;
      trail =
          ap (λ ms. ms ++ Post to ∷ []) step.trail ∙ append_assoc x.moves.moves step.moves (Post to ∷ []);
      finals = finals_posted at_flip y f id to.0 step.moves kept.c given.running next is kept.keep there_now given.finals;
    }

  is_white : FindsObject y id (slice_index_or f.registered y.next 0) now None → is_white_in y id ≡ true
  is_white (white same is) = is

  pub next_is_posted : (z : Traced) (to : Addr) → FindsTo layout formats x.segs (registration_of f y.next) None
      → KeepsTo layout formats of x (registration_of f y.next) z to → IsPostedNext layout formats of at_flip done x z y f to
  next_is_posted z to nowhere kept = posted_next z to (trace.keeps to nowhere kept) (is_white (is_found None nowhere))

pub examinations_are_units : {F : Type 0} → ExaminationsAreUnits F
examinations_are_units {F} layout formats of at_flip done x y f to shaped stands given finds =
    examined F layout formats of at_flip done x y f shaped stands given to finds

pub posts_are_units : {F : Type 0} → PostsAreUnits F
posts_are_units {F} layout formats of at_flip done x z y f to shaped stands given nowhere kept =
    let p = next_is_posted F layout formats of at_flip done x y f shaped stands given z to nowhere kept in
    record {
      moves = p.step.moves;
      after = collecting_after_post (kept_by y p.id p.step.moves p.kept.c) p.id;
      unit = p.unit;
      state = p.state;
      trail = p.trail;
      finals = p.finals;
    }
