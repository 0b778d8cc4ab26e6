-- What the calls that do units, make things or drop them leave of keys.
use Rattle.std.proofs.Common.{◌≡◌, ◌∙◌, ℕ, Bool, true, false, Option, Some, None, List, [], ◌∷◌, Result, Ok, Err, refl, sym, ap}
use Rattle.std.specs.Prelude.{MatchBool, if◌then◌else◌, is_some}
use Rattle.std.specs.Option.{option_map_or}
use Rattle.mps_base.specs.Address.{Address}
use Rattle.mps_base.specs.Generation.{Due}
use Rattle.mps_base.specs.Trail.{Moves}
use Rattle.mps_base.specs.declared.moves.Move.{Move}
use Rattle.mps_base.specs.declared.moves.Move.TheVariants as moves
use Rattle.mps_base.specs.declared.names.Name.{Name}
use Rattle.mps_base.specs.declared.names.Slot.{Slot}
use Rattle.mps_base.specs.declared.refusal.Refusal.{Refusal}
use Rattle.mps_dep.specs.Following.{nulled}
use Rattle.mps_dep.specs.State.{dependent_of}
use Rattle.mps_format.specs.Layout.{Layout}
use Rattle.mps_names.specs.State.{NamesState}
use Rattle.mps_sac.specs.declared.class.ClassSize.{ClassSize}
use Rattle.mps_trace.specs.declared.condemn.Condemn.{Condemn}
use Rattle.mps_heap_spec.specs.Allocating.{check_reserve}
use Rattle.mps_heap_spec.specs.Caching.{IsCacheMaking, NewCache, NoCache}
use Rattle.mps_heap_spec.specs.Checked.{Checked}
use Rattle.mps_heap_spec.specs.Collecting.{IsCollected, IsStarted, Starts}
use Rattle.mps_heap_spec.specs.Finding.{with_words}
use Rattle.mps_heap_spec.specs.Following.{Follows, is_passed_by, made_since, move_followed, moves_followed, splat_followed, with_dependent_nulled}
use Rattle.mps_heap_spec.specs.Getting.{IsGot, after_access, is_refused, reads, with_traced}
use Rattle.mps_heap_spec.specs.Keyed.{AppliesKeys, DropsKeys}
use Rattle.mps_heap_spec.specs.Labelling.{Interned, IsInterning, NotInterned}
use Rattle.mps_heap_spec.specs.Making.{Dropped, IsDropping, IsMaking, Made, NotDropped, OutOfMemory, Refused}
use Rattle.mps_heap_spec.specs.Polling.{HasFlipped, HasPolled, HasReserved, due_in, polls_for, units_of_poll}
use Rattle.mps_heap_spec.specs.State.{HeapState, format_over}
use Rattle.mps_heap_spec.specs.Transforming.{Applied, IsApplying, IsTransforming, KeptFromApplying, NotApplied, NotTransformed, Transformed}
use Rattle.mps_heap_spec.specs.Units.{HasDoneUnits, HasStepped, ends, goes_on, none_runs}
use Rattle.mps_heap_spec.specs.declared.arena.ArenaState.{ArenaState}
use Rattle.mps_heap_spec.specs.declared.arena.ArenaState.TheVariants as arena
use Rattle.mps_heap_spec.specs.declared.arena.Progress.{Progress}
use Rattle.mps_heap_spec.proofs.NamesStay.{gets, keys_stay, keys_stay_moving, reserves}

-- a heap that differs in other things alone
pub same_heap : {F : Type 0} {h h' : HeapState F} → h' ≡ h → h'.names.keys ≡ h.names.keys
same_heap {F} is = ap (λ (x : HeapState F). x.names.keys) is

module _ {F : Type 0} (layout : F → Layout) where
  -- ---- moves that are followed

  nulling : (h : HeapState F) (at : Address) (cell : ℕ) (found : Option F)
      → (option_map_or (λ f. with_words h (nulled (layout f) h.segs at cell)) found h).names ≡ h.names
  nulling h at cell (Some f) = refl
  nulling h at cell None = refl

  passing : (h : HeapState F) (at : Address) (cell : ℕ) (b : Bool)
      → (if b then h else with_dependent_nulled layout h at cell).names ≡ h.names
  passing h at cell true = refl
  passing h at cell false = nulling h at cell (format_over h at)

  splatting : (h : HeapState F) (dependent : Option Address) (cell : ℕ) → (splat_followed layout h dependent cell).names ≡ h.names
  splatting h (Some at) cell = passing h at cell (is_passed_by h at)
  splatting h None cell = refl

  following : (h : HeapState F) (m : Move) → (move_followed layout h m).names ≡ h.names
  following h (moves.Splat holder cell) = splatting h (dependent_of h.beside.dependents holder.0) cell
  following h (moves.Free at) = refl
  following h _ = refl

  all_following : (h : HeapState F) (ms : List Move) → (moves_followed layout h ms).names ≡ h.names
  all_following h [] = refl
  all_following h (m ∷ ms) = all_following (move_followed layout h m) ms ∙ following h m

  module _ {h h' : HeapState F} {m m' : Moves} where
    -- ---- units

    done_units : {n : ℕ} → HasDoneUnits layout h m n h' m' → h'.names ≡ h.names
    done_units (none_runs none still moves) = ap (λ (x : HeapState F). x.names) still
    done_units (goes_on run next runs units is) = ap (λ (x : HeapState F). x.names) is
    done_units (ends run runs units is) = ap (λ (x : HeapState F). x.names) is

  follows : {h' : HeapState F} {m m' : Moves} {Left : HeapState F → Moves → Type 0} (h : HeapState F)
      → ((made : HeapState F) → Left made m' → made.names ≡ h.names) → Follows layout m Left h' m' → h'.names ≡ h.names
  follows {h'} {m} {m'} h left came =
      ap (λ (x : HeapState F). x.names) came.followed ∙ all_following came.made (made_since m m') ∙ left came.made came.left

  pub units_follow : {h h' : HeapState F} {m m' : Moves} {n : ℕ} → Follows layout m (HasDoneUnits layout h m n) h' m'
      → h'.names.keys ≡ h.names.keys
  units_follow {h} came = ap (λ (x : NamesState). x.keys) (follows h (λ made left. done_units left) came)

  pub collect_follows : {h h' : HeapState F} {m m' : Moves} → Follows layout m (IsCollected layout h m) h' m'
      → h'.names.keys ≡ h.names.keys
  collect_follows {h} came =
      ap (λ (x : NamesState). x.keys) (follows h (λ made left. ap (λ (x : HeapState F). x.names) left.state) came)

  pub steps : {h h' : HeapState F} {m m' : Moves} {n : ℕ} {answer : Progress} → HasStepped layout h m n h' m' answer
      → h'.names.keys ≡ h.names.keys
  steps {h} {h'} {m} {m'} {n} {answer} stepped = by h.arena refl
    where
      by : (a : ArenaState) → h.arena ≡ a → h'.names.keys ≡ h.names.keys
      by arena.Unclamped is = units_follow (stepped.done is)
      by arena.Clamped is =
          same_heap (stepped.still (λ other. let e : arena.Clamped ≡ arena.Unclamped = sym is ∙ other in
          absurd cc)).0
      by arena.Parked is =
          same_heap (stepped.still (λ other. let e : arena.Parked ≡ arena.Unclamped = sym is ∙ other in
          absurd cc)).0

  pub begins : {h h' : HeapState F} {m m' : Moves} {what : Condemn} → IsStarted layout what h m h' m' → h'.names.keys ≡ h.names.keys
  begins started = same_heap started.state

  pub starts : (checked : Checked Condemn) (h h' : HeapState F) (m m' : Moves) (result : Checked (Unit {0}))
      → Starts layout checked h m result h' m' → h'.names.keys ≡ h.names.keys
  starts (Ok what) h h' m m' result came = begins came.1
  starts (Err why) h h' m m' result came = same_heap came.1

  -- ---- a `reserve` and its poll, and a `get` and its barrier

  module _ (h h' : HeapState F) (m m' : Moves) where
    flips : (due : Option Due) → HasFlipped layout h m due h' m' → h'.names.keys ≡ h.names.keys
    flips None still = same_heap still.0
    flips (Some due) started = begins started

    polls : HasPolled layout h m h' m' → h'.names.keys ≡ h.names.keys
    polls polled = by (is_some h.running) polled
      where
        by : (runs : Bool)
            → MatchBool runs (Follows layout m (HasDoneUnits layout h m units_of_poll) h' m') (HasFlipped layout h m (due_in h) h' m')
            → h'.names.keys ≡ h.names.keys
        by true came = units_follow came
        by false came = flips (due_in h) came

    if_polled : (b : Bool) → MatchBool b (HasPolled layout h m h' m') ((h' ≡ h) × (m' ≡ m)) → h'.names.keys ≡ h.names.keys
    if_polled true polled = polls polled
    if_polled false still = same_heap still.0

  pub reserving : {h h' : HeapState F} {m m' : Moves} {name : Name} {head : ℕ} {result : Checked (Unit {0})}
      → HasReserved layout h m name head result h' m' → h'.names.keys ≡ h.names.keys
  reserving {h} {h'} {m} {m'} {name} {head} came =
      keys_stay_moving came.polled came.trail_polled _ came.comes (reserves came.polled layout came.trail_polled name head)
      ∙ if_polled h came.polled m came.trail_polled (polls_for h (check_reserve layout h name head)) came.poll

  pub getting : {h h' : HeapState F} {m m' : Moves} {target source : Slot} {k : ℕ} {result : Checked (Unit {0})}
      → IsGot layout h m target source k result h' m' → h'.names.keys ≡ h.names.keys
  getting (is_refused why refused also still moves) = same_heap still
  getting {h} {h'} {m} {m'} {target} {source} {k} (reads x is comes moves) =
      keys_stay (after_access layout h m x) _ comes (gets (after_access layout h m x) layout target source k)
      ∙ ap (λ (n : NamesState). n.keys) (all_following (with_traced h x) (made_since m x.moves))

-- ---- calls that make and drop things

pub making : {F : Type 0} {h h' : HeapState F} {checks : Checked (Unit {0})} {Makes : ℕ → HeapState F → Type 0} {result : Result ℕ Refusal}
    → IsMaking h checks Makes result h' → ((key : ℕ) (x : HeapState F) → Makes key x → x.names.keys ≡ h.names.keys)
    → h'.names.keys ≡ h.names.keys
making (Refused {after = x} e untouched) makes = untouched.keys
making (OutOfMemory {after = x} e untouched) makes = untouched.keys
making (Made {after = x} {key = key} e made) makes = makes key x made

pub dropping : {F : Type 0} {h h' : HeapState F} {name : Name} {dropped : Checked (NamesState → HeapState F)} {result : Checked (Unit {0})}
    → IsDropping h name dropped result h' → DropsKeys h.names.keys h'.names.keys name result
dropping (NotDropped {why = why} e) = refl
dropping (Dropped {rest = rest} {after = x} e updates is) = updates.keys

pub applying : {F : Type 0} (layout : F → Layout) {h h' : HeapState F} {name : Name} {result : Checked Bool}
    → IsApplying layout h name result h' → AppliesKeys h.names.keys h'.names.keys name result
applying layout (NotApplied {why = why} e) = refl
applying layout (KeptFromApplying {number = n} e blocked) = refl
applying layout (Applied {after = x} {number = n} e free applies) = applies.names.keys

-- ---- labels, caches and transforms are made

pub interning : {F : Type 0} {h h' : HeapState F} {name : Name} {result : Result ℕ Refusal} → IsInterning h name result h'
    → h'.names.keys ≡ h.names.keys
interning (NotInterned {why = why} e) = refl
interning (Interned {after = x} {number = n} e makes) = makes.names.keys

pub caching : {F : Type 0} {h h' : HeapState F} {name pool : Name} {classes : List ClassSize} {result : Checked (Unit {0})}
    → IsCacheMaking h name pool classes result h' → h'.names.keys ≡ h.names.keys
caching (NoCache {why = why} e) = refl
caching (NewCache {after = x} {of = of} e makes) = makes.names.keys

pub transforming : {F : Type 0} {h h' : HeapState F} {name : Name} {result : Checked (Unit {0})} → IsTransforming h name result h'
    → h'.names.keys ≡ h.names.keys
transforming (NotTransformed {why = why} e) = refl
transforming (Transformed {after = x} {number = n} e makes) = makes.names.keys
