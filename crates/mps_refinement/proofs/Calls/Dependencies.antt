-- `ld`, `ldreset`, `ldmerge` and `ldstale`.
use Rattle.std.proofs.Common.{◌≡◌, ◌∙◌, ℕ, ◌+◌, Bool, true, false, refl, sym, ap, subst, List, [], ◌∷◌, ◌++◌, length, map, Ok, arith}
use Rattle.std.proofs.lemmas.List.{length-append, length-map, length-set}
use Rattle.std.specs.Prelude.{Result, nat_le, slice_set}
use Rattle.mps_base.specs.Staleness.{is_stale}
use Rattle.mps_base.specs.declared.names.Name.{Name}
use Rattle.mps_base.specs.declared.refusal.Refusal.{Refusal}
use Rattle.mps_base.specs.declared.refusal.Refusal.TheVariants as refusal
use Rattle.mps_format.specs.Layout.{Layout}
use Rattle.mps_laws.proofs.Lookups.{map-slice_set, map-with_last}
use Rattle.mps_laws.proofs.Same.{Same, fits, same_next, same_refuse_when, same_then}
use Rattle.mps_ld.specs.Flips.{AreFlips}
use Rattle.mps_ld.specs.State.{LdState, after_merge, reset_at}
use Rattle.mps_model.specs.declared.call.Call.TheVariants as call
use Rattle.mps_model.specs.Checked.{Checked, Numbered, ◌>>◌, done, tells}
use Rattle.mps_model.specs.Dependency as model_dependency
use Rattle.mps_model.specs.Graph as graph
use Rattle.mps_model.specs.Graph.{with_last}
use Rattle.mps_model.specs.Making as model
use Rattle.mps_model.specs.Making.{most_dependencies, refuse_at_limit}
use Rattle.mps_model.specs.Reply.{act}
use Rattle.mps_model.specs.World.{World, Dependency}
use Rattle.mps_names.specs.declared.names.Thing.TheVariants as thing
use Rattle.mps_heap_spec.specs.Coming.{Comes}
use Rattle.mps_heap_spec.specs.Depending.{dependency_merged, dependency_reset, is_dependency_stale, with_dependency}
use Rattle.mps_heap_spec.specs.declared.found.Kept.{Kept}
use Rattle.mps_heap_spec.specs.Making.{IsMaking, MakesDependency, check_dependency, refuse_taken}
use Rattle.mps_heap_spec.specs.State.{HeapState}
use Rattle.mps_refinement.proofs.Worlds.CollectorKept.{KeepsAll, all_kept}
use Rattle.mps_refinement.specs.Answering.{answer_to, says_bool, says_ok}
use Rattle.mps_refinement.specs.Making.{IsRightMaking}
use Rattle.mps_refinement.specs.RightStep.{IsRight}
use Rattle.mps_refinement.specs.StandsFor.{AreParts, Past, kept_of, collector_of}
use Rattle.mps_refinement.proofs.Lookups.Lookups.{IsDependencyFound, dependency_same}
use Rattle.mps_refinement.proofs.Calls.MakingSteps.{MakesAlike, checks_then, first_passed, free_name, making_is_right, taken_same}
use Rattle.mps_refinement.proofs.Parts.Named.{ThingsStay, named_alike, named_made}
use Rattle.mps_refinement.proofs.Parts.PartsMade.{dependencies_changed, state_of_dependencies}
use Rattle.mps_refinement.proofs.Worlds.Steps.{HasParts, Leads, SaysOnly, answer_is_right_in, quiet_is_right}

module _ {F : Type 0} (layout : F → Layout) (h : HeapState F) (w : World) (past : Past) (parts : AreParts layout past h w) where
  -- a dependency on nothing, as of now
  abbrev new_now : Dependency
  new_now = record { epoch = length w.flips; zones = 0; blocks = [] }

  reset_is : reset_at h.epochs ≡ kept_of new_now
  reset_is = ap (λ (n : ℕ). record { epoch = n; zones = 0 }) parts.flips.count

  count_is : length h.dependencies ≡ length w.dependencies
  count_is = ap (λ (ds : List LdState). length ds) parts.dependencies ∙ length-map w.dependencies kept_of

  -- ---- a dependency is made

  dependency_parts : (name : Name) (number : ℕ) (after : HeapState F)
      → Rattle.mps_names.specs.State.thing_named h.names name ≡ Rattle.std.specs.Prelude.None → MakesDependency h name number after
      → HasParts layout past.time after (record w {
        graph = Rattle.mps_model.specs.Checked.named w.graph name (graph.DependencyThing (length w.dependencies));
        dependencies = with_last w.dependencies new_now;
      })
  dependency_parts name number after free makes = record {
    past = past;
    timed = refl;
    parts = subst (λ s. AreParts layout past s (record w {
      graph = record w.graph { names = with_last w.graph.names (record { name = name; thing = graph.DependencyThing count }) };
      dependencies = with_last w.dependencies new_now;
    })) (sym makes.state)
        (dependencies_changed layout past h w parts states after.names (with_last w.dependencies new_now)
        (with_last w.graph.names (record { name = name; thing = graph.DependencyThing count }))
        (ap (λ ds. ds ++ reset_at h.epochs ∷ []) parts.dependencies ∙ ap (λ d. map kept_of w.dependencies ++ d ∷ []) reset_is
        ∙ sym (map-with_last kept_of w.dependencies new_now))
        (named_made past past h made w.graph.names w.graph.labels parts.names name (thing.Dependency number) (graph.DependencyThing count)
        makes.names free
        (ap graph.DependencyThing (makes.number_is ∙ count_is)) (λ other there. refl) stay
        (let e = makes.number_is in omega (arith, e, longer))
        (λ there. let e = makes.number_is in omega (arith, e, there)) refl refl));
  }
    where
      count : ℕ
      count = length w.dependencies

      states : List LdState
      states = h.dependencies ++ reset_at h.epochs ∷ []

      made : HeapState F
      made = state_of_dependencies layout past h w parts (h.dependencies ++ reset_at h.epochs ∷ []) after.names

      longer : length (h.dependencies ++ reset_at h.epochs ∷ []) ≡ length h.dependencies + 1
      longer = length-append h.dependencies (reset_at h.epochs ∷ [])

      stay : ThingsStay h made
      stay = record {
        pools = λ n low. low;
        caches = omega arith;
        tables = λ k some. some;
        areas = λ k some. some;
        blocks = λ n low. low;
        points = λ k some. some;
        dependencies = λ n low. omega (arith, low, longer);
        chains = λ n low. low;
        transforms = refl;
      }

  dependency_alike : (name : Name)
      → MakesAlike layout past h w (call.Dependency name) (check_dependency h name) (MakesDependency h name)
  dependency_alike name = record {
    models = model.refuse_taken w name >> refuse_at_limit (length w.dependencies) most_dependencies;
    made = record w {
      graph = Rattle.mps_model.specs.Checked.named w.graph name (graph.DependencyThing (length w.dependencies));
      dependencies = with_last w.dependencies new_now;
    };
    comes = checks_then (model.refuse_taken w name) (refuse_at_limit (length w.dependencies) most_dependencies) (done _);
    alike = same_next (taken_same layout past h w parts name)
        (same_refuse_when (nat_le most_dependencies (length h.dependencies)) (nat_le most_dependencies (length w.dependencies))
        (refusal.TooMany most_dependencies) (ap (nat_le most_dependencies) count_is));
    formats = refl;
    keeps = λ key after makes. subst (λ (s : HeapState F). KeepsAll (collector_of h) (collector_of s)) (sym makes.state) (all_kept h);
    has = λ number after ok makes.
        dependency_parts name number after
        (free_name h name
        (first_passed (refuse_taken h name) (refuse_at_limit (length h.dependencies) most_dependencies) tt ok).1) makes;
  }

  -- ---- a dependency is written

  dependency_written : (d : Kept LdState) (e : Numbered Dependency) → IsDependencyFound past h w d e → (state : LdState)
      (new : Dependency) → state ≡ kept_of new
      → HasParts layout past.time (with_dependency h d.key state) (model_dependency.with_dependency w e.number new)
  dependency_written d e found state new is = record {
    past = past;
    timed = refl;
    parts = subst (λ n. AreParts layout past (with_dependency h d.key state) (model_dependency.with_dependency w n new)) (sym found.number)
        (dependencies_changed layout past h w parts (slice_set h.dependencies d.key state) h.names (slice_set w.dependencies d.key new)
        w.graph.names
        (ap (λ ds. slice_set ds d.key state) parts.dependencies ∙ ap (slice_set (map kept_of w.dependencies) d.key) is
        ∙ sym (map-slice_set kept_of w.dependencies d.key new))
        (named_alike h (with_dependency h d.key state) past w.graph.names w.graph.labels parts.names (λ n. refl) refl (record {
          pools = λ n low. low;
          caches = omega arith;
          tables = λ k some. some;
          areas = λ k some. some;
          blocks = λ n low. low;
          points = λ k some. some;
          dependencies = λ n low. let same = length-set h.dependencies d.key state in omega (arith, low, same);
          chains = λ n low. low;
          transforms = refl;
        })));
  }

  reset_same : (name : Name) → Same (Leads layout says_ok h past w) (dependency_reset h name) (act false w w (call.DependencyReset name))
  reset_same name =
      same_then (dependency_same layout past h w parts name) (λ d e found.
      fits (record {
        answer = refl;
        keeps = all_kept h;
        formats = refl;
        has = dependency_written d e found
            (reset_at h.epochs) new_now reset_is;
      }))

  merge_same : (name source : Name)
      → Same (Leads layout says_ok h past w) (dependency_merged h name source) (act false w w (call.DependencyMerge name source))
  merge_same name source =
      same_then (dependency_same layout past h w parts name) (λ d e found.
      same_then (dependency_same layout past h w parts source) (λ x y other.
      fits (record {
        answer = refl;
        keeps = all_kept h;
        formats = refl;
        has = dependency_written d e found (after_merge d.value x.value) (model_dependency.merged e.value y.value)
            (ap (λ z. after_merge z x.value) found.fit ∙ ap (after_merge (kept_of e.value)) other.fit);
      })))

  stale_same : (name : Name)
      → Same (SaysOnly layout says_bool h (call.DependencyStale name) w) (is_dependency_stale w.flips h name)
      (act false w w (call.DependencyStale name))
  stale_same name =
      same_then (dependency_same layout past h w parts name) (λ d e found.
      subst (λ b. Same Fit (Ok (is_stale w.flips d.value.epoch d.value.zones)) (tells b w))
      (ap (λ (z : LdState). is_stale w.flips z.epoch z.zones) found.fit) (told (is_stale w.flips d.value.epoch d.value.zones)))
    where
      Fit : Bool → Rattle.mps_model.specs.Checked.Act → Type 0
      Fit = SaysOnly layout says_bool h (call.DependencyStale name) w

      told : (b : Bool) → Same Fit (Ok b) (tells b w)
      told true = fits (record { answer = refl; world = refl })
      told false = fits (record { answer = refl; world = refl })

-- ---- the calls

module _ {F : Type 0} (layout : F → Layout) (h : HeapState F) (name : Name) where
  pub dependency_is_right : (result : Result ℕ Refusal) (after : HeapState F)
      → IsMaking h (check_dependency h name) (MakesDependency h name) result after
      → IsRightMaking layout h (call.Dependency name) result after
  dependency_is_right result after making =
      making_is_right layout h (call.Dependency name) (check_dependency h name) (MakesDependency h name) refl refl
      (λ w past parts reached. dependency_alike layout h w past parts name) result after making

  pub dependency_reset_is_right : (result : Checked (Unit {0})) (after : HeapState F) → Comes h (dependency_reset h name) result after
      → IsRight layout h (call.DependencyReset name) [] (answer_to says_ok result) after
  dependency_reset_is_right result after comes =
      quiet_is_right layout says_ok h (call.DependencyReset name) refl refl (dependency_reset h name) result after
      (λ w past parts reached. reset_same layout h w past parts name) comes

  pub dependency_merge_is_right : (source : Name) (result : Checked (Unit {0})) (after : HeapState F)
      → Comes h (dependency_merged h name source) result
      after
      → IsRight layout h (call.DependencyMerge name source) [] (answer_to says_ok result) after
  dependency_merge_is_right source result after comes =
      quiet_is_right layout says_ok h (call.DependencyMerge name source) refl refl (dependency_merged h name source) result
      after
      (λ w past parts reached. merge_same layout h w past parts name source) comes

  -- what is answered is right for each list of flips that the epochs stand for, so for those of the world
  pub dependency_stale_is_right : (result : Checked Bool)
      → ((flips : List ℕ) → AreFlips h.epochs flips → result ≡ is_dependency_stale flips h name)
      → IsRight layout h (call.DependencyStale name) [] (answer_to says_bool result) h
  dependency_stale_is_right result each =
      λ w line st.
      answer_is_right_in layout says_bool h (call.DependencyStale name) refl refl (is_dependency_stale w.flips h name) result w
      line
      (stale_same layout h w st.past st.parts name) (each w.flips st.parts.flips) st
