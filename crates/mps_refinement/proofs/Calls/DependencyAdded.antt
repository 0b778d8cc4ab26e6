-- The call that adds an object to a dependency is right: `ldadd`.
use Rattle.std.proofs.Common.{◌≡◌, ◌∙◌, ℕ, refl, sym, ap, ap₂, List, [], map}
use Rattle.std.specs.Prelude.{slice_set}
use Rattle.std.specs.Option.{option_map_or}
use Rattle.mps_base.specs.declared.names.Name.{Name}
use Rattle.mps_base.specs.declared.names.Slot.{Slot}
use Rattle.mps_format.specs.Layout.{Layout}
use Rattle.mps_laws.proofs.Lookups.{length-slice_set, map-slice_set}
use Rattle.mps_laws.proofs.Same.{fits, same_then}
use Rattle.mps_ld.specs.State.{LdState, with_address}
use Rattle.mps_model.specs.declared.call.Call.TheVariants as call
use Rattle.mps_model.specs.Accessing.{address_or_null}
use Rattle.mps_model.specs.Checked.{Checked, Numbered}
use Rattle.mps_model.specs.Dependency.{with_added}
use Rattle.mps_model.specs.World.{World, Dependency}
use Rattle.mps_heap_spec.specs.Coming.{Comes}
use Rattle.mps_heap_spec.specs.Depending.{dependency_added}
use Rattle.mps_heap_spec.specs.declared.found.Kept.{Kept}
use Rattle.mps_heap_spec.specs.State.{HeapState}
use Rattle.mps_refinement.proofs.Worlds.CollectorKept.{all_kept}
use Rattle.mps_refinement.specs.RightStep.{IsRight}
use Rattle.mps_refinement.specs.StandsFor.{AreParts, Past, kept_of}
use Rattle.mps_refinement.proofs.Lookups.LiveObjects.{object_then}
use Rattle.mps_refinement.proofs.Lookups.Lookups.{IsDependencyFound, dependency_same}
use Rattle.mps_refinement.proofs.Parts.PartsWritten.{dependencies_written}
use Rattle.mps_refinement.proofs.Calls.Readings.{says_ok}
use Rattle.mps_refinement.proofs.Worlds.Steps.{ComesToTheSame, answer_to, quiet_is_right}

-- a dependency is written in both
pub dependency_written : {F : Type 0} (layout : F → Layout) (past : Past) (h : HeapState F) (w : World) → AreParts layout past h w
    → (x : Kept LdState) (y : Numbered Dependency) → IsDependencyFound past h w x y → (d : LdState) (e : Dependency) → d ≡ kept_of e
    → AreParts layout past (record h { dependencies = slice_set h.dependencies x.key d })
    (record w { dependencies = slice_set w.dependencies y.number e })
dependency_written layout past h w parts x y is d e same =
    dependencies_written layout past h w parts (slice_set h.dependencies x.key d) (slice_set w.dependencies y.number e)
    (ap₂ (λ (ds : List LdState) (i : ℕ). slice_set ds i d) parts.dependencies (sym is.number)
    ∙ ap (slice_set (map kept_of w.dependencies) y.number) same ∙ sym (map-slice_set kept_of w.dependencies y.number e))
    (length-slice_set h.dependencies x.key d)

module _ {F : Type 0} (layout : F → Layout) (h : HeapState F) where
  added_same : (name : Name) (slot : Slot)
      → ComesToTheSame layout says_ok h (call.DependencyAdd name slot) (dependency_added layout h name slot)
  added_same name slot w past parts reached =
      same_then (dependency_same layout past h w parts name) (λ x y found.
      object_then layout past h w parts reached slot (λ b n is.
      fits (record {
        answer = refl;
        keeps = all_kept h;
        formats = refl;
        has = record {
          past = past;
          timed = refl;
          parts = dependency_written layout past h w parts x y found (with_address x.value b.at)
              (with_added y.value n.number (address_or_null w n.number))
              (ap₂ with_address found.fit (sym (ap (λ o. option_map_or (λ at. at) o 0) is.address)));
        };
      })))

  pub dependency_added_right : (name : Name) (slot : Slot) (result : Checked (Unit {0})) (after : HeapState F)
      → Comes h (dependency_added layout h name slot) result after
      → IsRight layout h (call.DependencyAdd name slot) [] (answer_to says_ok result) after
  dependency_added_right name slot result after =
      quiet_is_right layout says_ok h (call.DependencyAdd name slot) refl refl (dependency_added layout h name slot) result
      after
      (added_same name slot)
