-- What a change aside of objects, roots and collections leaves, whatever it is.
use Rattle.std.proofs.Common.{◌≡◌, ◌∙◌, Bool, false, refl, sym}
use Rattle.std.proofs.lemmas.Bool.{true≢false}
use Rattle.mps_model.specs.declared.call.Call.{Call}
use Rattle.mps_model.specs.World.{World}
use Rattle.mps_changes.specs.Change.{makes_arena, changes_dependencies, AsideIs, ArenaMade, DependencyMade, DependencyIs}

-- only the call that makes the arena changes its grains, and only those on dependencies change these
pub record IsAside (c : Call) (v u : World) : Type 0 where
  pub grains : makes_arena c ≡ false → u.grains ≡ v.grains
  pub dependencies : changes_dependencies c ≡ false → u.dependencies ≡ v.dependencies

pub aside_is : {marked : Bool} {c : Call} {judged v u : World} → AsideIs marked c judged v u → IsAside c v u
aside_is (ArenaMade grains limit is) = record { grains = λ h. absurd (true≢false (sym is ∙ h)); dependencies = λ h. refl }
aside_is (DependencyMade name d is dated) = record { grains = λ h. refl; dependencies = λ h. absurd (true≢false (sym is ∙ h)) }
aside_is (DependencyIs number d is dated) = record { grains = λ h. refl; dependencies = λ h. absurd (true≢false (sym is ∙ h)) }
aside_is _ = record { grains = λ h. refl; dependencies = λ h. refl }
