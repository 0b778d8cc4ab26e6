use Rattle.std.proofs.Common.{subst, sym}
use Rattle.mps_names.specs.Keys.{KeysGoOn}
use Rattle.mps_names.specs.declared.names.Thing.TheVariants as thing
use Rattle.mps_refinement.specs.StandsFor.{StandsFor}
use Rattle.mps_refinement.specs.StandsForSome.{StandsForSome}
use Rattle.mps_heap.proofs.GivingKeys.{GivesNone, same_but_names, same_grains, stands_for_some, stands_still}
use Rattle.mps_heap.proofs.heap.Heap.table_key.Goals as goal

pub invariant_of-self : goal.invariant_of-self
invariant_of-self g c =
    subst (StandsForSome g.F.Format.layout) (sym c.table_key.ensures.state)
    (stands_for_some g.F.Format.layout c.self.inside.state c.table_key.new.self.names c.table_key.ensures.names c.self.invariant)

pub returns : goal.returns
returns g c =
    let after = c.table_key.new.self in
    record {
      good = c.table_key.ensures.good;
      given = c.table_key.ensures.given;
      none = subst (λ h. GivesNone (λ n. n.keys.tables) (λ place. thing.Table place) h.names c.args.name c.table_key.result)
          c.self.view_is c.table_key.ensures.none;
      others = subst (λ h. KeysGoOn h.names.keys after.names.keys) c.self.view_is c.table_key.ensures.others;
      stands = subst (λ h. (w : _) → StandsFor g.F.Format.layout h w → StandsFor g.F.Format.layout after w) c.self.view_is
          (λ w st. subst (λ h. StandsFor g.F.Format.layout h w) (sym c.table_key.ensures.state)
          (stands_still g.F.Format.layout c.self.inside.state after.names c.table_key.ensures.names w st));
      grains = same_grains c.self.view_is c.table_key.ensures.state;
      state = same_but_names c.self.view_is c.table_key.ensures.state;
    }
