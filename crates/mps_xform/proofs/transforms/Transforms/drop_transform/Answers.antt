use Rattle.std.proofs.Common.{List, sym, subst, set, false}
use Rattle.std.specs.Vec.{vec_capacity}
use Rattle.mps_xform.specs.declared.transforms.Pair.{Pair}
use Rattle.mps_xform.specs.Inside.{AreSoundTransforms}
use Rattle.mps_xform.proofs.Pairs.{others_stay_sound}
use Rattle.mps_xform.proofs.transforms.Transforms.drop_transform.Goals as goal

pub invariant_of-self : goal.invariant_of-self
invariant_of-self c =
    let old = c.self.inside in
    let capacity = vec_capacity c.end_pairs_of.new.pairs in
    let P : List Pair → Type 0 = λ pairs. AreSoundTransforms (set old.live c.args.transform false) pairs capacity in
    subst P (sym c.end_pairs_of.ensures.items) (others_stay_sound old.live old.pairs.items (vec_capacity old.pairs)
    capacity c.args.transform
    c.self.invariant c.end_pairs_of.ensures.capacity)
