-- Pairs of dependents where live automatic objects lie where they lay, and where manual blocks are freed: they are what they were.
use Rattle.std.proofs.Common.{◌≡◌, ◌∙◌, Bool, true, false, refl, sym, ap, List, [], ◌∷◌, map, Option, Some, None}
use Rattle.std.proofs.lemmas.Bool.{and_from, and_parts, eqb-true, false≢true}
use Rattle.std.specs.Prelude.{◌==◌, ◌&&◌, filter, if◌then◌else◌, not}
use Rattle.std.specs.List.{list_all}
use Rattle.std.specs.Option.{option_map_or}
use Rattle.mps_base.specs.Address.{Address, Id}
use Rattle.mps_laws.proofs.Dependents.{ArePaired}
use Rattle.mps_laws.proofs.Sound.SoundGraph.{IsSoundGraph, each-weaker}
use Rattle.mps_model.specs.Dependents.{may_depend}
use Rattle.mps_model.specs.Graph.{Body, Automatic, Manual, Object, entry_at, is_automatic, is_automatic_body, is_weak_body, is_weak_object, object_at, without_named}
use Rattle.mps_model.specs.WellFormed.{is_live_automatic, is_right_body, is_right_pair}
use Rattle.mps_model.specs.World.{World, Pool, PoolKind, AnySize, Collected, Frames, OneSize, is_automatic_kind, is_live, is_weak_kind, object_is, pool_at, pool_is}
use Rattle.mps_refinement.specs.Dependents.{kept_pair}
use Rattle.mps_refinement.proofs.Following.Pairs.{still_kept}
use Rattle.mps_refinement.proofs.Lookups.WordsInObjects.{body_of_kind}

-- ---- both objects of a pair are automatic

weak_automatic : (k : PoolKind) → is_weak_kind k ≡ true → is_automatic_kind k ≡ true
weak_automatic (Collected kind) weak = refl
weak_automatic (OneSize words) weak = absurd (false≢true weak)
weak_automatic AnySize weak = absurd (false≢true weak)
weak_automatic Frames weak = absurd (false≢true weak)

weak_body_automatic : (b : Body) → is_weak_body b ≡ true → is_automatic_body b ≡ true
weak_body_automatic (Automatic head cells is_weak) weak = refl
weak_body_automatic (Manual words) weak = absurd (false≢true weak)

all_stay : {X : Type 0} (keep : X → Bool) (xs : List X) → list_all keep xs ≡ true → filter keep xs ≡ xs
all_stay keep [] h = refl
all_stay keep (x ∷ xs) h =
    let parts = and_parts (keep x) (list_all keep xs) h in
    ap (λ b. if b then x ∷ filter keep xs else filter keep xs) parts.0 ∙ ap (λ rest. x ∷ rest) (all_stay keep xs parts.1)

module _ (w : World) (sound : IsSoundGraph w) (paired : ArePaired w) where
  abbrev pub is_automatic_pair : Id × Id → Bool
  is_automatic_pair p = is_live_automatic w p.0 && is_live_automatic w p.1

  dependent_automatic : (id : Id) (o : Object) → object_at w.graph id ≡ Some o → pool_is is_weak_kind w o.pool ≡ true
      → is_automatic o ≡ true
  dependent_automatic id o there weak =
      of_pool (pool_at w o.pool) (sound.objects id o there) weak
    where
      of_pool : (x : Option Pool) → option_map_or (λ p. is_right_body w p o.body) x false ≡ true
          → option_map_or (λ p. is_weak_kind p.kind) x false ≡ true → is_automatic o ≡ true
      of_pool None right kind = absurd (false≢true right)
      of_pool (Some q) right kind = body_of_kind w q o.body right ∙ weak_automatic q.kind kind

  pair_automatic : (p : Id × Id) → is_right_pair w p ≡ true → is_automatic_pair p ≡ true
  pair_automatic p right =
      let parts = and_parts (is_live w p.0) (is_live w p.1 && object_is (λ holder. object_is (may_depend w holder) w p.1) w p.0) right in
      let rest = and_parts (is_live w p.1) (object_is (λ holder. object_is (may_depend w holder) w p.1) w p.0) parts.1 in
      let both = of_holder (object_at w.graph p.0) rest.1 in
      and_from (is_live_automatic w p.0) (is_live_automatic w p.1)
      (and_from (is_live w p.0) (object_is is_automatic w p.0) parts.0 both.0)
      (and_from (is_live w p.1) (object_is is_automatic w p.1) rest.0 both.1)
    where
      of_dependent : (holder : Object) (x : Option Object) → object_at w.graph p.1 ≡ x
          → option_map_or (may_depend w holder) x false ≡ true
          → (is_automatic holder ≡ true) × (option_map_or is_automatic x false ≡ true)
      of_dependent holder None e may = absurd (false≢true may)
      of_dependent holder (Some d) e may =
          let first = and_parts (is_weak_object holder) (pool_is is_weak_kind w d.pool && not (is_weak_object d)) may in
          let second = and_parts (pool_is is_weak_kind w d.pool) (not (is_weak_object d)) first.1 in
          (weak_body_automatic holder.body first.0, dependent_automatic p.1 d e second.0)

      of_holder : (x : Option Object) → option_map_or (λ holder. object_is (may_depend w holder) w p.1) x false ≡ true
          → (option_map_or is_automatic x false ≡ true) × (object_is is_automatic w p.1 ≡ true)
      of_holder None may = absurd (false≢true may)
      of_holder (Some holder) may = of_dependent holder (object_at w.graph p.1) refl may

  pub pairs_automatic : list_all is_automatic_pair w.graph.dependents ≡ true
  pairs_automatic = each-weaker (is_right_pair w) is_automatic_pair pair_automatic w.graph.dependents paired

  -- ---- other objects move or are made, and manual blocks are freed

  pub pairs_still : (after : List (Option Address))
      → ((id : Id) → is_live_automatic w id ≡ true → entry_at after id ≡ entry_at w.addresses id)
      → map (kept_pair w.addresses) w.graph.dependents ≡ map (kept_pair after) w.graph.dependents
  pairs_still after same = sym (still_kept w.addresses after (is_live_automatic w) same w.graph.dependents pairs_automatic)

  -- a manual block is in none
  pub none_ends : (id : Id) → object_is is_automatic w id ≡ false → without_named w.graph.dependents id ≡ w.graph.dependents
  none_ends id manual =
      all_stay (λ p. not (p.0 == id) && not (p.1 == id)) w.graph.dependents
      (each-weaker is_automatic_pair (λ p. not (p.0 == id) && not (p.1 == id)) others w.graph.dependents pairs_automatic)
    where
      other : (j : Id) → is_live_automatic w j ≡ true → not (j == id) ≡ true
      other j passes = of_test (j == id) refl
        where
          of_test : (b : Bool) → (j == id) ≡ b → not b ≡ true
          of_test true e =
              absurd (false≢true (sym manual ∙ ap (object_is is_automatic w) (sym (eqb-true j id e))
              ∙ (and_parts (is_live w j) (object_is is_automatic w j) passes).1))
          of_test false e = refl

      others : (p : Id × Id) → is_automatic_pair p ≡ true → (not (p.0 == id) && not (p.1 == id)) ≡ true
      others p h =
          let both = and_parts (is_live_automatic w p.0) (is_live_automatic w p.1) h in
          and_from (not (p.0 == id)) (not (p.1 == id)) (other p.0 both.0) (other p.1 both.1)
