-- No object of a pool that copies is weak: where the graph is sound weak objects are those of pools with weak references.
use Rattle.std.proofs.Common.{◌≡◌, ◌∙◌, Bool, true, false, refl, sym, ap, Option, Some, None}
use Rattle.std.proofs.lemmas.Bool.{false≢true, true≢false, and_parts}
use Rattle.std.specs.Prelude.{◌&&◌, ◌||◌, not, slice_get}
use Rattle.std.specs.Option.{option_map_or}
use Rattle.mps_base.specs.Address.{Id}
use Rattle.mps_base.specs.declared.names.Kind.TheVariants as kind
use Rattle.mps_model.specs.Graph.{Body, Automatic, Manual, Object, is_weak_body, is_weak_object, object_at}
use Rattle.mps_model.specs.World.{World, Pool, PoolKind, Collected, OneSize, AnySize, Frames, is_automatic_kind, is_copying_kind, is_copying_object, is_copying_pool, is_weak_kind, object_is}
use Rattle.mps_model.specs.WellFormed.{are_right_cells, is_right_body}
use Rattle.mps_laws.proofs.Sound.SoundGraph.{IsSoundGraph}

copying_is_strong : (k : PoolKind) → is_copying_kind k ≡ true → is_weak_kind k ≡ false
copying_is_strong (Collected kind.Amc) copying = refl
copying_is_strong (Collected kind.Amcz) copying = refl
copying_is_strong (Collected kind.Ams) copying = refl
copying_is_strong (Collected kind.Lo) copying = refl
copying_is_strong (Collected kind.Awl) copying = absurd (false≢true copying)
copying_is_strong (OneSize words) copying = refl
copying_is_strong AnySize copying = refl
copying_is_strong Frames copying = refl

-- a weak object's pool may hold weak references
not_weak : (w : World) (q : Pool) (b : Body) → is_weak_kind q.kind ≡ false → is_right_body w q b ≡ true → is_weak_body b ≡ false
not_weak w q (Manual words) strong right = refl
not_weak w q (Automatic head cells is_weak) strong right = of_tests is_weak (is_weak_kind q.kind) strong
    (and_parts (is_automatic_kind q.kind && are_right_cells w q head cells) (not is_weak || is_weak_kind q.kind) right).1
  where
    of_tests : (b k : Bool) → k ≡ false → (not b || k) ≡ true → b ≡ false
    of_tests false k e h = refl
    of_tests true k e h = absurd (true≢false (sym h ∙ e))

module _ (w : World) (sound : IsSoundGraph w) where
  pub strong_object : (id : Id) (o : Object) → object_at w.graph id ≡ Some o → is_copying_pool w o.pool ≡ true → is_weak_object o ≡ false
  strong_object id o e copying = of_pool (slice_get w.pools o.pool) refl (sound.objects id o e)
    where
      of_pool : (x : Option Pool) → slice_get w.pools o.pool ≡ x → option_map_or (λ p. is_right_body w p o.body) x false ≡ true
          → is_weak_object o ≡ false
      of_pool None f right = absurd (false≢true right)
      of_pool (Some q) f right =
          let kind_is : is_copying_kind q.kind ≡ true =
          sym (ap (λ (x : Option Pool). option_map_or (λ p. is_copying_kind p.kind) x false) f) ∙ copying in
          not_weak w q o.body (copying_is_strong q.kind kind_is) right

  pub strong_moving : (id : Id) → is_copying_object w id ≡ true → object_is is_weak_object w id ≡ false
  strong_moving id copying = of_object (object_at w.graph id) refl
    where
      of_object : (x : Option Object) → object_at w.graph id ≡ x → object_is is_weak_object w id ≡ false
      of_object None e = ap (λ (x : Option Object). option_map_or is_weak_object x false) e
      of_object (Some o) e =
          ap (λ (x : Option Object). option_map_or is_weak_object x false) e
          ∙ strong_object id o e
          (sym (ap (λ (x : Option Object). option_map_or (λ (p : Object). is_copying_pool w p.pool) x false) e) ∙ copying)
