-- The calls that make chains, pools and dependencies, and those on the arena itself.
use Rattle.std.proofs.Common.{◌≡◌, ◌∙◌, ℕ, zero, suc, Bool, true, false, refl, sym, ap, List, [], ◌∷◌, Option, Some, None, subst, inl}
use Rattle.std.proofs.lemmas.Bool.{false≢true, and_parts}
use Rattle.std.proofs.lemmas.Option.{none-some, same_Some}
use Rattle.std.specs.Prelude.{slice_get}
use Rattle.std.specs.List.{list_all}
use Rattle.std.specs.Option.{option_map_or}
use Rattle.mps_base.specs.Address.{Id}
use Rattle.mps_base.specs.declared.names.Name.{Name}
use Rattle.mps_model.specs.Graph.{Object, Cache, PoolFrames, Slots, with_last, object_at}
use Rattle.mps_model.specs.World.{World, Pool, PoolKind, is_automatic_kind, is_copying_kind, is_copying_pool, is_copying_object}
use Rattle.mps_model.specs.Making.{with_pool}
use Rattle.mps_model.specs.WellFormed.{IsWellFormed, is_right_object, is_right_body}
use Rattle.mps_changes.specs.Change.{with_aside}
use Rattle.mps_abstract.specs.Collecting.{Collecting, Running}
use Rattle.mps_abstract.proofs.Calls.ClientBeside.{beside_keeps}

-- ---- lists

pub list_all-at : {X : Type 0} (test : X → Bool) (xs : List X) (i : ℕ) (y : X) → list_all test xs ≡ true → slice_get xs i ≡ Some y
    → test y ≡ true
list_all-at test [] i y all e = absurd (none-some y e)
list_all-at test (z ∷ zs) zero y all e = subst (λ v. test v ≡ true) (same_Some z y e) (and_parts (test z) (list_all test zs) all).0
list_all-at test (z ∷ zs) (suc i) y all e = list_all-at test zs i y (and_parts (test z) (list_all test zs) all).1 e

-- what stood in a list stands in it after one more was made
pub slice_get-last : {X : Type 0} (xs : List X) (x : X) (i : ℕ) (y : X) → slice_get xs i ≡ Some y → slice_get (with_last xs x) i ≡ Some y
slice_get-last [] x i y e = absurd (none-some y e)
slice_get-last (z ∷ zs) x zero y e = e
slice_get-last (z ∷ zs) x (suc i) y e = slice_get-last zs x i y e

-- a pool that there was passes the tests that it passed
pool_still : (test : PoolKind → Bool) (pools : List Pool) (p : Pool) (number : ℕ) (b : Bool)
    → option_map_or (λ q. test q.kind) (slice_get pools number) b ≡ true
    → (b ≡ true → ⊥) → option_map_or (λ q. test q.kind) (slice_get (with_last pools p) number) b ≡ true
pool_still test pools p number b h not_b = of_pool (slice_get pools number) refl h
  where
    of_pool : (o : Option Pool) → slice_get pools number ≡ o → option_map_or (λ q. test q.kind) o b ≡ true
        → option_map_or (λ q. test q.kind) (slice_get (with_last pools p) number) b ≡ true
    of_pool None e g = absurd (not_b g)
    of_pool (Some q) e g = ap (λ o. option_map_or (λ q. test q.kind) o b) (slice_get-last pools p number q e) ∙ g

-- and no others, where it was there
pool_before : (test : PoolKind → Bool) (pools : List Pool) (p : Pool) (number : ℕ) (q : Pool) → slice_get pools number ≡ Some q
    → option_map_or (λ q. test q.kind) (slice_get (with_last pools p) number) false ≡ option_map_or (λ q. test q.kind)
    (slice_get pools number) false
pool_before test pools p number q e =
    ap (λ o. option_map_or (λ q. test q.kind) o false) (slice_get-last pools p number q e ∙ sym e)

-- each object is of a pool that there is
pool_of_object : (w : World) (o : Object) → is_right_object w o ≡ true → (q : Pool) × (slice_get w.pools o.pool ≡ Some q)
pool_of_object w o h = of_pool (slice_get w.pools o.pool) refl h
  where
    of_pool : (p : Option Pool) → slice_get w.pools o.pool ≡ p → option_map_or (λ p. is_right_body w p o.body) p false ≡ true
        → (q : Pool) × (slice_get w.pools o.pool ≡ Some q)
    of_pool None e g = absurd (false≢true g)
    of_pool (Some q) e g = (q, e)

module _ (x : Collecting) (run : Running x) where
  abbrev w : World
  w = x.world

  abbrev P : World → Type 0
  P v = Running (record x { world = v })

  -- a world with what no collection looks at of another, and with these tables of blocks, caches and frames
  abbrev pub beside : (u : World) → List Slots → List Cache → List PoolFrames → World
  beside u blocks caches frames =
      let v = with_aside w u in record v { graph = record v.graph { blocks = blocks; caches = caches; frames = frames } }

  pub aside_keeps : (u : World) (blocks : List Slots) (caches : List Cache) (frames : List PoolFrames) → P (beside u blocks caches frames)
  aside_keeps u blocks caches frames = beside_keeps x run (beside u blocks caches frames) (record {
    copying = λ id is h. h;
    automatic_pools = λ pool h. h;
    held = λ id h. inl h;
    holds = λ base h. h;
  })

  -- ---- pools

  module _ (formed : IsWellFormed w) where
    copying_still : (p : Pool) (id : Id) → is_copying_object (record w { pools = with_last w.pools p }) id ≡ true
        → is_copying_object w id ≡ true
    copying_still p id h = of_object (object_at w.graph id) refl h
      where
        of_object : (o : Option Object) → object_at w.graph id ≡ o
            → option_map_or (λ q. is_copying_pool (record w { pools = with_last w.pools p }) q.pool) o false ≡ true
            → is_copying_object w id ≡ true
        of_object None e g = absurd (false≢true g)
        of_object (Some o) e g =
            let q = pool_of_object w o (list_all-at (is_right_object w) w.graph.objects id o formed.objects e) in
            ap (λ r. option_map_or (λ (b : Object). is_copying_pool w b.pool) r false) e
            ∙ (sym (pool_before is_copying_kind w.pools p o.pool q.0 q.1) ∙ g)

    pub with_pool_keeps : (name : Name) (p : Pool) → P (with_pool w name p)
    with_pool_keeps name p = beside_keeps x run (with_pool w name p) (record {
      copying = λ id is h. copying_still p id h;
      automatic_pools = λ pool h. pool_still is_automatic_kind w.pools p pool false h false≢true;
      held = λ id h. inl h;
      holds = λ base h. h;
    })
