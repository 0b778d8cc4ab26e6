-- What the act of a call leaves of a world: where objects lie, what moves are judged by, and the dependencies.
use Rattle.std.proofs.Common.{◌≡◌, ◌⊎◌, inl, inr, ℕ, zero, suc, Bool, true, false, true≢false, refl, sym, ◌∙◌, ap, List, [], ◌∷◌, append-nil, map, Option, Some, None}
use Rattle.std.proofs.lemmas.List.{map-append}
use Rattle.std.proofs.lemmas.Option.{same_Some}
use Rattle.std.specs.Prelude.{replicate, slice_get, slice_set, option_map}
use Rattle.std.specs.Option.{option_map_or}
use Rattle.mps_model.specs.declared.call.Call.{Call}
use Rattle.mps_model.specs.declared.call.Call.TheVariants as call
use Rattle.mps_model.specs.Graph.{Graph, Object, Manual, Cell, object_at, graph_with_cells, object_with_cells, with_last, with_target_cell}
use Rattle.mps_model.specs.Collection.{Collection}
use Rattle.mps_model.specs.World.{World}
use Rattle.mps_model.specs.Allocating.{body_with_word, graph_with_word, reserved_address, committed_object}
use Rattle.mps_model.specs.Caches.{body_cleared, graph_cleared}
use Rattle.mps_model.specs.Collecting.{without_registration}
use Rattle.mps_model.specs.Reply.{act}
use Rattle.mps_model.specs.Transforms.{pairs_of}
pub use Rattle.mps_changes.specs.Change.{ForAct, accepted, refused, changes_dependencies, changes_points}
pub use Rattle.mps_changes.proofs.Checks.{andthen}
use Rattle.mps_changes.proofs.AsideFacts.{aside_is}
use Rattle.mps_changes.specs.Change.{Change, Aside, CellsAre, BlockWordIs, Allocated, PoolMade, PointMade, PointDropped, Opened, Written, Closed, Committed, Substituted, Unregistered, allocates, BlockUncached}
use Rattle.mps_changes.proofs.ActChanges.{of_changes, but}
use Rattle.mps_laws.proofs.Entries.{GoesOn}
use Rattle.mps_laws.proofs.Sound.Substituting.{owners_substituted}
use Rattle.mps_model.specs.Effect.{graph_nulled, graph_splatted}
use Rattle.mps_model.proofs.Nulled.{splatted_holds}

-- ---- what an act leaves

-- the number of each object's pool
abbrev pub owners : Graph → List ℕ
owners g = map (λ (o : Object). o.pool) g.objects

-- the running collection is as it was, or one registration less lies before its positions
abbrev pub IsCollectionLeft : (before after : Option Collection) → Type 0
IsCollectionLeft before after = (after ≡ before) ⊎ ((position : ℕ) × (after ≡ option_map (without_registration position) before))

-- a call that may make an object
abbrev pub makes_objects : Call → Bool
makes_objects (call.Commit point target) = true
makes_objects (call.Alloc pool words place) = true
makes_objects (call.CacheAlloc cache words place) = true
makes_objects _ = false

allocating : (c : Call) → allocates c ≡ true → makes_objects c ≡ true
allocating (call.Alloc pool words place) h = refl
allocating (call.CacheAlloc cache words place) h = refl
allocating _ h = absurd (true≢false (sym h))

pub record Leaves (c : Call) (before after : World) : Type 0 where
  pub addresses : GoesOn before.addresses after.addresses
  pub pools : GoesOn before.pools after.pools
  pub owned : GoesOn (owners before.graph) (owners after.graph)
  pub flips : after.flips ≡ before.flips
  pub collection : IsCollectionLeft before.collection after.collection
  pub dependencies : changes_dependencies c ≡ false → after.dependencies ≡ before.dependencies
  pub points : changes_points c ≡ false → after.graph.points ≡ before.graph.points
  pub objects : makes_objects c ≡ false → owners after.graph ≡ owners before.graph

same : {X : Type 0} (before after : List X) → after ≡ before → GoesOn before after
same before after e = ([], e ∙ sym (append-nil before))

one_more : {X : Type 0} (xs : List X) (x : X) → GoesOn xs (with_last xs x)
one_more xs x = (x ∷ [], refl)

owners-set : (os : List Object) (id : ℕ) (old new : Object) → slice_get os id ≡ Some old → new.pool ≡ old.pool
    → map (λ (o : Object). o.pool) (slice_set os id new) ≡ map (λ (o : Object). o.pool) os
owners-set [] id old new there pool = refl
owners-set (o ∷ os) zero old new there pool =
    ap (λ n. n ∷ map (λ (o : Object). o.pool) os) (pool ∙ ap (λ (x : Object). x.pool) (sym (same_Some o old there)))
owners-set (o ∷ os) (suc id) old new there pool = ap (λ rest. o.pool ∷ rest) (owners-set os id old new there pool)

-- a change of cells leaves each object in its pool
pub owners-graph_with_cells : (g : Graph) (id : ℕ) (change : List Cell → List Cell) → owners (graph_with_cells g id change) ≡ owners g
owners-graph_with_cells g id change = by_case (object_at g id) refl
  where
    by_case : (o : Option Object) → object_at g id ≡ o
        → map (λ (x : Object). x.pool) (option_map_or (λ x. slice_set g.objects id (object_with_cells x change)) o g.objects) ≡ owners g
    by_case None e = refl
    by_case (Some o) e = owners-set g.objects id o (object_with_cells o change) e refl

pub owners-splatted : (g : Graph) (holder cell : ℕ) → owners (graph_splatted g holder cell) ≡ owners g
owners-splatted g holder cell =
    let first = owners-graph_with_cells g holder (λ cells. with_target_cell cells cell None) in
    splatted_holds (λ left. owners left ≡ owners g) g holder cell first (λ dependent.
    owners-graph_with_cells (graph_nulled g holder cell) dependent (λ cells. with_target_cell cells cell None) ∙ first)

pub owners-graph_with_word : (g : Graph) (id k value : ℕ) → owners (graph_with_word g id k value) ≡ owners g
owners-graph_with_word g id k value = by_case (object_at g id) refl
  where
    by_case : (o : Option Object) → object_at g id ≡ o
        → map (λ (x : Object). x.pool) (option_map_or (λ x. slice_set g.objects id
        (record x { body = body_with_word x.body k value })) o g.objects)
        ≡ owners g
    by_case None e = refl
    by_case (Some o) e = owners-set g.objects id o (record o { body = body_with_word o.body k value }) e refl

pub owners-graph_cleared : (g : Graph) (id : ℕ) → owners (graph_cleared g id) ≡ owners g
owners-graph_cleared g id = by_case (object_at g id) refl
  where
    by_case : (o : Option Object) → object_at g id ≡ o
        → map (λ (x : Object). x.pool) (option_map_or (λ x. slice_set g.objects id
        (record x { body = body_cleared x.body })) o g.objects)
        ≡ owners g
    by_case None e = refl
    by_case (Some o) e = owners-set g.objects id o (record o { body = body_cleared o.body }) e refl

module _ {c : Call} {v : World} where
  left_so : {u : World} → u.addresses ≡ v.addresses → u.pools ≡ v.pools → owners u.graph ≡ owners v.graph → u.flips ≡ v.flips
      → u.collection ≡ v.collection → u.dependencies ≡ v.dependencies
      → (changes_points c ≡ false → u.graph.points ≡ v.graph.points) → Leaves c v u
  left_so {u} addresses pools owned flips collection dependencies points = record {
    addresses = same v.addresses u.addresses addresses;
    pools = same v.pools u.pools pools;
    owned = same (owners v.graph) (owners u.graph) owned;
    flips = flips;
    collection = inl collection;
    dependencies = λ h. dependencies;
    points = points;
    objects = λ h. owned;
  }

  kept : {u : World} → u.addresses ≡ v.addresses → u.pools ≡ v.pools → owners u.graph ≡ owners v.graph → u.flips ≡ v.flips
      → u.collection ≡ v.collection → u.dependencies ≡ v.dependencies → u.graph.points ≡ v.graph.points → Leaves c v u
  kept addresses pools owned flips collection dependencies points =
      left_so addresses pools owned flips collection dependencies (λ h. points)

  pub change_leaves : {marked : Bool} {judged u : World} → Change marked c judged v u → Leaves c v u
  change_leaves (Aside u what) = record {
    addresses = same v.addresses v.addresses refl;
    pools = same v.pools v.pools refl;
    owned = same (owners v.graph) (owners v.graph) refl;
    flips = refl;
    collection = inl refl;
    dependencies = (aside_is what).dependencies;
    points = λ h. refl;
    objects = λ h. refl;
  }
  change_leaves (CellsAre object change held write) =
      kept refl refl (owners-graph_with_cells v.graph object.number change) refl refl refl refl
  change_leaves (BlockWordIs id k value) = kept refl refl (owners-graph_with_word v.graph id k value) refl refl refl refl
  change_leaves (BlockUncached name cache words into place id classes e is taken found empty) =
      kept refl refl (owners-graph_cleared v.graph id) refl refl refl refl
  change_leaves (Allocated p words place at is of kind size found empty) = record {
    addresses = one_more v.addresses (Some at);
    pools = same v.pools v.pools refl;
    owned = (_, map-append (λ (o : Object). o.pool) v.graph.objects (record { pool = p.number; body = Manual (replicate words 0) } ∷ []));
    flips = refl;
    collection = inl refl;
    dependencies = λ h. refl;
    points = λ h. refl;
    objects = λ h. absurd (true≢false (sym (allocating c is) ∙ h));
  }
  change_leaves (PoolMade name p e made) = record {
    addresses = same v.addresses v.addresses refl;
    pools = one_more v.pools p;
    owned = same (owners v.graph) (owners v.graph) refl;
    flips = refl;
    collection = inl refl;
    dependencies = λ h. refl;
    points = λ h. refl;
    objects = λ h. refl;
  }
  change_leaves (PointMade name pool of at_rank e is may) = left_so refl refl refl refl refl refl (λ h. but changes_points e refl h)
  change_leaves (PointDropped name p e is none) = left_so refl refl refl refl refl refl (λ h. but changes_points e refl h)
  change_leaves (Opened name head reserving p at e is there) = left_so refl refl refl refl refl refl (λ h. but changes_points e refl h)
  change_leaves (Written name p r change e there has lives write) =
      left_so refl refl refl refl refl refl (λ h. absurd (true≢false (sym e ∙ h)))
  change_leaves (Closed name target p r e there has ended) = left_so refl refl refl refl refl refl (λ h. but changes_points e refl h)
  change_leaves (Committed name target p r slot e there found has lives) = record {
    addresses = one_more v.addresses (Some (reserved_address v p.number));
    pools = same v.pools v.pools refl;
    owned = (_, map-append (λ (o : Object). o.pool) v.graph.objects (committed_object p.value r ∷ []));
    flips = refl;
    collection = inl refl;
    dependencies = λ h. refl;
    points = λ h. but changes_points e refl h;
    objects = λ h. but makes_objects e refl h;
  }
  change_leaves (Substituted name transform e is parked) =
      kept refl refl (owners_substituted (pairs_of v.state transform) v.graph.objects) refl refl refl refl
  change_leaves (Unregistered slot from object position e there is at) = record {
    addresses = same v.addresses v.addresses refl;
    pools = same v.pools v.pools refl;
    owned = same (owners v.graph) (owners v.graph) refl;
    flips = refl;
    collection = inr (position, refl);
    dependencies = λ h. refl;
    points = λ h. refl;
    objects = λ h. refl;
  }
  change_leaves _ = kept refl refl refl refl refl refl refl

pub act_leaves : (marked : Bool) (judged v : World) (c : Call) → ForAct (Leaves c v) (act marked judged v c)
act_leaves marked judged v c = of_changes marked judged v c (λ u change. change_leaves change)
