-- The calls that write into objects and manual blocks.
use Rattle.std.proofs.Common.{◌≡◌, ◌∙◌, ◌⊎◌, ℕ, true, false, refl, sym, ap, List, [], ◌++◌, length, Option, Some, None, subst, inl, inr, arith}
use Rattle.std.proofs.lemmas.Bool.{cases_eq}
use Rattle.std.proofs.lemmas.List.{length-replicate}
use Rattle.std.specs.Prelude.{slice_get, slice_set}
use Rattle.std.specs.List.{list_any}
use Rattle.std.specs.Option.{option_map_or}
use Rattle.mps_base.specs.Address.{Id}
use Rattle.mps_model.specs.Graph.{Object, Body, Automatic, Manual, Cell, contains, object_at, targets, targets_of, targets_of_cells, targets_of_body, is_automatic, is_automatic_body, is_weak_object, is_weak_body, size_of, size_of_body, ids_of_client, body_with_cells, object_with_cells, graph_with_cells}
use Rattle.mps_model.specs.World.{World, is_copying_pool, begins_in, reserved_extents}
use Rattle.mps_model.specs.Checked.{with_graph}
use Rattle.mps_model.specs.Allocating.{body_with_word, graph_with_word}
use Rattle.mps_model.specs.Caches.{body_cleared, graph_cleared}
use Rattle.mps_abstract.specs.Collecting.{Collecting, Running}
use Rattle.mps_abstract.proofs.Lists.{slice_get-set_same, slice_get-set_other, index_below}
use Rattle.mps_abstract.proofs.Calls.ClientChange.{IsChange, change_keeps}
use Rattle.mps_changes.proofs.Lookups.{length-slice_set}
use Rattle.mps_abstract.proofs.Calls.ClientCovered.{holds_still, extents_same}

-- an object as it was, but for what it refers to and for its numbers
pub record IsRewritten (held : Id → Type 0) (o q : Object) : Type 0 where
  pub pool : q.pool ≡ o.pool
  pub automatic : is_automatic q ≡ is_automatic o
  pub weak : is_weak_object q ≡ is_weak_object o
  pub size : size_of q ≡ size_of o
  pub referred : (t : Id) → contains (targets_of q) t ≡ true → (contains (targets_of o) t ≡ true) ⊎ held t

-- a test of objects that the two pass alike
pub written_passes : {A : Type 0} (test : Object → A) (otherwise : A) (os : List Object) (n id : Id) (o q : Object)
    → slice_get os n ≡ Some o
    → test q ≡ test o → option_map_or test (slice_get (slice_set os n q) id) otherwise ≡ option_map_or test (slice_get os id) otherwise
written_passes test otherwise os n id o q e same = elim (cases_eq n id) [
  | inl it ↦ ap (λ p. option_map_or test p otherwise)
      (subst (λ m. slice_get (slice_set os n q) m ≡ Some q) it (slice_get-set_same os n q (index_below os n o e)))
      ∙ same ∙ ap (λ p. option_map_or test p otherwise) (sym (subst (λ m. slice_get os m ≡ Some o) it e))
  | inr other ↦ ap (λ p. option_map_or test p otherwise) (slice_get-set_other os n id q other)
]

module _ (x : Collecting) (run : Running x) where
  abbrev w : World
  w = x.world

  abbrev P : World → Type 0
  P v = Running (record x { world = v })

  abbrev IsHeld : Id → Type 0
  IsHeld id = contains (ids_of_client w.graph) id ≡ true

  module _ (n : Id) (o q : Object) (there : object_at w.graph n ≡ Some o) (r : IsRewritten IsHeld o q) where
    abbrev rewritten : World
    rewritten = record w { graph = record w.graph { objects = slice_set w.graph.objects n q } }

    now_refers : (id t : Id) → contains (targets rewritten.graph id) t ≡ true → (contains (targets w.graph id) t ≡ true) ⊎ IsHeld t
    now_refers id t h = elim (cases_eq n id) [
      | inl it ↦ elim (r.referred t (ap (λ p. contains (option_map_or targets_of p []) t)
          (sym (subst (λ m. slice_get (slice_set w.graph.objects n q) m ≡ Some q) it
          (slice_get-set_same w.graph.objects n q (index_below w.graph.objects n o there)))) ∙ h)) [
            | inl old ↦ inl (ap (λ p. contains (option_map_or targets_of p []) t)
                (subst (λ m. slice_get w.graph.objects m ≡ Some o) it there) ∙ old)
            | inr held ↦ inr held
          ]
      | inr other ↦ inl (ap (λ p. contains (option_map_or targets_of p []) t) (sym (slice_get-set_other w.graph.objects n id q other)) ∙ h)
    ]

    rewritten_change : IsChange x rewritten
    rewritten_change = record {
      runs = run.runs;
      different = run.different;
      existing = let same = length-slice_set w.graph.objects n q in omega (arith, same);
      automatic = λ id h. written_passes is_automatic false w.graph.objects n id o q there r.automatic ∙ h;
      weak = λ id h. written_passes is_weak_object false w.graph.objects n id o q there r.weak ∙ h;
      copying = λ id is h. sym (written_passes (λ p. is_copying_pool w p.pool) false w.graph.objects n id o q there
          (ap (is_copying_pool w) r.pool)) ∙ h;
      automatic_pools = λ pool h. h;
      live_still = λ id h used. h;
      live_before = λ id h. inl h;
      referred = λ id t h refers. elim (now_refers id t refers) [ inl old ↦ inl (h, old) | inr held ↦ inr held ];
      held = λ id h. inl h;
      registered = refl;
      addresses = λ id at is e. e;
      segments = λ base s is e. e;
      base_of = λ id at is e in_condemned. refl;
      holds = λ base is h. holds_still w rewritten base refl
          (λ s e any. ap (λ es. list_any (begins_in s) (es ++ reserved_extents w.graph.points w.point_memories))
          (extents_same (begins_in s) w.graph.objects w.addresses n o q there r.size) ∙ any) h;
    }

    pub rewritten_keeps : P rewritten
    rewritten_keeps = change_keeps x run rewritten rewritten_change

  -- ---- cells

  -- a change of the cells of an object: as many, which refer to nothing new but what the client holds
  pub record IsRight (change : List Cell → List Cell) : Type 0 where
    pub as_many : (cells : List Cell) → length (change cells) ≡ length cells
    pub referred : (cells : List Cell) (t : Id) → contains (targets_of_cells (change cells)) t ≡ true
        → (contains (targets_of_cells cells) t ≡ true) ⊎ IsHeld t

  with_cells : (change : List Cell → List Cell) (o : Object) → IsRight change → IsRewritten IsHeld o (object_with_cells o change)
  with_cells change o right = record {
    pool = refl;
    automatic = automatic_so o.body;
    weak = weak_so o.body;
    size = size_so o.body;
    referred = λ t h. refers_so o.body t h;
  }
    where
      automatic_so : (b : Body) → is_automatic_body (body_with_cells b change) ≡ is_automatic_body b
      automatic_so (Automatic head cells is_weak) = refl
      automatic_so (Manual words) = refl

      weak_so : (b : Body) → is_weak_body (body_with_cells b change) ≡ is_weak_body b
      weak_so (Automatic head cells is_weak) = refl
      weak_so (Manual words) = refl

      size_so : (b : Body) → size_of_body (body_with_cells b change) ≡ size_of_body b
      size_so (Automatic head cells is_weak) = right.as_many cells
      size_so (Manual words) = refl

      refers_so : (b : Body) (t : Id) → contains (targets_of_body (body_with_cells b change)) t ≡ true
          → (contains (targets_of_body b) t ≡ true) ⊎ IsHeld t
      refers_so (Automatic head cells is_weak) t h = right.referred cells t h
      refers_so (Manual words) t h = inl h

  -- the cells of an object are changed
  pub with_cells_keeps : (id : Id) (change : List Cell → List Cell) → IsRight change → P (with_graph w (graph_with_cells w.graph id change))
  with_cells_keeps id change right = of_object (object_at w.graph id) refl
    where
      of_object : (o : Option Object) → object_at w.graph id ≡ o
          → P (with_graph w (record w.graph {
            objects = option_map_or
                (λ p. slice_set w.graph.objects id (object_with_cells p change)) o w.graph.objects;
          }))
      of_object None e = run
      of_object (Some o) e = rewritten_keeps id o (object_with_cells o change) e (with_cells change o right)

  -- ---- words of manual blocks

  with_word_so : (o : Object) (k value : ℕ) → IsRewritten IsHeld o (record o { body = body_with_word o.body k value })
  with_word_so o k value = record {
    pool = refl;
    automatic = automatic_so o.body;
    weak = weak_so o.body;
    size = size_so o.body;
    referred = λ t h. inl (refers_so o.body t h);
  }
    where
      automatic_so : (b : Body) → is_automatic_body (body_with_word b k value) ≡ is_automatic_body b
      automatic_so (Automatic head cells is_weak) = refl
      automatic_so (Manual words) = refl

      weak_so : (b : Body) → is_weak_body (body_with_word b k value) ≡ is_weak_body b
      weak_so (Automatic head cells is_weak) = refl
      weak_so (Manual words) = refl

      size_so : (b : Body) → size_of_body (body_with_word b k value) ≡ size_of_body b
      size_so (Automatic head cells is_weak) = refl
      size_so (Manual words) = length-slice_set words k value

      refers_so : (b : Body) (t : Id) → contains (targets_of_body (body_with_word b k value)) t ≡ true
          → contains (targets_of_body b) t ≡ true
      refers_so (Automatic head cells is_weak) t h = h
      refers_so (Manual words) t h = h

  pub with_word_keeps : (id k value : ℕ) → P (with_graph w (graph_with_word w.graph id k value))
  with_word_keeps id k value = of_object (object_at w.graph id) refl
    where
      of_object : (o : Option Object) → object_at w.graph id ≡ o
          → P (with_graph w (record w.graph {
            objects = option_map_or (λ p. slice_set w.graph.objects id (record p { body = body_with_word p.body k value })) o
                w.graph.objects;
          }))
      of_object None e = run
      of_object (Some o) e = rewritten_keeps id o (record o { body = body_with_word o.body k value }) e (with_word_so o k value)

  -- a manual block is cleared
  cleared_so : (o : Object) → IsRewritten IsHeld o (record o { body = body_cleared o.body })
  cleared_so o = record {
    pool = refl;
    automatic = automatic_so o.body;
    weak = weak_so o.body;
    size = size_so o.body;
    referred = λ t h. inl (refers_so o.body t h);
  }
    where
      automatic_so : (b : Body) → is_automatic_body (body_cleared b) ≡ is_automatic_body b
      automatic_so (Automatic head cells is_weak) = refl
      automatic_so (Manual words) = refl

      weak_so : (b : Body) → is_weak_body (body_cleared b) ≡ is_weak_body b
      weak_so (Automatic head cells is_weak) = refl
      weak_so (Manual words) = refl

      size_so : (b : Body) → size_of_body (body_cleared b) ≡ size_of_body b
      size_so (Automatic head cells is_weak) = refl
      size_so (Manual words) = length-replicate (length words) 0

      refers_so : (b : Body) (t : Id) → contains (targets_of_body (body_cleared b)) t ≡ true → contains (targets_of_body b) t ≡ true
      refers_so (Automatic head cells is_weak) t h = h
      refers_so (Manual words) t h = h

  pub cleared_keeps : (id : ℕ) → P (with_graph w (graph_cleared w.graph id))
  cleared_keeps id = of_object (object_at w.graph id) refl
    where
      of_object : (o : Option Object) → object_at w.graph id ≡ o
          → P (with_graph w (record w.graph {
            objects = option_map_or (λ p. slice_set w.graph.objects id (record p { body = body_cleared p.body })) o w.graph.objects;
          }))
      of_object None e = run
      of_object (Some o) e = rewritten_keeps id o (record o { body = body_cleared o.body }) e (cleared_so o)
