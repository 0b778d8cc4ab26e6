-- A block that is taken from a cache: it has as many words as its class says, which are cleared, and stands in no place.
use Rattle.std.proofs.Common.{◌≡◌, ℕ, ◌+◌, ◌≤◌, Bool, true, false, refl, sym, ◌∙◌, ap, List, [], ◌∷◌, length, Option, Some, None, arith}
use Rattle.std.proofs.lemmas.Bool.{and_parts, eq-eqb, eqb-true, true≢false}
use Rattle.std.specs.Prelude.{◌==◌, ◌&&◌, ◌||◌, if◌then◌else◌, not, option_map, replicate, slice_get}
use Rattle.std.specs.Option.{option_map_or}
use Rattle.std.specs.List.{list_all}
use Rattle.mps_base.specs.Address.{Id}
use Rattle.mps_model.specs.Allocating.{words_at}
use Rattle.mps_model.specs.Caches.{body_cleared, graph_cleared, may_have_cache, taken_from, with_classes}
use Rattle.mps_model.specs.Checked.{Numbered, words_of_body}
use Rattle.mps_model.specs.Graph.{Automatic, Body, Cache, CacheClass, Graph, Manual, Object, contains, ids_in_caches, ids_in_places, is_automatic, is_automatic_body, object_at, occurrences, size_of, size_of_body}
use Rattle.mps_model.specs.WellFormed.{is_right_block, is_right_cache, is_right_class}
use Rattle.mps_model.specs.World.{World, pool_is}
use Rattle.mps_changes.proofs.OneMore.{HasOneMore, cache_less, less_pass, occurrences-append, occurs_more}
use Rattle.mps_laws.proofs.Caches.{AreRightCaches}
use Rattle.mps_laws.proofs.TakenBlocks.{taken_right}
use Rattle.mps_laws.proofs.OnePlace.{AreInOnePlace}
use Rattle.mps_laws.proofs.Sound.SoundGraph.{IsSoundGraph, each-at, manual, manual_parts}
use Rattle.mps_client_laws.proofs.Cells.{object_cleared, others_stay, this_is_changed}

-- the words of an object, if there is one
abbrev pub words_found : Option Object → List ℕ
words_found o = option_map_or (λ (x : Object). words_of_body x.body) o []

contained_occurs : (ids : List ℕ) (id : ℕ) → contains ids id ≡ true → 1 ≤ occurrences ids id
contained_occurs [] id h = absurd (true≢false (sym h))
contained_occurs (n ∷ ns) id h = of_test (n == id) h (contained_occurs ns id)
  where
    of_test : (b : Bool) → (b || contains ns id) ≡ true → (contains ns id ≡ true → 1 ≤ occurrences ns id)
        → 1 ≤ (if b then 1 else 0) + occurrences ns id
    of_test true h later = omega arith
    of_test false h later = let rest = later h in omega (arith, rest)

module _ (w : World) (cached : AreRightCaches w) (sound : IsSoundGraph w) (are : AreInOnePlace w) (q : Numbered Cache)
    (has : slice_get w.graph.caches q.number ≡ Some q.value) (words : ℕ) (id : Id) (left : List CacheClass)
    (taken : taken_from q.value.classes words ≡ Some (id, left)) where
  one_less : HasOneMore id (ids_in_caches (with_classes w.graph q left)) (ids_in_caches w.graph)
  one_less = cache_less w.graph q has words id left taken

  is_right : is_right_block w q.value.pool words id ≡ true
  is_right =
      taken_right w q.value.pool words q.value.classes id left
      (and_parts (pool_is may_have_cache w q.value.pool) (list_all (is_right_class w q.value.pool) q.value.classes)
      (each-at (is_right_cache w) w.graph.caches q.number q.value cached has)).1
      taken

  is_manual : manual w id ≡ true
  is_manual = (less_pass (manual w) one_less (manual_parts w sound).1).0

  pub words_taken : length (words_at w.graph id) ≡ words
  words_taken = of_object (object_at w.graph id) is_manual is_right
    where
      of_object : (o : Option Object) → option_map_or (λ x. not (is_automatic x)) o false ≡ true
          → option_map_or (λ x. x.pool == q.value.pool && size_of x == words) o false ≡ true
          → length (words_found o) ≡ words
      of_object None is right = absurd (true≢false (sym is))
      of_object (Some x) is right =
          of_body x.body is (eqb-true (size_of x) words (and_parts (x.pool == q.value.pool) (size_of x == words) right).1)
        where
          of_body : (b : Body) → not (is_automatic_body b) ≡ true
              → size_of_body b ≡ words → length (words_of_body b) ≡ words
          of_body (Automatic head cells is_weak) is size = absurd (true≢false (sym is))
          of_body (Manual ws) is size = size

  pub in_no_place : (other : Id) → contains (ids_in_places w.graph) other ≡ true → id ≡ other → ⊥
  in_no_place other there same =
      let placed = contained_occurs (ids_in_places w.graph) id (ap (contains (ids_in_places w.graph)) same ∙ there) in
      let all = occurrences-append id (ids_in_places w.graph) (ids_in_caches w.graph) in
      let more : occurrences (ids_in_caches w.graph) id ≡ occurrences (ids_in_caches (with_classes w.graph q left)) id + 1 =
      occurs_more id one_less
      ∙ ap (λ b. occurrences (ids_in_caches (with_classes w.graph q left)) id + (if b then 1 else 0)) (eq-eqb id id refl) in
      let once = are.once id in
      omega (arith, placed, all, more, once)

-- ---- its words are cleared

pub cleared_words : (g : Graph) (id : Id) → words_at (graph_cleared g id) id ≡ replicate (length (words_at g id)) 0
cleared_words g id = ap words_found (this_is_changed g.objects id object_cleared) ∙ of_object (object_at g id)
  where
    of_body : (b : Body) → words_of_body (body_cleared b) ≡ replicate (length (words_of_body b)) 0
    of_body (Automatic head cells is_weak) = refl
    of_body (Manual words) = refl

    of_object : (o : Option Object) → words_found (option_map object_cleared o) ≡ replicate (length (words_found o)) 0
    of_object None = refl
    of_object (Some x) = of_body x.body

pub words_beside : (g : Graph) (id other : Id) → (id ≡ other → ⊥) → words_at (graph_cleared g id) other ≡ words_at g other
words_beside g id other differs = ap words_found (others_stay g.objects id other object_cleared differs)
