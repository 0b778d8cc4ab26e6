-- Whether a collection moves an object, after objects were written and made: it goes by the object's pool, which stays.
use Rattle.std.proofs.Common.{◌≡◌, ◌∙◌, ℕ, ◌+◌, Bool, true, false, true≢false, refl, sym, ap, List, Option, Some}
use Rattle.std.proofs.lemmas.Bool.{and_parts, eqb-true}
use Rattle.std.proofs.lemmas.Option.{same_Some}
use Rattle.std.specs.Prelude.{◌==◌, not, slice_get, option_map}
use Rattle.std.specs.List.{list_all}
use Rattle.std.specs.Option.{option_map_or}
use Rattle.mps_base.specs.Address.{Address, Id, word_of, address_of_word}
use Rattle.mps_base.specs.Segment.{Segment, segment_over}
use Rattle.mps_laws.proofs.Lookups.{slice_get-kept}
use Rattle.mps_laws.proofs.Sound.SoundGraph.{all-weaker}
use Rattle.mps_model.proofs.Reaching.{list_all-contains}
use Rattle.mps_model.specs.Checked.{with_graph}
use Rattle.mps_model.specs.Graph.{Object, contains, entry_at, is_automatic, with_last}
use Rattle.mps_model.specs.WellFormed.{IsWellFormed, is_live_automatic}
use Rattle.mps_model.specs.World.{World, ids_in_pairs, is_copying_object, is_copying_pool, is_live, object_is}
use Rattle.mps_seg.specs.Segs.{SegsState}
use Rattle.mps_refinement.specs.StandsFor.{StandsAt, Time}

-- an object of the same pool
pub same_kind : (test : ℕ → Bool) (os ps : List Object) (id : Id) (o p : Object) → slice_get os id ≡ Some o → slice_get ps id ≡ Some p
    → p.pool ≡ o.pool
    → option_map_or (λ (x : Object). test x.pool) (slice_get ps id) false
    ≡ option_map_or (λ (x : Object). test x.pool) (slice_get os id) false
same_kind test os ps id o p was now same =
    ap (λ (x : Option Object). option_map_or (λ (y : Object). test y.pool) x false) now ∙ ap test same
    ∙ sym (ap (λ (x : Option Object). option_map_or (λ (y : Object). test y.pool) x false) was)

-- one that was there before another was made
pub kind_with_last : (test : ℕ → Bool) (os : List Object) (new : Object) (id : Id) (o : Object) → slice_get os id ≡ Some o
    → option_map_or (λ (x : Object). test x.pool) (slice_get (with_last os new) id) false
    ≡ option_map_or (λ (x : Object). test x.pool) (slice_get os id) false
kind_with_last test os new id o was = same_kind test os (with_last os new) id o o was (slice_get-kept os new o id was) refl

-- one for which the same segments stand, whatever its words are
pub kinds_by_images : (t : Time) (s now : SegsState) (w : World) (objects : List Object) → now.segments ≡ s.segments → StandsAt t s w
    → StandsAt t now (with_graph w (record w.graph { objects = objects })) → (id : Id) (at : Address) → entry_at w.addresses id ≡ Some at
    → is_copying_object (with_graph w (record w.graph { objects = objects })) id ≡ is_copying_object w id
kinds_by_images t s now w objects segments image image_now id at there =
    let placed = image.placed in
    let placed_now = image_now.placed in
    let o = placed.exists id at there in
    let p = placed_now.exists id at there in
    let was = placed.home id 0 o.0 (word_of at + 0) (record {
      at = at;
      address = there;
      object = o.1;
      within = placed.positive id at o.0 there o.1;
      is = refl;
    }) in
    let is = placed_now.home id 0 p.0 (word_of at + 0) (record {
      at = at;
      address = there;
      object = p.1;
      within = placed_now.positive id at p.0 there p.1;
      is = refl;
    }) in
    same_kind (is_copying_pool w) w.graph.objects objects id o.0 p.0 o.1 p.1
    (same_Some p.0.pool o.0.pool (sym is
    ∙ ap (λ (ss : List Segment). option_map (λ (x : Segment). x.pool) (segment_over ss (address_of_word (word_of at + 0)))) segments ∙ was))

-- objects in pairs of transforms are automatic
pub paired_automatic : (w : World) → IsWellFormed w → (id : Id) → contains (ids_in_pairs w.state) id ≡ true
    → object_is is_automatic w id ≡ true
paired_automatic w formed id there =
    (and_parts (is_live w id) (object_is is_automatic w id)
    (list_all-contains (is_live_automatic w) (ids_in_pairs w.state) id formed.transforms there)).1

-- so none of them is a manual block
pub manual_unpaired : (w : World) → IsWellFormed w → (id : Id) → object_is is_automatic w id ≡ false
    → list_all (λ j. not (id == j)) (ids_in_pairs w.state) ≡ true
manual_unpaired w formed id manual =
    all-weaker (is_live_automatic w) (λ j. not (id == j)) (λ j passes. apart j (id == j) refl passes)
    (ids_in_pairs w.state) formed.transforms
  where
    apart : (j : Id) (b : Bool) → (id == j) ≡ b → is_live_automatic w j ≡ true → not (id == j) ≡ true
    apart j true e passes =
        absurd (true≢false (sym (and_parts (is_live w j) (object_is is_automatic w j) passes).1
        ∙ ap (object_is is_automatic w) (sym (eqb-true id j e)) ∙ manual))
    apart j false e passes = ap not e
