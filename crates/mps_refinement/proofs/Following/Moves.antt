-- What a move does where objects have dependents is what it does where none has one, and what it does besides.
use Rattle.std.proofs.Common.{◌≡◌, ◌∙◌, ℕ, Bool, true, false, refl, sym, ap, List, [], ◌∷◌, Option, Some, None, subst}
use Rattle.std.specs.Prelude.{if◌then◌else◌, option_and_then, option_map}
use Rattle.std.specs.Option.{option_map_or}
use Rattle.mps_base.specs.Address.{Address, Id}
use Rattle.mps_base.specs.Segment.{Segment, words_of_segment, without_segment}
use Rattle.mps_base.specs.declared.moves.Move.{Move}
use Rattle.mps_base.specs.declared.moves.Move.TheVariants as moves
use Rattle.mps_model.specs.Collection.{Collection}
use Rattle.mps_model.specs.Graph.{Object, contains, dependent_in, is_automatic, is_weak_object, without_first, without_named}
use Rattle.mps_model.specs.World.{World, id_at, is_copying_pool, object_is, with_tail}
use Rattle.mps_model.specs.Effect.{Condemnation, after_flip, after_free, after_moved, after_post, after_segment, after_splat, after_unseg, condemnation_of, giving_back, graph_posted, holding, placing, posting, reclaiming, registration_of, segment_base_of, segment_of_move, splatting, where_one, with_collection, without_object, world_after_move}
use Rattle.mps_refinement.specs.Following.{Following, clearing, ending, followed, following_move, objects_cleared, objects_nulled, paired_at_flip}
use Rattle.mps_refinement.proofs.Following.Cleared.{IgnoresTargets, cleared_alike, cleared_later, ignores_body}

-- ---- what a collection remembers

swap : (g h : Collection → Collection) → ((c : Collection) → g (h c) ≡ h (g c)) → (o : Option Collection)
    → option_map g (option_map h o) ≡ option_map h (option_map g o)
swap g h same None = refl
swap g h same (Some c) = ap Some (same c)

pub changed_follows : (w : World) (f : Following) (change : Collection → Collection)
    → ((c : Collection) → change (paired_at_flip f.at_flip c) ≡ paired_at_flip f.at_flip (change c))
    → with_collection (followed w f) change ≡ followed (with_collection w change) f
changed_follows w f change same =
    ap (λ (o : Option Collection). record (followed w f) { collection = o }) (swap change (paired_at_flip f.at_flip) same w.collection)

-- what is shown where no cell was cleared yet
pub none_cleared : (P : Following → Type 0) (f : Following) → f.cells ≡ []
    → P (record { pairs = f.pairs; cells = []; at_flip = f.at_flip }) → P f
none_cleared P f none p = subst (λ cells. P (record { pairs = f.pairs; cells = cells; at_flip = f.at_flip })) (sym none) p

-- ---- each move

segment_follows : (w : World) (f : Following) (s : Segment) → after_segment (followed w f) s ≡ followed (after_segment w s) f
segment_follows w f s =
    elim (is_copying_pool w s.pool) as (λ b.
    (if b then with_tail (holding (followed w f) s) s.pool s.generation (words_of_segment s) else holding (followed w f) s)
    ≡ followed (if b then with_tail (holding w s) s.pool s.generation (words_of_segment s) else holding w s) f) [
      | true ↦ refl
      | false ↦ refl
    ]

unseg_follows : (w : World) (f : Following) (base : Address) → after_unseg (followed w f) base ≡ followed (after_unseg w base) f
unseg_follows w f base =
    changed_follows (record w { segments = without_segment w.segments base }) f (giving_back base) (λ c.
    elim (contains c.condemned_segments base) as (λ b.
    (if b then reclaiming base
    (record (paired_at_flip f.at_flip c) { condemned_segments = without_first c.condemned_segments base })
    else paired_at_flip f.at_flip c)
    ≡ paired_at_flip f.at_flip
    (if b then reclaiming base (record c { condemned_segments = without_first c.condemned_segments base }) else c)) [
      | true ↦ refl
      | false ↦ refl
    ])

flip_follows : (w : World) (f : Following) (zones : ℕ) (what : Condemnation) → f.cells ≡ []
    → after_flip (followed w f) zones what ≡ followed (after_flip w zones what) (record f { at_flip = Some f.pairs })
flip_follows w f zones what none =
    none_cleared (λ g. after_flip (followed w g) zones what ≡ followed (after_flip w zones what) (record g { at_flip = Some g.pairs }))
    f none refl

moved_follows : (w : World) (f : Following) (id to : ℕ) → f.cells ≡ []
    → after_moved (followed w f) id to ≡ followed (after_moved w id to) f
moved_follows w f id to none =
    none_cleared (λ g. after_moved (followed w g) id to ≡ followed (after_moved w id to) g) f none
    (ap (λ (o : Option Collection). record
    (followed (after_moved w id to) (record { pairs = f.pairs; cells = []; at_flip = f.at_flip })) { collection = o })
    (swap (placing id) (paired_at_flip f.at_flip) (λ c. refl) w.collection))

post_follows : (w : World) (f : Following) (id : Id) → after_post (followed w f) id ≡ followed (after_post w id) f
post_follows w f id =
    changed_follows (record w { graph = graph_posted w.graph id }) f (posting id (registration_of w.graph id)) (λ c. refl)

pub automatic_ignores : IgnoresTargets is_automatic
automatic_ignores = ignores_body is_automatic (λ pool head is_weak cells cell. refl)

pub weak_ignores : IgnoresTargets is_weak_object
weak_ignores = ignores_body is_weak_object (λ pool head is_weak cells cell. refl)

free_follows : (w : World) (f : Following) (id at : ℕ)
    → after_free (followed w f) id at ≡ followed (after_free w id at) (record f { pairs = without_named f.pairs id })
free_follows w f id at =
    let g : Following = record f { pairs = without_named f.pairs id } in
    ap (λ (b : Bool). if b then with_collection (without_object (followed w f) id) (reclaiming (segment_base_of w at))
    else without_object (followed w f) id)
    (cleared_alike is_automatic false w.graph.objects f.cells id automatic_ignores)
    ∙ elim (object_is is_automatic w id) as (λ b.
    (if b then with_collection (without_object (followed w f) id) (reclaiming (segment_base_of w at))
    else without_object (followed w f) id)
    ≡ followed (if b then with_collection (without_object w id) (reclaiming (segment_base_of w at)) else without_object w id) g) [
      | true ↦ changed_follows (without_object w id) g (reclaiming (segment_base_of w at)) (λ c. refl)
      | false ↦ refl
    ]

-- a splat that leaves these objects
abbrev pub splatted_to : World → List Object → World
splatted_to w objects = with_collection (record w { graph = record w.graph { objects = objects } }) splatting

abbrev pub nulled_too : List Object → (cell : ℕ) → (dependent : Option ℕ) → List Object
nulled_too os cell dependent = option_map_or (λ d. objects_nulled os d cell) dependent os

module _ (w : World) (f : Following) (none_paired : w.graph.dependents ≡ []) (id cell : ℕ) where
  abbrev pub nulled : List Object
  nulled = objects_nulled w.graph.objects id cell

  pub splat_alone : after_splat w id cell ≡ splatted_to w nulled
  splat_alone = ap (λ (ps : List (Id × Id)). splatted_to w (nulled_too nulled cell (dependent_in ps id))) none_paired

  of_dependent : (o : Option ℕ)
      → splatted_to (followed w f) (nulled_too (objects_nulled (objects_cleared w.graph.objects f.cells) id cell) cell o)
      ≡ followed (splatted_to w nulled) (clearing cell o f)
  of_dependent None =
      ap (splatted_to (followed w f)) (sym (cleared_later w.graph.objects id cell f.cells))
      ∙ changed_follows (record w { graph = record w.graph { objects = nulled } }) f splatting (λ c. refl)
  of_dependent (Some d) =
      ap (λ (os : List Object). splatted_to (followed w f) (objects_nulled os d cell)) (sym (cleared_later w.graph.objects id cell f.cells))
      ∙ changed_follows (record w { graph = record w.graph { objects = nulled } }) (record f { cells = (d, cell) ∷ f.cells }) splatting
      (λ c. refl)

  splat_follows : after_splat (followed w f) id cell ≡ followed (after_splat w id cell) (clearing cell (dependent_in f.pairs id) f)
  splat_follows =
      of_dependent (dependent_in f.pairs id)
      ∙ ap (λ (v : World). followed v (clearing cell (dependent_in f.pairs id) f)) (sym splat_alone)

-- ---- a move

-- whether a move looks at objects that a collection may have cleared by then
abbrev pub needs_none : Move → Bool
needs_none (moves.Moved from to) = true
needs_none (moves.Flip zones chain generation) = true
needs_none _ = false

one_follows : (w : World) (f : Following) (now before : ℕ → World) → ((id : ℕ) → now id ≡ followed (before id) f) → (o : Option ℕ)
    → where_one (followed w f) o now ≡ followed (where_one w o before) f
one_follows w f now before each None = refl
one_follows w f now before each (Some id) = each id

splat_where : (w : World) (f : Following) → w.graph.dependents ≡ [] → (cell : ℕ) (o : Option ℕ)
    → where_one (followed w f) o (λ id. after_splat (followed w f) id cell)
    ≡ followed (where_one w o (λ id. after_splat w id cell)) (clearing cell (option_and_then (dependent_in f.pairs) o) f)
splat_where w f none cell None = refl
splat_where w f none cell (Some id) = splat_follows w f none id cell

free_where : (w : World) (f : Following) (at : Address) (o : Option ℕ)
    → where_one (followed w f) o (λ id. after_free (followed w f) id at) ≡ followed (where_one w o (λ id. after_free w id at)) (ending o f)
free_where w f at None = refl
free_where w f at (Some id) = free_follows w f id at

pub move_follows : (w : World) (f : Following) (m : Move) → w.graph.dependents ≡ [] → (needs_none m ≡ true → f.cells ≡ [])
    → world_after_move (followed w f) m ≡ followed (world_after_move w m) (following_move w f m)
move_follows w f (moves.Seg base grains pool generation) none cells =
    segment_follows w f (segment_of_move base.0 grains pool generation)
move_follows w f (moves.Unseg base) none cells = unseg_follows w f base.0
move_follows w f (moves.Flip zones chain generation) none cells =
    flip_follows w f zones.0 (condemnation_of chain generation) (cells refl)
move_follows w f moves.End none cells = refl
move_follows w f (moves.Moved from to) none cells =
    one_follows w f (λ id. after_moved (followed w f) id to.0) (λ id. after_moved w id to.0)
    (λ id. moved_follows w f id to.0 (cells refl)) (id_at w from.0)
move_follows w f (moves.Stay at) none cells =
    one_follows w f (λ id. with_collection (followed w f) (placing id)) (λ id. with_collection w (placing id))
    (λ id. changed_follows w f (placing id) (λ c. refl)) (id_at w at.0)
move_follows w f (moves.Splat holder cell) none cells = splat_where w f none cell (id_at w holder.0)
move_follows w f (moves.Post at) none cells =
    one_follows w f (λ id. after_post (followed w f) id) (λ id. after_post w id) (λ id. post_follows w f id) (id_at w at.0)
move_follows w f (moves.Commit at words pool) none cells = refl
move_follows w f (moves.Alloc at words pool) none cells = refl
move_follows w f (moves.Free at) none cells = free_where w f at.0 (id_at w at.0)
