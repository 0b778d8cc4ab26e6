-- An accepted `pop` frees the blocks that were made since the frame was opened, and leaves all else.
use Rattle.std.proofs.Common.{◌≡◌, ◌∙◌, ℕ, Bool, true, false, refl, sym, ap, subst, List, [], ◌∷◌, Option, Some, None, Ok}
use Rattle.std.proofs.lemmas.Bool.{eqb-true, eq-eqb, false≢true}
use Rattle.std.proofs.lemmas.Option.{none-some}
use Rattle.std.specs.Prelude.{◌==◌, ◌||◌, ◌&&◌, if◌then◌else◌, slice_get, slice_set}
use Rattle.std.specs.Option.{option_map_or}
use Rattle.mps_base.specs.Address.{Id}
use Rattle.mps_base.specs.Segment.{Segment}
use Rattle.mps_base.specs.declared.moves.Move.{Move}
use Rattle.mps_base.specs.declared.moves.Move.TheVariants as moves
use Rattle.mps_base.specs.declared.names.Name.{Name}
use Rattle.mps_base.specs.declared.refusal.Refusal.TheVariants as refusal
use Rattle.mps_model.proofs.Appending.{IsLegalFrom-later}
use Rattle.mps_model.proofs.Cutting.{world_after_moves-append}
use Rattle.mps_model.specs.declared.call.Call.{Call}
use Rattle.mps_model.specs.declared.call.Call.TheVariants as call
use Rattle.mps_model.specs.declared.reply.Reply.TheVariants as reply
use Rattle.mps_model.specs.Answer.{Answer, Replied}
use Rattle.mps_model.specs.Checked.{Act, Checked, ◌>>=◌, done, required, with_graph}
use Rattle.mps_model.specs.Collection.{Collection}
use Rattle.mps_model.specs.Effect.{after_free, reclaiming, segment_base_of, where_one, with_collection, without_object, world_after_moves}
use Rattle.mps_model.specs.Flip.{at_address}
use Rattle.mps_model.specs.Frames.{act_pop, blocks_popped, frame_in, frames_named, graph_popped}
use Rattle.mps_model.specs.Graph.{PoolFrames, contains, entry_at, is_automatic}
use Rattle.mps_model.specs.History.{IsLegalStep, AreMovesOf, free_of, free_of_object, give_back_empty, moves_of_frame, moves_of_frees, moves_of_pop, with_client_remembered, world_after, world_after_call}
use Rattle.mps_model.specs.Reply.{world_from}
use Rattle.mps_model.specs.Step.{Step}
use Rattle.mps_model.specs.World.{World, empty_world_of, id_at, is_any_size_kind, is_empty_segment, object_is, pool_is, segment_of}
use Rattle.mps_laws.specs.Replay.{reached}
use Rattle.mps_laws.proofs.Finding.{id_at-there}
use Rattle.mps_laws.proofs.LegalHistories.{IsLegalFrom-first}
use Rattle.mps_laws.proofs.Lookups.{entry_at-set_none, entry_at-set_other}
use Rattle.mps_client_laws.specs.Popping.{IsPopped, PopFreesWhatWasMadeSince}
use Rattle.mps_client_laws.proofs.Addresses.{no_two_have_one_address}

-- ---- what frees leave

-- a world with these pairs of dependents, addresses and segments, and with this collection
abbrev row_of : World → List (Id × Id) → List (Option ℕ) → List Segment → Option Collection → World
row_of w dependents addresses segments collection = record w {
  graph = record w.graph { dependents = dependents };
  addresses = addresses;
  segments = segments;
  collection = collection;
}

-- nothing else changed
record IsRow (w v : World) : Type 0 where
  dependents : List (Id × Id)
  addresses : List (Option ℕ)
  segments : List Segment
  collection : Option Collection
  is : v ≡ row_of w dependents addresses segments collection

itself : (w : World) → IsRow w w
itself w = record {
  dependents = w.graph.dependents;
  addresses = w.addresses;
  segments = w.segments;
  collection = w.collection;
  is = refl;
}

row_then : (w v u : World) → IsRow w v → IsRow v u → IsRow w u
row_then w v u first second = record {
  dependents = second.dependents;
  addresses = second.addresses;
  segments = second.segments;
  collection = second.collection;
  is = second.is ∙ ap (λ x. row_of x second.dependents second.addresses second.segments second.collection) first.is;
}

freed_row : (w : World) (id at : ℕ) → IsRow w (after_free w id at)
freed_row w id at =
    elim (object_is is_automatic w id) as (λ b. IsRow w (if b then with_collection
    (without_object w id)
    (reclaiming (segment_base_of w at))
    else without_object w id)) [
      | true ↦ record { dependents = _; addresses = _; segments = _; collection = _; is = refl }
      | false ↦ record { dependents = _; addresses = _; segments = _; collection = _; is = refl }
    ]

given_back_row : (w v : World) (o : Option Segment) → IsRow w (world_after_moves w (give_back_empty v o))
given_back_row w v None = itself w
given_back_row w v (Some s) =
    elim (pool_is is_any_size_kind v s.pool && is_empty_segment v s)
    as (λ b. IsRow w (world_after_moves w (if b then moves.Unseg (at_address s.base) ∷ [] else []))) [
      | true ↦ record { dependents = _; addresses = _; segments = _; collection = _; is = refl }
      | false ↦ itself w
    ]

-- ---- one object

-- no two objects have one address
abbrev AreApart : World → Type 0
AreApart w = (i j at : ℕ) → entry_at w.addresses i ≡ Some at → entry_at w.addresses j ≡ Some at → i ≡ j

-- these objects have no address, and all others the one that they had
abbrev AreGone : (w v : World) → (is_gone : Id → Bool) → Type 0
AreGone w v is_gone = (i : Id) → entry_at v.addresses i ≡ (if is_gone i then None else entry_at w.addresses i)

record IsFreed (w v : World) (is_gone : Id → Bool) : Type 0 where
  row : IsRow w v
  gone : AreGone w v is_gone

module _ (w : World) (apart : AreApart w) (id : Id) where
  unset : (i : Id) → entry_at (slice_set w.addresses id None) i ≡ (if id == i then None else entry_at w.addresses i)
  unset i = of_test (id == i) refl
    where
      of_test : (b : Bool) → (id == i) ≡ b
          → entry_at (slice_set w.addresses id None) i ≡ (if b then None else entry_at w.addresses i)
      of_test true e =
          ap (entry_at (slice_set w.addresses id None)) (sym (eqb-true id i e)) ∙ entry_at-set_none w.addresses id
      of_test false e = entry_at-set_other w.addresses id i None (λ same. false≢true (sym e ∙ eq-eqb id i same))

  freed_addresses : (at : ℕ) → (after_free w id at).addresses ≡ slice_set w.addresses id None
  freed_addresses at =
      elim (object_is is_automatic w id) as (λ b. (if b then with_collection
      (without_object w id)
      (reclaiming (segment_base_of w at))
      else without_object w id).addresses ≡ slice_set w.addresses id None) [
        | true ↦ refl
        | false ↦ refl
      ]

  given_back_addresses : (v u : World) (o : Option Segment) → (world_after_moves v (give_back_empty u o)).addresses ≡ v.addresses
  given_back_addresses v u None = refl
  given_back_addresses v u (Some s) =
      elim (pool_is is_any_size_kind u s.pool && is_empty_segment u s)
      as (λ b. (world_after_moves v (if b then moves.Unseg (at_address s.base) ∷ [] else [])).addresses ≡ v.addresses) [
        | true ↦ refl
        | false ↦ refl
      ]

  object_freed : IsFreed w (world_after_moves w (free_of_object w id)) (λ i. id == i)
  object_freed = of_address (entry_at w.addresses id) refl
    where
      of_address : (o : Option ℕ) → entry_at w.addresses id ≡ o
          → IsFreed w (world_after_moves w (option_map_or (free_of w) o [])) (λ i. id == i)
      of_address None e = record { row = itself w; gone = λ i. of_test i (id == i) refl }
        where
          of_test : (i : Id) (b : Bool) → (id == i) ≡ b → entry_at w.addresses i ≡ (if b then None else entry_at w.addresses i)
          of_test i true same = ap (entry_at w.addresses) (sym (eqb-true id i same)) ∙ e
          of_test i false same = refl
      of_address (Some at) e =
          let v = after_free w id at in
          let freed : where_one w (id_at w at) (λ n. after_free w n at) ≡ v =
          ap (λ o. where_one w o (λ n. after_free w n at)) (id_at-there w at id apart e) in
          let last = give_back_empty (where_one w (id_at w at) (λ n. after_free w n at)) (segment_of w at) in
          subst (λ x. IsFreed w (world_after_moves x last) (λ i. id == i)) (sym freed) (record {
            row = row_then w v (world_after_moves v last) (freed_row w id at)
                (given_back_row v (where_one w (id_at w at) (λ n. after_free w n at)) (segment_of w at));
            gone = λ i.
                ap (λ xs. entry_at xs i)
                (given_back_addresses v (where_one w (id_at w at) (λ n. after_free w n at)) (segment_of w at) ∙ freed_addresses at)
                ∙ unset i;
          })

-- ---- several objects

still_apart : (w v : World) (is_gone : Id → Bool) → AreGone w v is_gone → AreApart w → AreApart v
still_apart w v is_gone gone apart i j at one two = apart i j at (was i one) (was j two)
  where
    was : (k : Id) → entry_at v.addresses k ≡ Some at → entry_at w.addresses k ≡ Some at
    was k e = of_test (is_gone k) (sym (gone k) ∙ e)
      where
        of_test : (b : Bool) → (if b then None else entry_at w.addresses k) ≡ Some at → entry_at w.addresses k ≡ Some at
        of_test true h = absurd (none-some at h)
        of_test false h = h

objects_freed : (w : World) → AreApart w → (ids : List Id) → IsFreed w (world_after_moves w (moves_of_frees w ids)) (contains ids)
objects_freed w apart [] = record { row = itself w; gone = λ i. refl }
objects_freed w apart (id ∷ ids) =
    let first = object_freed w apart id in
    let v = world_after_moves w (free_of_object w id) in
    let rest = objects_freed v (still_apart w v (λ i. id == i) first.gone apart) ids in
    let u = world_after_moves v (moves_of_frees v ids) in
    subst (λ x. IsFreed w x (contains (id ∷ ids))) (sym (world_after_moves-append w (free_of_object w id) (moves_of_frees v ids)))
    (record {
      row = row_then w v u first.row rest.row;
      gone = λ i.
          rest.gone i ∙ ap (λ o. if contains ids i then None else o) (first.gone i)
          ∙ both (id == i) (contains ids i) (entry_at w.addresses i);
    })
  where
    both : (a b : Bool) (o : Option ℕ) → (if b then None else (if a then None else o)) ≡ (if a || b then None else o)
    both true true o = refl
    both true false o = refl
    both false true o = refl
    both false false o = refl

-- ---- the step

module _ (w : World) (apart : AreApart w) (pool : Name) (f : PoolFrames) (frame before : ℕ) (named : frames_named w pool ≡ Ok f)
    (opened : slice_get f.opened frame ≡ Some before) where
  abbrev ms : List Move
  ms = moves_of_frees w (blocks_popped f before)

  freed : IsFreed w (world_after_moves w ms) (contains (blocks_popped f before))
  freed = objects_freed w apart (blocks_popped f before)

  abbrev v : World
  v = row_of w freed.row.dependents freed.row.addresses freed.row.segments freed.row.collection

  comes : act_pop v pool frame ≡ done (with_graph v (graph_popped v.graph f frame before))
  comes =
      ap (λ m. m >>= (λ (g : PoolFrames). frame_in g frame >>= (λ n. done (with_graph v (graph_popped v.graph g frame n))))) named
      ∙ ap (λ (o : Option ℕ). required o refusal.BadIndex >>= (λ n. done (with_graph v (graph_popped v.graph f frame n)))) opened

  due : moves_of_pop w (frames_named w pool) frame ≡ ms
  due =
      ap (λ m. moves_of_pop w m frame) named
      ∙ ap (λ (o : Option ℕ). moves_of_frame w f (required o refusal.BadIndex)) opened

  after : (u : World) → u ≡ with_client_remembered (with_graph v (graph_popped v.graph f frame before)) → IsPopped w u f frame before
  after u is = record {
    gone = λ id there. lies id ∙ ap (λ b. if b then None else entry_at w.addresses id) there;
    stay = λ id other. lies id ∙ ap (λ b. if b then None else entry_at w.addresses id) other;
    objects = ap (λ (x : World). x.graph.objects) is;
    places = ap (λ (x : World). x.graph.blocks) is;
    frames = ap (λ (x : World). x.graph.frames) is;
  }
    where
      lies : (id : Id) → entry_at u.addresses id ≡ (if contains (blocks_popped f before) id then None else entry_at w.addresses id)
      lies id =
          ap (λ (x : World). entry_at x.addresses id) is ∙ sym (ap (λ (x : World). entry_at x.addresses id) freed.row.is)
          ∙ freed.gone id

  pub popped_step : (s : Step) → IsLegalStep w s → s.call ≡ call.Pop pool frame → s.answer ≡ Replied reply.Ok
      → IsPopped w (world_after w s) f frame before
  popped_step s legal is given =
      after (world_after w s)
      (ap (λ c. world_after_call w c s.moves s.answer) is
      ∙ ap (λ a. world_after_call w (call.Pop pool frame) s.moves a) given
      ∙ ap (λ m. world_after_call w (call.Pop pool frame) m (Replied reply.Ok)) moves_are
      ∙ ap (λ (x : World). with_client_remembered (world_from x (act_pop x pool frame))) freed.row.is
      ∙ ap (λ (a : Checked Act). with_client_remembered (world_from v a)) comes)
    where
      moves_are : s.moves ≡ ms
      moves_are =
          subst (λ (a : Answer). AreMovesOf w (call.Pop pool frame) a s.moves) given
          (subst (λ (c : Call). AreMovesOf w c s.answer s.moves) is legal.moves_are_due) ∙ due

-- ---- the law

pub pop_frees_what_was_made_since : PopFreesWhatWasMadeSince
pop_frees_what_was_made_since formats steps later s pool f frame before legal is given named opened =
    let w = reached formats steps in
    let first = IsLegalFrom-first (empty_world_of formats) steps (s ∷ later) legal in
    let here = (IsLegalFrom-later (empty_world_of formats) steps (s ∷ later) legal).0 in
    popped_step w (λ i j at one two. no_two_have_one_address formats steps i j at first one two) pool f frame before named opened s
    here is given
