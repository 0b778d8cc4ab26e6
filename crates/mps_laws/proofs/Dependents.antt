-- In each world that a legal history reaches, each pair of dependents is of two live objects, the second of which may be the dependent of
-- the first: a block that is freed takes its pairs along.
use Rattle.std.proofs.Common.{◌≡◌, ◌∙◌, ℕ, Bool, true, false, refl, sym, ap, subst, List, [], ◌∷◌, ◌++◌, map, Option, Some, None, inl, inr}
use Rattle.std.proofs.lemmas.Bool.{and_from, and_parts, cases_eq, eq-eqb, false≢true, true≢false}
use Rattle.std.proofs.lemmas.Option.{slice_get-map}
use Rattle.std.specs.Prelude.{◌==◌, ◌&&◌, ◌≢◌, filter, if◌then◌else◌, is_some, not, option_map, slice_get, slice_set}
use Rattle.std.specs.List.{list_all}
use Rattle.std.specs.Option.{option_map_or}
use Rattle.mps_base.specs.Address.{Address, Id}
use Rattle.mps_base.specs.Segment.{Segment, words_of_segment}
use Rattle.mps_base.specs.declared.moves.Move.{Move}
use Rattle.mps_base.specs.declared.moves.Move.TheVariants as moves
use Rattle.mps_model.specs.Answer.{is_block}
use Rattle.mps_model.specs.declared.call.Call.{Call}
use Rattle.mps_model.specs.declared.call.Call.TheVariants as call
use Rattle.mps_model.specs.Step.{Step}
use Rattle.mps_model.specs.Graph.{Object, Manual, entry_at, graph_with_cells, ids_in_slots, object_at, with_last}
use Rattle.mps_model.specs.World.{World, Pool, id_at, is_copying_pool, is_live, is_weak_kind, object_is, with_tail}
use Rattle.mps_model.specs.WellFormed.{is_right_pair}
use Rattle.mps_model.specs.Checked.{Act, Checked, Numbered, as_point, number_named, with_graph}
use Rattle.mps_model.specs.Allocating.{committed_object, graph_with_word, reserved_address}
use Rattle.mps_model.specs.Dependents.{may_depend, with_dependent}
use Rattle.mps_model.specs.Effect.{after_free, after_moved, after_post, after_segment, after_splat, holding, placing, reclaiming, segment_base_of, segment_of_move, where_one, with_collection, without_object, world_after_move, world_after_moves}
use Rattle.mps_model.specs.Policy.{units_asked}
use Rattle.mps_model.specs.Transforms.{graph_substituted, pairs_of}
use Rattle.mps_model.specs.Reply.{act, world_from}
use Rattle.mps_model.specs.History.{IsLegalStep, after_own_segment, asking, judged_world, moved_world, moves_of_poll, own_segment, world_after}
use Rattle.mps_changes.specs.Change.{AsideIs, Linked, Unlinked, Change, Aside, CellsAre, BlockWordIs, Allocated, PoolMade, Committed, Substituted, ForAct, accepted, refused, IsInSlot, BlockUncached}
use Rattle.mps_changes.proofs.ActChanges.{act_changes_so}
use Rattle.mps_laws.proofs.Acts.{cleared_kept, word_kept}
use Rattle.mps_changes.proofs.Written.{written_length}
use Rattle.mps_laws.proofs.Finding.{id_at-found}
use Rattle.mps_laws.proofs.FoundBy.{object_found, slot_found}
use Rattle.mps_laws.proofs.Lookups.{entry_at-last, entry_at-set_other, entry_at-set_same, entry_within, map-with_last, slice_get-kept}
use Rattle.mps_laws.proofs.OwnSegments.{own_segment_taken}
use Rattle.mps_laws.proofs.Positions.LaidOut.{kind_in}
use Rattle.mps_laws.proofs.Positions.LegalMoves.{cells_kept, splatted_kept}
use Rattle.mps_laws.proofs.Positions.Occupancy.{Shape, shape_of}
use Rattle.mps_laws.proofs.Sound.SoundGraph.{All, PassesOrNull, each-weaker}
use Rattle.mps_laws.proofs.Sound.SoundActs.{table_passes}
use Rattle.mps_laws.proofs.Sound.SoundHistories.{slots_held}
use Rattle.mps_laws.proofs.Sound.Substituting.{shapes_substituted}

abbrev pub ArePaired : World → Type 0
ArePaired w = list_all (is_right_pair w) w.graph.dependents ≡ true

-- ---- pairs by the shapes of their objects

abbrev is_pair_of : List Pool → (holder dependent : Option Shape) → Bool
is_pair_of pools (Some holder) (Some dependent) = holder.is_weak && (kind_in is_weak_kind pools dependent.pool && not dependent.is_weak)
is_pair_of pools _ _ = false

abbrev shapes_of : World → List Shape
shapes_of w = map shape_of w.graph.objects

pair_is : (w : World) (holder dependent : ℕ)
    → object_is (λ h. object_is (may_depend w h) w dependent) w holder
    ≡ is_pair_of w.pools (slice_get (shapes_of w) holder) (slice_get (shapes_of w) dependent)
pair_is w holder dependent =
    of_both (object_at w.graph holder) (object_at w.graph dependent)
    ∙ ap (λ o. is_pair_of w.pools o (option_map shape_of (object_at w.graph dependent)))
    (sym (slice_get-map shape_of w.graph.objects holder))
    ∙ ap (is_pair_of w.pools (slice_get (shapes_of w) holder)) (sym (slice_get-map shape_of w.graph.objects dependent))
  where
    of_both : (a b : Option Object) → option_map_or (λ h. option_map_or (may_depend w h) b false) a false
        ≡ is_pair_of w.pools (option_map shape_of a) (option_map shape_of b)
    of_both None b = refl
    of_both (Some h) None = refl
    of_both (Some h) (Some d) = refl

module _ (w w' : World) (shapes : (i : ℕ) (s : Shape) → slice_get (shapes_of w) i ≡ Some s → slice_get (shapes_of w') i ≡ Some s)
    (pools : (n : ℕ) (p : Pool) → slice_get w.pools n ≡ Some p → slice_get w'.pools n ≡ Some p) where
  kind_still : (n : ℕ) → kind_in is_weak_kind w.pools n ≡ true → kind_in is_weak_kind w'.pools n ≡ true
  kind_still n h = of_pool (slice_get w.pools n) refl h
    where
      of_pool : (o : Option Pool) → slice_get w.pools n ≡ o → option_map_or (λ p. is_weak_kind p.kind) o false ≡ true
          → kind_in is_weak_kind w'.pools n ≡ true
      of_pool None e g = absurd (false≢true g)
      of_pool (Some p) e g = ap (λ o. option_map_or (λ (q : Pool). is_weak_kind q.kind) o false) (pools n p e) ∙ g

  pair_still : (holder dependent : ℕ) → object_is (λ h. object_is (may_depend w h) w dependent) w holder ≡ true
      → object_is (λ h. object_is (may_depend w' h) w' dependent) w' holder ≡ true
  pair_still holder dependent h =
      pair_is w' holder dependent
      ∙ of_both (slice_get (shapes_of w) holder) (slice_get (shapes_of w) dependent) refl refl (sym (pair_is w holder dependent) ∙ h)
    where
      of_both : (a b : Option Shape) → slice_get (shapes_of w) holder ≡ a → slice_get (shapes_of w) dependent ≡ b
          → is_pair_of w.pools a b ≡ true
          → is_pair_of w'.pools (slice_get (shapes_of w') holder) (slice_get (shapes_of w') dependent) ≡ true
      of_both None b e f g = absurd (false≢true g)
      of_both (Some s) None e f g = absurd (false≢true g)
      of_both (Some s) (Some t) e f g =
          let parts = and_parts s.is_weak (kind_in is_weak_kind w.pools t.pool && not t.is_weak) g in
          let rest = and_parts (kind_in is_weak_kind w.pools t.pool) (not t.is_weak) parts.1 in
          ap (λ o. is_pair_of w'.pools o (slice_get (shapes_of w') dependent)) (shapes holder s e)
          ∙ ap (is_pair_of w'.pools (Some s)) (shapes dependent t f)
          ∙ and_from s.is_weak (kind_in is_weak_kind w'.pools t.pool && not t.is_weak) parts.0
          (and_from (kind_in is_weak_kind w'.pools t.pool) (not t.is_weak) (kind_still t.pool rest.0) rest.1)

  -- a pair of objects that are live stays one if they stay live
  one_still : (p : Id × Id) → (is_live w p.0 ≡ true → is_live w' p.0 ≡ true) → (is_live w p.1 ≡ true → is_live w' p.1 ≡ true)
      → is_right_pair w p ≡ true → is_right_pair w' p ≡ true
  one_still p first second h =
      let parts = and_parts (is_live w p.0) (is_live w p.1 && object_is (λ g. object_is (may_depend w g) w p.1) w p.0) h in
      let rest = and_parts (is_live w p.1) (object_is (λ g. object_is (may_depend w g) w p.1) w p.0) parts.1 in
      and_from (is_live w' p.0) (is_live w' p.1 && object_is (λ g. object_is (may_depend w' g) w' p.1) w' p.0) (first parts.0)
      (and_from (is_live w' p.1) (object_is (λ g. object_is (may_depend w' g) w' p.1) w' p.0) (second rest.0)
      (pair_still p.0 p.1 rest.1))

  -- where what lives lives on, and the pairs are as they were
  all_still : ((id : ℕ) → is_live w id ≡ true → is_live w' id ≡ true) → w'.graph.dependents ≡ w.graph.dependents → ArePaired w
      → ArePaired w'
  all_still live same h =
      ap (list_all (is_right_pair w')) same
      ∙ each-weaker (is_right_pair w) (is_right_pair w') (λ p. one_still p (live p.0) (live p.1)) w.graph.dependents h

-- ---- moves

filtered : {X : Type 0} (keep test less : X → Bool) → ((x : X) → keep x ≡ true → test x ≡ true → less x ≡ true) → (xs : List X)
    → list_all test xs ≡ true → list_all less (filter keep xs) ≡ true
filtered keep test less each [] h = refl
filtered keep test less each (x ∷ xs) h =
    let parts = and_parts (test x) (list_all test xs) h in
    let rest = filtered keep test less each xs parts.1 in
    of_test (keep x) refl parts.0 rest
  where
    of_test : (b : Bool) → keep x ≡ b → test x ≡ true → list_all less (filter keep xs) ≡ true
        → list_all less (if b then x ∷ filter keep xs else filter keep xs) ≡ true
    of_test true e t rest = and_from (less x) (list_all less (filter keep xs)) (each x e t) rest
    of_test false e t rest = rest

not_same : (a b : ℕ) → not (a == b) ≡ true → b ≢ a
not_same a b h e = true≢false (sym h ∙ ap not (eq-eqb a b (sym e)))

live_moved : (addresses : List (Option ℕ)) (id at to j : ℕ) → entry_at addresses id ≡ Some at → is_some (entry_at addresses j) ≡ true
    → is_some (entry_at (slice_set addresses id (Some to)) j) ≡ true
live_moved addresses id at to j e h = elim (cases_eq id j) [
  | inl same ↦
      subst (λ (k : ℕ). is_some (entry_at (slice_set addresses id (Some to)) k) ≡ true) same
      (ap is_some (entry_at-set_same addresses id (Some to) (entry_within addresses id at e)))
  | inr other ↦ ap is_some (entry_at-set_other addresses id j (Some to) other) ∙ h
]

moved_paired : (w : World) (from to : ℕ) (o : Option ℕ) → id_at w from ≡ o → ArePaired w
    → ArePaired (where_one w o (λ id. after_moved w id to))
moved_paired w from to None e h = h
moved_paired w from to (Some id) e h =
    all_still w (after_moved w id to) (λ i s f. f) (λ n p f. f)
    (λ j. live_moved w.addresses id from to j (id_at-found w from id e)) refl h

freed_paired : (w : World) (id : ℕ) → ArePaired w → ArePaired (without_object w id)
freed_paired w id h =
    filtered (λ p. not (p.0 == id) && not (p.1 == id)) (is_right_pair w) (is_right_pair (without_object w id)) (λ p keep.
    let apart = and_parts (not (p.0 == id)) (not (p.1 == id)) keep in
    one_still w (without_object w id) (λ i s f. f) (λ n q f. f) p
    (λ live. ap is_some (entry_at-set_other w.addresses id p.0 None (not_same p.0 id apart.0)) ∙ live)
    (λ live. ap is_some (entry_at-set_other w.addresses id p.1 None (not_same p.1 id apart.1)) ∙ live))
    w.graph.dependents h

free_paired : (w : World) (id at : ℕ) → ArePaired w → ArePaired (after_free w id at)
free_paired w id at h =
    elim (object_is Rattle.mps_model.specs.Graph.is_automatic w id) as (λ b. ArePaired
    (if b then with_collection (without_object w id) (reclaiming (segment_base_of w at)) else without_object w id)) [
      | true ↦ freed_paired w id h
      | false ↦ freed_paired w id h
    ]

one_paired : (w : World) (o : Option ℕ) (change : ℕ → World) → ((id : ℕ) → ArePaired (change id)) → ArePaired w
    → ArePaired (where_one w o change)
one_paired w None change each h = h
one_paired w (Some id) change each h = each id

segment_paired : (w : World) (s : Segment) → ArePaired w → ArePaired (after_segment w s)
segment_paired w s h =
    elim (is_copying_pool w s.pool) as (λ b. ArePaired (if b then with_tail (holding w s) s.pool s.generation (words_of_segment s)
    else holding w s)) [
      | true ↦ h
      | false ↦ h
    ]

splat_paired : (w : World) (id cell : ℕ) → ArePaired w → ArePaired (after_splat w id cell)
splat_paired w id cell h =
    all_still w (after_splat w id cell) (λ i s f. ap (λ ss. slice_get ss i) (splatted_kept w.graph id cell) ∙ f) (λ n p f. f)
    (λ j live. live) refl h

move_paired : (w : World) (m : Move) → ArePaired w → ArePaired (world_after_move w m)
move_paired w (moves.Seg base grains pool generation) h = segment_paired w (segment_of_move base.0 grains pool generation) h
move_paired w (moves.Unseg base) h = h
move_paired w (moves.Flip zones chain generation) h = h
move_paired w moves.End h = h
move_paired w (moves.Moved from to) h = moved_paired w from.0 to.0 (id_at w from.0) refl h
move_paired w (moves.Stay at) h = one_paired w (id_at w at.0) (λ id. with_collection w (placing id)) (λ id. h) h
move_paired w (moves.Splat holder cell) h =
    one_paired w (id_at w holder.0) (λ id. after_splat w id cell) (λ id. splat_paired w id cell h) h
move_paired w (moves.Post at) h = one_paired w (id_at w at.0) (after_post w) (λ id. h) h
move_paired w (moves.Commit at words pool) h = h
move_paired w (moves.Alloc at words pool) h = h
move_paired w (moves.Free at) h = one_paired w (id_at w at.0) (λ id. after_free w id at.0) (λ id. free_paired w id at.0 h) h

pub moves_paired : (w : World) (ms : List Move) → ArePaired w → ArePaired (world_after_moves w ms)
moves_paired w [] h = h
moves_paired w (m ∷ ms) h = moves_paired (world_after_move w m) ms (move_paired w m h)

asked_paired : (units : Option ℕ) (w : World) → ArePaired w → ArePaired (asking units w)
asked_paired None w h = h
asked_paired (Some units) w h = h

own_paired : (w : World) (ms : List Move) (number : Option ℕ) → ArePaired w → ArePaired (after_own_segment w ms number)
own_paired w ms number h = own_segment_taken ArePaired w h (λ s. h) (λ s n r. h) ms number

-- the moves of a call
all_moved_paired : (w : World) (c : Call) (ms : List Move) → ArePaired w → ArePaired (moved_world w c ms)
all_moved_paired w (call.Reserve name head) ms h =
    let polled = world_after_moves w (moves_of_poll ms) in
    asked_paired (units_asked w (call.Reserve name head)) (after_own_segment polled (own_segment ms) (number_named w name as_point))
    (own_paired polled (own_segment ms) (number_named w name as_point) (moves_paired w (moves_of_poll ms) h))
all_moved_paired w (call.Step units) ms h =
    asked_paired (units_asked w (call.Step units)) (world_after_moves w ms) (moves_paired w ms h)
all_moved_paired w _ ms h = moves_paired w ms h

-- ---- acts

all_of-append : {X : Type 0} (test : X → Bool) (xs ys : List X) → list_all test xs ≡ true → list_all test ys ≡ true
    → list_all test (xs ++ ys) ≡ true
all_of-append test [] ys h k = k
all_of-append test (x ∷ xs) ys h k =
    let parts = and_parts (test x) (list_all test xs) h in
    and_from (test x) (list_all test (xs ++ ys)) parts.0 (all_of-append test xs ys parts.1 k)

module _ (v : World) (h : ArePaired v) where
  -- what a slot refers to is live, and is the object that was found
  in_slot : (object : Numbered Object) → IsInSlot v object → All (is_live v) (ids_in_slots v.graph)
      → (is_live v object.number ≡ true) × (object_at v.graph object.number ≡ Some object.value)
  in_slot object held live =
      let o = object_found v held.from.value object held.is in
      let t = slot_found v held.slot held.from held.there in (
        subst (PassesOrNull (is_live v)) o.0
            (Rattle.mps_laws.proofs.Sound.SoundGraph.entry-passes (is_live v) held.from.list held.from.index held.from.value
            (table_passes (is_live v) v.graph.tables held.from.number held.from.list live t.0) t.1),
        o.1,
      )

  linked : (holder dependent : Numbered Object) → IsInSlot v holder → IsInSlot v dependent
      → may_depend v holder.value dependent.value ≡ true → All (is_live v) (ids_in_slots v.graph)
      → list_all (is_right_pair v) (with_dependent v.graph.dependents holder.number dependent.number) ≡ true
  linked holder dependent first second may live =
      let a = in_slot holder first live in
      let b = in_slot dependent second live in
      all_of-append (is_right_pair v) (Rattle.mps_model.specs.Graph.without_holder v.graph.dependents holder.number)
      ((holder.number, dependent.number) ∷ [])
      (filtered (λ p. not (p.0 == holder.number)) (is_right_pair v) (is_right_pair v) (λ p keep right. right) v.graph.dependents h)
      (and_from (is_right_pair v (holder.number, dependent.number)) true
      (and_from (is_live v holder.number)
      (is_live v dependent.number && object_is (λ g. object_is (may_depend v g) v dependent.number) v holder.number) a.0
      (and_from (is_live v dependent.number) (object_is (λ g. object_is (may_depend v g) v dependent.number) v holder.number) b.0
      (ap (λ o. option_map_or (λ g. object_is (may_depend v g) v dependent.number) o false) a.1
      ∙ ap (λ o. option_map_or (may_depend v holder.value) o false) b.1 ∙ may))) refl)

  aside_paired : {marked : Bool} {c : Call} {judged u : World} → AsideIs marked c judged v u → All (is_live v) (ids_in_slots v.graph)
      → list_all (is_right_pair v) u.graph.dependents ≡ true
  aside_paired (Linked holder dependent first second may) live = linked holder dependent first second may live
  aside_paired (Unlinked holder) live =
      filtered (λ p. not (p.0 == holder)) (is_right_pair v) (is_right_pair v) (λ p keep right. right) v.graph.dependents h
  aside_paired _ live = h

  -- one more object, at an address
  one_more : (u : World) (o : Object) (at : Option Address) → shapes_of u ≡ with_last (shapes_of v) (shape_of o)
      → u.addresses ≡ with_last v.addresses at → u.pools ≡ v.pools → u.graph.dependents ≡ v.graph.dependents → ArePaired u
  one_more u o at shapes addresses pools same =
      all_still v u (λ i s e. ap (λ ss. slice_get ss i) shapes ∙ slice_get-kept (shapes_of v) (shape_of o) s i e)
      (λ n p e. ap (λ ps. slice_get ps n) pools ∙ e)
      (λ j live. of_entry j (entry_at v.addresses j) refl live) same h
    where
      of_entry : (j : ℕ) (o : Option ℕ) → entry_at v.addresses j ≡ o → is_some o ≡ true → is_some (entry_at u.addresses j) ≡ true
      of_entry j None e g = absurd (false≢true g)
      of_entry j (Some a) e g =
          ap (λ places. is_some (entry_at places j)) addresses
          ∙ ap is_some (entry_at-last v.addresses at j (entry_within v.addresses j a e) ∙ e)

  change_paired : {marked : Bool} {c : Call} {judged u : World} → All (is_live u) (ids_in_slots u.graph) → Change marked c judged v u
      → ArePaired u
  change_paired live (Aside u what) = aside_paired what live
  change_paired live (CellsAre object change held write) =
      all_still v (with_graph v (graph_with_cells v.graph object.number change))
      (λ i s e. ap (λ ss. slice_get ss i) (cells_kept v.graph object.number change (written_length write)) ∙ e) (λ n p e. e)
      (λ j alive. alive) refl h
  change_paired live (BlockWordIs id k value) =
      all_still v (with_graph v (graph_with_word v.graph id k value))
      (λ i s e. ap (λ ss. slice_get ss i) (word_kept 0 v id k value) ∙ e) (λ n p e. e) (λ j alive. alive) refl h
  change_paired {u = u} live (BlockUncached name cache words into place id classes e is taken found empty) =
      all_still v u (λ i s e. ap (λ ss. slice_get ss i) (cleared_kept v.graph id) ∙ e) (λ n p e. e) (λ j alive. alive) refl h
  change_paired {u = u} live (Allocated p words place at e of kind size found empty) =
      let o : Object = record { pool = p.number; body = Manual (Rattle.std.specs.Prelude.replicate words 0) } in
      one_more u o (Some at) (map-with_last shape_of v.graph.objects o) refl refl refl
  change_paired {u = u} live (Committed name target p r slot e there found has lives) =
      one_more u (committed_object p.value r) (Some (reserved_address v p.number))
      (map-with_last shape_of v.graph.objects (committed_object p.value r)) refl refl refl
  change_paired {u = u} live (PoolMade name p e made) =
      all_still v u (λ i s f. f) (λ n q f. slice_get-kept v.pools p q n f) (λ j alive. alive) refl h
  change_paired live (Substituted name transform e is parked) =
      all_still v (with_graph v (graph_substituted v.graph (pairs_of v.state transform)))
      (λ i s f. ap (λ ss. slice_get ss i) (shapes_substituted (pairs_of v.state transform) v.graph.objects) ∙ f) (λ n p f. f)
      (λ j alive. alive) refl h
  change_paired live _ = h

  act_paired : {marked : Bool} {c : Call} {judged : World} (x : Checked Act) → ForAct (Change marked c judged v) x
      → All (is_live (world_from v x)) (ids_in_slots (world_from v x).graph) → ArePaired (world_from v x)
  act_paired _ (accepted change) live = change_paired live change
  act_paired _ refused live = h

-- ---- steps

pub dependents_after : (w : World) (s : Step) → ArePaired w → IsLegalStep w s → ArePaired (world_after w s)
dependents_after w s h legal =
    let v = moved_world w s.call s.moves in
    let judged = judged_world w s.call s.moves in
    let moved = all_moved_paired w s.call s.moves h in
    act_paired v moved (act (is_block s.answer) judged v s.call) (act_changes_so (is_block s.answer) judged v s.call)
    (slots_held (world_after w s) legal.held_are_live)
