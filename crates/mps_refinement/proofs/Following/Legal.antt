-- A move of a collection that is legal where no_flip object has a dependent is legal where some have: what it asks of references is that
-- something isn't reachable, which cleared cells leave true, and before the first splat no_flip cell is cleared.
use Rattle.std.proofs.Common.{◌≡◌, ◌∙◌, ℕ, Bool, true, false, refl, sym, ap, List, [], ◌∷◌, ◌++◌, map, Option, Some, None, subst, inl, inr, is_some}
use Rattle.std.proofs.lemmas.Bool.{and_parts, false≢true, true≢false}
use Rattle.std.specs.Prelude.{◌==◌, ◌&&◌, if◌then◌else◌, filter, not, option_and_then, option_map, slice_get, IsTrue}
use Rattle.std.specs.List.{list_all, list_any}
use Rattle.std.specs.Option.{option_map_or}
use Rattle.mps_base.specs.Address.{Address, Id}
use Rattle.mps_base.specs.Run.{Run, in_order}
use Rattle.mps_base.specs.Segment.{Segment}
use Rattle.mps_base.specs.declared.moves.Move.{Move}
use Rattle.mps_base.specs.declared.moves.Move.TheVariants as moves
use Rattle.mps_model.specs.Checked.{cells_of_body}
use Rattle.mps_model.specs.Collection.{Collection, is_kept_in_place, is_surely_kept}
use Rattle.mps_model.specs.Graph.{Object, ids_of_client, is_automatic, is_weak_object, size_of, strong_targets, target_of_cell}
use Rattle.mps_model.specs.Reachable.{IsReachableWith, PathLeads, begins, goes_on}
use Rattle.mps_model.specs.World.{World, begins_in, covered, extent, extents_of, id_at, is_copying_object, is_copying_pool, is_empty_segment, is_running, live_automatic_ids, live_ids, object_is, reserved_extents, segment_at}
use Rattle.mps_model.specs.LegalMove.{ForOne, IsGone, IsLegalEnd, IsLegalMove, IsLegalMoved, IsLegalPost, IsLegalSplat, IsLegalStay, IsLegalSweep, IsLegalUnseg, IsLost, IsSegmentForMove, MayBeScanned, AreLegalMoves, first_move, holds_something, ids_kept, is_tracing, live_condemned, target_in_cell}
use Rattle.mps_model.specs.Effect.{world_after_move}
use Rattle.mps_laws.specs.Staying.{is_flip}
use Rattle.mps_refinement.specs.Following.{CellOf, Following, followed, following_move, none_flips, objects_cleared, paired_at_flip}
use Rattle.mps_refinement.proofs.Following.Cleared.{cleared_alike, cleared_sizes, cleared_strong_targets, ignores_body, nulled_other}
use Rattle.mps_refinement.proofs.Following.Moves.{automatic_ignores, move_follows, needs_none, none_cleared, weak_ignores}
use Rattle.mps_refinement.proofs.Following.Kept.{IsFollowable, followable_after, traces}

-- ---- lists

pub filter_alike : (p q : ℕ → Bool) (xs : List ℕ) → ((x : ℕ) → p x ≡ q x) → filter p xs ≡ filter q xs
filter_alike p q [] same = refl
filter_alike p q (x ∷ xs) same =
    ap (λ b. if b then x ∷ filter p xs else filter p xs) (same x)
    ∙ ap (λ ys. if q x then x ∷ ys else ys) (filter_alike p q xs same)

pub all_alike : (p q : ℕ → Bool) (xs : List ℕ) → ((x : ℕ) → p x ≡ q x) → list_all p xs ≡ list_all q xs
all_alike p q [] same = refl
all_alike p q (x ∷ xs) same =
    ap (λ b. b && list_all p xs) (same x) ∙ ap (λ b. q x && b) (all_alike p q xs same)

extents_sized : List ℕ → List (Option ℕ) → List Run
extents_sized [] addresses = []
extents_sized (n ∷ ns) [] = []
extents_sized (n ∷ ns) (None ∷ addresses) = extents_sized ns addresses
extents_sized (n ∷ ns) (Some at ∷ addresses) = extent at n ∷ extents_sized ns addresses

sized : (os : List Object) (addresses : List (Option ℕ)) → extents_of os addresses ≡ extents_sized (map size_of os) addresses
unfolding extents_sized
sized [] addresses = refl
sized (o ∷ os) [] = refl
sized (o ∷ os) (None ∷ addresses) = sized os addresses
sized (o ∷ os) (Some at ∷ addresses) = ap (λ rs. extent at (size_of o) ∷ rs) (sized os addresses)

-- ---- facts of what there is

pub for_one : {X : Type 0} (P Q : X → Type 0) → ((x : X) → P x → Q x) → (o : Option X) → ForOne o P → ForOne o Q
for_one P Q each None h = h
for_one P Q each (Some x) h = each x h

pub for_changed : (change : Collection → Collection) (P Q : Collection → Type 0) → ((c : Collection) → P c → Q (change c))
    → (o : Option Collection) → ForOne o P → ForOne (option_map change o) Q
for_changed change P Q each None h = h
for_changed change P Q each (Some c) h = each c h

-- ---- an object none of whose cells was cleared

cleared_other : (is_weak : Id → Bool) (os : List Object) (cs : List CellOf) (n : Id) → is_weak n ≡ true
    → list_all (λ (c : CellOf). not (is_weak c.0)) cs ≡ true → slice_get (objects_cleared os cs) n ≡ slice_get os n
cleared_other is_weak os [] n weak h = refl
cleared_other is_weak os (c ∷ cs) n weak h =
    let parts = and_parts (not (is_weak c.0)) (list_all (λ (d : CellOf). not (is_weak d.0)) cs) h in
    nulled_other (objects_cleared os cs) c.0 c.1 n (λ e. true≢false (sym parts.0 ∙ ap (λ m. not (is_weak m)) e ∙ ap not weak))
    ∙ cleared_other is_weak os cs n weak parts.1

module _ (is_weak : Id → Bool) (w : World) (f : Following) where
  abbrev pub u : World
  u = followed w f

  -- ---- what doesn't look at targets

  pub automatic_same : (n : Id) → object_is is_automatic u n ≡ object_is is_automatic w n
  automatic_same n = cleared_alike is_automatic false w.graph.objects f.cells n automatic_ignores

  pub weak_same : (n : Id) → object_is is_weak_object u n ≡ object_is is_weak_object w n
  weak_same n = cleared_alike is_weak_object false w.graph.objects f.cells n weak_ignores

  pub copying_same : (n : Id) → is_copying_object u n ≡ is_copying_object w n
  copying_same n =
      cleared_alike (λ (o : Object). is_copying_pool w o.pool) false w.graph.objects f.cells n
      (ignores_body (λ (o : Object). is_copying_pool w o.pool) (λ pool head weak cells cell. refl))

  live_automatic_same : live_automatic_ids u ≡ live_automatic_ids w
  live_automatic_same = filter_alike (object_is is_automatic u) (object_is is_automatic w) (live_ids w) automatic_same

  covered_same : covered u ≡ covered w
  covered_same =
      ap (λ (rs : List Run). in_order (rs ++ reserved_extents w.graph.points w.point_memories))
      (sized (objects_cleared w.graph.objects f.cells) w.addresses
      ∙ ap (λ ns. extents_sized ns w.addresses) (cleared_sizes w.graph.objects f.cells)
      ∙ sym (sized w.graph.objects w.addresses))

  pub empty_same : (s : Segment) → is_empty_segment u s ≡ is_empty_segment w s
  empty_same s = ap (λ rs. not (list_any (begins_in s) rs)) covered_same

  pub running_same : is_running u ≡ is_running w
  running_same = of_collection w.collection
    where
      of_collection : (o : Option Collection) → is_some (option_map (paired_at_flip f.at_flip) o) ≡ is_some o
      of_collection None = refl
      of_collection (Some c) = refl

  -- ---- what is lost

  path_before : (seeds : List ℕ) {id : ℕ} → PathLeads (strong_targets u.graph) seeds id → PathLeads (strong_targets w.graph) seeds id
  path_before seeds (begins h) = begins h
  path_before seeds (goes_on {from} {to} path h) =
      goes_on (path_before seeds path) (cleared_strong_targets w.graph.objects f.cells from to h)

  module _ (c : Collection) where
    abbrev pub d : Collection
    d = paired_at_flip f.at_flip c

    kept_same : (except : Id) → ids_kept u d except ≡ ids_kept w c except
    kept_same except = ap (filter (λ id. not (id == except) && is_surely_kept c id)) live_automatic_same

    lost_still : (id : Id) → IsLost w c id → IsLost u d id
    lost_still id lost path =
        lost (subst (λ ids. IsReachableWith w.graph ids id) (kept_same id)
        (path_before (ids_of_client w.graph ++ ids_kept u d id) path))

    gone_still : (id : Id) → IsGone w c id → IsGone u d id
    gone_still id gone =
        record { condemned = gone.condemned; not_settled = gone.not_settled; lost = lost_still id gone.lost }

    pub scanned_still : (id : Id) → MayBeScanned w c id → MayBeScanned u d id
    scanned_still id (inl h) = inl h
    scanned_still id (inr h) = inr (ap not (copying_same id) ∙ h.0, h.1)

    unseg_still : (s : Segment) → IsLegalUnseg w c s → IsLegalUnseg u d s
    unseg_still s h = record { empty = empty_same s ∙ h.empty; condemned = h.condemned }

    sweep_still : (id : Id) → IsLegalSweep w c id → IsLegalSweep u d id
    sweep_still id h = record { gone = gone_still id h.gone; not_registered = h.not_registered }

    pub something_same : (base : Address) → holds_something u base ≡ holds_something w base
    something_same base = of_segment (segment_at w base)
      where
        of_segment : (o : Option Segment)
            → option_map_or (λ s. not (is_empty_segment u s)) o false ≡ option_map_or (λ s. not (is_empty_segment w s)) o false
        of_segment None = refl
        of_segment (Some s) = ap not (empty_same s)

    end_still : IsLegalEnd w c → IsLegalEnd u d
    end_still h = record {
      survivors = h.survivors;
      copied = ap (list_all (is_kept_in_place c))
          (filter_alike (is_copying_object u) (is_copying_object w) (live_condemned w c) copying_same) ∙ h.copied;
      segments = all_alike (holds_something u) (holds_something w) c.condemned_segments something_same ∙ h.segments;
    }

  module _ (k : IsFollowable is_weak w f) where
    -- a weak object has the cells that it had
    target_same : (holder cell : ℕ) → IsTrue (object_is is_weak_object w holder)
        → target_in_cell u holder cell ≡ target_in_cell w holder cell
    target_same holder cell weak =
        ap (λ (o : Option Object). option_and_then target_of_cell (option_and_then (λ p. slice_get (cells_of_body p.body) cell) o))
        (cleared_other is_weak w.graph.objects f.cells holder (sym (k.weak holder) ∙ weak) k.cells)

    splat_still : (c : Collection) (holder cell : ℕ) → IsLegalSplat w c holder cell
        → IsLegalSplat u (paired_at_flip f.at_flip c) holder cell
    splat_still c holder cell h = record {
      phase = h.phase;
      weak = weak_same holder ∙ h.weak;
      scanned = scanned_still c holder h.scanned;
      target_is_gone =
          subst (λ o. ForOne o (IsGone u (paired_at_flip f.at_flip c))) (sym (target_same holder cell h.weak))
          (for_one (IsGone w c) (IsGone u (paired_at_flip f.at_flip c)) (gone_still c) (target_in_cell w holder cell) h.target_is_gone);
    }

-- ---- moves before the first splat

module _ (w : World) (f : Following) where
  abbrev pub uncleared : Following
  uncleared = record { pairs = f.pairs; cells = []; at_flip = f.at_flip }

  abbrev pub v : World
  v = followed w uncleared

  moved_still : (c : Collection) (id to : ℕ) → IsLegalMoved w c id to → IsLegalMoved v (paired_at_flip f.at_flip c) id to
  moved_still c id to h = record {
    tracing = h.tracing;
    condemned = h.condemned;
    not_settled = h.not_settled;
    copying = h.copying;
    at_placement = h.at_placement;
  }

  stay_still : (c : Collection) (id : Id) → IsLegalStay w c id → IsLegalStay v (paired_at_flip f.at_flip c) id
  stay_still c id h = record {
    tracing = h.tracing;
    condemned = h.condemned;
    not_settled = h.not_settled;
    copying = h.copying;
    no_room = h.no_room;
  }

  post_still : (c : Collection) (before : Option Move) (id at : ℕ) → IsLegalPost w c before id at
      → IsLegalPost v (paired_at_flip f.at_flip c) before id at
  post_still c before id at h = record {
    tracing = h.tracing;
    condemned = h.condemned;
    lost = lost_still (λ n. false) w uncleared c id h.lost;
    registered = h.registered;
    just_found = h.just_found;
  }

  segment_still : (base grains pool generation to id : ℕ) → IsSegmentForMove w base grains pool generation to id
      → IsSegmentForMove v base grains pool generation to id
  segment_still base grains pool generation to id h = record {
    first = h.first;
    placement = h.placement;
    of_pool = h.of_pool;
    of_generation = h.of_generation;
  }

-- ---- when the collection traces

traced : (o : Option Collection) (P : Collection → Type 0) → ((c : Collection) → P c → is_tracing c.phase ≡ true) → ForOne o P
    → traces o ≡ true
traced None P each h = absurd h
traced (Some c) P each h = each c h

in_one : {X : Type 0} (P : X → Type 0) (A : Type 0) → ((x : X) → P x → A) → (o : Option X) → ForOne o P → A
in_one P A each None h = absurd h
in_one P A each (Some x) h = each x h

-- whether a move is one of a collection that traces
abbrev pub moves_while_tracing : Move → Bool
moves_while_tracing (moves.Moved from to) = true
moves_while_tracing (moves.Stay at) = true
moves_while_tracing (moves.Post at) = true
moves_while_tracing _ = false

traces_at : (w : World) (before : Option Move) (m : Move) (next : Option Move) → IsLegalMove w before m next
    → moves_while_tracing m ≡ true → traces w.collection ≡ true
traces_at w before (moves.Moved from to) next h e =
    traced w.collection (λ c. ForOne (id_at w from.0) (λ id. IsLegalMoved w c id to.0)) (λ c.
    in_one (λ id. IsLegalMoved w c id to.0) (is_tracing c.phase ≡ true) (λ id g. g.tracing) (id_at w from.0)) h
traces_at w before (moves.Stay at) next h e =
    traced w.collection (λ c. ForOne (id_at w at.0) (IsLegalStay w c)) (λ c.
    in_one (IsLegalStay w c) (is_tracing c.phase ≡ true) (λ id g. g.tracing) (id_at w at.0)) h
traces_at w before (moves.Post at) next h e =
    traced w.collection (λ c. ForOne (id_at w at.0) (λ id. IsLegalPost w c before id at.0)) (λ c.
    in_one (λ id. IsLegalPost w c before id at.0) (is_tracing c.phase ≡ true) (λ id g. g.tracing) (id_at w at.0)) h
traces_at w before _ next h e = absurd (false≢true e)

-- ---- one move

module _ (is_weak : Id → Bool) (w : World) (f : Following) (k : IsFollowable is_weak w f) where
  abbrev pub there : World
  there = followed w f

  -- a move that is made only while the collection traces, or a segment for one
  uncleared_legal : (before : Option Move) (m : Move) (next : Option Move) → f.cells ≡ []
      → IsLegalMove (followed w (record { pairs = f.pairs; cells = []; at_flip = f.at_flip })) before m next
      → IsLegalMove there before m next
  uncleared_legal before m next none h = none_cleared (λ g. IsLegalMove (followed w g) before m next) f none h

  pub move_legal : (before : Option Move) (m : Move) (next : Option Move) → (moves_while_tracing m ≡ true → f.cells ≡ [])
      → ((base : _) (grains pool generation : ℕ) → m ≡ moves.Seg base grains pool generation → f.cells ≡ [])
      → IsLegalMove w before m next → IsLegalMove there before m next
  move_legal before (moves.Seg base grains pool generation) next cells segment h =
      uncleared_legal before (moves.Seg base grains pool generation) next (segment base grains pool generation refl) (of_next next h)
    where
      of_next : (o : Option Move) → IsLegalMove w before (moves.Seg base grains pool generation) o
          → IsLegalMove (followed w (record { pairs = f.pairs; cells = []; at_flip = f.at_flip })) before
          (moves.Seg base grains pool generation) o
      of_next (Some (moves.Moved from to)) g =
          for_one (IsSegmentForMove w base.0 grains pool generation to.0)
          (IsSegmentForMove (followed w (record { pairs = f.pairs; cells = []; at_flip = f.at_flip })) base.0 grains pool generation to.0)
          (segment_still w f base.0 grains pool generation to.0) (id_at w from.0) g
      of_next _ g = absurd g
  move_legal before (moves.Unseg base) next cells segment h =
      for_changed (paired_at_flip f.at_flip) (λ c. ForOne (segment_at w base.0) (IsLegalUnseg w c))
      (λ c. ForOne (segment_at w base.0) (IsLegalUnseg there c)) (λ c.
      for_one (IsLegalUnseg w c) (IsLegalUnseg there (paired_at_flip f.at_flip c)) (unseg_still is_weak w f c) (segment_at w base.0))
      w.collection h
  move_legal before (moves.Flip zones chain generation) next cells segment h =
      record { none_runs = ap not (running_same is_weak w f) ∙ h.none_runs; of_zones = h.of_zones }
  move_legal before moves.End next cells segment h =
      for_changed (paired_at_flip f.at_flip) (IsLegalEnd w) (IsLegalEnd there) (end_still is_weak w f) w.collection h
  move_legal before (moves.Moved from to) next cells segment h =
      uncleared_legal before (moves.Moved from to) next (cells refl)
      (for_changed (paired_at_flip f.at_flip) (λ c. ForOne (id_at w from.0) (λ id. IsLegalMoved w c id to.0))
      (λ c. ForOne (id_at w from.0) (λ id. IsLegalMoved (v w f) c id to.0)) (λ c.
      for_one (λ id. IsLegalMoved w c id to.0) (λ id. IsLegalMoved (v w f) (paired_at_flip f.at_flip c) id to.0)
      (λ id. moved_still w f c id to.0) (id_at w from.0)) w.collection h)
  move_legal before (moves.Stay at) next cells segment h =
      uncleared_legal before (moves.Stay at) next (cells refl)
      (for_changed (paired_at_flip f.at_flip) (λ c. ForOne (id_at w at.0) (IsLegalStay w c))
      (λ c. ForOne (id_at w at.0) (IsLegalStay (v w f) c)) (λ c.
      for_one (IsLegalStay w c) (IsLegalStay (v w f) (paired_at_flip f.at_flip c)) (stay_still w f c) (id_at w at.0)) w.collection h)
  move_legal before (moves.Splat holder cell) next cells segment h =
      for_changed (paired_at_flip f.at_flip) (λ c. ForOne (id_at w holder.0) (λ id. IsLegalSplat w c id cell))
      (λ c. ForOne (id_at w holder.0) (λ id. IsLegalSplat there c id cell)) (λ c.
      for_one (λ id. IsLegalSplat w c id cell) (λ id. IsLegalSplat there (paired_at_flip f.at_flip c) id cell)
      (λ id. splat_still is_weak w f k c id cell) (id_at w holder.0)) w.collection h
  move_legal before (moves.Post at) next cells segment h =
      uncleared_legal before (moves.Post at) next (cells refl)
      (for_changed (paired_at_flip f.at_flip) (λ c. ForOne (id_at w at.0) (λ id. IsLegalPost w c before id at.0))
      (λ c. ForOne (id_at w at.0) (λ id. IsLegalPost (v w f) c before id at.0)) (λ c.
      for_one (λ id. IsLegalPost w c before id at.0) (λ id. IsLegalPost (v w f) (paired_at_flip f.at_flip c) before id at.0)
      (λ id. post_still w f c before id at.0) (id_at w at.0)) w.collection h)
  move_legal before (moves.Commit at words pool) next cells segment h = h
  move_legal before (moves.Alloc at words pool) next cells segment h = h
  move_legal before (moves.Free at) next cells segment h =
      for_changed (paired_at_flip f.at_flip) (λ c. ForOne (id_at w at.0) (IsLegalSweep w c))
      (λ c. ForOne (id_at w at.0) (IsLegalSweep there c)) (λ c.
      for_one (IsLegalSweep w c) (IsLegalSweep there (paired_at_flip f.at_flip c)) (sweep_still is_weak w f c) (id_at w at.0))
      w.collection h

  -- ---- with the moves after it

  pub while_tracing : (before : Option Move) (m : Move) (next : Option Move) → IsLegalMove w before m next → moves_while_tracing m ≡ true
      → f.cells ≡ []
  while_tracing before m next h e = k.tracing (traces_at w before m next h e)

  -- a segment is taken for the move after it
  pub before_moved : (before : Option Move) (m : Move) (ms : List Move) → IsLegalMove w before m (first_move ms)
      → AreLegalMoves (world_after_move w m) (Some m) ms → is_flip m ≡ false
      → (base : _) (grains pool generation : ℕ) → m ≡ moves.Seg base grains pool generation → f.cells ≡ []
  before_moved before m ms h rest no_flip base grains pool generation e =
      of_segment ms (subst (λ n. IsLegalMove w before n (first_move ms)) e h)
      (subst (λ n. AreLegalMoves (world_after_move w n) (Some n) ms) e rest)
    where
      of_segment : (ms : List Move) → IsLegalMove w before (moves.Seg base grains pool generation) (first_move ms)
          → AreLegalMoves (world_after_move w (moves.Seg base grains pool generation)) (Some (moves.Seg base grains pool generation)) ms
          → f.cells ≡ []
      of_segment [] g more = absurd g
      of_segment (moves.Moved from to ∷ more) g later =
          (followable_after is_weak w f k (moves.Seg base grains pool generation) refl).tracing
          (traces_at (world_after_move w (moves.Seg base grains pool generation)) (Some (moves.Seg base grains pool generation))
          (moves.Moved from to) (first_move more) later.0 refl)
      of_segment (_ ∷ more) g later = absurd g

-- whether a move that isn't a flip needs that no_flip cell was cleared
pub needs_tracing : (m : Move) → is_flip m ≡ false → needs_none m ≡ true → moves_while_tracing m ≡ true
needs_tracing (moves.Moved from to) no_flip e = refl
needs_tracing (moves.Flip zones chain generation) no_flip e = absurd (true≢false no_flip)
needs_tracing _ no_flip e = absurd (false≢true e)

pub not_flip : (b : Bool) → not b ≡ true → b ≡ false
not_flip true h = absurd (false≢true h)
not_flip false h = refl

module _ (is_weak : Id → Bool) where
  -- moves of which none is a flip
  pub moves_legal : (w : World) (f : Following) (before : Option Move) (ms : List Move) → IsFollowable is_weak w f
      → none_flips ms ≡ true → AreLegalMoves w before ms → AreLegalMoves (followed w f) before ms
  moves_legal w f before [] k none h = tt
  moves_legal w f before (m ∷ ms) k none h =
      let parts = and_parts (not (is_flip m)) (none_flips ms) none in
      let no_flip = not_flip (is_flip m) parts.0 in (
        move_legal is_weak w f k before m (first_move ms) (while_tracing is_weak w f k before m (first_move ms) h.0)
            (before_moved is_weak w f k before m ms h.0 h.1 no_flip) h.0,
        subst (λ v. AreLegalMoves v (Some m) ms)
            (sym (move_follows w f m k.unpaired (λ e.
            while_tracing is_weak w f k before m (first_move ms) h.0 (needs_tracing m no_flip e))))
            (moves_legal (world_after_move w m) (following_move w f m) (Some m) ms (followable_after is_weak w f k m no_flip) parts.1 h.1),
      )
