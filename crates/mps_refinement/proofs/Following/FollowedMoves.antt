-- A heap follows the moves that its collector made: it then represents the world after the same moves where objects have dependents. Told
-- of the words and of the pairs apart, from the heap and the world in which nobody has one.
use Rattle.std.proofs.Common.{◌≡◌, ◌∙◌, ℕ, ◌+◌, Bool, true, false, refl, sym, ap, subst, List, [], ◌∷◌, Option, Some, None}
use Rattle.std.proofs.lemmas.Bool.{and_from, and_parts, false≢true}
use Rattle.std.proofs.lemmas.Option.{none-some, same_Some}
use Rattle.std.specs.Prelude.{◌==◌, ◌&&◌, if◌then◌else◌, is_some, not, option_and_then, option_map, slice_get, slice_set}
use Rattle.std.specs.List.{list_all}
use Rattle.std.specs.Option.{option_map_or}
use Rattle.mps_base.specs.Address.{Address, Id}
use Rattle.mps_base.specs.declared.moves.Move.{Move}
use Rattle.mps_base.specs.declared.moves.Move.TheVariants as moves
use Rattle.mps_changes.proofs.Written.{length-with_target_cell}
use Rattle.mps_dep.specs.Following.{followed_pairs, nulled}
use Rattle.mps_dep.specs.State.{dependent_of}
use Rattle.mps_format.specs.Layout.{Layout}
use Rattle.mps_laws.proofs.Dependents.{ArePaired, moves_paired}
use Rattle.mps_laws.proofs.Finding.{for_both, id_at-found}
use Rattle.mps_laws.proofs.Positions.LaidOut.{IsLaidOut}
use Rattle.mps_laws.proofs.Positions.LegalMoves.{HasLayout, cells_kept, different}
use Rattle.mps_laws.proofs.Positions.Occupancy.{Shape, occupancy_of}
use Rattle.mps_laws.proofs.Replays.ReplayOfMoves.{move_replayed}
use Rattle.mps_laws.proofs.Sound.SoundActs.{cells_changed}
use Rattle.mps_laws.proofs.Sound.SoundGraph.{IsSoundGraph, auto, each-weaker, right_target_cell}
use Rattle.mps_laws.proofs.Sound.SoundMoves.{move_well, moves_well}
use Rattle.mps_laws.specs.Staying.{is_flip}
use Rattle.mps_model.specs.Checked.{cells_of_body, with_graph}
use Rattle.mps_model.specs.Effect.{after_splat, graph_nulled, world_after_move, world_after_moves}
use Rattle.mps_model.specs.Graph.{Graph, Object, dependent_in, entry_at, is_automatic, object_at, object_with_cells}
use Rattle.mps_model.specs.LegalMove.{AreLegalMoves, IsLegalMove, IsLegalSplat, first_move}
use Rattle.mps_model.specs.WellFormed.{is_live_automatic}
use Rattle.mps_model.specs.World.{World, id_at, is_live, object_is}
use Rattle.mps_trace.specs.declared.running.Running.{Running as RunningState}
use Rattle.mps_trace_laws.specs.Units.Finals.{address_of_id}
use Rattle.mps_heap_spec.specs.Finding.{with_words}
use Rattle.mps_heap_spec.specs.Following.{is_passed_by, move_followed, moves_followed, splat_followed, with_dependents}
use Rattle.mps_heap_spec.specs.State.{HeapState, format_over}
use Rattle.mps_refinement.specs.Dependents.{AreDependents}
use Rattle.mps_refinement.specs.Following.{CellOf, Following, clearing, followed, following, following_move, are_of_one, none_flips, nothing_followed, objects_cleared, unpaired}
use Rattle.mps_refinement.specs.StandsFor.{AreParts, Past}
use Rattle.mps_refinement.proofs.Following.Cleared.{cleared_alike}
use Rattle.mps_refinement.proofs.Following.FewerAddresses.{AreSome, LayThere, ending_same, moves_lay, one_lay}
use Rattle.mps_refinement.proofs.Following.FollowedCells.{ReadsBy, gone_cleared, live_cleared}
use Rattle.mps_refinement.proofs.Following.Kept.{IsFollowable, followable_after, followable_after_flip}
use Rattle.mps_refinement.proofs.Following.Legal.{moves_legal, needs_tracing, not_flip, while_tracing}
use Rattle.mps_refinement.proofs.Following.Moves.{automatic_ignores, move_follows, needs_none}
use Rattle.mps_refinement.proofs.Following.OneCollection.{is_weak_in, nothing_followed_is, nothing_is_followable, one_legal}
use Rattle.mps_refinement.proofs.Following.Pairs.{dependent_is, is_live_pair}
use Rattle.mps_refinement.proofs.Following.PairsByMoves.{move_keeps}
use Rattle.mps_refinement.proofs.Following.Unread.{null_in}
use Rattle.mps_refinement.proofs.Parts.PairsKept.{pairs_automatic}

-- ---- a world in which cells were cleared

abbrev pub cleared : World → List CellOf → World
cleared v cells = record v { graph = record v.graph { objects = objects_cleared v.graph.objects cells } }

nulled_sound : (v : World) (id cell : ℕ) → IsSoundGraph v → IsSoundGraph (with_graph v (graph_nulled v.graph id cell))
nulled_sound v id cell sound = of_object (object_at v.graph id) refl
  where
    of_object : (x : Option Object) → object_at v.graph id ≡ x → IsSoundGraph (with_graph v (graph_nulled v.graph id cell))
    of_object None e =
        subst (λ (g : Graph). IsSoundGraph (with_graph v g))
        (sym (ap (λ x. record v.graph {
          objects = option_map_or (λ o. slice_set v.graph.objects id (object_with_cells o (null_in cell))) x
              v.graph.objects;
        }) e)) sound
    of_object (Some o) e =
        cells_changed v sound id o (null_in cell) e (length-with_target_cell (cells_of_body o.body) cell None)
        (λ likes h. right_target_cell (auto v) likes (cells_of_body o.body) cell None tt h)

cleared_sound : (v : World) (cells : List CellOf) → IsSoundGraph v → IsSoundGraph (cleared v cells)
cleared_sound v [] sound = sound
cleared_sound v (c ∷ cs) sound = nulled_sound (cleared v cs) c.0 c.1 (cleared_sound v cs sound)

cleared_laid : (limit : ℕ) (v : World) (cells : List CellOf) → HasLayout limit v → HasLayout limit (cleared v cells)
cleared_laid limit v [] laid = laid
cleared_laid limit v (c ∷ cs) laid =
    subst (IsLaidOut limit)
    (sym (ap (λ (ss : List Shape). record (occupancy_of (cleared v cs)) { shapes = ss })
    (cells_kept (cleared v cs).graph c.0 (null_in c.1) (λ cells. length-with_target_cell cells c.1 None))))
    (cleared_laid limit v cs laid)

-- moves lead to a world with these objects, where they lie there
abbrev pub LeadsTo : World → List Move → World → Type 0
LeadsTo w ms v = ((world_after_moves w ms).graph.objects ≡ v.graph.objects) × ((world_after_moves w ms).addresses ≡ v.addresses)

-- ---- what one move does to a heap

module _ {F : Type 0} (layout : F → Layout) where
  splat_leaves : {A : Type 0} (test : HeapState F → A) (h : HeapState F)
      → ((f : F) (at : Address) (cell : ℕ) → test (with_words h (nulled (layout f) h.segs at cell)) ≡ test h) → (o : Option Address)
      (cell : ℕ) → test (splat_followed layout h o cell) ≡ test h
  splat_leaves test h same None cell = refl
  splat_leaves test h same (Some at) cell = of_test (is_passed_by h at) (format_over h at)
    where
      of_test : (b : Bool) (o : Option F)
          → test (if b then h else option_map_or (λ f. with_words h (nulled (layout f) h.segs at cell)) o h) ≡ test h
      of_test true o = refl
      of_test false None = refl
      of_test false (Some f) = same f at cell

  pub pairs_are : (h : HeapState F) (m : Move) → (move_followed layout h m).beside.dependents ≡ followed_pairs h.beside.dependents m
  pairs_are h (moves.Splat holder cell) =
      splat_leaves (λ (g : HeapState F). g.beside.dependents) h (λ f at k. refl) (dependent_of h.beside.dependents holder.0) cell
  pairs_are h (moves.Free at) = refl
  pairs_are h (moves.Seg base grains pool generation) = refl
  pairs_are h (moves.Unseg base) = refl
  pairs_are h (moves.Flip zones chain generation) = refl
  pairs_are h moves.End = refl
  pairs_are h (moves.Moved from to) = refl
  pairs_are h (moves.Stay at) = refl
  pairs_are h (moves.Post at) = refl
  pairs_are h (moves.Commit at words pool) = refl
  pairs_are h (moves.Alloc at words pool) = refl

  runs_on : (h : HeapState F) (m : Move) → (move_followed layout h m).running ≡ h.running
  runs_on h (moves.Splat holder cell) =
      splat_leaves (λ (g : HeapState F). g.running) h (λ f at k. refl) (dependent_of h.beside.dependents holder.0) cell
  runs_on h (moves.Free at) = refl
  runs_on h (moves.Seg base grains pool generation) = refl
  runs_on h (moves.Unseg base) = refl
  runs_on h (moves.Flip zones chain generation) = refl
  runs_on h moves.End = refl
  runs_on h (moves.Moved from to) = refl
  runs_on h (moves.Stay at) = refl
  runs_on h (moves.Post at) = refl
  runs_on h (moves.Commit at words pool) = refl
  runs_on h (moves.Alloc at words pool) = refl

  -- what a heap without pairs does at a splat
  splat_alone : (h : HeapState F) (at : Address) (cell : ℕ)
      → with_dependents (splat_followed layout h (Some at) cell) [] ≡ splat_followed layout (with_dependents h []) (Some at) cell
  splat_alone h at cell = of_test (is_passed_by h at) (format_over h at)
    where
      of_test : (b : Bool) (o : Option F)
          → with_dependents (if b then h else option_map_or (λ f. with_words h (nulled (layout f) h.segs at cell)) o h) []
          ≡ (if b then with_dependents h [] else option_map_or
          (λ f. with_words (with_dependents h []) (nulled (layout f) h.segs at cell)) o (with_dependents h []))
      of_test true o = refl
      of_test false None = refl
      of_test false (Some f) = refl

-- what all second objects of pairs are, the dependent of a holder is
dependent_passes : (test : Id → Bool) (ps : List (Id × Id)) (holder d : Id) → list_all (λ (p : Id × Id). test p.1) ps ≡ true
    → dependent_in ps holder ≡ Some d → test d ≡ true
dependent_passes test [] holder d all e = absurd (none-some d e)
dependent_passes test (p ∷ ps) holder d all e =
    let both = and_parts (test p.1) (list_all (λ (q : Id × Id). test q.1) ps) all in
    of_test both.0 (dependent_passes test ps holder d both.1) (p.0 == holder) e
  where
    of_test : test p.1 ≡ true → (dependent_in ps holder ≡ Some d → test d ≡ true) → (b : Bool)
        → (if b then Some p.1 else dependent_in ps holder) ≡ Some d → test d ≡ true
    of_test passes rest true same = subst (λ (j : Id). test j ≡ true) (same_Some p.1 d same) passes
    of_test passes rest false later = rest later

-- ---- move by move

module _ {F : Type 0} (layout : F → Layout) (past : Past) (is_weak : Id → Bool) (v : World) (sound_then : IsSoundGraph v)
    (laid_then : HasLayout (v.grains + 1) v) (running : Option RunningState) (reads : ReadsBy past.time running) (limit : ℕ) where
  -- a heap without its pairs represents the world at the end, in which these cells were cleared
  abbrev pub Represents : HeapState F → List CellOf → Type 0
  Represents h cells = AreParts layout past (with_dependents h []) (cleared v cells)

  -- what is true before each move, of the world without pairs, of what was done besides, and of the heap that follows
  pub record IsOnTheWay (w : World) (f : Following) (h : HeapState F) : Type 0 where
    pub followable : IsFollowable is_weak w f
    pub sound : IsSoundGraph w
    pub laid_paired : HasLayout limit (followed w f)
    pub sound_paired : IsSoundGraph (followed w f)
    pub paired : ArePaired (followed w f)
    pub kept : AreDependents w.addresses h.beside.dependents f.pairs
    pub still_runs : h.running ≡ running
    pub represents : Represents h f.cells

  module _ (w : World) (f : Following) (h : HeapState F) (at_hand : IsOnTheWay w f h) (before : Option Move) (ms : List Move) where
    apart : (id other : Id) (at : Address) → entry_at w.addresses id ≡ Some at → entry_at w.addresses other ≡ Some at → id ≡ other
    apart = different limit (occupancy_of (followed w f)) at_hand.laid_paired

    all_automatic : list_all (λ (p : Id × Id). is_live_automatic (followed w f) p.0 && is_live_automatic (followed w f) p.1) f.pairs ≡ true
    all_automatic = pairs_automatic (followed w f) at_hand.sound_paired at_hand.paired

    live_pairs : list_all (is_live_pair w.addresses apart) f.pairs ≡ true
    live_pairs =
        each-weaker (λ (p : Id × Id). is_live_automatic (followed w f) p.0 && is_live_automatic (followed w f) p.1)
        (is_live_pair w.addresses apart) (λ p both.
        let parts = and_parts (is_live_automatic (followed w f) p.0) (is_live_automatic (followed w f) p.1) both in
        and_from (is_some (entry_at w.addresses p.0)) (is_some (entry_at w.addresses p.1))
        (and_parts (is_live (followed w f) p.0) (object_is is_automatic (followed w f) p.0) parts.0).0
        (and_parts (is_live (followed w f) p.1) (object_is is_automatic (followed w f) p.1) parts.1).0) f.pairs all_automatic

    seconds : list_all (λ (p : Id × Id). is_live_automatic (followed w f) p.1) f.pairs ≡ true
    seconds =
        each-weaker (λ (p : Id × Id). is_live_automatic (followed w f) p.0 && is_live_automatic (followed w f) p.1)
        (λ (p : Id × Id). is_live_automatic (followed w f) p.1) (λ p both.
        (and_parts (is_live_automatic (followed w f) p.0) (is_live_automatic (followed w f) p.1) both).1) f.pairs all_automatic

    -- ---- a splat

    module _ (holder : _) (cell : ℕ) (none : none_flips ms ≡ true) (legal : AreLegalMoves w before (moves.Splat holder cell ∷ ms))
        (leads : LeadsTo w (moves.Splat holder cell ∷ ms) v) where
      abbrev m : Move
      m = moves.Splat holder cell

      module _ (id d : Id) (is_holder : id_at w holder.0 ≡ Some id) (is_dependent : dependent_in f.pairs id ≡ Some d) where
        abbrev at : Address
        at = address_of_id w.addresses d

        lives : (is_live w d ≡ true) × (object_is is_automatic (followed w f) d ≡ true)
        lives =
            and_parts (is_live (followed w f) d) (object_is is_automatic (followed w f) d)
            (dependent_passes (is_live_automatic (followed w f)) f.pairs id d seconds is_dependent)

        there_before : entry_at w.addresses d ≡ Some at
        there_before = of_entry (entry_at w.addresses d) lives.0
          where
            of_entry : (o : Option Address) → is_some o ≡ true → o ≡ Some (option_map_or (λ a. a) o 0)
            of_entry None live = absurd (false≢true live)
            of_entry (Some a) live = refl

        automatic_then : object_is is_automatic (cleared v f.cells) d ≡ true
        automatic_then =
            cleared_alike is_automatic false v.graph.objects f.cells d automatic_ignores
            ∙ of_object (object_at w.graph d) refl
            (sym (cleared_alike is_automatic false w.graph.objects f.cells d automatic_ignores) ∙ lives.1)
          where
            of_object : (x : Option Object) → object_at w.graph d ≡ x → option_map_or is_automatic x false ≡ true
                → object_is is_automatic v d ≡ true
            of_object None e automatic = absurd (false≢true automatic)
            of_object (Some o) e automatic =
                let grown = (moves_well w before (m ∷ ms) at_hand.sound legal).grown.objects d o e in
                subst (λ (os : List Object). option_map_or is_automatic (slice_get os d) false ≡ true) leads.0
                (ap (λ x. option_map_or is_automatic x false) grown.1 ∙ grown.2.kind ∙ automatic)

        -- the cell of the dependent is one that was cleared
        some : AreSome (following_move w f m).cells
        some =
            subst (λ o. AreSome (clearing cell (option_and_then (dependent_in f.pairs) o) f).cells) (sym is_holder)
            (subst (λ o. AreSome (clearing cell o f).cells) (sym is_dependent) (λ e. absurd cc))

        lay : LayThere v w
        lay j a e =
            one_lay w (id_at w holder.0) (λ n. after_splat w n cell) (λ n k b there. there) j a
            (moves_lay is_weak (world_after_move w m) (following_move w f m) (Some m) ms
            (followable_after is_weak w f at_hand.followable m refl) some none legal.1 j a
            (subst (λ (ats : List (Option Address)). entry_at ats j ≡ Some a) (sym leads.1) e))

        abbrev alone : HeapState F
        alone = with_dependents h []

        splat_represents : Represents (splat_followed layout h (Some at) cell) ((d, cell) ∷ f.cells)
        splat_represents =
            subst (λ (g : HeapState F). AreParts layout past g (cleared v ((d, cell) ∷ f.cells))) (sym (splat_alone layout h at cell))
            (of_entry (entry_at v.addresses d) refl)
          where
            reads_now : ReadsBy past.time alone.running
            reads_now = subst (ReadsBy past.time) (sym at_hand.still_runs) reads

            of_entry : (o : Option Address) → entry_at v.addresses d ≡ o
                → AreParts layout past (splat_followed layout alone (Some at) cell) (cleared v ((d, cell) ∷ f.cells))
            of_entry (Some a) e =
                live_cleared layout past alone (cleared v f.cells) at_hand.represents (cleared_sound v f.cells sound_then)
                (cleared_laid (v.grains + 1) v f.cells laid_then) reads_now d at cell
                (e ∙ ap Some (same_Some a at (sym (lay d a e) ∙ there_before))) automatic_then
            of_entry None e =
                gone_cleared layout past alone (cleared v f.cells) at_hand.represents (cleared_sound v f.cells sound_then)
                (cleared_laid (v.grains + 1) v f.cells laid_then) reads_now d at cell e (λ j there.
                none-some at (sym e ∙ ap (entry_at v.addresses) (sym (apart j d at (lay j at there) there_before)) ∙ there))

      splat_on : (id : Id) → id_at w holder.0 ≡ Some id
          → Represents (move_followed layout h m) (clearing cell (dependent_in f.pairs id) f).cells
      splat_on id is_holder =
          subst (λ o. Represents (splat_followed layout h o cell) (clearing cell (dependent_in f.pairs id) f).cells)
          (sym (ap (λ ps. dependent_of ps holder.0) at_hand.kept
          ∙ dependent_is w.addresses apart f.pairs id holder.0 live_pairs (id_at-found w holder.0 id is_holder)))
          (of_dependent (dependent_in f.pairs id) refl)
        where
          of_dependent : (o : Option ℕ) → dependent_in f.pairs id ≡ o
              → Represents (splat_followed layout h (option_map (address_of_id w.addresses) o) cell) (clearing cell o f).cells
          of_dependent None e = at_hand.represents
          of_dependent (Some d) e = splat_represents id d is_holder e

      splatted : Represents (move_followed layout h m) (following_move w f m).cells
      splatted =
          let b = for_both w.collection (id_at w holder.0) (λ c id. IsLegalSplat w c id cell) legal.0 in
          subst (λ o. Represents (move_followed layout h m) (clearing cell (option_and_then (dependent_in f.pairs) o) f).cells)
          (sym b.is_second) (splat_on b.second b.is_second)

    -- ---- any move

    represents_then : (m : Move) → none_flips ms ≡ true → AreLegalMoves w before (m ∷ ms) → LeadsTo w (m ∷ ms) v
        → Represents (move_followed layout h m) (following_move w f m).cells
    represents_then (moves.Splat holder cell) none legal leads = splatted holder cell none legal leads
    represents_then (moves.Free at) none legal leads =
        subst (Represents (move_followed layout h (moves.Free at))) (sym (ending_same (id_at w at.0) f)) at_hand.represents
    represents_then (moves.Seg base grains pool generation) none legal leads = at_hand.represents
    represents_then (moves.Unseg base) none legal leads = at_hand.represents
    represents_then (moves.Flip zones chain generation) none legal leads = at_hand.represents
    represents_then moves.End none legal leads = at_hand.represents
    represents_then (moves.Moved from to) none legal leads = at_hand.represents
    represents_then (moves.Stay at) none legal leads = at_hand.represents
    represents_then (moves.Post at) none legal leads = at_hand.represents
    represents_then (moves.Commit at words pool) none legal leads = at_hand.represents
    represents_then (moves.Alloc at words pool) none legal leads = at_hand.represents

    -- a flip, or a move that is legal after it
    pub next : (m : Move) → none_flips ms ≡ true → AreLegalMoves w before (m ∷ ms) → LeadsTo w (m ∷ ms) v
        → IsFollowable is_weak (world_after_move w m) (following_move w f m) → (needs_none m ≡ true → f.cells ≡ [])
        → IsLegalMove (followed w f) before m (first_move ms)
        → IsOnTheWay (world_after_move w m) (following_move w f m) (move_followed layout h m)
    next m none legal leads followable uncleared legal_paired =
        let same = move_follows w f m at_hand.followable.unpaired uncleared in
        record {
          followable = followable;
          sound = (move_well w before m (first_move ms) at_hand.sound legal.0).sound;
          laid_paired = subst (HasLayout limit) same
              (move_replayed limit (followed w f) before m (first_move ms) 0 at_hand.laid_paired legal_paired).layout;
          sound_paired = subst IsSoundGraph same
              (move_well (followed w f) before m (first_move ms) at_hand.sound_paired legal_paired).sound;
          paired = subst ArePaired same (moves_paired (followed w f) (m ∷ []) at_hand.paired);
          kept = pairs_are layout h m
              ∙ subst (λ (u : World). AreDependents u.addresses (followed_pairs h.beside.dependents m) u.graph.dependents) same
              (move_keeps (followed w f) at_hand.sound_paired at_hand.paired h.beside.dependents at_hand.kept limit at_hand.laid_paired
              before m (first_move ms) legal_paired);
          still_runs = runs_on layout h m ∙ at_hand.still_runs;
          represents = represents_then m none legal leads;
        }

  -- after moves of which none is a flip
  all_followed : (w : World) (f : Following) (h : HeapState F) (before : Option Move) (ms : List Move) → IsOnTheWay w f h
      → none_flips ms ≡ true → AreLegalMoves w before ms → LeadsTo w ms v
      → IsOnTheWay (world_after_moves w ms) (following w f ms) (moves_followed layout h ms)
  all_followed w f h before [] at_hand none legal leads = at_hand
  all_followed w f h before (m ∷ ms) at_hand none legal leads =
      let parts = and_parts (not (is_flip m)) (none_flips ms) none in
      let no_flip = not_flip (is_flip m) parts.0 in
      all_followed (world_after_move w m) (following_move w f m) (move_followed layout h m) (Some m) ms
      (next w f h at_hand before ms m parts.1 legal leads (followable_after is_weak w f at_hand.followable m no_flip)
      (λ e. while_tracing is_weak w f at_hand.followable before m (first_move ms) legal.0 (needs_tracing m no_flip e))
      (moves_legal is_weak w f before (m ∷ ms) at_hand.followable none legal).0) parts.1 legal.1 leads

  -- after moves of one collection
  pub one_followed : (w : World) (f : Following) (h : HeapState F) (before : Option Move) (ms : List Move) → IsOnTheWay w f h
      → f.cells ≡ [] → are_of_one ms ≡ true → AreLegalMoves w before ms → LeadsTo w ms v
      → IsOnTheWay (world_after_moves w ms) (following w f ms) (moves_followed layout h ms)
  one_followed w f h before [] at_hand uncleared one legal leads = at_hand
  one_followed w f h before (m ∷ ms) at_hand uncleared one legal leads =
      all_followed (world_after_move w m) (following_move w f m) (move_followed layout h m) (Some m) ms
      (next w f h at_hand before ms m one legal leads (after_first m) (λ e. uncleared)
      (one_legal is_weak w f before (m ∷ ms) at_hand.followable uncleared one legal).0) one legal.1 leads
    where
      after_first : (n : Move) → IsFollowable is_weak (world_after_move w n) (following_move w f n)
      after_first (moves.Flip zones chain generation) =
          followable_after_flip is_weak w f at_hand.followable zones chain generation uncleared
      after_first (moves.Seg base grains pool generation) =
          followable_after is_weak w f at_hand.followable (moves.Seg base grains pool generation) refl
      after_first (moves.Unseg base) = followable_after is_weak w f at_hand.followable (moves.Unseg base) refl
      after_first moves.End = followable_after is_weak w f at_hand.followable moves.End refl
      after_first (moves.Moved from to) = followable_after is_weak w f at_hand.followable (moves.Moved from to) refl
      after_first (moves.Stay at) = followable_after is_weak w f at_hand.followable (moves.Stay at) refl
      after_first (moves.Splat holder cell) = followable_after is_weak w f at_hand.followable (moves.Splat holder cell) refl
      after_first (moves.Post at) = followable_after is_weak w f at_hand.followable (moves.Post at) refl
      after_first (moves.Commit at words pool) =
          followable_after is_weak w f at_hand.followable (moves.Commit at words pool) refl
      after_first (moves.Alloc at words pool) = followable_after is_weak w f at_hand.followable (moves.Alloc at words pool) refl
      after_first (moves.Free at) = followable_after is_weak w f at_hand.followable (moves.Free at) refl

-- ---- the moves of a call

-- a heap that followed them represents the world after them, its words that world without its pairs
pub record IsFollowedTo {F : Type 0} (layout : F → Layout) (past : Past) (v : World) (f : Following) (h : HeapState F) : Type 0 where
  pub parts : AreParts layout past (with_dependents h []) (cleared v f.cells)
  pub pairs : AreDependents v.addresses h.beside.dependents f.pairs

-- Moves of one collection are made in a world without its pairs, and lead to this one. A heap that made them represents that, but for
-- pairs, which it has as they were before them.
pub moves_are_followed : {F : Type 0} (layout : F → Layout) (past : Past) (w v : World) (made : HeapState F) (limit : ℕ)
    (before : Option Move) (ms : List Move) → IsSoundGraph w → HasLayout limit w → ArePaired w
    → AreDependents w.addresses made.beside.dependents w.graph.dependents → are_of_one ms ≡ true → AreLegalMoves (unpaired w) before ms
    → LeadsTo (unpaired w) ms v → IsSoundGraph v → HasLayout (v.grains + 1) v → ReadsBy past.time made.running
    → AreParts layout past (with_dependents made []) v
    → IsFollowedTo layout past v (following (unpaired w) (nothing_followed w) ms) (moves_followed layout made ms)
moves_are_followed layout past w v made limit before ms sound laid paired kept one legal leads sound_then laid_then reads parts =
    let after =
    one_followed layout past (is_weak_in w) v sound_then laid_then made.running reads limit (unpaired w) (nothing_followed w) made before ms
    (record {
      followable = nothing_is_followable w paired;
      sound = record {
        objects = sound.objects;
        reservations = sound.reservations;
        points = sound.points;
        slots = sound.slots;
        words = sound.words;
        blocks = sound.blocks;
        registered = sound.registered;
        messages = sound.messages;
      };
      laid_paired = subst (HasLayout limit) (sym (nothing_followed_is w)) laid;
      sound_paired = subst IsSoundGraph (sym (nothing_followed_is w)) sound;
      paired = subst ArePaired (sym (nothing_followed_is w)) paired;
      kept = kept;
      still_runs = refl;
      represents = parts;
    }) refl one legal leads
    in
    record {
      parts = after.represents;
      pairs = subst (λ ats. AreDependents ats (moves_followed layout made ms).beside.dependents
          (following (unpaired w) (nothing_followed w) ms).pairs) leads.1 after.kept;
    }
