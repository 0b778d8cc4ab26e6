-- An object that is white where its registration is examined is kept and posted: these moves are legal, and they are an examination.
use Rattle.std.proofs.Common.{◌≡◌, ◌∙◌, ℕ, true, false, refl, sym, ap, List, [], ◌∷◌, ◌++◌, Option, Some, subst, inl}
use Rattle.std.proofs.lemmas.Bool.{false≢true, or_left, or_right, and_from, eq-eqb, ne_eqb, le-leb, lt-ltb}
use Rattle.std.specs.Prelude.{◌||◌, not, IsTrue, nat_le, nat_lt, slice_set}
use Rattle.std.specs.Option.{option_map_or}
use Rattle.mps_base.specs.Address.{Id, Address, word_of, address_of_word, address_of_grain}
use Rattle.mps_base.specs.Placement.{Place, NewSegment}
use Rattle.mps_base.specs.declared.moves.Move.{Move}
use Rattle.mps_base.specs.declared.moves.Move.TheVariants as moves
use Rattle.mps_model.specs.Graph.{contains, position_of_first, entry_at}
use Rattle.mps_model.specs.Collection.{Collection, is_condemned, is_settled, is_surely_kept}
use Rattle.mps_model.specs.World.{World, address_of, id_at, is_live, is_copying_object}
use Rattle.mps_model.specs.Accessing.{address_or_null}
use Rattle.mps_model.specs.Placement.{ForMove, placement_of}
use Rattle.mps_model.specs.Effect.{placing, world_after_moves}
use Rattle.mps_model.specs.Flip.{at_address, segment_for_move}
use Rattle.mps_model.specs.LegalMove.{ForOne, IsLegalMove, IsLegalPost, IsLost, has_no_room, is_due, is_kept_before, keeps_at}
use Rattle.mps_model.specs.Units.{IsExamination, posts, stays_and_posts, moves_and_posts, moves_to_segment_and_posts}
use Rattle.mps_abstract.specs.Colours.{AreDifferent}
use Rattle.mps_abstract.specs.Collecting.{Collecting, is_tracing_band, is_white_in, Running}
use Rattle.mps_abstract.specs.Fixing.{Keeps, marks, moves_to_place, moves_to_segment, stays, moved_to, stays_at, IsUnused, new_segment}
use Rattle.mps_abstract.specs.Units.{IsExaminedNext}
use Rattle.mps_abstract.proofs.Lists.{contains_at, entry_within, entry_at-set_same}
use Rattle.mps_abstract.proofs.Addresses.{id_at-live, address_of-live}
use Rattle.mps_abstract.proofs.Joining.{AreLegalAnywhere, one_legal, two_legal, three_legal, for_some}
use Rattle.mps_abstract.proofs.Registrations.{StandsFirst, position_first}
use Rattle.mps_abstract.proofs.Keeping.{is_condemned_if_white}
use Rattle.mps_abstract.proofs.Gone.{lost_after, white_is_lost}
use Rattle.mps_abstract.proofs.Kept.{IsKept, keeps_leaves, taken_for, segment_leads, moved_leads, moved_into_leads, stay_leads}
use Rattle.mps_abstract.proofs.KeepsLegal.{moved_is_legal, stay_is_legal, segment_is_legal, place_in_new, aligned, white_not_settled}
use Rattle.mps_abstract.proofs.Examining.{examined_is_tracing}

module _ (x : Collecting) (run : Running x) (id : Id) (due : IsExaminedNext x id) (white : is_white_in x id ≡ true) where
  pub live : is_live x.world id ≡ true
  live = run.examined.live_registered id (contains_at x.world.graph.registered x.next id due.registered)

  pub tracing : is_tracing_band x.band ≡ true
  tracing = examined_is_tracing x run due.before_flip

  -- its registration is the first that it has
  pub stands_first : StandsFirst x.world.graph.registered id x.next
  stands_first = record {
    here = due.registered;
    not_before = λ before less e. false≢true (sym (run.examined.examined before id e (inl less)) ∙ white);
  }

  module _ (placed : List Id) (v : World) (runs : v.collection ≡ Some (record x.running { placed = placed }))
      (same : v.graph ≡ x.world.graph)
      (a : Address) (there : id_at v a ≡ Some id) where
    -- the post is legal
    post_is_legal : (before : Option Move) → IsLost v (record x.running { placed = placed }) id
        → (not (is_settled (record x.running { placed = placed }) id) || is_kept_before a before) ≡ true
        → (next : Option Move) → IsLegalMove v before (moves.Post (at_address a)) next
    post_is_legal before lost found next =
        for_some (λ d. ForOne (id_at v a) (λ i. IsLegalPost v d before i a)) v.collection (record x.running { placed = placed }) runs
        (for_some (λ i. IsLegalPost v (record x.running { placed = placed }) before i a) (id_at v a) id there (record {
          tracing = run.band.tracing tracing;
          condemned = is_condemned_if_white x.running.condemned x.colours id white;
          lost = lost;
          registered = for_some (λ position. IsTrue (is_due x.running position)) (position_of_first v.graph.registered id) x.next
              (ap (λ g. position_of_first g.registered id) same ∙ position_first x.world.graph.registered id x.next stands_first)
              (and_from (nat_le x.running.examined x.next) (nat_lt x.next x.running.registered_before)
              (le-leb x.running.examined x.next run.examined.from) (lt-ltb x.next x.running.registered_before due.before_flip));
          just_found = found;
        }))

  kept_before_it : (n : Id) → (n ≡ id → ⊥) → is_surely_kept (placing id x.running) n ≡ true → is_surely_kept x.running n ≡ true
  kept_before_it n other h =
      sym (ap (λ b. not (is_condemned x.running n) ||
      (contains x.running.pinned n || ((b || contains x.running.placed n) || contains x.running.had n)))
      (ne_eqb id n (λ same. other (sym same)))) ∙ h

  -- after it moved or was made to stay
  module _ (v : World) (runs : v.collection ≡ Some (placing id x.running)) (same : v.graph ≡ x.world.graph)
      (was_live : (n : Id) → is_live v n ≡ true → is_live x.world n ≡ true) (a : Address) (there : id_at v a ≡ Some id) (m : Move)
      (keeps : keeps_at a m ≡ true) where
    post_after : (next : Option Move) → IsLegalMove v (Some m) (moves.Post (at_address a)) next
    post_after next =
        post_is_legal (id ∷ x.running.placed) v runs same a there (Some m)
        (lost_after x.world x.running x.colours run.coloured run.settled due.drained id white v
        (placing id x.running) same was_live kept_before_it)
        (or_right (not (is_settled (placing id x.running) id)) (is_kept_before a (Some m)) keeps) next

  -- where an object is after a move
  address_moved : (v : World) (to : Address) → address_of v id ≡ Some to → address_or_null v id ≡ to
  address_moved v to e = ap (λ o. option_map_or (λ at. at) o 0) e

  there_after : (to : Address) → entry_at (slice_set x.world.addresses id (Some to)) id ≡ Some to
  there_after to = entry_at-set_same x.world.addresses id (Some to)
      (entry_within x.world.addresses id (address_or_null x.world id) (address_of-live x.world id live))

  -- what is shown of the moves
  pub record IsPostShown (ms : List Move) (a : Address) : Type 0 where
    pub legal : AreLegalAnywhere x.world (ms ++ moves.Post (at_address a) ∷ [])
    pub is_examination : IsExamination (ms ++ moves.Post (at_address a) ∷ [])

  shown_marked : is_copying_object x.world id ≡ false → IsPostShown [] (address_or_null x.world id)
  shown_marked other = record {
    legal = one_legal x.world (moves.Post (at_address (address_or_null x.world id)))
        (λ before. post_is_legal x.running.placed x.world run.runs refl (address_or_null x.world id)
        (id_at-live x.world id run.different live) before
        (white_is_lost x.world x.running x.colours run.coloured run.settled due.drained id white)
        (or_left (not (is_settled x.running id)) (is_kept_before (address_or_null x.world id) before)
        (white_not_settled x.world x.running x.colours id run.runs run.different live (run.band.tracing tracing) white run.settled)));
    is_examination = posts;
  }

  -- the object is found where it is after that
  module _ (v : World) (runs : v.collection ≡ Some (placing id x.running)) (same : v.graph ≡ x.world.graph)
      (was_live : (n : Id) → is_live v n ≡ true → is_live x.world n ≡ true) (there : id_at v (address_or_null v id) ≡ Some id) where
    shown_moved : (to word : Address) → is_copying_object x.world id ≡ true
        → placement_of x.world (ForMove id) ≡ Place word
        → address_of_word word ≡ to → world_after_moves x.world (moved_to x.world id to ∷ []) ≡ v → address_of v id ≡ Some to
        → IsPostShown (moved_to x.world id to ∷ []) (address_or_null v id)
    shown_moved to word copying placed at_word leads at = record {
      legal = two_legal x.world (moved_to x.world id to) (moves.Post (at_address (address_or_null v id)))
          (λ before. moved_is_legal x.world x.running x.colours id run.runs run.different live (run.band.tracing tracing) white run.settled
          x.world to word run.runs (id_at-live x.world id run.different live) copying placed at_word)
          (λ next. subst (λ u. IsLegalMove u (Some (moved_to x.world id to)) (moves.Post (at_address (address_or_null v id))) next)
          (sym leads)
          (post_after v runs same was_live (address_or_null v id) there (moved_to x.world id to)
          (eq-eqb to (address_or_null v id) (sym (address_moved v to at))) next));
      is_examination = subst (λ a. IsExamination (moved_to x.world id to ∷ moves.Post (at_address a) ∷ []))
          (sym (address_moved v to at)) moves_and_posts;
    }

    shown_staying : is_copying_object x.world id ≡ true
        → has_no_room (placement_of x.world (ForMove id)) ≡ true
        → world_after_moves x.world (stays_at x.world id ∷ []) ≡ v → address_or_null v id ≡ address_or_null x.world id
        → IsPostShown (stays_at x.world id ∷ []) (address_or_null v id)
    shown_staying copying room leads at = record {
      legal = two_legal x.world (stays_at x.world id) (moves.Post (at_address (address_or_null v id)))
          (λ before. stay_is_legal x.world x.running x.colours id run.runs run.different live
          (run.band.tracing tracing) white run.settled copying room)
          (λ next. subst (λ u. IsLegalMove u (Some (stays_at x.world id)) (moves.Post (at_address (address_or_null v id))) next) (sym leads)
          (post_after v runs same was_live (address_or_null v id) there (stays_at x.world id)
          (eq-eqb (address_or_null x.world id) (address_or_null v id) (sym at)) next));
      is_examination = subst (λ a. IsExamination (stays_at x.world id ∷ moves.Post (at_address a) ∷ [])) (sym at) stays_and_posts;
    }

    shown_moved_into : (grain grains : ℕ) → is_copying_object x.world id ≡ true
        → (placed : placement_of x.world (ForMove id) ≡ NewSegment grain grains)
        → (unused : IsUnused x.world (new_segment x.world id grain grains))
        → world_after_moves x.world
        (segment_for_move x.world id (address_of_grain grain) grains ∷ moved_to x.world id (address_of_grain grain) ∷ []) ≡ v
        → address_of v id ≡ Some (address_of_grain grain)
        → IsPostShown (segment_for_move x.world id (address_of_grain grain) grains ∷ moved_to x.world id (address_of_grain grain) ∷ [])
        (address_or_null v id)
    shown_moved_into grain grains copying placed unused leads at =
        let to = address_of_grain grain in
        let s = segment_for_move x.world id to grains in
        record {
          legal = three_legal x.world s (moved_to x.world id to) (moves.Post (at_address (address_or_null v id)))
              (λ before. segment_is_legal x.world x.running x.colours id run.runs run.different live
              (run.band.tracing tracing) white run.settled
              grain grains copying placed unused)
              (subst (λ u. IsLegalMove u (Some s) (moved_to x.world id to) (Some (moves.Post (at_address (address_or_null v id)))))
              (sym (segment_leads x.world id grain grains copying))
              (moved_is_legal x.world x.running x.colours id run.runs run.different live (run.band.tracing tracing) white run.settled
              (taken_for x.world (new_segment x.world id grain grains)) to (word_of to) run.runs
              (id_at-live x.world id run.different live) copying
              (place_in_new x.world x.running x.colours id run.runs run.different live (run.band.tracing tracing) white run.settled
              grain grains copying placed unused) (aligned grain)))
              (λ next. subst (λ u. IsLegalMove u (Some (moved_to x.world id to)) (moves.Post (at_address (address_or_null v id))) next)
              (sym leads)
              (post_after v runs same was_live (address_or_null v id) there (moved_to x.world id to)
              (eq-eqb to (address_or_null v id) (sym (address_moved v to at))) next));
          is_examination = subst (λ a. IsExamination (s ∷ moved_to x.world id to ∷ moves.Post (at_address a) ∷ []))
              (sym (address_moved v to at)) moves_to_segment_and_posts;
        }

  -- a world after one more object was kept
  module _ (v : World) (c : Collection) (r : IsKept x.world x.running id v c) where
    kept_graph : v.graph ≡ x.world.graph
    kept_graph = ap (λ (u : World). u.graph) r.world

    kept_runs : v.collection ≡ Some c
    kept_runs = ap (λ (u : World). u.collection) r.world

    kept_live : (n : Id) → is_live v n ≡ is_live x.world n
    kept_live n = ap (λ (u : World). is_live u n) r.world ∙ r.live n

    pub kept_there : id_at v (address_or_null v id) ≡ Some id
    kept_there = id_at-live v id (subst (λ (u : World). AreDifferent u.addresses) (sym r.world) r.different) (kept_live id ∙ live)

  pub post_shown : {ms : List Move} {c : Collection} → Keeps x.world x.running id ms c
      → IsPostShown ms (address_or_null (world_after_moves x.world ms) id)
  post_shown (marks other) = shown_marked other
  post_shown {ms} {c} (moves_to_place {word = word} copying placed free) =
      let v = world_after_moves x.world ms in
      let to = address_of_word word in
      let r = keeps_leaves x.world x.running id run.runs run.different live (moves_to_place {word = word} copying placed free) in
      let leads = moved_leads x.world x.running id run.runs run.different live to in
      shown_moved v (kept_runs v c r) (kept_graph v c r) (λ n h. sym (kept_live v c r n) ∙ h)
      (kept_there v c r) to word copying placed refl refl
      (ap (λ u. address_of u id) leads ∙ there_after to)
  post_shown {ms} {c} (moves_to_segment {grain = grain} {grains = grains} copying placed unused) =
      let v = world_after_moves x.world ms in
      let r = keeps_leaves x.world x.running id run.runs run.different live
      (moves_to_segment {grain = grain} {grains = grains} copying placed unused) in
      let leads = moved_into_leads x.world x.running id run.runs run.different live grain grains copying in
      shown_moved_into v (kept_runs v c r) (kept_graph v c r) (λ n h. sym (kept_live v c r n) ∙ h)
      (kept_there v c r) grain grains copying placed unused
      refl (ap (λ u. address_of u id) leads ∙ there_after (address_of_grain grain))
  post_shown {ms} {c} (stays copying room) =
      let v = world_after_moves x.world ms in
      let r = keeps_leaves x.world x.running id run.runs run.different live (stays copying room) in
      let leads = stay_leads x.world x.running id run.runs run.different live in
      shown_staying v (kept_runs v c r) (kept_graph v c r) (λ n h. sym (kept_live v c r n) ∙ h) (kept_there v c r) copying room refl
      (ap (λ u. address_or_null u id) leads)
