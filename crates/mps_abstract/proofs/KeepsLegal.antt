-- The moves by which a white object is kept are legal, and what they are among the moves of a scan.
use Rattle.std.proofs.Common.{◌≡◌, ◌∙◌, ℕ, ◌≤◌, ◌+◌, ◌*◌, Bool, true, false, refl, sym, ap, List, [], ◌∷◌, Option, Some, None, subst, inl, inr, arith}
use Rattle.std.proofs.lemmas.Bool.{false≢true, eq-eqb, cases_Bool, le-leb}
use Rattle.std.specs.Prelude.{if◌then◌else◌, option_and_then, nat_le, nat_lt, not}
use Rattle.std.specs.Option.{option_map_or}
use Rattle.mps_base.specs.Address.{Id, word_of, address_of_word, address_of_grain, grains_needed}
use Rattle.mps_base.specs.Run.{Run, gaps, lowest_fitting, longest, total}
use Rattle.mps_base.specs.Placement.{Placement, Place, NewSegment, OverLimit, NoFreeRun, run_placement}
use Rattle.mps_base.specs.Segment.{Segment, is_in_segment, words_of_segment}
use Rattle.mps_base.specs.declared.moves.Move.{Move}
use Rattle.mps_model.specs.Graph.{contains}
use Rattle.mps_model.specs.Collection.{Collection, is_condemned, is_settled}
use Rattle.mps_model.specs.World.{World, is_live, id_at, segment_of, held_grains, generation_of, is_copying_object, pool_of, words_of, tail_of, with_tail, target_generation_for, target_generation_of}
use Rattle.mps_model.specs.Accessing.{address_or_null}
use Rattle.mps_model.specs.Placement.{ForMove, placement_of, placement_at_front, new_segment_for}
use Rattle.mps_model.specs.Effect.{holding}
use Rattle.mps_model.specs.LegalMove.{ForOne, ForObjectAt, IsLegalMove, IsLegalMoved, IsLegalStay, IsSegmentForMove, IsPlaceAt, IsNewSegmentAt, is_tracing, has_no_room}
use Rattle.mps_model.specs.Flip.{segment_for_move}
use Rattle.mps_abstract.specs.Colours.{Colours, is_white, AreDifferent, AreSettled}
use Rattle.mps_abstract.specs.Fixing.{Keeps, marks, moves_to_place, moves_to_segment, stays, IsUnused, new_segment, moved_to, stays_at}
use Rattle.mps_abstract.proofs.Addresses.{id_at-live, address_of-live, found_beside}
use Rattle.mps_abstract.proofs.Kept.{taken_for, segment_leads}
use Rattle.mps_abstract.proofs.Joining.{AreLegalAnywhere, no_moves_legal, one_legal, two_legal, for_some}

-- ---- the placement in a new segment

need_of_run : (grains limit : ℕ) (held : List Run) (need grain count : ℕ) → run_placement grains limit held need ≡ NewSegment grain count
    → count ≡ need
need_of_run grains limit held need grain count e =
    of_test (nat_lt limit (total held + need)) (lowest_fitting need (gaps 1 (grains + 1) held)) e
  where
    of_fitting : (o : Option ℕ)
        → (elim o as (λ p. Placement) [ None ↦ NoFreeRun need (longest (gaps 1 (grains + 1) held)) | Some g ↦ NewSegment g need ]) ≡
        NewSegment grain count → count ≡ need
    of_fitting None h = absurd cc
    of_fitting (Some g) h = cc

    of_test : (b : Bool) (o : Option ℕ)
        → (if b then OverLimit (total held) need limit else
        (elim o as (λ p. Placement) [ None ↦ NoFreeRun need (longest (gaps 1 (grains + 1) held)) | Some g ↦ NewSegment g need ])) ≡
        NewSegment grain count → count ≡ need
    of_test true o h = absurd cc
    of_test false o h = of_fitting o h

room_needed : (words : ℕ) → words ≤ 512 * grains_needed words
room_needed words = omega arith

pub room_in_new : (w : World) (at_hand : Run) (words grain count : ℕ) → placement_at_front w at_hand words ≡ NewSegment grain count
    → words ≤ 512 * count
room_in_new w at_hand words grain count e = of_test (nat_le words at_hand.count) e
  where
    of_test : (b : Bool) → (if b then Place at_hand.from else new_segment_for w words) ≡ NewSegment grain count → words ≤ 512 * count
    of_test true h = absurd cc
    of_test false h =
        let same = need_of_run w.grains w.limit (held_grains w) (grains_needed words) grain count h in
        let room = room_needed words in
        subst (λ n. words ≤ 512 * n) (sym same) room

pub aligned : (grain : ℕ) → address_of_word (word_of (address_of_grain grain)) ≡ address_of_grain grain
aligned grain = omega arith

own_tail : (w : World) (pool generation : ℕ) (words : Run) → tail_of (with_tail w pool generation words) pool generation ≡ words
own_tail w pool generation words = rw (eq-eqb pool pool refl, eq-eqb generation generation refl) refl

-- ---- a white object in a collection that traces

module _ (w : World) (c : Collection) (k : Colours) (id : Id) (runs : w.collection ≡ Some c) (different : AreDifferent w.addresses)
    (live : is_live w id ≡ true) (tracing : is_tracing c.phase ≡ true) (white : is_white c.condemned k id ≡ true)
    (settled : AreSettled (is_copying_object w) c k) where
  pub white_is_condemned : is_condemned c id ≡ true
  white_is_condemned = (Rattle.std.proofs.lemmas.Bool.and_parts (is_condemned c id) (not (contains k.kept id)) white).0

  pub white_not_settled : not (is_settled c id) ≡ true
  white_not_settled = elim (cases_Bool (is_settled c id)) [
    | inl is ↦ absurd (false≢true (sym (settled.settled id is) ∙ white))
    | inr isnt ↦ ap not isnt
  ]

  -- where the object is still at its address
  pub moved_is_legal : (v : World) (to word : ℕ) → v.collection ≡ Some c → id_at v (address_or_null w id) ≡ Some id
      → is_copying_object v id ≡ true → placement_of v (ForMove id) ≡ Place word → address_of_word word ≡ to
      → ForObjectAt v (address_or_null w id) (λ d i. IsLegalMoved v d i to)
  moved_is_legal v to word running there copying placed at_word =
      for_some (λ d. ForOne (id_at v (address_or_null w id)) (λ i. IsLegalMoved v d i to)) v.collection c running
      (for_some (λ i. IsLegalMoved v c i to) (id_at v (address_or_null w id)) id there (record {
        tracing = tracing;
        condemned = white_is_condemned;
        not_settled = white_not_settled;
        copying = copying;
        at_placement = subst (λ p. IsPlaceAt p to) (sym placed) at_word;
      }))

  pub stay_is_legal : is_copying_object w id ≡ true → has_no_room (placement_of w (ForMove id)) ≡ true
      → ForObjectAt w (address_or_null w id) (IsLegalStay w)
  stay_is_legal copying room =
      for_some (λ d. ForOne (id_at w (address_or_null w id)) (IsLegalStay w d)) w.collection c runs
      (for_some (IsLegalStay w c) (id_at w (address_or_null w id)) id (id_at-live w id different live) (record {
        tracing = tracing;
        condemned = white_is_condemned;
        not_settled = white_not_settled;
        copying = copying;
        no_room = room;
      }))

  module _ (grain grains : ℕ) (copying : is_copying_object w id ≡ true) (placed : placement_of w (ForMove id) ≡ NewSegment grain grains)
      (unused : IsUnused w (new_segment w id grain grains)) where
    pub same_generation : generation_of (taken_for w (new_segment w id grain grains)) id ≡ generation_of w id
    same_generation =
        let s = new_segment w id grain grains in
        let at = address_or_null w id in
        let place = address_of-live w id live in
        ap (λ p. option_map_or (λ (t : Segment). t.generation) (option_and_then (segment_of (taken_for w s)) p) 0) place
        ∙ ap (λ o. option_map_or (λ (t : Segment). t.generation) o 0)
        (found_beside (λ t. is_in_segment t at) s w.segments (unused.no_object id at place))
        ∙ sym (ap (λ p. option_map_or (λ (t : Segment). t.generation) (option_and_then (segment_of w) p) 0) place)

    pub place_in_new : placement_of (taken_for w (new_segment w id grain grains)) (ForMove id) ≡ Place (word_of (address_of_grain grain))
    place_in_new =
        let s = new_segment w id grain grains in
        let v = taken_for w s in
        ap (λ g. placement_at_front v (tail_of v (pool_of w id) (target_generation_of w (pool_of w id) g)) (words_of w id)) same_generation
        ∙ ap (λ t. placement_at_front v t (words_of w id)) (own_tail (holding w s) s.pool s.generation (words_of_segment s))
        ∙ ap (λ b. if b then Place (word_of (address_of_grain grain)) else new_segment_for v (words_of w id))
        (le-leb (words_of w id) (512 * grains)
        (room_in_new w (tail_of w (pool_of w id) (target_generation_for w id)) (words_of w id) grain grains placed))

    pub segment_is_legal : IsLegalMove w None (segment_for_move w id (address_of_grain grain) grains)
        (Some (moved_to w id (address_of_grain grain)))
    segment_is_legal =
        for_some (IsSegmentForMove w (address_of_grain grain) grains (pool_of w id) (target_generation_for w id) (address_of_grain grain))
        (id_at w (address_or_null w id)) id (id_at-live w id different live) (record {
          first = refl;
          placement = subst (λ p. IsNewSegmentAt p (address_of_grain grain) grains) (sym placed) (refl, refl);
          of_pool = refl;
          of_generation = refl;
        })

    pub moves_into_legal : AreLegalAnywhere w
        (segment_for_move w id (address_of_grain grain) grains ∷ moved_to w id (address_of_grain grain) ∷ [])
    moves_into_legal =
        two_legal w (segment_for_move w id (address_of_grain grain) grains) (moved_to w id (address_of_grain grain))
        (λ before. segment_is_legal)
        (λ next. subst (λ v. IsLegalMove v (Some (segment_for_move w id (address_of_grain grain) grains))
        (moved_to w id (address_of_grain grain)) next)
        (sym (segment_leads w id grain grains copying))
        (moved_is_legal (taken_for w (new_segment w id grain grains)) (address_of_grain grain) (word_of (address_of_grain grain)) runs
        (id_at-live w id different live) copying place_in_new (aligned grain)))

  -- the moves by which it is kept are legal
  pub keeps_legal : {ms : List Move} {c' : Collection} → Keeps w c id ms c' → AreLegalAnywhere w ms
  keeps_legal (marks other) = no_moves_legal w
  keeps_legal (moves_to_place {word = word} copying placed free) =
      one_legal w (moved_to w id (address_of_word word))
      (λ before next. moved_is_legal w (address_of_word word) word runs (id_at-live w id different live) copying placed refl)
  keeps_legal (moves_to_segment {grain = grain} {grains = grains} copying placed unused) = moves_into_legal grain grains copying placed
      unused
  keeps_legal (stays copying room) = one_legal w (stays_at w id) (λ before next. stay_is_legal copying room)
