-- Fixes keep each object in one segment of its rank: it moves to words at hand, which end an exact segment, or into a new one, or stays
-- where it lay. What moves isn't weak.
use Rattle.std.proofs.Common.{◌≡◌, ◌∙◌, ℕ, ◌+◌, ◌*◌, ◌<◌, ◌≤◌, Bool, true, false, refl, sym, ap, subst, List, Option, Some, None, Result, Ok, Err, Contains, inl, inr, arith}
use Rattle.std.proofs.lemmas.Bool.{and_parts, leb-true}
use Rattle.std.proofs.lemmas.Option.{same_Some}
use Rattle.std.specs.Prelude.{[], ◌∷◌, if◌then◌else◌, map, nat_le, nat_lt, slice_get}
use Rattle.std.specs.Option.{option_map_or}
use Rattle.mps_base.specs.Address.{Address, Id, word_of, address_of_word, address_of_grain, grain_of, grains_needed}
use Rattle.mps_base.specs.Placement.{Place, NewSegment}
use Rattle.mps_base.proofs.Runs.{in_lowest_gap}
use Rattle.mps_base.specs.Run.{Run, IsAscending, end_of, gaps, lowest_fitting}
use Rattle.mps_base.specs.Segment.{Segment, end_of_segment, grains_of_segment, is_in_segment, segment_over, with_segment, words_of_segment}
use Rattle.mps_base.specs.declared.address.Addr.{Addr}
use Rattle.mps_base.specs.declared.moves.Move.{Move}
use Rattle.mps_base.specs.declared.names.Rank.{Rank}
use Rattle.mps_base.specs.declared.names.Rank.TheVariants.{Exact, Weak}
use Rattle.mps_base.specs.declared.refusal.Refusal.{Refusal}
use Rattle.mps_seg.specs.Arena.{answer_of_placement}
use Rattle.mps_seg.proofs.Placements.{placement_cases, placed, refused}
use Rattle.mps_laws.proofs.Positions.Occupancy.{run_of_tail}
use Rattle.mps_laws.proofs.Positions.Segments.{AreAligned, among_aligned, among_new, among_with, aligned_with, grains_with, found_among, found_segment}
use Rattle.mps_laws.proofs.Positions.Tails.{with_tail_of, own_tail, cases_tail}
use Rattle.mps_model.specs.Collection.{Collection}
use Rattle.mps_model.specs.Effect.{after_moved, rest_of_segment, where_one, with_collection, words_after, world_after_moves, placing}
use Rattle.mps_model.specs.Flip.{segment_for_move}
use Rattle.mps_model.specs.Graph.{Object, entry_at, is_weak_object, size_of}
use Rattle.mps_model.specs.Placement.{ForMove, placement_of, placement_at_front, new_segment_for}
use Rattle.mps_model.specs.World.{World, Tail, empty_run, held_grains, is_copying_object, is_live, pool_of, tail_of, target_generation_for, words_of}
use Rattle.mps_abstract.specs.Colours.{AreDifferent, IsUnoccupied}
use Rattle.mps_abstract.specs.Collecting.{Collecting}
use Rattle.mps_abstract.specs.Fixing.{Fixes, fixes_no_more, passes, keeps, Keeps, marks, moves_to_place, moves_to_segment, stays, moved_to, stays_at, new_segment}
use Rattle.mps_abstract.proofs.Addresses.{id_at-live}
use Rattle.mps_abstract.proofs.Kept.{different_set, taken_for, segment_leads}
use Rattle.mps_abstract.proofs.KeepsLegal.{room_in_new}
use Rattle.mps_abstract.proofs.Lists.{contains_here, contains_later, entry_at-set_cases, entry_that_is, there-set}
use Rattle.mps_trace_laws.specs.Fix.Housed.{LieInOne, AreHoused, AreLive, AreStrongMoving, rank_of_object}
use Rattle.mps_trace_laws.specs.Fix.Tracing.{setting_of, TracingStands}
use Rattle.mps_trace_laws.proofs.Fix.Hands.{contains_among}
use Rattle.mps_trace_laws.proofs.Fix.NewTail.{among_contains}
use Rattle.mps_trace_laws.proofs.Fix.Objects.{different}
use Rattle.mps_format.specs.Layout.{Layout}
use Rattle.mps_trace.specs.GenState.{ChainsState}
use Rattle.mps_trace_laws.specs.Image.Image.{CellSet}
use Rattle.mps_trace.specs.Trace.{Traced}
use Rattle.mps_format.specs.declared.pool.Policy.{Policy}

-- ---- words at hand

-- some words are the last ones of a held exact segment
record EndsOne (segments : List Segment) (words : Run) : Type 0 where
  segment : Segment
  held : Contains segments segment
  exact : segment.rank ≡ Exact
  above : word_of segment.base ≤ words.from
  ends : end_of words ≡ word_of (end_of_segment segment)

-- all words at hand are
abbrev AllEndOne : List Segment → List Tail → Type 0
AllEndOne segments tails =
    (pool generation : ℕ) → 0 < (run_of_tail tails pool generation).count → EndsOne segments (run_of_tail tails pool generation)

tails_written : (ss : List Segment) (tails : List Tail) (p g : ℕ) (words : Run) → AllEndOne ss tails → (0 < words.count → EndsOne ss words)
    → AllEndOne ss (with_tail_of tails p g words)
tails_written ss tails p g words all own p' g' some =
    elim (cases_tail tails p g p' g' words) [
      | inl same ↦
          let is : run_of_tail (with_tail_of tails p g words) p' g' ≡ words =
          ap (λ q. run_of_tail (with_tail_of tails p g words) q g') same.0 ∙ ap (run_of_tail (with_tail_of tails p g words) p) same.1
          ∙ own_tail tails p g words
          in
          subst (EndsOne ss) (sym is) (own (subst (λ (r : Run). 0 < r.count) is some))
      | inr other ↦ subst (EndsOne ss) (sym other.1) (all p' g' (subst (λ (r : Run). 0 < r.count) other.1 some))
    ]

-- the words of a segment after a block
abbrev rest_after : (to words : ℕ) → Option Segment → Run
rest_after to words o = option_map_or (λ s. rest_of_segment s (to + 8 * words)) o empty_run

-- segments that ascend by whole grains
record AreHeldIn (w : World) : Type 0 where
  aligned : AreAligned w.segments
  ascending : IsAscending 1 (w.grains + 1) (map grains_of_segment w.segments)

-- where a block lies in an exact one, the words after it are the last ones of that
rest_ends : (w : World) (to words size : ℕ) → AreHeldIn w → address_of_word (word_of to) ≡ to → 0 < size
    → LieInOne w.segments to size Exact → 0 < (words_after w to words).count → EndsOne w.segments (words_after w to words)
rest_ends w to words size order on_word positive one some = go (segment_over w.segments to) refl some
  where
    over : segment_over w.segments to ≡ Some one.segment
    over =
        let among = contains_among w.segments one.segment one.held in
        let base = among_aligned one.segment w.segments order.aligned among in
        ap (segment_over w.segments) (sym on_word)
        ∙ found_segment 1 (w.grains + 1) w.segments one.segment order.ascending order.aligned among (word_of to)
        (one.above, omega (arith, one.below, positive, base))

    go : (o : Option Segment) → segment_over w.segments to ≡ o → 0 < (rest_after to words o).count
        → EndsOne w.segments (rest_after to words o)
    go None e none = absurd (omega (arith, none))
    go (Some s) e more =
        let found = found_among (λ t. is_in_segment t to) w.segments s e in
        let parts = and_parts (nat_le s.base to) (nat_lt to (end_of_segment s)) found.1 in
        let above = leb-true s.base to parts.0 in
        record {
          segment = s;
          held = among_contains w.segments s found.0;
          exact = ap (λ (t : Segment). t.rank) (same_Some s one.segment (sym e ∙ over)) ∙ one.rank_is;
          above = omega (arith, above);
          ends = omega (arith, more);
        }

-- ---- one more segment

held_more : (s t : Segment) (ss : List Segment) → Contains ss t → Contains (with_segment s ss) t
held_more s t ss there = among_contains (with_segment s ss) t (among_with s t ss (contains_among ss t there))

lie_more : (s : Segment) (ss : List Segment) (at : Address) (size : ℕ) (rank : Rank) → LieInOne ss at size rank
    → LieInOne (with_segment s ss) at size rank
lie_more s ss at size rank one = record {
  segment = one.segment;
  held = held_more s one.segment ss one.held;
  rank_is = one.rank_is;
  above = one.above;
  below = one.below;
}

end_more : (s : Segment) (ss : List Segment) (words : Run) → EndsOne ss words → EndsOne (with_segment s ss) words
end_more s ss words one =
    record {
      segment = one.segment;
      held = held_more s one.segment ss one.held;
      exact = one.exact;
      above = one.above;
      ends = one.ends;
    }

-- ---- where a block is placed

place_is : (a b : ℕ) → Place a ≡ Place b → a ≡ b
place_is a b e = cc

never_new : (w : World) (words word : ℕ) → new_segment_for w words ≡ Place word → ⊥
never_new w words word e =
    elim (placement_cases w.grains w.limit (held_grains w) (grains_needed words)) [
      | placed grain is lowest ↦
          let never : NewSegment grain (grains_needed words) ≡ Place word = sym is ∙ e in cc
      | refused why is ↦
          let left : Result Addr Refusal = Err why in
          let never : left ≡ Ok (record { 0 = address_of_word word }) = sym is ∙ ap answer_of_placement e in cc
    ]

-- at the first of the words at hand, of which there are enough
at_first : (w : World) (at_hand : Run) (words word : ℕ) → placement_at_front w at_hand words ≡ Place word
    → (words ≤ at_hand.count) × (at_hand.from ≡ word)
at_first w at_hand words word e = go (nat_le words at_hand.count) refl e
  where
    go : (b : Bool) → nat_le words at_hand.count ≡ b → (if b then Place at_hand.from else new_segment_for w words) ≡ Place word
        → (words ≤ at_hand.count) × (at_hand.from ≡ word)
    go true is h = (leb-true words at_hand.count is, place_is at_hand.from word h)
    go false is h = absurd (never_new w words word h)

new_is : (a b m n : ℕ) → NewSegment a m ≡ NewSegment b n → (a ≡ b) × (m ≡ n)
new_is a b m n e = (cc, cc)

-- or in the lowest gap in which the grains fit
new_fits : (w : World) (words grain grains : ℕ) → new_segment_for w words ≡ NewSegment grain grains
    → lowest_fitting grains (gaps 1 (w.grains + 1) (held_grains w)) ≡ Some grain
new_fits w words grain grains e =
    elim (placement_cases w.grains w.limit (held_grains w) (grains_needed words)) [
      | placed at is lowest ↦
          let same = new_is at grain (grains_needed words) grains (sym is ∙ e) in
          subst (λ n. lowest_fitting n (gaps 1 (w.grains + 1) (held_grains w)) ≡ Some grain) same.1
          (lowest ∙ ap (λ n. Some n) same.0)
      | refused why is ↦
          let left : Result Addr Refusal = Err why in
          let never : left ≡ Ok (record { 0 = address_of_grain grain }) = sym is ∙ ap answer_of_placement e in cc
    ]

new_fits_front : (w : World) (at_hand : Run) (words grain grains : ℕ) → placement_at_front w at_hand words ≡ NewSegment grain grains
    → lowest_fitting grains (gaps 1 (w.grains + 1) (held_grains w)) ≡ Some grain
new_fits_front w at_hand words grain grains e = go (nat_le words at_hand.count) e
  where
    go : (b : Bool) → (if b then Place at_hand.from else new_segment_for w words) ≡ NewSegment grain grains
        → lowest_fitting grains (gaps 1 (w.grains + 1) (held_grains w)) ≡ Some grain
    go true h = let never : Place at_hand.from ≡ NewSegment grain grains = h in cc
    go false h = new_fits w words grain grains h

-- ---- worlds

-- what fixes keep of a world: each live object lies in one segment of its rank, and words at hand end an exact one
record KeepsHoused (w : World) : Type 0 where
  apart : AreDifferent w.addresses
  exists : (id : Id) → is_live w id ≡ true → (o : Object) × (slice_get w.graph.objects id ≡ Some o)
  positive : (id : Id) (o : Object) → is_live w id ≡ true → slice_get w.graph.objects id ≡ Some o → 0 < size_of o
  strong : AreStrongMoving w
  order : AreHeldIn w
  housed : AreHoused w.graph.objects w.segments w.addresses
  tails : AllEndOne w.segments w.tails

-- a world with the same live objects, and perhaps more, in which that holds too
record IsHousedAfter (w w' : World) : Type 0 where
  keeps_housed : KeepsHoused w'
  live : (n : Id) → is_live w n ≡ true → is_live w' n ≡ true

-- an object moves to words in one segment
module _ (v : World) (id : Id) (to : Address) (h : KeepsHoused v) (live : is_live v id ≡ true) (free : IsUnoccupied v.addresses to)
    (copying : is_copying_object v id ≡ true) (on_word : address_of_word (word_of to) ≡ to)
    (there : (o : Object) → slice_get v.graph.objects id ≡ Some o → LieInOne v.segments to (size_of o) Exact) where
  same_live : (n : Id) → is_live (after_moved v id to) n ≡ is_live v n
  same_live n = there-set v.addresses id n to live

  -- it isn't weak
  exact_object : (o : Object) → slice_get v.graph.objects id ≡ Some o → Exact ≡ rank_of_object o
  exact_object o object =
      sym (ap (λ b. if b then Weak else Exact)
      (sym (ap (λ e. option_map_or is_weak_object e false) object) ∙ h.strong id copying))

  moved_housed : IsHousedAfter v (after_moved v id to)
  moved_housed = record {
    keeps_housed = record {
      apart = different_set v.addresses id to h.apart free;
      exists = λ n lives. h.exists n (sym (same_live n) ∙ lives);
      positive = λ n o lives e. h.positive n o (sym (same_live n) ∙ lives) e;
      strong = h.strong;
      order = record { aligned = h.order.aligned; ascending = h.order.ascending };
      housed = λ n at o e object.
          elim (entry_at-set_cases v.addresses id n (Some to) at e) [
            | inl written ↦
                let own = ap (slice_get v.graph.objects) written.0 ∙ object in
                subst (λ a. LieInOne v.segments a (size_of o) (rank_of_object o)) (same_Some to at written.1)
                (subst (LieInOne v.segments to (size_of o)) (exact_object o own) (there o own))
            | inr old ↦ h.housed n at o old.1 object
          ];
      tails =
          let o = h.exists id live in
          tails_written v.segments v.tails (pool_of v id) (target_generation_for v id) (words_after v to (words_of v id)) h.tails
          (rest_ends v to (words_of v id) (size_of o.0) h.order on_word (h.positive id o.0 live o.1) (there o.0 o.1));
    };
    live = λ n lives. same_live n ∙ lives;
  }

-- an exact segment is taken, in the lowest gap in which it fits
taken_housed : (w : World) (s : Segment) → s.rank ≡ Exact → 0 < s.grains → address_of_grain (grain_of s.base) ≡ s.base
    → lowest_fitting s.grains (gaps 1 (w.grains + 1) (held_grains w)) ≡ Some (grain_of s.base) → KeepsHoused w → KeepsHoused (taken_for w s)
taken_housed w s exact some base fits h =
    let ss = with_segment s w.segments in
    record {
      apart = h.apart;
      exists = h.exists;
      positive = h.positive;
      strong = h.strong;
      order = record {
        aligned = aligned_with s w.segments base h.order.aligned;
        ascending =
            subst (IsAscending 1 (w.grains + 1)) (sym (grains_with s w.segments base h.order.aligned))
            (in_lowest_gap 1 (w.grains + 1) (held_grains w) s.grains (grain_of s.base) some h.order.ascending fits).ascending;
      };
      housed = λ n at o e object. lie_more s w.segments at (size_of o) (rank_of_object o) (h.housed n at o e object);
      tails =
          tails_written ss w.tails s.pool s.generation (words_of_segment s)
          (λ p g some. end_more s w.segments (run_of_tail w.tails p g) (h.tails p g some))
          (λ some. record {
            segment = s;
            held = among_contains ss s (among_new s w.segments);
            exact = exact;
            above = omega arith;
            ends = omega arith;
          });
    }

-- ---- one object is kept

module _ (w : World) (c : Collection) (id : Id) (h : KeepsHoused w) (live : is_live w id ≡ true) where
  words_are : (o : Object) → slice_get w.graph.objects id ≡ Some o → words_of w id ≡ size_of o
  words_are o object = ap (λ e. option_map_or size_of e 0) object

  placed_there : (word : ℕ) → placement_of w (ForMove id) ≡ Place word → (o : Object) → slice_get w.graph.objects id ≡ Some o
      → LieInOne w.segments (address_of_word word) (size_of o) Exact
  placed_there word place o object =
      let words = tail_of w (pool_of w id) (target_generation_for w id) in
      let first = at_first w words (words_of w id) word place in
      let size = words_are o object in
      let some = h.positive id o live object in
      let fits = first.0 in
      let one = h.tails (pool_of w id) (target_generation_for w id) (omega (arith, some, size, fits)) in
      let begins = first.1 in
      let above = one.above in
      let ends = one.ends in
      record {
        segment = one.segment;
        held = one.held;
        rank_is = one.exact;
        above = omega (arith, above, begins);
        below = omega (arith, ends, begins, size, fits);
      }

  new_there : (grain grains : ℕ) → placement_of w (ForMove id) ≡ NewSegment grain grains → (o : Object)
      → slice_get w.graph.objects id ≡ Some o
      → LieInOne (with_segment (new_segment w id grain grains) w.segments) (address_of_grain grain) (size_of o) Exact
  new_there grain grains place o object =
      let s = new_segment w id grain grains in
      let size = words_are o object in
      let room =
      room_in_new w (tail_of w (pool_of w id) (target_generation_for w id)) (words_of w id) grain grains place
      in
      record {
        segment = s;
        held = among_contains (with_segment s w.segments) s (among_new s w.segments);
        rank_is = refl;
        above = omega arith;
        below = omega (arith, size, room);
      }

  taken : (grain grains : ℕ) → placement_of w (ForMove id) ≡ NewSegment grain grains
      → KeepsHoused (taken_for w (new_segment w id grain grains))
  taken grain grains place =
      let at_hand = tail_of w (pool_of w id) (target_generation_for w id) in
      let o = h.exists id live in
      let some = h.positive id o.0 live o.1 in
      let size = words_are o.0 o.1 in
      let room = room_in_new w at_hand (words_of w id) grain grains place in
      let same : grain ≡ grain_of (address_of_grain grain) = omega arith in
      taken_housed w (new_segment w id grain grains) refl (omega (arith, some, size, room)) (omega arith)
      (new_fits_front w at_hand (words_of w id) grain grains place ∙ ap (λ n. Some n) same) h

  moved_leads : (to : Address) → world_after_moves w (moved_to w id to ∷ []) ≡ after_moved w id to
  moved_leads to = ap (λ found. where_one w found (λ n. after_moved w n to)) (id_at-live w id h.apart live)

  moved_into_leads : (grain grains : ℕ) → is_copying_object w id ≡ true
      → world_after_moves w (segment_for_move w id (address_of_grain grain) grains ∷ moved_to w id (address_of_grain grain) ∷ [])
      ≡ after_moved (taken_for w (new_segment w id grain grains)) id (address_of_grain grain)
  moved_into_leads grain grains copying =
      let to = address_of_grain grain in
      let v = taken_for w (new_segment w id grain grains) in
      ap (λ u. world_after_moves u (moved_to w id to ∷ [])) (segment_leads w id grain grains copying)
      ∙ ap (λ found. where_one v found (λ n. after_moved v n to)) (id_at-live w id h.apart live)

  stay_leads : world_after_moves w (stays_at w id ∷ []) ≡ with_collection w (placing id)
  stay_leads = ap (λ found. where_one w found (λ n. with_collection w (placing n))) (id_at-live w id h.apart live)

  kept_housed : {ms : List Move} {c' : Collection} → Keeps w c id ms c' → IsHousedAfter w (world_after_moves w ms)
  kept_housed (marks other) = record { keeps_housed = h; live = λ n lives. lives }
  kept_housed (moves_to_place {word = word} copying place free) =
      let to = address_of_word word in
      subst (IsHousedAfter w) (sym (moved_leads to)) (moved_housed w id to h live free copying (omega arith) (placed_there word place))
  kept_housed (moves_to_segment {grain = grain} {grains = grains} copying place unused) =
      let s = new_segment w id grain grains in
      let to = address_of_grain grain in
      let after =
      moved_housed (taken_for w s) id to (taken grain grains place) live unused.unoccupied copying (omega arith)
      (new_there grain grains place)
      in
      subst (IsHousedAfter w) (sym (moved_into_leads grain grains copying))
      (record { keeps_housed = after.keeps_housed; live = after.live })
  kept_housed (stays copying room) =
      subst (IsHousedAfter w) (sym stay_leads)
      (record {
        keeps_housed = record {
          apart = h.apart;
          exists = h.exists;
          positive = h.positive;
          strong = h.strong;
          order = record { aligned = h.order.aligned; ascending = h.order.ascending };
          housed = h.housed;
          tails = h.tails;
        };
        live = λ n lives. lives;
      })

-- ---- objects, one after the other

after_fixes : {x y : Collecting} {ids : List Id} {ms : List Move} → Fixes x ids ms y → KeepsHoused x.world → AreLive ids x.world
    → KeepsHoused y.world
after_fixes fixes_no_more h live = h
after_fixes {x} (passes {id = id} {ids = ids} black rest) h live =
    after_fixes rest h (λ n among. live n (contains_later id ids n among))
after_fixes {x} (keeps {id = id} {ids} {these} {those} {c} white keep rest) h live =
    let after = kept_housed x.world x.running id h (live id (contains_here id ids)) keep in
    after_fixes rest after.keeps_housed (λ n among. after.live n (live n (contains_later id ids n among)))

-- if live objects are fixed, each object lies in one segment of its rank then, if each did before
pub fixes_keep_housed : {F : Type 0}
    → (layout : F → Layout) (formats : List (Option (Policy F))) (of : ChainsState) (at_flip : List (Option Address)) (done : CellSet)
    (x : Traced)
    (y after : Collecting) (ids : List Id) (moves : List Move) → TracingStands layout formats of at_flip done x y
    → AreStrongMoving y.world → AreHoused y.world.graph.objects x.segs.segments y.world.addresses → AreLive ids y.world
    → Fixes y ids moves after
    → AreHoused after.world.graph.objects after.world.segments after.world.addresses
fixes_keep_housed layout formats of at_flip done x y after ids moves stands strong housed live fixes =
    let st = stands.state in
    let same = st.segments.same_segments in
    let placed = st.image.placed in
    let before : KeepsHoused y.world = record {
      apart = different (setting_of x.segs at_flip y) y.world.addresses placed;
      exists = λ id lives.
          let at = entry_that_is (entry_at y.world.addresses id) lives in placed.exists id at.0 at.1;
      positive = λ id o lives object.
          let at = entry_that_is (entry_at y.world.addresses id) lives in placed.positive id at.0 o at.1 object;
      strong = strong;
      order = record {
        aligned = subst AreAligned same st.held.aligned;
        ascending =
            subst (λ (ss : List Segment). IsAscending 1 (y.world.grains + 1) (map grains_of_segment ss)) same
            (subst (λ (n : ℕ). IsAscending 1 (n + 1) (map grains_of_segment x.segs.segments)) st.segments.same_grains
            st.held.ascending);
      };
      housed = subst (λ ss. AreHoused y.world.graph.objects ss y.world.addresses) same housed;
      tails = λ p g some.
          let home = st.hands.home p g some in
          subst (λ ss. EndsOne ss (tail_of y.world p g)) same
          (record { segment = home.segment; held = home.held; exact = home.exact; above = home.above; ends = home.ends });
    } in
    (after_fixes fixes before live).housed
