-- What the moves by which an object is kept leave of a world: its objects, and all of the rest but where they are.
use Rattle.std.proofs.Common.{◌≡◌, ◌∙◌, ◌⊎◌, ℕ, true, false, refl, sym, ap, List, [], ◌∷◌, Option, Some, None, subst, inl, inr}
use Rattle.std.proofs.lemmas.Bool.{false≢true, ne_eqb}
use Rattle.std.proofs.lemmas.Option.{none-some}
use Rattle.std.specs.Prelude.{◌==◌, if◌then◌else◌, is_some, find, slice_set, option_map}
use Rattle.std.specs.Option.{option_map_or}
use Rattle.mps_base.specs.Address.{Id, Address, address_of_word, address_of_grain}
use Rattle.mps_base.specs.Segment.{Segment, with_segment, is_in_segment, segment_over, words_of_segment}
use Rattle.mps_base.specs.declared.moves.Move.{Move}
use Rattle.mps_model.specs.Graph.{contains, entry_at}
use Rattle.mps_model.specs.Collection.{Collection}
use Rattle.mps_model.specs.World.{World, Tail, is_live, is_copying_object, with_tail}
use Rattle.mps_model.specs.Effect.{placing, holding, after_segment, after_moved, with_collection, where_one, world_after_moves}
use Rattle.mps_model.specs.Flip.{segment_for_move}
use Rattle.mps_abstract.specs.Colours.{AreDifferent, IsUnoccupied}
use Rattle.mps_abstract.specs.Fixing.{Keeps, marks, moves_to_place, moves_to_segment, stays, IsUnused, new_segment, moved_to, stays_at}
use Rattle.mps_abstract.proofs.Lists.{contains_here, contains_later, contains_cases, entry_at-set_cases, entry_at-set_other, there-set}
use Rattle.mps_abstract.proofs.Addresses.{id_at-live, copying_pool_of, found_beside}

-- the base of the segment of some in which an address lies
abbrev pub base_over : List Segment → (at : Address) → Address
base_over ss at = option_map_or (λ (s : Segment). s.base) (segment_over ss at) 0

-- of some segments the one with this base
abbrev pub held_in : List Segment → (base : Address) → Option Segment
held_in ss base = find (λ s. s.base == base) ss

-- an object was kept: the world after that, and its collection
pub record IsKept (w : World) (c : Collection) (id : Id) (w' : World) (c' : Collection) : Type 0 where
  pub addresses : List (Option Address)
  pub segments : List Segment
  pub tails : List Tail
  pub placed : List Id
  pub world : w' ≡ record w { addresses = addresses; segments = segments; tails = tails; collection = Some c' }
  pub running : c' ≡ record c { placed = placed }
  -- the same objects are live, and the others are where they were
  pub live : (n : Id) → is_some (entry_at addresses n) ≡ is_some (entry_at w.addresses n)
  pub others : (n : Id) → (id ≡ n → ⊥) → entry_at addresses n ≡ entry_at w.addresses n
  pub different : AreDifferent addresses
  -- the same segments are held, and perhaps a new one
  pub held : (base : Address) (s : Segment) → held_in w.segments base ≡ Some s → held_in segments base ≡ Some s
  pub base_of : (n : Id) (at : Address) → entry_at w.addresses n ≡ Some at → base_over segments at ≡ base_over w.segments at
  pub placed_only : (n : Id) → contains placed n ≡ true → (n ≡ id) ⊎ (contains c.placed n ≡ true)
  pub placed_still : (n : Id) → contains c.placed n ≡ true → contains placed n ≡ true
  pub in_place : is_copying_object w id ≡ true → contains placed id ≡ true

-- ---- addresses after one was written

pub different_set : (addresses : List (Option Address)) (id : Id) (to : Address) → AreDifferent addresses → IsUnoccupied addresses to
    → AreDifferent (slice_set addresses id (Some to))
different_set addresses id to different free n m at en em =
    elim (entry_at-set_cases addresses id n (Some to) at en) [
      | inl wn ↦ elim (entry_at-set_cases addresses id m (Some to) at em) [
        | inl wm ↦ sym wn.0 ∙ wm.0
        | inr sm ↦ absurd (free m (sm.1 ∙ sym wn.1))
      ]
      | inr sn ↦ elim (entry_at-set_cases addresses id m (Some to) at em) [
        | inl wm ↦ absurd (free n (sn.1 ∙ sym wm.1))
        | inr sm ↦ different n m at sn.1 sm.1
      ]
    ]

-- ---- a segment that is taken for an object that moves

-- the world with a segment, whose words are at hand
abbrev pub taken_for : World → Segment → World
taken_for w s = with_tail (holding w s) s.pool s.generation (words_of_segment s)

pub segment_leads : (w : World) (id grain grains : ℕ) → is_copying_object w id ≡ true
    → after_segment w (new_segment w id grain grains) ≡ taken_for w (new_segment w id grain grains)
segment_leads w id grain grains copying =
    ap (λ b. if b then taken_for w (new_segment w id grain grains) else holding w (new_segment w id grain grains))
    (copying_pool_of w id copying)

-- a segment that is held begins elsewhere than one that isn't
other_base : (ss : List Segment) (s : Segment) (base : Address) (t : Segment) → held_in ss s.base ≡ None → held_in ss base ≡ Some t
    → (s.base == base) ≡ false
other_base ss s base t not_held held =
    ne_eqb s.base base (λ e. none-some t (sym not_held ∙ ap (held_in ss) e ∙ held))

-- ---- one object is kept

module _ (w : World) (c : Collection) (id : Id) (runs : w.collection ≡ Some c) (different : AreDifferent w.addresses)
    (live : is_live w id ≡ true) where
  pub placed_one : (n : Id) → contains (id ∷ c.placed) n ≡ true → (n ≡ id) ⊎ (contains c.placed n ≡ true)
  placed_one n h = elim (contains_cases id c.placed n h) [ inl e ↦ inl (sym e) | inr e ↦ inr e ]

  -- it was marked
  pub kept_marked : is_copying_object w id ≡ false → IsKept w c id w c
  kept_marked other = record {
    addresses = w.addresses;
    segments = w.segments;
    tails = w.tails;
    placed = c.placed;
    world = ap (λ o. record w { collection = o }) runs;
    running = refl;
    live = λ n. refl;
    others = λ n h. refl;
    different = different;
    held = λ base s h. h;
    base_of = λ n at h. refl;
    placed_only = λ n h. inr h;
    placed_still = λ n h. h;
    in_place = λ copying. absurd (false≢true (sym other ∙ copying));
  }

  -- it stays
  pub kept_staying : IsKept w c id (with_collection w (placing id)) (placing id c)
  kept_staying = record {
    addresses = w.addresses;
    segments = w.segments;
    tails = w.tails;
    placed = id ∷ c.placed;
    world = ap (λ o. record w { collection = option_map (placing id) o }) runs;
    running = refl;
    live = λ n. refl;
    others = λ n h. refl;
    different = different;
    held = λ base s h. h;
    base_of = λ n at h. refl;
    placed_only = placed_one;
    placed_still = λ n h. contains_later id c.placed n h;
    in_place = λ copying. contains_here id c.placed;
  }

  -- it moved
  pub kept_moving : (to : Address) → IsUnoccupied w.addresses to → IsKept w c id (after_moved w id to) (placing id c)
  kept_moving to free = record {
    addresses = slice_set w.addresses id (Some to);
    segments = w.segments;
    tails = (after_moved w id to).tails;
    placed = id ∷ c.placed;
    world = ap (λ o. record (after_moved w id to) { collection = option_map (placing id) o }) runs;
    running = refl;
    live = λ n. there-set w.addresses id n to live;
    others = λ n h. entry_at-set_other w.addresses id n (Some to) h;
    different = different_set w.addresses id to different free;
    held = λ base s h. h;
    base_of = λ n at h. refl;
    placed_only = placed_one;
    placed_still = λ n h. contains_later id c.placed n h;
    in_place = λ copying. contains_here id c.placed;
  }

  -- it moved into a new segment
  pub kept_moving_into : (grain grains : ℕ) → IsUnused w (new_segment w id grain grains)
      → IsKept w c id (after_moved (taken_for w (new_segment w id grain grains)) id (address_of_grain grain)) (placing id c)
  kept_moving_into grain grains unused =
      let s = new_segment w id grain grains in
      let v = after_moved (taken_for w s) id (address_of_grain grain) in
      record {
        addresses = slice_set w.addresses id (Some (address_of_grain grain));
        segments = with_segment s w.segments;
        tails = v.tails;
        placed = id ∷ c.placed;
        world = ap (λ o. record v { collection = option_map (placing id) o }) runs;
        running = refl;
        live = λ n. there-set w.addresses id n (address_of_grain grain) live;
        others = λ n h. entry_at-set_other w.addresses id n (Some (address_of_grain grain)) h;
        different = different_set w.addresses id (address_of_grain grain) different unused.unoccupied;
        held = λ base t h. found_beside (λ u. u.base == base) s w.segments (other_base w.segments s base t unused.not_held h) ∙ h;
        base_of = λ n at h. ap (λ o. option_map_or (λ (t : Segment). t.base) o 0)
            (found_beside (λ t. is_in_segment t at) s w.segments (unused.no_object n at h));
        placed_only = placed_one;
        placed_still = λ n h. contains_later id c.placed n h;
        in_place = λ copying. contains_here id c.placed;
      }

  -- the world after the moves is the one that they lead to
  pub moved_leads : (to : Address) → world_after_moves w (moved_to w id to ∷ []) ≡ after_moved w id to
  moved_leads to = ap (λ found. where_one w found (λ n. after_moved w n to)) (id_at-live w id different live)

  pub moved_into_leads : (grain grains : ℕ) → is_copying_object w id ≡ true
      → world_after_moves w (segment_for_move w id (address_of_grain grain) grains ∷ moved_to w id (address_of_grain grain) ∷ [])
      ≡ after_moved (taken_for w (new_segment w id grain grains)) id (address_of_grain grain)
  moved_into_leads grain grains copying =
      let to = address_of_grain grain in
      ap (λ v. world_after_moves v (moved_to w id to ∷ [])) (segment_leads w id grain grains copying)
      ∙ ap (λ found. where_one (taken_for w (new_segment w id grain grains)) found
      (λ n. after_moved (taken_for w (new_segment w id grain grains)) n to)) (id_at-live w id different live)

  pub stay_leads : world_after_moves w (stays_at w id ∷ []) ≡ with_collection w (placing id)
  stay_leads = ap (λ found. where_one w found (λ n. with_collection w (placing n))) (id_at-live w id different live)

  -- what the moves by which an object is kept leave
  pub keeps_leaves : {ms : List Move} {c' : Collection} → Keeps w c id ms c' → IsKept w c id (world_after_moves w ms) c'
  keeps_leaves (marks other) = kept_marked other
  keeps_leaves (moves_to_place {word = word} copying placed free) =
      subst (λ v. IsKept w c id v (placing id c)) (sym (moved_leads (address_of_word word))) (kept_moving (address_of_word word) free)
  keeps_leaves (moves_to_segment {grain = grain} {grains = grains} copying placed unused) =
      subst (λ v. IsKept w c id v (placing id c)) (sym (moved_into_leads grain grains copying)) (kept_moving_into grain grains unused)
  keeps_leaves (stays copying room) = subst (λ v. IsKept w c id v (placing id c)) (sym stay_leads) kept_staying
