-- A collection has no more units than there are live objects, registrations and segments: what its flip fixes makes no
-- object, registers none, and condemns no segment.
use Rattle.std.proofs.Common.{◌≡◌, ◌∙◌, ℕ, suc, ◌+◌, true, false, refl, ap, List, [], ◌∷◌, length, Option, Some, None, is_some, subst, arith}
use Rattle.std.proofs.lemmas.List.{length-map}
use Rattle.std.proofs.lemmas.List.Sums.{count_by-le-length, length-filter}
use Rattle.std.proofs.lemmas.Option.{none-some, same_Some}
use Rattle.std.specs.Prelude.{◌==◌, if◌then◌else◌, nat_le, count_by}
use Rattle.mps_base.specs.Address.{Address, Id, address_of_word, address_of_grain}
use Rattle.mps_base.specs.Segment.{Segment, words_of_segment}
use Rattle.mps_base.specs.declared.moves.Move.{Move}
use Rattle.mps_model.specs.Accessing.{address_or_null}
use Rattle.mps_model.specs.Graph.{entry_at}
use Rattle.mps_model.specs.Collection.{Collection}
use Rattle.mps_model.specs.World.{World, id_at, is_at, is_copying_pool, is_live, live_ids, numbers_of, first_id, with_tail}
use Rattle.mps_model.specs.Effect.{after_segment, after_moved, condemned_by, holding, is_condemned_by, where_one, with_collection, placing, world_after_moves}
use Rattle.mps_abstract.specs.Colours.{is_to_scan}
use Rattle.mps_abstract.specs.Collecting.{Collecting}
use Rattle.mps_abstract.specs.Fixing.{Fixes, fixes_no_more, passes, keeps, Keeps, marks, moves_to_place, moves_to_segment, stays, new_segment}
use Rattle.mps_abstract.proofs.Addresses.{same_live_ids}
use Rattle.mps_abstract.proofs.Lists.{there-set}
use Rattle.mps_trace_laws.specs.Begin.Begun.{UnitsAreFew}

-- ---- moves of a fix

-- an entry of a list of addresses, counted from a first one on
abbrev IsThereFrom : (addresses : List (Option Address)) → (first n : ℕ) → Type 0
IsThereFrom addresses first n = (k : ℕ) × (n ≡ first + k) × (is_some (entry_at addresses k) ≡ true)

there_one_on : (p : Option Address) (addresses : List (Option Address)) (first n : ℕ) → IsThereFrom addresses (first + 1) n
    → IsThereFrom (p ∷ addresses) first n
there_one_on p addresses first n (k, is, there) = (suc k, omega (arith, is), there)

-- what is found at an address is live
found_there : (at first : ℕ) (addresses : List (Option Address)) (n : ℕ) → first_id (numbers_of (is_at at) first addresses) ≡ Some n
    → IsThereFrom addresses first n
found_there at first [] n e = absurd (none-some n e)
found_there at first (None ∷ addresses) n e = there_one_on None addresses first n (found_there at (first + 1) addresses n e)
found_there at first (Some other ∷ addresses) n e =
    elim (other == at) as (λ b. first_id (if b then first ∷ numbers_of (is_at at) (first + 1) addresses
    else numbers_of (is_at at) (first + 1) addresses) ≡ Some n → IsThereFrom (Some other ∷ addresses) first n) [
      | true ↦ (λ here. let same = same_Some first n here in (0, omega (arith, same), refl))
      | false ↦ (λ later. there_one_on (Some other) addresses first n (found_there at (first + 1) addresses n later))
    ] e

module _ (w : World) where
  pub found_is_live : (at : Address) (id : Id) → id_at w at ≡ Some id → is_live w id ≡ true
  found_is_live at id e = of_there (found_there at 0 w.addresses id e)
    where
      of_there : IsThereFrom w.addresses 0 id → is_live w id ≡ true
      of_there (k, is, there) =
          subst (λ (n : ℕ). is_some (entry_at w.addresses n) ≡ true) (let same : k ≡ id = omega (arith, is) in same) there

  -- an object that moves stays live
  moved_live : (from to : Address) → live_ids (where_one w (id_at w from) (λ id. after_moved w id to)) ≡ live_ids w
  moved_live from to = of_found (id_at w from) refl
    where
      of_found : (found : Option Id) → id_at w from ≡ found → live_ids (where_one w found (λ id. after_moved w id to)) ≡ live_ids w
      of_found None e = refl
      of_found (Some id) e =
          same_live_ids w (after_moved w id to) (λ n. there-set w.addresses id n to (found_is_live from id e))

  stay_live : (at : Address) → live_ids (where_one w (id_at w at) (λ id. with_collection w (placing id))) ≡ live_ids w
  stay_live at = of_found (id_at w at)
    where
      of_found : (found : Option Id) → live_ids (where_one w found (λ id. with_collection w (placing id))) ≡ live_ids w
      of_found None = refl
      of_found (Some id) = refl

  taken_live : (s : Segment) → live_ids (after_segment w s) ≡ live_ids w
  taken_live s =
      elim (is_copying_pool w s.pool) as (λ b. live_ids (if b then with_tail (holding w s) s.pool s.generation (words_of_segment s)
      else holding w s) ≡ live_ids w) [
        | true ↦ refl
        | false ↦ refl
      ]

-- what of a collection is as it was
pub record IsAsBig (x : Collecting) (w : World) (c : Collection) : Type 0 where
  pub live : live_ids w ≡ live_ids x.world
  pub segments : c.condemned_segments ≡ x.running.condemned_segments
  pub registered : c.registered_before ≡ x.running.registered_before

keeps_as_big : (x : Collecting) (id : Id) {ms : List Move} {c : Collection} → Keeps x.world x.running id ms c
    → IsAsBig x (world_after_moves x.world ms) c
keeps_as_big x id (marks other) = record { live = refl; segments = refl; registered = refl }
keeps_as_big x id (moves_to_place {word = word} copying placed free) = record {
  live = moved_live x.world (address_or_null x.world id) (address_of_word word);
  segments = refl;
  registered = refl;
}
keeps_as_big x id (moves_to_segment {grain = grain} {grains = grains} copying placed unused) =
    let s = new_segment x.world id grain grains in
    record {
      live =
          moved_live (after_segment x.world s) (address_or_null x.world id) (address_of_grain grain) ∙ taken_live x.world s;
      segments = refl;
      registered = refl;
    }
keeps_as_big x id (stays copying room) = record {
  live = stay_live x.world (address_or_null x.world id);
  segments = refl;
  registered = refl;
}

-- and over fixes
pub record IsAsFar (x y : Collecting) : Type 0 where
  pub big : IsAsBig x y.world y.running
  pub next : y.next ≡ x.next
  pub cursor : y.cursor ≡ x.cursor

fixes_as_far : {x y : Collecting} {ids : List Id} {ms : List Move} → Fixes x ids ms y → IsAsFar x y
fixes_as_far fixes_no_more = record { big = record { live = refl; segments = refl; registered = refl }; next = refl; cursor = refl }
fixes_as_far (passes black fixes) = fixes_as_far fixes
fixes_as_far {x = x} (keeps {id = id} white kept fixes) =
    let one = keeps_as_big x id kept in
    let rest = fixes_as_far fixes in
    record {
      big = record {
        live = rest.big.live ∙ one.live;
        segments = rest.big.segments ∙ one.segments;
        registered = rest.big.registered ∙ one.registered;
      };
      next = rest.next;
      cursor = rest.cursor;
    }

-- ---- units

pub units_are_few : UnitsAreFew
units_are_few w what others first y fixes =
    let far = fixes_as_far fixes in
    let objects = count_by-le-length (is_to_scan y.running.condemned y.colours) (live_ids y.world) in
    let live : length (live_ids y.world) ≡ length (live_ids w) = ap (λ (ns : List Id). length ns) far.big.live in
    let segments = count_by-le-length (nat_le y.cursor) y.running.condemned_segments in
    let condemned : length y.running.condemned_segments ≡ count_by (is_condemned_by w what) w.segments =
    ap (λ (bs : List Address). length bs) far.big.segments ∙ length-map (condemned_by w what) (λ (t : Segment). t.base)
    ∙ length-filter (is_condemned_by w what) w.segments in
    let held = count_by-le-length (is_condemned_by w what) w.segments in
    let registered : y.running.registered_before ≡ length w.graph.registered = far.big.registered in
    omega (arith, objects, live, segments, condemned, held, registered)
