-- What a `collect` leaves live of a copying pool was pinned at its flip, or a move since then moved it or made it stay.
use Rattle.std.proofs.Common.{◌≡◌, inl, inr, ℕ, Bool, true, false, refl, sym, ◌∙◌, ap, subst, List, [], ◌∷◌, Option, Some, None}
use Rattle.std.proofs.lemmas.Bool.{true≢false, false≢true, and_parts, or_from, cases_Bool}
use Rattle.std.specs.Option.{option_map_or}
use Rattle.std.specs.Prelude.{length, not, ◌&&◌, ◌==◌, filter, if◌then◌else◌, option_map}
use Rattle.mps_base.specs.declared.moves.Move.{Move}
use Rattle.mps_base.specs.declared.moves.Move.TheVariants as moves
use Rattle.mps_model.proofs.Reaching.{list_all-contains}
use Rattle.mps_model.specs.Graph.{Automatic, Body, Manual, Object, contains, is_automatic, is_automatic_body, object_at, without_first}
use Rattle.mps_model.specs.Collection.{Collection, is_kept_in_place}
use Rattle.mps_model.specs.Allocating.{allows_size}
use Rattle.mps_model.specs.World.{World, Pool, PoolKind, Collected, OneSize, AnySize, Frames, has_area_word, id_at, is_automatic_kind, is_copying_kind, is_copying_object, is_copying_pool, is_live, live_ids, object_is, pool_at}
use Rattle.mps_model.specs.WellFormed.{is_right_body}
use Rattle.mps_model.specs.Effect.{Everything, after_free, after_moved, after_post, after_splat, collection_at_flip, condemned_zones, giving_back, placing, posting, reclaiming, registration_of, segment_base_of, segment_of_move, splatting, where_one, with_collection, without_object, world_after_move, world_after_moves, world_flipped}
use Rattle.mps_model.specs.Flip.{world_at_flip}
use Rattle.mps_model.specs.LegalMove.{IsLegalMove, IsLegalMoved, IsLegalPost, IsLegalSplat, IsLegalStay, IsLegalSweep, live_condemned}
use Rattle.mps_laws.proofs.Finding.{for_both}
use Rattle.mps_laws.proofs.Sound.Referred.{live_is_among}
use Rattle.mps_laws.proofs.Sound.SoundGraph.{IsSoundGraph, auto}
use Rattle.mps_client_laws.specs.Objects.{is_this}
use Rattle.mps_client_laws.specs.Addresses.{none_of_moves}
use Rattle.mps_client_laws.specs.Complete.{AllOthersWereKept, OthersWereKeptByMoves, keeps_object}
use Rattle.mps_client_laws.proofs.AreaWordsStay.{same_kind}
use Rattle.mps_client_laws.proofs.CollectFlips.{live_before}
use Rattle.mps_client_laws.proofs.Completed.{IsCompleted, of_each_collect}
use Rattle.mps_client_laws.proofs.Condemned.{all_are_condemned}
use Rattle.mps_client_laws.proofs.Contained.{contains_filtered, filtered_contains}
use Rattle.mps_client_laws.proofs.EndOfCollection.{AreAllowed, IsPassedOn, ended, goes_on_after, segment_runs}

-- ---- an object that no move keeps

-- the collection condemned and pinned what it did at the flip, and has neither moved this object nor made it stay
pub record IsUnkept (id : ℕ) (begun c : Collection) : Type 0 where
  pub condemned : c.condemned ≡ begun.condemned
  pub pinned : c.pinned ≡ begun.pinned
  pub unplaced : contains c.placed id ≡ false

module _ (id : ℕ) (begun : Collection) where
  abbrev Unkept : World → Collection → Option Move → Type 0
  Unkept w c next = IsUnkept id begun c

  abbrev KeepsOther : World → Move → Type 0
  KeepsOther w m = keeps_object w m id ≡ false

  given_back : (base : ℕ) (c : Collection) → IsUnkept id begun c → IsUnkept id begun (giving_back base c)
  given_back base c h = by_case (contains c.condemned_segments base)
    where
      by_case : (b : Bool)
          → IsUnkept id begun (if b then reclaiming base (record c { condemned_segments = without_first c.condemned_segments base }) else c)
      by_case true = record { condemned = h.condemned; pinned = h.pinned; unplaced = h.unplaced }
      by_case false = h

  placed_other : (other : ℕ) (c : Collection) → is_this id (Some other) ≡ false → IsUnkept id begun c → IsUnkept id begun (placing other c)
  placed_other other c differs h = record {
    condemned = h.condemned;
    pinned = h.pinned;
    unplaced = or_from (other == id) (contains c.placed id) differs h.unplaced;
  }

  freed : (w : World) (c : Collection) (other at : ℕ) (next : Option Move) → w.collection ≡ Some c → IsUnkept id begun c → (b : Bool)
      → IsPassedOn Unkept
      (if b then with_collection (without_object w other) (reclaiming (segment_base_of w at)) else without_object w other) next
  freed w c other at next runs h true = record {
    collection = reclaiming (segment_base_of w at) c;
    runs = ap (option_map (reclaiming (segment_base_of w at))) runs;
    holds = record { condemned = h.condemned; pinned = h.pinned; unplaced = h.unplaced };
  }
  freed w c other at next runs h false = record { collection = c; runs = runs; holds = h }

  kept_other : (w : World) (c : Collection) (before : Option Move) (m : Move) (next : Option Move) → w.collection ≡ Some c
      → goes_on_after m ≡ true → keeps_object w m id ≡ false → IsLegalMove w before m next → IsUnkept id begun c
      → IsPassedOn Unkept (world_after_move w m) next
  kept_other w c before (moves.Seg base grains pool generation) next runs goes allowed legal h = record {
    collection = c;
    runs = segment_runs w (segment_of_move base.0 grains pool generation) ∙ runs;
    holds = h;
  }
  kept_other w c before (moves.Unseg base) next runs goes allowed legal h = record {
    collection = giving_back base.0 c;
    runs = ap (option_map (giving_back base.0)) runs;
    holds = given_back base.0 c h;
  }
  kept_other w c before (moves.Flip zones chain generation) next runs goes allowed legal h = absurd (false≢true goes)
  kept_other w c before moves.End next runs goes allowed legal h = absurd (false≢true goes)
  kept_other w c before (moves.Moved from to) next runs goes allowed legal h =
      let b = for_both w.collection (id_at w from.0) (λ c other. IsLegalMoved w c other to.0) legal in
      subst (λ o. IsPassedOn Unkept (where_one w o (λ other. after_moved w other to.0)) next) (sym b.is_second) (record {
        collection = placing b.second c;
        runs = ap (option_map (placing b.second)) runs;
        holds = placed_other b.second c (ap (is_this id) (sym b.is_second) ∙ allowed) h;
      })
  kept_other w c before (moves.Stay at) next runs goes allowed legal h =
      let b = for_both w.collection (id_at w at.0) (IsLegalStay w) legal in
      subst (λ o. IsPassedOn Unkept (where_one w o (λ other. with_collection w (placing other))) next) (sym b.is_second) (record {
        collection = placing b.second c;
        runs = ap (option_map (placing b.second)) runs;
        holds = placed_other b.second c (ap (is_this id) (sym b.is_second) ∙ allowed) h;
      })
  kept_other w c before (moves.Splat holder cell) next runs goes allowed legal h =
      let b = for_both w.collection (id_at w holder.0) (λ c other. IsLegalSplat w c other cell) legal in
      subst (λ o. IsPassedOn Unkept (where_one w o (λ other. after_splat w other cell)) next) (sym b.is_second) (record {
        collection = splatting c;
        runs = ap (option_map splatting) runs;
        holds = record { condemned = h.condemned; pinned = h.pinned; unplaced = h.unplaced };
      })
  kept_other w c before (moves.Post at) next runs goes allowed legal h =
      let b = for_both w.collection (id_at w at.0) (λ c other. IsLegalPost w c before other at.0) legal in
      subst (λ o. IsPassedOn Unkept (where_one w o (after_post w)) next) (sym b.is_second) (record {
        collection = posting b.second (registration_of w.graph b.second) c;
        runs = ap (option_map (posting b.second (registration_of w.graph b.second))) runs;
        holds = record { condemned = h.condemned; pinned = h.pinned; unplaced = h.unplaced };
      })
  kept_other w c before (moves.Commit at words pool) next runs goes allowed legal h = absurd legal
  kept_other w c before (moves.Alloc at words pool) next runs goes allowed legal h = absurd legal
  kept_other w c before (moves.Free at) next runs goes allowed legal h =
      let b = for_both w.collection (id_at w at.0) (IsLegalSweep w) legal in
      subst (λ o. IsPassedOn Unkept (where_one w o (λ other. after_free w other at.0)) next) (sym b.is_second)
      (freed w c b.second at.0 next runs h (object_is is_automatic w b.second))

  all_keep_other : (w : World) (ms : List Move) → none_of_moves (λ u m. keeps_object u m id) w ms ≡ true → AreAllowed KeepsOther w ms
  all_keep_other w [] none = tt
  all_keep_other w (m ∷ ms) none =
      let parts = and_parts (not (keeps_object w m id)) (none_of_moves (λ u m. keeps_object u m id) (world_after_move w m) ms) none in
      (not_true (keeps_object w m id) parts.0, all_keep_other (world_after_move w m) ms parts.1)
    where
      not_true : (b : Bool) → not b ≡ true → b ≡ false
      not_true true e = absurd (false≢true e)
      not_true false e = refl

-- ---- objects of copying pools are automatic

pub copying_is_automatic : (w : World) (id : ℕ) → IsSoundGraph w → is_copying_object w id ≡ true → auto w id ≡ true
copying_is_automatic w id s copying = of_object (object_at w.graph id) refl copying
  where
    of_kind : (kind : PoolKind) (b : Bool) → is_copying_kind kind ≡ true → (not (is_automatic_kind kind) && b) ≡ true → ⊥
    of_kind (Collected kind) b copies right = false≢true right
    of_kind (OneSize words) b copies right = false≢true copies
    of_kind AnySize b copies right = false≢true copies
    of_kind Frames b copies right = false≢true copies

    of_body : (p : Pool) (b : Body) → is_copying_kind p.kind ≡ true → is_right_body w p b ≡ true → is_automatic_body b ≡ true
    of_body p (Automatic head cells is_weak) copies right = refl
    of_body p (Manual words) copies right = absurd (of_kind p.kind (allows_size p.kind (length words)) copies right)

    of_pool : (o : Object) (p : Option Pool) → option_map_or (λ q. is_copying_kind q.kind) p false ≡ true
        → option_map_or (λ q. is_right_body w q o.body) p false ≡ true → is_automatic o ≡ true
    of_pool o None copies right = absurd (false≢true right)
    of_pool o (Some p) copies right = of_body p o.body copies right

    of_object : (o : Option Object) → object_at w.graph id ≡ o → option_map_or (λ x. is_copying_pool w x.pool) o false ≡ true
        → auto w id ≡ true
    of_object None there copies = absurd (false≢true copies)
    of_object (Some o) there copies =
        ap (λ x. option_map_or is_automatic x false) there ∙ of_pool o (pool_at w o.pool) copies (s.objects id o there)

-- ---- the law

module _ (v : World) (later : List Move) (c : IsCompleted v later) where
  abbrev flipped : World
  flipped = world_at_flip v Everything

  abbrev moved : World
  moved = world_after_moves flipped later

  abbrev begun : Collection
  begun = collection_at_flip (world_flipped v (condemned_zones v Everything)) Everything

  module _ (id : ℕ) (live : is_live moved id ≡ true) (copying : is_copying_object moved id ≡ true)
      (word : has_area_word flipped id ≡ false) where
    was_condemned : contains begun.condemned id ≡ true
    was_condemned =
        all_are_condemned c.limit flipped id c.layout c.sound
        (contains_filtered (auto flipped) (live_ids flipped) id (live_is_among flipped id (live_before id flipped later live))
        (sym (same_kind v later c id) ∙ copying_is_automatic moved id c.sound_after copying))

    never_pinned : contains begun.pinned id ≡ false
    never_pinned = elim (cases_Bool (contains begun.pinned id)) [
      | inl is ↦ absurd (true≢false (sym (filtered_contains (has_area_word flipped) begun.condemned id is).1 ∙ word))
      | inr isnt ↦ isnt
    ]

    never_unkept : none_of_moves (λ u m. keeps_object u m id) flipped later ≡ true → ⊥
    never_unkept none =
        let end = ended (Unkept id begun) (KeepsOther id begun) (kept_other id begun) flipped begun c.last later refl c.no_flip
        (all_keep_other id begun flipped later none) c.legal c.ends (record { condemned = refl; pinned = refl; unplaced = refl }) in
        let u = end.world in
        let d = end.collection in
        let kept = list_all-contains (is_kept_in_place d) (filter (is_copying_object u) (live_condemned u d)) id end.legal.copied
        (contains_filtered (is_copying_object u) (live_condemned u d) id
        (contains_filtered (is_live u) d.condemned id
        (ap (λ ids. contains ids id) end.holds.condemned ∙ was_condemned)
        (ap (λ x. is_live x id) (sym end.after_is) ∙ live))
        (ap (λ x. is_copying_object x id) (sym end.after_is) ∙ copying)) in
        true≢false (sym kept
        ∙ or_from (contains d.pinned id) (contains d.placed id) (ap (λ ids. contains ids id) end.holds.pinned ∙ never_pinned)
        end.holds.unplaced)

  others_kept : AllOthersWereKept flipped later moved
  others_kept id live copying word =
      by_case (none_of_moves (λ u m. keeps_object u m id) flipped later) (never_unkept id live copying word)
    where
      by_case : (b : Bool) → (b ≡ true → ⊥) → b ≡ false
      by_case true never = absurd (never refl)
      by_case false never = refl

pub others_were_kept_by_moves : OthersWereKeptByMoves
others_were_kept_by_moves =
    of_each_collect (λ before flipped later after. AllOthersWereKept flipped later after) (λ w v later k held same c. others_kept v later c)
