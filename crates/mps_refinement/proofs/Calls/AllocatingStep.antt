-- An `alloc` where no collection runs: a legal step, whose moves take a segment, where one is needed, and make the block.
use Rattle.std.proofs.Common.{◌≡◌, ◌∙◌, ℕ, Bool, true, false, refl, sym, ap, List, length, Option, Some, None, Ok, is_some, replicate}
use Rattle.std.proofs.lemmas.Option.{none-some}
use Rattle.std.specs.Prelude.{not, slice_get, if◌then◌else◌}
use Rattle.mps_base.specs.Address.{Address, address_of_grain}
use Rattle.mps_base.specs.Placement.{Placement, Place, NewSegment, OverLimit, NoFreeRun}
use Rattle.mps_base.specs.Segment.{words_of_segment}
use Rattle.mps_base.specs.declared.moves.Move.{Move}
use Rattle.mps_base.specs.declared.names.Name.{Name}
use Rattle.mps_base.specs.declared.names.Rank.TheVariants as rank
use Rattle.mps_base.specs.declared.names.Slot.{Slot}
use Rattle.mps_base.specs.declared.refusal.Refusal.TheVariants as refusal
use Rattle.mps_seg.specs.Segs.{segments_after}
use Rattle.mps_laws.proofs.Acts.{pool_named-is}
use Rattle.mps_laws.proofs.Lookups.{entry_at-at_last}
use Rattle.mps_laws.proofs.Sound.PoolKinds.{manual_not_copying}
use Rattle.mps_laws.proofs.QuietSteps.{IsSound}
use Rattle.mps_laws.proofs.Sound.SoundChanges.{made_sound, sound_again, with_made, made_lives}
use Rattle.mps_laws.proofs.Sound.SoundEffects.{place_sound}
use Rattle.mps_model.specs.declared.reply.Reply.TheVariants as reply
use Rattle.mps_model.specs.Answer.{Answer, Replied}
use Rattle.mps_model.specs.Graph.{Manual, Object, entry_at, with_last, ids_in_blocks}
use Rattle.mps_model.specs.World.{World, Pool, is_automatic_kind, is_copying_pool, is_live, with_tail}
use Rattle.mps_model.specs.Checked.{Act, Checked, Found, Numbered, ◌>>=◌, ◌>>◌, block_place_in, done, pool_named, refuse_when}
use Rattle.mps_model.specs.Allocating.{act_alloc, address_of_placement, allows_size, graph_allocated, refuse_without_place}
use Rattle.mps_model.specs.Placement.{ForAlloc, placement_of}
use Rattle.mps_model.specs.Effect.{holding, segment_of_move, world_after_moves}
use Rattle.mps_model.specs.History.{alloc_at, moves_of_alloc, unless_refused}
use Rattle.mps_laws.proofs.Sound.HeldIds.{all-weaker, place_written}
use Rattle.std.specs.List.{list_all}

abbrev ok : Answer
ok = Replied reply.Ok

-- ---- the checks of the model, from each on, where the call takes effect in a world

module _ (w v : World) (words : ℕ) (place : Slot) where
  abbrev pub alloc_made : Numbered Pool → Found (Option ℕ) → (at : Address) → Checked Act
  alloc_made p found at = done (record v {
    graph = graph_allocated v.graph p.number words found;
    addresses = with_last v.addresses (Some at);
  })

  abbrev pub alloc_placed : Numbered Pool → Found (Option ℕ) → Placement → Checked Act
  alloc_placed p found q = refuse_without_place q >> alloc_made p found (address_of_placement q)

  abbrev pub alloc_empty : Numbered Pool → Found (Option ℕ) → (taken : Bool) → Checked Act
  alloc_empty p found taken =
      refuse_when taken refusal.NameTaken >> alloc_placed p found (placement_of w (ForAlloc p.number words))

  abbrev pub alloc_sized : Numbered Pool → Found (Option ℕ) → (allowed : Bool) → Checked Act
  alloc_sized p found allowed = refuse_when (not allowed) refusal.BadSize >> alloc_empty p found (is_some found.value)

  abbrev pub alloc_in : Numbered Pool → Checked (Found (Option ℕ)) → Checked Act
  alloc_in p x = x >>= (λ (found : Found (Option ℕ)). alloc_sized p found (allows_size p.value.kind words))

  abbrev pub alloc_manual : Numbered Pool → (automatic : Bool) → Checked Act
  alloc_manual p automatic = refuse_when automatic refusal.WrongPool >> alloc_in p (block_place_in w place)

  abbrev pub alloc_from : Checked (Numbered Pool) → Checked Act
  alloc_from x = x >>= (λ (p : Numbered Pool). alloc_manual p (is_automatic_kind p.value.kind))

  pub alloc_is : (pool : Name) → act_alloc w v pool words place ≡ alloc_from (pool_named w pool)
  alloc_is pool = refl

module _ (w : World) (sound : w.collection ≡ None → IsSound w) (blocks : list_all (is_live w) (ids_in_blocks w.graph) ≡ true)
    (lengths : length w.addresses ≡ length w.graph.objects) (pool : Name)
    (words : ℕ) (place : Slot) (p : Numbered Pool) (pool_is : pool_named w pool ≡ Ok p) (manual : is_automatic_kind p.value.kind ≡ false)
    (found : Found (Option ℕ)) (place_is : block_place_in w place ≡ Ok found) (has : slice_get w.graph.blocks found.number
    ≡ Some found.list)
    (allowed : allows_size p.value.kind words ≡ true) (empty : is_some found.value ≡ false) (q : Placement)
    (q_is : placement_of w (ForAlloc p.number words) ≡ q) (room : refuse_without_place q ≡ Ok tt) where
  abbrev pub at : Address
  at = address_of_placement q

  -- the moves
  abbrev pub moves_made : List Move
  moves_made = alloc_at p.number words q

  abbrev pub new_object : Object
  new_object = record { pool = p.number; body = Manual (replicate words 0) }

  abbrev pub world_moved : World
  world_moved = record w { segments = segments_after q p.number 0 rank.Exact w.segments }

  -- the world after the call
  abbrev pub world_made : World
  world_made = record world_moved {
    graph = graph_allocated w.graph p.number words found;
    addresses = with_last w.addresses (Some at);
  }

  not_copying : is_copying_pool w p.number ≡ false
  not_copying = manual_not_copying w.pools p.number p.value (pool_named-is w pool p pool_is) manual

  pub moved_at : (x : Placement) → world_after_moves w (alloc_at p.number words x)
      ≡ record w { segments = segments_after x p.number 0 rank.Exact w.segments }
  moved_at (Place word) = refl
  moved_at (NewSegment grain grains) =
      let s = segment_of_move (address_of_grain grain) grains p.number 0 in
      ap (λ b. if b then with_tail (holding w s) s.pool s.generation (words_of_segment s) else holding w s) not_copying
  moved_at (OverLimit committed need limit) = refl
  moved_at (NoFreeRun need longest) = refl

  pub due : moves_made ≡ unless_refused ok (moves_of_alloc w (pool_named w pool) words)
  due = sym (ap (λ x. moves_of_alloc w x words) pool_is ∙ ap (alloc_at p.number words) q_is)

  pub comes : act_alloc w (world_after_moves w moves_made) pool words place ≡ done world_made
  comes =
      ap (λ v. act_alloc w v pool words place) (moved_at q) ∙ alloc_is w world_moved words place pool
      ∙ ap (alloc_from w world_moved words place) pool_is ∙ ap (alloc_manual w world_moved words place p) manual
      ∙ ap (alloc_in w world_moved words place p) place_is ∙ ap (alloc_sized w world_moved words place p found) allowed
      ∙ ap (alloc_empty w world_moved words place p found) empty ∙ ap (alloc_placed w world_moved words place p found) q_is
      ∙ ap (λ x. x >> alloc_made w world_moved words place p found at) room

  new_lives : is_live (with_made w new_object at) (length w.graph.objects) ≡ true
  new_lives =
      ap (λ n. is_some (entry_at (with_last w.addresses (Some at)) n)) (sym lengths) ∙ ap is_some (entry_at-at_last w.addresses
      (Some at))

  pub sound_made : w.collection ≡ None → IsSound world_made
  sound_made rest =
      let made = with_made w new_object at in
      let first : IsSound made =
      made_sound w new_object at (sound rest) lengths (λ r. refl) (λ c e. absurd (none-some c (sym rest ∙ e))) in
      let placed = place_sound made first found (Some (length w.graph.objects)) has new_lives in
      let noted = record made { graph = world_made.graph } in
      let kept : IsSound noted = record {
        live = record {
          client = placed.live.client;
          blocks = placed.live.blocks;
          referred = placed.live.referred;
          transforms = placed.live.transforms;
        };
        kept = placed.kept;
        units = placed.units;
      } in
      sound_again noted world_made refl refl refl refl refl kept

  -- blocks in places are live
  pub blocks_made : list_all (is_live world_made) (ids_in_blocks world_made.graph) ≡ true
  blocks_made =
      place_written (is_live (with_made w new_object at)) w.graph
      (all-weaker (is_live w) (is_live (with_made w new_object at)) (made_lives w new_object at) (ids_in_blocks w.graph) blocks) found
      (Some (length w.graph.objects)) has new_lives
