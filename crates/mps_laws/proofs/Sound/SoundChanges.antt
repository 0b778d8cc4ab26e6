-- A world stays sound through the effects of a call that aren't writes of ids: things are made and dropped, registrations and
-- messages come and go, numbers of the world change, an object is made.
use Rattle.std.proofs.Common.{◌≡◌, ◌∙◌, inl, inr, ℕ, zero, suc, ◌<◌, Bool, true, false, true≢false, refl, sym, ap, subst, List, [], ◌∷◌, ◌++◌, length, Option, Some, None, arith}
use Rattle.std.proofs.lemmas.Bool.{and_from, and_parts, cases_eq, cases_lt, eq-eqb}
use Rattle.std.specs.Prelude.{◌≢◌, ◌&&◌, ◌==◌, not, is_some, replicate, slice_get, slice_set}
use Rattle.std.specs.List.{list_all}
use Rattle.std.specs.Option.{option_map_or}
use Rattle.mps_base.specs.declared.names.Name.{Name}
use Rattle.mps_base.specs.declared.names.Rank.{Rank}
use Rattle.mps_model.specs.Graph.{Graph, Object, Cache, PlainWord, entry_at, ids_in_blocks, ids_in_places, ids_in_holds, ids_in_reservations, ids_in_slots, targets, targets_of, with_last, without_name}
use Rattle.mps_model.specs.Collection.{Collection}
use Rattle.mps_model.specs.World.{World, ArenaState, Pool, empty_world, ids_in_pairs, is_live, is_running}
use Rattle.mps_model.specs.Checked.{with_graph}
use Rattle.mps_model.specs.Making.{graph_with_area, graph_with_blocks, graph_with_table, with_point, without_point}
use Rattle.mps_model.specs.History.{is_held_rightly}
use Rattle.mps_model.specs.Allocating.{with_object}
use Rattle.mps_model.specs.Effect.{with_address}
use Rattle.mps_laws.proofs.LeftByActs.{owners}
use Rattle.mps_laws.proofs.Entries.{entry_at-append, entry_at-written}
use Rattle.mps_laws.proofs.Lookups.{entry_at-set_other, entry_at-last, entry_at-after_last, entry_within}
use Rattle.mps_model.specs.Caches.{graph_with_cache}
use Rattle.mps_changes.specs.Change.{are_empty_classes}
use Rattle.mps_changes.proofs.OneMore.{cache_added}
use Rattle.mps_laws.proofs.QuietSteps.{IsSound}
use Rattle.mps_laws.proofs.Sound.HeldIds.{All, AreHeld, area_dropped, area_made, blocks_made, message_taken, point_dropped, point_made, all-weaker, table_dropped, table_made, weaker_test, held_again}
use Rattle.mps_laws.proofs.Sound.Referred.{AreReferred, SoundParts, object_made, sound_parts, sound_world}
use Rattle.mps_laws.proofs.Sound.SoundEffects.{graph_sound}

-- ---- the parts of a world on which soundness rests

-- the world of these parts, and else nothing
abbrev of_parts : Graph → List (Option ℕ) → Option Collection → List Pool → ArenaState → World
of_parts g addresses running pools state =
    record empty_world { graph = g; addresses = addresses; collection = running; pools = pools; state = state }

to_parts : (w : World) → IsSound w → IsSound (of_parts w.graph w.addresses w.collection w.pools w.state)
to_parts w s = record {
  live = record {
    client = s.live.client;
    blocks = s.live.blocks;
    referred = s.live.referred;
    transforms = s.live.transforms;
  };
  kept = s.kept;
  units = s.units;
}

from_parts : (w : World) → IsSound (of_parts w.graph w.addresses w.collection w.pools w.state) → IsSound w
from_parts w s = record {
  live = record {
    client = s.live.client;
    blocks = s.live.blocks;
    referred = s.live.referred;
    transforms = s.live.transforms;
  };
  kept = s.kept;
  units = s.units;
}

-- a world is sound where one with the same graph, addresses, running collection, pools and state is. So the world's numbers may change
pub sound_again : (w v : World) → v.graph ≡ w.graph → v.addresses ≡ w.addresses → v.collection ≡ w.collection → v.pools ≡ w.pools
    → v.state ≡ w.state → IsSound w → IsSound v
sound_again w v graph addresses running pools state s =
    from_parts v
    (subst (λ g. IsSound (of_parts g v.addresses v.collection v.pools v.state)) (sym graph)
    (subst (λ a. IsSound (of_parts w.graph a v.collection v.pools v.state)) (sym addresses)
    (subst (λ c. IsSound (of_parts w.graph w.addresses c v.pools v.state)) (sym running)
    (subst (λ p. IsSound (of_parts w.graph w.addresses w.collection p v.state)) (sym pools)
    (subst (λ a. IsSound (of_parts w.graph w.addresses w.collection w.pools a)) (sym state) (to_parts w s))))))

-- ---- effects

module _ (w : World) (sound : IsSound w) where
  parts : SoundParts w
  parts = sound_parts w sound

  -- a graph that differs in what is held, as a function of the test
  changed : (h : Graph) → owners h ≡ owners w.graph → h.objects ≡ w.graph.objects → ids_in_blocks h ≡ ids_in_blocks w.graph
      → ((test : ℕ → Bool) → AreHeld test w.graph → AreHeld test h) → IsSound (with_graph w h)
  changed h owned objects blocks held =
      graph_sound w sound h owned (held (is_live w) parts.held)
      (subst (All (is_live w)) (sym blocks) parts.blocks)
      (λ rest. subst (λ os. (id : ℕ) → is_live w id ≡ true → All (is_live w) (option_map_or targets_of (slice_get os id) [])) (sym objects)
      (parts.referred rest))
      (λ c e. held (is_held_rightly w c) (parts.kept c e))

  -- a cache is made, in which nothing lies
  pub cache_sound : (name : Name) (q : Cache) → are_empty_classes q.classes ≡ true
      → IsSound (with_graph w (graph_with_cache w.graph name q))
  cache_sound name q none =
      let h = graph_with_cache w.graph name q in
      changed h refl refl (ap (λ ids. ids_in_places w.graph ++ ids) (cache_added w.graph.caches q none))
      (λ test a. held_again test w.graph h refl refl refl refl a)

  -- registrations come and go
  pub registrations_sound : (registered : List ℕ) → IsSound (with_graph w (record w.graph { registered = registered }))
  registrations_sound registered =
      changed (record w.graph { registered = registered }) refl refl refl
      (λ test a. held_again test w.graph (record w.graph { registered = registered }) refl refl refl refl a)

  -- the first message is taken
  pub message_sound : (id : ℕ) (ids : List ℕ) → w.graph.messages ≡ id ∷ ids → IsSound (with_graph w (record w.graph { messages = ids }))
  message_sound id ids are =
      changed (record w.graph { messages = ids }) refl refl refl (λ test a. message_taken test w.graph a id ids are)

  -- tables, areas and tables of blocks are made
  pub table_sound : (name : Name) (slots : ℕ) → IsSound (with_graph w (graph_with_table w.graph name slots))
  table_sound name slots =
      changed (graph_with_table w.graph name slots) refl refl refl
      (λ test a. held_again test (record w.graph { tables = with_last w.graph.tables (Some (replicate slots None)) })
      (graph_with_table w.graph name slots) refl refl refl refl (table_made test w.graph a slots))

  pub area_sound : (name : Name) (words : ℕ) → IsSound (with_graph w (graph_with_area w.graph name words))
  area_sound name words =
      changed (graph_with_area w.graph name words) refl refl refl
      (λ test a. held_again test (record w.graph { areas = with_last w.graph.areas (Some (replicate words (PlainWord 0))) })
      (graph_with_area w.graph name words) refl refl refl refl (area_made test w.graph a words))

  pub blocks_sound : (name : Name) (places : ℕ) → IsSound (with_graph w (graph_with_blocks w.graph name places))
  blocks_sound name places =
      let h = graph_with_blocks w.graph name places in
      graph_sound w sound h refl (held_again (is_live w) w.graph h refl refl refl refl parts.held)
      (blocks_made (is_live w) w.graph parts.blocks places) parts.referred
      (λ c e. held_again (is_held_rightly w c) w.graph h refl refl refl refl (parts.kept c e))

  -- tables and areas are dropped
  pub table_gone_sound : (number : ℕ) (name : Name)
      → IsSound (with_graph w (record w.graph { tables = slice_set w.graph.tables number None; names = without_name w.graph.names name }))
  table_gone_sound number name =
      let h = record w.graph { tables = slice_set w.graph.tables number None; names = without_name w.graph.names name } in
      changed h refl refl refl
      (λ test a. held_again test (record w.graph { tables = slice_set w.graph.tables number None }) h refl refl refl refl
      (table_dropped test w.graph a number))

  pub area_gone_sound : (number : ℕ) (name : Name)
      → IsSound (with_graph w (record w.graph { areas = slice_set w.graph.areas number None; names = without_name w.graph.names name }))
  area_gone_sound number name =
      let h = record w.graph { areas = slice_set w.graph.areas number None; names = without_name w.graph.names name } in
      changed h refl refl refl
      (λ test a. held_again test (record w.graph { areas = slice_set w.graph.areas number None }) h refl refl refl refl
      (area_dropped test w.graph a number))

  -- points are made and dropped
  pub point_sound : (name : Name) (pool : ℕ) (rank : Rank) → IsSound (with_point w name pool rank)
  point_sound name pool rank =
      let h = (with_point w name pool rank).graph in
      sound_again (with_graph w h) (with_point w name pool rank) refl refl refl refl refl
      (changed h refl refl refl
      (λ test a. held_again test
      (record w.graph { points = with_last w.graph.points (Some (record { pool = pool; rank = rank; reservation = None })) })
      h refl refl refl refl (point_made test w.graph a pool rank)))

  pub point_gone_sound : (name : Name) (number : ℕ) → IsSound (without_point w name number)
  point_gone_sound name number =
      let h = (without_point w name number).graph in
      sound_again (with_graph w h) (without_point w name number) refl refl refl refl refl
      (changed h refl refl refl
      (λ test a. held_again test (record w.graph { points = slice_set w.graph.points number None }) h refl refl refl refl
      (point_dropped test w.graph a number)))

-- ---- an object is made

-- the world with one more object, at an address
abbrev pub with_made : World → Object → (at : ℕ) → World
with_made w o at = record w { graph = with_object w.graph o; addresses = with_last w.addresses (Some at) }

module _ (w : World) (o : Object) (at : ℕ) where
  live_within : (id : ℕ) (entry : Option ℕ) → entry_at w.addresses id ≡ entry → is_some entry ≡ true → id < length w.addresses
  live_within id None e live = absurd (true≢false (sym live))
  live_within id (Some x) e live = entry_within w.addresses id x e

  -- what lived lives still
  pub made_lives : (id : ℕ) → is_live w id ≡ true → is_live (with_made w o at) id ≡ true
  made_lives id live =
      ap is_some (entry_at-append w.addresses (Some at ∷ []) id (live_within id (entry_at w.addresses id) refl live)) ∙ live

  -- and nothing else but the new object
  pub lived_before : (id : ℕ) → is_live (with_made w o at) id ≡ true → id ≢ length w.addresses → is_live w id ≡ true
  lived_before id live other =
      elim (cases_lt id (length w.addresses)) [
        | inl before ↦ ap is_some (sym (entry_at-last w.addresses (Some at) id before)) ∙ live
        | inr past ↦
            absurd (true≢false (sym live ∙ ap is_some (entry_at-after_last w.addresses (Some at) id (omega (arith, past, other)))))
      ]

  -- the world with the object is sound where what it refers to is live, and what is held is held rightly there
  pub made_sound : IsSound w → length w.addresses ≡ length w.graph.objects → (is_running w ≡ false → All (is_live w) (targets_of o))
      → ((c : Collection) → w.collection ≡ Some c → AreHeld (is_held_rightly (with_made w o at) c) (with_object w.graph o))
      → IsSound (with_made w o at)
  made_sound sound lengths refers rightly =
      let p = sound_parts w sound in
      let now = is_live (with_made w o at) in
      sound_world (with_made w o at)
      (held_again now w.graph (with_object w.graph o) refl refl refl refl (weaker_test (is_live w) w.graph p.held now made_lives))
      (all-weaker (is_live w) now made_lives (ids_in_blocks w.graph) p.blocks)
      (λ rest. object_made now w.graph now o (all-weaker (is_live w) now made_lives (targets_of o) (refers rest))
      (λ id live other. all-weaker (is_live w) now made_lives (targets w.graph id)
      (p.referred rest id (lived_before id live (λ same. other (same ∙ lengths))))))
      (λ rest. all-weaker (is_live w) now made_lives (ids_in_pairs w.state) (p.pairs rest)) rightly p.units

-- ---- a block is gone

gone_still : (xs : List (Option ℕ)) (i : ℕ) → entry_at xs i ≡ None → entry_at (slice_set xs i None) i ≡ None
gone_still [] i none = refl
gone_still (x ∷ xs) zero none = refl
gone_still (x ∷ xs) (suc i) none = gone_still xs i none

-- each id passes both tests
all-both : (one other : ℕ → Bool) (ids : List ℕ) → All one ids → All other ids → All (λ id. one id && other id) ids
all-both one other [] these those = refl
all-both one other (id ∷ ids) these those =
    let first = and_parts (one id) (list_all one ids) these in
    let second = and_parts (other id) (list_all other ids) those in
    and_from (one id && other id) (list_all (λ id. one id && other id) ids) (and_from (one id) (other id) first.0 second.0)
    (all-both one other ids first.1 second.1)

pub both_held : (one other : ℕ → Bool) (g : Graph) → AreHeld one g → AreHeld other g → AreHeld (λ id. one id && other id) g
both_held one other g these those = record {
  slots = all-both one other (ids_in_slots g) these.slots those.slots;
  holds = all-both one other (ids_in_holds g) these.holds those.holds;
  messages = all-both one other g.messages these.messages those.messages;
  reservations = all-both one other (ids_in_reservations g) these.reservations those.reservations;
}

module _ (w : World) (gone : ℕ) where
  abbrev pub is_other : ℕ → Bool
  is_other id = not (gone == id)

  abbrev pub lives_otherwise : ℕ → Bool
  lives_otherwise id = is_live w id && is_other id

  -- what lived lives still, but for the block that is gone
  pub others_live : (id : ℕ) → lives_otherwise id ≡ true → is_live (with_address w gone None) id ≡ true
  others_live id both =
      let parts = and_parts (is_live w id) (is_other id) both in
      ap is_some (entry_at-set_other w.addresses gone id None (λ same. true≢false (sym parts.1 ∙ ap not (eq-eqb gone id same)))) ∙ parts.0

  pub lived_otherwise : (id : ℕ) (entry : Option ℕ) → entry_at w.addresses gone ≡ entry → is_live (with_address w gone None) id ≡ true
      → is_live w id ≡ true
  lived_otherwise id entry e live =
      elim (cases_eq gone id) [
        | inl same ↦
            absurd (true≢false (sym live
            ∙ ap is_some (subst (λ n. entry_at (slice_set w.addresses gone None) n ≡ None) same (none_there entry e))))
        | inr other ↦ ap is_some (sym (entry_at-set_other w.addresses gone id None other)) ∙ live
      ]
    where
      none_there : (entry : Option ℕ) → entry_at w.addresses gone ≡ entry → entry_at (slice_set w.addresses gone None) gone ≡ None
      none_there None e = gone_still w.addresses gone e
      none_there (Some x) e = entry_at-written w.addresses gone x None e

  -- the world without a block is sound where nothing held it, and at rest nothing referred to it
  pub gone_sound : IsSound w → AreHeld is_other w.graph → All is_other (ids_in_blocks w.graph)
      → (is_running w ≡ false → AreReferred (is_live w) is_other w.graph)
      → (is_running w ≡ false → All is_other (ids_in_pairs w.state)) → IsSound (with_address w gone None)
  gone_sound sound held blocks referred pairs =
      let p = sound_parts w sound in
      let now = is_live (with_address w gone None) in
      sound_world (with_address w gone None)
      (weaker_test lives_otherwise w.graph (both_held (is_live w) is_other w.graph p.held held) now others_live)
      (all-weaker lives_otherwise now others_live (ids_in_blocks w.graph)
      (all-both (is_live w) is_other (ids_in_blocks w.graph) p.blocks blocks))
      (λ rest id live.
      let lived = lived_otherwise id (entry_at w.addresses gone) refl live in
      all-weaker lives_otherwise now others_live (targets w.graph id)
      (all-both (is_live w) is_other (targets w.graph id) (p.referred rest id lived) (referred rest id lived)))
      (λ rest. all-weaker lives_otherwise now others_live (ids_in_pairs w.state)
      (all-both (is_live w) is_other (ids_in_pairs w.state) (p.pairs rest) (pairs rest)))
      p.kept p.units
