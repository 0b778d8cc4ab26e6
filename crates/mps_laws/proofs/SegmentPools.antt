-- Each held segment is of a pool that there is, and of one of its generations: pools and chains are made and never dropped, and a chain
-- keeps its generations.
use Rattle.std.proofs.Common.{◌≡◌, ◌∙◌, ◌⊎◌, ℕ, Bool, true, false, refl, sym, ap, List, [], ◌∷◌, length, arith, Option, Some, None, inl, inr}
use Rattle.std.proofs.lemmas.Bool.{false≢true, and_parts, and_from, ltb-true, or_cases, or_left, or_right}
use Rattle.std.specs.Prelude.{◌||◌, ◌==◌, if◌then◌else◌, filter, nat_lt, not, option_and_then, option_map, slice_get}
use Rattle.std.specs.List.{list_all}
use Rattle.std.specs.Option.{option_map_or}
use Rattle.mps_base.specs.Address.{Address}
use Rattle.mps_base.specs.Segment.{Segment, with_segment, without_segment}
use Rattle.mps_base.specs.declared.moves.Move.{Move}
use Rattle.mps_model.specs.declared.call.Call.{Call}
use Rattle.mps_model.specs.Answer.{is_block}
use Rattle.mps_model.specs.Step.{Step}
use Rattle.mps_model.specs.World.{World, Pool, generations_of, pool_is}
use Rattle.mps_model.specs.WellFormed.{is_of_pool}
use Rattle.mps_model.specs.Effect.{world_after_moves}
use Rattle.mps_model.specs.LegalMove.{AreLegalMoves}
use Rattle.mps_model.specs.Reply.{act}
use Rattle.mps_model.specs.History.{IsLegalStep, judged_world, moved_world, world_after}
use Rattle.mps_changes.specs.Change.{AsideIs, ChainMade, Change, Aside, PoolMade}
use Rattle.mps_changes.proofs.ActChanges.{of_changes}
use Rattle.mps_laws.proofs.Acts.{for_world}
use Rattle.mps_laws.proofs.Caches.{AreRightCaches}
use Rattle.mps_laws.proofs.HeldSegments.{IsOfSegments, moved_keeps, moves_keep}
use Rattle.mps_laws.proofs.Lookups.{slice_get-kept}
use Rattle.mps_laws.proofs.Positions.LegalMoves.{HasLayout}
use Rattle.mps_laws.proofs.Sound.PoolsThere.{HasPools}
use Rattle.mps_laws.proofs.Sound.SoundGraph.{each-weaker}

abbrev pub AreOfPools : World → Type 0
AreOfPools w = list_all (is_of_pool w) w.segments ≡ true

-- ---- more pools and chains

module _ (w v : World) (pools : (n : ℕ) (p : Pool) → slice_get w.pools n ≡ Some p → slice_get v.pools n ≡ Some p)
    (chains : (n : ℕ) (capacities : List ℕ) → slice_get w.chains n ≡ Some capacities → slice_get v.chains n ≡ Some capacities) where
  abbrev has : World → (pool generation : ℕ) → Bool
  has x pool generation = nat_lt generation (option_map_or (λ count. count) (generations_of x pool) 0)

  abbrev has_on : World → (chain : Option ℕ) → (generation : ℕ) → Bool
  has_on x chain generation =
      nat_lt generation (option_map_or (λ count. count) (option_map length (option_and_then (λ n. slice_get x.chains n) chain)) 0)

  none_below : (generation : ℕ) → nat_lt generation 0 ≡ true → ⊥
  none_below generation h = let low = ltb-true generation 0 h in omega (arith, low)

  on_chain : (chain : Option ℕ) (generation : ℕ) → has_on w chain generation ≡ true → has_on v chain generation ≡ true
  on_chain None generation h = absurd (none_below generation h)
  on_chain (Some n) generation h = of_chain (slice_get w.chains n) refl h
    where
      of_chain : (o : Option (List ℕ)) → slice_get w.chains n ≡ o
          → nat_lt generation (option_map_or (λ count. count) (option_map length o) 0) ≡ true → has_on v (Some n) generation ≡ true
      of_chain None e g = absurd (none_below generation g)
      of_chain (Some capacities) e g =
          ap (λ o. nat_lt generation (option_map_or (λ count. count) (option_map length o) 0)) (chains n capacities e) ∙ g

  still_of_pool : (s : Segment) → is_of_pool w s ≡ true → is_of_pool v s ≡ true
  still_of_pool s h =
      let parts = and_parts (pool_is (λ kind. true) w s.pool) (s.generation == 0 || has w s.pool s.generation) h in
      of_there (slice_get w.pools s.pool) refl parts.0 (or_cases (s.generation == 0) (has w s.pool s.generation) parts.1)
    where
      of_there : (o : Option Pool) → slice_get w.pools s.pool ≡ o → option_map_or (λ (p : Pool). true) o false ≡ true
          → ((s.generation == 0) ≡ true) ⊎ (has w s.pool s.generation ≡ true) → is_of_pool v s ≡ true
      of_there None e there one = absurd (false≢true there)
      of_there (Some p) e there one =
          let kept = pools s.pool p e in
          and_from (pool_is (λ kind. true) v s.pool) (s.generation == 0 || has v s.pool s.generation)
          (ap (λ o. option_map_or (λ (q : Pool). true) o false) kept)
          (elim one [
            | inl first ↦ or_left (s.generation == 0) (has v s.pool s.generation) first
            | inr below ↦
                or_right (s.generation == 0) (has v s.pool s.generation)
                (ap (λ o. has_on v (option_and_then (λ (q : Pool). q.chain) o) s.generation) kept
                ∙ on_chain p.chain s.generation
                (sym (ap (λ o. has_on w (option_and_then (λ (q : Pool). q.chain) o) s.generation) e) ∙ below))
          ])

  still_of_pools : (ss : List Segment) → list_all (is_of_pool w) ss ≡ true → list_all (is_of_pool v) ss ≡ true
  still_of_pools ss h = each-weaker (is_of_pool w) (is_of_pool v) still_of_pool ss h

-- ---- moves

module _ (test : Segment → Bool) where
  all_with : (s : Segment) (ss : List Segment) → test s ≡ true → list_all test ss ≡ true → list_all test (with_segment s ss) ≡ true
  all_with s [] one h = and_from (test s) true one refl
  all_with s (t ∷ ts) one h =
      let parts = and_parts (test t) (list_all test ts) h in
      elim (nat_lt s.base t.base) as (λ b. list_all test (if b then s ∷ t ∷ ts else t ∷ with_segment s ts) ≡ true) [
        | true ↦ and_from (test s) (list_all test (t ∷ ts)) one h
        | false ↦ and_from (test t) (list_all test (with_segment s ts)) parts.0 (all_with s ts one parts.1)
      ]

  all_without : (base : Address) (ss : List Segment) → list_all test ss ≡ true → list_all test (without_segment ss base) ≡ true
  all_without base [] h = refl
  all_without base (t ∷ ts) h =
      let parts = and_parts (test t) (list_all test ts) h in
      elim (not (t.base == base)) as (λ b. list_all test (if b then t ∷ filter (λ (s : Segment). not (s.base == base)) ts
      else filter (λ (s : Segment). not (s.base == base)) ts) ≡ true) [
        | true ↦ and_from (test t) (list_all test (without_segment ts base)) parts.0 (all_without base ts parts.1)
        | false ↦ all_without base ts parts.1
      ]

segment_pools : IsOfSegments AreOfPools
segment_pools = record {
  alike = λ w v segments limit pools chains h.
      ap (list_all (is_of_pool v)) segments
      ∙ still_of_pools w v (λ n p e. ap (λ ps. slice_get ps n) pools ∙ e) (λ n cs e. ap (λ css. slice_get css n) chains ∙ e) w.segments h;
  taken = λ w s taken h. all_with (is_of_pool w) s w.segments taken.of_pool h;
  given_back = λ w base h. all_without (is_of_pool w) base w.segments h;
}

-- ---- acts and steps

module _ (v : World) (h : AreOfPools v) where
  aside_chains : {marked : Bool} {c : Call} {judged u : World} → AsideIs marked c judged v u → (n : ℕ) (capacities : List ℕ)
      → slice_get v.chains n ≡ Some capacities → slice_get u.chains n ≡ Some capacities
  aside_chains (ChainMade name made) n capacities e = slice_get-kept v.chains made capacities n e
  aside_chains _ n capacities e = e

  change_of_pools : {marked : Bool} {c : Call} {judged u : World} → Change marked c judged v u → AreOfPools u
  change_of_pools {u = after} (Aside u what) = still_of_pools v after (λ n p e. e) (aside_chains what) v.segments h
  change_of_pools {u = u} (PoolMade name p e made) =
      still_of_pools v u (λ n q f. slice_get-kept v.pools p q n f) (λ n capacities f. f) v.segments h
  change_of_pools _ = h

pub of_pools_after : (limit : ℕ) (w : World) (s : Step) → HasLayout limit w → HasPools w → AreRightCaches w → AreOfPools w
    → IsLegalStep w s → AreOfPools (world_after w s)
of_pools_after limit w s laid pools caches h legal =
    let v = moved_world w s.call s.moves in
    let judged = judged_world w s.call s.moves in
    let moved = moved_keeps AreOfPools segment_pools limit w laid pools caches h s legal in
    for_world AreOfPools v (act (is_block s.answer) judged v s.call)
    (of_changes (is_block s.answer) judged v s.call (λ u change. change_of_pools v moved change)) moved

pub of_pools_in_steps : (limit : ℕ) (w : World) (ms : List Move) → HasLayout limit w → HasPools w → AreLegalMoves w None ms → AreOfPools w
    → AreOfPools (world_after_moves w ms)
of_pools_in_steps limit w ms laid pools legal h = moves_keep AreOfPools segment_pools limit w None ms laid pools legal h
