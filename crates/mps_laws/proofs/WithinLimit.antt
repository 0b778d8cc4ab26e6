-- No more grains are held than the limit allows: a segment is taken only where it fits below the limit, and no limit is set below what is
-- held.
use Rattle.std.proofs.Common.{◌≡◌, ◌∙◌, ℕ, ◌+◌, ◌≤◌, Bool, true, false, sym, ap, List, [], ◌∷◌, arith}
use Rattle.std.proofs.lemmas.Bool.{true≢false, ltb-false}
use Rattle.std.proofs.lemmas.List.Sums.{sum_by-cons}
use Rattle.std.specs.Prelude.{◌==◌, if◌then◌else◌, filter, nat_lt, not, sum_by, None}
use Rattle.mps_base.specs.Address.{Address}
use Rattle.mps_base.specs.Segment.{Segment, with_segment, without_segment}
use Rattle.mps_base.specs.declared.moves.Move.{Move}
use Rattle.mps_model.specs.declared.call.Call.{Call}
use Rattle.mps_model.specs.Answer.{is_block}
use Rattle.mps_model.specs.Step.{Step}
use Rattle.mps_model.specs.World.{World, committed}
use Rattle.mps_model.specs.Effect.{world_after_moves}
use Rattle.mps_model.specs.LegalMove.{AreLegalMoves}
use Rattle.mps_model.specs.Reply.{act}
use Rattle.mps_model.specs.History.{IsLegalStep, judged_world, moved_world, world_after}
use Rattle.mps_changes.specs.Change.{AsideIs, ArenaMade, LimitIs, Change, Aside, makes_arena}
use Rattle.mps_changes.proofs.ActChanges.{of_changes}
use Rattle.mps_laws.proofs.Acts.{for_world}
use Rattle.mps_laws.proofs.Caches.{AreRightCaches}
use Rattle.mps_laws.proofs.HeldSegments.{IsOfSegments, moved_keeps, moves_keep}
use Rattle.mps_laws.proofs.Positions.LegalMoves.{HasLayout}
use Rattle.mps_laws.proofs.Sound.PoolsThere.{HasPools}

abbrev pub IsWithinLimit : World → Type 0
IsWithinLimit w = committed w ≤ w.limit

-- ---- how many grains are held

abbrev grains_of : List Segment → ℕ
grains_of ss = sum_by (λ (s : Segment). s.grains) ss

grains_with : (s : Segment) (ss : List Segment) → grains_of (with_segment s ss) ≡ s.grains + grains_of ss
grains_with s [] = sum_by-cons (λ (t : Segment). t.grains) s []
grains_with s (t ∷ ts) =
    elim (nat_lt s.base t.base) as (λ b. grains_of (if b then s ∷ t ∷ ts else t ∷ with_segment s ts) ≡ s.grains + grains_of (t ∷ ts)) [
      | true ↦ sum_by-cons (λ (x : Segment). x.grains) s (t ∷ ts)
      | false ↦
          (let rest = grains_with s ts in
          let with = sum_by-cons (λ (x : Segment). x.grains) t (with_segment s ts) in
          let without = sum_by-cons (λ (x : Segment). x.grains) t ts in
          omega (arith, rest, with, without))
    ]

grains_without : (base : Address) (ss : List Segment) → grains_of (without_segment ss base) ≤ grains_of ss
grains_without base [] = omega arith
grains_without base (t ∷ ts) =
    let rest = grains_without base ts in
    let all = sum_by-cons (λ (x : Segment). x.grains) t ts in
    elim (not (t.base == base)) as (λ b. grains_of (if b then t ∷ filter (λ (s : Segment). not (s.base == base)) ts
    else filter (λ (s : Segment). not (s.base == base)) ts) ≤ grains_of (t ∷ ts)) [
      | true ↦
          (let left = sum_by-cons (λ (x : Segment). x.grains) t (without_segment ts base) in
          omega (arith, rest, all, left))
      | false ↦ omega (arith, rest, all)
    ]

within_segments : IsOfSegments IsWithinLimit
within_segments = record {
  alike = λ w v segments limit pools chains h.
      let held : committed v ≡ committed w = ap grains_of segments in omega (arith, held, limit, h);
  taken = λ w s taken h. let all = grains_with s w.segments in let room = taken.room in omega (arith, all, room);
  given_back = λ w base h. let left = grains_without base w.segments in omega (arith, left, h);
}

-- ---- acts and steps

module _ (v : World) (h : IsWithinLimit v) where
  aside_within : {marked : Bool} {c : Call} {judged u : World} → makes_arena c ≡ false → AsideIs marked c judged v u → committed v ≤ u.limit
  aside_within plain (ArenaMade grains limit is) = absurd (true≢false (sym is ∙ plain))
  aside_within plain (LimitIs limit within) = ltb-false limit (committed v) within
  aside_within plain _ = h

  change_within : {marked : Bool} {c : Call} {judged u : World} → makes_arena c ≡ false → Change marked c judged v u → IsWithinLimit u
  change_within plain (Aside u what) = aside_within plain what
  change_within plain _ = h

pub within_after : (limit : ℕ) (w : World) (s : Step) → makes_arena s.call ≡ false → HasLayout limit w → HasPools w → AreRightCaches w
    → IsWithinLimit w → IsLegalStep w s → IsWithinLimit (world_after w s)
within_after limit w s plain laid pools caches h legal =
    let v = moved_world w s.call s.moves in
    let judged = judged_world w s.call s.moves in
    let moved = moved_keeps IsWithinLimit within_segments limit w laid pools caches h s legal in
    for_world IsWithinLimit v (act (is_block s.answer) judged v s.call)
    (of_changes (is_block s.answer) judged v s.call (λ u change. change_within v moved plain change)) moved

pub within_in_steps : (limit : ℕ) (w : World) (ms : List Move) → HasLayout limit w → HasPools w → AreLegalMoves w None ms
    → IsWithinLimit w → IsWithinLimit (world_after_moves w ms)
within_in_steps limit w ms laid pools legal h =
    moves_keep IsWithinLimit within_segments limit w None ms laid pools legal h
