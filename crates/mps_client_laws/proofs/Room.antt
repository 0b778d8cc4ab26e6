-- With which numbers a block that has no place is refused.
use Rattle.std.proofs.Common.{◌≡◌, ℕ, ◌+◌, Bool, true, false, refl, sym, ◌∙◌, ap, subst, List, [], ◌∷◌, map, Option, Some, None}
use Rattle.std.proofs.lemmas.List.Sums.{sum_by-cons}
use Rattle.std.specs.Prelude.{if◌then◌else◌, nat_le, nat_lt, sum_by}
use Rattle.mps_base.specs.Address.{grains_needed}
use Rattle.mps_base.specs.Run.{Run, gaps, longest, lowest_fitting, total}
use Rattle.mps_base.specs.Segment.{Segment, gaps_of, grains_of_segment}
use Rattle.mps_base.specs.Placement.{Place, run_placement}
use Rattle.mps_base.specs.declared.names.Rank.TheVariants as rank
use Rattle.mps_base.specs.declared.refusal.Refusal.{Refusal}
use Rattle.mps_base.specs.declared.refusal.Refusal.TheVariants as refusal
use Rattle.mps_model.specs.Graph.{Point, entry_at}
use Rattle.mps_model.specs.World.{World, covered, held_grains, is_copying_pool}
use Rattle.mps_model.specs.Placement.{ForAlloc, ForReserve, buffer_of, new_segment_for, placement_at_front, placement_at_point, placement_in_gaps, placement_of}
use Rattle.mps_model.specs.Allocating.{refuse_without_place}
use Rattle.mps_client_laws.specs.Refusals.{no_run, over_limit}
use Rattle.mps_client_laws.proofs.Failing.{IsOf, Fails, passes, fails}

total_of_segments : (ss : List Segment) → total (map grains_of_segment ss) ≡ sum_by (λ (s : Segment). s.grains) ss
total_of_segments [] = refl
total_of_segments (s ∷ ss) =
    sum_by-cons (λ (r : Run). r.count) (grains_of_segment s) (map grains_of_segment ss) ∙ ap (λ n. s.grains + n) (total_of_segments ss)
    ∙ sym (sum_by-cons (λ (t : Segment). t.grains) s ss)

module _ {whys : List Refusal} where
  run_fails : (grains limit need : ℕ) (held : List Run) (b : Bool) (o : Option ℕ) → nat_lt limit (total held + need) ≡ b
      → lowest_fitting need (gaps 1 (grains + 1) held) ≡ o → IsOf (refusal.CommitLimit (total held) need limit) whys
      → IsOf (refusal.NoRun need (longest (gaps 1 (grains + 1) held))) whys
      → Fails whys (refuse_without_place (run_placement grains limit held need))
  run_fails grains limit need held true o e f over none = rw e (fails over)
  run_fails grains limit need held false None e f over none = rw (e, f) (fails none)
  run_fails grains limit need held false (Some grain) e f over none = rw (e, f) (passes tt)

  module _ (w : World) (words : ℕ) (over : IsOf (over_limit w words) whys) (none : IsOf (no_run w words) whys) where
    segment_fails : Fails whys (refuse_without_place (new_segment_for w words))
    segment_fails =
        run_fails w.grains w.limit (grains_needed words) (held_grains w)
        (nat_lt w.limit (total (held_grains w) + grains_needed words))
        (lowest_fitting (grains_needed words) (gaps 1 (w.grains + 1) (held_grains w))) refl refl
        (subst (λ (held : ℕ). IsOf (refusal.CommitLimit held (grains_needed words) w.limit) whys) (sym (total_of_segments w.segments)) over)
        none

    gaps_fail : (free : List Run) → Fails whys (refuse_without_place (placement_in_gaps w free words))
    gaps_fail free = by_case (lowest_fitting words free)
      where
        by_case : (o : Option ℕ)
            → Fails whys (refuse_without_place (Rattle.std.specs.Option.option_map_or Place o (new_segment_for w words)))
        by_case (Some word) = passes tt
        by_case None = segment_fails

    front_fails : (r : Run) → Fails whys (refuse_without_place (placement_at_front w r words))
    front_fails r = by_case (nat_le words r.count)
      where
        by_case : (b : Bool) → Fails whys (refuse_without_place (if b then Place r.from else new_segment_for w words))
        by_case true = passes tt
        by_case false = segment_fails

    pub alloc_fails : (pool : ℕ) → Fails whys (refuse_without_place (placement_of w (ForAlloc pool words)))
    alloc_fails pool = gaps_fail (gaps_of (covered w) w.segments pool rank.Exact)

    pub reserve_fails : (number : ℕ) → Fails whys (refuse_without_place (placement_of w (ForReserve number words)))
    reserve_fails number = by_point (entry_at w.graph.points number)
      where
        at_point : (p : Point) (b : Bool) → Fails whys (refuse_without_place (if b then placement_at_front w (buffer_of w number) words
            else placement_in_gaps w (gaps_of (covered w) w.segments p.pool p.rank) words))
        at_point p true = front_fails (buffer_of w number)
        at_point p false = gaps_fail (gaps_of (covered w) w.segments p.pool p.rank)

        by_point : (o : Option Point) → Fails whys (refuse_without_place (Rattle.std.specs.Option.option_map_or
            (λ p. placement_at_point w number p words) o (new_segment_for w words)))
        by_point (Some p) = at_point p (is_copying_pool w p.pool)
        by_point None = segment_fails
