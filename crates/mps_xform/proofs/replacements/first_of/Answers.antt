use Rattle.std.proofs.Common.{ltb, sym, ◌∙◌, rules, arith}
use Rattle.std.proofs.lemmas.Bool.{eqb-true, eqb-false}
use Rattle.std.proofs.lemmas.List.Sorted.{IsPartitionPoint-from_clause, IsPartitionedBy-ltb}
use Rattle.mps_xform.specs.declared.replacements.Ranked.{Ranked}
use Rattle.mps_xform.proofs.Sorted.{found_at_point, not_found_at_point, not_found_past_point}
use Rattle.mps_xform.proofs.replacements.first_of.Goals as goal

pub returns-then-eq : goal.returns-then-eq
returns-then-eq c =
    let point =
    IsPartitionPoint-from_clause (λ (r : Ranked). ltb r.pair.old.0 c.args.old.0) _ _ c.partition_point-at.ensures.partitioned
    (IsPartitionedBy-ltb (λ (r : Ranked). r.pair.old.0) _ c.args.old.0 c.requires) (λ a r q k. search rules) in
    sym (found_at_point c.args.old.0 c.partition_point-at.result c.args.pairs.now point
    (omega (arith, c.if-at-pairs.false, c.partition_point-at.ensures.bound)) (eqb-true _ _ (sym c.eq.ensures ∙ c.if-eq.true)))

pub returns-else-eq : goal.returns-else-eq
returns-else-eq c =
    let point =
    IsPartitionPoint-from_clause (λ (r : Ranked). ltb r.pair.old.0 c.args.old.0) _ _ c.partition_point-at.ensures.partitioned
    (IsPartitionedBy-ltb (λ (r : Ranked). r.pair.old.0) _ c.args.old.0 c.requires) (λ a r q k. search rules) in
    sym (not_found_at_point c.args.old.0 c.partition_point-at.result c.args.pairs.now point c.requires
    (omega (arith, c.if-at-pairs.false, c.partition_point-at.ensures.bound)) (eqb-false _ _ (sym c.eq.ensures ∙ c.if-eq.false)))

pub returns-then-at-pairs : goal.returns-then-at-pairs
returns-then-at-pairs c =
    let point =
    IsPartitionPoint-from_clause (λ (r : Ranked). ltb r.pair.old.0 c.args.old.0) _ _ c.partition_point-at.ensures.partitioned
    (IsPartitionedBy-ltb (λ (r : Ranked). r.pair.old.0) _ c.args.old.0 c.requires) (λ a r q k. search rules) in
    sym (not_found_past_point c.args.old.0 c.partition_point-at.result c.args.pairs.now point c.if-at-pairs.true)
