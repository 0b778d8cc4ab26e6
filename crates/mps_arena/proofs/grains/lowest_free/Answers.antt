use Rattle.std.proofs.Common.{ℕ, ◌+◌, ◌-◌, ◌<◌, ◌≤◌, ◌≡◌, max, get_or, set, sym, ◌∙◌, subst, arith, add-one}
use Rattle.std.proofs.lemmas.Bool.Decides.{nat_tests}
use Rattle.std.proofs.lemmas.Grind.{common_steps}
use Rattle.mps_arena.specs.Inside.{AreHeldBelow}
use Rattle.mps_arena.proofs.Below.{scan_from, passed_run, held_after_take_at, held_after_take_above}
use Rattle.mps_arena.proofs.Scan.{Scan, scan_free, scan_found, scan_run, scan_end, run_bound}
use Rattle.mps_arena.proofs.grains.lowest_free.Goals as goal

pub loop-grain-init : goal.loop-grain-init
loop-grain-init c = (
  scan_from c.args.table.now c.args.need c.args.held_below c.requires.nonzero c.requires.nonempty c.requires.ascending
      c.requires.held,
  omega arith,
  λ _. c.requires.held,
)

pub returns-then-most-eq0-clause-value : goal.returns-then-most-eq0-clause-value
returns-then-most-eq0-clause-value c =
    (scan_found c.args.table.now c.args.need c.loop-grain.grain c.loop-grain.low c.loop-grain.most c.requires.nonzero
    c.loop-grain.invariant.0 c.loop-grain-test.true c.if-count-eq0.true (omega arith)).0

pub returns-else-most-eq0-clause-value : goal.returns-else-most-eq0-clause-value
returns-else-most-eq0-clause-value c =
    (scan_found c.args.table.now c.args.need c.loop-grain.grain c.loop-grain.low c.loop-grain.most c.requires.nonzero
    c.loop-grain.invariant.0 c.loop-grain-test.true c.if-count-eq0.true (omega arith)).0

pub returns-then-most-eq0-clause-free : goal.returns-then-most-eq0-clause-free
returns-then-most-eq0-clause-free c =
    (scan_found c.args.table.now c.args.need c.loop-grain.grain c.loop-grain.low c.loop-grain.most c.requires.nonzero
    c.loop-grain.invariant.0 c.loop-grain-test.true c.if-count-eq0.true (omega arith)).1

pub returns-else-most-eq0-clause-free : goal.returns-else-most-eq0-clause-free
returns-else-most-eq0-clause-free c =
    (scan_found c.args.table.now c.args.need c.loop-grain.grain c.loop-grain.low c.loop-grain.most c.requires.nonzero
    c.loop-grain.invariant.0 c.loop-grain-test.true c.if-count-eq0.true (omega arith)).1

pub returns-then-most-eq0-clause-held : goal.returns-then-most-eq0-clause-held
returns-then-most-eq0-clause-held c =
    let table = c.args.table.now in
    let low = c.loop-grain.low in
    let scan = c.loop-grain.invariant.0 in
    let P : ℕ → Type 0 = λ g. AreHeldBelow (set table low c.args.need) g in
    let end : low + c.args.need ≡ c.loop-grain.grain + 1 = omega (arith, scan.short, scan.ordered) in
    subst P end
    (held_after_take_at table low c.args.need (omega (arith, scan.ordered, c.loop-grain-test.true)) c.requires.nonzero
    (c.loop-grain.invariant.2 (omega arith)))

pub returns-else-most-eq0-clause-held : goal.returns-else-most-eq0-clause-held
returns-else-most-eq0-clause-held c =
    held_after_take_above c.args.table.now c.loop-grain.low c.args.need c.args.held_below c.loop-grain.invariant.1 c.requires.held

pub loop-grain-preserved-else-grain-low : goal.loop-grain-preserved-else-grain-low
loop-grain-preserved-else-grain-low c =
    let scan = c.loop-grain.invariant.0 in
    let P : ℕ → Type 0 = λ g. Scan c.args.table.now c.args.need g c.loop-grain.low c.loop-grain.most in (
      subst P (sym (add-one c.loop-grain.grain))
          (scan_free c.args.table.now c.args.need c.loop-grain.grain c.loop-grain.low c.loop-grain.most scan c.loop-grain-test.true
          c.if-count-eq0.true (omega arith)),
      c.loop-grain.invariant.1,
      c.loop-grain.invariant.2,
    )

pub overflow_add-grain-else-count-eq0 : goal.overflow_add-grain-else-count-eq0
overflow_add-grain-else-count-eq0 c =
    omega (
      arith,
      run_bound c.args.table.now c.loop-grain.grain c.loop-grain.invariant.0.ascending c.loop-grain-test.true
          (omega (arith, c.if-count-eq0.false)),
      c.requires.at_most,
    )

pub loop-grain-preserved : goal.loop-grain-preserved
loop-grain-preserved c =
    let table = c.args.table.now in
    let grain = c.loop-grain.grain in
    let low = c.loop-grain.low in
    let next = grain + get_or table grain 0 in
    let scan = c.loop-grain.invariant.0 in
    let some : 0 < get_or table grain 0 = omega (arith, c.if-count-eq0.false) in
    let P : ℕ → Type 0 = λ m. Scan table c.args.need next next m × (c.args.held_below ≤ next) × (m ≡ 0 → AreHeldBelow table next) in
    let most : c.max-most.result ≡ max c.loop-grain.most (grain - low) = grind (arith, nat_tests, common_steps) in
    subst P (sym most) (
      scan_run table c.args.need grain low c.loop-grain.most c.requires.nonzero scan c.loop-grain-test.true some,
      omega (arith, c.loop-grain.invariant.1, scan.ordered),
      passed_run table grain low c.loop-grain.most scan.ordered some c.loop-grain.invariant.2,
    )

pub returns-clause-value : goal.returns-clause-value
returns-clause-value c =
    (scan_end c.args.table.now c.args.need c.loop-grain.grain c.loop-grain.low c.loop-grain.most c.requires.nonzero
    c.loop-grain.invariant.0 c.loop-grain-test.false).0

pub returns-clause-most : goal.returns-clause-most
returns-clause-most c =
    (scan_end c.args.table.now c.args.need c.loop-grain.grain c.loop-grain.low c.loop-grain.most c.requires.nonzero
    c.loop-grain.invariant.0 c.loop-grain-test.false).1
    ∙ (grind (arith, nat_tests, common_steps))
