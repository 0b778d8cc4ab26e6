use Rattle.std.proofs.Common.{◌<◌, ◌≡◌, ℕ, false, Some, None, Contains, refl, sym, ap, ◌∙◌, subst, length, arith}
use Rattle.std.proofs.lemmas.List.{get_or-set_same}
use Rattle.mps_base.specs.Placement.{Placement}
use Rattle.mps_base.specs.declared.names.Rank.TheVariants.{Weak}
use Rattle.mps_extents.proofs.ApartRuns.{contains_put}
use Rattle.mps_seg.specs.Segs.{SegsState}
use Rattle.mps_buffer.specs.declared.point.Held.{Held}
use Rattle.mps_buffer.specs.declared.point.Point.{Point}
use Rattle.mps_buffer.specs.declared.point.Reserved.{Reserved}
use Rattle.mps_buffer.specs.Points.{PointsState, point_at, with_point, new_point, placement_at, after_open, run_of_held, IsOpenAt}
use Rattle.mps_buffer.proofs.OpenTokens.{some_within}
use Rattle.mps_memory_tests.proofs.points.give_up.Goals as goal

-- there is a point under a key
abbrev HasPoint : PointsState → (key : ℕ) → Type 0
HasPoint s key = (p : Point) × (point_at s key ≡ Some p) × (key < length s.points)

there_when_set : (s s' : PointsState) (key : ℕ) (p : Point) → s' ≡ with_point s key (Some p) → key < length s.points
    → point_at s' key ≡ Some p
there_when_set s s' key p is within =
    ap (λ (x : PointsState). point_at x key) is ∙ get_or-set_same s.points key (Some p) None within

has_point : (s s' : PointsState) (key : ℕ) (p : Point) → s' ≡ with_point s key (Some p) → key < length s.points → HasPoint s' key
has_point s s' key p is within = let there = there_when_set s s' key p is within in (p, there, some_within s'.points key p there)

is_open : (s s' : PointsState) (key : ℕ) (p : Point) (pl : Placement) (h : Held) → s' ≡ with_point s key (Some (after_open p pl h))
    → key < length s.points → IsOpenAt s' key h
is_open s s' key p pl h is within =
    let there = there_when_set s s' key (after_open p pl h) is within in
    record { within = some_within s'.points key (after_open p pl h) there; point = after_open p pl h; there = there; reserved = refl }

-- the new point
abbrev at_first : Point
at_first = new_point 4 Weak false

pub fits-before-requires-clause-there : goal.fits-before-requires-clause-there
fits-before-requires-clause-there c =
    let made = c.in_ok-key.ensures.made in has_point c.args.points.now c.add.new.self c.in_ok-key.key at_first made.made made.within

pub reserve-requires-clause-there : goal.reserve-requires-clause-there
reserve-requires-clause-there c =
    let made = c.in_ok-key.ensures.made in
    let there = there_when_set c.args.points.now c.add.new.self c.in_ok-key.key at_first made.made made.within in
    (at_first, there, (λ some. absurd (omega (arith, some))), some_within c.add.new.self.points c.in_ok-key.key at_first there)

pub fits-meanwhile-requires-clause-there : goal.fits-meanwhile-requires-clause-there
fits-meanwhile-requires-clause-there c =
    let made = c.in_ok-key.ensures.made in
    let there = there_when_set c.args.points.now c.add.new.self c.in_ok-key.key at_first made.made made.within in
    let within = some_within c.add.new.self.points c.in_ok-key.key at_first there in
    let q = after_open at_first (placement_at at_first c.args.segs.now 3) c.in_ok-token.token.held in
    has_point c.add.new.self c.reserve.new.self c.in_ok-key.key q (c.in_ok-token.ensures.points at_first there) within

pub abandon-requires-clause-open : goal.abandon-requires-clause-open
abandon-requires-clause-open c =
    let made = c.in_ok-key.ensures.made in
    let there = there_when_set c.args.points.now c.add.new.self c.in_ok-key.key at_first made.made made.within in
    let within = some_within c.add.new.self.points c.in_ok-key.key at_first there in
    let h = c.in_ok-token.token.held in
    let at_key = ap (λ (t : Reserved). t.point) (c.in_ok-token.ensures.value at_first there).1 in
    let P : ℕ → Type 0 = λ k. IsOpenAt c.reserve.new.self k h in
    subst P (sym at_key)
    (is_open c.add.new.self c.reserve.new.self c.in_ok-key.key at_first (placement_at at_first c.args.segs.now 3) h
    (c.in_ok-token.ensures.points at_first there) within)

pub abandon-requires-clause-reserved : goal.abandon-requires-clause-reserved
abandon-requires-clause-reserved c =
    let made = c.in_ok-key.ensures.made in
    let there = there_when_set c.args.points.now c.add.new.self c.in_ok-key.key at_first made.made made.within in
    let h = c.in_ok-token.token.held in
    let P : SegsState → Type 0 = λ x. Contains x.reservations (run_of_held h) in
    λ _. subst P (sym (c.in_ok-token.ensures.state at_first there)) (contains_put (run_of_held h) c.args.segs.now.reservations)

pub fits-requires-clause-there : goal.fits-requires-clause-there
fits-requires-clause-there c =
    let made = c.in_ok-key.ensures.made in
    let s = c.reserve.new.self in
    let there = there_when_set c.args.points.now c.add.new.self c.in_ok-key.key at_first made.made made.within in
    let within = some_within c.add.new.self.points c.in_ok-key.key at_first there in
    let q = after_open at_first (placement_at at_first c.args.segs.now 3) c.in_ok-token.token.held in
    let now = there_when_set c.add.new.self s c.in_ok-key.key q (c.in_ok-token.ensures.points at_first there) within in
    let at_key = ap (λ (t : Reserved). t.point) (c.in_ok-token.ensures.value at_first there).1 in
    let P : ℕ → Type 0 = λ k. point_at s k ≡ Some q in
    let at_token = subst P (sym at_key) now in
    let token = c.in_ok-token.token.point in
    let Q : ℕ → Type 0 = λ k. HasPoint c.abandon.new.self k in
    subst Q at_key
    (has_point s c.abandon.new.self token _ (c.abandon.ensures.points q at_token) (some_within s.points token q at_token))
