use Rattle.std.proofs.Common.{ℕ, ◌≡◌, List, length, take, count_by, ap, ◌∙◌, arith}
use Rattle.std.proofs.Math.Seq.{take-length}
use Rattle.mps_final.specs.Inside.{is_live}
use Rattle.mps_final.proofs.LiveEntries.{count_is_length}
use Rattle.mps_final.proofs.entries.index_of.Goals as goal

pub unreachable-requires : goal.unreachable-requires
unreachable-requires c =
    let xs = c.args.entries.now in
    let end : c.loop-index.index ≡ length xs = omega (arith, c.loop-index.invariant.within, c.loop-index-test.false) in
    let whole : count_by is_live (take c.loop-index.index xs) ≡ count_by is_live xs =
    ap (λ (i : ℕ). count_by is_live (take i xs)) end ∙ ap (λ (ys : List ℕ). count_by is_live ys) (take-length xs)
    in
    omega (arith, whole, count_is_length xs, c.loop-index.invariant.before, c.loop-index.invariant.ahead, c.requires.there)
