use Rattle.std.proofs.Common.{ℕ, ◌≡◌, ◌<◌, ◌+◌, List, length, replicate, set, sym, ap, ◌∙◌, arith}
use Rattle.std.proofs.Math.Seq.{paste}
use Rattle.std.proofs.lemmas.List.{get_or-replicate, length-replicate}
use Rattle.std.proofs.lemmas.List.Edits.{paste_more}
use Rattle.mps_arena.proofs.memory.write_run.Goals as goal

pub loop-i-preserved : goal.loop-i-preserved
loop-i-preserved c =
    let words = c.args.words.now in
    let from = c.args.from in
    let n = c.args.count in
    let i = c.loop-i.i in
    let zeros : List ℕ = replicate n 0 in
    let long : length zeros ≡ n = length-replicate {A = ℕ} n 0 in
    let below : i < n = c.loop-i-test.true in
    let more = paste_more words from zeros i 0 (omega (arith, c.requires, below)) (omega (arith, long, below)) in
    ap (λ (ws : List ℕ). set ws (from + i) 0) c.loop-i.invariant
    ∙ ap (λ (v : ℕ). set (paste words from zeros i) (from + i) v) (sym (get_or-replicate n i 0 0 below))
    ∙ more
