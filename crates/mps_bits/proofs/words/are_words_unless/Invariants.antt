use Rattle.std.proofs.Common.{ℕ, ◌*◌, ◌<◌, ◌≤◌, ◌≡◌}
use Rattle.mps_bits.specs.OpenRuns.{is_one, is_one_unless}
use Rattle.mps_bits.proofs.words.are_words_unless.Given as goal

abbrev pub invariant-loop-at : goal.invariant-loop-at
invariant-loop-at l =
    (at k : ℕ) → l.from ≤ at → at < l.at → k < 64 → is_one_unless l.words l.others (64 * at) k ≡ is_one l.value k
