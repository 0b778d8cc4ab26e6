use Rattle.std.proofs.Common.{ℕ, ◌<◌, ◌≤◌, ◌∙◌, [], length, get_or, ap, arith}
use Rattle.std.specs.Option.{option_map}
use Rattle.std.proofs.lemmas.List.Elements.{All-get_or}
use Rattle.mps_gen.specs.Due.{in_numbers}
use Rattle.mps_gen.specs.Inside.{IsChain}
use Rattle.mps_gen.specs.State.{max_generations}
use Rattle.mps_policy.proofs.Loads.{due_of_table}
use Rattle.mps_policy.proofs.due.due_now.Goals as goal

pub returns : goal.returns
returns c =
    let chains = c.args.chains.now in
    let held = c.args.segs.now.segments in
    let rows = c.held_by_chains.result in
    let sound = c.are_sound.ensures.sound in
    let few = c.are_sound.ensures.few_chains in
    let short : (i : ℕ) → i < length chains.chains → length (get_or chains.chains i []) ≤ max_generations =
    λ i below. (All-get_or IsChain chains.chains i [] below sound.each).at_most
    in
    c.due.ensures
    ∙ ap (λ (d : _). option_map in_numbers d) (due_of_table chains held rows (omega (arith, few, c.held_by_chains.ensures.size))
    (λ i below. omega (arith, short i below, c.held_by_chains.ensures.rows i (omega (arith, below, few))))
    (λ chain generation below within.
    c.held_by_chains.ensures.held chain generation (omega (arith, below, few)) (omega (arith, within, short chain below))))
