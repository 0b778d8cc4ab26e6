-- The groups are all calls but `arena`.
use Rattle.std.proofs.Common.{◌≡◌, ◌∙◌, true, false, refl, sym, ap}
use Rattle.std.proofs.lemmas.Bool.{false≢true}
use Rattle.std.specs.Prelude.{◌||◌, not}
use Rattle.mps_model.specs.declared.call.Call.{Call}
use Rattle.mps_model.specs.declared.call.Call.TheVariants as call
use Rattle.mps_model.specs.FirstCall.{is_arena}
use Rattle.mps_session.specs.Memory.{call_takes_memory}
use Rattle.mps_session.specs.Groups.{is_collection, is_frequent, is_manual, is_on_areas, is_on_arena, is_on_caches, makes_thing, may_move, reads_words, writes_words}

-- each call but `arena` is in a group
pub in_a_group : (c : Call)
    → (is_collection c || is_frequent c || is_on_areas c || is_on_arena c || is_on_caches c || makes_thing c) ≡ not (is_arena c)
in_a_group (call.Arena grains limit) = refl
in_a_group _ = refl

-- a call of no other group makes a thing
pub left_over : (c : Call) → is_arena c ≡ false → false ≡ is_collection c → is_frequent c ≡ false → false ≡ is_on_areas c
    → false ≡ is_on_arena c → false ≡ is_on_caches c → makes_thing c ≡ true
left_over c other collection frequent areas arena caches =
    ap (λ b. b || false || false || false || false || makes_thing c) collection
    ∙ ap (λ b. is_collection c || b || false || false || false || makes_thing c) (sym frequent)
    ∙ ap (λ b. is_collection c || is_frequent c || b || false || false || makes_thing c) areas
    ∙ ap (λ b. is_collection c || is_frequent c || is_on_areas c || b || false || makes_thing c) arena
    ∙ ap (λ b. is_collection c || is_frequent c || is_on_areas c || is_on_arena c || b || makes_thing c) caches
    ∙ in_a_group c
    ∙ ap not other

-- a call of none of four groups
pub seldom : (c : Call) → false ≡ reads_words c → false ≡ may_move c → false ≡ is_manual c → false ≡ writes_words c
    → is_frequent c ≡ false
seldom c reads moves manual writes =
    ap (λ b. b || may_move c || is_manual c || writes_words c) (sym reads)
    ∙ ap (λ b. false || b || is_manual c || writes_words c) (sym moves)
    ∙ ap (λ b. false || false || b || writes_words c) (sym manual) ∙ ap (λ b. false || false || false || b) (sym writes)

-- what makes a thing takes memory
pub making_takes_memory : (c : Call) → makes_thing c ≡ true → call_takes_memory c ≡ true
making_takes_memory (call.Chain chain count capacities) one = refl
making_takes_memory (call.Pool pool kind format) one = refl
making_takes_memory (call.PoolOnChain pool kind format chain) one = refl
making_takes_memory (call.PoolMfs pool words) one = refl
making_takes_memory (call.PoolMvff pool) one = refl
making_takes_memory (call.PoolFrames pool) one = refl
making_takes_memory (call.Table table length) one = refl
making_takes_memory (call.Area area length) one = refl
making_takes_memory (call.Blocks blocks length) one = refl
making_takes_memory (call.Point point pool rank) one = refl
making_takes_memory (call.Dependency dependency) one = refl
making_takes_memory (call.Arena grains limit) one = refl
making_takes_memory _ one = absurd (false≢true one)
