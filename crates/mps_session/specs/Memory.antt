-- Which calls take memory.
use Rattle.std.specs.Prelude.{◌≡◌, ℕ, Bool, true, false, refl}
use Rattle.mps_base.specs.declared.names.Name.{Name}
use Rattle.mps_model.specs.declared.call.Call.{Call}
use Rattle.mps_model.specs.declared.call.Call.TheVariants as call

-- whether a call takes memory: all that make something do
abbrev pub call_takes_memory : Call → Bool
call_takes_memory (call.Arena grains limit) = true
call_takes_memory (call.Chain chain count capacities) = true
call_takes_memory (call.Pool pool kind format) = true
call_takes_memory (call.PoolOnChain pool kind format chain) = true
call_takes_memory (call.PoolMfs pool words) = true
call_takes_memory (call.PoolMvff pool) = true
call_takes_memory (call.PoolFrames pool) = true
call_takes_memory (call.Table table length) = true
call_takes_memory (call.Area area length) = true
call_takes_memory (call.Blocks blocks length) = true
call_takes_memory (call.Point point pool rank) = true
call_takes_memory (call.Dependency dependency) = true
call_takes_memory _ = false

pub an_arena_takes_memory : call_takes_memory (call.Arena 1 1) ≡ true
an_arena_takes_memory = refl

pub a_reservation_takes_none : (point : Name) (head : ℕ) → call_takes_memory (call.Reserve point head) ≡ false
a_reservation_takes_none point head = refl

pub a_collection_takes_none : call_takes_memory call.Collect ≡ false
a_collection_takes_none = refl
