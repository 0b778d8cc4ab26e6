-- The outcomes of the calls on the arena, and the heap of a new one.
use Rattle.std.specs.Prelude.{ℕ, ◌≡◌, true, nat_lt, None, [], Contains, false, is_some, IsTrue}
use Rattle.mps_base.specs.Address.{Address, word_of}
use Rattle.mps_base.specs.Run.{total}
use Rattle.mps_base.specs.declared.refusal.Refusal.TheVariants as refusal
use Rattle.mps_buffer.specs.Points.{no_points}
use Rattle.mps_trace.specs.AmcState.{no_pools}
use Rattle.mps_trace.specs.GenState.{no_chains}
use Rattle.mps_trace.specs.State.{no_finals}
use Rattle.mps_trace.specs.LdState.{no_flips}
use Rattle.mps_model.specs.Checked.{Checked, ◌>>◌, refuse_when}
use Rattle.mps_names.specs.State.{NamesState}
use Rattle.mps_neighbours.specs.Beside.{nothing_beside}
use Rattle.mps_root.specs.State.{no_roots}
use Rattle.mps_seg.specs.Segs.{new_segments, held_runs}
use Rattle.mps_heap_spec.specs.State.{HeapState, without_pairs}
use Rattle.mps_heap_spec.specs.declared.arena.ArenaState.{ArenaState}
use Rattle.mps_heap_spec.specs.declared.arena.ArenaState.TheVariants as arena
use Rattle.mps_heap_spec.specs.Coming.{Outcome, done}
use Rattle.mps_heap_spec.specs.Manual.{is_block_over}
use Rattle.mps_base.specs.declared.refusal.Refusal.{Refusal}

module _ {F : Type 0} where
  -- a heap in which nothing was made, in an arena of n grains with this commit limit
  abbrev pub new_heap : (grains limit : ℕ) → NamesState → HeapState F
  new_heap grains limit names = record {
    segs = new_segments grains limit;
    roots = no_roots;
    live_roots = 0;
    live_slots = 0;
    points = no_points;
    live_points = 0;
    finals = no_finals;
    epochs = no_flips;
    dependencies = [];
    pools = [];
    sizes = [];
    chains = no_chains;
    tails = no_pools;
    names = names;
    arena = arena.Unclamped;
    beside = nothing_beside;
    running = None;
  }

  -- how many grains are held
  abbrev pub held_grains : HeapState F → ℕ
  held_grains h = total (held_runs h.segs)

  abbrev pub limit_set : HeapState F → (limit : ℕ) → Checked (Outcome F (Unit {0}))
  limit_set h limit = do
    refuse_when (nat_lt limit (held_grains h)) refusal.BelowCommitted
    done (record h { segs = record h.segs { limit = limit } })

  abbrev pub with_arena : HeapState F → ArenaState → HeapState F
  with_arena h state = record h { arena = state }

  -- the arena does this by itself, and no transform has a pair
  abbrev pub with_arena_anew : HeapState F → ArenaState → HeapState F
  with_arena_anew h state = record h { arena = state; beside = without_pairs h.beside }

  -- why no block is dumped: a collection runs, or no block begins at the address
  pub data IsNotDumped (h : HeapState F) (at : Address) : Refusal → Type 0 where
    runs : IsTrue (is_some h.running) → IsNotDumped h at refusal.Running
    none_begins : is_some h.running ≡ false → is_block_over h.segs at at ≡ false → IsNotDumped h at refusal.NotABlock

  -- a block of n words begins at an address
  pub record BlockBegins (h : HeapState F) (at : Address) (words : ℕ) : Type 0 where
    pub at_word : is_block_over h.segs at at ≡ true
    pub run : Contains h.segs.blocks (record { from = word_of at; count = words })
