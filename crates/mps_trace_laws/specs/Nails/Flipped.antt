-- What a flip has left of an arena before words of areas nail blocks.
use Rattle.std.specs.Prelude.{◌≡◌, ℕ, false, Option, Some, List, [], slice_get}
use Rattle.mps_base.specs.Address.{Address, Id, Word, word_of}
use Rattle.mps_seg.specs.Segs.{SegsState}
use Rattle.mps_model.specs.Graph.{Cell, Object, Point, Reservation, contains, entry_at, target_of_cell}
use Rattle.mps_model.specs.World.{PointMemory}
use Rattle.mps_trace_laws.specs.Image.Bands.{setting_flipped}
use Rattle.mps_trace_laws.specs.Image.Image.{RunsStand}
use Rattle.mps_trace_laws.specs.Image.Laws.{AreAllRead}
use Rattle.mps_trace_laws.specs.Image.Memory.{Setting, Memory, Lies, all_cells, is_condemned_word, live_reservation, memory_in, pool_over_word}
use Rattle.mps_trace_laws.specs.Nails.Nailed.{AreMarkedAt, AreTablesWhole}

-- the setting after a flip that condemned these objects, in an arena whose segments are so now
abbrev pub setting_flipped_in : Setting → SegsState → List (Option Address) → List (Option Point) → List PointMemory → (condemned : List Id)
    → Setting
setting_flipped_in s g addresses points memories condemned = setting_flipped s addresses points memories condemned (is_condemned_word g)

-- from an arena with this memory in which no collection ran, a flip that condemned these objects has led to these segments: the words
-- and the pools over them are as they were, no reservation is live, an object is condemned exactly if its segment is, what is live and is
-- neither condemned nor remembered refers to nothing condemned, and nothing is marked yet
pub record IsFlipped (s : Setting) (m : Memory) (g : SegsState) (addresses : List (Option Address)) (points : List (Option Point))
    (memories : List PointMemory) (condemned remembered : List Id) : Type 0 where
  pub at_rest : s.at_flip ≡ []
  pub all_read : AreAllRead s
  pub words : g.words ≡ m.words
  pub pools : (n : Word) → s.pool_over n ≡ pool_over_word g n
  pub runs : RunsStand (setting_flipped_in s g addresses points memories condemned) (memory_in g) addresses
  pub doomed : (point : ℕ) (r : Reservation) → live_reservation (entry_at points point) ≡ Some r → ⊥
  pub over : (id i : ℕ) (o : Object) (n : Word) (at : Address) → Lies s.objects addresses id i o n → entry_at addresses id ≡ Some at
      → is_condemned_word g n ≡ is_condemned_word g (word_of at)
  pub condemned_there : (id : Id) (at : Address) → entry_at addresses id ≡ Some at
      → contains condemned id ≡ is_condemned_word g (word_of at)
  pub outside : (id i : ℕ) (o : Object) (n : Word) (c : Cell) (t : Id) → contains condemned id ≡ false → contains remembered id ≡ false
      → Lies s.objects addresses id i o n → slice_get (all_cells o.body) i ≡ Some c → target_of_cell c ≡ Some t
      → contains condemned t ≡ false
  pub tables : AreTablesWhole g
  pub unmarked : AreMarkedAt g (λ n. false)
