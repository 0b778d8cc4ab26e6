-- What a heap is once the moves that its collector made are followed: where a reference of a holder was cleared, so is that of its
-- dependent, and the pairs of freed blocks end.
use Rattle.std.specs.Prelude.{◌≡◌, ℕ, Bool, true, false, ◌&&◌, if◌then◌else◌, Option, Some, None, List, [], ◌∷◌, drop, length, refl}
use Rattle.std.specs.Option.{option_map_or}
use Rattle.std.proofs.Common.{ap}
use Rattle.mps_base.specs.Address.{Address}
use Rattle.mps_base.specs.Trail.{Moves}
use Rattle.mps_base.specs.declared.moves.Move.{Move}
use Rattle.mps_base.specs.declared.moves.Move.TheVariants as moves
use Rattle.mps_dep.specs.Following.{nulled}
use Rattle.mps_dep.specs.State.{dependent_of, the_pair, without_address}
use Rattle.mps_dep.specs.declared.dependents.Pair.{Pair}
use Rattle.mps_base.specs.declared.names.Kind.TheVariants as kind
use Rattle.mps_base.specs.declared.names.Rank.TheVariants as rank
use Rattle.mps_format.specs.Front.{front_layout}
use Rattle.mps_format.specs.Layout.{Layout}
use Rattle.mps_format.specs.declared.pool.Pool.TheVariants as pool
use Rattle.mps_seg.specs.Collecting.{is_white_at}
use Rattle.mps_seg.specs.Segs.{new_segments}
use Rattle.mps_trace.specs.declared.running.Band.{Band}
use Rattle.mps_trace.specs.declared.running.Band.TheVariants as band
use Rattle.mps_trace.specs.declared.running.Running.{Running}
use Rattle.mps_heap_spec.specs.Finding.{with_words}
use Rattle.mps_heap_spec.specs.State.{HeapState, format_over}

abbrev pub is_reclaim : Band → Bool
is_reclaim band.Exact = false
is_reclaim band.Final = false
is_reclaim band.Weak = false
is_reclaim band.Reclaim = true

-- whether a collection runs that reclaims its condemned segments
abbrev pub is_reclaiming : Option Running → Bool
is_reclaiming running = option_map_or (λ run. is_reclaim run.band) running false

-- the moves that were made since a trail had those that it had
abbrev pub made_since : (before after : Moves) → List Move
made_since before after = drop (length before.moves) after.moves

module _ {F : Type 0} where
  -- whether a dependent is passed by: a collection that reclaims its condemned segments doesn't keep it, and nothing reads its words
  abbrev pub is_passed_by : HeapState F → Address → Bool
  is_passed_by h at = is_reclaiming h.running && is_white_at h.segs at

  -- the heap with these pairs of dependents
  abbrev pub with_dependents : HeapState F → List Pair → HeapState F
  with_dependents h pairs = record h { beside = record h.beside { dependents = pairs } }

module _ {F : Type 0} (layout : F → Layout) where
  -- the reference in a cell of the dependent at an address is null, by the format of its pool
  abbrev pub with_dependent_nulled : HeapState F → Address → (cell : ℕ) → HeapState F
  with_dependent_nulled h at cell = option_map_or (λ f. with_words h (nulled (layout f) h.segs at cell)) (format_over h at) h

  -- the heap after a reference of a holder was cleared, whose dependent is this
  abbrev pub splat_followed : HeapState F → (dependent : Option Address) → (cell : ℕ) → HeapState F
  splat_followed h dependent cell =
      option_map_or (λ at. if is_passed_by h at then h else with_dependent_nulled h at cell) dependent h

  -- the heap after a move is followed
  abbrev pub move_followed : HeapState F → Move → HeapState F
  move_followed h (moves.Splat holder cell) = splat_followed h (dependent_of h.beside.dependents holder.0) cell
  move_followed h (moves.Free at) = with_dependents h (without_address h.beside.dependents at.0)
  move_followed h _ = h

  -- the heap after moves are followed, one after the other
  abbrev pub moves_followed : HeapState F → List Move → HeapState F
  moves_followed h [] = h
  moves_followed h (m ∷ ms) = moves_followed (move_followed h m) ms

  -- a call first left a heap of which this is true, and then the moves that it had made were followed
  pub record Follows (m : Moves) (Left : HeapState F → Moves → Type 0) (h' : HeapState F) (m' : Moves) : Type 0 where
    pub made : HeapState F
    pub left : Left made m'
    pub followed : h' ≡ moves_followed made (made_since m m')

-- ---- vectors: the block at 8 has a reference and a number, and is the dependent of the holder at 40

abbrev a_pair : {F : Type 0} → (format : F) → HeapState F → HeapState F
a_pair format h = record h {
  segs = record (new_segments 0 0) {
    words = 0 ∷ 0x100000301 ∷ 13 ∷ 13 ∷ [];
    blocks = record { from = 1; count = 3 } ∷ [];
    segments = record { base = 0; grains = 1; pool = 0; generation = 0; rank = rank.Exact } ∷ [];
  };
  pools = pool.Automatic kind.Awl format ∷ [];
  beside = record h.beside { dependents = the_pair 40 8 ∷ [] };
  running = None;
}

-- the same while a collection in this band runs
abbrev in_band : {F : Type 0} → (format : F) → HeapState F → Band → HeapState F
in_band format h b = record (a_pair format h) {
  running = Some (record { band = b; cursor = record { 0 = 0 }; next = 0; registered_before = 0 });
}

-- a splat of the reference of the holder, and one of a number's cell
abbrev a_splat : (cell : ℕ) → Move
a_splat cell = moves.Splat (record { 0 = 40 }) cell

abbrev front : {F : Type 0} → F → Layout
front format = front_layout

pub the_reference_is_nulled : {F : Type 0} (format : F) (h : HeapState F)
    → (moves_followed front (a_pair format h) (a_splat 1 ∷ [])).segs.words ≡ 0 ∷ 0x100000301 ∷ 5 ∷ 13 ∷ []
the_reference_is_nulled format h = refl

pub a_number_stays : {F : Type 0} (format : F) (h : HeapState F)
    → moves_followed front (a_pair format h) (a_splat 2 ∷ []) ≡ a_pair format h
a_number_stays format h = refl

pub a_white_one_is_nulled_too : {F : Type 0} (format : F) (h : HeapState F)
    → (moves_followed front (in_band format h band.Weak) (a_splat 1 ∷ [])).segs.words ≡ 0 ∷ 0x100000301 ∷ 5 ∷ 13 ∷ []
a_white_one_is_nulled_too format h = refl

pub one_that_is_passed_by_stays : {F : Type 0} (format : F) (h : HeapState F) → is_passed_by (in_band format h band.Reclaim) 8 ≡ true
    → moves_followed front (in_band format h band.Reclaim) (a_splat 1 ∷ []) ≡ in_band format h band.Reclaim
one_that_is_passed_by_stays format h is =
    let g = in_band format h band.Reclaim in
    ap (λ b. if b then g else with_dependent_nulled front g 8 1) is

pub a_free_ends_the_pair : {F : Type 0} (format : F) (h : HeapState F)
    → (moves_followed front (a_pair format h) (moves.Free (record { 0 = 40 }) ∷ a_splat 1 ∷ [])).segs.words ≡ (a_pair format h).segs.words
a_free_ends_the_pair format h = refl

pub moves_made_before_are_not :
    made_since (record { moves = a_splat 1 ∷ []; spare = 4 }) (record { moves = a_splat 1 ∷ moves.End ∷ []; spare = 3 })
    ≡ moves.End ∷ []
moves_made_before_are_not = refl
