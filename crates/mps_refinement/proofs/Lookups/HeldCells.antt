-- The block that a reservation of a heap is to become, and its cells, against the model's reservation.
use Rattle.std.proofs.Common.{◌≡◌, ◌∙◌, ℕ, ◌+◌, ◌<◌, true, false, refl, sym, ap, subst, List, length, Option, Some, Ok, arith}
use Rattle.std.proofs.lemmas.Bool.{and_parts}
use Rattle.std.specs.Prelude.{not, ◌&&◌, slice_get, option_and_then, IsTrue}
use Rattle.std.specs.List.{list_all}
use Rattle.std.specs.Option.{option_map_or}
use Rattle.mps_base.specs.Address.{Address, word_of}
use Rattle.mps_base.specs.declared.refusal.Refusal.TheVariants as refusal
use Rattle.mps_buffer.specs.declared.point.Held.{Held}
use Rattle.mps_buffer.specs.declared.point.Point.{Point}
use Rattle.mps_buffer.specs.Points.{point_at}
use Rattle.mps_format.specs.Layout.{Layout, IsLawful}
use Rattle.mps_laws.proofs.Lookups.{there_is}
use Rattle.mps_laws.proofs.Same.{BothOrNeither, both, neither}
use Rattle.mps_laws.proofs.Sound.SoundGraph.{IsSoundGraph}
use Rattle.mps_model.proofs.Taking.{valid_where_taken}
use Rattle.mps_model.specs.Allocating.{takes_head}
use Rattle.mps_model.specs.Checked.{◌>>=◌, ◌>>◌, required, refuse_when}
use Rattle.mps_model.specs.Graph as graph
use Rattle.mps_model.specs.Graph.{Cell, Reservation, entry_at, is_automatic, new_cells, targets_of_cells}
use Rattle.mps_model.specs.WellFormed.{are_right_cells, are_shaped}
use Rattle.mps_model.specs.World as world
use Rattle.mps_model.specs.World.{World, object_is, pool_at}
use Rattle.mps_heap_spec.specs.Allocating.{block_held}
use Rattle.mps_heap_spec.specs.declared.found.Block.{Block}
use Rattle.mps_heap_spec.specs.State.{HeapState}
use Rattle.mps_format.specs.Pools.{format_of_pool}
use Rattle.mps_refinement.specs.StandsFor.{AreHeldAlike, AreParts, BothHeld, NoneHeld, IsHeld, Past}
use Rattle.mps_refinement.proofs.Lookups.Cells.{AreCells, are_cells}
use Rattle.mps_refinement.proofs.Lookups.PointPools.{IsPoolOf, pool_of}

-- both have a reservation, and the one is the other's, or neither has
pub held_same : (flips : ℕ) (at : Address) (o : Option Held) (x : Option Reservation) → AreHeldAlike flips at o x
    → BothOrNeither (λ held r. (o ≡ Some held) × (x ≡ Some r) × IsHeld flips held r at) o x
held_same flips at o x (BothHeld is) = both (refl, refl, is)
held_same flips at o x NoneHeld = neither

-- cells are right where their head is valid and they have its shape
record AreRight (f : Layout) (head : ℕ) (cells : List Cell) : Type 0 where
  pub valid : IsTrue (f.is_valid head)
  pub shaped : are_shaped (new_cells f head) cells ≡ true

module _ {F : Type 0} (layout : F → Layout) (past : Past) (h : HeapState F) (w : World) (parts : AreParts layout past h w)
    (sound : IsSoundGraph w) (key n : ℕ) (p : Point) (q : graph.Point) (at_key : point_at h.points key ≡ Some p)
    (there : entry_at w.graph.points n ≡ Some q) (pools : p.pool ≡ q.pool) (held : Held) (r : Reservation)
    (reserved : p.reservation ≡ Some held) (open_there : q.reservation ≡ Some r) (at : Address) (is : IsHeld (length w.flips) held r at)
  where
    pub of : IsPoolOf layout h w q.pool
    of = pool_of layout past h w parts sound n q there

    -- the format of its pool
    abbrev pub format_held : F
    format_held = of.automatic.format

    right_cells : (o : Option world.Pool) → o ≡ Some of.models
        → option_map_or (λ (x : world.Pool). are_right_cells w x r.head r.cells) o false ≡ true
        → are_right_cells w of.models r.head r.cells ≡ true
    right_cells o e h = subst (λ x. option_map_or (λ (y : world.Pool). are_right_cells w y r.head r.cells) x false ≡ true) e h

    are_right : AreRight (w.formats of.models.format) r.head r.cells
    are_right =
        let all = right_cells (pool_at w q.pool) of.has (sound.reservations n q r there open_there) in
        let f = w.formats of.models.format in
        let two = (and_parts (takes_head w of.models r.head && are_shaped (new_cells f r.head) r.cells)
        (list_all (object_is is_automatic w) (targets_of_cells r.cells)) all).0 in
        let both = and_parts (takes_head w of.models r.head) (are_shaped (new_cells f r.head) r.cells) two in
        record { valid = valid_where_taken w of.models r.head both.0; shaped = both.1 }

    valid_head : (layout format_held).is_valid held.head ≡ true
    valid_head =
        ap (λ (f : Layout). f.is_valid held.head) (sym of.automatic.means)
        ∙ ap (w.formats of.models.format).is_valid is.head ∙ are_right.valid

    -- the block that the reservation is to become
    abbrev pub block_of_held : Block F
    block_of_held = record { at = held.at.0; format = format_held; head = held.head }

    pub held_is_block : block_held layout h p held ≡ Ok block_of_held
    held_is_block =
        ap (λ o. required o refusal.NotOpen >>= (λ format. refuse_when (not ((layout format).is_valid held.head)) refusal.NotOpen
        >> Ok (record { at = held.at.0; format = format; head = held.head })))
        (ap (λ k. option_and_then format_of_pool (slice_get h.pools k)) pools
        ∙ ap (option_and_then format_of_pool) of.kept ∙ of.automatic.has)
        ∙ ap (λ b. refuse_when (not b) refusal.NotOpen >> Ok block_of_held) valid_head

    pub held_cells : AreCells (layout format_held) held.head r.cells
    held_cells =
        subst (λ (f : Layout). AreCells f held.head r.cells) of.automatic.means
        (subst (λ (x : ℕ). AreCells (w.formats of.models.format) x r.cells) (sym is.head)
        (are_cells (w.formats of.models.format) (parts.lawful of.models.format) r.head r.cells are_right.valid are_right.shaped))

    pub held_lawful : IsLawful (layout format_held)
    held_lawful = subst IsLawful of.automatic.means (parts.lawful of.models.format)

    -- its words are words of the arena
    pub held_words : (k : ℕ) → k < length r.cells → (value : ℕ) × (slice_get h.segs.words (word_of held.at.0 + k) ≡ Some value)
    held_words k lt =
        let within = parts.arena.within key p held at_key reserved in
        let words = is.words in
        let long = parts.image.words.long in
        there_is h.segs.words (word_of held.at.0 + k) (omega (arith, within, words, long, lt))
