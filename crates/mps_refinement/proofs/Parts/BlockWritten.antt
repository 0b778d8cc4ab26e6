-- A word of a manual block is written in a heap and in a world, or all its words are cleared: the parts of the heap still stand for those
-- of the world.
use Rattle.std.proofs.Common.{◌≡◌, ◌∙◌, ℕ, zero, suc, ◌+◌, ◌<◌, ◌≤◌, refl, sym, ap, subst, List, length, inl, inr, arith, get_or}
use Rattle.std.proofs.lemmas.Bool.{cases_lt, or_right}
use Rattle.std.proofs.lemmas.List.{ext_get_or}
use Rattle.std.proofs.lemmas.Option.{none-some}
use Rattle.std.specs.Prelude.{◌==◌, ◌&&◌, ◌-◌, slice_set}
use Rattle.std.specs.Option.{option_map_or}
use Rattle.mps_base.specs.Address.{Address, word_of}
use Rattle.mps_format.specs.Layout.{Layout}
use Rattle.mps_laws.proofs.Positions.LegalMoves.{HasLayout}
use Rattle.mps_model.specs.Allocating.{body_with_word, graph_with_word}
use Rattle.mps_model.specs.Checked.{with_graph}
use Rattle.mps_model.specs.Graph.{NumberCell, Manual, Object, size_of, size_of_body}
use Rattle.mps_model.specs.Making.{is_block_size}
use Rattle.mps_model.specs.World.{World}
use Rattle.mps_seg.specs.Arena.{cleared_words}
use Rattle.mps_heap_spec.specs.Finding.{with_words}
use Rattle.mps_heap_spec.specs.Objects.{with_word}
use Rattle.mps_heap_spec.specs.State.{HeapState}
use Rattle.mps_trace_laws.specs.Image.Changes.{IsCellChanged, setting_with_objects, memory_with_word}
use Rattle.mps_trace_laws.specs.Image.Image.{black_cells, with_cell}
use Rattle.mps_trace_laws.specs.Image.Memory.{Lies, Setting, memory_in}
use Rattle.mps_trace_laws.proofs.Image.CellChanged.{IsBodyChanged, cell_changed, fewer_fixed, manual_changed}
use Rattle.mps_trace_laws.proofs.Image.Written.{cell_written}
use Rattle.mps_refinement.specs.StandsFor.{AreParts, Past, StandsAt, setting_at}
use Rattle.mps_refinement.proofs.Lookups.ManualBlocks.{IsBlock}
use Rattle.mps_refinement.proofs.Parts.BlockParts.{blocks_changed}
use Rattle.mps_refinement.proofs.Parts.ObjectKinds.{kinds_by_images}
use Rattle.mps_refinement.proofs.Parts.ClearedWords.{cleared_long, cleared_word, other_word}
use Rattle.mps_refinement.proofs.Summaries.ManualWords.{manual_keeps}
use Rattle.mps_refinement.proofs.Worlds.ZeroedWords.{graph_zeroed, object_zeroed, zeroed, zeroed_here, zeroed_laid, zeroed_long, zeroed_other, zeroed_there}

module _ {F : Type 0} (layout : F → Layout) (past : Past) (h : HeapState F) (w : World) (parts : AreParts layout past h w)
    (laid : HasLayout (w.grains + 1) w) (at : Address) (id : ℕ) (b : IsBlock w at id) where
  -- the graph with a word of the block written
  graph_written : (k value : ℕ) → (graph_with_word w.graph id k value).objects
      ≡ slice_set w.graph.objects id (record b.object { body = Manual (slice_set b.right.words k value) })
  graph_written k value =
      ap (λ found. option_map_or (λ (o : Object). slice_set w.graph.objects id (record o { body = body_with_word o.body k value })) found
      w.graph.objects) b.there
      ∙ ap (λ body. slice_set w.graph.objects id (record b.object { body = body_with_word body k value })) b.right.body

  block_size : size_of b.object ≡ length b.right.words
  block_size = ap (λ body. size_of_body body) b.right.body

  pub word_lies : (k : ℕ) → k < length b.right.words → Lies w.graph.objects w.addresses id k b.object (word_of at + k)
  word_lies k low = record {
    at = at;
    address = b.address;
    object = b.there;
    within = let size = block_size in omega (arith, low, size);
    is = refl;
  }

  image_stored : (k value : ℕ) → k < length b.right.words
      → StandsAt past.time (record h.segs { words = slice_set h.segs.words (word_of at + k) value })
      (with_graph w (graph_with_word w.graph id k value))
  image_stored k value low =
      let s : Setting = setting_at past.time h.segs w in
      let objects = (graph_with_word w.graph id k value).objects in
      let n = word_of at + k in
      let changed : IsCellChanged w.graph.objects objects id k (NumberCell value) =
      subst (λ os. IsCellChanged w.graph.objects os id k (NumberCell value)) (sym (graph_written k value))
      (cell_changed w.graph.objects id b.object (Manual (slice_set b.right.words k value)) k (NumberCell value) b.there
      (subst (λ body. IsBodyChanged body (Manual (slice_set b.right.words k value)) k (NumberCell value)) (sym b.right.body)
      (manual_changed b.right.words k value)))
      in
      fewer_fixed (setting_with_objects s objects) (memory_with_word (memory_in h.segs) n value) w.addresses past.time.colours
      (with_cell (black_cells past.time.condemned past.time.colours) id k) (black_cells past.time.condemned past.time.colours)
      (λ j l d. or_right (j == id && l == k) (black_cells past.time.condemned past.time.colours j l) d)
      (cell_written s objects (memory_in h.segs) w.addresses past.time.colours
      (black_cells past.time.condemned past.time.colours) id k b.object n
      (NumberCell value) value
      changed parts.image (word_lies k low)
      (record { holds = refl; not_white = λ t e. absurd (none-some t e) }))

  pub block_word_written : (k value : ℕ) → k < length b.right.words
      → AreParts layout past (with_word h (word_of at + k) value) (with_graph w (graph_with_word w.graph id k value))
  block_word_written k value low =
      let objects = (graph_with_word w.graph id k value).objects in
      let n = word_of at + k in
      blocks_changed layout past h w (record h.segs { words = slice_set h.segs.words n value }) h.roots.blocks objects w.addresses
      w.graph.blocks w.segments parts (record {
        grains = refl;
        limit = refl;
        segments_are = parts.segments;
        image = image_stored k value low;
        arena = parts.arena;
        summed = manual_keeps layout past h w parts laid at id b k value n low refl;
        tables = parts.tables;
        areas = parts.areas;
        blocks_are = parts.blocks;
        cached = refl;
        depending = refl;
        count = refl;
        counted = refl;
        registered = parts.registered;
        messages = parts.messages;
        paired = λ j from paired there. (
          there,
          kinds_by_images past.time h.segs (record h.segs { words = slice_set h.segs.words n value }) w objects refl parts.image
              (image_stored k value low) j from there,
        );
        there = refl;
        framed = parts.framed;
      })

-- ---- all its words

-- the words of a block lie in the arena
pub block_within : {F : Type 0} (layout : F → Layout) (past : Past) (h : HeapState F) (w : World) (parts : AreParts layout past h w)
    → HasLayout (w.grains + 1) w → (at : Address) (id : ℕ) (b : IsBlock w at id)
    → word_of at + length b.right.words ≤ length h.segs.words
block_within layout past h w parts laid at id b =
    elim (cases_lt 0 (length b.right.words)) [
      | inl some ↦
          let last = length b.right.words - 1 in
          let l = word_lies layout past h w parts laid at id b last (omega (arith, some)) in
          let low = parts.image.placed.within id last b.object (word_of at + last) l in
          let long = parts.image.words.long in
          omega (arith, low, long, some)
      | inr none ↦
          let some = parts.image.placed.positive id at b.object b.address b.there in
          let size : size_of b.object ≡ length b.right.words = ap (λ body. size_of_body body) b.right.body in
          absurd (omega (arith, none, some, size))
    ]

-- words that are cleared, one after the other
cleared_is : (words : List ℕ) (from n : ℕ) → from + n ≤ length words → zeroed words from n ≡ cleared_words words from n
cleared_is words from n fits =
    ext_get_or 0 (zeroed words from n) (cleared_words words from n) (zeroed_long words from n ∙ sym (cleared_long words from n fits))
    (λ i lt. by_place i)
  where
    by_place : (i : ℕ) → get_or (zeroed words from n) i 0 ≡ get_or (cleared_words words from n) i 0
    by_place i =
        elim (cases_lt i from) [
          | inl before ↦
              zeroed_other words from n i (λ l low e. omega (arith, e, before))
              ∙ sym (other_word words from n fits i (λ l low e. omega (arith, e, before)))
          | inr after ↦
              elim (cases_lt i (from + n)) [
                | inl inside ↦
                    ap (λ k. get_or (zeroed words from n) k 0) (let e : i ≡ from + (i - from) = omega (arith, after) in e)
                    ∙ zeroed_here words from n (i - from) (omega (arith, after, inside)) fits
                    ∙ sym (ap (λ k. get_or (cleared_words words from n) k 0)
                    (let e : i ≡ from + (i - from) = omega (arith, after) in e)
                    ∙ cleared_word words from n fits (i - from) (omega (arith, after, inside)))
                | inr past ↦
                    zeroed_other words from n i (λ l low e. omega (arith, e, low, past))
                    ∙ sym (other_word words from n fits i (λ l low e. omega (arith, e, low, past)))
              ]
        ]

module _ {F : Type 0} (layout : F → Layout) (past : Past) (h : HeapState F) (w : World) (parts : AreParts layout past h w)
    (laid : HasLayout (w.grains + 1) w) (at : Address) (id : ℕ) (b : IsBlock w at id) where
  -- the block with its first n words 0
  abbrev block_zeroed : (n : ℕ) → IsBlock (with_graph w (graph_zeroed w.graph id n)) at id
  block_zeroed n = record {
    address = b.address;
    object = object_zeroed b.object b.right.words n;
    there = zeroed_there w.graph id b.object b.right.words b.there b.right.body n;
    pool = b.pool;
    of = b.of;
    right = record {
      words = zeroed b.right.words 0 n;
      body = refl;
      kind = b.right.kind;
      size = ap is_block_size (zeroed_long b.right.words 0 n) ∙ b.right.size;
    };
  }

  parts_zeroed : (n : ℕ) → n ≤ length b.right.words
      → AreParts layout past (with_words h (zeroed h.segs.words (word_of at) n)) (with_graph w (graph_zeroed w.graph id n))
  parts_zeroed zero low = parts
  parts_zeroed (suc n) low =
      block_word_written layout past (with_words h (zeroed h.segs.words (word_of at) n)) (with_graph w (graph_zeroed w.graph id n))
      (parts_zeroed n (omega (arith, low)))
      (zeroed_laid (w.grains + 1) w id b.object b.right.words b.there b.right.body laid n) at id (block_zeroed n) n 0
      (let long = zeroed_long b.right.words 0 n in omega (arith, low, long))

  -- all words are 0
  pub block_cleared : AreParts layout past (with_words h (cleared_words h.segs.words (word_of at) (length b.right.words)))
      (with_graph w (graph_zeroed w.graph id (length b.right.words)))
  block_cleared =
      subst (λ ws. AreParts layout past (with_words h ws) (with_graph w (graph_zeroed w.graph id (length b.right.words))))
      (cleared_is h.segs.words (word_of at) (length b.right.words) (block_within layout past h w parts laid at id b))
      (parts_zeroed (length b.right.words) (omega arith))
