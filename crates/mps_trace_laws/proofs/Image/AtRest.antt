-- Where no collection runs, the words of each live object are its image.
use Rattle.std.proofs.Common.{◌≡◌, ◌∙◌, ℕ, zero, suc, ◌+◌, ◌-◌, ◌<◌, refl, sym, ap, List, [], ◌∷◌, length, Option, Some, None, inl, inr, arith, slice_index}
use Rattle.std.proofs.lemmas.Option.{none-some, same_Some, slice_get-map, get_or_from_slice_get}
use Rattle.std.proofs.lemmas.List.{ext_get_or, get_or-drop, get_or-take, length-map, length-drop, length-take}
use Rattle.std.specs.Prelude.{slice_get, slice_range, get_or, take, drop, map, option_map, IsTrue, ◌↔◌}
use Rattle.std.specs.Option.{option_map_or}
use Rattle.mps_base.specs.Address.{Address, Id, word_of}
use Rattle.mps_model.specs.Graph.{Cell, HeadCell, NumberCell, ReferenceCell, Body, Automatic, Manual, Object, entry_at, object_at, size_of, size_of_body, target_of_cell}
use Rattle.mps_model.specs.Checked.{head_of_body}
use Rattle.mps_model.specs.World.{World, words_of}
use Rattle.mps_model.specs.Image.{address_of_target, image_of_cell, image_of_body, image_of}
use Rattle.mps_abstract.specs.Colours.{Colours}
use Rattle.mps_trace_laws.specs.Image.Memory.{Setting, Memory, Lies, all_cells, memory_in, setting_at_rest, pool_layout}
use Rattle.mps_trace_laws.specs.Image.Image.{IsCellWord, ImageStands, CellSet, black_cells, no_colours}
use Rattle.mps_trace_laws.specs.Image.AtRest.{CellsHold, HoldsImages, AreSelfContained, AreTargetsLive, StandsAtRest}
use Rattle.mps_trace_laws.proofs.Image.Scanning.{cell_there}
use Rattle.mps_trace_laws.proofs.Image.Bands.{holds_now}
use Rattle.mps_seg.specs.Segs.{SegsState}

module _ (w : World) where
  address_there : (id : Id) (at : Address) → entry_at w.addresses id ≡ Some at → address_of_target w (Some id) ≡ at
  address_there id at e = ap (λ o. option_map_or (λ x. x) o 0) e

  word_of_cell : (head : ℕ) (c : Cell) (word : ℕ) → IsCellWord w.addresses [] head c word → word ≡ image_of_cell w head c
  word_of_cell head HeadCell word h = h
  word_of_cell head (NumberCell number) word h = h
  word_of_cell head (ReferenceCell None tag) word h = omega (arith, h)
  word_of_cell head (ReferenceCell (Some id) tag) word h =
      elim h.means [
        | inl e ↦ h.is ∙ ap (λ a. a + tag) (sym (address_there id h.address e))
        | inr e ↦ absurd (none-some h.address e)
      ]

  cell_of_word : (head : ℕ) (c : Cell) (word : ℕ)
      → ((t : Id) → target_of_cell c ≡ Some t → (to : Address) × (entry_at w.addresses t ≡ Some to)) → word ≡ image_of_cell w head c
      → IsCellWord w.addresses [] head c word
  cell_of_word head HeadCell word live e = e
  cell_of_word head (NumberCell number) word live e = e
  cell_of_word head (ReferenceCell None tag) word live e = omega (arith, e)
  cell_of_word head (ReferenceCell (Some id) tag) word live e =
      let to = live id refl in
      record { address = to.0; is = e ∙ ap (λ a. a + tag) (address_there id to.0 to.1); means = inl to.1 }

  -- ---- the image of a body, cell by cell

  numbers : (words : List ℕ) (i : ℕ) (c : Cell) → slice_get (map NumberCell words) i ≡ Some c
      → slice_get words i ≡ Some (image_of_cell w 0 c)
  numbers [] i c e = absurd (none-some c e)
  numbers (x ∷ xs) zero c e = let same : NumberCell x ≡ c = same_Some (NumberCell x) c e in ap (λ d. Some (image_of_cell w 0 d)) same
  numbers (x ∷ xs) (suc i) c e = numbers xs i c e

  image_at : (b : Body) (i : ℕ) (c : Cell) → slice_get (all_cells b) i ≡ Some c
      → slice_get (image_of_body w b) i ≡ Some (image_of_cell w (head_of_body b) c)
  image_at (Automatic head cells is_weak) i c e =
      slice_get-map (image_of_cell w head) cells i ∙ ap (option_map (image_of_cell w head)) e
  image_at (Manual words) i c e = numbers words i c e

  long : (b : Body) → length (image_of_body w b) ≡ size_of_body b
  long (Automatic head cells is_weak) = length-map cells (image_of_cell w head)
  long (Manual words) = refl

  module _ (words : List ℕ) (whole : AreSelfContained w.graph.objects w.addresses words) (id : Id) (at : Address) (o : Object)
      (there : entry_at w.addresses id ≡ Some at) (object : object_at w.graph id ≡ Some o) where
    lies : (i : ℕ) → i < size_of o → Lies w.graph.objects w.addresses id i o (word_of at + i)
    lies i lt = record { at = at; address = there; object = object; within = lt; is = refl }

    size_is : words_of w id ≡ size_of o
    size_is = ap (λ x. option_map_or size_of x 0) object

    image_is : image_of w id ≡ image_of_body w o.body
    image_is = ap (λ x. option_map_or (λ (q : Object). image_of_body w q.body) x []) object

    -- word i of the words of the block
    word_at : (i : ℕ) → i < size_of o
        → get_or (slice_range words (word_of at) (word_of at + size_of o)) i 0 ≡ slice_index words (word_of at + i)
    word_at i lt =
        get_or-take (word_of at + size_of o - word_of at) (drop (word_of at) words) i 0 (omega (arith, lt))
        ∙ get_or-drop (word_of at) words i 0

    word_in_image : (i : ℕ) (c : Cell) → slice_get (all_cells o.body) i ≡ Some c
        → get_or (image_of_body w o.body) i 0 ≡ image_of_cell w (head_of_body o.body) c
    word_in_image i c cell =
        get_or_from_slice_get (image_of_body w o.body) i (image_of_cell w (head_of_body o.body) c) 0 (image_at o.body i c cell)

    to_image : CellsHold w.graph.objects w.addresses words
        → slice_range words (word_of at) (word_of at + size_of o) ≡ image_of_body w o.body
    to_image hold =
        ext_get_or 0 (slice_range words (word_of at) (word_of at + size_of o)) (image_of_body w o.body) (length_is ∙ sym (long o.body))
        (λ i lt.
        let low : i < size_of o = omega (arith, lt, length_is) in
        let c = cell_there o.body i low in
        word_at i low
        ∙ word_of_cell (head_of_body o.body) c.0 (slice_index words (word_of at + i)) (hold id i o (word_of at + i) c.0 (lies i low) c.1)
        ∙ sym (word_in_image i c.0 c.1))
      where
        length_is : length (slice_range words (word_of at) (word_of at + size_of o)) ≡ size_of o
        length_is = fits (size_of o) (λ lt. whole.within id (size_of o - 1) o (word_of at + (size_of o - 1))
            (lies (size_of o - 1) (omega (arith, lt))))
          where
            fits : (size : ℕ) → (0 < size → word_of at + (size - 1) < length words)
                → length (slice_range words (word_of at) (word_of at + size)) ≡ size
            fits zero f = ap (λ n. length (take n (drop (word_of at) words))) (let e : word_of at + 0 - word_of at ≡ 0 = omega arith in e)
            fits (suc n) f =
                length-take (word_of at + suc n - word_of at) (drop (word_of at) words)
                ∙ omega (arith, f (omega arith), length-drop (word_of at) words)

    from_image : slice_range words (word_of at) (word_of at + size_of o) ≡ image_of_body w o.body → (i : ℕ) (c : Cell) → i < size_of o
        → slice_get (all_cells o.body) i ≡ Some c → slice_index words (word_of at + i) ≡ image_of_cell w (head_of_body o.body) c
    from_image same i c lt cell = sym (word_at i lt) ∙ ap (λ ws. get_or ws i 0) same ∙ word_in_image i c cell

-- if no collection runs, the words of each live object are its image exactly if its cells' words refer to addresses of now
pub resting_words_are_images : (w : World) (words : List ℕ) → AreSelfContained w.graph.objects w.addresses words
    → CellsHold w.graph.objects w.addresses words ↔ HoldsImages w words
resting_words_are_images w words whole = (forward, backward)
  where
    with_object : (id : Id) (at : Address) → entry_at w.addresses id ≡ Some at → CellsHold w.graph.objects w.addresses words
        → (found : Option Object) → object_at w.graph id ≡ found
        → slice_range words (word_of at) (word_of at + option_map_or size_of found 0)
        ≡ option_map_or (λ (q : Object). image_of_body w q.body) found []
    with_object id at there hold None e =
        ap (λ n. take n (drop (word_of at) words)) (let z : word_of at + 0 - word_of at ≡ 0 = omega arith in z)
    with_object id at there hold (Some o) e = to_image w words whole id at o there e hold

    forward : CellsHold w.graph.objects w.addresses words → HoldsImages w words
    forward hold id at there = with_object id at there hold (object_at w.graph id) refl

    backward : HoldsImages w words → CellsHold w.graph.objects w.addresses words
    backward images id i o n c l cell =
        let same : slice_range words (word_of l.at) (word_of l.at + size_of o) ≡ image_of_body w o.body =
        ap (λ z. slice_range words (word_of l.at) (word_of l.at + z)) (sym (size_is w words whole id l.at o l.address l.object))
        ∙ images id l.at l.address ∙ image_is w words whole id l.at o l.address l.object
        in
        cell_of_word w (head_of_body o.body) c (slice_index words n) (λ t is. whole.live id i o n c t l cell is)
        (ap (slice_index words) l.is ∙ from_image w words whole id l.at o l.address l.object same i c l.within cell)

-- where no addresses of a flip count and all words are read, an image's cells hold addresses of now
pub cells_hold : (s : Setting) (m : Memory) (addresses : List (Option Address)) (k : Colours) (done : CellSet)
    → s.at_flip ≡ [] → ((id : Id) → IsTrue (s.is_read id)) → ImageStands s m addresses k done → CellsHold s.objects addresses m.words
cells_hold s m addresses k done none all_read st id i o n c l cell =
    holds_now s addresses (head_of_body o.body) c (slice_index m.words n) none (st.words.cells id i o n c (all_read id) l cell)

-- so if no collection runs, the words of each live object are its image
pub resting_arena_holds_images : (s : SegsState) (w : World) → StandsAtRest s w → AreTargetsLive w.graph.objects w.addresses
    → HoldsImages w s.words
resting_arena_holds_images s w st live =
    let setting = setting_at_rest s w.graph.objects w.graph.points w.point_memories (pool_layout w) in
    (resting_words_are_images w s.words (record {
      within = λ id i o n l. let lt = st.placed.within id i o n l in omega (arith, lt, st.words.long);
      live = live;
    })).0 (cells_hold setting (memory_in s) w.addresses no_colours (black_cells [] no_colours) refl (λ id. refl) st)
