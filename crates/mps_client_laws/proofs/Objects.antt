-- No object is lost: steps leave identities, cells and words but for what they write.
use Rattle.std.proofs.Common.{◌≡◌, ℕ, Bool, true, false, refl, sym, ◌∙◌, ap, List, [], ◌∷◌, map, Option, Some, None}
use Rattle.std.proofs.lemmas.Bool.{true≢false, and_parts}
use Rattle.std.proofs.lemmas.Option.{none-some, slice_get-map}
use Rattle.std.specs.Prelude.{not, slice_get, option_and_then}
use Rattle.mps_model.specs.declared.call.Call.{Call}
use Rattle.mps_model.specs.declared.call.Call.TheVariants as call
use Rattle.mps_model.specs.Answer.{is_block}
use Rattle.mps_model.specs.Step.{Step}
use Rattle.mps_model.specs.Graph.{Graph, Object, Cell, with_last, graph_with_cells, object_with_cells, object_at, target_of_cell}
use Rattle.mps_model.specs.World.{World}
use Rattle.mps_model.specs.Checked.{Act, Checked, cells_of_body, words_of_body}
use Rattle.mps_model.specs.Caches.{graph_cleared}
use Rattle.mps_model.specs.Allocating.{graph_with_word}
use Rattle.mps_model.specs.Reply.{act, world_from}
use Rattle.mps_model.specs.History.{judged_world, moved_world, world_after}
use Rattle.mps_changes.specs.Change.{ForAct, accepted, refused}
use Rattle.mps_changes.proofs.Checks.{for_world}
use Rattle.mps_laws.proofs.Lookups.{slice_get-kept, map-with_last}
use Rattle.mps_client_laws.specs.Objects.{Identity, identity_of, identity_at, cell_at, word_at, leaves_cell, leave_cell, leave_word, moves_leave_cell, writes_cell, writes_word, ObjectsKeepTheirIdentity, CellsStay, WordsStay, replaces}
use Rattle.mps_client_laws.proofs.Cells.{identities_stay, cells_keep_identity, words_keep_identity, other_cells_stay, words_beside_cells, cells_beside_words, other_words_stay, object_with_word, cells_beside_cleared, clearing_keeps_identity, object_cleared, words_of_others_stay}
use Rattle.mps_client_laws.proofs.WritesOfCalls.{Writes, Nothing, OneMore, ACell, AWord, Replaced, writes_of_act, Clears}
use Rattle.mps_laws.proofs.SameArena.{moved_alone}
use Rattle.mps_client_laws.proofs.WritesOfMoves.{moved_world_leaves, same_cells_written, same_words_written}
use Rattle.mps_model.specs.Transforms.{graph_substituted, is_old}
use Rattle.mps_client_laws.proofs.Substituted.{identities, same_cell_at, same_word_at}
use Rattle.std.specs.Option.{option_map_or}

-- ---- what a call leaves, by what it writes

-- the graph with other objects
abbrev with_objects : Graph → List Object → Graph
with_objects g objects = record g { objects = objects }

module _ (c : Call) (v : World) where
  identity_kept : (id : ℕ) (is : Identity) → identity_at v.graph id ≡ Some is → (u : World) → Writes c v u
      → identity_at u.graph id ≡ Some is
  identity_kept id is there u (Nothing e) = ap (λ os. identity_at (with_objects u.graph os) id) e ∙ there
  identity_kept id is there u (OneMore o e) =
      ap (λ os. identity_at (with_objects u.graph os) id) e
      ∙ sym (slice_get-map identity_of (with_last v.graph.objects o) id)
      ∙ ap (λ is. slice_get is id) (map-with_last identity_of v.graph.objects o)
      ∙ slice_get-kept (map identity_of v.graph.objects) (identity_of o) is id (slice_get-map identity_of v.graph.objects id ∙ there)
  identity_kept id is there u (ACell this k change one written e) =
      ap (λ os. identity_at (with_objects u.graph os) id) e
      ∙ sym (slice_get-map identity_of (graph_with_cells v.graph this change).objects id)
      ∙ ap (λ is. slice_get is id) (identities_stay v.graph.objects this (λ o. object_with_cells o change)
      (cells_keep_identity change one.as_many))
      ∙ slice_get-map identity_of v.graph.objects id ∙ there
  identity_kept id is there u (AWord this k value written e) =
      ap (λ os. identity_at (with_objects u.graph os) id) e
      ∙ sym (slice_get-map identity_of (graph_with_word v.graph this k value).objects id)
      ∙ ap (λ is. slice_get is id) (identities_stay v.graph.objects this (object_with_word k value) (words_keep_identity k value))
      ∙ slice_get-map identity_of v.graph.objects id ∙ there
  identity_kept id is there u (Replaced transform pairs call_is pairs_are e) =
      ap (λ os. identity_at (with_objects u.graph os) id) e
      ∙ sym (slice_get-map identity_of (graph_substituted v.graph pairs).objects id)
      ∙ ap (λ is. slice_get is id) (identities pairs v.graph.objects)
      ∙ slice_get-map identity_of v.graph.objects id ∙ there
  identity_kept id is there u (Clears this written e) =
      ap (λ os. identity_at (with_objects u.graph os) id) e
      ∙ sym (slice_get-map identity_of (graph_cleared v.graph this).objects id)
      ∙ ap (λ is. slice_get is id) (identities_stay v.graph.objects this object_cleared clearing_keeps_identity)
      ∙ slice_get-map identity_of v.graph.objects id ∙ there

  -- what is written isn't what isn't
  not_written : (writes : (id k : ℕ) → Bool) (this j id k : ℕ) → writes this j ≡ true → writes id k ≡ false → this ≡ id → j ≡ k → ⊥
  not_written writes this j id k written not_this same equal =
      true≢false (sym written ∙ ap (λ n. writes n j) same ∙ ap (writes id) equal ∙ not_this)

  in_object : {A : Type 0} (look : Object → Option A) (o : Object) (id : ℕ) (x : A) → option_and_then look (object_at v.graph id) ≡ Some x
      → option_and_then look (slice_get (with_last v.graph.objects o) id) ≡ Some x
  in_object look o id x there = by_case (slice_get v.graph.objects id) refl there
    where
      by_case : (found : Option Object) → slice_get v.graph.objects id ≡ found → option_and_then look found ≡ Some x
          → option_and_then look (slice_get (with_last v.graph.objects o) id) ≡ Some x
      by_case None e there = absurd (none-some x there)
      by_case (Some y) e there = ap (option_and_then look) (slice_get-kept v.graph.objects o y id e) ∙ there

  cell_kept : (id k : ℕ) (cell : Cell) → writes_cell v c id k ≡ false → cell_at v.graph id k ≡ Some cell → (u : World) → Writes c v u
      → cell_at u.graph id k ≡ Some cell
  cell_kept id k cell other there u (Nothing e) = ap (λ os. cell_at (with_objects u.graph os) id k) e ∙ there
  cell_kept id k cell other there u (OneMore o e) =
      ap (λ os. cell_at (with_objects u.graph os) id k) e ∙ in_object (λ x. slice_get (cells_of_body x.body) k) o id cell there
  cell_kept id k cell other there u (ACell this j change one written e) =
      ap (λ os. cell_at (with_objects u.graph os) id k) e
      ∙ other_cells_stay v.graph this j change one id k cell (not_written (writes_cell v c) this j id k written other) there
  cell_kept id k cell other there u (AWord this j value written e) =
      ap (λ os. cell_at (with_objects u.graph os) id k) e ∙ cells_beside_words v.graph this j value id k ∙ there
  cell_kept id k cell other there u (Replaced transform pairs call_is pairs_are e) =
      ap (λ os. cell_at (with_objects u.graph os) id k) e
      ∙ same_cell_at pairs v.graph id k cell (ap (λ ps. option_map_or (is_old ps) (target_of_cell cell) false) pairs_are
      ∙ ap (λ o. replaces v (call.TransformApply transform) (option_and_then target_of_cell o)) (sym there)
      ∙ ap (λ d. writes_cell v d id k) (sym call_is) ∙ other) there
  cell_kept id k cell other there u (Clears this written e) =
      ap (λ os. cell_at (with_objects u.graph os) id k) e ∙ cells_beside_cleared v.graph this id k ∙ there

  word_kept : (id k word : ℕ) → writes_word v c id k ≡ false → word_at v.graph id k ≡ Some word → (u : World) → Writes c v u
      → word_at u.graph id k ≡ Some word
  word_kept id k word other there u (Nothing e) = ap (λ os. word_at (with_objects u.graph os) id k) e ∙ there
  word_kept id k word other there u (OneMore o e) =
      ap (λ os. word_at (with_objects u.graph os) id k) e ∙ in_object (λ x. slice_get (words_of_body x.body) k) o id word there
  word_kept id k word other there u (ACell this j change one written e) =
      ap (λ os. word_at (with_objects u.graph os) id k) e ∙ words_beside_cells v.graph this id k change ∙ there
  word_kept id k word other there u (AWord this j value written e) =
      ap (λ os. word_at (with_objects u.graph os) id k) e
      ∙ other_words_stay v.graph this j value id k word (not_written (writes_word v c) this j id k written other) there
  word_kept id k word other there u (Replaced transform pairs call_is pairs_are e) =
      ap (λ os. word_at (with_objects u.graph os) id k) e ∙ same_word_at pairs v.graph id k ∙ there
  word_kept id k word other there u (Clears this written e) =
      ap (λ os. word_at (with_objects u.graph os) id k) e
      ∙ words_of_others_stay v.graph this id k word (λ same. not_written (writes_word v c) this k id k (written k) other same refl) there

-- from what a call writes to the world after it
after_act : (P : World → Type 0) (marked : Bool) (judged v : World) (c : Call) → ((u : World) → Writes c v u → P u) → P v
    → P (world_from v (act marked judged v c))
after_act P marked judged v c each before =
    for_world P v (act marked judged v c) (by_case (act marked judged v c) (writes_of_act marked judged v c)) before
  where
    by_case : (x : Checked Act) → ForAct (Writes c v) x → ForAct P x
    by_case _ (accepted writes) = accepted (each _ writes)
    by_case _ refused = refused

-- ---- what a step leaves

not_false : (b : Bool) → not b ≡ true → b ≡ false
not_false true h = absurd (true≢false (sym h))
not_false false h = refl

pub identity_after_step : (w : World) (s : Step) (id : ℕ) (is : Identity) → identity_at w.graph id ≡ Some is
    → identity_at (world_after w s).graph id ≡ Some is
identity_after_step w s id is there =
    let moved = moved_world w s.call s.moves in
    let left = moved_world_leaves w s.call s.moves in
    let now : identity_at moved.graph id ≡ Some is =
    sym (slice_get-map identity_of moved.graph.objects id) ∙ ap (λ is. slice_get is id) left.identities
    ∙ slice_get-map identity_of w.graph.objects id ∙ there in
    after_act (λ u. identity_at u.graph id ≡ Some is) (is_block s.answer) (judged_world w s.call s.moves) moved s.call
    (identity_kept s.call moved id is now) now

pub cell_after_step : (w : World) (s : Step) (id k : ℕ) (cell : Cell) → leaves_cell w s id k ≡ true → cell_at w.graph id k ≡ Some cell
    → cell_at (world_after w s).graph id k ≡ Some cell
cell_after_step w s id k cell leaves there =
    let moved = moved_world w s.call s.moves in
    let left = moved_world_leaves w s.call s.moves in
    let parts = and_parts (not (writes_cell w s.call id k)) (moves_leave_cell w s.moves id k) leaves in
    let now = left.cells id k cell parts.1 there in
    after_act (λ u. cell_at u.graph id k ≡ Some cell) (is_block s.answer) (judged_world w s.call s.moves) moved s.call
    (cell_kept s.call moved id k cell (same_cells_written moved w s.call id k left.names left.tables
    (moved_alone w s.call s.moves).state (now ∙ sym there) ∙ not_false (writes_cell w s.call id k) parts.0) now) now

pub word_after_step : (w : World) (s : Step) (id k word : ℕ) → writes_word w s.call id k ≡ false → word_at w.graph id k ≡ Some word
    → word_at (world_after w s).graph id k ≡ Some word
word_after_step w s id k word leaves there =
    let moved = moved_world w s.call s.moves in
    let left = moved_world_leaves w s.call s.moves in
    let now = left.words id k ∙ there in
    after_act (λ u. word_at u.graph id k ≡ Some word) (is_block s.answer) (judged_world w s.call s.moves) moved s.call
    (word_kept s.call moved id k word (same_words_written moved w s.call id k left.names left.blocks (moved_alone w s.call s.moves).caches
    ∙ leaves) now) now

-- ---- the laws

pub objects_keep_their_identity : ObjectsKeepTheirIdentity
objects_keep_their_identity w [] id is there = there
objects_keep_their_identity w (s ∷ ss) id is there =
    objects_keep_their_identity (world_after w s) ss id is (identity_after_step w s id is there)

pub cells_stay : CellsStay
cells_stay w [] id k cell leave there = there
cells_stay w (s ∷ ss) id k cell leave there =
    let parts = and_parts (leaves_cell w s id k) (leave_cell (world_after w s) ss id k) leave in
    cells_stay (world_after w s) ss id k cell parts.1 (cell_after_step w s id k cell parts.0 there)

pub words_stay : WordsStay
words_stay w [] id k word leave there = there
words_stay w (s ∷ ss) id k word leave there =
    let parts = and_parts (not (writes_word w s.call id k)) (leave_word (world_after w s) ss id k) leave in
    words_stay (world_after w s) ss id k word parts.1
    (word_after_step w s id k word (not_false (writes_word w s.call id k) parts.0) there)
