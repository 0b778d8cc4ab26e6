-- The calls on objects are right: `head`, `addr`, `num`, `setnum`, `get`, `put`, `tag`, `settag`.
use Rattle.std.proofs.Common.{◌≡◌, ◌∙◌, ℕ, ◌+◌, ◌%◌, ◌<◌, refl, sym, ap, subst, List, [], map, Option, Some, None, inl, arith}
use Rattle.std.proofs.lemmas.Option.{none-some, get_or_from_slice_get}
use Rattle.std.specs.Prelude.{slice_get, slice_set, Bool, true, false, not, Ok}
use Rattle.std.specs.Option.{option_map_or}
use Rattle.mps_base.specs.Address.{Address, Id}
use Rattle.mps_base.specs.declared.names.Slot.{Slot}
use Rattle.mps_format.specs.Layout.{Layout, IsLawful}
use Rattle.mps_format.specs.Pools.{policy_of_pool}
use Rattle.mps_trace_laws.proofs.Image.CellChanged.{tag_changed, target_changed}
use Rattle.mps_trace_laws.proofs.Image.ClientLaws.{cell_of_an_object_is_written, tag_of_an_object_is_written}
use Rattle.mps_trace_laws.specs.Image.Image.{IsCellWord, IsFixedWord}
use Rattle.mps_trace_laws.specs.Image.Memory.{Lies, memory_in}
use Rattle.mps_laws.proofs.Positions.LegalMoves.{HasLayout}
use Rattle.mps_laws.proofs.Same.{Same, fits, same_then, Alike, same_weaker}
use Rattle.mps_laws.proofs.Sound.SoundGraph.{PassesOrNull}
use Rattle.mps_model.specs.declared.call.Call.TheVariants as call
use Rattle.mps_model.specs.Allocating.{with_slot}
use Rattle.mps_model.specs.Checked as model
use Rattle.mps_model.specs.Checked.{Act, Checked, Found, Numbered, ◌>>=◌, ◌>>◌, cells_of_body, reference_at, with_graph}
use Rattle.mps_model.specs.Graph.{Cell, NumberCell, ReferenceCell, Object, entry_at, graph_with_cells, with_tag_cell, with_target_cell}
use Rattle.mps_model.specs.Tagging.{tag_count}
use Rattle.mps_model.specs.World.{World, is_live}
use Rattle.mps_seg.specs.Segs.{SegsState}
use Rattle.mps_trace_laws.specs.Summaries.Summed.{AreWordsSummed}
use Rattle.mps_heap_spec.specs.Coming.{Comes}
use Rattle.mps_heap_spec.specs.Finding.{object_at, object_in, retagged, retargeted, slot_in}
use Rattle.mps_heap_spec.specs.Referring.{noting_reference}
use Rattle.mps_heap_spec.specs.declared.found.Block.{Block}
use Rattle.mps_heap_spec.specs.declared.found.CellFound.{CellFound}
use Rattle.mps_heap_spec.specs.declared.found.Entry.{Entry}
use Rattle.mps_heap_spec.specs.Objects.{head_in, address_in, number_in, number_set, reference_got, reference_put, tag_got, tag_set, with_reference, with_word}
use Rattle.mps_heap_spec.specs.State.{HeapState}
use Rattle.mps_refinement.proofs.Worlds.CollectorKept.{all_kept}
use Rattle.mps_refinement.specs.RightStep.{IsRight}
use Rattle.mps_refinement.specs.StandsFor.{AreParts, Past, address_of_target, setting_at}
use Rattle.mps_refinement.proofs.Lookups.Cells.{retargeted_is, target_is}
use Rattle.mps_refinement.proofs.Lookups.Found.{again, in_a_row, same_drop, some_there}
use Rattle.mps_refinement.proofs.Worlds.Known.{IsKnown, is_kept_at}
use Rattle.mps_refinement.proofs.Lookups.LiveObjects.{IsNumberOf, IsObject, IsReferenceOf, number_same, object_at_same, object_lawful, object_then, reference_same, tag_same, slot_may_read, target_address, fixed_reference_same}
use Rattle.mps_refinement.proofs.Lookups.Lookups.{slot_same}
use Rattle.mps_refinement.proofs.Parts.PartsWritten.{slot_written, words_written}
use Rattle.mps_refinement.proofs.Summaries.CellWrites.{noting_is, noting_kept}
use Rattle.mps_refinement.proofs.Summaries.ObjectCells.{number_keeps, reference_keeps, tag_keeps}
use Rattle.mps_refinement.proofs.Calls.Readings.{act_reading, reading_is_right, says_ok}
pub use Rattle.mps_refinement.specs.Answering.{says_head, says_number, says_word}
use Rattle.mps_refinement.proofs.Worlds.Steps.{ComesToTheSame, answer_to, quiet_is_right, Leads}
use Rattle.std.proofs.lemmas.Bool.{false≢true}
use Rattle.mps_abstract.specs.Colours.{is_black, is_white}
use Rattle.mps_laws.proofs.Same as same
use Rattle.mps_model.specs.Accessing.{act_get}

-- ---- a cell is written

-- a word is that of a reference, where its target is null or live
reference_is_word : (addresses : List (Option Address)) (head word tag : ℕ) (target : Option Id)
    → ((id : Id) → target ≡ Some id → (at : Address) × (entry_at addresses id ≡ Some at))
    → word ≡ address_of_target addresses target + tag → IsCellWord addresses [] head (ReferenceCell target tag) word
reference_is_word addresses head word tag None live e = omega (arith, e)
reference_is_word addresses head word tag (Some id) live e =
    let at = live id refl in
    record { address = at.0; is = e ∙ ap (λ o. option_map_or (λ a. a) o 0 + tag) at.1; means = inl at.1 }

target_live : (w : World) (target : Option Id) → PassesOrNull (is_live w) target → (id : Id) → target ≡ Some id
    → (at : Address) × (entry_at w.addresses id ≡ Some at)
target_live w None live id e = absurd (none-some id e)
target_live w (Some other) live id e =
    some_there (entry_at w.addresses id) (subst (PassesOrNull (is_live w)) e live)

module _ {F : Type 0} (layout : F → Layout) (past : Past) (h : HeapState F) (w : World) (parts : AreParts layout past h w)
    (laid : HasLayout (w.grains + 1) w) (b : Block F) (n : Numbered Object) (is : IsObject layout past h w b n) where
  -- the words stand for the objects, where a cell and its word are written
  pub cell_written : (k word value : ℕ) (new : Cell) (change : List Cell → List Cell) (summaries : List ℕ)
      → Lies w.graph.objects w.addresses n.number k n.value word → change is.cells ≡ slice_set is.cells k new
      → IsFixedWord past.time.condemned w.addresses past.time.colours b.head new value
      → AreWordsSummed layout (map policy_of_pool h.pools)
      (record h.segs { words = slice_set h.segs.words word value; summaries = summaries })
      → AreParts layout past (record h { segs = record h.segs { words = slice_set h.segs.words word value; summaries = summaries } })
      (with_graph w (graph_with_cells w.graph n.number change))
  cell_written k word value new change summaries lies changes fixed summed =
      words_written layout past h w parts (slice_set h.segs.words word value) summaries (graph_with_cells w.graph n.number change).objects
      (cell_of_an_object_is_written
      (setting_at past.time h.segs w) w.graph (memory_in h.segs) w.addresses
      past.time.colours n.number k n.value b.head is.cells is.is_weak word new value change refl is.body changes parts.image lies fixed)
      summed

  pub number_written : (k value : ℕ) (cell : CellFound) (number : ℕ) → IsNumberOf w n k cell number
      → AreParts layout past (with_word h cell.word value)
      (with_graph w (graph_with_cells w.graph n.number (λ cells. slice_set cells k (NumberCell value))))
  number_written k value cell number found =
      cell_written k cell.word value (NumberCell value) (λ cells. slice_set cells k (NumberCell value)) h.segs.summaries found.lies refl
      (record { holds = refl; not_white = λ t e. absurd (none-some t e) })
      (number_keeps layout past h w parts laid b n is k cell.word found.lies value number found.cell)

  pub reference_written : (k : ℕ) (target : Option ℕ) (cell : CellFound) (old : Option ℕ) → PassesOrNull (is_live w) target
      → PassesOrNull (is_kept_at past.time) target
      → IsReferenceOf past.time h.segs.words w n k cell old
      → AreParts layout past (with_reference layout h b cell (address_of_target w.addresses target))
      (with_graph w (graph_with_cells w.graph n.number (λ cells. with_target_cell cells k target)))
  reference_written k target cell old live kept found =
      let to = address_of_target w.addresses target in
      let value = retargeted (layout b.format) cell.value to in
      let words : SegsState = record h.segs { words = slice_set h.segs.words cell.word value } in
      let noted = noting_is words b.at to in
      let P : SegsState → Type 0 = λ g. AreWordsSummed layout (map policy_of_pool h.pools) g in
      let Q : SegsState → Type 0 = λ g.
      AreParts layout past (record h { segs = g })
      (with_graph w (graph_with_cells w.graph n.number (λ cells. with_target_cell cells k target)))
      in
      subst Q (sym noted)
      (cell_written k cell.word value (ReferenceCell target found.tag) (λ cells. with_target_cell cells k target)
      (noting_reference words b.at to).summaries found.lies
      (target_changed is.cells k found.tag old target (ap (λ body. slice_get (cells_of_body body) k) (sym is.body) ∙ found.cell))
      (record {
        holds = reference_is_word w.addresses b.head value found.tag target (target_live w target live)
            (retargeted_is (layout b.format) lawful cell.value found.was found.tag found.low
            found.is_target found.value to
            (target_address layout past h w parts target));
        not_white = λ t e. kept_target target kept t e;
      })
      (subst P noted (reference_keeps layout past h w parts laid b n is k cell old found target)))
    where
      lawful : IsLawful (layout b.format)
      lawful = object_lawful layout past h w parts b n is

      not_white : (b : Bool) → not b ≡ true → b ≡ false
      not_white true e = absurd (false≢true e)
      not_white false e = refl

      kept_target : (target : Option ℕ) → PassesOrNull (is_kept_at past.time) target → (t : Id) → target ≡ Some t
          → is_white past.time.condemned past.time.colours t ≡ false
      kept_target None k t e = absurd (none-some t e)
      kept_target (Some id) k t e =
          not_white (is_white past.time.condemned past.time.colours t) (subst (PassesOrNull (is_kept_at past.time)) e k)

module _ {F : Type 0} (layout : F → Layout) (past : Past) (h : HeapState F) (w : World) (parts : AreParts layout past h w)
    (laid : HasLayout (w.grains + 1) w) (b : Block F) (n : Numbered Object) (is : IsObject layout past h w b n) where
  -- the word of a reference with another tag stands for the cell with another tag, whichever address it has
  pub tag_written : (k tag : ℕ) (cell : CellFound) (target : Option ℕ) → tag < tag_count
      → IsReferenceOf past.time h.segs.words w n k cell target
      → AreParts layout past (with_word h cell.word (retagged (layout b.format) cell.value tag))
      (with_graph w (graph_with_cells w.graph n.number (λ cells. with_tag_cell cells k tag)))
  tag_written k tag cell target low found =
      let there : slice_get is.cells k ≡ Some (ReferenceCell target found.tag) =
      ap (λ body. slice_get (cells_of_body body) k) (sym is.body) ∙ found.cell
      in
      subst (λ at. AreParts layout past (with_word h cell.word (at + tag))
      (with_graph w (graph_with_cells w.graph n.number (λ cells. with_tag_cell cells k tag))))
      (sym (target_is (layout b.format) (object_lawful layout past h w parts b n is) cell.value found.was found.tag found.low
      found.is_target found.value))
      (words_written layout past h w parts (slice_set h.segs.words cell.word (found.was + tag)) h.segs.summaries
      (graph_with_cells w.graph n.number (λ cells. with_tag_cell cells k tag)).objects
      (tag_of_an_object_is_written (setting_at past.time h.segs w) w.graph (memory_in h.segs) w.addresses past.time.colours n.number k
      n.value b.head is.cells is.is_weak cell.word target found.tag tag found.was (λ cells. with_tag_cell cells k tag) refl is.body there
      (tag_changed is.cells k found.tag tag target there) parts.image found.lies
      (get_or_from_slice_get h.segs.words cell.word cell.value 0 found.there ∙ found.value))
      (tag_keeps layout past h w parts laid b n is k cell target found tag low))

-- ---- an object that is looked up again

-- the target of cell k of an object, where the object and its cell are looked up twice, as before and after moves
abbrev read_twice : World → (k : ℕ) → (after : Option ℕ → World) → Option ℕ → Checked Act
read_twice w k after target =
    model.object_in w target >>= (λ (object : Numbered Object).
    reference_at (cells_of_body object.value.body) k >> (model.object_in w target >>= (λ (now : Numbered Object).
    reference_at (cells_of_body now.value.body) k >>= (λ (target : Option ℕ). model.done (after target)))))

-- the model finds an object in a slot
pub record IsFoundIn (w : World) (source : Slot) (n : Numbered Object) : Type 0 where
  pub given : Found (Option ℕ)
  pub slot : model.slot_in w source ≡ Ok given
  pub object : model.object_in w given.value ≡ Ok n

-- where both come to something, with what they come to
pub with_results : {A B : Type 0} {Fits : A → B → Type 0} {x : Checked A} {y : Checked B} → Same Fits x y
    → Same (λ (a : A) (b : B). (x ≡ Ok a) × (y ≡ Ok b) × Fits a b) x y
with_results (fits fit) = fits (refl, refl, fit)
with_results same.refused = same.refused

module _ {F : Type 0} (layout : F → Layout) (past : Past) (h : HeapState F) (w : World) (parts : AreParts layout past h w)
    (of : IsKnown past.time w) where
  -- the heap does so once
  object_again : {C : Type 0} {FitNext : C → Act → Type 0} {f : Block F → Checked C} (source : Slot) (k : ℕ)
      (after : Option ℕ → World)
      → ((b : Block F) (n : Numbered Object) → IsObject layout past h w b n → IsFoundIn w source n
      → Same FitNext (f b) (reference_at (cells_of_body n.value.body) k >>= (λ (target : Option ℕ). model.done (after target))))
      → Same FitNext (object_in layout h source >>= f)
      (model.slot_in w source >>= (λ (from : Found (Option ℕ)). read_twice w k after from.value))
  object_again {C} {FitNext} {f} source k after next =
      subst (λ x. Same FitNext x (model.slot_in w source >>= (λ (from : Found (Option ℕ)). read_twice w k after from.value)))
      (sym (in_a_row (slot_in h source) (λ (from : Entry Address). object_at layout h from.value) f))
      (same_then (with_results (slot_same layout past h w parts source)) (λ from given both.
      let has = both.2 in
      subst (λ y. Same FitNext (object_at layout h from.value >>= f) y)
      (sym (again (model.object_in w given.value) (λ (object : Numbered Object). reference_at (cells_of_body object.value.body) k)
      (λ (target : Option ℕ). model.done (after target))))
      (same_then (with_results (object_at_same layout past h w parts of from.value given.value has.fit.value
      (slot_may_read layout past h w parts of source.index from given has.fit))) (λ b n object.
      next b n object.2 (record { given = given; slot = both.1; object = object.1 })))))

  -- the object that a slot refers to, with what the model finds there
  pub object_found_in : (source : Slot)
      → Same (λ (b : Block F) (n : Numbered Object). IsObject layout past h w b n × IsFoundIn w source n) (object_in layout h source)
      (model.slot_in w source >>= (λ (from : Found (Option ℕ)). model.object_in w from.value))
  object_found_in source =
      same_then (with_results (slot_same layout past h w parts source)) (λ from given both.
      same_weaker (with_results (object_at_same layout past h w parts of from.value given.value both.2.fit.value
      (slot_may_read layout past h w parts of source.index from given both.2.fit))) (λ b n object.
      (object.2, record { given = given; slot = both.1; object = object.1 })))

  -- the heap refuses a `get` exactly if the model does, before its barrier as after it
  pub reference_got_alike : (target source : Slot) (k : ℕ)
      → Alike (reference_got layout h target source k) (act_get w w target source k)
  reference_got_alike target source k =
      same_then (slot_same layout past h w parts target) (λ into found is.
      object_again source k (λ target. with_graph w (with_slot w.graph found target)) (λ b n object in_slot.
      same_then (reference_same layout past h w parts b n object k) (λ cell old reference. fits tt)))

-- ---- the calls

module _ {F : Type 0} (layout : F → Layout) (h : HeapState F) where
  pub head_right : (slot : Slot) (result : Checked ℕ) → result ≡ head_in layout h slot
      → IsRight layout h (call.Head slot) [] (answer_to says_head result) h
  head_right slot result =
      reading_is_right layout says_head h (call.Head slot) refl refl (head_in layout h slot) result
      (λ w past parts reached.
      object_then layout past h w parts reached slot (λ b n is.
      fits (ap (λ body. act_reading w (says_head (model.head_of_body body))) is.body)))

  pub address_right : (slot : Slot) (result : Checked Address) → result ≡ address_in layout h slot
      → IsRight layout h (call.Address slot) [] (answer_to says_word result) h
  address_right slot result =
      reading_is_right layout says_word h (call.Address slot) refl refl (address_in layout h slot) result
      (λ w past parts reached.
      object_then layout past h w parts reached slot (λ b n is.
      fits (ap (λ o. act_reading w (says_word (option_map_or (λ at. at) o 0))) is.address)))

  pub number_right : (slot : Slot) (k : ℕ) (result : Checked ℕ) → result ≡ number_in layout h slot k
      → IsRight layout h (call.Number slot k) [] (answer_to says_number result) h
  number_right slot k result =
      reading_is_right layout says_number h (call.Number slot k) refl refl (number_in layout h slot k) result
      (λ w past parts reached.
      object_then layout past h w parts reached slot (λ b n is.
      same_then (number_same layout past h w parts b n is k) (λ cell number found.
      fits (ap (λ m. act_reading w (says_number m)) (sym found.value)))))

  number_set_same : (slot : Slot) (k value : ℕ)
      → ComesToTheSame layout says_ok h (call.SetNumber slot k value) (number_set layout h slot k value)
  number_set_same slot k value w past parts reached =
      object_then layout past h w parts reached slot (λ b n is.
      same_drop (number_same layout past h w parts b n is k) (λ cell number found.
      fits (record {
        answer = refl;
        keeps = all_kept h;
        formats = refl;
        has = record {
          past = past;
          timed = refl;
          parts = number_written layout past h w parts reached.laid b n is k value cell number found;
        };
      })))

  pub number_set_right : (slot : Slot) (k value : ℕ) (result : Checked (Unit {0})) (after : HeapState F)
      → Comes h (number_set layout h slot k value) result after
      → IsRight layout h (call.SetNumber slot k value) [] (answer_to says_ok result) after
  number_set_right slot k value result after =
      quiet_is_right layout says_ok h (call.SetNumber slot k value) refl refl (number_set layout h slot k value) result after
      (number_set_same slot k value)

  pub tag_got_right : (slot : Slot) (k : ℕ) (result : Checked ℕ) → result ≡ tag_got layout h slot k
      → IsRight layout h (call.Tag slot k) [] (answer_to says_number result) h
  tag_got_right slot k result =
      reading_is_right layout says_number h (call.Tag slot k) refl refl (tag_got layout h slot k) result
      (λ w past parts reached.
      object_then layout past h w parts reached slot (λ b n is.
      same_then (tag_same layout past h w parts b n is k) (λ cell tag found.
      fits (ap (λ m. act_reading w (says_number m)) (sym found)))))

  tag_set_same : (slot : Slot) (k tag : ℕ) → tag < tag_count
      → ComesToTheSame layout says_ok h (call.SetTag slot k tag) (tag_set layout h slot k tag)
  tag_set_same slot k tag low w past parts reached =
      object_then layout past h w parts reached slot (λ b n is.
      same_drop (reference_same layout past h w parts b n is k) (λ cell target found.
      fits (record {
        answer = refl;
        keeps = all_kept h;
        formats = refl;
        has = record {
          past = past;
          timed = refl;
          parts = subst (λ m. AreParts layout past (with_word h cell.word (retagged (layout b.format) cell.value tag))
              (with_graph w (graph_with_cells w.graph n.number (λ cells. with_tag_cell cells k m)))) (sym whole)
              (tag_written layout past h w parts reached.laid b n is k tag cell target low found);
        };
      })))
    where
      whole : tag % tag_count ≡ tag
      whole = omega (arith, low)

  pub tag_set_right : (slot : Slot) (k tag : ℕ) (result : Checked (Unit {0})) (after : HeapState F) → tag < tag_count
      → Comes h (tag_set layout h slot k tag) result after
      → IsRight layout h (call.SetTag slot k tag) [] (answer_to says_ok result) after
  tag_set_right slot k tag result after low =
      quiet_is_right layout says_ok h (call.SetTag slot k tag) refl refl (tag_set layout h slot k tag) result after
      (tag_set_same slot k tag low)

  reference_put_same : (target : Slot) (k : ℕ) (source : Slot)
      → ComesToTheSame layout says_ok h (call.Put target k source) (reference_put layout h target k source)
  reference_put_same target k source w past parts reached =
      let of = reached in
      same_then (slot_same layout past h w parts target) (λ into found is.
      same_then (slot_same layout past h w parts source) (λ from given has.
      same_then (object_at_same layout past h w parts of into.value found.value is.fit.value
      (slot_may_read layout past h w parts of target.index into found is.fit)) (λ b n object.
      same_drop (reference_same layout past h w parts b n object k) (λ cell old reference.
      fits (record {
        answer = refl;
        keeps = noting_kept h (slice_set h.segs.words cell.word (retargeted (layout b.format) cell.value from.value)) b.at from.value;
        formats = refl;
        has = record {
          past = past;
          timed = refl;
          parts = subst (λ at. AreParts layout past (with_reference layout h b cell at)
              (with_graph w (graph_with_cells w.graph n.number (λ cells. with_target_cell cells k given.value)))) (sym has.fit.value)
              (reference_written layout past h w parts reached.laid b n object k given.value cell old
              (slot_may_read layout past h w parts of source.index from given has.fit).live
              (slot_may_read layout past h w parts of source.index from given has.fit).kept reference);
        };
      })))))

  pub reference_put_right : (target : Slot) (k : ℕ) (source : Slot) (result : Checked (Unit {0})) (after : HeapState F)
      → Comes h (reference_put layout h target k source) result after
      → IsRight layout h (call.Put target k source) [] (answer_to says_ok result) after
  reference_put_right target k source result after =
      quiet_is_right layout says_ok h (call.Put target k source) refl refl (reference_put layout h target k source) result after
      (reference_put_same target k source)

  -- if the object of the source is black, as after a read barrier in its segment, what is read is the address that its object has now
  pub reference_got_same : (target source : Slot) (k : ℕ) (w : World) (past : Past) → AreParts layout past h w → IsKnown past.time w
      → ((n : Numbered Object) → IsFoundIn w source n
      → is_black past.time.condemned past.time.colours n.number ≡ true)
      → Same (Leads layout says_ok h past w) (reference_got layout h target source k) (act_get w w target source k)
  reference_got_same target source k w past parts of black =
      same_then (slot_same layout past h w parts target) (λ into found is.
      object_again layout past h w parts of source k (λ target. with_graph w (with_slot w.graph found target)) (λ b n object in_slot.
      same_then (fixed_reference_same layout past h w parts b n object k (black n in_slot)) (λ cell old reference.
      fits (record {
        answer = refl;
        keeps = all_kept h;
        formats = refl;
        has = record {
          past = past;
          timed = refl;
          parts = slot_written layout past h w parts target.index into found ((layout b.format).target cell.value) old is.fit
              (target_is (layout b.format) (object_lawful layout past h w parts b n object) cell.value (address_of_target w.addresses old)
              reference.tag reference.low (target_address layout past h w parts old) reference.value);
        };
      }))))
