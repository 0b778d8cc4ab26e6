-- `load` and `store`: what a word of a manual block has, and the write of one.
use Rattle.std.proofs.Common.{◌≡◌, ℕ, refl, sym, subst, [], Ok}
use Rattle.mps_base.specs.Address.{Address}
use Rattle.mps_base.specs.declared.names.Slot.{Slot}
use Rattle.mps_base.specs.declared.refusal.Refusal.TheVariants as refusal
use Rattle.mps_format.specs.Layout.{Layout}
use Rattle.mps_laws.proofs.Same.{Same, fits, same_then}
use Rattle.mps_model.specs.declared.call.Call.TheVariants as call
use Rattle.mps_model.specs.Allocating.{act_load, act_store, graph_with_word}
use Rattle.mps_model.specs.Checked.{Checked, required, with_graph}
use Rattle.mps_model.specs.World.{World}
use Rattle.mps_heap_spec.specs.Coming.{Comes}
use Rattle.mps_heap_spec.specs.Manual.{word_loaded, word_stored}
use Rattle.mps_heap_spec.specs.Objects.{with_word}
use Rattle.mps_heap_spec.specs.State.{HeapState}
use Rattle.mps_refinement.proofs.Worlds.CollectorKept.{all_kept}
use Rattle.mps_refinement.specs.Answering.{answer_to, says_number, says_ok}
use Rattle.mps_refinement.specs.RightStep.{IsRight}
use Rattle.mps_refinement.specs.StandsFor.{AreParts, Past}
use Rattle.mps_refinement.proofs.Parts.BlockWritten.{block_word_written}
use Rattle.mps_refinement.proofs.Worlds.Known.{IsKnown}
use Rattle.mps_refinement.proofs.Lookups.Lookups.{place_same}
use Rattle.mps_refinement.proofs.Lookups.ManualBlocks.{IsBlock, IsWordOf, block_same, same_then_next, word_same}
use Rattle.mps_refinement.proofs.Calls.Readings.{IsReading, act_reading, reading_is_right}
use Rattle.mps_refinement.proofs.Worlds.Steps.{Leads, quiet_is_right}

module _ {F : Type 0} (layout : F → Layout) (h : HeapState F) where
  -- ---- load

  load_reads : (place : Slot) (k : ℕ) (w : World) (past : Past) → AreParts layout past h w → IsKnown past.time w
      → Same (IsReading w says_number) (word_loaded h place k) (act_load w place k)
  load_reads place k w past parts reached =
      let at_hand = reached in
      same_then (place_same layout past h w parts place) (λ entry found is.
      same_then (block_same layout past h w parts at_hand place.index entry found is.fit) (λ at id b.
      same_then (word_same layout past h w parts at_hand at id b k) (λ n value word.
      subst (λ o. Same (IsReading w says_number) (required o refusal.BadIndex) (Ok (act_reading w (says_number value)))) (sym word.stored)
      (fits refl))))

  -- a word of a block is read
  pub load_is_right : (place : Slot) (k : ℕ) (result : Checked ℕ) → result ≡ word_loaded h place k
      → IsRight layout h (call.Load place k) [] (answer_to says_number result) h
  load_is_right place k result is =
      reading_is_right layout says_number h (call.Load place k) refl refl (word_loaded h place k) result (load_reads place k) is

  -- ---- store

  module _ (w : World) (past : Past) (parts : AreParts layout past h w) (reached : IsKnown past.time w) where
    own : IsKnown past.time w
    own = reached

    word_written : (at : Address) (id k value n old : ℕ) (b : IsBlock w at id) → IsWordOf h.segs.words b.right.words at k n old
        → AreParts layout past (with_word h n value) (with_graph w (graph_with_word w.graph id k value))
    word_written at id k value n old b word =
        subst (λ m. AreParts layout past (with_word h m value) (with_graph w (graph_with_word w.graph id k value))) (sym word.is)
        (block_word_written layout past h w parts own.laid at id b k value word.low)

    store_leads : (place : Slot) (k value : ℕ) → Same (Leads layout says_ok h past w) (word_stored h place k value)
        (act_store w place k value)
    store_leads place k value =
        same_then (place_same layout past h w parts place) (λ entry found is.
        same_then (block_same layout past h w parts own place.index entry found is.fit) (λ at id b.
        same_then_next (word_same layout past h w parts own at id b k) (λ n old word.
        fits (record {
          answer = refl;
          keeps = all_kept h;
          formats = refl;
          has = record
              { past = past; timed = refl; parts = word_written at id k value n old b word };
        }))))

  -- a word of a block is written
  pub store_is_right : (place : Slot) (k value : ℕ) (result : Checked (Unit {0})) (after : HeapState F)
      → Comes h (word_stored h place k value) result after
      → IsRight layout h (call.Store place k value) [] (answer_to says_ok result) after
  store_is_right place k value result after comes =
      quiet_is_right layout says_ok h (call.Store place k value) refl refl (word_stored h place k value) result after
      (λ w past parts reached. store_leads w past parts reached place k value) comes
