-- The block over a byte, in the runs of blocks that a heap at rest has, against the live object in whose words the byte lies.
--
-- block_over_live: over a byte of a live object there is its block.
-- block_over_found: a block that is over a byte is that of a live object, in whose words the byte lies.
use Rattle.std.proofs.Common.{◌≡◌, ◌∙◌, ℕ, ◌+◌, ◌-◌, ◌<◌, ◌≤◌, true, false, refl, sym, ap, subst, List, [], ◌∷◌, Option, Some, None, inl, inr, arith}
use Rattle.std.proofs.lemmas.Bool.{true≢false, cases_Bool, cond-true, cond-false}
use Rattle.std.proofs.lemmas.Option.{none-some, same_Some}
use Rattle.std.specs.Prelude.{slice_get, option_map}
use Rattle.std.specs.List.{AllByRecursion}
use Rattle.mps_base.specs.Address.{Address, Id, word_of, address_of_word}
use Rattle.mps_base.specs.Run.{Run, in_order}
use Rattle.mps_extents.proofs.ApartRuns.{has_word-true, has_word-parts}
use Rattle.mps_extents.specs.Extents.{has_word, run_over}
use Rattle.mps_format.specs.Layout.{Layout}
use Rattle.mps_trace_laws.proofs.Image.Extents.{all_extents}
use Rattle.mps_laws.proofs.InOrder.{all_put}
use Rattle.mps_trace_laws.proofs.Image.OpenRuns.{all_from_in_order, of_extents}
use Rattle.mps_trace_laws.specs.Image.Memory.{Lies}
use Rattle.mps_model.specs.Graph.{Object, entry_at, size_of}
use Rattle.mps_model.specs.World.{World, extent, extents_of}
use Rattle.mps_seg.specs.Segs.{at_word}
use Rattle.mps_heap_spec.specs.Areas.{block_over}
use Rattle.mps_heap_spec.specs.State.{HeapState}
use Rattle.mps_refinement.specs.StandsFor.{AreParts, Past}

-- ---- runs

all_in_order : (P : Run → Type 0) (rs : List Run) → AllByRecursion P rs → AllByRecursion P (in_order rs)
all_in_order P [] all = tt
all_in_order P (r ∷ rs) all = all_put (λ (s : Run). s.from) P r (in_order rs) all.0 (all_in_order P rs all.1)

-- a run that is over a word, with a fact of all runs
record IsRunOver (P : Run → Type 0) (word from : ℕ) : Type 0 where
  run : Run
  passes : P run
  begins : run.from ≡ from
  has : has_word run word ≡ true

run_found : (P : Run → Type 0) (rs : List Run) (word from : ℕ) → AllByRecursion P rs → run_over rs word ≡ Some from → IsRunOver P word from
run_found P [] word from all e = absurd (none-some from e)
run_found P (r ∷ rs) word from all e = elim (cases_Bool (has_word r word)) [
  | inl here ↦ record {
    run = r;
    passes = all.0;
    begins = same_Some r.from from (sym (cond-true (has_word r word) (Some r.from) (run_over rs word) here) ∙ e);
    has = here;
  }
  | inr isnt ↦ run_found P rs word from all.1 (sym (cond-false (has_word r word) (Some r.from) (run_over rs word) isnt) ∙ e)
]

none_over : (rs : List Run) (word : ℕ) → run_over rs word ≡ None → AllByRecursion (λ r. has_word r word ≡ false) rs
none_over [] word e = tt
none_over (r ∷ rs) word e = elim (cases_Bool (has_word r word)) [
  | inl here ↦ absurd (none-some r.from (sym e ∙ cond-true (has_word r word) (Some r.from) (run_over rs word) here))
  | inr isnt ↦ (isnt, none_over rs word (sym (cond-false (has_word r word) (Some r.from) (run_over rs word) isnt) ∙ e))
]

-- ---- blocks

-- a run is that of a live object
record IsExtentOf (objects : List Object) (addresses : List (Option Address)) (r : Run) : Type 0 where
  id : Id
  at : Address
  object : Object
  address : entry_at addresses id ≡ Some at
  there : slice_get objects id ≡ Some object
  is : r ≡ extent at (size_of object)

-- a byte lies in the words of a live object
pub record IsByteOf (w : World) (byte : ℕ) (id : Id) (at : Address) (o : Object) : Type 0 where
  pub address : entry_at w.addresses id ≡ Some at
  pub object : slice_get w.graph.objects id ≡ Some o
  pub above : word_of at ≤ word_of byte
  pub below : word_of byte < word_of at + size_of o

module _ {F : Type 0} (layout : F → Layout) (past : Past) (h : HeapState F) (w : World) (parts : AreParts layout past h w) where
  of_objects : AllByRecursion (IsExtentOf w.graph.objects w.addresses) h.segs.blocks
  of_objects =
      subst (AllByRecursion (IsExtentOf w.graph.objects w.addresses)) (sym parts.image.runs.blocks)
      (all_in_order (IsExtentOf w.graph.objects w.addresses) (extents_of w.graph.objects w.addresses)
      (all_extents (IsExtentOf w.graph.objects w.addresses) w.graph.objects w.addresses
      (λ id at o e x. record { id = id; at = at; object = o; address = e; there = x; is = refl })))

  lies_at : (byte : ℕ) (id : Id) (at : Address) (o : Object) → IsByteOf w byte id at o
      → Lies w.graph.objects w.addresses id (word_of byte - word_of at) o (word_of byte)
  lies_at byte id at o is = record {
    at = at;
    address = is.address;
    object = is.object;
    within = let above = is.above in let below = is.below in omega (arith, above, below);
    is = let above = is.above in omega (arith, above);
  }

  -- a byte lies in one object alone
  pub byte_of_one : (byte : ℕ) (id other : Id) (at bt : Address) (o p : Object) → IsByteOf w byte id at o → IsByteOf w byte other bt p
      → id ≡ other
  byte_of_one byte id other at bt o p is also =
      parts.image.placed.apart id other (word_of byte - word_of at) (word_of byte - word_of bt) o p (word_of byte)
      (lies_at byte id at o is) (lies_at byte other bt p also)

  run_of_byte : (byte from : ℕ) → run_over h.segs.blocks (word_of byte) ≡ Some from
      → (id : Id) × (at : Address) × (o : Object) × IsByteOf w byte id at o × (word_of at ≡ from)
  run_of_byte byte from e =
      let f = run_found (IsExtentOf w.graph.objects w.addresses) h.segs.blocks (word_of byte) from of_objects e in
      let x = f.passes in
      let within = has_word-parts (extent x.at (size_of x.object)) (word_of byte)
      (subst (λ (r : Run). has_word r (word_of byte) ≡ true) x.is f.has) in (
        x.id,
        x.at,
        x.object,
        record { address = x.address; object = x.there; above = within.0; below = within.1 },
        ap (λ (r : Run). r.from) (sym x.is) ∙ f.begins,
      )

  begins_at : (id : Id) (at : Address) → entry_at w.addresses id ≡ Some at → address_of_word (word_of at) ≡ at
  begins_at id at e = let aligned = (parts.image.placed.address id at e).aligned in omega (arith, aligned)

  pub block_over_live : (byte : ℕ) (id : Id) (at : Address) (o : Object) → IsByteOf w byte id at o → block_over h.segs byte ≡ Some at
  block_over_live byte id at o is = of_run (run_over h.segs.blocks (word_of byte)) refl
    where
      of_run : (q : Option ℕ) → run_over h.segs.blocks (word_of byte) ≡ q → option_map (λ a. a.0) (option_map at_word q) ≡ Some at
      of_run None e =
          absurd (true≢false (sym (has_word-true (extent at (size_of o)) (word_of byte) is.above is.below)
          ∙ of_extents (λ r. has_word r (word_of byte) ≡ false) w.graph.objects w.addresses
          (all_from_in_order (λ r. has_word r (word_of byte) ≡ false) (extents_of w.graph.objects w.addresses)
          (subst (AllByRecursion (λ r. has_word r (word_of byte) ≡ false)) parts.image.runs.blocks
          (none_over h.segs.blocks (word_of byte) e))) id at o is.address is.object))
      of_run (Some from) e =
          let r = run_of_byte byte from e in
          let same = byte_of_one byte r.0 id r.1 at r.2 o r.3 is in
          let at_is : r.1 ≡ at = same_Some r.1 at (sym r.3.address ∙ ap (entry_at w.addresses) same ∙ is.address) in
          ap (λ (n : ℕ). Some (address_of_word n)) (sym r.4 ∙ ap word_of at_is) ∙ ap Some (begins_at id at is.address)

  pub block_over_found : (byte : ℕ) (at : Address) → block_over h.segs byte ≡ Some at → (id : Id) × (o : Object) × IsByteOf w byte id at o
  block_over_found byte at e = of_run (run_over h.segs.blocks (word_of byte)) refl e
    where
      of_run : (q : Option ℕ) → run_over h.segs.blocks (word_of byte) ≡ q → option_map (λ a. a.0) (option_map at_word q) ≡ Some at
          → (id : Id) × (o : Object) × IsByteOf w byte id at o
      of_run None f g = absurd (none-some at g)
      of_run (Some from) f g =
          let r = run_of_byte byte from f in
          let at_is : r.1 ≡ at =
          sym (begins_at r.0 r.1 r.3.address) ∙ ap address_of_word r.4 ∙ same_Some (address_of_word from) at g in
          (r.0, r.2, subst (λ x. IsByteOf w byte r.0 x r.2) at_is r.3)
