-- Words that are borrowed: those of the manual block in a place, and the cells of an object in a slot. The run of blocks that begins at its
-- address has the words of the model's block, and they are the arena's words there.
use Rattle.mps_refinement.proofs.Worlds.Known.{IsKnown}
use Rattle.std.proofs.Common.{◌≡◌, ◌∙◌, sym, ℕ, ◌+◌, ◌-◌, ◌<◌, ◌≤◌, refl, ap, subst, length, Option, Some, Ok, Contains, inl, inr, arith}
use Rattle.std.proofs.lemmas.Bool.{and_parts, cases_lt, leb-true}
use Rattle.std.proofs.lemmas.Option.{get_or_from_slice_get}
use Rattle.std.proofs.lemmas.List.{ext_get_or, get_or-drop, get_or-take, length-drop, length-take}
use Rattle.std.specs.Prelude.{drop, get_or, nat_le, slice_get, slice_range}
use Rattle.mps_base.specs.Address.{Address, Id, word_of}
use Rattle.mps_base.specs.declared.names.Slot.{Slot}
use Rattle.mps_base.specs.declared.refusal.Refusal.TheVariants as refusal
use Rattle.mps_format.specs.Layout.{Layout}
use Rattle.mps_laws.proofs.Acts.{required-is}
use Rattle.mps_laws.proofs.Same as same
use Rattle.mps_laws.proofs.Lookups.{there_is}
use Rattle.mps_laws.proofs.Same.{HasFit, Same, fits, same_ok}
use Rattle.mps_model.specs.Allocating as allocating
use Rattle.mps_model.specs.Allocating.{words_at}
use Rattle.mps_model.specs.Checked as model
use Rattle.mps_model.specs.Checked.{Checked, Found}
use Rattle.mps_model.specs.Graph.{size_of, size_of_body}
use Rattle.mps_model.specs.World.{World}
use Rattle.mps_heap_spec.specs.Finding.{block_place_in}
use Rattle.mps_heap_spec.specs.declared.found.Entry.{Entry}
use Rattle.mps_heap_spec.specs.Manual.{block_in, word_in_block}
use Rattle.mps_heap_spec.specs.State.{HeapState}
use Rattle.mps_refinement.specs.StandsFor.{AreParts, Past}
use Rattle.mps_refinement.proofs.Lookups.BlockRuns.{run_is, run_there}
use Rattle.mps_refinement.proofs.Lookups.Lookups.{IsPlaceFound, place_same}
use Rattle.mps_refinement.proofs.Lookups.ManualBlocks.{IsBlock, IsWordOf, block_same, block_words, lies, setting, word_same}

-- where our row comes to something, so does the model's, and they fit
pub record FitsOurs {A B : Type 0} (Fits : A → B → Type 0) (y : Checked B) (a : A) : Type 0 where
  pub value : B
  pub comes : y ≡ Ok value
  pub fit : Fits a value

pub fits_ours : {A B : Type 0} (Fits : A → B → Type 0) (x : Checked A) (y : Checked B) (a : A) → Same Fits x y → x ≡ Ok a
    → FitsOurs Fits y a
fits_ours Fits x y a (fits {a = own} {b = value} fit) e =
    let is : own ≡ a = cc in record { value = value; comes = refl; fit = subst (λ z. Fits z value) is fit }
fits_ours Fits x y a same.refused e = absurd cc

module _ {F : Type 0} (layout : F → Layout) (h : HeapState F) (w : World) (past : Past) (parts : AreParts layout past h w)
    (own : IsKnown past.time w) where
  -- ---- the words of a manual block

  pub record IsBlockBorrowed (place : Slot) (at : Address) : Type 0 where
    pub found : Found (Option ℕ)
    pub place_is : model.block_place_in w place ≡ Ok found
    pub id : Id
    pub held : found.value ≡ Some id
    pub block : IsBlock w at id
    -- its run has its words, and no other run begins there
    pub run : Contains h.segs.blocks (record { from = word_of at; count = length block.right.words })
    pub one : (n : ℕ) → Contains h.segs.blocks (record { from = word_of at; count = n }) → n ≡ length block.right.words
    -- and these are the arena's
    pub words : slice_range h.segs.words (word_of at) (word_of at + length block.right.words) ≡ block.right.words
    pub each : (k : ℕ) → k < length block.right.words → word_in_block h at k ≡ Ok (word_of at + k)
    pub within : word_of at + length block.right.words ≤ length h.segs.words

  pub block_borrowed : (place : Slot) (entry : Entry Address) (at : Address) → block_place_in h place ≡ Ok entry → block_in h entry ≡ Ok at
      → IsBlockBorrowed place at
  block_borrowed place entry at place_is block_is =
      let s = setting layout past h w parts own in
      let p = fits_ours (IsPlaceFound past h w place) (block_place_in h place) (model.block_place_in w place) entry
      (place_same layout past h w parts place) place_is in
      let b = fits_ours (IsBlock w) (block_in h entry) (allocating.block_in p.value) at
      (block_same layout past h w parts own place.index entry p.value p.fit.fit) block_is in
      let size : size_of b.fit.object ≡ length b.fit.right.words = ap size_of_body b.fit.right.body in
      record {
        found = p.value;
        place_is = p.comes;
        id = b.value;
        held = required-is p.value.value refusal.NotABlock b.value b.comes;
        block = b.fit;
        run = subst (λ n. Contains h.segs.blocks (record { from = word_of at; count = n })) size
            (run_there s w.addresses parts.image.placed h.segs parts.image.runs.blocks b.value at b.fit.object b.fit.address b.fit.there);
        one = λ n there.
            run_is s w.addresses parts.image.placed h.segs parts.image.runs.blocks b.value at b.fit.object b.fit.address b.fit.there n there
            ∙ size;
        words = words_are at b.value b.fit;
        each = λ k low. let word = word_there at b.value b.fit k low in word.1.comes ∙ ap Ok word.1.fit.is;
        within = all_within at b.value b.fit;
      }
    where
      -- word k of the block in the arena
      word_there : (a : Address) (id : Id) (x : IsBlock w a id) (k : ℕ) → k < length x.right.words
          → (value : ℕ) × HasFit (IsWordOf h.segs.words x.right.words a k) (word_in_block h a k) value
      word_there a id x k low =
          let value = there_is x.right.words k low in
          let model_is : model.required (slice_get (words_at w.graph id) k) refusal.BadIndex ≡ Ok value.0 =
          ap (λ ws. model.required (slice_get ws k) refusal.BadIndex) (block_words layout past h w parts own a id x)
          ∙ ap (λ o. model.required o refusal.BadIndex) value.1 in (
            value.0,
            same_ok (IsWordOf h.segs.words x.right.words a k) (word_in_block h a k)
                (model.required (slice_get (words_at w.graph id) k) refusal.BadIndex) value.0
                (word_same layout past h w parts own a id x k) model_is,
          )

      all_within : (a : Address) (id : Id) (x : IsBlock w a id) → word_of a + length x.right.words ≤ length h.segs.words
      all_within a id x =
          elim (cases_lt 0 (length x.right.words)) [
            | inl some ↦
                let last = length x.right.words - 1 in
                let l = lies layout past h w parts own a id x last (omega (arith, some)) in
                let low = parts.image.placed.within id last x.object (word_of a + last) l in
                let long = parts.image.words.long in
                omega (arith, low, long, some)
            | inr none ↦
                let sized = (and_parts (nat_le 1 (length x.right.words)) (nat_le (length x.right.words) 65536) x.right.size).0 in
                let some = leb-true 1 (length x.right.words) sized in
                absurd (omega (arith, none, some))
          ]

      -- and all of them
      words_are : (a : Address) (id : Id) (x : IsBlock w a id)
          → slice_range h.segs.words (word_of a) (word_of a + length x.right.words) ≡ x.right.words
      words_are a id x =
          let count = length x.right.words in
          let within = all_within a id x in
          let long : length (slice_range h.segs.words (word_of a) (word_of a + count)) ≡ count =
          length-take (word_of a + count - word_of a) (drop (word_of a) h.segs.words)
          ∙ omega (arith, within, length-drop (word_of a) h.segs.words) in
          ext_get_or 0 (slice_range h.segs.words (word_of a) (word_of a + count)) x.right.words long (λ i lt.
          let low : i < count = omega (arith, lt, long) in
          let word = word_there a id x i low in
          let fit = word.1.fit in
          get_or-take (word_of a + count - word_of a) (drop (word_of a) h.segs.words) i 0 (omega (arith, low))
          ∙ get_or-drop (word_of a) h.segs.words i 0
          ∙ ap (λ n. get_or h.segs.words n 0) (sym fit.is)
          ∙ get_or_from_slice_get h.segs.words word.1.value word.0 0 fit.stored
          ∙ sym (get_or_from_slice_get x.right.words i word.0 0 fit.has))
