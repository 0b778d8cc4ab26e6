-- The block that stands in a place goes to a cache.
use Rattle.std.proofs.Common.{◌≡◌, ◌∙◌, ℕ, Bool, true, false, refl, sym, ap, subst, Contains, Ok, Err}
use Rattle.std.specs.Prelude.{◌==◌, not}
use Rattle.mps_base.specs.Address.{Address, word_of}
use Rattle.mps_base.specs.Trail.{Moves}
use Rattle.mps_base.specs.declared.names.Name.{Name}
use Rattle.mps_base.specs.declared.names.Slot.{Slot}
use Rattle.mps_base.specs.declared.refusal.Refusal.{Refusal}
use Rattle.mps_base.specs.declared.refusal.Refusal.TheVariants as refusal
use Rattle.mps_model.specs.Checked.{Checked, ◌>>=◌, ◌>>◌, refuse_when}
use Rattle.mps_heap_spec.specs.Caching.{IsCacheFree, block_to_cache, cache_named, kept_from}
use Rattle.mps_heap_spec.specs.Coming.{ComesMoving, Moved}
use Rattle.mps_heap_spec.specs.Finding.{block_place_in}
use Rattle.mps_heap_spec.specs.Manual.{block_in, is_block_over}
use Rattle.mps_heap_spec.specs.State.{HeapState}
use Rattle.mps_heap_spec.specs.declared.found.Entry.{Entry}
use Rattle.mps_heap_spec.specs.declared.found.Kept.{Kept}
use Rattle.mps_heap_spec.proofs.Beginning.{begins_block}

abbrev value_or : {A : Type 0} → Checked A → A → A
value_or (Ok a) otherwise = a
value_or (Err why) otherwise = otherwise

same_Ok : {A : Type 0} (a b : A) → (let r : Checked A = Ok a in r) ≡ Ok b → a ≡ b
same_Ok a b e = ap (λ r. value_or r a) e

module _ {F : Type 0} (h : HeapState F) (place : Slot) where
  -- the block in the place has n words
  abbrev HasWords : ℕ → Type 0
  HasWords words = (from : Entry Address) (at : Address) → block_place_in h place ≡ Ok from → block_in h from ≡ Ok at
      → Contains h.segs.blocks (record { from = word_of at; count = words })

  -- a block begins at the address that was found
  begins : (from : Entry Address) (at : Address) → block_in h from ≡ Ok at → is_block_over h.segs at at ≡ true
  begins from at is = by (from.value == 0) (is_block_over h.segs from.value from.value) refl is
    where
      by : (zero over : Bool) → is_block_over h.segs from.value from.value ≡ over
          → (refuse_when zero refusal.NotABlock >> (refuse_when (not over) refusal.NotABlock >> Ok from.value)) ≡ Ok at
          → is_block_over h.segs at at ≡ true
      by true over e never = absurd cc
      by false false e never = absurd cc
      by false true e same = subst (λ n. is_block_over h.segs n n ≡ true) (same_Ok from.value at same) e

  -- so it has a number of words, whatever the call comes to
  pub words_there : (words : ℕ) × HasWords words
  words_there = by (block_place_in h place) refl
    where
      of_block : (from : Entry Address) (b : Checked Address) → block_place_in h place ≡ Ok from → block_in h from ≡ b
          → (words : ℕ) × HasWords words
      of_block from (Err why) e f = (0, λ other at g k. absurd cc)
      of_block from (Ok at) e f =
          let there = begins_block h.segs at (begins from at f) in (
            there.0,
            λ other to g k.
                let same : from ≡ other = same_Ok from other (sym e ∙ g) in
                subst (λ n. Contains h.segs.blocks (record { from = word_of n; count = there.0 }))
                (same_Ok at to (sym f ∙ ap (block_in h) same ∙ k)) there.1,
          )

      by : (p : Checked (Entry Address)) → block_place_in h place ≡ p → (words : ℕ) × HasWords words
      by (Err why) e = (0, λ from at g k. absurd cc)
      by (Ok from) e = of_block from (block_in h from) e refl

-- ---- the call, step by step

module _ {F : Type 0} (h : HeapState F) (trail : Moves) (cache : Name) (place : Slot) where
  abbrev Comes : Type 0
  Comes = Checked (Moved F (Unit {0}))

  abbrev from_block : (words : ℕ) → Kept ℕ → Entry Address → Checked Address → Comes
  from_block words into from block = block >>= (λ (at : Address). kept_from h trail into words from at)

  abbrev from_place : (words : ℕ) → Kept ℕ → Checked (Entry Address) → Comes
  from_place words into found = found >>= (λ (from : Entry Address). from_block words into from (block_in h from))

  abbrev from_cache : (words : ℕ) → Checked (Kept ℕ) → Comes
  from_cache words found = found >>= (λ (into : Kept ℕ). from_place words into (block_place_in h place))

  -- a call that is refused, however many words the block has
  is_refused : (why : Refusal) → ((words : ℕ) → block_to_cache h trail cache place words ≡ Err why)
      → IsCacheFree h trail cache place (Err why) h trail
  is_refused why is =
      let there = words_there h place in
      record {
        words = there.0;
        block = there.1;
        comes = subst (λ (o : Comes). ComesMoving h trail o (Err why) h trail) (sym (is there.0))
            (record { answer = refl; state = refl; moves = refl });
      }

  pub no_cache : (why : Refusal) → Err why ≡ cache_named h cache → IsCacheFree h trail cache place (Err why) h trail
  no_cache why q = is_refused why (λ words. ap (from_cache words) (sym q))

  module _ (into : Kept ℕ) (q : Ok into ≡ cache_named h cache) where
    pub no_place : (why : Refusal) → Err why ≡ block_place_in h place → IsCacheFree h trail cache place (Err why) h trail
    no_place why p = is_refused why (λ words. ap (from_cache words) (sym q) ∙ ap (from_place words into) (sym p))

    module _ (from : Entry Address) (p : Ok from ≡ block_place_in h place) where
      pub no_block : (why : Refusal) → Err why ≡ block_in h from → IsCacheFree h trail cache place (Err why) h trail
      no_block why b =
          is_refused why (λ words.
          ap (from_cache words) (sym q) ∙ ap (from_place words into) (sym p) ∙ ap (from_block words into from) (sym b))

      -- the block that was found is kept or freed
      pub is_kept : (at : Address) → Ok at ≡ block_in h from → (words : ℕ)
          → Contains h.segs.blocks (record { from = word_of at; count = words }) → (result : Checked (Unit {0}))
          → (after : HeapState F) (trail_after : Moves)
          → ComesMoving h trail (kept_from h trail into words from at) result after trail_after
          → IsCacheFree h trail cache place result after trail_after
      is_kept at b words there result after trail_after comes = record {
        words = words;
        block = λ other to g k.
            let same : from ≡ other = same_Ok from other (p ∙ g) in
            subst (λ n. Contains h.segs.blocks (record { from = word_of n; count = words }))
            (same_Ok at to (b ∙ ap (block_in h) same ∙ k)) there;
        comes = subst (λ (o : Comes). ComesMoving h trail o result after trail_after)
            (sym (ap (from_cache words) (sym q) ∙ ap (from_place words into) (sym p) ∙ ap (from_block words into from) (sym b))) comes;
      }
