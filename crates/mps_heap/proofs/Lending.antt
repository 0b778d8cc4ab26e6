-- Words that were borrowed, of a manual block or of a leaf object, are the model's, and a heap in which others were left in those of
-- a block stands for the world after a store of each.
use Rattle.std.proofs.Common.{◌≡◌, ◌∙◌, ℕ, suc, ◌+◌, ◌*◌, ◌<◌, Bor, Result, refl, sym, ap, subst, Bool, true, false, List, [], ◌∷◌, drop, length, map, Option, Ok, Err, Contains, arith}
use Rattle.std.proofs.lemmas.List.{length-set}
use Rattle.std.specs.Option.{option_map_or}
use Rattle.std.specs.Prelude.{MatchResult, nat_le, not, slice_range, slice_set}
use Rattle.mps_base.specs.Address.{Address, word_of, bytes_of_word, max_block_words}
use Rattle.mps_base.specs.declared.names.Slot.{Slot}
use Rattle.mps_base.specs.declared.refusal.Refusal.{Refusal}
use Rattle.mps_base.specs.declared.refusal.Refusal.TheVariants as refusal
use Rattle.mps_format.specs.Layout.{Layout}
use Rattle.mps_laws.proofs.Reading.{bind_ok}
use Rattle.mps_laws.proofs.Same as same
use Rattle.mps_laws.proofs.WellFormedHistories.{step_grains}
use Rattle.mps_laws.proofs.Same.{Alike, Same, fits, same_err, same_then}
use Rattle.mps_model.specs.Allocating.{words_at}
use Rattle.mps_model.specs.Allocating as model
use Rattle.mps_model.specs.declared.call.Call.TheVariants as call
use Rattle.mps_model.specs.declared.reply.Reply.TheVariants as reply
use Rattle.mps_model.specs.Answer.{Replied}
use Rattle.mps_model.specs.History.{world_after, world_after_steps}
use Rattle.mps_model.specs.Checked.{Checked, Found, Numbered, ◌>>=◌, ◌>>◌, cells_of_body, refuse_when, required}
use Rattle.mps_model.specs.Graph.{Cell, NumberCell, Object}
use Rattle.mps_model.specs.World as world
use Rattle.mps_model.specs.World.{World, is_leaf_kind}
use Rattle.mps_heap_spec.specs.Coming.{answered, done, state_from}
use Rattle.mps_heap_spec.specs.Finding.{block_place_in, with_words}
use Rattle.mps_heap_spec.specs.declared.found.Block.{Block}
use Rattle.mps_heap_spec.specs.declared.found.Entry.{Entry}
use Rattle.mps_format.specs.declared.pool.Pool.{Pool}
use Rattle.mps_format.specs.declared.pool.Pool.TheVariants as pool
use Rattle.mps_heap_spec.specs.Manual.{block_in, is_block_over, word_in_block, word_stored}
use Rattle.mps_heap_spec.specs.Objects.{with_word}
use Rattle.mps_heap_spec.specs.State.{HeapState, pool_over}
use Rattle.mps_format.specs.Pools.{is_leaf_pool}
use Rattle.mps_refinement.specs.StandsFor.{StandsFor}
use Rattle.mps_refinement.specs.RightStep.{step_of}
use Rattle.mps_refinement.specs.StandsForSome.{StandsForSome, StandsWith}
use Rattle.mps_refinement.proofs.Lookups.BlockRuns.{run_is}
use Rattle.mps_refinement.proofs.Lookups.Blocks.{begins_at_object}
use Rattle.mps_refinement.proofs.Lookups.BlockWords.{store_is_right}
use Rattle.mps_refinement.proofs.Lookups.LeafCells.{leaf_numbers}
use Rattle.mps_refinement.proofs.Worlds.Known.{known_now}
use Rattle.mps_refinement.proofs.Worlds.Staying.{one_world}
use Rattle.mps_refinement.proofs.Lookups.LiveObjects.{IsObject, object_then}
use Rattle.mps_refinement.proofs.Lookups.Loans.{block_borrowed, fits_ours}
use Rattle.mps_refinement.specs.Storing.{AreRight, stores}
use Rattle.mps_refinement.proofs.Calls.LoanSteps.{block_loan_is_right, stored_is, stored_words}
use Rattle.mps_refinement.proofs.Lookups.Lookups.{place_same}
use Rattle.mps_refinement.proofs.Lookups.ManualBlocks.{block_same, block_words, setting}
use Rattle.mps_refinement.proofs.Lookups.PoolKinds.{kind_of, kinds_alike}
use Rattle.mps_heap_manual.specs.Lending.{AreBlockWords, IsBlockBorrowed, IsBlockWritten, IsLeafBorrowed, IsNoBlock, IsNoLeaf, leaf_named}
use Rattle.mps_heap.specs.Lending as spec
use Rattle.mps_heap.specs.Lending.{ComesTo, IsBorrowedAndWritten, IsNotBorrowed, cells_of_leaf, words_of_block}

-- what is made of the value of a check matters not to its refusals
told : {A B C : Type 0} {Fits : A → B → Type 0} {x : Checked A} {y : Checked B} (f : B → C) → Same Fits x y
    → Alike x (y >>= (λ b. Ok (f b)))
told f (fits fit) = fits tt
told f same.refused = same.refused

module _ {F : Type 0} (layout : F → Layout) (h : HeapState F) (place : Slot) where
  -- the block in a place, as what was found of it
  record IsBlockNamed (at : Address) : Type 0 where
    pub entry : Entry Address
    pub place_is : block_place_in h place ≡ Ok entry
    pub block_is : block_in h entry ≡ Ok at

  named : (words : List ℕ) (borrowed : IsBlockBorrowed h place words) → IsBlockNamed borrowed.at
  named words borrowed =
      let found = bind_ok (block_place_in h place) (λ (from : Entry Address). block_in h from) borrowed.at borrowed.named in
      record { entry = found.0; place_is = found.1; block_is = found.2 }

  -- ---- what is borrowed

  pub borrowed_is_right : (words : List ℕ) → IsBlockBorrowed h place words → ComesTo layout h (λ w. words_of_block w place) (Ok words)
  borrowed_is_right words borrowed w st =
      let n = named words borrowed in
      let b = block_borrowed layout h w st.past st.parts (known_now st) place n.entry borrowed.at n.place_is n.block_is in
      let count = b.one (length words) borrowed.are.whole in
      let image : words_at w.graph b.id ≡ words =
      block_words layout st.past h w st.parts (known_now st) borrowed.at b.id b.block
      ∙ sym b.words
      ∙ ap (λ k. slice_range h.segs.words (word_of borrowed.at) (word_of borrowed.at + k)) (sym count)
      ∙ sym borrowed.are.value in
      ap (λ r. r >>= (λ (from : Found (Option ℕ)). model.block_in from >>= (λ id. Ok (words_at w.graph id)))) b.place_is
      ∙ ap (λ o. required o refusal.NotABlock >>= (λ id. Ok (words_at w.graph id))) b.held
      ∙ ap Ok image

  pub no_block_is_right : (why : Refusal) → IsNoBlock h place why → ComesTo layout h (λ w. words_of_block w place) (Err why)
  no_block_is_right why none w st =
      same_err (λ a b. Unit {0}) (block_place_in h place >>= (λ (from : Entry Address). block_in h from)) (words_of_block w place) why
      (same_then (place_same layout st.past h w st.parts place) (λ entry found is.
      told (λ id. words_at w.graph id) (block_same layout st.past h w st.parts (known_now st) place.index entry found is.fit))) none

  -- ---- what is left

  pub written_is_right : (Leaves : List ℕ → List ℕ → Type 0) (after : HeapState F) → IsBlockWritten h place Leaves after
      → IsBorrowedAndWritten layout h place Leaves after
  written_is_right Leaves after wr =
      let n = named wr.words wr.borrowed in
      let first = word_of wr.borrowed.at in
      record {
        words = wr.words;
        left = wr.left;
        leaves = wr.leaves;
        are_stored = record {
          borrowed = borrowed_is_right wr.words wr.borrowed;
          count = wr.count;
          stored = λ w line st.
              subst (λ s. AreRight layout w (stores line place 0 wr.left) s) (sym wr.state)
              (block_loan_is_right layout line place wr.borrowed.at h n.entry wr.left n.place_is n.block_is
              (subst (λ k. Contains h.segs.blocks (record { from = first; count = k })) (sym wr.count) wr.borrowed.are.whole)
              w st);
        };
      }

-- ---- the heap goes on standing for some world

module _ {F : Type 0} (layout : F → Layout) (place : Slot) (at : Address) where
  -- a write of a word changes no other word's number
  same_words : (h : HeapState F) (n value k : ℕ) → word_in_block (with_word h n value) at k ≡ word_in_block h at k
  same_words h n value k =
      ap (λ long. refuse_when (nat_le max_block_words k) refusal.BadIndex >> (refuse_when (nat_le long (word_of at + k)) refusal.BadIndex
      >> (refuse_when (not (is_block_over h.segs (at + bytes_of_word * k) at)) refusal.BadIndex >> Ok (word_of at + k))))
      (length-set h.segs.words n value)

  stored_stands : (formats : ℕ → Layout) (h : HeapState F) (entry : Entry Address) (k : ℕ) (new : List ℕ)
      → block_place_in h place ≡ Ok entry
      → block_in h entry ≡ Ok at → ((i : ℕ) → i < length new → word_in_block h at (k + i) ≡ Ok (word_of at + (k + i)))
      → StandsWith layout h formats → StandsWith layout (with_words h (stored_words h.segs.words (word_of at + k) new)) formats
  stored_stands formats h entry k [] place_is block_is each s = s
  stored_stands formats h entry k (x ∷ xs) place_is block_is each s =
      let n = word_of at + k in
      let here : word_in_block h at k ≡ Ok n =
      subst (λ j. word_in_block h at j ≡ Ok (word_of at + j)) (let e : k + 0 ≡ k = omega arith in e) (each 0 (omega arith)) in
      let outcome : word_stored h place k x ≡ done (with_word h n x) =
      ap (λ r. r >>= (λ (into : Entry Address). block_in h into >>= (λ a. word_in_block h a k >>= (λ word. done
      (with_word h word x))))) place_is
      ∙ ap (λ r. r >>= (λ a. word_in_block h a k >>= (λ word. done (with_word h word x)))) block_is
      ∙ ap (λ r. r >>= (λ word. done (with_word h word x))) here in
      let first = store_is_right layout h place k x (Ok tt) (with_word h n x) (record {
        answer = ap (λ o. answered o) (sym outcome);
        state = ap (λ o. state_from h o) (sym outcome);
      }) s.world 0 s.stands in
      subst (λ m. StandsWith layout (with_words h (stored_words (slice_set h.segs.words n x) m xs)) formats)
      (let e : word_of at + (k + 1) ≡ word_of at + k + 1 = omega arith in e)
      (stored_stands formats (with_word h n x) entry (k + 1) xs place_is block_is (λ i low.
      same_words h n x (k + 1 + i)
      ∙ subst (λ j. word_in_block h at j ≡ Ok (word_of at + j)) (let e : k + suc i ≡ k + 1 + i = omega arith in e)
      (each (suc i) (omega (arith, low))))
      (record {
        world = world_after s.world (step_of 0 (call.Store place k x) [] (Replied reply.Ok));
        formats_are = first.formats ∙ s.formats_are;
        stands = first.stands;
      }))

module _ {F : Type 0} (layout : F → Layout) (h : HeapState F) (place : Slot) (Leaves : List ℕ → List ℕ → Type 0) (after : HeapState F)
    (wr : IsBlockWritten h place Leaves after) where
  written_stands : (formats : ℕ → Layout) → StandsWith layout h formats → StandsWith layout after formats
  written_stands formats s =
      let n = named layout h place wr.words wr.borrowed in
      let at = wr.borrowed.at in
      let st = s.stands in
      let b = block_borrowed layout h s.world st.past st.parts (known_now st) place n.entry at n.place_is n.block_is in
      let count = wr.count ∙ b.one (length wr.words) wr.borrowed.are.whole in
      let words =
      ap (λ n. stored_words h.segs.words n wr.left) (let e : word_of at + 0 ≡ word_of at = omega arith in e)
      ∙ stored_is h.segs.words (word_of at) wr.left (let within = b.within in omega (arith, within, count)) in
      subst (λ x. StandsWith layout x formats) (sym wr.state)
      (subst (λ ws. StandsWith layout (with_words h ws) formats) words
      (stored_stands layout place at formats h n.entry 0 wr.left n.place_is n.block_is (λ i low.
      subst (λ j. word_in_block h at j ≡ Ok (word_of at + j)) (let e : i ≡ 0 + i = omega arith in e)
      (b.each i (omega (arith, low, count)))) s))

  pub written_stays : StandsForSome layout h → StandsForSome layout after
  written_stays some = record {
    used = some.used;
    lawful = some.lawful;
    stands = λ formats are. written_stands formats (some.stands formats are);
  }

-- ---- leaf objects

-- a leaf pool in a heap and in the model
leaf_of_kind : {F : Type 0} (p : Pool F) → is_leaf_pool p ≡ is_leaf_kind (kind_of p)
leaf_of_kind (pool.Automatic kind format) = refl
leaf_of_kind (pool.OneSize words) = refl
leaf_of_kind pool.AnySize = refl

module _ {F : Type 0} (layout : F → Layout) (h : HeapState F) (w : World) (st : StandsFor layout h w) where
  -- what is known of an address: these are numbers, the words after the head of the block there
  abbrev AreAfterHead : Address → List Cell → Type 0
  AreAfterHead at found = (words : List ℕ) → AreBlockWords h at words → found ≡ map NumberCell (drop 1 words)

  module _ (b : Block F) (o : Numbered Object) (is : IsObject layout st.past h w b o) where
    -- both checks that the object is of a leaf pool, by what they find
    abbrev own_checks : (leaf over : Bool) → Checked Address
    own_checks leaf over = refuse_when (not leaf) refusal.WrongPool >> (refuse_when (not over) refusal.NullRef >> Ok b.at)

    abbrev checks : (leaf : Bool) → Checked (List Cell)
    checks leaf = refuse_when (not leaf) refusal.WrongPool >> Ok (drop 1 (cells_of_body o.value.body))

    leaf_is : option_map_or is_leaf_pool (pool_over h b.at) false ≡ spec.is_leaf_pool w o.value.pool
    leaf_is =
        ap (λ (x : Option (Pool F)). option_map_or is_leaf_pool x false) is.block.pool_is
        ∙ leaf_of_kind is.block.pool
        ∙ sym (kinds_alike is_leaf_kind refl layout w.formats is.block.pool is.block.models is.block.fit)
        ∙ sym (ap (λ (x : Option world.Pool). option_map_or (λ (p : world.Pool). is_leaf_kind p.kind) x false) is.block.has)

    over_is : is_block_over h.segs b.at b.at ≡ true
    over_is =
        let s = setting layout st.past h w st.parts (known_now st) in
        begins_at_object s w.addresses st.parts.image.placed h.segs st.parts.image.runs.blocks o.number b.at o.value is.address is.object

    -- its cells after the head, where its pool is a leaf pool
    cells_are : spec.is_leaf_pool w o.value.pool ≡ true → AreAfterHead b.at (drop 1 (cells_of_body o.value.body))
    cells_are leaf words are =
        let s = setting layout st.past h w st.parts (known_now st) in
        let parts = st.parts in
        leaf_numbers layout st.past h w parts b o is words
        (run_is s w.addresses parts.image.placed h.segs parts.image.runs.blocks o.number b.at o.value is.address is.object (length words)
        are.whole)
        are.value
        (sym (ap (λ (x : Option world.Pool). option_map_or (λ (p : world.Pool). is_leaf_kind p.kind) x false) is.block.has) ∙ leaf)

    of_leaf : (leaf : Bool) → spec.is_leaf_pool w o.value.pool ≡ leaf → Same AreAfterHead (own_checks leaf true) (checks leaf)
    of_leaf true is_leaf = fits (cells_are is_leaf)
    of_leaf false is_leaf = same.refused

    checks_same : Same AreAfterHead
        (own_checks (option_map_or is_leaf_pool (pool_over h b.at) false) (is_block_over h.segs b.at b.at))
        (checks (spec.is_leaf_pool w o.value.pool))
    checks_same =
        subst (λ leaf. Same AreAfterHead (own_checks leaf (is_block_over h.segs b.at b.at)) (checks (spec.is_leaf_pool w o.value.pool)))
        (sym leaf_is)
        (subst (λ over. Same AreAfterHead (own_checks (spec.is_leaf_pool w o.value.pool) over)
        (checks (spec.is_leaf_pool w o.value.pool))) (sym over_is) (of_leaf (spec.is_leaf_pool w o.value.pool) refl))

  leaf_same : (slot : Slot) → Same AreAfterHead (leaf_named layout h slot) (cells_of_leaf w slot)
  leaf_same slot = object_then layout st.past h w st.parts (known_now st) slot (λ b o is. checks_same b o is)

module _ {F : Type 0} (layout : F → Layout) (h : HeapState F) (slot : Slot) where
  pub leaf_is_right : (words : List ℕ) → IsLeafBorrowed layout h slot words
      → ComesTo layout h (λ w. cells_of_leaf w slot) (Ok (map NumberCell words))
  leaf_is_right words borrowed w st =
      let found = fits_ours (AreAfterHead layout h w st) (leaf_named layout h slot) (cells_of_leaf w slot) borrowed.at
      (leaf_same layout h w st slot) borrowed.named in
      found.comes ∙ ap Ok (found.fit borrowed.whole borrowed.are ∙ ap (map NumberCell) (sym borrowed.value))

  pub no_leaf_is_right : (why : Refusal) → IsNoLeaf layout h slot why → ComesTo layout h (λ w. cells_of_leaf w slot) (Err why)
  no_leaf_is_right why none w st =
      same_err (AreAfterHead layout h w st) (leaf_named layout h slot) (cells_of_leaf w slot) why (leaf_same layout h w st slot) none

  pub leaf_or_refused : (result : Result (Bor (List ℕ)) Refusal)
      → MatchResult result (λ words. IsLeafBorrowed layout h slot words.now) (λ why. IsNoLeaf layout h slot why)
      → MatchResult result (λ words. ComesTo layout h (λ w. cells_of_leaf w slot) (Ok (map NumberCell words.now)))
      (λ why. ComesTo layout h (λ w. cells_of_leaf w slot) (Err why))
  leaf_or_refused (Ok words) borrowed = leaf_is_right words.now borrowed
  leaf_or_refused (Err why) none = no_leaf_is_right why none

-- ---- by the result of a call

-- stores leave the arena its grains
grains_of_stores : (w : World) (line : ℕ) (place : Slot) (k : ℕ) (xs : List ℕ)
    → (world_after_steps w (stores line place k xs)).grains ≡ w.grains
grains_of_stores w line place k [] = refl
grains_of_stores w line place k (x ∷ xs) =
    let s = step_of line (call.Store place k x) [] (Replied reply.Ok) in
    grains_of_stores (world_after w s) line place (k + 1) xs ∙ step_grains line w s.call [] s.answer refl

module _ {F : Type 0} (layout : F → Layout) (h : HeapState F) (place : Slot) where
  pub borrowed_or_refused : (result : Result (Bor (List ℕ)) Refusal)
      → MatchResult result (λ words. IsBlockBorrowed h place words.now) (λ why. IsNoBlock h place why)
      → MatchResult result (λ words. ComesTo layout h (λ w. words_of_block w place) (Ok words.now))
      (λ why. ComesTo layout h (λ w. words_of_block w place) (Err why))
  borrowed_or_refused (Ok words) borrowed = borrowed_is_right layout h place words.now borrowed
  borrowed_or_refused (Err why) none = no_block_is_right layout h place why none

  pub written_or_refused : {R : Type 0} (Leaves : R → List ℕ → List ℕ → Type 0) (after : HeapState F) (result : Result R Refusal)
      → MatchResult result (λ r. IsBlockWritten h place (Leaves r) after) (λ why. IsNoBlock h place why × (after ≡ h))
      → MatchResult result (λ r. IsBorrowedAndWritten layout h place (Leaves r) after) (λ why. IsNotBorrowed layout h place why after)
  written_or_refused Leaves after (Ok r) written = written_is_right layout h place (Leaves r) after written
  written_or_refused Leaves after (Err why) none = record {
    no_block = no_block_is_right layout h place why none.0;
    unchanged = none.1;
  }

  pub written_or_refused_stays : {R : Type 0} (Leaves : R → List ℕ → List ℕ → Type 0) (after : HeapState F) (result : Result R Refusal)
      → MatchResult result (λ r. IsBlockWritten h place (Leaves r) after) (λ why. IsNoBlock h place why × (after ≡ h))
      → StandsForSome layout h → StandsForSome layout after
  written_or_refused_stays Leaves after (Ok r) written some = written_stays layout h place (Leaves r) after written some
  written_or_refused_stays Leaves after (Err why) none some = subst (StandsForSome layout) (sym none.1) some

  -- and its arena has as many grains
  pub written_or_refused_grains : {R : Type 0} (Leaves : R → List ℕ → List ℕ → Type 0) (after : HeapState F) (result : Result R Refusal)
      → MatchResult result (λ r. IsBlockWritten h place (Leaves r) after) (λ why. IsNoBlock h place why × (after ≡ h))
      → StandsForSome layout h → after.segs.grains ≡ h.segs.grains
  written_or_refused_grains Leaves after (Ok r) written some =
      let s = one_world layout h some in
      let b = written_is_right layout h place (Leaves r) after written in
      (b.are_stored.stored s.0 0 s.1).stands.parts.grains ∙ grains_of_stores s.0 0 place 0 b.left ∙ sym s.1.parts.grains
  written_or_refused_grains Leaves after (Err why) none some = ap (λ (x : HeapState F). x.segs.grains) none.1

  pub written_or_refused_keys : {R : Type 0} (Leaves : R → List ℕ → List ℕ → Type 0) (after : HeapState F) (result : Result R Refusal)
      → MatchResult result (λ r. IsBlockWritten h place (Leaves r) after) (λ why. IsNoBlock h place why × (after ≡ h))
      → after.names.keys ≡ h.names.keys
  written_or_refused_keys Leaves after (Ok r) written = ap (λ (x : HeapState F). x.names.keys) written.state
  written_or_refused_keys Leaves after (Err why) none = ap (λ (x : HeapState F). x.names.keys) none.1
