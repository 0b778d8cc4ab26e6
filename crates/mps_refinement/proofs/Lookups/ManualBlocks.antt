-- The manual block in a place of a table of blocks, against the model's, over the parts of a heap that stands for a world that is
-- reached.
--
-- block_same: the block in a place: its address and its id, and what it is (`IsBlock`).
-- word_same: word k of it: which word of the arena that is, and what it has (`IsWordOf`).
use Rattle.std.proofs.Common.{◌≡◌, ◌∙◌, ℕ, ◌+◌, ◌*◌, ◌<◌, ◌≤◌, Bool, true, false, refl, sym, ap, subst, List, [], length, Option, Some, None, Ok, Err, inl, inr, arith, slice_index}
use Rattle.std.proofs.lemmas.Bool.{false≢true, and_parts, cases_lt, ne_eqb, lt-leb, leb-true}
use Rattle.std.proofs.lemmas.Option.{none-some, slice_get-get_or, slice_get-map, slice_get_within}
use Rattle.std.specs.Prelude.{◌==◌, not, nat_le, slice_get, option_map}
use Rattle.std.specs.Option.{option_map_or}
use Rattle.mps_base.specs.Address.{Address, Id, Word, word_of, bytes_of_word, max_block_words}
use Rattle.mps_base.specs.declared.refusal.Refusal.TheVariants as refusal
use Rattle.mps_format.specs.Layout.{Layout}
use Rattle.mps_trace_laws.specs.Image.Image.{LieApart}
use Rattle.mps_trace_laws.specs.Image.Memory.{Setting, Lies, all_cells}
use Rattle.mps_trace_laws.proofs.Image.Shaped.{all_at}
use Rattle.mps_changes.proofs.OneMore.{parts_pass}
use Rattle.mps_laws.proofs.Lookups.{there_is}
use Rattle.mps_laws.proofs.Same.{Same, fits, refused}
use Rattle.mps_laws.proofs.Sound.SoundGraph.{All, PassesOrNull, all-at, entry-passes}
use Rattle.mps_model.proofs.Taking.{sized_where_allowed}
use Rattle.mps_model.specs.Allocating as model
use Rattle.mps_model.specs.Allocating.{words_at, allows_size}
use Rattle.mps_model.specs.Checked.{Checked, Found, ◌>>=◌, ◌>>◌, refuse_when, required, words_of_body}
use Rattle.mps_model.specs.Graph.{NumberCell, Body, Automatic, Manual, Object, entries, entry_at, ids_in_blocks, ids_in_caches, ids_in_places, is_automatic, is_automatic_body, size_of, size_of_body}
use Rattle.mps_model.specs.Making.{is_block_size}
use Rattle.mps_model.specs.World as world
use Rattle.mps_model.specs.World.{World, is_live, object_is, is_automatic_kind, pool_at}
use Rattle.mps_model.specs.WellFormed.{is_right_body, is_right_object}
use Rattle.mps_heap_spec.specs.declared.found.Entry.{Entry}
use Rattle.mps_heap_spec.specs.Manual.{block_in, is_block_over, word_in_block}
use Rattle.mps_heap_spec.specs.State.{HeapState}
use Rattle.mps_refinement.specs.StandsFor.{Past, AreParts, address_of_target, setting_at}
use Rattle.mps_refinement.proofs.Lookups.Blocks.{begins_at_object, within_block, past_block}
use Rattle.mps_refinement.proofs.Lookups.Found.{some_there}
use Rattle.mps_refinement.proofs.Worlds.Known.{IsKnown}
use Rattle.mps_refinement.proofs.Lookups.Lookups.{IsPlaceEntry}

-- what a right body of a manual object is
pub record IsRightManual (w : World) (q : world.Pool) (o : Object) : Type 0 where
  pub words : List ℕ
  pub body : o.body ≡ Manual words
  pub kind : is_automatic_kind q.kind ≡ false
  pub size : is_block_size (length words) ≡ true

right_manual : (w : World) (q : world.Pool) (o : Object) (b : Body) → o.body ≡ b → not (is_automatic_body b) ≡ true
    → is_right_body w q b ≡ true → IsRightManual w q o
right_manual w q o (Automatic head cells is_weak) e manual right = absurd (false≢true manual)
right_manual w q o (Manual words) e manual right =
    let both = and_parts (not (is_automatic_kind q.kind)) (allows_size q.kind (length words)) right in
    record {
      words = words;
      body = e;
      kind = negated (is_automatic_kind q.kind) both.0;
      size = sized_where_allowed q.kind (length words) both.1;
    }
  where
    negated : (b : Bool) → not b ≡ true → b ≡ false
    negated true h = absurd (false≢true h)
    negated false h = refl

-- what passes a test, where there is something
pub passes_there : {X : Type 0} (test : X → Bool) (o : Option X) → option_map_or test o false ≡ true → (x : X) × (o ≡ Some x) × (test x
    ≡ true)
passes_there test None e = absurd (false≢true e)
passes_there test (Some x) e = (x, refl, e)

none_past : {X : Type 0} (xs : List X) (k : ℕ) → slice_get xs k ≡ None → length xs ≤ k
none_past xs k e =
    elim (cases_lt k (length xs)) [
      | inl low ↦ let x = there_is xs k low in absurd (none-some x.0 (sym e ∙ x.1))
      | inr past ↦ past
    ]

-- a row that goes on with the value of a check, and one that checks alone
pub same_then_next : {A B C D : Type 0} {Fits : A → B → Type 0} {FitNext : C → D → Type 0} {x : Checked A} {y : Checked B}
    {f : A → Checked C} {v : Checked D} → Same Fits x y → ((a : A) (b : B) → Fits a b → Same FitNext (f a) v)
    → Same FitNext (x >>= f) (y >> v)
same_then_next (fits {a = a} {b = b} fit) next = next a b fit
same_then_next refused next = refused

-- a manual block at an address
pub record IsBlock (w : World) (at : Address) (id : Id) : Type 0 where
  pub address : entry_at w.addresses id ≡ Some at
  pub object : Object
  pub there : slice_get w.graph.objects id ≡ Some object
  pub pool : world.Pool
  pub of : pool_at w object.pool ≡ Some pool
  pub right : IsRightManual w pool object

-- word n of the arena is word k of a manual block
pub record IsWordOf (words block : List ℕ) (at : Address) (k : ℕ) (n : Word) (value : ℕ) : Type 0 where
  pub is : n ≡ word_of at + k
  pub low : k < length block
  pub has : slice_get block k ≡ Some value
  pub stored : slice_get words n ≡ Some value

module _ {F : Type 0} (layout : F → Layout) (past : Past) (h : HeapState F) (w : World) (parts : AreParts layout past h w)
    (known : IsKnown past.time w) where
  -- the setting for which the segments' words stand
  abbrev pub setting : Setting
  setting = setting_at past.time h.segs w

  abbrev pub placed : LieApart setting w.addresses
  placed = parts.image.placed

  -- ---- the block in a place

  pub block_is : (id : Id) → is_live w id ≡ true → object_is (λ o. not (is_automatic o)) w id ≡ true → (at : Address) × IsBlock w at id
  block_is id live manual =
      let at = some_there (entry_at w.addresses id) live in
      let o = passes_there (λ (x : Object). not (is_automatic x)) (slice_get w.graph.objects id) manual in
      let q = passes_there (λ (p : world.Pool). is_right_body w p o.0.body) (pool_at w o.0.pool)
      (all_at (is_right_object w) w.graph.objects id o.0 known.formed.objects o.1) in (
        at.0,
        record {
          address = at.1;
          object = o.0;
          there = o.1;
          pool = q.0;
          of = q.1;
          right = right_manual w q.0 o.0 o.0.body refl o.2 q.2;
        },
      )

  -- a block begins at its address
  abbrev block_at : Address → Checked Address
  block_at value =
      refuse_when (value == 0) refusal.NotABlock >> (refuse_when (not (is_block_over h.segs value value)) refusal.NotABlock >> Ok value)

  block_there : (at : Address) (id : Id) → IsBlock w at id → block_at at ≡ Ok at
  block_there at id b =
      let some : (at == 0) ≡ false = ne_eqb at 0 (λ e. let p = (placed.address id at b.address).not_null in omega (arith, e, p)) in
      let over : is_block_over h.segs at at ≡ true =
      begins_at_object setting w.addresses placed h.segs parts.image.runs.blocks id at b.object b.address b.there in
      ap (λ c. refuse_when c refusal.NotABlock >> (refuse_when (not (is_block_over h.segs at at)) refusal.NotABlock >> Ok at)) some
      ∙ ap (λ c. refuse_when (not c) refusal.NotABlock >> Ok at) over

  pub block_same : (index : ℕ) (entry : Entry Address) (found : Found (Option ℕ)) → IsPlaceEntry past h w index entry found
      → Same (IsBlock w) (block_in h entry) (model.block_in found)
  block_same index entry found is = of_value found.value refl is.value
    where
      of_value : (o : Option ℕ) → found.value ≡ o → entry.value ≡ address_of_target w.addresses o
          → Same (IsBlock w) (block_at entry.value) (required o refusal.NotABlock)
      of_value None e value = subst (λ v. Same (IsBlock w) (block_at v) (required None refusal.NotABlock)) (sym value) refused
      of_value (Some id) e value =
          let passes = λ (test : ℕ → Bool) (all : All test (ids_in_blocks w.graph)).
          subst (PassesOrNull test) e (entry-passes test found.list index found.value
          (all-at test entries w.graph.blocks found.number found.list
          (parts_pass test (ids_in_places w.graph) (ids_in_caches w.graph) all).0 is.has) is.there) in
          let b = block_is id (passes (is_live w) known.live.blocks)
          (passes (object_is (λ o. not (is_automatic o)) w) known.formed.blocks) in
          let address : entry.value ≡ b.0 = value ∙ ap (λ o. option_map_or (λ x. x) o 0) b.1.address in
          subst (λ v. Same (IsBlock w) (block_at v) (required (Some id) refusal.NotABlock)) (sym address)
          (subst (λ x. Same (IsBlock w) x (Ok id)) (sym (block_there b.0 id b.1)) (fits b.1))

  -- ---- its words

  module _ (at : Address) (id : Id) (b : IsBlock w at id) where
    pub block_words : words_at w.graph id ≡ b.right.words
    block_words = ap (λ o. option_map_or (λ (x : Object). words_of_body x.body) o []) b.there ∙ ap words_of_body b.right.body

    size_is : size_of b.object ≡ length b.right.words
    size_is = ap (λ body. size_of_body body) b.right.body

    few : length b.right.words ≤ max_block_words
    few = leb-true (length b.right.words) 65536
        (and_parts (nat_le 1 (length b.right.words)) (nat_le (length b.right.words) 65536) b.right.size).1

    pub lies : (k : ℕ) → k < length b.right.words → Lies w.graph.objects w.addresses id k b.object (word_of at + k)
    lies k low = record {
      at = at;
      address = b.address;
      object = b.there;
      within = let size = size_is in omega (arith, low, size);
      is = refl;
    }

    block_read : past.time.is_read id ≡ true
    block_read =
        known.manual id (ap (λ o. option_map_or (λ (x : Object). not (is_automatic x)) o false) b.there
        ∙ ap (λ body. not (is_automatic_body body)) b.right.body)

    -- the arena has the block's words
    pub word_stored_there : (k value : ℕ) → slice_get b.right.words k ≡ Some value → slice_get h.segs.words (word_of at + k) ≡ Some value
    word_stored_there k value e =
        let low = slice_get_within b.right.words k value e in
        let within = placed.within id k b.object (word_of at + k) (lies k low) in
        let long = parts.image.words.long in
        let word : slice_index h.segs.words (word_of at + k) ≡ value =
        parts.image.words.cells id k b.object (word_of at + k) (NumberCell value) block_read (lies k low)
        (ap (λ body. slice_get (all_cells body) k) b.right.body ∙ slice_get-map NumberCell b.right.words k ∙ ap
        (option_map NumberCell) e) in
        slice_get-get_or h.segs.words (word_of at + k) 0 (omega (arith, within, long)) ∙ ap Some word

    refused_past : (a c : Bool) (n : Word) → (refuse_when a refusal.BadIndex >> (refuse_when c refusal.BadIndex
        >> (refuse_when true refusal.BadIndex >> Ok n))) ≡ Err refusal.BadIndex
    refused_past true c n = refl
    refused_past false true n = refl
    refused_past false false n = refl

    abbrev row : (a c d : Bool) → (n : Word) → Checked Word
    row a c d n = refuse_when a refusal.BadIndex >> (refuse_when c refusal.BadIndex >> (refuse_when (not d) refusal.BadIndex >> Ok n))

    pub word_same : (k : ℕ)
        → Same (IsWordOf h.segs.words b.right.words at k) (word_in_block h at k) (required (slice_get
        (words_at w.graph id) k) refusal.BadIndex)
    word_same k =
        subst (λ ws. Same (IsWordOf h.segs.words b.right.words at k) (word_in_block h at k) (required (slice_get ws k) refusal.BadIndex))
        (sym block_words) (of_word (slice_get b.right.words k) refl)
      where
        of_word : (o : Option ℕ) → slice_get b.right.words k ≡ o
            → Same (IsWordOf h.segs.words b.right.words at k) (word_in_block h at k) (required o refusal.BadIndex)
        of_word (Some value) e =
            let low = slice_get_within b.right.words k value e in
            let most = few in
            let size = size_is in
            let within = placed.within id k b.object (word_of at + k) (lies k low) in
            let long = parts.image.words.long in
            let one : nat_le max_block_words k ≡ false = lt-leb max_block_words k (omega (arith, low, most)) in
            let two : nat_le (length h.segs.words) (word_of at + k) ≡ false =
            lt-leb (length h.segs.words) (word_of at + k) (omega (arith, within, long)) in
            let three = within_block setting w.addresses placed h.segs parts.image.runs.blocks id k at b.object b.address b.there
            (omega (arith, low, size)) in
            let ours : word_in_block h at k ≡ Ok (word_of at + k) =
            ap (λ a. row a (nat_le (length h.segs.words) (word_of at + k)) (is_block_over h.segs (at + bytes_of_word * k) at)
            (word_of at + k)) one
            ∙ ap (λ c. row false c (is_block_over h.segs (at + bytes_of_word * k) at) (word_of at + k)) two
            ∙ ap (λ d. row false false d (word_of at + k)) three in
            subst (λ x. Same (IsWordOf h.segs.words b.right.words at k) x (Ok value)) (sym ours)
            (fits (record { is = refl; low = low; has = e; stored = word_stored_there k value e }))
        of_word None e =
            let size = size_is in
            let past = none_past b.right.words k e in
            let three = past_block setting w.addresses placed h.segs parts.image.runs.blocks id k at b.object b.address b.there
            (omega (arith, past, size)) in
            let ours : word_in_block h at k ≡ Err refusal.BadIndex =
            ap (λ d. row (nat_le max_block_words k) (nat_le (length h.segs.words) (word_of at + k)) d (word_of at + k)) three
            ∙ refused_past (nat_le max_block_words k) (nat_le (length h.segs.words) (word_of at + k)) (word_of at + k) in
            subst (λ x. Same (IsWordOf h.segs.words b.right.words at k) x (Err refusal.BadIndex)) (sym ours) refused
