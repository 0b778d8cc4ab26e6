-- The object in which a word lies, as a heap at rest finds it by runs of blocks, and as the model does among all live objects.
--
-- word_in_object: `is_hold`, the heap's test, holds exactly where the model finds an object, and then both speak of one.
use Rattle.std.proofs.Common.{◌≡◌, ◌∙◌, ℕ, ◌+◌, ◌*◌, ◌<◌, ◌≤◌, Bool, true, false, refl, sym, ap, ap₂, subst, List, [], ◌∷◌, length, is_some, Option, Some, None, inl, inr, arith}
use Rattle.std.proofs.lemmas.Bool.{true≢false, false≢true, cases_Bool, and_parts, cond-true, cond-false, eqb-true, le-leb, leb-true, lt-ltb, ltb-true, false_from_ne_true}
use Rattle.std.proofs.lemmas.Option.{none-some, same_Some}
use Rattle.std.specs.Prelude.{◌==◌, ◌&&◌, ◌||◌, nat_le, nat_lt, not, find, if◌then◌else◌}
use Rattle.std.specs.Option.{option_map_or}
use Rattle.mps_base.specs.Address.{Address, Id, word_of}
use Rattle.mps_format.specs.Layout.{Layout}
use Rattle.mps_laws.proofs.Sound.Referred.{live_is_among}
use Rattle.mps_model.specs.Allocating.{allows_size}
use Rattle.mps_model.specs.Graph.{Body, Automatic, Manual, Object, contains, entry_at, is_automatic, is_automatic_body, size_of}
use Rattle.mps_model.specs.World as world
use Rattle.mps_model.specs.World.{World, block_of_word, is_automatic_kind, is_copying_kind, is_copying_object, is_live_and, is_weak_kind, is_word_in, lies_in, live_ids, object_is, words_of}
use Rattle.mps_model.specs.WellFormed.{are_right_cells, is_right_body}
use Rattle.mps_seg.specs.Collecting.{is_condemned_at, is_kept_at, is_white_at}
use Rattle.mps_heap_spec.specs.Areas.{block_over, is_hold, is_of_pool}
use Rattle.mps_heap_spec.specs.State.{HeapState}
use Rattle.mps_format.specs.Pools.{is_automatic_pool, is_copying_pool}
use Rattle.mps_format.specs.declared.pool.Pool.{Pool}
use Rattle.mps_format.specs.declared.pool.Pool.TheVariants as pool
use Rattle.mps_refinement.specs.StandsFor.{AreParts, IsPool, Past}
use Rattle.mps_refinement.proofs.Lookups.BlocksOver.{IsByteOf, block_over_found, block_over_live, byte_of_one}
use Rattle.mps_refinement.proofs.Worlds.Known.{IsKnown}
use Rattle.mps_refinement.proofs.Lookups.LiveObjects.{IsLiveBlock, live_block}
use Rattle.mps_abstract.specs.Colours.{is_white}

-- ---- pools

pub same_automatic : {F : Type 0} (layout : F → Layout) (formats : ℕ → Layout) (p : Pool F) (q : world.Pool) → IsPool layout formats p q
    → is_automatic_kind q.kind ≡ is_automatic_pool p
same_automatic layout formats (pool.Automatic kind format) q is = ap (λ (x : world.Pool). is_automatic_kind x.kind) is.0
same_automatic layout formats (pool.OneSize words) q is = ap (λ (x : world.Pool). is_automatic_kind x.kind) is
same_automatic layout formats pool.AnySize q (inl is) = ap (λ (x : world.Pool). is_automatic_kind x.kind) is
same_automatic layout formats pool.AnySize q (inr is) = ap (λ (x : world.Pool). is_automatic_kind x.kind) is

same_copying : {F : Type 0} (layout : F → Layout) (formats : ℕ → Layout) (p : Pool F) (q : world.Pool) → IsPool layout formats p q
    → is_copying_kind q.kind ≡ is_copying_pool p
same_copying layout formats (pool.Automatic kind format) q is = ap (λ (x : world.Pool). is_copying_kind x.kind) is.0
same_copying layout formats (pool.OneSize words) q is = ap (λ (x : world.Pool). is_copying_kind x.kind) is
same_copying layout formats pool.AnySize q (inl is) = ap (λ (x : world.Pool). is_copying_kind x.kind) is
same_copying layout formats pool.AnySize q (inr is) = ap (λ (x : world.Pool). is_copying_kind x.kind) is

not_true : (b : Bool) → not b ≡ true → b ≡ false
not_true true e = absurd (false≢true e)
not_true false e = refl

-- an object of a right body is automatic where its pool is
pub body_of_kind : (w : World) (q : world.Pool) (b : Body) → is_right_body w q b ≡ true → is_automatic_body b ≡ is_automatic_kind q.kind
body_of_kind w q (Automatic head cells is_weak) right =
    let first = (and_parts (is_automatic_kind q.kind && are_right_cells w q head cells) (not is_weak || is_weak_kind q.kind) right).0 in
    sym (and_parts (is_automatic_kind q.kind) (are_right_cells w q head cells) first).0
body_of_kind w q (Manual words) right =
    sym (not_true (is_automatic_kind q.kind)
    (and_parts (not (is_automatic_kind q.kind)) (allows_size q.kind (length words)) right).0)

-- ---- one that passes a test

found_one : (test : ℕ → Bool) (xs : List ℕ) (id : ℕ) → ((x : ℕ) → test x ≡ true → x ≡ id) → test id ≡ true → contains xs id ≡ true
    → find test xs ≡ Some id
found_one test [] id one passes among = absurd (false≢true among)
found_one test (x ∷ xs) id one passes among = elim (cases_Bool (test x)) [
  | inl is ↦ cond-true (test x) (Some x) (find test xs) is ∙ ap Some (one x is)
  | inr isnt ↦ cond-false (test x) (Some x) (find test xs) isnt ∙ found_one test xs id one passes (later isnt)
]
  where
    later : test x ≡ false → contains xs id ≡ true
    later isnt = of_test (x == id) refl among
      where
        of_test : (b : Bool) → (x == id) ≡ b → (b || contains xs id) ≡ true → contains xs id ≡ true
        of_test true same e = absurd (true≢false (sym passes ∙ ap test (sym (eqb-true x id same)) ∙ isnt))
        of_test false other e = e

found_none : (test : ℕ → Bool) (xs : List ℕ) → ((x : ℕ) → test x ≡ true → ⊥) → find test xs ≡ None
found_none test [] none = refl
found_none test (x ∷ xs) none =
    cond-false (test x) (Some x) (find test xs) (false_from_ne_true (test x) (none x)) ∙ found_none test xs none

-- ---- where a word lies

-- a word that lies in a block lies in its words
pub within_words : (copying : Bool) (at words word : ℕ) → at ≡ 8 * word_of at → 0 < words → is_word_in copying at words word ≡ true
    → (at ≤ word) × (word_of at ≤ word_of word) × (word_of word < word_of at + words)
within_words true at words word aligned some is =
    let parts = and_parts (nat_le at word) (nat_lt word (at + 8 * words)) is in
    let above = leb-true at word parts.0 in
    let below = ltb-true word (at + 8 * words) parts.1 in
    (above, omega (arith, above, aligned), omega (arith, below, aligned))
within_words false at words word aligned some is =
    let same = eqb-true word at is in (omega (arith, same), omega (arith, same), omega (arith, same, some))

-- in a block that moves by bytes, else at its address alone
pub is_in_block : (copying : Bool) (at words word : ℕ) → at ≡ 8 * word_of at → word_of at ≤ word_of word → word_of word < word_of at + words
    → is_word_in copying at words word ≡ (if copying then true else word == at)
is_in_block true at words word aligned above below =
    ap₂ (λ (a b : Bool). a && b) (le-leb at word (omega (arith, aligned, above)))
    (lt-ltb word (at + 8 * words) (omega (arith, aligned, below)))
is_in_block false at words word aligned above below = refl

module _ {F : Type 0} (layout : F → Layout) (past : Past) (h : HeapState F) (w : World) (parts : AreParts layout past h w)
    (known : IsKnown past.time w) where
  -- what is known of a live object
  module _ (id : Id) (at : Address) (o : Object) (there : entry_at w.addresses id ≡ Some at) (b : IsLiveBlock layout h w id at o) where
    automatic_is : object_is is_automatic w id ≡ is_automatic_pool b.pool
    automatic_is =
        ap (λ x. option_map_or is_automatic x false) b.object ∙ body_of_kind w b.models o.body b.right
        ∙ same_automatic layout w.formats b.pool b.models b.fit

    copying_is : is_copying_object w id ≡ is_copying_pool b.pool
    copying_is =
        ap (λ x. option_map_or (λ (q : Object). world.is_copying_pool w q.pool) x false) b.object
        ∙ ap (λ x. option_map_or (λ (q : world.Pool). is_copying_kind q.kind) x false) b.has
        ∙ same_copying layout w.formats b.pool b.models b.fit

    size_is : words_of w id ≡ size_of o
    size_is = ap (λ x. option_map_or size_of x 0) b.object

    aligned : at ≡ 8 * word_of at
    aligned = let a = b.address.aligned in omega (arith, a)

    -- the model's test of the object, by the heap's pool
    lies_is : (word : ℕ) → lies_in w word id ≡ (is_automatic_pool b.pool && is_word_in (is_copying_pool b.pool) at (size_of o) word)
    lies_is word =
        ap₂ (λ (x y : Bool). x && y) automatic_is
        (ap (λ x. option_map_or (λ a. is_word_in (is_copying_object w id) a (words_of w id) word) x false) there
        ∙ ap₂ (λ (c : Bool) (n : ℕ). is_word_in c at n word) copying_is size_is)

    -- a word that lies in the object lies in its words
    pub byte_of_lying : (word : ℕ) → lies_in w word id ≡ true → (at ≤ word) × IsByteOf w word id at o
    byte_of_lying word lies =
        let both = and_parts (is_automatic_pool b.pool) (is_word_in (is_copying_pool b.pool) at (size_of o) word)
        (sym (lies_is word) ∙ lies) in
        let within = within_words (is_copying_pool b.pool) at (size_of o) word aligned
        (parts.image.placed.positive id at o there b.object) both.1 in
        (within.0, record { address = there; object = b.object; above = within.1; below = within.2 })

    -- a word in its words lies in it where the heap says so
    pub lying_is : (word : ℕ) → IsByteOf w word id at o → lies_in w word id ≡ is_of_pool word at (Some b.pool)
    lying_is word byte =
        lies_is word ∙ ap (λ x. is_automatic_pool b.pool && x)
        (is_in_block (is_copying_pool b.pool) at (size_of o) word aligned byte.above byte.below)

    -- the marks say whether it is white
    white_is : is_white_at h.segs at ≡ is_white past.time.condemned past.time.colours id
    white_is =
        subst (λ x. is_condemned_at h.segs x && not (is_kept_at h.segs at) ≡ is_white past.time.condemned past.time.colours id)
        (sym aligned) (sym (parts.image.marks.white_there id at there))

  -- an object in which a word lies is live
  live_lying : (word id : ℕ) → lies_in w word id ≡ true → (at : Address) × (entry_at w.addresses id ≡ Some at)
  live_lying word id lies =
      of_entry (entry_at w.addresses id)
      (and_parts (object_is is_automatic w id) (is_live_and (λ at. is_word_in (is_copying_object w id) at (words_of w id) word) w id)
      lies).1
    where
      of_entry : (e : Option Address) → option_map_or (λ at. is_word_in (is_copying_object w id) at (words_of w id) word) e false ≡ true
          → (at : Address) × (e ≡ Some at)
      of_entry None is = absurd (false≢true is)
      of_entry (Some at) is = (at, refl)

  -- a byte of an object in which a word lies
  pub lying_byte : (word id : ℕ) → lies_in w word id ≡ true → (at : Address) × (o : Object) × (at ≤ word) × IsByteOf w word id at o
  lying_byte word id lies =
      let at = live_lying word id lies in
      let b = live_block layout past h w parts known id at.0 at.1 in
      let byte = byte_of_lying id at.0 b.0 at.1 b.1 word lies in
      (at.0, b.0, byte.0, byte.1)

  -- the heap and the model find one object, in which the word lies, and which is held if it isn't white, or neither does
  pub data FindsObject (word : ℕ) : Bool → Option Id → Type 0 where
    FindsOne : {id : Id} {white : Bool} (at : Address) → entry_at w.addresses id ≡ Some at → at ≤ word
        → is_white past.time.condemned past.time.colours id ≡ white → FindsObject word (not white) (Some id)
    FindsNone : FindsObject word false None

  none_found : (word : ℕ) → block_over h.segs word ≡ None → block_of_word w word ≡ None
  none_found word e =
      found_none (λ id. lies_in w word id) (live_ids w) (λ id lies.
      let x = lying_byte word id lies in
      none-some x.0 (sym e ∙ block_over_live layout past h w parts word id x.0 x.1 x.3))

  -- over a byte of an object
  module _ (word : ℕ) (id : Id) (at : Address) (o : Object) (byte : IsByteOf w word id at o) where
    found_is : block_of_word w word ≡ (if lies_in w word id then Some id else None)
    found_is = of_test (lies_in w word id) refl
      where
        one : (other : Id) → lies_in w word other ≡ true → other ≡ id
        one other lies =
            let x = lying_byte word other lies in byte_of_one layout past h w parts word other id x.0 at x.1 o x.3 byte

        of_test : (t : Bool) → lies_in w word id ≡ t → block_of_word w word ≡ (if t then Some id else None)
        of_test true lies =
            found_one (λ x. lies_in w word x) (live_ids w) id one lies
            (live_is_among w id (ap is_some byte.address))
        of_test false doesnt =
            found_none (λ x. lies_in w word x) (live_ids w) (λ x lies.
            true≢false (sym lies ∙ ap (lies_in w word) (one x lies) ∙ doesnt))

    abbrev white : Bool
    white = is_white past.time.condemned past.time.colours id

    hold_is : (b : IsLiveBlock layout h w id at o) → is_hold h word (Some at) ≡ (lies_in w word id && not white)
    hold_is b =
        ap₂ (λ (x y : Bool). x && not y) (ap (is_of_pool word at) b.pool_is ∙ sym (lying_is id at o byte.address b word byte))
        (white_is id at o byte.address b)

    finds : FindsObject word (is_hold h word (Some at)) (block_of_word w word)
    finds =
        let b = live_block layout past h w parts known id at byte.address in
        let same : b.0 ≡ o = same_Some b.0 o (sym b.1.object ∙ byte.object) in
        let block : IsLiveBlock layout h w id at o = subst (IsLiveBlock layout h w id at) same b.1 in
        subst (λ t. FindsObject word t (block_of_word w word)) (sym (hold_is block))
        (subst (FindsObject word (lies_in w word id && not white)) (sym found_is)
        (of_test block (lies_in w word id) refl))
      where
        of_test : IsLiveBlock layout h w id at o → (t : Bool) → lies_in w word id ≡ t → FindsObject word (t && not white)
            (if t then Some id else None)
        of_test b true lies = FindsOne at byte.address (byte_of_lying id at o byte.address b word lies).0 refl
        of_test b false doesnt = FindsNone

  pub word_in_object : (word : ℕ) → FindsObject word (is_hold h word (block_over h.segs word)) (block_of_word w word)
  word_in_object word = of_block (block_over h.segs word) refl
    where
      of_block : (o : Option Address) → block_over h.segs word ≡ o → FindsObject word (is_hold h word o) (block_of_word w word)
      of_block None e = subst (FindsObject word false) (sym (none_found word e)) FindsNone
      of_block (Some at) e =
          let x = block_over_found layout past h w parts word at e in finds word x.0 at x.1 x.2
