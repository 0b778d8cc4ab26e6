-- The block over a byte: where the runs of blocks are those of live objects, which lie apart, it is the live object in which the byte
-- lies. So a block begins at the address of each live object, and its words are those below its size.
use Rattle.std.proofs.Common.{◌≡◌, ◌∙◌, ℕ, zero, suc, ◌+◌, ◌-◌, ◌*◌, ◌<◌, ◌≤◌, true, false, refl, sym, ap, subst, List, [], ◌∷◌, Option, Some, None, inl, inr, arith}
use Rattle.std.proofs.lemmas.Bool.{false≢true, cases_eq, eq-eqb, eqb-true, false_from_ne_true}
use Rattle.std.proofs.lemmas.Option.{none-some, same_Some}
use Rattle.std.specs.Prelude.{◌==◌, if◌then◌else◌, option_map, slice_get}
use Rattle.std.specs.List.{AllByRecursion}
use Rattle.std.specs.Option.{option_map_or}
use Rattle.mps_base.specs.Address.{Address, Id, Word, word_of, bytes_of_word}
use Rattle.mps_base.specs.Run.{Run, in_order}
use Rattle.mps_base.specs.declared.address.Addr.{Addr}
use Rattle.mps_extents.specs.Extents.{has_word, run_over}
use Rattle.mps_extents.proofs.ApartRuns.{has_word-parts, has_word-true}
use Rattle.mps_model.specs.Graph.{Object, entry_at, size_of}
use Rattle.mps_model.specs.World.{extent, extents_of}
use Rattle.mps_seg.specs.Segs.{SegsState, at_word}
use Rattle.mps_trace_laws.specs.Image.Memory.{Setting, Lies}
use Rattle.mps_trace_laws.specs.Image.Image.{LieApart}
use Rattle.mps_trace_laws.proofs.Image.Extents.{all_extents}
use Rattle.mps_trace_laws.proofs.Image.Marked.{begins_apart}
use Rattle.mps_laws.proofs.Positions.ApartRuns.{all_in_order, all_from_in_order}
use Rattle.mps_heap_spec.specs.Areas.{block_over}
use Rattle.mps_heap_spec.specs.Manual.{is_block_over}

-- ---- the run over a word

-- a run that has a word, of which a fact holds
pub record HasOver (P : Run → Type 0) (word start : ℕ) : Type 0 where
  pub run : Run
  pub has : has_word run word ≡ true
  pub begins : run.from ≡ start
  pub holds : P run

over_has : (P : Run → Type 0) (rs : List Run) (word start : ℕ) → AllByRecursion P rs → run_over rs word ≡ Some start
    → HasOver P word start
over_has P [] word start all e = absurd (none-some start e)
over_has P (r ∷ rs) word start all e =
    elim (has_word r word) as (λ b. has_word r word ≡ b → (if b then Some r.from else run_over rs word) ≡ Some start
    → HasOver P word start) [
      | true ↦ (λ is f. record { run = r; has = is; begins = same_Some r.from start f; holds = all.0 })
      | false ↦ (λ is f. over_has P rs word start all.1 f)
    ] refl e

none_over : (rs : List Run) (word : ℕ) → run_over rs word ≡ None → AllByRecursion (λ (r : Run). has_word r word ≡ false) rs
none_over [] word e = tt
none_over (r ∷ rs) word e =
    elim (has_word r word) as (λ b. has_word r word ≡ b → (if b then Some r.from else run_over rs word) ≡ None
    → (has_word r word ≡ false) × AllByRecursion (λ (x : Run). has_word x word ≡ false) rs) [
      | true ↦ (λ is f. absurd (none-some r.from (sym f)))
      | false ↦ (λ is f. (is, none_over rs word f))
    ] refl e

-- a fact of all extents is one of each live object's
each_extent : (P : Run → Type 0) (objects : List Object) (addresses : List (Option Address)) → AllByRecursion P
    (extents_of objects addresses)
    → (id : Id) (at : Address) (o : Object) → entry_at addresses id ≡ Some at → slice_get objects id ≡ Some o → P (extent at (size_of o))
each_extent P [] addresses all id at o e x = absurd (none-some o x)
each_extent P (q ∷ os) [] all id at o e x = absurd (none-some at e)
each_extent P (q ∷ os) (None ∷ ps) all zero at o e x = absurd (none-some at e)
each_extent P (q ∷ os) (None ∷ ps) all (suc id) at o e x = each_extent P os ps all id at o e x
each_extent P (q ∷ os) (Some p ∷ ps) all zero at o e x =
    subst (λ a. P (extent a (size_of o))) (same_Some p at e)
    (subst (λ (y : Object). P (extent p (size_of y))) (same_Some q o x) all.0)
each_extent P (q ∷ os) (Some p ∷ ps) all (suc id) at o e x = each_extent P os ps all.1 id at o e x

-- ---- the object over a word

-- a word lies in a live object whose words begin at this one
pub record IsInObject (objects : List Object) (addresses : List (Option Address)) (word start : ℕ) : Type 0 where
  pub id : Id
  pub k : ℕ
  pub object : Object
  pub lies : Lies objects addresses id k object word
  pub begins : start ≡ word_of lies.at

module _ (s : Setting) (addresses : List (Option Address)) (placed : LieApart s addresses) where
  abbrev runs : List Run
  runs = in_order (extents_of s.objects addresses)

  -- a word of an object's extent lies in it
  abbrev lies_in_extent : (id : Id) (at : Address) (o : Object) (word : Word) → entry_at addresses id ≡ Some at → slice_get s.objects id
      ≡ Some o
      → has_word (extent at (size_of o)) word ≡ true → Lies s.objects addresses id (word - word_of at) o word
  lies_in_extent id at o word there object has =
      let parts = has_word-parts (extent at (size_of o)) word has in
      record {
        at = at;
        address = there;
        object = object;
        within = omega (arith, parts.0, parts.1);
        is = omega (arith, parts.0);
      }

  -- where a run is over a word, the word lies in the object that begins there
  pub over_object : (word start : ℕ) → run_over runs word ≡ Some start → IsInObject s.objects addresses word start
  over_object word start e =
      let P : Run → Type 0 = λ r. has_word r word ≡ true → IsInObject s.objects addresses word r.from in
      let all = all_in_order P (extents_of s.objects addresses) (all_extents P s.objects addresses (λ id at o there object has. record {
        id = id;
        k = word - word_of at;
        object = o;
        lies = lies_in_extent id at o word there object has;
        begins = refl;
      })) in
      let found = over_has P runs word start all e in
      subst (IsInObject s.objects addresses word) found.begins (found.holds found.has)

  -- the address of an object in which a word lies
  one_address : (i j k l : ℕ) (o p : Object) (word : Word) (a : Lies s.objects addresses i k o word)
      → (b : Lies s.objects addresses j l p word) → a.at ≡ b.at
  one_address i j k l o p word a b =
      let one = placed.apart i j k l o p word a b in
      same_Some a.at b.at (sym a.address ∙ ap (entry_at addresses) one ∙ b.address)

  -- and over each word of an object is its run
  pub object_over : (id k : ℕ) (o : Object) (word : Word) (l : Lies s.objects addresses id k o word)
      → run_over runs word ≡ Some (word_of l.at)
  object_over id k o word l = by_case (run_over runs word) refl
    where
      by_case : (found : Option ℕ) → run_over runs word ≡ found → run_over runs word ≡ Some (word_of l.at)
      by_case None e =
          let none = all_from_in_order (λ (r : Run). has_word r word ≡ false) (extents_of s.objects addresses) (none_over runs word e) in
          let own = each_extent (λ (r : Run). has_word r word ≡ false) s.objects addresses none id l.at o l.address l.object in
          absurd (false≢true (sym own
          ∙ has_word-true (extent l.at (size_of o)) word (omega (arith, l.is)) (omega (arith, l.is, l.within))))
      by_case (Some start) e =
          let found = over_object word start e in
          e ∙ ap Some (found.begins ∙ ap (λ (a : Address). word_of a) (one_address found.id id found.k k found.object o word found.lies l))

  -- ---- blocks of segments

  pub same_address : (i j : Id) (at : Address) → entry_at addresses i ≡ Some at → entry_at addresses j ≡ Some at → i ≡ j
  same_address i j at e f =
      elim (cases_eq i j) [
        | inl same ↦ same
        | inr other ↦ absurd (begins_apart s addresses placed i j at at e f other refl)
      ]

  module _ (g : SegsState) (blocks : g.blocks ≡ runs) where
    -- the address of the word at which the object of an address begins
    begins_at : (id : Id) (at : Address) → entry_at addresses id ≡ Some at → (at_word (word_of at)).0 ≡ at
    begins_at id at there =
        let aligned = (placed.address id at there).aligned in omega (arith, aligned)

    -- the block over a byte is the object in which it lies
    pub block_over_object : (byte id k : ℕ) (o : Object) (l : Lies s.objects addresses id k o (word_of byte)) → block_over g byte
        ≡ Some l.at
    block_over_object byte id k o l =
        ap (λ rs. option_map (λ (a : Addr). a.0) (option_map at_word (run_over rs (word_of byte)))) blocks
        ∙ ap (λ found. option_map (λ (a : Addr). a.0) (option_map at_word found)) (object_over id k o (word_of byte) l)
        ∙ ap Some (begins_at id l.at l.address)

    -- and where one is, the byte lies in an object
    pub block_over_is : (byte : ℕ) (at : Address) → block_over g byte ≡ Some at
        → (found : IsInObject s.objects addresses (word_of byte) (word_of at)) × (found.lies.at ≡ at)
    block_over_is byte at e =
        by_case (run_over runs (word_of byte)) refl
        (sym (ap (λ rs. option_map (λ (a : Addr). a.0) (option_map at_word (run_over rs (word_of byte)))) blocks) ∙ e)
      where
        by_case : (found : Option ℕ) → run_over runs (word_of byte) ≡ found
            → option_map (λ (a : Addr). a.0) (option_map at_word found) ≡ Some at
            → (found : IsInObject s.objects addresses (word_of byte) (word_of at)) × (found.lies.at ≡ at)
        by_case None f h = absurd (none-some at h)
        by_case (Some start) f h =
            let address : 8 * start ≡ at = same_Some (8 * start) at h in
            let own : start ≡ word_of at = omega (arith, address) in
            let found = over_object (word_of byte) start f in
            let its = begins_at found.id found.lies.at found.lies.address in
            let same : found.lies.at ≡ at = let b = found.begins in omega (arith, its, b, address) in
            (subst (IsInObject s.objects addresses (word_of byte)) own found, kept own found same)
          where
            kept : {start other : ℕ} (e : start ≡ other) (x : IsInObject s.objects addresses (word_of byte) start) → x.lies.at ≡ at
                → (subst (IsInObject s.objects addresses (word_of byte)) e x).lies.at ≡ at
            kept refl x h = h

    -- whether a block that begins at an address is over a byte
    pub begins_there_is : (byte : ℕ) (at : Address) → is_block_over g byte at ≡ true → block_over g byte ≡ Some at
    begins_there_is byte at e = by_case (block_over g byte) refl e
      where
        by_case : (found : Option Address) → block_over g byte ≡ found → option_map_or (λ from. from == at) found false ≡ true
            → block_over g byte ≡ Some at
        by_case None f h = absurd (false≢true h)
        by_case (Some from) f h = f ∙ ap Some (eqb-true from at h)

    pub begins_over : (byte id k : ℕ) (o : Object) (at : Address) (l : Lies s.objects addresses id k o (word_of byte)) → l.at ≡ at
        → is_block_over g byte at ≡ true
    begins_over byte id k o at l same =
        ap (λ found. option_map_or (λ from. from == at) found false) (block_over_object byte id k o l) ∙ eq-eqb l.at at same

    -- word k of the object at an address is a word of its block exactly where k is below its size
    pub within_block : (id k : ℕ) (at : Address) (o : Object) → entry_at addresses id ≡ Some at → slice_get s.objects id ≡ Some o
        → k < size_of o → is_block_over g (at + bytes_of_word * k) at ≡ true
    within_block id k at o there object low =
        let word : word_of (at + bytes_of_word * k) ≡ word_of at + k = omega arith in
        begins_over (at + bytes_of_word * k) id k o at (record { at = at; address = there; object = object; within = low; is = word }) refl

    pub past_block : (id k : ℕ) (at : Address) (o : Object) → entry_at addresses id ≡ Some at → slice_get s.objects id ≡ Some o
        → size_of o ≤ k → is_block_over g (at + bytes_of_word * k) at ≡ false
    past_block id k at o there object past =
        false_from_ne_true (is_block_over g (at + bytes_of_word * k) at) (λ is.
        let found = block_over_is (at + bytes_of_word * k) at (begins_there_is (at + bytes_of_word * k) at is) in
        let l = found.0.lies in
        let one = same_address found.0.id id at (l.address ∙ ap Some found.1) there in
        let same : found.0.object ≡ o = same_Some found.0.object o (sym l.object ∙ ap (slice_get s.objects) one ∙ object) in
        let size : size_of found.0.object ≡ size_of o = ap (λ (x : Object). size_of x) same in
        let begins : word_of l.at ≡ word_of at = ap (λ (a : Address). word_of a) found.1 in
        omega (arith, past, l.is, l.within, size, begins))

    -- a block begins at the address of each live object, and at no other
    pub begins_at_object : (id : Id) (at : Address) (o : Object) → entry_at addresses id ≡ Some at → slice_get s.objects id ≡ Some o
        → is_block_over g at at ≡ true
    begins_at_object id at o there object =
        begins_over at id 0 o at (record {
          at = at;
          address = there;
          object = object;
          within = placed.positive id at o there object;
          is = omega arith;
        }) refl

    pub object_begins : (at : Address) → is_block_over g at at ≡ true → (id : Id) × (entry_at addresses id ≡ Some at)
    object_begins at is =
        let found = block_over_is at at (begins_there_is at at is) in
        (found.0.id, found.0.lies.address ∙ ap Some found.1)
