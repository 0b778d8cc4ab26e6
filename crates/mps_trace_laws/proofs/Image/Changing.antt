-- What a client's call changes of what the words stand for: each cell is as it was, or is new and fixed.
use Rattle.std.proofs.Common.{◌≡◌, ◌∙◌, ◌⊎◌, ℕ, ◌+◌, ◌<◌, refl, sym, ap, List, [], length, Option, Some, None, subst, inl, inr, slice_index}
use Rattle.std.specs.Prelude.{slice_get, drop, ◌≢◌, IsTrue}
use Rattle.mps_base.specs.Address.{Address, Id, Word, word_of}
use Rattle.mps_format.specs.Blocks.{BeginsForwarded}
use Rattle.mps_model.specs.Graph.{Cell, HeadCell, NumberCell, ReferenceCell, Object, Point, Reservation, entry_at, size_of, target_of_cell}
use Rattle.mps_model.specs.Checked.{head_of_body}
use Rattle.mps_model.specs.World.{PointMemory}
use Rattle.mps_abstract.specs.Colours.{Colours}
use Rattle.mps_trace_laws.specs.Image.Memory.{Setting, Lies, LiesReserved, all_cells}
use Rattle.mps_trace_laws.specs.Image.Image.{IsCellWord, IsForwardedObject, WordsStand, IsFixedWord, CellSet, FixedCellsStand}
use Rattle.mps_trace_laws.specs.Image.Changes.{setting_with}
use Rattle.mps_trace_laws.proofs.Image.Forwarded.{forwarded_still}
use Rattle.mps_trace_laws.proofs.Image.Written.{holds_still}

-- an object is where it was, if it was live
abbrev pub IsStillThere : (addresses addresses' : List (Option Address)) → Id → Type 0
IsStillThere addresses addresses' t = (at : Address) → entry_at addresses t ≡ Some at → entry_at addresses' t ≡ Some at

-- what is before a call and after it
pub record Change : Type 0 where
  pub before : Setting
  pub objects : List Object
  pub points : List (Option Point)
  pub memories : List PointMemory
  pub words : List ℕ
  pub words_after : List ℕ
  pub addresses : List (Option Address)
  pub addresses_after : List (Option Address)

abbrev pub after : Change → Setting
after x = setting_with x.before x.objects x.points x.memories

-- a word is that of a cell, as it was
pub record WasCell (x : Change) (done : CellSet) (id i : ℕ) (o : Object) (n : Word) (c : Cell) : Type 0 where
  pub was : Object
  pub lies : Lies x.before.objects x.addresses id i was n
  pub cell : slice_get (all_cells was.body) i ≡ Some c
  pub head : head_of_body was.body ≡ head_of_body o.body
  pub word : slice_index x.words_after n ≡ slice_index x.words n
  pub target : (t : Id) → target_of_cell c ≡ Some t → IsTrue (x.before.is_read id) ⊎ IsTrue (done id i)
      → IsStillThere x.addresses x.addresses_after t

-- and of a cell of a live reservation
pub record WasReserved (x : Change) (r : Reservation) (n : Word) (c : Cell) : Type 0 where
  pub point : ℕ
  pub i : ℕ
  pub was : Reservation
  pub lies : LiesReserved x.before.points x.before.point_memories point i was n
  pub cell : slice_get was.cells i ≡ Some c
  pub head : was.head ≡ r.head
  pub word : slice_index x.words_after n ≡ slice_index x.words n
  pub target : (t : Id) → target_of_cell c ≡ Some t → IsStillThere x.addresses x.addresses_after t

-- a block was forwarded, and where it was there is nothing new
pub record WasForwarded (x : Change) (id : Id) (from to : Address) (o : Object) : Type 0 where
  pub was : Object
  pub there : entry_at x.addresses id ≡ Some to
  pub object : slice_get x.before.objects id ≡ Some was
  pub pool : was.pool ≡ o.pool
  pub size : size_of was ≡ size_of o
  pub words : (q : ℕ) → q < size_of was → slice_index x.words_after (word_of from + q) ≡ slice_index x.words (word_of from + q)
  pub free : (q j l : ℕ) (p : Object) → q < size_of was → Lies x.objects x.addresses_after j l p (word_of from + q) → ⊥
  pub unreserved : (q point l : ℕ) (r : Reservation) → q < size_of was → LiesReserved x.points x.memories point l r (word_of from + q) → ⊥

-- what a call does to words
pub record CallChanges (x : Change) (k : Colours) (done : CellSet) : Type 0 where
  pub long : length x.words_after ≡ length x.words
  pub cells : (id i : ℕ) (o : Object) (n : Word) (c : Cell) → Lies x.objects x.addresses_after id i o n
      → slice_get (all_cells o.body) i ≡ Some c → WasCell x done id i o n c
      ⊎ IsFixedWord x.before.condemned x.addresses_after k (head_of_body o.body) c (slice_index x.words_after n)
  pub reserved : (point i : ℕ) (r : Reservation) (n : Word) (c : Cell) → LiesReserved x.points x.memories point i r n
      → slice_get r.cells i ≡ Some c → WasReserved x r n c
      ⊎ IsFixedWord x.before.condemned x.addresses_after k r.head c (slice_index x.words_after n)
  pub forwarded : (id : Id) (from to : Address) (o : Object) → entry_at x.before.at_flip id ≡ Some from
      → entry_at x.addresses_after id ≡ Some to → from ≢ to → slice_get x.objects id ≡ Some o → WasForwarded x id from to o

module _ (x : Change) (k : Colours) (done : CellSet) (changes : CallChanges x k done) where
  -- what a word of a cell means, if what it refers to is where it was
  meaning_kept : (at_flip : List (Option Address)) (head : ℕ) (c : Cell) (word : ℕ)
      → ((t : Id) → target_of_cell c ≡ Some t → IsStillThere x.addresses x.addresses_after t) → IsCellWord x.addresses at_flip head c word
      → IsCellWord x.addresses_after at_flip head c word
  meaning_kept at_flip head HeadCell word still h = h
  meaning_kept at_flip head (NumberCell number) word still h = h
  meaning_kept at_flip head (ReferenceCell None tag) word still h = h
  meaning_kept at_flip head (ReferenceCell (Some id) tag) word still h = record {
    address = h.address;
    is = h.is;
    means = elim h.means [
      | inl e ↦ inl (still id refl h.address e)
      | inr e ↦ inr e
    ];
  }

  forwarded_changed : (id : Id) (from to : Address) (o : Object) → WasForwarded x id from to o
      → IsForwardedObject x.before x.words x.addresses (o) from to → IsForwardedObject (after x) x.words_after x.addresses_after o from to
  forwarded_changed id from to o w f =
      let lower : (q : ℕ) → q < size_of o → q < size_of w.was = λ q lt. subst (λ y. q < y) (sym w.size) lt in
      let still =
      forwarded_still x.before x.words x.words_after x.addresses o from to changes.long (λ q lt. w.words q (lower q lt)) f
      in
      record {
        begins = still.begins;
        leads = still.leads;
        condemned = f.condemned;
        home = f.home;
        free = λ q j l p lt there. w.free q j l p (lower q lt) there;
        unreserved = λ q point l r lt there. w.unreserved q point l r (lower q lt) there;
      }

  -- a forwarded block of an object of this pool and size
  like : (words : List ℕ) (was o : Object) (from to : Address) → was.pool ≡ o.pool → size_of was ≡ size_of o
      → IsForwardedObject x.before words x.addresses was from to → IsForwardedObject x.before words x.addresses o from to
  like words was o from to pool size f =
      let lower : (q : ℕ) → q < size_of o → q < size_of was = λ q lt. subst (λ y. q < y) (sym size) lt in
      record {
        begins =
            subst (λ y. BeginsForwarded (x.before.layout y) (drop (word_of from) words) (size_of o)) pool
            (subst (λ y. BeginsForwarded (x.before.layout was.pool) (drop (word_of from) words) y) size f.begins);
        leads = f.leads;
        condemned = λ q lt. f.condemned q (lower q lt);
        home = λ q lt. f.home q (lower q lt) ∙ ap Some pool;
        free = λ q j l p lt there. f.free q j l p (lower q lt) there;
        unreserved = λ q point l r lt there. f.unreserved q point l r (lower q lt) there;
      }

  pub words_changed : WordsStand x.before x.words x.addresses → WordsStand (after x) x.words_after x.addresses_after
  words_changed w = record {
    long = changes.long ∙ w.long;
    cells = λ id i o n c read l cell. elim (changes.cells id i o n c l cell) [
      | inl y ↦
          meaning_kept x.before.at_flip (head_of_body o.body) c (slice_index x.words_after n) (λ t e. y.target t e (inl read))
          (subst (λ v. IsCellWord x.addresses x.before.at_flip (head_of_body o.body) c v) (sym y.word)
          (subst (λ h. IsCellWord x.addresses x.before.at_flip h c (slice_index x.words n)) y.head
          (w.cells id i y.was n c read y.lies y.cell)))
      | inr y ↦ holds_still x.addresses_after x.before.at_flip (head_of_body o.body) c (slice_index x.words_after n) y.holds
    ];
    forwarded = λ id from to o was now apart object.
        let y = changes.forwarded id from to o was now apart object in
        forwarded_changed id from to o y
        (like x.words y.was o from to y.pool y.size (w.forwarded id from to y.was was y.there apart y.object));
  }

  pub fixed_changed : FixedCellsStand x.before x.words x.addresses k done → FixedCellsStand (after x) x.words_after x.addresses_after k done
  fixed_changed f = record {
    cells = λ id i o n c d l cell. elim (changes.cells id i o n c l cell) [
      | inl y ↦
          let old =
          subst (λ v. IsFixedWord x.before.condemned x.addresses k (head_of_body o.body) c v) (sym y.word)
          (subst (λ h. IsFixedWord x.before.condemned x.addresses k h c (slice_index x.words n)) y.head
          (f.cells id i y.was n c d y.lies y.cell))
          in
          record {
            holds = meaning_kept [] (head_of_body o.body) c (slice_index x.words_after n) (λ t e. y.target t e (inr d)) old.holds;
            not_white = old.not_white;
          }
      | inr y ↦ y
    ];
    reserved = λ point i r n c l cell. elim (changes.reserved point i r n c l cell) [
      | inl y ↦
          let old =
          subst (λ v. IsFixedWord x.before.condemned x.addresses k r.head c v) (sym y.word)
          (subst (λ h. IsFixedWord x.before.condemned x.addresses k h c (slice_index x.words n)) y.head
          (f.reserved y.point y.i y.was n c y.lies y.cell))
          in
          record {
            holds = meaning_kept [] r.head c (slice_index x.words_after n) (λ t e. y.target t e) old.holds;
            not_white = old.not_white;
          }
      | inr y ↦ y
    ];
  }
