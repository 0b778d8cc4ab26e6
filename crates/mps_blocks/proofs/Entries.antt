-- The map that is kept, beside the blocks that it stands for.
use Rattle.std.proofs.Common.{◌≡◌, ℕ, ◌<◌, ◌≤◌, Bool, true, false, cond, eqb, ltb, List, [], ◌∷◌, Option, Some, None, Result, Ok, Err, refl, sym, ap, ◌∙◌, arith}
use Rattle.std.specs.Prelude.{is_some}
use Rattle.std.specs.Option.{option_map}
use Rattle.std.proofs.lemmas.Bool.{eqb-true, eq-eqb, le-ltb, lt-ltb}
use Rattle.mps_model.specs.Replay.{Block, Store, block_at, is_live, with_block, without_block, after_making, after_moving, after_touching, after_freeing}
use Rattle.mps_address_map.specs.AddressMap.{found_at, Changes}
use Rattle.mps_blocks.specs.declared.replay.Extent.{Extent}
use Rattle.mps_blocks.specs.Entries.{block_of, store_of}
use Rattle.mps_blocks.specs.declared.replay.ReplayFault.{ReplayFault}
use Rattle.mps_blocks.specs.declared.replay.ReplayFault.TheVariants as fault
use Rattle.mps_model.specs.Replayed.{State, after_labelling}
use Rattle.mps_blocks.specs.Replaying.{Gives}
use Rattle.mps_blocks.proofs.Ascending.{Ascends, ascends_with, ascends_without}
use Rattle.mps_blocks.proofs.Stores.{at_with, at_without, same_store}

abbrev pub Entries : Type 0
Entries = List (ℕ × Extent)

-- the block of an entry that was found at an address
abbrev pub shown : ℕ → Option Extent → Option Block
shown at found = option_map (λ (x : Extent). block_of (at, x)) found

pub eqb-sym : (a b : ℕ) → eqb a b ≡ eqb b a
eqb-sym a b = grind arith

-- ---- looking up

gone : (s : Store) (at : ℕ) → Ascends s → block_at (without_block s at) at ≡ None
gone s at h = at_without s at at h ∙ ap (λ (c : Bool). cond c None (block_at s at)) (eq-eqb at at refl)

pub ascends-store : (es : Entries) → Ascends (store_of es)
ascends-store [] = tt
ascends-store (e ∷ es) =
    let h = ascends-store es in
    ascends_with (block_of e) (without_block (store_of es) e.0) (gone (store_of es) e.0 h) (ascends_without (store_of es) e.0 h)

replaced : (c : Bool) (key at : ℕ) (x : Extent) (found : Option Extent) → (c ≡ true → key ≡ at)
    → cond c (Some (block_of (key, x))) (cond c None (shown at found)) ≡ shown at (cond c (Some x) found)
replaced true key at x found same = ap (λ (k : ℕ). Some (block_of (k, x))) (same refl)
replaced false key at x found same = refl

pub block_at-store : (es : Entries) (at : ℕ) → block_at (store_of es) at ≡ shown at (found_at es at)
block_at-store [] at = refl
block_at-store (e ∷ es) at =
    let s = store_of es in
    let h = ascends-store es in
    let rest : block_at (without_block s e.0) at ≡ cond (eqb e.0 at) None (shown at (found_at es at)) =
    at_without s e.0 at h ∙ ap (λ (o : Option Block). cond (eqb e.0 at) None o) (block_at-store es at) in
    at_with (block_of e) (without_block s e.0) at (gone s e.0 h)
    ∙ ap (λ (o : Option Block). cond (eqb e.0 at) (Some (block_of e)) o) rest
    ∙ replaced (eqb e.0 at) e.0 at e.1 (found_at es at) (eqb-true e.0 at)
    ∙ ap (λ (c : Bool). shown at (cond c (Some e.1) (found_at es at))) (eqb-sym e.0 at)

is_some-mapped : (at : ℕ) (q : Option Extent) → is_some (shown at q) ≡ is_some q
is_some-mapped at None = refl
is_some-mapped at (Some x) = refl

pub is_live-store : (es : Entries) (at : ℕ) → is_live (store_of es) at ≡ is_some (found_at es at)
is_live-store es at = ap is_some (block_at-store es at) ∙ is_some-mapped at (found_at es at)

-- ---- taking out

taken : (c : Bool) (at : ℕ) (found : Option Extent) → cond c None (shown at found) ≡ shown at (cond c None found)
taken true at found = refl
taken false at found = refl

pub dropped : (es new : Entries) (at : ℕ) → Changes es new at None → without_block (store_of es) at ≡ store_of new
dropped es new at change =
    let h = ascends-store es in
    same_store (without_block (store_of es) at) (store_of new) (ascends_without (store_of es) at h) (ascends-store new)
    (λ q.
    at_without (store_of es) at q h
    ∙ ap (λ (o : Option Block). cond (eqb at q) None o) (block_at-store es q)
    ∙ taken (eqb at q) q (found_at es q)
    ∙ ap (shown q) (sym (change q))
    ∙ sym (block_at-store new q))

-- ---- putting in

pushed : (c : Bool) (key at : ℕ) (x : Extent) (found : Option Extent) → (c ≡ true → key ≡ at)
    → cond c (Some (block_of (key, x))) (shown at found) ≡ shown at (cond c (Some x) found)
pushed true key at x found same = ap (λ (k : ℕ). Some (block_of (k, x))) (same refl)
pushed false key at x found same = refl

pub added : (es new : Entries) (at : ℕ) (x : Extent) → found_at es at ≡ None → Changes es new at (Some x)
    → with_block (block_of (at, x)) (store_of es) ≡ store_of new
added es new at x none change =
    let h = ascends-store es in
    let absent : block_at (store_of es) at ≡ None = block_at-store es at ∙ ap (shown at) none in
    same_store (with_block (block_of (at, x)) (store_of es)) (store_of new)
    (ascends_with (block_of (at, x)) (store_of es) absent h) (ascends-store new)
    (λ q.
    at_with (block_of (at, x)) (store_of es) q absent
    ∙ ap (λ (o : Option Block). cond (eqb at q) (Some (block_of (at, x))) o) (block_at-store es q)
    ∙ pushed (eqb at q) at q x (found_at es q) (eqb-true at q)
    ∙ ap (shown q) (sym (change q))
    ∙ sym (block_at-store new q))

-- ---- what a record does

pub made_twice : (es : Entries) (at words pool : ℕ) (x : Extent) → found_at es at ≡ Some x → after_making (store_of es) at words pool ≡ None
made_twice es at words pool x there =
    ap (λ (c : Bool). cond c None (Some (with_block (record { at = at; words = words; pool = pool }) (store_of es))))
    (is_live-store es at ∙ ap is_some there)

pub made : (es new : Entries) (at : ℕ) (x : Extent) → found_at es at ≡ None → Changes es new at (Some x)
    → after_making (store_of es) at x.words x.pool ≡ Some (store_of new)
made es new at x none change =
    ap (λ (c : Bool). cond c None (Some (with_block (block_of (at, x)) (store_of es)))) (is_live-store es at ∙ ap is_some none)
    ∙ ap Some (added es new at x none change)

abbrev no_store : Option Store
no_store = None

either_none : (c : Bool) → no_store ≡ cond c no_store no_store
either_none true = refl
either_none false = refl

pub moved_none : (es : Entries) (from to : ℕ) → found_at es from ≡ None → after_moving (store_of es) from to ≡ None
moved_none es from to none =
    let block : block_at (store_of es) from ≡ None = block_at-store es from ∙ ap (shown from) none in
    rw block (sym (either_none (is_live (store_of es) to)))

apart_test : (a b : ℕ) → (a ≡ b → ⊥) → eqb a b ≡ false
apart_test a b h = by (eqb a b) refl
  where
    by : (c : Bool) → eqb a b ≡ c → eqb a b ≡ false
    by true e = absurd (h (eqb-true a b e))
    by false e = e

-- a block that moves elsewhere is made there after it was taken out
pub moved : (es removed : Entries) (from to : ℕ) (x : Extent) → (from ≡ to → ⊥) → found_at es from ≡ Some x
    → Changes es removed from None → after_making (store_of removed) to x.words x.pool ≡ after_moving (store_of es) from to
moved es removed from to x apart there removal =
    let block : block_at (store_of es) from ≡ Some (block_of (from, x)) = block_at-store es from ∙ ap (shown from) there in
    let same : found_at removed to ≡ found_at es to =
    removal to ∙ ap (λ (c : Bool). cond c None (found_at es to)) (apart_test from to apart) in
    let live : is_live (store_of removed) to ≡ is_live (store_of es) to =
    is_live-store removed to ∙ ap is_some same ∙ sym (is_live-store es to) in
    let store : store_of removed ≡ without_block (store_of es) from = sym (dropped es removed from removal) in
    rw (block, live, store) refl

pub touched : (es : Entries) (at : ℕ) → is_some (found_at es at) ≡ true → after_touching (store_of es) at ≡ Some (store_of es)
touched es at h = ap (λ (c : Bool). cond c (Some (store_of es)) None) (is_live-store es at ∙ h)

pub touched_none : (es : Entries) (at : ℕ) → is_some (found_at es at) ≡ false → after_touching (store_of es) at ≡ None
touched_none es at h = ap (λ (c : Bool). cond c (Some (store_of es)) None) (is_live-store es at ∙ h)

pub freed : (es new : Entries) (at : ℕ) (x : Extent) → found_at es at ≡ Some x → Changes es new at None
    → after_freeing (store_of es) at ≡ Some (store_of new)
freed es new at x there change =
    ap (λ (c : Bool). cond c (Some (without_block (store_of es) at)) None) (is_live-store es at ∙ ap is_some there)
    ∙ ap Some (dropped es new at change)

pub freed_none : (es : Entries) (at : ℕ) → found_at es at ≡ None → after_freeing (store_of es) at ≡ None
freed_none es at none = ap (λ (c : Bool). cond c (Some (without_block (store_of es) at)) None) (is_live-store es at ∙ ap is_some none)

-- ---- labels

abbrev pub state_of : Entries → ℕ → State
state_of es interned = record { blocks = store_of es; interned = interned }

touched_live : (live : Bool) (store : Store) → cond live (Some store) None ≡ Some store → live ≡ true
touched_live true store h = refl
touched_live false store h = absurd cc

touched_dead : (live : Bool) (store : Store) → cond live (Some store) None ≡ None → live ≡ false
touched_dead true store h = absurd cc
touched_dead false store h = refl

pub no_name : (es : Entries) (interned at id : ℕ) → interned ≤ id → after_labelling (state_of es interned) at id ≡ None
no_name es interned at id h =
    let lt : ltb id interned ≡ false = le-ltb id interned h in
    rw lt refl

-- a name that is known labels what can be touched
pub labelled : (es : Entries) (interned at id : ℕ) (result : Result (Unit {0}) ReplayFault) → id < interned
    → Gives (after_touching (store_of es) at) (store_of es) result
    → Gives (after_labelling (state_of es interned) at id) (state_of es interned) result
labelled es interned at id (Ok value) h gives =
    let lt : ltb id interned ≡ true = lt-ltb id interned h in
    let live : is_live (store_of es) at ≡ true = touched_live (is_live (store_of es) at) (store_of es) gives in
    rw (lt, live) refl
labelled es interned at id (Err fault.BadReplay) h gives =
    let lt : ltb id interned ≡ true = lt-ltb id interned h in
    let live : is_live (store_of es) at ≡ false = touched_dead (is_live (store_of es) at) (store_of es) gives in
    rw (lt, live) refl
labelled es interned at id (Err fault.OutOfMemory) h gives = tt
