-- The live blocks stand in ascending order of their addresses.
use Rattle.std.proofs.Common.{◌≡◌, ℕ, ◌+◌, ◌<◌, Bool, true, false, cond, eqb, ltb, ◌&&◌, List, [], ◌∷◌, Option, Some, None, refl, sym, ap, subst, ◌∙◌, arith}
use Rattle.std.specs.Prelude.{IfSome, option_and_then, is_some, slice_index}
use Rattle.std.specs.List.{AllByRecursion}
use Rattle.std.specs.List.Sorted.{IsStrictlySortedBy, IsStrictlyIncreasing}
use Rattle.std.specs.Option.{option_map}
use Rattle.std.specs.Ordering.{nat_cmp}
use Rattle.std.specs.declared.cmp.Ordering.TheVariants.{Less, Equal, Greater}
use Rattle.std.proofs.lemmas.Bool.{lt-ltb, ltb-true, ltb-false, eq-eqb}
use Rattle.std.proofs.lemmas.Map.Keys.{IsStrictlyIncreasing-from_sorted}
use Rattle.mps_base.specs.Record.{Record, commit_code, alloc_code, move_code, stay_code, post_code, free_code, intern_code, label_code}
use Rattle.mps_model.specs.Replay.{Block, Store, block_at, is_live, with_block, without_block, after_making, after_moving, after_touching, after_freeing, store_after}
use Rattle.mps_model.specs.Replayed.{State, at_the_start, after_interning, after_labelling, replayed_after, replayed_from, replayed}
use Rattle.mps_blocks.specs.Listing.{addresses}

-- an address lies below all of these blocks
abbrev pub Above : ℕ → Store → Type 0
Above n [] = Unit {0}
Above n (b ∷ bs) = (n < b.at) × Above n bs

-- each block lies below those after it
abbrev pub Ascends : Store → Type 0
Ascends [] = Unit {0}
Ascends (b ∷ bs) = Above b.at bs × Ascends bs

pub lower_above : (m n : ℕ) (bs : Store) → m < n → Above n bs → Above m bs
lower_above m n [] lt h = tt
lower_above m n (b ∷ bs) lt h = (omega (arith, lt, h.0), lower_above m n bs lt h.1)

-- ---- one block more

above_case : (c : Bool) (n : ℕ) (new b : Block) (bs added : Store) → n < new.at → Above n (b ∷ bs) → Above n added
    → Above n (cond c (new ∷ b ∷ bs) (b ∷ added))
above_case true n new b bs added lt h k = (lt, h)
above_case false n new b bs added lt h k = (h.0, k)

above_with : (n : ℕ) (new : Block) (bs : Store) → n < new.at → Above n bs → Above n (with_block new bs)
above_with n new [] lt h = (lt, tt)
above_with n new (b ∷ bs) lt h = above_case (ltb new.at b.at) n new b bs (with_block new bs) lt h (above_with n new bs lt h.1)

not_there : (b : Block) (at : ℕ) (o : Option Block) (c : Bool) → eqb b.at at ≡ c → cond c (Some b) o ≡ None → (c ≡ false) × (o ≡ None)
not_there b at o true e h = absurd cc
not_there b at o false e h = (refl, h)

pub not_same : (a b : ℕ) → eqb a b ≡ false → (a ≡ b → ⊥)
not_same a b e same = absurd (let f : true ≡ false = sym (eq-eqb a b same) ∙ e in cc)

ascends_case : (c : Bool) (new b : Block) (bs added : Store) → ltb new.at b.at ≡ c → (b.at ≡ new.at → ⊥) → Ascends (b ∷ bs)
    → Above b.at bs → Ascends added
    → (b.at < new.at → Above b.at added) → Ascends (cond c (new ∷ b ∷ bs) (b ∷ added))
ascends_case true new b bs added e apart h above k more = let lt = ltb-true new.at b.at e in ((lt, lower_above new.at b.at bs lt above), h)
ascends_case false new b bs added e apart h above k more = let le = ltb-false new.at b.at e in (more (omega (arith, le, apart)), k)

pub ascends_with : (new : Block) (bs : Store) → block_at bs new.at ≡ None → Ascends bs → Ascends (with_block new bs)
ascends_with new [] none h = (tt, tt)
ascends_with new (b ∷ bs) none h =
    let absent = not_there b new.at (block_at bs new.at) (eqb b.at new.at) refl none in
    ascends_case (ltb new.at b.at) new b bs (with_block new bs) refl (not_same b.at new.at absent.0) h h.0
    (ascends_with new bs absent.1 h.1)
    (λ lt. above_with b.at new bs lt h.0)

-- ---- one block less

above_less : (c : Bool) (n : ℕ) (b : Block) (bs rest : Store) → Above n (b ∷ bs) → Above n rest → Above n (cond c bs (b ∷ rest))
above_less true n b bs rest h k = h.1
above_less false n b bs rest h k = (h.0, k)

above_without : (n : ℕ) (bs : Store) (at : ℕ) → Above n bs → Above n (without_block bs at)
above_without n [] at h = tt
above_without n (b ∷ bs) at h = above_less (eqb b.at at) n b bs (without_block bs at) h (above_without n bs at h.1)

ascends_less : (c : Bool) (b : Block) (bs rest : Store) → Ascends (b ∷ bs) → Above b.at rest → Ascends rest → Ascends (cond c bs (b ∷ rest))
ascends_less true b bs rest h above k = h.1
ascends_less false b bs rest h above k = (above, k)

pub ascends_without : (bs : Store) (at : ℕ) → Ascends bs → Ascends (without_block bs at)
ascends_without [] at h = tt
ascends_without (b ∷ bs) at h = ascends_less (eqb b.at at) b bs (without_block bs at) h (above_without b.at bs at h.0)
    (ascends_without bs at h.1)

absent_case : (c d : Bool) (b : Block) (bs rest : Store) (at : ℕ) → eqb b.at at ≡ d → cond d (Some b) (block_at bs at) ≡ None
    → (block_at bs at ≡ None → block_at rest at ≡ None)
    → block_at (cond c bs (b ∷ rest)) at ≡ None
absent_case true true b bs rest at e h k = absurd cc
absent_case true false b bs rest at e h k = h
absent_case false true b bs rest at e h k = absurd cc
absent_case false false b bs rest at e h k = ap (λ (d : Bool). cond d (Some b) (block_at rest at)) e ∙ k h

still_absent : (bs : Store) (from to : ℕ) → block_at bs to ≡ None → block_at (without_block bs from) to ≡ None
still_absent [] from to h = refl
still_absent (b ∷ bs) from to h = absent_case (eqb b.at from) (eqb b.at to) b bs (without_block bs from) to refl h (still_absent bs from to)

-- ---- a record

abbrev KeepsOrder : Option Store → Type 0
KeepsOrder o = IfSome o Ascends

either_way : (c : Bool) (p q : Option Store) → KeepsOrder p → KeepsOrder q → KeepsOrder (cond c p q)
either_way true p q h k = h
either_way false p q h k = k

dead : (o : Option Block) → is_some o ≡ false → o ≡ None
dead None h = refl
dead (Some b) h = absurd cc

making_case : (c : Bool) (s : Store) (new : Block) → is_live s new.at ≡ c → Ascends s → KeepsOrder (cond c None (Some (with_block new s)))
making_case true s new e h = tt
making_case false s new e h = ascends_with new s (dead (block_at s new.at) e) h

making : (s : Store) (at words pool : ℕ) → Ascends s → KeepsOrder (after_making s at words pool)
making s at words pool h = making_case (is_live s at) s (record { at = at; words = words; pool = pool }) refl h

moving_case : (c : Bool) (o : Option Block) (s : Store) (from to : ℕ) → is_live s to ≡ c → block_at s from ≡ o → Ascends s
    → KeepsOrder (after_moving s from to)
moving_case true o s from to live block h =
    let e : after_moving s from to ≡ None = rw live refl in
    subst KeepsOrder (sym e) tt
moving_case false None s from to live block h =
    let e : after_moving s from to ≡ None = rw (live, block) refl in
    subst KeepsOrder (sym e) tt
moving_case false (Some b) s from to live block h =
    let e : after_moving s from to ≡ Some (with_block (record b { at = to }) (without_block s from)) = rw (live, block) refl in
    subst KeepsOrder (sym e) (ascends_with (record b { at = to }) (without_block s from)
    (still_absent s from to (dead (block_at s to) live)) (ascends_without s from h))

moving : (s : Store) (from to : ℕ) → Ascends s → KeepsOrder (after_moving s from to)
moving s from to h = moving_case (is_live s to) (block_at s from) s from to refl refl h

touching : (s : Store) (at : ℕ) → Ascends s → KeepsOrder (after_touching s at)
touching s at h = either_way (is_live s at) (Some s) None h tt

freeing : (s : Store) (at : ℕ) → Ascends s → KeepsOrder (after_freeing s at)
freeing s at h = either_way (is_live s at) (Some (without_block s at)) None (ascends_without s at h) tt

ascends_after : (s : Store) (r : Record) → Ascends s → KeepsOrder (store_after s r)
ascends_after s r h =
    let first = slice_index r.fields 0 in
    let second = slice_index r.fields 1 in
    let third = slice_index r.fields 2 in
    let made = after_making s first second third in
    let touched = after_touching s first in
    let freed = cond (eqb r.code free_code) (after_freeing s first) (Some s) in
    let posted = cond (eqb r.code post_code) touched freed in
    let stayed = cond (eqb r.code stay_code) touched posted in
    let moved = cond (eqb r.code move_code) (after_moving s first second) stayed in
    let allocated = cond (eqb r.code alloc_code) made moved in
    either_way (eqb r.code commit_code) made allocated (making s first second third h)
    (either_way (eqb r.code alloc_code) made moved (making s first second third h)
    (either_way (eqb r.code move_code) (after_moving s first second) stayed (moving s first second h)
    (either_way (eqb r.code stay_code) touched posted (touching s first h)
    (either_way (eqb r.code post_code) touched freed (touching s first h)
    (either_way (eqb r.code free_code) (after_freeing s first) (Some s) (freeing s first h) h)))))

-- ---- a log

abbrev IsInOrder : Option State → Type 0
IsInOrder o = IfSome o (λ t. Ascends t.blocks)

either_state : (c : Bool) (p q : Option State) → IsInOrder p → IsInOrder q → IsInOrder (cond c p q)
either_state true p q h k = h
either_state false p q h k = k

with_blocks : (s : State) (o : Option Store) → KeepsOrder o → IsInOrder (option_map (λ blocks. record s { blocks = blocks }) o)
with_blocks s None h = tt
with_blocks s (Some blocks) h = h

in_order_after : (s : State) (r : Record) → Ascends s.blocks → IsInOrder (replayed_after s r)
in_order_after s r h =
    let id = slice_index r.fields 0 in
    let name = slice_index r.fields 1 in
    let kept = option_map (λ blocks. record s { blocks = blocks }) (store_after s.blocks r) in
    let labelled = cond (eqb r.code label_code) (after_labelling s id name) kept in
    either_state (eqb r.code intern_code) (after_interning s id) labelled
    (either_state (eqb id s.interned) (Some (record s { interned = s.interned + 1 })) None h tt)
    (either_state (eqb r.code label_code) (after_labelling s id name) kept
    (either_state (ltb name s.interned && is_live s.blocks id) (Some s) None h tt)
    (with_blocks s (store_after s.blocks r) (ascends_after s.blocks r h)))

then_in_order : (o : Option State) (rs : List Record) → IsInOrder o → ((t : State) → Ascends t.blocks → IsInOrder (replayed_from t rs))
    → IsInOrder (option_and_then (λ after. replayed_from after rs) o)
then_in_order None rs h k = tt
then_in_order (Some t) rs h k = k t h

in_order_from : (s : State) (rs : List Record) → Ascends s.blocks → IsInOrder (replayed_from s rs)
in_order_from s [] h = h
in_order_from s (r ∷ rs) h = then_in_order (replayed_after s r) rs (in_order_after s r h) (λ t k. in_order_from t rs k)

-- ---- the addresses

all_less : (n : ℕ) (bs : Store) → Above n bs → AllByRecursion (λ (y : ℕ). nat_cmp n y ≡ Less) (addresses bs)
all_less n [] h = tt
all_less n (b ∷ bs) h =
    let lt : ltb n b.at ≡ true = lt-ltb n b.at h.0 in
    (ap (λ (c : Bool). cond c Less (cond (eqb n b.at) Equal Greater)) lt, all_less n bs h.1)

pub sorted : (bs : Store) → Ascends bs → IsStrictlySortedBy nat_cmp (addresses bs)
unfolding IsStrictlySortedBy
sorted [] h = tt
sorted (b ∷ bs) h = (all_less b.at bs h.0, sorted bs h.1)

pub blocks_ascend : (records : List Record) (s : State) → replayed records ≡ Some s → IsStrictlyIncreasing (addresses s.blocks)
blocks_ascend records s e =
    let h : Ascends s.blocks = subst IsInOrder e (in_order_from at_the_start records tt) in
    IsStrictlyIncreasing-from_sorted (addresses s.blocks) (sorted s.blocks h)
