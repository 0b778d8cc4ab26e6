-- Live blocks as a replay holds them, over lists of shapes and addresses alone: what one move of a block does to them.
use Rattle.std.proofs.Common.{◌≡◌, ◌∙◌, ℕ, zero, suc, ◌+◌, ◌≤◌, refl, sym, ap, List, [], ◌∷◌, ◌++◌, length, Option, Some, None, subst, arith, add-zero, append-nil}
use Rattle.std.proofs.lemmas.Option.{none-some, same_Some}
use Rattle.std.specs.Prelude.{slice_get, slice_set, ◌≢◌, if◌then◌else◌, ◌==◌, is_some, option_and_then, map}
use Rattle.std.specs.Option.{option_map_or}
use Rattle.std.specs.List.{AllByRecursion}
use Rattle.mps_model.specs.Graph.{Object, entry_at, size_of}
use Rattle.mps_model.specs.World.{World, numbers_of}
use Rattle.mps_model.specs.History.{live_blocks, blocks_of_ids, block_of}
use Rattle.mps_model.specs.Replay.{Store, Block, with_block, without_block, block_at, after_making, after_moving, after_touching, after_freeing}
use Rattle.mps_laws.proofs.InOrder.{put_all, without_key, of_key, put_all-with, put_all-without, of_key-none, of_key-put_all, all_put_all}
use Rattle.mps_laws.proofs.Positions.Occupancy.{Shape, shape_of}

-- the block of an object with this shape
abbrev pub block : Shape → (at : ℕ) → Block
block s at = record { at = at; words = s.words; pool = s.pool }

-- the live blocks of objects with these shapes at these addresses, by the objects' ids
abbrev pub blocks_in : List Shape → List (Option ℕ) → List Block
blocks_in [] addresses = []
blocks_in (s ∷ ss) [] = []
blocks_in (s ∷ ss) (None ∷ addresses) = blocks_in ss addresses
blocks_in (s ∷ ss) (Some at ∷ addresses) = block s at ∷ blocks_in ss addresses

abbrev at_of : Block → ℕ
at_of b = b.at

-- blocks in ascending order of their addresses
abbrev pub stored : List Block → Store
stored bs = put_all at_of bs

-- no two live blocks begin at one address
abbrev pub AreDifferent : List (Option ℕ) → Type 0
AreDifferent addresses = (i j at : ℕ) → entry_at addresses i ≡ Some at → entry_at addresses j ≡ Some at → i ≡ j

-- no live block begins at an address
abbrev pub IsFree : List (Option ℕ) → (at : ℕ) → Type 0
IsFree addresses at = (j : ℕ) → entry_at addresses j ≡ Some at → ⊥

-- no block of these begins at an address
abbrev BeginElsewhere : (at : ℕ) → List Block → Type 0
BeginElsewhere at bs = AllByRecursion (λ (b : Block). b.at ≢ at) bs

-- ---- a replay's functions are those of values in order

without_block_is : (bs : Store) (at : ℕ) → without_block bs at ≡ without_key at_of at bs
without_block_is [] at = refl
without_block_is (b ∷ bs) at = ap (λ rest. if b.at == at then bs else b ∷ rest) (without_block_is bs at)

block_at_is : (bs : Store) (at : ℕ) → block_at bs at ≡ of_key at_of at bs
block_at_is [] at = refl
block_at_is (b ∷ bs) at = ap (λ rest. if b.at == at then Some b else rest) (block_at_is bs at)

stored-without : (before : List Block) (b : Block) (after : List Block) → BeginElsewhere b.at before → BeginElsewhere b.at after
    → without_block (stored (before ++ b ∷ after)) b.at ≡ stored (before ++ after)
stored-without before b after e f = without_block_is (stored (before ++ b ∷ after)) b.at ∙ put_all-without at_of before b after e f

block_at-stored : (before : List Block) (b : Block) (after : List Block) → BeginElsewhere b.at before → BeginElsewhere b.at after
    → block_at (stored (before ++ b ∷ after)) b.at ≡ Some b
block_at-stored before b after e f = block_at_is (stored (before ++ b ∷ after)) b.at ∙ of_key-put_all at_of before b after e f

block_at-none : (bs : List Block) (at : ℕ) → BeginElsewhere at bs → block_at (stored bs) at ≡ None
block_at-none bs at e = block_at_is (stored bs) at ∙ of_key-none at_of at (stored bs) (all_put_all at_of (λ b. b.at ≢ at) bs e)

-- ---- one block among the others

-- the others, before and after one
record Among (shapes : List Shape) (addresses : List (Option ℕ)) (id at : ℕ) (s : Shape) : Type 0 where
  pub before : List Block
  pub after : List Block
  pub is : blocks_in shapes addresses ≡ before ++ block s at ∷ after
  pub moved : (to : ℕ) → blocks_in shapes (slice_set addresses id (Some to)) ≡ before ++ block s to ∷ after
  pub gone : blocks_in shapes (slice_set addresses id None) ≡ before ++ after
  pub elsewhere : (k : ℕ) → ((j : ℕ) → entry_at addresses j ≡ Some k → id ≡ j) → BeginElsewhere k before × BeginElsewhere k after

all_elsewhere : (shapes : List Shape) (addresses : List (Option ℕ)) (k : ℕ) → IsFree addresses k
    → BeginElsewhere k (blocks_in shapes addresses)
all_elsewhere [] addresses k free = tt
all_elsewhere (o ∷ os) [] k free = tt
all_elsewhere (o ∷ os) (None ∷ ps) k free = all_elsewhere os ps k (λ j e. free (suc j) e)
all_elsewhere (o ∷ os) (Some p ∷ ps) k free = ((λ e. free zero (ap Some e)), all_elsewhere os ps k (λ j e. free (suc j) e))

among_later : (o' : Shape) (os : List Shape) (p : Option ℕ) (ps : List (Option ℕ)) (id at : ℕ) (o : Shape) → Among os ps id at o
    → Among (o' ∷ os) (p ∷ ps) (suc id) at o
among_later o' os None ps id at o s = record {
  before = s.before;
  after = s.after;
  is = s.is;
  moved = s.moved;
  gone = s.gone;
  elsewhere = λ k one. s.elsewhere k (λ j e. let h = one (suc j) e in omega (arith, h));
}
among_later o' os (Some q) ps id at o s = record {
  before = block o' q ∷ s.before;
  after = s.after;
  is = ap (λ bs. block o' q ∷ bs) s.is;
  moved = λ to. ap (λ bs. block o' q ∷ bs) (s.moved to);
  gone = ap (λ bs. block o' q ∷ bs) s.gone;
  elsewhere = λ k one.
      let rest = s.elsewhere k (λ j e. let h = one (suc j) e in omega (arith, h)) in
      (((λ e. let h = one zero (ap Some e) in absurd (omega (arith, h))), rest.0), rest.1);
}

among_here : (o : Shape) (os : List Shape) (p : Option ℕ) (ps : List (Option ℕ)) (at : ℕ) → p ≡ Some at → Among (o ∷ os) (p ∷ ps) zero at o
among_here o os None ps at e = absurd (none-some at e)
among_here o os (Some q) ps at e = record {
  before = [];
  after = blocks_in os ps;
  is = ap (λ n. block o n ∷ blocks_in os ps) (same_Some q at e);
  moved = λ to. refl;
  gone = refl;
  elsewhere = λ k one. (tt, all_elsewhere os ps k (λ j f. let h = one (suc j) f in absurd (omega (arith, h))));
}

among : (os : List Shape) (addresses : List (Option ℕ)) (id at : ℕ) (o : Shape) → slice_get os id ≡ Some o
    → entry_at addresses id ≡ Some at → Among os addresses id at o
among [] addresses id at o e p = absurd (none-some o e)
among (q ∷ os) [] id at o e p = absurd (none-some at p)
among (q ∷ os) (r ∷ ps) zero at o e p =
    subst (λ (x : Shape). Among (q ∷ os) (r ∷ ps) zero at x) (same_Some q o e) (among_here q os r ps at p)
among (q ∷ os) (r ∷ ps) (suc id) at o e p = among_later q os r ps id at o (among os ps id at o e p)

-- ---- what a replay does

-- one live object, among objects that have addresses of their own
pub record IsPlaced (shapes : List Shape) (addresses : List (Option ℕ)) (id at : ℕ) (s : Shape) : Type 0 where
  pub different : AreDifferent addresses
  pub address : entry_at addresses id ≡ Some at
  pub shape : slice_get shapes id ≡ Some s

module _ (shapes : List Shape) (addresses : List (Option ℕ)) where
  found : (id at : ℕ) (s : Shape) → IsPlaced shapes addresses id at s
      → block_at (stored (blocks_in shapes addresses)) at ≡ Some (block s at)
  found id at s p =
      let a = among shapes addresses id at s p.shape p.address in
      let e = a.elsewhere at (λ j f. p.different id j at p.address f) in
      ap (λ bs. block_at (stored bs) at) a.is ∙ block_at-stored a.before (block s at) a.after e.0 e.1

  -- a block moves: taken out by its address, and put again
  pub replay-moved : (id from to : ℕ) (s : Shape) → IsPlaced shapes addresses id from s → IsFree addresses to
      → after_moving (stored (blocks_in shapes addresses)) from to ≡ Some (stored (blocks_in shapes (slice_set addresses id (Some to))))
  replay-moved id from to s p free =
      let a = among shapes addresses id from s p.shape p.address in
      let e = a.elsewhere from (λ j f. p.different id j from p.address f) in
      let new = a.elsewhere to (λ j f. absurd (free j f)) in
      let taken : without_block (stored (blocks_in shapes addresses)) from ≡ stored (a.before ++ a.after) =
      ap (λ bs. without_block (stored bs) from) a.is ∙ stored-without a.before (block s from) a.after e.0 e.1 in
      rw (block_at-none (blocks_in shapes addresses) to (all_elsewhere shapes addresses to free), found id from s p)
      (ap Some (ap (with_block (block s to)) taken ∙ sym (ap stored (a.moved to) ∙ put_all-with at_of a.before (block s to) a.after new.0)))

  pub replay-freed : (id at : ℕ) (s : Shape) → IsPlaced shapes addresses id at s
      → after_freeing (stored (blocks_in shapes addresses)) at ≡ Some (stored (blocks_in shapes (slice_set addresses id None)))
  replay-freed id at s p =
      let a = among shapes addresses id at s p.shape p.address in
      let e = a.elsewhere at (λ j f. p.different id j at p.address f) in
      rw (found id at s p)
      (ap Some (ap (λ bs. without_block (stored bs) at) a.is ∙ stored-without a.before (block s at) a.after e.0 e.1
      ∙ sym (ap stored a.gone)))

  pub replay-touched : (id at : ℕ) (s : Shape) → IsPlaced shapes addresses id at s
      → after_touching (stored (blocks_in shapes addresses)) at ≡ Some (stored (blocks_in shapes addresses))
  replay-touched id at s p = rw (found id at s p) refl

-- a new object, live, at the end
blocks_in-last : (os : List Shape) (addresses : List (Option ℕ)) (o : Shape) (at : ℕ) → length addresses ≡ length os
    → blocks_in (os ++ o ∷ []) (addresses ++ Some at ∷ []) ≡ blocks_in os addresses ++ block o at ∷ []
blocks_in-last [] [] o at e = refl
blocks_in-last [] (p ∷ ps) o at e = absurd (omega (arith, e))
blocks_in-last (q ∷ os) [] o at e = absurd (omega (arith, e))
blocks_in-last (q ∷ os) (None ∷ ps) o at e = blocks_in-last os ps o at (omega (arith, e))
blocks_in-last (q ∷ os) (Some p ∷ ps) o at e = ap (λ bs. block q p ∷ bs) (blocks_in-last os ps o at (omega (arith, e)))

pub replay-made : (os : List Shape) (addresses : List (Option ℕ)) (o : Shape) (at : ℕ) → length addresses ≡ length os → IsFree addresses at
    → after_making (stored (blocks_in os addresses)) at o.words o.pool
    ≡ Some (stored (blocks_in (os ++ o ∷ []) (addresses ++ Some at ∷ [])))
replay-made os addresses o at e free =
    let apart = all_elsewhere os addresses at free in
    rw (block_at-none (blocks_in os addresses) at apart)
    (ap Some (sym (ap stored (blocks_in-last os addresses o at e) ∙ put_all-with at_of (blocks_in os addresses) (block o at) [] apart
    ∙ ap (λ bs. with_block (block o at) (stored bs)) (append-nil (blocks_in os addresses)))))

-- ---- the live blocks of a world

shifted : {A : Type 0} (xs : List A) (n : ℕ) (y : A) (ys : List A) → ((i : ℕ) → slice_get xs (n + i) ≡ slice_get (y ∷ ys) i)
    → (i : ℕ) → slice_get xs (n + 1 + i) ≡ slice_get ys i
shifted xs n y ys h i =
    subst (λ (k : ℕ). slice_get xs k ≡ slice_get ys i) (let e : n + suc i ≡ n + 1 + i = omega arith in e) (h (suc i))

first_is : {A : Type 0} (xs : List A) (n : ℕ) (y : A) (ys : List A) → ((i : ℕ) → slice_get xs (n + i) ≡ slice_get (y ∷ ys) i)
    → slice_get xs n ≡ Some y
first_is xs n y ys h = subst (λ (k : ℕ). slice_get xs k ≡ Some y) (add-zero n) (h zero)

blocks_from : (w : World) (os : List Object) (ps : List (Option ℕ)) (n : ℕ) → length ps ≤ length os
    → ((i : ℕ) → slice_get w.graph.objects (n + i) ≡ slice_get os i) → ((i : ℕ) → slice_get w.addresses (n + i) ≡ slice_get ps i)
    → blocks_of_ids w (numbers_of is_some n ps) ≡ stored (blocks_in (map shape_of os) ps)
blocks_from w [] [] n h o p = refl
blocks_from w [] (q ∷ ps) n h o p = absurd (omega (arith, h))
blocks_from w (x ∷ os) [] n h o p = refl
blocks_from w (x ∷ os) (None ∷ ps) n h o p =
    blocks_from w os ps (n + 1) (omega (arith, h)) (shifted w.graph.objects n x os o) (shifted w.addresses n None ps p)
blocks_from w (x ∷ os) (Some at ∷ ps) n h o p =
    ap (λ bs. with_block (block_of w n) bs)
    (blocks_from w os ps (n + 1) (omega (arith, h)) (shifted w.graph.objects n x os o) (shifted w.addresses n (Some at) ps p))
    ∙ ap (λ b. with_block b (stored (blocks_in (map shape_of os) ps)))
    (block_is (slice_get w.graph.objects n) (slice_get w.addresses n) (first_is w.graph.objects n x os o)
    (first_is w.addresses n (Some at) ps p))
  where
    block_is : (a : Option Object) (b : Option (Option ℕ)) → a ≡ Some x → b ≡ Some (Some at)
        → record {
          at = option_map_or (λ (address : ℕ). address) (option_and_then (λ entry. entry) b) 0;
          words = option_map_or size_of a 0;
          pool = option_map_or (λ (o : Object). o.pool) a 0;
        }
        ≡ block (shape_of x) at
    block_is a b e f = rw (e, f) refl

pub live_blocks-stored : (w : World) → length w.addresses ≤ length w.graph.objects
    → live_blocks w ≡ stored (blocks_in (map shape_of w.graph.objects) w.addresses)
live_blocks-stored w h =
    blocks_from w w.graph.objects w.addresses 0 h (λ i. ap (slice_get w.graph.objects) (omega arith))
    (λ i. ap (slice_get w.addresses) (omega arith))
