-- What a flush has still to free, from one block to the next.
use Rattle.std.proofs.Common.{◌≡◌, ◌∙◌, ℕ, suc, ◌-◌, ◌+◌, ◌<◌, Bool, true, false, refl, sym, ap, subst, List, [], ◌∷◌, ◌++◌, length, map, take, Option, Some, None, zero, ◌*◌, ◌≤◌, arith}
use Rattle.std.proofs.lemmas.Bool.{ne_eqb}
use Rattle.std.proofs.lemmas.List.{get_or-set_same, set-get_or}
use Rattle.std.proofs.lemmas.List.Sums.{sum_by-cons}
use Rattle.std.proofs.lemmas.Option.{none-some, same_Some}
use Rattle.std.specs.Prelude.{◌==◌, not, if◌then◌else◌, slice_get, slice_set, slice_index}
use Rattle.mps_base.specs.Address.{Address}
use Rattle.mps_base.specs.Run.{Run}
use Rattle.mps_base.specs.Segment.{Segment, segment_over}
use Rattle.mps_base.specs.Trail.{Moves, with_move}
use Rattle.mps_base.specs.declared.moves.Move.TheVariants.{Free, Unseg}
use Rattle.mps_manual.specs.Manual.{any_size, block_removed, is_unused, moves_freed, moves_given_back, segs_after_free}
use Rattle.mps_model.specs.Graph.{from_last}
use Rattle.mps_sac.specs.State.{CacheState, ClassState, blocks_where, cache_at, classes_of, count_in, has_block, last_of, next_blocks, no_cache, with_blocks_where, with_classes, without_last, without_next}
use Rattle.mps_heap_spec.specs.Caching.{emptied, flushed, with_cached}
use Rattle.mps_heap_spec.specs.Manual.{Freeing, is_block_over, one_freed, row_freed}
use Rattle.mps_heap_spec.specs.State.{HeapState}
use Rattle.mps_heap_caching.specs.Flushed.{flushed_from}
use Rattle.mps_heap_caching.proofs.Outcomes.{none_last, same_where}

-- ---- lists

one_shorter : (b c : Address) (bs : List Address) → length (b ∷ c ∷ bs) - 1 ≡ suc (length (c ∷ bs) - 1)
one_shorter b c bs = let e : length (b ∷ c ∷ bs) - 1 ≡ suc (length (c ∷ bs) - 1) = omega arith in e

-- the last of a list comes first
last_first : (bs : List Address) (at : Address) → last_of bs ≡ Some at → from_last bs ≡ at ∷ from_last (without_last bs)
last_first [] at e = absurd (none-some at e)
last_first (b ∷ []) at e = ap (λ x. x ∷ []) (same_Some b at e)
last_first (b ∷ c ∷ bs) at e =
    ap (λ ats. ats ++ b ∷ []) (last_first (c ∷ bs) at (sym (ap (slice_get (b ∷ c ∷ bs)) (one_shorter b c bs)) ∙ e))
    ∙ ap (λ n. at ∷ from_last (take n (b ∷ c ∷ bs))) (sym (one_shorter b c bs))

last_counts : (bs : List Address) (at : Address) → last_of bs ≡ Some at → length bs ≡ length (without_last bs) + 1
last_counts [] at e = absurd (none-some at e)
last_counts (b ∷ []) at e = refl
last_counts (b ∷ c ∷ bs) at e =
    let rest = last_counts (c ∷ bs) at (sym (ap (slice_get (b ∷ c ∷ bs)) (one_shorter b c bs)) ∙ e) in
    let same : length (take (length (b ∷ c ∷ bs) - 1) (b ∷ c ∷ bs)) ≡ length (take (suc (length (c ∷ bs) - 1)) (b ∷ c ∷ bs)) =
    ap (λ n. length (take n (b ∷ c ∷ bs))) (one_shorter b c bs) in
    omega (arith, rest, same)

no_blocks : (c : ClassState) → has_block c ≡ false → c.blocks ≡ []
no_blocks c none = of_blocks c.blocks none
  where
    of_blocks : (bs : List Address) → not (length bs == 0) ≡ false → bs ≡ []
    of_blocks [] e = refl
    of_blocks (b ∷ bs) e =
        let some : (length (b ∷ bs) == 0) ≡ false = ne_eqb (length (b ∷ bs)) 0 (λ n. omega (arith, n)) in
        absurd (Rattle.std.proofs.Common.true≢false (sym (ap not some) ∙ e))

-- ---- classes

abbrev blocks_of : ClassState → ℕ
blocks_of c = length c.blocks

-- what is shown of the next block of some classes
record IsNext (cs : List ClassState) (at : Address) (left : List ClassState) : Type 0 where
  pub flushed_is : flushed cs ≡ at ∷ flushed left
  pub emptied_is : map emptied left ≡ map emptied cs
  pub count : count_in cs ≡ count_in left + 1

next_is : (cs : List ClassState) (at : Address) → last_of (next_blocks cs) ≡ Some at → IsNext cs at (without_next cs)
next_is [] at e = absurd (none-some at e)
next_is (c ∷ cs) at e = of_test (has_block c) refl (λ f. next_is cs at f) e
  where
    of_test : (b : Bool) → has_block c ≡ b → (last_of (next_blocks cs) ≡ Some at → IsNext cs at (without_next cs))
        → last_of (if b then c.blocks else blocks_where has_block cs) ≡ Some at → IsNext (c ∷ cs) at (if b
        then record c { blocks = without_last (if b then c.blocks else blocks_where has_block cs) } ∷ cs
        else c ∷ with_blocks_where has_block cs (without_last (if b then c.blocks else blocks_where has_block cs)))
    of_test true is later f = record {
      flushed_is = ap (λ ats. ats ++ flushed cs) (last_first c.blocks at f);
      emptied_is = refl;
      count =
          let one = last_counts c.blocks at f in
          let was : count_in (c ∷ cs) ≡ length c.blocks + count_in cs = sum_by-cons blocks_of c cs in
          let now : count_in (record c { blocks = without_last c.blocks } ∷ cs) ≡ length (without_last c.blocks) + count_in cs =
          sum_by-cons blocks_of (record c { blocks = without_last c.blocks }) cs in
          omega (arith, one, was, now);
    }
    of_test false isnt later f =
        let rest = later f in
        let empty = no_blocks c isnt in
        record {
          flushed_is = ap (λ bs. from_last bs ++ flushed cs) empty ∙ rest.flushed_is
              ∙ ap (λ bs. at ∷ (from_last bs ++ flushed (without_next cs))) (sym empty);
          emptied_is = ap (λ ks. emptied c ∷ ks) rest.emptied_is;
          count =
              let more = rest.count in
              let was : count_in (c ∷ cs) ≡ length c.blocks + count_in cs = sum_by-cons blocks_of c cs in
              let now : count_in (c ∷ without_next cs) ≡ length c.blocks + count_in (without_next cs) =
              sum_by-cons blocks_of c (without_next cs) in
              omega (arith, more, was, now);
        }

none_left : (cs : List ClassState) → blocks_where has_block cs ≡ [] → (flushed cs ≡ []) × (map emptied cs ≡ cs)
none_left [] none = (refl, refl)
none_left (c ∷ cs) none = of_test (has_block c) refl (λ f. none_left cs f) none
  where
    of_blocks : (bs : List Address) → bs ≡ [] → not (length bs == 0) ≡ true → ⊥
    of_blocks [] empty some = Rattle.std.proofs.Common.true≢false (sym some)
    of_blocks (b ∷ bs) empty some = let n : length (b ∷ bs) ≡ 0 = ap length empty in omega (arith, n)

    of_test : (b : Bool) → has_block c ≡ b → (blocks_where has_block cs ≡ [] → (flushed cs ≡ []) × (map emptied cs ≡ cs))
        → (if b then c.blocks else blocks_where has_block cs) ≡ [] → (flushed (c ∷ cs) ≡ []) × (map emptied (c ∷ cs) ≡ c ∷ cs)
    of_test true is later empty = absurd (of_blocks c.blocks empty is)
    of_test false isnt later empty =
        let rest = later empty in
        let own = no_blocks c isnt in (
          ap (λ bs. from_last bs ++ flushed cs) own ∙ rest.0,
          ap (λ bs. record c { blocks = bs } ∷ map emptied cs) (sym own) ∙ ap (λ ks. c ∷ ks) rest.1,
        )

-- ---- caches

pub nothing_next : (caches : List CacheState) (number : ℕ) → last_of (next_blocks (classes_of caches number)) ≡ None
    → with_classes caches number (without_next (classes_of caches number)) ≡ caches
nothing_next caches number none =
    let empty = none_last (next_blocks (classes_of caches number)) none in
    let same : without_next (classes_of caches number) ≡ classes_of caches number =
    ap (λ blocks. with_blocks_where has_block (classes_of caches number) (without_last blocks)) empty
    ∙ same_where has_block (classes_of caches number) empty in
    ap (λ ks. slice_set caches number (record (cache_at caches number) { classes = ks })) same ∙ set-get_or caches number no_cache

set_twice : {A : Type 0} (xs : List A) (i : ℕ) (a b : A) → slice_set (slice_set xs i a) i b ≡ slice_set xs i b
set_twice [] i a b = refl
set_twice (x ∷ xs) zero a b = refl
set_twice (x ∷ xs) (suc i) a b = ap (λ ys. x ∷ ys) (set_twice xs i a b)

length_set : {A : Type 0} (xs : List A) (i : ℕ) (a : A) → length (slice_set xs i a) ≡ length xs
length_set [] i a = refl
length_set (x ∷ xs) zero a = refl
length_set (x ∷ xs) (suc i) a = ap suc (length_set xs i a)

module _ (caches : List CacheState) (number : ℕ) (there : number < length caches) (cs : List ClassState) where
  pub cache_written : cache_at (with_classes caches number cs) number ≡ record (cache_at caches number) { classes = cs }
  cache_written = get_or-set_same caches number (record (cache_at caches number) { classes = cs }) no_cache there

  written_again : (ks : List ClassState) → with_classes (with_classes caches number cs) number ks ≡ with_classes caches number ks
  written_again ks =
      ap (λ (q : CacheState). slice_set (with_classes caches number cs) number (record q { classes = ks })) cache_written
      ∙ set_twice caches number (record (cache_at caches number) { classes = cs }) (record (cache_at caches number) { classes = ks })

-- ---- one block

room_left : (size : ℕ) (f : Freeing) (at : Address) → f.trail.spare ≤ (one_freed size f at).trail.spare + 2
room_left size f at = of_block (is_block_over f.segs at at)
  where
    given : (covered : List Run) (s : Option Segment) (t : Moves) → t.spare ≤ (moves_given_back covered s t).spare + 1
    given covered None t = omega arith
    given covered (Some s) t = of_use (is_unused covered s)
      where
        of_use : (b : Bool) → t.spare ≤ (if b then with_move t (Unseg (record { 0 = s.base })) else t).spare + 1
        of_use true = omega arith
        of_use false = omega arith

    of_size : (b : Bool) → f.trail.spare ≤ (if b
        then moves_given_back (block_removed f.segs at).covered (segment_over f.segs.segments at)
        (with_move f.trail (Free (record { 0 = at })))
        else with_move f.trail (Free (record { 0 = at }))).spare + 2
    of_size true =
        let rest =
        given (block_removed f.segs at).covered (segment_over f.segs.segments at) (with_move f.trail (Free (record { 0 = at }))) in
        omega (arith, rest)
    of_size false = omega arith

    of_block : (b : Bool) → f.trail.spare ≤ (if b
        then record { segs = segs_after_free size f.segs at; trail = moves_freed size f.segs f.trail (record { 0 = at }) }
        else f).trail.spare + 2
    of_block true = of_size (size == any_size)
    of_block false = omega arith

module _ {F : Type 0} (size number : ℕ) where
  -- what is still to be done, from one state and trail as from another, and the other has room for it
  pub record GoesOn (h : HeapState F) (trail : Moves) (after : HeapState F) (trail_after : Moves) : Type 0 where
    pub same : flushed_from size number after trail_after ≡ flushed_from size number h trail
    pub sizes : after.sizes ≡ h.sizes
    pub caches : length after.beside.caches ≡ length h.beside.caches
    pub fits : 2 * count_in (classes_of after.beside.caches number) ≤ trail_after.spare

  abbrev pub one_less : (h : HeapState F) (trail : Moves) (at : Address) → HeapState F
  one_less h trail at =
      record (with_cached h number (without_next (classes_of h.beside.caches number))) {
        segs = (one_freed size (record { segs = h.segs; trail = trail }) at).segs;
      }

  pub next_goes : (h : HeapState F) (trail : Moves) (at : Address) → number < length h.beside.caches
      → last_of (next_blocks (classes_of h.beside.caches number)) ≡ Some at → 2 * count_in (classes_of h.beside.caches number) ≤ trail.spare
      → GoesOn h trail (one_less h trail at) (one_freed size (record { segs = h.segs; trail = trail }) at).trail
  next_goes h trail at there e fits =
      let caches = h.beside.caches in
      let cs = classes_of caches number in
      let next = next_is cs at e in
      let f : Freeing = record { segs = h.segs; trail = trail } in
      let own : classes_of (with_classes caches number (without_next cs)) number ≡ without_next cs =
      ap (λ (q : CacheState). q.classes) (cache_written caches number there (without_next cs)) in
      record {
        same =
            ap (λ ks. record {
              answer = tt;
              state = record h {
                segs = (row_freed size (one_freed size f at) (flushed ks)).segs;
                beside = record h.beside {
                  caches = with_classes (with_classes caches number (without_next cs)) number (map emptied ks);
                };
              };
              trail = (row_freed size (one_freed size f at) (flushed ks)).trail;
            }) own
            ∙ ap (λ ks. record {
              answer = tt;
              state = record h {
                segs = (row_freed size (one_freed size f at) (flushed (without_next cs))).segs;
                beside = record h.beside { caches = ks };
              };
              trail = (row_freed size (one_freed size f at) (flushed (without_next cs))).trail;
            }) (written_again caches number there (without_next cs) (map emptied (without_next cs))
            ∙ ap (with_classes caches number) next.emptied_is)
            ∙ ap (λ ats. record {
              answer = tt;
              state = record h {
                segs = (row_freed size f ats).segs;
                beside = record h.beside { caches = with_classes caches number (map emptied cs) };
              };
              trail = (row_freed size f ats).trail;
            }) (sym next.flushed_is);
        sizes = refl;
        caches = length_set caches number (record (cache_at caches number) { classes = without_next cs });
        fits =
            let left = ap (λ ks. count_in ks) own in
            let one = next.count in
            let room = room_left size f at in
            omega (arith, left, one, room, fits);
      }

  -- nothing is left
  pub ends : (h : HeapState F) (trail : Moves) → last_of (next_blocks (classes_of h.beside.caches number)) ≡ None
      → flushed_from size number h trail ≡ record { answer = tt; state = h; trail = trail }
  ends h trail none =
      let caches = h.beside.caches in
      let cs = classes_of caches number in
      let left = none_left cs (none_last (next_blocks cs) none) in
      let f : Freeing = record { segs = h.segs; trail = trail } in
      ap (λ ats. record {
        answer = tt;
        state = record h {
          segs = (row_freed size f ats).segs;
          beside = record h.beside { caches = with_classes caches number (map emptied cs) };
        };
        trail = (row_freed size f ats).trail;
      }) left.0
      ∙ ap (λ ks. record {
        answer = tt;
        state = record h {
          beside = record h.beside { caches = slice_set caches number (record (cache_at caches number) { classes = ks }) };
        };
        trail = trail;
      }) left.1
      ∙ ap (λ qs. record { answer = tt; state = record h { beside = record h.beside { caches = qs } }; trail = trail })
      (set-get_or caches number no_cache)

-- ---- from one block to the next

-- the trail has room for a free
pub room_for_one : (cs : List ClassState) (at : Address) (spare : ℕ) → last_of (next_blocks cs) ≡ Some at → 2 * count_in cs ≤ spare
    → 1 < spare
room_for_one cs at spare e fits = let one = (next_is cs at e).count in omega (arith, one, fits)

module _ {F : Type 0} (number pool : ℕ) (h0 : HeapState F) (t0 : Moves) (there : number < length h0.beside.caches) where
  abbrev size : ℕ
  size = slice_index h0.sizes pool

  -- what is shown of a block that was taken and freed
  pub record IsFreedNext (h after : HeapState F) (trail_after : Moves) : Type 0 where
    pub goes_on : GoesOn size number h0 t0 after trail_after
    pub fewer : count_in (classes_of after.beside.caches number) < count_in (classes_of h.beside.caches number)

  pub freed_next : (h : HeapState F) (t : Moves) → GoesOn size number h0 t0 h t → (at : Address)
      → last_of (next_blocks (classes_of h.beside.caches number)) ≡ Some at → (taken after : HeapState F) (trail_after : Moves)
      → taken ≡ with_cached h number (without_next (classes_of h.beside.caches number))
      → after ≡ record taken { segs = (one_freed (slice_index taken.sizes pool) (record { segs = taken.segs; trail = t }) at).segs }
      → trail_after ≡ (one_freed (slice_index taken.sizes pool) (record { segs = taken.segs; trail = t }) at).trail
      → IsFreedNext h after trail_after
  freed_next h t inv at e taken after trail_after taken_is after_is trail_is =
      let low : number < length h.beside.caches = (let same = inv.caches in omega (arith, same, there)) in
      let next = next_goes size number h t at low e inv.fits in
      let cs = classes_of h.beside.caches number in
      let one = (next_is cs at e).count in
      let own : count_in (classes_of (with_classes h.beside.caches number (without_next cs)) number) ≡ count_in (without_next cs) =
      ap (λ (q : CacheState). count_in q.classes) (cache_written h.beside.caches number low (without_next cs)) in
      let P : HeapState F → Moves → Type 0 = λ x y. IsFreedNext h x y in
      let all : P (one_less size number h t at) (one_freed size (record { segs = h.segs; trail = t }) at).trail = record {
        goes_on = record {
          same = next.same ∙ inv.same;
          sizes = next.sizes ∙ inv.sizes;
          caches = next.caches ∙ inv.caches;
          fits = next.fits;
        };
        fewer = omega (arith, own, one);
      } in
      let same_size : slice_index h.sizes pool ≡ size = ap (λ (ns : List ℕ). slice_index ns pool) inv.sizes in
      subst (λ x. P x trail_after) (sym (after_is
      ∙ ap (λ (x : HeapState F). record x { segs = (one_freed (slice_index x.sizes pool) (record { segs = x.segs; trail = t }) at).segs })
      taken_is
      ∙ ap (λ n. record (with_cached h number (without_next cs)) { segs = (one_freed n (record { segs = h.segs; trail = t }) at).segs })
      same_size))
      (subst (P (one_less size number h t at)) (sym (trail_is
      ∙ ap (λ (x : HeapState F). (one_freed (slice_index x.sizes pool) (record { segs = x.segs; trail = t }) at).trail) taken_is
      ∙ ap (λ n. (one_freed n (record { segs = h.segs; trail = t }) at).trail) same_size)) all)
