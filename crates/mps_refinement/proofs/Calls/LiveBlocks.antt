-- `live`: the runs of blocks that a heap keeps are those of the live objects.
use Rattle.std.proofs.Common.{◌≡◌, ◌∙◌, ℕ, suc, ◌+◌, Bool, true, false, refl, sym, ap, subst, List, [], ◌∷◌, length, Option, Some, None, Ok, arith}
use Rattle.std.proofs.lemmas.List.Sums.{sum_by-cons}
use Rattle.std.specs.Prelude.{if◌then◌else◌, is_some, nat_lt, slice_get, sum_by}
use Rattle.std.specs.Option.{option_map_or}
use Rattle.mps_base.specs.Run.{Run, in_order, total, with_run}
use Rattle.mps_format.specs.Layout.{Layout}
use Rattle.mps_laws.proofs.Same.{fits}
use Rattle.mps_model.specs.declared.call.Call.TheVariants as call
use Rattle.mps_model.specs.declared.reply.Reply.TheVariants as reply
use Rattle.mps_model.specs.Answer.{Replied}
use Rattle.mps_model.specs.Graph.{Object, size_of}
use Rattle.mps_model.specs.World.{World, extent, extents_of, live_ids, numbers_of, words_of}
use Rattle.mps_heap_spec.specs.State.{HeapState}
use Rattle.mps_refinement.specs.Answering.{says_pair}
use Rattle.mps_refinement.specs.RightStep.{IsRight}
use Rattle.mps_refinement.specs.StandsFor.{AreParts, Past}
use Rattle.mps_refinement.proofs.Worlds.Steps.{answer_is_right}
use Rattle.mps_model.specs.WellFormed.{IsWellFormed}

-- ---- runs in order

length-with_run : (r : Run) (rs : List Run) → length (with_run r rs) ≡ suc (length rs)
length-with_run r [] = refl
length-with_run r (s ∷ rs) = by_order (nat_lt r.from s.from) (length-with_run r rs)
  where
    by_order : (b : Bool) → length (with_run r rs) ≡ suc (length rs)
        → length (if b then r ∷ s ∷ rs else s ∷ with_run r rs) ≡ suc (suc (length rs))
    by_order true e = refl
    by_order false e = ap suc e

total-cons : (r : Run) (rs : List Run) → total (r ∷ rs) ≡ r.count + total rs
total-cons r rs = sum_by-cons (λ (s : Run). s.count) r rs

total-with_run : (r : Run) (rs : List Run) → total (with_run r rs) ≡ r.count + total rs
total-with_run r [] = total-cons r []
total-with_run r (s ∷ rs) = by_order (nat_lt r.from s.from) (total-with_run r rs)
  where
    by_order : (b : Bool) → total (with_run r rs) ≡ r.count + total rs
        → total (if b then r ∷ s ∷ rs else s ∷ with_run r rs) ≡ r.count + total (s ∷ rs)
    by_order true e = total-cons r (s ∷ rs)
    by_order false e =
        let first = total-cons s (with_run r rs) in
        let second = total-cons s rs in
        omega (arith, e, first, second)

pub length-in_order : (rs : List Run) → length (in_order rs) ≡ length rs
length-in_order [] = refl
length-in_order (r ∷ rs) = length-with_run r (in_order rs) ∙ ap suc (length-in_order rs)

pub total-in_order : (rs : List Run) → total (in_order rs) ≡ total rs
total-in_order [] = refl
total-in_order (r ∷ rs) = total-with_run r (in_order rs) ∙ ap (λ n. r.count + n) (total-in_order rs) ∙ sym (total-cons r rs)

-- ---- the runs of live objects

pub count_of_extents : (first : ℕ) (os : List Object) (addresses : List (Option ℕ)) → length addresses ≡ length os
    → length (extents_of os addresses) ≡ length (numbers_of is_some first addresses)
count_of_extents first [] [] long = refl
count_of_extents first [] (a ∷ addresses) long = absurd (omega (arith, long))
count_of_extents first (o ∷ os) [] long = absurd (omega (arith, long))
count_of_extents first (o ∷ os) (None ∷ addresses) long = count_of_extents (first + 1) os addresses (omega (arith, long))
count_of_extents first (o ∷ os) (Some at ∷ addresses) long = ap suc (count_of_extents (first + 1) os addresses (omega (arith, long)))

pub total_of_extents : (f : ℕ → ℕ) (first : ℕ) (os : List Object) (addresses : List (Option ℕ)) → length addresses ≡ length os
    → ((i : ℕ) (o : Object) → slice_get os i ≡ Some o → f (first + i) ≡ size_of o)
    → total (extents_of os addresses) ≡ sum_by f (numbers_of is_some first addresses)
total_of_extents f first [] [] long sizes = refl
total_of_extents f first [] (a ∷ addresses) long sizes = absurd (omega (arith, long))
total_of_extents f first (o ∷ os) [] long sizes = absurd (omega (arith, long))
total_of_extents f first (o ∷ os) (None ∷ addresses) long sizes =
    total_of_extents f (first + 1) os addresses (omega (arith, long)) (λ i x e.
    subst (λ n. f n ≡ size_of x) (let same : first + suc i ≡ (first + 1) + i = omega arith in same) (sizes (suc i) x e))
total_of_extents f first (o ∷ os) (Some at ∷ addresses) long sizes =
    let rest = total_of_extents f (first + 1) os addresses (omega (arith, long)) (λ i x e.
    subst (λ n. f n ≡ size_of x) (let same : first + suc i ≡ (first + 1) + i = omega arith in same) (sizes (suc i) x e)) in
    let here : f first ≡ size_of o =
    subst (λ n. f n ≡ size_of o) (let same : first + 0 ≡ first = omega arith in same) (sizes 0 o refl) in
    total-cons (extent at (size_of o)) (extents_of os addresses) ∙ ap (λ n. size_of o + n) rest
    ∙ ap (λ n. n + sum_by f (numbers_of is_some (first + 1) addresses)) (sym here)
    ∙ sym (sum_by-cons f first (numbers_of is_some (first + 1) addresses))

-- ---- the call

module _ {F : Type 0} (layout : F → Layout) (h : HeapState F) (w : World) (past : Past) (parts : AreParts layout past h w)
    (formed : IsWellFormed w) where
  long : length w.addresses ≡ length w.graph.objects
  long = formed.addresses

  pub blocks_are_counted : length h.segs.blocks ≡ length (live_ids w)
  blocks_are_counted =
      ap (λ (rs : List Run). length rs) parts.image.runs.blocks ∙ length-in_order (extents_of w.graph.objects w.addresses)
      ∙ count_of_extents 0 w.graph.objects w.addresses long

  pub words_are_counted : total h.segs.blocks ≡ sum_by (words_of w) (live_ids w)
  words_are_counted =
      ap (λ (rs : List Run). total rs) parts.image.runs.blocks ∙ total-in_order (extents_of w.graph.objects w.addresses)
      ∙ total_of_extents (words_of w) 0 w.graph.objects w.addresses long (λ i o e.
      subst (λ n. words_of w n ≡ size_of o) (let same : i ≡ 0 + i = omega arith in same) (ap (λ x. option_map_or size_of x 0) e))

pub live_is_right : {F : Type 0} (layout : F → Layout) (h : HeapState F) (result : ℕ × ℕ)
    → result ≡ (length h.segs.blocks, total h.segs.blocks) → IsRight layout h call.Live [] (says_pair result) h
live_is_right layout h result is =
    answer_is_right layout says_pair h call.Live refl refl (Ok (length h.segs.blocks, total h.segs.blocks)) (Ok result)
    (λ w past parts reached.
    fits (record {
      answer =
          ap (λ n. Replied (reply.Pair n (sum_by (words_of w) (live_ids w))))
          (sym (blocks_are_counted layout h w past parts reached.formed))
          ∙ ap (λ n. Replied (reply.Pair (length h.segs.blocks) n)) (sym (words_are_counted layout h w past parts reached.formed));
      world = refl;
    })) (ap Ok is)
