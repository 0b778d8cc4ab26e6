-- The block over a word, where the runs of blocks are those of live objects.
use Rattle.std.proofs.Common.{◌≡◌, ◌∙◌, ℕ, ◌+◌, ◌*◌, ◌%◌, ◌<◌, ◌≤◌, true, List, [], ◌∷◌, Option, Some, None, Contains, refl, sym, ap, subst, inl, inr, arith}
use Rattle.std.proofs.lemmas.Bool.{cases_Bool, cond-true, cond-false, and_parts, and_from, leb-true, ltb-true, le-leb, lt-ltb}
use Rattle.std.proofs.lemmas.Option.{none-some, same_Some}
use Rattle.std.specs.Prelude.{nat_le, nat_lt}
use Rattle.mps_base.specs.Address.{Address, Id, Word, word_of}
use Rattle.mps_base.specs.Run.{Run, in_order}
use Rattle.mps_base.proofs.Runs.{contains_first, contains_later}
use Rattle.mps_extents.specs.Extents.{run_over, has_word}
use Rattle.mps_extents.proofs.ApartRuns.{has_word-parts}
use Rattle.mps_extents.proofs.RunOver.{run_over_in}
use Rattle.mps_model.specs.Graph.{size_of}
use Rattle.mps_model.specs.World.{extent, extents_of, is_word_in}
use Rattle.mps_trace_laws.specs.Image.Memory.{Setting, Memory}
use Rattle.mps_trace_laws.specs.Image.Image.{LieApart, RunsStand}
use Rattle.mps_trace_laws.proofs.Image.BlockRuns.{IsExtent, run_of_object, run_there, extents_ascend}
use Rattle.mps_trace_laws.specs.Nails.Nailed.{LiesInBytes, IsBlockWithWord, IsBlockOver}

-- ---- bytes and words

module _ (at size word : ℕ) (aligned : at % 8 ≡ 0) where
  pub word_inside : is_word_in true at size word ≡ true → (word_of at ≤ word_of word) × (word_of word < word_of at + size)
  word_inside h =
      let parts = and_parts (nat_le at word) (nat_lt word (at + 8 * size)) h in
      let from = leb-true at word parts.0 in
      let below = ltb-true word (at + 8 * size) parts.1 in
      (omega (arith, from), omega (arith, below, aligned))

  pub byte_inside : word_of at ≤ word_of word → word_of word < word_of at + size → is_word_in true at size word ≡ true
  byte_inside from below =
      and_from (nat_le at word) (nat_lt word (at + 8 * size)) (le-leb at word (omega (arith, from, aligned)))
      (lt-ltb word (at + 8 * size) (omega (arith, below, aligned)))

-- ---- the run that is found

-- a run over a word begins at a number
pub record RunOver (rs : List Run) (word n : ℕ) : Type 0 where
  pub run : Run
  pub there : Contains rs run
  pub begins : run.from ≡ n
  pub has : has_word run word ≡ true

pub run_that_is_over : (rs : List Run) (word n : ℕ) → run_over rs word ≡ Some n → RunOver rs word n
run_that_is_over [] word n is = absurd (none-some n is)
run_that_is_over (r ∷ rs) word n is =
    elim (cases_Bool (has_word r word)) [
      | inl here ↦
          record {
            run = r;
            there = contains_first rs r;
            begins = same_Some r.from n (sym (cond-true (has_word r word) (Some r.from) (run_over rs word) here) ∙ is);
            has = here;
          }
      | inr other ↦
          let rest = run_that_is_over rs word n (sym (cond-false (has_word r word) (Some r.from) (run_over rs word) other) ∙ is) in
          record { run = rest.run; there = contains_later rs rest.run r rest.there; begins = rest.begins; has = rest.has }
    ]

-- ---- the block of a word

module _ (s : Setting) (m : Memory) (addresses : List (Option Address)) (word : ℕ) (placed : LieApart s addresses)
    (runs : RunsStand s m addresses) where
  found_block : (id : Id) (at : Address) → LiesInBytes s.objects addresses word id at → run_over m.blocks (word_of word) ≡ Some (word_of at)
  found_block id at l =
      let inside = word_inside at (size_of l.object) word (placed.address id at l.address).aligned l.inside in
      subst (λ (bs : List Run). run_over bs (word_of word) ≡ Some (word_of at)) (sym runs.blocks)
      (run_over_in 0 s.size (in_order (extents_of s.objects addresses)) (extent at (size_of l.object)) (word_of word)
      (extents_ascend s addresses placed) (run_there s.objects addresses id at l.object l.address l.there) inside.0 inside.1)

  object_of_run : (n : Word) (r : Run) → has_word r (word_of word) ≡ true → r.from ≡ n → IsExtent s.objects addresses r
      → IsBlockWithWord s.objects addresses word n
  object_of_run n r has begins x =
      let here : has_word (extent x.at (size_of x.object)) (word_of word) ≡ true =
      subst (λ (q : Run). has_word q (word_of word) ≡ true) x.is has
      in
      let parts = has_word-parts (extent x.at (size_of x.object)) (word_of word) here in
      record {
        id = x.id;
        at = x.at;
        lies = record {
          object = x.object;
          address = x.address;
          there = x.there;
          inside = byte_inside x.at (size_of x.object) word (placed.address x.id x.at x.address).aligned parts.0 parts.1;
        };
        begins = sym begins ∙ ap (λ (q : Run). q.from) x.is;
      }

  only_block : (n : Word) → run_over m.blocks (word_of word) ≡ Some n → IsBlockWithWord s.objects addresses word n
  only_block n is =
      let in_runs : run_over (in_order (extents_of s.objects addresses)) (word_of word) ≡ Some n =
      subst (λ (bs : List Run). run_over bs (word_of word) ≡ Some n) runs.blocks is
      in
      let over = run_that_is_over (in_order (extents_of s.objects addresses)) (word_of word) n in_runs in
      object_of_run n over.run over.has over.begins (run_of_object s.objects addresses over.run over.there)

  no_block : (o : Option Word) → run_over m.blocks (word_of word) ≡ o
      → ((id : Id) (at : Address) → LiesInBytes s.objects addresses word id at → ⊥) → o ≡ None
  no_block None is none = refl
  no_block (Some n) is none = let b = only_block n is in absurd (none b.id b.at b.lies)

  pub block_over : IsBlockOver s.objects addresses m.blocks word
  block_over = record {
    found = found_block;
    only = only_block;
    none = λ none. no_block (run_over m.blocks (word_of word)) refl none;
  }
