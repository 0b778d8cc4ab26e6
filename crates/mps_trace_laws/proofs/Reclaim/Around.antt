-- The image stays where no word of an object or a reservation changes; and which words runs have.
use Rattle.std.proofs.Common.{◌≡◌, ◌∙◌, ℕ, ◌<◌, ◌≤◌, true, sym, ap, subst, List, [], ◌∷◌, ◌++◌, length, Option, Contains, inl, inr, arith}
use Rattle.std.proofs.lemmas.Bool.{cases_Bool, cond-true, cond-false}
use Rattle.std.proofs.lemmas.Option.{none-some}
use Rattle.std.specs.Prelude.{slice_index}
use Rattle.mps_base.specs.Address.{Address, Word}
use Rattle.mps_base.specs.Run.{Run, end_of, runs_within}
use Rattle.mps_base.proofs.Runs.{contains_cases, contains_first, contains_later}
use Rattle.mps_extents.specs.Extents.{is_covered, has_word}
use Rattle.mps_amc.proofs.Within.{within_here, within_later, sides, word_of_run}
use Rattle.mps_model.specs.Graph.{Object, Reservation, entry_at}
use Rattle.mps_model.specs.Checked.{head_of_body}
use Rattle.mps_abstract.specs.Colours.{Colours}
use Rattle.mps_trace_laws.specs.Image.Memory.{Setting, Memory, Lies, LiesReserved}
use Rattle.mps_trace_laws.specs.Image.Image.{CellSet, ImageStands, IsCellWord, IsFixedWord}
use Rattle.mps_trace_laws.proofs.Reclaim.LostRuns.{contains_none}

pub image_around : (s : Setting) (m : Memory) (words : List ℕ) (addresses : List (Option Address)) (k : Colours) (done : CellSet)
    → s.at_flip ≡ [] → length words ≡ length m.words
    → ((id i : ℕ) (o : Object) (n : Word) → Lies s.objects addresses id i o n → slice_index words n ≡ slice_index m.words n)
    → ((point i : ℕ) (r : Reservation) (n : Word) → LiesReserved s.points s.point_memories point i r n
    → slice_index words n ≡ slice_index m.words n)
    → ImageStands s m addresses k done → ImageStands s (record m { words = words }) addresses k done
image_around s m words addresses k done none long same reserved st = record {
  placed = st.placed;
  words = record {
    long = long ∙ st.words.long;
    cells = λ id i o n c read l cell.
        subst (λ w. IsCellWord addresses s.at_flip (head_of_body o.body) c w) (sym (same id i o n l))
        (st.words.cells id i o n c read l cell);
    forwarded = λ id from to o was now apart object. absurd (none-some from (ap (λ ps. entry_at ps id) (sym none) ∙ was));
  };
  fixed = record {
    cells = λ id i o n c d l cell.
        subst (λ w. IsFixedWord s.condemned addresses k (head_of_body o.body) c w) (sym (same id i o n l))
        (st.fixed.cells id i o n c d l cell);
    reserved = λ point i r n c l cell.
        subst (λ w. IsFixedWord s.condemned addresses k r.head c w) (sym (reserved point i r n l)) (st.fixed.reserved point i r n c l cell);
  };
  marks = st.marks;
  runs = record { blocks = st.runs.blocks; reservations = st.runs.reservations; covered = st.runs.covered };
}

-- a run that begins between two words is among those that do
pub among_within : (low high : ℕ) (rs : List Run) (r : Run) → Contains rs r → low ≤ r.from → r.from < high
    → Contains (runs_within low high rs) r
among_within low high [] r there above below = absurd (contains_none r there)
among_within low high (q ∷ rs) r there above below =
    elim (contains_cases rs r q there) [
      | inl same ↦
          let from : q.from ≡ r.from = ap (λ (x : Run). x.from) same in
          subst (λ xs. Contains xs r) (sym (within_here low high q rs (omega (arith, from, above)) (omega (arith, from, below))))
          (subst (λ (x : Run). Contains (q ∷ runs_within low high rs) x) same (contains_first (runs_within low high rs) q))
      | inr later ↦
          let rest = among_within low high rs r later above below in
          elim (sides low high q.from) [
            | inl (from, under) ↦
                subst (λ xs. Contains xs r) (sym (within_here low high q rs from under))
                (contains_later (runs_within low high rs) r q rest)
            | inr out ↦ subst (λ xs. Contains xs r) (sym (within_later low high q rs out)) rest
          ]
    ]

-- a word of a run is covered
pub covered_by : (rs : List Run) (r : Run) (n : ℕ) → Contains rs r → r.from ≤ n → n < end_of r → is_covered rs n ≡ true
covered_by [] r n there above below = absurd (contains_none r there)
covered_by (q ∷ rs) r n there above below =
    elim (contains_cases rs r q there) [
      | inl same ↦
          let from : q.from ≡ r.from = ap (λ (x : Run). x.from) same in
          let end : end_of q ≡ end_of r = ap (λ (x : Run). end_of x) same in
          word_of_run q rs n (omega (arith, from, above)) (omega (arith, end, below))
      | inr later ↦
          elim (cases_Bool (has_word q n)) [
            | inl has ↦ cond-true (has_word q n) true (is_covered rs n) has
            | inr has_not ↦ cond-false (has_word q n) true (is_covered rs n) has_not ∙ covered_by rs r n later above below
          ]
    ]

pub contains_left : (rs more : List Run) (r : Run) → Contains rs r → Contains (rs ++ more) r
contains_left [] more r there = absurd (contains_none r there)
contains_left (q ∷ rs) more r there =
    elim (contains_cases rs r q there) [
      | inl same ↦ subst (λ (x : Run). Contains (q ∷ (rs ++ more)) x) same (contains_first (rs ++ more) q)
      | inr later ↦ contains_later (rs ++ more) r q (contains_left rs more r later)
    ]
