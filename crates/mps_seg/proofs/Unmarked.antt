-- The marks of blocks that are freed: those that aren't kept have no other mark where no block is grey.
use Rattle.std.proofs.Common.{ℕ, ◌+◌, ◌<◌, ◌≤◌, ◌≡◌, Bool, true, false, not, List, [], ◌∷◌, length, set, Contains, refl, sym, ap, ◌∙◌, subst, inl, inr, arith}
use Rattle.std.specs.List.{count_by, filter}
use Rattle.std.proofs.lemmas.Bool.{cases_Bool, cond-true, cond-false}
use Rattle.mps_base.specs.Run.{Run}
use Rattle.mps_base.specs.Trail.{Moves, with_move}
use Rattle.mps_base.specs.declared.moves.Move.TheVariants.{Free}
use Rattle.mps_base.proofs.Runs.{contains_first, contains_later}
use Rattle.mps_bits.specs.Table.{bit}
use Rattle.mps_extents.specs.Extents.{IsFirstWithin}
use Rattle.mps_extents.specs.Lost.{is_lost_run, lost_runs, without_runs, frees}
use Rattle.mps_extents.proofs.LostRuns.{lost_member}
use Rattle.mps_marks.specs.Marks.{MarkTables, without_marks}
use Rattle.mps_marks.proofs.Tally.{set_again, clear_where_none}
use Rattle.mps_seg.specs.Segs.{SegsState, at_word}
use Rattle.mps_seg.specs.Table.{IsMarked}
use Rattle.mps_seg.specs.Reclaiming.{without_block, without_blocks, moves_freed}
use Rattle.mps_seg.specs.Unmarking.{unmarked}
use Rattle.mps_seg.proofs.Marked.{marked_without}

-- none of these blocks is kept
abbrev pub AreWhite : List Run → List Bool → Type 0
AreWhite rs kept = (r : Run) → Contains rs r → (bit kept r.from ≡ false) × (r.from < length kept)

pub lost_are_white : (low high : ℕ) (kept : List Bool) (blocks : List Run) → high ≤ length kept
    → AreWhite (lost_runs low high kept blocks) kept
lost_are_white low high kept blocks within r there =
    let is = lost_member low high kept blocks r there in
    (is.lost, omega (arith, is.below, within))

pub unmarked_kept : (rs : List Run) (marks : MarkTables) → AreWhite rs marks.kept → (unmarked rs marks).kept ≡ marks.kept
unmarked_kept [] marks white = refl
unmarked_kept (r ∷ rs) marks white =
    let mine = white r (contains_first rs r) in
    let same : set marks.kept r.from false ≡ marks.kept = sym (set_again marks.kept r.from false mine.0 mine.1) in
    let P : List Bool → Type 0 = λ kept. AreWhite rs kept in
    unmarked_kept rs (without_marks r.from marks) (subst P (sym same) (λ s there. white s (contains_later rs s r there))) ∙ same

pub unmarked_same : (rs : List Run) (marks : MarkTables) → AreWhite rs marks.kept → length marks.exact ≡ length marks.kept
    → length marks.weak ≡ length marks.kept
    → count_by (λ b. b) marks.exact ≡ 0 → count_by (λ b. b) marks.weak ≡ 0 → unmarked rs marks ≡ marks
unmarked_same [] marks white size size' none none' = refl
unmarked_same (r ∷ rs) marks white size size' none none' =
    let mine = white r (contains_first rs r) in
    let within : r.from < length marks.kept = mine.1 in
    let kept : set marks.kept r.from false ≡ marks.kept = sym (set_again marks.kept r.from false mine.0 mine.1) in
    let exact : set marks.exact r.from false ≡ marks.exact =
    sym (set_again marks.exact r.from false (clear_where_none marks.exact r.from none) (omega (arith, within, size)))
    in
    let weak : set marks.weak r.from false ≡ marks.weak =
    sym (set_again marks.weak r.from false (clear_where_none marks.weak r.from none') (omega (arith, within, size')))
    in
    let same : without_marks r.from marks ≡ marks =
    ap (λ (xs : List Bool). record (without_marks r.from marks) { kept = xs }) kept
    ∙ ap (λ (xs : List Bool). record (without_marks r.from marks) { kept = marks.kept; exact = xs }) exact
    ∙ ap (λ (xs : List Bool). record marks { weak = xs }) weak
    in
    ap (unmarked rs) same
    ∙ unmarked_same rs marks (λ s there. white s (contains_later rs s r there)) size size' none none'

pub marked_unmarked : (grains : ℕ) (rs : List Run) (marks : MarkTables) (condemned : List Bool) (summaries : List ℕ)
    → IsMarked grains marks condemned summaries → IsMarked grains (unmarked rs marks) condemned summaries
marked_unmarked grains [] marks condemned summaries marked = marked
marked_unmarked grains (r ∷ rs) marks condemned summaries marked =
    marked_unmarked grains rs (without_marks r.from marks) condemned summaries
    (marked_without grains marks condemned summaries marked r.from)

-- ---- blocks that are freed all at once

pub all_freed : (rs : List Run) (s : SegsState)
    → record s { covered = without_runs rs s.covered; blocks = without_runs rs s.blocks; marks = unmarked rs s.marks } ≡ without_blocks rs s
all_freed [] s = refl
all_freed (r ∷ rs) s = all_freed rs (without_block r s)

pub all_noted : (rs : List Run) (moves : Moves) → frees rs moves ≡ moves_freed rs moves
all_noted [] moves = refl
all_noted (r ∷ rs) moves = all_noted rs (with_move moves (Free (at_word r.from)))

-- ---- block by block

module _ (low high at : ℕ) (kept : List Bool) (blocks : List Run) (first : IsFirstWithin low high blocks at) where
  kept_at : bit kept at ≡ bit kept first.run.from
  kept_at = ap (λ (k : ℕ). bit kept k) (sym first.begins)

  -- the next block is kept
  pub next_kept : bit kept at ≡ true → lost_runs low high kept blocks ≡ lost_runs (at + 1) high kept blocks
  next_kept stays =
      ap (λ (rs : List Run). filter (is_lost_run kept) rs) first.rest
      ∙ cond-false (not (bit kept first.run.from)) (first.run ∷ lost_runs (at + 1) high kept blocks) (lost_runs (at + 1) high kept blocks)
      (ap not (sym kept_at ∙ stays))

  -- the next block is lost
  pub next_lost : bit kept at ≡ false → lost_runs low high kept blocks ≡ first.run ∷ lost_runs (at + 1) high kept blocks
  next_lost lost =
      ap (λ (rs : List Run). filter (is_lost_run kept) rs) first.rest
      ∙ cond-true (not (bit kept first.run.from)) (first.run ∷ lost_runs (at + 1) high kept blocks) (lost_runs (at + 1) high kept blocks)
      (ap not (sym kept_at ∙ lost))

-- what is left to do makes of the marks now what the whole makes of those at first
pub record AreUnmarkedBelow (low high from : ℕ) (blocks : List Run) (marks marks' : MarkTables) : Type 0 where
  pub to_go : unmarked (lost_runs from high marks.kept blocks) marks' ≡ unmarked (lost_runs low high marks.kept blocks) marks
  pub same_kept : marks'.kept ≡ marks.kept

pub unmarked_next : (low high from at : ℕ) (blocks : List Run) (marks marks' marks'' : MarkTables)
    → AreUnmarkedBelow low high from blocks marks marks' → IsFirstWithin from high blocks at → at < length marks'.kept
    → (bit marks'.kept at ≡ true → marks'' ≡ marks') → (bit marks'.kept at ≡ false → marks'' ≡ without_marks at marks')
    → AreUnmarkedBelow low high (at + 1) blocks marks marks''
unmarked_next low high from at blocks marks marks' marks'' so_far first within kept lost =
    let same = so_far.same_kept in
    elim (cases_Bool (bit marks'.kept at)) [
      | inl stays ↦
          let is = next_kept from high at marks.kept blocks first (ap (λ (ks : List Bool). bit ks at) (sym same) ∙ stays) in
          record {
            to_go =
                ap (unmarked (lost_runs (at + 1) high marks.kept blocks)) (kept stays)
                ∙ sym (ap (λ (rs : List Run). unmarked rs marks') is) ∙ so_far.to_go;
            same_kept = ap (λ (m : MarkTables). m.kept) (kept stays) ∙ same;
          }
      | inr white ↦
          let is = next_lost from high at marks.kept blocks first (ap (λ (ks : List Bool). bit ks at) (sym same) ∙ white) in
          let here : marks'' ≡ without_marks first.run.from marks' =
          lost white ∙ ap (λ (k : ℕ). without_marks k marks') (sym first.begins)
          in
          record {
            to_go =
                ap (unmarked (lost_runs (at + 1) high marks.kept blocks)) here
                ∙ sym (ap (λ (rs : List Run). unmarked rs marks') is) ∙ so_far.to_go;
            same_kept =
                ap (λ (m : MarkTables). m.kept) (lost white) ∙ sym (set_again marks'.kept at false white within) ∙ same;
          }
    ]
