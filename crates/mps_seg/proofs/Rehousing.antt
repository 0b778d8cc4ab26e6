-- What is known of the tables where a block leaves its words, and has others.
use Rattle.std.proofs.Common.{ℕ, ◌<◌, ◌≡◌, Contains, List, refl, sym, subst}
use Rattle.mps_base.specs.Address.{word_of}
use Rattle.mps_base.specs.Run.{Run, without_run}
use Rattle.mps_arena.specs.Arena.{ArenaMemory, AreHeldWords}
use Rattle.mps_extents.specs.Extents.{ExtentLists}
use Rattle.mps_marks.specs.Marks.{without_marks}
use Rattle.mps_seg.specs.Moving.{IsBlockOf}
use Rattle.mps_seg.specs.Segs.{SegsState, CanCover, held_runs}
use Rattle.mps_seg.specs.Table.{IsHeld, with_any_gap}
use Rattle.mps_seg.specs.declared.entry.Entry.{Entry}
use Rattle.mps_seg.proofs.Covering.{Covering, covering, Uncovering, uncovering, run_at}
use Rattle.mps_seg.proofs.Marked.{marked_without}
use Rattle.mps_seg.proofs.Reopening.{open_after_without}
use Rattle.mps_seg.proofs.Seen.{seen_by, IsSoundInside}
use Rattle.mps_seg.specs.declared.segs.Segs.TheInside.{Inside}

module _
    (s : Inside) (seen : SegsState) (at to words : ℕ) (sound : IsSoundInside s) (is : seen_by s ≡ seen) (nonzero : 0 < words)
    (block : IsBlockOf seen at words) (free : CanCover seen (run_at to words))
  where
    pub leaving : Uncovering s at words
    leaving =
        let P : SegsState → Type 0 = λ x. Contains x.covered (run_at at words) in
        uncovering s at words sound (subst P (sym is) block.covered)

    -- the tables when its words are free
    abbrev left : Inside
    left = record s {
      extents = record s.extents {
        covered = without_run (word_of at) s.extents.covered;
        blocks = without_run (word_of at) s.extents.blocks;
      };
      marks = without_marks (word_of at) s.marks;
      bounds = with_any_gap s.firsts.items s.bounds at;
    }

    left_sound : IsSoundInside left
    left_sound = (
      leaving.held (without_run (word_of at) s.extents.blocks) s.extents.reservations,
      leaving.bounded,
      marked_without s.arena.grains s.marks s.condemned s.summaries.items sound.2 (word_of at),
      sound.3,
      sound.4,
    )

    left_free : CanCover (seen_by left) (run_at to words)
    left_free =
        let P : SegsState → Type 0 = λ x. CanCover x (run_at to words) in
        let x = seen_by s in
        open_after_without x.grains (held_runs x) x.covered (run_at to words) (word_of at) (subst P (sym is) free)

    pub coming : Covering left to words
    coming = covering left (seen_by left) to words left_sound refl nonzero left_free

    pub marked : IsSoundInside left
    marked = left_sound

    -- the words that it has and those that it will have lie in held grains
    pub old_words_held : AreHeldWords s.arena.held (word_of at) words
    old_words_held =
        let P : SegsState → Type 0 = λ x. Contains x.covered (run_at at words) in
        let lies = sound.0.inside (run_at at words) (subst P (sym is) block.covered) in
        record { run = lies.grains; listed = lies.there; after = lies.after; before = lies.before }

    pub new_words_held : AreHeldWords s.arena.held (word_of to) words
    new_words_held =
        let P : SegsState → Type 0 = λ x. CanCover x (run_at to words) in
        let lies = (subst P (sym is) free).inside in
        let Q : List Run → Type 0 = λ rs. Contains rs lies.grains in
        record { run = lies.grains; listed = subst Q (sym sound.0.held) lies.there; after = lies.after; before = lies.before }

-- what is held doesn't depend on the words
pub held_with_words : (a : ArenaMemory) (words : List ℕ) (table : List Entry) (extents : ExtentLists) → IsHeld a table extents
    → IsHeld (record a { words = words }) table extents
held_with_words a words table extents held = record {
  held = held.held;
  ascending = held.ascending;
  at_most = held.at_most;
  size = held.size;
  covered_size = held.covered_size;
  covered_ascending = held.covered_ascending;
  nonempty = held.nonempty;
  inside = held.inside;
}
