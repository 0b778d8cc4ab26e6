-- What is known of the tables where a segment is condemned.
use Rattle.std.proofs.Common.{ℕ, ◌+◌, ◌≤◌, ◌≡◌, true, List, Option, Some, length, get_or, set, Contains, sym, ap, ◌∙◌, subst, arith, length-set}
use Rattle.mps_base.specs.Run.{Run}
use Rattle.mps_base.specs.Address.{grain_of}
use Rattle.mps_base.specs.Segment.{Segment}
use Rattle.mps_base.proofs.Runs.{contained_bounds}
use Rattle.mps_seg.specs.Collecting.{asked_of}
use Rattle.mps_seg.specs.Segs.{SegsState}
use Rattle.mps_seg.specs.Table.{IsMarked, AreAskedNoted, asked_of_entry}
use Rattle.mps_seg.specs.declared.entry.CondemnedSegment.{CondemnedSegment}
use Rattle.mps_seg.specs.declared.entry.Entry.{Entry}
use Rattle.mps_seg.specs.declared.entry.Entry.TheVariants.{Free}
use Rattle.mps_seg.specs.declared.segs.Segs.TheInside.{Inside}
use Rattle.mps_seg.proofs.AskedNoted.{IsNotedFor, noted_after_condemn}
use Rattle.mps_seg.proofs.Entries.{entry_at_seen_base, entry_is_held}
use Rattle.mps_seg.proofs.FirstGrain.{in_condemned}
use Rattle.mps_seg.proofs.Seen.{seen_by, IsSoundInside}

module _ (s : Inside) (seen : SegsState) (base : ℕ) (t : Segment) (sound : IsSoundInside s) (is : seen_by s ≡ seen)
    (there : Contains seen.segments t) (begins : t.base ≡ base)
  where
    abbrev run : Run
    run = record { from = grain_of base; count = t.grains }

    run_listed : Contains s.arena.held run
    run_listed =
        let entry = entry_at_seen_base s seen base t is there begins in
        let P : List Run → Type 0 = λ rs. Contains rs run in
        subst P (sym sound.0.held) (entry_is_held s.table.items (grain_of base) t.grains t.pool t.generation t.rank entry.is)

    pub grains_within : grain_of base + t.grains ≤ length s.white.items
    grains_within =
        let bounds = contained_bounds 1 (s.arena.grains + 1) s.arena.held run sound.0.ascending run_listed in
        omega (arith, bounds.2, sound.4.white_size)

    pub marked_condemned : IsMarked s.arena.grains s.marks (set s.condemned (grain_of base) true) s.summaries.items
    marked_condemned = record {
      kept_size = sound.2.kept_size;
      exact_size = sound.2.exact_size;
      weak_size = sound.2.weak_size;
      condemned_size = length-set s.condemned (grain_of base) true ∙ sound.2.condemned_size;
      summaries_size = sound.2.summaries_size;
    }

    pub noted_condemned : (white : List (Option CondemnedSegment)) → IsNotedFor s.white.items white run (Some (asked_of t))
        → AreAskedNoted (s.arena.grains + 1) s.firsts.items s.table.items (set s.condemned (grain_of base) true) white
    noted_condemned white written =
        let entry = entry_at_seen_base s seen base t is there begins in
        let asked : Some (asked_of t) ≡ asked_of_entry (get_or s.table.items (grain_of base) Free) =
        sym (ap (λ (e : Entry). asked_of_entry e) entry.is)
        in
        let P : Option CondemnedSegment → Type 0 = λ o. IsNotedFor s.white.items white run o in
        noted_after_condemn (s.arena.grains + 1) s.arena.held s.firsts.items s.bounds s.extents.covered s.table.items s.condemned
        s.white.items sound.0.ascending sound.1 sound.4 run run_listed white (in_condemned s seen base t sound is there begins)
        (subst P asked written)
