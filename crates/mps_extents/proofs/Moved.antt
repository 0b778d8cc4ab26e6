-- The tables after a block has moved: the words where it was are free, and those where it is now are a block.
use Rattle.std.proofs.Common.{ℕ, ◌+◌, ◌-◌, ◌<◌, ◌≡◌, true, false, Contains, set, sym, ap, ◌∙◌, subst, arith}
use Rattle.mps_base.specs.Run.{Run, IsAscending, with_run, without_run}
use Rattle.mps_bits.specs.Table.{with_range}
use Rattle.mps_extents.specs.Extents.{ExtentLists}
use Rattle.mps_extents.specs.Inside.{either, extents, lists_of, AreSoundTables, AreApart, IsTally}
use Rattle.mps_extents.specs.declared.extents.Extents.TheInside.{Inside}
use Rattle.mps_extents.proofs.EitherBits.{begins_of}
use Rattle.mps_extents.proofs.PutExtent.{PutFits, put_fits}
use Rattle.mps_extents.proofs.Tables.{ended, dropped_is_sound, dropped_apart, dropped_lists, commit_block_is_sound, commit_block_apart, commit_block_lists}
use Rattle.mps_extents.proofs.TakenExtent.{BlockFits, block_fits}
use Rattle.mps_extents.proofs.Tally.{blocks_ascend, tally_put, tally_taken, tally_has}

-- the lists without a block, and with another
abbrev pub without_block : ℕ → ExtentLists → ExtentLists
without_block from e = record e { covered = without_run from e.covered; blocks = without_run from e.blocks }

abbrev pub with_block : Run → ExtentLists → ExtentLists
with_block r e = record e { covered = with_run r e.covered; blocks = with_run r e.blocks }

module _
    (t : Inside) (seen : ExtentLists) (from words : ℕ) (sound : AreSoundTables t.covered (begins_of t) t.ends t.blocks)
    (apart : AreApart t.opens t.blocks) (is : lists_of (begins_of t) t.ends t.blocks ≡ seen)
    (listed : Contains seen.blocks (record { from = from; count = words }))
  where
    abbrev r : Run
    r = record { from = from; count = words }

    pub old_fits : BlockFits t from words
    old_fits = block_fits t seen from words sound is listed

    -- the tables when its words are free
    abbrev pub between : Inside
    between = record t { covered = with_range t.covered from (from + words) false; blocks = set t.blocks from false }

    between_sound : AreSoundTables between.covered (begins_of between) between.ends between.blocks
    between_sound = dropped_is_sound t.covered t.opens t.ends t.blocks r apart old_fits.fits.taken old_fits.block

    between_apart : AreApart between.opens between.blocks
    between_apart = dropped_apart t.covered t.opens t.ends t.blocks r apart old_fits.fits.taken old_fits.block

    between_is : lists_of (begins_of between) between.ends between.blocks ≡ without_block from seen
    between_is =
        dropped_lists t.covered t.opens t.ends t.blocks r apart old_fits.fits.taken old_fits.block
        ∙ ap (λ (e : ExtentLists). without_block from e) is

    listed_inside : Contains (extents t.blocks t.ends) r
    listed_inside = let P : ExtentLists → Type 0 = λ e. Contains e.blocks r in subst P (sym is) listed

    module _
        (to : ℕ) (nonzero : 0 < words)
        (free : IsAscending 0 seen.size (with_run (record { from = to; count = words }) (without_run from seen.covered)))
      where
        abbrev q : Run
        q = record { from = to; count = words }

        pub new_fits : PutFits between to words
        new_fits = put_fits between (without_block from seen) to words between_sound between_is nonzero free

        pub moved_sound : AreSoundTables (with_range between.covered to (to + words) true) (either t.opens (set between.blocks to true))
            (ended t.ends to words) (set between.blocks to true)
        moved_sound = commit_block_is_sound between.covered t.opens t.ends between.blocks to words between_apart new_fits.put

        pub moved_apart : AreApart t.opens (set between.blocks to true)
        moved_apart = commit_block_apart between.covered t.opens t.ends between.blocks to words between_apart new_fits.put

        lists : lists_of (either t.opens (set between.blocks to true)) (ended t.ends to words) (set between.blocks to true)
            ≡ with_block q (lists_of (begins_of between) between.ends between.blocks)
        lists = commit_block_lists between.covered t.opens t.ends between.blocks to words between_apart new_fits.put

        pub moved_lists : lists_of (either t.opens (set between.blocks to true)) (ended t.ends to words) (set between.blocks to true)
            ≡ with_block q (without_block from seen)
        moved_lists = lists ∙ ap (λ (e : ExtentLists). with_block q e) between_is

        -- there are as many blocks, with as many words
        pub moved_tally : IsTally (extents t.blocks t.ends) t.live_blocks t.live_words
            → IsTally (extents (set between.blocks to true) (ended t.ends to words)) t.live_blocks t.live_words
        moved_tally tally =
            let ascend = blocks_ascend t.covered (begins_of t) t.ends t.blocks sound in
            let fewer =
            tally_taken 0 _ r (extents t.blocks t.ends) (extents between.blocks between.ends) t.live_blocks t.live_words tally ascend
            listed_inside
            (ap (λ (e : ExtentLists). e.blocks)
            (dropped_lists t.covered t.opens t.ends t.blocks r apart old_fits.fits.taken old_fits.block))
            in
            let again =
            tally_put q (extents between.blocks between.ends) (extents (set between.blocks to true) (ended t.ends to words))
            (t.live_blocks - 1) (t.live_words - words) fewer (ap (λ (e : ExtentLists). e.blocks) lists)
            in
            let has = tally_has 0 _ (extents t.blocks t.ends) r t.live_blocks t.live_words tally ascend listed_inside in
            record { counted = omega (arith, again.counted, has.0); summed = omega (arith, again.summed, has.1) }
