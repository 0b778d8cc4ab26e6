use Rattle.std.proofs.Common.{slice_range, ◌+◌, refl, ap, ◌∙◌}
use Rattle.mps_arena.specs.Arena.{ArenaMemory, with_words}
use Rattle.mps_arena.proofs.arena.Arena.lend_mut.Goals as goal
use Rattle.mps_base.specs.Address.{word_of}

pub returns : goal.returns
returns c =
    let from = word_of c.args.at.0 in (
      (refl, λ w. ap (λ (a : ArenaMemory). record a { words = with_words a.words from w }) c.self.view_is),
      record {
        writes_back = tt;
        value = c.slice_mut.ensures.value ∙ ap
            (λ (a : ArenaMemory). slice_range a.words from (from + c.args.words)) c.self.view_is;
      },
    )
