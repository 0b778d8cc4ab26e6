use Rattle.std.proofs.Common.{ℕ, length, take, drop, refl, sym, ap, ◌∙◌, subst, arith}
use Rattle.mps_base.specs.Address.{word_of}
use Rattle.mps_arena.specs.Arena.{ArenaMemory, AreHeldWords, with_words}
use Rattle.mps_arena.specs.Grains.{runs_in}
use Rattle.mps_arena.specs.Inside.{memory_of}
use Rattle.mps_arena.proofs.Loans.{with_words_long}
use Rattle.mps_arena.proofs.Held.{held_in_arena, held_are_stored, block_is_stored}
use Rattle.mps_arena.proofs.arena.Arena.words_from_mut.Goals as goal

pub words_from_mut-requires : goal.words_from_mut-requires
words_from_mut-requires c =
    let inside = c.self.inside in
    let from = word_of c.args.at.0 in
    let held = subst (λ (a : ArenaMemory). AreHeldWords a.held from 1) (sym c.self.view_is) c.requires.held in
    let fits = held_in_arena inside.memory.words inside.runs.items inside.committed inside.limit from 1 c.self.invariant.0 held in
    omega (
      arith,
      c.word.ensures,
      held_are_stored (runs_in inside.runs.items) (length inside.memory.words) inside.memory.stored from 1 c.self.invariant.1 held fits,
    )

pub invariant_of-self-lent : goal.invariant_of-self-lent
invariant_of-self-lent c w =
    let inside = c.self.inside in
    let sound = c.self.invariant.0 in
    let long = with_words_long inside.memory.words (take (length c.words_from_mut.result.now) w) c.word.result in (
      record {
        nonempty = sound.nonempty;
        at_most = sound.at_most;
        size = long ∙ sound.size;
        ascending = sound.ascending;
        counted = sound.counted;
        within_limit = sound.within_limit;
      },
      λ r there. omega (arith, long, c.self.invariant.1 r there),
      c.self.invariant.2,
    )

pub returns : goal.returns
returns c =
    let inside = c.self.inside in
    let at = word_of c.args.at.0 in
    let m = length c.words_from_mut.result.now in
    let held = subst (λ (a : ArenaMemory). AreHeldWords a.held at 1) (sym c.self.view_is) c.requires.held in
    let long = ap (λ (a : ArenaMemory). length a.words) c.self.view_is in (
      (
        refl,
        λ w. ap (λ (k : ℕ). memory_of (with_words inside.memory.words k (take m w)) inside.runs.items inside.limit) c.word.ensures
            ∙ ap (λ (a : ArenaMemory). record a { words = with_words a.words at (take m w) }) c.self.view_is,
      ),
      record {
        writes_back = tt;
        value = c.words_from_mut.ensures.value ∙ ap (λ (k : ℕ). take m (drop k inside.memory.words)) c.word.ensures
            ∙ ap (λ (a : ArenaMemory). take m (drop at a.words)) c.self.view_is;
        complete = λ n few within. omega (
          arith,
          c.word.ensures,
          c.words_from_mut.ensures.len,
          block_is_stored (runs_in inside.runs.items) (length inside.memory.words) inside.memory.stored at n c.self.invariant.1 held few
              (omega (arith, long, within)),
        );
      },
    )
