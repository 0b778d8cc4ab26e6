use Rattle.std.proofs.Common.{◌≡◌, length, sym, ap, ◌∙◌, subst, arith}
use Rattle.mps_base.specs.Address.{word_of}
use Rattle.mps_arena.specs.Arena.{ArenaMemory, AreHeldWords}
use Rattle.mps_arena.specs.Grains.{runs_in}
use Rattle.mps_arena.specs.Memory.{StoredWords}
use Rattle.mps_arena.proofs.Padded.{copied_long}
use Rattle.mps_arena.proofs.Held.{held_in_arena, held_are_stored}
use Rattle.mps_arena.proofs.arena.Arena.copy_held.Goals as goal

pub copy_stored-requires-clause-from_stored : goal.copy_stored-requires-clause-from_stored
copy_stored-requires-clause-from_stored c =
    let inside = c.self.inside in
    let at = word_of c.args.from.0 in
    let n = c.args.words in
    let held = subst (λ (a : ArenaMemory). AreHeldWords a.held at n) (sym c.self.view_is) c.requires.from_held in
    let fits = held_in_arena inside.memory.words inside.runs.items inside.committed inside.limit at n c.self.invariant.0 held in
    omega (
      arith,
      c.word.ensures,
      held_are_stored (runs_in inside.runs.items) (length inside.memory.words) inside.memory.stored at n c.self.invariant.1 held fits,
    )

pub copy_stored-requires-clause-to_stored : goal.copy_stored-requires-clause-to_stored
copy_stored-requires-clause-to_stored c =
    let inside = c.self.inside in
    let at = word_of c.args.to.0 in
    let n = c.args.words in
    let held = subst (λ (a : ArenaMemory). AreHeldWords a.held at n) (sym c.self.view_is) c.requires.to_held in
    let fits = held_in_arena inside.memory.words inside.runs.items inside.committed inside.limit at n c.self.invariant.0 held in
    omega (
      arith,
      c.word-2.ensures,
      held_are_stored (runs_in inside.runs.items) (length inside.memory.words) inside.memory.stored at n c.self.invariant.1 held fits,
    )

pub invariant_of-self : goal.invariant_of-self
invariant_of-self c =
    let inside = c.self.inside in
    let sound = c.self.invariant.0 in
    let words = inside.memory.words in
    let runs = inside.runs.items in
    let n = c.args.words in
    let source = subst (λ (a : ArenaMemory). AreHeldWords a.held (word_of c.args.from.0) n) (sym c.self.view_is) c.requires.from_held in
    let place = subst (λ (a : ArenaMemory). AreHeldWords a.held (word_of c.args.to.0) n) (sym c.self.view_is) c.requires.to_held in
    let source_in = held_in_arena words runs inside.committed inside.limit (word_of c.args.from.0) n sound source in
    let place_in = held_in_arena words runs inside.committed inside.limit (word_of c.args.to.0) n sound place in
    let long : length c.copy_stored.new.self.words ≡ length words =
    ap (λ (m : StoredWords). length m.words) c.copy_stored.ensures
    ∙ copied_long words c.word.result c.word-2.result n (omega (arith, c.word.ensures, source_in))
    (omega (arith, c.word-2.ensures, place_in))
    in
    let same = ap (λ (m : StoredWords). m.stored) c.copy_stored.ensures in (
      record {
        nonempty = sound.nonempty;
        at_most = sound.at_most;
        size = long ∙ sound.size;
        ascending = sound.ascending;
        counted = sound.counted;
        within_limit = sound.within_limit;
      },
      λ r there. omega (arith, long, same, c.self.invariant.1 r there),
      c.self.invariant.2,
    )
