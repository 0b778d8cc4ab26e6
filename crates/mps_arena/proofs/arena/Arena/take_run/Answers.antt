use Rattle.std.proofs.Common.{ℕ, ◌+◌, ◌*◌, List, length, set, max, min, sym, ap, ◌∙◌, arith, subst}
use Rattle.mps_base.specs.Address.{max_block_words, words_of_grain}
use Rattle.mps_base.specs.Run.{Run}
use Rattle.mps_arena.specs.Arena.{ArenaMemory, held_after, placement_in}
use Rattle.mps_arena.specs.Grains.{runs_in}
use Rattle.mps_arena.specs.Inside.{AreHeldBelow, AreStored, IsSoundArena, memory_of}
use Rattle.mps_arena.specs.Memory.{StoredWords}
use Rattle.mps_arena.proofs.Held.{stored_after_take}
use Rattle.mps_arena.proofs.Scan.{sound_after_take, state_after_take, held_after_placing, place_found}
use Rattle.mps_arena.proofs.arena.Arena.take_run.Goals as goal

pub store_run-requires : goal.store_run-requires
store_run-requires c =
    let runs = c.self.inside.runs.items in
    let place = place_found c.deref.result.now runs c.args.grains c.in-Ok.field-0.grain c.deref.ensures.value c.requires
    c.self.invariant.0.ascending c.in-Ok.ensures.value c.in-Ok.ensures.free
    in
    omega (arith, place.below, c.self.invariant.0.size)

pub index_mut-requires : goal.index_mut-requires
index_mut-requires c =
    let runs = c.self.inside.runs.items in
    let place = place_found c.deref.result.now runs c.args.grains c.in-Ok.field-0.grain c.deref.ensures.value c.requires
    c.self.invariant.0.ascending c.in-Ok.ensures.value c.in-Ok.ensures.free
    in
    omega (arith, place.below, c.self.inside.runs.ok.0, c.requires)

pub invariant_of-self : goal.invariant_of-self
invariant_of-self c =
    let inside = c.self.inside in
    let runs = inside.runs.items in
    let grain = c.in-Ok.field-0.grain in
    let need = c.args.grains in
    let all = length inside.memory.words in
    let place = place_found c.deref.result.now runs need grain c.deref.ensures.value c.requires
    c.self.invariant.0.ascending c.in-Ok.ensures.value c.in-Ok.ensures.free
    in
    let R : StoredWords → Type 0 = λ m.
    IsSoundArena m.words (set runs grain need) (inside.committed + need) inside.limit
    × AreStored (runs_in (set runs grain need)) (length m.words) m.stored × AreHeldBelow (set runs grain need) c.in-Ok.field-0.held_below
    in
    let H : List ℕ → Type 0 = λ t. AreHeldBelow (set t grain need) c.in-Ok.field-0.held_below in
    let more = max inside.memory.stored (min all (words_of_grain * (grain + need) + max_block_words)) in
    subst R (sym c.store_run.ensures) (
      sound_after_take inside.memory.words runs inside.committed inside.limit grain need c.self.invariant.0 c.requires
          c.if-grains-self.false place.lowest place.free,
      stored_after_take runs grain need all inside.memory.stored more (omega (arith, place.below, c.requires)) place.free c.requires
          c.self.invariant.1 (omega arith) (omega arith),
      subst H c.deref.ensures.value c.in-Ok.ensures.held,
    )

pub returns-in-Ok-clause-state : goal.returns-in-Ok-clause-state
returns-in-Ok-clause-state c =
    let inside = c.self.inside in
    let all = inside.memory.words in
    let runs = inside.runs.items in
    let place = place_found c.deref.result.now runs c.args.grains c.in-Ok.field-0.grain c.deref.ensures.value c.requires
    c.self.invariant.0.ascending c.in-Ok.ensures.value c.in-Ok.ensures.free
    in
    ap (λ (m : StoredWords). memory_of m.words (set runs c.in-Ok.field-0.grain c.args.grains) inside.limit) c.store_run.ensures
    ∙ state_after_take all runs inside.limit c.in-Ok.field-0.grain c.args.grains
    (omega (arith, place.below, c.requires)) place.free c.requires
    ∙ ap (λ (held : List Run). record (memory_of all runs inside.limit) { held = held })
    (sym (held_after_placing runs inside.limit c.args.grains c.in-Ok.field-0.grain (omega (arith, c.self.invariant.0.nonempty))
    (omega (arith, c.self.invariant.0.counted, c.self.invariant.0.within_limit, c.requires, c.if-grains-self.false)) place.lowest))
    ∙ ap (λ (a : ArenaMemory). record a { held = held_after (placement_in a c.args.grains) a.held }) c.self.view_is
