use Rattle.std.proofs.Common.{ℕ, ◌+◌, ◌*◌, ◌<◌, ◌≡◌, Option, length, ap, ◌∙◌, arith}
use Rattle.std.proofs.Math.Pow.{pow-lt}
use Rattle.std.specs.Prelude.{◌^◌, ◌%◌, slice_set, slice_index, bit_or}
use Rattle.std.proofs.lemmas.List.{get_or_read}
use Rattle.mps_arena.specs.Arena.{ArenaMemory}
use Rattle.mps_base.specs.Address.{Grain, word_of}
use Rattle.mps_base.specs.Zones.{zone_bit, zone_bit_of}
use Rattle.mps_seg.specs.Segs.{SegsState}
use Rattle.mps_seg.specs.Collecting.{noting_in}
use Rattle.mps_seg.specs.Table.{segs_state}
use Rattle.mps_seg.proofs.HeldGrain.{in_summaries}
use Rattle.mps_seg.proofs.HeldWords.{word_is_held}
use Rattle.mps_seg.proofs.segs.Segs.set_reference.Goals as goal

-- the bit of a zone is in a word
zone_written : (grain : ℕ) → 1 * 2 ^ (grain % 64) % 2 ^ 64 ≡ zone_bit (grain % 64)
zone_written grain =
    let few : 2 ^ (grain % 64) < 2 ^ 64 = pow-lt {i = grain % 64} {j = 64} (omega arith) in
    omega (arith, few)

pub index_mut-requires : goal.index_mut-requires
index_mut-requires c =
    let s = c.self.inside in
    let within =
    in_summaries s c.args.self.now c.args.holder.0 c.self.invariant c.self.view_is c.held_grain-grain.result c.held_grain-grain.ensures
    in
    omega (arith, within, s.summaries.ok.0)

pub set_word_from-requires-clause-held : goal.set_word_from-requires-clause-held
set_word_from-requires-clause-held c =
    word_is_held c.self.inside c.args.self.now c.self.invariant c.self.view_is c.args.holder.0 c.requires.held.0 c.requires.held.1

pub set_word_from-requires-clause-inside : goal.set_word_from-requires-clause-inside
set_word_from-requires-clause-inside c =
    let long : length c.self.inside.arena.words ≡ length c.args.self.now.words = ap (λ (s : SegsState). length s.words) c.self.view_is in
    omega (arith, long, c.requires.inside)

pub returns : goal.returns
returns c =
    let s = c.self.inside in
    let now = c.args.self.now in
    let n = c.held_grain-grain.result in
    let place = word_of c.args.holder.0 + c.args.cell in
    let within = in_summaries s now c.args.holder.0 c.self.invariant c.self.view_is n c.held_grain-grain.ensures in
    let old = c.index_mut.result.now in
    let zone : 1 * 2 ^ (c.grain.result % 64) % 2 ^ 64 ≡ zone_bit_of c.args.target.0 =
    zone_written c.grain.result ∙ ap (λ (g : ℕ). zone_bit (g % 64)) c.grain.ensures
    in
    let read : old ≡ slice_index now.summaries n =
    get_or_read s.summaries.items n old within c.index_mut.ensures.value 0
    ∙ ap (λ (x : SegsState). slice_index x.summaries n) c.self.view_is
    in
    let W : SegsState → ℕ → SegsState =
    λ x z. record x { words = slice_set x.words place c.args.word; summaries = slice_set x.summaries n z }
    in
    let given = bit_or old (1 * 2 ^ (c.grain.result % 64) % 2 ^ 64) in
    let written : SegsState = record now { words = slice_set now.words place c.args.word } in
    record {
      state =
          ap (λ (a : ArenaMemory). segs_state a s.table.items s.extents s.marks s.condemned (slice_set s.summaries.items n given))
          c.set_word_from.ensures
          ∙ ap (λ (x : SegsState). W x given) c.self.view_is
          ∙ ap (λ (z : ℕ). W now (bit_or old z)) zone
          ∙ ap (λ (x : ℕ). W now (bit_or x (zone_bit_of c.args.target.0))) read
          ∙ ap (λ (o : Option Grain). noting_in written o c.args.target.0) c.held_grain-grain.ensures;
    }
