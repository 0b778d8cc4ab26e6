use Rattle.std.proofs.Common.{ℕ, ◌≤◌, ◌∙◌, length, sym, subst, arith}
use Rattle.std.specs.Prelude.{IsTrue}
use Rattle.mps_base.specs.Address.{word_of}
use Rattle.mps_amc.specs.Moving.{size_at}
use Rattle.mps_amc.proofs.PartSeen.{IsPart}
use Rattle.mps_trace.proofs.OwnZones.{own_zones, first_word}
use Rattle.mps_trace.proofs.noting.zones_of_block.Goals as goal

pub zones_of_words-requires-clause-nonempty : goal.zones_of_words-requires-clause-nonempty
zones_of_words-requires-clause-nonempty g c =
    let f = g.F.Format.layout c.args.format.now in
    let words = c.args.segs.now.words in
    let sizes = (g.met.F.Format.lawful c.args.format.now).sizes _ c.requires.stands.valid in
    let whole = c.words_from.ensures.complete (size_at f words c.args.at.0) sizes.1 c.requires.stands.within in
    omega (arith, whole, sizes.0)

pub zones_of_words-requires-clause-valid : goal.zones_of_words-requires-clause-valid
zones_of_words-requires-clause-valid g c =
    let f = g.F.Format.layout c.args.format.now in
    let words = c.args.segs.now.words in
    let mem = c.words_from.result.now in
    let sizes = (g.met.F.Format.lawful c.args.format.now).sizes _ c.requires.stands.valid in
    let whole = c.words_from.ensures.complete (size_at f words c.args.at.0) sizes.1 c.requires.stands.within in
    let part : IsPart words mem (word_of c.args.at.0) =
    record { value = c.words_from.ensures.value; complete = c.words_from.ensures.complete }
    in
    let P : ℕ → Type 0 = λ h. IsTrue (f.is_valid h) in
    subst P (sym (first_word f words mem c.args.at.0 part (omega (arith, whole, sizes.0)))) c.requires.stands.valid

pub zones_of_words-requires-clause-whole : goal.zones_of_words-requires-clause-whole
zones_of_words-requires-clause-whole g c =
    let f = g.F.Format.layout c.args.format.now in
    let words = c.args.segs.now.words in
    let mem = c.words_from.result.now in
    let sizes = (g.met.F.Format.lawful c.args.format.now).sizes _ c.requires.stands.valid in
    let whole = c.words_from.ensures.complete (size_at f words c.args.at.0) sizes.1 c.requires.stands.within in
    let part : IsPart words mem (word_of c.args.at.0) =
    record { value = c.words_from.ensures.value; complete = c.words_from.ensures.complete }
    in
    let P : ℕ → Type 0 = λ h. f.size h ≤ length mem in
    subst P (sym (first_word f words mem c.args.at.0 part (omega (arith, whole, sizes.0)))) whole

pub returns : goal.returns
returns g c =
    let f = g.F.Format.layout c.args.format.now in
    let words = c.args.segs.now.words in
    let mem = c.words_from.result.now in
    let sizes = (g.met.F.Format.lawful c.args.format.now).sizes _ c.requires.stands.valid in
    let whole = c.words_from.ensures.complete (size_at f words c.args.at.0) sizes.1 c.requires.stands.within in
    let part : IsPart words mem (word_of c.args.at.0) =
    record { value = c.words_from.ensures.value; complete = c.words_from.ensures.complete }
    in
    c.zones_of_words.ensures ∙ own_zones f words mem c.args.at.0 part (omega (arith, whole, sizes.0)) whole
