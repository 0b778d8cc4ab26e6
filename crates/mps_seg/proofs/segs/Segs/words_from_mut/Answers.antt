use Rattle.std.proofs.Common.{ℕ, ◌+◌, ◌≤◌, length, take, drop, refl, sym, ap, ◌∙◌, subst}
use Rattle.mps_base.specs.Address.{word_of}
use Rattle.mps_arena.specs.Arena.{with_words}
use Rattle.mps_seg.specs.Segs.{SegsState}
use Rattle.mps_seg.proofs.segs.Segs.words_from_mut.Goals as goal

pub returns : goal.returns
returns c =
    let at = word_of c.args.at.0 in
    let m = length c.words_from_mut.result.now in
    let P : (n : ℕ) → SegsState → Type 0 = λ n s. at + n ≤ length s.words in (
      (refl, λ w. ap (λ (s : SegsState). record s { words = with_words s.words at (take m w) }) c.self.view_is),
      record {
        writes_back = tt;
        value = c.words_from_mut.ensures.value ∙ ap (λ (s : SegsState). take m (drop at s.words)) c.self.view_is;
        complete = λ n few within. c.words_from_mut.ensures.complete n few (subst (P n) (sym c.self.view_is) within);
      },
    )
