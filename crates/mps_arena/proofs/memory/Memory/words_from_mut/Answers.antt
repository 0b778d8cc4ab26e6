use Rattle.std.proofs.Common.{ℕ, ◌≡◌, ◌≤◌, ◌+◌, List, length, take, drop, slice_range, refl, sym, ap, ◌∙◌, subst, arith}
use Rattle.mps_arena.specs.Arena.{with_words}
use Rattle.mps_arena.specs.Memory.{StoredWords, memory_with}
use Rattle.mps_arena.proofs.Padded.{padded_tail, tail_of, state_borrowed_rest}
use Rattle.mps_arena.proofs.Loans.{written_over}
use Rattle.mps_arena.proofs.memory.Memory.words_from_mut.Goals as goal

pub returns : goal.returns
returns c =
    let inside = c.self.inside in
    let from = c.args.from in
    let items = inside.stored.items in
    let m = length c.slice_mut.result.now in
    let as_stored = ap (λ (s : StoredWords). s.stored) c.self.view_is in
    let few : length items ≤ inside.size = omega (arith, c.self.invariant.0, inside.stored.ok.0) in
    let all : from + m ≡ length items = omega (arith, c.slice_mut.ensures.len, as_stored, c.requires, inside.stored.ok.0) in
    let part = c.slice_mut.ensures.value ∙ ap (λ (n : ℕ). slice_range items from n) (let e : inside.stored.len
    ≡ length items = inside.stored.ok.0 in e) in
    let P : List ℕ → Type 0 = λ ws. ws ≡ take (length ws) (drop from c.args.self.now.words) in (
      (
        refl,
        λ w. ap (λ (ws : List ℕ). memory_with inside.size ws) (written_over items w from inside.stored.len inside.stored.ok.0)
            ∙ state_borrowed_rest inside.size items from m few all w
            ∙ ap (λ (s : StoredWords). record s { words = with_words s.words from (take m w) }) c.self.view_is,
      ),
      record {
        writes_back = tt;
        value = subst P (sym part)
            (padded_tail inside.size items from (omega (arith, as_stored, c.requires))
            ∙ ap (λ (s : StoredWords). take (length (tail_of items from)) (drop from s.words)) c.self.view_is);
        len = all ∙ as_stored;
      },
    )
