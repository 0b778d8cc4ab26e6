-- A word of a block that isn't its head is written.
use Rattle.std.proofs.Common.{ℕ, ◌≡◌, ◌≢◌, IsTrue, Option, Some, None, Contains, length, sym, ap, ◌∙◌, subst, arith}
use Rattle.std.specs.Prelude.{option_map, slice_set}
use Rattle.std.proofs.lemmas.List.{length-set, get_or-set_other}
use Rattle.mps_base.specs.Run.{Run, IsAscending}
use Rattle.mps_base.specs.Address.{word_of}
use Rattle.mps_base.specs.declared.address.Addr.{Addr}
use Rattle.mps_base.proofs.Runs.{contained_bounds}
use Rattle.mps_extents.proofs.RunOver.{run_over_in}
use Rattle.mps_format.specs.Layout.{Layout}
use Rattle.mps_seg.specs.Extents.{run_over}
use Rattle.mps_seg.specs.Segs.{SegsState, at_word}
use Rattle.mps_xform.specs.Applying.{CanApply}

module _ (f : Layout) (s : SegsState) (pool : ℕ) (can : CanApply f s pool) (word from value : ℕ) (over : run_over s.blocks word ≡ Some from)
    (other : from ≢ word) where
  no_head : (r : Run) → Contains s.blocks r → r.from ≢ word
  no_head r there same =
      let some = (contained_bounds 0 (length s.words) s.blocks r can.blocks there).1 in
      let here = run_over_in 0 (length s.words) s.blocks r word can.blocks there (omega (arith, same)) (omega (arith, same, some)) in
      let both : Some from ≡ Some r.from = sym over ∙ here in
      let is : from ≡ r.from = cc in
      other (is ∙ same)

  pub can_after_write : CanApply f (record s { words = slice_set s.words word value }) pool
  can_after_write =
      let size = length-set s.words word value in
      record {
        blocks = let P : ℕ → Type 0 = λ n. IsAscending 0 n s.blocks in subst P (sym size) can.blocks;
        segments = can.segments;
        in_arena = λ t there. let had = can.in_arena t there in omega (arith, had, size);
        whole = can.whole;
        heads = λ t r there of_pool listed above below.
            let P : ℕ → Type 0 = λ head. IsTrue (f.is_valid head) × (f.size head ≡ r.count) in
            let stays = get_or-set_other s.words word r.from value 0 (no_head r listed) in
            subst P (sym stays) (can.heads t r there of_pool listed above below);
      }

-- the block over a word begins at this address
pub over_word : (o : Option ℕ) (at : Addr) → Some at ≡ option_map at_word o → o ≡ Some (word_of at.0)
over_word None at is = let right : Option Addr = None in let never : Some at ≡ right = is in cc
over_word (Some from) at is =
    let both : Some at ≡ Some (at_word from) = is in
    let same : at ≡ at_word from = cc in
    let begins : from ≡ word_of at.0 = omega (arith, ap (λ (a : Addr). a.0) same) in
    ap (λ (n : ℕ). Some n) begins
