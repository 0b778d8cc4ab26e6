-- After a flip no words are at hand for blocks that move.
use Rattle.std.proofs.Common.{◌≡◌, ◌∙◌, ℕ, zero, suc, ◌<◌, Bool, refl, sym, ap, subst, List, [], ◌∷◌, length, map, replicate, get_or, Option, Some, None, arith}
use Rattle.std.proofs.lemmas.Bool.{and_right, cond-false, le-ltb}
use Rattle.std.proofs.lemmas.List.{length-map, length-replicate}
use Rattle.std.proofs.lemmas.Option.{none-some}
use Rattle.std.specs.Prelude.{◌&&◌, nat_le, nat_lt, IsTrue}
use Rattle.mps_base.specs.Address.{Address, Word}
use Rattle.mps_base.specs.Generation.{target_generation}
use Rattle.mps_base.specs.Run.{end_of}
use Rattle.mps_base.specs.Segment.{Segment}
use Rattle.mps_seg.specs.declared.buffer.Buffer.{Buffer}
use Rattle.mps_seg.specs.Buffer.{empty_buffer, run_of}
use Rattle.mps_amc.specs.Amc.{AmcState, HasTail, row_after_flip, tails_after_flip}
use Rattle.mps_trace.specs.GenState.{ChainsState}
use Rattle.mps_trace.specs.GenState as chains
use Rattle.mps_model.specs.World.{empty_run}
use Rattle.mps_trace_laws.specs.Image.AtHand.{Hand}
use Rattle.mps_trace_laws.specs.Image.Memory.{Setting}
use Rattle.mps_trace_laws.specs.Fix.Tracing.{AreTails, TailsStand, hand_of}

-- ---- the tails of pools

none_in_row : (generations generation : ℕ) → get_or (replicate generations empty_buffer) generation empty_buffer ≡ empty_buffer
none_in_row zero generation = refl
none_in_row (suc n) zero = refl
none_in_row (suc n) (suc generation) = none_in_row n generation

none_in_rows : (rows : List (List Buffer)) (pool generation : ℕ)
    → get_or (get_or (map row_after_flip rows) pool []) generation empty_buffer ≡ empty_buffer
none_in_rows [] pool generation = refl
none_in_rows (row ∷ rows) zero generation = none_in_row (length row) generation
none_in_rows (row ∷ rows) (suc pool) generation = none_in_rows rows pool generation

as_long : (rows : List (List Buffer)) (pool : ℕ) → length (get_or (map row_after_flip rows) pool []) ≡ length (get_or rows pool [])
as_long [] pool = refl
as_long (row ∷ rows) zero = length-replicate (length row) empty_buffer
as_long (row ∷ rows) (suc pool) = as_long rows pool

tail_still : (amc : AmcState) (pool generation : ℕ) → HasTail amc pool generation → HasTail (tails_after_flip amc) pool generation
tail_still amc pool generation has = record {
  pool_listed = subst (λ n. pool < n) (sym (length-map amc.tails row_after_flip)) has.pool_listed;
  generation_listed = subst (λ n. generation < n) (sym (as_long amc.tails pool)) has.generation_listed;
}

pub tails_are_empty : (of : ChainsState) (amc : AmcState) (is_copying : ℕ → Bool)
    → ((pool generation : ℕ) → IsTrue (is_copying pool) → HasTail amc pool (target_generation (chains.generations_of of pool) generation))
    → AreTails of (tails_after_flip amc) is_copying (λ pool generation. empty_run)
tails_are_empty of amc is_copying has = record {
  has = λ pool generation copies.
      tail_still amc pool (target_generation (chains.generations_of of pool) generation) (has pool generation copies);
  same = λ pool generation. ap (λ (b : Buffer). run_of b) (none_in_rows amc.tails pool generation);
}

-- ---- words at hand

none_at_hand : (pool generation : ℕ) (n : Word) → hand_of pool generation empty_run n ≡ None
none_at_hand pool generation n =
    let hand : Hand = record { pool = pool; number = generation } in
    cond-false (nat_le 0 n && nat_lt n (end_of empty_run)) (Some hand) None
    (and_right (nat_le 0 n) (nat_lt n (end_of empty_run)) (le-ltb n 0 (omega arith)))

never : (pool generation : ℕ) (n : Word) (p : Hand) → hand_of pool generation empty_run n ≡ Some p → ⊥
never pool generation n p is = none-some p (sym (none_at_hand pool generation n) ∙ is)

pub empty_tails_stand : (s : Setting) (segments : List Segment) (addresses : List (Option Address))
    → TailsStand s segments addresses (λ pool generation. empty_run)
empty_tails_stand s segments addresses = record {
  hands = λ pool generation. record {
    within = λ n p is. absurd (never pool generation n p is);
    not_condemned = λ n p is. absurd (never pool generation n p is);
    home = λ n p is. absurd (never pool generation n p is);
    free = λ n p id i o is lies. never pool generation n p is;
    unreserved = λ n p point l r is lies. never pool generation n p is;
  };
  apart = λ pool generation other its n first second. absurd (let below = first.1 in omega (arith, below));
  home = λ pool generation some. absurd (omega (arith, some));
}
