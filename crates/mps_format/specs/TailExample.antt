-- An example: a format of a runtime's own, whose last two cells are references. A head is eight times the size and 1, a
-- forwarded block's 2 more than eight times, and a pad's 3 more.
use Rattle.std.specs.Prelude.{◌≡◌, ℕ, ◌+◌, ◌*◌, ◌/◌, ◌%◌, ◌<◌, ◌≤◌, Bool, ◌&&◌, ◌==◌, nat_le, nat_lt, true, false, IsTrue, refl}
use Rattle.std.proofs.Common.{arith}
use Rattle.std.proofs.lemmas.Bool.Decides.{nat_tests}
use Rattle.mps_format.specs.Layout.{Layout, IsLawful}
use Rattle.mps_format.specs.References.{target_of, with_target}

-- the size is 3 to 65,536, so that no reference is cell 0
abbrev pub is_tail : ℕ → Bool
is_tail h = h % 8 == 1 && (nat_le 3 (h / 8) && nat_le (h / 8) 65536)

abbrev pub tail_layout : Layout
tail_layout = record {
  is_valid = is_tail;
  size = λ h. h / 8;
  is_reference = λ h k. nat_le (h / 8) (k + 2) && nat_lt k (h / 8);
  forwarded_head = λ n. 8 * n + 2;
  pad_head = λ n. 8 * n + 3;
  target = target_of;
  retarget = with_target;
}

tail_facts : (h : ℕ) → IsTrue (is_tail h) → (h % 8 ≡ 1) × (3 ≤ h / 8) × (h / 8 ≤ 65536)
tail_facts h v = grind (arith, nat_tests)

tail_reference : (h k : ℕ) → IsTrue (is_tail h) → IsTrue (tail_layout.is_reference h k) → (0 < k) × (k < h / 8)
tail_reference h k v r = let f = tail_facts h v in grind (arith, nat_tests)

pub tail_is_lawful : IsLawful tail_layout
tail_is_lawful = record {
  sizes = λ h v. let f = tail_facts h v in (omega arith, f.2);
  references = tail_reference;
  forwarded_keeps_size = λ m n p q e. omega arith;
  disjoint = record {
    valid_is_word = λ h v. omega (arith, tail_facts h v);
    forwarded_is_word = λ n r. omega arith;
    pad_is_word = λ n r. omega arith;
    valid_or_forwarded = λ h n v r e. omega (arith, tail_facts h v);
    valid_or_pad = λ h n v r e. omega (arith, tail_facts h v);
    forwarded_or_pad = λ m n q r e. omega arith;
  };
  pad_keeps_length = λ m n p q e. omega arith;
  target_drops_tag = λ w b. refl;
  retarget_keeps_tag = λ w a b c d. refl;
}

five_words : tail_layout.is_valid 41 ≡ true
five_words = refl

two_words : tail_layout.is_valid 17 ≡ false
two_words = refl

the_last_but_one : tail_layout.is_reference 41 3 ≡ true
the_last_but_one = refl

the_last_but_two : tail_layout.is_reference 41 2 ≡ false
the_last_but_two = refl
