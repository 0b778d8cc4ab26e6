-- The formats of this crate are lawful. Their heads differ in the tag, the low byte.
use Rattle.std.proofs.Common.{◌≡◌, ℕ, ◌%◌, ◌^◌, ◌<◌, ◌≤◌, Bool, true, false, refl, ap, inl, inr, lit<, arith}
use Rattle.std.proofs.Math.Nat.{pow-le-pow_right}
use Rattle.std.proofs.lemmas.Bool.{cases_eq, cases_lt}
use Rattle.std.specs.Prelude.{IsTrue, ◌==◌, if◌then◌else◌}
use Rattle.std.specs.Int.{bit_at}
use Rattle.std.proofs.lemmas.Bool.Decides.{nat_tests}
use Rattle.std.proofs.lemmas.Nat.Bits.{bit_at_lowest, bit_at_above}
use Rattle.mps_format.specs.Layout.{IsLawful, AreDisjoint}
use Rattle.mps_format.specs.Fields.{tag_field, size_field, extra_field, forwarded_word, pad_word}
use Rattle.mps_format.specs.References.{target_of, with_target}
use Rattle.mps_format.specs.Front.{is_front, front_layout}
use Rattle.mps_format.specs.Mapped.{is_mapped, mapped_layout}
use Rattle.mps_format.specs.Leaf.{is_leaf, leaf_layout}
use Rattle.mps_format.specs.Any.{numbered_layout}

-- ---- what a valid head says, as facts on its fields
pub front_facts : (h : ℕ) → IsTrue (is_front h) → (tag_field h ≡ 1) × (2 ≤ size_field h) × (size_field h ≤ 65536)
    × (extra_field h < size_field h)
front_facts h v = grind (arith, nat_tests)

pub mapped_facts : (h : ℕ) → IsTrue (is_mapped h) → (tag_field h ≡ 2) × (2 ≤ size_field h) × (size_field h ≤ 32) × (extra_field h % 2 ≡ 0)
    × (extra_field h < 2 ^ size_field h)
mapped_facts h v = grind (arith, nat_tests)

pub leaf_facts : (h : ℕ) → IsTrue (is_leaf h) → (tag_field h ≡ 3) × (2 ≤ size_field h) × (size_field h ≤ 65536) × (extra_field h ≡ 0)
leaf_facts h v = grind (arith, nat_tests)

-- ---- the shared heads
tag-forwarded_word : (n : ℕ) → tag_field (forwarded_word n) ≡ 4
tag-forwarded_word n = omega arith

tag-pad_word : (n : ℕ) → tag_field (pad_word n) ≡ 5
tag-pad_word n = omega arith

-- a format whose valid heads are words with a tag below 4, and that shares the other heads, has disjoint heads
shared_disjoint : (valid : ℕ → Bool) (size : ℕ → ℕ) (is_reference : ℕ → ℕ → Bool)
    → ((h : ℕ) → IsTrue (valid h) → (h < 2 ^ 64) × (tag_field h < 4))
    → AreDisjoint (record {
      is_valid = valid;
      size = size;
      is_reference = is_reference;
      forwarded_head = forwarded_word;
      pad_head =
          pad_word;
      target = target_of;
      retarget = with_target;
    })
shared_disjoint valid size is_reference low = record {
  valid_is_word = λ h v. (low h v).0;
  forwarded_is_word = λ n r. omega arith;
  pad_is_word = λ n r. omega arith;
  valid_or_forwarded = λ h n v r e. omega (arith, low h v, tag-forwarded_word n);
  valid_or_pad = λ h n v r e. omega (arith, low h v, tag-pad_word n);
  forwarded_or_pad = λ m n q r e. omega (arith, tag-forwarded_word m, tag-pad_word n);
}

-- ---- words
front_is_word : (h : ℕ) → IsTrue (is_front h) → (h < 2 ^ 64) × (tag_field h < 4)
front_is_word h v = let f = front_facts h v in omega arith

mapped_is_word : (h : ℕ) → IsTrue (is_mapped h) → (h < 2 ^ 64) × (tag_field h < 4)
mapped_is_word h v =
    let f = mapped_facts h v in
    let below : 2 ^ size_field h ≤ 2 ^ 32 = pow-le-pow_right {n = 2} (lit< tt) {i = size_field h} {j = 32} f.2 in
    omega arith

leaf_is_word : (h : ℕ) → IsTrue (is_leaf h) → (h < 2 ^ 64) × (tag_field h < 4)
leaf_is_word h v = let f = leaf_facts h v in omega arith

-- ---- reference cells
front_reference : (h k : ℕ) → IsTrue (is_front h) → IsTrue (front_layout.is_reference h k) → (0 < k) × (k < size_field h)
front_reference h k v r = let f = front_facts h v in grind (arith, nat_tests)

mapped_reference : (h k : ℕ) → IsTrue (is_mapped h) → IsTrue (mapped_layout.is_reference h k) → (0 < k) × (k < size_field h)
mapped_reference h k v r =
    let f = mapped_facts h v in
    let set : bit_at (extra_field h) k ≡ 1 = grind (arith, nat_tests) in (
      elim (cases_eq k 0) [
        | inl e ↦ absurd (omega (arith, bit_at_lowest (extra_field h), ap (λ i. bit_at (extra_field h) i) e))
        | inr n ↦
            omega arith
      ],
      elim (cases_lt k (size_field h)) [ inl b ↦ b | inr a ↦ absurd (omega (arith, bit_at_above (extra_field h) (size_field h) k f.4 a)) ],
    )

-- ---- the laws
pub front_is_lawful : IsLawful front_layout
front_is_lawful = record {
  sizes = λ h v. let f = front_facts h v in (f.1, f.2);
  references = front_reference;
  forwarded_keeps_size = λ m n p q e. omega arith;
  disjoint = shared_disjoint is_front size_field (λ h k. front_layout.is_reference h k) front_is_word;
  pad_keeps_length = λ m n p q e. omega arith;
  target_drops_tag = λ w b. refl;
  retarget_keeps_tag = λ w a b c d. refl;
}

pub mapped_is_lawful : IsLawful mapped_layout
mapped_is_lawful = record {
  sizes = λ h v. let f = mapped_facts h v in (f.1, omega arith);
  references = mapped_reference;
  forwarded_keeps_size = λ m n p q e. omega arith;
  disjoint = shared_disjoint is_mapped size_field (λ h k. mapped_layout.is_reference h k) mapped_is_word;
  pad_keeps_length = λ m n p q e. omega arith;
  target_drops_tag = λ w b. refl;
  retarget_keeps_tag = λ w a b c d. refl;
}

pub leaf_is_lawful : IsLawful leaf_layout
leaf_is_lawful = record {
  sizes = λ h v. let f = leaf_facts h v in (f.1, f.2);
  references = λ h k v r. absurd cc;
  forwarded_keeps_size = λ m n p q e. omega arith;
  disjoint = shared_disjoint is_leaf size_field (λ h k. leaf_layout.is_reference h k) leaf_is_word;
  pad_keeps_length = λ m n p q e. omega arith;
  target_drops_tag = λ w b. refl;
  retarget_keeps_tag = λ w a b c d. refl;
}

pub numbered_is_lawful : (n : ℕ) → IsLawful (numbered_layout n)
numbered_is_lawful n =
    elim (n == 1) as (λ b. IsLawful (if b then front_layout else (if n == 2 then mapped_layout else leaf_layout))) [
      | true ↦ front_is_lawful
      | false ↦ elim (n == 2) as (λ b. IsLawful (if b then mapped_layout else leaf_layout))
          [ true ↦ mapped_is_lawful | false ↦ leaf_is_lawful ]
    ]
