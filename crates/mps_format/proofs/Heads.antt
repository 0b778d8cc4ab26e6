-- The word of the head of a word is that word, and so is its text.
use Rattle.std.proofs.Common.{◌≡◌, ℕ, Some, arith}
use Rattle.std.specs.Prelude.{IsTrue}
use Rattle.std.proofs.lemmas.Bool.Decides.{nat_tests}
use Rattle.mps_format.specs.declared.head.Head.{Head}
use Rattle.mps_format.specs.Fields.{tag_field, size_field, extra_field, head_word}
use Rattle.mps_format.specs.Front.{is_front}
use Rattle.mps_format.specs.Mapped.{is_mapped}
use Rattle.mps_format.specs.Leaf.{is_leaf}
use Rattle.mps_format.specs.Laws.{front_facts, mapped_facts, leaf_facts}
use Rattle.mps_format.specs.HeadText.{text_of, word_of, head_of_word, head_text, front_word, mapped_word, leaf_word}

-- ---- the fields of a head word

-- a word is made of its fields
head_word-fields : (h : ℕ) → head_word (tag_field h) (size_field h) (extra_field h) ≡ h
head_word-fields h = omega arith

-- ---- the word of the head of a word
front_word-fields : (h : ℕ) → IsTrue (is_front h) → front_word (size_field h) (extra_field h) ≡ h
front_word-fields h v = let f = front_facts h v in let w = head_word-fields h in grind (arith, nat_tests)

mapped_word-fields : (h : ℕ) → IsTrue (is_mapped h) → mapped_word (size_field h) (extra_field h) ≡ h
mapped_word-fields h v = let f = mapped_facts h v in let w = head_word-fields h in grind (arith, nat_tests)

leaf_word-fields : (h : ℕ) → IsTrue (is_leaf h) → leaf_word (size_field h) ≡ h
leaf_word-fields h v = let f = leaf_facts h v in let w = head_word-fields h in grind (arith, nat_tests)

pub word_of-head_of_word : (h : ℕ) (head : Head) → head_of_word h ≡ Some head → word_of head ≡ h
word_of-head_of_word h head e =
    grind (arith, nat_tests, front_word-fields h, mapped_word-fields h, leaf_word-fields h)

-- ---- the head of the word of a head

-- ---- the head of a text: no two heads with numbers below 2 ^ 64 have one text

-- the text of a head word is the text of its head
pub head_text-head_of_word : (h : ℕ) (head : Head) → head_of_word h ≡ Some head → head_text h ≡ text_of head
head_text-head_of_word h head e = grind (arith, nat_tests, front_facts h, mapped_facts h, leaf_facts h)
