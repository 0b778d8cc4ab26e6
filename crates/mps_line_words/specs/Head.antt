-- Head texts. `f:SIZE:REFS`, `m:SIZE:MASK` and `l:SIZE` represent the head word of their format if the numbers keep its
-- rules, and 0, which is no head, if they don't.
use Rattle.std.specs.Prelude.{ℕ, ◌≡◌, ◌==◌, if◌then◌else◌, codes, Option, Some, None, option_and_then, List, [], ◌∷◌, refl}
use Rattle.mps_format.specs.declared.head.Head.{Head}
use Rattle.mps_format.specs.declared.head.Head.TheVariants.{Front, Mapped, Leaf}
use Rattle.mps_format.specs.HeadText.{is_colon, word_of}
use Rattle.mps_line_words.specs.Word.{cut_at}
use Rattle.mps_numerals.specs.Decimal.{decimal_number}

-- two decimal numbers with a colon between them
abbrev pub two_numbers : List ℕ → Option (ℕ × ℕ)
two_numbers text =
    option_and_then (λ p.
    option_and_then (λ n. option_and_then (λ m. Some (n, m)) (decimal_number p.1))
    (decimal_number p.0))
    (cut_at 58 text)

-- the head that stands after a letter and its colon
abbrev pub head_after : ℕ → List ℕ → Option Head
head_after letter text =
    if letter == 102 then option_and_then (λ p. Some (Front p.0 p.1)) (two_numbers text)
    else (if letter == 109 then option_and_then (λ p. Some (Mapped p.0 p.1)) (two_numbers text)
    else (if letter == 108 then option_and_then (λ n. Some (Leaf n)) (decimal_number text)
    else None))

-- the head that a text writes, with any numbers
abbrev pub head_in : List ℕ → Option Head
head_in [] = None
head_in (letter ∷ []) = None
head_in (letter ∷ colon ∷ text) = if is_colon colon then head_after letter text else None

-- the head word that a text represents
abbrev pub head_of : List ℕ → Option ℕ
head_of text = option_and_then (λ h. Some (word_of h)) (head_in text)

pub a_front_head : head_of (codes "f:3:1") ≡ Some 0x100000301
a_front_head = refl

pub a_mapped_head : head_of (codes "m:3:6") ≡ Some 0x600000302
a_mapped_head = refl

pub a_leaf_head : head_of (codes "l:2") ≡ Some 0x203
a_leaf_head = refl

pub as_many_references_as_words : head_of (codes "f:3:3") ≡ Some 0
as_many_references_as_words = refl

pub the_head_is_no_reference : head_of (codes "m:3:1") ≡ Some 0
the_head_is_no_reference = refl

pub one_number_is_too_few : head_of (codes "f:3") ≡ None
one_number_is_too_few = refl

pub three_are_too_many : head_of (codes "f:3:1:1") ≡ None
three_are_too_many = refl
