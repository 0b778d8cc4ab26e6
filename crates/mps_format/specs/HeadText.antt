-- Heads as texts: `f:SIZE:REFERENCES`, `m:SIZE:MASK` and `l:SIZE`, with decimal numbers, and the words that they represent.
use Rattle.std.specs.Prelude.{◌≡◌, ℕ, Bool, ◌%◌, ◌^◌, ◌<◌, ◌==◌, nat_lt, nat_le, ◌&&◌, if◌then◌else◌, List, ◌∷◌, ◌++◌, codes, decimal, Option, Some, None, refl}
use Rattle.std.proofs.Common.{lit<, lit≤}
use Rattle.std.proofs.lemmas.Fmt.{decimal_digit, decimal_step}
use Rattle.mps_format.specs.declared.head.Head.{Head}
use Rattle.mps_format.specs.declared.head.Head.TheVariants.{Front, Mapped, Leaf}
use Rattle.mps_format.specs.Fields.{tag_field, size_field, extra_field, head_word}
use Rattle.mps_format.specs.Front.{is_front}
use Rattle.mps_format.specs.Mapped.{is_mapped}
use Rattle.mps_format.specs.Leaf.{is_leaf}

abbrev pub is_colon : ℕ → Bool
is_colon byte = byte == 58

-- the text `LETTER:NUMBER`
abbrev pub labelled : ℕ → ℕ → List ℕ
labelled letter n = letter ∷ 58 ∷ decimal n

-- the text `LETTER:NUMBER:NUMBER`
abbrev pub labelled_pair : ℕ → ℕ → ℕ → List ℕ
labelled_pair letter m n = letter ∷ 58 ∷ (decimal m ++ 58 ∷ decimal n)

abbrev pub text_of : Head → List ℕ
text_of (Front size references) = labelled_pair 102 size references
text_of (Mapped size mask) = labelled_pair 109 size mask
text_of (Leaf size) = labelled 108 size

-- its numbers are below 2 ^ 64
abbrev pub IsInWords : Head → Type 0
IsInWords (Front size references) = (size < 2 ^ 64) × (references < 2 ^ 64)
IsInWords (Mapped size mask) = (size < 2 ^ 64) × (mask < 2 ^ 64)
IsInWords (Leaf size) = size < 2 ^ 64

-- ---- the word that a head represents: 0, which is no head, if its numbers break the rules of its format
abbrev pub front_word : ℕ → ℕ → ℕ
front_word size references =
    if nat_le 2 size && (nat_le size 65536 && nat_lt references size) then head_word 1 size references else 0

abbrev pub mapped_word : ℕ → ℕ → ℕ
mapped_word size mask =
    if nat_le 2 size && (nat_le size 32 && (mask % 2 == 0 && nat_lt mask (2 ^ size))) then head_word 2 size mask else 0

abbrev pub leaf_word : ℕ → ℕ
leaf_word size = if nat_le 2 size && nat_le size 65536 then head_word 3 size 0 else 0

abbrev pub word_of : Head → ℕ
word_of (Front size references) = front_word size references
word_of (Mapped size mask) = mapped_word size mask
word_of (Leaf size) = leaf_word size

-- ---- the head of a word, and its text
abbrev pub head_of_word : ℕ → Option Head
head_of_word word =
    if is_front word then Some (Front (size_field word) (extra_field word))
    else (if is_mapped word then Some (Mapped (size_field word) (extra_field word))
    else (if is_leaf word then Some (Leaf (size_field word)) else None))

-- the text of a head word, by its tag. A word that is no head has some text too
abbrev pub head_text : ℕ → List ℕ
head_text word =
    if tag_field word == 1 then labelled_pair 102 (size_field word) (extra_field word)
    else (if tag_field word == 2 then labelled_pair 109 (size_field word) (extra_field word)
    else labelled 108 (size_field word))

a_front_text : text_of (Front 3 1) ≡ codes "f:3:1"
a_front_text = rw (decimal_digit 3 (lit< tt), decimal_digit 1 (lit< tt)) refl

a_front_word : word_of (Front 3 1) ≡ 0x100000301
a_front_word = refl

a_mapped_word : word_of (Mapped 3 6) ≡ 0x600000302
a_mapped_word = refl

a_leaf_word : word_of (Leaf 2) ≡ 0x203
a_leaf_word = refl

references_past_the_block : word_of (Front 3 3) ≡ 0
references_past_the_block = refl

a_size_that_does_not_fit : word_of (Front 16777218 0) ≡ 0
a_size_that_does_not_fit = refl

the_head_as_a_reference : word_of (Mapped 3 7) ≡ 0
the_head_as_a_reference = refl

one_word : word_of (Leaf 1) ≡ 0
one_word = refl

a_mapped_word_as_text : head_text 0x600000302 ≡ codes "m:3:6"
a_mapped_word_as_text = rw (decimal_digit 3 (lit< tt), decimal_digit 6 (lit< tt)) refl

a_leaf_word_as_text : head_text 0x4003 ≡ codes "l:64"
a_leaf_word_as_text = rw (decimal_step 64 (lit≤ tt) (lit< tt)) (rw (decimal_digit 6 (lit< tt)) refl)

no_head : head_of_word 0x304 ≡ None
no_head = refl
