-- The text of an answer: one line, with its line feed.
use Rattle.std.specs.Prelude.{◌≡◌, ℕ, List, [], ◌∷◌, ◌++◌, codes, decimal, refl}
use Rattle.std.specs.Fmt.{digits}
use Rattle.mps_base.specs.declared.refusal.Refusal.{Refusal}
use Rattle.mps_base.specs.declared.refusal.Refusal.TheVariants as refusal
use Rattle.mps_format.specs.Hexadecimal.{hexadecimal}
use Rattle.mps_format.specs.HeadText.{head_text}
use Rattle.mps_model.specs.declared.reply.Reply.{Reply}
use Rattle.mps_model.specs.declared.reply.Reply.TheVariants as reply
use Rattle.mps_model.specs.Answer.{Answer, Replied, Dumped}

-- `0x` and the lower-case hexadecimal digits of a word, without leading zeros
abbrev pub word_text : (word : ℕ) → List ℕ
word_text word = codes "0x" ++ hexadecimal word

-- a space, and a number
abbrev pub and_number : ℕ → List ℕ
and_number number = 32 ∷ decimal number

-- the number of a refusal, and the numbers that it prints after it
abbrev pub refusal_text : Refusal → List ℕ
refusal_text refusal.BadName = codes "1"
refusal_text refusal.NameTaken = codes "2"
refusal_text refusal.BadIndex = codes "3"
refusal_text refusal.NullRef = codes "4"
refusal_text refusal.NotARef = codes "5"
refusal_text refusal.NotANumber = codes "6"
refusal_text refusal.BadHead = codes "7"
refusal_text refusal.Open = codes "8"
refusal_text refusal.NotOpen = codes "9"
refusal_text (refusal.CommitLimit committed need limit) = codes "10" ++ and_number committed ++ and_number need ++ and_number limit
refusal_text (refusal.NoRun need longest) = codes "11" ++ and_number need ++ and_number longest
refusal_text refusal.NotABlock = codes "12"
refusal_text refusal.WrongPool = codes "13"
refusal_text refusal.NotRegistered = codes "14"
refusal_text refusal.BadSize = codes "15"
refusal_text (refusal.TooMany limit) = codes "16" ++ and_number limit
refusal_text refusal.Running = codes "17"
refusal_text refusal.BelowCommitted = codes "18"
refusal_text refusal.OutOfMemory = codes "19"
refusal_text refusal.NotLinked = codes "20"
refusal_text refusal.OldTwice = codes "21"
refusal_text refusal.NotParked = codes "22"

-- the words of a dump, separated by one space
abbrev pub words_text : List ℕ → List ℕ
words_text [] = []
words_text (word ∷ []) = word_text word
words_text (word ∷ next ∷ words) = word_text word ++ 32 ∷ words_text (next ∷ words)

-- the text of a reply, without its line feed. The words of a dump stand in the answer
abbrev pub reply_text : Reply → List ℕ
reply_text reply.Ok = codes "ok"
reply_text reply.Flipped = codes "flipped"
reply_text (reply.Number number) = decimal number
reply_text (reply.Word word) = word_text word
reply_text reply.Yes = codes "yes"
reply_text reply.No = codes "no"
reply_text reply.Block = codes "block"
reply_text reply.Plain = codes "number"
reply_text reply.More = codes "more"
reply_text reply.Idle = codes "idle"
reply_text reply.None_ = codes "none"
reply_text (reply.Head head) = head_text head
reply_text (reply.Pair these those) = decimal these ++ and_number those
reply_text (reply.Words at count) = []
reply_text (reply.Interned number) = decimal number
reply_text (reply.Labelled at number) = word_text at.0
reply_text (reply.Refused why) = codes "refused " ++ refusal_text why

abbrev pub text_of_answer : Answer → List ℕ
text_of_answer (Replied said) = reply_text said
text_of_answer (Dumped words) = words_text words

-- what is printed for an answer
abbrev pub line_of_answer : Answer → List ℕ
line_of_answer answer = text_of_answer answer ++ 10 ∷ []

pub a_refusal_prints_its_numbers :
    line_of_answer (Replied (reply.Refused (refusal.CommitLimit 1 2 30))) ≡ codes "refused 10 1 2 30\n"
unfolding digits
a_refusal_prints_its_numbers = refl

pub a_dump_prints_its_words : text_of_answer (Dumped (0x100000301 ∷ 0 ∷ 7 ∷ [])) ≡ codes "0x100000301 0x0 0x7"
unfolding digits
a_dump_prints_its_words = refl

-- the number of a label isn't printed
pub a_labelled_object_prints_its_address : reply_text (reply.Labelled (record { 0 = 0x1000 }) 3) ≡ codes "0x1000"
unfolding digits
a_labelled_object_prints_its_address = refl

pub a_mapped_head : reply_text (reply.Head 0x600000302) ≡ codes "m:3:6"
unfolding digits
a_mapped_head = refl
