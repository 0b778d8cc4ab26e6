-- Pieces that are logged or printed one after the other.
use Rattle.std.proofs.Common.{◌≡◌, ℕ, ◌+◌, ◌<◌, List, [], ◌∷◌, ◌++◌, length, get_or, take, drop, refl, sym, ◌∙◌, ap, subst, append_assoc, append-nil}
use Rattle.std.specs.List.{flat_map}
use Rattle.std.proofs.Math.Seq.{take-append-add, take-append_seam}
use Rattle.std.specs.Prelude.{All}
use Rattle.std.proofs.lemmas.List.{take_more, take-append-drop, map-append}
use Rattle.std.proofs.lemmas.List.Elements.{All-push}
use Rattle.mps_event.specs.declared.version.Version.TheVariants.{Two}
use Rattle.mps_event.specs.Grammar.{IsRecord}
use Rattle.std.proofs.lemmas.Grind.{flat_map-append}
use Rattle.mps_desk.specs.Desk.{Outside}
use Rattle.mps_base.specs.declared.moves.Move.{Move}
use Rattle.mps_base.specs.Record.{record_bytes, records_bytes}
use Rattle.mps_model.specs.declared.call.Call.{Call}
use Rattle.mps_model.specs.declared.reply.Reply.{Reply}
use Rattle.mps_model.specs.Log.{record_of, records_of, records_of_answered}
use Rattle.mps_model.specs.Answer.{Replied, Dumped}
use Rattle.mps_model.specs.Text.{word_text, words_text, line_of_answer}
use Rattle.mps_report.specs.Streams.{Logs, LogsPart, Prints, PrintsPart}
use Rattle.mps_report.proofs.Logging.{logs_then, part_of_first, part_of_second}
use Rattle.mps_report.proofs.Outside.{prints-none, prints-then, part_after_front}
use Rattle.mps_run.specs.Pieces.{and_word}

module _ {X : Type 0} (f : X → List ℕ) (xs : List X) (i : ℕ) (d : X) where
  -- one piece more
  pub one_more : i < length xs → flat_map f (take i xs) ++ f (get_or xs i d) ≡ flat_map f (take (i + 1) xs)
  one_more h =
      sym (ap (flat_map f) (take_more xs i d h)
      ∙ (flat_map-append f (take i xs) (get_or xs i d ∷ [])
      ∙ ap (λ (p : List ℕ). flat_map f (take i xs) ++ p) (append-nil (f (get_or xs i d)))))

  -- the pieces before one, that one, and those after it
  pub before_and_after : i < length xs
      → flat_map f (take i xs) ++ (f (get_or xs i d) ++ flat_map f (drop (i + 1) xs)) ≡ flat_map f xs
  before_and_after h =
      sym (append_assoc (flat_map f (take i xs)) (f (get_or xs i d)) (flat_map f (drop (i + 1) xs)))
      ∙ (ap (λ (p : List ℕ). p ++ flat_map f (drop (i + 1) xs)) (one_more h)
      ∙ (sym (flat_map-append f (take (i + 1) xs) (drop (i + 1) xs)) ∙ ap (flat_map f) (take-append-drop (i + 1) xs)))

-- ---- records of moves

-- the bytes of the record of a move
abbrev pub move_bytes : (line : ℕ) → Move → List ℕ
move_bytes line move = record_bytes (record_of move line)

pub moves_bytes : (line : ℕ) (moves : List Move) → flat_map (move_bytes line) moves ≡ records_bytes (records_of moves line)
moves_bytes line [] = refl
moves_bytes line (m ∷ ms) = ap (λ (p : List ℕ). move_bytes line m ++ p) (moves_bytes line ms)

-- one record more, such as a log may hold
pub records_more : (line : ℕ) (moves : List Move) (i : ℕ) (d : Move) → i < length moves
    → All (IsRecord Two) (records_of (take i moves) line) → IsRecord Two (record_of (get_or moves i d) line)
    → All (IsRecord Two) (records_of (take (i + 1) moves) line)
records_more line moves i d h before next =
    subst (All (IsRecord Two))
    (sym (ap (λ ms. records_of ms line) (take_more moves i d h)
    ∙ map-append (λ (m : Move). record_of m line) (take i moves) (get_or moves i d ∷ [])))
    (All-push (IsRecord Two) (records_of (take i moves) line) (record_of (get_or moves i d) line) before next)

-- ---- records of a command

module _ (line pools : ℕ) (moves : List Move) (call : Call) (given : Reply) (a b c : Outside) where
  -- the records of the command itself
  abbrev own : List ℕ
  own = records_bytes (records_of_answered pools call (Replied given) line)

  both : records_bytes (records_of moves line) ++ own
      ≡ records_bytes (records_of moves line ++ records_of_answered pools call (Replied given) line)
  both = sym (flat_map-append record_bytes (records_of moves line) (records_of_answered pools call (Replied given) line))

  pub logs_all : Logs a b (records_bytes (records_of moves line)) → Logs b c own
      → Logs a c (records_bytes (records_of moves line ++ records_of_answered pools call (Replied given) line))
  logs_all first second = subst (λ (p : List ℕ). Logs a c p) both (logs_then a b c _ _ first second)

  pub part_in_moves : LogsPart a b (records_bytes (records_of moves line))
      → LogsPart a b (records_bytes (records_of moves line ++ records_of_answered pools call (Replied given) line))
  part_in_moves p = subst (λ (p : List ℕ). LogsPart a b p) both (part_of_first a b _ own p)

  pub part_in_own : Logs a b (records_bytes (records_of moves line)) → LogsPart b c own
      → LogsPart a c (records_bytes (records_of moves line ++ records_of_answered pools call (Replied given) line))
  part_in_own first p = subst (λ (p : List ℕ). LogsPart a c p) both (part_of_second a b c _ _ first p)

-- ---- words

-- a prefix of a piece after another piece
prefix_after : (front text later : List ℕ) (k : ℕ)
    → front ++ take k text ≡ take (length front + length (take k text)) (front ++ (text ++ later))
prefix_after front text later k =
    let parts : text ++ later ≡ take k text ++ (drop k text ++ later) =
    ap (λ (p : List ℕ). p ++ later) (sym (take-append-drop k text)) ∙ append_assoc (take k text) (drop k text) later in
    sym (take-append-add front (text ++ later) (length (take k text))
    ∙ ap (λ (p : List ℕ). front ++ p) (ap (take (length (take k text))) parts ∙ take-append_seam (take k text) (drop k text ++ later)))

-- some was printed, and then a part of the next piece
pub prints_part : (a b c : Outside) (front text later : List ℕ) → Prints a b front → PrintsPart b c text
    → PrintsPart a c (front ++ (text ++ later))
prints_part a b c front text later before p =
    part_after_front a b c front text (front ++ (text ++ later)) (length front + length (take p.count text)) before p
    (prefix_after front text later p.count)

pub prints_part_of_words : (words : List ℕ) (i : ℕ) (a b c : Outside) → i < length words → Prints a b (flat_map and_word (take i words))
    → PrintsPart b c (and_word (get_or words i 0)) → PrintsPart a c (flat_map and_word words)
prints_part_of_words words i a b c h before p =
    subst (λ (t : List ℕ). PrintsPart a c t) (before_and_after and_word words i 0 h)
    (prints_part a b c (flat_map and_word (take i words)) (and_word (get_or words i 0)) (flat_map and_word (drop (i + 1) words)) before p)

-- the words of a dump: the first, and the others each after a space
pub words_text_parts : (word : ℕ) (words : List ℕ) → words_text (word ∷ words) ≡ word_text word ++ flat_map and_word words
words_text_parts word [] = sym (append-nil (word_text word))
words_text_parts word (next ∷ words) = ap (λ (p : List ℕ). word_text word ++ 32 ∷ p) (words_text_parts next words)

-- their line
pub dump_parts : (word : ℕ) (words : List ℕ)
    → word_text word ++ (flat_map and_word words ++ 10 ∷ []) ≡ line_of_answer (Dumped (word ∷ words))
dump_parts word words =
    sym (ap (λ (p : List ℕ). p ++ 10 ∷ []) (words_text_parts word words)
    ∙ append_assoc (word_text word) (flat_map and_word words) (10 ∷ []))

module _ (word : ℕ) (words : List ℕ) (a b c d : Outside) where
  pub part_of_word : PrintsPart a b (word_text word) → PrintsPart a b (line_of_answer (Dumped (word ∷ words)))
  part_of_word p =
      subst (λ (t : List ℕ). PrintsPart a b t) (dump_parts word words)
      (prints_part a a b [] (word_text word) (flat_map and_word words ++ 10 ∷ []) (prints-none a) p)

  pub part_of_more : Prints a b (word_text word) → PrintsPart b c (flat_map and_word words)
      → PrintsPart a c (line_of_answer (Dumped (word ∷ words)))
  part_of_more first p =
      subst (λ (t : List ℕ). PrintsPart a c t) (dump_parts word words)
      (prints_part a b c (word_text word) (flat_map and_word words) (10 ∷ []) first p)

  pub part_of_line_feed : Prints a b (word_text word) → Prints b c (flat_map and_word words) → PrintsPart c d (10 ∷ [])
      → PrintsPart a d (line_of_answer (Dumped (word ∷ words)))
  part_of_line_feed first more p =
      subst (λ (t : List ℕ). PrintsPart a d t)
      (append_assoc (word_text word) (flat_map and_word words) (10 ∷ []) ∙ dump_parts word words)
      (prints_part a c d (word_text word ++ flat_map and_word words) (10 ∷ []) [] (prints-then a b c _ _ first more) p)

  pub prints_dump : Prints a b (word_text word) → Prints b c (flat_map and_word words) → Prints c d (10 ∷ [])
      → Prints a d (line_of_answer (Dumped (word ∷ words)))
  prints_dump first more last =
      subst (λ (t : List ℕ). Prints a d t) (dump_parts word words)
      (prints-then a b d _ _ first (prints-then b c d _ _ more last))
