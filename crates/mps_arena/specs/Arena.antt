-- What a caller sees of an arena, and the results of its calls.
use Rattle.std.specs.Prelude.{ℕ, ◌+◌, ◌*◌, ◌≤◌, ◌≡◌, Contains, List, [], ◌∷◌, ◌++◌, Result, Ok, Err, take, drop, length, replicate, refl}
use lib.Seq.{paste}
use Rattle.mps_base.specs.Run.{Run, end_of, with_run}
use Rattle.mps_base.specs.Placement.{Placement, Place, NewSegment, OverLimit, NoFreeRun, run_placement}
use Rattle.mps_base.specs.Address.{address_of_grain, address_of_word, words_of_grain}
use Rattle.mps_base.specs.declared.address.Addr.{Addr}
use Rattle.mps_base.specs.declared.refusal.Refusal.{Refusal}
use Rattle.mps_base.specs.declared.refusal.Refusal.TheVariants.{CommitLimit, NoRun}

-- An arena uses the grains 1 to `grains`. Its words are numbered from the first word of grain 0, which is never used. `held` are
-- the runs of grains that were taken and not given back, in ascending order.
pub record ArenaMemory : Type 0 where
  pub words : List ℕ
  pub grains : ℕ
  pub limit : ℕ
  pub held : List Run

-- the arena before any run is taken: all words are 0
abbrev pub new_arena : (grains limit : ℕ) → ArenaMemory
new_arena grains limit = record { words = replicate (words_of_grain * (grains + 1)) 0; grains = grains; limit = limit; held = [] }

-- n words from one on lie in grains that are held, all of one run
pub record AreHeldWords (held : List Run) (from n : ℕ) : Type 0 where
  pub run : Run
  pub listed : Contains held run
  pub after : words_of_grain * run.from ≤ from
  pub before : from + n ≤ words_of_grain * end_of run

-- where a new run of `need` grains is placed
abbrev pub placement_in : ArenaMemory → (need : ℕ) → Placement
placement_in arena need = run_placement arena.grains arena.limit arena.held need

-- what a call returns for a placement: an address, or the refusal with its numbers
abbrev pub answer_of_placement : Placement → Result Addr Refusal
answer_of_placement (Place word) = Ok (record { 0 = address_of_word word })
answer_of_placement (NewSegment grain grains) = Ok (record { 0 = address_of_grain grain })
answer_of_placement (OverLimit committed need limit) = Err (CommitLimit committed need limit)
answer_of_placement (NoFreeRun need longest) = Err (NoRun need longest)

-- the held runs after a placement
abbrev pub held_after : Placement → List Run → List Run
held_after (NewSegment grain grains) held = with_run (record { from = grain; count = grains }) held
held_after (Place word) held = held
held_after (OverLimit committed need limit) held = held
held_after (NoFreeRun need longest) held = held

-- the words with others written over them from a word on; their number stays the same
abbrev pub with_words : List ℕ → ℕ → List ℕ → List ℕ
with_words words at new = take (length words) (take at words ++ (new ++ drop (at + length new) words))

two_written : with_words (1 ∷ 2 ∷ 3 ∷ 4 ∷ []) 1 (8 ∷ 9 ∷ []) ≡ 1 ∷ 8 ∷ 9 ∷ 4 ∷ []
two_written = refl

-- n words from one on, written over those from another on; they may overlap
abbrev pub copied_words : List ℕ → (from to n : ℕ) → List ℕ
copied_words words from to n = paste words to (drop from words) n

-- n words from one on are 0
abbrev pub cleared_words : List ℕ → (from n : ℕ) → List ℕ
cleared_words words from n = paste words from (replicate n 0) n

overlapping_copy : copied_words (1 ∷ 2 ∷ 3 ∷ 4 ∷ []) 0 1 3 ≡ 1 ∷ 1 ∷ 2 ∷ 3 ∷ []
overlapping_copy = refl

the_word_after_stays : cleared_words (1 ∷ 2 ∷ 3 ∷ 4 ∷ []) 1 2 ≡ 1 ∷ 0 ∷ 0 ∷ 4 ∷ []
the_word_after_stays = refl
