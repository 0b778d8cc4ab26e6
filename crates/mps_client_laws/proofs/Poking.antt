-- What a `poke` leaves of a word, and what a `peek` answers.
use Rattle.std.proofs.Common.{◌≡◌, ℕ, ◌+◌, ◌*◌, ◌-◌, ◌≤◌, Bool, true, false, refl, sym, ◌∙◌, ap, subst, [], ◌∷◌, Option, Some, None, Ok, Err, arith}
use Rattle.std.proofs.lemmas.Bool.{true≢false, false≢true, and_parts, eqb-true, leb-true}
use Rattle.std.specs.Prelude.{nat_le, nat_lt, option_map}
use Rattle.std.specs.Option.{option_map_or}
use Rattle.mps_base.specs.declared.names.Slot.{Slot}
use Rattle.mps_model.proofs.Appending.{IsLegalFrom-later}
use Rattle.mps_model.specs.declared.call.Call.{Call}
use Rattle.mps_model.specs.declared.call.Call.TheVariants as call
use Rattle.mps_model.specs.declared.reply.Reply.{Reply}
use Rattle.mps_model.specs.declared.reply.Reply.TheVariants as reply
use Rattle.mps_model.specs.Answer.{Answer, Replied, is_block, is_refused}
use Rattle.mps_model.specs.Step.{Step}
use Rattle.mps_model.specs.Graph.{AreaWord, Hold, PlainWord, entry_at}
use Rattle.mps_model.specs.World.{World, address_of, block_of_word, empty_world_of, is_copying_object, is_live_and, is_word_in, lies_in, shown_word, words_of}
use Rattle.mps_model.specs.Checked.{Act, Checked, Found, ◌>>=◌, says, with_graph, word_in}
use Rattle.mps_model.specs.Accessing.{AsBlock, AsMarked, AsNumber, Poked, act_poke, act_poke_in, act_poked, hold_of, poked, with_word}
use Rattle.mps_model.specs.Reply.{answer_from, reply_to, world_from}
use Rattle.mps_model.specs.History.{AreMovesOf, IsLegalFrom, IsLegalStep, judged_world, moved_world, with_client_remembered, world_after, world_after_call}
use Rattle.mps_laws.specs.Replay.{reached}
use Rattle.mps_laws.proofs.LegalHistories.{IsLegalFrom-first}
use Rattle.mps_laws.proofs.Reading.{bind_ok}
use Rattle.mps_laws.proofs.Sound.SoundActs.{block_lies}
use Rattle.mps_laws.proofs.Sound.SoundGraph.{IsSoundGraph, auto}
use Rattle.mps_client_laws.specs.Pinning.{PeekAnswersWhatIsShown, PokeShowsItsNumber, number_shown, word_found}
use Rattle.mps_client_laws.proofs.AreaWords.{written_word}
use Rattle.mps_client_laws.proofs.QuietCalls.{IsQuiet, quiet_answer}
use Rattle.mps_client_laws.proofs.SoundlyReached.{soundly_reached}

-- ---- what a `poke` leaves

says_world : (given : Reply) (u : World) (a : Act) → says given u ≡ Ok a → a.world ≡ u
says_world given u a e = let same : a ≡ record { answer = Replied given; world = u } = cc in ap (λ (x : Act). x.world) same

-- an answer that is no refusal is that of an act which isn't refused
answered_act : (x : Checked Act) (answer : Answer) → answer ≡ answer_from x → is_refused answer ≡ false → (a : Act) × (x ≡ Ok a)
answered_act (Ok a) answer due other = (a, refl)
answered_act (Err why) answer due other = absurd (true≢false (sym (ap is_refused due) ∙ other))

-- what lies in a block lies at its address or after it
not_before : (copying : Bool) (at words number : ℕ) → is_word_in copying at words number ≡ true → at ≤ number
not_before true at words number inside = leb-true at number (and_parts (nat_le at number) (nat_lt number (at + 8 * words)) inside).0
not_before false at words number inside = let same = eqb-true number at inside in omega (arith, same)

module _ (w : World) (id number : ℕ) (lies : lies_in w number id ≡ true) where
  is_inside : is_live_and (λ at. is_word_in (is_copying_object w id) at (words_of w id) number) w id ≡ true
  is_inside =
      (and_parts (auto w id) (is_live_and (λ at. is_word_in (is_copying_object w id) at (words_of w id) number) w id) lies).1

  -- a word that holds the object by the number shows it
  hold_shows : shown_word w (hold_of w id number) ≡ number
  hold_shows = of_address (address_of w id) is_inside
    where
      of_address : (o : Option ℕ) → option_map_or (λ at. is_word_in (is_copying_object w id) at (words_of w id) number) o false ≡ true
          → option_map_or (λ at. at + (number - option_map_or (λ x. x) o 0)) o 0 ≡ number
      of_address None inside = absurd (false≢true inside)
      of_address (Some at) inside =
          let low = not_before (is_copying_object w id) at (words_of w id) number inside in omega (arith, low)

  pub offset_is : (at : ℕ) → address_of w id ≡ Some at → at + (number - at) ≡ number
  offset_is at there =
      let low = not_before (is_copying_object w id) at (words_of w id) number
      (sym (ap (λ o. option_map_or (λ x. is_word_in (is_copying_object w id) x (words_of w id) number) o false) there) ∙ is_inside) in
      omega (arith, low)

-- the number that a word shows goes by addresses alone
same_shown : (w u : World) (word : AreaWord) → u.addresses ≡ w.addresses → shown_word u word ≡ shown_word w word
same_shown w u (PlainWord number) same = refl
same_shown w u (Hold id offset) same = ap (λ xs. option_map_or (λ at. at + offset) (entry_at xs id) 0) same

module _ (w : World) (sound : IsSoundGraph w) (number : ℕ) (at : Found AreaWord) (a : Act) where
  -- an accepted act writes a word that shows the number
  abbrev IsPokedWith : AreaWord → Type 0
  IsPokedWith word = (a.world ≡ with_graph w (with_word w.graph at word)) × (shown_word w word ≡ number)

  as_number : says reply.Plain (with_graph w (with_word w.graph at (PlainWord number))) ≡ Ok a → (word : AreaWord) × IsPokedWith word
  as_number e = (PlainWord number, (says_world reply.Plain (with_graph w (with_word w.graph at (PlainWord number))) a e, refl))

  as_block : (id : ℕ) → block_of_word w number ≡ Some id
      → says reply.Block (with_graph w (with_word w.graph at (hold_of w id number))) ≡ Ok a → (word : AreaWord) × IsPokedWith word
  as_block id found e =
      let word = hold_of w id number in (
        word,
        (
          says_world reply.Block (with_graph w (with_word w.graph at word)) a e,
          hold_shows w id number (block_lies w sound number id found),
        ),
      )

  poked_with : (marked : Bool) (o : Option ℕ) → block_of_word w number ≡ o → act_poke_in w at number marked o ≡ Ok a
      → (word : AreaWord) × IsPokedWith word
  poked_with marked None found e = as_number e
  poked_with marked (Some id) found e = by_case (poked w id) marked e
    where
      by_case : (p : Poked) (m : Bool) → act_poked w at id number p m ≡ Ok a → (word : AreaWord) × IsPokedWith word
      by_case AsBlock m e = as_block id found e
      by_case AsNumber m e = as_number e
      by_case AsMarked true e = as_block id found e
      by_case AsMarked false e = as_number e

module _ (w : World) (s : Step) (place : Slot) (number : ℕ) (legal : IsLegalStep w s) (is : s.call ≡ call.Poke place number) where
  abbrev poke : Call
  poke = call.Poke place number

  abbrev marked : Bool
  marked = is_block s.answer

  no_moves : s.moves ≡ []
  no_moves = subst (λ c. AreMovesOf w c s.answer s.moves) is legal.moves_are_due

  answer_is : s.answer ≡ answer_from (act_poke marked w place number)
  answer_is =
      subst (λ c. s.answer ≡ reply_to marked (judged_world w c s.moves) (moved_world w c s.moves) c) is legal.answer_is_due
      ∙ ap (λ ms. reply_to marked (judged_world w poke ms) (moved_world w poke ms) poke) no_moves

  world_is : world_after w s ≡ with_client_remembered (world_from w (act_poke marked w place number))
  world_is = ap (λ c. world_after_call w c s.moves s.answer) is ∙ ap (λ ms. world_after_call w poke ms s.answer) no_moves

  shown_after_poke : IsSoundGraph w → is_refused s.answer ≡ false → number_shown (world_after w s) place ≡ Some number
  shown_after_poke sound answered =
      let a = answered_act (act_poke marked w place number) s.answer answer_is answered in
      let at = bind_ok (word_in w place) (λ at. act_poke_in w at number marked (block_of_word w number)) a.0 a.1 in
      let x = poked_with w sound number at.0 a.0 marked (block_of_word w number) refl at.2 in
      let u = with_client_remembered (with_graph w (with_word w.graph at.0 x.0)) in
      let whole : world_after w s ≡ u =
      world_is ∙ ap (λ y. with_client_remembered (world_from w y)) a.1 ∙ ap with_client_remembered x.1.0 in
      ap (λ v. number_shown v place) whole
      ∙ ap (option_map (shown_word u)) (written_word w u place at.0 x.0 at.1 refl refl)
      ∙ ap Some (same_shown w u x.0 refl ∙ x.1.1)

pub poke_shows_its_number : PokeShowsItsNumber
poke_shows_its_number formats steps later s place number legal is answered =
    let first = empty_world_of formats in
    shown_after_poke (reached formats steps) s place number (IsLegalFrom-later first steps (s ∷ later) legal).0 is
    (soundly_reached formats steps (IsLegalFrom-first first steps (s ∷ later) legal)).sound answered

-- ---- what a `peek` answers

peek_is_quiet : (place : Slot) → IsQuiet (call.Peek place)
peek_is_quiet place = record { none = λ w a ms e. e; world = λ w a. refl; reply = λ m w. refl }

pub peek_answers_what_is_shown : PeekAnswersWhatIsShown
peek_answers_what_is_shown formats steps later s place number legal is says_word =
    let w = reached formats steps in
    let here = (IsLegalFrom-later (empty_world_of formats) steps (s ∷ later) legal).0 in
    of_place (word_in w place) refl (sym says_word ∙ quiet_answer (call.Peek place) (peek_is_quiet place) w s here is)
  where
    word_is : (shown : ℕ) → Replied (reply.Word number) ≡ Replied (reply.Word shown) → shown ≡ number
    word_is shown e = let same : number ≡ shown = cc in sym same

    of_place : (x : Checked (Found AreaWord)) → word_in (reached formats steps) place ≡ x
        → Replied (reply.Word number) ≡ answer_from (x >>= (λ at. says (reply.Word (shown_word (reached formats steps) at.value))
        (reached formats steps)))
        → number_shown (reached formats steps) place ≡ Some number
    of_place (Err why) found due = absurd cc
    of_place (Ok at) found due =
        ap (λ x. option_map (shown_word (reached formats steps)) (word_found x)) found
        ∙ ap Some (word_is (shown_word (reached formats steps) at.value) due)
