-- What area words pin: a word that no step writes shows the number that it showed, and an object in which that lies lives and stays
-- where it is.
use Rattle.std.specs.Prelude.{◌≡◌, ℕ, Bool, true, false, not, ◌&&◌, ◌||◌, ◌==◌, IsTrue, Option, Some, None, option_map, Ok, Err, [], ◌∷◌, ◌++◌, refl}
use Rattle.std.specs.Option.{option_map_or}
use Rattle.mps_base.specs.Address.{Id, Address}
use Rattle.mps_base.specs.declared.names.Slot.{Slot}
use Rattle.mps_model.specs.Layout.{Layout}
use Rattle.mps_model.specs.declared.call.Call.{Call}
use Rattle.mps_model.specs.declared.call.Call.TheVariants as call
use Rattle.mps_model.specs.declared.reply.Reply.TheVariants as reply
use Rattle.mps_model.specs.Answer.{Replied, is_refused}
use Rattle.mps_model.specs.Step.{Step, History}
use Rattle.mps_model.specs.Graph.{AreaThing, AreaWord, Hold, PlainWord, contains, ids_of_client}
use Rattle.mps_model.specs.World.{World, address_of, lies_in, shown_word}
use Rattle.mps_model.specs.Checked.{Checked, Found, as_area, number_named, word_in}
use Rattle.mps_model.specs.Accessing.{same_target}
use Rattle.mps_model.specs.History.{IsLegalHistoryOf, world_after}
use Rattle.mps_laws.specs.Held.{letter, slot_of_t, target_of_slot}
use Rattle.mps_laws.specs.Replay.{reached}
use Rattle.mps_client_laws.specs.Objects.{stepping, two_objects}

-- ---- area words

abbrev pub word_found : Checked (Found AreaWord) → Option AreaWord
word_found (Ok found) = Some found.value
word_found (Err why) = None

-- what stands in a word of an area, if there is such a word
abbrev pub area_word : World → (place : Slot) → Option AreaWord
area_word w place = word_found (word_in w place)

-- the number that it shows, as `peek` answers it
abbrev pub number_shown : World → (place : Slot) → Option ℕ
number_shown w place = option_map (shown_word w) (area_word w place)

-- the area word that a call writes, if it isn't refused
abbrev pub area_word_written_by : Call → Option Slot
area_word_written_by (call.Poke word value) = Some word
area_word_written_by (call.Pin word slot) = Some word
area_word_written_by _ = None

-- whether two area words have one index in areas of one name
abbrev pub is_same_word : World → (place other : Slot) → Bool
is_same_word w place other =
    same_target (number_named w place.name as_area) (number_named w other.name as_area) && place.index == other.index

-- whether a call drops the area of a word
abbrev pub drops_area : World → Call → (place : Slot) → Bool
drops_area w (call.DropRoot root) place = same_target (number_named w place.name as_area) (number_named w root as_area)
drops_area w _ place = false

-- whether a call writes this area word or drops its area, if it isn't refused
abbrev pub writes_area_word : World → Call → (place : Slot) → Bool
writes_area_word w c place = option_map_or (is_same_word w place) (area_word_written_by c) false || drops_area w c place

-- none of these steps writes this area word or drops its area
abbrev pub leave_area_word : World → History → (place : Slot) → Bool
leave_area_word w [] place = true
leave_area_word w (s ∷ ss) place = not (writes_area_word w s.call place) && leave_area_word (world_after w s) ss place

-- ---- the laws

-- After a `poke` that isn't refused its word shows its number.
abbrev pub PokeShowsItsNumber : Type 0
PokeShowsItsNumber =
    (formats : ℕ → Layout) (steps later : History) (s : Step) (place : Slot) (number : ℕ) → IsLegalHistoryOf formats (steps ++ s ∷ later)
    → s.call ≡ call.Poke place number → is_refused s.answer ≡ false
    → number_shown (world_after (reached formats steps) s) place ≡ Some number

-- An area word that no step writes shows what it showed, also if a collection moves objects meanwhile.
abbrev pub ShownNumbersStay : Type 0
ShownNumbersStay =
    (formats : ℕ → Layout) (steps between later : History) (place : Slot) (number : ℕ)
    → IsLegalHistoryOf formats ((steps ++ between) ++ later) → number_shown (reached formats steps) place ≡ Some number
    → IsTrue (leave_area_word (reached formats steps) between place)
    → number_shown (reached formats (steps ++ between)) place ≡ Some number

-- What a `peek` answers is the number that its word shows.
abbrev pub PeekAnswersWhatIsShown : Type 0
PeekAnswersWhatIsShown =
    (formats : ℕ → Layout) (steps later : History) (s : Step) (place : Slot) (number : ℕ) → IsLegalHistoryOf formats (steps ++ s ∷ later)
    → s.call ≡ call.Peek place → s.answer ≡ Replied (reply.Word number) → number_shown (reached formats steps) place ≡ Some number

-- The address of an object to which a slot refers lies in it, as its pool counts that.
abbrev pub AddressesLieInside : Type 0
AddressesLieInside =
    (formats : ℕ → Layout) (steps : History) (slot : Slot) (id : Id) (at : Address) → IsLegalHistoryOf formats steps
    → target_of_slot (reached formats steps) slot ≡ Some id → address_of (reached formats steps) id ≡ Some at
    → IsTrue (lies_in (reached formats steps) at id)

-- If an area word shows a number that lies in an object, and the client holds the object at that moment, the object lives on and stays
-- where it is, over any steps that don't write the word: whatever is collected, and also if the client drops it meanwhile.
abbrev pub PinnedObjectsLieStill : Type 0
PinnedObjectsLieStill =
    (formats : ℕ → Layout) (steps between later : History) (place : Slot) (number : ℕ) (id : Id) (at : Address)
    → IsLegalHistoryOf formats ((steps ++ between) ++ later)
    → IsTrue (contains (ids_of_client (reached formats steps).graph) id) → address_of (reached formats steps) id ≡ Some at
    → number_shown (reached formats steps) place ≡ Some number → IsTrue (lies_in (reached formats steps) number id)
    → IsTrue (leave_area_word (reached formats steps) between place)
    → address_of (reached formats (steps ++ between)) id ≡ Some at

-- ---- vectors

-- the two words of the area a: a number that is the address of the object 0, and the number in it of its second word
abbrev with_an_area : World
with_an_area = record two_objects {
  graph = record two_objects.graph {
    areas = Some (PlainWord 0x1000 ∷ Hold 0 8 ∷ []) ∷ [];
    names = two_objects.graph.names ++ record { name = letter 97; thing = AreaThing 0 } ∷ [];
  };
}

abbrev word_of_a : (index : ℕ) → Slot
word_of_a index = record { name = letter 97; index = index }

pub a_number_is_shown : number_shown with_an_area (word_of_a 0) ≡ Some 0x1000
a_number_is_shown = refl

pub a_hold_shows_where_it_points : number_shown with_an_area (word_of_a 1) ≡ Some 0x1008
a_hold_shows_where_it_points = refl

pub no_word_shows_none : number_shown with_an_area (word_of_a 2) ≡ None
no_word_shows_none = refl

pub a_poke_writes_its_word : leave_area_word with_an_area (stepping (call.Poke (word_of_a 0) 7) [] ∷ []) (word_of_a 0) ≡ false
a_poke_writes_its_word = refl

pub a_poke_leaves_another_word : leave_area_word with_an_area (stepping (call.Poke (word_of_a 0) 7) [] ∷ []) (word_of_a 1) ≡ true
a_poke_leaves_another_word = refl

pub a_pin_writes_its_word : leave_area_word with_an_area (stepping (call.Pin (word_of_a 1) (slot_of_t 0)) [] ∷ []) (word_of_a 1) ≡ false
a_pin_writes_its_word = refl

pub a_take_leaves_its_word : leave_area_word with_an_area (stepping (call.Take (slot_of_t 1) (word_of_a 1)) [] ∷ []) (word_of_a 1) ≡ true
a_take_leaves_its_word = refl

pub an_area_that_is_dropped : leave_area_word with_an_area (stepping (call.DropRoot (letter 97)) [] ∷ []) (word_of_a 1) ≡ false
an_area_that_is_dropped = refl

pub another_root_that_is_dropped : leave_area_word with_an_area (stepping (call.DropRoot (letter 116)) [] ∷ []) (word_of_a 1) ≡ true
another_root_that_is_dropped = refl

pub a_poked_number_is_shown :
    number_shown (world_after with_an_area (stepping (call.Poke (word_of_a 1) 0x2000) [])) (word_of_a 1) ≡ Some 0x2000
a_poked_number_is_shown = refl

pub an_address_lies_inside : lies_in with_an_area 0x1000 0 ≡ true
an_address_lies_inside = refl

pub another_word_does_not : lies_in with_an_area 0x1008 0 ≡ false
another_word_does_not = refl
