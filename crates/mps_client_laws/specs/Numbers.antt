-- Numbers stay words. What a client writes into cells, manual blocks and areas is a number of its calls: if each of these is below 2^64,
-- so is each number that ever stands there.
use Rattle.std.specs.Prelude.{◌≡◌, ℕ, ◌^◌, Bool, true, false, ◌&&◌, nat_lt, IsTrue, Option, Some, None, List, [], ◌∷◌, refl}
use Rattle.std.specs.List.{list_all}
use Rattle.std.specs.Option.{option_map_or}
use Rattle.mps_base.specs.declared.names.Rank.TheVariants as rank
use Rattle.mps_model.specs.Layout.{Layout}
use Rattle.mps_model.specs.declared.call.Call.{Call}
use Rattle.mps_model.specs.declared.call.Call.TheVariants as call
use Rattle.mps_model.specs.Graph.{AreaWord, Automatic, Body, Cell, Graph, HeadCell, Hold, Manual, NumberCell, Object, PlainWord, Point, ReferenceCell, Reservation}
use Rattle.mps_model.specs.History.{world_after, world_after_steps}
use Rattle.mps_model.specs.Step.{Step, History}
use Rattle.mps_model.specs.World.{World}
use Rattle.mps_laws.specs.Held.{slot_of_t}
use Rattle.mps_laws.specs.Replay.{reached}
use Rattle.mps_client_laws.specs.Objects.{stepping, two_objects}

-- ---- words

-- whether a number is a word: it has at most 64 bits
abbrev pub is_word : ℕ → Bool
is_word number = nat_lt number (2 ^ 64)

-- whether the number that a call writes is a word, if it writes one. Four calls do, and a `reserve` writes its head
abbrev pub gives_word : Call → Bool
gives_word (call.Reserve point head) = is_word head
gives_word (call.InitNumber point cell value) = is_word value
gives_word (call.SetNumber slot cell value) = is_word value
gives_word (call.Store place word value) = is_word value
gives_word (call.Poke word value) = is_word value
gives_word _ = true

-- whether it is in each call of some steps
abbrev pub give_words : History → Bool
give_words steps = list_all (λ (s : Step). gives_word s.call) steps

-- ---- what has words alone

-- whether the number in a cell is a word. A reference isn't a number
abbrev pub is_word_cell : Cell → Bool
is_word_cell HeadCell = true
is_word_cell (NumberCell number) = is_word number
is_word_cell (ReferenceCell target tag) = true

abbrev pub has_word_cells : (head : ℕ) → List Cell → Bool
has_word_cells head cells = is_word head && list_all is_word_cell cells

abbrev pub has_words_in_body : Body → Bool
has_words_in_body (Automatic head cells is_weak) = has_word_cells head cells
has_words_in_body (Manual words) = list_all is_word words

abbrev pub has_words : Object → Bool
has_words o = has_words_in_body o.body

abbrev pub has_words_reserved : Reservation → Bool
has_words_reserved r = has_word_cells r.head r.cells

abbrev pub has_words_at_point : Option Point → Bool
has_words_at_point None = true
has_words_at_point (Some p) = option_map_or has_words_reserved p.reservation true

-- whether the number in an area word is a word. One that holds an object shows an address of it
abbrev pub is_word_of_area : AreaWord → Bool
is_word_of_area (PlainWord number) = is_word number
is_word_of_area (Hold id offset) = true

abbrev pub has_words_in_area : Option (List AreaWord) → Bool
has_words_in_area None = true
has_words_in_area (Some words) = list_all is_word_of_area words

-- these objects, live or not, open reservations and areas have words alone
pub record HaveWords (objects : List Object) (points : List (Option Point)) (areas : List (Option (List AreaWord))) : Type 0 where
  pub in_objects : IsTrue (list_all has_words objects)
  pub in_reservations : IsTrue (list_all has_words_at_point points)
  pub in_areas : IsTrue (list_all has_words_in_area areas)

-- each head and number cell of a graph, each word of a manual block and each number in an area is a word
abbrev pub HasWords : Graph → Type 0
HasWords g = HaveWords g.objects g.points g.areas

-- ---- the laws

-- If each call gives words, numbers that are words stay so. This is true from any world on, and of steps that aren't legal too.
abbrev pub NumbersStayWords : Type 0
NumbersStayWords =
    (w : World) (steps : History) → IsTrue (give_words steps) → HasWords w.graph → HasWords (world_after_steps w steps).graph

-- So each number of a world that a history reaches is a word, if each call gives words.
abbrev pub ReachedNumbersAreWords : Type 0
ReachedNumbersAreWords =
    (formats : ℕ → Layout) (history : History) → IsTrue (give_words history) → HasWords (reached formats history).graph

-- ---- vectors

-- the greatest word, and the number after it
abbrev greatest : ℕ
greatest = 0xffffffffffffffff

abbrev one_more : ℕ
one_more = 0x10000000000000000

pub the_greatest_word : is_word greatest ≡ true
the_greatest_word = refl

pub no_word_after_it : is_word one_more ≡ false
no_word_after_it = refl

pub a_call_gives_the_greatest : gives_word (call.SetNumber (slot_of_t 0) 2 greatest) ≡ true
a_call_gives_the_greatest = refl

pub no_call_gives_more : gives_word (call.SetNumber (slot_of_t 0) 2 one_more) ≡ false
no_call_gives_more = refl

-- an index or a number of units isn't written
pub a_number_that_is_not_written : gives_word (call.Step one_more) ≡ true
a_number_that_is_not_written = refl

-- the object 0 after its number was set
abbrev number_set : (value : ℕ) → World
number_set value = world_after two_objects (stepping (call.SetNumber (slot_of_t 0) 2 value) [])

pub words_after_a_word : list_all has_words (number_set greatest).graph.objects ≡ true
words_after_a_word = refl

-- the premise is needed: the definitions take any number
pub no_words_after_another_number : HasWords (number_set one_more).graph → ⊥
no_words_after_another_number h = let e : false ≡ true = h.in_objects in absurd cc

-- an area, and the point x with a reservation, each with a number
abbrev with_roots : (reserved shown : ℕ) → Graph
with_roots reserved shown = record two_objects.graph {
  points = Some (record {
    pool = 0;
    rank = rank.Exact;
    reservation = Some (record { head = 9; cells = HeadCell ∷ NumberCell reserved ∷ ReferenceCell None 3 ∷ []; is_doomed = false });
  }) ∷ None ∷ [];
  areas = None ∷ Some (PlainWord shown ∷ Hold 0 8 ∷ []) ∷ [];
}

pub words_in_roots : HasWords (with_roots greatest greatest)
words_in_roots = record { in_objects = refl; in_reservations = refl; in_areas = refl }

pub a_greater_number_is_reserved : HasWords (with_roots one_more 0) → ⊥
a_greater_number_is_reserved h = let e : false ≡ true = h.in_reservations in absurd cc

pub a_greater_number_is_in_an_area : HasWords (with_roots 0 one_more) → ⊥
a_greater_number_is_in_an_area h = let e : false ≡ true = h.in_areas in absurd cc
