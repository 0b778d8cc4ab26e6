-- What the look-ups of a call found: slots, words of areas, objects, and cells.
use Rattle.std.proofs.Common.{◌≡◌, ◌∙◌, ℕ, refl, ap, List, Option, Some, None, Ok, subst}
use Rattle.std.proofs.lemmas.Option.{slice_get-map}
use Rattle.std.specs.Prelude.{map, slice_get, option_map}
use Rattle.mps_base.specs.declared.names.Slot.{Slot}
use Rattle.mps_base.specs.declared.refusal.Refusal.TheVariants as refusal
use Rattle.mps_model.specs.Graph.{Object, Cell, HeadCell, NumberCell, ReferenceCell, AreaWord, entry_at, object_at, target_of_cell}
use Rattle.mps_model.specs.World.{World}
use Rattle.mps_model.specs.Checked.{Found, Numbered, ◌>>=◌, required, numbered, number_named, as_table, as_area, entry_in, slot_in, word_in, object_in, number_of_cell, reference_in, number_at, reference_at}

pub found_by : {A : Type 0} (o : Option ℕ) (look : ℕ → Option (List A)) (index : ℕ) (found : Found A)
    → (required o refusal.BadName >>= (λ number. numbered number (look number) >>= (λ t. entry_in t index))) ≡ Ok found
    → (look found.number ≡ Some found.list) × (slice_get found.list found.index ≡ Some found.value)
found_by None look index found e = absurd (cc)
found_by {A} (Some n) look index found e = of_list (look n) refl e
  where
    of_entry : (xs : List A) (x : Option A) → slice_get xs index ≡ x → look n ≡ Some xs
        → (required x refusal.BadIndex >>= (λ value. Ok (record { number = n; list = xs; index = index; value = value }))) ≡ Ok found
        → (look found.number ≡ Some found.list) × (slice_get found.list found.index ≡ Some found.value)
    of_entry xs None f l h = absurd (cc)
    of_entry xs (Some value) f l h =
        let same : record { number = n; list = xs; index = index; value = value } ≡ found = cc in
        subst (λ (y : Found A). (look y.number ≡ Some y.list) × (slice_get y.list y.index ≡ Some y.value)) same (l, f)

    of_list : (x : Option (List A)) → look n ≡ x → (numbered n x >>= (λ t. entry_in t index)) ≡ Ok found
        → (look found.number ≡ Some found.list) × (slice_get found.list found.index ≡ Some found.value)
    of_list None l h = absurd (cc)
    of_list (Some xs) l h = of_entry xs (slice_get xs index) refl l h

pub slot_found : (w : World) (slot : Slot) (found : Found (Option ℕ)) → slot_in w slot ≡ Ok found
    → (entry_at w.graph.tables found.number ≡ Some found.list) × (slice_get found.list found.index ≡ Some found.value)
slot_found w slot found e = found_by (number_named w slot.name as_table) (λ n. entry_at w.graph.tables n) slot.index found e

pub word_found : (w : World) (slot : Slot) (found : Found AreaWord) → word_in w slot ≡ Ok found
    → (entry_at w.graph.areas found.number ≡ Some found.list) × (slice_get found.list found.index ≡ Some found.value)
word_found w slot found e = found_by (number_named w slot.name as_area) (λ n. entry_at w.graph.areas n) slot.index found e

pub object_found : (w : World) (target : Option ℕ) (object : Numbered Object) → object_in w target ≡ Ok object
    → (target ≡ Some object.number) × (object_at w.graph object.number ≡ Some object.value)
object_found w None object e = absurd (cc)
object_found w (Some id) object e = of_object (object_at w.graph id) refl e
  where
    of_object : (x : Option Object) → object_at w.graph id ≡ x
        → (required x refusal.NullRef >>= (λ o. Ok (record { number = id; value = o }))) ≡ Ok object
        → (Some id ≡ Some object.number) × (object_at w.graph object.number ≡ Some object.value)
    of_object None f h = absurd (cc)
    of_object (Some o) f h =
        let same : record { number = id; value = o } ≡ object = cc in
        subst (λ (y : Numbered Object). (Some id ≡ Some y.number) × (object_at w.graph y.number ≡ Some y.value)) same (refl, f)

reference_is : (c : Cell) (r : Option ℕ) → reference_in c ≡ Ok r → target_of_cell c ≡ r
reference_is (ReferenceCell target tag) r e = (let same : target ≡ r = cc in same)
reference_is HeadCell r e = absurd (cc)
reference_is (NumberCell number) r e = absurd (cc)

pub reference_found : (cells : List Cell) (k : ℕ) (r : Option ℕ) → reference_at cells k ≡ Ok r
    → slice_get (map target_of_cell cells) k ≡ Some r
reference_found cells k r e = of_cell (slice_get cells k) refl e
  where
    of_cell : (x : Option Cell) → slice_get cells k ≡ x → (required x refusal.BadIndex >>= reference_in) ≡ Ok r
        → slice_get (map target_of_cell cells) k ≡ Some r
    of_cell None f h = absurd (cc)
    of_cell (Some c) f h = slice_get-map target_of_cell cells k ∙ ap (option_map target_of_cell) f ∙ ap Some (reference_is c r h)

number_is : (c : Cell) (n : ℕ) → number_of_cell c ≡ Ok n → c ≡ NumberCell n
number_is (NumberCell m) n e = (let same : m ≡ n = cc in ap NumberCell same)
number_is HeadCell n e = absurd (cc)
number_is (ReferenceCell target tag) n e = absurd (cc)

pub number_found : (cells : List Cell) (k n : ℕ) → number_at cells k ≡ Ok n → slice_get cells k ≡ Some (NumberCell n)
number_found cells k n e = of_cell (slice_get cells k) refl e
  where
    of_cell : (x : Option Cell) → slice_get cells k ≡ x → (required x refusal.BadIndex >>= number_of_cell) ≡ Ok n
        → slice_get cells k ≡ Some (NumberCell n)
    of_cell None f h = absurd (cc)
    of_cell (Some c) f h = f ∙ ap Some (number_is c n h)
