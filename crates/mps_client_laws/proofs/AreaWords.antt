-- A word of an area that no step writes stays what it is.
use Rattle.std.proofs.Common.{◌≡◌, ◌⊎◌, inl, inr, ℕ, true, false, refl, sym, ◌∙◌, ap, subst, List, [], ◌∷◌, Option, Some, None, Ok, Err}
use Rattle.std.proofs.lemmas.Bool.{true≢false, and_from, eq-eqb, cases_eq, or_parts}
use Rattle.std.proofs.lemmas.Option.{none-some, same_Some}
use Rattle.std.specs.Prelude.{◌||◌, ◌==◌, option_and_then, slice_get, slice_set}
use Rattle.std.specs.Option.{option_map_or}
use Rattle.mps_base.specs.declared.moves.Move.{Move}
use Rattle.mps_base.specs.declared.names.Name.{Name}
use Rattle.mps_base.specs.declared.names.Slot.{Slot}
use Rattle.mps_base.specs.declared.refusal.Refusal.TheVariants as refusal
use Rattle.mps_model.specs.declared.call.Call.{Call}
use Rattle.mps_model.specs.declared.call.Call.TheVariants as call
use Rattle.mps_model.specs.Answer.{is_block}
use Rattle.mps_model.specs.Step.{Step}
use Rattle.mps_model.specs.Graph.{AreaWord, NamedThing, Thing, empty_graph, entry_at, thing_in}
use Rattle.mps_model.specs.World.{World, empty_world}
use Rattle.mps_model.specs.Checked.{Act, Checked, Found, ◌>>=◌, as_area, as_point, entry_in, number_named, numbered, required, word_in}
use Rattle.mps_model.specs.Accessing.{same_target}
use Rattle.mps_model.specs.Effect.{world_after_moves}
use Rattle.mps_model.specs.Policy.{units_asked}
use Rattle.mps_model.specs.Reply.{act}
use Rattle.mps_model.specs.History.{after_own_segment, asking, judged_world, moved_world, moves_of_poll, own_segment, world_after}
use Rattle.mps_changes.proofs.Checks.{for_world}
use Rattle.mps_changes.specs.Change.{ForAct, accepted, refused}
use Rattle.mps_laws.proofs.Entries.{entry_at-append, entry_at-written, slice_get-written}
use Rattle.mps_laws.proofs.Lookups.{entry_at-set_other, entry_within, slice_get-set_other}
use Rattle.mps_laws.proofs.OwnSegments.{own_segment_taken}
use Rattle.mps_laws.proofs.SameArena.{moved_alone}
use Rattle.mps_client_laws.specs.Pinning.{area_word, area_word_written_by, drops_area, is_same_word, word_found, writes_area_word}
use Rattle.mps_client_laws.proofs.Collecting.{moves_roots}
use Rattle.mps_client_laws.proofs.RootsOfCalls.{AWord, AnArea, Areas, AsNamed, IsNoRoot, Names, NoWord, OneMoreArea, OneNamed, OneUnnamed, WritesRoots, roots_of_act}
use Rattle.mps_client_laws.proofs.SlotsStay.{named_kept, unnamed_kept}

-- ---- where a word stands

-- what an area word is found to be, where its name stands for an area of this number
record IsWordOf (number : Option ℕ) (areas : List (Option (List AreaWord))) (index : ℕ) (found : Found AreaWord) : Type 0 where
  named : number ≡ Some found.number
  area : entry_at areas found.number ≡ Some found.list
  at_index : found.index ≡ index
  value : slice_get found.list index ≡ Some found.value

module _ (areas : List (Option (List AreaWord))) (index : ℕ) (found : Found AreaWord) where
  abbrev found_at : ℕ → List AreaWord → AreaWord → Found AreaWord
  found_at n area value = record { number = n; list = area; index = index; value = value }

  value_found : (n : ℕ) (area : List AreaWord) (o : Option AreaWord) → entry_at areas n ≡ Some area → slice_get area index ≡ o
      → (required o refusal.BadIndex >>= (λ value. Ok (found_at n area value))) ≡ Ok found → IsWordOf (Some n) areas index found
  value_found n area None there value e = absurd cc
  value_found n area (Some x) there value e =
      let is : found_at n area x ≡ found = cc in
      record {
        named = ap (λ (f : Found AreaWord). Some f.number) is;
        area = ap (λ (f : Found AreaWord). entry_at areas f.number) (sym is) ∙ there ∙ ap (λ (f : Found AreaWord). Some f.list) is;
        at_index = ap (λ (f : Found AreaWord). f.index) (sym is);
        value = ap (λ (f : Found AreaWord). slice_get f.list index) (sym is) ∙ value ∙ ap (λ (f : Found AreaWord). Some f.value) is;
      }

  area_found : (n : ℕ) (o : Option (List AreaWord)) → entry_at areas n ≡ o
      → (numbered n o >>= (λ area. entry_in area index)) ≡ Ok found → IsWordOf (Some n) areas index found
  area_found n None there e = absurd cc
  area_found n (Some area) there e = value_found n area (slice_get area index) there refl e

  place_found : (o : Option ℕ) → (required o refusal.BadName >>= (λ number. numbered number (entry_at areas number) >>=
      (λ area. entry_in area index))) ≡ Ok found
      → IsWordOf o areas index found
  place_found None e = absurd cc
  place_found (Some n) e = area_found n (entry_at areas n) refl e

word_is : (w : World) (place : Slot) (found : Found AreaWord) → word_in w place ≡ Ok found
    → IsWordOf (number_named w place.name as_area) w.graph.areas place.index found
word_is w place found e = place_found w.graph.areas place.index found (number_named w place.name as_area) e

-- the same the other way round
word_in_is : (w : World) (place : Slot) (number : ℕ) (area : List AreaWord) (word : AreaWord)
    → number_named w place.name as_area ≡ Some number → entry_at w.graph.areas number ≡ Some area
    → slice_get area place.index ≡ Some word
    → word_in w place ≡ Ok (record { number = number; list = area; index = place.index; value = word })
word_in_is w place number area word named there at = rw (named, there, at) refl

-- a place of these names and areas has this word
pub record HasWord (names : List NamedThing) (areas : List (Option (List AreaWord))) (place : Slot) (word : AreaWord) : Type 0 where
  pub thing : Thing
  pub number : ℕ
  pub area : List AreaWord
  pub named : thing_in names place.name ≡ Some thing
  pub is_area : as_area thing ≡ Some number
  pub there : entry_at areas number ≡ Some area
  pub at : slice_get area place.index ≡ Some word

pub has_word : (w : World) (place : Slot) (word : AreaWord) → area_word w place ≡ Some word → HasWord w.graph.names w.graph.areas place word
has_word w place word e = by_place (word_in w place) refl e
  where
    by_thing : (o : Option Thing) (n : ℕ) → option_and_then as_area o ≡ Some n → (t : Thing) × (o ≡ Some t) × (as_area t ≡ Some n)
    by_thing None n e = absurd (none-some n e)
    by_thing (Some t) n e = (t, refl, e)

    by_place : (x : Checked (Found AreaWord)) → word_in w place ≡ x → word_found x ≡ Some word
        → HasWord w.graph.names w.graph.areas place word
    by_place (Err why) f e = absurd (none-some word e)
    by_place (Ok found) f e =
        let is = word_is w place found f in
        let t = by_thing (thing_in w.graph.names place.name) found.number is.named in
        record {
          thing = t.0;
          number = found.number;
          area = found.list;
          named = t.1;
          is_area = t.2;
          there = is.area;
          at = is.value ∙ ap Some (same_Some found.value word e);
        }

-- what a place has after its word was written
pub written_word : (v u : World) (place : Slot) (at : Found AreaWord) (word : AreaWord) → word_in v place ≡ Ok at
    → u.graph.names ≡ v.graph.names
    → u.graph.areas ≡ slice_set v.graph.areas at.number (Some (slice_set at.list at.index word))
    → area_word u place ≡ Some word
written_word v u place at word e names areas =
    let is = word_is v place at e in
    let written = slice_set at.list at.index word in
    ap word_found (word_in_is u place at.number written word
    (ap (λ ns. option_and_then as_area (thing_in ns place.name)) names ∙ is.named)
    (ap (λ xs. entry_at xs at.number) areas ∙ entry_at-written v.graph.areas at.number at.list (Some written) is.area)
    (ap (λ i. slice_get (slice_set at.list i word) place.index) is.at_index
    ∙ slice_get-written at.list place.index at.value word is.value))

-- ---- what a call leaves

module _ (c : Call) (v : World) (place : Slot) (word : AreaWord) (unwritten : writes_area_word v c place ≡ false)
    (has : HasWord v.graph.names v.graph.areas place word) where
  number_of_place : number_named v place.name as_area ≡ Some has.number
  number_of_place = ap (option_and_then as_area) has.named ∙ has.is_area

  same_number : (these those : Option ℕ) (n : ℕ) → these ≡ Some n → those ≡ Some n → same_target these those ≡ true
  same_number these those n e f = ap (λ t. same_target t those) e ∙ ap (same_target (Some n)) f ∙ eq-eqb n n refl

  neither : (option_map_or (is_same_word v place) (area_word_written_by c) false ≡ false) × (drops_area v c place ≡ false)
  neither = or_parts (option_map_or (is_same_word v place) (area_word_written_by c) false) (drops_area v c place) unwritten

  not_dropped : (name : Name) → c ≡ call.DropRoot name → number_named v name as_area ≡ Some has.number → ⊥
  not_dropped name is number =
      true≢false (sym (same_number (number_named v place.name as_area) (number_named v name as_area) has.number number_of_place number)
      ∙ sym (ap (λ d. drops_area v d place) is) ∙ neither.1)

  named_after : (u : World) → Names c v u → thing_in u.graph.names place.name ≡ Some has.thing
  named_after u (AsNamed e) = ap (λ ns. thing_in ns place.name) e ∙ has.named
  named_after u (OneNamed one e) =
      ap (λ ns. thing_in ns place.name) e ∙ named_kept v.graph.names one place.name has.thing has.named
  named_after u (OneUnnamed name why e) =
      ap (λ ns. thing_in ns place.name) e ∙ unnamed_kept v.graph.names name place.name (differs why) ∙ has.named
    where
      differs : IsNoRoot v name ⊎ (c ≡ call.DropRoot name) → name ≡ place.name → ⊥
      differs (inl none) same =
          none-some has.number (sym none.no_area ∙ ap (λ n. number_named v n as_area) same ∙ number_of_place)
      differs (inr is) same = not_dropped name is (ap (λ n. number_named v n as_area) same ∙ number_of_place)

  -- the area of the place, in which it has its word
  abbrev IsArea : List (Option (List AreaWord)) → Type 0
  IsArea areas = (area : List AreaWord) × (entry_at areas has.number ≡ Some area) × (slice_get area place.index ≡ Some word)

  other_area : (n : ℕ) (new : Option (List AreaWord)) → (n ≡ has.number → ⊥) → IsArea (slice_set v.graph.areas n new)
  other_area n new differs =
      (has.area, entry_at-set_other v.graph.areas n has.number new differs ∙ has.there, has.at)

  -- another word of the area is written
  other_word : (other : Slot) (at : Found AreaWord) (x : AreaWord) → area_word_written_by c ≡ Some other
      → IsWordOf (number_named v other.name as_area) v.graph.areas other.index at → at.number ≡ has.number
      → IsArea (slice_set v.graph.areas at.number (Some (slice_set at.list at.index x)))
  other_word other at x is found same =
      let written = slice_set at.list at.index x in
      let list : at.list ≡ has.area = same_Some at.list has.area (sym found.area ∙ ap (entry_at v.graph.areas) same ∙ has.there) in (
        written,
        subst (λ n. entry_at (slice_set v.graph.areas at.number (Some written)) n ≡ Some written) same
            (entry_at-written v.graph.areas at.number at.list (Some written) found.area),
        slice_get-set_other at.list at.index place.index x unlike ∙ ap (λ xs. slice_get xs place.index) list ∙ has.at,
      )
    where
      unlike : at.index ≡ place.index → ⊥
      unlike equal =
          true≢false (sym (and_from (same_target (number_named v place.name as_area) (number_named v other.name as_area))
          (place.index == other.index)
          (same_number (number_named v place.name as_area) (number_named v other.name as_area) has.number number_of_place
          (found.named ∙ ap Some same))
          (eq-eqb place.index other.index (sym equal ∙ found.at_index)))
          ∙ sym (ap (λ o. option_map_or (is_same_word v place) o false) is) ∙ neither.0)

  area_after : (u : World) → Areas c v u → IsArea u.graph.areas
  area_after u (NoWord e) = subst IsArea (sym e) (has.area, has.there, has.at)
  area_after u (OneMoreArea words e) =
      subst IsArea (sym e) (
        has.area,
        entry_at-append v.graph.areas (Some words ∷ []) has.number
            (entry_within v.graph.areas has.number has.area has.there) ∙ has.there,
        has.at,
      )
  area_after u (AWord other at x is e f) =
      let found = word_is v other at e in
      subst IsArea (sym f) (elim (cases_eq at.number has.number) [
        | inl same ↦ other_word other at x is found same
        | inr differs ↦ other_area at.number (Some (slice_set at.list at.index x)) differs
      ])
  area_after u (AnArea name n is number e) =
      subst IsArea (sym e) (other_area n None (λ same. not_dropped name is (number ∙ ap Some same)))

  word_after : (judged u : World) → WritesRoots c judged v u → area_word u place ≡ Some word
  word_after judged u writes =
      let a = area_after u writes.areas in
      ap word_found (word_in_is u place has.number a.0 word
      (ap (option_and_then as_area) (named_after u writes.names) ∙ has.is_area) a.1 a.2)

-- ---- steps

asked_areas : (units : Option ℕ) (w : World) → (asking units w).graph.areas ≡ w.graph.areas
asked_areas None w = refl
asked_areas (Some units) w = refl

-- no move writes an area word
moved_areas : (w : World) (c : Call) (ms : List Move) → (moved_world w c ms).graph.areas ≡ w.graph.areas
moved_areas w (call.Reserve name head) ms =
    let polled = world_after_moves w (moves_of_poll ms) in
    let kept = (moves_roots w (moves_of_poll ms)).areas in
    asked_areas (units_asked w (call.Reserve name head)) (after_own_segment polled (own_segment ms) (number_named w name as_point))
    ∙ own_segment_taken (λ u. u.graph.areas ≡ w.graph.areas) polled kept (λ s. kept) (λ s n r. kept) (own_segment ms)
    (number_named w name as_point)
moved_areas w (call.Step units) ms =
    asked_areas (units_asked w (call.Step units)) (world_after_moves w ms) ∙ (moves_roots w ms).areas
moved_areas w _ ms = (moves_roots w ms).areas

-- a world of these names
abbrev of_names : List NamedThing → World
of_names names = record empty_world { graph = record empty_graph { names = names } }

same_drops : (v w : World) (c : Call) (place : Slot) → v.graph.names ≡ w.graph.names → drops_area v c place ≡ drops_area w c place
same_drops v w (call.DropRoot root) place names = ap (λ ns. drops_area (of_names ns) (call.DropRoot root) place) names
same_drops v w _ place names = refl

same_words_written : (v w : World) (c : Call) (place : Slot) → v.graph.names ≡ w.graph.names
    → writes_area_word v c place ≡ writes_area_word w c place
same_words_written v w c place names =
    ap (λ ns. option_map_or (is_same_word (of_names ns) place) (area_word_written_by c) false || drops_area v c place) names
    ∙ ap (λ b. option_map_or (is_same_word w place) (area_word_written_by c) false || b) (same_drops v w c place names)

pub area_word_after_step : (w : World) (s : Step) (place : Slot) (word : AreaWord) → writes_area_word w s.call place ≡ false
    → area_word w place ≡ Some word → area_word (world_after w s) place ≡ Some word
area_word_after_step w s place word unwritten there =
    let moved = moved_world w s.call s.moves in
    let names = (moved_alone w s.call s.moves).names in
    let now = subst (λ xs. HasWord moved.graph.names xs place word) (sym (moved_areas w s.call s.moves))
    (subst (λ ns. HasWord ns w.graph.areas place word) (sym names) (has_word w place word there)) in
    let still : area_word moved place ≡ Some word =
    ap word_found (word_in_is moved place now.number now.area word (ap (option_and_then as_area) now.named ∙ now.is_area) now.there
    now.at) in
    for_world (λ u. area_word u place ≡ Some word) moved (act (is_block s.answer) (judged_world w s.call s.moves) moved s.call)
    (of_act (act (is_block s.answer) (judged_world w s.call s.moves) moved s.call) now
    (same_words_written moved w s.call place names ∙ unwritten)
    (roots_of_act (is_block s.answer) (judged_world w s.call s.moves) moved s.call)) still
  where
    of_act : (x : Checked Act) → HasWord (moved_world w s.call s.moves).graph.names (moved_world w s.call s.moves).graph.areas place word
        → writes_area_word (moved_world w s.call s.moves) s.call place ≡ false
        → ForAct (WritesRoots s.call (judged_world w s.call s.moves) (moved_world w s.call s.moves)) x
        → ForAct (λ u. area_word u place ≡ Some word) x
    of_act _ now unwritten (accepted {a} writes) =
        accepted (word_after s.call (moved_world w s.call s.moves) place word unwritten now (judged_world w s.call s.moves) a.world writes)
    of_act _ now unwritten refused = refused
