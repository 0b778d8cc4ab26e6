-- The calls on areas are right: `peek`, `poke`, `pin`, `take`.
use Rattle.std.proofs.Common.{◌≡◌, ◌∙◌, ℕ, ◌+◌, ◌-◌, ◌≤◌, Bool, true, false, refl, sym, ap, subst, [], List, Option, Some, Ok, arith, ◌||◌, ◌&&◌, not, true≢false, Err}
use Rattle.std.specs.Option.{option_map_or}
use Rattle.mps_base.specs.Address.{Address, Id}
use Rattle.mps_base.specs.declared.names.Slot.{Slot}
use Rattle.mps_base.specs.declared.refusal.Refusal.TheVariants as refusal
use Rattle.mps_format.specs.Layout.{Layout}
use Rattle.mps_trace_laws.proofs.Image.Shaped.{all_at}
use Rattle.mps_laws.proofs.Lookups.{entry_is_there}
use Rattle.mps_laws.proofs.Same as same
use Rattle.mps_laws.proofs.Same.{Same, fits, same_then}
use Rattle.mps_model.specs.declared.call.Call.TheVariants as call
use Rattle.mps_model.specs.declared.reply.Reply.TheVariants as reply
use Rattle.mps_model.specs.Answer.{is_block}
use Rattle.mps_model.specs.Accessing.{act_poke_in, act_poked, held_in, hold_of, poked_in, AsBlock, AsNumber, AsMarked, poked, with_word as model_word}
use Rattle.mps_model.specs.Checked.{Checked, Found, required, word_in as model_word_in, Act, says, with_graph, ◌>>=◌}
use Rattle.mps_model.specs.Graph.{AreaWord, Hold, PlainWord, entry_at, contains}
use Rattle.mps_model.specs.World.{World, block_of_word, lies_in, shown_word, is_copying_object}
use Rattle.mps_model.specs.WellFormed.{are_right_words, is_right_word}
use Rattle.mps_heap_spec.specs.Areas.{block_over, held_by, is_hold, answer_of_peek, after_pin, after_poke, after_take, with_area_word}
use Rattle.mps_heap_spec.specs.Coming.{Comes, Outcome, answered}
use Rattle.mps_heap_spec.specs.declared.found.Entry.{Entry}
use Rattle.mps_heap_spec.specs.State.{HeapState}
use Rattle.mps_root.specs.declared.roots.Stored.{Stored}
use Rattle.mps_refinement.proofs.Worlds.CollectorKept.{all_kept}
use Rattle.mps_refinement.specs.RightStep.{IsRight}
use Rattle.mps_refinement.specs.StandsFor.{AreParts, Past, address_of_target, stored_word, IsInTime, Time, rests, runs, CollectorState}
use Rattle.mps_refinement.proofs.Lookups.BlocksOver.{block_over_live}
use Rattle.mps_refinement.proofs.Lookups.Found.{same_of}
use Rattle.mps_refinement.proofs.Worlds.Known.{IsKnown}
use Rattle.mps_refinement.proofs.Lookups.LiveObjects.{object_then}
use Rattle.mps_refinement.proofs.Lookups.Lookups.{IsWordEntry, slot_same, word_same}
use Rattle.mps_refinement.proofs.Calls.Objects.{says_word}
use Rattle.mps_refinement.proofs.Parts.PartsWritten.{slot_written, word_written}
use Rattle.mps_refinement.proofs.Calls.Readings.{act_reading, reading_is_right, says_ok}
pub use Rattle.mps_refinement.specs.Answering.{says_block}
use Rattle.mps_refinement.proofs.Worlds.Steps.{ComesToTheSame, Leads, answer_to, quiet_is_right, marked_is_right}
use Rattle.mps_refinement.proofs.Lookups.WordsInObjects.{FindsObject, FindsNone, FindsOne, lying_byte, word_in_object}
use Rattle.mps_heap_spec.specs.Finding.{word_in as ours_word}
use Rattle.mps_model.specs.Collection.{is_condemned, is_settled}
use Rattle.mps_abstract.specs.Colours.{is_white}
use Rattle.mps_abstract.specs.Collecting.{Collecting, Running}
use Rattle.std.proofs.lemmas.Bool.{false≢true}
use Rattle.std.proofs.lemmas.Option.{same_Some}
use Rattle.std.specs.Prelude.{if◌then◌else◌}

-- what is stored for a word
abbrev pub stored : (word : ℕ) → (holds : Bool) → Stored
stored word holds = record { word = word; holds = holds }

-- what is stored for a word that holds an object shows that
stored_hold : (addresses : List (Option Address)) (id : Id) (at offset word : ℕ) → entry_at addresses id ≡ Some at → word ≡ at + offset
    → stored word true ≡ stored_word addresses (Hold id offset)
stored_hold addresses id at offset word there is =
    ap (λ n. stored n true) (is ∙ sym (ap (λ o. option_map_or (λ a. a + offset) o 0) there))

-- ---- what a word holds

-- both are refused, or find one object
record IsHeldObject (addresses : List (Option Address)) (at : Address) (id : Id) : Type 0 where
  is : at ≡ address_of_target addresses (Some id)

module _ {F : Type 0} (layout : F → Layout) (past : Past) (h : HeapState F) (w : World) (parts : AreParts layout past h w)
    (of : IsKnown past.time w) where
  -- a word of an area is right
  word_is_right : (index : ℕ) (entry : Entry Stored) (found : Found AreaWord) → IsWordEntry past h w index entry found
      → is_right_word w found.value ≡ true
  word_is_right index entry found is =
      all_at (is_right_word w) found.list index found.value
      (all_at (are_right_words w) w.graph.areas found.number (Some found.list) of.formed.words
      (entry_is_there w.graph.areas found.number found.list is.has)) is.there

  -- the block over a word that holds an object is the object's
  hold_is_found : (id : Id) (offset : ℕ) → lies_in w (shown_word w (Hold id offset)) id ≡ true
      → block_over h.segs (shown_word w (Hold id offset)) ≡ Some (address_of_target w.addresses (Some id))
  hold_is_found id offset lies =
      let x = lying_byte layout past h w parts of (shown_word w (Hold id offset)) id lies in
      block_over_live layout past h w parts (shown_word w (Hold id offset)) id x.0 x.1 x.3
      ∙ ap Some (sym (ap (λ o. option_map_or (λ a. a) o 0) x.3.address))

  held_same : (word : AreaWord) → is_right_word w word ≡ true
      → Same (IsHeldObject w.addresses) (held_by h (stored_word w.addresses word)) (held_in word)
  held_same (PlainWord number) right = same.refused
  held_same (Hold id offset) right =
      same_of (IsHeldObject w.addresses)
      (ap (λ o. required o refusal.NotARef) (hold_is_found id offset right)) refl (record { is = refl })

-- ---- the calls

module _ {F : Type 0} (layout : F → Layout) (h : HeapState F) where
  shown_is : (w : World) (word : AreaWord) → (stored_word w.addresses word).word ≡ shown_word w word
  shown_is w (PlainWord number) = refl
  shown_is w (Hold id offset) = refl

  pub peeked_right : (place : Slot) (result : Checked ℕ) → result ≡ answer_of_peek h place
      → IsRight layout h (call.Peek place) [] (answer_to says_word result) h
  peeked_right place result =
      reading_is_right layout says_word h (call.Peek place) refl refl (answer_of_peek h place) result
      (λ w past parts reached.
      same_then (word_same layout past h w parts place) (λ entry found is.
      fits (ap (λ n. act_reading w (says_word n)) (sym (ap (λ (s : Stored). s.word) is.fit.value ∙ shown_is w found.value)))))

  pinned_same : (place slot : Slot) → ComesToTheSame layout says_ok h (call.Pin place slot) (after_pin layout h place slot)
  pinned_same place slot w past parts reached =
      same_then (word_same layout past h w parts place) (λ entry found is.
      object_then layout past h w parts reached slot (λ b n object.
      fits (record {
        answer = refl;
        keeps = all_kept h;
        formats = refl;
        has = record {
          past = past;
          timed = refl;
          parts = word_written layout past h w parts place.index entry found (stored b.at true) (Hold n.number 0) is.fit
              (stored_hold w.addresses n.number b.at 0 b.at object.address (omega arith));
        };
      })))

  pub pinned_right : (place slot : Slot) (result : Checked (Unit {0})) (after : HeapState F)
      → Comes h (after_pin layout h place slot) result after
      → IsRight layout h (call.Pin place slot) [] (answer_to says_ok result) after
  pinned_right place slot result after =
      quiet_is_right layout says_ok h (call.Pin place slot) refl refl (after_pin layout h place slot) result after
      (pinned_same place slot)

  taken_same : (slot place : Slot) → ComesToTheSame layout says_ok h (call.Take slot place) (after_take h slot place)
  taken_same slot place w past parts reached =
      let of = reached in
      same_then (slot_same layout past h w parts slot) (λ into found is.
      same_then (word_same layout past h w parts place) (λ entry word at.
      same_then (subst (λ s. Same (IsHeldObject w.addresses) (held_by h s) (held_in word.value)) (sym at.fit.value)
      (held_same layout past h w parts of word.value (word_is_right layout past h w parts of place.index entry word at.fit)))
      (λ address id object.
      fits (record {
        answer = refl;
        keeps = all_kept h;
        formats = refl;
        has = record {
          past = past;
          timed = refl;
          parts = slot_written layout past h w parts slot.index into found address (Some id) is.fit object.is;
        };
      }))))

  pub taken_right : (slot place : Slot) (result : Checked (Unit {0})) (after : HeapState F) → Comes h (after_take h slot place) result after
      → IsRight layout h (call.Take slot place) [] (answer_to says_ok result) after
  taken_right slot place result after =
      quiet_is_right layout says_ok h (call.Take slot place) refl refl (after_take h slot place) result after
      (taken_same slot place)

  -- ---- poke

  module _ (w : World) (past : Past) (parts : AreParts layout past h w) (of : IsKnown past.time w) (index : ℕ) (entry : Entry Stored)
      (found : Found AreaWord) (is : IsWordEntry past h w index entry found) (word : ℕ) where
    -- the outcome of a poke that holds an object or doesn't
    abbrev poke_outcome : Bool → Outcome F Bool
    poke_outcome holds = record { answer = holds; state = with_area_word h entry (stored word holds) }

    offset_is : {at base : Address} → base ≡ at → at ≤ word → word ≡ at + (word - base)
    offset_is same above = omega (arith, same, above)

    -- what a poke of an object comes to: it is held if it isn't white
    abbrev as_held : (id : Id) (holds : Bool) → Checked Act
    as_held id holds =
        if holds then says reply.Block (with_graph w (model_word w.graph found (hold_of w id word))) else
        says reply.Plain (with_graph w (model_word w.graph found (PlainWord word)))

    kept_outside : (t : Time) (y : Collecting) (id : Id) → (not (is_condemned y.running id) || is_settled y.running id) ≡ true → Running y
        → is_white y.running.condemned y.colours id ≡ false
    kept_outside t y id kept run = of_condemned (is_condemned y.running id) refl
      where
        of_condemned : (b : Bool) → is_condemned y.running id ≡ b → is_white y.running.condemned y.colours id ≡ false
        of_condemned false e = ap (λ b. b && not (contains y.colours.kept id)) e
        of_condemned true e = run.settled.settled id (ap (λ b. not b || is_settled y.running id) (sym e) ∙ kept)

    condemned_then : (b s : Bool) → (not b || s) ≡ false → (b ≡ true) × (s ≡ false)
    condemned_then true s h = (refl, h)
    condemned_then false s h = absurd (true≢false h)

    poked_running : (y : Collecting) → Running y → (id : Id) (white : Bool) → is_white y.running.condemned y.colours id ≡ white
        → (copying : Bool) → is_copying_object y.world id ≡ copying
        → act_poked w found id word (if not (is_condemned y.running id) || is_settled y.running id then AsBlock
        else (if copying then AsNumber else AsMarked)) (not white) ≡ as_held id (not white)
    poked_running y run id white is copying copies = of_kept (not (is_condemned y.running id) || is_settled y.running id) refl
      where
        in_a_copying_pool : (b : Bool) → white ≡ b → copying ≡ true → (not (is_condemned y.running id) || is_settled y.running id) ≡ false
            → b ≡ true
        in_a_copying_pool true e c k = refl
        in_a_copying_pool false e c k =
            let parts = condemned_then (is_condemned y.running id) (is_settled y.running id) k in
            let place = run.settled.in_place id (copies ∙ c) parts.0 (is ∙ e) in
            absurd (true≢false (sym (settled_by (contains y.running.pinned id) (contains y.running.placed id)
            (contains y.running.had id) place) ∙ parts.1))
          where
            settled_by : (p q r : Bool) → (p || q) ≡ true → (p || (q || r)) ≡ true
            settled_by true q r h = refl
            settled_by false true r h = refl
            settled_by false false r h = absurd (false≢true h)

        marked : (b : Bool) → act_poked w found id word AsMarked (not b) ≡ as_held id (not b)
        marked true = refl
        marked false = refl

        moved : (b : Bool) → b ≡ true → act_poked w found id word AsNumber (not b) ≡ as_held id (not b)
        moved true e = refl
        moved false e = absurd (false≢true e)

        block : (b : Bool) → b ≡ false → act_poked w found id word AsBlock (not b) ≡ as_held id (not b)
        block true e = absurd (true≢false e)
        block false e = refl

        of_copying : (b : Bool) → copying ≡ b → (not (is_condemned y.running id) || is_settled y.running id) ≡ false
            → act_poked w found id word (if b then AsNumber else AsMarked) (not white) ≡ as_held id (not white)
        of_copying true e k = moved white (in_a_copying_pool white refl e k)
        of_copying false e k = marked white

        of_kept : (b : Bool) → (not (is_condemned y.running id) || is_settled y.running id) ≡ b
            → act_poked w found id word (if b then AsBlock else (if copying then AsNumber else AsMarked)) (not white)
            ≡ as_held id (not white)
        of_kept true e = block white (sym is ∙ kept_outside past.time y id e run)
        of_kept false e =
            subst (λ b. act_poked w found id word (if b then AsNumber else AsMarked) (not white) ≡ as_held id (not white)) refl
            (of_copying copying refl e)

    poked_as : (t : Time) (s : CollectorState) → IsInTime t s w → (id : Id) (white : Bool) → is_white t.condemned t.colours id ≡ white
        → act_poked w found id word (poked w id) (not white) ≡ as_held id (not white)
    poked_as t s (rests rest) id white e =
        ap (λ p. act_poked w found id word p (not white)) (ap (poked_in w id) rest.none) ∙ at_rest white
        (sym e ∙ ap (λ (u : Time). is_white u.condemned u.colours id) rest.time)
      where
        at_rest : (b : Bool) → b ≡ false → act_poked w found id word AsBlock (not b) ≡ as_held id (not b)
        at_rest true h = absurd (true≢false h)
        at_rest false h = refl
    poked_as t s (runs y r) id white e =
        ap (λ p. act_poked w found id word p (not white))
        (ap (poked_in w id) (ap (λ (v : World). v.collection) (sym r.world) ∙ r.invariant.runs))
        ∙ poked_running y r.invariant id white
        (ap (λ cs. is_white cs y.colours id) (sym r.condemned_ids) ∙ ap (λ k. is_white t.condemned k id) (sym r.colours) ∙ e)
        (is_copying_object w id) (ap (λ v. is_copying_object v id) r.world)

    poke_leads : (holds : Bool) (o : Option Id) → FindsObject layout past h w parts of word holds o
        → Same (Leads layout says_block h past w) (Ok (poke_outcome holds)) (act_poke_in w found word holds o)
    poke_leads holds o FindsNone =
        fits (record {
          answer = refl;
          keeps = all_kept h;
          formats = refl;
          has = record {
            past = past;
            timed = refl;
            parts = word_written layout past h w parts index entry found (stored word false) (PlainWord word) is refl;
          };
        })
    poke_leads holds o (FindsOne {id} {white} at there above e) =
        subst (Same (Leads layout says_block h past w) (Ok (poke_outcome (not white))))
        (sym (poked_as past.time of.collector of.now id white e)) (held (not white))
      where
        held : (b : Bool) → Same (Leads layout says_block h past w) (Ok (poke_outcome b)) (as_held id b)
        held true =
            fits (record {
              answer = refl;
              keeps = all_kept h;
              formats = refl;
              has = record {
                past = past;
                timed = refl;
                parts = word_written layout past h w parts index entry found (stored word true) (hold_of w id word) is
                    (stored_hold w.addresses id at (word - option_map_or (λ a. a) (entry_at w.addresses id) 0) word there
                    (offset_is (ap (λ o. option_map_or (λ a. a) o 0) there) above));
              };
            })
        held false =
            fits (record {
              answer = refl;
              keeps = all_kept h;
              formats = refl;
              has = record {
                past = past;
                timed = refl;
                parts = word_written layout past h w parts index entry found (stored word false) (PlainWord word) is refl;
              };
            })

  -- ---- the answer

  block_said : (b : Bool) → is_block (says_block b) ≡ b
  block_said true = refl
  block_said false = refl

  -- the mark of the answer is whether the word holds an object
  alike : {R : Entry Stored → Found AreaWord → Type 0} (w : World) (word : ℕ) (holds : Bool) (o : Option Id)
      (x : Checked (Entry Stored)) (y : Checked (Found AreaWord)) (state : Entry Stored → HeapState F) → Same R x y
      → (y >>= (λ (at : Found AreaWord). act_poke_in w at word (is_block (answer_to says_block (answered
      (x >>= (λ (a : Entry Stored). Ok (record { answer = holds; state = state a })))))) o))
      ≡ (y >>= (λ (at : Found AreaWord). act_poke_in w at word holds o))
  alike w word holds o x y state (fits {a} {b} r) = ap (λ m. act_poke_in w b word m o) (block_said holds)
  alike w word holds o x y state same.refused = refl

  block_held : (x : Checked (Entry Stored)) (holds : Bool) (state : Entry Stored → HeapState F)
      → is_block (answer_to says_block (answered (x >>= (λ (a : Entry Stored). Ok (record { answer = holds; state = state a }))))) ≡ true
      → holds ≡ true
  block_held (Ok a) holds state e = sym (block_said holds) ∙ e
  block_held (Err why) holds state e = absurd (false≢true e)

  module _ (w : World) (past : Past) (parts : AreParts layout past h w) (of : IsKnown past.time w) (word : ℕ) where
    found_kept : (holds : Bool) (o : Option Id) → FindsObject layout past h w parts of word holds o → holds ≡ true → (id : Id)
        → o ≡ Some id → is_white past.time.condemned past.time.colours id ≡ false
    found_kept holds o FindsNone e id is = absurd (false≢true e)
    found_kept holds o (FindsOne {id = other} {white = white} at there above e) held id is =
        ap (is_white past.time.condemned past.time.colours) (sym (same_Some other id is)) ∙ e ∙ not_white white held
      where
        not_white : (b : Bool) → not b ≡ true → b ≡ false
        not_white true h = absurd (false≢true h)
        not_white false h = refl

  pub poked_right : (place : Slot) (word : ℕ) (result : Checked Bool) (after : HeapState F) → Comes h (after_poke h place word) result after
      → IsRight layout h (call.Poke place word) [] (answer_to says_block result) after
  poked_right place word result after =
      let holds = is_hold h word (block_over h.segs word) in
      marked_is_right layout says_block h (call.Poke place word) refl (λ v. refl) (after_poke h place word) result after
      (λ w past parts of. (
        subst (Same (Leads layout says_block h past w) (after_poke h place word))
            (sym (alike w word holds (block_of_word w word) (ours_word h place) (model_word_in w place)
            (λ at. with_area_word h at (stored word holds)) (word_same layout past h w parts place)))
            (same_then (word_same layout past h w parts place) (λ entry found is.
            poke_leads w past parts of place.index entry found is.fit word holds (block_of_word w word)
            (word_in_object layout past h w parts of word))),
        λ y is condemned colours said id found.
            ap (λ cs. is_white cs y.colours id) (sym condemned) ∙ ap (λ k. is_white past.time.condemned k id) (sym colours)
            ∙ found_kept w past parts of word holds (block_of_word w word) (word_in_object layout past h w parts of word)
            (block_held (ours_word h place) holds (λ at. with_area_word h at (stored word holds)) said) id
            (ap (λ v. block_of_word v word) (sym is) ∙ found),
      ))
