-- Where a collection runs, what the client holds is held rightly, and units are left.
use Rattle.std.proofs.Common.{◌≡◌, ◌∙◌, ℕ, Bool, true, false, refl, sym, ap, Option, Some, None, subst, inl, inr, arith}
use Rattle.std.proofs.lemmas.Bool.{true≢false, and_parts, or_left, or_right, lt-ltb, cases_Bool}
use Rattle.std.specs.Prelude.{◌&&◌, ◌||◌, not, if◌then◌else◌, MatchBool, nat_lt}
use Rattle.std.specs.List.{list_all}
use Rattle.std.specs.Option.{option_map_or}
use Rattle.mps_base.specs.Address.{Id}
use Rattle.mps_base.specs.declared.names.Slot.{Slot}
use Rattle.mps_model.specs.declared.call.Call.TheVariants as call
use Rattle.mps_model.specs.Answer.{Answer, is_block}
use Rattle.mps_model.specs.Graph.{contains, ids_of_client, is_automatic}
use Rattle.mps_model.specs.Collection.{Collection, is_condemned, is_settled, is_kept_in_place, MaySurvive}
use Rattle.mps_model.specs.World.{is_live, is_live_and, live_ids, lies_in, is_word_in, words_of, object_is, is_copying_object, block_of_word}
use Rattle.mps_model.specs.Accessing.{AsBlock, AsNumber, AsMarked, poked_in}
use Rattle.mps_model.specs.LegalMove.{ForOne}
use Rattle.mps_model.specs.History.{is_held_rightly, are_held_kept, has_units_left, OfPoked, OfPokedBlock, IsPossiblyMarked}
use Rattle.mps_abstract.specs.Collecting.{Collecting, Running, is_white_in}
use Rattle.mps_abstract.specs.DueLaws.{IsMarkedRightly, IsLeftRightly}
use Rattle.mps_abstract.proofs.Lists.{list_all-members, find-passes}
use Rattle.mps_abstract.proofs.Joining.{for_some}
use Rattle.mps_abstract.proofs.Barrier.{live_in}
use Rattle.mps_abstract.proofs.Rows.{some_left}

module _ (x : Collecting) (run : Running x) where
  held_rightly : (id : Id) → contains (ids_of_client x.world.graph) id ≡ true → is_held_rightly x.world x.running id ≡ true
  held_rightly id h =
      elim (cases_Bool (is_condemned x.running id && is_copying_object x.world id)) [
        | inl both ↦
            let parts = and_parts (is_condemned x.running id) (is_copying_object x.world id) both in
            or_right (not (is_condemned x.running id && is_copying_object x.world id)) (is_kept_in_place x.running id)
            (run.settled.in_place id parts.1 parts.0 (run.coloured.held id h))
        | inr not_both ↦
            or_left (not (is_condemned x.running id && is_copying_object x.world id)) (is_kept_in_place x.running id) (ap not not_both)
      ]

  held_kept : are_held_kept x.world ≡ true
  held_kept =
      ap (λ o. option_map_or (λ c. list_all (is_held_rightly x.world c) (ids_of_client x.world.graph)) o true) run.runs
      ∙ list_all-members (is_held_rightly x.world x.running) (ids_of_client x.world.graph) held_rightly

  left : has_units_left x.world ≡ true
  left =
      ap (λ (o : Option Collection). option_map_or (λ c. nat_lt c.spent c.units) o true) run.runs
      ∙ lt-ltb x.running.spent x.running.units (let some = some_left x run in let most = run.units in omega (arith, some, most))

  -- how a block is poked that is live and isn't white
  of_poked : (id : Id) → is_live x.world id ≡ true → is_white_in x id ≡ false → OfPoked x.world id (poked_in x.world id (Some x.running))
  of_poked id live black =
      elim (cases_Bool (not (is_condemned x.running id) || is_settled x.running id)) [
        | inl kept ↦ subst (λ b. OfPoked x.world id
            (if b then AsBlock else (if is_copying_object x.world id then AsNumber else AsMarked))) (sym kept) tt
        | inr white ↦
            subst (λ b. OfPoked x.world id (if b then AsBlock else (if is_copying_object x.world id then AsNumber else AsMarked)))
            (sym white)
            (of_copying (is_copying_object x.world id) (for_some (λ c. MaySurvive c id) x.world.collection x.running run.runs (may white)))
      ]
    where
      of_copying : (b : Bool) → ForOne x.world.collection (λ c. MaySurvive c id) → OfPoked x.world id (if b then AsNumber else AsMarked)
      of_copying true m = tt
      of_copying false m = m

      condemned : (b s : Bool) → (not b || s) ≡ false → b ≡ true
      condemned true s h = refl
      condemned false s h = absurd (true≢false h)

      may : (not (is_condemned x.running id) || is_settled x.running id) ≡ false → MaySurvive x.running id
      may white = elim (run.survivors.kept id live black) [
        | inl out ↦ absurd (true≢false (sym (condemned (is_condemned x.running id) (is_settled x.running id) white) ∙ out))
        | inr m ↦ m
      ]

  of_block : (word : ℕ) (o : Option ℕ) → block_of_word x.world word ≡ o
      → ((id : Id) → block_of_word x.world word ≡ Some id → is_white_in x id ≡ false) → OfPokedBlock x.world o
  of_block word None e black = tt
  of_block word (Some id) e black =
      subst (λ o. OfPoked x.world id (poked_in x.world id o)) (sym run.runs) (of_poked id (live id e) (black id e))
    where
      live : (n : Id) → block_of_word x.world word ≡ Some n → is_live x.world n ≡ true
      live n found =
          let lies = find-passes (λ m. lies_in x.world word m) (live_ids x.world) n found in
          let parts = and_parts (object_is is_automatic x.world n)
          (is_live_and (λ at. is_word_in (is_copying_object x.world n) at (words_of x.world n) word) x.world n) lies in
          live_in (λ at. is_word_in (is_copying_object x.world n) at (words_of x.world n) word) x.world n parts.1

  marked : (place : Slot) (word : ℕ) (answer : Answer) → IsMarkedRightly x word answer
      → IsPossiblyMarked x.world (call.Poke place word) answer
  marked place word answer right = of_answer (is_block answer) refl
    where
      of_answer : (b : Bool) → is_block answer ≡ b → MatchBool b (OfPokedBlock x.world (block_of_word x.world word)) (Unit {0})
      of_answer true e = of_block word (block_of_word x.world word) refl (right e)
      of_answer false e = tt

  pub left_rightly : IsLeftRightly x
  left_rightly = record {
    held_live = list_all-members (is_live x.world) (ids_of_client x.world.graph) (λ id h. run.coloured.held_live id h);
    held_kept = held_kept;
    units_are_left = left;
    marked = marked;
  }
