-- What tables and messages hold once the act of a flip is done: where the objects lie then to which those of the model refer.
use Rattle.std.proofs.Common.{◌≡◌, ◌∙◌, ℕ, zero, suc, ◌<◌, true, refl, sym, ap, subst, List, [], ◌∷◌, length, map, Option, Some, None, IsSome, is_some, arith}
use Rattle.std.proofs.lemmas.Bool.{false≢true}
use Rattle.std.proofs.lemmas.List.{length-map}
use Rattle.std.proofs.lemmas.Option.{none-some, same_Some}
use Rattle.std.specs.Prelude.{slice_get, slice_index_or}
use Rattle.std.specs.Option.{option_map_or}
use Rattle.mps_base.specs.Address.{Address, Id}
use Rattle.mps_model.specs.Effect.{Everything}
use Rattle.mps_model.specs.Graph.{Slots, contains, entries, entry_at, ids_in_slots, slots_of}
use Rattle.mps_model.specs.World.{World}
use Rattle.mps_root.specs.State.{RootsState, kept, items_of}
use Rattle.mps_abstract.specs.Colours.{AreDifferent}
use Rattle.mps_abstract.specs.Collecting.{Collecting}
use Rattle.mps_abstract.specs.FlipLaws.{IsAtRest, collecting_after_flip}
use Rattle.mps_abstract.proofs.FlipActs.FlipBegins.{client_of_fixed}
use Rattle.mps_abstract.proofs.Lists.{contains_here, contains_later, contains_left}
use Rattle.mps_abstract.proofs.OwnAddresses.{well_formed_different}
use Rattle.mps_trace.specs.Roots.{key_at, slot_of}
use Rattle.mps_trace_laws.specs.Roots.OneRoot.{IsWhere}
use Rattle.mps_trace_laws.specs.Roots.Rows.{HoldsAtFlip, AreHeldAtFlip}
use Rattle.mps_trace_laws.specs.Roots.Tables.{AreTablesHeld}
use Rattle.mps_refinement.specs.Numbering.{AreNumbered}
use Rattle.mps_refinement.proofs.Lookups.Found.{some_there, something}
use Rattle.mps_refinement.specs.StandsFor.{AreSlots, address_of_target}
use Rattle.mps_refinement.proofs.Collect.RootsAfter.{AreRootsAfter, still_there, was_there}
use Rattle.mps_refinement.proofs.Collect.SameAddresses.{has_entry}

-- ---- lists

-- addresses that are, one by one, those of targets
pub alike : (f : Option Id → Address) (slots : List Address) (ids : Slots) → length slots ≡ length ids
    → ((i : ℕ) (t : Option Id) → slice_get ids i ≡ Some t → slice_index_or slots i 0 ≡ f t) → slots ≡ map f ids
alike f [] [] long each = refl
alike f [] (t ∷ ids) long each = absurd (omega (arith, long))
alike f (s ∷ slots) [] long each = absurd (omega (arith, long))
alike f (s ∷ slots) (t ∷ ids) long each =
    ap (λ x. x ∷ slots) (each 0 t refl)
    ∙ ap (λ xs. f t ∷ xs) (alike f slots ids (omega (arith, long)) (λ i u e. each (suc i) u e))

same_entries : (row ids : Slots) → length row ≡ length ids
    → ((i : ℕ) (t u : Option Id) → slice_get row i ≡ Some t → slice_get ids i ≡ Some u → t ≡ u) → row ≡ ids
same_entries [] [] long each = refl
same_entries [] (u ∷ ids) long each = absurd (omega (arith, long))
same_entries (t ∷ row) [] long each = absurd (omega (arith, long))
same_entries (t ∷ row) (u ∷ ids) long each =
    ap (λ x. x ∷ row) (each 0 t u refl refl)
    ∙ ap (λ xs. u ∷ xs) (same_entries row ids (omega (arith, long)) (λ i a b e f. each (suc i) a b e f))

entry_mapped : (f : Option Id → Address) (ids : Slots) (i : ℕ) (t : Option Id) → slice_get ids i ≡ Some t
    → slice_index_or (map f ids) i 0 ≡ f t
entry_mapped f [] i t e = absurd (none-some t e)
entry_mapped f (u ∷ ids) zero t e = ap f (same_Some u t e)
entry_mapped f (u ∷ ids) (suc i) t e = entry_mapped f ids i t e

among_entries : (ids : Slots) (i : ℕ) (id : Id) → slice_get ids i ≡ Some (Some id) → contains (entries ids) id ≡ true
among_entries [] i id e = absurd (none-some (Some id) e)
among_entries (None ∷ ids) zero id e = absurd (none-some id (same_Some None (Some id) e))
among_entries (None ∷ ids) (suc i) id e = among_entries ids i id e
among_entries (Some n ∷ ids) zero id e =
    subst (λ m. contains (n ∷ entries ids) m ≡ true) (same_Some n id (same_Some (Some n) (Some id) e)) (contains_here n (entries ids))
among_entries (Some n ∷ ids) (suc i) id e = contains_later n (entries ids) id (among_entries ids i id e)

-- ---- one slot

-- it holds where its target lies
where_is : (acted : Collecting) (at : Address) (target : Option Id) → IsWhere acted at target
    → at ≡ address_of_target acted.world.addresses target
where_is acted at None null = null
where_is acted at (Some t) there = sym (ap (λ o. option_map_or (λ a. a) o 0) there.0)

module _ (addresses : List (Option Address)) (y : Collecting) (different : AreDifferent addresses)
    (positive : (id : Id) (at : Address) → entry_at addresses id ≡ Some at → 0 < at) where
  -- a slot that held one target at the flip, and the address of another, which is live, has one target
  same_target : (at : Address) (t u : Option Id) → HoldsAtFlip addresses y at t → at ≡ address_of_target addresses u
      → ((id : Id) → u ≡ Some id → is_some (entry_at addresses id) ≡ true) → t ≡ u
  same_target at None None null is live = refl
  same_target at (Some t) None was is live = absurd (let some = was.positive in omega (arith, some, is))
  same_target at None (Some u) null is live = of_address (entry_at addresses u) refl (live u refl)
    where
      of_address : (o : Option Address) → entry_at addresses u ≡ o → is_some o ≡ true → None ≡ Some u
      of_address None e there = absurd (false≢true there)
      of_address (Some b) e there =
          let some = positive u b e in
          let at_b = ap (λ o. option_map_or (λ (a : Address). a) o 0) e in
          absurd (omega (arith, some, at_b, is, null))
  same_target at (Some t) (Some u) was is live = of_address (entry_at addresses u) refl (live u refl)
    where
      of_address : (o : Option Address) → entry_at addresses u ≡ o → is_some o ≡ true → Some t ≡ Some u
      of_address None e there = absurd (false≢true there)
      of_address (Some b) e there =
          let same : at ≡ b = is ∙ ap (λ o. option_map_or (λ (a : Address). a) o 0) e in
          ap Some (different t u at was.was (e ∙ ap Some (sym same)))

  -- so the slots of a row that stand for those of a table have its targets
  pub same_row : (slots : List Address) (row ids : Slots) → AreHeldAtFlip addresses y slots row
      → slots ≡ map (address_of_target addresses) ids
      → ((id : Id) → contains (entries ids) id ≡ true → is_some (entry_at addresses id) ≡ true) → row ≡ ids
  same_row slots row ids held are live =
      let long = length-map ids (address_of_target addresses) in
      same_entries row ids (held.long ∙ (ap (λ (xs : List Address). length xs) are ∙ long)) (λ i t u e f.
      same_target (slice_index_or slots i 0) t u (held.each i t e)
      (ap (λ (xs : List Address). slice_index_or xs i 0) are ∙ entry_mapped (address_of_target addresses) ids i u f)
      (λ id is. live id (among_entries ids i id (f ∙ ap Some is))))

-- ---- all tables

-- a key is in the order of the tables
pub record IsInOrder (roots : RootsState) (key : ℕ) : Type 0 where
  pub place : ℕ
  pub within : place < length roots.order
  pub is : key_at roots place ≡ key

module _ (w : World) (rest : IsAtRest w) (positive : (id : Id) (at : Address) → entry_at w.addresses id ≡ Some at → 0 < at)
    (number : ℕ → ℕ) (before after : RootsState)
    (are : AreNumbered (AreSlots w.addresses) number (kept before.tables) w.graph.tables) (rows : List Slots)
    (held : AreTablesHeld w.addresses (collecting_after_flip w Everything []) before rows)
    (ordered : (key : ℕ) → IsSome (kept before.tables key) → IsInOrder before key) (same : AreRootsAfter before after)
    (acted : Collecting)
    (hold : (n : ℕ) (row : Slots) → slice_get rows n ≡ Some row → (i : ℕ) (t : Option Id) → slice_get row i ≡ Some t
    → IsWhere acted (slot_of after (key_at before n) i) t) where
  -- what slots hold is live
  live_in : (n : ℕ) (ids : Slots) → entry_at w.graph.tables n ≡ Some ids → (id : Id) → contains (entries ids) id ≡ true
      → is_some (entry_at w.addresses id) ≡ true
  live_in n ids e id there =
      rest.held_live id (client_of_fixed w.graph id (contains_left (ids_in_slots w.graph) w.graph.messages id
      (has_entry slots_of w.graph.tables n ids id e there)))

  pub tables_acted : AreNumbered (AreSlots acted.world.addresses) number (kept after.tables) w.graph.tables
  tables_acted = record {
    there = λ key slots' e.
        let was = was_there before after same key slots' e in
        let is = are.there key was.0 was.1 in
        let place = ordered key (ap is_some was.1) in
        let long = held.long in
        let within = place.within in
        let row = something rows place.place (omega (arith, long, within)) in
        let holds : AreHeldAtFlip w.addresses (collecting_after_flip w Everything []) was.0 row.0 =
        subst (λ (o : Option (List Address)). AreHeldAtFlip w.addresses (collecting_after_flip w Everything [])
        (option_map_or (λ items. items) o []) row.0) was.1
        (subst (λ k. AreHeldAtFlip w.addresses (collecting_after_flip w Everything []) (items_of before.tables k) row.0) place.is
        (held.each place.place row.0 row.1)) in
        let row_is : row.0 ≡ is.0 =
        same_row w.addresses (collecting_after_flip w Everything [])
        (well_formed_different w rest.well_formed) positive was.0 row.0 is.0 holds is.2
        (live_in (number key) is.0 is.1) in
        let many = length-map is.0 (address_of_target w.addresses) in
        let all = ap (λ (xs : List Address). length xs) is.2 in (
          is.0,
          is.1,
          alike (address_of_target acted.world.addresses) slots' is.0 (was.2 ∙ (all ∙ many)) (λ i t f.
              where_is acted (slice_index_or slots' i 0) t
              (subst (λ (o : Option (List Address)). IsWhere acted (slice_index_or (option_map_or (λ items. items) o []) i 0) t) e
              (subst (λ k. IsWhere acted (slot_of after k i) t) place.is
              (hold place.place row.0 row.1 i t (ap (λ (r : Slots). slice_get r i) row_is ∙ f))))),
        );
    complete = λ n b is.
        let found = are.complete n b is in
        let now = some_there (kept after.tables found.key) (still_there before after same found.key (ap is_some found.there)) in
        record { key = found.key; value = now.0; there = now.1; numbered = found.numbered };
    apart = λ key other a b e f alike.
        let one = was_there before after same key a e in
        let two = was_there before after same other b f in
        are.apart key other one.0 two.0 one.1 two.1 alike;
  }
