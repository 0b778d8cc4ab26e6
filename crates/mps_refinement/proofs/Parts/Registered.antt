-- Registrations, each of which has the address that its object has now or had at the flip.
use Rattle.std.proofs.Common.{◌≡◌, ◌∙◌, ℕ, zero, suc, ◌+◌, ◌-◌, ◌≤◌, Bool, true, false, refl, sym, ap, ap₂, subst, List, [], ◌∷◌, length, map, Option, Some, None, is_some, inl, inr, arith}
use Rattle.std.proofs.lemmas.Bool.{and_parts, cases_lt, false≢true, le-ltb, lt-ltb}
use Rattle.std.proofs.lemmas.Option.{none-some, same_Some}
use Rattle.std.specs.Prelude.{◌==◌, option_map, if◌then◌else◌}
use Rattle.std.specs.List.{list_all, remove}
use Rattle.std.specs.Option.{option_map_or}
use Rattle.mps_base.specs.Address.{Address, Id}
use Rattle.mps_trace.specs.State.{FinalsState}
use Rattle.mps_trace_laws.specs.Image.Image.{MeansAt}
use Rattle.mps_trace_laws.specs.Units.Laws.{HasFinalsOf}
use Rattle.mps_laws.proofs.Sound.SoundGraph.{All}
use Rattle.mps_model.specs.World.{World, is_live, object_is}
use Rattle.mps_model.specs.WellFormed.{is_live_automatic}
use Rattle.mps_model.specs.Graph.{is_automatic, entry_at, position_of_first, with_last, without_first}
use Rattle.mps_model.specs.Collecting.{without_position}
use Rattle.mps_refinement.specs.StandsFor.{AreRegistered, AreRegisteredAt, address_of_id, addresses_of_first, time_at_rest}
use Rattle.mps_refinement.proofs.Lookups.Found.{mapped_some}

-- ---- which addresses the first of some registrations goes by

module _ (addresses at_flip : List (Option Address)) where
  -- those of now if none of them was made before the flip
  of_now : (next before : ℕ) → before ≤ 0 → addresses_of_first addresses at_flip next before ≡ addresses
  of_now zero zero none = refl
  of_now zero (suc before) none = absurd (omega (arith, none))
  of_now (suc next) before none = refl

  -- by the one or by the other its address means it
  pub means_by : (next before : ℕ) (a : Address) (id : Id) → entry_at (addresses_of_first addresses at_flip next before) id ≡ Some a
      → MeansAt addresses at_flip a id
  means_by zero zero a id is = inl is
  means_by zero (suc before) a id is = inr is
  means_by (suc next) before a id is = inl is

-- one lower if what is taken away stands before them
lowered : (count q : ℕ) → without_position count (suc q) - 1 ≡ without_position (count - 1) q
lowered count q =
    elim (cases_lt (suc q) count) [
      | inl low ↦
          ap (λ b. (if b then count - 1 else count) - 1) (lt-ltb (suc q) count low)
          ∙ sym (ap (λ b. if b then count - 1 - 1 else count - 1) (lt-ltb q (count - 1) (omega (arith, low))))
      | inr past ↦
          ap (λ b. (if b then count - 1 else count) - 1) (le-ltb (suc q) count past)
          ∙ sym (ap (λ b. if b then count - 1 - 1 else count - 1) (le-ltb q (count - 1) (omega (arith, past))))
    ]

first_lowered : (count : ℕ) → without_position count 0 ≡ count - 1
first_lowered zero = refl
first_lowered (suc n) = ap (λ b. if b then suc n - 1 else suc n) (lt-ltb 0 (suc n) (omega arith))

none_lowered : (q : ℕ) → without_position 0 (suc q) ≡ 0
none_lowered q = ap (λ b. if b then 0 - 1 else 0) (le-ltb (suc q) 0 (omega arith))

some_left : (count q : ℕ) → (n : ℕ) × (without_position (suc count) (suc q) ≡ suc n)
some_left count q =
    elim (cases_lt (suc q) (suc count)) [
      | inl low ↦ (count - 1, ap (λ b. if b then suc count - 1 else suc count) (lt-ltb (suc q) (suc count) low) ∙ omega (arith, low))
      | inr past ↦ (count, ap (λ b. if b then suc count - 1 else suc count) (le-ltb (suc q) (suc count) past))
    ]

-- the first of some registrations goes by the same addresses if a later one is taken away
first_still : (addresses at_flip : List (Option Address)) (next before q : ℕ)
    → addresses_of_first addresses at_flip (without_position next (suc q)) (without_position before (suc q))
    ≡ addresses_of_first addresses at_flip next before
first_still addresses at_flip zero zero q = ap₂ (addresses_of_first addresses at_flip) (none_lowered q) (none_lowered q)
first_still addresses at_flip zero (suc before) q =
    ap₂ (addresses_of_first addresses at_flip) (none_lowered q) (some_left before q).1
first_still addresses at_flip (suc next) before q =
    ap (λ n. addresses_of_first addresses at_flip n (without_position before (suc q))) (some_left next q).1

-- ---- all registrations

module _ (addresses at_flip : List (Option Address)) where
  pub as_many : (next before : ℕ) (ats : List Address) (ids : List Id) → AreRegistered addresses at_flip next before ats ids
      → length ats ≡ length ids
  as_many next before [] [] are = refl
  as_many next before (a ∷ ats) (id ∷ ids) are = ap suc (as_many (next - 1) (before - 1) ats ids are.1)
  as_many next before [] (id ∷ ids) are = absurd are
  as_many next before (a ∷ ats) [] are = absurd are

  -- one more, made since the flip
  pub one_more : (next before : ℕ) (ats : List Address) (ids : List Id) (a : Address) (id : Id)
      → AreRegistered addresses at_flip next before ats ids → before ≤ length ids → entry_at addresses id ≡ Some a
      → AreRegistered addresses at_flip next before (with_last ats a) (with_last ids id)
  one_more next before [] [] a id are made is =
      (ap (λ xs. entry_at xs id) (of_now addresses at_flip next before made) ∙ is, tt)
  one_more next before (b ∷ ats) (j ∷ ids) a id are made is =
      (are.0, one_more (next - 1) (before - 1) ats ids a id are.1 (omega (arith, made)) is)
  one_more next before [] (j ∷ ids) a id are made is = absurd are
  one_more next before (b ∷ ats) [] a id are made is = absurd are

  -- one less
  pub one_less : (next before : ℕ) (ats : List Address) (ids : List Id) (id position : ℕ) → position_of_first ids id ≡ Some position
      → AreRegistered addresses at_flip next before ats ids
      → AreRegistered addresses at_flip (without_position next position) (without_position before position) (remove ats position)
      (without_first ids id)
  one_less next before [] [] id position e are = absurd (none-some position e)
  one_less next before [] (m ∷ ms) id position e are = absurd are
  one_less next before (a ∷ ats) [] id position e are = absurd are
  one_less next before (a ∷ ats) (m ∷ ms) id position e are =
      of_test (m == id) e (λ p f. one_less (next - 1) (before - 1) ats ms id p f are.1)
    where
      later : (o : Option ℕ) → ((p : ℕ) → o ≡ Some p
          → AreRegistered addresses at_flip (without_position (next - 1) p) (without_position (before - 1) p) (remove ats p)
          (without_first ms id))
          → option_map (λ (p : ℕ). p + 1) o ≡ Some position
          → AreRegistered addresses at_flip (without_position next position) (without_position before position)
          (remove (a ∷ ats) position) (m ∷ without_first ms id)
      later o rest e' =
          let p = mapped_some (λ (p : ℕ). p + 1) o position e' in
          let at : suc p.0 ≡ position = (let is = p.2 in omega (arith, is)) in
          subst (λ n. AreRegistered addresses at_flip (without_position next n) (without_position before n) (remove (a ∷ ats) n)
          (m ∷ without_first ms id)) at (
            ap (λ xs. entry_at xs m) (first_still addresses at_flip next before p.0) ∙ are.0,
            subst (λ n. AreRegistered addresses at_flip n (without_position before (suc p.0) - 1) (remove ats p.0) (without_first ms id))
                (sym (lowered next p.0))
                (subst (λ n. AreRegistered addresses at_flip (without_position (next - 1) p.0) n (remove ats p.0) (without_first ms id))
                (sym (lowered before p.0)) (rest p.0 p.1)),
          )

      of_test : (b : Bool) → (if b then Some 0 else option_map (λ (p : ℕ). p + 1) (position_of_first ms id)) ≡ Some position
          → ((p : ℕ) → position_of_first ms id ≡ Some p
          → AreRegistered addresses at_flip (without_position (next - 1) p) (without_position (before - 1) p) (remove ats p)
          (without_first ms id))
          → AreRegistered addresses at_flip (without_position next position) (without_position before position)
          (remove (a ∷ ats) position) (if b then ms else m ∷ without_first ms id)
      of_test true e' rest =
          subst (λ n. AreRegistered addresses at_flip (without_position next n) (without_position before n) (remove (a ∷ ats) n) ms)
          (same_Some 0 position e')
          (subst (λ n. AreRegistered addresses at_flip n (without_position before 0) ats ms) (sym (first_lowered next))
          (subst (λ n. AreRegistered addresses at_flip (next - 1) n ats ms) (sym (first_lowered before)) are.1))
      of_test false e' rest = later (position_of_first ms id) rest e'

  -- after a change that leaves the addresses of what passes a test
  pub as_before : (after : List (Option Address)) (test : Id → Bool)
      → ((id : Id) → test id ≡ true → entry_at after id ≡ entry_at addresses id) → (next before : ℕ) (ats : List Address) (ids : List Id)
      → All test ids → AreRegistered addresses at_flip next before ats ids → AreRegistered after at_flip next before ats ids
  as_before after test same next before [] [] all are = tt
  as_before after test same next before [] (id ∷ ids) all are = absurd are
  as_before after test same next before (a ∷ ats) [] all are = absurd are
  as_before after test same next before (a ∷ ats) (id ∷ ids) all are =
      let parts = and_parts (test id) (list_all test ids) all in
      (entry next before are.0, as_before after test same (next - 1) (before - 1) ats ids parts.1 are.1)
    where
      entry : (n b : ℕ) → entry_at (addresses_of_first addresses at_flip n b) id ≡ Some a
          → entry_at (addresses_of_first after at_flip n b) id ≡ Some a
      entry zero zero is = same id (and_parts (test id) (list_all test ids) all).0 ∙ is
      entry zero (suc b) is = is
      entry (suc n) b is = same id (and_parts (test id) (list_all test ids) all).0 ∙ is

-- ---- what is registered is live

-- a live automatic object has an address
pub live_at : (w : World) (id : Id) → is_live_automatic w id ≡ true → (a : Address) × (entry_at w.addresses id ≡ Some a)
live_at w id is = of_entry (entry_at w.addresses id) refl (and_parts (is_live w id) (object_is is_automatic w id) is).0
  where
    of_entry : (o : Option Address) → entry_at w.addresses id ≡ o → is_some o ≡ true → (a : Address) × (entry_at w.addresses id ≡ Some a)
    of_entry None e some = absurd (false≢true some)
    of_entry (Some a) e some = (a, e)

-- so the addresses of now are those of what is registered
pub all_now : (addresses at_flip : List (Option Address)) (test : Id → Bool)
    → ((id : Id) → test id ≡ true → (a : Address) × (entry_at addresses id ≡ Some a)) → (ids : List Id) → All test ids
    → AreRegistered addresses at_flip 0 0 (map (address_of_id addresses) ids) ids
all_now addresses at_flip test there [] all = tt
all_now addresses at_flip test there (id ∷ ids) all =
    let parts = and_parts (test id) (list_all test ids) all in
    let lies = there id parts.0 in
    let now : address_of_id addresses id ≡ lies.0 = ap (λ o. option_map_or (λ at. at) o 0) lies.1 in
    (lies.1 ∙ ap (λ (a : Address). Some a) (sym now), all_now addresses at_flip test there ids parts.1)

-- at rest they are the addresses of now
pub now_alone : (addresses at_flip : List (Option Address)) (ats : List Address) (ids : List Id)
    → AreRegistered addresses at_flip 0 0 ats ids → ats ≡ map (address_of_id addresses) ids
now_alone addresses at_flip [] [] are = refl
now_alone addresses at_flip [] (id ∷ ids) are = absurd are
now_alone addresses at_flip (a ∷ ats) [] are = absurd are
now_alone addresses at_flip (a ∷ ats) (id ∷ ids) are =
    ap₂ (λ (b : Address) bs. b ∷ bs) (sym (ap (λ o. option_map_or (λ at. at) o 0) are.0)) (now_alone addresses at_flip ats ids are.1)

-- once a collection has ended they have the addresses of now
pub registered_at_the_end : (v : World) (f : FinalsState) → HasFinalsOf f v → list_all (is_live_automatic v) v.graph.registered ≡ true
    → AreRegisteredAt time_at_rest v.addresses f.registered v.graph.registered
registered_at_the_end v f finals live =
    subst (λ ats. AreRegisteredAt time_at_rest v.addresses ats v.graph.registered) (sym finals.registrations)
    (all_now v.addresses [] (is_live_automatic v) (λ id is. live_at v id is) v.graph.registered live)
