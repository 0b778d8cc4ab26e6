-- Where a block is now that was registered by its address: a registration has the address that its object has now or had at the flip. So
-- `find` can be asked of it, and the first registration that leads to an object is the object's first.
use Rattle.std.proofs.Common.{◌≡◌, ◌≢◌, ◌∙◌, ◌⊎◌, ℕ, zero, suc, ◌+◌, ◌-◌, ◌<◌, ◌%◌, Bool, true, false, refl, sym, ap, subst, List, [], ◌∷◌, length, map, Option, Some, None, inl, inr, arith}
use Rattle.std.proofs.lemmas.Bool.{and_parts, cases_Bool, cases_eq, cases_lt, eq-eqb, eqb-true, ne_eqb, or_cases, false≢true}
use Rattle.std.proofs.lemmas.List.{get_or-drop, length-drop, length-map}
use Rattle.std.proofs.lemmas.Option.{none-some, same_Some}
use Rattle.std.specs.Prelude.{◌==◌, drop, if◌then◌else◌, option_map, slice_get, slice_index}
use Rattle.std.specs.List.{list_all}
use Rattle.std.specs.Option.{option_map_or}
use Rattle.mps_base.specs.Address.{Address, Id, address_of_word, word_of}
use Rattle.mps_base.specs.Segment.{Segment, segment_over}
use Rattle.mps_base.specs.declared.address.Addr.{Addr}
use Rattle.mps_abstract.specs.Colours.{is_white}
use Rattle.mps_abstract.proofs.Lists.{contains_here, contains_later}
use Rattle.mps_abstract.proofs.RightObjects.{pool_kind}
use Rattle.mps_amc.specs.Moving.{IsForwarded}
use Rattle.mps_format.specs.Blocks.{BeginsForwarded}
use Rattle.mps_format.specs.Layout.{Layout}
use Rattle.mps_format.specs.Pools.{policy_of_pool}
use Rattle.mps_format.specs.declared.pool.Policy.{Policy}
use Rattle.mps_laws.proofs.Sound.SoundGraph.{All}
use Rattle.mps_model.specs.Checked.{head_of_body}
use Rattle.mps_model.specs.Graph.{HeadCell, Object, contains, entry_at, is_automatic, size_of}
use Rattle.mps_model.specs.World as world
use Rattle.mps_model.specs.World.{World, is_automatic_kind, is_live, object_is, pool_is}
use Rattle.mps_model.specs.WellFormed.{is_live_automatic, is_right_object}
use Rattle.mps_seg.specs.Collecting.{is_condemned_at, is_kept_at}
use Rattle.mps_seg.specs.Segs.{SegsState}
use Rattle.mps_trace.specs.Finding.{CanFind, FindsIn, FindsTo, has_moved, in_pool, lies, passes}
use Rattle.mps_trace.specs.Registration.{FindsRegistration, LeadsTo}
use Rattle.mps_trace.specs.State.{position_of}
use Rattle.mps_trace_laws.specs.Image.Image.{AreShaped, IsForwardedObject, MeansAt}
use Rattle.mps_trace_laws.specs.Image.Memory.{Lies, pool_layout, pool_over_word}
use Rattle.mps_trace_laws.proofs.Image.Shaped.{all_at, are_shaped_objects}
use Rattle.mps_heap_spec.specs.State.{HeapState}
use Rattle.mps_refinement.specs.StandsFor.{AreParts, AreRegistered, CollectorState, IsInTime, Past, Time, address_of_id, rests, runs, setting_at}
use Rattle.mps_refinement.proofs.Lookups.Found.{some_there}
use Rattle.mps_refinement.proofs.Lookups.ManualBlocks.{passes_there}
use Rattle.mps_refinement.proofs.Lookups.Policies.{layout_of_policy, moves_of_policy, policy_of_automatic}
use Rattle.mps_refinement.proofs.Parts.Registered.{as_many, means_by}
use Rattle.mps_refinement.proofs.Worlds.Known.{IsKnown, read_where_kept}

first_word : (words : List ℕ) (n : ℕ) → slice_index (drop n words) 0 ≡ slice_index words n
first_word words n = get_or-drop n words 0 0 ∙ ap (slice_index words) (omega arith)

-- a block that hasn't moved is there, whether it is kept or not
there_still : (at : Addr) (kept : Bool) → option_map_or (λ (a : Addr). a.0) (if kept then Some at else None) at.0 ≡ at.0
there_still at true = refl
there_still at false = refl

-- the segment over an address, where its pool is known
over_of_pool : (o : Option Segment) (pool : ℕ) → option_map (λ (t : Segment). t.pool) o ≡ Some pool
    → (t : Segment) × (o ≡ Some t) × (t.pool ≡ pool)
over_of_pool None pool is = absurd (none-some pool is)
over_of_pool (Some t) pool is = (t, refl, same_Some t.pool pool is)

-- ---- a registration that is found, by where all lead

module _ {F : Type 0} (layout : F → Layout) (formats : List (Option (Policy F))) (s : SegsState) where
  -- wherever one of some addresses leads, that is listed
  abbrev LeadAll : (ats tos : List Address) → Type 0
  LeadAll ats tos = (n : ℕ) (from to : Address) → slice_get ats n ≡ Some from → LeadsTo layout formats s from to → slice_get tos n ≡ Some to

  -- the first of them is elsewhere, so the position is that among the rest, and one more
  one_later : (t at : Address) (tos : List Address) (position : Option ℕ) → t ≢ at → position ≡ position_of tos at
      → option_map (λ (n : ℕ). n + 1) position ≡ position_of (t ∷ tos) at
  one_later t at tos position elsewhere is =
      ap (option_map (λ (n : ℕ). n + 1)) is
      ∙ sym (ap (λ b. if b then Some 0 else option_map (λ (n : ℕ). n + 1) (position_of tos at)) (ne_eqb t at elsewhere))

  -- the position that is found is that of the address where its block is
  first_position : (ats tos : List Address) → length tos ≡ length ats → LeadAll ats tos → (at : Address) (position : Option ℕ)
      → FindsRegistration layout formats s ats at position → position ≡ position_of tos at
  first_position [] [] long lead at None elsewhere = refl
  first_position [] [] long lead at (Some position) first = absurd (none-some first.from first.listed)
  first_position [] (t ∷ tos) long lead at position finds = absurd (omega (arith, long))
  first_position (a ∷ ats) [] long lead at position finds = absurd (omega (arith, long))
  first_position (a ∷ ats) (t ∷ tos) long lead at None elsewhere =
      let here = elsewhere 0 a (omega arith) refl in
      one_later t at tos None
      (λ same. here.2 (sym (same_Some t here.0 (lead 0 a here.0 refl here.1)) ∙ same))
      (first_position ats tos (omega (arith, long)) (λ n from to. lead (suc n) from to) at None
      (λ n from low is. elsewhere (suc n) from (omega (arith, low)) is))
  first_position (a ∷ ats) (t ∷ tos) long lead at (Some zero) first =
      let same = same_Some t at (lead 0 first.from at first.listed first.leads) in
      sym (ap (λ b. if b then Some 0 else option_map (λ (n : ℕ). n + 1) (position_of tos at)) (eq-eqb t at same))
  first_position (a ∷ ats) (t ∷ tos) long lead at (Some (suc n)) first =
      let here = first.earlier 0 a (omega arith) refl in
      ap Some (let e : suc n ≡ n + 1 = omega arith in e)
      ∙ one_later t at tos (Some n)
      (λ same. here.2 (sym (same_Some t here.0 (lead 0 a here.0 refl here.1)) ∙ same))
      (first_position ats tos (omega (arith, long)) (λ m from to. lead (suc m) from to) at (Some n) (record {
        from = first.from;
        listed = first.listed;
        leads = first.leads;
        earlier = λ m from low is. first.earlier (suc m) from (omega (arith, low)) is;
      }))

module _ {F : Type 0} (layout : F → Layout) (past : Past) (h : HeapState F) (w : World) (parts : AreParts layout past h w)
    (knows : IsKnown past.time w) where
  abbrev policies : List (Option (Policy F))
  policies = map policy_of_pool h.pools

  abbrev at_flip : List (Option Address)
  at_flip = past.time.at_flip

  shaped : AreShaped w.graph.objects (pool_layout w)
  shaped = are_shaped_objects w parts.lawful knows.formed.objects

  -- an object of a pool that doesn't move its blocks is where it was at the flip
  still_there : (id : Id) (from to : Address) → world.is_copying_object w id ≡ false → entry_at at_flip id ≡ Some from
      → entry_at w.addresses id ≡ Some to → from ≡ to
  still_there id from to stays was now = of_time knows.now
    where
      of_time : IsInTime past.time knows.collector w → from ≡ to
      of_time (rests rest) = absurd (none-some from (sym (ap (λ (u : Time). entry_at u.at_flip id) rest.time) ∙ was))
      of_time (runs x r) = r.flip.still id from to stays was now

  -- ---- an address that means a live automatic object that is read

  module _ (id : Id) (at : Address) (passing : is_live_automatic w id ≡ true) (read : past.time.is_read id ≡ true)
      (means : MeansAt w.addresses past.time.at_flip at id) where
    both_tests : (is_live w id ≡ true) × (object_is is_automatic w id ≡ true)
    both_tests = and_parts (is_live w id) (object_is is_automatic w id) passing

    now : (a : Address) × (entry_at w.addresses id ≡ Some a)
    now = some_there (entry_at w.addresses id) both_tests.0

    object : (o : Object) × (slice_get w.graph.objects id ≡ Some o) × (is_automatic o ≡ true)
    object = passes_there is_automatic (slice_get w.graph.objects id) both_tests.1

    positive : 0 < size_of object.0
    positive = parts.image.placed.positive id now.0 object.0 now.1 object.1

    aligned_now : now.0 % 8 ≡ 0
    aligned_now = (parts.image.placed.address id now.0 now.1).aligned

    aligned : at % 8 ≡ 0
    aligned = elim means [
      | inl here ↦ (parts.image.placed.address id at here).aligned
      | inr old ↦ (parts.image.placed.address_at_flip id at old).aligned
    ]

    -- the object is there, or a forwarded block leads to where it is
    there_or_moved : (at ≡ now.0)
        ⊎ (IsForwardedObject (setting_at past.time h.segs w) h.segs.words w.addresses object.0 at now.0 × (entry_at at_flip id ≡ Some at))
    there_or_moved = elim (cases_eq at now.0) [
      | inl same ↦ inl same
      | inr apart ↦
          elim means [
            | inl here ↦ absurd (apart (same_Some at now.0 (sym here ∙ now.1)))
            | inr old ↦ inr (parts.image.words.forwarded id at now.0 object.0 old now.1 apart object.1, old)
          ]
    ]

    -- at its address of now a block begins, and no forwarded one
    first : Lies w.graph.objects w.addresses id 0 object.0 (word_of now.0)
    first = record { at = now.0; address = now.1; object = object.1; within = positive; is = omega arith }

    head_is : slice_index h.segs.words (word_of now.0) ≡ head_of_body object.0.body
    head_is = parts.image.words.cells id 0 object.0 (word_of now.0) HeadCell read first (shaped.first id object.0 object.1 object.2)

    not_forwarded : at ≡ now.0 → (size : ℕ) → BeginsForwarded (pool_layout w object.0.pool) (drop (word_of at) h.segs.words) size → ⊥
    not_forwarded same size begins =
        (shaped.lawful object.0.pool).disjoint.valid_or_forwarded (head_of_body object.0.body) size
        (shaped.valid id object.0 object.1 object.2) begins.in_range
        (sym head_is ∙ ap (λ a. slice_index h.segs.words (word_of a)) (sym same) ∙ sym (first_word h.segs.words (word_of at)) ∙ begins.head)

    -- the segment over it is of the object's pool
    home : pool_over_word h.segs (word_of at) ≡ Some object.0.pool
    home = elim there_or_moved [
      | inl same ↦
          ap (λ (a : Address). pool_over_word h.segs (word_of a)) same ∙ parts.image.placed.home id 0 object.0 (word_of now.0) first
      | inr old ↦ ap (pool_over_word h.segs) (omega arith) ∙ old.0.home 0 positive
    ]

    its_segment : (t : Segment) × (segment_over h.segs.segments at ≡ Some t) × (t.pool ≡ object.0.pool)
    its_segment =
        let whole : address_of_word (word_of at) ≡ at = (let a = aligned in omega (arith, a)) in
        over_of_pool (segment_over h.segs.segments at) object.0.pool
        (ap (λ a. option_map (λ (t : Segment). t.pool) (segment_over h.segs.segments a)) (sym whole) ∙ home)

    listed_there : (t : Segment) (policy : Policy F) → segment_over h.segs.segments at ≡ Some t
        → slice_get policies t.pool ≡ Some (Some policy) → slice_get policies object.0.pool ≡ Some (Some policy)
    listed_there t policy over listed =
        let same = same_Some t its_segment.0 (sym over ∙ its_segment.1) in
        ap (slice_get policies) (sym its_segment.2 ∙ sym (ap (λ (s : Segment). s.pool) same)) ∙ listed

    -- ---- what `find` answers

    module _ (policy : Policy F) (listed : slice_get policies object.0.pool ≡ Some (Some policy)) where
      layout_is : layout policy.format ≡ pool_layout w object.0.pool
      layout_is = layout_of_policy layout h.pools w parts.pools object.0.pool policy listed

      moves_is : policy.moves ≡ world.is_copying_pool w object.0.pool
      moves_is = moves_of_policy layout h.pools w parts.pools object.0.pool policy listed

      none_forwarded_now : at ≡ now.0 → (size : ℕ) → BeginsForwarded (layout policy.format) (drop (word_of at) h.segs.words) size → ⊥
      none_forwarded_now same size begins =
          not_forwarded same size (subst (λ l. BeginsForwarded l (drop (word_of at) h.segs.words) size) layout_is begins)

      -- what hasn't moved is there
      unmoved : (policy.moves ≡ true → (size : ℕ) → BeginsForwarded (layout policy.format) (drop (word_of at) h.segs.words) size → ⊥)
          → at ≡ now.0
      unmoved none = elim there_or_moved [
        | inl same ↦ same
        | inr old ↦
            elim (cases_Bool policy.moves) [
              | inl moves ↦
                  absurd (none moves (size_of object.0)
                  (subst (λ l. BeginsForwarded l (drop (word_of at) h.segs.words) (size_of object.0)) (sym layout_is) old.0.begins))
              | inr stays ↦
                  still_there id at now.0
                  (ap (λ o. option_map_or (λ (p : Object). world.is_copying_pool w p.pool) o false) object.1 ∙ sym moves_is ∙ stays)
                  old.1 now.1
            ]
      ]

      leads : {to : Address} → IsForwarded (layout policy.format) h.segs.words at to → to ≡ now.0
      leads forwarded = elim there_or_moved [
        | inl same ↦ absurd (none_forwarded_now same forwarded.size forwarded.begins)
        | inr old ↦ forwarded.leads ∙ old.0.leads
      ]

      found_in : {found : Option Addr} → FindsIn (layout policy.format) policy.moves h.segs (record { 0 = at }) found
          → option_map_or (λ (a : Addr). a.0) found at ≡ now.0
      found_in (has_moved to moves forwarded) = leads forwarded
      found_in (lies none is) =
          ap (λ o. option_map_or (λ (a : Addr). a.0) o at) is ∙ there_still (record { 0 = at }) (is_kept_at h.segs at) ∙ unmoved none

    found_there : {found : Option Addr} → FindsTo layout policies h.segs (record { 0 = at }) found
        → option_map_or (λ (a : Addr). a.0) found at ≡ now.0
    found_there (passes calm) = elim there_or_moved [
      | inl same ↦ same
      | inr old ↦
          let whole : address_of_word (word_of at + 0) ≡ at = (let a = aligned in omega (arith, a)) in
          absurd (false≢true (sym calm ∙ ap (is_condemned_at h.segs) (sym whole) ∙ old.0.condemned 0 positive))
    ]
    found_there (in_pool t policy condemned over listed finds) = found_in policy (listed_there t policy over listed) finds

    -- it leads to the address that the object has now
    pub leads_there : {to : Address} → LeadsTo layout policies h.segs at to → to ≡ address_of_id w.addresses id
    leads_there to = to.is ∙ found_there to.finds ∙ sym (ap (λ o. option_map_or (λ (a : Address). a) o 0) now.1)

    -- and `find` can be asked of it
    pub means_can_be_found : CanFind layout policies h.segs (record { 0 = at })
    means_can_be_found =
        let automatic : pool_is is_automatic_kind w object.0.pool ≡ true =
        pool_kind w object.0 (all_at (is_right_object w) w.graph.objects id object.0 knows.formed.objects object.1) ∙ object.2 in
        let policy = policy_of_automatic layout h.pools w parts.pools object.0.pool automatic in
        record {
          aligned = aligned;
          in_arena = elim there_or_moved [
            | inl same ↦
                let within = parts.image.placed.within id 0 object.0 (word_of now.0) first in
                let long = parts.image.words.long in
                omega (arith, within, long, same)
            | inr old ↦
                let whole = old.0.begins.whole in
                let long = length-drop (word_of at) h.segs.words in
                let some = positive in
                omega (arith, whole, long, some)
          ];
          condemned = λ is. record {
            segment = its_segment.0;
            over = its_segment.1;
            format = policy.0;
            listed = ap (slice_get policies) its_segment.2 ∙ policy.1;
            leads = λ moves to forwarded.
                let same = leads policy.0 policy.1 forwarded in let a = aligned_now in omega (arith, same, a);
          };
        }

  -- ---- all registrations

  -- they lead to the addresses of now
  all_lead : (next before : ℕ) (ats : List Address) (ids : List Id) → ((id : Id) → contains ids id ≡ true → past.time.is_read id ≡ true)
      → All (is_live_automatic w) ids → AreRegistered w.addresses at_flip next before ats ids
      → LeadAll layout policies h.segs ats (map (address_of_id w.addresses) ids)
  all_lead next before [] ids read all are n from to there leads = absurd (none-some from there)
  all_lead next before (a ∷ ats) [] read all are n from to there leads = absurd are
  all_lead next before (a ∷ ats) (id ∷ ids) read all are zero from to there leads =
      let parts = and_parts (is_live_automatic w id) (list_all (is_live_automatic w) ids) all in
      ap Some (sym (leads_there id a parts.0 (read id (contains_here id ids)) (means_by w.addresses at_flip next before a id are.0)
      (subst (λ (b : Address). LeadsTo layout policies h.segs b to) (sym (same_Some a from there)) leads)))
  all_lead next before (a ∷ ats) (id ∷ ids) read all are (suc n) from to there leads =
      let parts = and_parts (is_live_automatic w id) (list_all (is_live_automatic w) ids) all in
      all_lead (next - 1) (before - 1) ats ids (λ m later. read m (contains_later id ids m later)) parts.1 are.1 n from to there leads

  -- so the position that is found is that of the address
  pub found_position : (next before : ℕ) (ats : List Address) (ids : List Id)
      → ((id : Id) → contains ids id ≡ true → past.time.is_read id ≡ true)
      → All (is_live_automatic w) ids → AreRegistered w.addresses at_flip next before ats ids → (at : Address) (position : Option ℕ)
      → FindsRegistration layout policies h.segs ats at position → position ≡ position_of (map (address_of_id w.addresses) ids) at
  found_position next before ats ids read all are at position finds =
      first_position layout policies h.segs ats (map (address_of_id w.addresses) ids)
      (length-map ids (address_of_id w.addresses) ∙ sym (as_many w.addresses at_flip next before ats ids are))
      (all_lead next before ats ids read all are) at position finds

  -- and `find` can be asked of each of them
  pub all_can_be_found : (next before : ℕ) (ats : List Address) (ids : List Id)
      → ((id : Id) → contains ids id ≡ true → past.time.is_read id ≡ true)
      → All (is_live_automatic w) ids → AreRegistered w.addresses past.time.at_flip next before ats ids → (n : ℕ) (at : Address)
      → slice_get ats n ≡ Some at → CanFind layout policies h.segs (record { 0 = at })
  all_can_be_found next before [] ids read all are n at there = absurd (none-some at there)
  all_can_be_found next before (a ∷ ats) [] read all are n at there = absurd are
  all_can_be_found next before (a ∷ ats) (id ∷ ids) read all are zero at there =
      let parts = and_parts (is_live_automatic w id) (list_all (is_live_automatic w) ids) all in
      subst (λ (b : Address). CanFind layout policies h.segs (record { 0 = b })) (same_Some a at there)
      (means_can_be_found id a parts.0 (read id (contains_here id ids)) (means_by w.addresses at_flip next before a id are.0))
  all_can_be_found next before (a ∷ ats) (id ∷ ids) read all are (suc n) at there =
      let parts = and_parts (is_live_automatic w id) (list_all (is_live_automatic w) ids) all in
      all_can_be_found (next - 1) (before - 1) ats ids (λ m later. read m (contains_later id ids m later)) parts.1 are.1 n at there

-- an id of a list stands somewhere in it
position_there : (ids : List Id) (id : Id) → contains ids id ≡ true → (position : ℕ) × (slice_get ids position ≡ Some id)
position_there [] id h = absurd (false≢true h)
position_there (n ∷ ns) id h =
    elim (or_cases (n == id) (contains ns id) h) [
      | inl here ↦ (zero, ap Some (eqb-true n id here))
      | inr later ↦ let rest = position_there ns id later in (suc rest.0, rest.1)
    ]

-- what is registered is read, at any time
pub registered_read : (t : Time) (s : CollectorState) (w : World)
    → IsInTime t s w → (id : Id) → contains w.graph.registered id ≡ true → t.is_read id ≡ true
registered_read t s w (rests rest) id there = ap (λ (u : Time). u.is_read id) rest.time
registered_read t s w (runs x r) id there =
    elim (cases_Bool t.is_reclaiming) [
      | inr tracing ↦ ap (λ (f : Id → Bool). f id) (r.tracing tracing).read
      | inl reclaiming ↦
          let freed = r.reclaiming reclaiming in
          read_where_kept t s w x r id
          (ap (λ cs. is_white cs t.colours id) r.condemned_ids ∙ ap (λ k. is_white x.running.condemned k id) r.colours
          ∙ of_position (position_there x.world.graph.registered id
          (ap (λ (v : World). contains v.graph.registered id) r.world ∙ there)) freed.examined)
    ]
  where
    of_position : (position : ℕ) × (slice_get x.world.graph.registered position ≡ Some id)
        → x.next ≡ x.running.registered_before → is_white x.running.condemned x.colours id ≡ false
    of_position p examined =
        r.invariant.examined.examined p.0 id p.1
        (elim (cases_lt p.0 x.next) [
          | inl before ↦ inl before
          | inr past ↦ inr (let e = examined in omega (arith, past, e))
        ])
