-- What `definalize` comes to, by the registration that was found.
use Rattle.std.proofs.Common.{◌≡◌, ◌∙◌, ℕ, ◌<◌, Option, Some, None, Ok, Err, length, map, refl, sym, ap, subst}
use Rattle.std.proofs.lemmas.Option.{none-some, slice_get_within}
use Rattle.std.specs.Prelude.{MatchOption, option_map, slice_get}
use Rattle.mps_base.specs.Address.{Address}
use Rattle.mps_base.specs.declared.names.Slot.{Slot}
use Rattle.mps_base.specs.declared.refusal.Refusal.{Refusal}
use Rattle.mps_base.specs.declared.refusal.Refusal.TheVariants as refusal
use Rattle.mps_format.specs.Layout.{Layout}
use Rattle.mps_format.specs.Pools.{policy_of_pool}
use Rattle.mps_trace.specs.Registration.{FindsRegistration}
use Rattle.mps_trace.specs.State.{FinalsState, position_of, without_registration}
use Rattle.mps_trace.specs.declared.running.Running.{Running}
use Rattle.mps_heap_spec.specs.Checked.{Checked, ◌>>=◌, ◌>>◌, required}
use Rattle.mps_heap_spec.specs.Coming.{answered, done, state_from}
use Rattle.mps_heap_spec.specs.Finalizing.{HasPosition, IsUnregistered, after_definalize, running_without, with_finals, without_registered}
use Rattle.mps_heap_spec.specs.Finding.{object_in}
use Rattle.mps_heap_spec.specs.State.{HeapState}
use Rattle.mps_heap_spec.specs.declared.found.Block.{Block}

module _ {F : Type 0} (layout : F → Layout) (h : HeapState F) (slot : Slot) where
  -- there is no object
  pub no_object : (why : Refusal) → Err why ≡ object_in layout h slot → IsUnregistered layout h slot (Err why) h
  no_object why refused = record {
    position = None;
    first = λ b found. absurd (let e : Err why ≡ Ok b = refused ∙ found in absurd cc);
    comes = let outcome : after_definalize layout None h slot ≡ Err why =
        ap (λ (x : Checked (Block F)). x >> (required None refusal.NotRegistered >>= (λ p. done (without_registered h p)))) (sym refused) in
        record { answer = sym (ap answered outcome); state = sym (ap (state_from h) outcome) };
  }

  module _ (object : Block F) (found : Ok object ≡ object_in layout h slot) where
    same_Ok : {b : Block F} → ◌≡◌ {A = Checked (Block F)} (Ok object) (Ok b) → object ≡ b
    same_Ok same = cc

    -- the object's first registration is at a position, or it has none
    its_position : (position : Option ℕ) → HasPosition layout h object.at position → (b : Block F) → object_in layout h slot ≡ Ok b
        → HasPosition layout h b.at position
    its_position position has b is =
        let same : ◌≡◌ {A = Checked (Block F)} (Ok object) (Ok b) = found ∙ is in
        subst (λ (x : Block F). HasPosition layout h x.at position) (same_Ok same) has

    outcome : (position : Option ℕ) → after_definalize layout position h slot
        ≡ (required position refusal.NotRegistered >>= (λ p. done (without_registered h p)))
    outcome position =
        ap (λ (x : Checked (Block F)). x >> (required position refusal.NotRegistered >>= (λ p. done (without_registered h p)))) (sym found)

    -- it has none
    pub none_there : HasPosition layout h object.at None → IsUnregistered layout h slot (Err refusal.NotRegistered) h
    none_there has = record {
      position = None;
      first = its_position None has;
      comes = record { answer = sym (ap answered (outcome None)); state = sym (ap (state_from h) (outcome None)) };
    }

    -- it has one, which is taken away
    pub one_taken : (position : ℕ) (after : HeapState F) → HasPosition layout h object.at (Some position)
        → after ≡ without_registered h position → IsUnregistered layout h slot (Ok tt) after
    one_taken position after has is = record {
      position = Some position;
      first = its_position (Some position) has;
      comes = record {
        answer = sym (ap answered (outcome (Some position)));
        state = is ∙ sym (ap (state_from h) (outcome (Some position)));
      };
    }

    -- ---- no collection runs

    at_rest : h.running ≡ None → (position : Option ℕ) → position_of h.finals.registered object.at ≡ position
        → HasPosition layout h object.at position
    at_rest none position is = record {
      rests = λ still. sym is;
      runs = λ run running. absurd (none-some run (sym none ∙ running));
    }

    pub unregistered_at_rest : (result : Checked (Unit {0})) (finals : FinalsState) → h.running ≡ None
        → MatchOption (position_of h.finals.registered object.at) (finals ≡ h.finals)
        (λ position. finals ≡ without_registration h.finals position)
        → MatchOption (position_of h.finals.registered object.at) (result ≡ Err refusal.NotRegistered) (λ position. result ≡ Ok tt)
        → IsUnregistered layout h slot result (with_finals h finals)
    unregistered_at_rest result finals none = of_position (position_of h.finals.registered object.at) refl
      where
        of_position : (p : Option ℕ) → position_of h.finals.registered object.at ≡ p
            → MatchOption p (finals ≡ h.finals) (λ position. finals ≡ without_registration h.finals position)
            → MatchOption p (result ≡ Err refusal.NotRegistered) (λ position. result ≡ Ok tt)
            → IsUnregistered layout h slot result (with_finals h finals)
        of_position None e state answer =
            subst (λ r. IsUnregistered layout h slot r (with_finals h finals)) (sym answer)
            (subst (λ (f : FinalsState). IsUnregistered layout h slot (Err refusal.NotRegistered) (with_finals h f)) (sym state)
            (none_there (at_rest none None e)))
        of_position (Some position) e state answer =
            subst (λ r. IsUnregistered layout h slot r (with_finals h finals)) (sym answer)
            (one_taken position (with_finals h finals) (at_rest none (Some position) e)
            (ap (with_finals h) state
            ∙ ap (λ (run : Option Running). let v : HeapState F = record (with_finals h (without_registration h.finals position)) {
              running = run;
            } in v)
            (none ∙ sym (ap (option_map (running_without position)) none))))

    -- ---- while one runs

    while_running : (run : Running) → h.running ≡ Some run → (position : Option ℕ)
        → FindsRegistration layout (map policy_of_pool h.pools) h.segs h.finals.registered object.at position
        → HasPosition layout h object.at position
    while_running run running position finds = record {
      rests = λ none. absurd (none-some run (sym none ∙ running));
      runs = λ other is. finds;
    }

    pub none_found : (run : Running) → h.running ≡ Some run
        → FindsRegistration layout (map policy_of_pool h.pools) h.segs h.finals.registered object.at None
        → IsUnregistered layout h slot (Err refusal.NotRegistered) h
    none_found run running finds = none_there (while_running run running None finds)

    pub one_found : (run : Running) → h.running ≡ Some run → (position : ℕ)
        → FindsRegistration layout (map policy_of_pool h.pools) h.segs h.finals.registered object.at (Some position)
        → IsUnregistered layout h slot (Ok tt) (record (with_finals h (without_registration h.finals position)) {
          running = Some (running_without position run);
        })
    one_found run running position finds =
        one_taken position _ (while_running run running (Some position) finds)
        (ap (λ (r : Option Running). let v : HeapState F = record (with_finals h (without_registration h.finals position)) {
          running = r;
        } in v)
        (sym (ap (option_map (running_without position)) running)))

-- the registration that was found is one of those that are there
pub is_listed : (before now : FinalsState) (position : ℕ) (from : Address) → now ≡ before
    → slice_get before.registered position ≡ Some from → position < length now.registered
is_listed before now position from same listed =
    subst (λ (f : FinalsState). position < length f.registered) (sym same) (slice_get_within before.registered position from listed)

-- ---- the same, where the heap is seen in two ways

module _ {F : Type 0} (layout : F → Layout) (seen h : HeapState F) (is : seen ≡ h) (slot : Slot) (object : Block F)
    (found : Ok object ≡ object_in layout h slot) where
  pub seen_at_rest : (result : Checked (Unit {0})) (finals : FinalsState) → seen.running ≡ None
      → MatchOption (position_of seen.finals.registered object.at) (finals ≡ seen.finals)
      (λ position. finals ≡ without_registration seen.finals position)
      → MatchOption (position_of seen.finals.registered object.at) (result ≡ Err refusal.NotRegistered) (λ position. result ≡ Ok tt)
      → IsUnregistered layout h slot result (with_finals seen finals)
  seen_at_rest result finals none state answer =
      subst (λ v. Ok object ≡ object_in layout v slot → IsUnregistered layout v slot result (with_finals seen finals)) is
      (λ there. unregistered_at_rest layout seen slot object there result finals none state answer) found

  pub seen_none : (run : Running) (finals : FinalsState) → seen.running ≡ Some run → finals ≡ seen.finals
      → FindsRegistration layout (map policy_of_pool seen.pools) seen.segs seen.finals.registered object.at None
      → IsUnregistered layout h slot (Err refusal.NotRegistered) (with_finals seen finals)
  seen_none run finals running same finds =
      subst (λ (f : FinalsState). IsUnregistered layout h slot (Err refusal.NotRegistered) (with_finals seen f)) (sym same)
      (subst (λ v. Ok object ≡ object_in layout v slot → IsUnregistered layout v slot (Err refusal.NotRegistered) seen) is
      (λ there. none_found layout seen slot object there run running finds) found)

  pub seen_taken : (run : Running) (finals now : FinalsState) (left : Running) → seen.running ≡ Some run → finals ≡ seen.finals
      → (position : ℕ) → FindsRegistration layout (map policy_of_pool seen.pools) seen.segs seen.finals.registered object.at (Some position)
      → now ≡ without_registration finals position → left ≡ running_without position run
      → IsUnregistered layout h slot (Ok tt) (record (with_finals seen now) { running = Some left })
  seen_taken run finals now left running same position finds removed lower =
      subst (λ (f : FinalsState). IsUnregistered layout h slot (Ok tt) (record (with_finals seen f) { running = Some left }))
      (sym (removed ∙ ap (λ (f : FinalsState). without_registration f position) same))
      (subst (λ r. IsUnregistered layout h slot (Ok tt) (record (with_finals seen (without_registration seen.finals position)) {
        running = Some r;
      })) (sym lower)
      (subst (λ v. Ok object ≡ object_in layout v slot → IsUnregistered layout v slot (Ok tt)
      (record (with_finals seen (without_registration seen.finals position)) { running = Some (running_without position run) })) is
      (λ there. one_found layout seen slot object there run running position finds) found))
