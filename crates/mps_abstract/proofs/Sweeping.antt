-- White objects are freed, one after the other.
use Rattle.std.proofs.Common.{◌≡◌, ◌∙◌, ◌⊎◌, ℕ, ◌<◌, Bool, true, false, refl, sym, ap, List, [], ◌∷◌, Option, Some, None, subst, inl, inr, arith}
use Rattle.std.proofs.lemmas.Bool.{false≢true, true≢false, and_parts, or_parts, eq-eqb, ltb-true}
use Rattle.std.proofs.lemmas.Option.{none-some, same_Some}
use Rattle.std.specs.Prelude.{◌==◌, if◌then◌else◌, is_some, slice_set, nat_lt}
use Rattle.mps_base.specs.Address.{Id, Address}
use Rattle.mps_base.specs.declared.moves.Move.{Move}
use Rattle.mps_base.specs.declared.moves.Move.TheVariants as moves
use Rattle.mps_model.specs.Graph.{contains, entry_at, ids_of_client, is_automatic, is_weak_object, without_named}
use Rattle.mps_model.specs.Collection.{Collection, Phase, is_condemned}
use Rattle.mps_model.specs.World.{World, id_at, is_live, object_is, is_copying_object}
use Rattle.mps_model.specs.Effect.{after_free, with_collection, without_object, where_one, reclaiming, segment_base_of, world_after_moves}
use Rattle.mps_model.specs.Flip.{at_address}
use Rattle.mps_model.specs.LegalMove.{ForOne, IsLegalMove, IsLegalSweep}
use Rattle.mps_model.specs.Units.{frees_at, is_ascending}
use Rattle.mps_abstract.specs.Colours.{Colours, is_white, AreColoured, AreAllScanned, AreSettled, AreDifferent, AreColoursDrained}
use Rattle.mps_abstract.proofs.Lists.{contains_here, contains_later, contains_cases, entry_that_is, entry_at-set_cases, entry_at-set_other}
use Rattle.mps_abstract.proofs.Addresses.{id_at-address}
use Rattle.mps_abstract.proofs.Keeping.{is_condemned_if_white, differ_by_colour}
use Rattle.mps_abstract.proofs.Joining.{AreLegalAnywhere, no_moves_legal, one_legal, legal_append, for_some}
use Rattle.mps_abstract.proofs.Gone.{sweep_is_legal}

-- ---- ascending numbers

pub contains-above : (above : ℕ) (xs : List ℕ) (n : ℕ) → is_ascending above xs ≡ true → contains xs n ≡ true → above < n
contains-above above [] n asc h = absurd (false≢true h)
contains-above above (x ∷ xs) n asc h =
    let parts = and_parts (nat_lt above x) (is_ascending x xs) asc in
    let first = ltb-true above x parts.0 in
    elim (contains_cases x xs n h) [
      | inl same ↦ omega (arith, first, same)
      | inr later ↦ let rest = contains-above x xs n parts.1 later in omega (arith, first, rest)
    ]

-- ---- a world in which a collection frees what is white

pub record IsSweeping (w : World) (c : Collection) (k : Colours) : Type 0 where
  pub runs : w.collection ≡ Some c
  pub different : AreDifferent w.addresses
  pub coloured : AreColoured (ids_of_client w.graph) w.graph (is_live w) c.condemned k
  pub scanned : AreAllScanned k
  pub settled : AreSettled (is_copying_object w) c k
  pub registered : (n : Id) → contains w.graph.registered n ≡ true → is_white c.condemned k n ≡ false
  pub automatic : (n : Id) → is_condemned c n ≡ true → object_is is_automatic w n ≡ true

-- a white object lies at an address, in the segment of this base
pub record IsWhiteThere (w : World) (condemned : List Id) (k : Colours) (base at : Address) : Type 0 where
  pub id : Id
  pub address : entry_at w.addresses id ≡ Some at
  pub white : is_white condemned k id ≡ true
  pub in_base : segment_base_of w at ≡ base

none_grey : (k : Colours) (weak : Id → Bool) → AreAllScanned k → AreColoursDrained weak k
none_grey k weak scanned id grey = absurd (true≢false (sym grey ∙ scanned id))

-- ---- one is freed

module _ (w : World) (c : Collection) (k : Colours) (base : Address) (s : IsSweeping w c k) (id : Id) (at : Address)
    (address : entry_at w.addresses id ≡ Some at) (white : is_white c.condemned k id ≡ true) (in_base : segment_base_of w at ≡ base) where
  abbrev freed_world : World
  freed_world = record (without_object w id) { collection = Some (reclaiming base c) }

  free_leads : world_after_moves w (moves.Free (at_address at) ∷ []) ≡ freed_world
  free_leads =
      ap (λ o. where_one w o (λ n. after_free w n at)) (id_at-address w id at s.different address)
      ∙ ap (λ b. if b then with_collection (without_object w id) (reclaiming (segment_base_of w at)) else without_object w id)
      (s.automatic id (is_condemned_if_white c.condemned k id white))
      ∙ ap (λ b. with_collection (without_object w id) (reclaiming b)) in_base
      ∙ ap (λ o. record freed_world { collection = Rattle.std.specs.Prelude.option_map (reclaiming base) o }) s.runs

  free_is_legal : (before next : Option Move) → IsLegalMove w before (moves.Free (at_address at)) next
  free_is_legal before next =
      for_some (λ d. ForOne (id_at w at) (IsLegalSweep w d)) w.collection c s.runs
      (for_some (IsLegalSweep w c) (id_at w at) id (id_at-address w id at s.different address)
      (sweep_is_legal w c k s.coloured s.settled (none_grey k (object_is is_weak_object w) s.scanned) id white s.registered))

  live_before : (n : Id) → is_live freed_world n ≡ true → is_live w n ≡ true
  live_before n h =
      let e = entry_that_is (entry_at (slice_set w.addresses id None) n) h in
      elim (entry_at-set_cases w.addresses id n None e.0 e.1) [
        | inl written ↦ absurd (none-some e.0 written.1)
        | inr stood ↦ ap is_some stood.1
      ]

  black_live : (n : Id) → is_white c.condemned k n ≡ false → is_live w n ≡ true → is_live freed_world n ≡ true
  black_live n black h = ap is_some (entry_at-set_other w.addresses id n None (differ_by_colour c.condemned k id n white black)) ∙ h

  freed_sweeping : IsSweeping freed_world (reclaiming base c) k
  freed_sweeping = record {
    runs = refl;
    different = λ n m a en em. elim (entry_at-set_cases w.addresses id n None a en) [
      | inl written ↦ absurd (none-some a written.1)
      | inr sn ↦ elim (entry_at-set_cases w.addresses id m None a em) [
        | inl written ↦ absurd (none-some a written.1)
        | inr sm ↦ s.different n m a sn.1 sm.1
      ]
    ];
    coloured = record {
      held_live = λ n h. black_live n (s.coloured.held n h) (s.coloured.held_live n h);
      held = s.coloured.held;
      referred_live = λ n t h black refers.
          black_live t (s.coloured.referred n t (live_before n h) black (s.scanned n) refers)
          (s.coloured.referred_live n t (live_before n h) black refers);
      referred = λ n t h black grey refers. s.coloured.referred n t (live_before n h) black grey refers;
    };
    scanned = s.scanned;
    settled = record { settled = s.settled.settled; in_place = s.settled.in_place };
    registered = s.registered;
    automatic = s.automatic;
  }

-- ---- frees in a row

-- the collection after frees
abbrev pub sweeping_on : Collection → Phase → (reclaimed_to : Address) → Collection
sweeping_on c phase reclaimed_to = record c { phase = phase; reclaimed_to = reclaimed_to }

-- a world with these addresses, pairs of dependents and collection
abbrev pub with_freed : World → (addresses : List (Option Address)) → (dependents : List (Id × Id)) → Option Collection → World
with_freed w addresses dependents runs = record w {
  graph = record w.graph { dependents = dependents };
  addresses = addresses;
  collection = runs;
}

-- the objects at these addresses are gone, and their pairs, and nothing else has changed but how far the collection is
pub record AreFreed (w : World) (c : Collection) (k : Colours) (base : Address) (freed : List Address) : Type 0 where
  pub addresses : List (Option Address)
  pub dependents : List (Id × Id)
  pub phase : Phase
  pub reclaimed_to : Address
  pub leads : world_after_moves w (frees_at freed)
      ≡ with_freed w addresses dependents (Some (sweeping_on c phase reclaimed_to))
  pub sweeping : IsSweeping (with_freed w addresses dependents (Some (sweeping_on c phase reclaimed_to)))
      (sweeping_on c phase reclaimed_to) k
  -- where there were no pairs there are none
  pub unpaired : w.graph.dependents ≡ [] → dependents ≡ []
  -- what has an address had it before
  pub fewer : (n : Id) (at : Address) → entry_at addresses n ≡ Some at → entry_at w.addresses n ≡ Some at
  -- what was elsewhere has its address
  pub left : (n : Id) (at : Address) → entry_at w.addresses n ≡ Some at → contains freed at ≡ false → entry_at addresses n ≡ Some at
  pub gone : (at : Address) → contains freed at ≡ true → (n : Id) → entry_at addresses n ≡ Some at → ⊥
  pub reclaimed : (reclaimed_to ≡ c.reclaimed_to) ⊎ (reclaimed_to ≡ base)
  pub legal : AreLegalAnywhere w (frees_at freed)

pub are_freed : (k : Colours) (base : Address) (above : ℕ) (freed : List Address) (w : World) (c : Collection) → IsSweeping w c k
    → is_ascending above freed ≡ true → ((at : Address) → contains freed at ≡ true → IsWhiteThere w c.condemned k base at)
    → AreFreed w c k base freed
are_freed k base above [] w c s asc each = record {
  addresses = w.addresses;
  dependents = w.graph.dependents;
  phase = c.phase;
  reclaimed_to = c.reclaimed_to;
  leads = ap (λ o. record w { collection = o }) s.runs;
  sweeping = subst (λ v. IsSweeping v c k) (ap (λ o. record w { collection = o }) s.runs) s;
  unpaired = λ none. none;
  fewer = λ n at h. h;
  left = λ n at h e. h;
  gone = λ at h. absurd (false≢true h);
  reclaimed = inl refl;
  legal = no_moves_legal w;
}
are_freed k base above (at ∷ ats) w c s asc each =
    let parts = and_parts (nat_lt above at) (is_ascending at ats) asc in
    let x = each at (contains_here at ats) in
    let v = freed_world w c k base s x.id at x.address x.white x.in_base in
    let lead = free_leads w c k base s x.id at x.address x.white x.in_base in
    let rest = are_freed k base at ats v (reclaiming base c) (freed_sweeping w c k base s x.id at x.address x.white x.in_base) parts.1
    (λ b h. still_white x b (each b (contains_later at ats b h))
    (λ same. let up = contains-above at ats b parts.1 h in omega (arith, up, same))) in
    record {
      addresses = rest.addresses;
      dependents = rest.dependents;
      phase = rest.phase;
      reclaimed_to = rest.reclaimed_to;
      leads = ap (λ u. world_after_moves u (frees_at ats)) lead ∙ rest.leads;
      sweeping = rest.sweeping;
      unpaired = λ none. rest.unpaired (ap (λ ps. without_named ps x.id) none);
      fewer = λ n b e. elim (entry_at-set_cases w.addresses x.id n None b (rest.fewer n b e)) [
        | inl written ↦ absurd (none-some b written.1)
        | inr stood ↦ stood.1
      ];
      left = λ n b e not_in.
          let apart = or_parts (at == b) (contains ats b) not_in in
          rest.left n b (entry_at-set_other w.addresses x.id n None (other x n b e apart.0) ∙ e) apart.1;
      gone = λ b h n e. elim (contains_cases at ats b h) [
        | inl same ↦ elim (entry_at-set_cases w.addresses x.id n None b (rest.fewer n b e)) [
          | inl written ↦ none-some b written.1
          | inr stood ↦ stood.0 (s.different x.id n at x.address (stood.1 ∙ ap Some (sym same)))
        ]
        | inr later ↦ rest.gone b later n e
      ];
      reclaimed = elim rest.reclaimed [ inl same ↦ inr same | inr same ↦ inr same ];
      legal = legal_append w (moves.Free (at_address at) ∷ []) (frees_at ats)
          (one_legal w (moves.Free (at_address at)) (free_is_legal w c k base s x.id at x.address x.white x.in_base))
          (subst (λ u. AreLegalAnywhere u (frees_at ats)) (sym lead) rest.legal);
    }
  where
    still_white : (x : IsWhiteThere w c.condemned k base at) (b : Address) → (y : IsWhiteThere w c.condemned k base b) → (at ≡ b → ⊥)
        → IsWhiteThere (freed_world w c k base s x.id at x.address x.white x.in_base) c.condemned k base b
    still_white x b y n = record {
      id = y.id;
      address = entry_at-set_other w.addresses x.id y.id None
          (λ same. n (same_Some at b (sym x.address ∙ ap (entry_at w.addresses) same ∙ y.address))) ∙ y.address;
      white = y.white;
      in_base = y.in_base;
    }

    other : (x : IsWhiteThere w c.condemned k base at) (n : Id) (b : Address) → entry_at w.addresses n ≡ Some b → (at == b) ≡ false
        → x.id ≡ n → ⊥
    other x n b e differ same =
        true≢false (sym (eq-eqb at b (same_Some at b (sym x.address ∙ ap (entry_at w.addresses) same ∙ e))) ∙ differ)
