-- The act of a flip establishes the invariant; where it condemns nothing, it ends at once.
use Rattle.std.proofs.Common.{◌≡◌, ◌∙◌, ◌⊎◌, Bool, true, false, refl, sym, ap, List, [], ◌∷◌, ◌++◌, map, Option, Some, None, subst, inl, inr}
use Rattle.std.proofs.lemmas.Bool.{false≢true, cases_Bool}
use Rattle.std.proofs.lemmas.List.{append-nil}
use Rattle.std.specs.Prelude.{◌&&◌, ◌||◌, not, filter, IsTrue, is_some, if◌then◌else◌}
use Rattle.std.specs.List.{flat_map, list_all, AllByRecursion}
use Rattle.mps_base.specs.Address.{Id}
use Rattle.mps_base.specs.Segment.{Segment}
use Rattle.mps_base.specs.declared.moves.Move.{Move}
use Rattle.mps_base.specs.declared.moves.Move.TheVariants as moves
use Rattle.mps_model.specs.Graph.{Graph, contains, ids_of_client, ids_in_slots, ids_in_holds, ids_in_reservations, targets_of_point}
use Rattle.mps_model.specs.Collection.{is_condemned, is_settled, is_kept_in_place, MaySurvive}
use Rattle.mps_model.specs.World.{World, is_live, is_copying_object, has_area_word, live_automatic_ids}
use Rattle.mps_model.specs.Accessing.{address_or_null}
use Rattle.mps_model.specs.Placement.{ForMove, placement_of}
use Rattle.mps_model.specs.Effect.{Condemnation, condemned_by, condemned_zones, lies_in_one, doomed, world_flipped, after_flip, world_after_moves}
use Rattle.mps_model.specs.LegalMove.{ForOne, IsLegalMove, IsLegalEnd, AreLegalMoves, first_move, holds_something}
use Rattle.mps_model.specs.Flip.{moves_to, fix, fix_all, flip_of, end_where, is_nothing, world_at_flip, flip_act}
use Rattle.mps_abstract.specs.Colours.{AllReferredLive}
use Rattle.mps_abstract.specs.Collecting.{Collecting, Running, is_white_in}
use Rattle.mps_abstract.specs.FlipLaws.{IsAtRest, IsNumbered, collecting_after_flip, AreRemembered, FixesHeld, IsFlipDone, IsFlipEnded, AFlipBeginsRunning}
use Rattle.mps_abstract.proofs.Lists.{contains_append, contains_left, contains_right, contains_filtered}
use Rattle.mps_abstract.proofs.Keeping.{not_white_if_kept, not_white_outside}
use Rattle.mps_abstract.proofs.Joining.{legal_alone}
use Rattle.mps_abstract.proofs.FlipActs.FlipLists.{holds_show}
use Rattle.mps_abstract.proofs.FlipActs.Flipped.{bare_state, none_of_doomed, same_condemned, flipped_running}
use Rattle.mps_abstract.proofs.FlipActs.Flipping.{IsFlipping, AreRoots, AreFixed, flip_fixes}

-- the invariant holds where what the client holds is live and isn't white
running_with_client : (y : Collecting) → Running (bare_state y)
    → ((id : Id) → contains (ids_of_client y.world.graph) id ≡ true → (is_live y.world id ≡ true) × (is_white_in y id ≡ false)) → Running y
running_with_client y r held = record {
  runs = r.runs;
  different = r.different;
  condemned = r.condemned;
  coloured = record {
    held_live = λ id h. (held id h).0;
    held = λ id h. (held id h).1;
    referred_live = r.coloured.referred_live;
    referred = r.coloured.referred;
  };
  grey = r.grey;
  settled = r.settled;
  survivors = record {
    existing = r.survivors.existing;
    kept = r.survivors.kept;
    written = r.survivors.written;
    outside = r.survivors.outside;
  };
  examined = r.examined;
  band = record {
    tracing = r.band.tracing;
    splatting = r.band.splatting;
    drained = r.band.drained;
    examined = r.band.examined;
    scanned = r.band.scanned;
    referred_live = r.band.referred_live;
    unswept = r.band.unswept;
  };
  swept = r.swept;
  units = r.units;
}

-- ---- what the client holds

-- the ids that slots, holds and messages have, where no reservation is live
client_cases : (g : Graph) (id : Id) → ids_in_reservations g ≡ [] → contains (ids_of_client g) id ≡ true
    → (contains (ids_in_slots g ++ g.messages) id ≡ true) ⊎ (contains (ids_in_holds g) id ≡ true)
client_cases g id none h = elim (contains_append ((ids_in_slots g ++ ids_in_holds g) ++ g.messages) (ids_in_reservations g) id h) [
  | inl e ↦ elim (contains_append (ids_in_slots g ++ ids_in_holds g) g.messages id e) [
    | inl f ↦ elim (contains_append (ids_in_slots g) (ids_in_holds g) id f) [
      | inl slot ↦ inl (contains_left (ids_in_slots g) g.messages id slot)
      | inr hold ↦ inr hold
    ]
    | inr message ↦ inl (contains_right (ids_in_slots g) g.messages id message)
  ]
  | inr e ↦ absurd (false≢true (subst (λ (ids : List Id). contains ids id ≡ true) none e))
]

pub client_of_fixed : (g : Graph) (id : Id) → contains (ids_in_slots g ++ g.messages) id ≡ true → contains (ids_of_client g) id ≡ true
client_of_fixed g id h = contains_left ((ids_in_slots g ++ ids_in_holds g) ++ g.messages) (ids_in_reservations g) id
    (elim (contains_append (ids_in_slots g) g.messages id h) [
      | inl slot ↦ contains_left (ids_in_slots g ++ ids_in_holds g) g.messages id (contains_left (ids_in_slots g) (ids_in_holds g) id slot)
      | inr message ↦ contains_right (ids_in_slots g ++ ids_in_holds g) g.messages id message
    ])

-- after a flip the client holds no more than before it
client_no_more : (w : World) (id : Id) → contains ((ids_in_slots w.graph ++ ids_in_holds w.graph) ++ w.graph.messages
    ++ flat_map targets_of_point (map doomed w.graph.points)) id ≡ true → contains (ids_of_client w.graph) id ≡ true
client_no_more w id h =
    elim (contains_append ((ids_in_slots w.graph ++ ids_in_holds w.graph) ++ w.graph.messages)
    (flat_map targets_of_point (map doomed w.graph.points)) id h) [
      | inl e ↦ contains_left ((ids_in_slots w.graph ++ ids_in_holds w.graph) ++ w.graph.messages) (ids_in_reservations w.graph) id e
      | inr e ↦ absurd (false≢true (subst (λ (ids : List Id). contains ids id ≡ true) (none_of_doomed w.graph.points) e))
    ]

only_pinned : (b : Bool) → b ≡ (b || (false || false))
only_pinned true = refl
only_pinned false = refl

-- ---- the flip

pub flip_legal : (w : World) (what : Condemnation) (next : Option Move) → IsAtRest w → IsNumbered what
    → IsLegalMove w None (flip_of w what) next
flip_legal w what next rest numbered = record {
  none_runs = ap (λ o. not (is_some o)) rest.none_runs;
  of_zones = ap (condemned_zones w) (sym numbered);
}

at_flip : (w : World) (what : Condemnation) → IsNumbered what → world_at_flip w what ≡ after_flip w (condemned_zones w what) what
at_flip w what numbered = ap (after_flip w (condemned_zones w what)) numbered

module _ (w : World) (what : Condemnation) (others : List Id) (ms : List Move) (y : Collecting) (rest : IsAtRest w)
    (numbered : IsNumbered what) (some : is_nothing (condemned_by w what) ≡ false)
    (remembered : AreRemembered (collecting_after_flip w what others) others)
    (fixed : FixesHeld w (collecting_after_flip w what others) ms y) where
  abbrev x : Collecting
  x = collecting_after_flip w what others

  begun : IsFlipping x
  begun = record {
    running = flipped_running w what others rest some remembered;
    tracing = refl;
    same = λ id copying. only_pinned (contains x.running.pinned id);
  }

  roots : AreRoots x (ids_in_slots w.graph ++ w.graph.messages)
  roots id h = (
    rest.held_live id (client_of_fixed w.graph id h),
    contains_left ((ids_in_slots w.graph ++ w.graph.messages) ++ x.running.pinned)
        (filter (λ n. not (contains x.running.condemned n)) (live_automatic_ids w)) id
        (contains_left (ids_in_slots w.graph ++ w.graph.messages) x.running.pinned id h),
  )

  pub all : AreFixed x (ids_in_slots w.graph ++ w.graph.messages) ms y
  all = flip_fixes fixed begun roots

  -- what an area word holds is pinned, or wasn't condemned
  hold_kept : (id : Id) → contains (ids_in_holds w.graph) id ≡ true → is_white_in x id ≡ false
  hold_kept id h = elim (cases_Bool (is_condemned x.running id)) [
    | inl is ↦ not_white_if_kept x.running.condemned x.colours id (contains_filtered (has_area_word w) x.running.condemned id
        (holds_show w w.graph.areas id rest.well_formed.words h) is)
    | inr isnt ↦ not_white_outside x.running.condemned x.colours id isnt
  ]

  held : (id : Id) → contains (ids_of_client y.world.graph) id ≡ true → (is_live y.world id ≡ true) × (is_white_in y id ≡ false)
  held id h =
      let before = subst (λ (g : Graph). contains (ids_of_client g) id ≡ true) all.graph h in (
        all.live id ∙ rest.held_live id (client_no_more w id before),
        elim (client_cases x.world.graph id (none_of_doomed w.graph.points) before) [
          | inl fix ↦ all.fixed id fix
          | inr hold ↦ all.black id (hold_kept id hold)
        ],
      )

  act : flip_act w what ≡ flip_of w what ∷ ms
  act =
      ap (λ (v : World). flip_of w what ∷ fix_all v (ids_in_slots w.graph ++ w.graph.messages) ++ end_where
      (is_nothing (condemned_by w what)))
      (at_flip w what numbered)
      ∙ ap (λ these. flip_of w what ∷ these ++ end_where (is_nothing (condemned_by w what))) all.act
      ∙ ap (λ b. flip_of w what ∷ ms ++ end_where b) some
      ∙ ap (λ these. flip_of w what ∷ these) (append-nil ms)

  pub flip_done : IsFlipDone w what ms y
  flip_done = record {
    act = act;
    leads = ap (world_after_moves w) act ∙ ap (λ (v : World). world_after_moves v ms) (at_flip w what numbered) ∙ all.leads;
    legal = subst (λ these. AreLegalMoves w None these) (sym act) (
      flip_legal w what (first_move ms) rest numbered,
      subst (λ (v : World). AreLegalMoves v (Some (flip_of w what)) ms) (sym (at_flip w what numbered))
          (legal_alone x.world (Some (flip_of w what)) ms all.legal),
    );
    running = running_with_client y all.flipping.running held;
  }

-- ---- where nothing is condemned

nothing_is : (ss : List Segment) → is_nothing ss ≡ true → ss ≡ []
nothing_is [] h = refl
nothing_is (s ∷ ss) h = absurd (false≢true h)

none_pass : (xs : List Id) → filter (λ id. false) xs ≡ []
none_pass [] = refl
none_pass (x ∷ xs) = none_pass xs

module _ (w : World) (what : Condemnation) (rest : IsAtRest w) (numbered : IsNumbered what)
    (nothing : is_nothing (condemned_by w what) ≡ true) where
  abbrev empty : Collecting
  empty = collecting_after_flip w what []

  abbrev flipped_world : World
  flipped_world = world_flipped w (condemned_zones w what)

  no_segments : condemned_by flipped_world what ≡ []
  no_segments = same_condemned w (condemned_zones w what) what ∙ nothing_is (condemned_by w what) nothing

  pub none_condemned : empty.running.condemned ≡ []
  none_condemned = ap (λ ss. filter (lies_in_one flipped_world ss) (live_automatic_ids w)) no_segments ∙ none_pass (live_automatic_ids w)

  no_fix : (id : Id) → fix empty.world id ≡ []
  no_fix id =
      ap (λ ids. if not (not (contains ids id) || is_settled empty.running id) && is_copying_object w id
      then moves_to empty.world id (address_or_null w id) (placement_of empty.world (ForMove id)) else []) none_condemned

  no_fixes : (ids : List Id) → fix_all empty.world ids ≡ []
  no_fixes [] = refl
  no_fixes (id ∷ ids) = ap (λ these. these ++ fix_all (world_after_moves empty.world these) ids) (no_fix id) ∙ no_fixes ids

  ended_act : flip_act w what ≡ flip_of w what ∷ moves.End ∷ []
  ended_act =
      ap (λ (v : World). flip_of w what ∷ fix_all v (ids_in_slots w.graph ++ w.graph.messages) ++ end_where
      (is_nothing (condemned_by w what)))
      (at_flip w what numbered)
      ∙ ap (λ these. flip_of w what ∷ these ++ end_where (is_nothing (condemned_by w what)))
      (no_fixes (ids_in_slots w.graph ++ w.graph.messages))
      ∙ ap (λ b. flip_of w what ∷ end_where b) nothing

  end_legal : IsLegalEnd empty.world empty.running
  end_legal = record {
    survivors = subst (λ ids. AllByRecursion (λ id. IsTrue (is_settled empty.running id) ⊎ MaySurvive empty.running id)
        (filter (is_live w) ids))
        (sym none_condemned) tt;
    copied = ap (λ ids. list_all (is_kept_in_place empty.running) (filter (is_copying_object empty.world) (filter (is_live w) ids)))
        none_condemned;
    segments = ap (λ ss. list_all (holds_something empty.world) (map (λ (s : Segment). s.base) ss)) no_segments;
  }

  leaves : world_after_moves w (flip_act w what) ≡ record (after_flip w (condemned_zones w what) what) { collection = None }
  leaves = ap (world_after_moves w) ended_act ∙ ap (λ (v : World). record v { collection = None }) (at_flip w what numbered)

  pub flip_ended : IsFlipEnded w what
  flip_ended = record {
    act = ended_act;
    legal = subst (λ these. AreLegalMoves w None these) (sym ended_act) (
      flip_legal w what (Some moves.End) rest numbered,
      (subst (λ (v : World). ForOne v.collection (IsLegalEnd v)) (sym (at_flip w what numbered)) end_legal, tt),
    );
    ended = ap (λ (v : World). v.collection) leaves;
    held_live = λ id h. ap (λ (v : World). is_live v id) leaves
        ∙ rest.held_live id (client_no_more w id (subst (λ (v : World). contains (ids_of_client v.graph) id ≡ true) leaves h));
    referred_live = subst (λ (v : World). AllReferredLive v.graph (is_live v)) (sym leaves) rest.referred_live;
  }

pub a_flip_begins_running : AFlipBeginsRunning
a_flip_begins_running = (
  (λ w what others ms y rest numbered some remembered fixed. flip_done w what others ms y rest numbered some remembered fixed),
  (λ w what rest numbered nothing. flip_ended w what rest numbered nothing),
)
