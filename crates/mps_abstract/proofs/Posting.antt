-- An object that was kept is posted, and the invariant holds.
use Rattle.std.proofs.Common.{◌≡◌, ◌∙◌, ◌⊎◌, ℕ, suc, ◌-◌, ◌<◌, ◌≤◌, true, false, refl, sym, ap, List, [], ◌∷◌, ◌++◌, Option, Some, subst, inl, inr, arith}
use Rattle.std.proofs.lemmas.Bool.{false≢true, true≢false, eqb-true, cases_lt}
use Rattle.std.specs.Prelude.{◌==◌, ◌||◌}
use Rattle.std.specs.Option.{option_map_or}
use Rattle.mps_base.specs.Address.{Id}
use Rattle.mps_base.specs.declared.moves.Move.{Move}
use Rattle.mps_base.specs.declared.moves.Move.TheVariants as moves
use Rattle.mps_model.specs.Graph.{Graph, contains, targets, ids_of_client, ids_in_slots, ids_in_holds, ids_in_reservations}
use Rattle.mps_model.specs.Reachable.{PathLeads, begins, goes_on}
use Rattle.mps_model.specs.Collection.{Collection, is_settled}
use Rattle.mps_model.specs.World.{World, is_live, is_copying_object}
use Rattle.mps_model.specs.Accessing.{address_or_null}
use Rattle.mps_model.specs.Effect.{posting, after_post, graph_posted, where_one, world_after_moves}
use Rattle.mps_model.specs.Flip.{at_address}
use Rattle.mps_model.specs.Units.{examines}
use Rattle.mps_model.proofs.Cutting.{world_after_moves-append}
use Rattle.mps_abstract.specs.Colours.{keeping, Survives, AreColoured, AreSettled, AreSurvivors}
use Rattle.mps_abstract.specs.Collecting.{Final, Collecting, is_tracing_band, is_white_in, AreExamined, units_left, Running}
use Rattle.mps_abstract.specs.Fixing.{Keeps, kept_by}
use Rattle.mps_abstract.specs.Units.{IsExaminedNext, collecting_after_post}
use Rattle.mps_abstract.proofs.Lists.{contains_here, contains_later, contains_cases, contains_append, contains_left, contains_right}
use Rattle.mps_abstract.proofs.Keeping.{it_is_kept, kept_before}
use Rattle.mps_abstract.proofs.Kept.{IsKept, keeps_leaves}
use Rattle.mps_abstract.proofs.KeptRunning as kept
use Rattle.mps_abstract.proofs.KeptRunning.{kept_state, same_state, not_reclaiming}
use Rattle.mps_abstract.proofs.Registrations.{StandsFirst, position_first, contains-without_first, length-without_first, slice_get-without_before, slice_get-without_after}
use Rattle.mps_abstract.proofs.Examining.{examined_is_tracing}
use Rattle.mps_abstract.proofs.UnitScans.{IsUnitShown}
use Rattle.mps_abstract.proofs.PostLegal as legal
use Rattle.mps_abstract.proofs.PostLegal.{post_shown, stands_first}

-- ---- what the client holds after a post

posted_held : (a b m r : List ℕ) (id n : Id) → contains (((a ++ b) ++ (m ++ id ∷ [])) ++ r) n ≡ true
    → (id ≡ n) ⊎ (contains (((a ++ b) ++ m) ++ r) n ≡ true)
posted_held a b m r id n h = elim (contains_append ((a ++ b) ++ (m ++ id ∷ [])) r n h) [
  | inr in_r ↦ inr (contains_right ((a ++ b) ++ m) r n in_r)
  | inl front ↦ elim (contains_append (a ++ b) (m ++ id ∷ []) n front) [
    | inl in_ab ↦ inr (contains_left ((a ++ b) ++ m) r n (contains_left (a ++ b) m n in_ab))
    | inr back ↦ elim (contains_append m (id ∷ []) n back) [
      | inl in_m ↦ inr (contains_left ((a ++ b) ++ m) r n (contains_right (a ++ b) m n in_m))
      | inr it ↦ elim (contains_cases id [] n it) [ inl same ↦ inl same | inr none ↦ absurd (false≢true none) ]
    ]
  ]
]

client_posted : (g : Graph) (id n : Id) → contains (ids_of_client (graph_posted g id)) n ≡ true
    → (id ≡ n) ⊎ (contains (ids_of_client g) n ≡ true)
client_posted g id n h = posted_held (ids_in_slots g) (ids_in_holds g) g.messages (ids_in_reservations g) id n h

-- ---- what survives after a post

pub leads_more : (next : ℕ → List ℕ) (these those : List ℕ) → ((n : ℕ) → contains these n ≡ true → contains those n ≡ true) → {n : ℕ}
    → PathLeads next these n → PathLeads next those n
leads_more next these those sub (begins {id} h) = begins (sub id h)
leads_more next these those sub (goes_on path h) = goes_on (leads_more next these those sub path) h

pub survives_post : (c : Collection) (id position n : Id) → Survives c n → Survives (posting id position c) n
survives_post c id position n s = elim s [
  | inl out ↦ inl out
  | inr may ↦ inr (leads_more (targets c.graph_at_flip) c.origins (id ∷ c.origins) (λ m h. contains_later id c.origins m h) may)
]

module _ (x : Collecting) (run : Running x) (id : Id) (due : IsExaminedNext x id) (white : is_white_in x id ≡ true) (w' : World)
    (c' : Collection) (r : IsKept x.world x.running id w' c') where
  tracing : is_tracing_band x.band ≡ true
  tracing = examined_is_tracing x run due.before_flip

  live : is_live x.world id ≡ true
  live = legal.live x run id due white

  abbrev before_post : Collecting
  before_post = kept_state x run tracing id live white w' c' r

  -- the collection after the post
  abbrev posted_one : Collection
  posted_one = posting id x.next before_post.running

  abbrev posted_state : Collecting
  posted_state = record before_post {
    world = record before_post.world { graph = graph_posted x.world.graph id; collection = Some posted_one };
    running = posted_one;
    band = Final;
  }

  first : StandsFirst x.world.graph.registered id x.next
  first = stands_first x run id due white

  coloured : AreColoured (ids_of_client posted_state.world.graph) posted_state.world.graph (is_live posted_state.world) posted_one.condemned
      posted_state.colours
  coloured =
      let old = kept.coloured x run tracing id live white w' c' r in
      record {
        held_live = λ n h. elim (client_posted x.world.graph id n h) [
          | inl same ↦ subst (λ m. is_live posted_state.world m ≡ true) same (kept.still_live x run tracing id live white w' c' r id live)
          | inr held ↦ old.held_live n held
        ];
        held = λ n h. elim (client_posted x.world.graph id n h) [
          | inl same ↦ subst (λ m. is_white_in posted_state m ≡ false) same (it_is_kept x.running.condemned x.colours id)
          | inr held ↦ old.held n held
        ];
        referred_live = old.referred_live;
        referred = old.referred;
      }

  settled_post : (n : Id) → is_settled posted_one n ≡ true → (id ≡ n) ⊎ (is_settled before_post.running n ≡ true)
  settled_post n h =
      elim (id == n) as (λ b. (id == n) ≡ b
      → (contains x.running.pinned n || (contains r.placed n || (b || contains x.running.had n))) ≡ true
      → (id ≡ n) ⊎ (is_settled before_post.running n ≡ true)) [
        | true ↦ (λ e g. inl (eqb-true id n e))
        | false ↦ (λ e g. inr g)
      ] refl h

  settled : AreSettled (is_copying_object posted_state.world) posted_one posted_state.colours
  settled =
      let old = kept.settled x run tracing id live white w' c' r in
      record {
        settled = λ n h. elim (settled_post n h) [
          | inl same ↦ subst (λ m. is_white_in posted_state m ≡ false) same (it_is_kept x.running.condemned x.colours id)
          | inr before ↦ old.settled n before
        ];
        in_place = old.in_place;
      }

  survivors : AreSurvivors posted_state.world.graph (is_live posted_state.world) posted_one posted_state.colours
  survivors = record {
    existing = run.survivors.existing;
    kept = λ n h black. elim (kept_before x.running.condemned x.colours id n black) [
      | inl same ↦ subst (λ m. Survives posted_one m) same (inr (begins (contains_here id x.running.origins)))
      | inr old ↦ survives_post before_post.running id x.next n
          (run.survivors.kept n (kept.was_live x run tracing id live white w' c' r n h) old)
    ];
    written = λ n t h refers. elim (run.survivors.written n t (kept.was_live x run tracing id live white w' c' r n h) refers) [
      | inl at_flip ↦ inl at_flip
      | inr since ↦ inr (survives_post before_post.running id x.next t since)
    ];
    outside = λ n t h out refers.
        survives_post before_post.running id x.next t
        (run.survivors.outside n t (kept.was_live x run tracing id live white w' c' r n h) out refers);
  }

  examined : AreExamined posted_state.world.graph.registered (is_live posted_state.world) posted_one posted_state.colours x.next
  examined =
      let xs = x.world.graph.registered in
      let old = kept.examined x run tracing id live white w' c' r in
      record {
        live_registered = λ n h. old.live_registered n (contains-without_first xs id n h);
        from = omega arith;
        up_to = let b = due.before_flip in omega (arith, b);
        existing = let l = length-without_first xs id x.next first in let e = run.examined.existing in omega (arith, l, e);
        examined = λ position n e at. elim (cases_lt position x.next) [
          | inl less ↦ old.examined position n (sym (slice_get-without_before xs id x.next position first less) ∙ e) (inl less)
          | inr most ↦ old.examined (suc position) n (sym (slice_get-without_after xs id x.next position first most) ∙ e)
              (inr (since position most at))
        ];
      }
    where
      since : (position : ℕ) → x.next ≤ position → (position < x.next) ⊎ (x.running.registered_before - 1 ≤ position)
          → x.running.registered_before ≤ suc position
      since position most (inl less) = absurd (omega (arith, less, most))
      since position most (inr later) = omega (arith, later)

  fewer : units_left posted_state < units_left x
  fewer =
      let objects = kept.objects_no_more x run tracing id live white w' c' r in
      let b = due.before_flip in
      omega (arith, objects, b)

  posted_running : Running posted_state
  posted_running = record {
    runs = refl;
    different = r.different;
    condemned = record {
      objects = run.condemned.objects;
      bases = run.condemned.bases;
      segments = (kept.condemned x run tracing id live white w' c' r).segments;
    };
    coloured = coloured;
    grey = (kept.grey x run tracing id live white w' c' r);
    settled = settled;
    survivors = survivors;
    examined = examined;
    band = record {
      tracing = λ h. run.band.tracing tracing;
      splatting = λ h. run.band.splatting (not_reclaiming x.band tracing);
      drained = λ h. absurd (true≢false h);
      examined = λ h. absurd (true≢false h);
      scanned = λ h. absurd (false≢true h);
      referred_live = λ h. kept.referred_live x run tracing id live white w' c' r;
      unswept = λ h. run.band.unswept (not_reclaiming x.band tracing);
    };
    swept = record {
      hold = λ base h below. absurd
          (let none : x.cursor ≡ 0 = run.band.unswept (not_reclaiming x.band tracing) in omega (arith, none, below));
      to_go = (kept.swept x run tracing id live white w' c' r).to_go;
      in_turn = run.swept.in_turn;
      one_left = run.swept.one_left;
    };
    units = let less = fewer in let before = run.units in omega (arith, less, before);
  }

  same_posted : collecting_after_post (record x { world = w'; running = c'; colours = keeping x.colours id }) id ≡ posted_state
  same_posted =
      ap (λ y. collecting_after_post y id) (same_state x run tracing id live white w' c' r)
      ∙ ap (λ (o : Option ℕ). record before_post {
        world = record before_post.world {
          graph = graph_posted x.world.graph id;
          collection = Some (posting id (option_map_or (λ position. position) o 0) before_post.running);
        };
        running = posted_one;
        band = Final;
      }) (position_first x.world.graph.registered id x.next first)

pub posts_shown : (x : Collecting) (id : Id) (ms : List Move) (c : Collection) → Running x → IsExaminedNext x id → is_white_in x id ≡ true
    → Keeps x.world x.running id ms c
    → IsUnitShown x (ms ++ moves.Post (at_address (address_or_null (world_after_moves x.world ms) id)) ∷ [])
    (collecting_after_post (kept_by x id ms c) id)
posts_shown x id ms c run due white keep =
    let is_live = legal.live x run id due white in
    let w = world_after_moves x.world ms in
    let r = keeps_leaves x.world x.running id run.runs run.different is_live keep in
    let shown = post_shown x run id due white keep in
    let a = address_or_null w id in
    let same = same_posted x run id due white w c r in
    record {
      running = subst (λ y. Running y) (sym same) (posted_running x run id due white w c r);
      leads = world_after_moves-append x.world ms (moves.Post (at_address a) ∷ [])
          ∙ ap (λ o. where_one w o (after_post w)) (legal.kept_there x run id due white w c r);
      legal = shown.legal;
      is_piece = examines shown.is_examination;
      fewer = subst (λ y. units_left y < units_left x) (sym same) (fewer x run id due white w c r);
      spent = ap (λ (y : Collecting). y.running.spent) same;
      allowed = ap (λ (y : Collecting). y.running.units) same;
    }
