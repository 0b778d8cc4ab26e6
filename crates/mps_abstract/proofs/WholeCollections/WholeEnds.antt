-- The end of a whole collection: what was posted, and what is left, is exact.
use Rattle.std.proofs.Common.{◌≡◌, ◌∙◌, ℕ, Bool, true, false, refl, sym, ap, List, [], ◌∷◌, ◌++◌, length, Some, None, subst, arith, Option}
use Rattle.std.proofs.lemmas.Bool.{false≢true, true≢false, and_parts}
use Rattle.std.proofs.lemmas.List.{append-nil}
use Rattle.std.specs.Prelude.{MatchBool, is_some}
use Rattle.mps_base.specs.Address.{Id, Address}
use Rattle.mps_base.specs.Segment.{Segment}
use Rattle.mps_base.specs.declared.moves.Move.{Move}
use Rattle.mps_model.specs.Graph.{contains, is_automatic}
use Rattle.mps_model.specs.World.{World, is_live, live_automatic_ids, object_is}
use Rattle.mps_model.specs.Posts.{IsWidelyReachableWith, ArePostsExact, AreWholePosts, IsDecided, IsWhole}
use Rattle.mps_model.specs.Effect.{Everything, condemned_by, condemned_zones, after_flip, world_after_moves}
use Rattle.mps_model.specs.Flip.{flip_of, flip_act, is_nothing}
use Rattle.mps_model.specs.LegalMove.{AreLegalMoves, first_move}
use Rattle.mps_model.specs.Units.{is_last_condemned, AreUnitsToEnd}
use Rattle.mps_model.specs.History.{FinishesCollection}
use Rattle.mps_model.specs.WellFormed.{is_live_automatic}
use Rattle.mps_model.proofs.Cutting.{world_after_moves-append}
use Rattle.mps_model.proofs.Reaching.{list_all-contains}
use Rattle.mps_abstract.specs.Collecting.{Collecting, Running, IsDrainedIn}
use Rattle.mps_abstract.specs.Units.{IsReclaimedNext, reclaim_by, IsLastUnit, reclaims_last, Ends, by_last}
use Rattle.mps_abstract.specs.FlipLaws.{IsAtRest, collecting_after_flip, FixesHeld}
use Rattle.mps_abstract.specs.WholeLaws.{IsWholeSoFar, IsWholeDone, IsCollectDone, AWholeCollectionIsExact}
use Rattle.mps_abstract.proofs.Lists.{all_members, contains_here}
use Rattle.mps_abstract.proofs.Addresses.{is_listed_automatic}
use Rattle.mps_abstract.proofs.Joining.{AreLegalAnywhere, legal_append, legal_alone}
use Rattle.mps_abstract.proofs.Reclaimed.{final_world, black_left}
use Rattle.mps_abstract.proofs.Reclaiming.{all_black, last_leads}
use Rattle.mps_abstract.proofs.Rows.{units_shown, last_unit_shown, last_units_done}
use Rattle.mps_abstract.proofs.FlipActs.FlipBegins.{all, flip_legal, flip_done, flip_ended, none_condemned}
use Rattle.mps_abstract.proofs.WholeCollections.WholePaths.{reached_more, led_to_kept, reached_is_kept, kept_reached}
use Rattle.mps_abstract.proofs.WholeCollections.WholeUnits.{units_whole}
use Rattle.mps_abstract.proofs.WholeCollections.WholeBegins.{everything, nothing_remembered, begun_running, whole_begun}

none_left : (ids : List Id) → length ids ≡ 0 → ids ≡ []
none_left [] h = refl
none_left (id ∷ ids) h = absurd (omega (arith, h))

decided : (b : Bool) (P : Type 0) → (b ≡ true → P) → (b ≡ false → ¬ P) → MatchBool b P (¬ P)
decided true P is isnt = is refl
decided false P is isnt = isnt refl

-- ---- the last unit

module _ (before flipped_world : World) (sent : flipped_world.graph.messages ≡ before.graph.messages) (x : Collecting) (run : Running x)
    (p : IsWholeSoFar flipped_world x) (s : Segment) (freed : List Address) (next : IsReclaimedNext x s freed)
    (last : is_last_condemned x.running s.base ≡ true) where
  drained : IsDrainedIn x
  drained id grey = absurd (true≢false (sym grey ∙ next.scanned id))

  all_examined : p.remaining ≡ []
  all_examined = none_left p.remaining (
      let n = p.in_turn.next in
      let b = p.in_turn.before in
      let e : x.next ≡ x.running.registered_before = next.examined in
      omega (arith, n, b, e))

  posts_exact : AreWholePosts flipped_world p.posts
  posts_exact = subst (λ ids. ArePostsExact flipped_world [] flipped_world.graph.registered ids) (append-nil p.posts)
      (p.so_far [] (subst (λ ids. ArePostsExact flipped_world p.posted ids []) (sym all_examined) refl))

  abbrev ended : World
  ended = world_after_moves x.world (reclaim_by x s.base freed)

  live_then : (id : Id) → is_live ended id ≡ is_live (final_world x run s freed next) id
  live_then id = ap (λ (v : World). is_live v id) (last_leads x run s freed next last)

  is_decided : (id : Id) → contains (live_automatic_ids flipped_world) id ≡ true → IsDecided flipped_world ended p.posts id
  is_decided id h = decided (is_live ended id) (IsWidelyReachableWith flipped_world p.posts id)
      (λ live. reached_more flipped_world p.posted p.posts (λ n e. sym (p.same n) ∙ e)
      (kept_reached flipped_world p.posted x id p.reached (p.condemned id h)
      (all_black x run s freed next last id (sym (live_then id) ∙ live))))
      (λ dead path.
      let kept = reached_is_kept flipped_world p.posted x (led_to_kept flipped_world x run p.alike p.led drained) p.roots
      (reached_more flipped_world p.posts p.posted (λ n e. p.same n ∙ e) path) in
      false≢true (sym dead ∙ (live_then id ∙ black_left x run s freed next id kept.1 kept.0)))

  whole_ended : IsWhole before flipped_world ended
  whole_ended = record {
    posts = p.posts;
    posted = ap (λ (v : World). v.graph.messages) (last_leads x run s freed next last) ∙ (p.messages ∙ ap (λ ms. ms ++ p.posts) sent);
    exact = posts_exact;
    survivors = all_members (IsDecided flipped_world ended p.posts) (live_automatic_ids flipped_world) is_decided;
  }

last_whole : (before flipped_world : World) → flipped_world.graph.messages ≡ before.graph.messages → (x : Collecting) → Running x
    → IsWholeSoFar flipped_world x → {piece : List Move} → IsLastUnit x piece
    → IsWhole before flipped_world (world_after_moves x.world piece)
last_whole before flipped_world sent x run p (reclaims_last {s = s} {freed} next last) =
    whole_ended before flipped_world sent x run p s freed next last

-- ---- the whole collection

module _ (w : World) (first : List Move) (y : Collecting) (rest : IsAtRest w) (some : is_nothing (condemned_by w Everything) ≡ false)
    (fixed : FixesHeld w (collecting_after_flip w Everything []) first y) where
  abbrev begun : Collecting
  begun = collecting_after_flip w Everything []

  abbrev act : List Move
  act = flip_act w Everything

  running : Running y
  running = begun_running w first y rest some fixed

  act_is : act ≡ flip_of w Everything ∷ first
  act_is = (flip_done w Everything [] first y rest refl some (nothing_remembered w rest) fixed).act

  act_leads : world_after_moves w act ≡ y.world
  act_leads = (flip_done w Everything [] first y rest refl some (nothing_remembered w rest) fixed).leads

  first_leads : world_after_moves begun.world first ≡ y.world
  first_leads = (all w Everything [] first y rest refl some (nothing_remembered w rest) fixed).leads

  first_legal : AreLegalAnywhere begun.world first
  first_legal = (all w Everything [] first y rest refl some (nothing_remembered w rest) fixed).legal

  to_end : (count : ℕ) (later : List Move) → Ends y count later → FinishesCollection (world_after_moves w act) later
  to_end count later ends =
      subst (λ (v : World). FinishesCollection v later) (sym act_leads)
      (subst (λ b. MatchBool b (AreUnitsToEnd y.world later) (later ≡ [])) (sym (ap is_some running.runs))
      (last_units_done y count later running ends).are_to_end)

  legal_with : (later : List Move) → AreLegalAnywhere y.world later → (before : Option Move) → AreLegalMoves w before (act ++ later)
  legal_with later legal before_all =
      subst (λ ms. AreLegalMoves w before_all (ms ++ later)) (sym act_is) (
        flip_legal w Everything (first_move (first ++ later)) rest refl,
        first_legal.go_on (Some (flip_of w Everything)) later
            (λ before. subst (λ (v : World). AreLegalMoves v before later) (sym first_leads) (legal_alone y.world before later legal)),
      )

  pub whole_done : (count : ℕ) (later : List Move) → Ends y count later → IsWholeDone w (act ++ later)
  whole_done count later ends = of_ends ends (to_end count later ends)
    where
      of_ends : {n : ℕ} {those : List Move} → Ends y n those → FinishesCollection (world_after_moves w act) those
          → IsWholeDone w (act ++ those)
      of_ends (by_last {y = z} {done = done} {piece} row last) finishes =
          let shown = units_shown running row in
          let leads : world_after_moves w (act ++ (done ++ piece)) ≡ world_after_moves z.world piece =
          world_after_moves-append w act (done ++ piece)
          ∙ (ap (λ (v : World). world_after_moves v (done ++ piece)) act_leads
          ∙ (world_after_moves-append y.world done piece ∙ ap (λ (v : World). world_after_moves v piece) shown.leads)) in
          record {
            full = record {
              later = done ++ piece;
              whole = refl;
              later_ends = finishes;
              exact = subst (λ (v : World). IsWhole w begun.world v) (sym leads)
                  (last_whole w begun.world refl z shown.running
                  (units_whole begun.world running (whole_begun w first y rest some fixed) row) last);
            };
            legal = legal_with (done ++ piece) (legal_append y.world done piece shown.legal
                (subst (λ (v : World). AreLegalAnywhere v piece) (sym shown.leads) (last_unit_shown shown.running last).legal));
          }

-- ---- where nothing is condemned

module _ (w : World) (rest : IsAtRest w) (nothing : is_nothing (condemned_by w Everything) ≡ true) where
  none_automatic : (id : Id) → contains (live_automatic_ids w) id ≡ true → ⊥
  none_automatic id h = false≢true (sym (ap (λ ids. contains ids id) (none_condemned w Everything rest refl nothing))
      ∙ everything w rest id h)

  none_registered : w.graph.registered ≡ []
  none_registered = of_list w.graph.registered (λ id h.
      let there = and_parts (is_live w id) (object_is is_automatic w id)
      (list_all-contains (is_live_automatic w) w.graph.registered id rest.well_formed.registered h) in
      none_automatic id (is_listed_automatic w id there.0 there.1))
    where
      of_list : (ids : List Id) → ((id : Id) → contains ids id ≡ true → ⊥) → ids ≡ []
      of_list [] none = refl
      of_list (id ∷ ids) none = absurd (none id (contains_here id ids))

  abbrev flip_world : World
  flip_world = after_flip w (condemned_zones w Everything) Everything

  leaves : world_after_moves w (flip_act w Everything) ≡ record flip_world { collection = None }
  leaves = ap (world_after_moves w) (flip_ended w Everything rest refl nothing).act

  pub whole_of_nothing : IsWholeDone w (flip_act w Everything)
  whole_of_nothing = record {
    full = record {
      later = [];
      whole = sym (append-nil (flip_act w Everything));
      later_ends = subst (λ (v : World). FinishesCollection v []) (sym leaves) refl;
      exact = subst (λ (v : World). IsWhole w flip_world v) (sym leaves) (record {
        posts = [];
        posted = sym (append-nil w.graph.messages);
        exact = subst (λ ids. ArePostsExact flip_world [] ids []) (sym none_registered) refl;
        survivors = all_members (IsDecided flip_world (record flip_world { collection = None }) []) (live_automatic_ids w)
            (λ id h. absurd (none_automatic id h));
      });
    };
    legal = λ before. subst (λ ms. AreLegalMoves w before ms) (sym (flip_ended w Everything rest refl nothing).act)
        (subst (λ ms. AreLegalMoves w None ms) (flip_ended w Everything rest refl nothing).act
        (flip_ended w Everything rest refl nothing).legal);
  }

-- ---- collect

nothing_to_finish : (w : World) (ms : List Move) → w.collection ≡ None → ms ≡ [] → FinishesCollection w ms
nothing_to_finish w ms none e = subst (λ o. MatchBool (is_some o) (AreUnitsToEnd w ms) (ms ≡ [])) (sym none) e

collect_at_rest : (w : World) (full : List Move) → w.collection ≡ None → IsWholeDone w full → IsCollectDone w full
collect_at_rest w full none done = record {
  due = record { earlier = []; full = full; both = refl; earlier_ends = nothing_to_finish w [] none refl; is_full = done.full };
  legal = done.legal None;
}

-- where a collection runs, it goes on to its end, and then a full one follows
collect_running : (x : Collecting) (full : List Move) → Running x → {count : ℕ} {earlier : List Move} → Ends x count earlier
    → FinishesCollection x.world earlier → IsWholeDone (world_after_moves x.world earlier) full → IsCollectDone x.world (earlier ++ full)
collect_running x full run (by_last {done = row_moves} {piece} row last) finishes whole =
    let shown = units_shown run row in
    let legal : AreLegalAnywhere x.world (row_moves ++ piece) = legal_append x.world row_moves piece shown.legal
    (subst (λ (v : World). AreLegalAnywhere v piece) (sym shown.leads) (last_unit_shown shown.running last).legal) in
    record {
      due = record { earlier = row_moves ++ piece; full = full; both = refl; earlier_ends = finishes; is_full = whole.full };
      legal = legal.go_on None full whole.legal;
    }

finishes_where_it_runs : (x : Collecting) (earlier : List Move) (count : ℕ) → Running x → Ends x count earlier
    → FinishesCollection x.world earlier
finishes_where_it_runs x earlier count run ends =
    subst (λ b. MatchBool b (AreUnitsToEnd x.world earlier) (earlier ≡ [])) (sym (ap is_some run.runs))
    (last_units_done x count earlier run ends).are_to_end

pub a_whole_collection : AWholeCollectionIsExact
a_whole_collection = (
  (λ w first later y count rest some fixed ends. whole_done w first y rest some fixed count later ends),
  (λ w rest nothing. whole_of_nothing w rest nothing),
  collect_at_rest,
  (λ x earlier full count run ends whole. collect_running x full run ends (finishes_where_it_runs x earlier count run ends) whole),
)
