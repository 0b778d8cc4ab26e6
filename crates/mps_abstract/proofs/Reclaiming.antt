-- A unit that reclaims a segment, and the one in which the collection ends.
use Rattle.std.proofs.Common.{◌≡◌, ◌∙◌, ◌⊎◌, suc, ◌<◌, ◌≤◌, Bool, true, false, refl, sym, ap, List, [], ◌∷◌, ◌++◌, Some, None, subst, inl, inr, arith}
use Rattle.std.proofs.lemmas.Bool.{false≢true, true≢false, cases_lt, cases_Bool, leb-true, le-leb, lt-ltb}
use Rattle.std.proofs.lemmas.Option.{same_Some}
use Rattle.std.proofs.lemmas.List.{append-nil}
use Rattle.std.specs.Prelude.{◌&&◌, IsTrue, nat_le, filter}
use Rattle.std.specs.List.{list_all}
use Rattle.mps_base.specs.Address.{Id, Address}
use Rattle.mps_base.specs.Segment.{Segment, is_in_segment}
use Rattle.mps_base.specs.declared.moves.Move.{Move}
use Rattle.mps_base.specs.declared.moves.Move.TheVariants as moves
use Rattle.mps_model.specs.Graph.{contains, ids_of_client}
use Rattle.mps_model.specs.Collection.{Collection, is_settled, is_kept_in_place, MaySurvive}
use Rattle.mps_model.specs.World.{World, is_live, segment_at, is_copying_object, is_automatic_kind, pool_is}
use Rattle.mps_model.specs.Accessing.{address_or_null}
use Rattle.mps_model.specs.Effect.{segment_base_of, world_after_moves}
use Rattle.mps_model.specs.Flip.{end_where}
use Rattle.mps_model.specs.LegalMove.{IsLegalEnd, live_condemned, holds_something}
use Rattle.mps_model.specs.Units.{IsReclaim, reclaims, is_last_condemned, IsUnitPiece}
use Rattle.mps_model.proofs.Cutting.{world_after_moves-append}
use Rattle.mps_model.proofs.Reaching.{list_all-contains}
use Rattle.mps_abstract.specs.Colours.{AllReferredLive}
use Rattle.mps_abstract.specs.Collecting.{Reclaim, Collecting, is_white_in, units_left, Running}
use Rattle.mps_abstract.specs.Units.{IsReclaimedNext, reclaim_by, collecting_after_reclaim}
use Rattle.mps_abstract.proofs.Lists.{contains_here, contains_later, contains-filter, all_members, list_all-members}
use Rattle.mps_abstract.proofs.Addresses.{address_of-live}
use Rattle.mps_abstract.proofs.Joining.{AreLegalAnywhere, one_legal, legal_append, for_some}
use Rattle.mps_abstract.proofs.KeptRunning.{one_that_is}
use Rattle.mps_abstract.proofs.Reclaimed.{frees, cleared, final_collection, final_world, final_state, final_lead, moves_made, made_legal, live_before, black_left, white_elsewhere, to_go, hold, fewer, registered_black}
use Rattle.mps_abstract.proofs.UnitScans.{IsUnitShown}

-- what is shown of the last unit
pub record IsLastUnitShown (x : Collecting) (ms : List Move) : Type 0 where
  pub legal : AreLegalAnywhere x.world ms
  pub is_piece : IsUnitPiece x.world ms
  pub ended : (world_after_moves x.world ms).collection ≡ None
  pub held_live : (n : Id) → contains (ids_of_client (world_after_moves x.world ms).graph) n ≡ true
      → is_live (world_after_moves x.world ms) n ≡ true
  pub referred_live : AllReferredLive (world_after_moves x.world ms).graph (is_live (world_after_moves x.world ms))

-- ---- the moves

module _ (x : Collecting) (run : Running x) (s : Segment) (freed : List Address) (next : IsReclaimedNext x s freed) where
  abbrev end : Bool
  end = is_last_condemned x.running s.base

  reclaim_is_unit : IsUnitPiece x.world (reclaim_by x s.base freed)
  reclaim_is_unit = reclaims (for_some (IsReclaim x.world (reclaim_by x s.base freed)) x.world.collection x.running run.runs (record {
    base = s.base;
    freed = freed;
    condemned = next.condemned;
    in_turn = lt-ltb x.running.reclaimed_to s.base (run.swept.in_turn s.base next.condemned next.from_cursor);
    ascending = next.ascending;
    in_segment = for_some (λ t. IsTrue (list_all (is_in_segment t) freed)) (segment_at x.world s.base) s next.held
        (list_all-members (is_in_segment s) freed (λ at h. (next.white at h).inside));
    whole = refl;
  }))

  -- ---- the collection goes on

  another_left : is_last_condemned x.running s.base ≡ false
      → (base : Address) × ((contains x.running.condemned_segments base ≡ true) × (s.base < base))
  another_left not_last = of_bases x.running.condemned_segments not_last
    where
      of_bases : (bases : List Address) → list_all (λ other. nat_le other s.base) bases ≡ false
          → (base : Address) × ((contains bases base ≡ true) × (s.base < base))
      of_bases [] h = absurd (false≢true (sym h))
      of_bases (b ∷ bs) h = elim (cases_lt s.base b) [
        | inl less ↦ (b, (contains_here b bs, less))
        | inr most ↦
            let rest = of_bases bs (sym (ap (λ t. t && list_all (λ other. nat_le other s.base) bs) (le-leb b s.base most)) ∙ h) in
            (rest.0, (contains_later b bs rest.0 rest.1.0, rest.1.1))
      ]

  final_running : is_last_condemned x.running s.base ≡ false → Running (final_state x run s freed next)
  final_running not_last =
      let f = frees x run s freed next in
      let c = cleared x run s freed next in
      let black = black_left x run s freed next in
      record {
        runs = refl;
        different = f.sweeping.different;
        condemned = record {
          objects = run.condemned.objects;
          bases = c.ascending;
          segments = λ base h.
              let was = c.were base h in
              let t = one_that_is (λ u. IsTrue (pool_is is_automatic_kind x.world u.pool)) (segment_at x.world base)
              (run.condemned.segments base was.0) in
              for_some (λ u. IsTrue (pool_is is_automatic_kind x.world u.pool)) (segment_at (final_world x run s freed next) base) t.0
              (was.1.0 ∙ t.1.0) t.1.1;
        };
        coloured = record {
          held_live = λ n h. black n (run.coloured.held n h) (run.coloured.held_live n h);
          held = run.coloured.held;
          referred_live = λ n t h not_white refers.
              let before = live_before x run s freed next n h in
              black t (run.coloured.referred n t before not_white (next.scanned n) refers)
              (run.coloured.referred_live n t before not_white refers);
          referred = λ n t h not_white grey refers. run.coloured.referred n t (live_before x run s freed next n h) not_white grey refers;
        };
        grey = record {
          grey_live = λ n h. absurd (true≢false (sym h ∙ next.scanned n));
          grey_automatic = λ n h. absurd (true≢false (sym h ∙ next.scanned n));
          grey_kept = λ n h. absurd (true≢false (sym h ∙ next.scanned n));
        };
        settled = record { settled = run.settled.settled; in_place = run.settled.in_place };
        survivors = record {
          existing = run.survivors.existing;
          kept = λ n h not_white. run.survivors.kept n (live_before x run s freed next n h) not_white;
          written = λ n t h refers. run.survivors.written n t (live_before x run s freed next n h) refers;
          outside = λ n t h out refers. run.survivors.outside n t (live_before x run s freed next n h) out refers;
        };
        examined = record {
          live_registered = λ n h. black n (registered_black x run s freed next n h) (run.examined.live_registered n h);
          from = run.examined.from;
          up_to = run.examined.up_to;
          existing = run.examined.existing;
          examined = run.examined.examined;
        };
        band = record {
          tracing = λ h. absurd (false≢true h);
          splatting = λ h. absurd (true≢false h);
          drained = λ h n grey. absurd (true≢false (sym grey ∙ next.scanned n));
          examined = λ h. next.examined;
          scanned = λ h. next.scanned;
          referred_live = λ h. absurd (true≢false h);
          unswept = λ h. absurd (true≢false h);
        };
        swept = record {
          hold = hold x run s freed next;
          to_go = to_go x run s freed next;
          in_turn = λ base h up. in_turn base h up;
          one_left =
              let another = another_left not_last in
              let up = another.1.1 in
              (another.0, c.are another.0 (λ same. omega (arith, same, up)) another.1.0, up);
        };
        units = let less = fewer x run s freed next in let before = run.units in omega (arith, less, before);
      }
    where
      in_turn : (base : Address) → contains (cleared x run s freed next).bases base ≡ true → suc s.base ≤ base
          → (cleared x run s freed next).reclaimed_to < base
      in_turn base h up =
          let was = ((cleared x run s freed next).were base h).0 in
          let from = next.from_cursor in
          let before : x.running.reclaimed_to < base = run.swept.in_turn base was (omega (arith, from, up)) in
          elim (cleared x run s freed next).reclaimed [
            | inr here ↦ omega (arith, here, up)
            | inl same ↦ elim (frees x run s freed next).reclaimed [
              | inr here ↦ omega (arith, same, here, up)
              | inl still ↦ omega (arith, same, still, before)
            ]
          ]

  made_all : (b : Bool) → is_last_condemned x.running s.base ≡ b → reclaim_by x s.base freed ≡ moves_made x run s freed next ++ end_where b
  made_all b e = ap (λ t. moves_made x run s freed next ++ end_where t) e

  pub goes_on_leads : is_last_condemned x.running s.base ≡ false
      → world_after_moves x.world (reclaim_by x s.base freed) ≡ final_world x run s freed next
  goes_on_leads not_last =
      ap (world_after_moves x.world) (made_all false not_last ∙ append-nil (moves_made x run s freed next)) ∙ final_lead x run s freed next

  pub reclaims_shown : (c : Collection) → is_last_condemned x.running s.base ≡ false
      → (world_after_moves x.world (reclaim_by x s.base freed)).collection ≡ Some c
      → IsUnitShown x (reclaim_by x s.base freed) (collecting_after_reclaim x s.base freed c)
  reclaims_shown c not_last runs =
      let leads = goes_on_leads not_last in
      let same : final_collection x run s freed next ≡ c =
      same_Some (final_collection x run s freed next) c (sym (ap (λ (v : World). v.collection) leads) ∙ runs) in
      let state : final_state x run s freed next ≡ collecting_after_reclaim x s.base freed c =
      ap (λ (v : World). record x { world = v; running = final_collection x run s freed next; band = Reclaim; cursor = suc s.base })
      (sym leads)
      ∙ ap (λ (d : Collection). collecting_after_reclaim x s.base freed d) same in
      record {
        running = subst (λ y. Running y) state (final_running not_last);
        leads = refl;
        legal = subst (λ ms. AreLegalAnywhere x.world ms) (sym (made_all false not_last ∙ append-nil (moves_made x run s freed next)))
            (made_legal x run s freed next);
        is_piece = reclaim_is_unit;
        fewer = subst (λ y. units_left y < units_left x) state (fewer x run s freed next);
        spent = sym (ap (λ (y : Collecting). y.running.spent) state);
        allowed = sym (ap (λ (y : Collecting). y.running.units) state);
      }

  -- ---- the collection ends

  module _ (last : is_last_condemned x.running s.base ≡ true) where
    below_last : (base : Address) → contains x.running.condemned_segments base ≡ true → base ≤ s.base
    below_last base h = leb-true base s.base (list_all-contains (λ other. nat_le other s.base) x.running.condemned_segments base last h)

    -- nothing is white any more
    pub all_black : (n : Id) → is_live (final_world x run s freed next) n ≡ true → is_white_in x n ≡ false
    all_black n h = elim (cases_Bool (is_white_in x n)) [
      | inr isnt ↦ isnt
      | inl white ↦
          let at = address_or_null (final_world x run s freed next) n in
          let e = address_of-live (final_world x run s freed next) n h in
          let f = frees x run s freed next in
          let go = run.swept.to_go n at (f.fewer n at e) white in
          let most = below_last (segment_base_of x.world at) go.condemned in
          let least = next.first (segment_base_of x.world at) go.condemned go.above in
          absurd (white_elsewhere x run s freed next n at e white (omega (arith, most, least)))
    ]

    end_is_legal : IsLegalEnd (final_world x run s freed next) (final_collection x run s freed next)
    end_is_legal =
        let w = final_world x run s freed next in
        let c = final_collection x run s freed next in
        record {
          survivors = all_members (λ n. IsTrue (is_settled c n) ⊎ MaySurvive c n) (live_condemned w c) (λ n h.
              let member = contains-filter (is_live w) c.condemned n h in
              elim (run.survivors.kept n (live_before x run s freed next n member.1) (all_black n member.1)) [
                | inl out ↦ absurd (true≢false (sym member.0 ∙ out))
                | inr may ↦ inr may
              ]);
          copied = list_all-members (is_kept_in_place c) (filter (is_copying_object w) (live_condemned w c)) (λ n h.
              let copying = contains-filter (is_copying_object w) (live_condemned w c) n h in
              let member = contains-filter (is_live w) c.condemned n copying.0 in
              run.settled.in_place n copying.1 member.0 (all_black n member.1));
          segments = list_all-members (holds_something w) c.condemned_segments (λ base h.
              let most = below_last base ((cleared x run s freed next).were base h).0 in
              hold x run s freed next base h (omega (arith, most)));
        }

    pub last_leads : world_after_moves x.world (reclaim_by x s.base freed) ≡ record (final_world x run s freed next) { collection = None }
    last_leads =
        ap (world_after_moves x.world) (made_all true last)
        ∙ world_after_moves-append x.world (moves_made x run s freed next) (moves.End ∷ [])
        ∙ ap (λ (v : World). record v { collection = None }) (final_lead x run s freed next)

    last_legal : AreLegalAnywhere x.world (reclaim_by x s.base freed)
    last_legal = subst (λ ms. AreLegalAnywhere x.world ms) (sym (made_all true last))
        (legal_append x.world (moves_made x run s freed next) (moves.End ∷ []) (made_legal x run s freed next)
        (subst (λ v. AreLegalAnywhere v (moves.End ∷ [])) (sym (final_lead x run s freed next))
        (one_legal (final_world x run s freed next) moves.End (λ before after. end_is_legal))))

    last_referred_live : AllReferredLive x.world.graph (is_live (final_world x run s freed next))
    last_referred_live n t h refers =
        let before = live_before x run s freed next n h in
        let not_white = all_black n h in
        black_left x run s freed next t (run.coloured.referred n t before not_white (next.scanned n) refers)
        (run.coloured.referred_live n t before not_white refers)

    last_held_live : (n : Id) → contains (ids_of_client x.world.graph) n ≡ true → is_live (final_world x run s freed next) n ≡ true
    last_held_live n h = black_left x run s freed next n (run.coloured.held n h) (run.coloured.held_live n h)

    pub reclaims_last_shown : IsLastUnitShown x (reclaim_by x s.base freed)
    reclaims_last_shown = record {
      legal = last_legal;
      is_piece = reclaim_is_unit;
      ended = ap (λ (v : World). v.collection) last_leads;
      held_live = subst (λ (v : World). (n : Id) → contains (ids_of_client v.graph) n ≡ true → is_live v n ≡ true)
          (sym last_leads) last_held_live;
      referred_live = subst (λ (v : World). AllReferredLive v.graph (is_live v)) (sym last_leads) last_referred_live;
    }
