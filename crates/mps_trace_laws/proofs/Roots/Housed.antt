-- Fixing all slots and then all messages keeps each object in one segment of its rank, and ranks marks as segments.
use Rattle.std.proofs.Common.{◌≡◌, ◌∙◌, ℕ, zero, suc, true, refl, sym, ap, List, [], ◌∷◌, ◌++◌, map, Option, Some, None, subst, inl, inr}
use Rattle.std.proofs.lemmas.Bool.{false≢true}
use Rattle.std.proofs.lemmas.List.{append-nil}
use Rattle.std.specs.Prelude.{is_some, slice_get, length}
use Rattle.mps_base.specs.Address.{Address, Id}
use Rattle.mps_base.specs.Segment.{Segment}
use Rattle.mps_trace.specs.State.{FinalsState}
use Rattle.mps_format.specs.Layout.{Layout}
use Rattle.mps_trace.specs.GenState.{ChainsState}
use Rattle.mps_root.specs.State.{RootsState}
use Rattle.mps_model.specs.Graph.{entries}
use Rattle.mps_model.specs.World.{World, is_live}
use Rattle.mps_abstract.specs.Collecting.{Collecting}
use Rattle.mps_abstract.specs.Fixing.{Fixes, fixes_no_more}
use Rattle.mps_abstract.proofs.Lists.{contains_cases, contains_here, contains_later}
use Rattle.mps_trace.specs.Roots.{FixesRoot, is_null, leads, begins, goes_on, FixesSlots, FixesTables, FixesMessages}
use Rattle.mps_trace.specs.Trace.{Traced}
use Rattle.mps_trace_laws.specs.Fix.Housed.{AreHoused, AreLive, AreStrongMoving}
use Rattle.mps_trace_laws.specs.Fix.Ranks.{AreMarksRanked}
use Rattle.mps_trace_laws.specs.Image.SegmentWords.{AreSegmentsInOrder}
use Rattle.mps_trace_laws.proofs.Fix.Housed.{fixes_keep_housed}
use Rattle.mps_trace_laws.proofs.Fix.Ranks.{AreAllButExact, AreRanked, all_of_them, fix_but, fix_ranked, ranked_among, ranked_there}
use Rattle.mps_trace_laws.proofs.Units.Entering.{held_in_order}
use Rattle.mps_trace_laws.specs.Roots.Rows.{AreHeldAtFlip}
use Rattle.mps_trace_laws.proofs.Roots.Tables.{all_of}
use Rattle.mps_format.specs.declared.pool.Policy.{Policy}
use Rattle.mps_trace_laws.specs.Image.Image.{CellSet}
use Rattle.mps_trace_laws.specs.Fix.Tracing.{TracingStands}
use Rattle.mps_trace_laws.specs.Roots.Beginning.{AreRootsFixed}
use Rattle.mps_trace_laws.specs.Roots.Tables.{AreTablesHeld}
use Rattle.mps_trace_laws.specs.Roots.Housed.{AreRootsHoused}

-- ---- what is held is live

module _ (w : World) where
  live_entries : (targets : List (Option Id)) → ((i : ℕ) (t : Id) → slice_get targets i ≡ Some (Some t) → is_live w t ≡ true)
      → AreLive (entries targets) w
  live_entries [] each t among = absurd (false≢true among)
  live_entries (None ∷ ts) each t among = live_entries ts (λ i u e. each (suc i) u e) t among
  live_entries (Some n ∷ ts) each t among =
      elim (contains_cases n (entries ts) t among) [
        | inl same ↦ ap (is_live w) (sym same) ∙ each zero n refl
        | inr later ↦ live_entries ts (λ i u e. each (suc i) u e) t later
      ]

  live_append : (xs ys : List (Option Id)) → AreLive (entries xs) w → AreLive (entries ys) w → AreLive (entries (xs ++ ys)) w
  live_append [] ys first second t among = second t among
  live_append (None ∷ xs) ys first second t among = live_append xs ys first second t among
  live_append (Some n ∷ xs) ys first second t among =
      elim (contains_cases n (entries (xs ++ ys)) t among) [
        | inl same ↦ ap (is_live w) (sym same) ∙ first n (contains_here n (entries xs))
        | inr later ↦ live_append xs ys (λ u h. first u (contains_later n (entries xs) u h)) second t later
      ]

  live_rows : (rows : List (List (Option Id))) → ((n : ℕ) (row : List (Option Id)) → slice_get rows n ≡ Some row → AreLive (entries row) w)
      → AreLive (entries (all_of rows)) w
  live_rows [] each t among = absurd (false≢true among)
  live_rows (row ∷ rows) each t among =
      live_append row (all_of rows) (each zero row refl) (live_rows rows (λ n r e. each (suc n) r e)) t among

live_held : (at_flip : List (Option Address)) (y : Collecting) (slots : List Address) (targets : List (Option Id))
    → AreHeldAtFlip at_flip y slots targets → AreLive (entries targets) y.world
live_held at_flip y slots targets held = live_entries y.world targets (λ i t e. ap is_some (held.each i (Some t) e).there)

-- ---- ranks

module _ (all : List Segment) (order : AreSegmentsInOrder all) {F : Type 0} (layout : F → Layout) (formats : List (Option (Policy F)))
    (of : ChainsState) where
  root_but : {x z : Traced} {at answer : Address} → FixesRoot layout formats of x at z answer → AreAllButExact z.segs.segments all
      → AreAllButExact x.segs.segments all
  root_but (is_null e) but = but
  root_but (leads to positive fixed) but = fix_but all order layout formats of fixed but

  root_ranked : {x z : Traced} {at answer : Address} → FixesRoot layout formats of x at z answer → AreAllButExact z.segs.segments all
      → AreRanked all order x.segs.marks → AreRanked all order z.segs.marks
  root_ranked (is_null e) but ranked = ranked
  root_ranked (leads to positive fixed) but ranked = fix_ranked all order layout formats of fixed but ranked

  slots_but : (key : ℕ) {from : RootsState} {x : Traced} {count : ℕ} {to : RootsState} {z : Traced}
      → FixesSlots layout formats of key from x count to z → AreAllButExact z.segs.segments all → AreAllButExact x.segs.segments all
  slots_but key begins but = but
  slots_but key (goes_on count at earlier fixed is) but = slots_but key earlier (root_but fixed but)

  slots_ranked : (key : ℕ) {from : RootsState} {x : Traced} {count : ℕ} {to : RootsState} {z : Traced}
      → FixesSlots layout formats of key from x count to z → AreAllButExact z.segs.segments all → AreRanked all order x.segs.marks
      → AreRanked all order z.segs.marks
  slots_ranked key begins but ranked = ranked
  slots_ranked key (goes_on count at earlier fixed is) but ranked =
      root_ranked fixed but (slots_ranked key earlier (root_but fixed but) ranked)

  tables_but : {from : RootsState} {x : Traced} {count : ℕ} {to : RootsState} {z : Traced}
      → FixesTables layout formats of from x count to z → AreAllButExact z.segs.segments all → AreAllButExact x.segs.segments all
  tables_but begins but = but
  tables_but (goes_on count earlier table) but = tables_but earlier (slots_but _ table but)

  tables_ranked : {from : RootsState} {x : Traced} {count : ℕ} {to : RootsState} {z : Traced}
      → FixesTables layout formats of from x count to z → AreAllButExact z.segs.segments all → AreRanked all order x.segs.marks
      → AreRanked all order z.segs.marks
  tables_ranked begins but ranked = ranked
  tables_ranked (goes_on count earlier table) but ranked =
      slots_ranked _ table but (tables_ranked earlier (slots_but _ table but) ranked)

  messages_but : {from : FinalsState} {x : Traced} {count : ℕ} {to : FinalsState} {z : Traced}
      → FixesMessages layout formats of from x count to z → AreAllButExact z.segs.segments all → AreAllButExact x.segs.segments all
  messages_but begins but = but
  messages_but (goes_on count at earlier fixed is) but = messages_but earlier (root_but fixed but)

  messages_ranked : {from : FinalsState} {x : Traced} {count : ℕ} {to : FinalsState} {z : Traced}
      → FixesMessages layout formats of from x count to z → AreAllButExact z.segs.segments all → AreRanked all order x.segs.marks
      → AreRanked all order z.segs.marks
  messages_ranked begins but ranked = ranked
  messages_ranked (goes_on count at earlier fixed is) but ranked =
      root_ranked fixed but (messages_ranked earlier (root_but fixed but) ranked)

-- ---- all of them

-- fixing all slots and then all messages keeps both
pub roots_keep_housed : {F : Type 0}
    → (layout : F → Layout) (formats : List (Option (Policy F))) (of : ChainsState) (at_flip : List (Option Address)) (done : CellSet)
    (x between z : Traced) (y : Collecting) (rows : List (List (Option Id))) (ids : List Id) (roots roots' : RootsState)
    (finals finals' : FinalsState)
    → TracingStands layout formats of at_flip done x y → AreHoused y.world.graph.objects x.segs.segments y.world.addresses
    → AreStrongMoving y.world → AreMarksRanked x.segs → AreTablesHeld at_flip y roots rows
    → AreHeldAtFlip at_flip y finals.messages (map Some ids)
    → FixesTables layout formats of roots x (length roots.order) roots' between
    → FixesMessages layout formats of finals between (length finals.messages) finals' z
    → (all : AreRootsFixed layout formats of at_flip done x z y roots roots' finals' rows ids) → AreRootsHoused z all.fixed.after
roots_keep_housed layout formats of at_flip done x between z y rows ids roots roots' finals finals' stands housed strong ranked held
    messages tables run all =
    let f = all.fixed in
    let targets = all_of rows ++ map Some ids in
    let live =
    live_append y.world (all_of rows) (map Some ids)
    (live_rows y.world rows (λ n row e. live_held at_flip y _ row (held.each n row e)))
    (live_held at_flip y finals.messages (map Some ids) messages)
    in
    let fixes : Fixes y (entries targets) f.moves f.after =
    subst (λ ns. Fixes y ns f.moves f.after) (append-nil (entries targets))
    (subst (λ ms. Fixes y (entries targets ++ []) ms f.after) (append-nil f.moves) (f.fixes [] [] f.after fixes_no_more))
    in
    record {
      housed =
          subst (λ ss. AreHoused f.after.world.graph.objects ss f.after.world.addresses) (sym f.stands.state.segments.same_segments)
          (fixes_keep_housed layout formats of at_flip done x y f.after (entries targets) f.moves stands strong housed live
          fixes);
      ranked =
          let ss = z.segs.segments in
          let order = held_in_order z.segs f.stands.state.held in
          let later = messages_but ss order layout formats of run (all_of_them ss) in
          let first = tables_but ss order layout formats of tables later in
          ranked_there z.segs order
          (messages_ranked ss order layout formats of run (all_of_them ss)
          (tables_ranked ss order layout formats of tables later (ranked_among ss order x.segs first ranked)));
    }
