-- The table and the point of a list are made, and the list is empty.
use Rattle.std.proofs.Common.{◌≡◌, ℕ, Bool, true, false, refl, ◌∙◌, ap, subst, List, [], ◌∷◌, length, Some, None, Ok, Err}
use Rattle.std.proofs.lemmas.Bool.{true≢false}
use Rattle.std.specs.Prelude.{if◌then◌else◌, not, IfOk, Result, is_some, option_and_then}
use Rattle.mps_base.specs.Name.{same_name}
use Rattle.mps_base.specs.declared.names.Kind.{Kind}
use Rattle.mps_base.specs.declared.names.Name.{Name}
use Rattle.mps_base.specs.declared.names.Rank.{Rank}
use Rattle.mps_base.specs.declared.names.Rank.TheVariants.{Exact}
use Rattle.mps_base.specs.declared.refusal.Refusal.{Refusal}
use Rattle.mps_base.specs.declared.refusal.Refusal.TheVariants as refusal
use Rattle.mps_format.specs.Layout.{Layout}
use Rattle.mps_model.specs.declared.call.Call.TheVariants as call
use Rattle.mps_model.specs.declared.reply.Reply.TheVariants as reply
use Rattle.mps_model.specs.Answer.{Replied, is_accepted}
use Rattle.mps_model.specs.Checked.{Checked, ◌>>◌, as_point, as_table, number_named, point_named, pool_named, refuse_when, with_graph}
use Rattle.mps_model.specs.Graph.{Graph, NamedThing, Point, PointThing, Slots, TableThing, Thing, entry_at, is_taken, thing_in, with_last}
use Rattle.mps_model.specs.History.{IsLegalStep, world_after}
use Rattle.mps_model.specs.Making.{graph_with_table, may_have_point, most_points, most_pools, live_points, refuse_at_limit, refuse_root, refuse_taken, with_point, with_pool}
use Rattle.mps_model.specs.Step.{Step}
use Rattle.mps_model.specs.World.{Collected, Pool, World}
use Rattle.mps_laws.specs.Held.{letter, slot_of_t}
use Rattle.mps_laws.proofs.Lookups.{entry_at-at_last}
use Rattle.mps_laws.proofs.Reading.{bind_ok, next_ok, slot_in_is}
use Rattle.mps_client_laws.specs.Collecting.{is_dependent}
use Rattle.mps_client_laws.specs.Slots.{slot_value, value_found}
use Rattle.mps_client_laws.proofs.QuietCalls.{IsQuiet, done_world}
use Rattle.mps_client_laws.proofs.ReadingBack.{quiet_graph}
use Rattle.mps_client_laws.proofs.SlotsStay.{slots_stay}
use Rattle.mps_heap_spec.specs.State.{HeapState}
use Rattle.mps_refinement.specs.Making.{IsRightMaking, IsRightMakingIn, MeansLayout}
use Rattle.mps_refinement.specs.RightStep.{IsRight, step_of}
use Rattle.mps_refinement.specs.StandsFor.{StandsFor}
use Rattle.mps_heap_examples.specs.Listed.{HasList, MayHaveList, rank_found}
use Rattle.mps_heap_examples.proofs.Points.{entry_rank, rank_is, rank_of_one, ranks}

-- ---- names

-- a name that was free is that of the thing that was named last
named_last : (ns : List NamedThing) (name : Name) (thing : Thing) → same_name name name ≡ true → is_some (thing_in ns name) ≡ false
    → thing_in (with_last ns (record { name = name; thing = thing })) name ≡ Some thing
named_last [] name thing same free = ap (λ b. if b then Some thing else None) same
named_last (n ∷ ns) name thing same free = by_case (same_name n.name name) free (named_last ns name thing same)
  where
    by_case : (b : Bool) → is_some (if b then Some n.thing else thing_in ns name) ≡ false
        → (is_some (thing_in ns name) ≡ false → thing_in (with_last ns (record { name = name; thing = thing })) name ≡ Some thing)
        → (if b then Some n.thing else thing_in (with_last ns (record { name = name; thing = thing })) name) ≡ Some thing
    by_case true free rest = absurd (true≢false free)
    by_case false free rest = rest free

not_refused : {A : Type 0} (b : Bool) (why : Refusal) (y : Checked A) (a : A) → (refuse_when b why >> y) ≡ Ok a → b ≡ false
not_refused true why y a e = absurd cc
not_refused false why y a e = refl

-- ---- the steps

pool_is_quiet : (name : Name) (kind : Kind) (format : ℕ) → IsQuiet (call.Pool name kind format)
pool_is_quiet name kind format = record { none = λ w a ms e. e; world = λ w a. refl; reply = λ m w. refl }

table_is_quiet : (name : Name) (slots : ℕ) → IsQuiet (call.Table name slots)
table_is_quiet name slots = record { none = λ w a ms e. e; world = λ w a. refl; reply = λ m w. refl }

point_is_quiet : (name pool : Name) (at_rank : Rank) → IsQuiet (call.Point name pool at_rank)
point_is_quiet name pool at_rank = record { none = λ w a ms e. e; world = λ w a. refl; reply = λ m w. refl }

module _ (w : World) (s : Step) (legal : IsLegalStep w s) (accepts : is_accepted s.answer ≡ true) where
  pool_made : (name : Name) (kind : Kind) (format : ℕ) → s.call ≡ call.Pool name kind format
      → (world_after w s).graph.dependents ≡ w.graph.dependents
  pool_made name kind format is =
      let q = quiet_graph (call.Pool name kind format) (pool_is_quiet name kind format) w s legal is accepts in
      let p : Pool = record { kind = Collected kind; format = format; chain = None } in
      let made = next_ok (refuse_at_limit (length w.pools) most_pools) _ q.0 (next_ok (refuse_taken w name) _ q.0 q.1) in
      ap (λ (g : Graph). g.dependents) q.2 ∙ ap (λ (u : World). u.graph.dependents) (done_world (with_pool w name p) q.0 made)

  -- the name was free, and the table is made
  table_made : (name : Name) (slots : ℕ) → s.call ≡ call.Table name slots
      → (is_taken w.graph name ≡ false) × ((world_after w s).graph ≡ graph_with_table w.graph name slots)
  table_made name slots is =
      let q = quiet_graph (call.Table name slots) (table_is_quiet name slots) w s legal is accepts in
      let made = next_ok (refuse_root w slots) _ q.0 (next_ok (refuse_taken w name) _ q.0 q.1) in (
        not_refused (is_taken w.graph name) refusal.NameTaken _ q.0 q.1,
        q.2 ∙ ap (λ (u : World). u.graph) (done_world (with_graph w (graph_with_table w.graph name slots)) q.0 made),
      )

  point_made : (name pool : Name) (at_rank : Rank) → s.call ≡ call.Point name pool at_rank
      → (is_taken w.graph name ≡ false) × ((n : ℕ) × ((world_after w s).graph ≡ (with_point w name n at_rank).graph))
  point_made name pool at_rank is =
      let q = quiet_graph (call.Point name pool at_rank) (point_is_quiet name pool at_rank) w s legal is accepts in
      let of = bind_ok (pool_named w pool) _ q.0 (next_ok (refuse_taken w name) _ q.0 q.1) in
      let may = next_ok (refuse_when (not (may_have_point (of.0).value.kind at_rank)) refusal.WrongPool) _ q.0 of.2 in
      let made = next_ok (refuse_at_limit (live_points w.graph) most_points) _ q.0 may in (
        not_refused (is_taken w.graph name) refusal.NameTaken _ q.0 q.1,
        ((of.0).number, q.2 ∙ ap (λ (u : World). u.graph) (done_world (with_point w name (of.0).number at_rank) q.0 made)),
      )

-- ---- what was made

first_is_null : (g : Graph) (v : World) → is_taken g (letter 116) ≡ false → v.graph ≡ graph_with_table g (letter 116) 2
    → slot_value v (slot_of_t 0) ≡ Some None
first_is_null g v free is =
    let table : Slots = None ∷ None ∷ [] in
    ap value_found (slot_in_is v (slot_of_t 0) (length g.tables) table None
    (ap (λ (h : Graph). option_and_then as_table (thing_in h.names (letter 116))) is
    ∙ ap (option_and_then as_table) (named_last g.names (letter 116) (TableThing (length g.tables)) refl free))
    (ap (λ (h : Graph). entry_at h.tables (length g.tables)) is ∙ entry_at-at_last g.tables (Some table)) refl)

point_is_exact : (w v : World) (n : ℕ) → is_taken w.graph (letter 120) ≡ false → v.graph ≡ (with_point w (letter 120) n Exact).graph
    → rank_found (point_named v (letter 120)) ≡ Some Exact
point_is_exact w v n free is =
    let number = length w.graph.points in
    let p : Point = record { pool = n; rank = Exact; reservation = None } in
    let named : number_named v (letter 120) as_point ≡ Some number =
    ap (λ (h : Graph). option_and_then as_point (thing_in h.names (letter 120))) is
    ∙ ap (option_and_then as_point) (named_last w.graph.names (letter 120) (PointThing number) refl free) in
    rank_is v (letter 120) ∙ ap (option_and_then (λ k. entry_at (ranks v.graph) k)) named
    ∙ entry_rank v.graph.points number
    ∙ ap (λ (h : Graph). rank_of_one (entry_at h.points number)) is
    ∙ ap rank_of_one (entry_at-at_last w.graph.points (Some p))

-- ---- the calls of a heap

-- a heap that represents a world without dependents, and one that has the table too
pub record HasNone {F : Type 0} (layout : F → Layout) (h : HeapState F) : Type 0 where
  pub world : World
  pub stands : StandsFor layout h world
  pub alone : (id : ℕ) → is_dependent world.graph id ≡ false

pub record HasTable {F : Type 0} (layout : F → Layout) (h : HeapState F) : Type 0 where
  pub none : HasNone layout h
  pub slot : slot_value none.world (slot_of_t 0) ≡ Some None

still_none : (w v : World) → v.graph.dependents ≡ w.graph.dependents → (id : ℕ) → is_dependent w.graph id ≡ false
    → is_dependent v.graph id ≡ false
still_none w v same id alone = ap (λ ps. is_dependent (record w.graph { dependents = ps }) id) same ∙ alone

module _ {F A : Type 0} (layout : F → Layout) (before after : HeapState F) (a : A) where
  pub pool_then : (l : Layout) (name : Name) (kind : Kind) (may : MayHaveList layout l before)
      → ((number : ℕ) → IsRightMakingIn layout (MeansLayout number l) before (call.Pool name kind number) (Ok a) after)
      → HasNone layout after
  pool_then l name kind may right =
      let s = step_of 0 (call.Pool name kind may.format) [] (Replied reply.Ok) in
      let there = (right may.format).answered (λ e. absurd cc) may.world 0 may.means may.stands in
      record {
        world = world_after may.world s;
        stands = there.stands;
        alone = λ id. still_none may.world (world_after may.world s)
            (pool_made may.world s there.legal refl name kind may.format refl) id (may.alone id);
      }

  pub table_then : (name : Name) → name ≡ letter 116 → HasNone layout before
      → IsRightMaking layout before (call.Table name 2) (Ok a) after → HasTable layout after
  table_then name is none right =
      let s = step_of 0 (call.Table (letter 116) 2) [] (Replied reply.Ok) in
      let there = subst (λ n. IsRight layout before (call.Table n 2) [] (Replied reply.Ok) after) is (right.answered (λ e. absurd cc))
      none.world 0 none.stands in
      let made = table_made none.world s there.legal refl (letter 116) 2 refl in
      record {
        none = record {
          world = world_after none.world s;
          stands = there.stands;
          alone = λ id. still_none none.world (world_after none.world s) (ap (λ (g : Graph). g.dependents) made.1) id (none.alone id);
        };
        slot = first_is_null none.world.graph (world_after none.world s) made.0 made.1;
      }

module _ {F A : Type 0} (layout : F → Layout) (before after : HeapState F) (name pool : Name) (at_rank : Rank) (is : name ≡ letter 120)
    (exact : at_rank ≡ Exact) (has : HasTable layout before) where
  point_then : (a : A) → IsRightMaking layout before (call.Point name pool at_rank) (Ok a) after → HasList layout after []
  point_then a right =
      let s = step_of 0 (call.Point (letter 120) pool Exact) [] (Replied reply.Ok) in
      let w = has.none.world in
      let there = subst (λ n. IsRight layout before (call.Point n pool Exact) [] (Replied reply.Ok) after) is
      (subst (λ r. IsRight layout before (call.Point name pool r) [] (Replied reply.Ok) after) exact (right.answered (λ e. absurd cc)))
      w 0 has.none.stands in
      let made = point_made w s there.legal refl (letter 120) pool Exact refl in
      record {
        world = world_after w s;
        stands = there.stands;
        has = record {
          first = None;
          slot = slots_stay w (s ∷ []) (slot_of_t 0) None refl has.slot;
          items = tt;
          exact = point_is_exact w (world_after w s) (made.1).0 made.0 (made.1).1;
          alone = λ id. still_none w (world_after w s) (ap (λ (g : Graph). g.dependents) (made.1).1) id (has.none.alone id);
        };
      }

  pub list_then : (result : Result A Refusal) → IsRightMaking layout before (call.Point name pool at_rank) result after
      → IfOk result (λ done. HasList layout after [])
  list_then (Ok a) right = point_then a right
  list_then (Err why) right = tt
