-- `get`: what its barrier needs and leaves, and what the call comes to by that.
use Rattle.std.proofs.Common.{◌≡◌, ◌∙◌, ℕ, Some, None, Ok, Err, length, refl, sym, ap, subst}
use Rattle.std.proofs.Math.Seq.{drop-length}
use Rattle.std.specs.Prelude.{drop}
use Rattle.std.proofs.lemmas.Option.{none-some, same_Some}
use Rattle.mps_base.specs.Address.{Address}
use Rattle.mps_base.specs.Segment.{Segment, segment_over}
use Rattle.mps_base.specs.Trail.{Moves}
use Rattle.mps_base.specs.declared.names.Slot.{Slot}
use Rattle.mps_format.specs.Layout.{Layout}
use Rattle.mps_trace.specs.Access.{AccessesTo, CanAccess}
use Rattle.mps_pools.specs.Pools.{PoolsState}
use Rattle.mps_trace.specs.Trace.{Traced}
use Rattle.mps_trace.specs.declared.running.Band.{Band}
use Rattle.mps_trace.specs.declared.running.Running.{Running}
use Rattle.mps_heap_spec.specs.Checked.{Checked, ◌>>=◌}
use Rattle.mps_heap_spec.specs.Coming.{Comes, Outcome, answered, done, state_from}
use Rattle.mps_heap_spec.specs.Finding.{object_in, reference_cell_at, slot_in}
use Rattle.mps_heap_spec.specs.Following.{made_since, moves_followed}
use Rattle.mps_heap_spec.specs.Getting.{CanGet, IsAccessed, IsGot, after_access, is_refused, reads, with_traced}
use Rattle.mps_heap_spec.specs.Objects.{reference_got, with_slot}
use Rattle.mps_heap_spec.specs.State.{HeapState}
use Rattle.mps_heap_spec.specs.Units.{IsWhole, trace_in, traced_in}
use Rattle.mps_heap_spec.specs.declared.found.Block.{Block}
use Rattle.mps_heap_spec.specs.declared.found.CellFound.{CellFound}
use Rattle.mps_heap_spec.specs.declared.found.Entry.{Entry}

-- what a row of checks that is accepted begins with
first_ok : {A B : Type 0} (x : Checked A) (f : A → Checked B) (b : B) → (x >>= f) ≡ Ok b → (a : A) × (x ≡ Ok a) × (f a ≡ Ok b)
first_ok (Ok a) f b e = (a, refl, e)
first_ok (Err why) f b e = absurd cc

-- the heap with other segments and tails, as it is seen once its pools have these tails
pub traced_seen : {F : Type 0} (seen h : HeapState F) (z : Traced) (p : PoolsState F) → seen ≡ h
    → p ≡ record { pools = seen.pools; sizes = seen.sizes; chains = seen.chains; tails = z.amc }
    → record seen { segs = z.segs; pools = p.pools; sizes = p.sizes; chains = p.chains; tails = p.tails } ≡ with_traced h z
traced_seen {F} seen h z p is unchanged =
    ap (λ (q : PoolsState F). let v : HeapState F = record seen {
      segs = z.segs;
      pools = q.pools;
      sizes = q.sizes;
      chains = q.chains;
      tails = q.tails;
    } in v) unchanged
    ∙ ap (λ (v : HeapState F). with_traced v z) is

module _ {F : Type 0} (layout : F → Layout) (h : HeapState F) (m : Moves) (target source : Slot) (k : ℕ) where
  -- all checks pass
  accepted : (seen : HeapState F) → seen ≡ h → (into : Entry Address) (object : Block F) (cell : CellFound) → Ok into ≡ slot_in h target
      → Ok object ≡ object_in layout h source → Ok cell ≡ reference_cell_at layout seen.segs.words object k
      → (o : Outcome F (Unit {0})) × (reference_got layout h target source k ≡ Ok o)
  accepted seen is into object cell there found reads_cell = (
    record { answer = tt; state = with_slot h into ((layout object.format).target cell.value) },
    ap (λ (x : Checked (Entry Address)). x >>= (λ e. object_in layout h source >>= (λ o. reference_cell_at layout h.segs.words o k
        >>= (λ (c : CellFound). done (with_slot h e ((layout o.format).target c.value)))))) (sym there)
        ∙ ap (λ (x : Checked (Block F)). x >>= (λ o. reference_cell_at layout h.segs.words o k
        >>= (λ (c : CellFound). done (with_slot h into ((layout o.format).target c.value))))) (sym found)
        ∙ ap (λ (x : Checked CellFound). x >>= (λ c. done (with_slot h into ((layout object.format).target c.value))))
        (sym (reads_cell ∙ ap (λ (v : HeapState F). reference_cell_at layout v.segs.words object k) is)),
  )

  module _ (seen : HeapState F) (is : seen ≡ h) (whole : IsWhole seen) (object : Block F)
      (found : Ok object ≡ object_in layout h source)
      (band : Band) (now : (run : Running) × (h.running ≡ Some run) × (run.band ≡ band)) where
    -- the barrier can be done
    pub can_access : CanGet layout h m target source k → (t : Segment) → segment_over seen.segs.segments object.at ≡ Some t
        → CanAccess layout band (trace_in seen) seen.segs m t
    can_access can =
        subst
        (λ (v : HeapState F). (t : Segment) → segment_over v.segs.segments object.at ≡ Some t
        → CanAccess layout band (trace_in v) v.segs m t)
        (sym is)
        (subst
        (λ b. (t : Segment) → segment_over h.segs.segments object.at ≡ Some t → CanAccess layout b (trace_in h) h.segs m t) now.2
        (can (subst IsWhole is whole) object (sym found) now.0 now.1))

    -- and the call is accepted, with what it left
    pub is_accessed : (into : Entry Address) (cell : CellFound) → Ok into ≡ slot_in h target
        → Ok cell ≡ reference_cell_at layout seen.segs.words object k → (z : Traced)
        → ((t : Segment) → segment_over seen.segs.segments object.at ≡ Some t
        → AccessesTo layout (trace_in seen).formats (trace_in seen).chains band t (traced_in seen m) z)
        → IsAccessed layout h m target source k z
    is_accessed into cell there reads_cell z accessed =
        let all = accepted seen is into object cell there found reads_cell in
        record {
          outcome = all.0;
          accepted = all.1;
          object = object;
          found = sym found;
          accessed = record {
            rests = λ none. absurd (none-some now.0 (sym none ∙ now.1));
            whole = λ run running. subst IsWhole is whole;
            runs = λ run running.
                let same : band ≡ run.band =
                sym now.2 ∙ ap (λ (r : Running). r.band) (same_Some now.0 run (sym now.1 ∙ running)) in
                subst
                (λ b. (t : Segment) → segment_over h.segs.segments object.at ≡ Some t
                → AccessesTo layout (trace_in h).formats (trace_in h).chains b t (traced_in h m) z)
                same
                (subst
                (λ (v : HeapState F). (t : Segment) → segment_over v.segs.segments object.at ≡ Some t
                → AccessesTo layout (trace_in v).formats (trace_in v).chains band t (traced_in v m) z)
                is accessed);
          };
        }

  -- ---- the call

  object_there : (o : Outcome F (Unit {0})) → reference_got layout h target source k ≡ Ok o
      → (b : Block F) × (object_in layout h source ≡ Ok b)
  object_there o e =
      let rest : Entry Address → Block F → Checked (Outcome F (Unit {0})) =
      λ into object. reference_cell_at layout h.segs.words object k
      >>= (λ (cell : CellFound). done (with_slot h into ((layout object.format).target cell.value))) in
      let into = first_ok (slot_in h target) (λ (e : Entry Address). object_in layout h source >>= rest e) o e in
      let object = first_ok (object_in layout h source) (rest into.0) o into.2 in
      (object.0, object.1)

  -- no collection runs
  pub got_at_rest : (result : Checked (Unit {0})) (after : HeapState F) → h.running ≡ None
      → Comes h (reference_got layout h target source k) result after → IsGot layout h m target source k result after m
  got_at_rest result after none comes = of_outcome (reference_got layout h target source k) refl
    where
      of_outcome : (x : Checked (Outcome F (Unit {0}))) → reference_got layout h target source k ≡ x
          → IsGot layout h m target source k result after m
      of_outcome (Err why) e = is_refused why e (comes.answer ∙ ap answered e) (comes.state ∙ ap (state_from h) e) refl
      of_outcome (Ok o) e =
          let b = object_there o e in
          reads (traced_in h m) (record {
            outcome = o;
            accepted = e;
            object = b.0;
            found = b.1;
            accessed = record {
              rests = λ still. refl;
              whole = λ run running. absurd (none-some run (sym none ∙ running));
              runs = λ run running. absurd (none-some run (sym none ∙ running));
            };
          }) (subst (λ v. Comes v (reference_got layout v target source k) result after)
          (sym (ap (moves_followed layout h) (drop-length m.moves))) comes) refl

  -- the barrier was done, and its moves were followed
  pub got_after : (result : Checked (Unit {0})) (left between after : HeapState F) (m' : Moves) (first : ℕ) → first ≡ length m.moves
      → ((z : Traced) × IsAccessed layout h m target source k z × (left ≡ with_traced h z) × (m' ≡ z.moves))
      → between ≡ moves_followed layout left (drop first m'.moves)
      → Comes between (reference_got layout between target source k) result after → IsGot layout h m target source k result after m'
  got_after result left between after m' first count accessed followed comes =
      let z = accessed.0 in
      let same : between ≡ after_access layout h m z =
      followed ∙ ap (λ v. moves_followed layout v (drop first m'.moves)) accessed.2
      ∙ ap (λ n. moves_followed layout (with_traced h z) (drop n m'.moves)) count
      ∙ ap (λ (t : Moves). moves_followed layout (with_traced h z) (made_since m t)) accessed.3 in
      reads z accessed.1 (subst (λ v. Comes v (reference_got layout v target source k) result after) same comes) accessed.3
