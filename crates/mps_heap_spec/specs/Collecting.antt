-- What a full collection comes to, and one that is begun alone, of everything or of generations of a chain, and when a heap can do them.
use Rattle.std.specs.Prelude.{ℕ, ◌≡◌, ◌<◌, ◌^◌, Bool, nat_le, nat_lt, Some, None, Ok, Err, [], ◌∷◌, length, is_some, map, IfNone, IfSome, refl}
use Rattle.mps_base.specs.Trail.{Moves}
use Rattle.mps_base.specs.declared.names.Name.{Name}
use Rattle.mps_buffer.specs.Points.{points_after_flip}
use Rattle.mps_format.specs.Layout.{Layout}
use Rattle.mps_trace.specs.LdState as ld
use Rattle.mps_base.specs.declared.refusal.Refusal.TheVariants as refusal
use Rattle.mps_format.specs.Pools.{policy_of_pool}
use Rattle.mps_model.specs.Checked.{Checked, ◌>>=◌, ◌>>◌, refuse_when}
use Rattle.mps_trace.specs.Begin.{Begins, EndsAtOnce}
use Rattle.mps_trace.specs.Trace.{TraceState, traced}
use Rattle.mps_trace.specs.Collect.{CanCollect, Collects, most_units}
use Rattle.mps_trace.specs.Flip.{moving_of, zones_at_flip, zones_of}
use Rattle.mps_pools.specs.Collecting.{CanCondemn, IsTraceOf}
use Rattle.mps_trace.specs.declared.running.Running.{Running}
use Rattle.mps_names.specs.declared.names.Thing.TheVariants as thing
use Rattle.mps_trace.specs.declared.condemn.Condemn.{Condemn}
use Rattle.mps_trace.specs.declared.condemn.Condemn.TheVariants.{Everything, Generations}
use Rattle.mps_heap_spec.specs.Finding.{chain_named}
use Rattle.mps_heap_spec.specs.State.{HeapState, without_pairs}
use Rattle.mps_heap_spec.specs.Units.{trace_in, traced_in}
use Rattle.mps_heap_spec.specs.declared.arena.ArenaState.TheVariants as arena

-- the most flips that a heap counts
abbrev pub most_flips : ℕ
most_flips = 2 ^ 63

module _ {F : Type 0} where
  -- whether a heap can collect everything: one flip more can be counted
  abbrev pub can_collect : HeapState F → Bool
  can_collect h = nat_lt h.points.flips most_flips

  -- whatever words are at hand for its pools, a heap can do a collection of everything within this trail
  abbrev pub CanCollectAll : (F → Layout) → HeapState F → Moves → Type 0
  CanCollectAll layout h m =
      (t : TraceState F) → IsTraceOf h.pools h.chains t
      → CanCollect layout t h.points h.roots h.finals h.segs m (most_units h.segs.grains (length h.finals.registered))

  -- a full collection was done, from its flip to its end. The arena is parked, and no transform has a pair
  pub record IsCollected (layout : F → Layout) (h : HeapState F) (m : Moves) (h' : HeapState F) (m' : Moves) : Type 0 where
    pub before : TraceState F
    pub after : TraceState F
    pub of_pools : IsTraceOf h.pools h.chains before
    pub collects : Collects layout before.formats before.chains h.points h.roots h.finals (traced before h.segs m)
        (most_units h.segs.grains (length h.finals.registered)) h'.roots h'.finals (traced after h'.segs m')
    pub state : h' ≡ record h {
      segs = h'.segs;
      roots = h'.roots;
      finals = h'.finals;
      points = points_after_flip h.points;
      epochs = ld.epochs_after_flip h.epochs (zones_of (moving_of before.formats h.segs.segments));
      tails = h'.tails;
      arena = arena.Parked;
      beside = without_pairs h.beside;
    }

  -- ---- a collection that is begun alone

  -- a heap can begin a collection of what is to be condemned within this trail, and count one flip more
  pub record CanStart (layout : F → Layout) (what : Condemn) (h : HeapState F) (m : Moves) : Type 0 where
    pub few_flips : h.points.flips < most_flips
    pub few_epochs : h.epochs.count < most_flips
    pub begins : CanCondemn layout (trace_in h) what h.points h.roots h.finals h.segs m

  -- a collection of what is to be condemned was begun by its flip, and no unit was done; where nothing is condemned it ended at once. The
  -- arena is unclamped, and no transform has a pair
  pub record IsStarted (layout : F → Layout) (what : Condemn) (h : HeapState F) (m : Moves) (h' : HeapState F) (m' : Moves) : Type 0 where
    pub begun : IfSome h'.running (λ run. Begins layout (trace_in h).formats (trace_in h).chains what h.points h.roots h.finals
        (traced_in h m) h'.roots h'.finals (traced_in h' m') run)
    pub ended : IfNone h'.running (EndsAtOnce (trace_in h).formats (trace_in h).chains what h.points h.roots h.finals (traced_in h m)
        h'.roots h'.finals (traced_in h' m'))
    pub state : h' ≡ record h {
      segs = h'.segs;
      roots = h'.roots;
      finals = h'.finals;
      points = points_after_flip h.points;
      epochs = ld.epochs_after_flip h.epochs (zones_at_flip (map policy_of_pool h.pools) h.chains what h.segs.segments);
      tails = h'.tails;
      arena = arena.Unclamped;
      beside = without_pairs h.beside;
      running = h'.running;
    }

  -- what a `start` of everything condemns, if it isn't refused
  abbrev pub check_start : HeapState F → Checked Condemn
  check_start h = do
    refuse_when (is_some h.running) refusal.Running
    Ok Everything

  -- what a `start` of the generations of a chain up to one condemns, if it isn't refused
  abbrev pub check_start_chain : HeapState F → (chain : Name) → (oldest : ℕ) → Checked Condemn
  check_start_chain h chain oldest = do
    on ← chain_named h chain
    refuse_when (nat_le on.value oldest) refusal.BadIndex
    refuse_when (is_some h.running) refusal.Running
    Ok (Generations on.key oldest)

  -- what a `start` comes to whose checks gave this: a refused one changes nothing
  abbrev pub Starts : (F → Layout) → Checked Condemn → HeapState F → Moves → Checked (Unit {0}) → HeapState F → Moves → Type 0
  Starts layout (Ok what) h m result h' m' = (result ≡ Ok tt) × IsStarted layout what h m h' m'
  Starts layout (Err why) h m result h' m' = (result ≡ Err why) × (h' ≡ h) × (m' ≡ m)

-- ---- vectors: a heap in which the name `c` represents a chain of two generations, and `d` a table

abbrev letter : ℕ → Name
letter code = record { bytes = code ∷ 0 ∷ 0 ∷ 0 ∷ 0 ∷ 0 ∷ 0 ∷ 0 ∷ 0 ∷ 0 ∷ 0 ∷ 0 ∷ 0 ∷ 0 ∷ 0 ∷ 0 ∷ [] }

abbrev with_a_chain : {F : Type 0} → HeapState F → HeapState F
with_a_chain h = record h {
  names = record h.names { entries = (letter 99, thing.Chain 0) ∷ (letter 100, thing.Table 0) ∷ [] };
  chains = record { chains = (4 ∷ 8 ∷ []) ∷ []; of_pool = [] };
  running = None;
}

pub everything_where_none_runs : {F : Type 0} (h : HeapState F) → check_start (with_a_chain h) ≡ Ok Everything
everything_where_none_runs h = refl

pub both_generations_of_it : {F : Type 0} (h : HeapState F) → check_start_chain (with_a_chain h) (letter 99) 1 ≡ Ok (Generations 0 1)
both_generations_of_it h = refl

pub a_third_generation_is_none : {F : Type 0} (h : HeapState F)
    → check_start_chain (with_a_chain h) (letter 99) 2 ≡ Err refusal.BadIndex
a_third_generation_is_none h = refl

pub a_table_is_no_chain : {F : Type 0} (h : HeapState F) → check_start_chain (with_a_chain h) (letter 100) 0 ≡ Err refusal.BadName
a_table_is_no_chain h = refl

pub refused_while_one_runs : {F : Type 0} (h : HeapState F) (run : Running)
    → check_start (record (with_a_chain h) { running = Some run }) ≡ Err refusal.Running
refused_while_one_runs h run = refl

pub the_generation_is_checked_first : {F : Type 0} (h : HeapState F) (run : Running)
    → check_start_chain (record (with_a_chain h) { running = Some run }) (letter 99) 2 ≡ Err refusal.BadIndex
the_generation_is_checked_first h run = refl
