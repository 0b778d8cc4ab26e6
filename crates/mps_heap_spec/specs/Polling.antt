-- The poll of a `reserve`: it has the collection that runs do some units, or flips the generation that is due if none runs, and then the
-- call is judged anew.
use Rattle.std.specs.Prelude.{◌≡◌, ◌<◌, ℕ, ◌&&◌, Bool, true, false, is_some, not, Option, Some, None, Ok, Err, [], ◌∷◌, MatchBool, refl}
use Rattle.mps_base.specs.Generation.{Due}
use Rattle.mps_base.specs.Trail.{Moves}
use Rattle.mps_base.specs.declared.names.Name.{Name}
use Rattle.mps_buffer.specs.Points.{is_place, placement_at}
use Rattle.mps_format.specs.Layout.{Layout}
use Rattle.mps_model.specs.Checked.{Checked}
pub use Rattle.mps_model.specs.Policy.{units_of_poll}
use Rattle.mps_base.specs.declared.names.Rank.TheVariants.{Exact}
use Rattle.mps_trace.specs.GenState.{no_chains}
use Rattle.mps_policy.specs.Due.{due_now}
use Rattle.mps_trace.specs.declared.condemn.Condemn.{Condemn}
use Rattle.mps_trace.specs.declared.condemn.Condemn.TheVariants.{Generations}
use Rattle.mps_heap_spec.specs.State.{HeapState, IsReady}
use Rattle.mps_heap_spec.specs.declared.arena.ArenaState.{ArenaState}
use Rattle.mps_heap_spec.specs.declared.arena.ArenaState.TheVariants as arena
use Rattle.mps_heap_spec.specs.declared.found.Reserving.{Reserving}
use Rattle.mps_heap_spec.specs.Allocating.{after_reserve, check_reserve}
use Rattle.mps_heap_spec.specs.Collecting.{CanStart, IsStarted}
use Rattle.mps_heap_spec.specs.Coming.{ComesMoving}
use Rattle.mps_heap_spec.specs.Following.{Follows}
use Rattle.mps_heap_spec.specs.Units.{CanDoUnits, HasDoneUnits}

abbrev pub is_unclamped : ArenaState → Bool
is_unclamped arena.Unclamped = true
is_unclamped arena.Clamped = false
is_unclamped arena.Parked = false

-- what the flip of a generation that is due condemns: it, and all that are younger
abbrev pub condemned_by : Due → Condemn
condemned_by due = Generations due.chain due.generation

module _ {F : Type 0} where
  -- whether a `reserve` whose checks came to this polls: the arena is unclamped, and nothing that is held has a place for the block
  abbrev pub polls_for : HeapState F → Checked Reserving → Bool
  polls_for h (Ok r) = is_unclamped h.arena && not (is_place (placement_at r.point.value h.segs r.words))
  polls_for h (Err why) = false

  -- the generation of a heap that is due for collection
  abbrev pub due_in : HeapState F → Option Due
  due_in h = due_now h.chains h.segs.segments

  module _ (layout : F → Layout) (h : HeapState F) (trail : Moves) where
    -- a poll where no collection runs begins one of the generation that is due, if one is
    abbrev pub HasFlipped : Option Due → (h' : HeapState F) (trail' : Moves) → Type 0
    HasFlipped None h' trail' = (h' ≡ h) × (trail' ≡ trail)
    HasFlipped (Some due) h' trail' = IsStarted layout (condemned_by due) h trail h' trail'

    -- a poll: if a collection runs, its units were done, or fewer if it ended in them, and their moves were followed; else the
    -- generation that is due was flipped
    abbrev pub HasPolled : (h' : HeapState F) (trail' : Moves) → Type 0
    HasPolled h' trail' =
        MatchBool (is_some h.running) (Follows layout trail (HasDoneUnits layout h trail units_of_poll) h' trail')
        (HasFlipped (due_in h) h' trail')

    -- where no collection runs, one of the generation that is due can begin
    abbrev pub MayFlip : Type 0
    MayFlip = (due : Due) → h.running ≡ None → due_in h ≡ Some due → CanStart layout (condemned_by due) h trail

    -- what a `reserve` asks for: a poll can be done, and leaves the points ready and room for a move
    pub record CanPoll : Type 0 where
      pub units : CanDoUnits layout h trail units_of_poll
      pub flip : MayFlip
      pub ready : (h' : HeapState F) (trail' : Moves) → HasPolled h' trail' → IsReady h'
      pub room : (h' : HeapState F) (trail' : Moves) → HasPolled h' trail' → 0 < trail'.spare

    -- the poll of a `reserve` whose checks came to this, if it polls
    abbrev pub IsPolled : Checked Reserving → (h' : HeapState F) (trail' : Moves) → Type 0
    IsPolled checked h' trail' =
        MatchBool (polls_for h checked) (HasPolled h' trail') ((h' ≡ h) × (trail' ≡ trail))

    -- a `reserve` of a block with this head at a point gave this answer and left this state, after its poll
    pub record HasReserved (name : Name) (head : ℕ) (result : Checked (Unit {0})) (after : HeapState F) (trail_after : Moves) : Type 0 where
      pub polled : HeapState F
      pub trail_polled : Moves
      pub poll : IsPolled (check_reserve layout h name head) polled trail_polled
      pub comes : ComesMoving polled trail_polled (after_reserve layout polled trail_polled name head) result after trail_after

-- ---- vectors

pub a_refused_one_does_not_poll : {F : Type 0} (h : HeapState F) (why : _) → polls_for h (Err why) ≡ false
a_refused_one_does_not_poll h why = refl

pub none_polls_in_a_clamped_arena : {F : Type 0} (h : HeapState F) (r : Reserving)
    → polls_for (record h { arena = arena.Clamped }) (Ok r) ≡ false
none_polls_in_a_clamped_arena h r = refl

pub nothing_is_due_without_a_chain : {F : Type 0} (h : HeapState F) → due_in (record h { chains = no_chains }) ≡ None
nothing_is_due_without_a_chain h = refl

-- a heap with a chain of one generation, on which pool 0 is, and a segment of two grains
abbrev with_a_full_chain : {F : Type 0} → (capacity : ℕ) → HeapState F → HeapState F
with_a_full_chain capacity h = record h {
  chains = record { chains = (capacity ∷ []) ∷ []; of_pool = Some 0 ∷ [] };
  segs = record h.segs { segments = record { base = 0x1000; grains = 2; pool = 0; generation = 0; rank = Exact } ∷ [] };
}

pub more_than_its_capacity_is_due : {F : Type 0} (h : HeapState F)
    → due_in (with_a_full_chain 1 h) ≡ Some (record { chain = 0; generation = 0 })
more_than_its_capacity_is_due h = refl

pub its_capacity_is_not : {F : Type 0} (h : HeapState F) → due_in (with_a_full_chain 2 h) ≡ None
its_capacity_is_not h = refl
