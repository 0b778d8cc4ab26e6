-- The image of an arena once blocks of white objects are freed.
use Rattle.std.proofs.Common.{◌≡◌, ◌∙◌, ℕ, ◌<◌, true, refl, sym, ap, subst, List, [], ◌∷◌, Option, Some, None, Contains, inl, inr, arith}
use Rattle.std.proofs.lemmas.Bool.{cases_eq, and_parts}
use Rattle.std.proofs.lemmas.Option.{same_Some}
use Rattle.std.specs.Prelude.{slice_get, slice_set, nat_lt}
use Rattle.mps_base.specs.Address.{Address, Id, word_of, address_of_word}
use Rattle.mps_base.specs.Run.{Run}
use Rattle.mps_base.specs.Segment.{Segment}
use Rattle.mps_base.proofs.Runs.{contains_first, contains_later}
use Rattle.mps_seg.specs.Segs.{SegsState}
use Rattle.mps_amc.specs.Reclaiming.{lost_of, without_block, without_blocks, freed_in}
use Rattle.mps_model.specs.Graph.{Object, entry_at, size_of}
use Rattle.mps_model.specs.World.{extent, World}
use Rattle.mps_model.specs.Units.{is_ascending}
use Rattle.mps_abstract.specs.Colours.{Colours, is_white, AreAllScanned, AreDifferent}
use Rattle.mps_abstract.proofs.Sweeping.{contains-above}
use Rattle.mps_trace_laws.specs.Image.Memory.{Setting, memory_in}
use Rattle.mps_trace_laws.specs.Image.Image.{CellSet, LieApart, ImageStands, Stands}
use Rattle.mps_trace_laws.proofs.Image.ClientLaws.{white_block_is_freed}
use Rattle.mps_trace_laws.proofs.Image.Entries.{entry_at-set_other}
use Rattle.mps_trace_laws.proofs.Image.Marked.{begins_apart}
use Rattle.mps_trace_laws.proofs.Image.SegmentMarks.{removing_clears}
use Rattle.mps_trace_laws.specs.Reclaim.Freed.{addresses_of, addresses_without, AreWhiteUnread, IsCondemnedSegment}
use Rattle.mps_trace_laws.proofs.Reclaim.LostRuns.{address_there, lost_is}
use Rattle.mps_trace_laws.proofs.Image.BlockRuns.{run_of_object}
use Rattle.mps_trace_laws.proofs.Reclaim.Without.{without_none, without_more, without_one, frees_lead, frees_appended}
use Rattle.mps_trace_laws.proofs.Reclaim.Freed.{white_freed, lost_is_white}
use Rattle.mps_base.specs.Trail.{Moves}
use Rattle.mps_trace_laws.specs.Reclaim.Moves.{AreFreesOf}

pub lie_different : (s : Setting) (addresses : List (Option Address)) → LieApart s addresses → AreDifferent addresses
lie_different s addresses placed i j at e f =
    elim (cases_eq i j) [
      | inl same ↦ same
      | inr other ↦ absurd (begins_apart s addresses placed i j at at e f other refl)
    ]

-- a run has the words of a white object, which begins at the run's address
pub record IsWhiteRun (s : Setting) (addresses : List (Option Address)) (k : Colours) (r : Run) : Type 0 where
  pub id : Id
  pub at : Address
  pub object : Object
  pub address : entry_at addresses id ≡ Some at
  pub there : slice_get s.objects id ≡ Some object
  pub is : r ≡ extent at (size_of object)
  pub own : address_of_word r.from ≡ at
  pub white : is_white s.condemned k id ≡ true

module _ (s : Setting) (k : Colours) (scanned : AreAllScanned k) (unread : AreWhiteUnread s k) where
  -- one is freed
  one_freed : (g : SegsState) (addresses : List (Option Address)) (r : Run) (x : IsWhiteRun s addresses k r)
      → Stands s (memory_in g) addresses k → Stands s (memory_in (without_block r g)) (slice_set addresses x.id None) k
  one_freed g addresses r x st =
      let clears = removing_clears g x.at in
      subst (λ (y : Run). Stands s (memory_in (without_block y g)) (slice_set addresses x.id None) k) (sym x.is)
      (white_block_is_freed s (memory_in g) addresses k x.id x.at x.object
      (memory_in (without_block (extent x.at (size_of x.object)) g)).kept
      (memory_in (without_block (extent x.at (size_of x.object)) g)).grey st unread (λ id at e. scanned id) x.address x.there x.white
      clears.0 clears.1)

  -- and others, one after the other
  pub all_freed : (above : ℕ) (rs : List Run) (g : SegsState) (addresses : List (Option Address)) → Stands s (memory_in g) addresses k
      → is_ascending above (addresses_of rs) ≡ true → ((r : Run) → Contains rs r → IsWhiteRun s addresses k r)
      → Stands s (memory_in (without_blocks rs g)) (addresses_without (addresses_of rs) addresses) k
  all_freed above [] g addresses st asc each =
      subst (λ ps. Stands s (memory_in g) ps k) (sym (without_none addresses)) st
  all_freed above (r ∷ rs) g addresses st asc each =
      let at = address_of_word r.from in
      let parts = and_parts (nat_lt above at) (is_ascending at (addresses_of rs)) asc in
      let x = each r (contains_first rs r) in
      let here : entry_at addresses x.id ≡ Some at = x.address ∙ ap Some (sym x.own) in
      let rest =
      all_freed at rs (without_block r g) (slice_set addresses x.id None) (one_freed g addresses r x st) parts.1
      (λ q h. still x q (each q (contains_later rs q r h)) at here (contains-above at (addresses_of rs) (address_of_word q.from) parts.1
      (address_there rs q h)))
      in
      let different = lie_different s addresses st.placed in
      subst (λ ps. Stands s (memory_in (without_blocks rs (without_block r g))) ps k)
      (ap (addresses_without (addresses_of rs)) (without_one addresses x.id at here (λ j e. different j x.id at e here))
      ∙ without_more at (addresses_of rs) addresses)
      rest
    where
      still : (x : IsWhiteRun s addresses k r) (q : Run) (y : IsWhiteRun s addresses k q) (at : Address) → entry_at addresses x.id ≡ Some at
          → at < address_of_word q.from → IsWhiteRun s (slice_set addresses x.id None) k q
      still x q y at here up = record {
        id = y.id;
        at = y.at;
        object = y.object;
        address =
            entry_at-set_other addresses x.id y.id None
            (λ same. let e = same_Some y.at at (sym y.address ∙ ap (entry_at addresses) same ∙ here) in
            let own = y.own in omega (arith, up, e, own)) ∙ y.address;
        there = y.there;
        is = y.is;
        own = y.own;
        white = y.white;
      }

-- ---- of a segment

module _ (s : Setting) (g : SegsState) (addresses : List (Option Address)) (k : Colours) (done : CellSet) (t : Segment)
    (st : ImageStands s (memory_in g) addresses k done) (c : IsCondemnedSegment s g t) where
  pub lost_white_run : (r : Run) → Contains (lost_of g t) r → IsWhiteRun s addresses k r
  lost_white_run r there =
      let l = lost_is g (word_of t.base) (word_of (Rattle.mps_base.specs.Segment.end_of_segment t)) g.blocks r there in
      let x = run_of_object s.objects addresses r (subst (λ rs. Contains rs r) st.runs.blocks l.0) in
      let w = lost_is_white s g addresses k done t st c r there in
      let a = st.placed.address x.id x.at x.address in
      let own : address_of_word r.from ≡ x.at =
      let from : r.from ≡ word_of x.at = ap (λ (y : Run). y.from) x.is in omega (arith, a.aligned, from)
      in
      let same : x.id ≡ w.id = lie_different s addresses st.placed x.id w.id x.at x.address (w.address ∙ ap Some own) in
      record {
        id = x.id;
        at = x.at;
        object = x.object;
        address = x.address;
        there = x.there;
        is = x.is;
        own = own;
        white = ap (is_white s.condemned k) same ∙ w.white;
      }

-- once they are freed, the image stands for the objects that are left
pub lost_blocks_are_freed : (s : Setting) (g : SegsState) (addresses : List (Option Address)) (k : Colours) (t : Segment) → Stands s
    (memory_in g) addresses k
    → IsCondemnedSegment s g t → AreAllScanned k → AreWhiteUnread s k
    → Stands s (memory_in (freed_in g t)) (addresses_without (addresses_of (lost_of g t)) addresses) k
lost_blocks_are_freed s g addresses k t st c scanned unread =
    all_freed s k scanned unread 0 (lost_of g t) g addresses st
    (white_freed s g addresses k (Rattle.mps_trace_laws.specs.Image.Image.black_cells s.condemned k) t st c).ascending
    (lost_white_run s g addresses k (Rattle.mps_trace_laws.specs.Image.Image.black_cells s.condemned k) t st c)

-- the Frees of a reclaim are those of the model, and after them its objects have these addresses
pub frees_are_the_models : (s : Setting) (w : World) (g : SegsState) (k : Colours) (done : CellSet) (t : Segment) (moves : Moves)
    → ImageStands s (memory_in g) w.addresses k done → IsCondemnedSegment s g t → AreFreesOf w g t moves
frees_are_the_models s w g k done t moves st c =
    let f = white_freed s g w.addresses k done t st c in
    record {
      appended = frees_appended (lost_of g t) moves;
      addresses =
          frees_lead 0 (addresses_of (lost_of g t)) w (lie_different s w.addresses st.placed) f.ascending
          (λ at h. let x = f.white at h in record { id = x.id; address = x.address });
    }
