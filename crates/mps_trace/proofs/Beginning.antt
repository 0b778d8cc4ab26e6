-- What holds from the flip on until slots and messages are fixed.
use Rattle.std.proofs.Common.{ℕ, ◌+◌, ◌*◌, ◌≡◌, List, [], ◌∷◌, Option, refl, sym, ap, ◌∙◌, subst}
use Rattle.mps_base.specs.Address.{words_of_grain}
use Rattle.mps_base.specs.Run.{Run, IsAscending}
use Rattle.mps_base.specs.Segment.{Segment}
use Rattle.mps_base.specs.Trail.{Moves}
use Rattle.mps_buffer.specs.Points.{PointsState, after_all_end}
use Rattle.mps_final.specs.State.{FinalsState}
use Rattle.mps_format.specs.Layout.{Layout}
use Rattle.mps_root.specs.State.{RootsState}
use Rattle.mps_seg.specs.Segs.{SegsState}
use Rattle.mps_seg.specs.Collecting.{condemning}
use Rattle.mps_trace.specs.Begin.{nailed_by_areas, marked_at_flip}
use Rattle.mps_trace.specs.Flip.{condemned_of, condemning_all, at_flip, remembered_of, zones_at_flip, greying_each}
use Rattle.mps_gen.specs.State.{ChainsState}
use Rattle.mps_trace.specs.declared.condemn.Condemn.{Condemn}
use Rattle.mps_trace.specs.Roots.{AreMessagesReady, AreTablesReady, FixesMessages, FixesTables}
use Rattle.mps_trace.specs.Trace.{TraceState, Traced, traced}
use Rattle.mps_trace.proofs.Ending.{blocks_stay}
use Rattle.mps_trace.specs.Condemned.{AreInOrder}
use Rattle.mps_trace.proofs.Nailing.{AreBlocksSame}
use Rattle.mps_trace.proofs.Remembering.{order_still, segments_still, remembered_still}
use Rattle.mps_format.specs.declared.pool.Policy.{Policy}

condemned_same : (ts : List Segment) (s : SegsState) → AreBlocksSame s (condemning_all ts s)
condemned_same [] s = record { blocks = refl; grains = refl }
condemned_same (t ∷ ts) s =
    let rest = condemned_same ts (condemning s t.base) in record { blocks = rest.blocks; grains = rest.grains }

-- the blocks still ascend after a flip
pub ascending_still : (s s' : SegsState) → AreBlocksSame s s' → IsAscending 0 (words_of_grain * (s.grains + 1)) s.blocks
    → IsAscending 0 (words_of_grain * (s'.grains + 1)) s'.blocks
ascending_still s s' same ascending =
    let P : ℕ → Type 0 = λ n. IsAscending 0 (words_of_grain * (n + 1)) s'.blocks in
    let Q : List Run → Type 0 = λ rs. IsAscending 0 (words_of_grain * (s.grains + 1)) rs in
    subst P (sym same.grains) (subst Q (sym same.blocks) ascending)

pub flip_same : {F : Type 0} (formats : List (Option (Policy F))) (chains : ChainsState) (what : Condemn) (points : PointsState)
    (x y : Traced) → y ≡ at_flip formats chains what points x → AreBlocksSame x.segs y.segs
flip_same formats chains what points x y is =
    let s = after_all_end points.flips points.points x.segs in
    let first = blocks_stay points.flips points.points x.segs in
    let rest = condemned_same (condemned_of formats chains what s.segments) s in
    record {
      blocks = ap (λ (z : Traced). z.segs.blocks) is ∙ rest.blocks ∙ first.blocks;
      grains = ap (λ (z : Traced). z.segs.grains) is ∙ rest.grains ∙ first.grains;
    }

-- what is nailed and grey after a flip, by what the collector knows of the pools then
module _ {F : Type 0} (t f : TraceState F) (same : f ≡ record t { amc = f.amc }) (what : Condemn) (points : PointsState)
    (roots : RootsState) (x y : Traced) (s : SegsState) (flipped : y ≡ at_flip t.formats t.chains what points x)
    (nailed : s ≡ nailed_by_areas f.formats roots.areas y.segs) where
  formats_same : f.formats ≡ t.formats
  formats_same = ap (λ (u : TraceState F). u.formats) same

  chains_same : f.chains ≡ t.chains
  chains_same = ap (λ (u : TraceState F). u.chains) same

  nailed_then : s ≡ nailed_by_areas t.formats roots.areas (at_flip t.formats t.chains what points x).segs
  nailed_then =
      nailed ∙ ap (λ (formats : List (Option (Policy F))). nailed_by_areas formats roots.areas y.segs) formats_same
      ∙ ap (λ (w : Traced). nailed_by_areas t.formats roots.areas w.segs) flipped

  pub ordered_then : AreInOrder x.segs → AreInOrder s
  ordered_then = order_still t.formats t.chains what points roots.areas x s nailed_then

  pub zones_then : (zones : ℕ) → zones ≡ zones_at_flip t.formats t.chains what x.segs.segments
      → zones ≡ zones_at_flip f.formats f.chains what s.segments
  zones_then zones is =
      is ∙ sym (ap (λ (formats : List (Option (Policy F))). zones_at_flip formats f.chains what s.segments) formats_same
      ∙ ap (λ (chains : ChainsState). zones_at_flip t.formats chains what s.segments) chains_same
      ∙ ap (λ (ts : List Segment). zones_at_flip t.formats t.chains what ts)
      (segments_still t.formats t.chains what points roots.areas x s nailed_then))

  pub marked_is : (g : SegsState) → g ≡ greying_each (remembered_of f.formats f.chains what s) s
      → record y { segs = g } ≡ marked_at_flip t.formats t.chains what points roots x
  marked_is g marked =
      let ts : List Segment = remembered_of t.formats t.chains what x.segs in
      let told : remembered_of f.formats f.chains what s ≡ ts =
      ap (λ (formats : List (Option (Policy F))). remembered_of formats f.chains what s) formats_same
      ∙ ap (λ (chains : ChainsState). remembered_of t.formats chains what s) chains_same
      ∙ remembered_still t.formats t.chains what points roots.areas x s nailed_then
      in
      ap (λ (u : SegsState). let z : Traced = record y { segs = u } in z)
      (marked ∙ ap (λ (us : List Segment). greying_each us s) told ∙ ap (λ (u : SegsState). greying_each ts u) nailed_then)
      ∙ ap (λ (w : Traced). let z : Traced =
      record w { segs = greying_each ts (nailed_by_areas t.formats roots.areas (at_flip t.formats t.chains what points x).segs) } in z)
      flipped

-- roots are fixed at states of which only what is at hand has changed
module _ {F : Type 0} (layout : F → Layout) (t f : TraceState F) (same : f ≡ record t { amc = f.amc }) where
  pub same_on : (z : TraceState F) → z ≡ record f { amc = z.amc } → z ≡ record t { amc = z.amc }
  same_on z is = let Q : TraceState F → TraceState F = λ u. record u { amc = z.amc } in is ∙ ap Q same

  pub tables_still : (x x' y : Traced) (n : ℕ) (roots roots' : RootsState) → x ≡ x'
      → FixesTables layout f.formats f.chains roots x n roots' y → FixesTables layout t.formats t.chains roots x' n roots' y
  tables_still x x' y n roots roots' is fixes =
      let P : TraceState F → Type 0 = λ u. FixesTables layout u.formats u.chains roots x n roots' y in
      let Q : Traced → Type 0 = λ z. FixesTables layout t.formats t.chains roots z n roots' y in subst Q is (subst P same fixes)

  pub messages_ready : (s : SegsState) (m : Moves) (finals : FinalsState) → AreMessagesReady layout (record t { amc = f.amc }) s m finals
      → AreMessagesReady layout f s m finals
  messages_ready s m finals ready =
      let P : TraceState F → Type 0 = λ u. AreMessagesReady layout u s m finals in subst P (sym same) ready

  pub tables_ready : (s : SegsState) (m : Moves) (z : Traced) (roots : RootsState) → traced f s m ≡ z
      → AreTablesReady layout (record t { amc = z.amc }) z.segs z.moves roots → AreTablesReady layout f s m roots
  tables_ready s m z roots is ready =
      let P : Traced → Type 0 = λ u. AreTablesReady layout (record t { amc = u.amc }) u.segs u.moves roots in
      let Q : TraceState F → Type 0 = λ u. AreTablesReady layout u s m roots in
      subst Q (sym same) (subst P (sym is) ready)

  pub messages_still : (finals finals' : FinalsState) (x z : Traced) (n : ℕ) → FixesMessages layout f.formats f.chains finals x n finals' z
      → FixesMessages layout t.formats t.chains finals x n finals' z
  messages_still finals finals' x z n fixes =
      let P : TraceState F → Type 0 = λ u. FixesMessages layout u.formats u.chains finals x n finals' z in subst P same fixes
