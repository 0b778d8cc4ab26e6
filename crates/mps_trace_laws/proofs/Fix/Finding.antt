-- What the collector finds at an address that means an object is where that lies now, or the object is white.
use Rattle.std.proofs.Common.{◌≡◌, ◌∙◌, ◌+◌, Bool, true, false, refl, sym, ap, List, slice_index, Option, Some, None, subst, inl, inr, arith}
use Rattle.std.proofs.lemmas.Bool.{and_right, and_from, cases_Bool}
use Rattle.std.proofs.lemmas.List.{get_or-drop}
use Rattle.std.proofs.lemmas.Option.{same_Some}
use Rattle.std.specs.Prelude.{not, slice_get, if◌then◌else◌}
use Rattle.mps_base.specs.Address.{Address, Id, word_of, address_of_word}
use Rattle.mps_base.specs.Segment.{Segment, segment_over}
use Rattle.mps_base.specs.declared.address.Addr.{Addr}
use Rattle.mps_format.specs.Layout.{Layout}
use Rattle.mps_format.specs.declared.pool.Policy.{Policy}
use Rattle.mps_seg.specs.Segs.{SegsState}
use Rattle.mps_seg.specs.Collecting.{is_condemned_at, is_kept_at}
use Rattle.mps_trace.specs.GenState.{ChainsState}
use Rattle.mps_trace.specs.Finding.{FindsIn, has_moved, lies, FindsTo, passes, in_pool}
use Rattle.mps_trace.specs.Trace.{Traced}
use Rattle.mps_model.specs.Graph.{Object}
use Rattle.mps_model.specs.World.{is_copying_pool}
use Rattle.mps_abstract.specs.Collecting.{Collecting}
use Rattle.mps_trace_laws.specs.Image.Memory.{Setting, memory_in, pool_layout, is_condemned_word}
use Rattle.mps_trace_laws.specs.Image.Image.{CellSet, AreShaped}
use Rattle.mps_trace_laws.specs.Image.Fixing.{Target}
use Rattle.mps_trace_laws.proofs.Image.Targets as targets
use Rattle.mps_trace_laws.specs.Fix.Tracing.{TracingStands, setting_of}
use Rattle.mps_trace_laws.specs.Fix.Finding.{FindsObject, there, white, AnObjectIsFound}
use Rattle.mps_trace_laws.proofs.Fix.Found as found

-- what is white lies in a condemned segment
pub white_is_condemned : {F : Type 0} {layout : F → Layout} {formats : List (Option (Policy F))} {s : SegsState} {at : Addr}
    → FindsTo layout formats s at None → is_condemned_at s at.0 ≡ true
white_is_condemned (in_pool t format condemned over listed finds) = condemned

module _ (F : Type 0) (layout : F → Layout) (formats : List (Option (Policy F))) (of : ChainsState) (at_flip : List (Option Address))
    (done : CellSet) (x : Traced) (y : Collecting) (shaped : AreShaped y.world.graph.objects (pool_layout y.world))
    (stands : TracingStands layout formats of at_flip done x y) (at : Addr) (t : Id) (now : Address) (o : Object)
    (target : Target (setting_of x.segs at_flip y) y.world.addresses t at.0 now o)
  where
    abbrev setting : Setting
    setting = setting_of x.segs at_flip y

    begins : address_of_word (word_of at.0) ≡ at.0
    begins =
        let aligned = found.is_aligned F layout formats of at_flip done x y shaped stands at.0 t now o target in omega (arith, aligned)

    by_mark : (kept : Bool) → is_kept_at x.segs at.0 ≡ kept → is_condemned_at x.segs at.0 ≡ true → at.0 ≡ now
        → FindsObject y t at.0 now (if kept then Some at else None)
    by_mark true kept condemned e =
        there at e
        (stands.state.image.marks.white_there t at.0 (target.there ∙ ap (λ a. Some a) (sym e))
        ∙ and_right (is_condemned_word x.segs (word_of at.0)) (not (is_kept_at x.segs at.0)) (ap not kept))
    by_mark false lost condemned e =
        white e
        (stands.state.image.marks.white_there t at.0 (target.there ∙ ap (λ a. Some a) (sym e))
        ∙ and_from (is_condemned_word x.segs (word_of at.0)) (not (is_kept_at x.segs at.0))
        (ap (is_condemned_at x.segs) begins ∙ condemned) (ap not lost))

    in_its_pool : (s : Segment) (format : Policy F) (found_at : Option Addr) → is_condemned_at x.segs at.0 ≡ true
        → segment_over x.segs.segments at.0 ≡ Some s → slice_get formats s.pool ≡ Some (Some format)
        → FindsIn (layout format.format) format.moves x.segs at found_at → FindsObject y t at.0 now found_at
    in_its_pool s format found_at condemned over listed finds =
        go found_at (subst (λ g. FindsIn g format.moves x.segs at found_at) format_is finds)
      where
        its : (u : Segment) × (segment_over x.segs.segments at.0 ≡ Some u) × (u.pool ≡ o.pool)
        its = found.its_segment F layout formats of at_flip done x y shaped stands at.0 t now o target

        pool : s.pool ≡ o.pool
        pool = ap (λ (u : Segment). u.pool) (same_Some s its.0 (sym over ∙ its.1)) ∙ its.2

        listed_there : slice_get formats o.pool ≡ Some (Some format)
        listed_there = ap (slice_get formats) (sym pool) ∙ listed

        format_is : layout format.format ≡ pool_layout y.world o.pool
        format_is = stands.state.pools.format_is o.pool format listed_there

        moves_is : format.moves ≡ is_copying_pool y.world o.pool
        moves_is = stands.state.pools.moves_is o.pool format listed_there

        go : (found_at : Option Addr) → FindsIn (pool_layout y.world o.pool) format.moves x.segs at found_at
            → FindsObject y t at.0 now found_at
        go found_at (has_moved to moves is) =
            let head : slice_index x.segs.words (word_of at.0) ≡ (pool_layout y.world o.pool).forwarded_head is.size =
            ap (slice_index x.segs.words) (let z : word_of at.0 ≡ word_of at.0 + 0 = omega arith in z)
            ∙ sym (get_or-drop (word_of at.0) x.segs.words 0 0) ∙ is.begins.head
            in
            let e =
            targets.is_forwarded setting (memory_in x.segs) y.world.addresses y.colours done shaped stands.state.image t at.0 now o target
            is.size is.begins.in_range head
            in
            there to (is.leads ∙ e.0) e.1
        go found_at (lies unforwarded is) =
            let here : at.0 ≡ now =
            elim (cases_Bool (is_copying_pool y.world o.pool)) [
              | inl copies ↦
                  found.unforwarded_there F layout formats of at_flip done x y shaped stands at.0 t now o target format listed_there
                  (unforwarded (moves_is ∙ copies))
              | inr isnt ↦ found.there_if_still F layout formats of at_flip done x y shaped stands at.0 t now o target isnt
            ]
            in
            subst (λ f. FindsObject y t at.0 now f) (sym is) (by_mark (is_kept_at x.segs at.0) refl condemned here)

    pub object_found : (found_at : Option Addr) → FindsTo layout formats x.segs at found_at → FindsObject y t at.0 now found_at
    object_found found_at (passes calm) =
        let e =
        targets.not_condemned setting (memory_in x.segs) y.world.addresses y.colours done shaped stands.state.image t at.0 now o target
        (ap (is_condemned_at x.segs) begins ∙ calm)
        in
        there at e.0 e.1
    object_found found_at (in_pool s format condemned over listed finds) =
        in_its_pool s format found_at condemned over listed finds

pub an_object_is_found : {F : Type 0} → AnObjectIsFound F
an_object_is_found {F} layout formats of at_flip done x y at t now o found shaped stands target finds =
    object_found F layout formats of at_flip done x y shaped stands at t now o target found finds
