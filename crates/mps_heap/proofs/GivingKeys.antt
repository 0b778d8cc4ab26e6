-- A heap that gives a key out represents what it did.
use Rattle.std.proofs.Common.{◌≡◌, ℕ, Option, Some, ap, subst}
use Rattle.std.specs.Prelude.{IfNone}
use Rattle.mps_base.specs.declared.names.Name.{Name}
use Rattle.mps_format.specs.Layout.{Layout}
use Rattle.mps_model.specs.World.{World}
use Rattle.mps_names.specs.Keys.{CannotGive, GivenState}
use Rattle.mps_names.specs.State.{HasKeys, NamesState, thing_named}
use Rattle.mps_names.specs.declared.names.Thing.{Thing}
use Rattle.mps_heap_spec.specs.State.{HeapState}
use Rattle.mps_refinement.specs.StandsFor.{StandsFor}
use Rattle.mps_refinement.specs.StandsForSome.{StandsForSome}
use Rattle.mps_refinement.proofs.Parts.PartsMade.{untouched_parts}

-- a thing of a kind gets no key only if there is none for its place
abbrev pub GivesNone : {K : Type 0} → (given : NamesState → GivenState) (kind : ℕ → Thing) → NamesState → Name → (result : Option K)
    → Type 0
GivesNone given kind names name result =
    IfNone result ((place : ℕ) → thing_named names name ≡ Some (kind place) → CannotGive (given names) place name)

module _ {F : Type 0} (layout : F → Layout) (h : HeapState F) (names : NamesState) (gives : HasKeys h.names names) where
  -- the heap with these names
  abbrev pub after : HeapState F
  after = record h { names = names }

  pub stands_still : (w : World) → StandsFor layout h w → StandsFor layout after w
  stands_still w st = record {
    past = st.past;
    parts = untouched_parts layout st.past h w st.parts names (λ name. ap (λ (n : NamesState). thing_named n name) gives)
        (ap (λ (n : NamesState). n.counts) gives);
    time = st.time;
    reached = st.reached;
  }

  pub stands_for_some : StandsForSome layout h → StandsForSome layout after
  stands_for_some some = record {
    used = some.used;
    lawful = some.lawful;
    stands = λ formats are.
        let s = some.stands formats are in
        record { world = s.world; formats_are = s.formats_are; stands = stands_still s.world s.stands };
  }

module _ {F : Type 0} {h seen after : HeapState F} (view : h ≡ seen) (renamed : after ≡ record h { names = after.names }) where
  pub same_grains : after.segs.grains ≡ seen.segs.grains
  same_grains =
      subst (λ (v : HeapState F). after.segs.grains ≡ v.segs.grains) view (ap (λ (v : HeapState F). v.segs.grains) renamed)

  pub same_but_names : after ≡ record seen { names = after.names }
  same_but_names = subst (λ (v : HeapState F). after ≡ record v { names = after.names }) view renamed
