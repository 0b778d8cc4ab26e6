-- Once nothing but weak objects is grey, what is white is lost: no path leads to it from what the client holds nor from what
-- the collection is known to keep.
use Rattle.std.proofs.Common.{◌≡◌, ◌∙◌, Bool, true, false, refl, sym, ap, subst, inl, inr}
use Rattle.std.proofs.lemmas.Bool.{false≢true, and_parts, or_cases, eq-eqb, cases_Bool}
use Rattle.std.specs.Prelude.{◌==◌, ◌&&◌, not}
use Rattle.mps_base.specs.Address.{Id}
use Rattle.mps_model.specs.Graph.{contains, is_weak_object, ids_of_client}
use Rattle.mps_model.specs.Reachable.{IsReachableWith}
use Rattle.mps_model.specs.Collection.{Collection, is_condemned, is_settled, is_surely_kept}
use Rattle.mps_model.specs.World.{World, is_live, live_automatic_ids, object_is, is_copying_object}
use Rattle.mps_model.specs.LegalMove.{ids_kept, IsLost, IsGone, IsLegalSweep}
use Rattle.mps_abstract.specs.Colours.{Colours, is_white, AreColoured, AreColoursDrained, AreSettled}
use Rattle.mps_abstract.proofs.Lists.{contains-filter}
use Rattle.mps_abstract.proofs.Addresses.{automatic_is_live}
use Rattle.mps_abstract.proofs.Keeping.{is_condemned_if_white, not_white_outside}
use Rattle.mps_abstract.proofs.Reach.{reachable_is_kept}

-- an object that is kept is another one
pub kept_is_other : (w : World) (c : Collection) (except n : Id) → contains (ids_kept w c except) n ≡ true
    → (is_live w n ≡ true) × ((n ≡ except → ⊥) × (is_surely_kept c n ≡ true))
kept_is_other w c except n h =
    let f = contains-filter (λ id. not (id == except) && is_surely_kept c id) (live_automatic_ids w) n h in
    let parts = and_parts (not (n == except)) (is_surely_kept c n) f.1 in
    (automatic_is_live w n f.0, ((λ same. false≢true (sym (ap not (eq-eqb n except same)) ∙ parts.0)), parts.1))

module _ (w : World) (c : Collection) (k : Colours)
    (coloured : AreColoured (ids_of_client w.graph) w.graph (is_live w) c.condemned k)
    (settled : AreSettled (is_copying_object w) c k) where
  -- what the collection is known to keep isn't white
  pub surely_kept_not_white : (n : Id) → is_surely_kept c n ≡ true → is_white c.condemned k n ≡ false
  surely_kept_not_white n h = elim (or_cases (not (is_condemned c n)) (is_settled c n) h) [
    | inl out ↦ not_white_outside c.condemned k n (outside (is_condemned c n) out)
    | inr is ↦ settled.settled n is
  ]
    where
      outside : (b : Bool) → not b ≡ true → b ≡ false
      outside true h = absurd (false≢true h)
      outside false h = refl

  module _ (drained : AreColoursDrained (object_is is_weak_object w) k) where
    pub reachable_with_kept : (except id : Id) → IsReachableWith w.graph (ids_kept w c except) id
        → (is_live w id ≡ true) × (is_white c.condemned k id ≡ false)
    reachable_with_kept except id path =
        reachable_is_kept w.graph (is_live w) c.condemned k (ids_kept w c except) coloured drained
        (λ n h. let kept = kept_is_other w c except n h in (kept.0, surely_kept_not_white n kept.1.1)) path

    -- a white object is lost, also after it was kept in a world with the same live objects
    pub lost_after : (id : Id) → is_white c.condemned k id ≡ true → (v : World) (d : Collection) → v.graph ≡ w.graph
        → ((n : Id) → is_live v n ≡ true → is_live w n ≡ true)
        → ((n : Id) → (n ≡ id → ⊥) → is_surely_kept d n ≡ true → is_surely_kept c n ≡ true) → IsLost v d id
    lost_after id white v d same live kept path =
        let found = reachable_is_kept w.graph (is_live w) c.condemned k (ids_kept v d id) coloured drained
        (λ n h. let other = kept_is_other v d id n h in (live n other.0, surely_kept_not_white n (kept n other.1.0 other.1.1)))
        (subst (λ g. IsReachableWith g (ids_kept v d id) id) same path) in
        false≢true (sym found.1 ∙ white)

    pub white_is_lost : (id : Id) → is_white c.condemned k id ≡ true → IsLost w c id
    white_is_lost id white = lost_after id white w c refl (λ n h. h) (λ n other h. h)

    -- a white object is gone
    pub white_is_gone : (id : Id) → is_white c.condemned k id ≡ true → IsGone w c id
    white_is_gone id white = record {
      condemned = is_condemned_if_white c.condemned k id white;
      not_settled = elim (cases_Bool (is_settled c id)) [
        | inl is ↦ absurd (false≢true (sym (settled.settled id is) ∙ white))
        | inr isnt ↦ ap not isnt
      ];
      lost = white_is_lost id white;
    }

    -- and may be freed, where it isn't registered
    pub sweep_is_legal : (id : Id) → is_white c.condemned k id ≡ true
        → ((n : Id) → contains w.graph.registered n ≡ true → is_white c.condemned k n ≡ false) → IsLegalSweep w c id
    sweep_is_legal id white registered = record {
      gone = white_is_gone id white;
      not_registered = elim (cases_Bool (contains w.graph.registered id)) [
        | inl is ↦ absurd (false≢true (sym (registered id is) ∙ white))
        | inr isnt ↦ ap not isnt
      ];
    }
