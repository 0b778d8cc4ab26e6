-- The end of reservations changes no segment and no block, so segments stay in order.
use Rattle.std.proofs.Common.{ℕ, ◌==◌, ◌≡◌, Bool, Option, Some, None, List, [], ◌∷◌, Contains, refl, sym, ap, ◌∙◌, subst, inl, inr}
use Rattle.std.proofs.lemmas.Bool.{cases_Bool, cond-true, cond-false}
use Rattle.mps_base.specs.Segment.{Segment}
use Rattle.mps_buffer.specs.declared.point.Held.{Held}
use Rattle.mps_buffer.specs.declared.point.Point.{Point}
use Rattle.mps_buffer.specs.Points.{after_end, after_end_at, after_all_end, without_reservation}
use Rattle.mps_seg.specs.Segs.{SegsState}
use Rattle.mps_trace.specs.Condemned.{AreAscending, AreInOrder}
use Rattle.mps_trace.proofs.Nailing.{AreBlocksSame}

module _ (flips : ℕ) where
  one_ended : (o : Option Held) (s : SegsState) → (after_end flips o s).segments ≡ s.segments
  one_ended None s = refl
  one_ended (Some h) s =
      let same : Bool = h.flips == flips in
      elim (cases_Bool same) [
        | inl is ↦ ap (λ (x : SegsState). x.segments) (cond-true same (without_reservation s h) s is)
        | inr is ↦ ap (λ (x : SegsState). x.segments) (cond-false same (without_reservation s h) s is)
      ]

  ended_there : (o : Option Point) (s : SegsState) → (after_end_at flips o s).segments ≡ s.segments
  ended_there None s = refl
  ended_there (Some p) s = one_ended p.reservation s

  pub segments_stay : (ps : List (Option Point)) (s : SegsState) → (after_all_end flips ps s).segments ≡ s.segments
  segments_stay [] s = refl
  segments_stay (p ∷ ps) s = segments_stay ps (after_end_at flips p s) ∙ ended_there p s

  blocks_one : (o : Option Held) (s : SegsState) → AreBlocksSame s (after_end flips o s)
  blocks_one None s = record { blocks = refl; grains = refl }
  blocks_one (Some h) s =
      let same : Bool = h.flips == flips in
      elim (cases_Bool same) [
        | inl is ↦
            let now = cond-true same (without_reservation s h) s is in
            record { blocks = ap (λ (x : SegsState). x.blocks) now; grains = ap (λ (x : SegsState). x.grains) now }
        | inr is ↦
            let now = cond-false same (without_reservation s h) s is in
            record { blocks = ap (λ (x : SegsState). x.blocks) now; grains = ap (λ (x : SegsState). x.grains) now }
      ]

  blocks_there : (o : Option Point) (s : SegsState) → AreBlocksSame s (after_end_at flips o s)
  blocks_there None s = record { blocks = refl; grains = refl }
  blocks_there (Some p) s = blocks_one p.reservation s

  pub blocks_stay : (ps : List (Option Point)) (s : SegsState) → AreBlocksSame s (after_all_end flips ps s)
  blocks_stay [] s = record { blocks = refl; grains = refl }
  blocks_stay (p ∷ ps) s =
      let first = blocks_there p s in
      let rest = blocks_stay ps (after_end_at flips p s) in
      record { blocks = rest.blocks ∙ first.blocks; grains = rest.grains ∙ first.grains }

pub in_order_still : (s s' : SegsState) → s'.segments ≡ s.segments → AreInOrder s → AreInOrder s'
in_order_still s s' same ordered =
    let P : List Segment → Type 0 = λ ts. AreAscending 0 ts in
    record {
      ascending = subst P (sym same) ordered.ascending;
      small = λ t there. let Q : List Segment → Type 0 = λ ts. Contains ts t in ordered.small t (subst Q same there);
    }
