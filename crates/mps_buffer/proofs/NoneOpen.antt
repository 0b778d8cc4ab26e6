-- Points of which none has an open reservation, before and after a block is made at one of them.
use Rattle.std.proofs.Common.{ℕ, suc, zero, ◌≡◌, true, Option, Some, None, option_map, Result, Ok, Err, MatchResult, List, [], ◌∷◌, map, replicate, refl, sym, ap, ◌∙◌, subst, arith}
use Rattle.std.specs.Prelude.{slice_set}
use Rattle.std.proofs.lemmas.List.{get_or-set_same, set-set}
use Rattle.mps_base.specs.Placement.{Placement}
use Rattle.mps_base.specs.declared.address.Addr.{Addr}
use Rattle.mps_base.specs.declared.names.Rank.{Rank}
use Rattle.mps_base.specs.declared.refusal.Flipped.{Flipped}
use Rattle.mps_seg.specs.declared.buffer.Buffer.{Buffer}
use Rattle.mps_seg.specs.Segs.{SegsState}
use Rattle.mps_buffer.specs.declared.point.Held.{Held}
use Rattle.mps_buffer.specs.declared.point.Point.{Point}
use Rattle.mps_buffer.specs.Points.{PointsState, point_at, with_point, with_block, new_point, IsMade, after_open, after_close, without_free_words, after_end_at, IsReservedAt, AreReserved}
use Rattle.mps_seg.specs.Buffer.{IsAtHand}
use Rattle.mps_buffer.specs.Tokens.{NoneIsOpen, IsReady, HasOpen}
use Rattle.mps_buffer.proofs.OpenTokens.{HasNoToken, some_within, token_emptied}

pub none_open : (n : ℕ) → NoneIsOpen (replicate n None)
unfolding NoneIsOpen
none_open zero = tt
none_open (suc n) = (refl, none_open n)

pub none_open_with : (ps : List (Option Point)) (key : ℕ) (p : Option Point) → NoneIsOpen ps → HasNoToken 0 p
    → NoneIsOpen (slice_set ps key p)
unfolding NoneIsOpen
none_open_with [] key p none is = none
none_open_with (q ∷ ps) zero p none is = (is, none.1)
none_open_with (q ∷ ps) (suc key) p none is = (none.0, none_open_with ps key p none.1 is)

pub none_open_emptied : (ps : List (Option Point)) → NoneIsOpen ps → NoneIsOpen (map (option_map without_free_words) ps)
unfolding NoneIsOpen
none_open_emptied [] none = tt
none_open_emptied (p ∷ ps) none = (token_emptied 0 p ∙ none.0, none_open_emptied ps none.1)

is_reserved : (flips : ℕ) (p : Option Point) (s : SegsState) → HasNoToken 0 p → IsReservedAt flips p s
is_reserved flips None s none = tt
is_reserved flips (Some p) s none = go p.reservation refl none
  where
    go : (r : Option Held) → p.reservation ≡ r → HasNoToken 0 (Some (record p { reservation = r })) → IsReservedAt flips (Some p) s
    go None is none = rw is tt
    go (Some h) is none = let never : Some h ≡ None = cc in cc

pub none_are_reserved : (flips : ℕ) (ps : List (Option Point)) (s : SegsState) → NoneIsOpen ps → AreReserved flips ps s
unfolding NoneIsOpen
none_are_reserved flips [] s none = tt
none_are_reserved flips (p ∷ ps) s none = (is_reserved flips p s none.0, none_are_reserved flips ps (after_end_at flips p s) none.1)

-- words were reserved at a point, and then the reservation became a block or was ended
module _ (s s1 : PointsState) (segs : SegsState) (key : ℕ) (ready : IsReady s segs key) (h : Held) (placement : Placement)
    (reserved : s1 ≡ with_point s key (Some (after_open ready.point placement h))) where
  pub is_open : HasOpen s1 key (after_open ready.point placement h) h
  is_open = record {
    there =
        ap (λ (x : PointsState). point_at x key) reserved
        ∙ get_or-set_same s.points key (Some (after_open ready.point placement h)) None (some_within s.points key ready.point
        ready.there.there);
    reserved = refl;
  }

  pub ready_again : (s2 : PointsState) (segs2 : SegsState) → IsAtHand segs2 (after_open ready.point placement h).buffer
      → s2 ≡ with_point s1 key (Some (after_close (after_open ready.point placement h))) → IsReady s2 segs2 key
  ready_again s2 segs2 at_hand is =
      let p = after_close (after_open ready.point placement h) in
      let within = some_within s.points key ready.point ready.there.there in
      let all : s2 ≡ with_point s key (Some p) =
      is ∙ ap (λ (x : PointsState). with_point x key (Some p)) reserved
      ∙ ap (λ (ps : List (Option Point)). record s { points = ps })
      (set-set s.points key (Some (after_open ready.point placement h)) (Some p)) in
      let P : PointsState → Type 0 = λ x. IsReady x segs2 key in
      subst P (sym all)
      (record {
        point = p;
        there = record { there = get_or-set_same s.points key (Some p) None within; closed = refl };
        is_copying = ready.is_copying;
        at_hand = at_hand;
        none_open = none_open_with s.points key (Some p) ready.none_open refl;
      })

-- a commit leaves what is at hand
pub at_hand_after : (result : Result Addr Flipped) (segs1 segs2 : SegsState) (h : Held) (b : Buffer)
    → MatchResult result (λ _. segs2 ≡ with_block segs1 h) (λ _. segs2 ≡ segs1) → IsAtHand segs1 b → IsAtHand segs2 b
at_hand_after (Ok at) segs1 segs2 h b is at_hand = let P : SegsState → Type 0 = λ x. IsAtHand x b in subst P (sym is) at_hand
at_hand_after (Err flipped) segs1 segs2 h b is at_hand = let P : SegsState → Type 0 = λ x. IsAtHand x b in subst P (sym is) at_hand

-- words may be reserved at a new point
pub ready_when_made : (s s' : PointsState) (segs : SegsState) (key pool : ℕ) (rank : Rank) → IsMade s s' key (new_point pool rank true)
    → NoneIsOpen s.points → IsReady s' segs key
ready_when_made s s' segs key pool rank made none =
    let p = new_point pool rank true in
    let P : PointsState → Type 0 = λ x. IsReady x segs key in
    subst P (sym made.made)
    (record {
      point = p;
      there = record { there = get_or-set_same s.points key (Some p) None made.within; closed = refl };
      is_copying = refl;
      at_hand = λ some. absurd (omega (arith, some));
      none_open = none_open_with s.points key (Some p) none refl;
    })
