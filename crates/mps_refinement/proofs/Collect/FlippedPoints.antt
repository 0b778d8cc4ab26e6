-- Points after a flip stand for the model's after it: their reservations are doomed, and nothing is at hand.
use Rattle.std.proofs.Common.{◌≡◌, ◌∙◌, ℕ, zero, suc, ◌+◌, ◌≤◌, Bool, true, refl, sym, ap, subst, List, [], ◌∷◌, ◌++◌, length, map, Option, Some, None, is_some, arith}
use Rattle.std.proofs.lemmas.Bool.{ne_eqb}
use Rattle.std.proofs.lemmas.List.{length-append}
use Rattle.std.proofs.lemmas.List.Sums.{sum_by-cons}
use Rattle.std.proofs.lemmas.Option.{none-some, slice_get-map}
use Rattle.std.specs.Prelude.{cond, not, option_map, count_by}
use Rattle.mps_buffer.specs.declared.point.Held.{Held}
use Rattle.mps_buffer.specs.Points.{PointsState, WereMadeBefore, point_at, without_free_words, points_after_flip}
use Rattle.mps_buffer.proofs.MadeBefore.{point_at-flipped, was_point}
use Rattle.mps_model.specs.Graph as graph
use Rattle.mps_model.specs.Graph.{Reservation, entry_at}
use Rattle.mps_model.specs.World.{PointMemory}
use Rattle.mps_model.specs.Effect.{doomed, without_buffer}
use Rattle.mps_refinement.specs.Numbering.{AreNumbered}
use Rattle.mps_refinement.specs.StandsFor.{AreHeldAlike, BothHeld, NoneHeld, IsPoint}

-- ---- lists

entry-doomed : (points : List (Option graph.Point)) (n : ℕ) (q : graph.Point) → entry_at points n ≡ Some q
    → entry_at (map doomed points) n ≡ doomed (Some q)
entry-doomed [] n q e = absurd (none-some q e)
entry-doomed (p ∷ ps) zero q e = ap doomed e
entry-doomed (p ∷ ps) (suc n) q e = entry-doomed ps n q e

-- an entry that there is after it is one that there was
was_entry : (points : List (Option graph.Point)) (n : ℕ) (q : graph.Point) → entry_at (map doomed points) n ≡ Some q
    → (p : graph.Point) × (entry_at points n ≡ Some p)
was_entry [] n q e = absurd (none-some q e)
was_entry (None ∷ ps) zero q e = absurd (none-some q e)
was_entry (Some p ∷ ps) zero q e = (p, refl)
was_entry (p ∷ ps) (suc n) q e = was_entry ps n q e

abbrev one_where_some : Option graph.Point → ℕ
one_where_some p = cond (is_some p) 1 0

still_there : (p : Option graph.Point) → one_where_some (doomed p) ≡ one_where_some p
still_there None = refl
still_there (Some p) = refl

pub points_counted : (points : List (Option graph.Point)) → count_by is_some (map doomed points) ≡ count_by is_some points
points_counted [] = refl
points_counted (p ∷ ps) =
    let then_more : count_by is_some (map doomed (p ∷ ps)) ≡ one_where_some (doomed p) + count_by is_some (map doomed ps) =
    sum_by-cons one_where_some (doomed p) (map doomed ps) in
    let before : count_by is_some (p ∷ ps) ≡ one_where_some p + count_by is_some ps = sum_by-cons one_where_some p ps in
    let rest = points_counted ps in
    let same = still_there p in
    omega (arith, then_more, before, rest, same)

-- ---- a reservation

-- the reservations of a point are doomed
abbrev doomed_one : Reservation → Reservation
doomed_one r = record r { is_doomed = true }

held_then : (flips at : ℕ) (o : Option Held) (x : Option Reservation) → ((held : Held) → o ≡ Some held → held.flips ≤ flips)
    → AreHeldAlike flips at o x → AreHeldAlike (flips + 1) at o (option_map doomed_one x)
held_then flips at o x most (BothHeld {held = held} {r = r} is) = BothHeld (record {
  at = is.at;
  head = is.head;
  words = is.words;
  doomed = sym (ap not (ne_eqb held.flips (flips + 1) (λ e. let less = most held refl in omega (arith, e, less))));
})
held_then flips at o x most NoneHeld = NoneHeld

-- ---- all points

module _ (flips : ℕ) (copying : ℕ → Bool) (memories : List PointMemory) (number : ℕ → ℕ) (s : PointsState)
    (points : List (Option graph.Point)) (made : WereMadeBefore flips s)
    (are : AreNumbered (IsPoint flips copying memories) number (point_at s) points) where
  pub points_flipped : AreNumbered (IsPoint (flips + 1) copying (map without_buffer memories)) number (point_at (points_after_flip s))
      (map doomed points)
  points_flipped = record {
    there = λ key p e.
        let was = was_point s key p e in
        let b = are.there key was.0 was.1 in (
          record b.0 { reservation = option_map doomed_one b.0.reservation },
          entry-doomed points (number key) b.0 b.1,
          subst (λ x. IsPoint (flips + 1) copying (map without_buffer memories) (number key) x
              (record b.0 { reservation = option_map doomed_one b.0.reservation })) was.2 (record {
                pool = b.2.pool;
                rank = b.2.rank;
                copying = b.2.copying;
                memory = without_buffer b.2.memory;
                has = slice_get-map without_buffer memories (number key) ∙ ap (option_map without_buffer) b.2.has;
                buffer = refl;
                reservation = held_then flips b.2.memory.reserved_at was.0.reservation b.0.reservation
                    (λ held h. made.before key was.0 held was.1 h) b.2.reservation;
              }),
        );
    apart = λ key other p q e f same.
        let here = was_point s key p e in
        let there = was_point s other q f in
        are.apart key other here.0 there.0 here.1 there.1 same;
    complete = λ n q e.
        let was = was_entry points n q e in
        let found = are.complete n was.0 was.1 in
        record {
          key = found.key;
          value = without_free_words found.value;
          there = point_at-flipped s found.key ∙ ap (option_map without_free_words) found.there;
          numbered = found.numbered;
        };
  }

-- the number of flips, one more
pub one_flip_more : (flips : List ℕ) (zones : ℕ) → length (flips ++ zones ∷ []) ≡ length flips + 1
one_flip_more flips zones = omega (arith, length-append flips (zones ∷ []))
