-- How a collection that keeps objects has gone further.
use Rattle.std.proofs.Common.{◌≡◌, ◌∙◌, ◌≤◌, true, false, refl, inl, inr, arith}
use Rattle.std.proofs.lemmas.Bool.{or_left, or_right, or_cases}
use Rattle.std.specs.Prelude.{◌||◌, not}
use Rattle.mps_base.specs.Address.{Id}
use Rattle.mps_model.specs.Graph.{contains}
use Rattle.mps_model.specs.Collection.{Collection, is_condemned, is_settled, is_surely_kept}
use Rattle.mps_model.specs.World.{World, address_of, is_live}
use Rattle.mps_abstract.specs.Colours.{is_grey, Survives}
use Rattle.mps_abstract.specs.Collecting.{Collecting, is_tracing_band, is_white_in, units_left, Running}
use Rattle.mps_abstract.proofs.Lists.{contains_later}
use Rattle.mps_abstract.proofs.Keeping.{still_kept, differ_by_colour}
use Rattle.mps_abstract.proofs.Kept.{IsKept}
use Rattle.mps_abstract.proofs.KeptRunning.{kept_state, after, no_more}

pub record IsFurther (x y : Collecting) : Type 0 where
  pub graph : y.world.graph ≡ x.world.graph
  pub pools : y.world.pools ≡ x.world.pools
  pub band : y.band ≡ x.band
  pub next : y.next ≡ x.next
  pub live : (n : Id) → is_live y.world n ≡ is_live x.world n
  -- what isn't white stays so, and where it is
  pub not_white : (n : Id) → is_white_in x n ≡ false → is_white_in y n ≡ false
  pub in_place : (n : Id) → is_white_in x n ≡ false → address_of y.world n ≡ address_of x.world n
  pub grey : (n : Id) → is_grey x.colours n ≡ true → is_grey y.colours n ≡ true
  pub surely_kept : (n : Id) → is_surely_kept x.running n ≡ true → is_surely_kept y.running n ≡ true
  pub survives : (n : Id) → Survives x.running n → Survives y.running n
  pub left : units_left y ≤ units_left x
  pub spent : y.running.spent ≡ x.running.spent
  pub allowed : y.running.units ≡ x.running.units

pub no_further : (x : Collecting) → IsFurther x x
no_further x = record {
  graph = refl;
  pools = refl;
  band = refl;
  next = refl;
  live = λ n. refl;
  not_white = λ n h. h;
  in_place = λ n h. refl;
  grey = λ n h. h;
  surely_kept = λ n h. h;
  survives = λ n h. h;
  left = omega arith;
  spent = refl;
  allowed = refl;
}

pub further_still : (x y z : Collecting) → IsFurther x y → IsFurther y z → IsFurther x z
further_still x y z a b = record {
  graph = b.graph ∙ a.graph;
  pools = b.pools ∙ a.pools;
  band = b.band ∙ a.band;
  next = b.next ∙ a.next;
  live = λ n. b.live n ∙ a.live n;
  not_white = λ n h. b.not_white n (a.not_white n h);
  in_place = λ n h. b.in_place n (a.not_white n h) ∙ a.in_place n h;
  grey = λ n h. b.grey n (a.grey n h);
  surely_kept = λ n h. b.surely_kept n (a.surely_kept n h);
  survives = λ n h. b.survives n (a.survives n h);
  left = let la = a.left in let lb = b.left in omega (arith, la, lb);
  spent = b.spent ∙ a.spent;
  allowed = b.allowed ∙ a.allowed;
}

-- one more object is kept
module _ (x : Collecting) (run : Running x) (tracing : is_tracing_band x.band ≡ true) (id : Id) (live : is_live x.world id ≡ true)
    (white : is_white_in x id ≡ true) (w' : World) (c' : Collection) (r : IsKept x.world x.running id w' c') where
  surely_kept_still : (n : Id) → is_surely_kept x.running n ≡ true → is_surely_kept (after x run tracing id live white w' c' r) n ≡ true
  surely_kept_still n h = elim (or_cases (not (is_condemned x.running n)) (is_settled x.running n) h) [
    | inl outside ↦ or_left (not (is_condemned x.running n))
        (contains x.running.pinned n || (contains r.placed n || contains x.running.had n)) outside
    | inr settled ↦ or_right (not (is_condemned x.running n))
        (contains x.running.pinned n || (contains r.placed n || contains x.running.had n))
        (elim (or_cases (contains x.running.pinned n) (contains x.running.placed n || contains x.running.had n) settled) [
          | inl pinned ↦ or_left (contains x.running.pinned n) (contains r.placed n || contains x.running.had n) pinned
          | inr rest ↦ or_right (contains x.running.pinned n) (contains r.placed n || contains x.running.had n)
              (elim (or_cases (contains x.running.placed n) (contains x.running.had n) rest) [
                | inl placed ↦ or_left (contains r.placed n) (contains x.running.had n) (r.placed_still n placed)
                | inr had ↦ or_right (contains r.placed n) (contains x.running.had n) had
              ])
        ])
  ]

  pub kept_further : IsFurther x (kept_state x run tracing id live white w' c' r)
  kept_further = record {
    graph = refl;
    pools = refl;
    band = refl;
    next = refl;
    live = r.live;
    not_white = λ n h. still_kept x.running.condemned x.colours id n h;
    in_place = λ n h. r.others n (differ_by_colour x.running.condemned x.colours id n white h);
    grey = λ n h. contains_later id x.colours.grey n h;
    surely_kept = surely_kept_still;
    survives = λ n h. h;
    left = no_more x run tracing id live white w' c' r;
    spent = refl;
    allowed = refl;
  }
