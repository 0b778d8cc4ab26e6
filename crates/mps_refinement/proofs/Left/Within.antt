-- At any time the units that were asked of a collection and those that a heap has left of it are no more than it may take.
use Rattle.std.proofs.Common.{◌≡◌, ◌∙◌, ◌+◌, ◌≤◌, ap, sym, arith}
use Rattle.std.proofs.lemmas.Option.{none-some, same_Some}
use Rattle.mps_model.specs.Collection.{Collection}
use Rattle.mps_model.specs.World.{World}
use Rattle.mps_abstract.specs.Collecting.{Collecting}
use Rattle.mps_refinement.specs.StandsFor.{IsInTime, Runs, collector_of, rests, runs}
use Rattle.mps_refinement.specs.UnitsLeft.{UnitsStayWithin, units_left}
use Rattle.mps_refinement.proofs.Left.Alike.{units_in_state}
use Rattle.mps_refinement.proofs.Worlds.Reached.{reached_well_formed}

pub units_stay_within : {F : Type 0} → UnitsStayWithin F
units_stay_within {F} layout h w c st there = of_time st.time
  where
    while_it_runs : (x : Collecting) → Runs st.past.time (collector_of h) w x → c.spent + units_left h ≤ c.units
    while_it_runs x r =
        let left = units_in_state layout st.past h w st.parts (reached_well_formed w st.reached) x r in
        let same : x.running ≡ c =
        same_Some x.running c (sym r.invariant.runs ∙ ap (λ (v : World). v.collection) r.world ∙ there) in
        let within = r.invariant.units in
        let spent = ap (λ (d : Collection). d.spent) same in
        let units = ap (λ (d : Collection). d.units) same in
        omega (arith, left, within, spent, units)

    of_time : IsInTime st.past.time (collector_of h) w → c.spent + units_left h ≤ c.units
    of_time (rests rest) = absurd (none-some c (sym rest.none ∙ there))
    of_time (runs x r) = while_it_runs x r
