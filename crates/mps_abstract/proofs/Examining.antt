-- A unit that examines a registration.
use Rattle.std.proofs.Common.{◌≡◌, ◌∙◌, ◌⊎◌, ℕ, suc, ◌<◌, ◌≤◌, true, false, refl, sym, ap, [], Some, subst, inl, inr, arith}
use Rattle.std.proofs.lemmas.Bool.{false≢true, true≢false, cases_Bool, cases_eq}
use Rattle.std.proofs.lemmas.Option.{same_Some}
use Rattle.std.specs.Prelude.{slice_get}
use Rattle.mps_base.specs.Address.{Id}
use Rattle.mps_model.specs.Units.{does_nothing}
use Rattle.mps_abstract.specs.Collecting.{Final, is_tracing_band, Collecting, is_white_in, Running}
use Rattle.mps_abstract.specs.Units.{IsExaminedNext}
use Rattle.mps_abstract.proofs.Joining.{no_moves_legal}
use Rattle.mps_abstract.proofs.KeptRunning.{not_reclaiming}
use Rattle.mps_abstract.proofs.UnitScans.{IsUnitShown}

-- a registration that was made before the flip and isn't examined yet is there only while the collection traces
pub examined_is_tracing : (x : Collecting) → Running x → x.next < x.running.registered_before → is_tracing_band x.band ≡ true
examined_is_tracing x run due = elim (cases_Bool (is_tracing_band x.band)) [
  | inl tracing ↦ tracing
  | inr later ↦ absurd (let all = run.band.examined later in omega (arith, all, due))
]

-- ---- of an object that isn't white

pub examines_shown : (x : Collecting) → Running x → (id : Id) → IsExaminedNext x id → is_white_in x id ≡ false
    → IsUnitShown x [] (record x { band = Final; next = suc x.next })
examines_shown x run id due black =
    let before = due.before_flip in
    let tracing = examined_is_tracing x run before in
    record {
      running = record {
        runs = run.runs;
        different = run.different;
        condemned = run.condemned;
        coloured = run.coloured;
        grey = run.grey;
        settled = run.settled;
        survivors = run.survivors;
        examined = record {
          live_registered = run.examined.live_registered;
          from = let from = run.examined.from in omega (arith, from);
          up_to = omega (arith, before);
          existing = run.examined.existing;
          examined = λ position n e at. not_white position n e at;
        };
        band = record {
          tracing = λ h. run.band.tracing tracing;
          splatting = λ h. run.band.splatting (not_reclaiming x.band tracing);
          drained = λ h. absurd (true≢false h);
          examined = λ h. absurd (true≢false h);
          scanned = λ h. absurd (false≢true h);
          referred_live = λ h. run.band.referred_live (not_reclaiming x.band tracing);
          unswept = λ h. run.band.unswept (not_reclaiming x.band tracing);
        };
        swept = run.swept;
        units = let u = run.units in omega (arith, u);
      };
      leads = refl;
      legal = no_moves_legal x.world;
      is_piece = does_nothing refl;
      fewer = omega (arith, before);
      spent = refl;
      allowed = refl;
    }
  where
    not_white : (position : ℕ) (n : Id) → slice_get x.world.graph.registered position ≡ Some n
        → (position < suc x.next) ⊎ (x.running.registered_before ≤ position) → is_white_in x n ≡ false
    not_white position n e (inr since) = run.examined.examined position n e (inr since)
    not_white position n e (inl less) = elim (cases_eq position x.next) [
      | inl same ↦ subst (λ m. is_white_in x m ≡ false)
          (same_Some id n (sym due.registered ∙ ap (slice_get x.world.graph.registered) (sym same) ∙ e)) black
      | inr other ↦ run.examined.examined position n e (inl (omega (arith, less, other)))
    ]
