-- Where nothing waits, the inner desk took all.
use Rattle.std.proofs.Common.{◌≡◌, Bool, false, List, [], ◌∷◌, ℕ, sym, ap, subst, ◌∙◌, refl}
use Rattle.std.specs.Option.{option_map}
use Rattle.mps_desk.specs.Desk.{Outside, after_log}
use Rattle.mps_report.specs.Streams.{appended}
use Rattle.mps_report.proofs.Appended.{appended_empty}
use Rattle.mps_report.proofs.Logging.{filed_nothing}
use Rattle.mps_gathering.specs.Gathering.{Gathered, outside_with, some_wait, HasAll, InnerHasAll}

none_wait : (waiting : List ℕ) (further_in : Bool) → some_wait waiting further_in ≡ false → waiting ≡ []
none_wait [] further_in none = refl
none_wait (b ∷ bs) further_in none = cc none

pub inner_has_all : InnerHasAll
inner_has_all inner g log out =
    let no_log : g.log.bytes ≡ [] = none_wait g.log.bytes inner.log_waits log in
    let no_out : g.out.bytes ≡ [] = none_wait g.out.bytes inner.out_waits out in
    record {
      files = ap (λ (p : List ℕ). option_map (after_log p) inner.files) no_log ∙ sym (filed_nothing inner.files);
      logged = ap (λ (p : List ℕ). appended inner.logged p) no_log ∙ sym (appended_empty inner.logged);
      printed = ap (λ (p : List ℕ). appended inner.printed p) no_out ∙ sym (appended_empty inner.printed);
    }

pub taken_out_has_all : (i j : Outside) (g : Gathered) → j ≡ i → (outside_with i g).log_waits ≡ false → (outside_with i g).out_waits ≡ false
    → HasAll j (outside_with i g)
taken_out_has_all i j g same log out = subst (λ (o : Outside). HasAll o (outside_with i g)) (sym same) (inner_has_all i g log out)
