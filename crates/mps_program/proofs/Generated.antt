-- What `gen` asks for by name, which is nothing, and what of its script or of its run is written.
use Rattle.std.proofs.Common.{◌≡◌, ◌⊎◌, ℕ, List, true, subst, ◌∙◌, inl, inr}
use Rattle.std.specs.Prelude.{codes}
use Rattle.mps_desk.specs.Desk.{Outside, NothingWaits}
use Rattle.mps_run.specs.LogReaderEnding.{is_input_verdict}
use Rattle.mps_report.specs.Streams.{Prints, Reports}
use Rattle.mps_tools.specs.Ending.{FailsWithin}

pub generated_asks_nothing : (status : ℕ) (old new : Outside) (text : List ℕ) → (status ≡ 0) ⊎ (status ≡ 4) ⊎ (status ≡ 8)
    → (status ≡ 0 → Prints old new text) → (status ≡ 4 → FailsWithin old new text)
    → (status ≡ 8 → Reports old new (codes "mps: out of memory\n")) → new.asked ≡ old.asked
generated_asks_nothing status old new text (inl is) whole cut memory = (whole is).others.asked
generated_asks_nothing status old new text (inr (inl is)) whole cut memory = (cut is).reported.others.asked ∙ (cut is).part.others.asked
generated_asks_nothing status old new text (inr (inr is)) whole cut memory = (memory is).others.asked

pub generated_written : (status : ℕ) (new : Outside) → (status ≡ 0) ⊎ (status ≡ 4) ⊎ (status ≡ 8) → (status ≡ 0 → NothingWaits new)
    → is_input_verdict status ≡ true → NothingWaits new
generated_written status new (inl is) written verdict = written is
generated_written status new (inr (inl is)) written verdict =
    let wrong : is_input_verdict 4 ≡ true = subst (λ n. is_input_verdict n ≡ true) is verdict in cc
generated_written status new (inr (inr is)) written verdict =
    let wrong : is_input_verdict 8 ≡ true = subst (λ n. is_input_verdict n ≡ true) is verdict in cc

-- a run of a generated script has one status more
pub run_written : (status : ℕ) (new : Outside) → (status ≡ 0) ⊎ (status ≡ 4) ⊎ (status ≡ 5) ⊎ (status ≡ 8)
    → (status ≡ 0 → NothingWaits new) → is_input_verdict status ≡ true → NothingWaits new
run_written status new (inl is) written verdict = written is
run_written status new (inr (inl is)) written verdict =
    let wrong : is_input_verdict 4 ≡ true = subst (λ n. is_input_verdict n ≡ true) is verdict in cc
run_written status new (inr (inr (inl is))) written verdict =
    let wrong : is_input_verdict 5 ≡ true = subst (λ n. is_input_verdict n ≡ true) is verdict in cc
run_written status new (inr (inr (inr is))) written verdict =
    let wrong : is_input_verdict 8 ≡ true = subst (λ n. is_input_verdict n ≡ true) is verdict in cc
