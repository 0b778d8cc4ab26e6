use Rattle.std.proofs.Common.{ℕ, List, ap, ◌∙◌}
use Rattle.std.specs.Prelude.{map}
use Rattle.mps_event.specs.Name.{name_in}
use Rattle.mps_txt.specs.Labels.{Naming, with_label}
use Rattle.mps_txt.proofs.LabelEntries.{labels_with, on_ok_of, on_ok_failed}
use Rattle.mps_txt.proofs.labels.Labels.put.Goals.{in-Ok, in-Err}
use Rattle.mps_txt.proofs.labels.Labels.put.Goals as goal

pub returns-clause-state : goal.returns-clause-state
returns-clause-state c =
    let naming : List (ℕ × ℕ) → Naming = λ labels. record { names = map name_in c.self.inside.names.items; labels = labels } in
    elim c.match-insert.branch [
      | in-Ok w ↦ on_ok_of c.match-insert.result
          (ap naming (labels_with c.self.inside.at c.insert.new.self c.args.at c.args.id w.in-Ok.ensures.changes)
          ∙ ap (λ (s : Naming). with_label s c.args.at c.args.id) c.self.view_is)
      | in-Err w ↦ on_ok_failed _ c.match-insert.result _ w.result-is
    ]
