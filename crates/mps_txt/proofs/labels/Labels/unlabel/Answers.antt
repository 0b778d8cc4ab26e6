use Rattle.std.proofs.Common.{ℕ, List, ap, ◌∙◌}
use Rattle.std.specs.Prelude.{map}
use Rattle.mps_event.specs.Name.{name_in}
use Rattle.mps_txt.specs.Labels.{Naming, without_label}
use Rattle.mps_txt.proofs.LabelEntries.{labels_without}
use Rattle.mps_txt.proofs.labels.Labels.unlabel.Goals as goal

pub returns : goal.returns
returns c =
    let naming : List (ℕ × ℕ) → Naming = λ labels. record { names = map name_in c.self.inside.names.items; labels = labels } in
    ap naming (labels_without c.self.inside.at c.remove.new.self c.args.at c.remove.ensures.changes)
    ∙ ap (λ (s : Naming). without_label s c.args.at) c.self.view_is
