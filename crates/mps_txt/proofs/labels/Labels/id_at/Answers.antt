use Rattle.std.proofs.Common.{sym, ap, ◌∙◌}
use Rattle.mps_txt.specs.Labels.{Naming, id_at}
use Rattle.mps_txt.proofs.LabelEntries.{found_labels}
use Rattle.mps_txt.proofs.labels.Labels.id_at.Goals as goal

pub returns : goal.returns
returns c =
    c.get.ensures ∙ sym (found_labels c.self.inside.at c.args.address)
    ∙ ap (λ (s : Naming). id_at s c.args.address) c.self.view_is
