use Rattle.std.proofs.Common.{◌≡◌, ◌∙◌, ◌++◌, ap, ℕ, List}
use Rattle.indexmap.proofs.CallerLemmas.{Drains-YieldsInOrder}
use Rattle.mps_address_map.proofs.map.append_high.Goals as goal

pub returns-clause-all : goal.returns-clause-all
returns-clause-all g c =
    let more = c.in_ok-extend.ensures.ran in
    let added : more.1 ≡ c.args.high.entries = Drains-YieldsInOrder _ _ more.0 more.1 more.2.2 more.4 ∙ more.2.0 in
    more.3.0 ∙ ap (λ (es : List (ℕ × g.row.V.Denot)). c.args.entries.now.items ++ es) added
