use Rattle.std.proofs.Common.{◌∙◌, sym, ap}
use Rattle.std.specs.Prelude.{option_and_then}
use Rattle.mps_names.specs.Inside.{TablesState, found_in}
use Rattle.mps_names.specs.State.{as_cache}
use Rattle.mps_names.proofs.ThreeTables.{cache_is}
use Rattle.mps_names.proofs.tables.Tables.cache.Goals as goal

pub returns : goal.returns
returns c =
    c.get.ensures ∙ sym (cache_is c.self.inside.labels c.self.inside.caches c.self.inside.transforms c.self.invariant c.args.name)
    ∙ ap (λ (s : TablesState). option_and_then as_cache (found_in s.entries c.args.name)) c.self.view_is
