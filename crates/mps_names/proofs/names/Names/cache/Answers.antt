use Rattle.std.proofs.Common.{◌∙◌, sym, ap}
use Rattle.std.specs.Prelude.{option_and_then}
use Rattle.mps_names.specs.State.{NamesState, as_cache, thing_named}
use Rattle.mps_names.proofs.Beside.{cache_beside}
use Rattle.mps_names.proofs.names.Names.cache.Goals as goal

pub returns : goal.returns
returns c =
    c.cache.ensures ∙ sym (cache_beside c.self.inside.things.entries c.self.inside.tables c.self.invariant.beside c.args.name)
    ∙ ap (λ (s : NamesState). option_and_then as_cache (thing_named s c.args.name)) c.self.view_is
