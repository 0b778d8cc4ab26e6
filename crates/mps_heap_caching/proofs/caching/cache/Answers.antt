use Rattle.std.proofs.Common.{refl, sym}
use Rattle.std.proofs.lemmas.Result.{err_from_is_err_and}
use Rattle.mps_heap_spec.specs.Caching.{NoCache}
use Rattle.mps_heap_caching.proofs.Outcomes.{cache_made}
use Rattle.mps_heap_caching.proofs.caching.cache.Goals as goal

pub returns-in_err-of : goal.returns-in_err-of
returns-in_err-of g c =
    let p = err_from_is_err_and c.from_residual.result c.from_residual.ensures.1 in
    record { outcome = rw (p.1, p.2) (NoCache (sym c.in_err-of.ensures.value)) }

pub returns : goal.returns
returns g c = record {
  outcome = cache_made c.state.view_is c.in_ok-of.ensures.value c.add-number.ensures.number c.take.ensures.names c.add-number.ensures.state
      refl;
}
