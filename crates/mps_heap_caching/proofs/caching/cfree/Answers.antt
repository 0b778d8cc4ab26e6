use Rattle.std.proofs.Common.{subst, Contains}
use Rattle.std.proofs.lemmas.Result.{err_from_is_err_and}
use Rattle.mps_base.specs.Address.{word_of}
use Rattle.mps_heap_spec.specs.State.{HeapState}
use Rattle.mps_heap_caching.proofs.Standing.{is_kept, no_block, no_cache, no_place}
use Rattle.mps_heap_caching.proofs.caching.cfree.Goals as goal

pub returns-in_err-into : goal.returns-in_err-into
returns-in_err-into g c =
    let p = err_from_is_err_and c.from_residual.result c.from_residual.ensures.1 in
    record {
      outcome = rw (p.1, p.2)
          (no_cache c.args.state.now c.args.trail.now c.args.cache c.args.place _ c.in_err-into.ensures.value);
    }

pub returns-in_err-from : goal.returns-in_err-from
returns-in_err-from g c =
    let p = err_from_is_err_and c.from_residual-in_err-from.result c.from_residual-in_err-from.ensures.1 in
    record {
      outcome = rw (p.1, p.2)
          (no_place c.args.state.now c.args.trail.now c.args.cache c.args.place _ c.in_ok-into.ensures.value _
          c.in_err-from.ensures.value);
    }

pub returns-in_err-at : goal.returns-in_err-at
returns-in_err-at g c =
    let p = err_from_is_err_and c.from_residual-in_err-at.result c.from_residual-in_err-at.ensures.1 in
    record {
      outcome = rw (p.1, p.2)
          (no_block c.args.state.now c.args.trail.now c.args.cache c.args.place _ c.in_ok-into.ensures.value _
          c.in_ok-from.ensures.value _ c.in_err-at.ensures.value);
    }

pub returns : goal.returns
returns g c = record {
  outcome = is_kept c.args.state.now c.args.trail.now c.args.cache c.args.place _ c.in_ok-into.ensures.value _
      c.in_ok-from.ensures.value _ c.in_ok-at.ensures.value c.block_words-words.result
      (subst (λ (x : HeapState _). Contains x.segs.blocks (record { from = word_of c.in_ok-at.at; count = c.block_words-words.result }))
      c.state.view_is c.block_words-words.ensures.sound) c.keep_from.result c.keep_from.new.state c.keep_from.new.trail c.keep_from.ensures;
}
