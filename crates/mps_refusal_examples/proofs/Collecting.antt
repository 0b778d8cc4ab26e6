use Rattle.std.proofs.Common.{refl}
use Rattle.mps_refusal_examples.specs.Collecting.{CollectionsAnswer, FinalizationAnswers, DependenciesAnswer}

pub collections_answer : CollectionsAnswer
collections_answer = record {
  start = refl;
  start_while_running = λ c. refl;
  start_chain = refl;
  start_chain_while_running = λ c. refl;
  never_refused = refl;
  never_refused_while_running = λ c. refl;
  dump = refl;
  dump_while_running = λ c. refl;
}

pub finalization_answers : FinalizationAnswers
finalization_answers = record {
  finalize = refl;
  finalize_where_full = λ registered messages h. rw h refl;
  finalize_where_one_is_left = λ registered messages h. rw h refl;
  definalize = refl;
  message = refl;
  message_that_waits = refl;
}

pub dependencies_answer : DependenciesAnswer
dependencies_answer = record {
  ldreset = refl;
  ldadd = refl;
  ldmerge = refl;
  ldstale = refl;
}
