-- From what a method of the heap guarantees to what its answer does.
use Rattle.std.proofs.Common.{◌≡◌, ◌≢◌, ◌∙◌, ℕ, refl, sym, ap, subst, List, [], ◌++◌, Result, Ok, Err}
use Rattle.std.proofs.lemmas.List.{length-take-le, take-map}
use Rattle.std.specs.Prelude.{◌≤◌, IfOk, IsTrue, OnErr, length, map, take}
use Rattle.mps_base.specs.declared.names.Name.{Name}
use Rattle.mps_base.specs.declared.address.Addr.{Addr}
use Rattle.mps_base.specs.declared.moves.Move.{Move}
use Rattle.mps_base.specs.declared.names.Kind.{Kind}
use Rattle.mps_base.specs.declared.names.Kind.TheVariants as kind
use Rattle.mps_base.specs.declared.refusal.Refusal.{Refusal}
use Rattle.mps_base.specs.declared.refusal.Refusal.TheVariants as refusal
use Rattle.mps_format.specs.Any.{numbered_layout}
use Rattle.mps_format.specs.AnyFormat.{any_layout, number_of, numbered_layout-number_of}
use Rattle.mps_format.specs.declared.any.AnyFormat.{AnyFormat}
use Rattle.mps_model.specs.Answer.{Answer, answer_of}
use Rattle.mps_commands.specs.Range.{may_be_on_chain}
use Rattle.mps_model.specs.World.{World, Collected, is_copying_kind}
use Rattle.mps_model.specs.declared.call.Call.{Call}
use Rattle.mps_model.specs.declared.call.Call.TheVariants as call
use Rattle.mps_model.specs.declared.reply.Reply.{Reply}
use Rattle.mps_model.specs.declared.reply.Reply.TheVariants as reply
use Rattle.mps_refinement.specs.State.{HeapState}
use Rattle.mps_sac.specs.declared.class.ClassSize.{ClassSize}
use Rattle.mps_heap.specs.Answers.{says_words}
use Rattle.mps_refinement.specs.Answering.{answer_to}
use Rattle.mps_refinement.specs.Making.{IsRightMaking, IsRightMakingIn, MeansLayout, answer_of_making}
use Rattle.mps_refinement.specs.RightMoving.{IsRightMoving}
use Rattle.mps_refinement.specs.RightStep.{IsRight, IsRightFrom, step_of}
use Rattle.mps_session.specs.Standing.{IsAnswered, HasScriptFormats, HeapStandsStill}
use Rattle.mps_session.specs.Told.{Tells}

-- in a world, where the reply tells the answer
told_right : {h after : HeapState AnyFormat} {c d : Call} {moves : List Move} {given : Reply} {answer : Answer} (w : World) (line : ℕ)
    → c ≡ d → Tells given answer → IsRightFrom any_layout h w (step_of line d moves answer) after
    → IsRightFrom any_layout h w (step_of line c moves (answer_of after.segs.words given)) after
told_right {h} {after} {c} {d} {moves} {given} {answer} w line is tells right =
    subst (λ (k : Call). IsRightFrom any_layout h w (step_of line k moves (answer_of after.segs.words given)) after) (sym is)
    (subst (λ (a : Answer). IsRightFrom any_layout h w (step_of line d moves a) after) (sym (tells.told after.segs.words)) right)

module _ {h after : HeapState AnyFormat} {c d : Call} (is : c ≡ d) where
  pub answered : {moves : List Move} {given : Reply} {answer : Answer} → Tells given answer → IsRight any_layout h d moves answer after
      → IsAnswered h c moves given after
  answered tells right = record {
    right = λ w line formats stands. told_right w line is tells (right w line stands);
  }

  -- a call that appended its moves to an empty trail
  pub answered_moving : {trail trail_after : List Move} {given : Reply} {answer : Answer} → trail ≡ [] → Tells given answer
      → IsRightMoving any_layout h d trail trail_after answer after → IsAnswered h c trail_after given after
  answered_moving {trail} {trail_after} {given} {answer} none tells r =
      let moved : trail_after ≡ r.moves = r.appended ∙ ap (λ (ms : List Move). ms ++ r.moves) none in
      answered tells (subst (λ (ms : List Move). IsRight any_layout h d ms answer after) (sym moved) r.right)

  -- a call that made no move, beside an empty trail
  pub answered_still : {trail : List Move} {given : Reply} {answer : Answer} → trail ≡ [] → Tells given answer
      → IsRight any_layout h d [] answer after → IsAnswered h c trail given after
  answered_still {trail} {given} none tells right =
      subst (λ (ms : List Move). IsAnswered h c ms given after) (sym none) (answered tells right)

  -- a call that made a thing, unless it was out of memory
  pub answered_making : {A : Type 0} (came : Result A Refusal) {E : Type 0} (told : Result Reply E)
      → IfOk told (λ reply. Tells reply (answer_of_making came)) → IfOk told (λ reply. came ≢ Err refusal.OutOfMemory)
      → IsRightMaking any_layout h d came after → IfOk told (λ reply. IsAnswered h c [] reply after)
  answered_making came (Ok given) tells other right = answered tells (right.answered other)
  answered_making came (Err e) tells other right = tt

-- a chain is made of the first of these numbers
pub of_capacities : {h after : HeapState AnyFormat} (name : Name) (count : ℕ) (numbers given : List ℕ) {A : Type 0}
    (came : Result A Refusal) → given ≡ take count numbers → count ≤ length numbers
    → ((ns : List ℕ) → take (length given) ns ≡ given → IsRightMaking any_layout h (call.Chain name (length given) ns) came after)
    → IsRightMaking any_layout h (call.Chain name count numbers) came after
of_capacities {h} {after} name count numbers given came is fits right =
    let long : length given ≡ count = ap length is ∙ length-take-le count numbers fits in
    subst (λ n. IsRightMaking any_layout h (call.Chain name n numbers) came after) long
    (right numbers (ap (λ n. take n numbers) long ∙ sym is))

-- a cache is made of the first of these classes
pub of_classes : {h after : HeapState AnyFormat} {answer : Answer} (cache pool : Name) (count : ℕ) (sizes limits : List ℕ)
    (classes given : List ClassSize) → map (λ (k : ClassSize). k.words) classes ≡ sizes → map (λ (k : ClassSize). k.limit) classes ≡ limits
    → given ≡ take count classes → count ≤ length classes
    → ((ns ms : List ℕ) → take (length given) ns ≡ map (λ (k : ClassSize). k.words) given
    → take (length given) ms ≡ map (λ (k : ClassSize). k.limit) given
    → IsRight any_layout h (call.Cache cache pool (length given) ns ms) [] answer after)
    → IsRight any_layout h (call.Cache cache pool count sizes limits) [] answer after
of_classes {h} {after} {answer} cache pool count sizes limits classes given of_sizes of_limits is fits right =
    let long : length given ≡ count = ap length is ∙ length-take-le count classes fits in
    subst (λ n. IsRight any_layout h (call.Cache cache pool n sizes limits) [] answer after) long
    (right sizes limits (first (λ (k : ClassSize). k.words) sizes of_sizes long) (first (λ (k : ClassSize). k.limit) limits of_limits long))
  where
    first : (of : ClassSize → ℕ) (ns : List ℕ) → map of classes ≡ ns → length given ≡ count → take (length given) ns ≡ map of given
    first of ns are long =
        ap (λ n. take n ns) long ∙ ap (λ (ms : List ℕ). take count ms) (sym are) ∙ take-map of count classes ∙ ap (map of) (sym is)

-- a pool of objects of the format that a number means
pub answered_pool : {h after : HeapState AnyFormat} {c d : Call} (is : c ≡ d) {A : Type 0} (came : Result A Refusal) {E : Type 0}
    (told : Result Reply E) (number : ℕ) (format : AnyFormat) → number_of format ≡ number
    → IfOk told (λ reply. Tells reply (answer_of_making came)) → IfOk told (λ reply. came ≢ Err refusal.OutOfMemory)
    → IsRightMakingIn any_layout (MeansLayout number (any_layout format)) h d came after
    → IfOk told (λ reply. IsAnswered h c [] reply after)
answered_pool is came (Err e) number format numbered tells other right = tt
answered_pool {h} {after} {c} {d} is came (Ok given) number format numbered tells other right =
    record { right = λ w line formats stands. told_right w line is tells (right.answered other w line (means w formats) stands) }
  where
    means : (w : World) → HasScriptFormats w → MeansLayout number (any_layout format) w
    means w formats =
        ap (λ f. f number) formats ∙ ap numbered_layout (sym numbered) ∙ numbered_layout-number_of format

-- a kind of pool that may stand on a chain is a copying one
pub copies_on_a_chain : (kind : Kind) → IsTrue (may_be_on_chain kind) → IsTrue (is_copying_kind (Collected kind))
copies_on_a_chain kind.Amc may = refl
copies_on_a_chain kind.Amcz may = refl
copies_on_a_chain _ may = absurd cc

pub pool_unchanged : {h after : HeapState AnyFormat} {d : Call} {A : Type 0} (came : Result A Refusal) {E : Type 0} (told : Result Reply E)
    {Has : World → Type 0} → OnErr told (came ≡ Err refusal.OutOfMemory) → IsRightMakingIn any_layout Has h d came after
    → OnErr told (HeapStandsStill h after)
pool_unchanged came (Ok given) is right = tt
pool_unchanged came (Err e) is right = right.out_of_memory is

-- a dump names its words
module _ (h : HeapState AnyFormat) (at : Addr) (came : Result ℕ Refusal) where
  pub answered_dump : (words : ℕ) → came ≡ Ok words
      → IsRight any_layout h (call.Dump at.0) [] (answer_to (says_words h.segs.words at) came) h
      → IsAnswered h (call.Dump at.0) [] (reply.Words at words) h
  answered_dump words is right = record {
    right = λ w line formats stands.
        subst (λ (r : Result ℕ Refusal). IsRightFrom any_layout h w
        (step_of line (call.Dump at.0) [] (answer_to (says_words h.segs.words at) r)) h) is (right w line stands);
  }

  pub refused_dump : (why : Refusal) → came ≡ Err why
      → IsRight any_layout h (call.Dump at.0) [] (answer_to (says_words h.segs.words at) came) h
      → IsAnswered h (call.Dump at.0) [] (reply.Refused why) h
  refused_dump why is right = record {
    right = λ w line formats stands.
        subst (λ (r : Result ℕ Refusal). IsRightFrom any_layout h w
        (step_of line (call.Dump at.0) [] (answer_to (says_words h.segs.words at) r)) h) is (right w line stands);
  }

-- a call of no other group, of a heap that those groups left as it was
module _ (old h after : HeapState AnyFormat) (c : Call) where
  pub answered_last : (given : Reply) (moves : List Move) → h ≡ old → moves ≡ [] → IsAnswered h c [] given after
      → IsAnswered old c moves given after
  answered_last given moves same none answers =
      subst (λ (ms : List Move). IsAnswered old c ms given after) (sym none)
      (subst (λ (x : HeapState AnyFormat). IsAnswered x c [] given after) same answers)

  pub still_last : h ≡ old → HeapStandsStill h after → HeapStandsStill old after
  still_last same still = subst (λ (x : HeapState AnyFormat). HeapStandsStill x after) same still
