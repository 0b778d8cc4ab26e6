-- No block that has moved had the words of a place in a pool whose blocks don't move, or in a segment that isn't condemned.
use Rattle.std.proofs.Common.{◌≡◌, ◌∙◌, ℕ, ◌+◌, ◌<◌, Bool, true, false, sym, ap, Option, Some, List, length}
use Rattle.std.proofs.lemmas.Bool.{false≢true}
use Rattle.std.proofs.lemmas.Option.{none-some, same_Some}
use Rattle.std.specs.Option.{option_map_or}
use Rattle.mps_base.specs.Address.{Address, word_of}
use Rattle.mps_model.specs.Graph.{Object, entry_at}
use Rattle.mps_model.specs.World.{World, is_copying_pool}
use Rattle.mps_abstract.specs.Colours.{Colours}
use Rattle.mps_trace_laws.specs.Image.Memory.{Setting, Memory}
use Rattle.mps_trace_laws.specs.Image.Image.{CellSet, ImageStands}
use Rattle.mps_trace_laws.specs.Image.Changes.{IsOfNoMovedBlock, AreHome}
use Rattle.mps_trace_laws.specs.Fix.Tracing.{AreStill}
use Rattle.mps_refinement.specs.StandsFor.{AreOfFlip, CollectorState, IsInTime, Time, rests, runs}

module _ (s : Setting) (m : Memory) (addresses : List (Option Address)) (k : Colours) (done : CellSet) (moves : ℕ → Bool)
    (at : Address) (size pool : ℕ) (st : ImageStands s m addresses k done) (still : AreStill s.objects moves s.at_flip addresses)
    (home : AreHome s at size pool) where
  pub unmoved : moves pool ≡ false → (i : ℕ) → i < size → IsOfNoMovedBlock s addresses (word_of at + i)
  unmoved here i lt = record {
    clear = λ id from to o q was now apart object inside e.
        let f = st.words.forwarded id from to o was now apart object in
        let same : Some pool ≡ Some o.pool =
        sym (home.over i lt) ∙ ap s.pool_over e ∙ f.home q inside in
        apart (still id o from to object (ap moves (sym (same_Some pool o.pool same)) ∙ here) was now);
  }

  pub uncondemned_place : s.is_condemned_over (word_of at) ≡ false → (i : ℕ) → i < size → IsOfNoMovedBlock s addresses (word_of at + i)
  uncondemned_place here i lt = record {
    clear = λ id from to o q was now apart object inside e.
        let f = st.words.forwarded id from to o was now apart object in
        false≢true (sym (home.whole i lt ∙ here) ∙ ap s.is_condemned_over e ∙ f.condemned q inside);
  }

-- what is known of the flip at any time
pub flip_known : (t : Time) (s : CollectorState) (w : World) → IsInTime t s w → AreOfFlip t.at_flip w
flip_known t s w (rests rest) = record {
  made = let e = ap (λ (u : Time). length u.at_flip) rest.time in omega (Rattle.std.proofs.Common.arith, e);
  still = λ id from to moves was now. absurd (none-some from (sym (ap (λ (u : Time). entry_at u.at_flip id) rest.time) ∙ was));
}
flip_known t s w (runs x r) = r.flip

pub still_in : (at_flip : List (Option Address)) (w : World) → AreOfFlip at_flip w
    → AreStill w.graph.objects (is_copying_pool w) at_flip w.addresses
still_in at_flip w of id o from to there moves was now =
    of.still id from to (ap (λ x. option_map_or (λ (y : Object). is_copying_pool w y.pool) x false) there ∙ moves) was now
