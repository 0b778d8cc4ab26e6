-- Words at hand for copies, by the tails and buffers to which they belong, before and after a copy.
use Rattle.std.proofs.Common.{◌≡◌, ℕ, ◌+◌, ◌-◌, ◌<◌, List, Option, Some, inl, inr, arith}
use Rattle.mps_base.specs.Address.{Address, Id, Word, word_of}
use Rattle.mps_model.specs.Graph.{Object, size_of}
use Rattle.mps_abstract.specs.Colours.{Colours}
use Rattle.mps_trace_laws.specs.Image.Memory.{Setting}
use Rattle.mps_trace_laws.specs.Image.Image.{IsAddress, LieApart}
use Rattle.mps_trace_laws.specs.Image.Fixing.{AreAtHand, address_moved}
use Rattle.mps_trace_laws.specs.Image.AtHand.{Hand, HandsStand, AreTaken}
use Rattle.mps_trace_laws.proofs.Image.Copied.{IsMove, lies_moved}

pub at_hand : (s : Setting) (hand : Word → Option Hand) (addresses : List (Option Address)) (to size : ℕ) (p : Hand)
    → HandsStand s hand addresses
    → IsAddress to → 0 < size → ((k : ℕ) → k < size → hand (word_of to + k) ≡ Some p) → AreAtHand s addresses to size p.pool
at_hand s hand addresses to size p h address positive all = record {
  address = address;
  within =
      let w = h.within (word_of to + (size - 1)) p (all (size - 1) (omega (arith, positive))) in omega (arith, w, positive);
  free = λ k j l q lt there. h.free (word_of to + k) p j l q (all k lt) there;
  unreserved = λ k point l r lt there. h.unreserved (word_of to + k) p point l r (all k lt) there;
  not_condemned = λ k lt. h.not_condemned (word_of to + k) p (all k lt);
  home = λ k lt. h.home (word_of to + k) p (all k lt);
}

pub hands_moved : (s : Setting) (hand hand' : Word → Option Hand) (addresses : List (Option Address)) (k : Colours) (t : Id)
    (from to : Address)
    (o : Object) → LieApart s addresses → IsMove s addresses k t from to o → AreTaken hand hand' (word_of to) (size_of o)
    → HandsStand s hand addresses → HandsStand s hand' (address_moved addresses t to)
hands_moved s hand hand' addresses k t from to o placed v taken h = record {
  within = λ n p e. h.within n p (taken.was n p e);
  not_condemned = λ n p e. h.not_condemned n p (taken.was n p e);
  home = λ n p e. h.home n p (taken.was n p e);
  free = λ n p id i q e there. elim (lies_moved s addresses k t from to o placed v id i q n there) [
    | inl x ↦ taken.gone n i p e x.2 x.3
    | inr x ↦ h.free n p id i q (taken.was n p e) x.1
  ];
  unreserved = λ n p point l r e there. h.unreserved n p point l r (taken.was n p e) there;
}
