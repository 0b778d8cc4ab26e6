-- A heap and the collector at a time: they stay what they are to a world if its cells are cleared, its pairs end, and words are written. So
-- they are to the world without its pairs.
use Rattle.std.proofs.Common.{◌≡◌, ◌∙◌, ℕ, ◌≤◌, false, refl, sym, ap, List, [], length, Option, Some, None, subst}
use Rattle.std.specs.Prelude.{option_map}
use Rattle.mps_model.specs.Collection.{Collection}
use Rattle.mps_model.specs.WellFormed.{IsWellFormed}
use Rattle.mps_model.specs.World.{World}
use Rattle.mps_refinement.specs.Following.{Following, followed, paired_at_flip, unpaired}
use Rattle.mps_refinement.specs.StandsFor.{AreOfFlip, CollectorState, IsInTime, Time, rests, runs}
use Rattle.mps_refinement.proofs.Following.Legal.{copying_same}
use Rattle.mps_refinement.proofs.Following.Running.{collecting_followed, length_cleared, running_followed}

-- a collector whose segments have other words
abbrev pub with_words : CollectorState → List ℕ → CollectorState
with_words s words = record s { segs = record s.segs { words = words } }

module _ (t : Time) (s : CollectorState) (w : World) (f : Following) (words : List ℕ) where
  flip_still : AreOfFlip t.at_flip w → AreOfFlip t.at_flip (followed w f)
  flip_still flip = record {
    made = subst (λ m. length t.at_flip ≤ m) (sym (length_cleared w.graph.objects f.cells)) flip.made;
    still = λ id from to moves was now. flip.still id from to (sym (copying_same (λ n. false) w f id) ∙ moves) was now;
  }

  pub followed_in_time : IsInTime t s w → IsInTime t (with_words s words) (followed w f)
  followed_in_time (rests r) = rests (record {
    none = ap (option_map (paired_at_flip f.at_flip)) r.none;
    time = r.time;
    not_running = r.not_running;
    not_condemned = r.not_condemned;
    not_kept = r.not_kept;
  })
  followed_in_time (runs x r) = runs (collecting_followed x f) (record {
    world = ap (λ v. followed v f) r.world;
    invariant = running_followed x r.invariant f;
    run = r.run;
    running = r.running;
    as_far = record {
      band = r.as_far.band;
      cursor = r.as_far.cursor;
      next = r.as_far.next;
      registered_before = r.as_far.registered_before;
    };
    condemned_ids = r.condemned_ids;
    colours = r.colours;
    next = r.next;
    registered_before = r.registered_before;
    tracing = λ h.
        let q = r.tracing h in
        record { read = q.read; band = q.band; tails = q.tails; ranked = record { exact = q.ranked.exact; weak = q.ranked.weak } };
    reclaiming = λ h.
        let q = r.reclaiming h in
        record { none_at_flip = q.none_at_flip; read = q.read; band = q.band; scanned = q.scanned; examined = q.examined };
    condemned = r.condemned;
    flip = flip_still r.flip;
  })

-- ---- the world without its pairs

-- no pair is left, and nothing is cleared
abbrev no_pairs : Following
no_pairs = record { pairs = []; cells = []; at_flip = None }

unpaired_is : (w : World) → followed w no_pairs ≡ unpaired w
unpaired_is w = ap (λ (o : Option Collection). record (unpaired w) { collection = o }) (same w.collection)
  where
    same : (o : Option Collection) → option_map (paired_at_flip None) o ≡ o
    same None = refl
    same (Some c) = refl

pub unpaired_in_time : (t : Time) (s : CollectorState) (w : World) → IsInTime t s w → IsInTime t s (unpaired w)
unpaired_in_time t s w now = subst (IsInTime t s) (unpaired_is w) (followed_in_time t s w no_pairs s.segs.words now)

pub unpaired_formed : (w : World) → IsWellFormed w → IsWellFormed (unpaired w)
unpaired_formed w formed = record {
  segments = formed.segments;
  limit = formed.limit;
  pools = formed.pools;
  addresses = formed.addresses;
  apart = formed.apart;
  objects = formed.objects;
  places = formed.places;
  points = formed.points;
  tails = formed.tails;
  slots = formed.slots;
  words = formed.words;
  blocks = formed.blocks;
  registered = formed.registered;
  messages = formed.messages;
  names = formed.names;
  labels = formed.labels;
  dependents = refl;
  parked = formed.parked;
  running = formed.running;
  transforms = formed.transforms;
  caches = formed.caches;
  frames = formed.frames;
  dependencies = formed.dependencies;
}
