-- Records one after the other.
use Rattle.std.proofs.Common.{◌≡◌, ℕ, List, [], ◌∷◌, ◌++◌, ap, ◌∙◌}
use Rattle.std.specs.List.{All, flat_map}
use Rattle.std.proofs.lemmas.List.{append-nil}
use Rattle.std.proofs.lemmas.List.Elements.{All-append, All-cons, All-nil}
use Rattle.std.proofs.lemmas.Grind.{flat_map-append}
use Rattle.mps_base.specs.Record.{Record}
use Rattle.mps_event.specs.declared.version.Version.{Version}
use Rattle.mps_event.specs.Grammar.{IsRecord}

pub all_and_one : (version : Version) (rs : List Record) (r : Record) → All (IsRecord version) rs → IsRecord version r
    → All (IsRecord version) (rs ++ r ∷ [])
all_and_one version rs r h k = All-append (IsRecord version) rs (r ∷ []) h (All-cons (IsRecord version) r [] k (All-nil (IsRecord version)))

pub flat_one : (f : Record → List ℕ) (rs : List Record) (r : Record) → flat_map f (rs ++ r ∷ []) ≡ flat_map f rs ++ f r
flat_one f rs r = flat_map-append f rs (r ∷ []) ∙ ap (λ (x : List ℕ). flat_map f rs ++ x) (append-nil (f r))
