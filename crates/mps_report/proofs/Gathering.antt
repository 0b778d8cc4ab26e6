-- Texts gathered one after the other.
use Rattle.std.proofs.Common.{◌≡◌, ℕ, List, ◌∷◌, ◌++◌, sym, ap, ◌∙◌, append_assoc}
use Rattle.std.specs.List.{flat_map}
use Rattle.mps_desk.specs.Desk.{Outside}
use Rattle.mps_report.specs.Streams.{Gathers}
use Rattle.mps_report.proofs.Outside.{prints-then}

-- the lines one after the other
abbrev pub joined : List (List ℕ) → List ℕ
joined lines = flat_map (λ line. line) lines

pub gathers-then : (a b c : Outside) (x y z t u : List ℕ) → Gathers a b x y t → Gathers b c y z u → Gathers a c x z (t ++ u)
gathers-then a b c x y z t u e f = record {
  front = e.front ++ f.front;
  printed = prints-then a b c e.front f.front e.printed f.printed;
  same = sym (append_assoc x t u) ∙ ap (λ (p : List ℕ). p ++ u) e.same ∙ append_assoc e.front y u
      ∙ ap (λ (p : List ℕ). e.front ++ p) f.same ∙ sym (append_assoc e.front f.front z);
}

-- some of the lines were gathered
pub record IsGathered (old new : Outside) (before after : List ℕ) (all left : List (List ℕ)) : Type 0 where
  pub text : List ℕ
  pub gathers : Gathers old new before after text
  pub lines : joined all ≡ text ++ joined left

pub gathered_more : (a b c : Outside) (x y z : List ℕ) (all left rest : List (List ℕ)) (line : List ℕ)
    → IsGathered a b x y all left → left ≡ line ∷ rest → Gathers b c y z line → IsGathered a c x z all rest
gathered_more a b c x y z all left rest line e is f = record {
  text = e.text ++ line;
  gathers = gathers-then a b c x y z e.text line e.gathers f;
  lines = e.lines ∙ ap (λ (ls : List (List ℕ)). e.text ++ joined ls) is ∙ sym (append_assoc e.text line (joined rest));
}
