-- The lines of the blocks, gathered one after the other and printed.
use Rattle.std.proofs.Common.{◌≡◌, ℕ, List, [], ◌++◌, length, take, drop, Result, Ok, Err, sym, ap, ◌∙◌, append_assoc}
use Rattle.std.specs.Prelude.{OnErr}
use Rattle.std.proofs.lemmas.List.{append-nil, take-append-drop}
use Rattle.std.proofs.Math.Seq.{take-append_seam}
use Rattle.mps_desk.specs.Desk.{Outside}
use Rattle.mps_report.specs.Streams.{PrintsPart, Gathers}
use Rattle.mps_report.proofs.Gathering.{gathers-then}
use Rattle.mps_report.proofs.Outside.{part_after_front}

-- a prefix of a text was gathered, and this is left of it
pub record IsGatheredUpTo (old new : Outside) (before after all left : List ℕ) : Type 0 where
  pub text : List ℕ
  pub gathers : Gathers old new before after text
  pub split : all ≡ text ++ left

pub gathered_more : (a b c : Outside) (x y z all left line rest : List ℕ) → IsGatheredUpTo a b x y all left → left ≡ line ++ rest
    → Gathers b c y z line → IsGatheredUpTo a c x z all rest
gathered_more a b c x y z all left line rest e is f = record {
  text = e.text ++ line;
  gathers = gathers-then a b c x y z e.text line e.gathers f;
  split = e.split ∙ ap (λ (t : List ℕ). e.text ++ t) is ∙ sym (append_assoc e.text line rest);
}

pub all_gathered : (a b : Outside) (x y all : List ℕ) → Gathers a b x y all → IsGatheredUpTo a b x y all []
all_gathered a b x y all e = record { text = all; gathers = e; split = sym (append-nil all) }

-- a fault after that: a prefix of the whole text was printed
pub part_printed : (a b c : Outside) (x y all left : List ℕ) → x ≡ [] → IsGatheredUpTo a b x y all left → PrintsPart b c y
    → PrintsPart a c all
part_printed a b c x y all left empty e p =
    let front = e.gathers.front in
    let some = take p.count y in
    let following = drop p.count y ++ left in
    let text : e.text ≡ front ++ y = ap (λ (t : List ℕ). t ++ e.text) (sym empty) ∙ e.gathers.same in
    let parts : y ≡ some ++ drop p.count y = sym (take-append-drop p.count y) in
    let whole : all ≡ (front ++ some) ++ following =
    e.split
    ∙ ap (λ (t : List ℕ). t ++ left) text
    ∙ append_assoc front y left
    ∙ ap (λ (t : List ℕ). front ++ (t ++ left)) parts
    ∙ ap (λ (t : List ℕ). front ++ t) (append_assoc some (drop p.count y) left)
    ∙ sym (append_assoc front some following) in
    part_after_front a b c front y all (length (front ++ some)) e.gathers.printed p
    (sym (ap (take (length (front ++ some))) whole ∙ take-append_seam (front ++ some) following))

-- what holds holds where there is an error
pub on_err_of : {T E P : Type 0} (r : Result T E) → P → OnErr r P
on_err_of (Ok value) h = tt
on_err_of (Err why) h = h
