-- A fix leaves an object that isn't white where it is.
use Rattle.std.proofs.Common.{◌≡◌, ◌∙◌, ℕ, false, sym, ap, List, Option, Some}
use Rattle.std.proofs.lemmas.Bool.{false≢true}
use Rattle.mps_base.specs.Address.{Address, Id, Word}
use Rattle.mps_model.specs.Graph.{Object}
use Rattle.mps_abstract.specs.Colours.{Colours, is_white}
use Rattle.mps_trace_laws.specs.Image.Memory.{Setting, Lies}
use Rattle.mps_trace_laws.specs.Image.Fixing.{FixesOne, nothing, passed, kept, moved}
use Rattle.mps_trace_laws.proofs.Image.Entries.{entry_at-set_other}

-- an object that isn't white stays where it is
pub holder_stays : (s : Setting) (addresses addresses' : List (Option Address)) (k k' : Colours) (t : Option Id) (holder i : ℕ) (o : Object)
    (n : Word) → FixesOne s.condemned addresses k t addresses' k' → is_white s.condemned k holder ≡ false
    → Lies s.objects addresses holder i o n → Lies s.objects addresses' holder i o n
holder_stays s addresses addresses' k k' t holder i o n nothing w l = l
holder_stays s addresses addresses' k k' t holder i o n (passed u w') w l = l
holder_stays s addresses addresses' k k' t holder i o n (kept u w') w l = l
holder_stays s addresses addresses' k k' t holder i o n (moved u from to w' e) w l = record {
  at = l.at;
  address =
      entry_at-set_other addresses u holder (Some to) (λ same. false≢true (sym w ∙ ap (is_white s.condemned k) same ∙ w')) ∙ l.address;
  object = l.object;
  within = l.within;
  is = l.is;
}
