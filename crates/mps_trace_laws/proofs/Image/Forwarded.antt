-- A block that has moved stays forwarded where its old words stay.
use Rattle.std.proofs.Common.{◌≡◌, ◌∙◌, ℕ, ◌+◌, ◌<◌, sym, List, length, Option, arith, slice_index}
use Rattle.std.proofs.lemmas.List.{get_or-drop, length-drop}
use Rattle.mps_base.specs.Address.{Address, word_of}
use Rattle.mps_model.specs.Graph.{Object, size_of}
use Rattle.mps_trace_laws.specs.Image.Memory.{Setting}
use Rattle.mps_trace_laws.specs.Image.Image.{IsForwardedObject}

pub forwarded_still : (s : Setting) (words words' : List ℕ) (addresses : List (Option Address)) (o : Object) (from to : Address)
    → length words' ≡ length words
    → ((k : ℕ) → k < size_of o → slice_index words' (word_of from + k) ≡ slice_index words (word_of from + k))
    → IsForwardedObject s words addresses o from to → IsForwardedObject s words' addresses o from to
forwarded_still s words words' addresses o from to long same f = record {
  begins = record {
    in_range = f.begins.in_range;
    whole = omega (arith, f.begins.whole, length-drop (word_of from) words, length-drop (word_of from) words', long);
    head =
        let e : word_of from + 0 ≡ word_of from = omega arith in
        get_or-drop (word_of from) words' 0 0 ∙ same 0 (omega (arith, f.begins.in_range.0))
        ∙ sym (get_or-drop (word_of from) words 0 0) ∙ f.begins.head;
  };
  leads = same 1 (omega (arith, f.begins.in_range.0)) ∙ f.leads;
  condemned = f.condemned;
  home = f.home;
  free = f.free;
  unreserved = f.unreserved;
}
