-- The words of an arena represent the same as long as the formats of the pools that objects have are as before.
use Rattle.std.proofs.Common.{ℕ, List, Option, ◌≡◌, sym, subst}
use Rattle.mps_base.specs.Address.{Address, Id, word_of}
use Rattle.mps_format.specs.Layout.{Layout}
use Rattle.mps_trace_laws.specs.Image.Image.{CellSet, ImageStands}
use Rattle.mps_trace_laws.specs.Image.Memory.{Memory, Setting}
use Rattle.mps_model.specs.Graph.{Object, size_of}
use Rattle.std.specs.Prelude.{Some, drop, slice_get}
use Rattle.mps_abstract.specs.Colours.{Colours}
use Rattle.mps_format.specs.Blocks.{BeginsForwarded}
use Rattle.mps_trace_laws.proofs.Image.Placed.{placed_otherwise}

pub other_formats_stand : (s : Setting) (those : ℕ → Layout) (m : Memory) (addresses : List (Option Address)) (k : Colours) (done : CellSet)
    → ((id : Id) (o : Object) → slice_get s.objects id ≡ Some o → those o.pool ≡ s.layout o.pool)
    → ImageStands s m addresses k done → ImageStands (record s { layout = those }) m addresses k done
other_formats_stand s those m addresses k done same st = record {
  placed =
      placed_otherwise s addresses st.placed those s.at_flip s.condemned s.is_read s.is_condemned_over st.placed.address_at_flip
      st.placed.whole;
  words = record {
    long = st.words.long;
    cells = st.words.cells;
    forwarded = λ id from to o was now apart object.
        let f = st.words.forwarded id from to o was now apart object in
        record {
          begins = subst (λ l. BeginsForwarded l (drop (word_of from) m.words) (size_of o)) (sym (same id o object)) f.begins;
          leads = f.leads;
          condemned = f.condemned;
          home = f.home;
          free = f.free;
          unreserved = f.unreserved;
        };
  };
  fixed = record { cells = st.fixed.cells; reserved = st.fixed.reserved };
  marks = record {
    white_there = st.marks.white_there;
    grey_there = st.marks.grey_there;
    marked = st.marks.marked;
    unmoved = st.marks.unmoved;
  };
  runs = record { blocks = st.runs.blocks; reservations = st.runs.reservations; covered = st.runs.covered };
}
