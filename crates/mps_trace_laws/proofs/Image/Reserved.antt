-- A reservation is setting_made, a cell of one is written, or reservations end.
use Rattle.std.proofs.Common.{◌∙◌, ℕ, ◌+◌, ◌<◌, refl, sym, ap, List, Option, subst, inl, inr}
use Rattle.std.specs.Prelude.{◌||◌, IsTrue}
use Rattle.mps_base.specs.Address.{Address, word_of}
use Rattle.mps_model.specs.Graph.{Point, Reservation, size_of}
use Rattle.mps_model.specs.World.{PointMemory}
use Rattle.mps_abstract.specs.Colours.{Colours}
use Rattle.mps_trace_laws.specs.Image.Memory.{Setting, Memory, LiesReserved}
use Rattle.mps_trace_laws.specs.Image.Image.{CellSet, ImageStands, is_white_over}
use Rattle.mps_trace_laws.specs.Image.Changes.{setting_with_points, AreReservationsChanged}
use Rattle.mps_trace_laws.proofs.Image.Changing.{Change, CallChanges, words_changed, fixed_changed}

module _ (s : Setting) (m m' : Memory) (addresses : List (Option Address)) (k : Colours) (done : CellSet) (points : List (Option Point))
    (memories : List PointMemory) (st : ImageStands s m addresses k done)
    (v : AreReservationsChanged s m m' addresses k points memories) where
  abbrev change : Change
  change = record {
    before = s;
    objects = s.objects;
    points = points;
    memories = memories;
    words = m.words;
    words_after = m'.words;
    addresses = addresses;
    addresses_after = addresses;
  }

  changes : CallChanges change k done
  changes = record {
    long = v.long;
    cells = λ id i o n c l cell. inl (record {
      was = o;
      lies = l;
      cell = cell;
      head = refl;
      word = elim (v.written n) [
        | inl e ↦ e
        | inr x ↦ absurd (v.placed.reserved_apart id x.0 i x.1 o x.2 n l x.3)
      ];
      target = λ t e any at is. is;
    });
    reserved = λ point i r n c l cell. elim (v.cells point i r n c l cell) [
      | inl x ↦
          inl (record {
            point = point;
            i = i;
            was = x.0;
            lies = x.1;
            cell = x.2;
            head = x.3;
            word = x.4;
            target = λ t e at is. is;
          })
      | inr f ↦ inr f
    ];
    forwarded = λ id from to o was now apart object.
        let f = st.words.forwarded id from to o was now apart object in
        let not_there : (q point i : ℕ) (r : Reservation) → q < size_of o → LiesReserved points memories point i r (word_of from + q) → ⊥ =
        λ q point i r lt there. (v.clear point i r (word_of from + q) there).clear id from to o q was now apart object lt refl
        in
        record {
          was = o;
          there = now;
          object = object;
          pool = refl;
          size = refl;
          words = λ q lt. elim (v.written (word_of from + q)) [
            | inl e ↦ e
            | inr x ↦ absurd (not_there q x.0 x.1 x.2 lt x.3)
          ];
          free = f.free;
          unreserved = λ q point i r lt there. not_there q point i r lt there;
        };
  }

  pub image_reserved : ImageStands (setting_with_points s points memories) m' addresses k done
  image_reserved = record {
    placed = v.placed;
    words = words_changed change k done changes st.words;
    fixed = fixed_changed change k done changes st.fixed;
    marks = record {
      white_there = λ id at e.
          st.marks.white_there id at e
          ∙ ap (λ b. is_white_over s.is_condemned_over (λ n. b) (word_of at)) (sym (v.kept_same (word_of at)));
      grey_there = λ id at e. st.marks.grey_there id at e ∙ sym (v.grey_same (word_of at));
      marked = λ n is.
          st.marks.marked n
          (subst (λ b. IsTrue (b || m.grey n)) (v.kept_same n)
          (subst (λ b. IsTrue (m'.kept n || b)) (v.grey_same n) is));
      unmoved = st.marks.unmoved;
    };
    runs = v.runs;
  }
