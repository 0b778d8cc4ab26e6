-- An object is made: a block is committed in the place of a reservation, or allocated.
use Rattle.std.proofs.Common.{◌≡◌, ◌∙◌, ℕ, ◌+◌, ◌<◌, false, refl, sym, ap, List, [], ◌∷◌, ◌++◌, length, Option, Some, subst, inl, inr, arith, slice_index}
use Rattle.std.proofs.lemmas.Bool.{true≢false, cases_eq, cases_Bool, or_cases, or_left, or_right}
use Rattle.std.proofs.lemmas.Option.{none-some}
use Rattle.std.specs.Prelude.{slice_get, not, ◌&&◌, ◌≢◌}
use Rattle.mps_base.specs.Address.{Address, Id, Word, word_of}
use Rattle.mps_model.specs.Graph.{Object, Point, entry_at, size_of}
use Rattle.mps_model.specs.Checked.{head_of_body}
use Rattle.mps_model.specs.World.{PointMemory}
use Rattle.mps_abstract.specs.Colours.{Colours, is_white, is_grey}
use Rattle.mps_trace_laws.specs.Image.Memory.{Setting, Memory, Lies, LiesReserved, BlockBegins, all_cells}
use Rattle.mps_trace_laws.specs.Image.Image.{IsFixedWord, CellSet, MarksStand, ImageStands, is_white_over}
use Rattle.mps_trace_laws.specs.Image.Changes.{setting_made, addresses_made, IsObjectMade}
use Rattle.mps_trace_laws.proofs.Image.Entries.{slice_get-last, entry_pushed, entry_still}
use Rattle.mps_trace_laws.proofs.Image.LastObject.{old_below, old_object, lies_made, new_address, new_there}
use Rattle.mps_trace_laws.proofs.Image.Marked.{begins_apart}
use Rattle.mps_trace_laws.proofs.Image.Changing.{Change, CallChanges, words_changed, fixed_changed}

module _ (s : Setting) (m m' : Memory) (addresses : List (Option Address)) (k : Colours) (done : CellSet) (o : Object) (at : Address)
    (points : List (Option Point)) (memories : List PointMemory) (st : ImageStands s m addresses k done)
    (v : IsObjectMade s m m' addresses k o at points memories) where
  abbrev new : Id
  new = length s.objects

  abbrev change : Change
  change = record {
    before = s;
    objects = s.objects ++ o ∷ [];
    points = points;
    memories = memories;
    words = m.words;
    words_after = m'.words;
    addresses = addresses;
    addresses_after = addresses_made addresses at;
  }

  -- the words of others aren't the new ones
  not_new : (id i : ℕ) (p : Object) (n : Word) → Lies s.objects addresses id i p n
      → Lies (s.objects ++ o ∷ []) (addresses_made addresses at) id i p n → (q : ℕ) → q < size_of o → n ≢ word_of at + q
  not_new id i p n l there q lt e =
      let same : id ≡ new =
      v.placed.apart id new i q p o (word_of at + q)
      (subst (λ y. Lies (s.objects ++ o ∷ []) (addresses_made addresses at) id i p y) e there)
      (new_there s.objects addresses o at v.numbered q lt)
      in
      absurd (omega (arith, old_below s.objects addresses o at v.numbered id l.at l.address, same))

  changes : CallChanges change k done
  changes = record {
    long = v.long;
    cells = λ id i p n c there cell. elim (lies_made s.objects addresses o at v.numbered id i p n there) [
      | inl e ↦
          let cell' : slice_get (all_cells o.body) i ≡ Some c = subst (λ (q : Object). slice_get (all_cells q.body) i ≡ Some c) e.1 cell in
          inr (subst (λ y. IsFixedWord s.condemned (addresses_made addresses at) k (head_of_body p.body) c (slice_index m'.words y))
          (sym e.3)
          (subst (λ (q : Object). IsFixedWord s.condemned (addresses_made addresses at) k (head_of_body q.body) c
          (slice_index m'.words (word_of at + i)))
          (sym e.1) (v.words i c cell')))
      | inr l ↦
          inl (record {
            was = p;
            lies = l;
            cell = cell;
            head = refl;
            word = v.others n (not_new id i p n l there);
            target = λ t e any a is. entry_still addresses (Some at) t a is;
          })
    ];
    reserved = λ point i r n c there cell.
        let l = v.reserved point i r n there in
        let apart : (q : ℕ) → q < size_of o → n ≢ word_of at + q =
        λ q lt e. v.placed.reserved_apart new point q i o r (word_of at + q) (new_there s.objects addresses o at v.numbered q lt)
        (subst (λ y. LiesReserved points memories point i r y) e there)
        in
        inl (record {
          point = point;
          i = i;
          was = r;
          lies = l;
          cell = cell;
          head = refl;
          word = v.others n apart;
          target = λ t e a is. entry_still addresses (Some at) t a is;
        });
    forwarded = λ id from to p was now apart object.
        elim (entry_pushed addresses at id to now) [
          | inl e ↦
              absurd (none-some from (sym v.fresh ∙ ap (entry_at s.at_flip) (sym (e.0 ∙ v.numbered)) ∙ was))
          | inr e ↦
              let was_object = old_object s.objects addresses o at v.numbered id p
              (old_below s.objects addresses o at v.numbered id to e) object in
              let f = st.words.forwarded id from to p was e apart was_object in
              let not_there : (q i : ℕ) → q < size_of p → i < size_of o → word_of from + q ≢ word_of at + i =
              λ q i lq li x. (v.clear i li).clear id from to p q was e apart was_object lq (sym x)
              in
              record {
                was = p;
                there = e;
                object = was_object;
                pool = refl;
                size = refl;
                words = λ q lt. v.others (word_of from + q) (λ i li. not_there q i lt li);
                free = λ q j l p' lt there. elim (lies_made s.objects addresses o at v.numbered j l p' (word_of from + q) there) [
                  | inl x ↦ not_there q l lt x.2 x.3
                  | inr x ↦ f.free q j l p' lt x
                ];
                unreserved = λ q point l r lt there. f.unreserved q point l r lt (v.reserved point l r (word_of from + q) there);
              }
        ];
  }

  still : (id : Id) (a : Address) → entry_at addresses id ≡ Some a → entry_at (addresses_made addresses at) id ≡ Some a
  still id a e = entry_still addresses (Some at) id a e

  positive : 0 < size_of o
  positive = v.placed.positive new at o (new_address s.objects addresses o at v.numbered) (slice_get-last s.objects o)

  -- no block began where the new one begins
  unoccupied : BlockBegins addresses (word_of at) → ⊥
  unoccupied x =
      begins_apart (setting_made s o points memories) (addresses_made addresses at) v.placed x.id new x.at at
      (still x.id x.at x.address) (new_address s.objects addresses o at v.numbered)
      (λ e. omega (arith, old_below s.objects addresses o at v.numbered x.id x.at x.address, e)) (sym x.is)

  not_marked : m.grey (word_of at) ≡ false
  not_marked =
      elim (cases_Bool (m.grey (word_of at))) [
        | inl is ↦ absurd (unoccupied (st.marks.marked (word_of at) (or_right (m.kept (word_of at)) (m.grey (word_of at)) is)))
        | inr isnt ↦ isnt
      ]

  others_apart : (id : Id) (a : Address) → entry_at addresses id ≡ Some a → word_of a ≢ word_of at
  others_apart id a e same = unoccupied (record { id = id; at = a; address = e; is = sym same })

  marks_made : MarksStand (setting_made s o points memories) m'.kept m'.grey (addresses_made addresses at) k
  marks_made = record {
    white_there = λ id a e. elim (entry_pushed addresses at id a e) [
      | inl x ↦
          subst (λ y. is_white s.condemned k y ≡ false) (sym (x.0 ∙ v.numbered)) v.not_white
          ∙ sym (ap (λ y. is_white_over s.is_condemned_over m'.kept (word_of y)) x.1 ∙ v.mark)
      | inr x ↦
          st.marks.white_there id a x
          ∙ ap (λ b. s.is_condemned_over (word_of a) && not b) (sym (v.kept_others (word_of a) (others_apart id a x)))
    ];
    grey_there = λ id a e. elim (entry_pushed addresses at id a e) [
      | inl x ↦
          subst (λ y. is_grey k y ≡ false) (sym (x.0 ∙ v.numbered)) v.not_grey
          ∙ sym (ap (λ y. m'.grey (word_of y)) x.1 ∙ v.grey_same (word_of at) ∙ not_marked)
      | inr x ↦ st.marks.grey_there id a x ∙ sym (v.grey_same (word_of a))
    ];
    marked = λ n is. elim (cases_eq n (word_of at)) [
      | inl same ↦ record { id = new; at = at; address = (new_address s.objects addresses o at v.numbered); is = same }
      | inr other ↦
          let x =
          st.marks.marked n (elim (or_cases (m'.kept n) (m'.grey n) is) [
            | inl e ↦ or_left (m.kept n) (m.grey n) (sym (v.kept_others n other) ∙ e)
            | inr e ↦ or_right (m.kept n) (m.grey n) (sym (v.grey_same n) ∙ e)
          ])
          in
          record { id = x.id; at = x.at; address = still x.id x.at x.address; is = x.is }
    ];
    unmoved = λ id a e read white. elim (entry_pushed addresses at id a e) [
      | inl x ↦
          absurd (true≢false (sym white ∙ subst (λ y. is_white s.condemned k y ≡ false) (sym (x.0 ∙ v.numbered)) v.not_white))
      | inr x ↦ st.marks.unmoved id a x read white
    ];
  }

  pub image_made : ImageStands (setting_made s o points memories) m' (addresses_made addresses at) k done
  image_made = record {
    placed = v.placed;
    words = words_changed change k done changes st.words;
    fixed = fixed_changed change k done changes st.fixed;
    marks = marks_made;
    runs = v.runs;
  }
