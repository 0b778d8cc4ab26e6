-- The fields of a record, as a prefix of an array of four.
use Rattle.std.proofs.Common.{◌≡◌, ℕ, List, [], ◌∷◌, length, take, arith, refl}
use Rattle.mps_event.specs.declared.event.Event.{Event}
use Rattle.mps_event.specs.declared.event.Event.TheVariants.{ArenaCreate, LimitSet, PoolCreate, Flip, End, SegAlloc, SegFree, Splat, Commit, Alloc, Move, Stay, Post, Free, Intern, Label}
use Rattle.mps_event.specs.Event.{field_count_of}
use Rattle.mps_txt.specs.Labels.{Naming, after_event}
use Rattle.mps_txt.specs.Readable.{event_text}

-- what holds of each four numbers holds of a list of four
pub by_four : (P : List ℕ → Type 0) → ((a b c d : ℕ) → P (a ∷ b ∷ c ∷ d ∷ [])) → (fields : List ℕ) → length fields ≡ 4 → P fields
by_four P each [] e = absurd (omega (arith, e))
by_four P each (a ∷ []) e = absurd (omega (arith, e))
by_four P each (a ∷ b ∷ []) e = absurd (omega (arith, e))
by_four P each (a ∷ b ∷ c ∷ []) e = absurd (omega (arith, e))
by_four P each (a ∷ b ∷ c ∷ d ∷ []) e = each a b c d
by_four P each (a ∷ b ∷ c ∷ d ∷ x ∷ rest) e = absurd (omega (arith, e))

after_four : (event : Event) (s : Naming) (a b c d : ℕ)
    → after_event event (take (field_count_of event) (a ∷ b ∷ c ∷ d ∷ [])) s ≡ after_event event (a ∷ b ∷ c ∷ d ∷ []) s
after_four ArenaCreate s a b c d = refl
after_four LimitSet s a b c d = refl
after_four PoolCreate s a b c d = refl
after_four Flip s a b c d = refl
after_four End s a b c d = refl
after_four SegAlloc s a b c d = refl
after_four SegFree s a b c d = refl
after_four Splat s a b c d = refl
after_four Commit s a b c d = refl
after_four Alloc s a b c d = refl
after_four Move s a b c d = refl
after_four Stay s a b c d = refl
after_four Post s a b c d = refl
after_four Free s a b c d = refl
after_four Intern s a b c d = refl
after_four Label s a b c d = refl

-- the fields after those of the event do nothing
pub after_event-take : (event : Event) (fields : List ℕ) (s : Naming) → length fields ≡ 4
    → after_event event (take (field_count_of event) fields) s ≡ after_event event fields s
after_event-take event fields s four =
    by_four (λ (x : List ℕ). after_event event (take (field_count_of event) x) s ≡ after_event event x s) (after_four event s) fields four

text_of_four : (before after : Naming) (event : Event) (a b c d : ℕ)
    → event_text before after event (take (field_count_of event) (a ∷ b ∷ c ∷ d ∷ [])) ≡ event_text before after event (a ∷ b ∷ c ∷ d ∷ [])
text_of_four before after ArenaCreate a b c d = refl
text_of_four before after LimitSet a b c d = refl
text_of_four before after PoolCreate a b c d = refl
text_of_four before after Flip a b c d = refl
text_of_four before after End a b c d = refl
text_of_four before after SegAlloc a b c d = refl
text_of_four before after SegFree a b c d = refl
text_of_four before after Splat a b c d = refl
text_of_four before after Commit a b c d = refl
text_of_four before after Alloc a b c d = refl
text_of_four before after Move a b c d = refl
text_of_four before after Stay a b c d = refl
text_of_four before after Post a b c d = refl
text_of_four before after Free a b c d = refl
text_of_four before after Intern a b c d = refl
text_of_four before after Label a b c d = refl

-- and they are not shown
pub event_text-take : (before after : Naming) (event : Event) (fields : List ℕ) → length fields ≡ 4
    → event_text before after event (take (field_count_of event) fields) ≡ event_text before after event fields
event_text-take before after event fields four =
    by_four (λ (x : List ℕ). event_text before after event (take (field_count_of event) x) ≡ event_text before after event x)
    (text_of_four before after event) fields four
