-- A heap goes on standing for some world, whatever the numbers of its formats are: when it is new, and after each call that is right.
use Rattle.std.proofs.Common.{◌≡◌, ◌≢◌, ◌∙◌, ℕ, false, refl, sym, ap, subst, [], ◌∷◌, ◌++◌, List, length, Option, Some, None, Result, Ok, Err, inl, inr}
use Rattle.std.proofs.lemmas.Option.{none-some}
use Rattle.std.specs.Prelude.{slice_get}
use Rattle.std.specs.Option.{option_map_or}
use Rattle.mps_base.specs.declared.moves.Move.{Move}
use Rattle.mps_base.specs.declared.refusal.Refusal.{Refusal}
use Rattle.mps_base.specs.declared.refusal.Refusal.TheVariants as refusal
use Rattle.mps_buffer.specs.Points.{AreReserved}
use Rattle.mps_format.specs.Front.{front_layout}
use Rattle.mps_format.specs.Laws.{front_is_lawful}
use Rattle.mps_format.specs.Layout.{Layout, IsLawful}
use Rattle.mps_trace_laws.proofs.Image.Entries.{slice_get-last, slice_get-pushed, slice_get-still}
use Rattle.mps_changes.specs.Change.{makes_arena}
use Rattle.mps_laws.proofs.WellFormedHistories.{step_grains}
use Rattle.mps_model.specs.declared.call.Call.{Call}
use Rattle.mps_model.specs.Answer.{Answer}
use Rattle.mps_model.specs.History.{world_after}
use Rattle.mps_model.specs.World.{World, empty_world_of}
use Rattle.mps_heap_spec.specs.State.{HeapState, IsReady}
use Rattle.mps_refinement.specs.Making.{IsRightMaking, IsRightMakingIn, MeansLayout, answer_of_making}
use Rattle.mps_refinement.specs.NewHeap.{arena_step}
use Rattle.mps_refinement.specs.RightStep.{IsRight, IsRightIn, step_of}
use Rattle.mps_refinement.specs.StandsFor.{StandsFor}
use Rattle.mps_refinement.specs.StandsForSome.{AreFormats, StandsForSome, StandsWith}
use Rattle.mps_refinement.proofs.Worlds.Ready.{all_are_reserved, ready}

-- ---- formats that have the first numbers

-- what a number means: one of these, or the format `front`
abbrev chosen : List Layout → ℕ → Layout
chosen used number = option_map_or (λ l. l) (slice_get used number) front_layout

chosen_are : (used : List Layout) → ((number : ℕ) (l : Layout) → slice_get used number ≡ Some l → IsLawful l)
    → AreFormats used (chosen used)
chosen_are used lawful = record {
  lawful = λ number. of_found number (slice_get used number) refl;
  first = λ number l is. ap (λ (o : Option Layout). option_map_or (λ l. l) o front_layout) is;
}
  where
    of_found : (number : ℕ) (o : Option Layout) → slice_get used number ≡ o → IsLawful (option_map_or (λ l. l) o front_layout)
    of_found number (Some l) is = lawful number l is
    of_found number None is = front_is_lawful

-- ---- calls

module _ {F : Type 0} (layout : F → Layout) where
  pub stays : (h after : HeapState F) (c : Call) (ms : List Move) (answer : Answer) → StandsForSome layout h
      → IsRight layout h c ms answer after → StandsForSome layout after
  stays h after c ms answer some right = record {
    used = some.used;
    lawful = some.lawful;
    stands = λ formats are.
        let s = some.stands formats are in
        let r = right s.world 0 s.stands in
        record { world = world_after s.world (step_of 0 c ms answer); formats_are = r.formats ∙ s.formats_are; stands = r.stands };
  }

  -- a call that makes something, or is out of memory
  pub making_stays : {A : Type 0} (h after : HeapState F) (c : Call) (result : Result A Refusal) → StandsForSome layout h
      → IsRightMaking layout h c result after → StandsForSome layout after
  making_stays {A} h after c result some right = of_result result refl
    where
      answered : result ≢ Err refusal.OutOfMemory → StandsForSome layout after
      answered other = stays h after c [] (answer_of_making result) some (right.answered other)

      out : result ≡ Err refusal.OutOfMemory → StandsForSome layout after
      out is = record {
        used = some.used;
        lawful = some.lawful;
        stands = λ formats are.
            let s = some.stands formats are in
            record { world = s.world; formats_are = s.formats_are; stands = right.out_of_memory is s.world s.stands };
      }

      of_result : (r : Result A Refusal) → result ≡ r → StandsForSome layout after
      of_result (Ok a) is = answered (λ e. absurd (let f : Ok a ≡ Err refusal.OutOfMemory = sym is ∙ e in absurd cc))
      of_result (Err refusal.OutOfMemory) is = out is
      of_result (Err _) is = answered (λ e. absurd (let f = sym is ∙ e in absurd cc))

  -- a new pool has the number of the next format; the call has the number that it is given
  pub pool_stays : {A : Type 0} (h after : HeapState F) (numbered : ℕ → Call) (format : F) (result : Result A Refusal)
      → IsLawful (layout format) → StandsForSome layout h
      → ((number : ℕ) → IsRightMakingIn layout (MeansLayout number (layout format)) h (numbered number) result after)
      → StandsForSome layout after
  pool_stays {A} h after numbered format result lawful some right = record {
    used = some.used ++ layout format ∷ [];
    lawful = λ number l is.
        elim (slice_get-pushed some.used (layout format) number l is) [
          | inl e ↦ subst IsLawful (sym e.1) lawful
          | inr e ↦ some.lawful number l e
        ];
    stands = λ formats are.
        let s = some.stands formats (record {
          lawful = are.lawful;
          first = λ number l is. are.first number l (slice_get-still some.used (layout format) number l is);
        }) in
        of_world formats s (are.first number (layout format) (slice_get-last some.used (layout format)));
  }
    where
      number : ℕ
      number = length some.used

      answered : result ≢ Err refusal.OutOfMemory → (formats : ℕ → Layout) → StandsWith layout h formats → formats number ≡ layout format
          → StandsWith layout after formats
      answered other formats s means =
          let r = (right number).answered other s.world 0 (ap (λ (f : ℕ → Layout). f number) s.formats_are ∙ means) s.stands in
          record {
            world = world_after s.world (step_of 0 (numbered number) [] (answer_of_making result));
            formats_are = r.formats ∙ s.formats_are;
            stands = r.stands;
          }

      out : result ≡ Err refusal.OutOfMemory → (formats : ℕ → Layout) → StandsWith layout h formats → StandsWith layout after formats
      out is formats s =
          record { world = s.world; formats_are = s.formats_are; stands = (right number).out_of_memory is s.world s.stands }

      of_result : (r : Result A Refusal) → result ≡ r → (formats : ℕ → Layout) → StandsWith layout h formats
          → formats number ≡ layout format
          → StandsWith layout after formats
      of_result (Ok a) is formats s means = answered (λ e. absurd (let f = sym is ∙ e in absurd cc)) formats s means
      of_result (Err refusal.OutOfMemory) is formats s means = out is formats s
      of_result (Err _) is formats s means = answered (λ e. absurd (let f = sym is ∙ e in absurd cc)) formats s means

      of_world : (formats : ℕ → Layout) → StandsWith layout h formats → formats number ≡ layout format → StandsWith layout after formats
      of_world formats s means = of_result result refl formats s means

  -- a new heap
  pub new_stays : (grains limit : ℕ) (h : HeapState F)
      → ((formats : ℕ → Layout) → ((number : ℕ) → IsLawful (formats number)) → (line : ℕ)
      → IsRightIn layout (empty_world_of formats) (arena_step line grains limit) h)
      → StandsForSome layout h
  new_stays grains limit h right = record {
    used = [];
    lawful = λ number l is. absurd (none-some l is);
    stands = λ formats are.
        let r = right formats are.lawful 0 in
        record { world = world_after (empty_world_of formats) (arena_step 0 grains limit); formats_are = r.formats; stands = r.stands };
  }

  -- ---- what the calls of points ask for

  some_world : (h : HeapState F) → (some : StandsForSome layout h) → StandsWith layout h (chosen some.used)
  some_world h some = some.stands (chosen some.used) (chosen_are some.used some.lawful)

  pub is_ready : (h : HeapState F) → StandsForSome layout h → IsReady h
  is_ready h some = let s = some_world h some in ready layout h s.world s.stands

  pub are_reserved : (h : HeapState F) → StandsForSome layout h → AreReserved h.points.flips h.points.points h.segs
  are_reserved h some = let s = some_world h some in all_are_reserved layout h s.world s.stands

  -- a world for which it stands
  pub one_world : (h : HeapState F) → StandsForSome layout h → (w : World) × StandsFor layout h w
  one_world h some = let s = some_world h some in (s.world, s.stands)

  -- after a call that is right its arena has as many grains
  pub grains_stay : (h after : HeapState F) (c : Call) (ms : List Move) (answer : Answer) → StandsForSome layout h
      → IsRight layout h c ms answer after → makes_arena c ≡ false → after.segs.grains ≡ h.segs.grains
  grains_stay h after c ms answer some right other =
      let s = one_world h some in
      let r = right s.0 0 s.1 in
      r.stands.parts.grains ∙ step_grains 0 s.0 c ms answer other ∙ sym s.1.parts.grains
