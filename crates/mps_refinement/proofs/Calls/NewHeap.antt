-- A new heap stands for the world that `arena` leaves in the empty one, whatever the formats, where all are lawful.
use Rattle.std.proofs.Common.{◌+◌, ◌*◌, ◌<◌, ◌≤◌, ◌≡◌, ◌∙◌, ℕ, refl, sym, ap, List, [], ◌∷◌, Option, None, inl, inr, replicate, get_or, arith}
use Rattle.std.proofs.lemmas.Bool.{cases_lt}
use Rattle.std.proofs.lemmas.List.{get_or-replicate, get_or_past, length-replicate}
use Rattle.std.proofs.lemmas.Option.{none-some}
use Rattle.std.specs.Prelude.{option_map}
use Rattle.mps_base.specs.Address.{max_grains, words_of_grain}
use Rattle.mps_buffer.specs.Points.{max_points, no_points, point_at}
use Rattle.mps_buffer.specs.declared.point.Point.{Point}
use Rattle.mps_format.specs.Layout.{Layout, IsLawful}
use Rattle.mps_trace_laws.specs.Image.Memory.{pool_layout}
use Rattle.mps_trace_laws.proofs.Image.ArenaLaws.{clear_bit, new_arena_stands}
use Rattle.mps_laws.proofs.QuietSteps.{IsRight as IsRightStep, accepted_step}
use Rattle.mps_ld.specs.Flips.{none_yet}
use Rattle.mps_model.specs.declared.call.Call.TheVariants as call
use Rattle.mps_model.specs.declared.reply.Reply.TheVariants as reply
use Rattle.mps_model.specs.Answer.{Replied}
use Rattle.mps_model.specs.World.{World, empty_world_of, is_copying_object}
use Rattle.mps_names.specs.State.{NamesState}
use Rattle.mps_names.specs.declared.names.Thing.TheVariants as thing
use Rattle.mps_heap_spec.specs.Arena.{new_heap}
use Rattle.mps_refinement.specs.NewHeap.{NoNames, arena_step, new_world}
use Rattle.mps_refinement.specs.Beside.{nothing_is_beside}
use Rattle.mps_refinement.specs.Framed.{nothing_is_framed}
use Rattle.mps_refinement.proofs.Parts.TransformParts.{no_transforms_yet}
use Rattle.mps_refinement.specs.Numbering.{AreNumbered}
use Rattle.mps_refinement.specs.RightStep.{IsRightIn}
use Rattle.mps_refinement.specs.StandsFor.{AreParts, Past, numbered_thing, rests, time_at_rest}
use Rattle.mps_refinement.proofs.Worlds.RestingActs.{resting_sound}
use Rattle.mps_refinement.proofs.Summaries.Kept.{new_summed}

-- nothing is kept under any key of a row of nothing
abbrev nothing : (A : Type 0) → (count : ℕ) → List (Option A)
nothing A count = replicate count None

none_kept : (A : Type 0) (count key : ℕ) → get_or (nothing A count) key None ≡ None
none_kept A count key =
    elim (cases_lt key count) [
      | inl within ↦ get_or-replicate count key None None within
      | inr past ↦ get_or_past (nothing A count) key None (omega (arith, past, length-replicate {A = Option A} count None))
    ]

-- where nothing is kept, and the model has nothing
none_numbered : {A B : Type 0} {Fits : ℕ → A → B → Type 0} {number : ℕ → ℕ} {kept : ℕ → Option A} → ((key : ℕ) → kept key ≡ None)
    → AreNumbered Fits number kept []
none_numbered none = record {
  there = λ key a is. absurd (none-some a (sym (none key) ∙ is));
  apart = λ key other a b is. absurd (none-some a (sym (none key) ∙ is));
  complete = λ n b is. absurd (none-some b is);
}

module _ {F : Type 0} (layout : F → Layout) (formats : ℕ → Layout) (lawful : (number : ℕ) → IsLawful (formats number))
    (grains limit : ℕ) (nonzero : 0 < grains) (at_most : grains ≤ max_grains) (names : NamesState) (none : NoNames names) where
  abbrev world_then : World
  world_then = new_world formats grains limit

  -- nothing has a number yet
  abbrev no_past : Past
  no_past = record {
    time = time_at_rest;
    table_number = λ key. key;
    area_number = λ key. key;
    point_number = λ key. key;
    transform_number = λ key. key;
  }

  no_point : (key : ℕ) → point_at no_points key ≡ None
  no_point key = none_kept Point max_points key

  new_parts : AreParts layout no_past (new_heap {F = F} grains limit names) world_then
  new_parts = record {
    grains = refl;
    limit = refl;
    segments = refl;
    image = new_arena_stands grains limit (pool_layout world_then);
    arena = record {
      nonzero = nonzero;
      at_most = at_most;
      within = λ key p held is. absurd (none-some p (sym (no_point key) ∙ is));
      aligned = λ key p held is. absurd (none-some p (sym (no_point key) ∙ is));
    };
    summed = new_summed layout [] grains limit;
    tables = none_numbered (λ key. refl);
    ordered = record { numbers = refl; kept_there = tt };
    areas = none_numbered (λ key. refl);
    blocks = refl;
    roots_counted = refl;
    slots_counted = refl;
    points = none_numbered no_point;
    points_counted = refl;
    registered = tt;
    messages = refl;
    flips = none_yet;
    point_flips = refl;
    dependencies = refl;
    lawful = lawful;
    pools = record { count = refl; each = λ number p is. absurd (none-some p is) };
    sizes = refl;
    chains = record { same = refl; copying = λ number chain p is. absurd (none-some p is) };
    names = record {
      named = λ name. sym (ap (option_map (numbered_thing no_past)) (none.free name));
      there = λ name t is. absurd (none-some t (sym (none.free name) ∙ is));
      unique = λ name other t is. absurd (none-some t (sym (none.free name) ∙ is));
      once = tt;
      label_count = none.no_label;
      cache_count = let no_cache = none.no_cache in omega (arith, no_cache);
      label_numbers = λ name number is. absurd (none-some (thing.Label number) (sym (none.free name) ∙ is));
      transform_count = none.no_transform;
    };
    state = refl;
    beside = nothing_is_beside;
    framed = nothing_is_framed;
    transforms = no_transforms_yet (λ key. key) (is_copying_object world_then) [];
  }

  -- the step of `arena` is legal, and what the world after it is
  arena_right : (line : ℕ) → IsRightStep (empty_world_of formats) (arena_step line grains limit) world_then
  arena_right line =
      accepted_step (empty_world_of formats) line (call.Arena grains limit) (Replied reply.Ok)
      (record { judged = refl; moved = refl; due = refl; marked = tt }) world_then refl
      (resting_sound world_then refl (record { client = refl; blocks = refl; referred = refl; transforms = refl }))

  pub new_heap_is_right : (line : ℕ)
      → IsRightIn layout (empty_world_of formats) (arena_step line grains limit) (new_heap grains limit names)
  new_heap_is_right line = record {
    legal = (arena_right line).legal;
    formats = refl;
    stands = record {
      past = no_past;
      parts = new_parts;
      time = rests (record {
        none = refl;
        time = refl;
        not_running = refl;
        not_condemned = λ grain. clear_bit (grains + 1) grain;
        not_kept = λ n. clear_bit (words_of_grain * (grains + 1)) n;
      });
      reached = record {
        history = arena_step line grains limit ∷ [];
        legal = ((arena_right line).legal, tt);
        once = refl;
        is = refl;
      };
    };
  }
