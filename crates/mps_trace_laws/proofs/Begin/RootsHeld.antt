-- What tables and messages hold before a flip is the same, whatever the flip condemns.
use Rattle.std.proofs.Common.{◌≡◌, ◌∙◌, refl, sym, ap, List, [], Option, Some, None}
use Rattle.std.specs.Prelude.{map, slice_get, slice_index_or}
use Rattle.mps_base.specs.Address.{Address, Id}
use Rattle.mps_trace.specs.State.{FinalsState}
use Rattle.mps_seg.specs.Segs.{SegsState}
use Rattle.mps_model.specs.Graph.{Object, entry_at}
use Rattle.mps_model.specs.World.{World}
use Rattle.mps_abstract.specs.Collecting.{Collecting}
use Rattle.mps_root.specs.State.{RootsState, items_of}
use Rattle.mps_trace.specs.Roots.{key_at}
use Rattle.mps_trace.specs.declared.condemn.Condemn.{Condemn}
use Rattle.mps_model.specs.Effect as model
use Rattle.mps_abstract.specs.FlipLaws.{collecting_after_flip}
use Rattle.mps_trace_laws.specs.Begin.Begun.{AreRootsHeld}
use Rattle.mps_trace_laws.specs.Begin.Condemning.{collecting_at_flip}
use Rattle.mps_trace_laws.specs.Roots.Rows.{AreHeldAtFlip, HoldsAtFlip}
use Rattle.mps_trace_laws.specs.Roots.Tables.{AreTablesHeld}

module _ (s : SegsState) (w : World) (what : Condemn) (roots : RootsState) (finals : FinalsState) (rows : List (List (Option Id)))
    (held : AreRootsHeld w roots finals rows) where
  abbrev y : Collecting
  y = collecting_at_flip s w what

  -- right after a full flip
  abbrev full : Collecting
  full = collecting_after_flip w model.Everything []

  holds_as : (x : Collecting) → x.world.addresses ≡ w.addresses → x.world.graph.objects ≡ w.graph.objects → (at : Address)
      (target : Option Id) → HoldsAtFlip w.addresses x at target → HoldsAtFlip w.addresses y at target
  holds_as x addresses objects at None null = null
  holds_as x addresses objects at (Some t) was = record {
    positive = was.positive;
    was = was.was;
    now = was.now;
    there = sym (ap (λ (ps : List (Option Address)). entry_at ps t) addresses) ∙ was.there;
    object = was.object;
    has = sym (ap (λ (os : List Object). slice_get os t) objects) ∙ was.has;
    automatic = was.automatic;
  }

  row_as : (x : Collecting) → x.world.addresses ≡ w.addresses → x.world.graph.objects ≡ w.graph.objects → (slots : List Address)
      (targets : List (Option Id)) → AreHeldAtFlip w.addresses x slots targets → AreHeldAtFlip w.addresses y slots targets
  row_as x addresses objects slots targets row = record {
    long = row.long;
    each = λ i target is. holds_as x addresses objects (slice_index_or slots i 0) target (row.each i target is);
  }

  pub tables_as : AreTablesHeld w.addresses y roots rows
  tables_as = record {
    long = held.tables.long;
    each = λ n row is. row_as full refl refl (items_of roots.tables (key_at roots n)) row (held.tables.each n row is);
    apart = held.tables.apart;
  }

  pub messages_as : AreHeldAtFlip w.addresses y finals.messages (map Some w.graph.messages)
  messages_as = row_as full refl refl finals.messages (map Some w.graph.messages) held.messages
