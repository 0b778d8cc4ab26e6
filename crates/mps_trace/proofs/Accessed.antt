-- Scans of a barrier go on at a state of which only what is at hand has changed.
use Rattle.std.proofs.Common.{◌≡◌, ◌∙◌, Option, Some, None, sym, subst}
use Rattle.std.proofs.lemmas.Option.{none-some}
use Rattle.std.specs.Prelude.{option_map}
use Rattle.mps_base.specs.Segment.{Segment}
use Rattle.mps_base.specs.Trail.{Moves}
use Rattle.mps_base.specs.declared.address.Addr.{Addr}
use Rattle.mps_format.specs.Layout.{Layout}
use Rattle.mps_seg.specs.Segs.{SegsState, base_address}
use Rattle.mps_trace.specs.Scan.{CanScan, Scanned}
use Rattle.mps_trace.specs.Trace.{TraceState, Traced}
use Rattle.mps_trace.proofs.Known.{some_over}

-- an address lies in a segment exactly if that has a base
pub none_over : (o : Option Segment) (t : Segment) → None ≡ option_map base_address o → o ≡ Some t → ⊥
none_over None t is over = none-some t over
none_over (Some s) t is over = none-some (base_address s) is

pub one_over : (o : Option Segment) (base : Addr) → Some base ≡ option_map base_address o → o ≡ None → ⊥
one_over o base is none = let found = some_over o base is in none-some found.0 (sym none ∙ found.1)

module _ {F : Type 0} (layout : F → Layout) (t t' : TraceState F) (same : t' ≡ record t { amc = t'.amc }) where
  pub scanned_still : (x z : Traced) (at : Addr) → Scanned layout t'.formats t'.chains x at z → Scanned layout t.formats t.chains x at z
  scanned_still x z at is = let P : TraceState F → Type 0 = λ u. Scanned layout u.formats u.chains x at z in subst P same is

  pub can_scan_still : (s : SegsState) (m : Moves) (at : Addr) → CanScan layout (record t { amc = t'.amc }) s m at
      → CanScan layout t' s m at
  can_scan_still s m at can = let P : TraceState F → Type 0 = λ u. CanScan layout u s m at in subst P (sym same) can
