-- Once a collection has begun, it ends by the formats and chains that there were before.
use Rattle.std.proofs.Common.{ℕ, ◌≡◌, subst}
use Rattle.mps_final.specs.State.{FinalsState}
use Rattle.mps_format.specs.Layout.{Layout}
use Rattle.mps_trace.specs.Trace.{TraceState, Traced}
use Rattle.mps_trace.specs.Unit.{EndsWithin}
use Rattle.mps_trace.specs.declared.running.Running.{Running}

-- of what is known of pools only the words at hand have changed
pub ends_still : {F : Type 0} (layout : F → Layout) (t t' : TraceState F) → t' ≡ record t { amc = t'.amc } → (x z : Traced)
    (f f' : FinalsState) (run : Running) (most : ℕ) → EndsWithin layout t'.formats t'.chains x f run most z f'
    → EndsWithin layout t.formats t.chains x f run most z f'
ends_still {F = F} layout t t' same x z f f' run most ends =
    let P : TraceState F → Type 0 = λ u. EndsWithin layout u.formats u.chains x f run most z f' in subst P same ends
