-- Faults that did not come, and parts of a run one after the other.
use Rattle.std.proofs.Common.{◌≤◌, refl, ◌∙◌, arith}
use Rattle.mps_desk.specs.Desk.{Outside, IsSteady, OnlyReads}
use Rattle.mps_run.specs.Ending.{RunsOn}

-- ---- faults that did not come

pub steady_self : (a : Outside) → IsSteady a a
steady_self a = record { in_faults = refl; log_faults = refl; out_faults = refl }

pub steady_then : (a b c : Outside) → IsSteady a b → IsSteady b c → IsSteady a c
steady_then a b c f g = record {
  in_faults = g.in_faults ∙ f.in_faults;
  log_faults = g.log_faults ∙ f.log_faults;
  out_faults = g.out_faults ∙ f.out_faults;
}

-- ---- a part of a run

pub runs_on_self : (a : Outside) → RunsOn a a
runs_on_self a = record {
  counts = record { in_faults = omega arith; log_faults = omega arith; out_faults = omega arith; err_faults = omega arith };
  reported = refl;
  err_faults = refl;
}

pub runs_on_then : (a b c : Outside) → RunsOn a b → RunsOn b c → RunsOn a c
runs_on_then a b c f g = record {
  counts = record {
    in_faults = omega (arith, f.counts.in_faults, g.counts.in_faults);
    log_faults = omega (arith, f.counts.log_faults, g.counts.log_faults);
    out_faults = omega (arith, f.counts.out_faults, g.counts.out_faults);
    err_faults = omega (arith, f.counts.err_faults, g.counts.err_faults);
  };
  reported = g.reported ∙ f.reported;
  err_faults = g.err_faults ∙ f.err_faults;
}

runs_on_reading : (a b : Outside) → a.in_faults ≤ b.in_faults → OnlyReads a b → RunsOn a b
runs_on_reading a b grew reads = record {
  counts = record {
    in_faults = grew;
    log_faults = omega (arith, reads.log_faults);
    out_faults = omega (arith, reads.out_faults);
    err_faults = omega (arith, reads.err_faults);
  };
  reported = reads.reported;
  err_faults = reads.err_faults;
}

-- a line was read, and run
pub runs_on_line : (a b c d : Outside) → RunsOn a b → b.in_faults ≤ c.in_faults → OnlyReads b c → RunsOn c d → RunsOn a d
runs_on_line a b c d f grew reads g = runs_on_then a b d f (runs_on_then b c d (runs_on_reading b c grew reads) g)
