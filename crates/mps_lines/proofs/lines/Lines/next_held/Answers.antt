use Rattle.std.proofs.Common.{◌≡◌, ◌+◌, ◌≤◌, ap, arith}
use Rattle.std.proofs.lemmas.Grind.{common_steps}
use Rattle.mps_lines.specs.Buffer.{length_of_line, bytes_between}
use Rattle.mps_lines.proofs.Between.{between_prefix, between_rest}
use Rattle.mps_lines.proofs.lines.Lines.next_held.Goals as goal

pub returns : goal.returns
returns c =
    let w : bytes_between c.self.inside.start c.self.inside.end c.self.inside.bytes.items ≡ c.args.self.now.waiting =
    ap (λ v. v.waiting) c.self.view_is in
    let n : c.length_of_line-length.result ≡ length_of_line c.args.self.now.waiting = grind (arith, common_steps) in
    let in_part : c.self.inside.start + (c.length_of_line-length.result + 1) ≤ c.self.inside.end = grind (arith, common_steps) in (
      grind (arith, common_steps),
      rw (← n, ← w) (between_prefix c.self.inside.start c.self.inside.end c.length_of_line-length.result c.self.inside.bytes.items
          (omega arith)),
      rw (← n, ← w) (between_rest c.self.inside.start c.self.inside.end
          (c.length_of_line-length.result + 1) _ c.self.inside.bytes.items in_part (omega arith)),
    )
