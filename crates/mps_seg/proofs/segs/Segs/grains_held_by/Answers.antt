use Rattle.std.proofs.lemmas.Bool.{and_from, lt-ltb}
use Rattle.mps_gen.specs.State.{max_pools, max_generations}
use Rattle.mps_seg.proofs.segs.Segs.grains_held_by.Goals as goal

pub at-requires : goal.at-requires
at-requires c = record {
  whole = c.self.invariant.3.size;
  counted =
      and_from _ _ (lt-ltb c.args.pool max_pools c.requires.pool_numbered)
      (lt-ltb c.args.generation max_generations c.requires.generation_numbered);
}
