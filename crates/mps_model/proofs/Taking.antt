-- What a pool takes: its heads are valid, and its blocks have the sizes of manual blocks.
use Rattle.std.proofs.Common.{◌≡◌, ℕ, true}
use Rattle.std.proofs.lemmas.Bool.{and_parts, false≢true}
use Rattle.std.specs.Prelude.{◌&&◌, ◌==◌, not}
use Rattle.mps_model.specs.Graph.{has_references}
use Rattle.mps_model.specs.World.{World, Pool, PoolKind, Collected, OneSize, AnySize, Frames, is_leaf_kind}
use Rattle.mps_model.specs.Making.{is_block_size}
use Rattle.mps_model.specs.Allocating.{allows_size, layout_of, takes_head}

pub valid_where_taken : (w : World) (p : Pool) (head : ℕ) → takes_head w p head ≡ true → (w.formats p.format).is_valid head ≡ true
valid_where_taken w p head h =
    (and_parts ((layout_of w p).is_valid head) (not (is_leaf_kind p.kind && has_references (layout_of w p) head)) h).0

pub sized_where_allowed : (kind : PoolKind) (words : ℕ) → allows_size kind words ≡ true → is_block_size words ≡ true
sized_where_allowed (Collected kind) words h = absurd (false≢true h)
sized_where_allowed (OneSize size) words h = (and_parts (is_block_size words) (words == size) h).0
sized_where_allowed AnySize words h = h
sized_where_allowed Frames words h = h
