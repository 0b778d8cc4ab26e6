-- The commands that make and drop things: their refusals in order, in the small world and in a crowded one.
use Rattle.std.specs.Prelude.{List, [], ◌∷◌}
use Rattle.mps_base.specs.declared.names.Name.{Name}
use Rattle.mps_base.specs.declared.names.Kind.TheVariants as kind
use Rattle.mps_base.specs.declared.names.Rank.TheVariants as rank
use Rattle.mps_base.specs.declared.refusal.Refusal.TheVariants as refusal
use Rattle.mps_model.specs.declared.call.Call.{Call}
use Rattle.mps_model.specs.declared.call.Call.TheVariants as call
use Rattle.mps_model.specs.declared.reply.Reply.TheVariants as reply
use Rattle.mps_refusal_examples.specs.Row.{Row, refuses, replies, AreAnswered}
use Rattle.mps_refusal_examples.specs.SmallWorld.{unknown, a_table, an_area, some_blocks, a_chain, a_dependency, amc_pool, amcz_pool, ams_pool, awl_pool, lo_pool, mfs_pool, mvff_pool, idle_point, open_point, doomed_point, small, crowded}

-- ---- the arena

abbrev pub arena : List Row
arena =
    replies (call.Arena 8 8) reply.Ok
    ∷ []

abbrev pub limit : List Row
limit =
    refuses (call.Limit 0) refusal.BelowCommitted
    ∷ refuses (call.Limit 2) refusal.BelowCommitted
    ∷ replies (call.Limit 3) reply.Ok
    ∷ []

abbrev pub committed : List Row
committed =
    replies call.Committed (reply.Number 3)
    ∷ []

-- ---- chains and pools

-- a chain of one generation
abbrev pub chain_call : Name → Call
chain_call chain = call.Chain chain 1 (4 ∷ 0 ∷ 0 ∷ 0 ∷ 0 ∷ 0 ∷ 0 ∷ 0 ∷ [])

abbrev pub chain_where_full : List Row
chain_where_full =
    refuses (chain_call a_table) refusal.NameTaken
    ∷ refuses (chain_call a_chain) refusal.NameTaken
    ∷ refuses (chain_call unknown) (refusal.TooMany 16)
    ∷ []

abbrev pub chain_where_one_is_left : List Row
chain_where_one_is_left =
    refuses (chain_call a_chain) refusal.NameTaken
    ∷ replies (chain_call unknown) reply.Ok
    ∷ []

abbrev pub pool_where_full : List Row
pool_where_full =
    refuses (call.Pool a_table kind.Ams 1) refusal.NameTaken
    ∷ refuses (call.Pool unknown kind.Ams 1) (refusal.TooMany 64)
    ∷ []

abbrev pub pool_where_one_is_left : List Row
pool_where_one_is_left =
    refuses (call.Pool ams_pool kind.Ams 1) refusal.NameTaken
    ∷ replies (call.Pool unknown kind.Ams 1) reply.Ok
    ∷ []

abbrev pub pool_on_chain_where_full : List Row
pool_on_chain_where_full =
    refuses (call.PoolOnChain a_table kind.Amc 1 unknown) refusal.NameTaken
    ∷ refuses (call.PoolOnChain unknown kind.Amc 1 unknown) refusal.BadName
    ∷ refuses (call.PoolOnChain unknown kind.Amcz 1 a_table) refusal.BadName
    ∷ refuses (call.PoolOnChain unknown kind.Amcz 1 a_chain) (refusal.TooMany 64)
    ∷ []

abbrev pub pool_on_chain_where_one_is_left : List Row
pool_on_chain_where_one_is_left =
    refuses (call.PoolOnChain unknown kind.Amc 1 unknown) refusal.BadName
    ∷ replies (call.PoolOnChain unknown kind.Amcz 1 a_chain) reply.Ok
    ∷ []

abbrev pub pool_mfs_where_full : List Row
pool_mfs_where_full =
    refuses (call.PoolMfs a_table 0) refusal.NameTaken
    ∷ refuses (call.PoolMfs unknown 0) refusal.BadSize
    ∷ refuses (call.PoolMfs unknown 65537) refusal.BadSize
    ∷ refuses (call.PoolMfs unknown 4) (refusal.TooMany 64)
    ∷ []

abbrev pub pool_mfs_where_one_is_left : List Row
pool_mfs_where_one_is_left =
    refuses (call.PoolMfs unknown 0) refusal.BadSize
    ∷ replies (call.PoolMfs unknown 1) reply.Ok
    ∷ replies (call.PoolMfs unknown 65536) reply.Ok
    ∷ []

abbrev pub pool_mvff_where_full : List Row
pool_mvff_where_full =
    refuses (call.PoolMvff a_table) refusal.NameTaken
    ∷ refuses (call.PoolMvff unknown) (refusal.TooMany 64)
    ∷ []

abbrev pub pool_mvff_where_one_is_left : List Row
pool_mvff_where_one_is_left =
    refuses (call.PoolMvff mvff_pool) refusal.NameTaken
    ∷ replies (call.PoolMvff unknown) reply.Ok
    ∷ []

-- ---- roots: seven slots, words and places are taken in the small world, and 259 if one root is left

abbrev pub table_where_full : List Row
table_where_full =
    refuses (call.Table a_table 65536) refusal.NameTaken
    ∷ refuses (call.Table unknown 65536) (refusal.TooMany 256)
    ∷ refuses (call.Table unknown 1) (refusal.TooMany 256)
    ∷ []

abbrev pub table_where_one_is_left : List Row
table_where_one_is_left =
    refuses (call.Table amc_pool 65536) refusal.NameTaken
    ∷ refuses (call.Table unknown 65536) (refusal.TooMany 65536)
    ∷ refuses (call.Table unknown 65278) (refusal.TooMany 65536)
    ∷ replies (call.Table unknown 65277) reply.Ok
    ∷ []

abbrev pub area_where_full : List Row
area_where_full =
    refuses (call.Area a_table 65536) refusal.NameTaken
    ∷ refuses (call.Area unknown 65536) (refusal.TooMany 256)
    ∷ refuses (call.Area unknown 1) (refusal.TooMany 256)
    ∷ []

abbrev pub area_where_one_is_left : List Row
area_where_one_is_left =
    refuses (call.Area an_area 65536) refusal.NameTaken
    ∷ refuses (call.Area unknown 65536) (refusal.TooMany 65536)
    ∷ refuses (call.Area unknown 65278) (refusal.TooMany 65536)
    ∷ replies (call.Area unknown 65277) reply.Ok
    ∷ []

abbrev pub blocks_where_full : List Row
blocks_where_full =
    refuses (call.Blocks a_table 65536) refusal.NameTaken
    ∷ refuses (call.Blocks unknown 65536) (refusal.TooMany 256)
    ∷ refuses (call.Blocks unknown 1) (refusal.TooMany 256)
    ∷ []

abbrev pub blocks_where_one_is_left : List Row
blocks_where_one_is_left =
    refuses (call.Blocks some_blocks 65536) refusal.NameTaken
    ∷ refuses (call.Blocks unknown 65536) (refusal.TooMany 65536)
    ∷ refuses (call.Blocks unknown 65278) (refusal.TooMany 65536)
    ∷ replies (call.Blocks unknown 65277) reply.Ok
    ∷ []

abbrev pub droproot : List Row
droproot =
    refuses (call.DropRoot unknown) refusal.BadName
    ∷ refuses (call.DropRoot some_blocks) refusal.BadName
    ∷ refuses (call.DropRoot amc_pool) refusal.BadName
    ∷ replies (call.DropRoot a_table) reply.Ok
    ∷ replies (call.DropRoot an_area) reply.Ok
    ∷ []

-- ---- points and dependencies

abbrev pub ap_where_full : List Row
ap_where_full =
    refuses (call.Point a_table unknown rank.Weak) refusal.NameTaken
    ∷ refuses (call.Point unknown unknown rank.Weak) refusal.BadName
    ∷ refuses (call.Point unknown a_table rank.Weak) refusal.BadName
    ∷ refuses (call.Point unknown mfs_pool rank.Exact) refusal.WrongPool
    ∷ refuses (call.Point unknown mvff_pool rank.Exact) refusal.WrongPool
    ∷ refuses (call.Point unknown amc_pool rank.Weak) refusal.WrongPool
    ∷ refuses (call.Point unknown amcz_pool rank.Weak) refusal.WrongPool
    ∷ refuses (call.Point unknown ams_pool rank.Weak) refusal.WrongPool
    ∷ refuses (call.Point unknown lo_pool rank.Weak) refusal.WrongPool
    ∷ refuses (call.Point unknown awl_pool rank.Weak) (refusal.TooMany 256)
    ∷ []

abbrev pub ap_where_one_is_left : List Row
ap_where_one_is_left =
    refuses (call.Point idle_point amc_pool rank.Exact) refusal.NameTaken
    ∷ refuses (call.Point unknown mvff_pool rank.Weak) refusal.WrongPool
    ∷ replies (call.Point unknown amcz_pool rank.Exact) reply.Ok
    ∷ replies (call.Point unknown awl_pool rank.Exact) reply.Ok
    ∷ replies (call.Point unknown awl_pool rank.Weak) reply.Ok
    ∷ []

abbrev pub dropap : List Row
dropap =
    refuses (call.DropPoint unknown) refusal.BadName
    ∷ refuses (call.DropPoint a_table) refusal.BadName
    ∷ refuses (call.DropPoint open_point) refusal.Open
    ∷ refuses (call.DropPoint doomed_point) refusal.Open
    ∷ replies (call.DropPoint idle_point) reply.Ok
    ∷ []

abbrev pub ld_where_full : List Row
ld_where_full =
    refuses (call.Dependency a_dependency) refusal.NameTaken
    ∷ refuses (call.Dependency unknown) (refusal.TooMany 256)
    ∷ []

abbrev pub ld_where_one_is_left : List Row
ld_where_one_is_left =
    refuses (call.Dependency a_table) refusal.NameTaken
    ∷ replies (call.Dependency unknown) reply.Ok
    ∷ []

-- ---- what the tables promise

pub record ArenaAnswers : Type 0 where
  pub arena : AreAnswered small arena
  pub limit : AreAnswered small limit
  pub committed : AreAnswered small committed

pub record PoolsAnswer : Type 0 where
  pub chain_where_full : AreAnswered (crowded 0) chain_where_full
  pub chain_where_one_is_left : AreAnswered (crowded 1) chain_where_one_is_left
  pub pool_where_full : AreAnswered (crowded 0) pool_where_full
  pub pool_where_one_is_left : AreAnswered (crowded 1) pool_where_one_is_left
  pub pool_on_chain_where_full : AreAnswered (crowded 0) pool_on_chain_where_full
  pub pool_on_chain_where_one_is_left : AreAnswered (crowded 1) pool_on_chain_where_one_is_left
  pub pool_mfs_where_full : AreAnswered (crowded 0) pool_mfs_where_full
  pub pool_mfs_where_one_is_left : AreAnswered (crowded 1) pool_mfs_where_one_is_left
  pub pool_mvff_where_full : AreAnswered (crowded 0) pool_mvff_where_full
  pub pool_mvff_where_one_is_left : AreAnswered (crowded 1) pool_mvff_where_one_is_left

pub record RootsAnswer : Type 0 where
  pub table_where_full : AreAnswered (crowded 0) table_where_full
  pub table_where_one_is_left : AreAnswered (crowded 1) table_where_one_is_left
  pub area_where_full : AreAnswered (crowded 0) area_where_full
  pub area_where_one_is_left : AreAnswered (crowded 1) area_where_one_is_left
  pub blocks_where_full : AreAnswered (crowded 0) blocks_where_full
  pub blocks_where_one_is_left : AreAnswered (crowded 1) blocks_where_one_is_left
  pub droproot : AreAnswered small droproot

pub record PointsAnswer : Type 0 where
  pub ap_where_full : AreAnswered (crowded 0) ap_where_full
  pub ap_where_one_is_left : AreAnswered (crowded 1) ap_where_one_is_left
  pub dropap : AreAnswered small dropap
  pub ld_where_full : AreAnswered (crowded 0) ld_where_full
  pub ld_where_one_is_left : AreAnswered (crowded 1) ld_where_one_is_left
