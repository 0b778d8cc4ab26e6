use Rattle.std.proofs.Common.{subst}
use Rattle.mps_commands.specs.Range.{IsInRange}
use Rattle.mps_session.proofs.Answering.{answered_making, answered_pool, copies_on_a_chain, pool_unchanged}
use Rattle.mps_session.proofs.making.answer.Goals as goal

pub returns-in-Pool-clause-right : goal.returns-in-Pool-clause-right
returns-in-Pool-clause-right c =
    answered_pool c.in-Pool.is c.pool.result c.made.result c.in-Pool.format c.numbered.result c.numbered.ensures c.made.ensures.told
    c.made.ensures.done (c.pool.ensures.right c.in-Pool.format)

pub returns-in-Pool-clause-unchanged : goal.returns-in-Pool-clause-unchanged
returns-in-Pool-clause-unchanged c =
    pool_unchanged c.pool.result c.made.result c.made.ensures.out_of_memory (c.pool.ensures.right c.in-Pool.format)

pub pool_on_chain-requires : goal.pool_on_chain-requires
pool_on_chain-requires c =
    copies_on_a_chain c.in-PoolOnChain.kind (subst IsInRange c.in-PoolOnChain.is c.requires.range).0

pub returns-in-PoolOnChain-clause-right : goal.returns-in-PoolOnChain-clause-right
returns-in-PoolOnChain-clause-right c =
    answered_pool c.in-PoolOnChain.is c.pool_on_chain.result c.made-in-PoolOnChain.result c.in-PoolOnChain.format
    c.numbered-in-PoolOnChain.result c.numbered-in-PoolOnChain.ensures c.made-in-PoolOnChain.ensures.told
    c.made-in-PoolOnChain.ensures.done (c.pool_on_chain.ensures.right c.in-PoolOnChain.format)

pub returns-in-PoolOnChain-clause-unchanged : goal.returns-in-PoolOnChain-clause-unchanged
returns-in-PoolOnChain-clause-unchanged c =
    pool_unchanged c.pool_on_chain.result c.made-in-PoolOnChain.result c.made-in-PoolOnChain.ensures.out_of_memory
    (c.pool_on_chain.ensures.right c.in-PoolOnChain.format)

pub returns-in-PoolMfs-clause-right : goal.returns-in-PoolMfs-clause-right
returns-in-PoolMfs-clause-right c = answered_making c.in-PoolMfs.is c.pool_mfs.result c.made-in-PoolMfs.result
    c.made-in-PoolMfs.ensures.told
    c.made-in-PoolMfs.ensures.done c.pool_mfs.ensures.right

pub returns-in-PoolMvff-clause-right : goal.returns-in-PoolMvff-clause-right
returns-in-PoolMvff-clause-right c = answered_making c.in-PoolMvff.is c.pool_mvff.result c.made-in-PoolMvff.result
    c.made-in-PoolMvff.ensures.told
    c.made-in-PoolMvff.ensures.done c.pool_mvff.ensures.right

pub returns-in-PoolFrames-clause-right : goal.returns-in-PoolFrames-clause-right
returns-in-PoolFrames-clause-right c = answered_making c.in-PoolFrames.is c.pool_snc.result c.made-in-PoolFrames.result
    c.made-in-PoolFrames.ensures.told
    c.made-in-PoolFrames.ensures.done c.pool_snc.ensures.right

pub returns-in-Table-clause-right : goal.returns-in-Table-clause-right
returns-in-Table-clause-right c = answered_making c.in-Table.is c.table.result c.made-in-Table.result c.made-in-Table.ensures.told
    c.made-in-Table.ensures.done c.table.ensures.right

pub returns-in-Area-clause-right : goal.returns-in-Area-clause-right
returns-in-Area-clause-right c = answered_making c.in-Area.is c.area.result c.made-in-Area.result c.made-in-Area.ensures.told
    c.made-in-Area.ensures.done c.area.ensures.right

pub returns-in-Blocks-clause-right : goal.returns-in-Blocks-clause-right
returns-in-Blocks-clause-right c = answered_making c.in-Blocks.is c.blocks-in-Blocks.result c.made-in-Blocks.result
    c.made-in-Blocks.ensures.told
    c.made-in-Blocks.ensures.done c.blocks-in-Blocks.ensures.right

pub returns-in-Point-clause-right : goal.returns-in-Point-clause-right
returns-in-Point-clause-right c = answered_making c.in-Point.is c.point.result c.made-in-Point.result c.made-in-Point.ensures.told
    c.made-in-Point.ensures.done c.point.ensures.right

pub returns-in-Dependency-clause-right : goal.returns-in-Dependency-clause-right
returns-in-Dependency-clause-right c = answered_making c.in-Dependency.is c.ld.result c.made-in-Dependency.result
    c.made-in-Dependency.ensures.told
    c.made-in-Dependency.ensures.done c.ld.ensures.right

pub returns-in-Chain-clause-right : goal.returns-in-Chain-clause-right
returns-in-Chain-clause-right c = answered_making c.in-Chain.is c.make_chain.result c.made-in-Chain.result
    c.made-in-Chain.ensures.told
    c.made-in-Chain.ensures.done c.make_chain.ensures.right
