use Rattle.std.proofs.lemmas.Result.{IfOk-weaker}
use Rattle.mps_address_map.specs.AddressMap.{Lists}
use Rattle.mps_blocks.proofs.Addresses.{all_in_order}
use Rattle.mps_blocks.proofs.listing.sorted_blocks.Goals as goal

pub returns : goal.returns
returns c =
    IfOk-weaker c.into_sorted.result (λ blocks. Lists c.args.live blocks.items) _
    (λ blocks lists. all_in_order c.args.live blocks.items lists) c.into_sorted.ensures
