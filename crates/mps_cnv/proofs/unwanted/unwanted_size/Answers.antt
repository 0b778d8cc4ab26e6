use Rattle.std.proofs.Common.{◌≡◌, Some, arith}
use Rattle.byteorder.specs.Endian.{little_number}
use Rattle.mps_event.specs.Event.{event_of}
use Rattle.mps_event.specs.KindSet.{bits_of}
use Rattle.mps_cnv.proofs.Skipping.{unwanted_found, at_most_forty}
use Rattle.mps_cnv.proofs.unwanted.unwanted_size.Goals as goal

pub returns-in-Some : goal.returns-in-Some
returns-in-Some c =
    let event = c.in-Some.event in
    let bytes = c.args.bytes.now in
    let known : event_of c.args.version (little_number 2 bytes) ≡ Some event = cc (c.read_u16.ensures, c.of_code.ensures, c.in-Some.is) in
    record {
      sound = unwanted_found c.args.version (bits_of c.args.kinds) event bytes c.whole_size.result
          (λ i. omega (arith, c.type_inv.bytes i)) (omega (arith, c.if-bytes-lt-HEAD_BYTES.false)) known
          c.if-is_unwanted.ensures.no_name c.if-is_unwanted.ensures.kind
          c.whole_size.ensures.count c.whole_size.ensures.size c.whole_size.ensures.within;
      at_most = at_most_forty event c.whole_size.result c.whole_size.ensures.size;
      within = c.whole_size.ensures.within;
    }
