use Rattle.std.proofs.Common.{◌≡◌, ap, length, arith}
use Rattle.pcp_codec.specs.Replies.{head}
use Rattle.pcp_codec.proofs.FieldLemmas.{octets_at-all}
use Rattle.pcp_codec.proofs.replies.write_head.Goals as goal

-- the cells of the array are those of its 12 octets
pub returns : goal.returns
returns c =
    let twelve : length c.args.last.now ≡ 12 = omega arith in
    rw (c.to_be_bytes.ensures, c.to_be_bytes-2.ensures)
    (ap (head c.args.opcode c.args.code c.args.lifetime c.args.epoch) (octets_at-all c.args.last.now 12 twelve))
