use Rattle.std.proofs.Common.{length, take, drop, ◌-◌}
use Rattle.std.proofs.lemmas.List.{take_rest}
use Rattle.pcp_codec.proofs.FieldLemmas.{copied}
use Rattle.pcp_codec.proofs.fields.copy_octets.Goals as goal

-- what is there, and zeros behind it
pub returns : goal.returns
returns c =
    let message = c.args.message.now in
    let start = c.min-start.result in
    let there = take (length message - start) (drop start message) in
    let zeros = c.fill.ensures.after (λ y same. same) in
    rw (c.copy_from_slice.ensures.after, zeros)
    (copied message there c.args.place start c.min-count.result (length c.args.piece.now) (length c.split_at_mut-front.result.1.now)
    c.min-start.ensures (take_rest message start) c.min-count.ensures c.split_at_mut-front.ensures.back_len)
