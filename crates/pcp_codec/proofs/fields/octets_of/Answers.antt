use Rattle.std.proofs.Common.{length, take, drop, ◌-◌, ◌∙◌}
use Rattle.std.proofs.lemmas.List.{take_rest}
use Rattle.pcp_codec.proofs.FieldLemmas.{chunk}
use Rattle.pcp_codec.proofs.fields.octets_of.Goals as goal

-- all of them are there
pub returns-in-Some : goal.returns-in-Some
returns-in-Some g c =
    let message = c.args.message.now in
    let start = c.min-start.result in
    let there = take (length message - start) (drop start message) in
    let found = c.in-Some.ensures.cases in
    found.same ∙ chunk message there c.args.place start g.row.N c.min-start.ensures (take_rest message start) found.enough
