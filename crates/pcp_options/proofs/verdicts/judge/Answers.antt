use Rattle.std.proofs.Common.{sym, ◌∙◌}
use Rattle.pcp_options.proofs.VerdictLemmas.{plain-verdict}
use Rattle.pcp_options.proofs.verdicts.judge.Goals as goal

pub returns-then-is_plain_map-clause-ok : goal.returns-then-is_plain_map-clause-ok
returns-then-is_plain_map-clause-ok c =
    let plain = sym c.is_plain_map.ensures ∙ c.if-is_plain_map.true in
    c.judge_plain_map.ensures ∙ sym (plain-verdict c.args.config.now c.args.source.now c.args.octets.now plain)
