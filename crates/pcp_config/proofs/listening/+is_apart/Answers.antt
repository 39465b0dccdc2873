use Rattle.pcp_base.specs.Configs.{AreApart}
use Rattle.pcp_config.proofs.ListLemmas.{all_tested}
use Rattle.pcp_config.proofs.listening.+is_apart.Goals as goal

pub returns-then-differ : goal.returns-then-differ
returns-then-differ n c =
    all_tested (AreApart c.args.first.now) c.args.others.now c.other-item.result c.in-len1-up.len_at_least c.other-item.is
    (c.differ.ensures.0 c.if-differ.true) c.is_apart.ensures
