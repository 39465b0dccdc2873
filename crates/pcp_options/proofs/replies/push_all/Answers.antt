use Rattle.pcp_options.proofs.TextLemmas.{each-text}
use Rattle.pcp_options.proofs.replies.push_all.Goals as goal

pub returns : goal.returns
returns c = rw (each-text c.args.items.now) c.push_each.ensures
