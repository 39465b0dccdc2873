use Rattle.pcp_options.proofs.TextLemmas.{told-texts}
use Rattle.pcp_options.proofs.replies.push_options.Goals as goal

pub returns : goal.returns
returns c = rw (told-texts c.args.set c.args.items.now) c.push_items.ensures
