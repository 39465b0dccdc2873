use Rattle.pcp_options.proofs.ReplyLaws.{reply-is}
use Rattle.pcp_options.proofs.laws.replies_are_responses.Goals as goal

pub returns : goal.returns
returns c = reply-is
