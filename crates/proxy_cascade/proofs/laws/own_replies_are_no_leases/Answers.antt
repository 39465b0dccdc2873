use Rattle.proxy_cascade.proofs.RunLemmas.{replies-are-own}
use Rattle.proxy_cascade.proofs.laws.own_replies_are_no_leases.Goals as goal

pub returns : goal.returns
returns c = replies-are-own
