use Rattle.std.proofs.Common.{◌≡◌, subst}
use Rattle.pcp_base.specs.Ends.{rests}
use Rattle.lease_store.specs.Stores.{Stored}
use Rattle.plain_store.proofs.store.PlainStore.rests.Goals as goal

pub returns : goal.returns
returns c = subst (λ (s : Stored). c.rests.result ≡ rests s.state s.reached c.args.protocol c.args.port) c.self.view_is c.rests.ensures
