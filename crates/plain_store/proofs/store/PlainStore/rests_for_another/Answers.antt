use Rattle.std.proofs.Common.{◌≡◌, subst}
use Rattle.lease_store.specs.Lookups.{with_port}
use Rattle.lease_store.specs.Picks.{rests_for_another}
use Rattle.lease_store.specs.Stores.{Stored}
use Rattle.plain_store.proofs.store.PlainStore.rests_for_another.Goals as goal

pub returns : goal.returns
returns c =
    subst (λ (s : Stored). c.rests_for_another.result ≡ rests_for_another s.state s.reached c.args.port (with_port c.args.endpoint.now c.args.internal)) c.self.view_is c.rests_for_another.ensures
