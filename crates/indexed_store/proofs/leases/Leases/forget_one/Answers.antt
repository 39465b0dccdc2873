use Rattle.std.proofs.Common.{subst}
use Rattle.pcp_base.specs.Tables.{Table}
use Rattle.indexed_store.specs.Tabled.{ArePart}
use Rattle.indexed_store.proofs.RetireLemmas.{either-part, none-part, rest-part}
use Rattle.indexed_store.proofs.Views.{past_is}
use Rattle.indexed_store.proofs.leases.Leases.forget_one.Goals as goal

pub returns-then-forget_one-clause-past : goal.returns-then-forget_one-clause-past
returns-then-forget_one-clause-past g c =
    let part : Table = record { maps = c.forget_one.new.self.past; peers = c.self.inside.peers.past } in
    subst (ArePart part) (past_is c.self.view_is) (record {
      maps = rest-part c.self.inside.maps.past c.forget_one.new.self.past c.if-forget_one.ensures.forgot.0 c.if-forget_one.ensures.forgot.1;
      peers = λ l there. there;
    })

pub returns-else-forget_one-clause-past : goal.returns-else-forget_one-clause-past
returns-else-forget_one-clause-past g c =
    let part : Table = record { maps = c.forget_one.new.self.past; peers = c.forget_one-else-forget_one.new.self.past } in
    subst (ArePart part) (past_is c.self.view_is) (record {
      maps = none-part c.self.inside.maps.past c.forget_one.new.self.past c.if-forget_one.ensures.none.1;
      peers = either-part c.self.inside.peers.past c.forget_one-else-forget_one.new.self.past c.forget_one-else-forget_one.result c.forget_one-else-forget_one.ensures.forgot
          c.forget_one-else-forget_one.ensures.none;
    })
