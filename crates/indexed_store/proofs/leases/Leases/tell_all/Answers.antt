use Rattle.std.proofs.Common.{subst}
use Rattle.indexed_store.specs.Tabled.{AreWhole}
use Rattle.indexed_store.proofs.leases.Leases.tell_all.Goals as goal

pub returns : goal.returns
returns c = subst AreWhole c.self.view_is (record { maps = c.tell_all.ensures.together; peers = c.tell_all-2.ensures.together })
