use Rattle.leased_ports.proofs.MomentLemmas.{ports-later, ports-told, ports-new}
use Rattle.leased_ports.proofs.laws.ports_follow_states.Goals as goal

pub returns-clause-new : goal.returns-clause-new
returns-clause-new c = ports-new

pub returns-clause-later : goal.returns-clause-later
returns-clause-later c = ports-later

pub returns-clause-told : goal.returns-clause-told
returns-clause-told c = ports-told
