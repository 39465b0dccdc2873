use Rattle.relay_rates.proofs.SiftLemmas.{down-sifted, up-sifted}
use Rattle.relay_rates.proofs.laws.gates_sift.Goals as goal

pub returns-clause-down : goal.returns-clause-down
returns-clause-down g c = down-sifted g.M.RelayMachine.machine

pub returns-clause-up : goal.returns-clause-up
returns-clause-up g c = up-sifted g.M.RelayMachine.machine
