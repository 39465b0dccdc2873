use Rattle.std.proofs.Common.{rules, arith}
use Rattle.ordered_index.proofs.PortLemmas.{tcp_at, udp_at}
use Rattle.ordered_index.proofs.port_slots.place_at.Goals as goal

pub returns-in-Tcp-clause-port : goal.returns-in-Tcp-clause-port
returns-in-Tcp-clause-port c = tcp_at c.args.port.0 c.args.port.1 _ (search rules) (search rules) (omega arith)

pub returns-in-Udp-clause-port : goal.returns-in-Udp-clause-port
returns-in-Udp-clause-port c = udp_at c.args.port.0 c.args.port.1 _ (search rules) (search rules) (omega arith)
