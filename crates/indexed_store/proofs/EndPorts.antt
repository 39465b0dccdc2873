-- Ends of a port, and those that are recent.
use Rattle.std.proofs.Common.{◌≡◌, ℕ, Bool, true, false, cond, Option, Some, None, refl, ap, sym, ◌∙◌}
use Rattle.std.proofs.lemmas.Bool.{and_parts, and_from, eqb-true, eq-eqb}
use Rattle.pcp_base.specs.declared.leases.Protocol.{Protocol}
use Rattle.pcp_base.specs.declared.leases.End.{End}
use Rattle.pcp_base.specs.Protocols.{protocol_number}
use Rattle.pcp_base.specs.Ends.{is_end_of, is_recent}
use Rattle.pcp_base.proofs.RestLaws.{protocol_number-same}
use Rattle.leased_ports.specs.Leased.{while_recent}

-- an end of a port has its protocol and number
pub port_is : (protocol : Protocol) (port : ℕ) (e : End) → is_end_of protocol port e ≡ true → (e.endpoint.protocol ≡ protocol) × (e.external ≡ port)
port_is protocol port e h = let p = and_parts _ _ h in (protocol_number-same e.endpoint.protocol protocol (eqb-true _ _ p.0), eqb-true e.external port p.1)

pub is_port_of : (protocol : Protocol) (port : ℕ) (e : End) → e.endpoint.protocol ≡ protocol → e.external ≡ port → is_end_of protocol port e ≡ true
is_port_of protocol port e p n = and_from _ _ (eq-eqb _ _ (ap protocol_number p)) (eq-eqb e.external port n)

-- what is there while it is recent is recent
pub while-is : (m : ℕ) (o : Option End) (e : End) → while_recent m o ≡ Some e → (o ≡ Some e) × (is_recent m e ≡ true)
while-is m None e h = absurd (let never : None ≡ Some e = h in cc)
while-is m (Some x) e h = step (is_recent m x) refl h
  where
    step : (b : Bool) → is_recent m x ≡ b → cond b (Some x) None ≡ Some e → (Some x ≡ Some e) × (is_recent m e ≡ true)
    step true is h = (h, (let same : x ≡ e = cc in ap (is_recent m) (sym same) ∙ is))
    step false is h = absurd (let never : None ≡ Some e = h in cc)
