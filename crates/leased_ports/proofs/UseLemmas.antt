-- What a pool may be asked of the ports of a run, and what it makes of them.
use Rattle.std.proofs.Common.{◌≡◌, ℕ, ◌+◌, ◌-◌, ◌≤◌, ◌&&◌, Bool, true, false, cond, refl, sym, ap, ◌∙◌, subst}
use Rattle.std.proofs.lemmas.Bool.{and_parts}
use Rattle.pcp_base.specs.declared.leases.Protocol.{Protocol}
use Rattle.pcp_base.specs.declared.leases.Protocol.TheVariants.{Tcp, Udp}
use Rattle.pcp_base.specs.declared.leases.End.{End}
use Rattle.pcp_base.specs.Tables.{same_protocol}
use Rattle.pcp_base.proofs.Same.{same_protocol-Decides}
use Rattle.port_runs.specs.Ports.{is_in_run}
use Rattle.external_pool.specs.declared.uses.Use.{Use}
use Rattle.external_pool.specs.declared.uses.Use.TheVariants.{Free}
use Rattle.external_pool.specs.PortUses.{use_along, is_held, is_resting}
use Rattle.external_pool.specs.Holdings.{Holdings, use_of, with_use, AllFree, AllRest}
use Rattle.external_pool.specs.Calls.{ArePorts, MayHold, MayRelease}
use Rattle.external_pool.proofs.Counted.{with_use-whole, use_of-with_use}
use Rattle.port_spans.specs.declared.runs.Run.{Run}
use Rattle.port_spans.proofs.RunLemmas.{in_by}
use Rattle.leased_ports.specs.declared.phases.Phase.{Phase}
use Rattle.leased_ports.specs.declared.phases.Phase.TheVariants.{Holds, Rests, Over}
use Rattle.leased_ports.specs.Kept.{IsOn, IsSet, use_in}
use Rattle.leased_ports.specs.Steps.{GivesUses, AreUsedBy}

module _ (pool : Holdings) (r : Run End) (set : IsSet r) where
  pub are_ports : ArePorts r.value.external r.count
  are_ports = record { from = set.external; some = set.some; end = set.within }

  pub may_release : AreUsedBy pool r (use_in Holds r.value) → MayRelease pool r.value.endpoint.address r.value.endpoint.protocol r.value.external r.count
  may_release used = record { ports = are_ports; held = λ port from to. used port (in_by r.value.external r.count port from to) }

  pub all_rest : AreUsedBy pool r (use_in Rests r.value) → AllRest pool r.value.endpoint.protocol r.value.external r.count
  all_rest used port from to = ap is_resting (used port (in_by r.value.external r.count port from to))

  pub all_free : AreUsedBy pool r Free → AllFree pool r.value.endpoint.protocol r.value.external r.count
  all_free used port from to = used port (in_by r.value.external r.count port from to)

  pub may_hold : (p : Phase) → (p ≡ Holds → ⊥) → AreUsedBy pool r (use_in p r.value) → MayHold pool r.value.endpoint.protocol r.value.external r.count
  may_hold Holds other used = absurd (other refl)
  may_hold Rests other used = record { ports = are_ports; none_held = λ port from to. ap is_held (used port (in_by r.value.external r.count port from to)) }
  may_hold Over other used = record { ports = are_ports; none_held = λ port from to. ap is_held (used port (in_by r.value.external r.count port from to)) }

-- a phase is the third one where it is neither of two
pub must_be_over : (p : Phase) → (p ≡ Holds → ⊥) → (p ≡ Rests → ⊥) → p ≡ Over
must_be_over Holds a b = absurd (a refl)
must_be_over Rests a b = absurd (b refl)
must_be_over Over a b = refl

on-with_use : (pool : Holdings) (protocol : Protocol) (start n : ℕ) (value : Use) (low high most : ℕ) → IsOn pool low high most → IsOn (with_use protocol start n value pool) low high most
on-with_use pool Tcp start n value low high most h = record { quota = h.quota; tcp_low = h.tcp_low; tcp_high = h.tcp_high; udp_low = h.udp_low; udp_high = h.udp_high }
on-with_use pool Udp start n value low high most h = record { quota = h.quota; tcp_low = h.tcp_low; tcp_high = h.tcp_high; udp_low = h.udp_low; udp_high = h.udp_high }

pub gives-with_use : (old new : Holdings) (protocol : Protocol) (port n : ℕ) (value : Use) → port + n ≤ 65536 → new ≡ with_use protocol port n value old → GivesUses old protocol port n value new
gives-with_use old new protocol port n value below e = subst (λ (p : Holdings). GivesUses old protocol port n value p) (sym e) (record {
  on = λ low high most h. on-with_use old protocol port n value low high most h;
  whole = λ h. with_use-whole old protocol port n value h below;
  uses = λ h other q. use_of-with_use old protocol port n value h below other q;
})

-- the ports were used so already
pub gives-same : (old : Holdings) (r : Run End) (value : Use) → AreUsedBy old r value → GivesUses old r.value.endpoint.protocol r.value.external r.count value old
gives-same old r value used = record {
  on = λ low high most h. h;
  whole = λ h. h;
  uses = λ h other q. by other q (same_protocol r.value.endpoint.protocol other && is_in_run r.value.external r.count q) refl;
}
  where
    by : (other : Protocol) (q : ℕ) (b : Bool) → (same_protocol r.value.endpoint.protocol other && is_in_run r.value.external r.count q) ≡ b → use_of old other q ≡ cond b (use_along (q - r.value.external) value) (use_of old other q)
    by other q false h = refl
    by other q true h =
        let k = and_parts (same_protocol r.value.endpoint.protocol other) (is_in_run r.value.external r.count q) h in
        let same : r.value.endpoint.protocol ≡ other = (same_protocol-Decides r.value.endpoint.protocol other).0 k.0 in
        ap (λ (p : Protocol). use_of old p q) (sym same) ∙ used q k.1

pub gives-as : (old new : Holdings) (protocol : Protocol) (port n : ℕ) (value other : Use) → value ≡ other → GivesUses old protocol port n value new → GivesUses old protocol port n other new
gives-as old new protocol port n value other e h = subst (λ (u : Use). GivesUses old protocol port n u new) e h

pub used-as : (pool : Holdings) (r : Run End) (value other : Use) → value ≡ other → AreUsedBy pool r value → AreUsedBy pool r other
used-as pool r value other e h = subst (λ (u : Use). AreUsedBy pool r u) e h
