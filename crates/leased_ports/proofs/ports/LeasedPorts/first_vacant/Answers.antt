use Rattle.std.proofs.Common.{◌≡◌, ℕ, ◌<◌, Option, None, ap, sym, ◌∙◌, subst}
use Rattle.std.specs.Option.{option_map}
use Rattle.external_pool.specs.declared.asks.Picked.{Picked}
use Rattle.external_pool.specs.Choosing.{IsLongest}
use Rattle.leased_ports.specs.Leased.{Leased}
use Rattle.leased_ports.specs.Plain.{one_port, lesser, uses_by, uses_now}
use Rattle.leased_ports.proofs.PlainLemmas.{first-vacant}
use Rattle.leased_ports.proofs.SearchLemmas.{search-longest}
use Rattle.port_spans.specs.Along.{spot}
use Rattle.leased_ports.proofs.ports.LeasedPorts.first_vacant.Goals as goal

pub returns-clause-first : goal.returns-clause-first
returns-clause-first g c =
    let a = c.self.inside in
    let p = c.args.protocol in
    let told : option_map one_port (lesser (option_map (λ (run : Picked). run.start) c.longest-known.result) c.first_over-over.result) ≡ c.one_port.result =
    sym (c.one_port.ensures ∙ ap (option_map one_port) (c.lesser.ensures ∙ ap (λ (o : Option ℕ). lesser o c.first_over-over.result) c.start_of.ensures)) in
    subst (λ (v : Leased). IsLongest (uses_now v p) None 1 c.one_port.result) c.self.view_is
    (subst (λ (o : Option Picked). IsLongest (uses_by a.low a.high a.reached a.ends p) None 1 o) told
    (first-vacant a.low a.high a.quota a.reached a.ends a.pool a.wheel c.self.invariant.in_step c.self.invariant.on c.self.invariant.begun p c.longest-known.result c.first_over-over.result c.longest-known.ensures.longest c.first_over-over.ensures.first))

-- nothing is due by the moment reached
pub returns-then-self-clause-first : goal.returns-then-self-clause-first
returns-then-self-clause-first g c =
    let a = c.self.inside in
    let p = c.args.protocol in
    let now : a.settled ≡ a.reached = c.if-self.true in
    subst (λ (v : Leased). IsLongest (uses_now v p) None 1 c.longest-known.result) c.self.view_is
    (search-longest a.low a.high a.quota a.reached a.ends a.pool a.wheel c.self.invariant.in_step c.self.invariant.on c.self.invariant.begun p None 1
    c.longest-known.result c.longest-known.ensures.longest (λ q expiry less there. subst (λ (n : ℕ). n < expiry) now (c.self.invariant.late (spot p q) expiry there)))
