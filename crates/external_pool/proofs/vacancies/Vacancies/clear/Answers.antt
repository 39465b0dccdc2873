use Rattle.std.proofs.Common.{◌≡◌, length, ap, ◌∙◌, count_by, arith}
use Rattle.external_pool.specs.PortUses.{PortUses, is_held_by}
use Rattle.external_pool.proofs.Counted.{length-all_free, count-all_free}
use Rattle.external_pool.proofs.vacancies.Vacancies.clear.Goals as goal

pub invariant_of-self : goal.invariant_of-self
invariant_of-self c = record {
  whole = record {
    tcp = ap (λ (u : PortUses). length u.each) c.clear-2.ensures ∙ length-all_free 65536;
    udp = ap (λ (u : PortUses). length u.each) c.clear-3.ensures ∙ length-all_free 65536;
  };
  counted = λ who.
      let tcp : count_by (is_held_by who) c.clear-2.new.self.each ≡ 0 = ap (λ (u : PortUses). count_by (is_held_by who) u.each) c.clear-2.ensures ∙ count-all_free who 65536 in
      let udp : count_by (is_held_by who) c.clear-3.new.self.each ≡ 0 = ap (λ (u : PortUses). count_by (is_held_by who) u.each) c.clear-3.ensures ∙ count-all_free who 65536 in
      omega (arith, tcp, udp, c.clear.ensures who);
}
