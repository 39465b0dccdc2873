use Rattle.std.proofs.Common.{◌≡◌, ℕ, true, false, Option, None, sym, ◌∙◌, subst, arith}
use Rattle.external_pool.specs.Choosing.{IsLongest}
use Rattle.leased_ports.specs.Plain.{uses_now}
use Rattle.leased_ports.proofs.BackLemmas.{plain-parts, plain-from, some-always}
use Rattle.leased_ports.proofs.ports.LeasedPorts.longest.Goals as goal

pub returns-then-is_one_port-clause-longest : goal.returns-then-is_one_port-clause-longest
returns-then-is_one_port-clause-longest g c =
    let is = plain-parts c.args.room c.args.parity (sym c.is_one_port.ensures ∙ c.if-is_one_port.true) in
    subst (λ (o : Option ℕ). IsLongest (uses_now c.args.self.now c.args.protocol) o c.args.room c.first_vacant.result) (sym is.1)
    (subst (λ (n : ℕ). IsLongest (uses_now c.args.self.now c.args.protocol) None n c.first_vacant.result) (sym is.0) c.first_vacant.ensures.first)

pub returns-then-is_one_port-clause-near : goal.returns-then-is_one_port-clause-near
returns-then-is_one_port-clause-near g c = let few = c.first_vacant.ensures.steps in some-always c.first_vacant.result _ (λ run full. omega (arith, few))

pub returns-clause-plain : goal.returns-clause-plain
returns-clause-plain g c one none =
    absurd (let no : true ≡ false = sym (plain-from c.args.room c.args.parity one none) ∙ sym c.is_one_port.ensures ∙ c.if-is_one_port.false in cc)
