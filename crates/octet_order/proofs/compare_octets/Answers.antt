use Rattle.std.proofs.Common.{ℕ, ap, sym, ◌∙◌, arith}
use Rattle.std.specs.Ordering.{nat_cmp}
use Rattle.octet_order.proofs.OctetOrder.{spelled-order, whole, octets_from}
use Rattle.octet_order.proofs.compare_octets.Goals as goal

pub returns : goal.returns
returns c =
    let a = whole c.args.a.now c.told-a in
    let b = whole c.args.b.now c.told-b in
    c.cmp.ensures ∙ ap (λ (n : ℕ). nat_cmp n c.from_be_bytes-2.result) (c.from_be_bytes.ensures ∙ a) ∙ ap (nat_cmp _) (c.from_be_bytes-2.ensures ∙ b)
    ∙ sym (spelled-order c.args.a.now c.args.b.now 0 0 (c.told-a ∙ sym c.told-b) (octets_from c.args.a.now (λ i. omega (arith, c.fits-a i))) (octets_from c.args.b.now (λ i. omega (arith, c.fits-b i))))
