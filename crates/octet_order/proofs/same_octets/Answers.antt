use Rattle.std.proofs.Common.{◌==◌, ℕ, ap, sym, ◌∙◌, arith}
use Rattle.std.specs.Int.{w128, from_be_bytes}
use Rattle.octet_order.proofs.OctetOrder.{numbers-same, octets_from}
use Rattle.octet_order.proofs.same_octets.Goals as goal

pub returns : goal.returns
returns c =
    let same = numbers-same c.args.a.now c.args.b.now c.told-a c.told-b (octets_from c.args.a.now (λ i. omega (arith, c.fits-a i))) (octets_from c.args.b.now (λ i. omega (arith, c.fits-b i))) in
    ap (λ (n : ℕ). n == c.from_be_bytes-2.result) c.from_be_bytes.ensures
    ∙ ap (λ (n : ℕ). from_be_bytes w128 c.args.a.now == n) c.from_be_bytes-2.ensures ∙ sym same
