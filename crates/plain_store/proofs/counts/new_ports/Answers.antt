use Rattle.std.proofs.Common.{◌≡◌, ℕ, suc, ◌+◌, ◌-◌, ◌≤◌, not, cond, Bool, ap, ◌∙◌, arith}
use Rattle.pcp_base.specs.Owners.{is_owned}
use Rattle.plain_store.specs.AddressPorts.{owners_at}
use Rattle.plain_store.proofs.CountLemmas.{count_later, at_most_one, byte_is}
use Rattle.plain_store.proofs.counts.new_ports.Goals as goal

pub loop-i-preserved : goal.loop-i-preserved
loop-i-preserved c =
    let lease = c.args.lease.now in
    let i = c.loop-i.i in
    let free : ℕ → Bool = λ n. not (is_owned lease.protocol (lease.external + n) (owners_at c.args.m c.args.who.now c.args.maps.now c.args.peers.now)) in
    let less : lease.count - i ≡ suc (lease.count - (i + 1)) = omega (arith, c.loop-i-test.true) in
    let first = count_later free i (lease.count - i) (lease.count - (i + 1)) less in
    let one : c.from-count.result ≡ cond {A = ℕ} (free i) 1 0 = c.from-count.ensures ∙ byte_is (not c.is_counted.result) ∙ ap (λ (b : Bool). cond {A = ℕ} (not b) 1 0) c.is_counted.ensures in
    let few : cond {A = ℕ} (free i) 1 0 ≤ 1 = at_most_one (free i) in
    (omega (arith, c.loop-i.invariant.0, first, one), omega (arith, c.loop-i.invariant.1, one, few))
