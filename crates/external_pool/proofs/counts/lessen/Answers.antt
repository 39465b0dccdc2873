use Rattle.std.proofs.Common.{rules, ◌≡◌, ℕ, ◌-◌, cond, List, Some}
use Rattle.std.specs.Ordering.{nat_cmp}
use Rattle.std.specs.Cmp.Lexicographic.{slice_cmp}
use Rattle.std.specs.BTreeMap.{get, is_at}
use Rattle.external_pool.proofs.CountLemmas.{counted_after}
use Rattle.external_pool.proofs.counts.lessen.Goals as goal

pub returns-clause-counted : goal.returns-clause-counted
returns-clause-counted c other =
    let old = c.args.counts.now in let k = c.args.host.now in
    let count = c.in-Some.count.now - c.args.n in
    let told : (q : List ℕ) → get (slice_cmp nat_cmp) (c.get_mut.follows.lender count) q ≡ cond (is_at (slice_cmp nat_cmp k) q) (Some count) (get (slice_cmp nat_cmp) old q) = search rules in
    counted_after old (c.get_mut.follows.lender count) k (Some count) told other
