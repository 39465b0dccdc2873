use Rattle.std.proofs.Common.{◌≡◌, ℕ, replicate, vec_len, ap, ◌∙◌, arith}
use Rattle.ordered_index.specs.Sieves.{no_places}
use Rattle.ordered_index.specs.declared.sieves.TheConstants.{BUCKETS}
use Rattle.ordered_index.proofs.sieves.Sieve.clear.Goals as goal

pub returns : goal.returns
unfolding no_places
returns c =
    let all : vec_len c.self.inside.counts ≡ BUCKETS = omega (arith, c.self.invariant.all) in
    c.fill.ensures.items (λ y e. e) ∙ ap (λ n. replicate {A = ℕ} n 0) all
