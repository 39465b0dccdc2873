-- There is at most one pick.
use Rattle.std.proofs.Common.{◌≡◌, ℕ, ◌≤◌, Option, Some, None, refl, sym, ap, ◌∙◌, subst, arith, inl, inr}
use Rattle.pcp_base.specs.declared.addresses.Address.{Address}
use Rattle.external_pool.specs.PortUses.{PortUses}
use Rattle.external_pool.specs.Choosing.{IsVacantRun, IsPick, IsLongest, IsLongestRun}
use Rattle.external_pool.specs.Choosing.IsPick.{suggestion, longest}
use Rattle.external_pool.specs.declared.asks.Picked.{Picked}

module _ (uses : PortUses) (parity : Option ℕ) (room : ℕ) where
  no_longer : (p q : Picked) → IsLongestRun uses parity room p → IsLongestRun uses parity room q → q.count ≤ p.count
  no_longer p q is other = is.greatest q.count other.within (q.start, other.vacant)

  same_run : (p q : Picked) → IsLongestRun uses parity room p → IsLongestRun uses parity room q → p ≡ q
  same_run p q is other =
      let counts : p.count ≡ q.count = omega (arith, no_longer p q is other, no_longer q p other is) in
      let left : p.start ≤ q.start = is.least q.start (subst (λ (n : ℕ). IsVacantRun uses n parity q.start) (sym counts) other.vacant) in
      let right : q.start ≤ p.start = other.least p.start (subst (λ (n : ℕ). IsVacantRun uses n parity p.start) counts is.vacant) in
      let starts : p.start ≡ q.start = omega (arith, left, right) in
      λ i. record { start = starts i; count = counts i }

  pub one_longest : (one other : Option Picked) → IsLongest uses parity room one → IsLongest uses parity room other → one ≡ other
  one_longest None None h k = refl
  one_longest None (Some q) h k = absurd (h q.count k.some k.within (q.start, k.vacant))
  one_longest (Some p) None h k = absurd (k p.count h.some h.within (p.start, h.vacant))
  one_longest (Some p) (Some q) h k = ap Some (same_run p q h k)

module _ (uses : PortUses) (who : Address) (internal suggested : ℕ) (parity : Option ℕ) (room : ℕ) (one other : Option Picked) where
  pub one_pick : IsPick uses who internal suggested parity room one → IsPick uses who internal suggested parity room other → one ≡ other
  one_pick (suggestion some back e) (suggestion some' back' e') = e ∙ sym e'
  one_pick (suggestion some back e) (longest (inl none) h) = absurd (some none)
  one_pick (suggestion some back e) (longest (inr stays) h) = absurd (stays back)
  one_pick (longest (inl none) h) (suggestion some back e) = absurd (some none)
  one_pick (longest (inr stays) h) (suggestion some back e) = absurd (stays back)
  one_pick (longest w h) (longest w' k) = one_longest uses parity room one other h k
