-- How many looks are spent on the ports of an endpoint's host.
use Rattle.std.proofs.Common.{◌≡◌, ℕ, ◌+◌, ◌-◌, ◌*◌, ◌<◌, ◌≤◌, arith}
use Rattle.std.proofs.Math.Nat.{add-mul, mul-le-mul_right}
use Rattle.pcp_base.specs.declared.leases.TheConstants.{MOST_PEERS}

module _ (lv end p0 s0 : ℕ) where
  -- what is spent up to a port, and on those from it on at most
  abbrev pub within : ℕ → ℕ → Type 0
  within p s = s + (2 + MOST_PEERS) * (end - p) * lv ≤ s0 + (2 + MOST_PEERS) * (end - p0) * lv

  -- a look for the next port, and those at its leases
  pub one-turn : (p p' s s' s'' : ℕ) → p < p' → p' < end → s' ≡ s + lv → s'' ≤ s' + (1 + MOST_PEERS) * lv → within p s → within p' s''
  one-turn p p' s s' s'' up below first more paid =
      let split : ((2 + MOST_PEERS) * (end - p') + (2 + MOST_PEERS)) * lv ≡ (2 + MOST_PEERS) * (end - p') * lv + (2 + MOST_PEERS) * lv = add-mul ((2 + MOST_PEERS) * (end - p')) (2 + MOST_PEERS) lv in
      let low : (2 + MOST_PEERS) * (end - p') + (2 + MOST_PEERS) ≤ (2 + MOST_PEERS) * (end - p) = omega (arith, up, below) in
      let most : ((2 + MOST_PEERS) * (end - p') + (2 + MOST_PEERS)) * lv ≤ (2 + MOST_PEERS) * (end - p) * lv = mul-le-mul_right lv low in
      omega (arith, split, most, first, more, paid)

  -- at the last port, and where a look finds none
  pub last-turn : (p s s' : ℕ) → s' ≤ s + lv → within p s → s' ≤ s0 + ((2 + MOST_PEERS) * (end - p0) + 1) * lv
  last-turn p s s' last paid =
      let split : ((2 + MOST_PEERS) * (end - p0) + 1) * lv ≡ (2 + MOST_PEERS) * (end - p0) * lv + 1 * lv = add-mul ((2 + MOST_PEERS) * (end - p0)) 1 lv in
      omega (arith, split, last, paid)
