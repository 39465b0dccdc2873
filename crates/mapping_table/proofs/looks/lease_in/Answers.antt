use Rattle.std.proofs.Common.{◌≡◌, ℕ, Some, None, ap}
use Rattle.std.specs.Option.{option_map, unwrap_or}
use Rattle.pcp_base.specs.declared.leases.MapLease.{MapLease}
use Rattle.mapping_table.proofs.looks.lease_in.Goals as goal

pub returns-in_default-clause-lease : goal.returns-in_default-clause-lease
returns-in_default-clause-lease g c =
    λ n l there at. absurd (let no : None ≡ Some (n, l) = c.in_default.ensures.own n l there (ap (λ o. unwrap_or o 0) at) in cc)

pub returns-clause-lease : goal.returns-clause-lease
returns-clause-lease g c =
    λ n l there at. ap (option_map (λ (e : ℕ × MapLease). e.1)) (c.in-Some.ensures.own n l there (ap (λ o. unwrap_or o 0) at))
