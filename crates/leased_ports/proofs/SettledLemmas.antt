-- How many ports are due, and how many an address holds by the counts, where more is seen to.
use Rattle.std.proofs.Common.{◌≡◌, ℕ, ◌≤◌, true, Option, Some, None, arith}
use Rattle.std.proofs.lemmas.Bool.{and_parts, and_from, ltb-true, lt-ltb}
use Rattle.pcp_base.specs.declared.addresses.Address.{Address}
use Rattle.pcp_base.specs.Tables.{same_address}
use Rattle.pcp_base.specs.declared.leases.Protocol.{Protocol}
use Rattle.pcp_base.specs.declared.leases.Protocol.TheVariants.{Tcp, Udp}
use Rattle.pcp_base.specs.declared.leases.End.{End}
use Rattle.leased_ports.specs.Leased.{Leased, end_of}
use Rattle.leased_ports.specs.Kept.{phase_at}
use Rattle.leased_ports.specs.Counts.{count_below, falls_due, is_held_after, held_since, ports_due}
use Rattle.leased_ports.proofs.CountLemmas.{count-some}
use Rattle.leased_ports.proofs.EndedLemmas.{told_step}
use Rattle.leased_ports.proofs.PhaseLemmas.{phase-late}

-- what comes after a later moment comes after an earlier one
due-sooner : (seen later m : ℕ) → seen ≤ later → (o : Option End) → falls_due later m o ≡ true → falls_due seen m o ≡ true
due-sooner seen later m more None h = h
due-sooner seen later m more (Some e) h =
    told_step seen m e.end true (phase_at later e.end) (λ expiry told. let late = phase-late later e.end expiry told in omega (arith, late, more)) h

held-sooner : (seen later : ℕ) (who : Address) → seen ≤ later → (o : Option End) → is_held_after later who o ≡ true → is_held_after seen who o ≡ true
held-sooner seen later who more None h = h
held-sooner seen later who more (Some e) h =
    let both = and_parts _ (same_address e.endpoint.address who) h in
    and_from _ _ (lt-ltb seen e.end (let less = ltb-true later e.end both.0 in omega (arith, less, more))) both.1

-- no more ports are due, at the moment reached or at any other
pub due-settled : (v : Leased) (n : ℕ) → v.settled ≤ n → ports_due (record v { settled = n }) ≤ ports_due v
due-settled v n more =
    let tcp = fewer Tcp in
    let udp = fewer Udp in
    omega (arith, tcp, udp)
  where
    fewer : (p : Protocol) → count_below (λ port. falls_due n v.reached (end_of v p port)) 65536 ≤ count_below (λ port. falls_due v.settled v.reached (end_of v p port)) 65536
    fewer p = count-some (λ port. falls_due v.settled v.reached (end_of v p port)) (λ port. falls_due n v.reached (end_of v p port)) 65536 (λ i less h. due-sooner v.settled n v.reached more (end_of v p i) h)

-- and an address holds no more
pub held-settled : (v : Leased) (n : ℕ) (who : Address) → v.settled ≤ n → held_since (record v { settled = n }) who ≤ held_since v who
held-settled v n who more =
    let tcp = fewer Tcp in
    let udp = fewer Udp in
    omega (arith, tcp, udp)
  where
    fewer : (p : Protocol) → count_below (λ port. is_held_after n who (end_of v p port)) 65536 ≤ count_below (λ port. is_held_after v.settled who (end_of v p port)) 65536
    fewer p = count-some (λ port. is_held_after v.settled who (end_of v p port)) (λ port. is_held_after n who (end_of v p port)) 65536 (λ i less h. held-sooner v.settled n who more (end_of v p i) h)
