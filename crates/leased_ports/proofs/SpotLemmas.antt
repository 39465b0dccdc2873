-- Where ports stand, and the ports of runs.
use Rattle.std.proofs.Common.{◌≡◌, ℕ, ◌+◌, ◌-◌, ◌<◌, ◌≤◌, ◌&&◌, nat_lt, Bool, true, false, cond, List, [], None, refl, ap, ◌∙◌, arith}
use Rattle.std.proofs.lemmas.Bool.{lt-ltb, le-ltb}
use Rattle.pcp_base.specs.declared.leases.Protocol.{Protocol}
use Rattle.pcp_base.specs.declared.leases.Protocol.TheVariants.{Tcp, Udp}
use Rattle.pcp_base.specs.declared.leases.End.{End}
use Rattle.pcp_base.specs.Tables.{same_protocol}
use Rattle.port_runs.specs.Ports.{is_in_run}
use Rattle.port_spans.specs.declared.runs.Run.{Run}
use Rattle.port_spans.specs.Runs.{has_place, run_at}
use Rattle.port_spans.proofs.RunLemmas.{in_from, in_to, in_by}
use Rattle.port_spans.proofs.SpotLemmas.{spot_in, spot_from, spot_up_to}
use Rattle.port_spans.specs.Along.{spot, end_told}
use Rattle.leased_ports.specs.Kept.{port_run, end_by, IsSet}

pub spot_one : (p q : Protocol) (m n : ℕ) → m < 65536 → n < 65536 → spot p m ≡ spot q n → (p ≡ q) × (m ≡ n)
spot_one Tcp Tcp m n a b e = (refl, e)
spot_one Udp Udp m n a b e = (refl, omega (arith, e))
spot_one Tcp Udp m n a b e = absurd (omega (arith, a, e))
spot_one Udp Tcp m n a b e = absurd (omega (arith, b, e))

pub run_of_low : (runs : List (Run End)) (protocol : Protocol) (port : ℕ) → port < 65536 → port_run runs protocol port ≡ run_at runs (spot protocol port)
run_of_low runs protocol port low = ap (λ b. cond b (run_at runs (spot protocol port)) None) (lt-ltb port 65536 low)

pub run_of_high : (runs : List (Run End)) (protocol : Protocol) (port : ℕ) → 65536 ≤ port → port_run runs protocol port ≡ None
run_of_high runs protocol port high = ap (λ b. cond b (run_at runs (spot protocol port)) None) (le-ltb port 65536 high)

-- no port has a last end where there is no run
pub empty_by : (p : Protocol) (n : ℕ) → end_by [] p n ≡ None
empty_by p n = step (nat_lt n 65536)
  where
    step : (b : Bool) → end_told (spot p n) (cond b (run_at [] (spot p n)) None) ≡ None
    step true = refl
    step false = refl

module _ (r : Run End) (set : IsSet r) where
  pub in_spots : (q : Protocol) (port : ℕ) → port < 65536 → has_place (spot q port) r ≡ (same_protocol r.value.endpoint.protocol q && is_in_run r.value.external r.count port)
  in_spots q port low = ap (λ f. is_in_run f r.count (spot q port)) set.first ∙ spot_in r.value.endpoint.protocol q r.value.external r.count port set.within low

  pub place_first : has_place r.first r ≡ true
  place_first = in_by r.first r.count r.first (omega arith) (omega (arith, set.some))

  pub port_low : (port : ℕ) → is_in_run r.value.external r.count port ≡ true → port < 65536
  port_low port h = omega (arith, in_to r.value.external r.count port h, set.within)

  -- a port of the run stands at one of its places
  pub place_of : (port : ℕ) → is_in_run r.value.external r.count port ≡ true → has_place (spot r.value.endpoint.protocol port) r ≡ true
  place_of port h =
      ap (λ f. is_in_run f r.count (spot r.value.endpoint.protocol port)) set.first
      ∙ in_by (spot r.value.endpoint.protocol r.value.external) r.count (spot r.value.endpoint.protocol port) (from r.value.endpoint.protocol) (to r.value.endpoint.protocol)
    where
      from : (p : Protocol) → spot p r.value.external ≤ spot p port
      from Tcp = in_from r.value.external r.count port h
      from Udp = omega (arith, in_from r.value.external r.count port h)

      to : (p : Protocol) → spot p port < spot p r.value.external + r.count
      to Tcp = in_to r.value.external r.count port h
      to Udp = omega (arith, in_to r.value.external r.count port h)

  pub place_off : (port : ℕ) → is_in_run r.value.external r.count port ≡ true → spot r.value.endpoint.protocol port - r.first ≡ port - r.value.external
  place_off port h = ap (λ (f : ℕ). spot r.value.endpoint.protocol port - f) set.first ∙ spot_from r.value.endpoint.protocol r.value.external port (in_from r.value.external r.count port h)

  pub run_low : r.first + r.count ≤ 131072
  run_low = omega (arith, set.first, spot_up_to r.value.endpoint.protocol r.value.external r.count set.within)

  pub place_low : (at : ℕ) → has_place at r ≡ true → at < 131072
  place_low at h = omega (arith, in_to r.first r.count at h, run_low)
