-- The value that is seen of what is kept.
use Rattle.std.proofs.Common.{◌≡◌, ℕ, ◌+◌, ◌-◌, ◌≤◌, ◌&&◌, ◌==◌, nat_lt, Bool, true, false, cond, List, [], Option, Some, None, IfSome, refl, sym, ap, ◌∙◌, subst, arith}
use Rattle.std.specs.Ordering.{nat_cmp}
use Rattle.std.specs.FinMap.{FinMap, empty, get-empty}
use Rattle.std.proofs.lemmas.Bool.{le-ltb, eqb-true}
use Rattle.std.proofs.lemmas.Bool.Decides.{nat_tests}
use Rattle.pcp_base.specs.declared.leases.Protocol.{Protocol}
use Rattle.pcp_base.specs.declared.leases.Protocol.TheVariants.{Tcp, Udp}
use Rattle.pcp_base.specs.declared.leases.End.{End}
use Rattle.pcp_base.specs.Tables.{same_protocol}
use Rattle.pcp_base.specs.Protocols.{protocol_number}
use Rattle.pcp_base.specs.Ends.{is_end_of}
use Rattle.pcp_base.specs.States.{State}
use Rattle.pcp_base.specs.Reached.{IsReached}
use Rattle.port_runs.specs.Ports.{is_in_run}
use Rattle.external_pool.specs.declared.uses.Use.{Use}
use Rattle.external_pool.specs.declared.uses.Use.TheVariants.{Free}
use Rattle.external_pool.specs.Holdings.{Holdings, uses_of, use_of, fresh_pool, emptied}
use Rattle.external_pool.specs.PortUses.{PortUses, uses_over, use_along, use_at, all_free}
use Rattle.external_pool.specs.PoolOf.{IsPoolOf}
use Rattle.external_pool.proofs.Counted.{fresh-whole}
use Rattle.external_pool.proofs.Painted.{use_at-all_free}
use Rattle.lease_store.specs.declared.terms.Terms.{Terms}
use Rattle.port_spans.specs.declared.runs.Run.{Run}
use Rattle.port_spans.specs.Runs.{run_at}
use Rattle.leased_ports.specs.Leased.{Leased, leased, fresh_ports, OnlyEndsChange, IsPortsOf, IsOnTerms}
use Rattle.port_spans.specs.Along.{end_along, spot, end_told}
use Rattle.leased_ports.specs.declared.phases.Phase.{Phase}
use Rattle.leased_ports.specs.Kept.{port_run, end_by, phase_at, phase_by, use_in, use_by, use_told, IsOn, IsKept, AreInStep, AreSettled}
use Rattle.leased_ports.specs.Falling.{NoneDue}
use Rattle.leased_ports.specs.Laws.{IsPoolOnTerms}
use Rattle.leased_ports.specs.Steps.{AreAssigned}
use Rattle.leased_ports.proofs.PoolLemmas.{pool-state}
use Rattle.leased_ports.proofs.PartLemmas.{use_step}
use Rattle.leased_ports.proofs.PhaseLemmas.{use-recent}
use Rattle.leased_ports.proofs.MomentLemmas.{ports-told}

-- ---- ports

pub by_high : (runs : List (Run End)) (p : Protocol) (n : ℕ) → 65536 ≤ n → None ≡ end_by runs p n
by_high runs p n high = sym (ap (λ (b : Bool). end_told (spot p n) (cond b (run_at runs (spot p n)) None)) (le-ltb n 65536 high))

-- ---- one port

pub along_none : (e : End) → end_along 0 e ≡ e
along_none e =
    let ports : e.endpoint.port + 0 ≡ e.endpoint.port = omega arith in
    let externals : e.external + 0 ≡ e.external = omega arith in
    ap (λ (n : ℕ). record { endpoint = record e.endpoint { port = n }; external = e.external + 0; end = e.end }) ports
    ∙ ap (λ (n : ℕ). record { endpoint = e.endpoint; external = n; end = e.end }) externals

one_test : (p q : Protocol) (x port : ℕ) → (same_protocol p q && is_in_run x 1 port) ≡ (protocol_number p == protocol_number q && x == port)
one_test Tcp Tcp x port = grind (arith, nat_tests)
one_test Udp Udp x port = grind (arith, nat_tests)
one_test Tcp Udp x port = refl
one_test Udp Tcp x port = refl

one_step : (e : End) (port : ℕ) (b : Bool) (other : Option End) → b ≡ (protocol_number e.endpoint.protocol == protocol_number e.endpoint.protocol && e.external == port) → cond b (Some (end_along (port - e.external) e)) other ≡ cond b (Some (end_along (port - e.external) e)) other
one_step e port b other h = refl

pub one_port : (e : End) (q : Protocol) (port : ℕ) (other : Option End) → cond (same_protocol e.endpoint.protocol q && is_in_run e.external 1 port) (Some (end_along (port - e.external) e)) other ≡ cond (is_end_of q port e) (Some e) other
one_port e q port other =
    ap (λ (b : Bool). cond b (Some (end_along (port - e.external) e)) other) (one_test e.endpoint.protocol q e.external port)
    ∙ by (protocol_number e.endpoint.protocol == protocol_number q) (e.external == port) refl
  where
    by : (a b : Bool) → (e.external == port) ≡ b → cond (a && b) (Some (end_along (port - e.external) e)) other ≡ cond (a && b) (Some e) other
    by true true h =
        let none : port - e.external ≡ 0 = omega (arith, eqb-true e.external port h) in
        ap (λ (i : ℕ). Some (end_along i e)) none ∙ ap Some (along_none e)
    by true false h = refl
    by false b h = refl

-- ---- the value

free_each : (uses : PortUses) (n port : ℕ) → uses.each ≡ all_free n → use_at uses.each port ≡ Free
free_each uses n port e = ap (λ (es : List Use). use_at es port) e ∙ use_at-all_free n port

fresh_free : (low high quota : ℕ) (p : Protocol) (port : ℕ) → use_of (fresh_pool low high quota) p port ≡ Free
fresh_free low high quota Tcp port = use_at-all_free 65536 port
fresh_free low high quota Udp port = use_at-all_free 65536 port

fresh_use : (waits : FinMap nat_cmp ℕ) (p : Protocol) (port : ℕ) → Free ≡ use_told waits (spot p port) (port_run [] p port)
fresh_use waits p port = step (nat_lt port 65536)
  where
    step : (b : Bool) → Free ≡ use_told waits (spot p port) (cond b (run_at [] (spot p port)) None)
    step true = refl
    step false = refl

pub kept_fresh : (low high quota : ℕ) (runs : List (Run End)) (pool : Holdings) (waits : FinMap nat_cmp ℕ) → runs ≡ [] → pool ≡ fresh_pool low high quota → waits ≡ empty → IsKept low high quota 0 0 runs pool waits
kept_fresh low high quota runs pool waits runs_is pool_is waits_is =
    subst (λ (rs : List (Run End)). IsKept low high quota 0 0 rs pool waits) (sym runs_is)
    (subst (λ (p : Holdings). IsKept low high quota 0 0 [] p waits) (sym pool_is)
    (subst (λ (w : FinMap nat_cmp ℕ). IsKept low high quota 0 0 [] (fresh_pool low high quota) w) (sym waits_is) (record {
      on = record { quota = refl; tcp_low = refl; tcp_high = refl; udp_low = refl; udp_high = refl };
      in_step = record {
        whole = fresh-whole low high quota;
        scheduled = record { apart = λ at. tt; set = λ at. tt; waiting = λ at. get-empty nat_cmp at };
        used = λ p port. fresh_free low high quota p port ∙ fresh_use empty p port;
      };
      begun = λ at. tt;
      order = omega arith;
      late = λ id expiry h. let no : None ≡ Some expiry = sym (get-empty nat_cmp id) ∙ h in absurd cc;
    })))

-- a cleared pool is a new one of its range
emptied_fresh : (pool : Holdings) (low high most : ℕ) → IsOn pool low high most → emptied pool ≡ fresh_pool low high most
emptied_fresh pool low high most h = λ i. record {
  quota = h.quota i;
  tcp = uses_over (h.tcp_low i) (h.tcp_high i) (all_free 65536);
  udp = uses_over (h.udp_low i) (h.udp_high i) (all_free 65536);
}

pub kept_vacated : (low high quota : ℕ) (runs : List (Run End)) (before between pool : Holdings) (waits : FinMap nat_cmp ℕ) → runs ≡ [] → ((l h q : ℕ) → IsOn before l h q → IsOn between l h q) → IsOn before low high quota
    → pool ≡ emptied between → waits ≡ empty → IsKept low high quota 0 0 runs pool waits
kept_vacated low high quota runs before between pool waits runs_is keeps on pool_is waits_is =
    kept_fresh low high quota runs pool waits runs_is (pool_is ∙ emptied_fresh between low high quota (keeps low high quota on)) waits_is

pub view_vacated : (low high quota : ℕ) (runs : List (Run End)) → runs ≡ [] → leased low high quota 0 0 runs ≡ fresh_ports low high quota
view_vacated low high quota runs e = ap (leased low high quota 0 0) e

-- nothing but last ends changes where the runs do
pub only_ends : (low high quota settled reached : ℕ) (runs new : List (Run End)) (old : Leased) → leased low high quota settled reached runs ≡ old → OnlyEndsChange old (leased low high quota settled reached new)
only_ends low high quota settled reached runs new old e =
    subst (λ (v : Leased). OnlyEndsChange v (leased low high quota settled reached new)) e (record { low = refl; high = refl; quota = refl; settled = refl; reached = refl })

pub kept_assigned : (low high quota seen m : ℕ) (old : List (Run End)) (p : Protocol) (start n : ℕ) (last : ℕ → Option End) (new : List (Run End)) (before pool : Holdings) (waits : FinMap nat_cmp ℕ)
    → ((l h q : ℕ) → IsOn before l h q → IsOn pool l h q) → IsOn before low high quota → AreAssigned m old p start n last new pool waits → seen ≤ m → NoneDue seen waits → IsKept low high quota seen m new pool waits
kept_assigned low high quota seen m old p start n last new before pool waits keeps on h order late = record { on = keeps low high quota on; in_step = h.in_step; begun = h.begun; order = order; late = late }

-- Where each port is used by its last end, the pool is that of the state for whose ports the value
-- stands.
pub used_pool : (low high quota seen m : ℕ) (runs : List (Run End)) (pool : Holdings) → ((p : Protocol) (port : ℕ) → use_of pool p port ≡ use_by m (end_by runs p port))
    → (s : State) → IsReached s → IsPortsOf (leased low high quota seen m runs) s → IsPoolOf pool s m
used_pool low high quota seen m runs pool used s reached h = pool-state pool s m reached h.passed (λ p port.
    used p port ∙ use-recent m (end_by runs p port)
    ∙ ap (use_by m) (ports-told (leased low high quota seen m runs) s m p port reached.sound h h.passed))

-- so it is where what is due is seen to
settled_use : (m at : ℕ) (waits : FinMap nat_cmp ℕ) (o : Option (Run End)) → IfSome o (λ r. phase_by waits r ≡ phase_at m r.value.end) → use_told waits at o ≡ use_by m (end_told at o)
settled_use m at waits None h = refl
settled_use m at waits (Some r) h = ap (λ (f : Phase). use_along (at - r.first) (use_in f r.value)) h ∙ use_step (at - r.first) r.value (phase_at m r.value.end)

module _ (m : ℕ) (runs : List (Run End)) (pool : Holdings) (waits : FinMap nat_cmp ℕ) (is : AreInStep runs pool waits) (settled : AreSettled m runs waits) where
  use_step_by : (p : Protocol) (port : ℕ) (b : Bool) → use_told waits (spot p port) (cond b (run_at runs (spot p port)) None) ≡ use_by m (end_told (spot p port) (cond b (run_at runs (spot p port)) None))
  use_step_by p port true = settled_use m (spot p port) waits (run_at runs (spot p port)) (settled (spot p port))
  use_step_by p port false = refl

  pub used_by : (p : Protocol) (port : ℕ) → use_of pool p port ≡ use_by m (end_by runs p port)
  used_by p port = is.used p port ∙ use_step_by p port (nat_lt port 65536)

  pub kept_pool : (low high quota seen : ℕ) (s : State) → IsReached s → IsPortsOf (leased low high quota seen m runs) s → IsPoolOf pool s m
  kept_pool low high quota seen = used_pool low high quota seen m runs pool used_by

pub kept_terms : (low high quota seen m : ℕ) (runs : List (Run End)) (pool : Holdings) (terms : Terms) → IsOn pool low high quota
    → IsOnTerms (leased low high quota seen m runs) terms → IsPoolOnTerms pool terms
kept_terms low high quota seen m runs pool terms on h = record { quota = on.quota ∙ h.quota; low = low_of; high = high_of }
  where
    low_of : (p : Protocol) → (uses_of pool p).low ≡ terms.external.low
    low_of Tcp = on.tcp_low ∙ h.low
    low_of Udp = on.udp_low ∙ h.low

    high_of : (p : Protocol) → (uses_of pool p).high ≡ terms.external.high
    high_of Tcp = on.tcp_high ∙ h.high
    high_of Udp = on.udp_high ∙ h.high
