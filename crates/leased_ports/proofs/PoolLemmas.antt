-- Where each port is used by its last end, the pool is that of the state.
use Rattle.std.specs.Prelude.{◌≡◌, refl, ℕ, ◌+◌, ◌<◌, ◌≤◌, ◌&&◌, ◌==◌, nat_lt, Bool, true, false, Option, Some, None}
use Rattle.std.proofs.Common.{cond, sym, ap, ◌∙◌}
use Rattle.std.proofs.lemmas.Bool.{and_parts, and_from, ltb-true, ltb-false, eqb-true, eq-eqb}
use Rattle.pcp_base.specs.declared.addresses.Address.{Address}
use Rattle.pcp_base.specs.declared.leases.Protocol.{Protocol}
use Rattle.pcp_base.specs.declared.leases.Endpoint.{Endpoint}
use Rattle.pcp_base.specs.declared.leases.Owner.{Owner}
use Rattle.pcp_base.specs.declared.leases.End.{End}
use Rattle.pcp_base.specs.Tables.{live, same_address, same_endpoint}
use Rattle.pcp_base.specs.Owners.{owners, is_owned, is_port}
use Rattle.pcp_base.specs.Ends.{resting, rests_for}
use Rattle.pcp_base.specs.States.{State}
use Rattle.pcp_base.specs.Reached.{IsReached}
use Rattle.pcp_base.proofs.Same.{same_address-Decides, same_protocol-Decides}
use Rattle.pcp_base.proofs.Members.{IsIn-filter, filter-IsIn, some-any}
use Rattle.pcp_base.proofs.EndLemmas.{owned-some}
use Rattle.pcp_base.proofs.RestLaws.{rests_for-some}
use Rattle.external_pool.specs.PortUses.{is_held_by, is_resting_for}
use Rattle.external_pool.specs.Holdings.{Holdings, use_of}
use Rattle.external_pool.specs.PoolOf.{IsPoolOf, owners_at}
use Rattle.leased_ports.specs.LastEnds.{last_end}
use Rattle.leased_ports.specs.declared.phases.Phase.{Phase}
use Rattle.leased_ports.specs.declared.phases.Phase.TheVariants.{Holds, Rests, Over}
use Rattle.leased_ports.specs.Kept.{use_by, use_in}
use Rattle.leased_ports.proofs.PhaseLemmas.{at-holds, at-rests}
use Rattle.leased_ports.proofs.LastEndLemmas.{last-some, owned-last, last-owned, last-rests, rests-last}

same-tests : (a b : Bool) → (a ≡ true → b ≡ true) → (b ≡ true → a ≡ true) → a ≡ b
same-tests true b f g = sym (f refl)
same-tests false true f g = g refl
same-tests false false f g = refl

-- who holds a port, and for whom it rests
pub held-by : (m : ℕ) (who : Address) (last : Option End) → is_held_by who (use_by m last) ≡ true
    → (e : End) × (last ≡ Some e) × (m < e.end) × (same_address e.endpoint.address who ≡ true)
held-by m who None h = absurd cc
held-by m who (Some e) h = by (nat_lt m e.end) refl (nat_lt m (e.end + 120)) h
  where
    by : (a : Bool) → nat_lt m e.end ≡ a → (b : Bool) → is_held_by who (use_in (cond a Holds (cond b Rests Over)) e) ≡ true
        → (x : End) × (Some e ≡ Some x) × (m < x.end) × (same_address x.endpoint.address who ≡ true)
    by true late b k = (e, refl, ltb-true m e.end late, k)
    by false soon true k = absurd cc
    by false soon false k = absurd cc

by-held : (m : ℕ) (who : Address) (e : End) → m < e.end → same_address e.endpoint.address who ≡ true → is_held_by who (use_by m (Some e)) ≡ true
by-held m who e late same = ap (λ (p : Phase). is_held_by who (use_in p e)) (at-holds m e.end late) ∙ same

resting-by : (m : ℕ) (who : Address) (internal : ℕ) (last : Option End) → is_resting_for who internal (use_by m last) ≡ true
    → (e : End) × (last ≡ Some e) × (e.end ≤ m) × (same_address e.endpoint.address who ≡ true) × (e.endpoint.port ≡ internal)
resting-by m who internal None h = absurd cc
resting-by m who internal (Some e) h = by (nat_lt m e.end) refl (nat_lt m (e.end + 120)) h
  where
    by : (a : Bool) → nat_lt m e.end ≡ a → (b : Bool) → is_resting_for who internal (use_in (cond a Holds (cond b Rests Over)) e) ≡ true
        → (x : End) × (Some e ≡ Some x) × (x.end ≤ m) × (same_address x.endpoint.address who ≡ true) × (x.endpoint.port ≡ internal)
    by true late b k = absurd cc
    by false soon true k = let parts = and_parts _ _ k in (e, refl, ltb-false m e.end soon, parts.0, eqb-true e.endpoint.port internal parts.1)
    by false soon false k = absurd cc

by-resting : (m : ℕ) (who : Address) (internal : ℕ) (e : End) → e.end ≤ m → m < e.end + 120 → same_address e.endpoint.address who ≡ true → e.endpoint.port ≡ internal
    → is_resting_for who internal (use_by m (Some e)) ≡ true
by-resting m who internal e came late same port =
    ap (λ (p : Phase). is_resting_for who internal (use_in p e)) (at-rests m e.end came late) ∙ and_from _ _ same (eq-eqb e.endpoint.port internal port)

module _ (s : State) (m : ℕ) (reached : IsReached s) (passed : s.last ≤ m) (protocol : Protocol) (port : ℕ) where
  held-owned : (who : Address) → is_held_by who (use_by m (last_end s m protocol port)) ≡ true
      → is_owned protocol port (owners_at who (live s.table m)) ≡ true
  held-owned who h =
      let e = held-by m who (last_end s m protocol port) h in
      let o = last-owned s m reached passed protocol port e.0 e.1 e.2 in
      let mine : same_address o.0.endpoint.address who ≡ true = ap (λ (x : Endpoint). same_address x.address who) o.4 ∙ e.3 in
      some-any (is_port protocol port) (owners_at who (live s.table m)) o.0
      (filter-IsIn (λ (x : Owner). same_address x.endpoint.address who) (owners (live s.table m)) o.0 o.1 mine)
      (and_from _ _ ((same_protocol-Decides o.0.protocol protocol).1 o.2) (eq-eqb o.0.external port o.3))

  owned-held : (who : Address) → is_owned protocol port (owners_at who (live s.table m)) ≡ true
      → is_held_by who (use_by m (last_end s m protocol port)) ≡ true
  owned-held who h =
      let o = owned-some protocol port (owners_at who (live s.table m)) h in
      let k = IsIn-filter (λ (x : Owner). same_address x.endpoint.address who) (owners (live s.table m)) o.0 o.1 in
      let e = owned-last s reached.sound m o.0 k.0 in
      let last : last_end s m protocol port ≡ Some e.0 =
      ap (λ (p : Protocol). last_end s m p port) (sym o.2) ∙ ap (λ (n : ℕ). last_end s m o.0.protocol n) (sym o.3) ∙ e.1 in
      ap (λ (x : Option End). is_held_by who (use_by m x)) last
      ∙ by-held m who e.0 e.2 (ap (λ (x : Endpoint). same_address x.address who) e.3 ∙ k.1)

  abbrev for_whom : Address → ℕ → Endpoint
  for_whom who internal = record { address = who; protocol = protocol; port = internal }

  resting-rests : (who : Address) (internal : ℕ) → is_resting_for who internal (use_by m (last_end s m protocol port)) ≡ true
      → rests_for s m port (for_whom who internal) ≡ true
  resting-rests who internal h =
      let e = resting-by m who internal (last_end s m protocol port) h in
      let k = last-some s reached.sound m protocol port e.0 e.1 in
      let there = last-rests s m reached passed protocol port e.0 e.1 e.2 in
      some-any (λ (x : End). same_endpoint x.endpoint (for_whom who internal) && x.external == port) (resting s m) e.0 there
      (and_from _ _ (and_from _ _ (and_from _ _ e.3 ((same_protocol-Decides e.0.endpoint.protocol protocol).1 k.2)) (eq-eqb e.0.endpoint.port internal e.4)) (eq-eqb e.0.external port k.3))

  recent-last : (e : End) → last_end s m protocol port ≡ Some e → m < e.end + 120
  recent-last e h = ltb-true m (e.end + 120) (last-some s reached.sound m protocol port e h).1

  rests-resting : (who : Address) (internal : ℕ) → rests_for s m port (for_whom who internal) ≡ true
      → is_resting_for who internal (use_by m (last_end s m protocol port)) ≡ true
  rests-resting who internal h =
      let x = rests_for-some s m port (for_whom who internal) h in
      let k = rests-last s m reached passed x.0 x.1 in
      let last : last_end s m protocol port ≡ Some x.0 =
      ap (λ (p : Protocol). last_end s m p port) (sym (ap (λ (y : Endpoint). y.protocol) x.2)) ∙ ap (λ (n : ℕ). last_end s m x.0.endpoint.protocol n) (sym x.3) ∙ k.0 in
      ap (λ (y : Option End). is_resting_for who internal (use_by m y)) last
      ∙ by-resting m who internal x.0 k.1 (recent-last x.0 last) ((same_address-Decides x.0.endpoint.address who).1 (ap (λ (y : Endpoint). y.address) x.2)) (ap (λ (y : Endpoint). y.port) x.2)

pub pool-state : (pool : Holdings) (s : State) (m : ℕ) → IsReached s → s.last ≤ m
    → ((protocol : Protocol) (port : ℕ) → use_of pool protocol port ≡ use_by m (last_end s m protocol port)) → IsPoolOf pool s m
pool-state pool s m reached passed used = record {
  held = λ who protocol port.
      ap (is_held_by who) (used protocol port) ∙ same-tests _ _ (held-owned s m reached passed protocol port who) (owned-held s m reached passed protocol port who);
  rests = λ who internal protocol port.
      ap (is_resting_for who internal) (used protocol port)
      ∙ same-tests _ _ (resting-rests s m reached passed protocol port who internal) (rests-resting s m reached passed protocol port who internal);
}
