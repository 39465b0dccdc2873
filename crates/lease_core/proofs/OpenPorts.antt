-- What is known of open and of vacant ports.
use Rattle.std.proofs.Common.{◌≡◌, ◌∙◌, ℕ, zero, suc, ◌+◌, ◌<◌, ◌≤◌, Bool, true, false, Option, Some, refl, ap, sym, subst, arith}
use Rattle.std.specs.Prelude.{◌&&◌, not, nat_le}
use Rattle.std.specs.List.{list_all, range_with_len}
use Rattle.std.proofs.lemmas.Bool.{and_parts, and_from, not-true, leb-true, eq-eqb}
use Rattle.pcp_base.specs.declared.leases.Endpoint.{Endpoint}
use Rattle.pcp_base.specs.Protocols.{protocol_number}
use Rattle.pcp_base.specs.Tables.{live, same_endpoint}
use Rattle.pcp_base.specs.Owners.{owners, is_owned}
use Rattle.pcp_base.specs.Ends.{is_end_of, resting, rests, rests_for}
use Rattle.pcp_base.specs.States.{State}
use Rattle.pcp_base.proofs.Members.{All-IsIn, All-weaker, any-none, none-any}
use Rattle.pcp_base.proofs.Same.{same_endpoint-Decides}
use Rattle.pcp_base.proofs.RestLaws.{rests_for-some}
use Rattle.external_pool.specs.PortUses.{is_in_range}
use Rattle.external_pool.specs.declared.asks.Picked.{Picked}
use Rattle.lease_store.specs.declared.terms.Terms.{Terms}
use Rattle.lease_store.specs.Lookups.{with_port}
use Rattle.lease_store.specs.Picks.{has_parity, is_open_at, is_open_from, is_unowned_at, is_vacant_at, pick, rests_for_another}
use Rattle.lease_core.proofs.PickLemmas.{back, vacant, pick-picked}

pub all-range : (p : ℕ → Bool) (a n i : ℕ) → list_all p (range_with_len a n) ≡ true → i < n → p (a + i) ≡ true
all-range p a zero i h below = absurd (omega arith)
all-range p a (suc n) zero h below =
    let both = and_parts (p a) (list_all p (range_with_len (a + 1) n)) h in
    let e : a + 0 ≡ a = omega arith in rw e both.0
all-range p a (suc n) (suc i) h below =
    let both = and_parts (p a) (list_all p (range_with_len (a + 1) n)) h in
    let e : (a + 1) + i ≡ a + suc i = omega arith in
    let less : i < n = omega arith in
    subst (λ k. p k ≡ true) e (all-range p (a + 1) n i both.1 less)

-- an open port: in the range, no live lease owns it, and it rests for none but the endpoint
pub record IsOpenPort (terms : Terms) (s : State) (m : ℕ) (e : Endpoint) (port : ℕ) : Type 0 where
  pub low : terms.external.low ≤ port
  pub high : port ≤ terms.external.high
  pub unowned : is_owned e.protocol port (owners (live s.table m)) ≡ false
  pub rests : (f : Endpoint) → f.protocol ≡ e.protocol → rests_for s m port f ≡ true → f ≡ e

-- an implication between tests
same_where : (a b : Bool) → (a && not b) ≡ false → a ≡ true → b ≡ true
same_where true true h k = refl
same_where true false h k = absurd cc
same_where false b h k = absurd cc

open-rests : (s : State) (m : ℕ) (e : Endpoint) (port : ℕ) → rests_for_another s m port e ≡ false →
    (f : Endpoint) → f.protocol ≡ e.protocol → rests_for s m port f ≡ true → f ≡ e
open-rests s m e port none f protocol h =
    let r = rests_for-some s m port f h in
    let here = All-IsIn (λ x. (is_end_of e.protocol port x && not (same_endpoint x.endpoint e)) ≡ false) (resting s m) r.0
    (any-none (λ x. is_end_of e.protocol port x && not (same_endpoint x.endpoint e)) (resting s m) none) r.1 in
    let of : is_end_of e.protocol port r.0 ≡ true = and_from _ _
    (eq-eqb (protocol_number r.0.endpoint.protocol) (protocol_number e.protocol)
    (ap (λ (x : Endpoint). protocol_number x.protocol) r.2 ∙ ap protocol_number protocol))
    (eq-eqb r.0.external port r.3) in
    sym r.2 ∙ (same_endpoint-Decides r.0.endpoint e).0 (same_where (is_end_of e.protocol port r.0) (same_endpoint r.0.endpoint e) here of)

pub open-port : (terms : Terms) (s : State) (m : ℕ) (e : Endpoint) (port : ℕ) →
    is_open_at terms s m e port ≡ true → IsOpenPort terms s m e port
open-port terms s m e port h =
    let a = and_parts (is_unowned_at terms s m e.protocol port) (not (rests_for_another s m port e)) h in
    let b = and_parts (is_in_range terms.external.low terms.external.high port) (not (is_owned e.protocol port (owners (live s.table m)))) a.0 in
    let c = and_parts (nat_le terms.external.low port) (nat_le port terms.external.high) b.0 in record {
      low = leb-true terms.external.low port c.0;
      high = leb-true port terms.external.high c.1;
      unowned = not-true (is_owned e.protocol port (owners (live s.table m))) b.1;
      rests = open-rests s m e port (not-true (rests_for_another s m port e) a.1);
    }

less : (a b : Bool) → a ≡ false → (a && b) ≡ false
less true b h = absurd cc
less false b h = refl

not-of : (b : Bool) → b ≡ false → not b ≡ true
not-of true h = absurd cc
not-of false h = refl

-- a vacant port is open to each endpoint of its protocol
vacant-open : (terms : Terms) (s : State) (m : ℕ) (e : Endpoint) (port : ℕ) →
    is_vacant_at terms s m e.protocol port ≡ true → is_open_at terms s m e port ≡ true
vacant-open terms s m e port h =
    let a = and_parts (is_unowned_at terms s m e.protocol port) (not (rests s m e.protocol port)) h in
    let none : rests_for_another s m port e ≡ false =
    none-any (λ x. is_end_of e.protocol port x && not (same_endpoint x.endpoint e)) (resting s m)
    (All-weaker (λ x. is_end_of e.protocol port x ≡ false) (λ x. (is_end_of e.protocol port x && not (same_endpoint x.endpoint e)) ≡ false)
    (λ x k. less (is_end_of e.protocol port x) (not (same_endpoint x.endpoint e)) k) (resting s m)
    (any-none (is_end_of e.protocol port) (resting s m) (not-true (rests s m e.protocol port) a.1))) in
    and_from _ _ a.0 (not-of (rests_for_another s m port e) none)

-- each picked port is open to the endpoint that it is given to
pub picked-open : (terms : Terms) (s : State) (m : ℕ) (e : Endpoint) (suggested : ℕ) (parity : Option ℕ)
    (room : ℕ) (run : Picked) → pick terms s m e suggested parity room ≡ Some run → (i : ℕ) → i < run.count →
    IsOpenPort terms s m (with_port e (e.port + i)) (run.start + i)
picked-open terms s m e suggested parity room run h i below =
    elim (pick-picked terms s m e suggested parity room run h) [
      | back suggests goes same ↦ (
          let count : room ≡ run.count = ap (λ (r : Picked). r.count) same in
          let start : suggested ≡ run.start = ap (λ (r : Picked). r.start) same in
          let both = and_parts (has_parity parity suggested) (list_all (is_open_from terms s m e suggested) (range_with_len 0 room)) goes in
          let zero_less : 0 + i ≡ i = omega arith in
          let at = subst (λ k. is_open_from terms s m e suggested k ≡ true) zero_less
          (all-range (is_open_from terms s m e suggested) 0 room i both.1 (omega arith)) in
          open-port terms s m (with_port e (e.port + i)) (run.start + i)
          (subst (λ n. is_open_at terms s m (with_port e (e.port + i)) (n + i) ≡ true) start at))
      | vacant r ↦ (
          let both = and_parts (has_parity parity run.start) (list_all (is_vacant_at terms s m e.protocol) (range_with_len run.start run.count)) r.vacant in
          open-port terms s m (with_port e (e.port + i)) (run.start + i)
          (vacant-open terms s m (with_port e (e.port + i)) (run.start + i)
          (all-range (is_vacant_at terms s m e.protocol) run.start run.count i both.1 below)))
    ]

-- and there is one at least
pub picked-some : (terms : Terms) (s : State) (m : ℕ) (e : Endpoint) (suggested : ℕ) (parity : Option ℕ)
    (room : ℕ) (run : Picked) → 1 ≤ room → pick terms s m e suggested parity room ≡ Some run → 1 ≤ run.count
picked-some terms s m e suggested parity room run some h =
    elim (pick-picked terms s m e suggested parity room run h) [
      | back suggests goes same ↦ (let count : room ≡ run.count = ap (λ (r : Picked). r.count) same in omega arith)
      | vacant r ↦ r.some
    ]
