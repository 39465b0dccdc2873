-- A pool that is the pool of a state picks the ports that are picked in the state.
use Rattle.std.specs.Prelude.{◌≡◌, refl, ℕ, zero, suc, ◌+◌, ◌-◌, ◌%◌, nat_le, ◌<◌, ◌≤◌, ◌&&◌, ◌==◌, min, not, Bool, true, false, find, Option, Some, None, Result, Err, if◌then◌else◌}
use Rattle.std.specs.List.{list_all, range_with_len}
use Rattle.std.specs.Option.{option_map, option_or}
use Rattle.std.proofs.Common.{inl, inr, sym, ap, ◌∙◌, subst, arith, cond}
use Rattle.std.proofs.lemmas.Bool.{and_parts, and_from, not_from_false, eqb-true, eqb-false, eq-eqb, leb-true, leb-false, false_from_ne_true}
use Rattle.pcp_base.specs.declared.leases.Protocol.{Protocol}
use Rattle.pcp_base.specs.declared.leases.Endpoint.{Endpoint}
use Rattle.pcp_base.specs.declared.leases.End.{End}
use Rattle.pcp_base.specs.Protocols.{protocol_number}
use Rattle.pcp_base.specs.Tables.{live, same_endpoint}
use Rattle.pcp_base.specs.Owners.{owners, is_owned, owned}
use Rattle.pcp_base.specs.Ends.{is_end_of, resting, rests, rests_for}
use Rattle.pcp_base.specs.States.{State}
use Rattle.pcp_base.proofs.Same.{same_endpoint-Decides}
use Rattle.pcp_base.proofs.Members.{All-IsIn, find-some, any-some, any-none, some-any}
use Rattle.pcp_base.proofs.RestLaws.{rests_for-some, protocol_number-same}
use Rattle.port_runs.specs.Ports.{HasParity}
use Rattle.external_pool.specs.PortUses.{is_in_range, is_vacant}
use Rattle.external_pool.specs.Holdings.{Holdings, uses_of, ports_held}
use Rattle.external_pool.specs.Choosing.{IsVacantRun, HasVacantRun, GoesBack, IsLongest, IsPick}
use Rattle.external_pool.specs.Choosing.IsPick.{suggestion, longest}
use Rattle.external_pool.specs.Asking.{IsPickAnswer, answer_to}
use Rattle.external_pool.specs.Calls.{IsAsk}
use Rattle.external_pool.specs.PoolOf.{IsPoolOf}
use Rattle.external_pool.specs.Laws.{IsOpenTo}
use Rattle.external_pool.specs.declared.asks.PickAsk.{PickAsk}
use Rattle.external_pool.specs.declared.asks.Picked.{Picked}
use Rattle.external_pool.specs.declared.asks.PickRefused.{PickRefused}
use Rattle.external_pool.specs.declared.asks.PickRefused.TheVariants.{Quota}
use Rattle.external_pool.proofs.OnePickLemmas.{one_pick}
use Rattle.external_pool.proofs.OwnedPorts.{ports_held-owned}
use Rattle.external_pool.proofs.StateLemmas.{is_vacant-state, is_open-state}
use Rattle.lease_store.specs.declared.terms.Terms.{Terms}
use Rattle.lease_store.specs.Lookups.{with_port}
use Rattle.lease_store.specs.Picks.{is_vacant_at, rests_for_another, is_open_at, has_parity, is_open_from, goes_back, is_vacant_run, first_vacant, run_of, longest_run, pick, pick_answer}
use Rattle.leased_ports.specs.Laws.{IsPoolOnTerms}

-- ---- tests over numbers in a row

all-range : (p : ℕ → Bool) (a n : ℕ) → list_all p (range_with_len a n) ≡ true → (k : ℕ) → a ≤ k → k < a + n → p k ≡ true
all-range p a zero h k low high = absurd (omega arith)
all-range p a (suc n) h k low high =
    let both = and_parts (p a) (list_all p (range_with_len (a + 1) n)) h in
    elim (a == k) as (λ b. (a == k) ≡ b → p k ≡ true) [
      | true ↦ λ e. subst (λ (i : ℕ). p i ≡ true) (eqb-true a k e) both.0
      | false ↦ λ e. let other = eqb-false a k e in all-range p (a + 1) n both.1 k (omega arith) (omega arith)
    ] refl

range-all : (p : ℕ → Bool) (a n : ℕ) → ((k : ℕ) → a ≤ k → k < a + n → p k ≡ true) → list_all p (range_with_len a n) ≡ true
range-all p a zero h = refl
range-all p a (suc n) h =
    and_from (p a) (list_all p (range_with_len (a + 1) n)) (h a (omega arith) (omega arith)) (range-all p (a + 1) n (λ k low high. h k (omega arith) (omega arith)))

-- the first of them that passes
find-least : (p : ℕ → Bool) (a n k : ℕ) → find p (range_with_len a n) ≡ Some k → (j : ℕ) → a ≤ j → j < a + n → p j ≡ true → k ≤ j
find-least p a zero k h j low high passes = absurd (omega arith)
find-least p a (suc n) k h j low high passes =
    elim (p a) as (λ b. p a ≡ b → cond b (Some a) (find p (range_with_len (a + 1) n)) ≡ Some k → k ≤ j) [
      | true ↦ λ e found. let same : a ≡ k = cc in omega arith
      | false ↦ λ e found. elim (a == j) as (λ b. (a == j) ≡ b → k ≤ j) [
        | true ↦ λ here. absurd (let both : p a ≡ true = subst (λ (i : ℕ). p i ≡ true) (sym (eqb-true a j here)) passes in cc)
        | false ↦ λ there. let other = eqb-false a j there in find-least p (a + 1) n k found j (omega arith) (omega arith) passes
      ] refl
    ] refl h

-- where none is found, none passes
find-never : (p : ℕ → Bool) (a n : ℕ) → find p (range_with_len a n) ≡ None → (j : ℕ) → a ≤ j → j < a + n → p j ≡ true → ⊥
find-never p a zero h j low high passes = absurd (omega arith)
find-never p a (suc n) h j low high passes =
    elim (p a) as (λ b. p a ≡ b → cond b (Some a) (find p (range_with_len (a + 1) n)) ≡ None → ⊥) [
      | true ↦ λ e found. absurd cc
      | false ↦ λ e found. elim (a == j) as (λ b. (a == j) ≡ b → ⊥) [
        | true ↦ λ here. absurd (let both : p a ≡ true = subst (λ (i : ℕ). p i ≡ true) (sym (eqb-true a j here)) passes in cc)
        | false ↦ λ there. let other = eqb-false a j there in find-never p (a + 1) n found j (omega arith) (omega arith) passes
      ] refl
    ] refl h

-- ---- the remainder that is asked

parity-has : (parity : Option ℕ) (n : ℕ) → has_parity parity n ≡ true → HasParity parity n
parity-has None n h = tt
parity-has (Some r) n h = eqb-true (n % 2) r h

has-parity : (parity : Option ℕ) (n : ℕ) → HasParity parity n → has_parity parity n ≡ true
has-parity None n h = refl
has-parity (Some r) n h = eq-eqb (n % 2) r h

three : (a b c : Bool) → (a && (b && c)) ≡ ((a && b) && c)
three true b c = refl
three false b c = refl

not-not : (b : Bool) → not b ≡ true → b ≡ false
not-not true h = absurd cc
not-not false h = refl

second : (a b : Bool) → a ≡ true → (a && not b) ≡ false → b ≡ true
second true true e h = refl
second true false e h = absurd cc
second false b e h = absurd cc

module _ (pool : Holdings) (terms : Terms) (s : State) (m : ℕ) (is : IsPoolOf pool s m) (on : IsPoolOnTerms pool terms) where
  in_range-same : (protocol : Protocol) (port : ℕ)
      → is_in_range (uses_of pool protocol).low (uses_of pool protocol).high port ≡ is_in_range terms.external.low terms.external.high port
  in_range-same protocol port = ap (λ (n : ℕ). is_in_range n (uses_of pool protocol).high port) (on.low protocol) ∙ ap (λ (n : ℕ). is_in_range terms.external.low n port) (on.high protocol)

  vacant-same : (protocol : Protocol) (port : ℕ) → is_vacant (uses_of pool protocol) port ≡ is_vacant_at terms s m protocol port
  vacant-same protocol port =
      is_vacant-state pool s m protocol port is
      ∙ ap (λ (b : Bool). b && (not (is_owned protocol port (owners (live s.table m))) && not (rests s m protocol port))) (in_range-same protocol port)
      ∙ three (is_in_range terms.external.low terms.external.high port) (not (is_owned protocol port (owners (live s.table m)))) (not (rests s m protocol port))

  -- ---- vacant runs

  run-is : (protocol : Protocol) (parity : Option ℕ) (n start : ℕ) → is_vacant_run terms s m protocol parity n start ≡ true → IsVacantRun (uses_of pool protocol) n parity start
  run-is protocol parity n start h =
      let both = and_parts (has_parity parity start) (list_all (is_vacant_at terms s m protocol) (range_with_len start n)) h in record {
        vacant = λ port low high. vacant-same protocol port ∙ all-range (is_vacant_at terms s m protocol) start n both.1 port low high;
        remainder = parity-has parity start both.0;
      }

  is-run : (protocol : Protocol) (parity : Option ℕ) (n start : ℕ) → IsVacantRun (uses_of pool protocol) n parity start → is_vacant_run terms s m protocol parity n start ≡ true
  is-run protocol parity n start h =
      and_from (has_parity parity start) (list_all (is_vacant_at terms s m protocol) (range_with_len start n)) (has-parity parity start h.remainder)
      (range-all (is_vacant_at terms s m protocol) start n (λ port low high. sym (vacant-same protocol port) ∙ h.vacant port low high))

  -- a run of some ports begins in the range
  starts-within : (protocol : Protocol) (parity : Option ℕ) (n start : ℕ) → IsVacantRun (uses_of pool protocol) (suc n) parity start
      → (terms.external.low ≤ start) × (start < terms.external.low + (terms.external.high + 1 - terms.external.low))
  starts-within protocol parity n start h =
      let first = sym (vacant-same protocol start) ∙ h.vacant start (omega arith) (omega arith) in
      let range = (and_parts _ _ (and_parts _ _ (and_parts _ _ first).0).0) in
      let low : terms.external.low ≤ start = leb-true terms.external.low start range.0 in
      let high : start ≤ terms.external.high = leb-true start terms.external.high range.1 in
      (low, omega (arith, low, high))

  longest-is : (protocol : Protocol) (parity : Option ℕ) (room : ℕ) → IsLongest (uses_of pool protocol) parity room (longest_run terms s m protocol parity room)
  longest-is protocol parity zero = λ n some within run. absurd (omega arith)
  longest-is protocol parity (suc r) = by (first_vacant terms s m protocol parity (suc r)) refl (longest_run terms s m protocol parity r) (longest-is protocol parity r)
    where
      never : first_vacant terms s m protocol parity (suc r) ≡ None → (k : ℕ) → k ≤ suc r → HasVacantRun (uses_of pool protocol) parity k → k ≤ r
      never none k within run =
          elim (k == suc r) as (λ b. (k == suc r) ≡ b → k ≤ r) [
            | true ↦ λ e.
                let vacant : IsVacantRun (uses_of pool protocol) (suc r) parity run.0 = subst (λ (n : ℕ). IsVacantRun (uses_of pool protocol) n parity run.0) (eqb-true k (suc r) e) run.1 in
                let place = starts-within protocol parity r run.0 vacant in
                absurd (find-never (is_vacant_run terms s m protocol parity (suc r)) terms.external.low (terms.external.high + 1 - terms.external.low) none run.0 place.0 place.1 (is-run protocol parity (suc r) run.0 vacant))
            | false ↦ λ e. let other = eqb-false k (suc r) e in omega arith
          ] refl

      by : (first : Option ℕ) → first_vacant terms s m protocol parity (suc r) ≡ first → (shorter : Option Picked) → IsLongest (uses_of pool protocol) parity r shorter
          → IsLongest (uses_of pool protocol) parity (suc r) (option_or (option_map (run_of (suc r)) first) shorter)
      by (Some start) e shorter h =
          let found = find-some (is_vacant_run terms s m protocol parity (suc r)) (range_with_len terms.external.low (terms.external.high + 1 - terms.external.low)) start e in record {
            some = omega arith;
            within = omega arith;
            vacant = run-is protocol parity (suc r) start found.1;
            least = λ other run.
                let place = starts-within protocol parity r other run in
                find-least (is_vacant_run terms s m protocol parity (suc r)) terms.external.low (terms.external.high + 1 - terms.external.low) start e other place.0 place.1 (is-run protocol parity (suc r) other run);
            greatest = λ n within run. within;
          }
      by None e None h = λ n some within run. h n some (never e n within run) run
      by None e (Some run) h = record {
        some = h.some;
        within = omega (arith, h.within);
        vacant = h.vacant;
        least = h.least;
        greatest = λ n within other. h.greatest n (never e n within other) other;
      }

  -- ---- open ports

  open-state : (e : Endpoint) (port : ℕ) → IsOpenTo pool s m e port → is_open_at terms s m e port ≡ true
  open-state e port h =
      let none : rests_for_another s m port e ≡ false = false_from_ne_true _ (λ some.
      let r = any-some (λ (x : End). is_end_of e.protocol port x && not (same_endpoint x.endpoint e)) (resting s m) some in
      let both = and_parts (is_end_of e.protocol port r.0) (not (same_endpoint r.0.endpoint e)) r.2 in
      let parts = and_parts (protocol_number r.0.endpoint.protocol == protocol_number e.protocol) (r.0.external == port) both.0 in
      let protocols : r.0.endpoint.protocol ≡ e.protocol = protocol_number-same r.0.endpoint.protocol e.protocol (eqb-true _ _ parts.0) in
      let at_rest : rests_for s m port r.0.endpoint ≡ true =
      some-any (λ (x : End). same_endpoint x.endpoint r.0.endpoint && x.external == port) (resting s m) r.0 r.1
      (and_from _ _ ((same_endpoint-Decides r.0.endpoint r.0.endpoint).1 refl) parts.1) in
      let same : same_endpoint r.0.endpoint e ≡ true = (same_endpoint-Decides r.0.endpoint e).1 (h.rests r.0.endpoint protocols at_rest) in
      let other : same_endpoint r.0.endpoint e ≡ false = not-not _ both.1 in
      cc) in
      and_from _ _ (and_from _ _ (sym (in_range-same e.protocol port) ∙ h.ranges) (not_from_false _ h.unowned)) (not_from_false _ none)

  state-open : (e : Endpoint) (port : ℕ) → is_open_at terms s m e port ≡ true → IsOpenTo pool s m e port
  state-open e port h =
      let parts = and_parts _ _ h in
      let first = and_parts _ _ parts.0 in
      let none : rests_for_another s m port e ≡ false = not-not _ parts.1 in record {
        ranges = in_range-same e.protocol port ∙ first.0;
        unowned = not-not _ first.1;
        rests = λ other protocols at_rest.
            let r = rests_for-some s m port other at_rest in
            let numbers : (protocol_number r.0.endpoint.protocol == protocol_number e.protocol) ≡ true =
            eq-eqb _ _ (ap (λ (x : Endpoint). protocol_number x.protocol) r.2 ∙ ap protocol_number protocols) in
            let of : is_end_of e.protocol port r.0 ≡ true = and_from _ _ numbers (eq-eqb r.0.external port r.3) in
            let fails : (is_end_of e.protocol port r.0 && not (same_endpoint r.0.endpoint e)) ≡ false =
            All-IsIn (λ (x : End). (is_end_of e.protocol port x && not (same_endpoint x.endpoint e)) ≡ false) (resting s m) r.0
            (any-none (λ (x : End). is_end_of e.protocol port x && not (same_endpoint x.endpoint e)) (resting s m) none) r.1 in
            sym r.2 ∙ (same_endpoint-Decides r.0.endpoint e).0 (second _ _ of fails);
      }

  back-is : (e : Endpoint) (parity : Option ℕ) (start n : ℕ) → goes_back terms s m e parity start n ≡ true → GoesBack (uses_of pool e.protocol) e.address e.port parity start n
  back-is e parity start n h =
      let both = and_parts (has_parity parity start) (list_all (is_open_from terms s m e start) (range_with_len 0 n)) h in record {
        opened = λ i few.
            let at : Endpoint = with_port e (e.port + i) in
            (is_open-state pool s m at (start + i) is).1 (state-open at (start + i) (all-range (is_open_from terms s m e start) 0 n both.1 i (omega arith) (omega arith)));
        remainder = parity-has parity start both.0;
      }

  is-back : (e : Endpoint) (parity : Option ℕ) (start n : ℕ) → GoesBack (uses_of pool e.protocol) e.address e.port parity start n → goes_back terms s m e parity start n ≡ true
  is-back e parity start n h =
      and_from (has_parity parity start) (list_all (is_open_from terms s m e start) (range_with_len 0 n)) (has-parity parity start h.remainder)
      (range-all (is_open_from terms s m e start) 0 n (λ i low few.
      let at : Endpoint = with_port e (e.port + i) in
      open-state at (start + i) ((is_open-state pool s m at (start + i) is).0 (h.opened i (omega arith)))))

  -- ---- the pick

  choice-is : (e : Endpoint) (suggested : ℕ) (parity : Option ℕ) (room : ℕ) (zero back : Bool) → (suggested == 0) ≡ zero → goes_back terms s m e parity suggested room ≡ back
      → IsPick (uses_of pool e.protocol) e.address e.port suggested parity room (if not zero && back then Some (run_of room suggested) else longest_run terms s m e.protocol parity room)
  choice-is e suggested parity room true back z b = longest (inl (eqb-true suggested 0 z)) (longest-is e.protocol parity room)
  choice-is e suggested parity room false true z b = suggestion (eqb-false suggested 0 z) (back-is e parity suggested room b) refl
  choice-is e suggested parity room false false z b =
      longest (inr (λ h. let both : true ≡ false = sym (is-back e parity suggested room h) ∙ b in absurd cc)) (longest-is e.protocol parity room)

  pick-is : (e : Endpoint) (suggested : ℕ) (parity : Option ℕ) (room : ℕ) → IsPick (uses_of pool e.protocol) e.address e.port suggested parity room (pick terms s m e suggested parity room)
  unfolding pick
  pick-is e suggested parity room = choice-is e suggested parity room (suggested == 0) (goes_back terms s m e parity suggested room) refl refl

  -- an address that owns its quota is refused
  full-answer : (e : Endpoint) (ask : PickAsk) (answer : Result Picked PickRefused) → IsPickAnswer pool e.address e.protocol ask answer
      → terms.quota ≤ owned s.table m e.address → answer ≡ Err (Quota (owned s.table m e.address))
  full-answer e ask answer h full =
      let held : ports_held pool e.address ≡ owned s.table m e.address = ports_held-owned pool s m e.address is in
      h.quota (omega (arith, on.quota, held)) ∙ ap (λ (n : ℕ). Err (Quota n)) held

  pick-answer : (e : Endpoint) (ask : PickAsk) (answer : Result Picked PickRefused) → ask.internal ≡ e.port → IsPickAnswer pool e.address e.protocol ask answer
      → owned s.table m e.address < terms.quota → answer ≡ answer_to ask (pick terms s m e ask.suggested ask.parity (min ask.room (terms.quota - owned s.table m e.address)))
  pick-answer e ask answer internal h left =
      let held : ports_held pool e.address ≡ owned s.table m e.address = ports_held-owned pool s m e.address is in
      let judged = h.pick (omega (arith, on.quota, held)) in
      let rooms : min ask.room (pool.quota - ports_held pool e.address) ≡ min ask.room (terms.quota - owned s.table m e.address) =
      ap (λ (n : ℕ). min ask.room (n - ports_held pool e.address)) on.quota ∙ ap (λ (n : ℕ). min ask.room (terms.quota - n)) held in
      let picked : IsPick (uses_of pool e.protocol) e.address e.port ask.suggested ask.parity (min ask.room (terms.quota - owned s.table m e.address)) judged.choice =
      subst (λ (room : ℕ). IsPick (uses_of pool e.protocol) e.address e.port ask.suggested ask.parity room judged.choice) rooms
      (subst (λ (n : ℕ). IsPick (uses_of pool e.protocol) e.address n ask.suggested ask.parity (min ask.room (pool.quota - ports_held pool e.address)) judged.choice) internal judged.is_pick) in
      judged.is_answer ∙ ap (answer_to ask) (one_pick (uses_of pool e.protocol) e.address e.port ask.suggested ask.parity (min ask.room (terms.quota - owned s.table m e.address)) judged.choice
      (pick terms s m e ask.suggested ask.parity (min ask.room (terms.quota - owned s.table m e.address))) picked
      (pick-is e ask.suggested ask.parity (min ask.room (terms.quota - owned s.table m e.address))))

pub picks-state : (pool : Holdings) (terms : Terms) (s : State) (m : ℕ) (e : Endpoint) (ask : PickAsk) (answer : Result Picked PickRefused)
    → IsPoolOf pool s m → IsPoolOnTerms pool terms → IsAsk ask → ask.internal ≡ e.port → IsPickAnswer pool e.address e.protocol ask answer → answer ≡ pick_answer terms s m e ask
picks-state pool terms s m e ask answer is on asks internal h =
    elim (nat_le terms.quota (owned s.table m e.address)) as (λ b. nat_le terms.quota (owned s.table m e.address) ≡ b → answer
    ≡ cond b (Err (Quota (owned s.table m e.address))) (answer_to ask (pick terms s m e ask.suggested ask.parity (min ask.room (terms.quota - owned s.table m e.address))))) [
      | true ↦ λ full. full-answer pool terms s m is on e ask answer h (leb-true terms.quota (owned s.table m e.address) full)
      | false ↦ λ left. pick-answer pool terms s m is on e ask answer internal h (leb-false terms.quota (owned s.table m e.address) left)
    ] refl
