-- Until when local ports rest, by what stands at each spot.
use Rattle.std.proofs.Common.{◌≡◌, ℕ, ◌+◌, ◌/◌, ◌%◌, ◌<◌, ◌≤◌, ◌&&◌, ◌==◌, nat_lt, Bool, true, false, not, cond, List, filter, Option, Some, None, is_some, unwrap_or, refl, sym, ap, ◌∙◌, subst, arith}
use Rattle.std.specs.Bool.{OnTrue, OnFalse}
use Rattle.std.specs.FinMap.{FinMap, contains_key, get, insert, len, remove, get-retain_keys, len-insert, same_map, nat_cmp-IsAntisymmetric}
use Rattle.std.specs.Ordering.{nat_cmp}
use Rattle.std.specs.Cmp.{nat_cmp_total}
use Rattle.std.specs.BTreeMap.{values}
use Rattle.std.proofs.lemmas.Bool.{eq-eqb, eqb-true}
use Rattle.std.proofs.lemmas.Bool.Decides.{nat_tests}
use Rattle.pcp_base.specs.declared.leases.Endpoint.{Endpoint}
use Rattle.pcp_base.specs.declared.leases.Protocol.{Protocol}
use Rattle.pcp_base.specs.declared.leases.Protocol.TheVariants.{Tcp, Udp}
use Rattle.pcp_base.specs.Tables.{same_protocol}
use Rattle.pcp_base.proofs.Members.{All-IsIn, find-some}
use Rattle.pcp_base.proofs.Same.{same_endpoint-Decides, same_protocol-Decides}
use Rattle.expiry_wheel.specs.Due.{IsNextDue}
use Rattle.expiry_wheel.proofs.Maps.{get-inserted, get-removed}
use Rattle.external_pool.specs.Calls.{WakesPort}
use Rattle.external_pool.specs.Holdings.{Holdings, with_use}
use Rattle.external_pool.specs.PortUses.{is_resting}
use Rattle.external_pool.specs.declared.uses.Use.TheVariants.{Free}
use Rattle.ordered_index.specs.declared.numbered.Numbered.{Numbered}
use Rattle.ordered_index.specs.Orders.{Place}
use Rattle.cascade_ties.specs.declared.ties.Tied.{Tied}
use Rattle.cascade_ties.specs.Kept.{AreSpots, HasLocal, IsTiePool, IsTieTable, port_of_spot, protocol_at, reserved, rest_in, ties_of, use_by}
use Rattle.cascade_ties.specs.Ties.{Ties, has_client, has_local, is_over, rests_after, spot, still, tie_at, tie_of}
use Rattle.cascade_ties.proofs.PoolKeeping.{alike_pool, at_that, find_one, high_stays, low_stays, mark_pool, same_pool, set_rest}
use Rattle.cascade_ties.proofs.TieKeeping.{once_local}

abbrev pub Rests : Type 0
Rests = FinMap nat_cmp ℕ

one_map : (m n : Rests) → ((q : ℕ) → get m q ≡ get n q) → m ≡ n
one_map m n is = same_map nat_cmp_total nat_cmp-IsAntisymmetric m n is

both_cond : {A : Type 0} (b : Bool) (x y z : A) → cond b x (cond b y z) ≡ cond b x z
both_cond true x y z = refl
both_cond false x y z = refl

none_of : (o : Option ℕ) → is_some o ≡ false → o ≡ None
none_of None h = refl
none_of (Some u) h = absurd cc

pub rest_none : (m : Rests) (at : ℕ) → contains_key m at ≡ false → get m at ≡ None
rest_none m at h = none_of (get m at) h

-- ---- one is written

twice : (m : Rests) (at u : ℕ) → insert (insert m at u) at u ≡ insert m at u
twice m at u = one_map _ _ (λ q. get-inserted (insert m at u) at u q ∙ ap (cond (q == at) (Some u)) (get-inserted m at u q) ∙ both_cond (q == at) (Some u) (Some u) (get m q) ∙ sym (get-inserted m at u q))

taken_back : (m : Rests) (at u : ℕ) → get m at ≡ None → remove (insert m at u) at ≡ m
taken_back m at u none = one_map _ _ (λ q. get-removed (insert m at u) at q ∙ ap (cond (q == at) None) (get-inserted m at u q) ∙ both_cond (q == at) None (Some u) (get m q) ∙ there q (q == at) refl)
  where
    there : (q : ℕ) (b : Bool) → (q == at) ≡ b → cond b None (get m q) ≡ get m q
    there q true e = sym (ap (get m) (eqb-true q at e) ∙ none)
    there q false e = refl

given_back : (m : Rests) (at u : ℕ) → get m at ≡ Some u → insert (remove m at) at u ≡ m
given_back m at u some = one_map _ _ (λ q. get-inserted (remove m at) at u q ∙ ap (cond (q == at) (Some u)) (get-removed m at q) ∙ both_cond (q == at) (Some u) None (get m q) ∙ there q (q == at) refl)
  where
    there : (q : ℕ) (b : Bool) → (q == at) ≡ b → cond b (Some u) (get m q) ≡ get m q
    there q true e = sym (ap (get m) (eqb-true q at e) ∙ some)
    there q false e = refl

get-self : (m : Rests) (at u : ℕ) → get (insert m at u) at ≡ Some u
get-self m at u = let same : (at == at) ≡ true = grind (arith, nat_tests) in get-inserted m at u at ∙ ap (λ b. cond b (Some u) (get m at)) same

has_reserved : (m : Rests) (at u : ℕ) → contains_key (reserved m at u) at ≡ true
has_reserved m at u = step (contains_key m at) refl
  where
    step : (b : Bool) → contains_key m at ≡ b → contains_key (cond b m (insert m at u)) at ≡ true
    step true e = e
    step false e = ap is_some (get-self m at u)

pub has_room : (m : Rests) (at u : ℕ) (room : Rests) → room ≡ reserved m at u → contains_key room at ≡ true
has_room m at u room roomy = ap (λ (k : Rests). contains_key k at) roomy ∙ has_reserved m at u

pub reserved_made : (m : Rests) (at u : ℕ) → insert (reserved m at u) at u ≡ insert m at u
reserved_made m at u = step (contains_key m at)
  where
    step : (b : Bool) → insert (cond b m (insert m at u)) at u ≡ insert m at u
    step true = refl
    step false = twice m at u

pub reserved_back : (m : Rests) (at u : ℕ) → cond (not (contains_key m at)) (remove (reserved m at u) at) (reserved m at u) ≡ m
reserved_back m at u = step (contains_key m at) refl
  where
    step : (b : Bool) → contains_key m at ≡ b → cond (not b) (remove (cond b m (insert m at u)) at) (cond b m (insert m at u)) ≡ m
    step true e = refl
    step false e = taken_back m at u (rest_none m at e)

-- ---- spots

pub spot_test : (p q : Protocol) (a n : ℕ) → (spot q n == spot p a) ≡ (same_protocol p q && a == n)
spot_test Tcp Tcp a n = grind (arith, nat_tests)
spot_test Tcp Udp a n = grind (arith, nat_tests)
spot_test Udp Tcp a n = grind (arith, nat_tests)
spot_test Udp Udp a n = grind (arith, nat_tests)

pub spot_small : (p : Protocol) (a : ℕ) → a ≤ 65535 → spot p a < 131072
spot_small Tcp a h = omega (arith, h)
spot_small Udp a h = omega (arith, h)

spots_insert : (m : Rests) (at u : ℕ) → at < 131072 → AreSpots m → AreSpots (insert m at u)
spots_insert m at u small h other until is = step (other == at) refl (sym (get-inserted m at u other) ∙ is)
  where
    step : (b : Bool) → (other == at) ≡ b → cond b (Some u) (get m other) ≡ Some until → other < 131072
    step true e k = let same = eqb-true other at e in omega (arith, same, small)
    step false e k = h other until k

spots_remove : (m : Rests) (at : ℕ) → AreSpots m → AreSpots (remove m at)
spots_remove m at h other until is = step (other == at) (sym (get-removed m at other) ∙ is)
  where
    step : (b : Bool) → cond b None (get m other) ≡ Some until → other < 131072
    step true k = absurd cc
    step false k = h other until k

-- a spot is that of its protocol and port
spot_of : (at : ℕ) → spot (protocol_at at) (port_of_spot at) ≡ at
spot_of at = step (at % 2 == 0) refl
  where
    step : (b : Bool) → (at % 2 == 0) ≡ b → spot (cond b Tcp Udp) (at / 2) ≡ at
    step true e = let even = eqb-true (at % 2) 0 e in omega (arith, even)
    step false e = let odd : at % 2 ≡ 1 = grind (arith, nat_tests, e) in omega (arith, odd)

inserted_at : (m : Rests) (p : Protocol) (a u : ℕ) (q : Protocol) (n : ℕ) → rest_in (insert m (spot p a) u) q n ≡ set_rest (rest_in m) p a (Some u) q n
inserted_at m p a u q n = get-inserted m (spot p a) u (spot q n) ∙ ap (λ b. cond b (Some u) (get m (spot q n))) (spot_test p q a n)

removed_at : (m : Rests) (p : Protocol) (a : ℕ) (q : Protocol) (n : ℕ) → rest_in (remove m (spot p a)) q n ≡ set_rest (rest_in m) p a None q n
removed_at m p a q n = get-removed m (spot p a) (spot q n) ∙ ap (λ b. cond b None (get m (spot q n))) (spot_test p q a n)

-- ---- the pool of ties

module _ (pool : Holdings) (m : Rests) (ts : List Tied) (is : IsTiePool pool (rest_in m) ts) (p : Protocol) (a : ℕ) where
  -- the rest of a port that has a tie says nothing yet
  tied_pool : (x : Tied) → tie_at p a ts ≡ Some x → (o : Option ℕ) → IsTiePool pool (set_rest (rest_in m) p a o) ts
  tied_pool x found o = same_pool pool (rest_in m) ts is (set_rest (rest_in m) p a o) (λ q n. step q n (same_protocol p q && a == n) refl)
    where
      step : (q : Protocol) (n : ℕ) (b : Bool) → (same_protocol p q && a == n) ≡ b → use_by (tie_at q n ts) (rest_in m q n) ≡ use_by (tie_at q n ts) (cond b o (rest_in m q n))
      step q n true e = let there : tie_at q n ts ≡ Some x = at_that (λ z k. tie_at z k ts) p q a n e ∙ found in
          ap (λ (t : Option Tied). use_by t (rest_in m q n)) there ∙ sym (ap (λ (t : Option Tied). use_by t o) there)
      step q n false e = refl

  pub rested_pool : (x : Tied) → tie_at p a ts ≡ Some x → (u : ℕ) → IsTiePool pool (rest_in (insert m (spot p a) u)) ts
  rested_pool x found u = alike_pool pool (set_rest (rest_in m) p a (Some u)) ts (tied_pool x found (Some u)) (rest_in (insert m (spot p a) u)) (λ q n. sym (inserted_at m p a u q n))

  -- one wakes
  pub woken_pool : (woke : Bool) (new : Holdings) (u : ℕ) → a + 1 ≤ 65536 → get m (spot p a) ≡ Some u → WakesPort pool p a woke new → IsTiePool new (rest_in (remove m (spot p a))) ts
  woken_pool woke new u within some wakes = by (tie_at p a ts) refl
    where
      by : (o : Option Tied) → tie_at p a ts ≡ o → IsTiePool new (rest_in (remove m (spot p a))) ts
      by (Some x) e =
          let asleep : woke ≡ false = wakes.answer ∙ ap is_resting (is.uses p a ∙ ap (λ (t : Option Tied). use_by t (rest_in m p a)) e) in
          let same : new ≡ pool = subst (λ (b : Bool). OnFalse b (new ≡ pool)) asleep wakes.unchanged in
          subst (λ (h : Holdings). IsTiePool h (rest_in (remove m (spot p a))) ts) (sym same)
          (alike_pool pool (set_rest (rest_in m) p a None) ts (tied_pool x e None) (rest_in (remove m (spot p a))) (λ q n. sym (removed_at m p a q n)))
      by None e =
          let rests : woke ≡ true = wakes.answer ∙ ap is_resting (is.uses p a ∙ ap (λ (t : Option Tied). use_by t (rest_in m p a)) e ∙ ap (use_by None) some) in
          let same : new ≡ with_use p a 1 Free pool = subst (λ (b : Bool). OnTrue b (new ≡ with_use p a 1 Free pool)) rests wakes.woken in
          subst (λ (h : Holdings). IsTiePool h (rest_in (remove m (spot p a))) ts) (sym same)
          (alike_pool (with_use p a 1 Free pool) (set_rest (rest_in m) p a None) ts (mark_pool pool (rest_in m) ts is p a None within e) (rest_in (remove m (spot p a))) (λ q n. sym (removed_at m p a q n)))

-- a port that rests does so until any time alike
any_rest : (o : Option Tied) (v u : ℕ) → use_by o (Some v) ≡ use_by o (Some u)
any_rest None v u = refl
any_rest (Some t) v u = refl

some_in : (o : Option ℕ) → is_some o ≡ true → (v : ℕ) × (o ≡ Some v)
some_in None h = absurd cc
some_in (Some v) h = (v, refl)

module _ (it : Numbered Tied Place (ℕ × ℕ)) (pool : Holdings) (m : Rests) (h : IsTieTable it pool m) where
  -- another time for a rest that is there
  pub renewed_table : (at u : ℕ) → contains_key m at ≡ true → IsTieTable it pool (insert m at u)
  renewed_table at u has = record {
    ties = h.ties;
    pool = same_pool pool (rest_in m) (values it.leases) h.pool (rest_in (insert m at u)) (λ q n. told q n (spot q n == at) refl);
    spots = spots_insert m at u (h.spots at there.0 there.1) h.spots;
  }
    where
      there : (v : ℕ) × (get m at ≡ Some v)
      there = some_in (get m at) has

      told : (q : Protocol) (n : ℕ) (b : Bool) → (spot q n == at) ≡ b → use_by (tie_at q n (values it.leases)) (get m (spot q n)) ≡ use_by (tie_at q n (values it.leases)) (get (insert m at u) (spot q n))
      told q n true e =
          ap (use_by (tie_at q n (values it.leases))) (ap (get m) (eqb-true (spot q n) at e) ∙ there.1) ∙ any_rest (tie_at q n (values it.leases)) there.0 u
          ∙ sym (ap (use_by (tie_at q n (values it.leases))) (get-inserted m at u (spot q n) ∙ ap (λ b. cond b (Some u) (get m (spot q n))) e))
      told q n false e = sym (ap (use_by (tie_at q n (values it.leases))) (get-inserted m at u (spot q n) ∙ ap (λ b. cond b (Some u) (get m (spot q n))) e))

  pub rested_table : (p : Protocol) (a : ℕ) (x : Tied) → tie_at p a (values it.leases) ≡ Some x → a ≤ 65535 → (u : ℕ) → IsTieTable it pool (insert m (spot p a) u)
  rested_table p a x found small u = record {
    ties = h.ties;
    pool = rested_pool pool m (values it.leases) h.pool p a x found u;
    spots = spots_insert m (spot p a) u (spot_small p a small) h.spots;
  }

  pub reserved_table : (p : Protocol) (a : ℕ) (x : Tied) → tie_at p a (values it.leases) ≡ Some x → a ≤ 65535 → (u : ℕ) → IsTieTable it pool (reserved m (spot p a) u)
  reserved_table p a x found small u = step (contains_key m (spot p a))
    where
      step : (b : Bool) → IsTieTable it pool (cond b m (insert m (spot p a) u))
      step true = h
      step false = rested_table p a x found small u

  module _ (now at : ℕ) (due : IsNextDue m now at) where
    pub due_small : at < 131072
    due_small = h.spots at due.expiry due.expires

    pub woken_table : (woke : Bool) (new : Holdings) → WakesPort pool (protocol_at at) (port_of_spot at) woke new → IsTieTable it new (remove m at)
    woken_table woke new wakes =
        let within : port_of_spot at + 1 ≤ 65536 = (let small = due_small in omega (arith, small)) in
        let here = woken_pool pool m (values it.leases) h.pool (protocol_at at) (port_of_spot at) woke new due.expiry within (ap (get m) (spot_of at) ∙ due.expires) wakes in
        record {
          ties = h.ties;
          pool = subst (λ (n : ℕ). IsTiePool new (rest_in (remove m n)) (values it.leases)) (spot_of at) here;
          spots = spots_remove m at h.spots;
        }

    pub fewer_rests : len (remove m at) < len m
    fewer_rests =
        let none : contains_key (remove m at) at ≡ false = (let same : (at == at) ≡ true = grind (arith, nat_tests) in ap is_some (get-removed m at at ∙ ap (λ b. cond b None (get m at)) same)) in
        let one : len (insert (remove m at) at due.expiry) ≡ len (remove m at) + 1 = len-insert nat_cmp_total (remove m at) at due.expiry ∙ ap (λ b. cond b (len (remove m at)) (len (remove m at) + 1)) none in
        let all : len (insert (remove m at) at due.expiry) ≡ len m = ap len (given_back m at due.expiry due.expires) in
        omega (arith, one, all)

-- ---- time

abbrev lasting : ℕ → Option ℕ → Option ℕ
lasting now o = cond (nat_lt now (unwrap_or o 0)) o None

get-after : (now : ℕ) (m : Rests) (q : ℕ) → get (rests_after now m) q ≡ lasting now (get m q)
get-after now m q = get-retain_keys m (λ at. nat_lt now (unwrap_or (get m at) 0)) q (λ x t. ap (λ at. nat_lt now (unwrap_or (get m at) 0)) (sym (nat_cmp-IsAntisymmetric q x t)))

never_lasts : (now : ℕ) → lasting now None ≡ None
never_lasts now = step (nat_lt now 0)
  where
    step : (b : Bool) → cond {A = Option ℕ} b None None ≡ None
    step true = refl
    step false = refl

over_lasts : (now u : ℕ) → u ≤ now → lasting now (Some u) ≡ None
over_lasts now u h = let over : nat_lt now u ≡ false = grind (arith, nat_tests, h) in ap (λ b. cond b (Some u) None) over

pub after_woken : (m : Rests) (now at : ℕ) → IsNextDue m now at → rests_after now (remove m at) ≡ rests_after now m
after_woken m now at due = one_map _ _ (λ q. get-after now (remove m at) q ∙ ap (lasting now) (get-removed m at q) ∙ step q (q == at) refl ∙ sym (get-after now m q))
  where
    step : (q : ℕ) (b : Bool) → (q == at) ≡ b → lasting now (cond b None (get m q)) ≡ lasting now (get m q)
    step q true e = never_lasts now ∙ sym (ap (lasting now) (ap (get m) (eqb-true q at e) ∙ due.expires) ∙ over_lasts now due.expiry due.due)
    step q false e = refl

pub none_over : (m : Rests) (now : ℕ) → ((at until : ℕ) → get m at ≡ Some until → now < until) → rests_after now m ≡ m
none_over m now all = one_map _ _ (λ q. get-after now m q ∙ step q (get m q) refl)
  where
    step : (q : ℕ) (o : Option ℕ) → get m q ≡ o → lasting now o ≡ o
    step q None e = never_lasts now
    step q (Some u) e = let less = all q u e in let yes : nat_lt now u ≡ true = grind (arith, nat_tests, less) in ap (λ b. cond b (Some u) None) yes

-- the tie of an endpoint stands at its local port
pub tie_there : (it : Numbered Tied Place (ℕ × ℕ)) (pool : Holdings) (m : Rests) (h : IsTieTable it pool m) (e : Endpoint) (x : Tied) (local : ℕ) → tie_of e (values it.leases) ≡ Some x → x.tie.local ≡ local
    → (tie_at e.protocol local (values it.leases) ≡ Some x) × (local ≤ 65535)
tie_there it pool m h e x local found port =
    let stands = find-some (has_client e) (values it.leases) x found in
    let client : x.tie.client ≡ e = (same_endpoint-Decides x.tie.client e).0 stands.1 in
    let itself : has_local x.tie.client.protocol x.tie.local x ≡ true = ap (λ (b : Bool). b && x.tie.local == x.tie.local) ((same_protocol-Decides x.tie.client.protocol x.tie.client.protocol).1 refl) ∙ eq-eqb x.tie.local x.tie.local refl in
    let there = find_one (has_local x.tie.client.protocol x.tie.local) (values it.leases) x (once_local x.tie.client.protocol x.tie.local (values it.leases) h.ties.differ) stands.0 itself in
    let within = (All-IsIn HasLocal (values it.leases) x h.ties.locals stands.0).to in (
      ap (λ (z : Endpoint). tie_at z.protocol local (values it.leases)) (sym client) ∙ ap (λ (n : ℕ). tie_at x.tie.client.protocol n (values it.leases)) (sym port) ∙ there,
      omega (arith, within, port),
    )

-- room for the rest of a port that has a tie tells nothing of it
pub unreserved_table : (it : Numbered Tied Place (ℕ × ℕ)) (pool : Holdings) (m : Rests) (p : Protocol) (a u : ℕ) (x : Tied) → AreSpots m → tie_at p a (values it.leases) ≡ Some x
    → IsTieTable it pool (reserved m (spot p a) u) → IsTieTable it pool m
unreserved_table it pool m p a u x spots found = step (contains_key m (spot p a))
  where
    told : (q : Protocol) (n : ℕ) (b : Bool) → (same_protocol p q && a == n) ≡ b → use_by (tie_at q n (values it.leases)) (cond b (Some u) (rest_in m q n)) ≡ use_by (tie_at q n (values it.leases)) (rest_in m q n)
    told q n true e = let there : tie_at q n (values it.leases) ≡ Some x = at_that (λ z k. tie_at z k (values it.leases)) p q a n e ∙ found in
        ap (λ (t : Option Tied). use_by t (Some u)) there ∙ sym (ap (λ (t : Option Tied). use_by t (rest_in m q n)) there)
    told q n false e = refl

    step : (b : Bool) → IsTieTable it pool (cond b m (insert m (spot p a) u)) → IsTieTable it pool m
    step true h = h
    step false h = record {
      ties = h.ties;
      pool = same_pool pool (rest_in (insert m (spot p a) u)) (values it.leases) h.pool (rest_in m)
          (λ q n. ap (use_by (tie_at q n (values it.leases))) (inserted_at m p a u q n) ∙ told q n (same_protocol p q && a == n) refl);
      spots = spots;
    }

-- the range stays where a port wakes
pub woken_low : (pool new : Holdings) (p : Protocol) (a : ℕ) (woke : Bool) → WakesPort pool p a woke new → new.tcp.low ≡ pool.tcp.low
woken_low pool new p a true wakes = ap (λ (h : Holdings). h.tcp.low) wakes.woken ∙ low_stays p a 1 Free pool
woken_low pool new p a false wakes = ap (λ (h : Holdings). h.tcp.low) wakes.unchanged

pub woken_high : (pool new : Holdings) (p : Protocol) (a : ℕ) (woke : Bool) → WakesPort pool p a woke new → new.tcp.high ≡ pool.tcp.high
woken_high pool new p a true wakes = ap (λ (h : Holdings). h.tcp.high) wakes.woken ∙ high_stays p a 1 Free pool
woken_high pool new p a false wakes = ap (λ (h : Holdings). h.tcp.high) wakes.unchanged

pub still_woken : (now : ℕ) (us ts : Ties) → us.low ≡ ts.low → us.high ≡ ts.high → us.each ≡ ts.each → rests_after now us.rests ≡ rests_after now ts.rests → still now us ≡ still now ts
still_woken now us ts low high each rests = λ i. record { low = low i; high = high i; each = filter (λ t. not (is_over now t)) (each i); rests = rests i }

-- where nothing is over, all are still there
pub still_all : (now : ℕ) (pool : Holdings) (rests : Rests) (us : List Tied) → filter (λ t. not (is_over now t)) us ≡ us → rests_after now rests ≡ rests → still now (ties_of pool rests us) ≡ ties_of pool rests us
still_all now pool rests us each lasts = λ i. record { low = pool.tcp.low; high = pool.tcp.high; each = each i; rests = lasts i }
