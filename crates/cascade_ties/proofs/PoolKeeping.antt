-- The pool of ties, where one comes, goes or is changed.
use Rattle.std.proofs.Common.{◌≡◌, ℕ, ◌+◌, ◌≤◌, ◌-◌, ◌&&◌, ◌==◌, Bool, true, false, not, cond, List, [], ◌∷◌, ◌++◌, length, filter, find, count_by, Option, Some, None, refl, sym, ap, ◌∙◌, arith, inl, inr}
use Rattle.std.specs.List.{AllZip, list_any}
use Rattle.std.proofs.lemmas.Bool.{and_parts, eqb-true, eq-eqb}
use Rattle.std.proofs.lemmas.Bool.Decides.{nat_tests}
use Rattle.pcp_base.specs.declared.addresses.Address.{Address}
use Rattle.pcp_base.specs.declared.leases.Endpoint.{Endpoint}
use Rattle.pcp_base.specs.declared.leases.Protocol.{Protocol}
use Rattle.pcp_base.specs.declared.leases.Protocol.TheVariants.{Tcp, Udp}
use Rattle.pcp_base.specs.Tables.{same_address, same_protocol}
use Rattle.pcp_base.proofs.Same.{same_protocol-Decides}
use Rattle.pcp_base.proofs.Members.{IsIn, All-IsIn, any-none, find-some}
use Rattle.port_runs.specs.Ports.{is_in_run}
use Rattle.external_pool.specs.declared.uses.Use.{Use}
use Rattle.external_pool.specs.declared.uses.Use.TheVariants.{Free, Held}
use Rattle.external_pool.specs.Calls.{MayHold, MayRelease}
use Rattle.external_pool.specs.Holdings.{Holdings, IsWhole, use_of, ports_held, with_use}
use Rattle.external_pool.specs.PortUses.{is_held, is_held_by, use_along, use_at}
use Rattle.external_pool.proofs.Counted.{count_painted, length-part, part, use_at-part, use_of-with_use, with_use-whole}
use Rattle.ordered_index.proofs.EntryLaws.{tally, count-cons}
use Rattle.cascade_ties.specs.declared.ties.Tied.{Tied}
use Rattle.cascade_ties.specs.Kept.{HasLocal, IsTiePool, at_rest, left_use, use_by}
use Rattle.cascade_ties.specs.Ties.{TiesDiffer, has_client, has_local, tie_at, tie_of}
use Rattle.cascade_ties.proofs.OneLemmas.{Once, count-append, count-out, find-append, find-before, find-nothing, find-out, none-left, zip-count, zip-find}
use Rattle.cascade_ties.proofs.TieKeeping.{IsSameTie, once_client, once_local}

run_one : (a port : ℕ) → is_in_run a 1 port ≡ (a == port)
run_one a port = grind (arith, nat_tests)

-- the run of a tie's port is that port
at_port : (t : Tied) (other : Protocol) (port : ℕ) → (same_protocol t.tie.client.protocol other && is_in_run t.tie.local 1 port) ≡ has_local other port t
at_port t other port = ap (λ (b : Bool). same_protocol t.tie.client.protocol other && b) (run_one t.tie.local port)

count_one : (q : Use → Bool) (xs : List Use) → length xs ≡ 1 → count_by q xs ≡ tally (q (use_at xs 0))
count_one q [] h = absurd (omega (arith, h))
count_one q (x ∷ []) h = let a = count-cons q x [] in let z : count_by q [] ≡ 0 = refl in omega (arith, a, z)
count_one q (x ∷ y ∷ xs) h = absurd (omega (arith, h))

-- quota and ranges stay
same_range : (protocol : Protocol) (start n : ℕ) (value : Use) (pool : Holdings) → ((with_use protocol start n value pool).quota ≡ pool.quota) × ((with_use protocol start n value pool).tcp.low ≡ pool.tcp.low) ×
    ((with_use protocol start n value pool).tcp.high ≡ pool.tcp.high) × ((with_use protocol start n value pool).udp.low ≡ pool.udp.low) × ((with_use protocol start n value pool).udp.high ≡ pool.udp.high)
same_range Tcp start n value pool = (refl, refl, refl, refl, refl)
same_range Udp start n value pool = (refl, refl, refl, refl, refl)

pub low_stays : (protocol : Protocol) (start n : ℕ) (value : Use) (pool : Holdings) → (with_use protocol start n value pool).tcp.low ≡ pool.tcp.low
low_stays protocol start n value pool = (same_range protocol start n value pool).1

pub high_stays : (protocol : Protocol) (start n : ℕ) (value : Use) (pool : Holdings) → (with_use protocol start n value pool).tcp.high ≡ pool.tcp.high
high_stays protocol start n value pool = (same_range protocol start n value pool).2

part_count : (q : Use → Bool) (local : ℕ) (each : List Use) → local + 1 ≤ length each → count_by q (part local 1 each) ≡ tally (q (use_at each local))
part_count q local each within =
    let place : local + 0 ≡ local = omega arith in
    count_one q (part local 1 each) (length-part local 1 each within)
    ∙ ap (λ (u : Use). tally (q u)) (use_at-part local 1 each within 0 (omega arith) ∙ ap (use_at each) place)

-- what an address holds after one port got a use
held_after : (pool : Holdings) (protocol : Protocol) (local : ℕ) (value : Use) → IsWhole pool → local + 1 ≤ 65536 → (who : Address)
    → ports_held (with_use protocol local 1 value pool) who + tally (is_held_by who (use_of pool protocol local)) ≡ ports_held pool who + tally (is_held_by who value)
held_after pool Tcp local value whole within who =
    let short : local + 1 ≤ length pool.tcp.each = (let all = whole.tcp in omega (arith, within, all)) in
    let a = count_painted local 1 pool.tcp.each short who value in
    let b = part_count (is_held_by who) local pool.tcp.each short in
    omega (arith, a, b)
held_after pool Udp local value whole within who =
    let short : local + 1 ≤ length pool.udp.each = (let all = whole.udp in omega (arith, within, all)) in
    let a = count_painted local 1 pool.udp.each short who value in
    let b = part_count (is_held_by who) local pool.udp.each short in
    omega (arith, a, b)

pub find_one : {X : Type 0} (q : X → Bool) (xs : List X) (x : X) → Once q xs → IsIn x xs → q x ≡ true → find q xs ≡ Some x
find_one q [] x one h t = absurd h
find_one q (y ∷ ys) x one (inl same) t = ap (λ b. cond b (Some y) (find q ys)) (ap q same ∙ t) ∙ ap Some same
find_one q (y ∷ ys) x one (inr h) t = step (q y) refl (find_one q ys x one.1 h t)
  where
    step : (b : Bool) → q y ≡ b → find q ys ≡ Some x → cond b (Some y) (find q ys) ≡ Some x
    step true e later = absurd (let no = All-IsIn (λ z. q y ≡ true → q z ≡ false) ys x one.0 h e in let both : true ≡ false = sym t ∙ no in cc)
    step false e later = later

-- a port without a tie isn't held
unheld : (o : Option ℕ) → is_held (use_by None o) ≡ false
unheld None = refl
unheld (Some until) = refl

unheld_by : (who : Address) (o : Option ℕ) → is_held_by who (use_by None o) ≡ false
unheld_by who None = refl
unheld_by who (Some until) = refl

-- a port without a tie whose rest is another
abbrev pub set_rest : (Protocol → ℕ → Option ℕ) → Protocol → ℕ → Option ℕ → Protocol → ℕ → Option ℕ
set_rest rest protocol local o other port = cond (same_protocol protocol other && local == port) o (rest other port)

along_none : (o : Option ℕ) (n : ℕ) → n ≡ 0 → use_along n (use_by None o) ≡ use_by None o
along_none None n z = refl
along_none (Some until) n z = ap (λ (k : ℕ). use_along k at_rest) z

-- the port of that test
pub at_that : {X : Type 0} (f : Protocol → ℕ → X) (protocol other : Protocol) (local port : ℕ) → (same_protocol protocol other && local == port) ≡ true → f other port ≡ f protocol local
at_that f protocol other local port e =
    let p = and_parts _ _ e in
    ap (λ (z : Protocol). f z port) (sym ((same_protocol-Decides protocol other).0 p.0)) ∙ ap (f protocol) (sym (eqb-true local port p.1))

-- the same, where it is what it was
pub set_same : (rest : Protocol → ℕ → Option ℕ) (protocol : Protocol) (local : ℕ) (o : Option ℕ) → rest protocol local ≡ o → (other : Protocol) (port : ℕ) → set_rest rest protocol local o other port ≡ rest other port
set_same rest protocol local o is other port = step (same_protocol protocol other && local == port) refl
  where
    step : (b : Bool) → (same_protocol protocol other && local == port) ≡ b → cond b o (rest other port) ≡ rest other port
    step true e = sym (at_that rest protocol other local port e ∙ is)
    step false e = refl

-- written twice
pub set_twice : (rest : Protocol → ℕ → Option ℕ) (protocol : Protocol) (local : ℕ) (first o : Option ℕ) → rest protocol local ≡ o → (other : Protocol) (port : ℕ)
    → set_rest (set_rest rest protocol local first) protocol local o other port ≡ rest other port
set_twice rest protocol local first o is other port = step (same_protocol protocol other && local == port) refl
  where
    step : (b : Bool) → (same_protocol protocol other && local == port) ≡ b → cond b o (cond b first (rest other port)) ≡ rest other port
    step true e = sym (at_that rest protocol other local port e ∙ is)
    step false e = refl

module _ (pool : Holdings) (rest : Protocol → ℕ → Option ℕ) (ts : List Tied) (is : IsTiePool pool rest ts) where
  -- rests that tell the same uses
  pub same_pool : (other : Protocol → ℕ → Option ℕ) → ((protocol : Protocol) (port : ℕ) → use_by (tie_at protocol port ts) (rest protocol port) ≡ use_by (tie_at protocol port ts) (other protocol port)) → IsTiePool pool other ts
  same_pool other same = record {
    quota = is.quota;
    low = is.low;
    high = is.high;
    some = is.some;
    top = is.top;
    whole = is.whole;
    uses = λ protocol port. is.uses protocol port ∙ same protocol port;
    counts = is.counts;
  }

  pub alike_pool : (other : Protocol → ℕ → Option ℕ) → ((protocol : Protocol) (port : ℕ) → rest protocol port ≡ other protocol port) → IsTiePool pool other ts
  alike_pool other same = same_pool other (λ protocol port. ap (use_by (tie_at protocol port ts)) (same protocol port))

  -- a port without a tie goes to rest, or wakes
  module _ (protocol : Protocol) (local : ℕ) (o : Option ℕ) (within : local + 1 ≤ 65536) (none : tie_at protocol local ts ≡ None) where
    marked : (other : Protocol) (port : ℕ) (b : Bool) → (same_protocol protocol other && local == port) ≡ b
        → cond b (use_along (port - local) (use_by None o)) (use_of pool other port) ≡ use_by (tie_at other port ts) (cond b o (rest other port))
    marked other port true e =
        let p : (same_protocol protocol other ≡ true) × ((local == port) ≡ true) = and_parts _ _ e in
        let same : local ≡ port = eqb-true local port p.1 in
        let zero_away : port - local ≡ 0 = omega (arith, same) in
        along_none o (port - local) zero_away ∙ sym (ap (λ (t : Option Tied). use_by t o) (at_that (λ z n. tie_at z n ts) protocol other local port e ∙ none))
    marked other port false e = is.uses other port

    was_unheld : (who : Address) → is_held_by who (use_of pool protocol local) ≡ false
    was_unheld who = ap (is_held_by who) (is.uses protocol local ∙ ap (λ (t : Option Tied). use_by t (rest protocol local)) none) ∙ unheld_by who (rest protocol local)

    pub mark_pool : IsTiePool (with_use protocol local 1 (use_by None o) pool) (set_rest rest protocol local o) ts
    mark_pool = let same = same_range protocol local 1 (use_by None o) pool in record {
      quota = same.0 ∙ is.quota;
      low = same.3 ∙ is.low ∙ sym same.1;
      high = same.4 ∙ is.high ∙ sym same.2;
      some = (let low = same.1 in let some = is.some in omega (arith, low, some));
      top = (let high = same.2 in let top = is.top in omega (arith, high, top));
      whole = with_use-whole pool protocol local 1 (use_by None o) is.whole within;
      uses = λ other port. use_of-with_use pool protocol local 1 (use_by None o) is.whole within other port
          ∙ ap (λ (b : Bool). cond (same_protocol protocol other && b) (use_along (port - local) (use_by None o)) (use_of pool other port)) (run_one local port)
          ∙ marked other port (same_protocol protocol other && local == port) refl;
      counts = λ who.
          let a = held_after pool protocol local (use_by None o) is.whole within who in
          let before = ap tally (was_unheld who) in
          let behind = ap tally (unheld_by who o) in
          let c = is.counts who in
          omega (arith, a, before, behind, c);
    }

  module _ (t : Tied) (vacant : list_any (has_local t.tie.client.protocol t.tie.local) ts ≡ false) (local : HasLocal t) where
    within : t.tie.local + 1 ≤ 65536
    within = let to = local.to in omega (arith, to)

    pub none_at : tie_at t.tie.client.protocol t.tie.local ts ≡ None
    none_at = find-nothing (has_local t.tie.client.protocol t.tie.local) ts (any-none (has_local t.tie.client.protocol t.tie.local) ts vacant)

    use_there : use_of pool t.tie.client.protocol t.tie.local ≡ use_by None (rest t.tie.client.protocol t.tie.local)
    use_there = is.uses t.tie.client.protocol t.tie.local ∙ ap (λ (o : Option Tied). use_by o (rest t.tie.client.protocol t.tie.local)) none_at

    pub may_hold : MayHold pool t.tie.client.protocol t.tie.local 1
    may_hold = record {
      ports = record { from = local.from; some = omega arith; end = within };
      none_held = λ port from to. (let same : port ≡ t.tie.local = omega (arith, from, to) in
          ap (λ (p : ℕ). is_held (use_of pool t.tie.client.protocol p)) same ∙ ap is_held use_there ∙ unheld (rest t.tie.client.protocol t.tie.local));
    }

    abbrev after : Holdings
    after = with_use t.tie.client.protocol t.tie.local 1 (Held t.tie.client.address) pool

    uses_step : (other : Protocol) (port : ℕ) (b : Bool) → has_local other port t ≡ b → cond b (Held t.tie.client.address) (use_of pool other port) ≡ use_by (tie_at other port (ts ++ t ∷ [])) (rest other port)
    uses_step other port true e =
        let none : tie_at other port ts ≡ None = at_that (λ z n. tie_at z n ts) t.tie.client.protocol other t.tie.local port e ∙ none_at in
        sym (ap (λ (o : Option Tied). use_by o (rest other port)) (find-append (has_local other port) ts t none ∙ ap (λ b. cond b (Some t) None) e))
    uses_step other port false e = is.uses other port ∙ ap (λ (o : Option Tied). use_by o (rest other port)) (sym (find-before (has_local other port) ts t e))

    pub put_pool : IsTiePool after rest (ts ++ t ∷ [])
    put_pool = let same = same_range t.tie.client.protocol t.tie.local 1 (Held t.tie.client.address) pool in record {
      quota = same.0 ∙ is.quota;
      low = same.3 ∙ is.low ∙ sym same.1;
      high = same.4 ∙ is.high ∙ sym same.2;
      some = (let low = same.1 in let some = is.some in omega (arith, low, some));
      top = (let high = same.2 in let top = is.top in omega (arith, high, top));
      whole = with_use-whole pool t.tie.client.protocol t.tie.local 1 (Held t.tie.client.address) is.whole within;
      uses = λ other port. use_of-with_use pool t.tie.client.protocol t.tie.local 1 (Held t.tie.client.address) is.whole within other port
          ∙ ap (λ (b : Bool). cond b (Held t.tie.client.address) (use_of pool other port)) (at_port t other port)
          ∙ uses_step other port (has_local other port t) refl;
      counts = λ who.
          let a = held_after pool t.tie.client.protocol t.tie.local (Held t.tie.client.address) is.whole within who in
          let none = ap (λ (u : Use). tally (is_held_by who u)) use_there ∙ ap tally (unheld_by who (rest t.tie.client.protocol t.tie.local)) in
          let b = count-append (λ (x : Tied). same_address x.tie.client.address who) ts t in
          let c = is.counts who in
          omega (arith, a, none, b, c);
    }

  -- an address holds a port of a tie no longer, where the ties are others by then
  module _ (x : Tied) (held_at : use_of pool x.tie.client.protocol x.tie.local ≡ Held x.tie.client.address) (local : HasLocal x) (us : List Tied)
      (here : (other : Protocol) (port : ℕ) → has_local other port x ≡ true → tie_at other port us ≡ None)
      (elsewhere : (other : Protocol) (port : ℕ) → has_local other port x ≡ false → tie_at other port us ≡ tie_at other port ts)
      (fewer : (who : Address) → count_by (λ (y : Tied). same_address y.tie.client.address who) us + tally (same_address x.tie.client.address who) ≡ count_by (λ (y : Tied). same_address y.tie.client.address who) ts) where
    within_x : x.tie.local + 1 ≤ 65536
    within_x = let to = local.to in omega (arith, to)

    free_step : (other : Protocol) (port : ℕ) (b : Bool) → has_local other port x ≡ b → cond b Free (use_of pool other port) ≡ use_by (tie_at other port us) (cond b None (rest other port))
    free_step other port true t = sym (ap (λ (o : Option Tied). use_by o None) (here other port t))
    free_step other port false t = is.uses other port ∙ ap (λ (o : Option Tied). use_by o (rest other port)) (sym (elsewhere other port t))

    pub freed_pool : IsTiePool (with_use x.tie.client.protocol x.tie.local 1 Free pool) (set_rest rest x.tie.client.protocol x.tie.local None) us
    freed_pool = let same = same_range x.tie.client.protocol x.tie.local 1 Free pool in record {
      quota = same.0 ∙ is.quota;
      low = same.3 ∙ is.low ∙ sym same.1;
      high = same.4 ∙ is.high ∙ sym same.2;
      some = (let low = same.1 in let some = is.some in omega (arith, low, some));
      top = (let high = same.2 in let top = is.top in omega (arith, high, top));
      whole = with_use-whole pool x.tie.client.protocol x.tie.local 1 Free is.whole within_x;
      uses = λ other port. use_of-with_use pool x.tie.client.protocol x.tie.local 1 Free is.whole within_x other port
          ∙ ap (λ (b : Bool). cond b Free (use_of pool other port)) (at_port x other port)
          ∙ free_step other port (has_local other port x) refl;
      counts = λ who.
          let a = held_after pool x.tie.client.protocol x.tie.local Free is.whole within_x who in
          let mine = ap (λ (u : Use). tally (is_held_by who u)) held_at in
          let b = fewer who in
          let c = is.counts who in
          omega (arith, a, mine, b, c);
    }

  module _ (differ : TiesDiffer ts) (e : Endpoint) (x : Tied) (found : tie_of e ts ≡ Some x) (local : HasLocal x) where
    itself : has_local x.tie.client.protocol x.tie.local x ≡ true
    itself = ap (λ (b : Bool). b && x.tie.local == x.tie.local) ((same_protocol-Decides x.tie.client.protocol x.tie.client.protocol).1 refl) ∙ eq-eqb x.tie.local x.tie.local refl

    pub held_there : use_of pool x.tie.client.protocol x.tie.local ≡ Held x.tie.client.address
    held_there = is.uses x.tie.client.protocol x.tie.local ∙ ap (λ (o : Option Tied). use_by o (rest x.tie.client.protocol x.tie.local))
        (find_one (has_local x.tie.client.protocol x.tie.local) ts x (once_local x.tie.client.protocol x.tie.local ts differ) (find-some (has_client e) ts x found).0 itself)

    pub may_release : MayRelease pool x.tie.client.address x.tie.client.protocol x.tie.local 1
    may_release = record {
      ports = record { from = local.from; some = omega arith; end = (let to = local.to in omega (arith, to)) };
      held = λ port from to. (let same : port ≡ x.tie.local = omega (arith, from, to) in ap (use_of pool x.tie.client.protocol) same ∙ held_there);
    }

    abbrev others : List Tied
    others = filter (λ t. not (has_client e t)) ts

    pub take_pool : IsTiePool (with_use x.tie.client.protocol x.tie.local 1 Free pool) (set_rest rest x.tie.client.protocol x.tie.local None) others
    take_pool = freed_pool x held_there local others
        (λ other port t. none-left (has_client e) x (has_local other port) ts (once_client e ts differ) (once_local other port ts differ) found t)
        (λ other port t. find-out (has_client e) x (has_local other port) ts (once_client e ts differ) found t)
        (λ who. count-out (has_client e) x (λ (y : Tied). same_address y.tie.client.address who) ts (once_client e ts differ) found)

    pub none_here : tie_at x.tie.client.protocol x.tie.local others ≡ None
    none_here = none-left (has_client e) x (has_local x.tie.client.protocol x.tie.local) ts (once_client e ts differ) (once_local x.tie.client.protocol x.tie.local ts differ) found itself

  -- ties that are only changed
  pub zip_pool : (us : List Tied) → AllZip IsSameTie ts us → IsTiePool pool rest us
  zip_pool us z = record {
    quota = is.quota;
    low = is.low;
    high = is.high;
    some = is.some;
    top = is.top;
    whole = is.whole;
    uses = λ protocol port. is.uses protocol port ∙ zip-find IsSameTie (has_local protocol port) (λ o. use_by o (rest protocol port))
        (λ a b s. ap (λ (c : Endpoint). same_protocol c.protocol protocol && a.tie.local == port) s.client ∙ ap (λ (n : ℕ). same_protocol b.tie.client.protocol protocol && n == port) s.local)
        (λ a b s. ap (λ (c : Endpoint). Held c.address) s.client) ts us z;
    counts = λ who. is.counts who ∙ zip-count IsSameTie (λ (y : Tied). same_address y.tie.client.address who) (λ a b s. ap (λ (c : Endpoint). same_address c.address who) s.client) ts us z;
  }

-- the port of a tie that went rests, where it is to
pub left_pool : (pool : Holdings) (rest : Protocol → ℕ → Option ℕ) (us : List Tied) (protocol : Protocol) (local : ℕ) → local + 1 ≤ 65536 → tie_at protocol local us ≡ None
    → IsTiePool (with_use protocol local 1 Free pool) (set_rest rest protocol local None) us → IsTiePool (left_use protocol local (rest protocol local) pool) rest us
left_pool pool rest us protocol local within none is = step (rest protocol local) refl
  where
    step : (o : Option ℕ) → rest protocol local ≡ o → IsTiePool (left_use protocol local o pool) rest us
    step None e = alike_pool (with_use protocol local 1 Free pool) (set_rest rest protocol local None) us is rest (set_same rest protocol local None e)
    step (Some until) e = alike_pool (with_use protocol local 1 at_rest (with_use protocol local 1 Free pool)) (set_rest (set_rest rest protocol local None) protocol local (Some until)) us
        (mark_pool (with_use protocol local 1 Free pool) (set_rest rest protocol local None) us is protocol local (Some until) within none) rest (set_twice rest protocol local None (Some until) e)
