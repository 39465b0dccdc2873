-- A search for vacant ports, in the order of ports, that sees to what is due before it.
use Rattle.std.specs.Prelude.{◌≢◌}
use Rattle.std.proofs.Common.{◌≡◌, ℕ, ◌+◌, ◌-◌, ◌*◌, ◌<◌, ◌≤◌, ◌&&◌, ◌||◌, nat_lt, nat_le, Bool, true, false, cond, List, Option, Some, None, IfSome, refl, sym, ap, ◌∙◌, subst, inl, inr, arith}
use Rattle.std.specs.Ordering.{nat_cmp}
use Rattle.std.specs.FinMap.{FinMap, get}
use Rattle.std.proofs.lemmas.Bool.{and_parts, le-leb, leb-true, ltb-false, le-ltb}
use Rattle.pcp_base.specs.declared.leases.Protocol.{Protocol}
use Rattle.pcp_base.specs.declared.leases.Protocol.TheVariants.{Tcp, Udp}
use Rattle.pcp_base.specs.declared.leases.End.{End}
use Rattle.ordered_index.proofs.Entries.{false_by}
use Rattle.expiry_wheel.specs.Due.{IsFirstDue}
use Rattle.expiry_wheel.proofs.Maps.{same_or_not, below_or_not}
use Rattle.external_pool.specs.declared.uses.Use.{Use}
use Rattle.external_pool.specs.declared.asks.Picked.{Picked}
use Rattle.external_pool.specs.PortUses.{PortUses, is_in_range, is_free_use, is_vacant, use_along, use_at}
use Rattle.external_pool.specs.Holdings.{Holdings, uses_of, use_of}
use Rattle.external_pool.specs.Choosing.{IsVacantRun, IsLongest}
use Rattle.port_spans.specs.declared.runs.Run.{Run}
use Rattle.port_spans.specs.Runs.{run_at}
use Rattle.port_spans.specs.Along.{spot}
use Rattle.port_spans.proofs.SpotLemmas.{some-if, run_from}
use Rattle.leased_ports.specs.Leased.{leased}
use Rattle.leased_ports.specs.Kept.{port_run, phase_until, use_in, use_told, IsOn, AreInStep, AreScheduled, HaveBegun}
use Rattle.leased_ports.specs.Falling.{NoneDue, is_due}
use Rattle.leased_ports.specs.Counts.{due_before}
use Rattle.leased_ports.specs.Searching.{due_among, search_end}
use Rattle.leased_ports.specs.Plain.{uses_by}
use Rattle.leased_ports.proofs.CountLemmas.{count-less}
use Rattle.leased_ports.proofs.EndedLemmas.{due-before}
use Rattle.leased_ports.proofs.PlainLemmas.{vacant-now, vacant-known}

-- ---- spots of a protocol

pub spot_le : (p : Protocol) (a b : ℕ) → a ≤ b → spot p a ≤ spot p b
spot_le Tcp a b h = h
spot_le Udp a b h = omega (arith, h)

pub spot_less : (p : Protocol) (a b : ℕ) → spot p a < spot p b → a < b
spot_less Tcp a b h = h
spot_less Udp a b h = omega (arith, h)

pub spot_back : (p : Protocol) (id : ℕ) → spot p 0 ≤ id → id ≡ spot p (id - spot p 0)
spot_back Tcp id h = omega arith
spot_back Udp id h = omega (arith, h)

spot_other : (p : Protocol) (a b : ℕ) → a ≢ b → spot p a ≢ spot p b
spot_other Tcp a b h e = h e
spot_other Udp a b h e = h (omega (arith, e))

-- ---- the first run that is due

pub due_some : (m : ℕ) (o : Option ℕ) → is_due m o ≡ true → (expiry : ℕ) × (o ≡ Some expiry) × (expiry ≤ m)
due_some m None h = absurd (let no : false ≡ true = h in cc)
due_some m (Some expiry) h = (expiry, refl, leb-true expiry m h)

-- one that begins behind some ports leaves none due below them
pub none-before : (m : ℕ) (waits : FinMap nat_cmp ℕ) (p : Protocol) (end id : ℕ) → IsFirstDue waits (spot p 0) m id → end ≤ id - spot p 0 → (port expiry : ℕ) → port < end → get waits (spot p port) ≡ Some expiry → m < expiry
none-before m waits p end id first past port expiry less h = elim (below_or_not m expiry) [
  | inl late ↦ late
  | inr due ↦ (let behind = first.first (spot p port) expiry h due (spot_le p 0 port (omega arith)) in
      let back = spot_back p id first.from_on in
      let at : id - spot p 0 ≤ port = up_to p (id - spot p 0) port (subst (λ (n : ℕ). n ≤ spot p port) back behind) in
      absurd (omega (arith, at, past, less)))
]
  where
    up_to : (q : Protocol) (a b : ℕ) → spot q a ≤ spot q b → a ≤ b
    up_to Tcp a b le = le
    up_to Udp a b le = omega (arith, le)

pub id-before : (p : Protocol) (end id : ℕ) → spot p 0 ≤ id → id - spot p 0 < end → id < spot p end
id-before Tcp end id from less = omega (arith, less)
id-before Udp end id from less = omega (arith, from, less)

-- ---- vacant runs

in_range_of : (u : PortUses) (port : ℕ) → is_vacant u port ≡ true → (u.low ≤ port) × (port ≤ u.high)
in_range_of u port h =
    let parts = and_parts (is_in_range u.low u.high port) (is_free_use (use_at u.each port)) h in
    let range = and_parts (nat_le u.low port) (nat_le port u.high) parts.0 in
    (leb-true u.low port range.0, leb-true port u.high range.1)

run_within : (u : PortUses) (parity : Option ℕ) (n start : ℕ) → 1 ≤ n → IsVacantRun u n parity start → start + n ≤ u.high + 1
run_within u parity n start some run =
    let last = in_range_of u (start + (n - 1)) (run.vacant (start + (n - 1)) (omega arith) (omega (arith, some))) in
    omega (arith, last.1, some)

carried : (a b : PortUses) (parity : Option ℕ) (n start : ℕ) → ((port : ℕ) → port < start + n → is_vacant a port ≡ true → is_vacant b port ≡ true) → IsVacantRun a n parity start → IsVacantRun b n parity start
carried a b parity n start more run = record { vacant = λ port from to. more port to (run.vacant port from to); remainder = run.remainder }

-- a choice ends in the range, and so does what may change it
pub end-within : (u : PortUses) (parity : Option ℕ) (room : ℕ) (choice : Option Picked) → IsLongest u parity room choice → search_end u.high room choice ≤ u.high + 1
end-within u parity room None h = omega arith
end-within u parity room (Some run) h = by (nat_lt run.count room)
  where
    by : (b : Bool) → cond {A = ℕ} b (u.high + 1) (run.start + run.count) ≤ u.high + 1
    by true = omega arith
    by false = run_within u parity run.count run.start h.some h.vacant

pub choice-within : (u : PortUses) (parity : Option ℕ) (room : ℕ) (choice : Option Picked) → IsLongest u parity room choice → u.high < 65536 → IfSome choice (λ run. run.start + run.count ≤ 65536)
choice-within u parity room None h low = tt
choice-within u parity room (Some run) h low = let within = run_within u parity run.count run.start h.some h.vacant in omega (arith, within, low)

-- where a choice has all ports that there is room for, it ends what is searched
full_end : (high room : ℕ) (run : Picked) → room ≤ run.count → search_end high room (Some run) ≡ run.start + run.count
full_end high room run full = ap (λ (b : Bool). cond {A = ℕ} b (high + 1) (run.start + run.count)) (le-ltb run.count room full)

-- ---- the longest run where none is due before its end

module _ (low high quota m : ℕ) (runs : List (Run End)) (pool : Holdings) (waits : FinMap nat_cmp ℕ)
    (is : AreInStep runs pool waits) (on : IsOn pool low high quota) (begun : HaveBegun m runs waits) (p : Protocol) (parity : Option ℕ) (room : ℕ) where
  abbrev now : PortUses
  now = uses_by low high m runs p

  abbrev old : PortUses
  old = uses_of pool p

  old_high : old.high ≡ high
  old_high = high_of p
    where
      high_of : (q : Protocol) → (uses_of pool q).high ≡ high
      high_of Tcp = on.tcp_high
      high_of Udp = on.udp_high

  lagging : (port : ℕ) → is_vacant old port ≡ true → is_vacant now port ≡ true
  lagging port h = vacant-now low high quota m runs pool waits is on begun p port ∙ or_true (is_vacant old port) _ h
    where
      or_true : (a b : Bool) → a ≡ true → (a || b) ≡ true
      or_true true b e = refl
      or_true false b e = absurd (let no : false ≡ true = e in cc)

  abbrev NoneBelow : ℕ → Type 0
  NoneBelow end = (q expiry : ℕ) → q < end → get waits (spot p q) ≡ Some expiry → m < expiry

  same_below : (end : ℕ) → NoneBelow end → (port : ℕ) → port < end → is_vacant now port ≡ is_vacant old port
  same_below end none port less = vacant-known low high quota m runs pool waits is on begun p port (λ q expiry le h. none q expiry (omega (arith, le, less)) h)

  same_all : NoneBelow (high + 1) → (port : ℕ) → is_vacant now port ≡ is_vacant old port
  same_all none port = elim (below_or_not high port) [
    | inl past ↦ false_by (is_vacant now port) (λ t. let within = in_range_of now port t in absurd (omega (arith, within.1, past)))
        ∙ sym (false_by (is_vacant old port) (λ t. let within = in_range_of old port t in absurd (omega (arith, within.1, old_high, past))))
    | inr within ↦ same_below (high + 1) none port (omega (arith, within))
  ]

  all_longest : ((port : ℕ) → is_vacant now port ≡ is_vacant old port) → (choice : Option Picked) → IsLongest old parity room choice → IsLongest now parity room choice
  all_longest same None h = λ n some within run. h n some within (run.0, carried now old parity n run.0 (λ port to t. sym (same port) ∙ t) run.1)
  all_longest same (Some run) h = record {
    some = h.some;
    within = h.within;
    vacant = carried old now parity run.count run.start (λ port to t. same port ∙ t) h.vacant;
    least = λ start other. h.least start (carried now old parity run.count start (λ port to t. sym (same port) ∙ t) other);
    greatest = λ n within other. h.greatest n within (other.0, carried now old parity n other.0 (λ port to t. sym (same port) ∙ t) other.1);
  }

  full_longest : (run : Picked) → IsLongest old parity room (Some run) → room ≤ run.count → NoneBelow (run.start + run.count) → IsLongest now parity room (Some run)
  full_longest run h full none = record {
    some = h.some;
    within = h.within;
    vacant = carried old now parity run.count run.start (λ port to t. lagging port t) h.vacant;
    least = λ start other. elim (below_or_not start run.start) [
      | inl less ↦ h.least start (carried now old parity run.count start (λ port to t. sym (same_below (run.start + run.count) none port (omega (arith, to, less))) ∙ t) other)
      | inr from ↦ from
    ];
    greatest = λ n within other. omega (arith, within, full);
  }

  pub search-longest : (choice : Option Picked) → IsLongest old parity room choice → NoneBelow (search_end high room choice) → IsLongest now parity room choice
  search-longest None h none = all_longest (same_all none) None h
  search-longest (Some run) h none = by (nat_lt run.count room) refl none
    where
      by : (b : Bool) → nat_lt run.count room ≡ b → NoneBelow (cond {A = ℕ} b (high + 1) (run.start + run.count)) → IsLongest now parity room (Some run)
      by true e few = all_longest (same_all few) (Some run) h
      by false e few = full_longest run h (ltb-false run.count room e) few

-- ---- a search that goes on

-- All that is due below some ports is seen to, no choice is found before them, and each run that was
-- seen to began below them.
pub record IsSearched (m : ℕ) (p : Protocol) (high room : ℕ) (choice : Option Picked) (before now : FinMap nat_cmp ℕ) (from steps : ℕ) : Type 0 where
  pub seen : ℕ
  pub low : seen ≤ 65536
  pub none : (q : ℕ) → q < seen → is_due m (get now (spot p q)) ≡ false
  pub reach : seen ≤ search_end high room choice
  pub paid : (n : ℕ) → seen ≤ n → steps + 279 * due_among m now p n ≤ from + 69 + 279 * due_among m before p n

pub searched-first : (m : ℕ) (p : Protocol) (high room : ℕ) (choice : Option Picked) (waits : FinMap nat_cmp ℕ) (from steps : ℕ) → steps ≤ from + 69 → IsSearched m p high room choice waits waits from steps
searched-first m p high room choice waits from steps few = record {
  seen = 0;
  low = omega arith;
  none = λ q less. absurd (omega (arith, less));
  reach = omega arith;
  paid = λ n more. omega (arith, few);
}

module _ (high m : ℕ) (runs : List (Run End)) (pool later : Holdings) (waits next : FinMap nat_cmp ℕ)
    (is : AreInStep runs pool waits) (then_ : AreInStep runs later next) (keeps : (low quota : ℕ) → IsOn pool low high quota → IsOn later low high quota) (on : (low : ℕ) × (quota : ℕ) × IsOn pool low high quota)
    (small : high < 65536) (p : Protocol) (parity : Option ℕ) (room id : ℕ)
    (others : (other : ℕ) → other ≢ id → get next other ≡ get waits other) (seen_to : is_due m (get next id) ≡ false) (first : IsFirstDue waits (spot p 0) m id) where
  abbrev k : ℕ
  k = id - spot p 0

  id_is : id ≡ spot p k
  id_is = spot_back p id first.from_on

  high_in : (q : Protocol) (h : Holdings) (low quota : ℕ) → IsOn h low high quota → (uses_of h q).high ≡ high
  high_in Tcp h low quota is_on = is_on.tcp_high
  high_in Udp h low quota is_on = is_on.udp_high

  pool_high : (uses_of pool p).high ≡ high
  pool_high = high_in p pool on.0 on.1 on.2

  new_high : (uses_of later p).high ≡ high
  new_high = high_in p later on.0 on.1 (keeps on.0 on.1 on.2)

  -- the ports below the run are used as before
  told_same : (at : ℕ) (o : Option (Run End)) → IfSome o (λ r. get next r.first ≡ get waits r.first) → use_told next at o ≡ use_told waits at o
  told_same at None h = refl
  told_same at (Some r) h = ap (λ (o : Option ℕ). use_along (at - r.first) (use_in (phase_until r.value.end o) r.value)) h

  begins_other : (port : ℕ) → port < k → (b : Bool) → IfSome (cond b (run_at runs (spot p port)) None) (λ r. get next r.first ≡ get waits r.first)
  begins_other port less false = tt
  begins_other port less true = some-if (λ (r : Run End). get next r.first ≡ get waits r.first) (run_at runs (spot p port)) (λ r there.
      let from = run_from runs is.scheduled.apart (spot p port) r there in
      let below = spot_le p (port + 1) k (omega (arith, less)) in
      let one = spot_more p port in
      others r.first (λ same. omega (arith, same, from, below, one, id_is)))
    where
      spot_more : (q : Protocol) (n : ℕ) → spot q (n + 1) ≡ spot q n + 1
      spot_more Tcp n = refl
      spot_more Udp n = omega arith

  used_same : (port : ℕ) → port < k → use_of later p port ≡ use_of pool p port
  used_same port less = then_.used p port ∙ told_same (spot p port) (port_run runs p port) (begins_other port less (nat_lt port 65536)) ∙ sym (is.used p port)

  range_in : (q : Protocol) (h : Holdings) (low quota port : ℕ) → IsOn h low high quota → is_in_range (uses_of h q).low (uses_of h q).high port ≡ is_in_range low high port
  range_in Tcp h low quota port is_on = ap (λ (n : ℕ). is_in_range n h.tcp.high port) is_on.tcp_low ∙ ap (λ (n : ℕ). is_in_range low n port) is_on.tcp_high
  range_in Udp h low quota port is_on = ap (λ (n : ℕ). is_in_range n h.udp.high port) is_on.udp_low ∙ ap (λ (n : ℕ). is_in_range low n port) is_on.udp_high

  vacant_same : (port : ℕ) → port < k → is_vacant (uses_of later p) port ≡ is_vacant (uses_of pool p) port
  vacant_same port less =
      ap (λ (t : Bool). t && is_free_use (use_of later p port)) (range_in p later on.0 on.1 port (keeps on.0 on.1 on.2) ∙ sym (range_in p pool on.0 on.1 port on.2))
      ∙ ap (λ (u : Use). is_in_range (uses_of pool p).low (uses_of pool p).high port && is_free_use u) (used_same port less)

  -- a choice that ends below it would have been one before
  no_earlier : (choice : Option Picked) → IsLongest (uses_of pool p) parity room choice → (run : Picked) → IsLongest (uses_of later p) parity room (Some run) → room ≤ run.count
      → run.start + run.count ≤ k → k < search_end high room choice → ⊥
  no_earlier None h run new full ends before =
      h run.count new.some new.within (run.start, carried (uses_of later p) (uses_of pool p) parity run.count run.start (λ port to t. sym (vacant_same port (omega (arith, to, ends))) ∙ t) new.vacant)
  no_earlier (Some was) h run new full ends before =
      let there : IsVacantRun (uses_of pool p) run.count parity run.start =
      carried (uses_of later p) (uses_of pool p) parity run.count run.start (λ port to t. sym (vacant_same port (omega (arith, to, ends))) ∙ t) new.vacant in
      let most = h.greatest run.count new.within (run.start, there) in
      let count : run.count ≡ was.count = omega (arith, most, h.within, full) in
      let least = h.least run.start (subst (λ (n : ℕ). IsVacantRun (uses_of pool p) n parity run.start) count there) in
      let end = full_end high room was (omega (arith, full, most)) in
      omega (arith, ends, before, end, least, count)

  module _ (choice chosen : Option Picked) (longest : IsLongest (uses_of pool p) parity room choice) (anew : IsLongest (uses_of later p) parity room chosen) (in_way : id < spot p (search_end high room choice)) where
    before : k < search_end high room choice
    before = spot_less p k (search_end high room choice) (subst (λ (n : ℕ). n < spot p (search_end high room choice)) id_is in_way)

    before_high : k < high + 1
    before_high =
        let within = end-within (uses_of pool p) parity room choice longest in
        let same : search_end (uses_of pool p).high room choice ≡ search_end high room choice = ap (λ (n : ℕ). search_end n room choice) pool_high in
        omega (arith, before, within, same, pool_high)

    reached : (o : Option Picked) → IsLongest (uses_of later p) parity room o → k + 1 ≤ search_end high room o
    reached None h = omega (arith, before_high)
    reached (Some run) h = by (nat_lt run.count room) refl
      where
        by : (b : Bool) → nat_lt run.count room ≡ b → k + 1 ≤ cond {A = ℕ} b (high + 1) (run.start + run.count)
        by true e = omega (arith, before_high)
        by false e = elim (below_or_not k (run.start + run.count)) [
          | inl less ↦ omega (arith, less)
          | inr past ↦ absurd (no_earlier choice longest run h (ltb-false run.count room e) past before)
        ]

    due_other : (q : ℕ) → q ≢ k → is_due m (get next (spot p q)) ≡ is_due m (get waits (spot p q))
    due_other q other = ap (is_due m) (others (spot p q) (λ e. spot_other p q k other (e ∙ id_is)))

    due_here : is_due m (get waits (spot p k)) ≡ true
    due_here = ap (λ (i : ℕ). is_due m (get waits i)) (sym id_is) ∙ ap (is_due m) first.expires ∙ le-leb first.expiry m first.due

    seen_here : is_due m (get next (spot p k)) ≡ false
    seen_here = ap (λ (i : ℕ). is_due m (get next i)) (sym id_is) ∙ seen_to

    none_here : (q : ℕ) → q < k + 1 → is_due m (get next (spot p q)) ≡ false
    none_here q less = elim (same_or_not q k) [
      | inl same ↦ ap (λ (i : ℕ). is_due m (get next (spot p i))) same ∙ seen_here
      | inr other ↦ due_other q other ∙ false_by (is_due m (get waits (spot p q))) (λ t.
          let some = due_some m (get waits (spot p q)) t in
          let behind = first.first (spot p q) some.0 some.1 some.2 (spot_le p 0 q (omega arith)) in
          let under : q < k = grind (arith, less, other) in
          let under_spot = spot_le p (q + 1) k (omega (arith, under)) in
          let one = spot_next p q in
          absurd (omega (arith, behind, under_spot, one, id_is)))
    ]
      where
        spot_next : (s : Protocol) (n : ℕ) → spot s (n + 1) ≡ spot s n + 1
        spot_next Tcp n = refl
        spot_next Udp n = omega arith

    -- one run more is seen to
    pub searched-more : (start : FinMap nat_cmp ℕ) (from steps after : ℕ) → after ≤ steps + 279 → IsSearched m p high room choice start waits from steps → IsSearched m p high room chosen start next from after
    searched-more start from steps after cost s = record {
      seen = k + 1;
      low = omega (arith, before_high, small);
      none = none_here;
      reach = reached chosen anew;
      paid = λ n more.
          let sooner : s.seen ≤ k = elim (below_or_not k s.seen) [
            | inl less ↦ absurd (let no : true ≡ false = sym due_here ∙ s.none k less in cc)
            | inr past ↦ past
          ] in
          let was = s.paid n (omega (arith, sooner, more)) in
          let fewer : due_among m next p n + 1 ≡ due_among m waits p n =
          count-less (λ q. is_due m (get waits (spot p q))) (λ q. is_due m (get next (spot p q))) k due_other due_here seen_here n (omega (arith, more)) in
          omega (arith, was, fewer, cost);
    }

-- ---- what a search took

pub searched-all : (m : ℕ) (p : Protocol) (high room : ℕ) (choice : Option Picked) (start now : FinMap nat_cmp ℕ) (from steps after : ℕ) → IsSearched m p high room choice start now from steps → after ≤ steps + 43
    → after ≤ from + 113 + 279 * due_among m start p 65536
searched-all m p high room choice start now from steps after s last = let paid = s.paid 65536 s.low in omega (arith, paid, last)

pub searched-near : (m : ℕ) (p : Protocol) (high room : ℕ) (choice : Option Picked) (start now : FinMap nat_cmp ℕ) (from steps after : ℕ) → IsSearched m p high room choice start now from steps → after ≤ steps + 43
    → IfSome choice (λ run. run.count ≡ room → after ≤ from + 113 + 279 * due_among m start p (run.start + run.count))
searched-near m p high room None start now from steps after s last = tt
searched-near m p high room (Some run) start now from steps after s last = λ full.
    let end = full_end high room run (omega (arith, full)) in
    let paid = s.paid (run.start + run.count) (omega (arith, s.reach, end)) in
    omega (arith, paid, last)

-- by the ports at which something is due
pub near-ports : (low high quota seen m : ℕ) (runs : List (Run End)) (waits : FinMap nat_cmp ℕ) → AreScheduled runs waits → NoneDue seen waits → (p : Protocol) (room from after : ℕ) (choice : Option Picked)
    → IfSome choice (λ run. run.start + run.count ≤ 65536) → IfSome choice (λ run. run.count ≡ room → after ≤ from + 113 + 279 * due_among m waits p (run.start + run.count))
    → IfSome choice (λ run. run.count ≡ room → after ≤ from + 113 + 279 * due_before (leased low high quota seen m runs) p (run.start + run.count))
near-ports low high quota seen m runs waits is late p room from after None within near = tt
near-ports low high quota seen m runs waits is late p room from after (Some run) within near = λ full.
    let some = due-before low high quota seen m runs waits is late p (run.start + run.count) within in
    let told = near full in
    omega (arith, some, told)
