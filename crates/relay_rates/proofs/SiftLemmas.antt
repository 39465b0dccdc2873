-- What passes a gate is all that its relay hears, and no more of a second than may.
use Rattle.std.proofs.Common.{◌≡◌, ◌-◌, ◌^◌, min, ℕ, suc, ◌+◌, ◌<◌, ◌≤◌, ◌/◌, ◌==◌, ◌&&◌, nat_lt, Bool, true, false, cond, List, [], ◌∷◌, ◌++◌, length, filter, refl, sym, subst, ap, ◌∙◌, arith}
use Rattle.std.proofs.lemmas.Bool.{eq-eqb, eqb-false, eqb-true, ltb-false, ltb-true, true≢false}
use Rattle.pcp_base.specs.declared.addresses.Address.{Address}
use Rattle.pcp_base.specs.declared.datagrams.Datagram.{Datagram}
use Rattle.proxy_core.specs.Runs.{Event}
use Rattle.proxy_core.specs.Runs.Event.{Client, Server, Tick}
use Rattle.proxy_core.specs.declared.outs.ProxyOut.{ProxyOut}
use Rattle.proxy_core.specs.declared.outs.ProxyOut.TheVariants.{Nothing, Reply, Up}
use Rattle.relay_rates.specs.declared.gates.RateGate.{RateGate}
use Rattle.relay_rates.specs.Rates.{at, counted, gate_after, is_open, is_told, let_on, may_pass, new_gate, rated, taken, told_after}
use Rattle.relay_rates.specs.Sifting.{AreRising, RatesAreKept, TellingIsKept, going_on, is_in, is_said_in, passing, sifted_down}
use Rattle.relay_runs.specs.Machines.{Machine}
use Rattle.relay_runs.specs.Sending.{down_by, down_for, down_for_all, up_by, up_for_all}

-- ---- what is sent

module _ {S : Type 0} (m : Machine S) where
  -- a datagram of a client, that passes or not
  down-client : (gate told : RateGate) (relay : S) (d : Datagram) (now : ℕ) (es : List Event) (b : Bool)
      → ((s : S) → down_for_all (rated m) (record { gate = gate; told = told; relay = s }) es ≡ sifted_down m told s (passing gate es))
      → down_by (taken m (record { gate = gate; told = told; relay = relay }) d now b).out
      ++ down_for_all (rated m) (taken m (record { gate = gate; told = told; relay = relay }) d now b).state es
      ≡ sifted_down m told relay (cond b (Client d now ∷ passing gate es) (passing gate es))
  down-client gate told relay d now es true rest = ap (λ ds. down_by (m.on_client relay d now).out ++ ds) (rest (m.on_client relay d now).state)
  down-client gate told relay d now es false rest = rest relay

  pub down-sifted : (gate told : RateGate) (relay : S) (events : List Event)
      → down_for_all (rated m) (record { gate = gate; told = told; relay = relay }) events ≡ sifted_down m told relay (passing gate events)
  down-sifted gate told relay [] = refl
  down-sifted gate told relay (Client d now ∷ es) =
      down-client (gate_after gate now) told relay d now es (may_pass gate now) (λ s. down-sifted (gate_after gate now) told s es)
  down-sifted gate told relay (Server d now ∷ es) =
      let out = (m.on_server relay d now).out in
      ap (λ ds. down_by (let_on told out now) ++ ds) (down-sifted gate (told_after told out now) (m.on_server relay d now).state es)
  down-sifted gate told relay (Tick now ∷ es) = ap (λ ds. down_for m relay (Tick now) ++ ds) (down-sifted gate told (m.on_tick relay now).state es)

  up-client : (server : Address) (gate told : RateGate) (relay : S) (d : Datagram) (now : ℕ) (es : List Event) (b : Bool)
      → ((s : S) → up_for_all (rated m) server (record { gate = gate; told = told; relay = s }) es ≡ up_for_all m server s (passing gate es))
      → up_by server (taken m (record { gate = gate; told = told; relay = relay }) d now b).out
      ++ up_for_all (rated m) server (taken m (record { gate = gate; told = told; relay = relay }) d now b).state es
      ≡ up_for_all m server relay (cond b (Client d now ∷ passing gate es) (passing gate es))
  up-client server gate told relay d now es true rest = ap (λ ds. up_by server (m.on_client relay d now).out ++ ds) (rest (m.on_client relay d now).state)
  up-client server gate told relay d now es false rest = rest relay

  -- what is told goes down alone
  up-let-on : (server : Address) (told : RateGate) (out : ProxyOut) (now : ℕ) → up_by server (let_on told out now) ≡ up_by server out
  up-let-on server told Nothing now = refl
  up-let-on server told (Up octets) now = refl
  up-let-on server told (Reply d) now = by (is_told (Reply d)) (may_pass told now)
    where
      by : (x y : Bool) → up_by server (cond x (cond y (Reply d) Nothing) (Reply d)) ≡ []
      by true true = refl
      by true false = refl
      by false y = refl

  pub up-sifted : (server : Address) (gate told : RateGate) (relay : S) (events : List Event)
      → up_for_all (rated m) server (record { gate = gate; told = told; relay = relay }) events ≡ up_for_all m server relay (passing gate events)
  up-sifted server gate told relay [] = refl
  up-sifted server gate told relay (Client d now ∷ es) =
      up-client server (gate_after gate now) told relay d now es (may_pass gate now) (λ s. up-sifted server (gate_after gate now) told s es)
  up-sifted server gate told relay (Server d now ∷ es) =
      let out = (m.on_server relay d now).out in
      ap (λ ds. ds ++ up_for_all (rated m) server (record { gate = gate; told = told_after told out now; relay = (m.on_server relay d now).state }) es) (up-let-on server told out now)
      ∙ ap (λ ds. up_by server out ++ ds) (up-sifted server gate (told_after told out now) (m.on_server relay d now).state es)
  up-sifted server gate told relay (Tick now ∷ es) = up-sifted server gate told (m.on_tick relay now).state es

-- ---- how many pass

-- so many of a second pass behind a gate, where no event is of an earlier second than its own
pub record AtMost (gate : RateGate) (second n : ℕ) : Type 0 where
  pub past : second < gate.second → n ≡ 0
  pub present : second ≡ gate.second → n + gate.passed ≤ gate.rate
  pub future : gate.second < second → n ≤ gate.rate

-- a gate at which not more passed than may
abbrev IsGate : RateGate → Type 0
IsGate gate = gate.passed ≤ gate.rate

abbrev count : ℕ → List Event → ℕ
count second events = length (filter (is_in second) events)

above : (low high : ℕ) → low ≤ high → (high ≡ low → ⊥) → low < high
above low high most apart = by (nat_lt low high) refl
  where
    by : (x : Bool) → nat_lt low high ≡ x → low < high
    by true t = ltb-true _ _ t
    by false f = absurd (apart (let least : high ≤ low = ltb-false _ _ f in omega (arith, most, least)))

none-of : (gate : RateGate) (second : ℕ) → IsGate gate → AtMost gate second 0
none-of gate second is = record { past = λ _. refl; present = λ _. omega (arith, is); future = λ _. omega arith }

rising-from : (last first : ℕ) (events : List Event) → first ≤ last → AreRising last events → AreRising first events
rising-from last first [] least rising = tt
rising-from last first (e ∷ es) least rising = (omega (arith, least, rising.0), rising.1)

-- a gate at the second of a datagram, which passes or not
module _ (gate : RateGate) (second : ℕ) (d : Datagram) (now : ℕ) (es : List Event) (is : IsGate gate) (here : gate.second ≡ now / 1000) where
  abbrev more-of : Bool → ℕ → ℕ
  more-of b n = cond b (suc n) n

  counts : (b : Bool) → count second (Client d now ∷ es) ≡ more-of (is_in second (Client d now)) (count second es)
  counts b = by (is_in second (Client d now)) refl
    where
      by : (x : Bool) → is_in second (Client d now) ≡ x → count second (Client d now ∷ es) ≡ more-of x (count second es)
      by true t = rw t refl
      by false f = rw f refl

  passes-in : (n : ℕ) → AtMost (record gate { passed = gate.passed + 1 }) second n → AtMost gate second (more-of (now / 1000 == second) n)
  passes-in n rest = by (now / 1000 == second) refl
    where
      by : (x : Bool) → (now / 1000 == second) ≡ x → AtMost gate second (more-of x n)
      by true t =
          let same : now / 1000 ≡ second = eqb-true _ _ t in
          record {
            past = λ h. absurd (omega (arith, h, same, here));
            present = λ h. let few : n + (gate.passed + 1) ≤ gate.rate = rest.present h in omega (arith, few);
            future = λ h. absurd (omega (arith, h, same, here));
          }
      by false f = record {
        past = rest.past;
        present = λ h. absurd (true≢false (sym (eq-eqb (now / 1000) second (omega (arith, here, h))) ∙ f));
        future = rest.future;
      }

module _ (gate : RateGate) (second k n : ℕ) (is : IsGate gate) (least : gate.second ≤ k) where
  before : AtMost (cond (nat_lt gate.second k) (record gate { second = k; passed = 0 }) gate) second n → AtMost gate second n
  before h = by (nat_lt gate.second k) refl h
    where
      by : (x : Bool) → nat_lt gate.second k ≡ x → AtMost (cond x (record gate { second = k; passed = 0 }) gate) second n → AtMost gate second n
      by false f at-it = at-it
      by true t at-it =
          let less : gate.second < k = ltb-true _ _ t in
          record {
            past = λ h. at-it.past (omega (arith, h, less));
            present = λ h. let no : n ≡ 0 = at-it.past (omega (arith, h, less)) in omega (arith, no, is);
            future = λ h. later-of (nat_lt second k) (second == k) refl refl;
          }
        where
          later-of : (x y : Bool) → nat_lt second k ≡ x → (second == k) ≡ y → n ≤ gate.rate
          later-of true y a b = let no : n ≡ 0 = at-it.past (ltb-true _ _ a) in omega (arith, no)
          later-of false true a b = let few : n + 0 ≤ gate.rate = at-it.present (eqb-true _ _ b) in omega (arith, few)
          later-of false false a b = at-it.future (above k second (ltb-false _ _ a) (eqb-false second k b))

abbrev counted-by : RateGate → Bool → RateGate
counted-by gate b = cond b (record gate { passed = gate.passed + 1 }) (record gate { dropped = min (gate.dropped + 1) (2 ^ 64 - 1) })

abbrev at-by : RateGate → ℕ → Bool → RateGate
at-by gate k b = cond b (record gate { second = k; passed = 0 }) gate

-- a datagram at a gate of its second
at-second : (gate : RateGate) (second : ℕ) (d : Datagram) (now : ℕ) (es : List Event) (b : Bool) → IsGate gate → gate.second ≡ now / 1000
    → AtMost (counted-by gate b) second (count second es) → AtMost gate second (count second (cond b (Client d now ∷ es) es))
at-second gate second d now es true is here rest =
    subst (AtMost gate second) (sym (counts gate second d now es is here true)) (passes-in gate second d now es is here (count second es) rest)
at-second gate second d now es false is here rest = record { past = rest.past; present = rest.present; future = rest.future }

gate-counted : (gate : RateGate) (b : Bool) → nat_lt gate.passed gate.rate ≡ b → IsGate gate → IsGate (counted-by gate b)
gate-counted gate true t is = let less : gate.passed < gate.rate = ltb-true _ _ t in omega (arith, less)
gate-counted gate false f is = is

second-counted : (gate : RateGate) (b : Bool) → (counted-by gate b).second ≡ gate.second
second-counted gate true = refl
second-counted gate false = refl

gate-at : (gate : RateGate) (k : ℕ) (b : Bool) → IsGate gate → IsGate (at-by gate k b)
gate-at gate k true is = omega arith
gate-at gate k false is = is

second-at : (gate : RateGate) (k : ℕ) (b : Bool) → nat_lt gate.second k ≡ b → gate.second ≤ k → (at-by gate k b).second ≡ k
second-at gate k true t least = refl
second-at gate k false f least = let most : k ≤ gate.second = ltb-false _ _ f in omega (arith, most, least)

kept : (gate : RateGate) (second : ℕ) (events : List Event) → IsGate gate → AreRising gate.second events → AtMost gate second (count second (passing gate events))
kept gate second [] is rising = none-of gate second is
kept gate second (Server d now ∷ es) is rising = kept gate second es is (rising-from _ gate.second es rising.0 rising.1)
kept gate second (Tick now ∷ es) is rising = kept gate second es is (rising-from _ gate.second es rising.0 rising.1)
kept gate second (Client d now ∷ es) is rising =
    let later = nat_lt gate.second (now / 1000) in
    let there = at gate now in
    let passes = is_open there in
    let is-there : IsGate there = gate-at gate (now / 1000) later is in
    let here : there.second ≡ now / 1000 = second-at gate (now / 1000) later refl rising.0 in
    let after : (counted there).second ≡ now / 1000 = second-counted there passes ∙ here in
    let rest = kept (counted there) second es (gate-counted there passes refl is-there) (rising-from (now / 1000) (counted there).second es (omega (arith, after)) rising.1) in
    before gate second (now / 1000) _ is rising.0 (at-second there second d now (passing (counted there) es) passes is-there here rest)

pub rates-kept : RatesAreKept
rates-kept rate second events rising =
    let most = kept (new_gate rate) second events (omega arith) rising in
    all most (second == 0) refl
  where
    all : AtMost (new_gate rate) second (count second (passing (new_gate rate) events)) → (b : Bool) → (second == 0) ≡ b
        → length (filter (is_in second) (passing (new_gate rate) events)) ≤ rate
    all most true t = let few : count second (passing (new_gate rate) events) + 0 ≤ rate = most.present (eqb-true _ _ t) in omega (arith, few)
    all most false f = most.future (above 0 second (omega arith) (eqb-false second 0 f))

-- ---- how many announcements go on

-- each announcement as a datagram at a gate
module _ {S : Type 0} (m : Machine S) where
  abbrev said : S → List Event → List Event
  said relay [] = []
  said relay (Client d now ∷ es) = said (m.on_client relay d now).state es
  said relay (Server d now ∷ es) =
      cond (is_told (m.on_server relay d now).out) (Client d now ∷ said (m.on_server relay d now).state es) (said (m.on_server relay d now).state es)
  said relay (Tick now ∷ es) = said (m.on_tick relay now).state es

  said-rising : (last : ℕ) (relay : S) (events : List Event) → AreRising last events → AreRising last (said relay events)
  said-rising last relay [] rising = tt
  said-rising last relay (Client d now ∷ es) rising =
      rising-from (now / 1000) last _ rising.0 (said-rising (now / 1000) (m.on_client relay d now).state es rising.1)
  said-rising last relay (Server d now ∷ es) rising =
      by (is_told (m.on_server relay d now).out) _ (said-rising (now / 1000) (m.on_server relay d now).state es rising.1)
    where
      by : (b : Bool) (rest : List Event) → AreRising (now / 1000) rest → AreRising last (cond b (Client d now ∷ rest) rest)
      by true rest h = (rising.0, h)
      by false rest h = rising-from (now / 1000) last rest rising.0 h
  said-rising last relay (Tick now ∷ es) rising =
      rising-from (now / 1000) last _ rising.0 (said-rising (now / 1000) (m.on_tick relay now).state es rising.1)

  abbrev count-said : ℕ → List Event → ℕ
  count-said second events = length (filter (is_said_in second) events)

  same-count : (second : ℕ) (told : RateGate) (relay : S) (events : List Event)
      → count-said second (going_on m told relay events) ≡ count second (passing told (said relay events))
  same-count second told relay [] = refl
  same-count second told relay (Client d now ∷ es) = same-count second told (m.on_client relay d now).state es
  same-count second told relay (Tick now ∷ es) = same-count second told (m.on_tick relay now).state es
  same-count second told relay (Server d now ∷ es) =
      by (is_told (m.on_server relay d now).out) (λ gate. same-count second gate (m.on_server relay d now).state es)
    where
      one : (c : Bool) (xs ys : List Event) → count-said second xs ≡ count second ys
          → length (cond c (Server d now ∷ filter (is_said_in second) xs) (filter (is_said_in second) xs))
          ≡ length (cond c (Client d now ∷ filter (is_in second) ys) (filter (is_in second) ys))
      one true xs ys h = ap suc h
      one false xs ys h = h

      passes : (b : Bool) (xs ys : List Event) → count-said second xs ≡ count second ys
          → count-said second (cond b (Server d now ∷ xs) xs) ≡ count second (cond b (Client d now ∷ ys) ys)
      passes true xs ys h = one (now / 1000 == second) xs ys h
      passes false xs ys h = h

      by : (b : Bool) → ((gate : RateGate) → count-said second (going_on m gate (m.on_server relay d now).state es)
          ≡ count second (passing gate (said (m.on_server relay d now).state es)))
          → count-said second (cond (b && may_pass told now) (Server d now ∷ going_on m (cond b (gate_after told now) told) (m.on_server relay d now).state es)
          (going_on m (cond b (gate_after told now) told) (m.on_server relay d now).state es))
          ≡ count second (passing told (cond b (Client d now ∷ said (m.on_server relay d now).state es) (said (m.on_server relay d now).state es)))
      by true h = passes (may_pass told now) _ _ (h (gate_after told now))
      by false h = h told

  pub telling-kept : TellingIsKept m
  telling-kept rate second relay events rising =
      subst (λ n. n ≤ rate) (sym (same-count second (new_gate rate) relay events))
      (rates-kept rate second (said relay events) (said-rising 0 relay events rising))
