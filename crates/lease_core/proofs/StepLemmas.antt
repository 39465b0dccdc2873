-- What a pick takes at most, by the ask that it is made for.
use Rattle.std.proofs.Common.{◌≡◌, ℕ, ◌+◌, ◌*◌, ◌≤◌, Bool, true, false, refl, sym, subst, arith}
use Rattle.std.specs.Prelude.{◌&&◌, ◌==◌, is_none, if◌then◌else◌}
use Rattle.std.proofs.lemmas.Bool.{and_parts, eqb-true}
use Rattle.pcp_base.specs.declared.addresses.Address.{Address}
use Rattle.pcp_base.specs.declared.asks.MapAsk.{MapAsk}
use Rattle.pcp_base.specs.declared.asks.Ask.{Ask}
use Rattle.pcp_base.specs.declared.asks.Ask.TheVariants.{Known, Announce, Map, Peer}
use Rattle.pcp_base.specs.Asks.{IsMapAsk}
use Rattle.pcp_base.specs.States.{State}
use Rattle.external_pool.specs.declared.asks.PickAsk.{PickAsk}
use Rattle.lease_store.specs.declared.terms.Terms.{Terms}
use Rattle.lease_store.specs.Picks.{is_plain}
use Rattle.lease_core.specs.DecideMap.{parity_asked, room_inside}
use Rattle.lease_core.specs.Chosen.{pick_ask}
use Rattle.lease_core.specs.Decide.{asks_plain, inside_asked, is_picked, looks_asked, picking, ports_asked}
use Rattle.lease_core.proofs.RoomLemmas.{room-one}

-- where one port of any parity is asked for, so the pool is asked
plain_asked : (terms : Terms) (s : State) (m : ℕ) (ask : MapAsk) → IsMapAsk ask → asks_plain (Map ask) ≡ true →
    is_plain (pick_ask terms s m ask) ≡ true
plain_asked terms s m ask formed plain =
    let both = and_parts (ports_asked (Map ask) == 1) (is_none (parity_asked ask)) plain in
    let one : 1 ≡ room_inside s m ask = room-one s m ask formed (eqb-true (ports_asked (Map ask)) 1 both.0) in
    subst (λ (n : ℕ). ((n == 1) && is_none (parity_asked ask)) ≡ true) one both.1

plain_least : (pick : Bool → ℕ) → pick true ≤ pick false → (asked given : Bool) → (asked ≡ true → given ≡ true) →
    pick given ≤ pick asked
plain_least pick grow true given plain =
    let same : pick true ≤ pick true = omega arith in
    subst (λ (b : Bool). pick b ≤ pick true) (sym (plain refl)) same
plain_least pick grow false true plain = grow
plain_least pick grow false false plain = omega arith

-- a pool that is asked at the moment reached takes no more than the ask lets it
pool-asked : (terms : Terms) (s : State) (n m : ℕ) (ask : MapAsk) (pick : ℕ → Bool → ℕ) → IsMapAsk ask →
    n ≡ m → pick m true ≤ pick m false →
    pick n (is_plain (pick_ask terms s m ask)) ≤ pick m (asks_plain (Map ask))
pool-asked terms s n m ask pick formed same grow =
    subst (λ (k : ℕ). pick k (is_plain (pick_ask terms s m ask)) ≤ pick m (asks_plain (Map ask))) (sym same)
    (plain_least (pick m) grow (asks_plain (Map ask)) (is_plain (pick_ask terms s m ask))
    (plain_asked terms s m ask formed))

step-sum : (inside p q room ports old before new : ℕ) → p ≤ q → room ≤ ports → before ≤ old + inside →
    new ≤ before + p + room → new ≤ old + (inside + q + ports)
step-sum inside p q room ports old before new most few first last = omega arith

-- the look-ups inside, and then the pool
pub pool-steps : (terms : Terms) (s : State) (n m : ℕ) (ask : MapAsk) (pick : ℕ → Bool → ℕ) (look : ℕ)
    (given : PickAsk) (old before new : ℕ) → IsMapAsk ask → n ≡ m → pick m true ≤ pick m false →
    given ≡ pick_ask terms s m ask → given.room ≤ ports_asked (Map ask) →
    before ≤ old + inside_asked (Map ask) * look → new ≤ before + pick n (is_plain given) + given.room →
    new ≤ old + (inside_asked (Map ask) * look + pick m (asks_plain (Map ask)) + ports_asked (Map ask))
pool-steps terms s n m ask pick look given old before new formed same grow asks few first last =
    let most : pick n (is_plain given) ≤ pick m (asks_plain (Map ask)) =
    subst (λ (a : PickAsk). pick n (is_plain a) ≤ pick m (asks_plain (Map ask))) (sym asks)
    (pool-asked terms s n m ask pick formed same grow) in
    step-sum (inside_asked (Map ask) * look) (pick n (is_plain given)) (pick m (asks_plain (Map ask))) given.room
    (ports_asked (Map ask)) old before new most few first last

sum-less : (inside p q ports : ℕ) → p ≤ q → inside + p + ports ≤ inside + q + ports
sum-less inside p q ports less = omega arith

picking-less : (look : ℕ) (p q : Address → Bool → ℕ) (ask : Ask) →
    ((who : Address) (plain : Bool) → p who plain ≤ q who plain) → picking look p ask ≤ picking look q ask
picking-less look p q (Known refusal) less = omega arith
picking-less look p q Announce less = omega arith
picking-less look p q (Map ask) less =
    sum-less (inside_asked (Map ask) * look) (p ask.endpoint.address (asks_plain (Map ask)))
    (q ask.endpoint.address (asks_plain (Map ask))) (ports_asked (Map ask))
    (less ask.endpoint.address (asks_plain (Map ask)))
picking-less look p q (Peer ask) less =
    let h : p ask.endpoint.address true ≤ q ask.endpoint.address true = less ask.endpoint.address true in omega arith

if-less : (b : Bool) (p q : ℕ) → p ≤ q → (if b then p else 0) ≤ (if b then q else 0)
if-less true p q less = less
if-less false p q less = omega arith

reach-sum : (looks p q old reach before new : ℕ) → before ≤ old + reach → new ≤ before + looks + p → p ≤ q →
    new ≤ old + reach + looks + q
reach-sum looks p q old reach before new first later more = omega arith

-- what is decided after `reach`, by what is known before it
pub reach-decides : (look : State → ℕ) (p q : Address → Bool → ℕ) (s t : State) (m : ℕ) (ask : Ask)
    (old reach before new : ℕ) → t ≡ s → ((who : Address) (plain : Bool) → p who plain ≤ q who plain) →
    before ≤ old + reach →
    new ≤ before + looks_asked ask * look t + (if is_picked t m ask then picking (look t) p ask else 0) →
    new ≤ old + reach + looks_asked ask * look s + (if is_picked s m ask then picking (look s) q ask else 0)
reach-decides look p q s t m ask old reach before new same less first later =
    let told : new ≤ before + looks_asked ask * look s
    + (if is_picked s m ask then picking (look s) p ask else 0) =
    subst (λ (x : State). new ≤ before + looks_asked ask * look x
    + (if is_picked x m ask then picking (look x) p ask else 0)) same later in
    let more : (if is_picked s m ask then picking (look s) p ask else 0)
    ≤ (if is_picked s m ask then picking (look s) q ask else 0) =
    if-less (is_picked s m ask) (picking (look s) p ask) (picking (look s) q ask) (picking-less (look s) p q ask less) in
    reach-sum (looks_asked ask * look s) (if is_picked s m ask then picking (look s) p ask else 0)
    (if is_picked s m ask then picking (look s) q ask else 0) old reach before new first told more
