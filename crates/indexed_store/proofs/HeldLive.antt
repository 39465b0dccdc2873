-- Leases that have ended hold no port longer than those that are live.
use Rattle.std.proofs.Common.{◌≡◌, ℕ, ◌<◌, ◌≤◌, ◌^◌, nat_lt, Bool, true, false, List, [], ◌∷◌, filter, refl, sym, ap, subst, inl, inr, arith}
use Rattle.std.specs.List.{AllByRecursion}
use Rattle.std.proofs.lemmas.Bool.{ltb-true, ltb-false}
use Rattle.pcp_base.specs.declared.leases.Protocol.{Protocol}
use Rattle.pcp_base.specs.declared.leases.MapLease.{MapLease}
use Rattle.pcp_base.specs.declared.leases.PeerLease.{PeerLease}
use Rattle.pcp_base.specs.declared.leases.End.{End}
use Rattle.pcp_base.specs.Tables.{Table, live}
use Rattle.pcp_base.specs.Ends.{ends_at_expiry, is_end_of}
use Rattle.pcp_base.specs.States.{State}
use Rattle.pcp_base.specs.Records.{IsTermAt}
use Rattle.pcp_base.specs.Reached.{IsReached}
use Rattle.pcp_base.specs.Sound.{Sound}
use Rattle.pcp_base.proofs.Members.{IsIn, All-IsIn, All-from_IsIn, IsIn-filter, filter-IsIn}
use Rattle.leased_ports.specs.Recorded.{latest, held_until}
use Rattle.leased_ports.proofs.ExpiryLemmas.{later-live, live-any}
use Rattle.leased_ports.proofs.RecordLemmas.{latest-is, latest-least}
use Rattle.indexed_store.specs.Tabled.{AreTabled}
use Rattle.indexed_store.specs.Holding.{AreNearAt}

-- ---- until when

latest-from : (m : ℕ) (es : List End) → m ≤ latest m es
latest-from m [] = omega arith
latest-from m (e ∷ es) = let rest = latest-from m es in omega (arith, rest)

pub held-from : (m : ℕ) (t : Table) (protocol : Protocol) (port : ℕ) → m ≤ held_until m t protocol port
held-from m t protocol port = latest-from m (filter (is_end_of protocol port) (ends_at_expiry t))

-- only what comes later counts
latest-within : (m : ℕ) (es fs : List End) → ((e : End) → IsIn e es → m < e.end → IsIn e fs) → latest m es ≤ latest m fs
latest-within m es fs within = elim (latest-is m es) [
  | inl same ↦ (let from = latest-from m fs in omega (arith, same, from))
  | inr last ↦ step last.0 last.1 last.2 (nat_lt m last.0.end) refl
]
  where
    step : (e : End) → IsIn e es → e.end ≡ latest m es → (b : Bool) → nat_lt m e.end ≡ b → latest m es ≤ latest m fs
    step e there same true is = let least = latest-least m fs e (within e there (ltb-true m e.end is)) in omega (arith, same, least)
    step e there same false is = let le = ltb-false m e.end is in let from = latest-from m fs in omega (arith, same, le, from)

pub held-live : (m : ℕ) (t : Table) (protocol : Protocol) (port : ℕ) → held_until m t protocol port ≡ held_until m (live t m) protocol port
held-live m t protocol port =
    let all = filter (is_end_of protocol port) (ends_at_expiry t) in
    let alive = filter (is_end_of protocol port) (ends_at_expiry (live t m)) in
    let up = latest-within m all alive (λ e there late. let k = IsIn-filter (is_end_of protocol port) (ends_at_expiry t) e there in
    filter-IsIn (is_end_of protocol port) (ends_at_expiry (live t m)) e (later-live t m e late k.0) k.1) in
    let down = latest-within m alive all (λ e there late. let k = IsIn-filter (is_end_of protocol port) (ends_at_expiry (live t m)) e there in
    filter-IsIn (is_end_of protocol port) (ends_at_expiry t) e (live-any t m e k.0) k.1) in
    omega (arith, up, down)

-- ---- leases of which those that are live are a state's expire before the year 70,000

pub near_if : {L : Type 0} (expiry : L → ℕ) (m : ℕ) (ls : List L) → m < 2 ^ 41 → ((l : L) → IsIn l (filter (λ x. nat_lt m (expiry x)) ls) → expiry l < 2 ^ 41)
    → AllByRecursion (λ l. expiry l < 2 ^ 41) ls
near_if {L} expiry m ls small near = All-from_IsIn (λ l. expiry l < 2 ^ 41) ls (λ l there. step l there (nat_lt m (expiry l)) refl)
  where
    step : (l : L) → IsIn l ls → (b : Bool) → nat_lt m (expiry l) ≡ b → expiry l < 2 ^ 41
    step l there true is = near l (filter-IsIn (λ x. nat_lt m (expiry x)) ls l there is)
    step l there false is = let le = ltb-false m (expiry l) is in omega (arith, le, small)

pub near-at : (m : ℕ) (t : Table) (s : State) → AreTabled t → live t m ≡ s.table → IsReached s → m < 2 ^ 40 → AreNearAt m t
near-at m t s tabled same reached small = record {
  tabled = tabled;
  sound = subst Sound (sym same) reached.sound.table;
  maps = near_if (λ (l : MapLease). l.expiry) m t.maps (omega (arith, small)) (λ l there.
      (All-IsIn (λ (x : MapLease). IsTermAt s.last x.granted x.expiry) s.table.maps l reached.maps (subst (λ (u : Table). IsIn l u.maps) same there)).near);
  peers = near_if (λ (l : PeerLease). l.expiry) m t.peers (omega (arith, small)) (λ l there.
      (All-IsIn (λ (x : PeerLease). IsTermAt s.last x.granted x.expiry) s.table.peers l reached.peers (subst (λ (u : Table). IsIn l u.peers) same there)).near);
}
