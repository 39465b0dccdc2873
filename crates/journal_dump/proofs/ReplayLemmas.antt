-- What a replay holds that has read a journal.
use Rattle.std.proofs.Common.{◌≡◌, ℕ, true, inl, inr, List, refl, ap}
use Rattle.std.proofs.lemmas.Bool.{lt-ltb}
use Rattle.std.specs.Prelude.{nat_lt}
use Rattle.pcp_base.specs.declared.leases.MapLease.{MapLease}
use Rattle.pcp_base.specs.declared.leases.PeerLease.{PeerLease}
use Rattle.pcp_base.specs.Reached.{IsReached, IsReachedFirst}
use Rattle.pcp_base.specs.Records.{IsTermAt}
use Rattle.pcp_base.specs.States.{State}
use Rattle.pcp_base.specs.Tables.{live}
use Rattle.pcp_base.proofs.Members.{All-weaker, filter-all}
use Rattle.lease_journal.specs.Openings.{ViewMeans, ViewReplays}
use Rattle.lease_journal.specs.declared.errors.Found.{Found}
use Rattle.lease_journal.specs.declared.errors.Found.TheVariants.{Recovered, Blank, Damaged}
use Rattle.journal_dump.specs.Readings.{IsLookedUntil, IsReadingOf, reading_of}

-- each lease is live at the last moment
pub live_maps : (s : State) → IsReached s → (live s.table s.last).maps ≡ s.table.maps
live_maps s is = filter-all (λ (l : MapLease). nat_lt s.last l.expiry) s.table.maps (All-weaker (λ (l : MapLease). IsTermAt s.last l.granted l.expiry) (λ (l : MapLease). nat_lt s.last l.expiry ≡ true) (λ l k. lt-ltb s.last l.expiry k.live) s.table.maps is.maps)

pub live_peers : (s : State) → IsReached s → (live s.table s.last).peers ≡ s.table.peers
live_peers s is = filter-all (λ (l : PeerLease). nat_lt s.last l.expiry) s.table.peers (All-weaker (λ (l : PeerLease). IsTermAt s.last l.granted l.expiry) (λ (l : PeerLease). nat_lt s.last l.expiry ≡ true) (λ l k. lt-ltb s.last l.expiry k.live) s.table.peers is.peers)

pub view_reached : {S : Type 0} (state : S → State) (reached : S → ℕ) (replaying replaying_first : S → Type 0)
    → ((core : S) → replaying core → IsReached (state core)) → ((core : S) → replaying_first core → IsReachedFirst (state core)) → (found : Found) (core : S)
    → ViewReplays (λ (x : S). replaying x × (reached x ≡ (state x).last)) (λ (x : S). replaying_first x × (reached x ≡ (state x).last)) core found → IsReached (state core)
view_reached state reached replaying replaying_first made made_first Recovered core (inl is) = (made_first core is.0).reached
view_reached state reached replaying replaying_first made made_first Recovered core (inr is) = made core is.0
view_reached state reached replaying replaying_first made made_first Blank core is = made core is.1.0
view_reached state reached replaying replaying_first made made_first Damaged core is = made core is.1.0

pub view_reads : (a b : List ℕ) (s : State) (found : Found) → ViewMeans a b s found → IsReadingOf a b (reading_of found s)
view_reads a b s Recovered is = is
view_reads a b s Blank is = is.0
view_reads a b s Damaged is = is.0

pub view_looks : (a b : List ℕ) (s : State) (found : Found) → ViewMeans a b s found → IsLookedUntil a b found s.last
view_looks a b s Recovered is = (s, is, refl)
view_looks a b s Blank is = (is.0, ap (λ (t : State). t.last) is.1)
view_looks a b s Damaged is = (is.0, ap (λ (t : State). t.last) is.1)
