-- What each fitting record keeps of a state.
use Rattle.std.specs.Prelude.{◌≡◌, refl, ℕ, ◌+◌, ◌<◌, ◌≤◌, nat_lt, not, Bool, true, false, List, [], ◌∷◌, map, filter, None, ⊤}
use Rattle.std.specs.List.{AllByRecursion}
use Rattle.std.proofs.Common.{ap, subst, arith}
use Rattle.std.proofs.lemmas.Bool.{cond_both, not-true, ltb-true}
use Rattle.pcp_base.specs.declared.leases.TheConstants.{REST_SECONDS}
use Rattle.pcp_base.specs.declared.leases.MapLease.{MapLease}
use Rattle.pcp_base.specs.declared.leases.PeerLease.{PeerLease}
use Rattle.pcp_base.specs.declared.leases.Owner.{Owner}
use Rattle.pcp_base.specs.declared.leases.End.{End}
use Rattle.pcp_base.specs.declared.records.Change.{Change}
use Rattle.pcp_base.specs.declared.records.Change.TheVariants.{Start, Map, Peer, DropMap, DropPeer, Lose, Mark, Rest, Renumber}
use Rattle.pcp_base.specs.declared.records.Record.{Record}
use Rattle.pcp_base.specs.Tables.{Table, live, dead, put, first_endpoint, is_map_of, is_peer_of}
use Rattle.pcp_base.specs.Owners.{map_owners, peer_owner, owners, OneOwner}
use Rattle.pcp_base.specs.States.{State, empty_state}
use Rattle.pcp_base.specs.Ends.{end_at, is_before, with_end, is_owned_by, is_recent}
use Rattle.pcp_base.specs.Records.{IsTermAt, IsEndAt, IsWellFormedChange}
use Rattle.pcp_base.specs.Apply.{apply, apply_first, apply_all, apply_all_first, state_of, state_of_first, table_1, table_2, left_1, left_2, ends_2, ends_3, ends_4, table_changed, deleted, ends_changed, empties, rebases, address_changed}
use Rattle.pcp_base.specs.Sound.{Sound, SoundState}
use Rattle.pcp_base.specs.Fits.{Fits, FitsFirst, AllFit, AllFitFirst, IsRested, IsOfFirst}
use Rattle.pcp_base.specs.Reached.{IsReached, IsReachedFirst}
use Rattle.pcp_base.proofs.Members.{IsIn, All-from_IsIn, All-filter, All-weaker, All-kept, All-both, All-append, IsIn-filter, EachTwo-filter}
use Rattle.pcp_base.proofs.TableLemmas.{Sound-empty, Sound-live, owners-fewer}
use Rattle.pcp_base.proofs.EndOrder.{InOrder, with_end-all, with_ends-all, with_end-ordered, with_ends-ordered}
use Rattle.pcp_base.proofs.EndLemmas.{unowned-fewer, unowned-both, owners-live, owners-dead, owners-deleted, owners-put_map, owners-put_peer, owner-ports, IsLeftBy, left-by_expiry, left-by_deletion, expired-by}

-- ---- the order of the ends

ends_changed-ordered : (change : Change) (ends : List End) → InOrder ends → InOrder (ends_changed change ends)
ends_changed-ordered Start ends h = tt
ends_changed-ordered Lose ends h = tt
ends_changed-ordered (Map l) ends h = EachTwo-filter (λ a b. is_before a b ≡ true) (λ e. not (is_owned_by (map_owners l) e)) ends h
ends_changed-ordered (Peer l) ends h = EachTwo-filter (λ a b. is_before a b ≡ true) (λ e. not (is_owned_by (peer_owner l ∷ []) e)) ends h
ends_changed-ordered (Rest e port end) ends h = with_end-ordered (record { endpoint = e; external = port; end = end }) ends h
ends_changed-ordered (DropMap e) ends h = h
ends_changed-ordered (DropPeer e remote port) ends h = h
ends_changed-ordered Mark ends h = h
ends_changed-ordered (Renumber a) ends h = h

-- the ends stay in their order, whatever the record
pub ordered-apply : (s : State) (r : Record) → InOrder s.ends → InOrder (apply s r).ends
ordered-apply s r h =
    EachTwo-filter (λ a b. is_before a b ≡ true) (is_recent r.moment) (ends_3 s r)
    (cond_both (empties r.change) (ends_2 s r) _ (λ ends. InOrder ends) (λ _. ends_changed-ordered r.change s.ends h)
    (λ _. with_ends-ordered (filter (λ e. not (is_owned_by (owners (table_2 s r)) e)) (left_2 s r)) (ends_changed r.change s.ends) (ends_changed-ordered r.change s.ends h)))

pub ordered-apply_first : (s : State) (r : Record) → InOrder s.ends → InOrder (apply_first s r).ends
ordered-apply_first s r h =
    EachTwo-filter (λ a b. is_before a b ≡ true) (is_recent r.moment) (ends_changed r.change s.ends) (ends_changed-ordered r.change s.ends h)

-- ---- no lease owns a port with an end

abbrev Unowned : Table → End → Type 0
Unowned t e = is_owned_by (owners t) e ≡ false

unowned-live : (t : Table) (m : ℕ) (e : End) → Unowned t e → Unowned (live t m) e
unowned-live t m e h = unowned-fewer e.endpoint.protocol e.external (owners t) (owners (live t m)) (owners-live t m) h

-- what a deletion leaves was there
abbrev pub IsDeletion : Change → Type 0
IsDeletion (DropMap e) = ⊤
IsDeletion (DropPeer e remote port) = ⊤
IsDeletion change = ⊥

pub owners-kept : (t : Table) (change : Change) → IsDeletion change → (o : Owner) → IsIn o (owners (table_changed change t)) → IsIn o (owners t)
owners-kept t (DropMap e) is o h =
    owners-fewer t.maps (filter (λ l. not (is_map_of e l)) t.maps) t.peers t.peers (λ l a. (IsIn-filter (λ l. not (is_map_of e l)) t.maps l a).0) (λ l a. a) o h
owners-kept t (DropPeer e remote port) is o h =
    owners-fewer t.maps t.maps t.peers (filter (λ l. not (is_peer_of e remote port l)) t.peers) (λ l a. a) (λ l a. (IsIn-filter (λ l. not (is_peer_of e remote port l)) t.peers l a).0) o h
owners-kept t Start is o h = absurd is
owners-kept t Lose is o h = absurd is
owners-kept t (Map l) is o h = absurd is
owners-kept t (Peer l) is o h = absurd is
owners-kept t Mark is o h = absurd is
owners-kept t (Rest e port end) is o h = absurd is
owners-kept t (Renumber a) is o h = absurd is

ends_changed-unowned : (s : State) (m : ℕ) (change : Change) → AllByRecursion (Unowned s.table) s.ends → IsRested s m change →
    AllByRecursion (Unowned (table_changed change (live s.table m))) (ends_changed change s.ends)
ends_changed-unowned s m Start h rested = tt
ends_changed-unowned s m Lose h rested = tt
ends_changed-unowned s m (Map l) h rested =
    All-weaker (λ e. (not (is_owned_by (map_owners l) e) ≡ true) × Unowned s.table e) (Unowned (table_changed (Map l) (live s.table m)))
    (λ e both. unowned-both e.endpoint.protocol e.external (owners (table_changed (Map l) (live s.table m))) (owners (live s.table m)) (map_owners l)
    (owners-put_map (live s.table m) (is_map_of (first_endpoint l)) l) (unowned-live s.table m e both.1) (not-true _ both.0))
    (filter (λ e. not (is_owned_by (map_owners l) e)) s.ends)
    (All-both (λ e. not (is_owned_by (map_owners l) e) ≡ true) (Unowned s.table) (filter (λ e. not (is_owned_by (map_owners l) e)) s.ends)
    (All-kept (λ e. not (is_owned_by (map_owners l) e)) s.ends) (All-filter (Unowned s.table) (λ e. not (is_owned_by (map_owners l) e)) s.ends h))
ends_changed-unowned s m (Peer l) h rested =
    All-weaker (λ e. (not (is_owned_by (peer_owner l ∷ []) e) ≡ true) × Unowned s.table e) (Unowned (table_changed (Peer l) (live s.table m)))
    (λ e both. unowned-both e.endpoint.protocol e.external (owners (table_changed (Peer l) (live s.table m))) (owners (live s.table m)) (peer_owner l ∷ [])
    (owners-put_peer (live s.table m) (is_peer_of l.endpoint l.remote l.remote_port) l) (unowned-live s.table m e both.1) (not-true _ both.0))
    (filter (λ e. not (is_owned_by (peer_owner l ∷ []) e)) s.ends)
    (All-both (λ e. not (is_owned_by (peer_owner l ∷ []) e) ≡ true) (Unowned s.table) (filter (λ e. not (is_owned_by (peer_owner l ∷ []) e)) s.ends)
    (All-kept (λ e. not (is_owned_by (peer_owner l ∷ []) e)) s.ends) (All-filter (Unowned s.table) (λ e. not (is_owned_by (peer_owner l ∷ []) e)) s.ends h))
ends_changed-unowned s m (Rest e port end) h rested =
    All-weaker (Unowned s.table) (Unowned (live s.table m)) (unowned-live s.table m) (with_end (record { endpoint = e; external = port; end = end }) s.ends)
    (with_end-all (Unowned s.table) (record { endpoint = e; external = port; end = end }) s.ends rested.unowned h)
ends_changed-unowned s m (DropMap e) h rested =
    All-weaker (Unowned s.table) (Unowned (table_changed (DropMap e) (live s.table m)))
    (λ x u. unowned-fewer x.endpoint.protocol x.external (owners s.table) (owners (table_changed (DropMap e) (live s.table m))) (λ o k. owners-live s.table m o (owners-kept (live s.table m) (DropMap e) tt o k)) u) s.ends h
ends_changed-unowned s m (DropPeer e remote port) h rested =
    All-weaker (Unowned s.table) (Unowned (table_changed (DropPeer e remote port) (live s.table m)))
    (λ x u. unowned-fewer x.endpoint.protocol x.external (owners s.table) (owners (table_changed (DropPeer e remote port) (live s.table m))) (λ o k. owners-live s.table m o (owners-kept (live s.table m) (DropPeer e remote port) tt o k)) u) s.ends h
ends_changed-unowned s m Mark h rested = All-weaker (Unowned s.table) (Unowned (live s.table m)) (unowned-live s.table m) s.ends h
ends_changed-unowned s m (Renumber a) h rested = All-weaker (Unowned s.table) (Unowned (live s.table m)) (unowned-live s.table m) s.ends h

-- after each record no lease owns a port with an end
pub unowned-apply : (s : State) (r : Record) → AllByRecursion (Unowned s.table) s.ends → IsRested s r.moment r.change → AllByRecursion (Unowned (apply s r).table) (apply s r).ends
unowned-apply s r h rested =
    All-filter (Unowned (table_2 s r)) (is_recent r.moment) (ends_3 s r)
    (cond_both (empties r.change) (ends_2 s r) _ (λ ends. AllByRecursion (Unowned (table_2 s r)) ends) (λ _. ends_changed-unowned s r.moment r.change h rested)
    (λ _. with_ends-all (Unowned (table_2 s r)) (filter (λ e. not (is_owned_by (owners (table_2 s r)) e)) (left_2 s r)) (ends_changed r.change s.ends)
    (All-weaker (λ e. not (is_owned_by (owners (table_2 s r)) e) ≡ true) (Unowned (table_2 s r)) (λ e yes. not-true _ yes)
    (filter (λ e. not (is_owned_by (owners (table_2 s r)) e)) (left_2 s r)) (All-kept (λ e. not (is_owned_by (owners (table_2 s r)) e)) (left_2 s r)))
    (ends_changed-unowned s r.moment r.change h rested)))

-- So only the table has to be judged: the state is sound after a record where its table is.
pub SoundState-apply : (s : State) (r : Record) → SoundState s → IsRested s r.moment r.change → Sound (apply s r).table → SoundState (apply s r)
SoundState-apply s r h rested table = record {
  table = table;
  ordered = ordered-apply s r h.ordered;
  unowned = unowned-apply s r h.unowned rested;
}

-- ---- ends come by the last moment, and are recent at it

-- it came by m, and is of ports
record HasCome (m : ℕ) (e : End) : Type 0 where
  internal : 0 < e.endpoint.port
  external : 0 < e.external
  ended : e.end ≤ m

HasCome-later : (m n : ℕ) (e : End) → m ≤ n → IsEndAt m e → HasCome n e
HasCome-later m n e le h = record { internal = h.internal; external = h.external; ended = omega (arith, h.ended) }

HasCome-left : (t : Table) (m : ℕ) (e : End) → Sound t → IsLeftBy t e → e.end ≤ m → HasCome m e
HasCome-left t m e sound left by =
    let ports = owner-ports t left.owner sound left.there in record {
      internal = subst (λ (x : End). 0 < x.endpoint.port) left.same ports.0;
      external = subst (λ (x : End). 0 < x.external) left.same ports.1;
      ended = by;
    }

left_2-come : (s : State) (r : Record) → Sound s.table → AllByRecursion (HasCome r.moment) (left_2 s r)
left_2-come s r sound =
    All-append (HasCome r.moment) (left_1 s r) (map (end_at r.moment) (owners (deleted r.change (table_1 s r))))
    (All-from_IsIn (HasCome r.moment) (left_1 s r) (λ e h.
    let left = left-by_expiry (dead s.table r.moment) e h in
    HasCome-left s.table r.moment e sound (record { owner = left.owner; there = owners-dead s.table r.moment left.owner left.there; same = left.same }) (expired-by s.table r.moment e h)))
    (All-from_IsIn (HasCome r.moment) (map (end_at r.moment) (owners (deleted r.change (table_1 s r)))) (λ e h.
    let left = left-by_deletion (deleted r.change (table_1 s r)) r.moment e h in
    HasCome-left s.table r.moment e sound
    (record { owner = left.0.owner; there = owners-live s.table r.moment left.0.owner (owners-deleted (table_1 s r) r.change left.0.owner left.0.there); same = left.0.same })
    (omega (arith, left.1))))

ends_changed-come : (m : ℕ) (change : Change) (ends : List End) → IsWellFormedChange m change → AllByRecursion (HasCome m) ends → AllByRecursion (HasCome m) (ends_changed change ends)
ends_changed-come m Start ends formed h = tt
ends_changed-come m Lose ends formed h = tt
ends_changed-come m (Map l) ends formed h = All-filter (HasCome m) (λ e. not (is_owned_by (map_owners l) e)) ends h
ends_changed-come m (Peer l) ends formed h = All-filter (HasCome m) (λ e. not (is_owned_by (peer_owner l ∷ []) e)) ends h
ends_changed-come m (Rest e port end) ends formed h =
    with_end-all (HasCome m) (record { endpoint = e; external = port; end = end }) ends
    (record { internal = formed.internal; external = formed.external; ended = formed.ended }) h
ends_changed-come m (DropMap e) ends formed h = h
ends_changed-come m (DropPeer e remote port) ends formed h = h
ends_changed-come m Mark ends formed h = h
ends_changed-come m (Renumber a) ends formed h = h

IsEndAt-kept : (m : ℕ) (ends : List End) → AllByRecursion (HasCome m) ends → AllByRecursion (IsEndAt m) (ends_4 m ends)
IsEndAt-kept m ends h =
    All-weaker (λ e. HasCome m e × (is_recent m e ≡ true)) (IsEndAt m)
    (λ e both. record { internal = both.0.internal; external = both.0.external; ended = both.0.ended; recent = ltb-true m (e.end + REST_SECONDS) both.1 })
    (ends_4 m ends)
    (All-both (HasCome m) (λ e. is_recent m e ≡ true) (ends_4 m ends) (All-filter (HasCome m) (is_recent m) ends h) (All-kept (is_recent m) ends))

-- after each record each end came by its moment, and less than 120 seconds before it
pub recent-apply : (s : State) (r : Record) → Sound s.table → AllByRecursion (IsEndAt s.last) s.ends → Fits s r → AllByRecursion (IsEndAt r.moment) (apply s r).ends
recent-apply s r sound h fits =
    let come = All-weaker (IsEndAt s.last) (HasCome r.moment) (λ e k. HasCome-later s.last r.moment e fits.later k) s.ends h in
    IsEndAt-kept r.moment (ends_3 s r)
    (cond_both (empties r.change) (ends_2 s r) _ (λ ends. AllByRecursion (HasCome r.moment) ends) (λ _. ends_changed-come r.moment r.change s.ends fits.formed.change come)
    (λ _. with_ends-all (HasCome r.moment) (filter (λ e. not (is_owned_by (owners (table_2 s r)) e)) (left_2 s r)) (ends_changed r.change s.ends)
    (All-filter (HasCome r.moment) (λ e. not (is_owned_by (owners (table_2 s r)) e)) (left_2 s r) (left_2-come s r sound))
    (ends_changed-come r.moment r.change s.ends fits.formed.change come)))

-- ---- leases are live at the last moment

put-all : {X : Type 0} (P : X → Type 0) (has_key : X → Bool) (new : X) (xs : List X) → P new → AllByRecursion P xs → AllByRecursion P (put has_key new xs)
put-all P has_key new [] h a = (h, tt)
put-all P has_key new (x ∷ xs) h a =
    cond_both (has_key x) (new ∷ xs) (x ∷ put has_key new xs) (λ ys. AllByRecursion P ys) (λ _. (h, a.1)) (λ _. (a.0, put-all P has_key new xs h a.1))

-- each lease was granted by m, and is live at it
pub record AreLiveAt (m : ℕ) (t : Table) : Type 0 where
  pub maps : AllByRecursion (λ l. IsTermAt m l.granted l.expiry) t.maps
  pub peers : AllByRecursion (λ l. IsTermAt m l.granted l.expiry) t.peers

still_live : (m n granted expiry : ℕ) → m ≤ n → IsTermAt m granted expiry → nat_lt n expiry ≡ true → IsTermAt n granted expiry
still_live m n granted expiry le h still = record { come = omega (arith, h.come); live = ltb-true n expiry still; near = h.near }

AreLiveAt-live : (t : Table) (m n : ℕ) → m ≤ n → AreLiveAt m t → AreLiveAt n (live t n)
AreLiveAt-live t m n le h = record {
  maps = All-weaker (λ (l : MapLease). IsTermAt m l.granted l.expiry × (nat_lt n l.expiry ≡ true)) (λ l. IsTermAt n l.granted l.expiry)
      (λ l both. still_live m n l.granted l.expiry le both.0 both.1) (live t n).maps
      (All-both (λ l. IsTermAt m l.granted l.expiry) (λ l. nat_lt n l.expiry ≡ true) (live t n).maps
      (All-filter (λ l. IsTermAt m l.granted l.expiry) (λ l. nat_lt n l.expiry) t.maps h.maps) (All-kept (λ l. nat_lt n l.expiry) t.maps));
  peers = All-weaker (λ (l : PeerLease). IsTermAt m l.granted l.expiry × (nat_lt n l.expiry ≡ true)) (λ l. IsTermAt n l.granted l.expiry)
      (λ l both. still_live m n l.granted l.expiry le both.0 both.1) (live t n).peers
      (All-both (λ l. IsTermAt m l.granted l.expiry) (λ l. nat_lt n l.expiry ≡ true) (live t n).peers
      (All-filter (λ l. IsTermAt m l.granted l.expiry) (λ l. nat_lt n l.expiry) t.peers h.peers) (All-kept (λ l. nat_lt n l.expiry) t.peers));
}

AreLiveAt-changed : (t : Table) (m : ℕ) (change : Change) → IsWellFormedChange m change → AreLiveAt m t → AreLiveAt m (table_changed change t)
AreLiveAt-changed t m Start formed h = record { maps = tt; peers = tt }
AreLiveAt-changed t m Lose formed h = record { maps = tt; peers = tt }
AreLiveAt-changed t m (Map l) formed h = record {
  maps = put-all (λ k. IsTermAt m k.granted k.expiry) (is_map_of (first_endpoint l)) l t.maps formed.1 h.maps;
  peers = h.peers;
}
AreLiveAt-changed t m (Peer l) formed h = record {
  maps = h.maps;
  peers = put-all (λ k. IsTermAt m k.granted k.expiry) (is_peer_of l.endpoint l.remote l.remote_port) l t.peers formed.1 h.peers;
}
AreLiveAt-changed t m (DropMap e) formed h = record {
  maps = All-filter (λ k. IsTermAt m k.granted k.expiry) (λ l. not (is_map_of e l)) t.maps h.maps;
  peers = h.peers;
}
AreLiveAt-changed t m (DropPeer e remote port) formed h = record {
  maps = h.maps;
  peers = All-filter (λ k. IsTermAt m k.granted k.expiry) (λ l. not (is_peer_of e remote port l)) t.peers h.peers;
}
AreLiveAt-changed t m Mark formed h = h
AreLiveAt-changed t m (Rest e port end) formed h = h
AreLiveAt-changed t m (Renumber a) formed h = h

-- ---- all of it

base-apply : (s : State) (r : Record) → s.base ≤ s.last → s.last ≤ r.moment → (apply s r).base ≤ r.moment
base-apply s r h later = cond_both (rebases r.change s.address) r.moment s.base (λ n. n ≤ r.moment) (λ _. omega arith) (λ _. omega arith)

-- what holds of each state that fitting records make, holds after one more
pub IsReached-apply : (s : State) (r : Record) → IsReached s → Fits s r → IsReached (apply s r)
IsReached-apply s r h fits =
    let leases = AreLiveAt-changed (live s.table r.moment) r.moment r.change fits.formed.change
    (AreLiveAt-live s.table s.last r.moment fits.later (record { maps = h.maps; peers = h.peers })) in record {
      sound = fits.sound;
      maps = leases.maps;
      peers = leases.peers;
      ends = recent-apply s r h.sound.table h.ends fits;
      base = base-apply s r h.base fits.later;
      last = fits.formed.moment;
    }

SoundState-empty : SoundState empty_state
SoundState-empty = record { table = Sound-empty; ordered = tt; unowned = tt }

pub IsReached-empty : IsReached empty_state
IsReached-empty = record { sound = SoundState-empty; maps = tt; peers = tt; ends = tt; base = omega arith; last = omega arith }

pub IsReached-apply_all : (s : State) (rs : List Record) → IsReached s → AllFit s rs → IsReached (apply_all s rs)
IsReached-apply_all s [] h fits = h
IsReached-apply_all s (r ∷ rs) h fits = IsReached-apply_all (apply s r) rs (IsReached-apply s r h fits.0) fits.1

pub IsReached-state_of : (rs : List Record) → AllFit empty_state rs → IsReached (state_of rs)
IsReached-state_of rs fits = IsReached-apply_all empty_state rs IsReached-empty fits

-- at each moment each port has one owner
pub OneOwner-at : (s : State) (m : ℕ) → SoundState s → OneOwner (owners (live s.table m))
OneOwner-at s m h = (Sound-live s.table m h.table).one_owner

-- ---- the first format

ends_changed-first : (change : Change) (ends : List End) → IsOfFirst change → ends ≡ [] → ends_changed change ends ≡ []
ends_changed-first Start ends of h = refl
ends_changed-first Lose ends of h = refl
ends_changed-first (Map l) ends of h = ap (λ xs. filter (λ e. not (is_owned_by (map_owners l) e)) xs) h
ends_changed-first (Peer l) ends of h = ap (λ xs. filter (λ e. not (is_owned_by (peer_owner l ∷ []) e)) xs) h
ends_changed-first (DropMap e) ends of h = h
ends_changed-first (DropPeer e remote port) ends of h = h
ends_changed-first Mark ends of h = h
ends_changed-first (Rest e port end) ends of h = absurd of
ends_changed-first (Renumber a) ends of h = absurd of

address_changed-first : (s : State) (change : Change) → IsOfFirst change → s.address ≡ None → address_changed change s.address ≡ None
address_changed-first s Start of h = refl
address_changed-first s Lose of h = h
address_changed-first s (Map l) of h = h
address_changed-first s (Peer l) of h = h
address_changed-first s (DropMap e) of h = h
address_changed-first s (DropPeer e remote port) of h = h
address_changed-first s Mark of h = h
address_changed-first s (Rest e port end) of h = absurd of
address_changed-first s (Renumber a) of h = absurd of

-- records of the first format make no end
pub endless-apply_first : (s : State) (r : Record) → IsOfFirst r.change → s.ends ≡ [] → (apply_first s r).ends ≡ []
endless-apply_first s r of h = ap (λ ends. filter (is_recent r.moment) ends) (ends_changed-first r.change s.ends of h)

pub IsReachedFirst-apply : (s : State) (r : Record) → IsReachedFirst s → FitsFirst s r → IsReachedFirst (apply_first s r)
IsReachedFirst-apply s r h fits =
    let endless = endless-apply_first s r fits.of_first h.endless in
    let leases = AreLiveAt-changed (live s.table r.moment) r.moment r.change fits.formed.change
    (AreLiveAt-live s.table s.last r.moment fits.later (record { maps = h.reached.maps; peers = h.reached.peers })) in record {
      reached = record {
        sound = record {
          table = fits.sound;
          ordered = rw endless tt;
          unowned = rw endless tt;
        };
        maps = leases.maps;
        peers = leases.peers;
        ends = rw endless tt;
        base = base-apply s r h.reached.base fits.later;
        last = fits.formed.moment;
      };
      endless = endless;
      unnamed = address_changed-first s r.change fits.of_first h.unnamed;
    }

pub IsReachedFirst-apply_all : (s : State) (rs : List Record) → IsReachedFirst s → AllFitFirst s rs → IsReachedFirst (apply_all_first s rs)
IsReachedFirst-apply_all s [] h fits = h
IsReachedFirst-apply_all s (r ∷ rs) h fits = IsReachedFirst-apply_all (apply_first s r) rs (IsReachedFirst-apply s r h fits.0) fits.1

pub IsReachedFirst-state_of : (rs : List Record) → AllFitFirst empty_state rs → IsReachedFirst (state_of_first rs)
IsReachedFirst-state_of rs fits = IsReachedFirst-apply_all empty_state rs (record { reached = IsReached-empty; endless = refl; unnamed = refl }) fits
