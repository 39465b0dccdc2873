-- A snapshot of a reached state stands for it.
use Rattle.std.specs.Prelude.{◌≡◌, refl, ℕ, ◌+◌, ◌<◌, ◌^◌, nat_lt, not, Bool, true, false, List, [], ◌∷◌, ◌++◌, length, map, flat_map, filter, count_by, find, Option, Some, None, IfSome, if◌then◌else◌}
use Rattle.std.specs.List.{AllByRecursion}
use Rattle.std.proofs.Common.{inl, inr, sym, ap, ◌∙◌, subst, arith, append_assoc, length-append}
use Rattle.std.proofs.lemmas.Bool.{lt-ltb, and_parts, not_from_false, not_from_true, false_from_ne_true, eqb-true}
use Rattle.std.proofs.lemmas.List.{append-nil}
use Rattle.std.proofs.lemmas.List.Sums.{sum_by-append}
use Rattle.pcp_base.specs.declared.addresses.Address.{Address}
use Rattle.pcp_base.specs.declared.leases.Protocol.{Protocol}
use Rattle.pcp_base.specs.declared.leases.Endpoint.{Endpoint}
use Rattle.pcp_base.specs.declared.leases.MapLease.{MapLease}
use Rattle.pcp_base.specs.declared.leases.PeerLease.{PeerLease}
use Rattle.pcp_base.specs.declared.leases.Owner.{Owner}
use Rattle.pcp_base.specs.declared.leases.End.{End}
use Rattle.pcp_base.specs.declared.records.Change.TheVariants.{Start, Mark}
use Rattle.pcp_base.specs.declared.records.Record.{Record}
use Rattle.pcp_base.specs.Tables.{Table, live, dead, put, first_endpoint, is_map_of, is_peer_of, covers, names, EachTwo, IsMapLease, IsPeerLease, AreApart, HaveOtherKeys}
use Rattle.pcp_base.specs.Owners.{map_owners, peer_owner, owners, is_owned}
use Rattle.pcp_base.specs.States.{State, empty_state}
use Rattle.pcp_base.specs.Ends.{is_before, with_end, is_owned_by, with_left, ends_by, is_recent, rests_for, is_end_of, ends_at_expiry}
use Rattle.pcp_base.specs.Records.{IsTermAt, IsEndAt}
use Rattle.pcp_base.specs.Apply.{apply, apply_all, state_of}
use Rattle.pcp_base.specs.Sound.{Sound, SoundState}
use Rattle.pcp_base.specs.Fits.{RestForNoOther, Fits, AllFit}
use Rattle.pcp_base.specs.Reached.{IsReached}
use Rattle.pcp_base.specs.Snapshots.{address_records, end_record, map_record, peer_record, snapshot}
use Rattle.pcp_base.proofs.Members.{IsIn, All-IsIn, All-from_IsIn, All-weaker, none-any, filter-all, IsIn-left, IsIn-right, flat_map-IsIn, map-IsIn}
use Rattle.pcp_base.proofs.TableLemmas.{owners-fewer, OneOwner-fewer, OnePort-fewer, Sound-empty, covers-first, key-same}
use Rattle.pcp_base.proofs.EndOrder.{SamePort-refl, InOrder, before-trans, before-other}
use Rattle.pcp_base.proofs.EndLemmas.{some-owned, unowned-fewer}
use Rattle.pcp_base.proofs.RestLaws.{resting-parts, rests_for-some}
use Rattle.pcp_base.proofs.StageLaws.{unlike}
use Rattle.pcp_base.proofs.RoomLaws.{put-last, none_given}

-- ---- fronts of lists

All-front : {X : Type 0} (P : X → Type 0) (xs ys : List X) → AllByRecursion P (xs ++ ys) → AllByRecursion P xs
All-front P [] ys h = tt
All-front P (x ∷ xs) ys h = (h.0, All-front P xs ys h.1)

All-back : {X : Type 0} (P : X → Type 0) (xs ys : List X) → AllByRecursion P (xs ++ ys) → AllByRecursion P ys
All-back P [] ys h = h
All-back P (x ∷ xs) ys h = All-back P xs ys h.1

EachTwo-front : {X : Type 0} (R : X → X → Type 0) (xs ys : List X) → EachTwo R (xs ++ ys) → EachTwo R xs
EachTwo-front R [] ys h = tt
EachTwo-front R (x ∷ xs) ys h = (All-front (R x) xs ys h.0, EachTwo-front R xs ys h.1)

-- each of the front is related to the next
EachTwo-next : {X : Type 0} (R : X → X → Type 0) (xs : List X) (x : X) (ys : List X) → EachTwo R (xs ++ x ∷ ys) → AllByRecursion (λ y. R y x) xs
EachTwo-next R [] x ys h = tt
EachTwo-next R (y ∷ xs) x ys h = ((All-back (R y) xs (x ∷ ys) h.0).0, EachTwo-next R xs x ys h.1)

filter-none : {X : Type 0} (p : X → Bool) (xs : List X) → AllByRecursion (λ x. p x ≡ false) xs → filter p xs ≡ []
filter-none p [] h = refl
filter-none p (x ∷ xs) h = rw h.0 (filter-none p xs h.1)

none-find : {X : Type 0} (p : X → Bool) (xs : List X) → AllByRecursion (λ x. p x ≡ false) xs → find p xs ≡ None
none-find p [] h = refl
none-find p (x ∷ xs) h = rw h.0 (none-find p xs h.1)

-- one more item of a list
shift : {X : Type 0} (xs : List X) (x : X) (ys : List X) → (xs ++ x ∷ []) ++ ys ≡ xs ++ x ∷ ys
shift xs x ys = append_assoc xs (x ∷ []) ys

-- the records one after the other, as steps between states
record Reaches (s t : State) (rs : List Record) : Type 0 where
  fits : AllFit s rs
  state : apply_all s rs ≡ t

reaches_nothing : (s : State) → Reaches s s []
reaches_nothing s = record { fits = tt; state = refl }

reaches_next : (s t : State) (r : Record) (rs : List Record) → Fits s r → Reaches (apply s r) t rs → Reaches s t (r ∷ rs)
reaches_next s t r rs fits h = record { fits = (fits, h.fits); state = h.state }

reaches_then : (s t u : State) (rs qs : List Record) → Reaches s t rs → Reaches t u qs → Reaches s u (rs ++ qs)
reaches_then s t u [] qs h k = record { fits = subst (λ x. AllFit x qs) (sym h.state) k.fits; state = ap (λ x. apply_all x qs) h.state ∙ k.state }
reaches_then s t u (r ∷ rs) qs h k =
    let rest = reaches_then (apply s r) t u rs qs (record { fits = h.fits.1; state = h.state }) k in record {
      fits = (h.fits.0, rest.fits);
      state = rest.state;
    }

-- ---- tables that are fronts of a sound one

abbrev table : List MapLease → List PeerLease → Table
table maps peers = record { maps = maps; peers = peers }

count-append : {X : Type 0} (p : X → Bool) (xs ys : List X) → count_by p (xs ++ ys) ≡ count_by p xs + count_by p ys
count-append p xs ys = sum_by-append (λ x. if p x then 1 else 0) xs ys

Sound-front : (t : Table) (maps more : List MapLease) (peers others : List PeerLease) → Sound t → t.maps ≡ maps ++ more → t.peers ≡ peers ++ others →
    Sound (record { maps = maps; peers = peers })
Sound-front t maps more peers others h ms ps =
    let within : (o : Owner) → IsIn o (owners (record { maps = maps; peers = peers })) → IsIn o (owners t) =
    λ o k. owners-fewer t.maps maps t.peers peers
    (λ l a. subst (λ (xs : List MapLease). IsIn l xs) (sym ms) (IsIn-left maps more l a))
    (λ l a. subst (λ (xs : List PeerLease). IsIn l xs) (sym ps) (IsIn-left peers others l a)) o k in
    let maps_long : length t.maps ≡ length maps + length more = ap length ms ∙ length-append maps more in
    let peers_long : length t.peers ≡ length peers + length others = ap length ps ∙ length-append peers others in record {
      maps = All-front IsMapLease maps more (subst (λ (xs : List MapLease). AllByRecursion IsMapLease xs) ms h.maps);
      peers = All-front IsPeerLease peers others (subst (λ (xs : List PeerLease). AllByRecursion IsPeerLease xs) ps h.peers);
      apart = EachTwo-front AreApart maps more (subst (λ (xs : List MapLease). EachTwo AreApart xs) ms h.apart);
      different = EachTwo-front HaveOtherKeys peers others (subst (λ (xs : List PeerLease). EachTwo HaveOtherKeys xs) ps h.different);
      one_owner = OneOwner-fewer (owners t) (owners (record { maps = maps; peers = peers })) within h.one_owner;
      one_port = OnePort-fewer (owners t) (owners (record { maps = maps; peers = peers })) within h.one_port;
      few = omega (arith, h.few, maps_long, peers_long);
      few_peers = λ e.
          let counted : count_by (λ l. names l e) t.peers ≡ count_by (λ l. names l e) peers + count_by (λ l. names l e) others =
          ap (λ (xs : List PeerLease). count_by (λ l. names l e) xs) ps ∙ count-append (λ l. names l e) peers others in
          omega (arith, h.few_peers e, counted);
    }

-- ---- the states between

-- the state after the records up to here
abbrev mid : State → List MapLease → List PeerLease → List End → State
mid s maps peers ends = record { table = record { maps = maps; peers = peers }; ends = ends; base = s.base; address = s.address; last = s.last; started = true }

SoundState-mid : (s : State) (maps more : List MapLease) (peers others : List PeerLease) (ends later : List End) → SoundState s →
    s.table.maps ≡ maps ++ more → s.table.peers ≡ peers ++ others → s.ends ≡ ends ++ later → SoundState (mid s maps peers ends)
SoundState-mid s maps more peers others ends later h ms ps es =
    let within : (o : Owner) → IsIn o (owners (record { maps = maps; peers = peers })) → IsIn o (owners s.table) =
    λ o k. owners-fewer s.table.maps maps s.table.peers peers
    (λ l a. subst (λ (xs : List MapLease). IsIn l xs) (sym ms) (IsIn-left maps more l a))
    (λ l a. subst (λ (xs : List PeerLease). IsIn l xs) (sym ps) (IsIn-left peers others l a)) o k in record {
      table = Sound-front s.table maps more peers others h.table ms ps;
      ordered = EachTwo-front (λ a b. is_before a b ≡ true) ends later (subst (λ (xs : List End). InOrder xs) es h.ordered);
      unowned = All-weaker (λ e. is_owned_by (owners s.table) e ≡ false) (λ e. is_owned_by (owners (record { maps = maps; peers = peers })) e ≡ false)
          (λ e u. unowned-fewer e.endpoint.protocol e.external (owners s.table) (owners (record { maps = maps; peers = peers })) within u) ends
          (All-front (λ e. is_owned_by (owners s.table) e ≡ false) ends later (subst (λ (xs : List End). AllByRecursion (λ e. is_owned_by (owners s.table) e ≡ false) xs) es h.unowned));
    }

-- ---- the ends

with_end-last : (e : End) (xs : List End) → AllByRecursion (λ y. is_before y e ≡ true) xs → with_end e xs ≡ xs ++ e ∷ []
with_end-last e [] h = refl
with_end-last e (x ∷ xs) h =
    let not_first : is_before e x ≡ false = false_from_ne_true (is_before e x) (λ first. before-other x x (before-trans x e x h.0 first) (SamePort-refl x)) in
    rw (not_first, h.0) (ap (λ ys. x ∷ ys) (with_end-last e xs h.1))

recent_all : (m : ℕ) (ends : List End) → AllByRecursion (IsEndAt m) ends → filter (is_recent m) ends ≡ ends
recent_all m ends h = filter-all (is_recent m) ends (All-weaker (IsEndAt m) (λ e. is_recent m e ≡ true) (λ e k. lt-ltb m _ k.recent) ends h)

end_reaches : (s : State) → IsReached s → (done : List End) (e : End) (rest : List End) → s.ends ≡ done ++ e ∷ rest →
    Fits (mid s [] [] done) (end_record s.last e) × (apply (mid s [] [] done) (end_record s.last e) ≡ mid s [] [] (done ++ e ∷ []))
end_reaches s h done e rest es =
    let ordered = subst (λ (xs : List End). InOrder xs) es h.sound.ordered in
    let earlier = EachTwo-next (λ a b. is_before a b ≡ true) done e rest ordered in
    let recent = subst (λ (xs : List End). AllByRecursion (IsEndAt s.last) xs) es h.ends in
    let here = (All-back (IsEndAt s.last) done (e ∷ rest) recent).0 in
    let front : s.ends ≡ (done ++ e ∷ []) ++ rest = es ∙ sym (shift done e rest) in
    let kept = All-front (IsEndAt s.last) (done ++ e ∷ []) rest (subst (λ (xs : List End). AllByRecursion (IsEndAt s.last) xs) front h.ends) in
    let ends : filter (is_recent s.last) (with_end e done) ≡ done ++ e ∷ [] = ap (filter (is_recent s.last)) (with_end-last e done earlier) ∙ recent_all s.last (done ++ e ∷ []) kept in
    let after : apply (mid s [] [] done) (end_record s.last e) ≡ mid s [] [] (done ++ e ∷ []) = ap (λ (xs : List End). mid s [] [] xs) ends in (
      record {
        formed = record { moment = h.last; change = here };
        first = refl;
        later = omega arith;
        allowed = tt;
        rested = record {
          unowned = refl;
          endless = none-any (is_end_of e.endpoint.protocol e.external) done (All-weaker (λ y. is_before y e ≡ true) (λ y. is_end_of e.endpoint.protocol e.external y ≡ false)
              (λ y b. false_from_ne_true (is_end_of e.endpoint.protocol e.external y) (λ same.
              let parts = and_parts _ _ same in
              before-other y e b (record { protocol = eqb-true _ _ parts.0; external = eqb-true _ _ parts.1 }))) done earlier);
        };
        sound = subst SoundState (sym after) (SoundState-mid s [] s.table.maps [] s.table.peers (done ++ e ∷ []) rest h.sound refl refl front);
      },
      after,
    )

ends_reach : (s : State) → IsReached s → (done rest : List End) → s.ends ≡ done ++ rest → Reaches (mid s [] [] done) (mid s [] [] s.ends) (map (end_record s.last) rest)
ends_reach s h done [] es = record { fits = tt; state = ap (λ (xs : List End). mid s [] [] xs) (sym (append-nil done) ∙ sym es) }
ends_reach s h done (e ∷ rest) es =
    let step = end_reaches s h done e rest es in
    let behind = ends_reach s h (done ++ e ∷ []) rest (es ∙ sym (shift done e rest)) in
    reaches_next (mid s [] [] done) (mid s [] [] s.ends) (end_record s.last e) (map (end_record s.last) rest) step.0
    (subst (λ (x : State). Reaches x (mid s [] [] s.ends) (map (end_record s.last) rest)) (sym step.1) behind)

-- ---- the leases

-- all leases of the table are live at m
record AreLive (m : ℕ) (t : Table) : Type 0 where
  maps : AllByRecursion (λ l. nat_lt m l.expiry ≡ true) t.maps
  peers : AllByRecursion (λ l. nat_lt m l.expiry ≡ true) t.peers

table-same : (ms ns : List MapLease) (cs ds : List PeerLease) → ms ≡ ns → cs ≡ ds → table ms cs ≡ table ns ds
table-same ms ns cs ds e f = ap (λ (x : List MapLease). table x cs) e ∙ ap (λ (x : List PeerLease). table ns x) f

live_all : (m : ℕ) (t : Table) → AreLive m t → live t m ≡ t
live_all m t h = table-same (live t m).maps t.maps (live t m).peers t.peers (filter-all (λ l. nat_lt m l.expiry) t.maps h.maps) (filter-all (λ l. nat_lt m l.expiry) t.peers h.peers)

none_dead : (m : ℕ) (t : Table) → AreLive m t → ends_at_expiry (dead t m) ≡ []
none_dead m t h =
    ap ends_at_expiry (table-same (dead t m).maps [] (dead t m).peers []
    (filter-none (λ l. not (nat_lt m l.expiry)) t.maps (All-weaker (λ (l : MapLease). nat_lt m l.expiry ≡ true) (λ l. not (nat_lt m l.expiry) ≡ false) (λ l k. not_from_true (nat_lt m l.expiry) k) t.maps h.maps))
    (filter-none (λ l. not (nat_lt m l.expiry)) t.peers (All-weaker (λ (l : PeerLease). nat_lt m l.expiry ≡ true) (λ l. not (nat_lt m l.expiry) ≡ false) (λ l k. not_from_true (nat_lt m l.expiry) k) t.peers h.peers)))

AreLive-mid : (s : State) (maps more : List MapLease) (peers others : List PeerLease) → IsReached s → s.table.maps ≡ maps ++ more → s.table.peers ≡ peers ++ others → AreLive s.last (table maps peers)
AreLive-mid s maps more peers others h ms ps = record {
  maps = All-weaker (λ (l : MapLease). IsTermAt s.last l.granted l.expiry) (λ l. nat_lt s.last l.expiry ≡ true) (λ l k. lt-ltb s.last l.expiry k.live) maps
      (All-front (λ l. IsTermAt s.last l.granted l.expiry) maps more (subst (λ (xs : List MapLease). AllByRecursion (λ l. IsTermAt s.last l.granted l.expiry) xs) ms h.maps));
  peers = All-weaker (λ (l : PeerLease). IsTermAt s.last l.granted l.expiry) (λ l. nat_lt s.last l.expiry ≡ true) (λ l k. lt-ltb s.last l.expiry k.live) peers
      (All-front (λ l. IsTermAt s.last l.granted l.expiry) peers others (subst (λ (xs : List PeerLease). AllByRecursion (λ l. IsTermAt s.last l.granted l.expiry) xs) ps h.peers));
}

-- the ends stay where leases come that were of the state
ends_stay : (s : State) (t now : Table) (os : List Owner) → IsReached s → AreLive s.last t → ((o : Owner) → IsIn o os → IsIn o (owners s.table)) →
    filter (is_recent s.last) (with_left now (ends_at_expiry (dead t s.last) ++ []) (filter (λ e. not (is_owned_by os e)) s.ends)) ≡ s.ends
ends_stay s t now os h alive within =
    ap (λ (left : List End). filter (is_recent s.last) (with_left now (left ++ []) (filter (λ e. not (is_owned_by os e)) s.ends))) (none_dead s.last t alive)
    ∙ ap (filter (is_recent s.last)) (filter-all (λ e. not (is_owned_by os e)) s.ends
    (All-weaker (λ e. is_owned_by (owners s.table) e ≡ false) (λ e. not (is_owned_by os e) ≡ true)
    (λ e u. not_from_false (is_owned_by os e) (unowned-fewer e.endpoint.protocol e.external (owners s.table) os within u)) s.ends h.sound.unowned))
    ∙ recent_all s.last s.ends h.ends

-- no port of these owners rests
none_rests : (s : State) (t : Table) (o : Owner) (e : Endpoint) → IsReached s → AreLive s.last t → IsIn o (owners s.table) → e.protocol ≡ o.protocol →
    rests_for (record (mid s [] [] s.ends) { table = t }) s.last o.external e ≡ false
none_rests s t o e h alive there same =
    let at : State = record (mid s [] [] s.ends) { table = t } in
    let members : ends_by at s.last ≡ s.ends = ap (λ (left : List End). with_left (live t s.last) left s.ends) (none_dead s.last t alive) in
    false_from_ne_true (rests_for at s.last o.external e) (λ rests.
    let x = rests_for-some at s.last o.external e rests in
    let there_x = subst (λ (xs : List End). IsIn x.0 xs) members (resting-parts at s.last x.0 x.1).0 in
    let free = All-IsIn (λ e. is_owned_by (owners s.table) e ≡ false) s.ends x.0 h.sound.unowned there_x in
    let protocol : o.protocol ≡ x.0.endpoint.protocol = sym same ∙ sym (ap (λ (y : Endpoint). y.protocol) x.2) in
    let taken : is_owned_by (owners s.table) x.0 ≡ true =
    subst (λ (p : Protocol). is_owned p x.0.external (owners s.table) ≡ true) protocol
    (subst (λ (n : ℕ). is_owned o.protocol n (owners s.table) ≡ true) (sym x.3) (some-owned (owners s.table) o there)) in
    unlike (is_owned_by (owners s.table) x.0) taken free)

abbrev state_with : State → Table → List End → State
state_with s t ends = record { table = t; ends = ends; base = s.base; address = s.address; last = s.last; started = true }

state-same : (s : State) (t u : Table) (ends more : List End) → t ≡ u → ends ≡ more → state_with s t ends ≡ state_with s u more
state-same s t u ends more e f = ap (λ (x : Table). state_with s x ends) e ∙ ap (λ (x : List End). state_with s u x) f

map_reaches : (s : State) → IsReached s → (done : List MapLease) (l : MapLease) (rest : List MapLease) → s.table.maps ≡ done ++ l ∷ rest →
    Fits (mid s done [] s.ends) (map_record s.last l) × (apply (mid s done [] s.ends) (map_record s.last l) ≡ mid s (done ++ l ∷ []) [] s.ends)
map_reaches s h done l rest ms =
    let key = is_map_of (first_endpoint l) in
    let front : s.table.maps ≡ (done ++ l ∷ []) ++ rest = ms ∙ sym (shift done l rest) in
    let alive = AreLive-mid s done (l ∷ rest) [] s.table.peers h ms refl in
    let formed_all = subst (λ (xs : List MapLease). AllByRecursion IsMapLease xs) ms h.sound.table.maps in
    let formed = (All-back IsMapLease done (l ∷ rest) formed_all).0 in
    let apart = EachTwo-next AreApart done l rest (subst (λ (xs : List MapLease). EachTwo AreApart xs) ms h.sound.table.apart) in
    let others : AllByRecursion (λ x. key x ≡ false) done = All-from_IsIn (λ x. key x ≡ false) done (λ x there. false_from_ne_true (key x) (λ same.
    let first = key-same x l same in
    let is = All-IsIn IsMapLease done x (All-front IsMapLease done (l ∷ rest) formed_all) there in
    All-IsIn (λ y. AreApart y l) done x apart there (first_endpoint l)
    (subst (λ (e : Endpoint). covers x e ≡ true) first (covers-first x is.ports.some)) (covers-first l formed.ports.some))) in
    let within : (o : Owner) → IsIn o (map_owners l) → IsIn o (owners s.table) = λ o k.
    IsIn-left (flat_map map_owners s.table.maps) (map peer_owner s.table.peers) o (flat_map-IsIn map_owners s.table.maps l o
    (subst (λ (xs : List MapLease). IsIn l xs) (sym ms) (IsIn-right done (l ∷ rest) l (inl refl))) k) in
    let lived : (live (table done []) s.last).maps ≡ done = filter-all (λ x. nat_lt s.last x.expiry) done alive.maps in
    let missing : find key (live (table done []) s.last).maps ≡ None = ap (find key) lived ∙ none-find key done others in
    let placed : table (put key l (live (table done []) s.last).maps) [] ≡ table (done ++ l ∷ []) [] =
    ap (λ (xs : List MapLease). table xs []) (ap (put key l) lived ∙ put-last key l done others) in
    let term = (All-back (λ x. IsTermAt s.last x.granted x.expiry) done (l ∷ rest) (subst (λ (xs : List MapLease). AllByRecursion (λ x. IsTermAt s.last x.granted x.expiry) xs) ms h.maps)).0 in
    let after : apply (mid s done [] s.ends) (map_record s.last l) ≡ mid s (done ++ l ∷ []) [] s.ends =
    state-same s (table (put key l (live (table done []) s.last).maps) []) (table (done ++ l ∷ []) []) _ s.ends placed
    (ends_stay s (table done []) (table (put key l (live (table done []) s.last).maps) []) (map_owners l) h alive within) in (
      record {
        formed = record { moment = h.last; change = (formed, term) };
        first = refl;
        later = omega arith;
        allowed = subst (λ o. IfSome o (λ old. l ≡ record old { expiry = l.expiry; filters = l.filters })) (sym missing) tt;
        rested = none_given (find key (live (table done []) s.last).maps) _ (λ _. All-from_IsIn _ (map_owners l) (λ o k e same rests.
            absurd (unlike (rests_for (mid s done [] s.ends) s.last o.external e) rests (none_rests s (table done []) o e h alive (within o k) same))));
        sound = subst SoundState (sym after) (SoundState-mid s (done ++ l ∷ []) rest [] s.table.peers s.ends [] h.sound front refl (sym (append-nil s.ends)));
      },
      after,
    )

maps_reach : (s : State) → IsReached s → (done rest : List MapLease) → s.table.maps ≡ done ++ rest → Reaches (mid s done [] s.ends) (mid s s.table.maps [] s.ends) (map (map_record s.last) rest)
maps_reach s h done [] ms = record { fits = tt; state = ap (λ (xs : List MapLease). mid s xs [] s.ends) (sym (append-nil done) ∙ sym ms) }
maps_reach s h done (l ∷ rest) ms =
    let step = map_reaches s h done l rest ms in
    let behind = maps_reach s h (done ++ l ∷ []) rest (ms ∙ sym (shift done l rest)) in
    reaches_next (mid s done [] s.ends) (mid s s.table.maps [] s.ends) (map_record s.last l) (map (map_record s.last) rest) step.0
    (subst (λ (x : State). Reaches x (mid s s.table.maps [] s.ends) (map (map_record s.last) rest)) (sym step.1) behind)

peer_reaches : (s : State) → IsReached s → (done : List PeerLease) (l : PeerLease) (rest : List PeerLease) → s.table.peers ≡ done ++ l ∷ rest →
    Fits (mid s s.table.maps done s.ends) (peer_record s.last l) × (apply (mid s s.table.maps done s.ends) (peer_record s.last l) ≡ mid s s.table.maps (done ++ l ∷ []) s.ends)
peer_reaches s h done l rest ps =
    let key = is_peer_of l.endpoint l.remote l.remote_port in
    let maps = s.table.maps in
    let whole : maps ≡ maps ++ [] = sym (append-nil maps) in
    let front : s.table.peers ≡ (done ++ l ∷ []) ++ rest = ps ∙ sym (shift done l rest) in
    let alive = AreLive-mid s maps [] done (l ∷ rest) h whole ps in
    let formed = (All-back IsPeerLease done (l ∷ rest) (subst (λ (xs : List PeerLease). AllByRecursion IsPeerLease xs) ps h.sound.table.peers)).0 in
    let others = EachTwo-next HaveOtherKeys done l rest (subst (λ (xs : List PeerLease). EachTwo HaveOtherKeys xs) ps h.sound.table.different) in
    let within : (o : Owner) → IsIn o (peer_owner l ∷ []) → IsIn o (owners s.table) = λ o k.
    IsIn-right (flat_map map_owners maps) (map peer_owner s.table.peers) o (one_of o k) in
    let lived : (live (table maps done) s.last).peers ≡ done = filter-all (λ x. nat_lt s.last x.expiry) done alive.peers in
    let missing : find key (live (table maps done) s.last).peers ≡ None = ap (find key) lived ∙ none-find key done others in
    let placed : table (live (table maps done) s.last).maps (put key l (live (table maps done) s.last).peers) ≡ table maps (done ++ l ∷ []) =
    table-same (live (table maps done) s.last).maps maps (put key l (live (table maps done) s.last).peers) (done ++ l ∷ [])
    (filter-all (λ x. nat_lt s.last x.expiry) maps alive.maps) (ap (put key l) lived ∙ put-last key l done others) in
    let term = (All-back (λ x. IsTermAt s.last x.granted x.expiry) done (l ∷ rest) (subst (λ (xs : List PeerLease). AllByRecursion (λ x. IsTermAt s.last x.granted x.expiry) xs) ps h.peers)).0 in
    let after : apply (mid s maps done s.ends) (peer_record s.last l) ≡ mid s maps (done ++ l ∷ []) s.ends =
    state-same s (table (live (table maps done) s.last).maps (put key l (live (table maps done) s.last).peers)) (table maps (done ++ l ∷ [])) _ s.ends placed
    (ends_stay s (table maps done) (table (live (table maps done) s.last).maps (put key l (live (table maps done) s.last).peers)) (peer_owner l ∷ []) h alive within) in (
      record {
        formed = record { moment = h.last; change = (formed, term) };
        first = refl;
        later = omega arith;
        allowed = subst (λ o. IfSome o (λ old. l ≡ record old { expiry = l.expiry })) (sym missing) tt;
        rested = none_given (find key (live (table maps done) s.last).peers) (RestForNoOther (mid s maps done s.ends) s.last (peer_owner l ∷ []))
            (λ _. All-from_IsIn (λ o. (e : Endpoint) → e.protocol ≡ o.protocol → rests_for (mid s maps done s.ends) s.last o.external e ≡ true → e ≡ o.endpoint) (peer_owner l ∷ [])
            (λ o k e same rests. absurd (unlike (rests_for (mid s maps done s.ends) s.last o.external e) rests (none_rests s (table maps done) o e h alive (within o k) same))));
        sound = subst SoundState (sym after) (SoundState-mid s maps [] (done ++ l ∷ []) rest s.ends [] h.sound whole front (sym (append-nil s.ends)));
      },
      after,
    )
  where
    one_of : (o : Owner) → IsIn o (peer_owner l ∷ []) → IsIn o (map peer_owner s.table.peers)
    one_of o (inl e) = subst (λ (x : Owner). IsIn x (map peer_owner s.table.peers)) e (map-IsIn peer_owner s.table.peers l (subst (λ (xs : List PeerLease). IsIn l xs) (sym ps) (IsIn-right done (l ∷ rest) l (inl refl))))
    one_of o (inr none) = absurd none

peers_reach : (s : State) → IsReached s → (done rest : List PeerLease) → s.table.peers ≡ done ++ rest → Reaches (mid s s.table.maps done s.ends) (mid s s.table.maps s.table.peers s.ends) (map (peer_record s.last) rest)
peers_reach s h done [] ps = record { fits = tt; state = ap (λ (xs : List PeerLease). mid s s.table.maps xs s.ends) (sym (append-nil done) ∙ sym ps) }
peers_reach s h done (l ∷ rest) ps =
    let step = peer_reaches s h done l rest ps in
    let behind = peers_reach s h (done ++ l ∷ []) rest (ps ∙ sym (shift done l rest)) in
    reaches_next (mid s s.table.maps done s.ends) (mid s s.table.maps s.table.peers s.ends) (peer_record s.last l) (map (peer_record s.last) rest) step.0
    (subst (λ (x : State). Reaches x (mid s s.table.maps s.table.peers s.ends) (map (peer_record s.last) rest)) (sym step.1) behind)

-- ---- the head

-- a state without leases and ends
abbrev bare : ℕ → ℕ → Option Address → State
bare base last address = record { table = table [] []; ends = []; base = base; address = address; last = last; started = true }

bare_sound : (base last : ℕ) (address : Option Address) → SoundState (bare base last address)
bare_sound base last address = record { table = Sound-empty; ordered = tt; unowned = tt }

start_fits : (m : ℕ) → m < 2 ^ 40 → Fits empty_state (record { moment = m; change = Start })
start_fits m low = record { formed = record { moment = low; change = tt }; first = refl; later = omega arith; allowed = tt; rested = tt; sound = bare_sound m m None }

address_reaches : (s : State) (address : Option Address) → s.base < 2 ^ 40 → Reaches (bare s.base s.base None) (bare s.base s.base address) (address_records s.base address)
address_reaches s None low = record { fits = tt; state = refl }
address_reaches s (Some a) low = record {
  fits = (record { formed = record { moment = low; change = tt }; first = refl; later = omega arith; allowed = tt; rested = tt; sound = bare_sound s.base s.base (Some a) }, tt);
  state = refl;
}

-- A snapshot's records fit, and they stand for the state.
pub snapshot-stands : (s : State) → IsReached s → s.started ≡ true → AllFit empty_state (snapshot s) × (state_of (snapshot s) ≡ s)
snapshot-stands s h started =
    let low : s.base < 2 ^ 40 = omega (arith, h.base, h.last) in
    let leases = reaches_then (mid s [] [] s.ends) (mid s s.table.maps [] s.ends) (mid s s.table.maps s.table.peers s.ends) (map (map_record s.last) s.table.maps) (map (peer_record s.last) s.table.peers)
    (maps_reach s h [] s.table.maps refl) (peers_reach s h [] s.table.peers refl) in
    let ends = reaches_then (mid s [] [] []) (mid s [] [] s.ends) (mid s s.table.maps s.table.peers s.ends) (map (end_record s.last) s.ends) (map (map_record s.last) s.table.maps ++ map (peer_record s.last) s.table.peers)
    (ends_reach s h [] s.ends refl) leases in
    let marked = reaches_next (bare s.base s.base s.address) (mid s s.table.maps s.table.peers s.ends) (record { moment = s.last; change = Mark }) _
    (record { formed = record { moment = h.last; change = tt }; first = refl; later = h.base; allowed = tt; rested = tt; sound = bare_sound s.base s.last s.address }) ends in
    let named = reaches_then (bare s.base s.base None) (bare s.base s.base s.address) (mid s s.table.maps s.table.peers s.ends) (address_records s.base s.address) _ (address_reaches s s.address low) marked in
    let all = reaches_next empty_state (mid s s.table.maps s.table.peers s.ends) (record { moment = s.base; change = Start }) _ (start_fits s.base low) named in
    (all.fits, all.state ∙ ap (λ (b : Bool). record s { started = b }) (sym started))
