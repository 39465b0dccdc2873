-- The last ends of a state without ends, by its leases.
use Rattle.std.proofs.Common.{◌≡◌, ℕ, ◌+◌, ◌-◌, ◌<◌, ◌≤◌, ◌^◌, ◌||◌, nat_lt, not, Bool, true, false, cond, List, [], filter, find, take, length, get_or, Contains, Option, Some, None, IfSome, refl, sym, ap, ◌∙◌, subst, inl, inr, arith}
use Rattle.std.specs.List.{AllByRecursion}
use Rattle.std.proofs.lemmas.Bool.{cond-true, cond-false, lt-ltb, le-ltb, false_from_ne_true, and_from, eq-eqb}
use Rattle.pcp_base.specs.declared.leases.Protocol.{Protocol}
use Rattle.pcp_base.specs.declared.leases.Endpoint.{Endpoint}
use Rattle.pcp_base.specs.declared.leases.MapLease.{MapLease}
use Rattle.pcp_base.specs.declared.leases.PeerLease.{PeerLease}
use Rattle.pcp_base.specs.declared.leases.Owner.{Owner}
use Rattle.pcp_base.specs.declared.leases.End.{End}
use Rattle.pcp_base.specs.declared.records.Change.{Change}
use Rattle.pcp_base.specs.declared.records.Change.TheVariants.{Start, Map, Peer, DropMap, DropPeer, Lose, Mark, Rest, Renumber}
use Rattle.pcp_base.specs.declared.records.Record.{Record}
use Rattle.pcp_base.specs.Protocols.{protocol_number}
use Rattle.pcp_base.specs.Tables.{Table, live, dead}
use Rattle.pcp_base.specs.Owners.{owners, is_owned, is_port}
use Rattle.pcp_base.specs.States.{State}
use Rattle.pcp_base.specs.Ends.{end_at, ends_at_expiry, is_end_of, is_recent}
use Rattle.pcp_base.specs.Sound.{Sound}
use Rattle.pcp_base.specs.Records.{IsTermAt}
use Rattle.pcp_base.specs.Reached.{IsReached, IsReachedFirst}
use Rattle.pcp_base.specs.Fits.{IsAllowed}
use Rattle.pcp_base.specs.Apply.{apply, apply_first, empties, table_changed}
use Rattle.pcp_base.proofs.Members.{IsIn, All-IsIn, All-filter, All-weaker, All-from_IsIn, IsIn-filter, filter-IsIn, IsIn-from_Contains, Contains-from_IsIn, find-none}
use Rattle.pcp_base.proofs.Same.{same_protocol-Decides}
use Rattle.pcp_base.proofs.EndLemmas.{left-by_expiry, left-owned, owner-protocol, owners-live, unowned-fewer}
use Rattle.pcp_base.proofs.RestLaws.{end-same, protocol_number-same}
use Rattle.pcp_base.proofs.StageLaws.{unlike}
use Rattle.pcp_base.proofs.TableLemmas.{Sound-live}
use Rattle.mapping_table.specs.Laws.{SoundTablesHaveSoundMaps}
use Rattle.peer_table.specs.Laws.{SoundTablesHaveSoundPeers}
use Rattle.leased_ports.specs.LastEnds.{last_end}
use Rattle.leased_ports.specs.Leased.{Leased, IsPortsOf, end_of, while_recent}
use Rattle.leased_ports.specs.Laws.{PortsTellLastEnds}
use Rattle.leased_ports.specs.Recorded.{held_until, latest, touched}
use Rattle.leased_ports.proofs.ExpiryLemmas.{later-live, live-any, live-later, sooner-dead}
use Rattle.leased_ports.proofs.LastEndLemmas.{last-from, last-some, later_or_not, latest-last, owned-last}
use Rattle.leased_ports.proofs.RecordLemmas.{Apart, ends-late, latest-is, latest-least, leaves-kept, map-from, map-kept, of-port, peer-from, peer-kept, port-of, touched-protocol}
use Rattle.indexed_store.specs.declared.owning.OwnerRun.{OwnerRun}
use Rattle.indexed_store.specs.declared.holding.Unowned.TheVariants.{IsFree}
use Rattle.indexed_store.specs.Tabled.{AreTabled}
use Rattle.indexed_store.specs.Runs.{IsOwnerRun, has_port, have_port, owner_along, owner_in, owners_if, owners_among, touched_run}
use Rattle.indexed_store.specs.Leaving.{AreOfDead, IsOfLeases}
use Rattle.indexed_store.specs.Holding.{AreEndsOf, AreHeld, AreLiveAt, AreNearAt, Holds, HoldsIf, IsAgreed, IsHeldEnd, end_held}
use Rattle.indexed_store.proofs.RunLemmas.{any_more, found_owner, owned_runs, place_in}
use Rattle.indexed_store.proofs.EvenLemmas.{even_gone}
use Rattle.indexed_store.proofs.TouchLemmas.{map_agreed, peer_agreed, touched_owners}
use Rattle.indexed_store.proofs.HeldLive.{held-live, near_if}

-- ---- a port that leases hold

module _ (m : ℕ) (t : Table) (all : AreLiveAt m t) (protocol : Protocol) (port : ℕ) where
  abbrev es : List End
  es = filter (is_end_of protocol port) (ends_at_expiry t)

  among : (f : End) → Contains (ends_at_expiry t) f → is_end_of protocol port f ≡ true → IsIn f es
  among f there own = filter-IsIn (is_end_of protocol port) (ends_at_expiry t) f (IsIn-from_Contains (ends_at_expiry t) f there) own

  held-none : latest m es ≡ m → IsHeldEnd t protocol port None
  held-none none = record {
    there = tt;
    own = tt;
    latest = tt;
    none = λ f there. false_from_ne_true (is_end_of protocol port f) (λ own.
        let up = latest-least m es f (among f there own) in
        let coming = all f there in
        absurd (omega (arith, none, up, coming)));
  }

  held-some : (e : End) → IsIn e es → e.end ≡ latest m es → IsHeldEnd t protocol port (Some e)
  held-some e there last =
      let k = IsIn-filter (is_end_of protocol port) (ends_at_expiry t) e there in
      record {
        there = Contains-from_IsIn (ends_at_expiry t) e k.0;
        own = k.1;
        latest = λ f c own. (let up = latest-least m es f (among f c own) in omega (arith, up, last));
        none = tt;
      }

  -- by an owner of its endpoint it is held as long as leases hold it, and free where none does
  pub held-end : (o : Owner) → o.external ≡ port → ((x : Owner) → IsIn x (owners t) → x.protocol ≡ protocol → x.external ≡ port → x.endpoint ≡ o.endpoint)
      → IsHeldEnd t protocol port (end_held IsFree m (held_until m t protocol port) o)
  held-end o at agreed = elim (latest-is m es) [
    | inl none ↦ subst (IsHeldEnd t protocol port)
        (sym (cond-false (nat_lt m (latest m es)) (Some (end_at (latest m es) o)) None (le-ltb m (latest m es) (omega (arith, none))))) (held-none none)
    | inr e ↦ (let k = IsIn-filter (is_end_of protocol port) (ends_at_expiry t) e.0 e.1 in
        let p = port-of protocol port e.0 k.1 in
        let by = left-by_expiry t e.0 k.0 in
        let of : by.owner.protocol ≡ protocol = owner-protocol t by.owner by.there ∙ ap (λ (x : End). x.endpoint.protocol) by.same ∙ p.0 in
        let number : by.owner.external ≡ port = ap (λ (x : End). x.external) by.same ∙ p.1 in
        let endpoint : e.0.endpoint ≡ o.endpoint = sym (ap (λ (x : End). x.endpoint) by.same) ∙ agreed by.owner by.there of number in
        let same : e.0 ≡ end_at (latest m es) o = end-same e.0 (end_at (latest m es) o) endpoint (p.1 ∙ sym at) e.2 in
        let coming = all e.0 (Contains-from_IsIn (ends_at_expiry t) e.0 k.0) in
        let last = e.2 in
        subst (IsHeldEnd t protocol port)
        (ap Some same ∙ sym (cond-true (nat_lt m (latest m es)) (Some (end_at (latest m es) o)) None (lt-ltb m (latest m es) (omega (arith, coming, last)))))
        (held-some e.0 e.1 e.2))
  ]

-- a port of which leases of both tables leave the same ends
pub held-same : (t u : Table) (protocol : Protocol) (port : ℕ) → ((e : End) → is_end_of protocol port e ≡ true → IsIn e (ends_at_expiry t) → IsIn e (ends_at_expiry u))
    → ((e : End) → is_end_of protocol port e ≡ true → IsIn e (ends_at_expiry u) → IsIn e (ends_at_expiry t)) → (r : Option End) → IsHeldEnd t protocol port r → IsHeldEnd u protocol port r
held-same t u protocol port forth back None h = record {
  there = tt;
  own = tt;
  latest = tt;
  none = λ f there. false_from_ne_true (is_end_of protocol port f) (λ own. absurd (unlike (is_end_of protocol port f) own
      (h.none f (Contains-from_IsIn (ends_at_expiry t) f (back f own (IsIn-from_Contains (ends_at_expiry u) f there))))));
}
held-same t u protocol port forth back (Some e) h = record {
  there = Contains-from_IsIn (ends_at_expiry u) e (forth e h.own (IsIn-from_Contains (ends_at_expiry t) e h.there));
  own = h.own;
  latest = λ f there own. h.latest f (Contains-from_IsIn (ends_at_expiry t) f (back f own (IsIn-from_Contains (ends_at_expiry u) f there))) own;
  none = tt;
}

pub live-live : (t : Table) (m : ℕ) → AreLiveAt m (live t m)
live-live t m e there = live-later t m e (IsIn-from_Contains (ends_at_expiry (live t m)) e there)

-- what leases leave that are live is recent
pub held-recent : (m : ℕ) (t : Table) → AreLiveAt m t → (protocol : Protocol) (port : ℕ) (o : Option End) → IsHeldEnd t protocol port o → IsHeldEnd t protocol port (while_recent m o)
held-recent m t all protocol port None h = h
held-recent m t all protocol port (Some e) h =
    let coming = all e h.there in
    subst (IsHeldEnd t protocol port) (sym (cond-true (is_recent m e) (Some e) None (lt-ltb m (e.end + 120) (omega (arith, coming))))) h

-- leases that have ended hold no port longer
pub holds-live : (m : ℕ) (t : Table) (run : Option OwnerRun) (v w : Leased) → HoldsIf IsFree m t run v w → HoldsIf IsFree m (live t m) run v w
holds-live m t None v w h = h
holds-live m t (Some r) v w h = λ protocol port. h protocol port
    ∙ ap (λ (n : ℕ). cond (has_port protocol port r) (end_held IsFree m n (owner_in r port)) (end_of v protocol port)) (held-live m t protocol port)

-- ---- a state without ends

module _ (s : State) (first : IsReachedFirst s) where
  none_old : (e : End) → IsIn e s.ends → ⊥
  none_old e there = subst (λ (es : List End). IsIn e es) first.endless there

  -- a port that no lease owned which has ended
  module _ (m : ℕ) (protocol : Protocol) (port : ℕ) (free : is_owned protocol port (owners (dead s.table m)) ≡ false) where
    abbrev t : Table
    t = live s.table m

    kept-step : (r : Option End) → last_end s m protocol port ≡ r → IsHeldEnd t protocol port r
    kept-step None h = record {
      there = tt;
      own = tt;
      latest = tt;
      none = λ f there. false_from_ne_true (is_end_of protocol port f) (λ own.
          let p = port-of protocol port f own in
          let by = left-by_expiry t f (IsIn-from_Contains (ends_at_expiry t) f there) in
          let of : by.owner.protocol ≡ protocol = owner-protocol t by.owner by.there ∙ ap (λ (x : End). x.endpoint.protocol) by.same ∙ p.0 in
          let number : by.owner.external ≡ port = ap (λ (x : End). x.external) by.same ∙ p.1 in
          let last = owned-last s first.reached.sound m by.owner by.there in
          let never : None ≡ Some last.0 = sym h ∙ sym (ap (λ (q : Protocol). last_end s m q port) of) ∙ sym (ap (λ (n : ℕ). last_end s m by.owner.protocol n) number) ∙ last.1 in
          absurd (cc));
    }
    kept-step (Some e) h =
        let k = last-some s first.reached.sound m protocol port e h in
        elim (last-from s first.reached.sound m protocol port e h) [
          | inl old ↦ absurd (none_old e old)
          | inr left ↦ elim (later_or_not m e.end) [
            | inl coming ↦ record {
              there = Contains-from_IsIn (ends_at_expiry t) e (later-live s.table m e coming left.0);
              own = of-port protocol port e k.2 k.3;
              latest = λ f there own.
                  let p = port-of protocol port f own in
                  left.1 f (live-any s.table m f (IsIn-from_Contains (ends_at_expiry t) f there)) (record { protocol = ap protocol_number (p.0 ∙ sym k.2); external = p.1 ∙ sym k.3 });
              none = tt;
            }
            | inr came ↦ (let owned = left-owned (dead s.table m) e (left-by_expiry (dead s.table m) e (sooner-dead s.table m e came left.0)) in
                absurd (unlike (is_owned protocol port (owners (dead s.table m)))
                (ap (λ (q : Protocol). is_owned q port (owners (dead s.table m))) (sym k.2) ∙ ap (λ (n : ℕ). is_owned e.endpoint.protocol n (owners (dead s.table m))) (sym k.3) ∙ owned) free))
          ]
        ]

    pub kept-end : IsHeldEnd (live s.table m) protocol port (last_end s m protocol port)
    kept-end = kept-step (last_end s m protocol port) refl

  -- what the leases leave of a port last is its last end
  told-end : (protocol : Protocol) (port : ℕ) (r : Option End) → IsHeldEnd s.table protocol port r → r ≡ last_end s s.last protocol port
  told-end protocol port (Some e) h =
      let there = IsIn-from_Contains (ends_at_expiry s.table) e h.there in
      let p = port-of protocol port e h.own in
      let coming = ends-late s.table s.last e first.reached.maps first.reached.peers there in
      sym (latest-last s first.reached.sound s.last protocol port e p.0 p.1 there
      (λ f left same. h.latest f (Contains-from_IsIn (ends_at_expiry s.table) f left)
      (of-port protocol port f (protocol_number-same f.endpoint.protocol protocol (same.protocol ∙ ap protocol_number p.0)) (same.external ∙ p.1)))
      (lt-ltb s.last (e.end + 120) (omega (arith, coming))))
  told-end protocol port None h = step (last_end s s.last protocol port) refl
    where
      step : (o : Option End) → last_end s s.last protocol port ≡ o → None ≡ o
      step None e = refl
      step (Some e) is =
          let k = last-some s first.reached.sound s.last protocol port e is in
          elim (last-from s first.reached.sound s.last protocol port e is) [
            | inl old ↦ absurd (none_old e old)
            | inr left ↦ absurd (unlike (is_end_of protocol port e) (of-port protocol port e k.2 k.3) (h.none e (Contains-from_IsIn (ends_at_expiry s.table) e left.0)))
          ]

  -- ports with the last ends of the leases are those of the state
  pub ports-follow : (v : Leased) → AreEndsOf s.last s.table v → v.reached ≡ s.last → IsPortsOf v s
  ports-follow v ends now = record {
    passed = omega (arith, now);
    same = λ protocol port. told-end protocol port (while_recent s.last (end_of v protocol port)) (ends protocol port);
  }

  -- where the ports of leases that have ended are held by the others, all are
  pub ports-left : PortsTellLastEnds → (m : ℕ) (left : List OwnerRun) (v w : Leased) → s.last ≤ m → AreOfDead m s.table left → IsPortsOf v s → AreHeld (live s.table m) left v w → AreEndsOf m (live s.table m) w
  ports-left told m left v w passed of ports held protocol port = step (have_port protocol port left) refl
    where
      step : (b : Bool) → have_port protocol port left ≡ b → IsHeldEnd (live s.table m) protocol port (while_recent m (end_of w protocol port))
      step true h = held-recent m (live s.table m) (live-live s.table m) protocol port (end_of w protocol port) (held.held protocol port h)
      step false h =
          let free = unowned-fewer protocol port (owners_among left) (owners (dead s.table m)) (λ o i. IsIn-from_Contains (owners_among left) o (of.all o (Contains-from_IsIn (owners (dead s.table m)) o i)))
          (owned_runs protocol port left ∙ h) in
          subst (IsHeldEnd (live s.table m) protocol port)
          (sym (ap (while_recent m) (held.others protocol port h) ∙ told v s m protocol port first.reached.sound ports passed)) (kept-end m protocol port free)

-- ---- a change

module _ (t : Table) (change : Change) (allowed : IsAllowed t change) (keeps : empties change ≡ false)
    (protocol : Protocol) (port : ℕ) (none : find (is_port protocol port) (touched change t) ≡ None) where
  untouched-apart : (e : End) → is_end_of protocol port e ≡ true → Apart (touched change t) e
  untouched-apart e own o there external endpoint =
      let p = port-of protocol port e own in
      let fails : is_port protocol port o ≡ false = All-IsIn (λ o. is_port protocol port o ≡ false) (touched change t) o (find-none (is_port protocol port) (touched change t) none) there in
      let of : o.protocol ≡ protocol = touched-protocol change t o there ∙ ap (λ (x : Endpoint). x.protocol) endpoint ∙ p.0 in
      unlike (is_port protocol port o) (and_from _ _ ((same_protocol-Decides o.protocol protocol).1 of) (eq-eqb o.external port (external ∙ p.1))) fails

  -- the leases leave the same of a port that isn't touched
  pub untouched-end : (r : Option End) → IsHeldEnd t protocol port r → IsHeldEnd (table_changed change t) protocol port r
  untouched-end = held-same t (table_changed change t) protocol port
      (λ e own. leaves-kept t (table_changed change t) (touched change t) e (map-kept change t allowed keeps) (peer-kept change t allowed keeps) (untouched-apart e own))
      (λ e own. leaves-kept (table_changed change t) t (touched change t) e (map-from change t keeps) (peer-from change t keeps) (untouched-apart e own))

-- a port of a run that leases hold for no other endpoint
module _ (m : ℕ) (t : Table) (all : AreLiveAt m t) (r : OwnerRun) (agreed : IsAgreed t r) (v w : Leased) (holds : Holds IsFree m t r v w) (protocol : Protocol) (port : ℕ) where
  pub run-held : has_port protocol port r ≡ true → IsHeldEnd t protocol port (end_of w protocol port)
  run-held h =
      let p = place_in protocol port r h in
      let at = p.port_is in
      let off : p.place ≡ port - r.first.external = omega (arith, at) in
      subst (IsHeldEnd t protocol port)
      (sym (holds protocol port ∙ cond-true (has_port protocol port r) (end_held IsFree m (held_until m t protocol port) (owner_in r port)) (end_of v protocol port) h))
      (held-end m t all protocol port (owner_in r port) (omega (arith, at)) (λ x there of number.
      agreed.agreed p.place p.less x (Contains-from_IsIn (owners t) x there) (of ∙ sym p.protocol_is) (number ∙ sym p.port_is)
      ∙ ap (λ (i : ℕ). (owner_along i r.first).endpoint) off))

  pub run-other : has_port protocol port r ≡ false → end_of w protocol port ≡ end_of v protocol port
  run-other h = holds protocol port ∙ cond-false (has_port protocol port r) (end_held IsFree m (held_until m t protocol port) (owner_in r port)) (end_of v protocol port) h

-- where the ports that a change touches are held by the leases, all are
module _ (m : ℕ) (t : Table) (change : Change) (v w : Leased) (sound : Sound t) (allowed : IsAllowed t change) (keeps : empties change ≡ false) (all : AreLiveAt m (table_changed change t))
    (ends : AreEndsOf m t v) where
  pub ports-changed : (run : Option OwnerRun) → run ≡ touched_run change t → IfSome run (IsAgreed (table_changed change t)) → HoldsIf IsFree m (table_changed change t) run v w → AreEndsOf m (table_changed change t) w
  ports-changed None is agreed holds protocol port =
      subst (λ (o : Option End). IsHeldEnd (table_changed change t) protocol port (while_recent m o)) (sym (holds protocol port))
      (untouched-end t change allowed keeps protocol port (ap (find (is_port protocol port)) (touched_owners change t sound ∙ ap owners_if (sym is))) (while_recent m (end_of v protocol port)) (ends protocol port))
  ports-changed (Some r) is agreed holds protocol port = step (has_port protocol port r) refl
    where
      step : (b : Bool) → has_port protocol port r ≡ b → IsHeldEnd (table_changed change t) protocol port (while_recent m (end_of w protocol port))
      step true h = held-recent m (table_changed change t) all protocol port (end_of w protocol port) (run-held m (table_changed change t) all r agreed v w holds protocol port h)
      step false h =
          let none : find (is_port protocol port) (touched change t) ≡ None =
          ap (find (is_port protocol port)) (touched_owners change t sound ∙ ap owners_if (sym is)) ∙ found_owner protocol port r ∙ cond-false (has_port protocol port r) (Some (owner_in r port)) None h in
          subst (λ (o : Option End). IsHeldEnd (table_changed change t) protocol port (while_recent m o)) (sym (run-other m (table_changed change t) all r agreed v w holds protocol port h))
          (untouched-end t change allowed keeps protocol port none (while_recent m (end_of v protocol port)) (ends protocol port))

-- ---- run by run

pub held-begins : (t : Table) (v : Leased) → AreHeld t [] v v
held-begins t v = record {
  held = λ protocol port h. absurd (let never : false ≡ true = h in cc);
  others = λ protocol port h. refl;
}

pub held-more : (m : ℕ) (t : Table) (runs : List OwnerRun) (i : ℕ) (d : OwnerRun) (v w x : Leased) → AreLiveAt m t → i < length runs → IsAgreed t (get_or runs i d)
    → AreHeld t (take i runs) v w → Holds IsFree m t (get_or runs i d) w x → AreHeld t (take (i + 1) runs) v x
held-more m t runs i d v w x all less agreed before holds = record {
  held = λ protocol port h. held protocol port (has_port protocol port (get_or runs i d)) refl (sym (more protocol port) ∙ h);
  others = λ protocol port h. others protocol port (have_port protocol port (take i runs)) (has_port protocol port (get_or runs i d)) refl refl (sym (more protocol port) ∙ h);
}
  where
    more : (protocol : Protocol) (port : ℕ) → have_port protocol port (take (i + 1) runs) ≡ (have_port protocol port (take i runs) || has_port protocol port (get_or runs i d))
    more protocol port = any_more (has_port protocol port) runs i d less

    or_false : (a : Bool) → (a || false) ≡ a
    or_false true = refl
    or_false false = refl

    held : (protocol : Protocol) (port : ℕ) (b : Bool) → has_port protocol port (get_or runs i d) ≡ b
        → (have_port protocol port (take i runs) || has_port protocol port (get_or runs i d)) ≡ true → IsHeldEnd t protocol port (end_of x protocol port)
    held protocol port true e h = run-held m t all (get_or runs i d) agreed w x holds protocol port e
    held protocol port false e h =
        subst (IsHeldEnd t protocol port) (sym (run-other m t all (get_or runs i d) agreed w x holds protocol port e))
        (before.held protocol port (sym (or_false (have_port protocol port (take i runs))) ∙ ap (λ (b : Bool). have_port protocol port (take i runs) || b) (sym e) ∙ h))

    others : (protocol : Protocol) (port : ℕ) (a b : Bool) → have_port protocol port (take i runs) ≡ a → has_port protocol port (get_or runs i d) ≡ b
        → (have_port protocol port (take i runs) || has_port protocol port (get_or runs i d)) ≡ false → end_of x protocol port ≡ end_of v protocol port
    others protocol port false false e f h = run-other m t all (get_or runs i d) agreed w x holds protocol port f ∙ before.others protocol port e
    others protocol port true b e f h = absurd (let no : true ≡ false = ap (λ (c : Bool). c || has_port protocol port (get_or runs i d)) (sym e) ∙ h in cc)
    others protocol port false true e f h =
        absurd (let no : true ≡ false = ap (λ (c : Bool). false || c) (sym f) ∙ ap (λ (c : Bool). c || has_port protocol port (get_or runs i d)) (sym e) ∙ h in cc)

-- ---- tables

module _ (maps : SoundTablesHaveSoundMaps) (peers : SoundTablesHaveSoundPeers) (t : Table) (sound : Sound t) where
  pub sound-tabled : AreTabled t
  sound-tabled = record { maps = maps t sound; peers = peers t sound; few = sound.few }

  -- leases that are sound together and expire before the year 70,000
  pub sound-near : (m : ℕ) → AllByRecursion (λ (l : MapLease). l.expiry < 2 ^ 41) t.maps → AllByRecursion (λ (l : PeerLease). l.expiry < 2 ^ 41) t.peers → AreNearAt m t
  sound-near m near_maps near_peers = record { tabled = sound-tabled; sound = Sound-live t m sound; maps = near_maps; peers = near_peers }

pub live-near : SoundTablesHaveSoundMaps → SoundTablesHaveSoundPeers → (t : Table) (last m : ℕ) → AreNearAt last t → AreNearAt m (live t last)
live-near maps peers t last m near = sound-near maps peers (live t last) near.sound m
    (All-filter (λ (l : MapLease). l.expiry < 2 ^ 41) (λ (l : MapLease). nat_lt last l.expiry) t.maps near.maps)
    (All-filter (λ (l : PeerLease). l.expiry < 2 ^ 41) (λ (l : PeerLease). nat_lt last l.expiry) t.peers near.peers)

pub reached-near : SoundTablesHaveSoundMaps → SoundTablesHaveSoundPeers → (s : State) (m : ℕ) → IsReached s → AreNearAt m s.table
reached-near maps peers s m reached = sound-near maps peers s.table reached.sound.table m
    (All-weaker (λ (l : MapLease). IsTermAt s.last l.granted l.expiry) (λ (l : MapLease). l.expiry < 2 ^ 41) (λ l h. h.near) s.table.maps reached.maps)
    (All-weaker (λ (l : PeerLease). IsTermAt s.last l.granted l.expiry) (λ (l : PeerLease). l.expiry < 2 ^ 41) (λ l h. h.near) s.table.peers reached.peers)

-- so do leases of which those that are live are such
pub near-again : (m : ℕ) (t u : Table) → AreTabled t → live t m ≡ u → Sound u → AreNearAt m u → m < 2 ^ 40 → AreNearAt m t
near-again m t u tabled same sound near small = record {
  tabled = tabled;
  sound = subst Sound (sym same) sound;
  maps = near_if (λ (l : MapLease). l.expiry) m t.maps (omega (arith, small))
      (λ l there. All-IsIn (λ (x : MapLease). x.expiry < 2 ^ 41) u.maps l near.maps (subst (λ (x : Table). IsIn l x.maps) same there));
  peers = near_if (λ (l : PeerLease). l.expiry) m t.peers (omega (arith, small))
      (λ l there. All-IsIn (λ (x : PeerLease). x.expiry < 2 ^ 41) u.peers l near.peers (subst (λ (x : Table). IsIn l x.peers) same there));
}

pub first-live : (s : State) → IsReachedFirst s → AreLiveAt s.last s.table
first-live s first e there = ends-late s.table s.last e first.reached.maps first.reached.peers (IsIn-from_Contains (ends_at_expiry s.table) e there)

-- ports of a lease that has ended are held for no other endpoint
pub left-agreed : (m : ℕ) (t : Table) (left : List OwnerRun) → Sound t → AreTabled t → AreOfDead m t left → AllByRecursion (IsAgreed (live t m)) left
left-agreed m t left sound tabled of = All-from_IsIn (IsAgreed (live t m)) left (λ r i.
    let formed = All-IsIn IsOwnerRun left r of.formed i in
    elim (All-IsIn (IsOfLeases (dead t m)) left r of.of_dead i) [
      | inl a ↦ (let k = IsIn-filter (λ (l : MapLease). not (nat_lt m l.expiry)) t.maps a.lease (IsIn-from_Contains (dead t m).maps a.lease a.there) in
          subst (IsAgreed (live t m)) (sym a.is) (map_agreed t (live t m) a.lease sound (owners-live t m) k.0 (subst IsOwnerRun a.is formed)
          (even_gone t a.lease (live t m).maps tabled k.0 (subst IsOwnerRun a.is formed).some
          (λ x j. (IsIn-filter (λ (l : MapLease). nat_lt m l.expiry) t.maps x j).0)
          (λ j. let alive = (IsIn-filter (λ (l : MapLease). nat_lt m l.expiry) t.maps a.lease j).1 in
          let no : false ≡ true = sym (ap not alive) ∙ k.1 in
          absurd (cc)))))
      | inr b ↦ (let k = IsIn-filter (λ (l : PeerLease). not (nat_lt m l.expiry)) t.peers b.lease (IsIn-from_Contains (dead t m).peers b.lease b.there) in
          subst (IsAgreed (live t m)) (sym b.is) (peer_agreed t (live t m) b.lease sound (owners-live t m) k.0 (subst IsOwnerRun b.is formed)))
    ])

-- ---- a record that forgets all

pub first-empties : (s : State) (r : Record) → empties r.change ≡ true → apply_first s r ≡ apply s r
first-empties s r h = step r.change h
  where
    step : (change : Change) → empties change ≡ true → apply_first s (record { moment = r.moment; change = change }) ≡ apply s (record { moment = r.moment; change = change })
    step Start h = refl
    step Lose h = refl
    step (Map l) h = absurd (let no : false ≡ true = h in cc)
    step (Peer l) h = absurd (let no : false ≡ true = h in cc)
    step (DropMap e) h = absurd (let no : false ≡ true = h in cc)
    step (DropPeer e remote port) h = absurd (let no : false ≡ true = h in cc)
    step Mark h = absurd (let no : false ≡ true = h in cc)
    step (Rest e port end) h = absurd (let no : false ≡ true = h in cc)
    step (Renumber a) h = absurd (let no : false ≡ true = h in cc)
