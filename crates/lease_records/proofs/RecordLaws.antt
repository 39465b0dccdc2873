-- The two laws of each kind of record, and of records.
use Rattle.std.proofs.Common.{◌≡◌, ℕ, ◌-◌, ◌^◌, ◌≤◌, cond, eqb, List, [], ◌∷◌, ◌++◌, length, take, drop, Option, Some, refl, sym, ap, subst, ◌∙◌, append_assoc, arith, inl, inr}
use Rattle.std.specs.Int.{w16, w64, to_be_bytes}
use Rattle.std.proofs.lemmas.Bool.{eqb-true}
use Rattle.std.proofs.lemmas.List.{take_at, take-append-drop, length-append}
use Rattle.pcp_base.specs.declared.leases.MapLease.{MapLease}
use Rattle.pcp_base.specs.declared.leases.PeerLease.{PeerLease}
use Rattle.pcp_base.specs.declared.records.Change.{Change}
use Rattle.pcp_base.specs.declared.records.Change.TheVariants.{Start, Map, Peer, DropMap, DropPeer, Lose, Mark, Rest, Renumber}
use Rattle.pcp_base.specs.declared.records.Record.{Record}
use Rattle.pcp_base.specs.declared.leases.Endpoint.{Endpoint}
use Rattle.pcp_base.specs.Protocols.{protocol_number}
use Rattle.pcp_base.specs.Tables.{first_endpoint}
use Rattle.pcp_base.specs.Records.{IsWellFormedRecord}
use Rattle.lease_records.specs.Values.{IsMap, IsPeer, map_term, peer_term, IsChangeValue, IsValue}
use Rattle.lease_records.specs.RecordTexts.{endpoint_text, term_text, map_text, peer_text, rest_text, kind_of, fields_text, record_text, IsRecordText, OneText}
use Rattle.lease_records.specs.RecordReading.{map_at, peer_at, drop_map_at, drop_peer_at, rest_at, renumber_at, change_at, record_at}
use Rattle.lease_records.proofs.FieldLaws.{IsBytes, bind_some, some_is, Takes, Takes-then, octet_takes, wide16, wide64, number_takes, number_again}
use Rattle.lease_records.proofs.PartLaws.{chosen, protocol_is, protocol_again, moment_takes, moment_again, address_takes, address_again, endpoint_takes, endpoint_again, filters_text, all_filters_take, all_filters_again, term_takes, term_again}

map_takes : (octets : List ℕ) (x : MapLease × List ℕ) → IsBytes octets → map_at octets ≡ Some x → Takes octets (map_text x.0) x.1 × IsMap x.0
unfolding map_at
map_takes octets x fits e =
    let a = bind_some _ _ _ e in
    let b = bind_some _ _ _ a.2 in
    let c = bind_some _ _ _ b.2 in
    let d = bind_some _ _ _ c.2 in
    let f = bind_some _ _ _ d.2 in
    let ta = endpoint_takes octets a.0 fits a.1 in
    let tb = number_takes w16 (2 ^ 16) wide16 a.0.1 b.0 ta.0.rest_fits b.1 in
    let tc = number_takes w16 (2 ^ 16) wide16 b.0.1 c.0 tb.0.rest_fits c.1 in
    let td = term_takes c.0.1 d.0 tc.0.rest_fits d.1 in
    let tf = all_filters_take d.0.1 f.0 td.0.rest_fits f.1 in
    let ab = Takes-then octets (endpoint_text a.0.0) a.0.1 (to_be_bytes w16 b.0.0) b.0.1 ta.0 tb.0 in
    let ac = Takes-then octets (endpoint_text a.0.0 ++ to_be_bytes w16 b.0.0) b.0.1 (to_be_bytes w16 c.0.0) c.0.1 ab tc.0 in
    let ad = Takes-then octets (endpoint_text a.0.0 ++ to_be_bytes w16 b.0.0 ++ to_be_bytes w16 c.0.0) c.0.1 (term_text d.0.0) d.0.1 ac td.0 in
    let all = Takes-then octets (endpoint_text a.0.0 ++ to_be_bytes w16 b.0.0 ++ to_be_bytes w16 c.0.0 ++ term_text d.0.0) d.0.1 (filters_text f.0.0) f.0.1 ad tf.0 in
    let lease : MapLease = record { address = a.0.0.address; protocol = a.0.0.protocol; internal = a.0.0.port; count = b.0.0; external = c.0.0; nonce = d.0.0.nonce; granted = d.0.0.granted; expiry = d.0.0.expiry; filters = f.0.0 } in
    subst (λ (y : MapLease × List ℕ). Takes octets (map_text y.0) y.1 × IsMap y.0) (some_is (lease, f.0.1) x f.2)
    (all, record { endpoint = ta.1; count = tb.1; external = tc.1; term = td.1; few_filters = tf.1.0; filters = tf.1.1 })

map_again : (l : MapLease) (rest : List ℕ) → IsMap l → map_at (map_text l ++ rest) ≡ Some (l, rest)
unfolding map_at
map_again l rest is =
    let e = first_endpoint l in
    let count = to_be_bytes w16 l.count in
    let external = to_be_bytes w16 l.external in
    let term = term_text (map_term l) in
    let filters = filters_text l.filters in
    let behind = term ++ (filters ++ rest) in
    let regrouped : map_text l ++ rest ≡ endpoint_text e ++ (count ++ (external ++ behind)) =
    append_assoc (endpoint_text e ++ count ++ external ++ term) filters rest
    ∙ append_assoc (endpoint_text e ++ count ++ external) term (filters ++ rest)
    ∙ append_assoc (endpoint_text e ++ count) external behind
    ∙ append_assoc (endpoint_text e) count (external ++ behind) in
    ap map_at regrouped ∙ rw (endpoint_again e (count ++ (external ++ behind)) is.endpoint, number_again w16 (2 ^ 16) wide16 l.count (external ++ behind) is.count, number_again w16 (2 ^ 16) wide16 l.external behind is.external, term_again (map_term l) (filters ++ rest) is.term, all_filters_again l.filters rest (is.few_filters, is.filters)) refl

peer_takes : (octets : List ℕ) (x : PeerLease × List ℕ) → IsBytes octets → peer_at octets ≡ Some x → Takes octets (peer_text x.0) x.1 × IsPeer x.0
unfolding peer_at
peer_takes octets x fits e =
    let a = bind_some _ _ _ e in
    let b = bind_some _ _ _ a.2 in
    let c = bind_some _ _ _ b.2 in
    let d = bind_some _ _ _ c.2 in
    let f = bind_some _ _ _ d.2 in
    let ta = endpoint_takes octets a.0 fits a.1 in
    let tb = number_takes w16 (2 ^ 16) wide16 a.0.1 b.0 ta.0.rest_fits b.1 in
    let tc = address_takes b.0.1 c.0 tb.0.rest_fits c.1 in
    let td = number_takes w16 (2 ^ 16) wide16 c.0.1 d.0 tc.0.rest_fits d.1 in
    let tf = term_takes d.0.1 f.0 td.0.rest_fits f.1 in
    let ab = Takes-then octets (endpoint_text a.0.0) a.0.1 (to_be_bytes w16 b.0.0) b.0.1 ta.0 tb.0 in
    let ac = Takes-then octets (endpoint_text a.0.0 ++ to_be_bytes w16 b.0.0) b.0.1 c.0.0.0 c.0.1 ab tc.0 in
    let ad = Takes-then octets (endpoint_text a.0.0 ++ to_be_bytes w16 b.0.0 ++ c.0.0.0) c.0.1 (to_be_bytes w16 d.0.0) d.0.1 ac td.0 in
    let all = Takes-then octets (endpoint_text a.0.0 ++ to_be_bytes w16 b.0.0 ++ c.0.0.0 ++ to_be_bytes w16 d.0.0) d.0.1 (term_text f.0.0) f.0.1 ad tf.0 in
    let lease : PeerLease = record { endpoint = a.0.0; external = b.0.0; remote = c.0.0; remote_port = d.0.0; nonce = f.0.0.nonce; granted = f.0.0.granted; expiry = f.0.0.expiry } in
    subst (λ (y : PeerLease × List ℕ). Takes octets (peer_text y.0) y.1 × IsPeer y.0) (some_is (lease, f.0.1) x f.2)
    (all, record { endpoint = ta.1; external = tb.1; remote = tc.1; remote_port = td.1; term = tf.1 })

peer_again : (l : PeerLease) (rest : List ℕ) → IsPeer l → peer_at (peer_text l ++ rest) ≡ Some (l, rest)
unfolding peer_at
peer_again l rest is =
    let e = l.endpoint in
    let external = to_be_bytes w16 l.external in
    let port = to_be_bytes w16 l.remote_port in
    let term = term_text (peer_term l) in
    let behind = l.remote.0 ++ (port ++ (term ++ rest)) in
    let regrouped : peer_text l ++ rest ≡ endpoint_text e ++ (external ++ behind) =
    append_assoc (endpoint_text e ++ external ++ l.remote.0 ++ port) term rest
    ∙ append_assoc (endpoint_text e ++ external ++ l.remote.0) port (term ++ rest)
    ∙ append_assoc (endpoint_text e ++ external) l.remote.0 (port ++ (term ++ rest))
    ∙ append_assoc (endpoint_text e) external behind in
    ap peer_at regrouped ∙ rw (endpoint_again e (external ++ behind) is.endpoint, number_again w16 (2 ^ 16) wide16 l.external behind is.external, address_again l.remote (port ++ (term ++ rest)) is.remote, number_again w16 (2 ^ 16) wide16 l.remote_port (term ++ rest) is.remote_port, term_again (peer_term l) rest is.term) refl

-- ---- changes

-- what was read at a change of this kind
record ReadsChange (kind : ℕ) (octets : List ℕ) (x : Change × List ℕ) : Type 0 where
  kind_is : kind ≡ kind_of x.0
  fields : Takes octets (fields_text x.0) x.1
  value : IsChangeValue x.0

drop_map_takes : (octets : List ℕ) (x : Change × List ℕ) → IsBytes octets → drop_map_at octets ≡ Some x → ReadsChange 4 octets x
unfolding drop_map_at
drop_map_takes octets x fits e =
    let a = bind_some _ _ _ e in
    let t = endpoint_takes octets a.0 fits a.1 in
    subst (ReadsChange 4 octets) (some_is (DropMap a.0.0, a.0.1) x a.2) (record { kind_is = refl; fields = t.0; value = t.1 })

drop_peer_takes : (octets : List ℕ) (x : Change × List ℕ) → IsBytes octets → drop_peer_at octets ≡ Some x → ReadsChange 5 octets x
unfolding drop_peer_at
drop_peer_takes octets x fits e =
    let a = bind_some _ _ _ e in
    let b = bind_some _ _ _ a.2 in
    let c = bind_some _ _ _ b.2 in
    let ta = endpoint_takes octets a.0 fits a.1 in
    let tb = address_takes a.0.1 b.0 ta.0.rest_fits b.1 in
    let tc = number_takes w16 (2 ^ 16) wide16 b.0.1 c.0 tb.0.rest_fits c.1 in
    let ab = Takes-then octets (endpoint_text a.0.0) a.0.1 b.0.0.0 b.0.1 ta.0 tb.0 in
    let all = Takes-then octets (endpoint_text a.0.0 ++ b.0.0.0) b.0.1 (to_be_bytes w16 c.0.0) c.0.1 ab tc.0 in
    subst (ReadsChange 5 octets) (some_is (DropPeer a.0.0 b.0.0 c.0.0, c.0.1) x c.2) (record { kind_is = refl; fields = all; value = (ta.1, tb.1, tc.1) })

rest_takes : (octets : List ℕ) (x : Change × List ℕ) → IsBytes octets → rest_at octets ≡ Some x → ReadsChange 8 octets x
unfolding rest_at
rest_takes octets x fits e =
    let n = bind_some _ _ _ e in
    let p = bind_some _ _ _ n.2 in
    let o = bind_some _ _ _ p.2 in
    let a = bind_some _ _ _ o.2 in
    let q = bind_some _ _ _ a.2 in
    let d = bind_some _ _ _ q.2 in
    let tn = octet_takes octets n.0 fits n.1 in
    let named : Takes octets (protocol_number p.0 ∷ []) n.0.1 = subst (λ k. Takes octets (k ∷ []) n.0.1) (protocol_is n.0.0 p.0 p.1) tn in
    let to = number_takes w16 (2 ^ 16) wide16 n.0.1 o.0 tn.rest_fits o.1 in
    let ta = address_takes o.0.1 a.0 to.0.rest_fits a.1 in
    let tq = number_takes w16 (2 ^ 16) wide16 a.0.1 q.0 ta.0.rest_fits q.1 in
    let td = number_takes w64 (2 ^ 64) wide64 q.0.1 d.0 tq.0.rest_fits d.1 in
    let no = Takes-then octets (protocol_number p.0 ∷ []) n.0.1 (to_be_bytes w16 o.0.0) o.0.1 named to.0 in
    let na = Takes-then octets (protocol_number p.0 ∷ to_be_bytes w16 o.0.0) o.0.1 a.0.0.0 a.0.1 no ta.0 in
    let nq = Takes-then octets (protocol_number p.0 ∷ to_be_bytes w16 o.0.0 ++ a.0.0.0) a.0.1 (to_be_bytes w16 q.0.0) q.0.1 na tq.0 in
    let all = Takes-then octets (protocol_number p.0 ∷ to_be_bytes w16 o.0.0 ++ a.0.0.0 ++ to_be_bytes w16 q.0.0) q.0.1 (to_be_bytes w64 d.0.0) d.0.1 nq td.0 in
    let at : Endpoint = record { address = a.0.0; protocol = p.0; port = q.0.0 } in
    subst (ReadsChange 8 octets) (some_is (Rest at o.0.0 d.0.0, d.0.1) x d.2) (record { kind_is = refl; fields = all; value = (record { address = ta.1; port = tq.1 }, to.1, td.1) })

renumber_takes : (octets : List ℕ) (x : Change × List ℕ) → IsBytes octets → renumber_at octets ≡ Some x → ReadsChange 9 octets x
unfolding renumber_at
renumber_takes octets x fits e =
    let a = bind_some _ _ _ e in
    let t = address_takes octets a.0 fits a.1 in
    subst (ReadsChange 9 octets) (some_is (Renumber a.0.0, a.0.1) x a.2) (record { kind_is = refl; fields = t.0; value = t.1 })

none_here : (octets : List ℕ) → IsBytes octets → Takes octets [] octets
none_here octets fits = record { parts = refl; rest_fits = fits }

-- one test of the kind
of_kind : {A : Type 0} (kind n : ℕ) (p q : Option A) (x : A) (P : ℕ → Type 0) → cond (eqb kind n) p q ≡ Some x → (p ≡ Some x → P n) → (q ≡ Some x → P kind) → P kind
of_kind kind n p q x P e this other =
    elim (chosen (eqb kind n) p q (Some x) e) [
      | inl h ↦ subst P (sym (eqb-true _ _ h.0)) (this h.1)
      | inr h ↦ other h.1
    ]

change_takes : (kind : ℕ) (octets : List ℕ) (x : Change × List ℕ) → IsBytes octets → change_at kind octets ≡ Some x → ReadsChange kind octets x
unfolding change_at
change_takes kind octets x fits e =
    let P : ℕ → Type 0 = λ k. ReadsChange k octets x in
    let nothing = none_here octets fits in
    of_kind kind 1 _ _ x P e (λ h. subst (ReadsChange 1 octets) (some_is (Start, octets) x h) (record { kind_is = refl; fields = nothing; value = tt }))
    (λ e2. of_kind kind 2 _ _ x P e2 (λ h.
    let l = bind_some _ _ _ h in
    let t = map_takes octets l.0 fits l.1 in
    subst (ReadsChange 2 octets) (some_is (Map l.0.0, l.0.1) x l.2) (record { kind_is = refl; fields = t.0; value = t.1 }))
    (λ e3. of_kind kind 3 _ _ x P e3 (λ h.
    let l = bind_some _ _ _ h in
    let t = peer_takes octets l.0 fits l.1 in
    subst (ReadsChange 3 octets) (some_is (Peer l.0.0, l.0.1) x l.2) (record { kind_is = refl; fields = t.0; value = t.1 }))
    (λ e4. of_kind kind 4 _ _ x P e4 (drop_map_takes octets x fits)
    (λ e5. of_kind kind 5 _ _ x P e5 (drop_peer_takes octets x fits)
    (λ e6. of_kind kind 6 _ _ x P e6 (λ h. subst (ReadsChange 6 octets) (some_is (Lose, octets) x h) (record { kind_is = refl; fields = nothing; value = tt }))
    (λ e7. of_kind kind 7 _ _ x P e7 (λ h. subst (ReadsChange 7 octets) (some_is (Mark, octets) x h) (record { kind_is = refl; fields = nothing; value = tt }))
    (λ e8. of_kind kind 8 _ _ x P e8 (rest_takes octets x fits)
    (λ e9. of_kind kind 9 _ _ x P e9 (renumber_takes octets x fits)
    (λ h. absurd (cc h))))))))))

change_again : (c : Change) (rest : List ℕ) → IsChangeValue c → change_at (kind_of c) (fields_text c ++ rest) ≡ Some (c, rest)
unfolding change_at drop_map_at drop_peer_at rest_at renumber_at
change_again Start rest is = refl
change_again (Map l) rest is = rw (map_again l rest is) refl
change_again (Peer l) rest is = rw (peer_again l rest is) refl
change_again (DropMap e) rest is = rw (endpoint_again e rest is) refl
change_again (DropPeer e remote port) rest is =
    let regrouped = append_assoc (endpoint_text e ++ remote.0) (to_be_bytes w16 port) rest ∙ append_assoc (endpoint_text e) remote.0 (to_be_bytes w16 port ++ rest) in
    ap drop_peer_at regrouped ∙ rw (endpoint_again e (remote.0 ++ (to_be_bytes w16 port ++ rest)) is.0, address_again remote (to_be_bytes w16 port ++ rest) is.1, number_again w16 (2 ^ 16) wide16 port rest is.2) refl
change_again Lose rest is = refl
change_again Mark rest is = refl
change_again (Rest e external end) rest is =
    let number = protocol_number e.protocol in
    let out = to_be_bytes w16 external in
    let port = to_be_bytes w16 e.port in
    let moment = to_be_bytes w64 end in
    let behind = e.address.0 ++ (port ++ (moment ++ rest)) in
    let regrouped : rest_text e external end ++ rest ≡ number ∷ (out ++ behind) =
    append_assoc (number ∷ out ++ e.address.0 ++ port) moment rest
    ∙ append_assoc (number ∷ out ++ e.address.0) port (moment ++ rest)
    ∙ append_assoc (number ∷ out) e.address.0 (port ++ (moment ++ rest)) in
    ap rest_at regrouped ∙ rw (protocol_again e.protocol, number_again w16 (2 ^ 16) wide16 external behind is.1, address_again e.address (port ++ (moment ++ rest)) is.0.address, number_again w16 (2 ^ 16) wide16 e.port (moment ++ rest) is.0.port, number_again w64 (2 ^ 64) wide64 end rest is.2) refl
change_again (Renumber a) rest is = rw (address_again a rest is) refl

-- ---- records

pub record_takes : (octets : List ℕ) (x : Record × List ℕ) → IsBytes octets → record_at octets ≡ Some x → Takes octets (record_text x.0) x.1 × IsValue x.0
unfolding record_at
record_takes octets x fits e =
    let k = bind_some _ _ _ e in
    let m = bind_some _ _ _ k.2 in
    let c = bind_some _ _ _ m.2 in
    let tk = octet_takes octets k.0 fits k.1 in
    let tm = moment_takes k.0.1 m.0 tk.rest_fits m.1 in
    let tc = change_takes k.0.0 m.0.1 c.0 tm.0.rest_fits c.1 in
    let named : Takes octets (kind_of c.0.0 ∷ []) k.0.1 = subst (λ n. Takes octets (n ∷ []) k.0.1) tc.kind_is tk in
    let front = Takes-then octets (kind_of c.0.0 ∷ []) k.0.1 (to_be_bytes w64 m.0.0) m.0.1 named tm.0 in
    let all = Takes-then octets (kind_of c.0.0 ∷ to_be_bytes w64 m.0.0) m.0.1 (fields_text c.0.0) c.0.1 front tc.fields in
    let made : Record × List ℕ = (record { moment = m.0.0; change = c.0.0 }, c.0.1) in
    subst (λ (y : Record × List ℕ). Takes octets (record_text y.0) y.1 × IsValue y.0) (some_is made x c.2) (all, record { moment = tm.1; change = tc.value })

pub record_again : (r : Record) (rest : List ℕ) → IsValue r → record_at (record_text r ++ rest) ≡ Some (r, rest)
unfolding record_at
record_again r rest is = rw (moment_again r.moment (fields_text r.change ++ rest) is.moment, change_again r.change rest is.change) refl

-- what is read of octets that begin with a text
pub read_front : (octets : List ℕ) (n : ℕ) (r : Record) → IsRecordText (take n octets) r → record_at octets ≡ Some (r, drop n octets)
read_front octets n r is =
    let whole : record_text r ++ drop n octets ≡ octets = ap (λ (front : List ℕ). front ++ drop n octets) (sym is.text) ∙ take-append-drop n octets in
    ap record_at (sym whole) ∙ record_again r (drop n octets) is.value

-- what was taken is the front
pub front_taken : (octets rest : List ℕ) (r : Record) → IsBytes octets → record_at octets ≡ Some (r, rest) → IsWellFormedRecord r → IsRecordText (take (length octets - length rest) octets) r
front_taken octets rest r fits e formed =
    let t = record_takes octets (r, rest) fits e in
    let len : length (record_text r) ≡ length octets - length rest = omega (arith, ap length t.0.parts, length-append (record_text r) rest) in
    record {
      value = t.1;
      well_formed = formed;
      text = ap (take (length octets - length rest)) t.0.parts ∙ take_at (record_text r) rest (length octets - length rest) len;
    }

-- one record has one text, and no text begins another
pub one_text : OneText
one_text r s x y p q same =
    let both : (r, x) ≡ (s, y) = some_is (r, x) (s, y) (sym (record_again r x p) ∙ ap record_at same ∙ record_again s y q) in
    (ap (λ (z : Record × List ℕ). z.0) both, ap (λ (z : Record × List ℕ). z.1) both)

-- what is read is the record of that text
pub read_as : (octets rest : List ℕ) (n : ℕ) (r s : Record) → IsRecordText (take n octets) r → record_at octets ≡ Some (s, rest) → r ≡ s
read_as octets rest n r s is e = ap (λ (z : Record × List ℕ). z.0) (some_is (r, drop n octets) (s, rest) (sym (read_front octets n r is) ∙ e))

pub rest_is_shorter : (octets rest : List ℕ) (r : Record) → IsBytes octets → record_at octets ≡ Some (r, rest) → length rest ≤ length octets
rest_is_shorter octets rest r fits e =
    let t = record_takes octets (r, rest) fits e in
    omega (arith, ap length t.0.parts, length-append (record_text r) rest)

-- what stands at the front is read, whatever follows it
pub text_read : (octets text rest : List ℕ) (r : Record) → IsRecordText text r → octets ≡ text ++ rest → record_at octets ≡ Some (r, rest)
text_read octets text rest r is e = ap record_at (e ∙ ap (λ (t : List ℕ). t ++ rest) is.text) ∙ record_again r rest is.value

pub read_whole : (octets text rest left : List ℕ) (r s : Record) → IsRecordText text r → octets ≡ text ++ rest → record_at octets ≡ Some (s, left) → (s ≡ r) × (length octets - length left ≡ length text)
read_whole octets text rest left r s is e found =
    let here : Record × List ℕ = (r, rest) in
    let there : Record × List ℕ = (s, left) in
    let both : here ≡ there = some_is here there (sym (text_read octets text rest r is e) ∙ found) in
    let behind : length rest ≡ length left = ap (λ (z : Record × List ℕ). length z.1) both in
    (sym (ap (λ (z : Record × List ℕ). z.0) both), omega (arith, ap length e, length-append text rest, behind))
