-- The two laws of each part of a lease: what is read is written so, and what is written is read again.
use Rattle.std.proofs.Common.{◌≡◌, ℕ, zero, suc, ◌^◌, ◌<◌, ◌≤◌, Bool, true, false, cond, ltb, eqb, List, [], ◌∷◌, ◌++◌, length, Some, None, refl, sym, ap, subst, ◌∙◌, append_assoc, arith, inl, inr}
use Rattle.std.specs.Prelude.{◌⊎◌}
use Rattle.std.specs.List.{AllByRecursion, flat_map}
use Rattle.std.specs.Int.{w16, w64, to_be_bytes}
use Rattle.std.proofs.lemmas.Bool.{ltb-false, ltb-true, lt-ltb, le-ltb, eqb-true}
use Rattle.std.proofs.lemmas.List.Concat.{flat_map-cons}
use Rattle.pcp_base.specs.declared.addresses.Address.{Address}
use Rattle.pcp_base.specs.declared.addresses.Nonce.{Nonce}
use Rattle.pcp_base.specs.declared.leases.Protocol.{Protocol}
use Rattle.pcp_base.specs.declared.leases.Protocol.TheVariants.{Tcp, Udp}
use Rattle.pcp_base.specs.declared.leases.Endpoint.{Endpoint}
use Rattle.pcp_base.specs.declared.leases.Filter.{Filter}
use Rattle.pcp_base.specs.Protocols.{protocol_number, protocol_of}
use Rattle.pcp_base.specs.declared.leases.TheConstants.{MOST_FILTERS}
use Rattle.lease_records.specs.declared.terms.Term.{Term}
use Rattle.lease_records.specs.Values.{IsEndpoint, IsFilter, IsTerm}
use Rattle.lease_records.specs.RecordTexts.{endpoint_text, filter_text, term_text}
use Rattle.lease_records.specs.RecordReading.{octet_at, moment_at, address_at, nonce_at, endpoint_at, filter_at, filters_at, all_filters_at, term_at}
use Rattle.lease_records.proofs.FieldLaws.{IsBytes, bind_some, some_is, none_or, Takes, Takes-then, octets_take, octets_again, octet_takes, wide16, wide64, number_takes, number_again}

-- which way a test went
pub chosen : {A : Type 0} (b : Bool) (x y z : A) → cond b x y ≡ z → ((b ≡ true) × (x ≡ z)) ⊎ ((b ≡ false) × (y ≡ z))
chosen true x y z e = inl (refl, e)
chosen false x y z e = inr (refl, e)

-- ---- single fields

pub moment_takes : (octets : List ℕ) (x : ℕ × List ℕ) → IsBytes octets → moment_at octets ≡ Some x → Takes octets (to_be_bytes w64 x.0) x.1 × (x.0 < 2 ^ 40)
unfolding moment_at
moment_takes octets x fits e =
    let b = bind_some _ _ _ e in
    let t = number_takes w64 (2 ^ 64) wide64 octets b.0 fits b.1 in
    elim (chosen (ltb b.0.0 (2 ^ 40)) (Some (b.0.0, b.0.1)) None (Some x) b.2) [
      | inl h ↦ subst (λ (y : ℕ × List ℕ). Takes octets (to_be_bytes w64 y.0) y.1 × (y.0 < 2 ^ 40)) (some_is (b.0.0, b.0.1) x h.1) (t.0, ltb-true _ _ h.0)
      | inr h ↦ absurd (cc (h.1))
    ]

pub address_takes : (octets : List ℕ) (x : Address × List ℕ) → IsBytes octets → address_at octets ≡ Some x → Takes octets x.0.0 x.1 × (length x.0.0 ≡ 16)
unfolding address_at
address_takes octets x fits e =
    let b = bind_some _ _ _ e in
    let t = octets_take 16 octets b.0 fits b.1 in
    subst (λ (y : Address × List ℕ). Takes octets y.0.0 y.1 × (length y.0.0 ≡ 16)) (some_is (record { 0 = b.0.0 }, b.0.1) x b.2) (t.0, t.1)

pub address_again : (a : Address) (rest : List ℕ) → length a.0 ≡ 16 → address_at (a.0 ++ rest) ≡ Some (a, rest)
unfolding address_at
address_again a rest len = rw (octets_again 16 a.0 rest len) refl

nonce_takes : (octets : List ℕ) (x : Nonce × List ℕ) → IsBytes octets → nonce_at octets ≡ Some x → Takes octets x.0.0 x.1 × (length x.0.0 ≡ 12)
unfolding nonce_at
nonce_takes octets x fits e =
    let b = bind_some _ _ _ e in
    let t = octets_take 12 octets b.0 fits b.1 in
    subst (λ (y : Nonce × List ℕ). Takes octets y.0.0 y.1 × (length y.0.0 ≡ 12)) (some_is (record { 0 = b.0.0 }, b.0.1) x b.2) (t.0, t.1)

nonce_again : (n : Nonce) (rest : List ℕ) → length n.0 ≡ 12 → nonce_at (n.0 ++ rest) ≡ Some (n, rest)
unfolding nonce_at
nonce_again n rest len = rw (octets_again 12 n.0 rest len) refl

pub moment_again : (m : ℕ) (rest : List ℕ) → m < 2 ^ 40 → moment_at (to_be_bytes w64 m ++ rest) ≡ Some (m, rest)
unfolding moment_at
moment_again m rest lt =
    let small : ltb m (2 ^ 40) ≡ true = lt-ltb _ _ lt in
    rw (number_again w64 (2 ^ 64) wide64 m rest (omega arith), small) refl

pub protocol_is : (n : ℕ) (p : Protocol) → protocol_of n ≡ Some p → n ≡ protocol_number p
protocol_is n p e =
    elim (chosen (eqb n 6) (Some Tcp) (cond (eqb n 17) (Some Udp) None) (Some p) e) [
      | inl h ↦ subst (λ q. n ≡ protocol_number q) (some_is Tcp p h.1) (eqb-true _ _ h.0)
      | inr h ↦ elim (chosen (eqb n 17) (Some Udp) None (Some p) h.1) [
        | inl i ↦ subst (λ q. n ≡ protocol_number q) (some_is Udp p i.1) (eqb-true _ _ i.0)
        | inr i ↦ absurd (cc (i.1))
      ]
    ]

pub protocol_again : (p : Protocol) → protocol_of (protocol_number p) ≡ Some p
protocol_again Tcp = refl
protocol_again Udp = refl

-- ---- endpoints, filters and terms

pub endpoint_takes : (octets : List ℕ) (x : Endpoint × List ℕ) → IsBytes octets → endpoint_at octets ≡ Some x → Takes octets (endpoint_text x.0) x.1 × IsEndpoint x.0
unfolding endpoint_at
endpoint_takes octets x fits e =
    let a = bind_some _ _ _ e in
    let n = bind_some _ _ _ a.2 in
    let p = bind_some _ _ _ n.2 in
    let q = bind_some _ _ _ p.2 in
    let t = address_takes octets a.0 fits a.1 in
    let u = octet_takes a.0.1 n.0 t.0.rest_fits n.1 in
    let v = number_takes w16 (2 ^ 16) wide16 n.0.1 q.0 u.rest_fits q.1 in
    let named : Takes a.0.1 (protocol_number p.0 ∷ []) n.0.1 = subst (λ k. Takes a.0.1 (k ∷ []) n.0.1) (protocol_is n.0.0 p.0 p.1) u in
    let end = Takes-then a.0.1 (protocol_number p.0 ∷ []) n.0.1 (to_be_bytes w16 q.0.0) q.0.1 named v.0 in
    let all = Takes-then octets a.0.0.0 a.0.1 (protocol_number p.0 ∷ to_be_bytes w16 q.0.0) q.0.1 t.0 end in
    let made : Endpoint × List ℕ = (record { address = a.0.0; protocol = p.0; port = q.0.0 }, q.0.1) in
    subst (λ (y : Endpoint × List ℕ). Takes octets (endpoint_text y.0) y.1 × IsEndpoint y.0) (some_is made x q.2) (all, record { address = t.1; port = v.1 })

pub endpoint_again : (e : Endpoint) (rest : List ℕ) → IsEndpoint e → endpoint_at (endpoint_text e ++ rest) ≡ Some (e, rest)
unfolding endpoint_at
endpoint_again e rest is =
    let behind = to_be_bytes w16 e.port ++ rest in
    ap endpoint_at (append_assoc e.address.0 (protocol_number e.protocol ∷ to_be_bytes w16 e.port) rest)
    ∙ rw (address_again e.address (protocol_number e.protocol ∷ behind) is.address, protocol_again e.protocol, number_again w16 (2 ^ 16) wide16 e.port rest is.port) refl

filter_takes : (octets : List ℕ) (x : Filter × List ℕ) → IsBytes octets → filter_at octets ≡ Some x → Takes octets (filter_text x.0) x.1 × IsFilter x.0
unfolding filter_at
filter_takes octets x fits e =
    let n = bind_some _ _ _ e in
    let p = bind_some _ _ _ n.2 in
    let a = bind_some _ _ _ p.2 in
    let t = octet_takes octets n.0 fits n.1 in
    let u = number_takes w16 (2 ^ 16) wide16 n.0.1 p.0 t.rest_fits p.1 in
    let v = address_takes p.0.1 a.0 u.0.rest_fits a.1 in
    let front = Takes-then octets (n.0.0 ∷ []) n.0.1 (to_be_bytes w16 p.0.0) p.0.1 t u.0 in
    let all = Takes-then octets (n.0.0 ∷ to_be_bytes w16 p.0.0) p.0.1 a.0.0.0 a.0.1 front v.0 in
    let made : Filter × List ℕ = (record { prefix = n.0.0; port = p.0.0; remote = a.0.0 }, a.0.1) in
    subst (λ (y : Filter × List ℕ). Takes octets (filter_text y.0) y.1 × IsFilter y.0) (some_is made x a.2) (all, record { port = u.1; remote = v.1 })

filter_again : (f : Filter) (rest : List ℕ) → IsFilter f → filter_at (filter_text f ++ rest) ≡ Some (f, rest)
unfolding filter_at
filter_again f rest is = rw (number_again w16 (2 ^ 16) wide16 f.port (f.remote.0 ++ rest) is.port, address_again f.remote rest is.remote) refl

filters_take : (n : ℕ) (octets : List ℕ) (x : List Filter × List ℕ) → IsBytes octets → filters_at n octets ≡ Some x → Takes octets (flat_map filter_text x.0) x.1 × (length x.0 ≡ n) × AllByRecursion IsFilter x.0
unfolding filters_at
filters_take zero octets x fits e =
    subst (λ (y : List Filter × List ℕ). Takes octets (flat_map filter_text y.0) y.1 × (length y.0 ≡ 0) × AllByRecursion IsFilter y.0) (some_is ([], octets) x e) (record { parts = refl; rest_fits = fits }, refl, tt)
filters_take (suc n) octets x fits e =
    let a = bind_some _ _ _ e in
    let b = bind_some _ _ _ a.2 in
    let first = filter_takes octets a.0 fits a.1 in
    let second = filters_take n a.0.1 b.0 first.0.rest_fits b.1 in
    let both = Takes-then octets (filter_text a.0.0) a.0.1 (flat_map filter_text b.0.0) b.0.1 first.0 second.0 in
    let made : List Filter × List ℕ = (a.0.0 ∷ b.0.0, b.0.1) in
    subst (λ (y : List Filter × List ℕ). Takes octets (flat_map filter_text y.0) y.1 × (length y.0 ≡ suc n) × AllByRecursion IsFilter y.0) (some_is made x b.2) (rw flat_map-cons both, ap suc second.1, (first.1, second.2))

filters_again : (fs : List Filter) (rest : List ℕ) → AllByRecursion IsFilter fs → filters_at (length fs) (flat_map filter_text fs ++ rest) ≡ Some (fs, rest)
unfolding filters_at
filters_again [] rest is = refl
filters_again (f ∷ fs) rest is =
    let regrouped : flat_map filter_text (f ∷ fs) ++ rest ≡ filter_text f ++ (flat_map filter_text fs ++ rest) = ap (λ (x : List ℕ). x ++ rest) (flat_map-cons filter_text f fs) ∙ append_assoc (filter_text f) (flat_map filter_text fs) rest in
    ap (filters_at (suc (length fs))) regrouped ∙ rw (filter_again f (flat_map filter_text fs ++ rest) is.0, filters_again fs rest is.1) refl

abbrev pub filters_text : List Filter → List ℕ
filters_text fs = length fs ∷ flat_map filter_text fs

abbrev pub AreFilters : List Filter → Type 0
AreFilters fs = (length fs ≤ MOST_FILTERS) × AllByRecursion IsFilter fs

pub all_filters_take : (octets : List ℕ) (x : List Filter × List ℕ) → IsBytes octets → all_filters_at octets ≡ Some x → Takes octets (filters_text x.0) x.1 × AreFilters x.0
unfolding all_filters_at
all_filters_take octets x fits e =
    let n = bind_some (octet_at octets) (λ m. cond (ltb 8 m.0) None (filters_at m.0 m.1)) x e in
    let g = none_or (ltb 8 n.0.0) (filters_at n.0.0 n.0.1) x n.2 in
    let t = octet_takes octets n.0 fits n.1 in
    let u = filters_take n.0.0 n.0.1 x t.rest_fits g.1 in
    let few : n.0.0 ≤ MOST_FILTERS = ltb-false _ _ g.0 in
    let counted : Takes octets (length x.0 ∷ []) n.0.1 = subst (λ k. Takes octets (k ∷ []) n.0.1) (sym u.1) t in
    (Takes-then octets (length x.0 ∷ []) n.0.1 (flat_map filter_text x.0) x.1 counted u.0, (omega (arith, u.1), u.2))

pub all_filters_again : (fs : List Filter) (rest : List ℕ) → AreFilters fs → all_filters_at (filters_text fs ++ rest) ≡ Some (fs, rest)
unfolding all_filters_at
all_filters_again fs rest is =
    let few : ltb 8 (length fs) ≡ false = le-ltb _ _ is.0 in
    rw (few, filters_again fs rest is.1) refl

pub term_takes : (octets : List ℕ) (x : Term × List ℕ) → IsBytes octets → term_at octets ≡ Some x → Takes octets (term_text x.0) x.1 × IsTerm x.0
unfolding term_at
term_takes octets x fits e =
    let n = bind_some _ _ _ e in
    let g = bind_some _ _ _ n.2 in
    let m = bind_some _ _ _ g.2 in
    let t = nonce_takes octets n.0 fits n.1 in
    let u = moment_takes n.0.1 g.0 t.0.rest_fits g.1 in
    let v = number_takes w64 (2 ^ 64) wide64 g.0.1 m.0 u.0.rest_fits m.1 in
    let front = Takes-then octets n.0.0.0 n.0.1 (to_be_bytes w64 g.0.0) g.0.1 t.0 u.0 in
    let all = Takes-then octets (n.0.0.0 ++ to_be_bytes w64 g.0.0) g.0.1 (to_be_bytes w64 m.0.0) m.0.1 front v.0 in
    let made : Term × List ℕ = (record { nonce = n.0.0; granted = g.0.0; expiry = m.0.0 }, m.0.1) in
    subst (λ (y : Term × List ℕ). Takes octets (term_text y.0) y.1 × IsTerm y.0) (some_is made x m.2) (all, record { nonce = t.1; granted = u.1; expiry = v.1 })

pub term_again : (t : Term) (rest : List ℕ) → IsTerm t → term_at (term_text t ++ rest) ≡ Some (t, rest)
unfolding term_at
term_again t rest is =
    let behind = to_be_bytes w64 t.expiry ++ rest in
    let regrouped : term_text t ++ rest ≡ t.nonce.0 ++ (to_be_bytes w64 t.granted ++ behind) = append_assoc (t.nonce.0 ++ to_be_bytes w64 t.granted) (to_be_bytes w64 t.expiry) rest ∙ append_assoc t.nonce.0 (to_be_bytes w64 t.granted) behind in
    ap term_at regrouped ∙ rw (nonce_again t.nonce (to_be_bytes w64 t.granted ++ behind) is.nonce, moment_again t.granted behind is.granted, number_again w64 (2 ^ 64) wide64 t.expiry rest is.expiry) refl
