-- A lease that renews another is that lease with its own expiry and filters.
use Rattle.std.specs.Prelude.{◌≡◌, ℕ, true, List, bytes_eq}
use Rattle.std.proofs.Common.{sym, ap, ◌∙◌}
use Rattle.std.proofs.lemmas.Bool.{and_parts, and_from, eqb-true, eq-eqb}
use Rattle.std.proofs.lemmas.Slice.Eq.{bytes_eq-Decides}
use Rattle.pcp_base.specs.declared.addresses.Nonce.{Nonce}
use Rattle.pcp_base.specs.declared.leases.Endpoint.{Endpoint}
use Rattle.pcp_base.specs.declared.leases.Filter.{Filter}
use Rattle.pcp_base.specs.declared.leases.MapLease.{MapLease}
use Rattle.pcp_base.specs.Tables.{first_endpoint}
use Rattle.pcp_base.proofs.Same.{same_endpoint-Decides}
use Rattle.pcp_base.specs.Fits.{renews}

abbrev made : Endpoint → ℕ → ℕ → Nonce → ℕ → ℕ → List Filter → MapLease
made e count external nonce granted expiry filters = record {
  address = e.address;
  protocol = e.protocol;
  internal = e.port;
  count = count;
  external = external;
  nonce = nonce;
  granted = granted;
  expiry = expiry;
  filters = filters;
}

abbrev pub renewed : MapLease → MapLease → MapLease
renewed old new = record old { expiry = new.expiry; filters = new.filters }

made_same : (d e : Endpoint) (c i x y : ℕ) (n m : Nonce) (g h z : ℕ) (fs : List Filter) → d ≡ e → c ≡ i → x ≡ y → n ≡ m → g ≡ h →
    made d c x n g z fs ≡ made e i y m h z fs
made_same d e c i x y n m g h z fs p q r s t =
    ap (λ v. made v c x n g z fs) p ∙ ap (λ v. made e v x n g z fs) q ∙ ap (λ v. made e i v n g z fs) r
    ∙ ap (λ v. made e i y v g z fs) s ∙ ap (λ v. made e i y m v z fs) t

nonce_same : (a b : Nonce) → bytes_eq a.0 b.0 ≡ true → a ≡ b
nonce_same a b h = ap (λ (o : List ℕ). record { 0 = o }) ((bytes_eq-Decides a.0 b.0).0 h)

pub renewed-from_test : (old new : MapLease) → renews old new ≡ true → new ≡ renewed old new
renewed-from_test old new h =
    let a = and_parts _ _ h in let b = and_parts _ _ a.0 in let c = and_parts _ _ b.0 in let d = and_parts _ _ c.0 in
    made_same (first_endpoint new) (first_endpoint old) new.count old.count new.external old.external new.nonce old.nonce new.granted old.granted new.expiry new.filters
    (sym ((same_endpoint-Decides (first_endpoint old) (first_endpoint new)).0 d.0))
    (sym (eqb-true old.count new.count d.1)) (sym (eqb-true old.external new.external c.1))
    (sym (nonce_same old.nonce new.nonce b.1)) (sym (eqb-true old.granted new.granted a.1))

pub test-from_renewed : (old new : MapLease) → new ≡ renewed old new → renews old new ≡ true
test-from_renewed old new e =
    and_from _ _ (and_from _ _ (and_from _ _ (and_from _ _
    ((same_endpoint-Decides (first_endpoint old) (first_endpoint new)).1 (sym (ap first_endpoint e)))
    (eq-eqb old.count new.count (sym (ap (λ (l : MapLease). l.count) e))))
    (eq-eqb old.external new.external (sym (ap (λ (l : MapLease). l.external) e))))
    ((bytes_eq-Decides old.nonce.0 new.nonce.0).1 (sym (ap (λ (l : MapLease). l.nonce.0) e))))
    (eq-eqb old.granted new.granted (sym (ap (λ (l : MapLease). l.granted) e)))
