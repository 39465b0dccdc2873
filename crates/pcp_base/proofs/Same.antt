-- Where a test finds two the same, they are equal.
use Rattle.std.specs.Prelude.{◌≡◌, true, refl, List, ℕ}
use Rattle.std.specs.Bool.{Decides}
use Rattle.std.proofs.Common.{ap, ◌∙◌}
use Rattle.std.proofs.lemmas.Bool.Decides.{Decides-eqb, Decides-and}
use Rattle.std.proofs.lemmas.Slice.Eq.{bytes_eq-Decides}
use Rattle.pcp_base.specs.declared.addresses.Address.{Address}
use Rattle.pcp_base.specs.declared.leases.Protocol.{Protocol}
use Rattle.pcp_base.specs.declared.leases.Protocol.TheVariants.{Tcp, Udp}
use Rattle.pcp_base.specs.declared.leases.Endpoint.{Endpoint}
use Rattle.pcp_base.specs.Tables.{same_address, same_protocol, same_endpoint}

pub same_address-Decides : (a b : Address) → Decides (same_address a b) (a ≡ b)
same_address-Decides a b = (λ h. ap (λ (o : List ℕ). record { 0 = o }) ((bytes_eq-Decides a.0 b.0).0 h), λ e. (bytes_eq-Decides a.0 b.0).1 (ap (λ x. x.0) e))

same_protocol-refl : (p : Protocol) → same_protocol p p ≡ true
same_protocol-refl Tcp = refl
same_protocol-refl Udp = refl

same_protocol-eq : (p q : Protocol) → same_protocol p q ≡ true → p ≡ q
same_protocol-eq Tcp Tcp h = refl
same_protocol-eq Udp Udp h = refl
same_protocol-eq Tcp Udp h = cc
same_protocol-eq Udp Tcp h = cc

pub same_protocol-Decides : (p q : Protocol) → Decides (same_protocol p q) (p ≡ q)
same_protocol-Decides p q = (same_protocol-eq p q, λ e. rw (← e) (same_protocol-refl p))

abbrev endpoint : Address → Protocol → ℕ → Endpoint
endpoint a p n = record { address = a; protocol = p; port = n }

endpoint-same : (x y : Address) (p q : Protocol) (m n : ℕ) → x ≡ y → p ≡ q → m ≡ n → endpoint x p m ≡ endpoint y q n
endpoint-same x y p q m n a b c = ap (λ z. endpoint z p m) a ∙ ap (λ z. endpoint y z m) b ∙ ap (λ z. endpoint y q z) c

pub same_endpoint-Decides : (a b : Endpoint) → Decides (same_endpoint a b) (a ≡ b)
same_endpoint-Decides a b =
    let d = Decides-and _ _ (Decides-and _ _ (same_address-Decides a.address b.address) (same_protocol-Decides a.protocol b.protocol)) (Decides-eqb a.port b.port) in (
      λ h. endpoint-same a.address b.address a.protocol b.protocol a.port b.port (d.0 h).0.0 (d.0 h).0.1 (d.0 h).1,
      λ e. d.1 ((ap (λ (x : Endpoint). x.address) e, ap (λ (x : Endpoint). x.protocol) e), ap (λ (x : Endpoint). x.port) e),
    )
