-- The orders of endpoints and of ports.
use Rattle.std.proofs.Common.{◌≡◌, ℕ, ◌<◌, ◌≤◌, true, false, List, refl, sym, ap, ◌∙◌, subst, arith}
use Rattle.std.specs.Ordering.{nat_cmp, ordering_then, ordering_reverse, is_gt, is_lt, is_eq, MatchOrdering}
use Rattle.std.specs.declared.cmp.Ordering.{Ordering}
use Rattle.std.specs.declared.cmp.Ordering.TheVariants.{Less, Equal, Greater}
use Rattle.std.specs.Cmp.{IsTotalOrder, nat_cmp_total}
use Rattle.std.specs.Cmp.Lexicographic.{slice_cmp}
use Rattle.std.specs.BTreeMap.{is_at}
use Rattle.std.proofs.lemmas.Cmp.{tied_itself, nat_list_cmp_total, ranked}
use Rattle.std.proofs.lemmas.Map.Lookups.{CmpEqualImpliesEq, exact_unsigned, exact_bytes, exact_pairs}
use Rattle.pcp_base.specs.declared.addresses.Address.{Address}
use Rattle.pcp_base.specs.declared.leases.Protocol.{Protocol}
use Rattle.pcp_base.specs.declared.leases.Protocol.TheVariants.{Tcp, Udp}
use Rattle.pcp_base.specs.declared.leases.Endpoint.{Endpoint}
use Rattle.pcp_base.specs.Protocols.{protocol_number}
use Rattle.ordered_index.proofs.EntryLaws.{equal}
use Rattle.ordered_index.specs.Orders.{Place, port_at, place_of, port_cmp, place_cmp}
pub use Rattle.ordered_index.specs.Orders.{port_total, place_total}

pub not_gt_first : (o r : Ordering) → is_gt (ordering_then o r) ≡ false → is_gt o ≡ false
not_gt_first Less r h = refl
not_gt_first Equal r h = refl
not_gt_first Greater r h = h

not_gt_second : (o r : Ordering) → o ≡ Equal → is_gt (ordering_then o r) ≡ false → is_gt r ≡ false
not_gt_second o r e h = ap (λ t. is_gt (ordering_then t r)) (sym e) ∙ h

equal_from : (o p : Ordering) → o ≡ ordering_reverse p → is_gt o ≡ false → is_gt p ≡ false → o ≡ Equal
equal_from Less Less e h k = absurd (let no : Less ≡ Greater = e in cc)
equal_from Less Equal e h k = e
equal_from Less Greater e h k = absurd (let no : true ≡ false = k in cc)
equal_from Equal p e h k = refl
equal_from Greater p e h k = absurd (let no : true ≡ false = h in cc)

pub both_equal : (o r : Ordering) → ordering_then o r ≡ Equal → (o ≡ Equal) × (r ≡ Equal)
both_equal Less r h = absurd (let no : Less ≡ Equal = h in cc)
both_equal Equal r h = (refl, h)
both_equal Greater r h = absurd (let no : Greater ≡ Equal = h in cc)

reversed : (p q : Ordering) → p ≡ ordering_reverse q → is_lt q ≡ false → is_gt p ≡ false
reversed p Less e h = absurd (let no : true ≡ false = h in cc)
reversed p Equal e h = ap is_gt e
reversed p Greater e h = ap is_gt e

module _ {K : Type 0} {R : K → K → Ordering} (o : IsTotalOrder R) where
  pinch : CmpEqualImpliesEq R → (x y : K) → is_gt (R x y) ≡ false → is_gt (R y x) ≡ false → x ≡ y
  pinch exact x y h k = exact x y (equal_from (R x y) (R y x) (o.antisymm x y) h k)

  -- not below is at or above
  pub flip : (x y : K) → is_lt (R x y) ≡ false → is_gt (R y x) ≡ false
  flip x y h = reversed (R y x) (R x y) (o.antisymm y x) h

  tied : (x y : K) → x ≡ y → R x y ≡ Equal
  tied x y e = ap (R x) (sym e) ∙ tied_itself o x

  pub at_self : (x : K) → is_at (R x) x ≡ true
  at_self x = ap is_eq (tied_itself o x)

pub at_exact : {K : Type 0} {R : K → K → Ordering} → CmpEqualImpliesEq R → (x y : K) → is_at (R x) y ≡ true → x ≡ y
at_exact {R = R} exact x y h = exact x y (equal (R x y) h)

pub port_exact : CmpEqualImpliesEq port_cmp
port_exact = exact_pairs nat_cmp nat_cmp exact_unsigned exact_unsigned

pub place_exact : CmpEqualImpliesEq place_cmp
place_exact = exact_pairs (slice_cmp nat_cmp) port_cmp exact_bytes port_exact

protocol_same : (p q : Protocol) → protocol_number p ≡ protocol_number q → p ≡ q
protocol_same Tcp Tcp h = refl
protocol_same Tcp Udp h = absurd (omega (arith, h))
protocol_same Udp Tcp h = absurd (omega (arith, h))
protocol_same Udp Udp h = refl

pub address_same : (a b : Address) → a.0 ≡ b.0 → a ≡ b
address_same a b e = ap (λ (z : List ℕ). record { 0 = z }) e

pub endpoint_same : (x y : Endpoint) → x.address ≡ y.address → x.protocol ≡ y.protocol → x.port ≡ y.port → x ≡ y
endpoint_same x y a p n =
    ap (λ (z : Address). record { address = z; protocol = x.protocol; port = x.port }) a
    ∙ ap (λ (z : Protocol). record { address = y.address; protocol = z; port = x.port }) p
    ∙ ap (λ (z : ℕ). record { address = y.address; protocol = y.protocol; port = z }) n

-- two endpoints in one place are one
pub place_of-one : (x y : Endpoint) → place_of x ≡ place_of y → x ≡ y
place_of-one x y h =
    endpoint_same x y (address_same x.address y.address (ap (λ (p : Place). p.0) h)) (protocol_same x.protocol y.protocol (ap (λ (p : Place). p.1.0) h))
    (ap (λ (p : Place). p.1.1) h)

pub protocol_one : (p q : Protocol) (a b : ℕ) → port_at p a ≡ port_at q b → p ≡ q
protocol_one p q a b h = protocol_same p q (ap (λ (x : ℕ × ℕ). x.0) h)

le_step : (a b : ℕ) (o : Ordering) → MatchOrdering o (a < b) (a ≡ b) (b < a) → is_gt o ≡ false → a ≤ b
le_step a b Less m h = omega (arith, m)
le_step a b Equal m h = omega (arith, m)
le_step a b Greater m h = absurd (let no : true ≡ false = h in cc)

pub nat_not_gt : (a b : ℕ) → is_gt (nat_cmp a b) ≡ false → a ≤ b
nat_not_gt a b h = le_step a b (nat_cmp a b) (ranked a b (nat_cmp a b) refl) h

gt_step : (a b : ℕ) (o : Ordering) → MatchOrdering o (a < b) (a ≡ b) (b < a) → a ≤ b → is_gt o ≡ false
gt_step a b Less m h = refl
gt_step a b Equal m h = refl
gt_step a b Greater m h = absurd (omega (arith, m, h))

nat_gt_not : (a b : ℕ) → a ≤ b → is_gt (nat_cmp a b) ≡ false
nat_gt_not a b h = gt_step a b (nat_cmp a b) (ranked a b (nat_cmp a b) refl) h

-- between two ports of a protocol lie ports of that protocol alone
pub ports_between : (a k b : ℕ × ℕ) → a.0 ≡ b.0 → is_gt (port_cmp a k) ≡ false → is_gt (port_cmp k b) ≡ false → (k.0 ≡ b.0) × (a.1 ≤ k.1) × (k.1 ≤ b.1)
ports_between a k b same h g =
    let h1 : is_gt (nat_cmp a.0 k.0) ≡ false = not_gt_first _ _ h in
    let g1 : is_gt (nat_cmp k.0 b.0) ≡ false = not_gt_first _ _ g in
    let p : k.0 ≡ b.0 = (let l = nat_not_gt a.0 k.0 h1 in let m = nat_not_gt k.0 b.0 g1 in omega (arith, l, m, same)) in
    let ak : nat_cmp a.0 k.0 ≡ Equal = tied nat_cmp_total a.0 k.0 (same ∙ sym p) in
    let kb : nat_cmp k.0 b.0 ≡ Equal = tied nat_cmp_total k.0 b.0 p in
    (p, nat_not_gt a.1 k.1 (not_gt_second _ _ ak h), nat_not_gt k.1 b.1 (not_gt_second _ _ kb g))

pub ports_up_to : (a b : ℕ × ℕ) → a.0 ≡ b.0 → a.1 ≤ b.1 → is_gt (port_cmp a b) ≡ false
ports_up_to a b same h =
    ap (λ o. is_gt (ordering_then o (nat_cmp a.1 b.1))) (tied nat_cmp_total a.0 b.0 same) ∙ nat_gt_not a.1 b.1 h

-- between two places of an address and protocol lie places of these alone
pub places_between : (a k b : Place) → a.0 ≡ b.0 → a.1.0 ≡ b.1.0 → is_gt (place_cmp a k) ≡ false → is_gt (place_cmp k b) ≡ false →
    (k.0 ≡ b.0) × (k.1.0 ≡ b.1.0) × (a.1.1 ≤ k.1.1) × (k.1.1 ≤ b.1.1)
places_between a k b address protocol h g =
    let h1 : is_gt (slice_cmp nat_cmp a.0 k.0) ≡ false = not_gt_first _ _ h in
    let g1 : is_gt (slice_cmp nat_cmp k.0 b.0) ≡ false = not_gt_first _ _ g in
    let bytes : k.0 ≡ b.0 = pinch nat_list_cmp_total exact_bytes k.0 b.0 g1 (subst (λ (x : List ℕ). is_gt (slice_cmp nat_cmp x k.0) ≡ false) address h1) in
    let ak : slice_cmp nat_cmp a.0 k.0 ≡ Equal = tied nat_list_cmp_total a.0 k.0 (address ∙ sym bytes) in
    let kb : slice_cmp nat_cmp k.0 b.0 ≡ Equal = tied nat_list_cmp_total k.0 b.0 bytes in
    let rest = ports_between a.1 k.1 b.1 protocol (not_gt_second _ _ ak h) (not_gt_second _ _ kb g) in
    (bytes, rest.0, rest.1, rest.2)

pub places_up_to : (a b : Place) → a.0 ≡ b.0 → a.1.0 ≡ b.1.0 → a.1.1 ≤ b.1.1 → is_gt (place_cmp a b) ≡ false
places_up_to a b address protocol h =
    ap (λ o. is_gt (ordering_then o (port_cmp a.1 b.1))) (tied nat_list_cmp_total a.0 b.0 address) ∙ ports_up_to a.1 b.1 protocol h

less_step : (a b : ℕ) (o : Ordering) → MatchOrdering o (a < b) (a ≡ b) (b < a) → a < b → o ≡ Less
less_step a b Less m h = refl
less_step a b Equal m h = absurd (omega (arith, m, h))
less_step a b Greater m h = absurd (omega (arith, m, h))

-- places of an address and protocol are in the order of their ports
pub places_less : (a b : Place) → a.0 ≡ b.0 → a.1.0 ≡ b.1.0 → a.1.1 < b.1.1 → place_cmp a b ≡ Less
places_less a b address protocol h =
    ap (λ o. ordering_then o (port_cmp a.1 b.1)) (tied nat_list_cmp_total a.0 b.0 address)
    ∙ ap (λ o. ordering_then o (nat_cmp a.1.1 b.1.1)) (tied nat_cmp_total a.1.0 b.1.0 protocol)
    ∙ less_step a.1.1 b.1.1 (nat_cmp a.1.1 b.1.1) (ranked a.1.1 b.1.1 (nat_cmp a.1.1 b.1.1) refl) h

not_less_step : (a b : ℕ) (o : Ordering) → MatchOrdering o (a < b) (a ≡ b) (b < a) → o ≡ Less → a < b
not_less_step a b Less m h = m
not_less_step a b Equal m h = absurd (let no : Equal ≡ Less = h in cc)
not_less_step a b Greater m h = absurd (let no : Greater ≡ Less = h in cc)

then_equal : (o r : Ordering) → o ≡ Equal → ordering_then o r ≡ Less → r ≡ Less
then_equal o r e h = ap (λ t. ordering_then t r) (sym e) ∙ h

pub less_places : (a b : Place) → a.0 ≡ b.0 → a.1.0 ≡ b.1.0 → place_cmp a b ≡ Less → a.1.1 < b.1.1
less_places a b address protocol h =
    let first : port_cmp a.1 b.1 ≡ Less = then_equal (slice_cmp nat_cmp a.0 b.0) (port_cmp a.1 b.1) (tied nat_list_cmp_total a.0 b.0 address) h in
    let second : nat_cmp a.1.1 b.1.1 ≡ Less = then_equal (nat_cmp a.1.0 b.1.0) (nat_cmp a.1.1 b.1.1) (tied nat_cmp_total a.1.0 b.1.0 protocol) first in
    not_less_step a.1.1 b.1.1 (nat_cmp a.1.1 b.1.1) (ranked a.1.1 b.1.1 (nat_cmp a.1.1 b.1.1) refl) second
