-- Which ports MAP leases own, by the numbers of their first and last.
use Rattle.std.proofs.Common.{◌≡◌, ℕ, zero, suc, ◌+◌, ◌-◌, Bool, true, false, ◌&&◌, ◌||◌, nat_le, nat_lt, ◌==◌, List, ◌++◌, map, flat_map, refl, ap, sym, ◌∙◌, arith, add-zero}
use Rattle.std.specs.List.{list_any, range_with_len}
use Rattle.std.proofs.lemmas.Bool.{eqb-true}
use Rattle.std.proofs.lemmas.Bool.Decides.{nat_tests}
use Rattle.std.proofs.lemmas.List.Folds.{list_any-append}
use Rattle.pcp_base.specs.declared.leases.Protocol.{Protocol}
use Rattle.pcp_base.specs.declared.leases.Endpoint.{Endpoint}
use Rattle.pcp_base.specs.declared.leases.MapLease.{MapLease}
use Rattle.pcp_base.specs.declared.leases.PeerLease.{PeerLease}
use Rattle.pcp_base.specs.declared.leases.Owner.{Owner}
use Rattle.pcp_base.specs.Tables.{same_protocol}
use Rattle.pcp_base.specs.Owners.{map_owner, map_owners, peer_owner, is_port, is_owned, owns, endpoint_behind}
use Rattle.pcp_base.proofs.Anys.{any-same, any-map, any-flat_map}

-- no port is below its own place, or none is left
ends : (x port : ℕ) → false ≡ (nat_le x port && nat_lt port (x + 0))
ends x port = grind (arith, nat_tests)

-- the first of suc n ports, or one of the n behind it
first_or_later : (x port n : ℕ) → ((x == port) || (nat_le (x + 1) port && nat_lt port (x + 1 + n))) ≡ (nat_le x port && nat_lt port (x + suc n))
first_or_later x port n = grind (arith, nat_tests)

pub no_more : (s f : Bool) (x port : ℕ) → false ≡ ((s && nat_le x port && nat_lt port (x + 0)) && f)
no_more false f x port = refl
no_more true f x port = ap (λ (b : Bool). b && f) (ends x port)

either_with : (p q f : Bool) → ((p && f) || (q && f)) ≡ ((p || q) && f)
either_with true true true = refl
either_with true true false = refl
either_with true false f = either_false f
  where
    either_false : (f : Bool) → (f || false) ≡ f
    either_false true = refl
    either_false false = refl
either_with false q f = refl

pub one_more : (s : Bool) (x port n : ℕ) → ((s && x == port) || (s && nat_le (x + 1) port && nat_lt port (x + 1 + n))) ≡ (s && nat_le x port && nat_lt port (x + suc n))
one_more false x port n = refl
one_more true x port n = first_or_later x port n

-- the fact of the place at which the port is
here : (f : ℕ → Bool) (s b : Bool) (x a port : ℕ) → (x + a == port) ≡ b → ((s && b) && f a) ≡ ((s && b) && f (port - x))
here f false b x a port h = refl
here f true false x a port h = refl
here f true true x a port h =
    let place : a ≡ port - x = omega (arith, eqb-true (x + a) port h) in
    ap f place

-- one of a run of ports, each with a fact of its place
pub port_among : (f : ℕ → Bool) (s : Bool) (x port a n : ℕ) →
    list_any (λ i. (s && x + i == port) && f i) (range_with_len a n)
    ≡ ((s && nat_le (x + a) port && nat_lt port (x + a + n)) && f (port - x))
port_among f s x port a zero = no_more s (f (port - x)) (x + a) port
port_among f s x port a (suc n) =
    let next : x + (a + 1) ≡ x + a + 1 = omega arith in
    let later = port_among f s x port (a + 1) n in
    ap (λ (b : Bool). ((s && x + a == port) && f a) || b) (rw next at later)
    ∙ ap (λ (b : Bool). b || ((s && nat_le (x + a + 1) port && nat_lt port (x + a + 1 + n)) && f (port - x))) (here f s (x + a == port) x a port refl)
    ∙ either_with (s && x + a == port) (s && nat_le (x + a + 1) port && nat_lt port (x + a + 1 + n)) (f (port - x))
    ∙ ap (λ (b : Bool). b && f (port - x)) (one_more s (x + a) port n)

module _ (protocol : Protocol) (port : ℕ) where
  -- a lease owns the port, and the endpoint that it belongs to passes
  pub owned_with : (g : Endpoint → Bool) (l : MapLease) →
      list_any (λ o. is_port protocol port o && g o.endpoint) (map_owners l) ≡ (owns protocol port l && g (endpoint_behind port l))
  owned_with g l =
      let f : ℕ → Bool = λ i. g (record { address = l.address; protocol = l.protocol; port = l.internal + i }) in
      any-map (λ (o : Owner). is_port protocol port o && g o.endpoint) (map_owner l) (range_with_len 0 l.count)
      ∙ rw add-zero at (port_among f (same_protocol l.protocol protocol) l.external port 0 l.count)

  and_true : (b : Bool) → (b && true) ≡ b
  and_true true = refl
  and_true false = refl

  pub owned_by : (l : MapLease) → list_any (is_port protocol port) (map_owners l) ≡ owns protocol port l
  owned_by l =
      any-same (is_port protocol port) (λ (o : Owner). is_port protocol port o && true) (map_owners l) (λ o. sym (and_true (is_port protocol port o)))
      ∙ owned_with (λ e. true) l ∙ and_true (owns protocol port l)

  pub owned_of_either : (maps : List MapLease) (peers : List PeerLease) →
      is_owned protocol port (flat_map map_owners maps ++ map peer_owner peers)
      ≡ (list_any (owns protocol port) maps || list_any (λ l. is_port protocol port (peer_owner l)) peers)
  owned_of_either maps peers =
      list_any-append (is_port protocol port) (flat_map map_owners maps) (map peer_owner peers)
      ∙ ap (λ (b : Bool). b || list_any (is_port protocol port) (map peer_owner peers))
      (any-flat_map (is_port protocol port) map_owners maps ∙ any-same (λ (l : MapLease). list_any (is_port protocol port) (map_owners l)) (owns protocol port) maps owned_by)
      ∙ ap (λ (b : Bool). list_any (owns protocol port) maps || b) (any-map (is_port protocol port) peer_owner peers)
