-- Which owner is found first among those of leases.
use Rattle.std.proofs.Common.{◌≡◌, ℕ, zero, suc, ◌+◌, ◌-◌, Bool, true, false, cond, ◌&&◌, ◌||◌, nat_le, nat_lt, ◌==◌, List, [], ◌∷◌, ◌++◌, map, flat_map, find, Option, Some, None, option_map, refl, ap, sym, ◌∙◌, arith, add-zero}
use Rattle.std.specs.List.{range_with_len}
use Rattle.std.specs.Option.{option_or}
use Rattle.std.proofs.lemmas.Bool.{eqb-true}
use Rattle.std.proofs.lemmas.List.Folds.{find-append}
use Rattle.pcp_base.specs.declared.leases.Protocol.{Protocol}
use Rattle.pcp_base.specs.declared.leases.Endpoint.{Endpoint}
use Rattle.pcp_base.specs.declared.leases.MapLease.{MapLease}
use Rattle.pcp_base.specs.declared.leases.PeerLease.{PeerLease}
use Rattle.pcp_base.specs.declared.leases.Owner.{Owner}
use Rattle.pcp_base.specs.Tables.{same_protocol}
use Rattle.pcp_base.specs.Owners.{map_owner, map_owners, peer_owner, is_port, owns, endpoint_behind}
use Rattle.pcp_base.proofs.PortLemmas.{no_more, one_more}

find-map : {X Y : Type 0} (p : Y → Bool) (f : X → Y) (xs : List X) → find p (map f xs) ≡ option_map f (find (λ x. p (f x)) xs)
find-map p f [] = refl
find-map p f (x ∷ xs) = either (p (f x)) (find-map p f xs)
  where
    either : (b : Bool) → find p (map f xs) ≡ option_map f (find (λ x. p (f x)) xs) → cond b (Some (f x)) (find p (map f xs)) ≡ option_map f (cond b (Some x) (find (λ x. p (f x)) xs))
    either true h = refl
    either false h = h

and_true : (b : Bool) → (b && true) ≡ b
and_true true = refl
and_true false = refl

none_left : (s : Bool) (x port : ℕ) → (s && nat_le x port && nat_lt port (x + 0)) ≡ false
none_left s x port = sym (and_true _) ∙ sym (no_more s true x port)

-- the place of a port in a run
port_found : (s : Bool) (x port a n : ℕ) →
    find (λ i. s && x + i == port) (range_with_len a n) ≡ cond (s && nat_le (x + a) port && nat_lt port (x + a + n)) (Some (port - x)) None
port_found s x port a zero = ap (λ (b : Bool). cond b (Some (port - x)) None) (sym (none_left s (x + a) port))
port_found s x port a (suc n) =
    let next : x + (a + 1) ≡ x + a + 1 = omega arith in
    let later = port_found s x port (a + 1) n in
    ap (λ (o : Option ℕ). cond (s && x + a == port) (Some a) o) (rw next at later)
    ∙ here s (x + a == port) refl
    ∙ ap (λ (b : Bool). cond b (Some (port - x)) None) (one_more s (x + a) port n)
  where
    here : (s b : Bool) → (x + a == port) ≡ b → cond (s && b) (Some a) (cond (s && nat_le (x + a + 1) port && nat_lt port (x + a + 1 + n)) (Some (port - x)) None)
        ≡ cond ((s && b) || (s && nat_le (x + a + 1) port && nat_lt port (x + a + 1 + n))) (Some (port - x)) None
    here false b h = refl
    here true false h = refl
    here true true h = let place : a ≡ port - x = omega (arith, eqb-true (x + a) port h) in ap Some place

module _ (protocol : Protocol) (port : ℕ) where
  abbrev test : Owner → Bool
  test = is_port protocol port

  abbrev ep : Option Owner → Option Endpoint
  ep o = option_map (λ (x : Owner). x.endpoint) o

  or_else : (a b : Option Owner) → ep (option_or a b) ≡ option_or (ep a) (ep b)
  or_else None b = refl
  or_else (Some x) b = refl

  in_map : (l : MapLease) → ep (find test (map_owners l)) ≡ cond (owns protocol port l) (Some (endpoint_behind port l)) None
  in_map l =
      ap ep (find-map test (map_owner l) (range_with_len 0 l.count)
      ∙ ap (option_map (map_owner l)) (rw add-zero at (port_found (same_protocol l.protocol protocol) l.external port 0 l.count)))
      ∙ through (owns protocol port l)
    where
      through : (b : Bool) → ep (option_map (map_owner l) (cond b (Some (port - l.external)) None)) ≡ cond b (Some (endpoint_behind port l)) None
      through true = refl
      through false = refl

  in_maps : (ls : List MapLease) → ep (find test (flat_map map_owners ls)) ≡ option_map (endpoint_behind port) (find (owns protocol port) ls)
  in_maps [] = refl
  in_maps (l ∷ ls) =
      ap ep (find-append test (map_owners l) (flat_map map_owners ls))
      ∙ or_else (find test (map_owners l)) (find test (flat_map map_owners ls))
      ∙ ap (λ (o : Option Endpoint). option_or o (ep (find test (flat_map map_owners ls)))) (in_map l)
      ∙ ap (λ (o : Option Endpoint). option_or (cond (owns protocol port l) (Some (endpoint_behind port l)) None) o) (in_maps ls)
      ∙ first (owns protocol port l)
    where
      first : (b : Bool) → option_or (cond b (Some (endpoint_behind port l)) None) (option_map (endpoint_behind port) (find (owns protocol port) ls))
          ≡ option_map (endpoint_behind port) (cond b (Some l) (find (owns protocol port) ls))
      first true = refl
      first false = refl

  in_peers : (ps : List PeerLease) → ep (find test (map peer_owner ps)) ≡ option_map (λ (l : PeerLease). l.endpoint) (find (λ l. is_port protocol port (peer_owner l)) ps)
  in_peers ps = ap ep (find-map test peer_owner ps) ∙ through (find (λ l. is_port protocol port (peer_owner l)) ps)
    where
      through : (o : Option PeerLease) → ep (option_map peer_owner o) ≡ option_map (λ (l : PeerLease). l.endpoint) o
      through None = refl
      through (Some l) = refl

  -- the owner that is found first is a MAP lease's, or else a PEER lease's
  pub found_in : (ls : List MapLease) (ps : List PeerLease) → ep (find test (flat_map map_owners ls ++ map peer_owner ps))
      ≡ option_or (option_map (endpoint_behind port) (find (owns protocol port) ls)) (option_map (λ (l : PeerLease). l.endpoint) (find (λ l. is_port protocol port (peer_owner l)) ps))
  found_in ls ps =
      ap ep (find-append test (flat_map map_owners ls) (map peer_owner ps))
      ∙ or_else (find test (flat_map map_owners ls)) (find test (map peer_owner ps))
      ∙ ap (λ (o : Option Endpoint). option_or o (ep (find test (map peer_owner ps)))) (in_maps ls)
      ∙ ap (λ (o : Option Endpoint). option_or (option_map (endpoint_behind port) (find (owns protocol port) ls)) o) (in_peers ps)
