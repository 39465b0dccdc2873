-- Sound leases with one more.
use Rattle.std.proofs.Common.{◌≡◌, ℕ, ◌+◌, ◌<◌, ◌≤◌, ◌&&◌, ◌==◌, Bool, true, false, cond, List, [], ◌∷◌, length, count_by, Option, Some, None, not, refl, sym, ap, ◌∙◌, subst, arith}
use Rattle.std.specs.List.{AllByRecursion, list_any}
use Rattle.std.proofs.lemmas.Bool.{and_parts, and_from, or_left, or_right, eqb-true, eq-eqb}
use Rattle.pcp_base.specs.declared.addresses.Address.{Address}
use Rattle.pcp_base.specs.declared.leases.TheConstants.{MOST_LEASES, MOST_PEERS}
use Rattle.pcp_base.specs.declared.leases.Endpoint.{Endpoint}
use Rattle.pcp_base.specs.declared.leases.PeerLease.{PeerLease}
use Rattle.pcp_base.specs.Tables.{EachTwo, IsPeerLease, is_peer_of, names, same_endpoint, same_protocol}
use Rattle.pcp_base.proofs.Members.{All-weaker, All-both, any-none, find-some}
use Rattle.pcp_base.proofs.Puts.{put_All}
use Rattle.pcp_base.proofs.Same.{same_address-Decides, same_endpoint-Decides, same_protocol-Decides}
use Rattle.ordered_index.proofs.Entries.{false_by, same_tests}
use Rattle.ordered_index.proofs.EntryLaws.{tally, count-cons}
use Rattle.ordered_index.proofs.PutCounts.{tally_found, count-put}
use Rattle.peer_table.specs.Laws.{HaveRoomFor}
use Rattle.peer_table.specs.PeerLists.{peer_with_key, overlaps, with_peer, AreFellows, AreSoundPeers}

clash : (b : Bool) → b ≡ true → b ≡ false → ⊥
clash b h k = let no : true ≡ false = sym h ∙ k in cc

true_by : (b : Bool) → (b ≡ false → ⊥) → b ≡ true
true_by true h = refl
true_by false h = absurd (h refl)

all_counted : {X : Type 0} (xs : List X) → count_by (λ _. true) xs ≡ length xs
all_counted [] = refl
all_counted {X} (x ∷ xs) = let a = count-cons (λ (y : X). true) x xs in let rest = all_counted xs in omega (arith, a, rest)

-- one key is that of both
key_flip : (a b : PeerLease) → is_peer_of b.endpoint b.remote b.remote_port a ≡ true → is_peer_of a.endpoint a.remote a.remote_port b ≡ true
key_flip a b t =
    let p = and_parts _ _ t in let q = and_parts _ _ p.0 in
    and_from _ _ (and_from _ _ ((same_endpoint-Decides b.endpoint a.endpoint).1 (sym ((same_endpoint-Decides a.endpoint b.endpoint).0 q.0)))
    ((same_address-Decides b.remote a.remote).1 (sym ((same_address-Decides a.remote b.remote).0 q.1)))) (eq-eqb b.remote_port a.remote_port (sym (eqb-true a.remote_port b.remote_port p.1)))

key_same : (e : Endpoint) (remote : Address) (port : ℕ) (a b : PeerLease) → is_peer_of e remote port a ≡ true → is_peer_of e remote port b ≡ true → is_peer_of b.endpoint b.remote b.remote_port a ≡ true
key_same e remote port a b ta tb =
    let p = and_parts _ _ ta in let q = and_parts _ _ p.0 in let r = and_parts _ _ tb in let s = and_parts _ _ r.0 in
    and_from _ _ (and_from _ _ ((same_endpoint-Decides a.endpoint b.endpoint).1 ((same_endpoint-Decides a.endpoint e).0 q.0 ∙ sym ((same_endpoint-Decides b.endpoint e).0 s.0)))
    ((same_address-Decides a.remote b.remote).1 ((same_address-Decides a.remote remote).0 q.1 ∙ sym ((same_address-Decides b.remote remote).0 s.1))))
    (eq-eqb a.remote_port b.remote_port (eqb-true a.remote_port port p.1 ∙ sym (eqb-true b.remote_port port r.1)))

module _ (l : PeerLease) where
  abbrev has_key : PeerLease → Bool
  has_key = is_peer_of l.endpoint l.remote l.remote_port

  -- what of an endpoint and a port is one
  port_one : (x : PeerLease) → overlaps l x ≡ false → has_key x ≡ false → x.endpoint ≡ l.endpoint → x.external ≡ l.external
  port_one x free other same = eqb-true x.external l.external (true_by (x.external == l.external) (λ differs.
      clash (overlaps l x) (and_from _ _ (ap not other) (or_left _ _ (and_from _ _ ((same_endpoint-Decides x.endpoint l.endpoint).1 same) (ap not differs)))) free))

  endpoint_one : (x : PeerLease) → overlaps l x ≡ false → has_key x ≡ false → x.endpoint.protocol ≡ l.endpoint.protocol → x.external ≡ l.external → x.endpoint ≡ l.endpoint
  endpoint_one x free other protocol port = (same_endpoint-Decides x.endpoint l.endpoint).0 (true_by (names x l.endpoint) (λ differs.
      clash (overlaps l x) (and_from _ _ (ap not other) (or_right _ _ (and_from _ _ (and_from _ _ ((same_protocol-Decides x.endpoint.protocol l.endpoint.protocol).1 protocol) (eq-eqb x.external l.external port)) (ap not differs)))) free))

  -- a lease with another key that isn't overlapped is a fellow
  is_fellow : (x : PeerLease) → overlaps l x ≡ false → has_key x ≡ false → AreFellows x l
  is_fellow x free other = record {
    keys = other;
    shares = same_tests (same_protocol x.endpoint.protocol l.endpoint.protocol && x.external == l.external) (same_endpoint x.endpoint l.endpoint)
        (λ t. let p = and_parts _ _ t in (same_endpoint-Decides x.endpoint l.endpoint).1
        (endpoint_one x free other ((same_protocol-Decides x.endpoint.protocol l.endpoint.protocol).0 p.0) (eqb-true x.external l.external p.1)))
        (λ t. let same = (same_endpoint-Decides x.endpoint l.endpoint).0 t in
        and_from _ _ ((same_protocol-Decides x.endpoint.protocol l.endpoint.protocol).1 (ap (λ (e : Endpoint). e.protocol) same)) (eq-eqb x.external l.external (port_one x free other same)));
  }

  fellow_of : (x : PeerLease) → overlaps l x ≡ false → has_key x ≡ false → AreFellows l x
  fellow_of x free other = record {
    keys = false_by (is_peer_of x.endpoint x.remote x.remote_port l) (λ t. clash (has_key x) (key_flip l x t) other);
    shares = same_tests (same_protocol l.endpoint.protocol x.endpoint.protocol && l.external == x.external) (same_endpoint l.endpoint x.endpoint)
        (λ t. let p = and_parts _ _ t in (same_endpoint-Decides l.endpoint x.endpoint).1
        (sym (endpoint_one x free other (sym ((same_protocol-Decides l.endpoint.protocol x.endpoint.protocol).0 p.0)) (sym (eqb-true l.external x.external p.1)))))
        (λ t. let same = sym ((same_endpoint-Decides l.endpoint x.endpoint).0 t) in
        and_from _ _ ((same_protocol-Decides l.endpoint.protocol x.endpoint.protocol).1 (ap (λ (e : Endpoint). e.protocol) (sym same))) (eq-eqb l.external x.external (sym (port_one x free other same))));
  }

  -- behind a lease with the key there is no other
  behind : (x : PeerLease) (xs : List PeerLease) → AllByRecursion (AreFellows x) xs → has_key x ≡ true → AllByRecursion (λ y. has_key y ≡ false) xs
  behind x xs fellows has = All-weaker (AreFellows x) (λ y. has_key y ≡ false) (λ y both. false_by (has_key y) (λ t.
      clash (is_peer_of y.endpoint y.remote y.remote_port x) (key_same l.endpoint l.remote l.remote_port x y has t) both.keys)) xs fellows

  fellows_step : (x : PeerLease) (xs : List PeerLease) → EachTwo AreFellows (x ∷ xs) → AllByRecursion (λ y. overlaps l y ≡ false) (x ∷ xs) → EachTwo AreFellows (with_peer l xs) →
      (b : Bool) → has_key x ≡ b → EachTwo AreFellows (cond b (l ∷ xs) (x ∷ with_peer l xs))
  fellows_step x xs fellows free rest true t = (
    All-weaker (λ y. (overlaps l y ≡ false) × (has_key y ≡ false)) (AreFellows l) (λ y both. fellow_of y both.0 both.1) xs
        (All-both (λ y. overlaps l y ≡ false) (λ y. has_key y ≡ false) xs free.1 (behind x xs fellows.0 t)),
    fellows.1,
  )
  fellows_step x xs fellows free rest false t = (put_All (AreFellows x) has_key l xs (is_fellow x free.0 t) fellows.0, rest)

  fellows_put : (xs : List PeerLease) → EachTwo AreFellows xs → AllByRecursion (λ x. overlaps l x ≡ false) xs → EachTwo AreFellows (with_peer l xs)
  fellows_put [] fellows free = (tt, tt)
  fellows_put (x ∷ xs) fellows free = fellows_step x xs fellows free (fellows_put xs fellows.1 free.1) (has_key x) refl

  module _ (ls : List PeerLease) where
    abbrev before : Option PeerLease
    before = peer_with_key l.endpoint l.remote l.remote_port ls

    few_cases : (o : Option PeerLease) (n m : ℕ) → n + tally_found (λ (x : PeerLease). true) o ≡ m + 1 → m ≤ MOST_LEASES → (o ≡ None → m < MOST_LEASES) → n ≤ MOST_LEASES
    few_cases None n m sum few room = let less = room refl in let none : n + 0 ≡ m + 1 = sum in omega (arith, none, less)
    few_cases (Some x) n m sum few room = let one : n + 1 ≡ m + 1 = sum in omega (arith, one, few)

    few_put : length ls ≤ MOST_LEASES → (before ≡ None → length ls < MOST_LEASES) → length (with_peer l ls) ≤ MOST_LEASES
    few_put few room =
        let count : count_by (λ (x : PeerLease). true) (with_peer l ls) + tally_found (λ (x : PeerLease). true) before ≡ count_by (λ (x : PeerLease). true) ls + 1 =
        count-put (λ (x : PeerLease). true) has_key l ls in
        let all = all_counted ls in let after = all_counted (with_peer l ls) in
        few_cases before (length (with_peer l ls)) (length ls) (omega (arith, count, all, after)) few room

    -- of an endpoint there is one more where it is the lease's, and its key is new
    peers_cases : (e : Endpoint) (b : Bool) → names l e ≡ b → (o : Option PeerLease) → before ≡ o → (n m : ℕ) → n + tally_found (λ x. names x e) o ≡ m + tally b → m ≤ MOST_PEERS → (o ≡ None → b ≡ true → m < MOST_PEERS) → n ≤ MOST_PEERS
    peers_cases e true named None is n m sum few room = let less = room refl refl in let one : n + 0 ≡ m + 1 = sum in omega (arith, one, less)
    peers_cases e false named None is n m sum few room = let none : n + 0 ≡ m + 0 = sum in omega (arith, none, few)
    peers_cases e b named (Some x) is n m sum few room =
        let same : names x e ≡ b = ap (λ (z : Endpoint). same_endpoint z e) ((same_endpoint-Decides x.endpoint l.endpoint).0
        (and_parts _ _ (and_parts _ _ (find-some has_key ls x is).1).0).0) ∙ named in
        let both : n + tally b ≡ m + tally b = sym (ap (λ (z : Bool). n + tally z) same) ∙ sum in
        omega (arith, both, few)

    few_peers_put : (e : Endpoint) → count_by (λ x. names x e) ls ≤ MOST_PEERS → (before ≡ None → names l e ≡ true → count_by (λ x. names x e) ls < MOST_PEERS) → count_by (λ x. names x e) (with_peer l ls) ≤ MOST_PEERS
    few_peers_put e few room =
        peers_cases e (names l e) refl before refl (count_by (λ x. names x e) (with_peer l ls)) (count_by (λ x. names x e) ls) (count-put (λ x. names x e) has_key l ls) few room

pub sound_with : (l : PeerLease) (ls : List PeerLease) → AreSoundPeers ls → IsPeerLease l → list_any (overlaps l) ls ≡ false →
    (peer_with_key l.endpoint l.remote l.remote_port ls ≡ None → HaveRoomFor l ls) → AreSoundPeers (with_peer l ls)
sound_with l ls h is free room = record {
  leases = put_All IsPeerLease (is_peer_of l.endpoint l.remote l.remote_port) l ls is h.leases;
  fellows = fellows_put l ls h.fellows (any-none (overlaps l) ls free);
  few = few_put l ls h.few (λ none. (room none).few);
  few_peers = λ e. few_peers_put l ls e (h.few_peers e) (λ none named.
      subst (λ (z : Endpoint). count_by (λ x. names x z) ls < MOST_PEERS) ((same_endpoint-Decides l.endpoint e).0 named) (room none).few_peers);
}
