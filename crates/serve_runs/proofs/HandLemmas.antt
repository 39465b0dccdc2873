-- What is handed to an outbox, one after the other and by each door.
use Rattle.std.proofs.Common.{◌≡◌, ℕ, ◌+◌, List, [], ◌∷◌, ◌++◌, length, map, filter, flat_map, take, slice_get, Bool, true, false, Some, refl, sym, ap, subst, ◌∙◌, if◌then◌else◌}
use Rattle.std.proofs.Math.Seq.{take-length}
use Rattle.std.proofs.lemmas.Grind.{flat_map-append}
use Rattle.std.proofs.lemmas.List.{append-nil, map-append, take_more}
use Rattle.std.proofs.lemmas.List.Elements.{filter-append}
use Rattle.std.proofs.lemmas.Option.{get_or_from_slice_get, slice_get_within}
use Rattle.pcp_base.specs.declared.configs.Config.{Config}
use Rattle.pcp_base.specs.declared.datagrams.Datagram.{Datagram}
use Rattle.pcp_announce.specs.declared.doors.Door.{Door}
use Rattle.pcp_announce.specs.Doors.{reaches}
use Rattle.job_workers.specs.Sends.{HandsOne}
use Rattle.job_workers.specs.Stations.{OutState}
use Rattle.job_workers.proofs.SendLemmas.{HandsAll-append}
use Rattle.serve_runs.specs.Updates.{Hands, by_doors}

-- a list that ends with nothing to hand on: both parts are so
front-empty : (xs ys : List Datagram) → xs ++ ys ≡ [] → xs ≡ []
front-empty [] ys none = refl
front-empty (x ∷ xs) ys none = absurd (let e : x ∷ (xs ++ ys) ≡ [] = none in cc)

back-empty : (xs ys : List Datagram) → xs ++ ys ≡ [] → ys ≡ []
back-empty [] ys none = none
back-empty (x ∷ xs) ys none = absurd (let e : x ∷ (xs ++ ys) ≡ [] = none in cc)

-- one datagram
hands-one : (d : Datagram) (b : Bool) (a c : OutState) → HandsOne d b a.sent c.sent a.faults c.faults → Hands (d ∷ []) a c
hands-one d b a c one = record {
  handed = record { reply = d; sent = b } ∷ [];
  datagrams_are = refl;
  all = one;
  idle = λ none. absurd (let e : d ∷ [] ≡ [] = none in cc);
}

hands-append : (xs ys : List Datagram) (a b c : OutState) → Hands xs a b → Hands ys b c → Hands (xs ++ ys) a c
hands-append xs ys a b c p q = record {
  handed = p.handed ++ q.handed;
  datagrams_are = map-append (λ h. h.reply) p.handed q.handed ∙ ap (λ ds. ds ++ map (λ h. h.reply) q.handed) p.datagrams_are
      ∙ ap (λ ds. xs ++ ds) q.datagrams_are;
  all = HandsAll-append p.handed q.handed a.sent b.sent c.sent a.faults b.faults c.faults p.all q.all;
  idle = λ none. q.idle (back-empty xs ys none) ∙ p.idle (front-empty xs ys none);
}

-- by the doors in front that reach its receiver
abbrev pub by_reaching : Datagram → List Door → List Datagram
by_reaching u ds = map (λ door. record u { door = door }) (map (λ (d : Door). d.number) (filter (λ (d : Door). reaches d u.peer) ds))

one_door : (u : Datagram) (d : Door) (b : Bool)
    → map (λ door. record u { door = door }) (map (λ (x : Door). x.number) (if b then d ∷ [] else [])) ≡ (if b then record u { door = d.number } ∷ [] else [])
one_door u d true = refl
one_door u d false = refl

next : {X : Type 0} (xs : List X) (i : ℕ) (x : X) → slice_get xs i ≡ Some x → take (i + 1) xs ≡ take i xs ++ x ∷ []
next xs i x at = take_more xs i x (slice_get_within xs i x at) ∙ ap (λ y. take i xs ++ y ∷ []) (get_or_from_slice_get xs i x x at)

reaching-more : (u : Datagram) (ds : List Door) (i : ℕ) (d : Door) → slice_get ds i ≡ Some d
    → by_reaching u (take (i + 1) ds) ≡ by_reaching u (take i ds) ++ (if reaches d u.peer then record u { door = d.number } ∷ [] else [])
reaching-more u ds i d at =
    let p : Door → Bool = λ d. reaches d u.peer in
    let n : Door → ℕ = λ d. d.number in
    let f : ℕ → Datagram = λ door. record u { door = door } in
    ap (by_reaching u) (next ds i d at)
    ∙ ap (λ l. map f (map n l)) (filter-append p (take i ds) (d ∷ []))
    ∙ ap (map f) (map-append n (filter p (take i ds)) (filter p (d ∷ [])))
    ∙ map-append f (map n (filter p (take i ds))) (map n (filter p (d ∷ [])))
    ∙ ap (λ l. by_reaching u (take i ds) ++ l) (one_door u d (p d))

-- one door more
pub doors-more : (u : Datagram) (ds : List Door) (i : ℕ) (d : Door) (a b c : OutState) → slice_get ds i ≡ Some d
    → Hands (by_reaching u (take i ds)) a b → Hands (if reaches d u.peer then record u { door = d.number } ∷ [] else []) b c
    → Hands (by_reaching u (take (i + 1) ds)) a c
doors-more u ds i d a b c at p q =
    subst (λ l. Hands l a c) (sym (reaching-more u ds i d at))
    (hands-append (by_reaching u (take i ds)) (if reaches d u.peer then record u { door = d.number } ∷ [] else []) a b c p q)

-- one update more
pub updates-more : (config : Config) (us : List Datagram) (i : ℕ) (u : Datagram) (a b c : OutState) → slice_get us i ≡ Some u
    → Hands (flat_map (by_doors config) (take i us)) a b → Hands (by_doors config u) b c
    → Hands (flat_map (by_doors config) (take (i + 1) us)) a c
updates-more config us i u a b c at p q =
    let f = by_doors config in
    let more : flat_map f (take (i + 1) us) ≡ flat_map f (take i us) ++ f u =
    ap (flat_map f) (next us i u at) ∙ flat_map-append f (take i us) (u ∷ []) ∙ ap (λ l. flat_map f (take i us) ++ l) (append-nil (f u)) in
    subst (λ l. Hands l a c) (sym more) (hands-append (flat_map f (take i us)) (f u) a b c p q)

-- where the receiver is reached
pub by-one : (u : Datagram) (d : Door) (b sent : Bool) (octets : List ℕ) (a c : OutState) → b ≡ true → octets ≡ u.octets
    → HandsOne (record { peer = u.peer; port = u.port; door = d.number; octets = octets }) sent a.sent c.sent a.faults c.faults
    → Hands (if b then record u { door = d.number } ∷ [] else []) a c
by-one u d b sent octets a c some is one =
    rw some (hands-one (record u { door = d.number }) sent a c
    (subst (λ l. HandsOne (record { peer = u.peer; port = u.port; door = d.number; octets = l }) sent a.sent c.sent a.faults c.faults) is one))

-- by all doors
pub by-all : (u : Datagram) (ds : List Door) (n : ℕ) (a c : OutState) → n ≡ length ds → Hands (by_reaching u (take n ds)) a c
    → Hands (by_reaching u ds) a c
by-all u ds n a c all h = subst (λ l. Hands (by_reaching u l) a c) (ap (λ k. take k ds) all ∙ take-length ds) h
