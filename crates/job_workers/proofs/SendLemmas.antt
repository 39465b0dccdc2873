-- Replies that are handed on one after the other.
use Rattle.std.proofs.Common.{◌≡◌, ℕ, ◌+◌, ◌<◌, ◌≤◌, Bool, true, false, not, List, [], ◌∷◌, ◌++◌, length, map, filter, take, get_or, slice_get, Option, None, Some, option_to_list, refl, sym, ap, ◌∙◌, subst, inl, inr, append_assoc, arith, length-append, suc, if◌then◌else◌}
use Rattle.std.proofs.lemmas.List.{length-map, length-take, take_more}
use Rattle.std.proofs.lemmas.List.{append-nil, map-append}
use Rattle.std.proofs.lemmas.List.Elements.{filter-append, filter_map-append}
use Rattle.std.proofs.lemmas.Option.{get_or_from_slice_get, slice_get_within}
use Rattle.std.specs.List.{cons_option, filter_map}
use Rattle.pcp_base.specs.declared.datagrams.Datagram.{Datagram}
use Rattle.pcp_announce.specs.declared.doors.Door.{Door}
use Rattle.pcp_announce.specs.declared.doors.Group.{Group}
use Rattle.pcp_announce.specs.Doors.{group_of}
use Rattle.pcp_io.specs.Sends.{sent_with}
use Rattle.job_workers.specs.declared.tallies.Sends.{Sends}
use Rattle.job_workers.specs.Sends.{Handed, HandsAll, HandsOn, HandsOne, HasRisenBy, TellsAll, sent_count, taken_of, to_all, to_group, unsent_count}

pub sent_with-append : (before : Option (List Datagram)) (xs ys : List Datagram) → sent_with (sent_with before xs) ys ≡ sent_with before (xs ++ ys)
sent_with-append None xs ys = refl
sent_with-append (Some ds) xs ys = ap Some (append_assoc ds xs ys)

pub sent_with-nil : (before : Option (List Datagram)) → sent_with before [] ≡ before
sent_with-nil None = refl
sent_with-nil (Some ds) = ap Some (append-nil ds)

taken_of-append : (xs ys : List Handed) → taken_of (xs ++ ys) ≡ taken_of xs ++ taken_of ys
taken_of-append xs ys =
    ap (map (λ (h : Handed). h.reply)) (filter-append (λ (h : Handed). h.sent) xs ys)
    ∙ map-append (λ (h : Handed). h.reply) (filter (λ (h : Handed). h.sent) xs) (filter (λ (h : Handed). h.sent) ys)

sent_count-append : (xs ys : List Handed) → sent_count (xs ++ ys) ≡ sent_count xs + sent_count ys
sent_count-append xs ys =
    ap length (filter-append (λ (h : Handed). h.sent) xs ys) ∙ length-append (filter (λ (h : Handed). h.sent) xs) (filter (λ (h : Handed). h.sent) ys)

unsent_count-append : (xs ys : List Handed) → unsent_count (xs ++ ys) ≡ unsent_count xs + unsent_count ys
unsent_count-append xs ys =
    ap length (filter-append (λ (h : Handed). not h.sent) xs ys) ∙ length-append (filter (λ (h : Handed). not h.sent) xs) (filter (λ (h : Handed). not h.sent) ys)

-- a count that has risen twice
pub risen-on : (n m before mid now : ℕ) → HasRisenBy n before mid → HasRisenBy m mid now → mid ≤ now → HasRisenBy (n + m) before now
risen-on n m before mid now (inl a) (inl b) later = inl (omega (arith, a, b))
risen-on n m before mid now (inr a) b later = inr (omega (arith, a, later))
risen-on n m before mid now (inl a) (inr b) later = inr b

pub HandsAll-append : (xs ys : List Handed) (a b c : Option (List Datagram)) (f g h : ℕ) → HandsAll xs a b f g → HandsAll ys b c g h → HandsAll (xs ++ ys) a c f h
HandsAll-append xs ys a b c f g h p q = record {
  sent = q.sent ∙ (ap (λ (s : Option (List Datagram)). sent_with s (taken_of ys)) p.sent
      ∙ (sent_with-append a (taken_of xs) (taken_of ys) ∙ ap (sent_with a) (sym (taken_of-append xs ys))));
  faults = subst (λ n. HasRisenBy n f h) (sym (unsent_count-append xs ys)) (risen-on _ _ _ _ _ p.faults q.faults q.later);
  later = omega (arith, p.later, q.later);
}

-- before any reply
pub HandsOn-none : (a : Option (List Datagram)) (f : ℕ) → HandsOn [] (record { sent = 0; failed = 0 }) a a f f
HandsOn-none a f = record {
  handed = [];
  replies_are = refl;
  all = record { sent = sym (sent_with-nil a); faults = inl (omega arith); later = omega arith };
  sent = refl;
  failed = refl;
}

abbrev pub counts_one : Sends → Bool → Sends
counts_one s true = record s { sent = s.sent + 1 }
counts_one s false = record s { failed = s.failed + 1 }

one_sent : (reply : Datagram) (b : Bool) (s : Sends) → (counts_one s b).sent ≡ s.sent + sent_count (record { reply = reply; sent = b } ∷ [])
one_sent reply true s = refl
one_sent reply false s = omega arith

one_failed : (reply : Datagram) (b : Bool) (s : Sends) → (counts_one s b).failed ≡ s.failed + unsent_count (record { reply = reply; sent = b } ∷ [])
one_failed reply true s = omega arith
one_failed reply false s = refl

-- one reply more
pub HandsOn-push : (replies : List Datagram) (reply : Datagram) (b : Bool) (s t : Sends) (a mid c : Option (List Datagram)) (f g h : ℕ)
    → HandsOn replies s a mid f g → HandsOne reply b mid c g h → t ≡ counts_one s b → HandsOn (replies ++ reply ∷ []) t a c f h
HandsOn-push replies reply b s t a mid c f g h p q is =
    let one : List Handed = record { reply = reply; sent = b } ∷ [] in
    record {
      handed = p.handed ++ one;
      replies_are = map-append (λ (x : Handed). x.reply) p.handed one ∙ ap (λ (xs : List Datagram). xs ++ reply ∷ []) p.replies_are;
      all = HandsAll-append p.handed one a mid c f g h p.all q;
      sent = ap (λ (x : Sends). x.sent) is ∙ (one_sent reply b s ∙ (ap (λ n. n + sent_count one) p.sent ∙ sym (sent_count-append p.handed one)));
      failed = ap (λ (x : Sends). x.failed) is ∙ (one_failed reply b s ∙ (ap (λ n. n + unsent_count one) p.failed ∙ sym (unsent_count-append p.handed one)));
    }

by_flag : (sent : Bool) (ts fs : List Handed) (x : Handed) (k : ℕ) → length ts + length fs ≡ k
    → length (if sent then x ∷ ts else ts) + length (if not sent then x ∷ fs else fs) ≡ suc k
by_flag true ts fs x k e = omega (arith, e)
by_flag false ts fs x k e = omega (arith, e)

-- each was taken or failed
pub counts_part : (xs : List Handed) → sent_count xs + unsent_count xs ≡ length xs
counts_part [] = refl
counts_part (x ∷ xs) = by_flag x.sent (filter (λ (h : Handed). h.sent) xs) (filter (λ (h : Handed). not h.sent) xs) x (length xs) (counts_part xs)

-- as many were handed on as there are replies
pub HandsOn-counts : (replies : List Datagram) (s : Sends) (a c : Option (List Datagram)) (f h : ℕ) → HandsOn replies s a c f h → s.sent + s.failed ≡ length replies
HandsOn-counts replies s a c f h p =
    let parts : sent_count p.handed + unsent_count p.handed ≡ length p.handed = counts_part p.handed in
    let all : length (map (λ (x : Handed). x.reply) p.handed) ≡ length replies = ap length p.replies_are in
    let same : length (map (λ (x : Handed). x.reply) p.handed) ≡ length p.handed = length-map p.handed (λ (x : Handed). x.reply) in
    omega (arith, p.sent, p.failed, parts, all, same)

-- the reply at this place was handed on too
pub HandsOn-more : (replies : List Datagram) (i : ℕ) (reply : Datagram) (b : Bool) (s t : Sends) (a mid c : Option (List Datagram)) (f g h : ℕ)
    → HandsOn (take i replies) s a mid f g → i < length replies → reply ≡ get_or replies i reply
    → HandsOne reply b mid c g h → t ≡ counts_one s b → HandsOn (take (i + 1) replies) t a c f h
HandsOn-more replies i reply b s t a mid c f g h p within at q is =
    let next : take (i + 1) replies ≡ take i replies ++ reply ∷ [] =
    take_more replies i reply within ∙ ap (λ (d : Datagram). take i replies ++ d ∷ []) (sym at) in
    subst (λ (xs : List Datagram). HandsOn xs t a c f h) (sym next) (HandsOn-push (take i replies) reply b s t a mid c f g h p q is)

-- so many were counted
pub HandsOn-bound : (replies : List Datagram) (i : ℕ) (s : Sends) (a c : Option (List Datagram)) (f h : ℕ)
    → HandsOn (take i replies) s a c f h → i ≤ length replies → s.sent + s.failed ≡ i
HandsOn-bound replies i s a c f h p within =
    HandsOn-counts (take i replies) s a c f h p ∙ omega (arith, length-take i replies, within)

pub counts_one-if : (s : Sends) (b : Bool) → (if b then record s { sent = s.sent + 1 } else record s { failed = s.failed + 1 }) ≡ counts_one s b
counts_one-if s true = refl
counts_one-if s false = refl

-- to one group
pub tells-one : (g : Option Group) (group : Group) (port : ℕ) (octets : List ℕ) (b : Bool) (a c : Option (List Datagram)) (f h : ℕ) → g ≡ Some group
    → HandsOne (to_group port octets group) b a c f h → TellsAll (option_to_list g) port octets a c f h
tells-one g group port octets b a c f h some one =
    rw some record { handed = record { reply = to_group port octets group; sent = b } ∷ []; told = refl; sends = one }

tells-append : (xs ys : List Group) (port : ℕ) (octets : List ℕ) (a b c : Option (List Datagram)) (f g h : ℕ)
    → TellsAll xs port octets a b f g → TellsAll ys port octets b c g h → TellsAll (xs ++ ys) port octets a c f h
tells-append xs ys port octets a b c f g h p q = record {
  handed = p.handed ++ q.handed;
  told = map-append (λ (x : Handed). x.reply) p.handed q.handed ∙ ap (λ ds. ds ++ map (λ (x : Handed). x.reply) q.handed) p.told
      ∙ ap (λ ds. to_all xs port octets ++ ds) q.told ∙ sym (map-append (to_group port octets) xs ys);
  sends = HandsAll-append p.handed q.handed a b c f g h p.sends q.sends;
}

one_group : (g : Option Group) → cons_option g [] ≡ option_to_list g
one_group None = refl
one_group (Some g) = refl

-- the group of the next door comes behind those of the doors before it
groups-more : (ds : List Door) (i : ℕ) (d : Door) → slice_get ds i ≡ Some d
    → filter_map group_of (take (i + 1) ds) ≡ filter_map group_of (take i ds) ++ option_to_list (group_of d)
groups-more ds i d at =
    let next : take (i + 1) ds ≡ take i ds ++ d ∷ [] =
    take_more ds i d (slice_get_within ds i d at) ∙ ap (λ (x : Door). take i ds ++ x ∷ []) (get_or_from_slice_get ds i d d at) in
    ap (filter_map group_of) next ∙ filter_map-append group_of (take i ds) (d ∷ []) ∙ ap (λ gs. filter_map group_of (take i ds) ++ gs) (one_group (group_of d))

-- one door more
pub tells-more : (ds : List Door) (i : ℕ) (d : Door) (port : ℕ) (octets : List ℕ) (a b c : Option (List Datagram)) (f g h : ℕ)
    → slice_get ds i ≡ Some d → TellsAll (filter_map group_of (take i ds)) port octets a b f g
    → TellsAll (option_to_list (group_of d)) port octets b c g h → TellsAll (filter_map group_of (take (i + 1) ds)) port octets a c f h
tells-more ds i d port octets a b c f g h at p q =
    subst (λ (gs : List Group). TellsAll gs port octets a c f h) (sym (groups-more ds i d at))
    (tells-append (filter_map group_of (take i ds)) (option_to_list (group_of d)) port octets a b c f g h p q)
