-- Datagrams that are handed on one after the other.
use Rattle.std.proofs.Common.{◌≡◌, ℕ, ◌+◌, ◌≤◌, Bool, not, List, [], ◌∷◌, ◌++◌, length, map, filter, Option, None, Some, refl, sym, ap, ◌∙◌, subst, inl, inr, append_assoc, arith, length-append}
use Rattle.std.proofs.lemmas.List.{append-nil, map-append}
use Rattle.std.proofs.lemmas.List.Elements.{filter-append}
use Rattle.pcp_base.specs.declared.datagrams.Datagram.{Datagram}
use Rattle.pcp_io.specs.Sends.{sent_with}
use Rattle.relay_runs.specs.Handing.{Handed, Hands, HandsAll, HasRisenBy, Told, lost_count, taken_of}

sent_with-append : (before : Option (List Datagram)) (xs ys : List Datagram) → sent_with (sent_with before xs) ys ≡ sent_with before (xs ++ ys)
sent_with-append None xs ys = refl
sent_with-append (Some ds) xs ys = ap Some (append_assoc ds xs ys)

sent_with-nil : (before : Option (List Datagram)) → sent_with before [] ≡ before
sent_with-nil None = refl
sent_with-nil (Some ds) = ap Some (append-nil ds)

taken_of-append : (xs ys : List Handed) → taken_of (xs ++ ys) ≡ taken_of xs ++ taken_of ys
taken_of-append xs ys =
    ap (map (λ (h : Handed). h.datagram)) (filter-append (λ (h : Handed). h.taken) xs ys)
    ∙ map-append (λ (h : Handed). h.datagram) (filter (λ (h : Handed). h.taken) xs) (filter (λ (h : Handed). h.taken) ys)

lost_count-append : (xs ys : List Handed) → lost_count (xs ++ ys) ≡ lost_count xs + lost_count ys
lost_count-append xs ys =
    ap length (filter-append (λ (h : Handed). not h.taken) xs ys) ∙ length-append (filter (λ (h : Handed). not h.taken) xs) (filter (λ (h : Handed). not h.taken) ys)

-- a count that has risen twice
risen-on : (n m before mid now : ℕ) → HasRisenBy n before mid → HasRisenBy m mid now → mid ≤ now → HasRisenBy (n + m) before now
risen-on n m before mid now (inl a) (inl b) later = inl (omega (arith, a, b))
risen-on n m before mid now (inr a) b later = inr (omega (arith, a, later))
risen-on n m before mid now (inl a) (inr b) later = inr b

HandsAll-append : (xs ys : List Handed) (a b c : Told) → HandsAll xs a b → HandsAll ys b c → HandsAll (xs ++ ys) a c
HandsAll-append xs ys a b c p q = record {
  sent = q.sent ∙ (ap (λ (s : Option (List Datagram)). sent_with s (taken_of ys)) p.sent
      ∙ (sent_with-append a.sent (taken_of xs) (taken_of ys) ∙ ap (sent_with a.sent) (sym (taken_of-append xs ys))));
  faults = subst (λ n. HasRisenBy n a.faults c.faults) (sym (lost_count-append xs ys)) (risen-on _ _ _ _ _ p.faults q.faults q.later);
  later = omega (arith, p.later, q.later);
}

pub Hands-none : (a : Told) → Hands [] a a
Hands-none a = record {
  handed = [];
  are = refl;
  all = record { sent = sym (sent_with-nil a.sent); faults = inl (omega arith); later = omega arith };
}

pub Hands-one : (d : Datagram) (taken : Bool) (a b : Told) → HandsAll (record { datagram = d; taken = taken } ∷ []) a b → Hands (d ∷ []) a b
Hands-one d taken a b h = record { handed = record { datagram = d; taken = taken } ∷ []; are = refl; all = h }

pub Hands-append : (xs ys : List Datagram) (a b c : Told) → Hands xs a b → Hands ys b c → Hands (xs ++ ys) a c
Hands-append xs ys a b c p q =
    let map_is : map (λ (h : Handed). h.datagram) (p.handed ++ q.handed) ≡ xs ++ ys =
    map-append (λ (h : Handed). h.datagram) p.handed q.handed ∙ ap (λ (ds : List Datagram). ds ++ map (λ (h : Handed). h.datagram) q.handed) p.are ∙ ap (λ (ds : List Datagram). xs ++ ds) q.are in
    record { handed = p.handed ++ q.handed; are = map_is; all = HandsAll-append p.handed q.handed a b c p.all q.all }
