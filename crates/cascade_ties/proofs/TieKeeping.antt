-- Ties by their clients, local ports and times.
use Rattle.std.proofs.Common.{◌≡◌, ℕ, ◌&&◌, ◌==◌, Bool, true, false, not, List, [], ◌∷◌, ◌++◌, Some, None, refl, sym, ap, ◌∙◌, subst, arith}
use Rattle.std.specs.List.{AllByRecursion, AllZip, list_any}
use Rattle.std.specs.Ordering.{nat_cmp}
use Rattle.std.specs.BTreeMap.{get, values}
use Rattle.std.proofs.lemmas.Bool.{and_parts, and_from, eqb-true, eq-eqb}
use Rattle.pcp_base.specs.declared.leases.Endpoint.{Endpoint}
use Rattle.pcp_base.specs.declared.leases.Protocol.{Protocol}
use Rattle.pcp_base.specs.Tables.{EachTwo, put, same_endpoint, same_protocol}
use Rattle.pcp_base.proofs.Same.{same_endpoint-Decides, same_protocol-Decides}
use Rattle.pcp_base.proofs.Members.{All-both, All-weaker, All-filter, All-push, EachTwo-filter, EachTwo-push, find-none, any-none, AllZip-all, AllZip-each_two}
use Rattle.ordered_index.specs.declared.numbered.Numbered.{Numbered}
use Rattle.ordered_index.specs.Orders.{Place, place_of, port_at, place_cmp, port_cmp}
use Rattle.ordered_index.specs.Steps.{Appends, Replaces, Forgets, Stays}
use Rattle.ordered_index.proofs.Entries.{All-at, false_by, find_none_at}
use Rattle.ordered_index.proofs.EntryLaws.{none_by}
use Rattle.ordered_index.proofs.Keeping.{AreLaws, Tells, TellsPort, each_weaker, key-from, port-from, put-last, appended-kept, appended-values, replaced-kept, replaced-values, taken-out, IsTakenOut, same-kept, same-values}
use Rattle.ordered_index.proofs.OrderLaws.{port_total, port_exact, place_total, place_exact, place_of-one, protocol_one}
use Rattle.cascade_ties.specs.declared.ties.Tied.{Tied}
use Rattle.cascade_ties.specs.Kept.{place_of_tie, port_of_tie, tie_keying, AreKeptTies, HasLocal}
use Rattle.cascade_ties.specs.Ties.{AreOtherTies, TiesDiffer, has_client, has_local, tie_of}
use Rattle.cascade_ties.proofs.OneLemmas.{Once, put-zip}

pub tie_laws : AreLaws tie_keying
tie_laws = record { key_total = place_total; key_exact = place_exact; port_total = port_total; port_exact = port_exact }

pub tells_client : (e : Endpoint) → Tells tie_keying (has_client e) (place_of e)
tells_client e = record {
  to = λ t h. ap place_of ((same_endpoint-Decides t.tie.client e).0 h);
  from = λ t same. (same_endpoint-Decides t.tie.client e).1 (place_of-one t.tie.client e same);
}

pub tells_local : (protocol : Protocol) (port : ℕ) → TellsPort tie_keying (has_local protocol port) (port_at protocol port)
tells_local protocol port = record {
  to = λ t h. (let p = and_parts _ _ h in
      ap (λ (z : Protocol). port_at z t.tie.local) ((same_protocol-Decides t.tie.client.protocol protocol).0 p.0) ∙ ap (port_at protocol) (eqb-true t.tie.local port p.1));
  from = λ t same. and_from _ _ ((same_protocol-Decides t.tie.client.protocol protocol).1 (protocol_one t.tie.client.protocol protocol t.tie.local port same))
      (eq-eqb t.tie.local port (ap (λ (z : ℕ × ℕ). z.1) same));
}

clash : {A : Type 0} (b : Bool) → b ≡ true → b ≡ false → A
clash b h k = absurd (let no : true ≡ false = sym h ∙ k in cc)

ports_apart : (a b : Tied) → AreOtherTies a b → port_of_tie a ≡ port_of_tie b → ⊥
ports_apart a b h same = clash (has_local b.tie.client.protocol b.tie.local a) ((tells_local b.tie.client.protocol b.tie.local).from a same) h.locals

pub ports_differ : (ts : List Tied) → TiesDiffer ts → EachTwo (λ a b. port_of_tie a ≡ port_of_tie b → ⊥) ts
ports_differ ts h = each_weaker AreOtherTies (λ a b. port_of_tie a ≡ port_of_tie b → ⊥) ports_apart ts h

-- one tie at most is of an endpoint, and one to a local port
pub once_client : (e : Endpoint) (ts : List Tied) → TiesDiffer ts → Once (has_client e) ts
once_client e ts h = each_weaker AreOtherTies (λ a b. has_client e a ≡ true → has_client e b ≡ false)
    (λ a b other t. false_by (has_client e b) (λ u.
    clash (has_client b.tie.client a) ((same_endpoint-Decides a.tie.client b.tie.client).1 ((same_endpoint-Decides a.tie.client e).0 t ∙ sym ((same_endpoint-Decides b.tie.client e).0 u))) other.clients)) ts h

pub once_local : (protocol : Protocol) (port : ℕ) (ts : List Tied) → TiesDiffer ts → Once (has_local protocol port) ts
once_local protocol port ts h = each_weaker AreOtherTies (λ a b. has_local protocol port a ≡ true → has_local protocol port b ≡ false)
    (λ a b other t. false_by (has_local protocol port b) (λ u. ports_apart a b other ((tells_local protocol port).to a t ∙ sym ((tells_local protocol port).to b u)))) ts h

-- a tie in the place of another one of the same endpoint, to the same local port
pub record IsSameTie (a b : Tied) : Type 0 where
  pub client : a.tie.client ≡ b.tie.client
  pub local : a.tie.local ≡ b.tie.local

pub same_itself : (a : Tied) → IsSameTie a a
same_itself a = record { client = refl; local = refl }

same_other : (x y u v : Tied) → IsSameTie x y → IsSameTie u v → AreOtherTies x u → AreOtherTies y v
same_other x y u v r s h = record {
  clients = sym (ap (λ (e : Endpoint). same_endpoint e u.tie.client) r.client ∙ ap (same_endpoint y.tie.client) s.client) ∙ h.clients;
  locals = sym (ap (λ (e : Endpoint). same_protocol e.protocol u.tie.client.protocol && x.tie.local == u.tie.local) r.client
      ∙ ap (λ (e : Endpoint). same_protocol y.tie.client.protocol e.protocol && x.tie.local == u.tie.local) s.client
      ∙ ap (λ (n : ℕ). same_protocol y.tie.client.protocol v.tie.client.protocol && n == u.tie.local) r.local
      ∙ ap (λ (n : ℕ). same_protocol y.tie.client.protocol v.tie.client.protocol && y.tie.local == n) s.local) ∙ h.locals;
}

pub differ_zip : (xs ys : List Tied) → AllZip IsSameTie xs ys → TiesDiffer xs → TiesDiffer ys
differ_zip xs ys z h = AllZip-each_two IsSameTie AreOtherTies same_other xs ys z h

module _ (it : Numbered Tied Place (ℕ × ℕ)) (h : AreKeptTies it) where
  -- an endpoint without a tie has no number, nor has a port without one
  pub client_free : (e : Endpoint) → tie_of e (values it.leases) ≡ None → get place_cmp it.keys (place_of e) ≡ None
  client_free e none = none_by (get place_cmp it.keys (place_of e)) (λ n a.
      let y = key-from tie_keying tie_laws it h.kept (place_of e) n a in
      clash (has_client e y.0) ((tells_client e).from y.0 y.2) (find_none_at (has_client e) it.leases.entries n y.0 y.1 none))

  pub local_free : (protocol : Protocol) (port : ℕ) → list_any (has_local protocol port) (values it.leases) ≡ false → get port_cmp it.ports (port_at protocol port) ≡ None
  local_free protocol port none = none_by (get port_cmp it.ports (port_at protocol port)) (λ n a.
      let y = port-from tie_keying tie_laws it h.kept (port_at protocol port) n a in
      clash (has_local protocol port y.0) ((tells_local protocol port).from y.0 y.2)
      (All-at (λ t. has_local protocol port t ≡ false) it.leases.entries n y.0 (any-none (has_local protocol port) (values it.leases) none) y.1))

  module _ (t : Tied) (none : tie_of t.tie.client (values it.leases) ≡ None) (vacant : list_any (has_local t.tie.client.protocol t.tie.local) (values it.leases) ≡ false) where
    pub apart_from : AllByRecursion (λ y. AreOtherTies y t) (values it.leases)
    apart_from = All-weaker (λ y. (has_client t.tie.client y ≡ false) × (has_local t.tie.client.protocol t.tie.local y ≡ false)) (λ y. AreOtherTies y t)
        (λ y both. record { clients = both.0; locals = both.1 }) (values it.leases)
        (All-both _ _ (values it.leases) (find-none (has_client t.tie.client) (values it.leases) none) (any-none (has_local t.tie.client.protocol t.tie.local) (values it.leases) vacant))

    module _ (new : Numbered Tied Place (ℕ × ℕ)) (n : ℕ) (appends : Appends place_cmp port_cmp it new t (place_of_tie t) (port_of_tie t) n) where
      pub tie_appended : values new.leases ≡ values it.leases ++ t ∷ []
      tie_appended =
          appended-values tie_keying tie_laws it h.kept new t (place_of_tie t) (port_of_tie t) n refl refl appends (client_free t.tie.client none) (local_free t.tie.client.protocol t.tie.local vacant)
          (has_client t.tie.client) (tells_client t.tie.client)
          ∙ put-last (has_client t.tie.client) t (values it.leases) (find-none (has_client t.tie.client) (values it.leases) none)

      pub appended_ties : HasLocal t → AreKeptTies new
      appended_ties local = record {
        differ = subst TiesDiffer (sym tie_appended) (EachTwo-push AreOtherTies (values it.leases) t h.differ apart_from);
        locals = subst (AllByRecursion HasLocal) (sym tie_appended) (All-push HasLocal (values it.leases) t h.locals local);
        kept = appended-kept tie_keying tie_laws it h.kept new t (place_of_tie t) (port_of_tie t) n refl refl appends (client_free t.tie.client none) (local_free t.tie.client.protocol t.tie.local vacant);
      }

  pub tie_stays : (new : Numbered Tied Place (ℕ × ℕ)) → Stays it new → AreKeptTies new
  tie_stays new stays = let same = same-values tie_keying tie_laws it h.kept new stays in record {
    differ = subst TiesDiffer (sym same) h.differ;
    locals = subst (AllByRecursion HasLocal) (sym same) h.locals;
    kept = same-kept tie_keying tie_laws it h.kept new stays;
  }

  -- the tie at the number of an endpoint was taken out
  module _ (e : Endpoint) (n : ℕ) (x : Tied) (number : get place_cmp it.keys (place_of e) ≡ Some n) (at_n : get nat_cmp it.leases n ≡ Some x) where
    at_from : (y : Tied) × (get nat_cmp it.leases n ≡ Some y) × (place_of_tie y ≡ place_of e)
    at_from = key-from tie_keying tie_laws it h.kept (place_of e) n number

    pub client_is : x.tie.client ≡ e
    client_is = let one : Some x ≡ Some at_from.0 = sym at_n ∙ at_from.1 in let same : x ≡ at_from.0 = cc in
        place_of-one x.tie.client e (ap place_of_tie same ∙ at_from.2)

    pub is_taken : (new : Numbered Tied Place (ℕ × ℕ)) → Forgets place_cmp port_cmp it new n (place_of e) (port_at e.protocol x.tie.local) → IsTakenOut tie_keying (has_client e) x it new
    is_taken new forgets = taken-out tie_keying tie_laws it h.kept new (has_client e) (place_of e) (place_of e) (port_at e.protocol x.tie.local) n x (tells_client e) refl
        (ap (λ (z : Endpoint). port_at z.protocol x.tie.local) (sym client_is)) number at_n forgets

    pub taken_ties : (new : Numbered Tied Place (ℕ × ℕ)) → IsTakenOut tie_keying (has_client e) x it new → AreKeptTies new
    taken_ties new out = record {
      differ = subst TiesDiffer (sym out.gone) (EachTwo-filter AreOtherTies (λ t. not (has_client e t)) (values it.leases) h.differ);
      locals = subst (AllByRecursion HasLocal) (sym out.gone) (All-filter HasLocal (λ t. not (has_client e t)) (values it.leases) h.locals);
      kept = out.kept;
    }

    -- or another one was put in its place
    module _ (t : Tied) (is : IsSameTie x t) where
      pub port_same : port_of_tie t ≡ port_of_tie x
      port_same = ap (λ (z : Endpoint). port_at z.protocol t.tie.local) (sym is.client) ∙ ap (port_at x.tie.client.protocol) (sym is.local)

    module _ (t : Tied) (is : IsSameTie x t) (new : Numbered Tied Place (ℕ × ℕ)) (replaces : Replaces port_cmp it new n t (port_of_tie t) (port_of_tie t)) where
      key_same : place_of_tie x ≡ place_of_tie t
      key_same = ap place_of is.client

      pub tie_replaced : values new.leases ≡ put (has_client t.tie.client) t (values it.leases)
      tie_replaced = replaced-values tie_keying tie_laws it h.kept new n x t at_n key_same (port_of_tie t) (port_of_tie t) (port_same t is) refl replaces (has_client t.tie.client) (tells_client t.tie.client)

      pub replaced_zip : tie_of t.tie.client (values it.leases) ≡ Some x → AllZip IsSameTie (values it.leases) (values new.leases)
      replaced_zip found = subst (AllZip IsSameTie (values it.leases)) (sym tie_replaced) (put-zip (has_client t.tie.client) x IsSameTie t (values it.leases) same_itself is found)

      pub replaced_ties : AllZip IsSameTie (values it.leases) (values new.leases) → AreKeptTies new
      replaced_ties z = let differ = differ_zip (values it.leases) (values new.leases) z h.differ in record {
        differ = differ;
        locals = AllZip-all IsSameTie HasLocal HasLocal (λ a b s l. let eq = s.local in let from = l.from in let to = l.to in record { from = omega (arith, eq, from); to = omega (arith, eq, to) }) (values it.leases) (values new.leases) z h.locals;
        kept = replaced-kept tie_keying tie_laws it h.kept new n x t at_n key_same (port_of_tie t) (port_of_tie t) (port_same t is) refl replaces (ports_differ (values new.leases) differ);
      }
