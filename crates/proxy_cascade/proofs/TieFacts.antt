-- What ties tell of one another.
use Rattle.std.proofs.Common.{◌≡◌, ℕ, ◌<◌, ◌&&◌, nat_le, Bool, true, false, cond, List, [], ◌∷◌, ◌++◌, filter, Option, Some, None, Result, Ok, Err, refl, sym, ap, ◌∙◌, subst}
use Rattle.std.specs.List.{list_any}
use Rattle.std.specs.Str.{bytes_eq}
use Rattle.std.proofs.lemmas.Bool.{and_parts, ltb-true, not-true}
use Rattle.std.proofs.lemmas.Slice.Eq.{bytes_eq-Decides}
use Rattle.pcp_base.specs.declared.addresses.Nonce.{Nonce}
use Rattle.pcp_base.specs.declared.leases.Endpoint.{Endpoint}
use Rattle.pcp_base.specs.declared.leases.Protocol.{Protocol}
use Rattle.pcp_base.specs.Tables.{put}
use Rattle.pcp_base.proofs.Members.{All-both, All-weaker, EachTwo-filter, EachTwo-push, any-none, find-none, find-some}
use Rattle.pcp_base.proofs.Same.{same_endpoint-Decides}
use Rattle.cascade_ties.specs.declared.locals.NoLocal.{NoLocal}
use Rattle.cascade_ties.specs.declared.locals.NoLocal.TheVariants.{Quota}
use Rattle.cascade_ties.specs.declared.ties.Tie.{Tie}
use Rattle.cascade_ties.specs.declared.ties.Tied.{Tied}
use Rattle.cascade_ties.specs.declared.ties.Waiting.{Waiting}
use Rattle.cascade_ties.specs.Ties.{AreOtherTies, Ties, TiesDiffer, has_client, has_local, is_vacant, least_vacant, local_for, or_no_port, tie_at, tie_of, ties_held, vacant_for}
use Rattle.cascade_ties.proofs.MoveLemmas.{moved-differ}
use Rattle.cascade_ties.proofs.OneLemmas.{put-zip}
use Rattle.cascade_ties.proofs.PoolKeeping.{find_one}
use Rattle.pcp_options.specs.declared.responses.Response.{Response}
use Rattle.proxy_cascade.specs.FromServers.{is_tried_on, moved, next_local}
use Rattle.cascade_ties.proofs.TieKeeping.{IsSameTie, differ_zip, once_client, same_itself}

-- equal octets are equal nonces
pub same-nonce : (a b : Nonce) → bytes_eq a.0 b.0 ≡ true → a ≡ b
same-nonce a b h = ap (λ (o : List ℕ). let made : Nonce = record { 0 = o } in made) ((bytes_eq-Decides a.0 b.0).0 h)

-- the tie that is found is of that endpoint
pub client-is : (e : Endpoint) (ts : List Tied) (t : Tied) → tie_of e ts ≡ Some t → t.tie.client ≡ e
client-is e ts t found = (same_endpoint-Decides t.tie.client e).0 (find-some (has_client e) ts t found).1

pub found-itself : (e : Endpoint) (ts : List Tied) (t : Tied) → tie_of e ts ≡ Some t → tie_of t.tie.client ts ≡ Some t
found-itself e ts t found = subst (λ (z : Endpoint). tie_of z ts ≡ Some t) (sym (client-is e ts t found)) found

-- a tie that is found by its local port is found by its client too
pub found-client : (protocol : Protocol) (port : ℕ) (ts : List Tied) (t : Tied) → TiesDiffer ts → tie_at protocol port ts ≡ Some t → tie_of t.tie.client ts ≡ Some t
found-client protocol port ts t differ found =
    find_one (has_client t.tie.client) ts t (once_client t.tie.client ts differ) (find-some (has_local protocol port) ts t found).0 ((same_endpoint-Decides t.tie.client t.tie.client).1 refl)

-- a port that is given is vacant
vacant-least : (ts : Ties) (protocol : Protocol) (local : ℕ) → least_vacant ts protocol ≡ Some local → is_vacant ts protocol local ≡ true
unfolding least_vacant
vacant-least ts protocol local h = (find-some (is_vacant ts protocol) _ local h).1

vacant-of : (ts : Ties) (e : Endpoint) (local : ℕ) (o : Option ℕ) → (o ≡ Some local → is_vacant ts e.protocol local ≡ true) → or_no_port o ≡ Ok local → is_vacant ts e.protocol local ≡ true
vacant-of ts e local None f h = absurd cc
vacant-of ts e local (Some port) f h = let same : port ≡ local = cc in f (ap Some same)

vacant-for : (ts : Ties) (e : Endpoint) (local : ℕ) → vacant_for ts e ≡ Some local → is_vacant ts e.protocol local ≡ true
vacant-for ts e local h = step (is_vacant ts e.protocol e.port) refl h
  where
    step : (b : Bool) → is_vacant ts e.protocol e.port ≡ b → cond b (Some e.port) (least_vacant ts e.protocol) ≡ Some local → is_vacant ts e.protocol local ≡ true
    step true t k = let same : e.port ≡ local = cc in ap (is_vacant ts e.protocol) (sym same) ∙ t
    step false t k = vacant-least ts e.protocol local k

pub vacant-local : (ts : Ties) (e : Endpoint) (local : ℕ) → local_for ts e ≡ Ok local → is_vacant ts e.protocol local ≡ true
vacant-local ts e local h = step (nat_le 64 (ties_held e.address ts.each)) h
  where
    step : (b : Bool) → cond {A = Result ℕ NoLocal} b (Err Quota) (or_no_port (vacant_for ts e)) ≡ Ok local → is_vacant ts e.protocol local ≡ true
    step true k = absurd cc
    step false k = vacant-of ts e local (vacant_for ts e) (vacant-for ts e local) k

-- ---- ties that differ go on to differ

pub differ-still : (p : Tied → Bool) (ts : List Tied) → TiesDiffer ts → TiesDiffer (filter p ts)
differ-still p ts h = EachTwo-filter AreOtherTies p ts h

pub differ-push : (ts : Ties) (t : Tied) → tie_of t.tie.client ts.each ≡ None → is_vacant ts t.tie.client.protocol t.tie.local ≡ true → TiesDiffer ts.each → TiesDiffer (ts.each ++ t ∷ [])
differ-push ts t none vacant h =
    let free = not-true (list_any (has_local t.tie.client.protocol t.tie.local) ts.each) (and_parts (nat_le ts.low t.tie.local && nat_le t.tie.local ts.high) _ (and_parts _ _ vacant).0).1 in
    EachTwo-push AreOtherTies ts.each t h
    (All-weaker (λ y. (has_client t.tie.client y ≡ false) × (has_local t.tie.client.protocol t.tie.local y ≡ false)) (λ y. AreOtherTies y t)
    (λ y both. record { clients = both.0; locals = both.1 }) ts.each
    (All-both (λ y. has_client t.tie.client y ≡ false) (λ y. has_local t.tie.client.protocol t.tie.local y ≡ false) ts.each
    (find-none (has_client t.tie.client) ts.each none) (any-none (has_local t.tie.client.protocol t.tie.local) ts.each free)))

pub differ-put : (ts : List Tied) (x t : Tied) → IsSameTie x t → tie_of t.tie.client ts ≡ Some x → TiesDiffer ts → TiesDiffer (put (has_client t.tie.client) t ts)
differ-put ts x t same found h = differ_zip ts (put (has_client t.tie.client) t ts) (put-zip (has_client t.tie.client) x IsSameTie t ts same_itself same found) h

-- the port that is asked for next is vacant
pub next-vacant : (ts : Ties) (r : Response) (tie : Tie) (w : Waiting) (local : ℕ) → next_local ts r tie w ≡ Some local → is_vacant ts tie.client.protocol local ≡ true
next-vacant ts r tie w local h = step (is_tried_on r tie w) h
  where
    step : (b : Bool) → cond b (vacant_for ts tie.client) None ≡ Some local → is_vacant ts tie.client.protocol local ≡ true
    step true k = vacant-for ts tie.client local k
    step false k = absurd cc

pub differ-moved : (ts : Ties) (t : Tied) (r : Response) (w : Waiting) (local : ℕ) → tie_of t.tie.client ts.each ≡ Some t → next_local ts r t.tie w ≡ Some local → TiesDiffer ts.each
    → TiesDiffer (put (has_client t.tie.client) (moved t.tie w local) ts.each)
differ-moved ts t r w local found next h =
    let free = not-true (list_any (has_local t.tie.client.protocol local) ts.each) (and_parts (nat_le ts.low local && nat_le local ts.high) _ (and_parts _ _ (next-vacant ts r t.tie w local next)).0).1 in
    moved-differ (moved t.tie w local) t ts.each refl found (any-none (has_local t.tie.client.protocol local) ts.each free) h

-- fewer than 16 other ports were asked for by then
pub next-fewer : (ts : Ties) (r : Response) (tie : Tie) (w : Waiting) (local : ℕ) → next_local ts r tie w ≡ Some local → w.tries < 16
next-fewer ts r tie w local h = step (is_tried_on r tie w) refl h
  where
    step : (b : Bool) → is_tried_on r tie w ≡ b → cond b (vacant_for ts tie.client) None ≡ Some local → w.tries < 16
    step true e k = ltb-true w.tries 16 (and_parts _ _ e).1
    step false e k = absurd cc
