-- What a cascade keeps of its ties, after a step.
use Rattle.std.proofs.Common.{◌≡◌, ℕ, suc, ◌<◌, ◌≤◌, ◌==◌, max, Bool, true, false, not, cond, List, [], ◌∷◌, length, filter, find, Some, Result, Ok, Err, refl, sym, ap, ◌∙◌, subst, arith, length-append}
use Rattle.pcp_base.specs.declared.leases.Endpoint.{Endpoint}
use Rattle.pcp_base.specs.Tables.{put}
use Rattle.pcp_base.proofs.Members.{All-IsIn, All-filter, All-push, find-some}
use Rattle.pcp_base.proofs.Puts.{put_All}
use Rattle.pcp_base.specs.declared.leases.Protocol.{Protocol}
use Rattle.pcp_codec.specs.declared.layout.TheConstants.{HEAD_OCTETS}
use Rattle.pcp_codec.specs.declared.requests.Common.{Common}
use Rattle.pcp_options.specs.declared.responses.Response.{Response}
use Rattle.proxy_core.specs.Down.{is_success}
use Rattle.cascade_ties.specs.declared.ties.Tie.{Tie}
use Rattle.cascade_ties.specs.declared.ties.Tied.{Tied}
use Rattle.cascade_ties.specs.declared.ties.Waiting.{Waiting}
use Rattle.cascade_ties.specs.Ties.{MakesTies, MayChange, MayMove, MayTie, Ties, has_client, has_local, is_over, still, tie_at, tie_of, with_change, with_tie, without}
use Rattle.cascade_ties.proofs.TieKeeping.{IsSameTie}
use Rattle.proxy_cascade.specs.FromServers.{ended, granted, is_taken, moved, next_local, resting, still_waits, ties_after, told_lifetime}
use Rattle.proxy_cascade.specs.Kept.{AreKept, HasHead, IsKept, IsTied, IsTime}
use Rattle.proxy_cascade.proofs.Deeds.{waited}
use Rattle.proxy_cascade.proofs.TieFacts.{differ-moved, differ-push, differ-put, differ-still, found-client, found-itself, next-vacant}

fewer : (p : Tied → Bool) (xs : List Tied) → length (filter p xs) ≤ length xs
fewer p [] = omega arith
fewer p (x ∷ xs) = step (p x) (fewer p xs)
  where
    step : (b : Bool) → length (filter p xs) ≤ length xs → length (cond b (x ∷ filter p xs) (filter p xs)) ≤ suc (length xs)
    step true h = omega (arith, h)
    step false h = omega (arith, h)

as_many : (p : Tied → Bool) (y x : Tied) (xs : List Tied) → find p xs ≡ Some x → length (put p y xs) ≡ length xs
as_many p y x [] h = absurd cc
as_many p y x (z ∷ zs) h = step (p z) h (as_many p y x zs)
  where
    step : (b : Bool) → cond b (Some z) (find p zs) ≡ Some x → (find p zs ≡ Some x → length (put p y zs) ≡ length zs) → length (cond b (y ∷ zs) (z ∷ put p y zs)) ≡ suc (length zs)
    step true k later = refl
    step false k later = ap suc (later k)

kept-filter : (p : Tied → Bool) (ts : List Tied) → AreKept ts → AreKept (filter p ts)
kept-filter p ts h = record {
  few = (let less = fewer p ts in let few = h.few in omega (arith, less, few));
  differ = differ-still p ts h.differ;
  heads = All-filter (λ t. HasHead t.waiting) p ts h.heads;
}

pub kept-change : (ts : Ties) (x t : Tied) → IsSameTie x t → tie_of t.tie.client ts.each ≡ Some x → HasHead t.waiting → AreKept ts.each → AreKept (with_change ts t).each
kept-change ts x t is found head h = record {
  few = (let same = as_many (has_client t.tie.client) t x ts.each found in let few = h.few in omega (arith, same, few));
  differ = differ-put ts.each x t is found h.differ;
  heads = put_All (λ y. HasHead y.waiting) (has_client t.tie.client) t ts.each head h.heads;
}

pub kept-tie : (ts : Ties) (t : Tied) → MayTie ts t → length ts.each < 4096 → HasHead t.waiting → AreKept ts.each → AreKept (with_tie ts t).each
kept-tie ts t may less head h = record {
  few = (let more = length-append ts.each (t ∷ []) in omega (arith, more, less));
  differ = differ-push ts t may.client may.local h.differ;
  heads = All-push (λ y. HasHead y.waiting) ts.each t h.heads head;
}

-- the tie of an endpoint, asked for again
pub may-again : (ts : Ties) (e : Endpoint) (tie : Tie) → IsTied ts e tie → (t : Tied) → t.tie.client ≡ tie.client → t.tie.local ≡ tie.local → MayChange ts t
may-again ts e tie is t client local = record {
  old = is.tied;
  client = ap (λ (z : Endpoint). tie_of z ts.each) (client ∙ sym (ap (λ (x : Tie). x.client) is.same)) ∙ found-itself e ts.each is.tied is.found;
  local = ap (λ (x : Tie). x.local) is.same ∙ sym local;
}

pub kept-again : (ts : Ties) (e : Endpoint) (tie : Tie) → IsTied ts e tie → (t : Tied) → t.tie.client ≡ tie.client → t.tie.local ≡ tie.local → HasHead t.waiting → AreKept ts.each → AreKept (with_change ts t).each
kept-again ts e tie is t client local head h =
    kept-change ts is.tied t (record { client = ap (λ (x : Tie). x.client) is.same ∙ sym client; local = ap (λ (x : Tie). x.local) is.same ∙ sym local })
    (ap (λ (z : Endpoint). tie_of z ts.each) (client ∙ sym (ap (λ (x : Tie). x.client) is.same)) ∙ found-itself e ts.each is.tied is.found) head h

-- the tie to a local port, and what waits for it
pub tied-at : (ts : Ties) (protocol : Protocol) (port : ℕ) (t : Tied) → tie_at protocol port ts.each ≡ Some t → AreKept ts.each → IsTied ts t.tie.client t.tie
tied-at ts protocol port t found h = record { tied = t; found = found-client protocol port ts.each t h.differ found; same = refl }

pub head-at : (ts : Ties) (protocol : Protocol) (port now : ℕ) (t : Tied) (w : Waiting) → tie_at protocol port ts.each ≡ Some t → still_waits now t.waiting ≡ Some w → AreKept ts.each → HEAD_OCTETS ≤ length w.request
head-at ts protocol port now t w found waits h =
    subst HasHead (waited now t.waiting w waits) (All-IsIn (λ y. HasHead y.waiting) ts.each t h.heads (find-some (has_local protocol port) ts.each t found).0)

pub kept-after : (now : ℕ) (r : Response) (common : Common) (t : Tied) (ts : Ties) → tie_of t.tie.client ts.each ≡ Some t → AreKept ts.each → AreKept (ties_after now r common t.tie ts).each
kept-after now r common t ts found h = step (is_success r.code) (r.lifetime == 0) t.tie.granted (is_taken r.code)
  where
    step : (b z g k : Bool) → AreKept (cond b (cond z (without (resting now r t.tie ts) t.tie.client) (resting now r t.tie (with_change ts (ended (granted t.tie common (told_lifetime r.lifetime) now)))))
        (cond g (with_change ts (ended t.tie)) (without (cond k (resting now r t.tie ts) ts) t.tie.client))).each
    step true true g k = kept-filter (λ x. not (has_client t.tie.client x)) ts.each h
    step true false g k = kept-change ts t (ended (granted t.tie common (told_lifetime r.lifetime) now)) (record { client = refl; local = refl }) found tt h
    step false z true k = kept-change ts t (ended t.tie) (record { client = refl; local = refl }) found tt h
    step false z false true = kept-filter (λ x. not (has_client t.tie.client x)) ts.each h
    step false z false false = kept-filter (λ x. not (has_client t.tie.client x)) ts.each h

-- the tie goes to another local port
pub kept-moved : (ts : Ties) (r : Response) (t : Tied) (w : Waiting) (local : ℕ) → tie_of t.tie.client ts.each ≡ Some t → t.waiting ≡ Some w → next_local ts r t.tie w ≡ Some local → AreKept ts.each
    → AreKept (with_change ts (moved t.tie w local)).each
kept-moved ts r t w local found waits next h = record {
  few = (let same = as_many (has_client t.tie.client) (moved t.tie w local) t ts.each found in let few = h.few in omega (arith, same, few));
  differ = differ-moved ts t r w local found next h.differ;
  heads = put_All (λ y. HasHead y.waiting) (has_client t.tie.client) (moved t.tie w local) ts.each
      (subst HasHead waits (All-IsIn (λ y. HasHead y.waiting) ts.each t h.heads (find-some (has_client t.tie.client) ts.each t found).0)) h.heads;
}

pub may-move : (ts : Ties) (r : Response) (t : Tied) (w : Waiting) (local : ℕ) → tie_of t.tie.client ts.each ≡ Some t → next_local ts r t.tie w ≡ Some local → MayMove ts t.tie.local (moved t.tie w local)
may-move ts r t w local found next = record { old = t; client = found; leaves = refl; local = next-vacant ts r t.tie w local next }

-- where a call may fail and then changes nothing
pub kept-either : {X E : Type 0} (old made new : Ties) (r : Result X E) → MakesTies old made r new → AreKept old.each → AreKept made.each → AreKept new.each
kept-either old made new (Ok v) h before after = subst (λ (ts : Ties). AreKept ts.each) (sym h.ok) after
kept-either old made new (Err e) h before after = subst (λ (ts : Ties). AreKept ts.each) (sym h.err) before

pub kept-at : (last now : ℕ) (ts : Ties) → IsKept last ts.each → IsTime now → IsKept (max last now) (still (max last now) ts).each
kept-at last now ts h time = record {
  time = (let old = h.time in omega (arith, old, time));
  kept = kept-filter (λ t. not (is_over (max last now) t)) ts.each h.kept;
}
