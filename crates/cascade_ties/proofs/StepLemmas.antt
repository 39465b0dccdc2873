-- A table of ties, seen from outside, after a step.
use Rattle.std.proofs.Common.{◌≡◌, ℕ, ◌+◌, ◌<◌, ◌≤◌, ◌&&◌, nat_le, nat_lt, Bool, true, false, not, cond, List, [], ◌∷◌, ◌++◌, length, filter, Option, Some, None, IsSome, Result, Ok, Err, OnOk, OnErr, refl, sym, ap, ◌∙◌, subst, arith}
use Rattle.std.specs.List.{AllByRecursion, AllZip, list_any}
use Rattle.std.specs.Ordering.{nat_cmp}
use Rattle.std.specs.BTreeMap.{get, values}
use Rattle.std.specs.FinMap.{contains_key, empty, get-empty}
use Rattle.std.proofs.lemmas.Bool.{and_parts, leb-true, not-true}
use Rattle.std.proofs.lemmas.Bool.Decides.{nat_tests}
use Rattle.pcp_base.specs.declared.addresses.Address.{Address}
use Rattle.pcp_base.specs.declared.leases.Endpoint.{Endpoint}
use Rattle.pcp_base.specs.declared.leases.Protocol.{Protocol}
use Rattle.pcp_base.specs.declared.leases.Protocol.TheVariants.{Tcp, Udp}
use Rattle.pcp_base.proofs.Members.{All-weaker, EachTwo-push, filter-all, find-none}
use Rattle.external_pool.specs.declared.uses.Use.TheVariants.{Free, Held}
use Rattle.external_pool.specs.Calls.{MayHold, MayRelease}
use Rattle.external_pool.specs.HeldCounts.{HeldCounts, held_by}
use Rattle.external_pool.specs.Holdings.{Holdings, fresh_pool, use_of, with_use}
use Rattle.external_pool.proofs.Counted.{count-all_free, fresh-whole}
use Rattle.external_pool.proofs.Painted.{use_at-all_free}
use Rattle.ordered_index.specs.declared.numbered.Numbered.{Numbered}
use Rattle.ordered_index.specs.Ended.{IsOneEnded}
use Rattle.ordered_index.specs.Orders.{Place, place_of, port_at, place_cmp, port_cmp}
use Rattle.ordered_index.specs.MapSteps.{HasEntry}
use Rattle.ordered_index.specs.Steps.{Appends, Replaces, Forgets, Stays, IsBlank}
use Rattle.ordered_index.proofs.Endings.{one-stands, one-none}
use Rattle.ordered_index.proofs.Entries.{All-at}
use Rattle.ordered_index.proofs.EntryLaws.{none_some, some_one}
use Rattle.ordered_index.proofs.Keeping.{IsTakenOut, blank-kept, blank-values, none-found, none-gone, number-has, one-found, port-there, same-values}
use Rattle.cascade_ties.specs.declared.ties.Tied.{Tied}
use Rattle.cascade_ties.specs.Kept.{AreCounted, HasLocal, IsTiePool, IsTieTable, at_rest, left_use, place_of_tie, port_of_tie, rest_in, tie_keying, ties_of, use_by}
use Rattle.cascade_ties.specs.Ties.{AreOtherTies, MakesTies, MayChange, MayTie, Ties, TiesDiffer, has_client, has_local, is_over, rests_after, spot, still, ties_held, tie_of, with_change, with_tie, without}
use Rattle.cascade_ties.proofs.OneLemmas.{filter-out, fewer-out, find-append, none-out}
use Rattle.cascade_ties.proofs.PoolKeeping.{alike_pool, high_stays, left_pool, low_stays, may_hold, may_release, none_here, put_pool, set_rest, set_same, take_pool, zip_pool}
use Rattle.cascade_ties.proofs.RestLemmas.{Rests, rest_none}
use Rattle.cascade_ties.proofs.TieKeeping.{IsSameTie, appended_ties, apart_from, client_free, client_is, is_taken, local_free, once_client, port_same, replaced_ties, replaced_zip, taken_ties, tells_client, tie_appended, tie_laws, tie_replaced, tie_stays}

abbrev pub Numbers : Type 0
Numbers = Numbered Tied Place (ℕ × ℕ)

-- what is seen of a table, by its parts
pub seen : (rests : Rests) (new old : Holdings) (us ts : List Tied) → new.tcp.low ≡ old.tcp.low → new.tcp.high ≡ old.tcp.high → us ≡ ts → ties_of new rests us ≡ ties_of old rests ts
seen rests new old us ts l h t = λ i. record { low = l i; high = h i; each = t i; rests = rests }

pub left_low : (protocol : Protocol) (local : ℕ) (o : Option ℕ) (pool : Holdings) → (left_use protocol local o pool).tcp.low ≡ pool.tcp.low
left_low protocol local None pool = low_stays protocol local 1 Free pool
left_low protocol local (Some u) pool = low_stays protocol local 1 at_rest (with_use protocol local 1 Free pool) ∙ low_stays protocol local 1 Free pool

pub left_high : (protocol : Protocol) (local : ℕ) (o : Option ℕ) (pool : Holdings) → (left_use protocol local o pool).tcp.high ≡ pool.tcp.high
left_high protocol local None pool = high_stays protocol local 1 Free pool
left_high protocol local (Some u) pool = high_stays protocol local 1 at_rest (with_use protocol local 1 Free pool) ∙ high_stays protocol local 1 Free pool

filter_push : (p : Tied → Bool) (ts : List Tied) (t : Tied) → filter p ts ≡ ts → p t ≡ false → AllByRecursion (λ x. p x ≡ true) ts → filter p (ts ++ t ∷ []) ≡ ts
filter_push p [] t h out all = ap (λ b. cond b (t ∷ []) []) out
filter_push p (x ∷ xs) t h out all =
    ap (λ b. cond b (x ∷ filter p (xs ++ t ∷ [])) (filter p (xs ++ t ∷ []))) all.0
    ∙ ap (λ zs. x ∷ zs) (filter_push p xs t (filter-all p xs all.1) out all.1)

module _ (it : Numbers) (pool : Holdings) (rests : Rests) (h : IsTieTable it pool rests) where
  abbrev ts : List Tied
  ts = values it.leases

  -- ---- one goes
  module _ (e : Endpoint) where
    pub none_taken : get place_cmp it.keys (place_of e) ≡ None → ties_of pool rests ts ≡ without (ties_of pool rests ts) e
    none_taken free = ap (ties_of pool rests) (none-gone tie_keying tie_laws it h.ties.kept (has_client e) (place_of e) (tells_client e) free)

    pub number_there : (n : ℕ) → get place_cmp it.keys (place_of e) ≡ Some n → IsSome (get nat_cmp it.leases n)
    number_there n number = number-has tie_keying tie_laws it h.ties.kept (place_of e) n number

    module _ (n : ℕ) (x : Tied) (number : get place_cmp it.keys (place_of e) ≡ Some n) (at_n : get nat_cmp it.leases n ≡ Some x) where
      is_of : x.tie.client ≡ e
      is_of = client_is it h.ties e n x number at_n

      pub found_at : tie_of e ts ≡ Some x
      found_at = sym (one-found tie_keying tie_laws it h.ties.kept (has_client e) (place_of e) (tells_client e) n x at_n (ap place_of is_of))

      local_at : HasLocal x
      local_at = All-at HasLocal it.leases.entries n x h.ties.locals at_n

      pub may_free : MayRelease pool e.address e.protocol x.tie.local 1
      may_free = subst (λ (z : Endpoint). MayRelease pool z.address z.protocol x.tie.local 1) is_of (may_release pool (rest_in rests) ts h.pool h.ties.differ e x found_at local_at)

      module _ (new : Numbers) (after : Holdings) (forgets : Forgets place_cmp port_cmp it new n (place_of e) (port_at e.protocol x.tie.local))
          (left : after ≡ left_use e.protocol x.tie.local (rest_in rests e.protocol x.tie.local) pool) where
        out : IsTakenOut tie_keying (has_client e) x it new
        out = is_taken it h.ties e n x number at_n new forgets

        within : x.tie.local + 1 ≤ 65536
        within = let to = local_at.to in omega (arith, to)

        pool_taken : IsTiePool (left_use e.protocol x.tie.local (rest_in rests e.protocol x.tie.local) pool) (rest_in rests) (filter (λ t. not (has_client e t)) ts)
        pool_taken = subst (λ (z : Endpoint). IsTiePool (left_use z.protocol x.tie.local (rest_in rests z.protocol x.tie.local) pool) (rest_in rests) (filter (λ t. not (has_client e t)) ts)) is_of
            (left_pool pool (rest_in rests) (filter (λ t. not (has_client e t)) ts) x.tie.client.protocol x.tie.local within (none_here pool (rest_in rests) ts h.pool h.ties.differ e x found_at local_at)
            (take_pool pool (rest_in rests) ts h.pool h.ties.differ e x found_at local_at))

        pub taken_table : IsTieTable new after rests
        taken_table = record {
          ties = taken_ties it h.ties e n x number at_n new out;
          pool = subst (λ (p : Holdings). IsTiePool p (rest_in rests) (values new.leases)) (sym left)
              (subst (IsTiePool (left_use e.protocol x.tie.local (rest_in rests e.protocol x.tie.local) pool) (rest_in rests)) (sym out.gone) pool_taken);
          spots = h.spots;
        }

        pub taken_seen : ties_of after rests (values new.leases) ≡ without (ties_of pool rests ts) e
        taken_seen = seen rests after pool (values new.leases) (filter (λ t. not (has_client e t)) ts)
            (ap (λ (p : Holdings). p.tcp.low) left ∙ left_low e.protocol x.tie.local (rest_in rests e.protocol x.tie.local) pool)
            (ap (λ (p : Holdings). p.tcp.high) left ∙ left_high e.protocol x.tie.local (rest_in rests e.protocol x.tie.local) pool) out.gone

  -- ---- one comes
  module _ (t : Tied) (may : MayTie (ties_of pool rests ts) t) where
    none_there : tie_of t.tie.client ts ≡ None
    none_there = may.client

    all_parts : (nat_le pool.tcp.low t.tie.local && nat_le t.tie.local pool.tcp.high && not (list_any (has_local t.tie.client.protocol t.tie.local) ts) ≡ true) × (not (contains_key rests (spot t.tie.client.protocol t.tie.local)) ≡ true)
    all_parts = and_parts _ _ may.local

    parts : (nat_le pool.tcp.low t.tie.local && nat_le t.tie.local pool.tcp.high ≡ true) × (not (list_any (has_local t.tie.client.protocol t.tie.local) ts) ≡ true)
    parts = and_parts _ _ all_parts.0

    awake : rest_in rests t.tie.client.protocol t.tie.local ≡ None
    awake = rest_none rests (spot t.tie.client.protocol t.tie.local) (not-true _ all_parts.1)

    vacant : list_any (has_local t.tie.client.protocol t.tie.local) ts ≡ false
    vacant = not-true _ parts.1

    pub local_there : HasLocal t
    local_there =
        let range = and_parts _ _ parts.0 in
        let low = leb-true pool.tcp.low t.tie.local range.0 in
        let high = leb-true t.tie.local pool.tcp.high range.1 in
        let some = h.pool.some in
        let top = h.pool.top in
        record { from = omega (arith, low, some); to = omega (arith, high, top) }

    pub may_be_held : MayHold pool t.tie.client.protocol t.tie.local 1
    may_be_held = may_hold pool (rest_in rests) ts h.pool t vacant local_there

    pub key_free : get place_cmp it.keys (place_of_tie t) ≡ None
    key_free = client_free it h.ties t.tie.client none_there

    pub port_free : get port_cmp it.ports (port_of_tie t) ≡ None
    port_free = local_free it h.ties t.tie.client.protocol t.tie.local vacant

    abbrev held : Holdings
    held = with_use t.tie.client.protocol t.tie.local 1 (Held t.tie.client.address) pool

    pool_put : IsTiePool held (rest_in rests) (ts ++ t ∷ [])
    pool_put = put_pool pool (rest_in rests) ts h.pool t vacant local_there

    module _ (new : Numbers) (after : Holdings) (holds : after ≡ held) where
      pub put_table : (n : ℕ) × Appends place_cmp port_cmp it new t (place_of_tie t) (port_of_tie t) n → IsTieTable new after rests
      put_table appends = record {
        ties = appended_ties it h.ties t none_there vacant new appends.0 appends.1 local_there;
        pool = subst (λ (p : Holdings). IsTiePool p (rest_in rests) (values new.leases)) (sym holds) (subst (IsTiePool held (rest_in rests)) (sym (tie_appended it h.ties t none_there vacant new appends.0 appends.1)) pool_put);
        spots = h.spots;
      }

      pub put_seen : (n : ℕ) × Appends place_cmp port_cmp it new t (place_of_tie t) (port_of_tie t) n → ties_of after rests (values new.leases) ≡ with_tie (ties_of pool rests ts) t
      put_seen appends = seen rests after pool (values new.leases) (ts ++ t ∷ [])
          (ap (λ (p : Holdings). p.tcp.low) holds ∙ low_stays t.tie.client.protocol t.tie.local 1 (Held t.tie.client.address) pool)
          (ap (λ (p : Holdings). p.tcp.high) holds ∙ high_stays t.tie.client.protocol t.tie.local 1 (Held t.tie.client.address) pool)
          (tie_appended it h.ties t none_there vacant new appends.0 appends.1)

      -- or was given back
      itself : has_client t.tie.client t ≡ true
      itself = (tells_client t.tie.client).from t refl

      others_stay : filter (λ x. not (has_client t.tie.client x)) (ts ++ t ∷ []) ≡ ts
      others_stay =
          let none = find-none (has_client t.tie.client) ts none_there in
          let all : AllByRecursion (λ x. not (has_client t.tie.client x) ≡ true) ts = All-weaker (λ x. has_client t.tie.client x ≡ false) (λ x. not (has_client t.tie.client x) ≡ true) (λ x e. ap not e) ts none in
          filter_push (λ x. not (has_client t.tie.client x)) ts t (none-out (has_client t.tie.client) ts none) (ap not itself) all

      differ_push : TiesDiffer (ts ++ t ∷ [])
      differ_push = EachTwo-push AreOtherTies ts t h.ties.differ (apart_from it h.ties t none_there vacant)

      found_last : tie_of t.tie.client (ts ++ t ∷ []) ≡ Some t
      found_last = find-append (has_client t.tie.client) ts t none_there ∙ ap (λ b. cond b (Some t) None) itself

      freed_again : IsTiePool (with_use t.tie.client.protocol t.tie.local 1 Free held) (rest_in rests) ts
      freed_again = alike_pool (with_use t.tie.client.protocol t.tie.local 1 Free held) (set_rest (rest_in rests) t.tie.client.protocol t.tie.local None) ts
          (subst (IsTiePool (with_use t.tie.client.protocol t.tie.local 1 Free held) (set_rest (rest_in rests) t.tie.client.protocol t.tie.local None)) others_stay
          (take_pool held (rest_in rests) (ts ++ t ∷ []) pool_put differ_push t.tie.client t found_last local_there))
          (rest_in rests) (set_same (rest_in rests) t.tie.client.protocol t.tie.local None awake)

      pub back_table : (last : Holdings) → Stays it new → last ≡ with_use t.tie.client.protocol t.tie.local 1 Free after → IsTieTable new last rests
      back_table last stays freed = record {
        ties = tie_stays it h.ties new stays;
        pool = subst (IsTiePool last (rest_in rests)) (sym (same-values tie_keying tie_laws it h.ties.kept new stays))
            (subst (λ (p : Holdings). IsTiePool p (rest_in rests) ts) (sym (freed ∙ ap (with_use t.tie.client.protocol t.tie.local 1 Free) holds)) freed_again);
        spots = h.spots;
      }

  -- ---- one is changed
  module _ (t : Tied) (may : MayChange (ties_of pool rests ts) t) where
    pub none_clash : get place_cmp it.keys (place_of_tie t) ≡ None → ⊥
    none_clash free = none_some (tie_of t.tie.client ts) may.old (sym (none-found tie_keying tie_laws it h.ties.kept (has_client t.tie.client) (place_of t.tie.client) (tells_client t.tie.client) free)) may.client

    module _ (n : ℕ) (x : Tied) (number : get place_cmp it.keys (place_of_tie t) ≡ Some n) (at_n : get nat_cmp it.leases n ≡ Some x) where
      same_tie : IsSameTie x t
      same_tie =
          let one : x ≡ may.old = some_one (tie_of t.tie.client ts) x may.old (found_at t.tie.client n x number at_n) may.client in
          record { client = client_is it h.ties t.tie.client n x number at_n; local = ap (λ (z : Tied). z.tie.local) one ∙ may.local }

      pub port_stands : HasEntry port_cmp it.ports (port_of_tie t) n
      port_stands = port-there tie_keying tie_laws it h.ties.kept n x (port_of_tie t) at_n (port_same it h.ties t.tie.client n x number at_n t same_tie)

      module _ (new : Numbers) (replaces : Replaces port_cmp it new n t (port_of_tie t) (port_of_tie t)) where
        zip : AllZip IsSameTie ts (values new.leases)
        zip = replaced_zip it h.ties t.tie.client n x number at_n t same_tie new replaces (found_at t.tie.client n x number at_n)

        changed_table : IsTieTable new pool rests
        changed_table = record {
          ties = replaced_ties it h.ties t.tie.client n x number at_n t same_tie new replaces zip;
          pool = zip_pool pool (rest_in rests) ts h.pool (values new.leases) zip;
          spots = h.spots;
        }

        changed_seen : ties_of pool rests (values new.leases) ≡ with_change (ties_of pool rests ts) t
        changed_seen = ap (ties_of pool rests) (tie_replaced it h.ties t.tie.client n x number at_n t same_tie new replaces)

      pub change_table : {X E : Type 0} (new : Numbers) (r : Result X E) → OnOk r (Replaces port_cmp it new n t (port_of_tie t) (port_of_tie t)) → OnErr r (Stays it new) → IsTieTable new pool rests
      change_table new (Ok v) ok err = changed_table new ok
      change_table new (Err e) ok err = record {
        ties = tie_stays it h.ties new err;
        pool = subst (IsTiePool pool (rest_in rests)) (sym (same-values tie_keying tie_laws it h.ties.kept new err)) h.pool;
        spots = h.spots;
      }

      pub change_seen : {X E : Type 0} (new : Numbers) (r : Result X E) → OnOk r (Replaces port_cmp it new n t (port_of_tie t) (port_of_tie t)) → OnErr r (Stays it new) →
          MakesTies (ties_of pool rests ts) (with_change (ties_of pool rests ts) t) r (ties_of pool rests (values new.leases))
      change_seen new (Ok v) ok err = record { ok = changed_seen new ok; err = tt }
      change_seen new (Err e) ok err = record { ok = tt; err = ap (ties_of pool rests) (same-values tie_keying tie_laws it h.ties.kept new err) }

  -- ---- those whose time has come
  over_is : (m : ℕ) (t : Tied) → is_over m t ≡ not (nat_lt m t.tie.until_ms)
  over_is m t = grind (arith, nat_tests)

  module _ (m : ℕ) where
    pub over_there : (n : ℕ) → IsOneEnded (λ (t : Tied). t.tie.until_ms) m it.leases (Some n) → IsSome (get nat_cmp it.leases n)
    over_there n ended = let y = one-stands (λ (t : Tied). t.tie.until_ms) it.leases h.ties.kept.ordered m n ended in subst IsSome (sym y.1) refl

    module _ (n : ℕ) (x : Tied) (ended : IsOneEnded (λ (t : Tied). t.tie.until_ms) m it.leases (Some n)) (at_n : get nat_cmp it.leases n ≡ Some x) where
      over_at : is_over m x ≡ true
      over_at =
          let y = one-stands (λ (t : Tied). t.tie.until_ms) it.leases h.ties.kept.ordered m n ended in
          let one : y.0 ≡ x = some_one (get nat_cmp it.leases n) y.0 x y.1 at_n in
          over_is m x ∙ ap not (ap (λ (z : Tied). nat_lt m z.tie.until_ms) (sym one) ∙ y.2)

      found_over : tie_of x.tie.client ts ≡ Some x
      found_over = sym (one-found tie_keying tie_laws it h.ties.kept (has_client x.tie.client) (place_of x.tie.client) (tells_client x.tie.client) n x at_n refl)

      pub still_less : (us : Ties) → us ≡ without (ties_of pool rests ts) x.tie.client → still m us ≡ still m (ties_of pool rests ts)
      still_less us is = ap (still m) is ∙ ap (ties_of pool (rests_after m rests)) (filter-out (has_client x.tie.client) x (λ t. not (is_over m t)) ts (once_client x.tie.client ts h.ties.differ) found_over (ap not over_at))

      pub fewer_left : (us : Ties) → us ≡ without (ties_of pool rests ts) x.tie.client → length us.each < length ts
      fewer_left us is =
          let less = fewer-out (has_client x.tie.client) x ts (once_client x.tie.client ts h.ties.differ) found_over in
          let same = ap (λ (z : Ties). length z.each) is in omega (arith, less, same)

    pub all_still : IsOneEnded (λ (t : Tied). t.tie.until_ms) m it.leases None → filter (λ t. not (is_over m t)) ts ≡ ts
    all_still ended =
        let none = find-none (λ (t : Tied). not (nat_lt m t.tie.until_ms)) ts (one-none (λ (t : Tied). t.tie.until_ms) it.leases h.ties.kept.ordered m ended) in
        filter-all (λ t. not (is_over m t)) ts (All-weaker (λ t. not (nat_lt m t.tie.until_ms) ≡ false) (λ t. not (is_over m t) ≡ true)
        (λ t e. ap not (over_is m t ∙ e)) ts none)

-- ---- a new table
open_uses : (low high : ℕ) (protocol : Protocol) (port : ℕ) → use_of (fresh_pool low high 4294967295) protocol port ≡ Free
open_uses low high Tcp port = use_at-all_free 65536 port
open_uses low high Udp port = use_at-all_free 65536 port

no_rest : (protocol : Protocol) (port : ℕ) → rest_in empty protocol port ≡ None
no_rest protocol port = get-empty nat_cmp (spot protocol port)

fresh_is : (low high : ℕ) → 1 ≤ low → high ≤ 65535 → IsTiePool (fresh_pool low high 4294967295) (rest_in empty) []
fresh_is low high some top = record {
  quota = refl;
  low = refl;
  high = refl;
  some = some;
  top = top;
  whole = fresh-whole low high 4294967295;
  uses = λ protocol port. open_uses low high protocol port ∙ sym (ap (use_by None) (no_rest protocol port));
  counts = λ who. let none = count-all_free who 65536 in omega (arith, none);
}

pub fresh_table : (it : Numbers) (low high : ℕ) → IsBlank place_cmp port_cmp it → 1 ≤ low → high ≤ 65535 → IsTieTable it (fresh_pool low high 4294967295) empty
fresh_table it low high blank some top =
    let none = blank-values tie_keying it blank in
    record {
      ties = record { differ = subst TiesDiffer (sym none) tt; locals = subst (AllByRecursion HasLocal) (sym none) tt; kept = blank-kept tie_keying it blank };
      pool = subst (IsTiePool (fresh_pool low high 4294967295) (rest_in empty)) (sym none) (fresh_is low high some top);
      spots = λ at until is. absurd (let no : None ≡ Some until = sym (get-empty nat_cmp at) ∙ is in cc);
    }

pub fresh_counts : (it : Numbers) (counts : HeldCounts) → IsBlank place_cmp port_cmp it → ((who : Address) → held_by counts who ≡ 0) → AreCounted counts (values it.leases)
fresh_counts it counts blank none who = none who ∙ sym (ap (ties_held who) (blank-values tie_keying it blank))
