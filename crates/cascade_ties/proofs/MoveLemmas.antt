-- A tie that goes to another local port.
use Rattle.std.proofs.Common.{◌≡◌, ℕ, ◌+◌, ◌&&◌, ◌==◌, nat_le, Bool, true, false, not, cond, List, [], ◌∷◌, ◌++◌, find, count_by, Option, Some, None, refl, sym, ap, ◌∙◌, subst, arith}
use Rattle.std.specs.List.{AllByRecursion, list_any}
use Rattle.std.specs.Ordering.{nat_cmp}
use Rattle.std.specs.BTreeMap.{get, values}
use Rattle.std.specs.FinMap.{contains_key}
use Rattle.std.proofs.lemmas.Bool.{and_parts, eq-eqb, leb-true, not-true}
use Rattle.pcp_base.specs.declared.leases.Endpoint.{Endpoint}
use Rattle.pcp_base.specs.declared.leases.Protocol.{Protocol}
use Rattle.pcp_base.specs.Tables.{put, same_address, same_endpoint}
use Rattle.pcp_base.proofs.Members.{All-IsIn, All-both, All-weaker, any-none, find-some}
use Rattle.pcp_base.proofs.Puts.{put_All}
use Rattle.pcp_base.proofs.Same.{same_endpoint-Decides, same_protocol-Decides}
use Rattle.external_pool.specs.declared.uses.Use.TheVariants.{Free, Held}
use Rattle.external_pool.specs.Calls.{MayHold, MayRelease}
use Rattle.external_pool.specs.Holdings.{Holdings, IsWhole, use_of, with_use}
use Rattle.ordered_index.specs.MapSteps.{HasEntry}
use Rattle.ordered_index.specs.Orders.{place_of, port_at, place_cmp, port_cmp}
use Rattle.ordered_index.specs.Steps.{Replaces, Stays}
use Rattle.ordered_index.proofs.Entries.{false_by}
use Rattle.ordered_index.proofs.EntryLaws.{tally, count-cons, none_some, some_one}
use Rattle.ordered_index.proofs.Keeping.{none-found, port-there, replaced-kept, replaced-values, same-values}
use Rattle.cascade_ties.specs.declared.ties.Tied.{Tied}
use Rattle.cascade_ties.specs.Kept.{HasLocal, IsTiePool, IsTieTable, left_use, place_of_tie, port_of_tie, rest_in, tie_keying, ties_of, use_by}
use Rattle.cascade_ties.specs.Ties.{AreOtherTies, MayMove, TiesDiffer, has_client, has_local, spot, tie_at, tie_of, with_change}
use Rattle.cascade_ties.proofs.OneLemmas.{Once, all_after, count-append, find-append, find-before, find-nothing}
use Rattle.cascade_ties.proofs.PoolKeeping.{alike_pool, at_that, find_one, freed_pool, high_stays, left_pool, low_stays, may_hold, put_pool, set_rest, set_same}
use Rattle.cascade_ties.proofs.RestLemmas.{Rests, rest_none}
use Rattle.cascade_ties.proofs.StepLemmas.{Numbers, found_at, left_high, left_low, seen}
use Rattle.cascade_ties.proofs.TieKeeping.{once_local, ports_differ, tells_client, tells_local, tie_laws, tie_stays}

clash : {A : Type 0} (b : Bool) → b ≡ true → b ≡ false → A
clash b h k = absurd (let no : true ≡ false = sym h ∙ k in cc)

-- ---- another one in the place of one
module _ {X : Type 0} (has : X → Bool) (x t : X) where
  pub put-count : (q : X → Bool) (xs : List X) → find has xs ≡ Some x → count_by q (put has t xs) + tally (q x) ≡ count_by q xs + tally (q t)
  put-count q [] h = absurd cc
  put-count q (y ∷ ys) h = step (has y) h (put-count q ys)
    where
      step : (b : Bool) → cond b (Some y) (find has ys) ≡ Some x → (find has ys ≡ Some x → count_by q (put has t ys) + tally (q x) ≡ count_by q ys + tally (q t))
          → count_by q (cond b (t ∷ ys) (y ∷ put has t ys)) + tally (q x) ≡ count_by q (y ∷ ys) + tally (q t)
      step true k later =
          let same : y ≡ x = cc in
          let a = count-cons q t ys in let b = count-cons q y ys in let c = ap (λ z. tally (q z)) same in omega (arith, a, b, c)
      step false k later =
          let rest = later k in
          let a = count-cons q y (put has t ys) in let b = count-cons q y ys in omega (arith, rest, a, b)

  -- a test that neither passes finds the same
  pub put-same : (q : X → Bool) (xs : List X) → find has xs ≡ Some x → q x ≡ false → q t ≡ false → find q (put has t xs) ≡ find q xs
  put-same q [] h f g = absurd cc
  put-same q (y ∷ ys) h f g = step (has y) h (λ k. put-same q ys k f g)
    where
      step : (b : Bool) → cond b (Some y) (find has ys) ≡ Some x → (find has ys ≡ Some x → find q (put has t ys) ≡ find q ys) → find q (cond b (t ∷ ys) (y ∷ put has t ys)) ≡ cond (q y) (Some y) (find q ys)
      step true k later =
          let same : y ≡ x = cc in
          ap (λ b. cond b (Some t) (find q ys)) g ∙ sym (ap (λ b. cond b (Some y) (find q ys)) (ap q same ∙ f))
      step false k later = ap (cond (q y) (Some y)) (later k)

  -- one that the new one passes alone finds it
  pub put-new : (q : X → Bool) (xs : List X) → find has xs ≡ Some x → AllByRecursion (λ y. q y ≡ false) xs → q t ≡ true → find q (put has t xs) ≡ Some t
  put-new q [] h all g = absurd cc
  put-new q (y ∷ ys) h all g = step (has y) h (λ k. put-new q ys k all.1 g)
    where
      step : (b : Bool) → cond b (Some y) (find has ys) ≡ Some x → (find has ys ≡ Some x → find q (put has t ys) ≡ Some t) → find q (cond b (t ∷ ys) (y ∷ put has t ys)) ≡ Some t
      step true k later = ap (λ b. cond b (Some t) (find q ys)) g
      step false k later = ap (λ b. cond b (Some y) (find q (put has t ys))) all.0 ∙ later k

  -- one that the old one passed alone finds nothing
  pub put-none : (q : X → Bool) (xs : List X) → find has xs ≡ Some x → Once q xs → q x ≡ true → q t ≡ false → find q (put has t xs) ≡ None
  put-none q [] h only f g = absurd cc
  put-none q (y ∷ ys) h only f g = step (has y) h (λ k. put-none q ys k only.1 f g)
    where
      first : find has ys ≡ Some x → q y ≡ false
      first k = false_by (q y) (λ e. clash (q x) f (All-IsIn (λ z. q y ≡ true → q z ≡ false) ys x only.0 (find-some has ys x k).0 e))

      step : (b : Bool) → cond b (Some y) (find has ys) ≡ Some x → (find has ys ≡ Some x → find q (put has t ys) ≡ None) → find q (cond b (t ∷ ys) (y ∷ put has t ys)) ≡ None
      step true k later =
          let same : y ≡ x = cc in
          ap (λ b. cond b (Some t) (find q ys)) g ∙ find-nothing q ys (all_after q y ys (ap q same ∙ f) only.0)
      step false k later = ap (λ b. cond b (Some y) (find q (put has t ys))) (first k) ∙ later k

-- ---- ties
module _ (t : Tied) where
  no_local : (b : Tied) → has_local t.tie.client.protocol t.tie.local b ≡ false → has_local b.tie.client.protocol b.tie.local t ≡ false
  no_local b h = false_by (has_local b.tie.client.protocol b.tie.local t) (λ e.
      clash (has_local t.tie.client.protocol t.tie.local b) ((tells_local t.tie.client.protocol t.tie.local).from b (sym ((tells_local b.tie.client.protocol b.tie.local).to t e))) h)

  other_to : (x b : Tied) → x.tie.client ≡ t.tie.client → AreOtherTies x b → has_local t.tie.client.protocol t.tie.local b ≡ false → AreOtherTies t b
  other_to x b same h free = record {
    clients = sym (ap (λ (e : Endpoint). same_endpoint e b.tie.client) same) ∙ h.clients;
    locals = no_local b free;
  }

  pub moved-differ : (x : Tied) (ts : List Tied) → x.tie.client ≡ t.tie.client → tie_of t.tie.client ts ≡ Some x → AllByRecursion (λ y. has_local t.tie.client.protocol t.tie.local y ≡ false) ts
      → TiesDiffer ts → TiesDiffer (put (has_client t.tie.client) t ts)
  moved-differ x [] same h free two = absurd cc
  moved-differ x (y ∷ ys) same h free two = step (has_client t.tie.client y) refl h (λ k. moved-differ x ys same k free.1 two.1)
    where
      step : (b : Bool) → has_client t.tie.client y ≡ b → cond b (Some y) (tie_of t.tie.client ys) ≡ Some x → (tie_of t.tie.client ys ≡ Some x → TiesDiffer (put (has_client t.tie.client) t ys))
          → TiesDiffer (cond b (t ∷ ys) (y ∷ put (has_client t.tie.client) t ys))
      step true e k later =
          let one : y ≡ x = cc in (
            All-weaker (λ b. AreOtherTies y b × (has_local t.tie.client.protocol t.tie.local b ≡ false)) (λ b. AreOtherTies t b)
                (λ b both. other_to y b (ap (λ (z : Tied). z.tie.client) one ∙ same) both.0 both.1) ys
                (All-both (λ b. AreOtherTies y b) (λ b. has_local t.tie.client.protocol t.tie.local b ≡ false) ys two.0 free.1),
            two.1,
          )
      step false e k later = (put_All (λ b. AreOtherTies y b) (has_client t.tie.client) t ys (record { clients = e; locals = free.0 }) two.0, later k)

module _ (it : Numbers) (pool : Holdings) (rests : Rests) (h : IsTieTable it pool rests) (from : ℕ) (t : Tied) (may : MayMove (ties_of pool rests (values it.leases)) from t) where
  abbrev ts : List Tied
  ts = values it.leases

  abbrev rest : Protocol → ℕ → Option ℕ
  rest = rest_in rests

  abbrev old : Tied
  old = may.old

  pub same_client : old.tie.client ≡ t.tie.client
  same_client = (same_endpoint-Decides old.tie.client t.tie.client).0 (find-some (has_client t.tie.client) ts old may.client).1

  all_parts : (nat_le pool.tcp.low t.tie.local && nat_le t.tie.local pool.tcp.high && not (list_any (has_local t.tie.client.protocol t.tie.local) ts) ≡ true) × (not (contains_key rests (spot t.tie.client.protocol t.tie.local)) ≡ true)
  all_parts = and_parts _ _ may.local

  parts : (nat_le pool.tcp.low t.tie.local && nat_le t.tie.local pool.tcp.high ≡ true) × (not (list_any (has_local t.tie.client.protocol t.tie.local) ts) ≡ true)
  parts = and_parts _ _ all_parts.0

  awake : rest t.tie.client.protocol t.tie.local ≡ None
  awake = rest_none rests (spot t.tie.client.protocol t.tie.local) (not-true _ all_parts.1)

  vacant : list_any (has_local t.tie.client.protocol t.tie.local) ts ≡ false
  vacant = not-true _ parts.1

  all_free : AllByRecursion (λ y. has_local t.tie.client.protocol t.tie.local y ≡ false) ts
  all_free = any-none (has_local t.tie.client.protocol t.tie.local) ts vacant

  local_there : HasLocal t
  local_there =
      let range = and_parts _ _ parts.0 in
      let low = leb-true pool.tcp.low t.tie.local range.0 in
      let high = leb-true t.tie.local pool.tcp.high range.1 in
      let some = h.pool.some in
      let top = h.pool.top in
      record { from = omega (arith, low, some); to = omega (arith, high, top) }

  old_local : HasLocal old
  old_local = All-IsIn HasLocal ts old h.ties.locals (find-some (has_client t.tie.client) ts old may.client).0

  pub may_be_held_too : MayHold pool t.tie.client.protocol t.tie.local 1
  may_be_held_too = may_hold pool rest ts h.pool t vacant local_there

  -- the old local port is another one
  pub old_isnt : has_local t.tie.client.protocol t.tie.local old ≡ false
  old_isnt = All-IsIn (λ y. has_local t.tie.client.protocol t.tie.local y ≡ false) ts old all_free (find-some (has_client t.tie.client) ts old may.client).0

  abbrev held : Holdings
  held = with_use t.tie.client.protocol t.tie.local 1 (Held t.tie.client.address) pool

  pub held_whole : IsWhole held
  held_whole = (put_pool pool rest ts h.pool t vacant local_there).whole

  both : IsTiePool held rest (ts ++ t ∷ [])
  both = put_pool pool rest ts h.pool t vacant local_there

  itself : (x : Tied) → has_local x.tie.client.protocol x.tie.local x ≡ true
  itself x = ap (λ (b : Bool). b && x.tie.local == x.tie.local) ((same_protocol-Decides x.tie.client.protocol x.tie.client.protocol).1 refl) ∙ eq-eqb x.tie.local x.tie.local refl

  old_found : tie_at old.tie.client.protocol old.tie.local (ts ++ t ∷ []) ≡ Some old
  old_found = find-before (has_local old.tie.client.protocol old.tie.local) ts t (no_local t old old_isnt)
      ∙ find_one (has_local old.tie.client.protocol old.tie.local) ts old (once_local old.tie.client.protocol old.tie.local ts h.ties.differ) (find-some (has_client t.tie.client) ts old may.client).0 (itself old)

  old_held : use_of held old.tie.client.protocol old.tie.local ≡ Held old.tie.client.address
  old_held = both.uses old.tie.client.protocol old.tie.local ∙ ap (λ (o : Option Tied). use_by o (rest old.tie.client.protocol old.tie.local)) old_found

  pub may_leave : MayRelease held t.tie.client.address t.tie.client.protocol from 1
  may_leave =
      let there : MayRelease held old.tie.client.address old.tie.client.protocol old.tie.local 1 = record {
        ports = record { from = old_local.from; some = omega arith; end = (let to = old_local.to in omega (arith, to)) };
        held = λ port low high. (let same : port ≡ old.tie.local = omega (arith, low, high) in ap (use_of held old.tie.client.protocol) same ∙ old_held);
      } in
      subst (λ (n : ℕ). MayRelease held t.tie.client.address t.tie.client.protocol n 1) may.leaves
      (subst (λ (e : Endpoint). MayRelease held e.address e.protocol old.tie.local 1) same_client there)

  abbrev us : List Tied
  us = put (has_client t.tie.client) t ts

  none_at_old : (other : Protocol) (port : ℕ) → has_local other port old ≡ true → tie_at other port us ≡ None
  none_at_old other port e = put-none (has_client t.tie.client) old t (has_local other port) ts may.client (once_local other port ts h.ties.differ) e
      (false_by (has_local other port t) (λ u. clash (has_local t.tie.client.protocol t.tie.local old)
      ((tells_local t.tie.client.protocol t.tie.local).from old ((tells_local other port).to old e ∙ sym ((tells_local other port).to t u))) old_isnt))

  same_elsewhere : (other : Protocol) (port : ℕ) → has_local other port old ≡ false → tie_at other port us ≡ tie_at other port (ts ++ t ∷ [])
  same_elsewhere other port e = step (has_local other port t) refl
    where
      step : (b : Bool) → has_local other port t ≡ b → tie_at other port us ≡ tie_at other port (ts ++ t ∷ [])
      step true u =
          let none : AllByRecursion (λ y. has_local other port y ≡ false) ts = All-weaker (λ y. has_local t.tie.client.protocol t.tie.local y ≡ false) (λ y. has_local other port y ≡ false)
          (λ y f. false_by (has_local other port y) (λ v. clash (has_local t.tie.client.protocol t.tie.local y)
          ((tells_local t.tie.client.protocol t.tie.local).from y ((tells_local other port).to y v ∙ sym ((tells_local other port).to t u))) f)) ts all_free in
          put-new (has_client t.tie.client) old t (has_local other port) ts may.client none u
          ∙ sym (find-append (has_local other port) ts t (find-nothing (has_local other port) ts none) ∙ ap (λ b. cond b (Some t) None) u)
      step false u = put-same (has_client t.tie.client) old t (has_local other port) ts may.client e u ∙ sym (find-before (has_local other port) ts t u)

  moved_pool : IsTiePool (left_use t.tie.client.protocol from (rest t.tie.client.protocol from) held) rest us
  moved_pool =
      let freed = freed_pool held rest (ts ++ t ∷ []) both old old_held old_local us none_at_old same_elsewhere
      (λ who. (let a = put-count (has_client t.tie.client) old t (λ (y : Tied). same_address y.tie.client.address who) ts may.client in
      let b = count-append (λ (y : Tied). same_address y.tie.client.address who) ts t in omega (arith, a, b))) in
      let there = left_pool held rest us old.tie.client.protocol old.tie.local (let to = old_local.to in omega (arith, to)) (none_at_old old.tie.client.protocol old.tie.local (itself old)) freed in
      subst (λ (n : ℕ). IsTiePool (left_use t.tie.client.protocol n (rest t.tie.client.protocol n) held) rest us) may.leaves
      (subst (λ (e : Endpoint). IsTiePool (left_use e.protocol old.tie.local (rest e.protocol old.tie.local) held) rest us) same_client there)

  -- or the hold of the new one is given back
  back_pool : IsTiePool (with_use t.tie.client.protocol t.tie.local 1 Free held) rest ts
  back_pool =
      let none : tie_at t.tie.client.protocol t.tie.local ts ≡ None = find-nothing (has_local t.tie.client.protocol t.tie.local) ts all_free in
      let there : use_of held t.tie.client.protocol t.tie.local ≡ Held t.tie.client.address =
      both.uses t.tie.client.protocol t.tie.local ∙ ap (λ (o : Option Tied). use_by o (rest t.tie.client.protocol t.tie.local))
      (find-append (has_local t.tie.client.protocol t.tie.local) ts t none ∙ ap (λ b. cond b (Some t) None) (itself t)) in
      alike_pool (with_use t.tie.client.protocol t.tie.local 1 Free held) (set_rest rest t.tie.client.protocol t.tie.local None) ts
      (freed_pool held rest (ts ++ t ∷ []) both t there local_there ts
      (λ other port e. at_that (λ z n. tie_at z n ts) t.tie.client.protocol other t.tie.local port e ∙ none)
      (λ other port e. sym (find-before (has_local other port) ts t e))
      (λ who. sym (count-append (λ (y : Tied). same_address y.tie.client.address who) ts t)))
      rest (set_same rest t.tie.client.protocol t.tie.local None awake)

  pub may_free_again : MayRelease held t.tie.client.address t.tie.client.protocol t.tie.local 1
  may_free_again =
      let none : tie_at t.tie.client.protocol t.tie.local ts ≡ None = find-nothing (has_local t.tie.client.protocol t.tie.local) ts all_free in
      let there : use_of held t.tie.client.protocol t.tie.local ≡ Held t.tie.client.address =
      both.uses t.tie.client.protocol t.tie.local ∙ ap (λ (o : Option Tied). use_by o (rest t.tie.client.protocol t.tie.local))
      (find-append (has_local t.tie.client.protocol t.tie.local) ts t none ∙ ap (λ b. cond b (Some t) None) (itself t)) in
      record {
        ports = record { from = local_there.from; some = omega arith; end = (let to = local_there.to in omega (arith, to)) };
        held = λ port low high. (let same : port ≡ t.tie.local = omega (arith, low, high) in ap (use_of held t.tie.client.protocol) same ∙ there);
      }

  pub none_gone : get place_cmp it.keys (place_of_tie t) ≡ None → ⊥
  none_gone free = none_some (tie_of t.tie.client ts) old (sym (none-found tie_keying tie_laws it h.ties.kept (has_client t.tie.client) (place_of t.tie.client) (tells_client t.tie.client) free)) may.client

  module _ (n : ℕ) (x : Tied) (number : get place_cmp it.keys (place_of_tie t) ≡ Some n) (at_n : get nat_cmp it.leases n ≡ Some x) where
    is_old : x ≡ old
    is_old = some_one (tie_of t.tie.client ts) x old (found_at it pool rests h t.tie.client n x number at_n) may.client

    from_port : port_at t.tie.client.protocol from ≡ port_of_tie x
    from_port = ap (port_at t.tie.client.protocol) (sym may.leaves) ∙ ap (λ (e : Endpoint). port_at e.protocol old.tie.local) (sym same_client) ∙ ap port_of_tie (sym is_old)

    pub from_stands : HasEntry port_cmp it.ports (port_at t.tie.client.protocol from) n
    from_stands = port-there tie_keying tie_laws it h.ties.kept n x (port_at t.tie.client.protocol from) at_n from_port

    module _ (new : Numbers) (replaces : Replaces port_cmp it new n t (port_at t.tie.client.protocol from) (port_of_tie t)) where
      key_same : place_of_tie x ≡ place_of_tie t
      key_same = ap place_of (ap (λ (z : Tied). z.tie.client) is_old ∙ same_client)

      moved_values : values new.leases ≡ us
      moved_values = replaced-values tie_keying tie_laws it h.ties.kept new n x t at_n key_same (port_at t.tie.client.protocol from) (port_of_tie t) from_port refl replaces (has_client t.tie.client) (tells_client t.tie.client)

      moved_two : TiesDiffer (values new.leases)
      moved_two = subst TiesDiffer (sym moved_values) (moved-differ t old ts same_client may.client all_free h.ties.differ)

      module _ (after : Holdings) (left : after ≡ left_use t.tie.client.protocol from (rest t.tie.client.protocol from) held) where
        pub moved_table : IsTieTable new after rests
        moved_table = record {
          ties = record {
            differ = moved_two;
            locals = subst (AllByRecursion HasLocal) (sym moved_values) (put_All HasLocal (has_client t.tie.client) t ts local_there h.ties.locals);
            kept = replaced-kept tie_keying tie_laws it h.ties.kept new n x t at_n key_same (port_at t.tie.client.protocol from) (port_of_tie t) from_port refl replaces (ports_differ (values new.leases) moved_two);
          };
          pool = subst (λ (p : Holdings). IsTiePool p rest (values new.leases)) (sym left)
              (subst (IsTiePool (left_use t.tie.client.protocol from (rest t.tie.client.protocol from) held) rest) (sym moved_values) moved_pool);
          spots = h.spots;
        }

        pub moved_seen : ties_of after rests (values new.leases) ≡ with_change (ties_of pool rests ts) t
        moved_seen = seen rests after pool (values new.leases) us
            (ap (λ (p : Holdings). p.tcp.low) left ∙ left_low t.tie.client.protocol from (rest t.tie.client.protocol from) held ∙ low_stays t.tie.client.protocol t.tie.local 1 (Held t.tie.client.address) pool)
            (ap (λ (p : Holdings). p.tcp.high) left ∙ left_high t.tie.client.protocol from (rest t.tie.client.protocol from) held ∙ high_stays t.tie.client.protocol t.tie.local 1 (Held t.tie.client.address) pool)
            moved_values

  module _ (new : Numbers) (stays : Stays it new) (last : Holdings) (freed : last ≡ with_use t.tie.client.protocol t.tie.local 1 Free held) where
    pub kept_table : IsTieTable new last rests
    kept_table = record {
      ties = tie_stays it h.ties new stays;
      pool = subst (IsTiePool last rest) (sym (same-values tie_keying tie_laws it h.ties.kept new stays)) (subst (λ (p : Holdings). IsTiePool p rest ts) (sym freed) back_pool);
      spots = h.spots;
    }
