-- Room for the rest of a tie's local port, which is written or given back once the tie is changed.
use Rattle.std.proofs.Common.{◌≡◌, ℕ, ◌≤◌, ◌&&◌, ◌==◌, nat_le, Bool, true, false, not, cond, List, Some, is_ok, is_some, Result, Ok, Err, OnOk, OnErr, refl, sym, ap, ◌∙◌, subst}
use Rattle.std.specs.Bool.{OnTrue, OnFalse}
use Rattle.std.specs.List.{list_any}
use Rattle.std.specs.BTreeMap.{values}
use Rattle.std.specs.FinMap.{contains_key, get, insert, remove}
use Rattle.pcp_base.specs.declared.leases.Endpoint.{Endpoint}
use Rattle.pcp_base.specs.Tables.{same_protocol}
use Rattle.expiry_wheel.proofs.Maps.{get-inserted}
use Rattle.external_pool.specs.Holdings.{Holdings}
use Rattle.cascade_ties.specs.declared.ties.Tied.{Tied}
use Rattle.cascade_ties.specs.Kept.{IsTieTable, reserved, ties_of}
use Rattle.cascade_ties.specs.Ties.{MakesTies, MayChange, MayMove, MayRest, Ties, has_local, spot, tie_at, with_rest}
use Rattle.cascade_ties.proofs.MoveLemmas.{old_isnt, same_client}
use Rattle.cascade_ties.proofs.RestLemmas.{Rests, has_room, renewed_table, reserved_back, reserved_made, reserved_table, rested_table, spot_test, tie_there, unreserved_table}
use Rattle.cascade_ties.proofs.StepLemmas.{Numbers}

-- what is seen of a table, by its parts
seen_so : (us ts : Ties) (last rests : Rests) → us.low ≡ ts.low → us.high ≡ ts.high → us.each ≡ ts.each → last ≡ rests → record us { rests = last } ≡ record ts { rests = rests }
seen_so us ts last rests l h e r = λ i. record { low = l i; high = h i; each = e i; rests = r i }

seen_of : (us ts : Ties) (last rests : Rests) → us ≡ ts → last ≡ rests → record us { rests = last } ≡ record ts { rests = rests }
seen_of us ts last rests same r = seen_so us ts last rests (ap (λ (z : Ties). z.low) same) (ap (λ (z : Ties). z.high) same) (ap (λ (z : Ties). z.each) same) r

module _ (it : Numbers) (pool : Holdings) (m : Rests) (h : IsTieTable it pool m) where
  abbrev ts : List Tied
  ts = values it.leases

  pub change_rests : (t : Tied) → MayChange (ties_of pool m ts) t → MayRest (ties_of pool m ts) t.tie.client t.tie.local
  change_rests t may = record { tied = may.old; found = may.client; port = may.local }

  pub move_rests : (from : ℕ) (t : Tied) → MayMove (ties_of pool m ts) from t → MayRest (ties_of pool m ts) t.tie.client from
  move_rests from t may = record { tied = may.old; found = may.client; port = may.leaves }

  module _ (e : Endpoint) (local : ℕ) (rest : MayRest (ties_of pool m ts) e local) where
    there : (tie_at e.protocol local ts ≡ Some rest.tied) × (local ≤ 65535)
    there = tie_there it pool m h e rest.tied local rest.found rest.port

    -- the rest of a tie's port is written
    pub rested_now : {X E : Type 0} (r : Result X E) (u : ℕ) (new : Rests) → OnOk r (new ≡ insert m (spot e.protocol local) u) → OnErr r (new ≡ m) → IsTieTable it pool new
    rested_now (Ok v) u new ok err = subst (IsTieTable it pool) (sym ok) (rested_table it pool m h e.protocol local rest.tied there.0 there.1 u)
    rested_now (Err f) u new ok err = subst (IsTieTable it pool) (sym err) h

    pub rested_seen : {X E : Type 0} (old : Ties) → ties_of pool m ts ≡ old → (r : Result X E) (u : ℕ) (new : Rests) → OnOk r (new ≡ insert m (spot e.protocol local) u) → OnErr r (new ≡ m)
        → MakesTies old (with_rest old e.protocol local u) r (ties_of pool new ts)
    rested_seen old same (Ok v) u new ok err = record { ok = seen_of (ties_of pool m ts) old new (insert old.rests (spot e.protocol local) u) same (ok ∙ ap (λ (z : Ties). insert z.rests (spot e.protocol local) u) same); err = tt }
    rested_seen old same (Err f) u new ok err = record { ok = tt; err = ap (λ (k : Rests). ties_of pool k ts) err ∙ same }

    -- or there is room for it
    module _ (at u : ℕ) (is : at ≡ spot e.protocol local) (room : Rests) (roomy : room ≡ reserved m at u) where
      pub room_table : IsTieTable it pool room
      room_table = subst (IsTieTable it pool) (sym (roomy ∙ ap (λ (n : ℕ). reserved m n u) is)) (reserved_table it pool m h e.protocol local rest.tied there.0 there.1 u)

      back : (fresh : Bool) (last : Rests) → fresh ≡ not (contains_key m at) → last ≡ cond fresh (remove room at) room → last ≡ m
      back fresh last was given = given ∙ ap (λ (b : Bool). cond b (remove room at) room) was ∙ ap (λ (k : Rests). cond (not (contains_key m at)) (remove k at) k) roomy ∙ reserved_back m at u

      -- and then it is written, or the room is given back
      pub concluded_table : {X E : Type 0} (new : Numbers) (after : Holdings) (made : List Tied) (r : Result X E) (fresh b : Bool) (last : Rests) → IsTieTable new after room
          → MakesTies (ties_of pool room ts) (ties_of pool room made) r (ties_of after room (values new.leases))
          → fresh ≡ not (contains_key m at) → b ≡ is_ok r
          → OnTrue b (last ≡ insert room at u) → OnFalse b (last ≡ cond fresh (remove room at) room) → IsTieTable new after last
      concluded_table new after made (Ok v) fresh true last table makes was ok wrote _ = subst (IsTieTable new after) (sym wrote) (renewed_table new after room table at u (has_room m at u room roomy))
      concluded_table new after made (Ok v) fresh false last table makes was ok _ _ = absurd cc
      concluded_table new after made (Err f) fresh true last table makes was ok _ _ = absurd cc
      concluded_table new after made (Err f) fresh false last table makes was ok _ given =
          let same : values new.leases ≡ ts = ap (λ (z : Ties). z.each) makes.err in
          subst (IsTieTable new after) (sym (back fresh last was given))
          (unreserved_table new after m e.protocol local u rest.tied h.spots (ap (tie_at e.protocol local) same ∙ there.0)
          (subst (IsTieTable new after) (roomy ∙ ap (λ (n : ℕ). reserved m n u) is) table))

      pub concluded_seen : {X E : Type 0} (new : Numbers) (after : Holdings) (made : List Tied) (r : Result X E) (fresh b : Bool) (last : Rests)
          → MakesTies (ties_of pool room ts) (ties_of pool room made) r (ties_of after room (values new.leases))
          → fresh ≡ not (contains_key m at) → b ≡ is_ok r
          → OnTrue b (last ≡ insert room at u) → OnFalse b (last ≡ cond fresh (remove room at) room)
          → MakesTies (ties_of pool m ts) (with_rest (ties_of pool m made) e.protocol local u) r (ties_of after last (values new.leases))
      concluded_seen new after made (Ok v) fresh true last makes was ok wrote _ = record {
        ok = seen_of (ties_of after room (values new.leases)) (ties_of pool room made) last (insert m (spot e.protocol local) u) makes.ok
            (wrote ∙ ap (λ (k : Rests). insert k at u) roomy ∙ reserved_made m at u ∙ ap (λ (n : ℕ). insert m n u) is);
        err = tt;
      }
      concluded_seen new after made (Ok v) fresh false last makes was ok _ _ = absurd cc
      concluded_seen new after made (Err f) fresh true last makes was ok _ _ = absurd cc
      concluded_seen new after made (Err f) fresh false last makes was ok _ given =
          record { ok = tt; err = seen_of (ties_of after room (values new.leases)) (ties_of pool room ts) last m makes.err (back fresh last was given) }

  pub change_room : (t : Tied) (room : Rests) → MayChange (ties_of pool m ts) t → MayChange (ties_of pool room ts) t
  change_room t room may = record { old = may.old; client = may.client; local = may.local }

  -- room for the rest of one port leaves another one vacant
  module _ (from : ℕ) (t : Tied) (may : MayMove (ties_of pool m ts) from t) (at u : ℕ) (is : at ≡ spot t.tie.client.protocol from) where
    abbrev here : ℕ
    here = spot t.tie.client.protocol t.tie.local

    abbrev within : Bool
    within = nat_le pool.tcp.low t.tie.local && nat_le t.tie.local pool.tcp.high && not (list_any (has_local t.tie.client.protocol t.tie.local) ts)

    apart : (here == at) ≡ false
    apart = ap (λ (n : ℕ). here == n) is ∙ spot_test t.tie.client.protocol t.tie.client.protocol from t.tie.local
        ∙ ap (λ (n : ℕ). same_protocol t.tie.client.protocol t.tie.client.protocol && n == t.tie.local) (sym may.leaves)
        ∙ ap (λ (z : Endpoint). same_protocol z.protocol t.tie.client.protocol && may.old.tie.local == t.tie.local) (sym (same_client it pool m h from t may))
        ∙ old_isnt it pool m h from t may

    as_before : (b : Bool) → contains_key (cond b m (insert m at u)) here ≡ contains_key m here
    as_before true = refl
    as_before false = ap is_some (get-inserted m at u here ∙ ap (λ b. cond b (Some u) (get m here)) apart)

    pub move_room : (room : Rests) → room ≡ reserved m at u → MayMove (ties_of pool room ts) from t
    move_room room roomy = record {
      old = may.old;
      client = may.client;
      leaves = may.leaves;
      local = ap (λ (b : Bool). within && not b) (ap (λ (k : Rests). contains_key k here) roomy ∙ as_before (contains_key m at)) ∙ may.local;
    }
