-- The port that the pool of ties picks.
use Rattle.std.proofs.Common.{◌≡◌, ℕ, zero, suc, ◌+◌, ◌-◌, ◌<◌, ◌≤◌, ◌&&◌, ◌||◌, nat_le, min, Bool, true, false, not, cond, List, [], ◌∷◌, find, Option, Some, None, is_some, replicate, Result, Ok, Err, refl, sym, ap, ◌∙◌, subst, arith, inl, inr, ◌⊎◌}
use Rattle.std.specs.FinMap.{FinMap, contains_key}
use Rattle.std.specs.List.{list_any, range_with_len}
use Rattle.std.specs.Ordering.{nat_cmp}
use Rattle.std.proofs.lemmas.Bool.{and_parts, leb-true}
use Rattle.pcp_base.specs.declared.leases.Endpoint.{Endpoint}
use Rattle.pcp_base.specs.declared.leases.Protocol.{Protocol}
use Rattle.pcp_base.specs.declared.leases.Protocol.TheVariants.{Tcp, Udp}
use Rattle.pcp_base.specs.Tables.{same_address}
use Rattle.pcp_base.proofs.Members.{All-from_IsIn}
use Rattle.external_pool.specs.declared.asks.PickAsk.{PickAsk}
use Rattle.external_pool.specs.declared.asks.Picked.{Picked}
use Rattle.external_pool.specs.declared.asks.PickRefused.{PickRefused}
use Rattle.external_pool.specs.Asking.{IsPickAnswer, answer_to}
use Rattle.external_pool.specs.Asking as Asking
use Rattle.external_pool.specs.Choosing.{IsVacantRun, GoesBack, IsLongest, IsPick}
use Rattle.external_pool.specs.Choosing.IsPick.{suggestion, longest}
use Rattle.external_pool.specs.Holdings.{Holdings, ports_held, uses_of}
use Rattle.external_pool.specs.PortUses as Uses
use Rattle.ordered_index.proofs.Entries.{false_by}
use Rattle.cascade_ties.specs.declared.ties.Tied.{Tied}
use Rattle.cascade_ties.specs.Kept.{IsTiePool, rest_in, ties_of, use_by}
use Rattle.cascade_ties.specs.Ties.{Ties, has_local, is_vacant, least_vacant, spot, tie_at, vacant_for}
use Rattle.cascade_ties.proofs.CountLemmas.{few_held}
use Rattle.cascade_ties.proofs.OneLemmas.{find-nothing}

-- the port that an answer of the pool gives
abbrev pub port_given : Result Picked PickRefused → Option ℕ
port_given (Ok run) = Some run.start
port_given (Err refused) = None

abbrev start_of : Option Picked → Option ℕ
start_of None = None
start_of (Some run) = Some run.start

judged : (o : Option Picked) → port_given (Asking.or_no_port o) ≡ start_of o
judged None = refl
judged (Some run) = refl

free_rest : (o : Option ℕ) → Uses.is_free_use (use_by None o) ≡ not (is_some o)
free_rest None = refl
free_rest (Some until) = refl

free_tie : (p : Tied → Bool) (o : Option ℕ) (ts : List Tied) → Uses.is_free_use (use_by (find p ts) o) ≡ (not (list_any p ts) && not (is_some o))
free_tie p o [] = free_rest o
free_tie p o (t ∷ ts) = step (p t) (free_tie p o ts)
  where
    step : (b : Bool) → Uses.is_free_use (use_by (find p ts) o) ≡ (not (list_any p ts) && not (is_some o)) → Uses.is_free_use (use_by (cond b (Some t) (find p ts)) o) ≡ (not (b || list_any p ts) && not (is_some o))
    step true later = refl
    step false later = later

and_three : (a b c : Bool) → (a && (b && c)) ≡ (a && b && c)
and_three true b c = refl
and_three false b c = refl

-- the least number of a range that passes is found
find_range : (p : ℕ → Bool) (n a s : ℕ) → a ≤ s → s < a + n → p s ≡ true → ((i : ℕ) → i < s → p i ≡ false) → find p (range_with_len a n) ≡ Some s
find_range p zero a s from to t below = absurd (omega (arith, from, to))
find_range p (suc n) a s from to t below = step (p a) refl (λ low. find_range p n (a + 1) s low (omega (arith, to)) t below)
  where
    step : (b : Bool) → p a ≡ b → (a + 1 ≤ s → find p (range_with_len (a + 1) n) ≡ Some s) → cond b (Some a) (find p (range_with_len (a + 1) n)) ≡ Some s
    step true e later = ap Some (let not_less : ¬ (a < s) = λ less. (let no = below a less in absurd (let both : true ≡ false = sym e ∙ no in cc)) in grind (arith, from, not_less))
    step false e later =
        let other : ¬ (a ≡ s) = λ same. absurd (let both : true ≡ false = sym t ∙ ap p (sym same) ∙ e in cc) in
        later (grind (arith, from, other))

module _ (pool : Holdings) (rests : FinMap nat_cmp ℕ) (ts : List Tied) (is : IsTiePool pool (rest_in rests) ts) (client : Endpoint) where
  abbrev table : Ties
  table = ties_of pool rests ts

  abbrev uses : Uses.PortUses
  uses = uses_of pool client.protocol

  low_of : (protocol : Protocol) → (uses_of pool protocol).low ≡ pool.tcp.low
  low_of Tcp = refl
  low_of Udp = is.low

  high_of : (protocol : Protocol) → (uses_of pool protocol).high ≡ pool.tcp.high
  high_of Tcp = refl
  high_of Udp = is.high

  range_same : (port : ℕ) → Uses.is_in_range uses.low uses.high port ≡ (nat_le pool.tcp.low port && nat_le port pool.tcp.high)
  range_same port = ap (λ (n : ℕ). nat_le n port && nat_le port uses.high) (low_of client.protocol) ∙ ap (λ (n : ℕ). nat_le pool.tcp.low port && nat_le port n) (high_of client.protocol)

  rests_at : (port : ℕ) → is_some (rest_in rests client.protocol port) ≡ contains_key rests (spot client.protocol port)
  rests_at port = refl

  free_same : (port : ℕ) → Uses.is_free_use (Uses.use_at uses.each port) ≡ (not (list_any (has_local client.protocol port) ts) && not (contains_key rests (spot client.protocol port)))
  free_same port = ap Uses.is_free_use (is.uses client.protocol port) ∙ free_tie (has_local client.protocol port) (rest_in rests client.protocol port) ts
      ∙ ap (λ (b : Bool). not (list_any (has_local client.protocol port) ts) && not b) (rests_at port)

  vacant_same : (port : ℕ) → Uses.is_vacant uses port ≡ is_vacant table client.protocol port
  vacant_same port = ap (λ (b : Bool). b && Uses.is_free_use (Uses.use_at uses.each port)) (range_same port)
      ∙ ap (λ (b : Bool). nat_le pool.tcp.low port && nat_le port pool.tcp.high && b) (free_same port)
      ∙ and_three (nat_le pool.tcp.low port && nat_le port pool.tcp.high) (not (list_any (has_local client.protocol port) ts)) (not (contains_key rests (spot client.protocol port)))

  run_vacant : (start : ℕ) → IsVacantRun uses 1 None start → is_vacant table client.protocol start ≡ true
  run_vacant start run = sym (vacant_same start) ∙ run.vacant start (omega arith) (omega arith)

  vacant_run : (start : ℕ) → is_vacant table client.protocol start ≡ true → IsVacantRun uses 1 None start
  vacant_run start h = record {
    vacant = λ port from to. (let same : port ≡ start = omega (arith, from, to) in ap (Uses.is_vacant uses) same ∙ vacant_same start ∙ h);
    remainder = tt;
  }

  -- a free use is one that isn't held
  no_one : (b : Bool) → (b && false) ≡ false
  no_one true = refl
  no_one false = refl

  free_by : (o : Option Tied) (rest : Option ℕ) → Uses.is_free_to client.address 1 (use_by o rest) ≡ Uses.is_free_use (use_by o rest)
  free_by None None = refl
  free_by None (Some until) = no_one (same_address (record { 0 = replicate 16 0 }) client.address)
  free_by (Some t) rest = refl

  open_same : (port : ℕ) → Uses.is_open uses client.address 1 port ≡ is_vacant table client.protocol port
  open_same port =
      ap (λ (b : Bool). Uses.is_in_range uses.low uses.high port && b)
      (ap (Uses.is_free_to client.address 1) (is.uses client.protocol port) ∙ free_by (tie_at client.protocol port ts) (rest_in rests client.protocol port) ∙ sym (ap Uses.is_free_use (is.uses client.protocol port)))
      ∙ vacant_same port

  plus_zero : (n : ℕ) → n + 0 ≡ n
  plus_zero n = omega arith

  back_vacant : GoesBack uses client.address 1 None client.port 1 → is_vacant table client.protocol client.port ≡ true
  back_vacant back =
      sym (open_same client.port) ∙ ap (λ (n : ℕ). Uses.is_open uses client.address n client.port) (sym (plus_zero 1))
      ∙ ap (Uses.is_open uses client.address (1 + 0)) (sym (plus_zero client.port)) ∙ back.opened 0 (omega arith)

  vacant_back : is_vacant table client.protocol client.port ≡ true → GoesBack uses client.address 1 None client.port 1
  vacant_back h = record {
    opened = λ i few. (let same : i ≡ 0 = omega (arith, few) in
        ap (λ (n : ℕ). Uses.is_open uses client.address (1 + n) (client.port + n)) same
        ∙ ap (λ (n : ℕ). Uses.is_open uses client.address (1 + 0) n) (plus_zero client.port)
        ∙ ap (λ (n : ℕ). Uses.is_open uses client.address n client.port) (plus_zero 1) ∙ open_same client.port ∙ h);
    remainder = tt;
  }

  not_zero : client.port ≡ 0 → is_vacant table client.protocol client.port ≡ false
  not_zero same = false_by (is_vacant table client.protocol client.port) (λ t.
      let p = and_parts _ _ (and_parts _ _ t).0 in let q = and_parts _ _ p.0 in let low = leb-true pool.tcp.low client.port q.0 in let some = is.some in omega (arith, low, some, same))

  stays_out : ((client.port ≡ 0) ⊎ (¬ GoesBack uses client.address 1 None client.port 1)) → is_vacant table client.protocol client.port ≡ false
  stays_out (inl same) = not_zero same
  stays_out (inr stays) = false_by (is_vacant table client.protocol client.port) (λ t. stays (vacant_back t))

  least_is : (o : Option Picked) → IsLongest uses None 1 o → start_of o ≡ least_vacant table client.protocol
  unfolding least_vacant
  least_is None none = sym (find-nothing (is_vacant table client.protocol) (range_with_len pool.tcp.low (pool.tcp.high + 1 - pool.tcp.low))
      (All-from_IsIn (λ port. is_vacant table client.protocol port ≡ false) (range_with_len pool.tcp.low (pool.tcp.high + 1 - pool.tcp.low)) (λ port i.
      false_by (is_vacant table client.protocol port) (λ t. none 1 (omega arith) (omega arith) (port, vacant_run port t)))))
  least_is (Some run) found =
      let some = found.some in
      let within = found.within in
      let one : run.count ≡ 1 = omega (arith, some, within) in
      let here : is_vacant table client.protocol run.start ≡ true = run_vacant run.start (subst (λ (n : ℕ). IsVacantRun uses n None run.start) one found.vacant) in
      let p = and_parts _ _ (and_parts _ _ here).0 in
      let q = and_parts _ _ p.0 in
      let low = leb-true pool.tcp.low run.start q.0 in
      let high = leb-true run.start pool.tcp.high q.1 in
      sym (find_range (is_vacant table client.protocol) (pool.tcp.high + 1 - pool.tcp.low) pool.tcp.low run.start low (omega (arith, low, high)) here (λ i less.
      false_by (is_vacant table client.protocol i) (λ t.
      let later : run.start ≤ i = found.least i (subst (λ (n : ℕ). IsVacantRun uses n None i) (sym one) (vacant_run i t)) in omega (arith, less, later))))

  picked : (o : Option Picked) → IsPick uses client.address 1 client.port None 1 o → start_of o ≡ vacant_for table client
  picked o (suggestion some back is_it) =
      ap start_of is_it ∙ sym (ap (λ (b : Bool). cond b (Some client.port) (least_vacant table client.protocol)) (back_vacant back))
  picked o (longest out found) =
      least_is o found ∙ sym (ap (λ (b : Bool). cond b (Some client.port) (least_vacant table client.protocol)) (stays_out out))

  abbrev pub one_port : PickAsk
  one_port = record { internal = 1; suggested = client.port; asked = 1; room = 1; parity = None; must = false; here = true }

  pub pick_is : (answer : Result Picked PickRefused) → IsPickAnswer pool client.address client.protocol one_port answer → port_given answer ≡ vacant_for table client
  pick_is answer h =
      let few = few_held pool (rest_in rests) ts is client.address in
      let quota = is.quota in
      let held = is.counts client.address in
      let judged_pick = h.pick (omega (arith, few, quota, held)) in
      let room : min 1 (pool.quota - ports_held pool client.address) ≡ 1 = omega (arith, few, quota, held) in
      ap port_given judged_pick.is_answer ∙ judged judged_pick.choice
      ∙ picked judged_pick.choice (subst (λ (n : ℕ). IsPick uses client.address 1 client.port None n judged_pick.choice) room judged_pick.is_pick)
