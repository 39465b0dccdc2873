-- Runs of owned ports, port by port.
use Rattle.std.proofs.Common.{◌≡◌, ℕ, ◌+◌, ◌-◌, ◌<◌, ◌≤◌, ◌&&◌, ◌||◌, zero, suc, Bool, true, false, cond, List, [], ◌∷◌, find, take, length, get_or, Option, Some, None, IfSome, refl, sym, ap, ◌∙◌, subst, inl, inr, arith}
use Rattle.std.specs.List.{AllByRecursion, list_any, range_with_len}
use Rattle.std.proofs.lemmas.Bool.{and_parts, and_from, eqb-true, eq-eqb}
use Rattle.std.proofs.lemmas.Bool.Decides.{nat_tests}
use Rattle.pcp_base.specs.declared.leases.Protocol.{Protocol}
use Rattle.pcp_base.specs.declared.leases.Owner.{Owner}
use Rattle.pcp_base.specs.Tables.{same_protocol}
use Rattle.pcp_base.specs.Owners.{is_port, is_owned}
use Rattle.pcp_base.proofs.Anys.{any-same, any-flat_map}
use Rattle.pcp_base.proofs.Members.{IsIn, IsIn-map, map-IsIn, IsIn-range, range-IsIn, find-some, find-none, All-IsIn, some-any, any-some}
use Rattle.pcp_base.proofs.Same.{same_protocol-Decides}
use Rattle.pcp_base.proofs.StageLaws.{unlike}
use Rattle.port_runs.specs.Ports.{is_in_run}
use Rattle.port_spans.proofs.RunLemmas.{in_from, in_to, in_by}
use Rattle.indexed_store.specs.declared.owning.OwnerRun.{OwnerRun}
use Rattle.indexed_store.specs.Runs.{IsOwnerRun, behind, has_port, have_port, owner_along, owner_in, owners_among, owners_of, up_to}

-- two tests that pass together are the same
pub both_ways : (a b : Bool) → (a ≡ true → b ≡ true) → (b ≡ true → a ≡ true) → a ≡ b
both_ways true b f g = sym (f refl)
both_ways false true f g = g refl
both_ways false false f g = refl

-- ---- owners along one

pub along_none : (o : Owner) → owner_along 0 o ≡ o
along_none o =
    let port : o.endpoint.port + 0 ≡ o.endpoint.port = omega arith in
    let external : o.external + 0 ≡ o.external = omega arith in
    ap (λ (n : ℕ). record { protocol = o.protocol; external = o.external + 0; endpoint = record o.endpoint { port = n } }) port
    ∙ ap (λ (n : ℕ). record { protocol = o.protocol; external = n; endpoint = o.endpoint }) external

pub along_twice : (o : Owner) (i j k : ℕ) → i + j ≡ k → owner_along j (owner_along i o) ≡ owner_along k o
along_twice o i j k h =
    let ports : o.endpoint.port + i + j ≡ o.endpoint.port + k = omega (arith, h) in
    let externals : o.external + i + j ≡ o.external + k = omega (arith, h) in
    ap (λ (n : ℕ). record { protocol = o.protocol; external = o.external + i + j; endpoint = record o.endpoint { port = n } }) ports
    ∙ ap (λ (n : ℕ). record { protocol = o.protocol; external = n; endpoint = record o.endpoint { port = o.endpoint.port + k } }) externals

-- ---- the ports of a run

-- the place of a port among those of the run
pub record IsPlace (protocol : Protocol) (port : ℕ) (r : OwnerRun) : Type 0 where
  pub place : ℕ
  pub less : place < r.count
  pub protocol_is : r.first.protocol ≡ protocol
  pub port_is : r.first.external + place ≡ port

module _ (protocol : Protocol) (port : ℕ) (r : OwnerRun) where
  pub place_in : has_port protocol port r ≡ true → IsPlace protocol port r
  place_in h =
      let k = and_parts (same_protocol r.first.protocol protocol) (is_in_run r.first.external r.count port) h in
      let from = in_from r.first.external r.count port k.1 in
      let to = in_to r.first.external r.count port k.1 in
      record {
        place = port - r.first.external;
        less = omega (arith, from, to);
        protocol_is = (same_protocol-Decides r.first.protocol protocol).0 k.0;
        port_is = omega (arith, from);
      }

  pub in_place : (i : ℕ) → i < r.count → r.first.protocol ≡ protocol → r.first.external + i ≡ port → has_port protocol port r ≡ true
  in_place i less same at = and_from (same_protocol r.first.protocol protocol) (is_in_run r.first.external r.count port)
      ((same_protocol-Decides r.first.protocol protocol).1 same) (in_by r.first.external r.count port (omega (arith, at)) (omega (arith, at, less)))

  -- an owner of the run that has the port
  one_owner : (x : Owner) → IsIn x (owners_of r) → is_port protocol port x ≡ true → (has_port protocol port r ≡ true) × (x ≡ owner_in r port)
  one_owner x there is =
      let m = IsIn-map (λ i. owner_along i r.first) (range_with_len 0 r.count) x there in
      let less = range-IsIn 0 r.count m.0 m.1 in
      let own = and_parts (same_protocol x.protocol protocol) _ is in
      let same : r.first.protocol ≡ protocol = ap (λ (o : Owner). o.protocol) m.2 ∙ (same_protocol-Decides x.protocol protocol).0 own.0 in
      let at : r.first.external + m.0 ≡ port = ap (λ (o : Owner). o.external) m.2 ∙ eqb-true x.external port own.1 in
      let off : m.0 ≡ port - r.first.external = omega (arith, at) in
      (in_place m.0 (omega (arith, less)) same at, sym m.2 ∙ ap (λ (i : ℕ). owner_along i r.first) off)

  -- the owner of a port of the run is one of them
  pub owner_there : has_port protocol port r ≡ true → IsIn (owner_in r port) (owners_of r)
  owner_there h =
      let p = place_in h in
      map-IsIn (λ i. owner_along i r.first) (range_with_len 0 r.count) (port - r.first.external) (IsIn-range 0 r.count (port - r.first.external) (omega arith) (omega (arith, p.less, p.port_is)))

  pub owner_port : has_port protocol port r ≡ true → is_port protocol port (owner_in r port) ≡ true
  owner_port h =
      let p = place_in h in
      let at : r.first.external + (port - r.first.external) ≡ port = omega (arith, p.port_is) in
      and_from _ _ ((same_protocol-Decides r.first.protocol protocol).1 p.protocol_is) (eq-eqb _ _ at)

  pub found_owner : find (is_port protocol port) (owners_of r) ≡ cond (has_port protocol port r) (Some (owner_in r port)) None
  found_owner = step (find (is_port protocol port) (owners_of r)) (has_port protocol port r) refl refl
    where
      step : (o : Option Owner) (b : Bool) → find (is_port protocol port) (owners_of r) ≡ o → has_port protocol port r ≡ b → o ≡ cond b (Some (owner_in r port)) None
      step None true e h = absurd (unlike (is_port protocol port (owner_in r port)) (owner_port h)
          (All-IsIn (λ x. is_port protocol port x ≡ false) (owners_of r) (owner_in r port) (find-none (is_port protocol port) (owners_of r) e) (owner_there h)))
      step None false e h = refl
      step (Some x) true e h = let f = find-some (is_port protocol port) (owners_of r) x e in ap Some (one_owner x f.0 f.1).1
      step (Some x) false e h = let f = find-some (is_port protocol port) (owners_of r) x e in absurd (unlike (has_port protocol port r) (one_owner x f.0 f.1).0 h)

  pub owned_run : is_owned protocol port (owners_of r) ≡ has_port protocol port r
  owned_run = both_ways (is_owned protocol port (owners_of r)) (has_port protocol port r)
      (λ h. let f = any-some (is_port protocol port) (owners_of r) h in (one_owner f.0 f.1 f.2).0)
      (λ h. some-any (is_port protocol port) (owners_of r) (owner_in r port) (owner_there h) (owner_port h))

pub owned_runs : (protocol : Protocol) (port : ℕ) (runs : List OwnerRun) → is_owned protocol port (owners_among runs) ≡ have_port protocol port runs
owned_runs protocol port runs =
    any-flat_map (is_port protocol port) owners_of runs
    ∙ any-same (λ (r : OwnerRun). list_any (is_port protocol port) (owners_of r)) (has_port protocol port) runs (λ r. owned_run protocol port r)

-- ---- a run piece by piece

no_run : (s : Bool) (start q : ℕ) → (s && is_in_run start 0 q) ≡ false
no_run true start q = grind (arith, nat_tests)
no_run false start q = refl

two_runs : (s : Bool) (start m n q : ℕ) → (s && is_in_run start (m + n) q) ≡ ((s && is_in_run start m q) || (s && is_in_run (start + m) n q))
two_runs true start m n q = grind (arith, nat_tests)
two_runs false start m n q = refl

module _ (protocol : Protocol) (port : ℕ) (r : OwnerRun) where
  pub has_none : has_port protocol port (up_to 0 r) ≡ false
  has_none = no_run (same_protocol r.first.protocol protocol) r.first.external port

  pub has_more : (done n : ℕ) → has_port protocol port (up_to (done + n) r) ≡ (has_port protocol port (up_to done r) || has_port protocol port (up_to n (behind done r)))
  has_more done n = two_runs (same_protocol r.first.protocol protocol) r.first.external done n port

  -- a port that stands behind the first has the same owner
  pub owner_behind : (done n : ℕ) → has_port protocol port (up_to n (behind done r)) ≡ true → owner_in (behind done r) port ≡ owner_in r port
  owner_behind done n h =
      let p = place_in protocol port (up_to n (behind done r)) h in
      let at : r.first.external + done + p.place ≡ port = p.port_is in
      along_twice r.first done (port - (r.first.external + done)) (port - r.first.external) (omega (arith, at))

-- what a piece more makes
pub set_more : {A : Type 0} (a b : Bool) (new old mid after : A) → mid ≡ cond a new old → after ≡ cond b new mid → after ≡ cond (a || b) new old
set_more true true new old mid after h k = k
set_more true false new old mid after h k = k ∙ h
set_more false true new old mid after h k = k
set_more false false new old mid after h k = k ∙ h

pub formed_up_to : (n : ℕ) (r : OwnerRun) → IsOwnerRun r → 1 ≤ n → n ≤ r.count → IsOwnerRun (up_to n r)
formed_up_to n r is some few = record {
  some = some;
  external = is.external;
  external_end = (let end = is.external_end in omega (arith, end, few));
  internal_end = (let end = is.internal_end in omega (arith, end, few));
  protocol = is.protocol;
}

-- ---- several runs

-- one item more passes, or one of those before
pub any_more : {X : Type 0} (p : X → Bool) (xs : List X) (i : ℕ) (d : X) → i < length xs → list_any p (take (i + 1) xs) ≡ (list_any p (take i xs) || p (get_or xs i d))
any_more p [] i d lt = absurd (omega (arith, lt))
any_more p (y ∷ ys) zero d lt = last_false (p y)
  where
    last_false : (b : Bool) → (b || false) ≡ (false || b)
    last_false true = refl
    last_false false = refl
any_more p (y ∷ ys) (suc i) d lt = let next : suc i + 1 ≡ suc (i + 1) = omega arith in
    ap (λ n. list_any p (take n (y ∷ ys))) next ∙ ap (λ b. p y || b) (any_more p ys i d (omega (arith, lt))) ∙ group (p y) (list_any p (take i ys)) (p (get_or ys i d))
  where
    group : (a b c : Bool) → (a || (b || c)) ≡ ((a || b) || c)
    group true b c = refl
    group false b c = refl

pub get-IsIn : {X : Type 0} (xs : List X) (i : ℕ) (d : X) → i < length xs → IsIn (get_or xs i d) xs
get-IsIn [] i d lt = absurd (omega (arith, lt))
get-IsIn (y ∷ ys) zero d lt = inl refl
get-IsIn (y ∷ ys) (suc i) d lt = inr (get-IsIn ys i d (omega (arith, lt)))

pub get-All : {X : Type 0} (P : X → Type 0) (xs : List X) (i : ℕ) (d : X) → AllByRecursion P xs → i < length xs → P (get_or xs i d)
get-All P xs i d all lt = All-IsIn P xs (get_or xs i d) all (get-IsIn xs i d lt)

-- a fact of what there is
pub if-some : {X : Type 0} (P : X → Type 0) (o : Option X) (x : X) → o ≡ Some x → IfSome o P → P x
if-some P o x e h = subst (λ o. IfSome o P) e h
