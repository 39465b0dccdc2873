-- What the tests on lists of owned ports say.
use Rattle.std.specs.Prelude.{◌≡◌, refl, ℕ, ◌≤◌, ◌<◌, ◌⊎◌, ◌&&◌, ◌||◌, ◌==◌, ◌↔◌, not, Bool, true, false, List, [], ◌∷◌, Contains, IsTrue}
use Rattle.std.specs.List.{AllByRecursion, list_all, list_any}
use Rattle.std.proofs.Common.{inl, inr, sym, ap, ◌∙◌, subst, arith, cond}
use Rattle.std.proofs.lemmas.Bool.{and_parts, and_from, and_left, and_right, or_cases, or_left, or_right, not-true, not_from_false, not_from_true, cases_Bool, cases_lt, cond-true, cond-false, false_from_ne_true, eqb-true, eq-eqb}
use Rattle.pcp_base.specs.declared.leases.Endpoint.{Endpoint}
use Rattle.pcp_base.specs.declared.leases.MapLease.{MapLease}
use Rattle.pcp_base.specs.declared.leases.Owner.{Owner}
use Rattle.pcp_base.specs.declared.leases.End.{End}
use Rattle.pcp_base.specs.Tables.{covers, first_endpoint, same_endpoint, same_protocol, AreApart}
use Rattle.pcp_base.specs.Owners.{is_port}
use Rattle.pcp_base.specs.Rooms.{Agree}
use Rattle.pcp_base.proofs.Same.{same_endpoint-Decides, same_protocol-Decides}
use Rattle.pcp_base.proofs.Members.{IsIn, IsIn-from_Contains, Contains-from_IsIn, All-IsIn, All-from_IsIn, any-some, some-any}
use Rattle.pcp_base.proofs.TableLemmas.{IsCovered, IsCovered-from_covers, covers-from_IsCovered}
use Rattle.plain_replay.specs.Agreeing.{agrees, all_agree, both_cover, no_first_covered, leaves, leave_all}

all-IsIn : {X : Type 0} (p : X → Bool) (xs : List X) (x : X) → list_all p xs ≡ true → IsIn x xs → p x ≡ true
all-IsIn p [] x a h = absurd h
all-IsIn p (y ∷ ys) x a (inl e) = ap p (sym e) ∙ (and_parts (p y) (list_all p ys) a).0
all-IsIn p (y ∷ ys) x a (inr h) = all-IsIn p ys x (and_parts (p y) (list_all p ys) a).1 h

all-from_IsIn : {X : Type 0} (p : X → Bool) (xs : List X) → ((x : X) → IsIn x xs → p x ≡ true) → list_all p xs ≡ true
all-from_IsIn p [] f = refl
all-from_IsIn p (y ∷ ys) f = and_from (p y) (list_all p ys) (f y (inl refl)) (all-from_IsIn p ys (λ x h. f x (inr h)))

-- ---- two ports side by side

port_from : (p q : Owner) → p.protocol ≡ q.protocol → p.external ≡ q.external → is_port q.protocol q.external p ≡ true
port_from p q e f = and_from (same_protocol p.protocol q.protocol) (p.external == q.external) ((same_protocol-Decides p.protocol q.protocol).1 e) (eq-eqb p.external q.external f)

one_owner : (p q : Owner) → agrees p q ≡ true → p.protocol ≡ q.protocol → p.external ≡ q.external → p.endpoint ≡ q.endpoint
one_owner p q h e f =
    elim (cases_Bool (same_endpoint p.endpoint q.endpoint)) [
      | inl same ↦ (same_endpoint-Decides p.endpoint q.endpoint).0 same
      | inr other ↦ (
          let free : not (is_port q.protocol q.external p) ≡ true =
          sym (cond-false (same_endpoint p.endpoint q.endpoint) (p.external == q.external) (not (is_port q.protocol q.external p)) other) ∙ h in
          let unowned : is_port q.protocol q.external p ≡ false = not-true (is_port q.protocol q.external p) free in
          let taken = port_from p q e f in absurd cc)
    ]

one_port : (p q : Owner) → agrees p q ≡ true → p.endpoint ≡ q.endpoint → p.external ≡ q.external
one_port p q h e =
    let same = (same_endpoint-Decides p.endpoint q.endpoint).1 e in
    eqb-true p.external q.external
    (sym (cond-true (same_endpoint p.endpoint q.endpoint) (p.external == q.external) (not (is_port q.protocol q.external p)) same) ∙ h)

agrees-from : (p q : Owner) → (p.protocol ≡ q.protocol → p.external ≡ q.external → p.endpoint ≡ q.endpoint) →
    (p.endpoint ≡ q.endpoint → p.external ≡ q.external) → agrees p q ≡ true
agrees-from p q owner port =
    elim (cases_Bool (same_endpoint p.endpoint q.endpoint)) [
      | inl same ↦ cond-true (same_endpoint p.endpoint q.endpoint) (p.external == q.external) (not (is_port q.protocol q.external p)) same
          ∙ eq-eqb p.external q.external (port ((same_endpoint-Decides p.endpoint q.endpoint).0 same))
      | inr other ↦ cond-false (same_endpoint p.endpoint q.endpoint) (p.external == q.external) (not (is_port q.protocol q.external p)) other
          ∙ not_from_false (is_port q.protocol q.external p) (false_from_ne_true (is_port q.protocol q.external p) (λ taken.
          let parts = and_parts (same_protocol p.protocol q.protocol) (p.external == q.external) taken in
          let is = owner ((same_protocol-Decides p.protocol q.protocol).0 parts.0) (eqb-true p.external q.external parts.1) in
          let same = (same_endpoint-Decides p.endpoint q.endpoint).1 is in absurd cc))
    ]

pub Agree-from_test : (os ps : List Owner) → all_agree os ps ≡ true → Agree os ps
Agree-from_test os ps h =
    let each : (p q : Owner) → Contains os p → Contains ps q → agrees p q ≡ true =
    λ p q a b. all-IsIn (agrees p) ps q (all-IsIn (λ x. list_all (agrees x) ps) os p h (IsIn-from_Contains os p a)) (IsIn-from_Contains ps q b) in
    record {
      owner = λ p q a b. one_owner p q (each p q a b);
      port = λ p q a b. one_port p q (each p q a b);
    }

pub test-from_Agree : (os ps : List Owner) → Agree os ps → all_agree os ps ≡ true
test-from_Agree os ps h =
    all-from_IsIn (λ p. list_all (agrees p) ps) os (λ p a. all-from_IsIn (agrees p) ps (λ q b.
    agrees-from p q (h.owner p q (Contains-from_IsIn os p a) (Contains-from_IsIn ps q b)) (h.port p q (Contains-from_IsIn os p a) (Contains-from_IsIn ps q b))))

-- ---- leases apart

cover_both : (a b : MapLease) (e : Endpoint) → IsCovered a e → IsCovered b e → both_cover a b e ≡ true
cover_both a b e h k = and_from (covers a e) (covers b e) (covers-from_IsCovered a e h) (covers-from_IsCovered b e k)

pub apart-from_test : (a b : MapLease) → no_first_covered a b ≡ true → AreApart a b
apart-from_test a b h e in_a in_b =
    let parts = and_parts (not (both_cover a b (first_endpoint a))) (not (both_cover a b (first_endpoint b))) h in
    let first_a : both_cover a b (first_endpoint a) ≡ false = not-true (both_cover a b (first_endpoint a)) parts.0 in
    let first_b : both_cover a b (first_endpoint b) ≡ false = not-true (both_cover a b (first_endpoint b)) parts.1 in
    let x = IsCovered-from_covers a e in_a in
    let y = IsCovered-from_covers b e in_b in
    let addresses : a.address ≡ b.address = x.address ∙ sym y.address in
    let protocols : a.protocol ≡ b.protocol = x.protocol ∙ sym y.protocol in
    elim (cases_lt a.internal b.internal) [
      | inl low ↦ (
          let both = cover_both a b (first_endpoint b)
          (record { address = addresses; protocol = protocols; from = omega (arith, low); below = omega (arith, x.below, y.from) })
          (record { address = refl; protocol = refl; from = omega arith; below = omega (arith, y.from, y.below) }) in absurd cc)
      | inr high ↦ (
          let both = cover_both a b (first_endpoint a)
          (record { address = refl; protocol = refl; from = omega arith; below = omega (arith, x.from, x.below) })
          (record { address = sym addresses; protocol = sym protocols; from = omega (arith, high); below = omega (arith, y.below, x.from) }) in absurd cc)
    ]

uncovered : (a b : MapLease) (e : Endpoint) → AreApart a b → not (both_cover a b e) ≡ true
uncovered a b e h = not_from_false (both_cover a b e) (false_from_ne_true (both_cover a b e) (λ both.
    let parts = and_parts (covers a e) (covers b e) both in h e parts.0 parts.1))

pub test-from_apart : (a b : MapLease) → AreApart a b → no_first_covered a b ≡ true
test-from_apart a b h =
    and_from (not (both_cover a b (first_endpoint a))) (not (both_cover a b (first_endpoint b))) (uncovered a b (first_endpoint a) h) (uncovered a b (first_endpoint b) h)

pub all_apart : (maps : List MapLease) (l : MapLease) → (list_all (λ x. no_first_covered x l) maps ≡ true) ↔ AllByRecursion (λ x. AreApart x l) maps
all_apart maps l = (
  λ h. All-from_IsIn (λ x. AreApart x l) maps (λ x there. apart-from_test x l (all-IsIn (λ y. no_first_covered y l) maps x h there)),
  λ h. all-from_IsIn (λ x. no_first_covered x l) maps (λ x there. test-from_apart x l (All-IsIn (λ y. AreApart y l) maps x h there)),
)

-- ---- ports that rest

-- of a list of ends what `RestForNoOther` says
abbrev pub LeftByAll : List End → List Owner → Type 0
LeftByAll ends os = AllByRecursion (λ o. (e : Endpoint) → e.protocol ≡ o.protocol →
    list_any (λ x. same_endpoint x.endpoint e && x.external == o.external) ends ≡ true → e ≡ o.endpoint) os

same_port : (o : Owner) (x : End) → o.protocol ≡ x.endpoint.protocol → o.external ≡ x.external → is_port x.endpoint.protocol x.external o ≡ true
same_port o x e f = and_from (same_protocol o.protocol x.endpoint.protocol) (o.external == x.external)
    ((same_protocol-Decides o.protocol x.endpoint.protocol).1 e) (eq-eqb o.external x.external f)

left_for : (o : Owner) (x : End) (e : Endpoint) → leaves o x ≡ true → e.protocol ≡ o.protocol →
    (same_endpoint x.endpoint e && x.external == o.external) ≡ true → e ≡ o.endpoint
left_for o x e h protocol k =
    let parts = and_parts (same_endpoint x.endpoint e) (x.external == o.external) k in
    let is : x.endpoint ≡ e = (same_endpoint-Decides x.endpoint e).0 parts.0 in
    let ports = same_port o x (sym protocol ∙ ap (λ (y : Endpoint). y.protocol) (sym is)) (sym (eqb-true x.external o.external parts.1)) in
    elim (or_cases (not (is_port x.endpoint.protocol x.external o)) (same_endpoint x.endpoint o.endpoint) h) [
      | inl other ↦ (let free = not-true (is_port x.endpoint.protocol x.external o) other in absurd cc)
      | inr same ↦ sym is ∙ (same_endpoint-Decides x.endpoint o.endpoint).0 same
    ]

leaves-from : (o : Owner) (x : End) → (o.protocol ≡ x.endpoint.protocol → o.external ≡ x.external → x.endpoint ≡ o.endpoint) → leaves o x ≡ true
leaves-from o x h =
    elim (cases_Bool (is_port x.endpoint.protocol x.external o)) [
      | inl ports ↦ (
          let parts = and_parts (same_protocol o.protocol x.endpoint.protocol) (o.external == x.external) ports in
          let is = h ((same_protocol-Decides o.protocol x.endpoint.protocol).0 parts.0) (eqb-true o.external x.external parts.1) in
          or_right (not (is_port x.endpoint.protocol x.external o)) (same_endpoint x.endpoint o.endpoint) ((same_endpoint-Decides x.endpoint o.endpoint).1 is))
      | inr other ↦ or_left (not (is_port x.endpoint.protocol x.external o)) (same_endpoint x.endpoint o.endpoint) (not_from_false (is_port x.endpoint.protocol x.external o) other)
    ]

pub left_by_all : (ends : List End) (os : List Owner) → (leave_all ends os ≡ true) ↔ LeftByAll ends os
left_by_all ends os = (
  λ h. All-from_IsIn (λ o. (e : Endpoint) → e.protocol ≡ o.protocol →
      list_any (λ x. same_endpoint x.endpoint e && x.external == o.external) ends ≡ true → e ≡ o.endpoint) os
      (λ o there e protocol some.
      let r = any-some (λ x. same_endpoint x.endpoint e && x.external == o.external) ends some in
      left_for o r.0 e (all-IsIn (leaves o) ends r.0 (all-IsIn (λ y. list_all (leaves y) ends) os o h there) r.1) protocol r.2),
  λ h. all-from_IsIn (λ o. list_all (leaves o) ends) os (λ o there. all-from_IsIn (leaves o) ends (λ x has.
      leaves-from o x (λ protocol external.
      All-IsIn (λ y. (e : Endpoint) → e.protocol ≡ y.protocol →
      list_any (λ z. same_endpoint z.endpoint e && z.external == y.external) ends ≡ true → e ≡ y.endpoint) os o h there
      x.endpoint (sym protocol)
      (some-any (λ z. same_endpoint z.endpoint x.endpoint && z.external == o.external) ends x has
      (and_from (same_endpoint x.endpoint x.endpoint) (x.external == o.external) ((same_endpoint-Decides x.endpoint x.endpoint).1 refl) (eq-eqb x.external o.external (sym external))))))),
)
