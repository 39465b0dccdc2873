-- What the first item that passes a test tells of all that pass it.
use Rattle.std.proofs.Common.{rules, arith, ◌≡◌, ℕ, ◌+◌, ◌&&◌, ◌==◌, not, Bool, true, false, cond, List, [], ◌∷◌, Option, Some, None, refl, ap, sym, ◌∙◌, count_by, find}
use Rattle.std.specs.List.{list_any}
use Rattle.std.proofs.lemmas.Bool.{or_left, or_right, and_from, and_parts}
use Rattle.std.proofs.lemmas.List.Sums.{sum_by-cons}
use Rattle.pcp_base.specs.declared.leases.Endpoint.{Endpoint}
use Rattle.pcp_base.specs.declared.leases.PeerLease.{PeerLease}
use Rattle.pcp_base.specs.Tables.{names}
use Rattle.pcp_base.proofs.Members.{Contains-from_IsIn, find-some}
use Rattle.peer_table.specs.PeerLists.{is_live_peer, is_live_of, is_ended_peer, is_ended_of, IsEndedOf}

none_step : {X : Type 0} (p : X → Bool) (x : X) (xs : List X) (b : Bool) → p x ≡ b → (find p xs ≡ None → count_by p xs ≡ 0) → cond b (Some x) (find p xs) ≡ None → count_by p (x ∷ xs) ≡ 0
none_step p x xs true e rest h = absurd (cc)
none_step p x xs false e rest h =
    let all : count_by p (x ∷ xs) ≡ cond {A = ℕ} (p x) 1 0 + count_by p xs = sum_by-cons (λ y. cond {A = ℕ} (p y) 1 0) x xs in
    let first : cond {A = ℕ} (p x) 1 0 ≡ 0 = ap (λ (t : Bool). cond {A = ℕ} t 1 0) e in
    let others : count_by p xs ≡ 0 = rest h in
    omega (arith, all, first, others)

-- where none is found, none is counted
pub none_counted : {X : Type 0} (p : X → Bool) (xs : List X) → find p xs ≡ None → count_by p xs ≡ 0
none_counted p [] h = refl
none_counted p (x ∷ xs) h = none_step p x xs (p x) refl (none_counted p xs) h

any_step : {X : Type 0} (p r : X → Bool) (x l : X) (xs : List X) (b : Bool) → p x ≡ b → (p l ≡ true → r l ≡ true) → (find p xs ≡ Some l → list_any r xs ≡ true) → cond b (Some x) (find p xs) ≡ Some l → list_any r (x ∷ xs) ≡ true
any_step p r x l xs true e f rest h =
    let same : x ≡ l = cc in
    let passes : p l ≡ true = ap p (sym same) ∙ e in
    let both : r x ≡ true = ap r same ∙ f passes in
    or_left _ _ both
any_step p r x l xs false e f rest h = or_right _ _ (rest h)

-- what is found is one of them
pub found_among : {X : Type 0} (p r : X → Bool) (l : X) (xs : List X) → (p l ≡ true → r l ≡ true) → find p xs ≡ Some l → list_any r xs ≡ true
found_among p r l [] f h = absurd (cc)
found_among p r l (x ∷ xs) f h = any_step p r x l xs (p x) refl f (found_among p r l xs f) h

same_number : (n : ℕ) → (n == n) ≡ true
same_number n = search rules

pub port_use-found : (e : Endpoint) (m : ℕ) (ls : List PeerLease) (l : PeerLease) → find (is_live_of e m) ls ≡ Some l → list_any (λ x. is_live_of e m x && x.external == l.external) ls ≡ true
port_use-found e m ls l h =
    found_among (is_live_of e m) (λ x. is_live_of e m x && x.external == l.external) l ls
    (λ passes. and_from _ _ passes (same_number l.external)) h

pub is_false : (b : Bool) → not b ≡ true → b ≡ false
is_false true h = sym h
is_false false h = refl

-- a lease of the endpoint that has ended, by a search
pub ended_told : (e : Endpoint) (m : ℕ) (ls : List PeerLease) (r : Option PeerLease) → r ≡ find (is_ended_of e m) ls → IsEndedOf e m ls r
ended_told e m ls None is = record { among = tt; names = tt; dead = tt; none = none_counted (is_ended_of e m) ls (sym is) }
ended_told e m ls (Some l) is =
    let f = find-some (is_ended_of e m) ls l (sym is) in let both = and_parts (names l e) (is_ended_peer m l) f.1 in
    record { among = Contains-from_IsIn ls l f.0; names = both.0; dead = is_false (is_live_peer m l) both.1; none = tt }
