-- Small steps of ports and tables.
use Rattle.std.proofs.Common.{◌≡◌, ℕ, zero, suc, true, false, cond, Bool, List, [], ◌∷◌, ◌++◌, map, flat_map, filter, find, Option, Some, None, IfSome, Result, Ok, Err, OnOk, OnErr, refl, sym, ap, ◌∙◌, subst, append-nil}
use Rattle.std.specs.Prelude.{◌≤◌, max}
use Rattle.std.specs.List.{AllByRecursion}
use Rattle.std.proofs.Math.Nat.{max-eq_right}
use Rattle.std.proofs.lemmas.Bool.{cond-false}
use Rattle.pcp_base.specs.declared.addresses.Address.{Address}
use Rattle.pcp_base.specs.declared.leases.Protocol.{Protocol}
use Rattle.pcp_base.specs.declared.leases.Endpoint.{Endpoint}
use Rattle.pcp_base.specs.declared.leases.End.{End}
use Rattle.pcp_base.specs.declared.leases.MapLease.{MapLease}
use Rattle.pcp_base.specs.declared.leases.PeerLease.{PeerLease}
use Rattle.pcp_base.specs.declared.records.Change.TheVariants.{DropMap, DropPeer}
use Rattle.pcp_base.specs.Tables.{Table, EachTwo, AreApart, HaveOtherKeys, IsMapLease, is_map_of, is_peer_of, first_endpoint, covers}
use Rattle.pcp_base.specs.Owners.{owners, map_owners, peer_owner}
use Rattle.pcp_base.specs.Apply.{deleted}
use Rattle.pcp_base.specs.Sound.{Sound}
use Rattle.pcp_base.proofs.Members.{All-IsIn, All-from_IsIn, find-none}
use Rattle.pcp_base.proofs.Same.{same_endpoint-Decides}
use Rattle.pcp_base.proofs.TableLemmas.{covers-first}
use Rattle.lease_store.specs.declared.terms.Terms.{Terms}
use Rattle.leased_ports.specs.Leased.{Leased, IsOnTerms, OnlyEndsChange, at_moment, vacated}
use Rattle.indexed_store.proofs.Uniques.{keys-apart, two-weaker}

-- ports that moved on to a moment, by which some fell due, stay on their terms
pub on_moved : (v w : Leased) (m : ℕ) (terms : Terms) → w ≡ record (at_moment m v) { settled = w.settled } → IsOnTerms v terms → IsOnTerms w terms
on_moved v w m terms moved h = record {
  low = ap (λ (x : Leased). x.low) moved ∙ h.low;
  high = ap (λ (x : Leased). x.high) moved ∙ h.high;
  quota = ap (λ (x : Leased). x.quota) moved ∙ h.quota;
}

pub runs_moved : (v w : Leased) (m : ℕ) → w ≡ record (at_moment m v) { settled = w.settled } → w.runs ≡ v.runs
runs_moved v w m moved = ap (λ (x : Leased). x.runs) moved

pub moved_from : (v w old : Leased) (m : ℕ) → w ≡ record (at_moment m v) { settled = w.settled } → v ≡ old → w ≡ record (at_moment m old) { settled = w.settled }
moved_from v w old m moved same = moved ∙ ap (λ (x : Leased). record (at_moment m x) { settled = w.settled }) same

pub on_anew : (v : Leased) (terms : Terms) → IsOnTerms v terms → IsOnTerms (vacated v) terms
on_anew v terms h = record { low = h.low; high = h.high; quota = h.quota }

-- so do ports of which only the last ends change
pub on_changed : (v w : Leased) (terms : Terms) → IsOnTerms v terms → OnlyEndsChange v w → IsOnTerms w terms
on_changed v w terms h only = record { low = only.low ∙ h.low; high = only.high ∙ h.high; quota = only.quota ∙ h.quota }

-- what stands behind a call that is refused, too
pub either_way : {T E : Type 0} (r : Result T E) (P Q R : Type 0) → (P → R) → (Q → R) → OnOk r P → OnErr r Q → R
either_way (Ok x) P Q R f g p q = f p
either_way (Err e) P Q R f g p q = g q

pub both_ok : {T E : Type 0} (r : Result T E) (P Q R : Type 0) → (P → Q → R) → OnOk r P → OnOk r Q → OnOk r R
both_ok (Ok x) P Q R f p q = f p q
both_ok (Err e) P Q R f p q = tt

pub any_ok : {T E : Type 0} (r : Result T E) (P : Type 0) → P → OnOk r P
any_ok (Ok x) P p = p
any_ok (Err e) P p = tt

pub any_if : {T : Type 0} (o : Option T) (P : Type 0) → P → IfSome o (λ x. P)
any_if None P p = tt
any_if (Some x) P p = p

-- ---- the one lease with a key

pub none-filtered : {X : Type 0} (p : X → Bool) (xs : List X) → AllByRecursion (λ x. p x ≡ false) xs → filter p xs ≡ []
none-filtered p [] h = refl
none-filtered p (x ∷ xs) h = cond-false (p x) (x ∷ filter p xs) (filter p xs) h.0 ∙ none-filtered p xs h.1

pub one-filtered : {X : Type 0} (p : X → Bool) (xs : List X) (x : X) → EachTwo (λ a b. p a ≡ true → p b ≡ true → ⊥) xs → find p xs ≡ Some x → filter p xs ≡ x ∷ []
one-filtered p [] x two h = absurd (let never : None ≡ Some x = h in cc)
one-filtered p (y ∷ ys) x two h = step (p y) refl h (λ rest. one-filtered p ys x two.1 rest)
  where
    off : (b : Bool) → (b ≡ true → ⊥) → b ≡ false
    off true f = absurd (f refl)
    off false f = refl

    step : (b : Bool) → p y ≡ b → cond b (Some y) (find p ys) ≡ Some x → (find p ys ≡ Some x → filter p ys ≡ x ∷ []) → cond b (y ∷ filter p ys) (filter p ys) ≡ x ∷ []
    step true e is rest =
        let same : y ≡ x = (let both : Some y ≡ Some x = is in cc) in
        ap (λ zs. y ∷ zs) (none-filtered p ys (All-from_IsIn (λ z. p z ≡ false) ys (λ z i. off (p z) (λ t. All-IsIn (λ w. p y ≡ true → p w ≡ true → ⊥) ys z two.0 i e t)))) ∙ ap (λ z. z ∷ []) same
    step false e is rest = rest is

two-keys : (e : Endpoint) (maps : List MapLease) → EachTwo AreApart maps → AllByRecursion IsMapLease maps → EachTwo (λ a b. is_map_of e a ≡ true → is_map_of e b ≡ true → ⊥) maps
two-keys e [] apart formed = tt
two-keys e (x ∷ xs) apart formed = (
  All-from_IsIn (λ b. is_map_of e x ≡ true → is_map_of e b ≡ true → ⊥) xs (λ b i s t.
      let formed_b = All-IsIn IsMapLease xs b formed.1 i in
      All-IsIn (AreApart x) xs b apart.0 i e
      (subst (λ (z : Endpoint). covers x z ≡ true) ((same_endpoint-Decides (first_endpoint x) e).0 s) (covers-first x formed.0.ports.some))
      (subst (λ (z : Endpoint). covers b z ≡ true) ((same_endpoint-Decides (first_endpoint b) e).0 t) (covers-first b formed_b.ports.some))),
  two-keys e xs apart.1 formed.1,
)

module _ (t : Table) (sound : Sound t) where
  pub none_deleted : (e : Endpoint) → find (is_map_of e) t.maps ≡ None → [] ≡ owners (deleted (DropMap e) t)
  none_deleted e h = ap (λ (ls : List MapLease). flat_map map_owners ls ++ []) (sym (none-filtered (is_map_of e) t.maps (find-none (is_map_of e) t.maps h)))

  pub one_deleted : (e : Endpoint) (l : MapLease) → find (is_map_of e) t.maps ≡ Some l → map_owners l ≡ owners (deleted (DropMap e) t)
  one_deleted e l h =
      sym (ap (λ (ls : List MapLease). flat_map map_owners ls ++ []) (one-filtered (is_map_of e) t.maps l (two-keys e t.maps sound.apart sound.maps) h)
      ∙ append-nil (map_owners l ++ []) ∙ append-nil (map_owners l))

  module _ (e : Endpoint) (remote : Address) (port : ℕ) where
    pub no_peer_deleted : find (is_peer_of e remote port) t.peers ≡ None → [] ≡ owners (deleted (DropPeer e remote port) t)
    no_peer_deleted h = ap (map peer_owner) (sym (none-filtered (is_peer_of e remote port) t.peers (find-none (is_peer_of e remote port) t.peers h)))

    pub one_peer_deleted : (l : PeerLease) → find (is_peer_of e remote port) t.peers ≡ Some l → peer_owner l ∷ [] ≡ owners (deleted (DropPeer e remote port) t)
    one_peer_deleted l h =
        sym (ap (map peer_owner) (one-filtered (is_peer_of e remote port) t.peers l (two-weaker HaveOtherKeys (λ a b. is_peer_of e remote port a ≡ true → is_peer_of e remote port b ≡ true → ⊥) (keys-apart e remote port) t.peers sound.different) h))

-- a later moment is the later one
pub later_is : (x from m : ℕ) → x ≡ from → from ≤ m → max x m ≡ m
later_is x from m is later = max-eq_right (subst (λ n. n ≤ m) (sym is) later)
