-- Which leases are live at any moment, of those that are live at one.
use Rattle.std.proofs.Common.{◌≡◌, ℕ, ◌≤◌, nat_lt, max, Bool, true, false, cond, List, [], ◌∷◌, filter, refl, sym, ap, ◌∙◌, arith}
use Rattle.std.proofs.Math.Nat.{max-eq_left, max-eq_right}
use Rattle.std.proofs.lemmas.Bool.{cond-true, ltb-true, ltb-false, lt-ltb}
use Rattle.pcp_base.specs.declared.leases.MapLease.{MapLease}
use Rattle.pcp_base.specs.declared.leases.PeerLease.{PeerLease}
use Rattle.pcp_base.specs.Tables.{Table, live}
use Rattle.indexed_store.proofs.Uniques.{live-live}

filter-within : {X : Type 0} (p q : X → Bool) (xs : List X) → ((x : X) → q x ≡ true → p x ≡ true) → filter p (filter q xs) ≡ filter q xs
filter-within p q [] h = refl
filter-within {X} p q (x ∷ xs) h = step (q x) refl (filter-within p q xs h)
  where
    step : (b : Bool) → q x ≡ b → filter p (filter q xs) ≡ filter q xs → filter p (cond b (x ∷ filter q xs) (filter q xs)) ≡ cond b (x ∷ filter q xs) (filter q xs)
    step true is rest = cond-true (p x) (x ∷ filter p (filter q xs)) (filter p (filter q xs)) (h x is) ∙ ap (λ (ys : List X). x ∷ ys) rest
    step false is rest = rest

still-live : (m last expiry : ℕ) → m ≤ last → nat_lt last expiry ≡ true → nat_lt m expiry ≡ true
still-live m last expiry sooner alive = lt-ltb m expiry (let lt = ltb-true last expiry alive in omega (arith, sooner, lt))

live-sooner : (t : Table) (last m : ℕ) → m ≤ last → live (live t last) m ≡ live t last
live-sooner t last m sooner =
    ap (λ (ls : List MapLease). record { maps = ls; peers = filter (λ (l : PeerLease). nat_lt m l.expiry) (filter (λ (l : PeerLease). nat_lt last l.expiry) t.peers) })
    (filter-within (λ (l : MapLease). nat_lt m l.expiry) (λ (l : MapLease). nat_lt last l.expiry) t.maps (λ l alive. still-live m last l.expiry sooner alive))
    ∙ ap (λ (ls : List PeerLease). record { maps = filter (λ (l : MapLease). nat_lt last l.expiry) t.maps; peers = ls })
    (filter-within (λ (l : PeerLease). nat_lt m l.expiry) (λ (l : PeerLease). nat_lt last l.expiry) t.peers (λ l alive. still-live m last l.expiry sooner alive))

-- those at the later of both moments
pub live-max : (t : Table) (last m : ℕ) → live (live t last) m ≡ live t (max m last)
live-max t last m = step (nat_lt m last) refl
  where
    step : (b : Bool) → nat_lt m last ≡ b → live (live t last) m ≡ live t (max m last)
    step true is =
        let le : m ≤ last = (let lt = ltb-true m last is in omega (arith, lt)) in
        live-sooner t last m le ∙ ap (live t) (sym (max-eq_right le))
    step false is =
        let le = ltb-false m last is in
        live-live t last m le ∙ ap (live t) (sym (max-eq_left le))
