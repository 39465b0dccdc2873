-- What a lookup finds.
use Rattle.std.proofs.Common.{◌≡◌, ℕ, zero, suc, ◌+◌, ◌-◌, ◌<◌, ◌≤◌, ◌⊎◌, ◌&&◌, ◌==◌, not, Bool, true, false, List, [], ◌∷◌, length, take, slice_get, slice_index, get_or, Option, Some, None, IfNone, refl, sym, ap, ◌∙◌, subst, inl, inr, arith}
use Rattle.std.specs.List.{AllByRecursion}
use Rattle.std.proofs.lemmas.Bool.{and_parts, and_from, eqb-true, eq-eqb, ne_eqb, false_from_ne_true}
use Rattle.std.proofs.lemmas.Option.{slice_get_within, slice_get_read}
use Rattle.pcp_base.specs.declared.leases.Protocol.{Protocol}
use Rattle.pcp_base.specs.declared.leases.Endpoint.{Endpoint}
use Rattle.pcp_base.specs.declared.leases.MapLease.{MapLease}
use Rattle.pcp_base.specs.declared.leases.PeerLease.{PeerLease}
use Rattle.pcp_base.specs.Tables.{EachTwo}
use Rattle.pcp_base.specs.Owners.{is_port, peer_owner}
use Rattle.filter_rules.specs.Filters.{allows}
use Rattle.filter_rules.specs.Lookups.{is_with}
use Rattle.pcp_base.proofs.Members.{IsIn, All-IsIn}
use Rattle.pcp_base.proofs.Same.{same_protocol-Decides}
use Rattle.lane_index.specs.declared.links.TheConstants.{PORT_SLOTS}
use Rattle.lane_index.specs.declared.senders.Sender.{Sender}
use Rattle.lane_index.specs.declared.cells.Cell.{Cell}
use Rattle.lane_index.specs.declared.cells.Cell.TheVariants.{Mapping, Peering}
use Rattle.lane_index.specs.Ports.{slot_at}
use Rattle.lane_index.specs.Slots.{takes, stands_in, peer_slot, is_live}
use Rattle.lane_index.specs.Links.{TellsLast, ChainLists, AreChained, AreTaken}
use Rattle.lane_index.specs.Openings.{lets_in, behind, IsOpen, LaterWins, EachLaterWins, IsClosedTo, NoneOpens}

-- ---- members and places

pub get-in : {X : Type 0} (xs : List X) (i : ℕ) (x : X) → slice_get xs i ≡ Some x → IsIn x xs
get-in [] i x h = absurd (let never : None ≡ Some x = h in cc)
get-in (y ∷ ys) zero x h = inl (let both : Some y ≡ Some x = h in cc)
get-in (y ∷ ys) (suc i) x h = inr (get-in ys i x h)

pub in-get : {X : Type 0} (xs : List X) (x : X) → IsIn x xs → (i : ℕ) × (slice_get xs i ≡ Some x)
in-get [] x h = absurd h
in-get (y ∷ ys) x (inl e) = (0, ap Some e)
in-get (y ∷ ys) x (inr h) = let r = in-get ys x h in (suc r.0, r.1)

get-take : {X : Type 0} (xs : List X) (n i : ℕ) (x : X) → i < n → slice_get xs i ≡ Some x → slice_get (take n xs) i ≡ Some x
get-take [] n i x lt h = absurd (let never : None ≡ Some x = h in cc)
get-take (y ∷ ys) zero i x lt h = absurd (omega (arith, lt))
get-take (y ∷ ys) (suc n) zero x lt h = h
get-take (y ∷ ys) (suc n) (suc i) x lt h = get-take ys n i x (omega (arith, lt)) h

take-get : {X : Type 0} (xs : List X) (n i : ℕ) (x : X) → slice_get (take n xs) i ≡ Some x → (i < n) × (slice_get xs i ≡ Some x)
take-get [] zero i x h = absurd (let never : None ≡ Some x = h in cc)
take-get [] (suc n) i x h = absurd (let never : None ≡ Some x = h in cc)
take-get (y ∷ ys) zero i x h = absurd (let never : None ≡ Some x = h in cc)
take-get (y ∷ ys) (suc n) zero x h = (omega arith, h)
take-get (y ∷ ys) (suc n) (suc i) x h = let r = take-get ys n i x h in (omega (arith, r.0), r.1)

pub two-get : {X : Type 0} (R : X → X → Type 0) (xs : List X) (i j : ℕ) (x y : X) → EachTwo R xs → i < j → slice_get xs i ≡ Some x → slice_get xs j ≡ Some y → R x y
two-get R [] i j x y h lt g k = absurd (let never : None ≡ Some x = g in cc)
two-get R (z ∷ zs) zero zero x y h lt g k = absurd (omega (arith, lt))
two-get R (z ∷ zs) zero (suc j) x y h lt g k =
    let same : z ≡ x = (let both : Some z ≡ Some x = g in cc) in
    subst (λ w. R w y) same (All-IsIn (R z) zs y h.0 (get-in zs j y k))
two-get R (z ∷ zs) (suc i) zero x y h lt g k = absurd (omega (arith, lt))
two-get R (z ∷ zs) (suc i) (suc j) x y h lt g k = two-get R zs i j x y h.1 (omega (arith, lt)) g k

one-option : {X : Type 0} (o : Option X) (x y : X) → o ≡ Some x → o ≡ Some y → x ≡ y
one-option o x y h k = let both : Some x ≡ Some y = sym h ∙ k in cc

-- ---- one cell

module _ (m : ℕ) (s : Sender) (cells : List Cell) (number : ℕ) where
  shut-where : (at : ℕ) (x : Cell) → number ≡ at + 1 → slice_get cells at ≡ Some x → (is_live m x ≡ true → lets_in s x ≡ false) → IsClosedTo m s number cells
  shut-where at x is there shut i c same g =
      let place : i ≡ at = omega (arith, is, same) in
      let one : x ≡ c = one-option (slice_get cells at) x c there (subst (λ (n : ℕ). slice_get cells n ≡ Some c) place g) in
      subst (λ (d : Cell). is_live m d ≡ true → lets_in s d ≡ false) one shut

  pub open-where : (from : ℕ) (x : Cell) (e : Endpoint) → from ≡ number → (number ≡ 0 → ⊥) → number ≤ length cells → x ≡ get_or cells (from - 1) x → is_live m x ≡ true → lets_in s x ≡ true → e ≡ behind s.port x → IsOpen m s cells e
  open-where from x e is other inside read alive lets end =
      let within : from - 1 < length cells = omega (arith, is, other, inside) in
      record { cell = x; there = get-in cells (from - 1) x (slice_get_read cells (length cells) (from - 1) x refl within read); live = alive; lets = lets; behind = end }

  pub shut-none : number ≡ 0 → IsClosedTo m s number cells
  shut-none is i c same g = absurd (omega (arith, is, same))

  pub shut-dead : (at : ℕ) (x : Cell) → number ≡ at + 1 → slice_get cells at ≡ Some x → is_live m x ≡ false → IsClosedTo m s number cells
  shut-dead at x is there dead = shut-where at x is there (λ alive. absurd (let never : true ≡ false = sym alive ∙ dead in cc))

  pub shut-closed : (at : ℕ) (x : Cell) → number ≡ at + 1 → slice_get cells at ≡ Some x → lets_in s x ≡ false → IsClosedTo m s number cells
  shut-closed at x is there closed = shut-where at x is there (λ alive. closed)

-- ---- the way back through a slot

-- the number tells a PEER lease of the slot, or none, and no later one is open
pub record IsSought (m : ℕ) (s : Sender) (slot : ℕ) (cells : List Cell) (at : ℕ) : Type 0 where
  pub here : (i : ℕ) → at ≡ suc i → (c : Cell) × (slice_get cells i ≡ Some c) × (stands_in slot c ≡ true)
  pub past : (i : ℕ) (c : Cell) → at ≤ i → slice_get cells i ≡ Some c → stands_in slot c ≡ true → is_live m c ≡ true → lets_in s c ≡ false

module _ (m : ℕ) (s : Sender) (slot : ℕ) (cells : List Cell) where
  pub sought-first : (last : ℕ) → TellsLast (stands_in slot) cells last → IsSought m s slot cells last
  sought-first last h = record { here = h.here; past = λ i c le g stands live. absurd (let never : true ≡ false = sym stands ∙ h.later i c le g in cc) }

  -- the number is that of a cell
  pub sought-inside : (at : ℕ) → IsSought m s slot cells at → at ≤ length cells
  sought-inside zero h = omega arith
  sought-inside (suc i) h = let r = h.here i refl in let within = slice_get_within cells i r.0 r.1 in omega (arith, within)

  module _ (chain : ChainLists) (h' : AreChained PORT_SLOTS stands_in cells chain) where
    last-before : (i : ℕ) → IsSought m s slot cells (suc i) → TellsLast (stands_in slot) (take i cells) (slice_index chain.older i)
    last-before i h = let r = h.here i refl in h'.links i r.0 slot r.1 r.2

    pub sought-less : (i : ℕ) → IsSought m s slot cells (suc i) → slice_index chain.older i ≤ i
    sought-less i h = less (slice_index chain.older i) refl
      where
        less : (n : ℕ) → slice_index chain.older i ≡ n → n ≤ i
        less zero is = omega arith
        less (suc j) is = let r = (last-before i h).here j is in let t = take-get cells i j r.0 r.1 in let lt = t.0 in omega (arith, lt)

    pub sought-next : (i : ℕ) → IsSought m s slot cells (suc i) → IsClosedTo m s (suc i) cells → IsSought m s slot cells (slice_index chain.older i)
    sought-next i h shut = record {
      here = λ j is. (let r = (last-before i h).here j is in (r.0, (take-get cells i j r.0 r.1).1, r.2));
      past = λ k c le g stands live. elim (order k) [
        | inl below ↦ absurd (let never : true ≡ false = sym stands ∙ (last-before i h).later k c le (get-take cells i k c below g) in cc)
        | inr rest ↦ elim rest [
          | inl same ↦ shut i c refl (subst (λ (n : ℕ). slice_get cells n ≡ Some c) same g) live
          | inr above ↦ h.past k c above g stands live
        ]
      ];
    }
      where
        order : (k : ℕ) → (k < i) ⊎ ((k ≡ i) ⊎ (suc i ≤ k))
        order k = step (Rattle.std.specs.Prelude.nat_lt k i) (k == i) refl refl
          where
            step : (a b : Bool) → Rattle.std.specs.Prelude.nat_lt k i ≡ a → (k == i) ≡ b → (k < i) ⊎ ((k ≡ i) ⊎ (suc i ≤ k))
            step true b e f = inl (Rattle.std.proofs.lemmas.Bool.ltb-true k i e)
            step false true e f = inr (inl (eqb-true k i f))
            step false false e f = inr (inr (let not-less = Rattle.std.proofs.lemmas.Bool.ltb-false k i e in let other = Rattle.std.proofs.lemmas.Bool.eqb-false k i f in omega (arith, not-less, other)))

  pub sought-none : IsSought m s slot cells 0 → NoneOpens m s (stands_in slot) cells
  sought-none h c i stands live = let r = in-get cells c i in h.past r.0 c (omega arith) r.1 stands live

-- ---- both kinds of leases

module _ (m : ℕ) (s : Sender) (cells : List Cell) (maps : List ℕ) (h : AreTaken cells maps) where
  abbrev slot : ℕ
  slot = slot_at s.protocol s.port

  -- a lease that lets the remote peer in takes the slot of its port, or stands in it
  map-shut : (l : MapLease) → slot < PORT_SLOTS → EachLaterWins m cells → IsClosedTo m s (slice_index maps slot) cells → IsIn (Mapping l) cells → is_live m (Mapping l) ≡ true → takes slot (Mapping l) ≡ true → lets_in s (Mapping l) ≡ false
  map-shut l inside wins shut there live takes-it =
      let at = in-get cells (Mapping l) there in
      told (slice_index maps slot) (h slot inside) shut at.0 at.1
    where
      told : (n : ℕ) → TellsLast (takes slot) cells n → IsClosedTo m s n cells → (i : ℕ) → slice_get cells i ≡ Some (Mapping l) → lets_in s (Mapping l) ≡ false
      told zero last shut' i g = absurd (let never : true ≡ false = sym takes-it ∙ last.later i (Mapping l) (omega arith) g in cc)
      told (suc j) last shut' i g = step (Rattle.std.specs.Prelude.nat_lt j i) (j == i) refl refl
        where
          step : (a b : Bool) → Rattle.std.specs.Prelude.nat_lt j i ≡ a → (j == i) ≡ b → lets_in s (Mapping l) ≡ false
          step true b e f = absurd (let lt = Rattle.std.proofs.lemmas.Bool.ltb-true j i e in let never : true ≡ false = sym takes-it ∙ last.later i (Mapping l) (omega (arith, lt)) g in cc)
          step false true e f = let same = eqb-true j i f in shut' j (Mapping l) refl (subst (λ (n : ℕ). slice_get cells n ≡ Some (Mapping l)) (sym same) g) live
          step false false e f =
              let not-less = Rattle.std.proofs.lemmas.Bool.ltb-false j i e in let other = Rattle.std.proofs.lemmas.Bool.eqb-false j i f in
              let r = last.here j refl in
              let win : LaterWins m (Mapping l) r.0 = two-get (LaterWins m) cells i j (Mapping l) r.0 wins (omega (arith, not-less, other)) g r.1 in
              absurd (let never : true ≡ false = sym live ∙ win slot takes-it r.2 in cc)

  peer-stands : (l : PeerLease) → lets_in s (Peering l) ≡ true → is_live m (Peering l) ≡ true → stands_in slot (Peering l) ≡ true
  peer-stands l lets live =
      let p = and_parts _ _ (and_parts (is_port s.protocol s.port (peer_owner l)) (is_with s.remote s.remote_port l) lets).0 in
      let protocols : l.endpoint.protocol ≡ s.protocol = (same_protocol-Decides l.endpoint.protocol s.protocol).0 p.0 in
      let ports : l.external ≡ s.port = eqb-true l.external s.port p.1 in
      let open' : (l.expiry == 0) ≡ false = ne_eqb l.expiry 0 (λ none. let lt = Rattle.std.proofs.lemmas.Bool.ltb-true m l.expiry live in omega (arith, lt, none)) in
      and_from (peer_slot l == slot) (not (l.expiry == 0)) (eq-eqb (peer_slot l) slot (ap (λ (q : Protocol). slot_at q l.external) protocols ∙ ap (slot_at s.protocol) ports)) (ap not open')

  pub none-opens : slot < PORT_SLOTS → IsClosedTo m s (slice_index maps slot) cells → NoneOpens m s (stands_in slot) cells → EachLaterWins m cells → NoneOpens m s (λ c. true) cells
  none-opens inside shut none wins (Mapping l) there any live = step (takes slot (Mapping l)) refl
    where
      step : (b : Bool) → takes slot (Mapping l) ≡ b → lets_in s (Mapping l) ≡ false
      step true e = map-shut l inside wins shut there live e
      step false e = ap (λ (b : Bool). b && allows l.filters s.remote s.remote_port) e
  none-opens inside shut none wins (Peering l) there any live =
      false_from_ne_true (lets_in s (Peering l)) (λ lets. absurd (let never : true ≡ false = sym lets ∙ none (Peering l) there (peer-stands l lets live) live in cc))

pub none-weaker : {X : Type 0} {P Q : Type 0} (o : Option X) → IfNone o P → (P → Q) → IfNone o Q
none-weaker None h f = f h
none-weaker (Some x) h f = tt
