-- What slots tell of MAP leases: when a cell is added, and when a lease is ended.
use Rattle.std.proofs.Common.{◌≡◌, ℕ, zero, suc, ◌+◌, ◌<◌, ◌≤◌, ◌⊎◌, ◌&&◌, nat_le, nat_lt, Bool, true, false, cond, List, [], ◌∷◌, ◌++◌, map, length, take, slice_get, slice_index, get_or, Some, None, refl, sym, ap, ◌∙◌, subst, inl, inr, arith}
use Rattle.std.specs.List.{AllByRecursion}
use Rattle.std.proofs.lemmas.Bool.{cond_both}
use Rattle.std.proofs.lemmas.Option.{slice_get_within, slice_get_read, get_or_from_slice_get}
use Rattle.std.proofs.Math.Seq.{take-append_seam}
use Rattle.pcp_base.specs.declared.addresses.Address.{Address}
use Rattle.pcp_base.specs.declared.leases.Endpoint.{Endpoint}
use Rattle.pcp_base.specs.declared.leases.MapLease.{MapLease}
use Rattle.pcp_base.specs.declared.leases.PeerLease.{PeerLease}
use Rattle.pcp_base.specs.Tables.{is_map_of, is_peer_of}
use Rattle.lane_index.specs.declared.keys.LeaseKey.{LeaseKey}
use Rattle.lane_index.specs.declared.keys.LeaseKey.TheVariants.{OfMap, OfPeer}
use Rattle.lane_index.specs.declared.cells.Cell.{Cell}
use Rattle.lane_index.specs.declared.cells.Cell.TheVariants.{Mapping, Peering}
use Rattle.lane_index.specs.Applying.{map_ended, peer_ended, ended}
use Rattle.lane_index.specs.Slots.{takes, map_slot, HasSlots}
use Rattle.lane_index.specs.Links.{TellsLast, AreTaken}

-- ---- one more element

pub snoc-get : {X : Type 0} (xs : List X) (y : X) (i : ℕ) (x : X) → slice_get (xs ++ y ∷ []) i ≡ Some x → (slice_get xs i ≡ Some x) ⊎ ((i ≡ length xs) × (y ≡ x))
snoc-get [] y zero x h = inr (refl, (let both : Some y ≡ Some x = h in cc))
snoc-get [] y (suc i) x h = absurd (let never : None ≡ Some x = h in cc)
snoc-get (z ∷ xs) y zero x h = inl h
snoc-get (z ∷ xs) y (suc i) x h = elim (snoc-get xs y i x h) [ inl a ↦ inl a | inr b ↦ inr (ap suc b.0, b.1) ]

pub get-snoc : {X : Type 0} (xs : List X) (y : X) (i : ℕ) (x : X) → slice_get xs i ≡ Some x → slice_get (xs ++ y ∷ []) i ≡ Some x
get-snoc [] y i x h = absurd (let never : None ≡ Some x = h in cc)
get-snoc (z ∷ xs) y zero x h = h
get-snoc (z ∷ xs) y (suc i) x h = get-snoc xs y i x h

pub get-end : {X : Type 0} (xs : List X) (y : X) → slice_get (xs ++ y ∷ []) (length xs) ≡ Some y
get-end [] y = refl
get-end (x ∷ xs) y = get-end xs y

module _ {X : Type 0} (p : X → Bool) where
  pub last-none : TellsLast p [] 0
  last-none = record { later = λ i x le h. absurd (let never : None ≡ Some x = h in cc); here = λ i e. absurd (omega arith) }

  pub last-more : (xs : List X) (y : X) (n : ℕ) → TellsLast p xs n → p y ≡ false → TellsLast p (xs ++ y ∷ []) n
  last-more xs y n h fails = record {
    later = λ i x le g. elim (snoc-get xs y i x g) [ inl a ↦ h.later i x le a | inr b ↦ subst (λ (z : X). p z ≡ false) b.1 fails ];
    here = λ i e. (let r = h.here i e in (r.0, get-snoc xs y i r.0 r.1, r.2));
  }

  pub last-here : (xs : List X) (y : X) (n : ℕ) → n ≡ length xs + 1 → p y ≡ true → TellsLast p (xs ++ y ∷ []) n
  last-here xs y n is passes = record {
    later = λ i x le g. elim (snoc-get xs y i x g) [
      | inl a ↦ absurd (let within = slice_get_within xs i x a in omega (arith, within, le, is))
      | inr b ↦ absurd (let at : i ≡ length xs = b.0 in omega (arith, at, le, is))
    ];
    here = λ i e. (y, (let at : i ≡ length xs = omega (arith, e, is) in subst (λ (k : ℕ). slice_get (xs ++ y ∷ []) k ≡ Some y) (sym at) (get-end xs y)), passes);
  }

pub last-within : {X : Type 0} (p : X → Bool) (xs : List X) (n : ℕ) → TellsLast p xs n → n ≤ length xs
last-within p xs zero h = omega arith
last-within p xs (suc i) h = let r = h.here i refl in let within = slice_get_within xs i r.0 r.1 in omega (arith, within)

-- a number that was read
pub read-at : (xs : List ℕ) (i x : ℕ) → i < length xs → x ≡ get_or xs i x → slice_index xs i ≡ x
read-at xs i x inside read = get_or_from_slice_get xs i x 0 (slice_get_read xs (length xs) i x refl inside read)

-- ---- cells that are changed, but for their places

get-map : {X Y : Type 0} (f : X → Y) (xs : List X) (i : ℕ) (y : Y) → slice_get (map f xs) i ≡ Some y → (x : X) × (slice_get xs i ≡ Some x) × (f x ≡ y)
get-map f [] i y h = absurd (let never : None ≡ Some y = h in cc)
get-map f (x ∷ xs) zero y h = (x, refl, (let both : Some (f x) ≡ Some y = h in cc))
get-map f (x ∷ xs) (suc i) y h = get-map f xs i y h

map-get : {X Y : Type 0} (f : X → Y) (xs : List X) (i : ℕ) (x : X) → slice_get xs i ≡ Some x → slice_get (map f xs) i ≡ Some (f x)
map-get f [] i x h = absurd (let never : None ≡ Some x = h in cc)
map-get f (y ∷ xs) zero x h = ap (λ z. Some (f z)) (let both : Some y ≡ Some x = h in cc)
map-get f (y ∷ xs) (suc i) x h = map-get f xs i x h

last-map : {X : Type 0} (p : X → Bool) (f : X → X) → ((x : X) → p (f x) ≡ p x) → (xs : List X) (n : ℕ) → TellsLast p xs n → TellsLast p (map f xs) n
last-map p f same xs n h = record {
  later = λ i y le g. (let r = get-map f xs i y g in ap p (sym r.2) ∙ same r.0 ∙ h.later i r.0 le r.1);
  here = λ i e. (let r = h.here i e in (f r.0, map-get f xs i r.0 r.1, same r.0 ∙ r.2));
}

-- it leaves each cell in its slots
pub record StaysPut (f : Cell → Cell) : Type 0 where
  pub takes_same : (slot : ℕ) (c : Cell) → takes slot (f c) ≡ takes slot c
  pub placed_same : (c : Cell) → HasSlots c → HasSlots (f c)

module _ (f : Cell → Cell) (stays : StaysPut f) where
  pub all-placed : (cells : List Cell) → AllByRecursion HasSlots cells → AllByRecursion HasSlots (map f cells)
  all-placed [] h = tt
  all-placed (c ∷ cs) h = (stays.placed_same c h.0, all-placed cs h.1)

  pub taken-changed : (cells : List Cell) (maps : List ℕ) → AreTaken cells maps → AreTaken (map f cells) maps
  taken-changed cells maps h slot inside = last-map (takes slot) f (stays.takes_same slot) cells (slice_index maps slot) (h slot inside)

map-cases : (P : Cell → Type 0) (e : Endpoint) (l : MapLease) → P (Mapping (record l { expiry = 0 })) → P (Mapping l) → P (map_ended e (Mapping l))
map-cases P e l x y = cond_both (is_map_of e l) (Mapping (record l { expiry = 0 })) (Mapping l) P (λ _. x) (λ _. y)

peer-cases : (P : Cell → Type 0) (e : Endpoint) (remote : Address) (port : ℕ) (l : PeerLease) → P (Peering (record l { expiry = 0 })) → P (Peering l) → P (peer_ended e remote port (Peering l))
peer-cases P e remote port l x y = cond_both (is_peer_of e remote port l) (Peering (record l { expiry = 0 })) (Peering l) P (λ _. x) (λ _. y)

map_ended-stays : (e : Endpoint) → StaysPut (map_ended e)
map_ended-stays e = record { takes_same = taken; placed_same = placed }
  where
    taken : (slot : ℕ) (c : Cell) → takes slot (map_ended e c) ≡ takes slot c
    taken slot (Peering l) = refl
    taken slot (Mapping l) = map-cases (λ d. takes slot d ≡ takes slot (Mapping l)) e l refl refl

    placed : (c : Cell) → HasSlots c → HasSlots (map_ended e c)
    placed (Peering l) h = h
    placed (Mapping l) h = map-cases HasSlots e l h h

peer_ended-stays : (e : Endpoint) (remote : Address) (port : ℕ) → StaysPut (peer_ended e remote port)
peer_ended-stays e remote port = record { takes_same = taken; placed_same = placed }
  where
    taken : (slot : ℕ) (c : Cell) → takes slot (peer_ended e remote port c) ≡ takes slot c
    taken slot (Mapping l) = refl
    taken slot (Peering l) = peer-cases (λ d. takes slot d ≡ false) e remote port l refl refl

    placed : (c : Cell) → HasSlots c → HasSlots (peer_ended e remote port c)
    placed (Mapping l) h = h
    placed (Peering l) h = peer-cases HasSlots e remote port l h h

pub ended-stays : (key : LeaseKey) → StaysPut (ended key)
ended-stays (OfMap e) = map_ended-stays e
ended-stays (OfPeer e remote port) = peer_ended-stays e remote port

-- what is written over all of a vector
pub whole : {X : Type 0} (n : ℕ) (xs ys : List X) → length xs ≡ n → take n (xs ++ ys) ≡ xs
whole n xs ys is = ap (λ k. take k (xs ++ ys)) (sym is) ∙ take-append_seam xs ys

-- ---- one more cell

pub taken-none : (maps : List ℕ) → ((k : ℕ) → slice_index maps k ≡ 0) → AreTaken [] maps
taken-none maps h slot inside = subst (λ (n : ℕ). TellsLast (takes slot) [] n) (sym (h slot)) (last-none (takes slot))

pub taken-map : (cells : List Cell) (maps : List ℕ) (l : MapLease) (number : ℕ) (maps' : List ℕ) → number ≡ length cells + 1 → AreTaken cells maps
    → ((k : ℕ) → slice_index maps' k ≡ cond (nat_le (map_slot l) k && nat_lt k (map_slot l + l.count)) number (slice_index maps k))
    → AreTaken (cells ++ Mapping l ∷ []) maps'
taken-map cells maps l number maps' is h now slot inside = subst (λ (n : ℕ). TellsLast (takes slot) (cells ++ Mapping l ∷ []) n) (sym (now slot)) (told (takes slot (Mapping l)) refl)
  where
    told : (b : Bool) → takes slot (Mapping l) ≡ b → TellsLast (takes slot) (cells ++ Mapping l ∷ []) (cond b number (slice_index maps slot))
    told true passes = last-here (takes slot) cells (Mapping l) number is passes
    told false fails = last-more (takes slot) cells (Mapping l) (slice_index maps slot) (h slot inside) fails

pub taken-peer : (cells : List Cell) (maps : List ℕ) (l : PeerLease) → AreTaken cells maps → AreTaken (cells ++ Peering l ∷ []) maps
taken-peer cells maps l h slot inside = last-more (takes slot) cells (Peering l) (slice_index maps slot) (h slot inside) refl
