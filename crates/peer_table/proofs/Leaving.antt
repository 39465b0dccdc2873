-- Leases that leave, and those that are forgotten.
use Rattle.std.proofs.Common.{◌≡◌, ℕ, ◌+◌, ◌≤◌, ◌<◌, nat_lt, cond, false, List, ◌∷◌, length, Contains, Option, Some, None, IsSome, Result, Ok, Err, OnErr, refl, sym, ap, ◌∙◌, subst, inl, inr, ◌⊎◌, arith}
use Rattle.std.specs.Prelude.{IfSome, IfNone, is_some}
use Rattle.std.specs.List.{AllByRecursion}
use Rattle.std.specs.List.Sorted.{IsStrictlySortedBy}
use Rattle.std.specs.Bool.{OnTrue}
use Rattle.std.specs.Map.{lookup, keys_of, values_of}
use Rattle.std.specs.Ordering.{nat_cmp}
use Rattle.std.specs.BTreeMap.{BTreeMap, get, is_at, btree_map_len, values}
use Rattle.std.proofs.lemmas.Bool.{ltb-false}
use Rattle.pcp_base.specs.declared.leases.PeerLease.{PeerLease}
use Rattle.pcp_base.specs.declared.leases.TheConstants.{MOST_LEASES}
use Rattle.pcp_base.proofs.Members.{All-from_IsIn, All-IsIn, Contains-from_IsIn, IsIn-from_Contains}
use Rattle.ordered_index.specs.declared.numbered.Numbered.{Numbered}
use Rattle.ordered_index.specs.Aged.{Aged, AreApart, aged, entries_with}
use Rattle.ordered_index.specs.Ended.{IsOneEnded}
use Rattle.ordered_index.specs.MapSteps.{Inserts}
use Rattle.ordered_index.specs.Steps.{Forgets}
use Rattle.ordered_index.proofs.AgedLaws.{apart-popped, apart-retired, inserted-length, inserted-values, moved-values}
use Rattle.ordered_index.proofs.Endings.{one-stands, one-among}
use Rattle.ordered_index.proofs.Entries.{number_self}
use Rattle.ordered_index.proofs.EntryLaws.{none_by, none_some, some_one}
use Rattle.ordered_index.proofs.Keeping.{key-to}
use Rattle.peer_table.specs.PeerLists.{is_live_peer, LeavesPeer, RemovesPeer}
use Rattle.peer_table.specs.Kept.{PeerKey, Opening, key_cmp, opening_cmp, key_of_lease, opening_of_lease, peer_keying, AreKeptPeers, AreAgedPeers, StaysApart}
use Rattle.peer_table.proofs.Past.{forgot_apart, length_values}
use Rattle.peer_table.proofs.PeerKeeping.{peer_laws, peer_removed}

not_live : (m expiry gone : ℕ) → nat_lt m expiry ≡ false → m ≤ gone → expiry ≤ gone
not_live m expiry gone over low = let is = ltb-false m expiry over in omega (arith, is, low)

module _ (it : Numbered PeerLease PeerKey Opening) (past : BTreeMap ℕ PeerLease) (gone : ℕ) (h : AreAgedPeers it past gone) where
  -- those that have left stay
  module _ (new : Numbered PeerLease PeerKey Opening) where
    pub aged_put : {X E : Type 0} (r : Result X E) → AreKeptPeers new → StaysApart it new r → AreAgedPeers new past gone
    aged_put r kept stays = record { kept = kept; apart = stays.apart past h.apart; few = h.few; dead = h.dead }

    pub all_stays : {X E : Type 0} (r : Result X E) → StaysApart it new r → OnErr r ((aged new.leases past).all ≡ (aged it.leases past).all)
    all_stays (Ok v) stays = tt
    all_stays (Err e) stays = ap (λ (es : List (ℕ × PeerLease)). values_of (entries_with past.entries es)) stays.err

    pub aged_removed : (n : ℕ) (k : PeerKey) (p : Opening) → AreKeptPeers new → Forgets key_cmp opening_cmp it new n k p → AreAgedPeers new past gone
    aged_removed n k p kept forgets = record { kept = kept; apart = forgot_apart it new n k p forgets past h.apart; few = h.few; dead = h.dead }

  -- a map with the entries of the one before
  module _ (past' : BTreeMap ℕ PeerLease) (same : past'.entries ≡ past.entries) where
    at_same : (n : ℕ) → IsSome (get nat_cmp past' n) → IsSome (get nat_cmp past n)
    at_same n has = subst IsSome (ap (λ (es : List (ℕ × PeerLease)). lookup (is_at (nat_cmp n)) es) same) has

    pub same_aged : AreAgedPeers it past' gone
    same_aged = record {
      kept = h.kept;
      apart = record {
        ordered = subst (λ (es : List (ℕ × PeerLease)). IsStrictlySortedBy nat_cmp (keys_of es)) (sym same) h.apart.ordered;
        apart = λ n has. h.apart.apart n (at_same n has);
        below = λ n has. h.apart.below n (at_same n has);
      };
      few = subst (λ (es : List (ℕ × PeerLease)). length es ≤ MOST_LEASES) (sym same) h.few;
      dead = subst (λ (es : List (ℕ × PeerLease)). AllByRecursion (λ l. l.expiry ≤ gone) (values_of es)) (sym same) h.dead;
    }

    abbrev seen : List (ℕ × PeerLease) → Aged PeerLease
    seen es = record { found = values it.leases; past = values_of es; all = values_of (entries_with es it.leases.entries) }

    pub same_view : aged it.leases past' ≡ aged it.leases past
    same_view = ap seen same

  -- the first of those that have left is forgotten
  module _ (past' : BTreeMap ℕ PeerLease) where
    popped : (e : ℕ × PeerLease) → past.entries ≡ e ∷ past'.entries → AreAgedPeers it past' gone
    popped e is =
        let few = h.few in
        let one : length past.entries ≡ length (e ∷ past'.entries) = ap (λ (es : List (ℕ × PeerLease)). length es) is in
        let dead : AllByRecursion (λ l. l.expiry ≤ gone) (values_of (e ∷ past'.entries)) = subst (λ (es : List (ℕ × PeerLease)). AllByRecursion (λ l. l.expiry ≤ gone) (values_of es)) is h.dead in
        record { kept = h.kept; apart = apart-popped it.leases past it.next h.apart past' e is; few = omega (arith, few, one); dead = dead.1 }

    pub aged_popped : (r : Option (ℕ × PeerLease)) → IfSome r (λ e. past.entries ≡ e ∷ past'.entries) → IfNone r (past'.entries ≡ past.entries) → AreAgedPeers it past' gone
    aged_popped None some none = same_aged past' none
    aged_popped (Some e) some none = popped e some

  module _ (new : Numbered PeerLease PeerKey Opening) (past' : BTreeMap ℕ PeerLease) (m n gone' : ℕ) (x : PeerLease) (k : PeerKey) (p : Opening)
      (ended : IsOneEnded (λ (l : PeerLease). l.expiry) m it.leases (Some n)) (at_n : get nat_cmp it.leases n ≡ Some x) (k_is : k ≡ key_of_lease x) (p_is : p ≡ opening_of_lease x)
      (forgets : Forgets key_cmp opening_cmp it new n k p) (inserts : Inserts nat_cmp past past' n x)
      (room : btree_map_len past < MOST_LEASES) (later : gone ≤ gone') (reached : m ≤ gone') where
    number : get key_cmp it.keys k ≡ Some n
    number = ap (get key_cmp it.keys) k_is ∙ key-to peer_keying peer_laws it h.kept.kept n x at_n

    removed : AreKeptPeers new × RemovesPeer (values it.leases) x.endpoint x.remote x.remote_port (Some x) (values new.leases)
    removed = peer_removed it h.kept x.endpoint x.remote x.remote_port k k_is new p n x p_is number at_n forgets

    over : is_live_peer m x ≡ false
    over =
        let y = one-stands (λ (l : PeerLease). l.expiry) it.leases h.kept.kept.ordered m n ended in
        ap (is_live_peer m) (some_one (get nat_cmp it.leases n) x y.0 at_n y.1) ∙ y.2

    was_none : get nat_cmp past n ≡ None
    was_none = none_by (get nat_cmp past n) (λ l has. none_some (get nat_cmp it.leases n) x (h.apart.apart n (subst IsSome (sym has) refl)) at_n)

    one_more : length (values past') ≡ length (values past) + 1
    one_more = ap (λ (es : List (ℕ × PeerLease)). length (values_of es)) inserts.entries ∙ inserted-length past.entries n x was_none

    came : (l : PeerLease) → Contains (values past') l → Contains (values past) l ⊎ (l ≡ x)
    came l there = inserted-values past.entries n x l (subst (λ (es : List (ℕ × PeerLease)). Contains (values_of es) l) inserts.entries there)

    low_now : (l : PeerLease) → Contains (values past) l ⊎ (l ≡ x) → l.expiry ≤ gone'
    low_now l (inl there) = let low : l.expiry ≤ gone = All-IsIn (λ (y : PeerLease). y.expiry ≤ gone) (values past) l h.dead (IsIn-from_Contains (values past) l there) in omega (arith, low, later)
    low_now l (inr same) = not_live m l.expiry gone' (ap (is_live_peer m) same ∙ over) reached

    pub retired : AreAgedPeers new past' gone'
    retired = record {
      kept = removed.0;
      apart =
          let below = h.kept.kept.below n x at_n in let next = forgets.next in
          subst (λ (z : ℕ). AreApart new.leases z past') (sym next) (apart-retired it.leases past it.next h.apart new.leases past' n x forgets.leases inserts below);
      few = (let old = length_values past.entries in let now = length_values past'.entries in let more = one_more in omega (arith, old, now, more, room));
      dead = All-from_IsIn (λ (l : PeerLease). l.expiry ≤ gone') (values past') (λ l there. low_now l (came l (Contains-from_IsIn (values past') l there)));
    }

    pub leaves : LeavesPeer m (aged it.leases past) (aged new.leases past')
    leaves = record {
      lease = x;
      there = one-among it.leases n x at_n;
      dead = over;
      found = removed.1.removed;
      past = came;
      among = one-among past' n x (inserts.changed n ∙ ap (λ b. cond b (Some x) (get nat_cmp past n)) (number_self n));
      all = moved-values it.leases.entries past.entries h.kept.kept.ordered h.apart.ordered h.apart.apart n x at_n new.leases.entries past'.entries forgets.leases.entries inserts.entries;
    }

-- what is told of the one that was forgotten
pub told_gone : (es es' : List (ℕ × PeerLease)) (r : Option (ℕ × PeerLease)) → IfSome r (λ e. es ≡ e ∷ es') → OnTrue (is_some r) ((l : PeerLease) × (values_of es ≡ l ∷ values_of es'))
told_gone es es' None some = tt
told_gone es es' (Some e) some = (e.1, ap (λ (fs : List (ℕ × PeerLease)). values_of fs) some)
