-- Leases that have left.
use Rattle.std.proofs.Common.{◌≡◌, ℕ, ◌≤◌, ◌<◌, ◌&&◌, nat_lt, Bool, true, false, cond, List, [], ◌∷◌, length, filter, find, count_by, Option, Some, None, Result, Ok, Err, OnOk, OnErr, refl, sym, ap, ◌∙◌, arith}
use Rattle.std.specs.List.{AllByRecursion, filter_map}
use Rattle.std.specs.Map.{lookup, values_of}
use Rattle.std.specs.Ordering.{nat_cmp}
use Rattle.std.specs.BTreeMap.{BTreeMap, get, is_at, values}
use Rattle.std.proofs.lemmas.Bool.{ltb-true}
use Rattle.pcp_base.specs.declared.leases.PeerLease.{PeerLease}
use Rattle.pcp_base.specs.declared.leases.TheConstants.{MOST_LEASES}
use Rattle.pcp_base.proofs.Members.{All-weaker}
use Rattle.ordered_index.specs.declared.numbered.Numbered.{Numbered}
use Rattle.ordered_index.specs.Aged.{AreApart, AreBoth, AreNumbersOf, AreTogether, aged}
use Rattle.ordered_index.specs.Steps.{Appends, Replaces, Forgets, Stays}
use Rattle.ordered_index.proofs.AgedLaws.{apart-both, apart-came, copied-passing, together}
use Rattle.ordered_index.proofs.Entries.{false_by, number_same}
use Rattle.ordered_index.proofs.EntryLaws.{tally, count-cons, none_some}
use Rattle.peer_table.specs.PeerLists.{is_live_peer}
use Rattle.peer_table.specs.Kept.{PeerKey, Opening, key_cmp, opening_cmp, live_with, AreAgedPeers, StaysApart}

-- from the moment on
ended : (expiry gone m : ℕ) → expiry ≤ gone → gone ≤ m → nat_lt m expiry ≡ false
ended expiry gone m low over =
    false_by (nat_lt m expiry) (λ e. let is : m < expiry = ltb-true m expiry e in omega (arith, is, low, over))

none_live : (gone m : ℕ) → gone ≤ m → (ls : List PeerLease) → AllByRecursion (λ l. l.expiry ≤ gone) ls → AllByRecursion (λ l. is_live_peer m l ≡ false) ls
none_live gone m over ls dead =
    All-weaker (λ (l : PeerLease). l.expiry ≤ gone) (λ l. is_live_peer m l ≡ false) (λ l low. ended l.expiry gone m low over) ls dead

count_none : {X : Type 0} (p : X → Bool) (xs : List X) → AllByRecursion (λ x. p x ≡ false) xs → count_by p xs ≡ 0
count_none p [] h = refl
count_none p (x ∷ xs) h =
    let all = count-cons p x xs in let here : tally (p x) ≡ 0 = ap tally h.0 in let rest = count_none p xs h.1 in
    omega (arith, all, here, rest)

find_none : {X : Type 0} (p : X → Bool) (xs : List X) → AllByRecursion (λ x. p x ≡ false) xs → find p xs ≡ None
find_none p [] h = refl
find_none p (x ∷ xs) h = ap (λ t. cond t (Some x) (find p xs)) h.0 ∙ find_none p xs h.1

pub none_counted : (gone m : ℕ) → gone ≤ m → (ls : List PeerLease) → AllByRecursion (λ l. l.expiry ≤ gone) ls → 0 ≡ count_by (is_live_peer m) ls
none_counted gone m over ls dead = sym (count_none (is_live_peer m) ls (none_live gone m over ls dead))

pub none_opens : (gone m : ℕ) → gone ≤ m → (ls : List PeerLease) → AllByRecursion (λ l. l.expiry ≤ gone) ls → (q : PeerLease → Bool) → None ≡ find (λ l. is_live_peer m l && q l) ls
none_opens gone m over ls dead q =
    sym (find_none (λ l. is_live_peer m l && q l) ls
    (All-weaker (λ l. is_live_peer m l ≡ false) (λ l. (is_live_peer m l && q l) ≡ false) (λ l no. ap (λ t. t && q l) no) ls (none_live gone m over ls dead)))

on_err : {X E : Type 0} {Q : Type 0} (r : Result X E) → Q → OnErr r Q
on_err (Ok v) q = tt
on_err (Err e) q = q

still_none : {L : Type 0} (l o : Option L) (b : Bool) → (b ≡ true → ⊥) → o ≡ None → cond b l o ≡ None
still_none l o true other none = absurd (other refl)
still_none l o false other none = none

gone_none : {L : Type 0} (o : Option L) (b : Bool) → o ≡ None → cond b None o ≡ None
gone_none o true none = refl
gone_none o false none = none

module _ (it new : Numbered PeerLease PeerKey Opening) where
  -- what a call does leaves the leases apart
  pub appended_apart : (l : PeerLease) (k : PeerKey) (p : Opening) (n : ℕ) → Appends key_cmp opening_cmp it new l k p n → (past : BTreeMap ℕ PeerLease) → AreApart it.leases it.next past → AreApart new.leases new.next past
  appended_apart l k p n h past are =
      let from = h.from in let next = h.next in
      apart-came it.leases past it.next are new.leases new.next (omega (arith, next)) (λ m low none.
      h.leases.changed m ∙ still_none (Some l) (get nat_cmp it.leases m) (is_at (nat_cmp n) m) (λ t. let same = number_same n m t in omega (arith, same, from, low)) none)

  replaced : (n : ℕ) (x l : PeerLease) (from to : Opening) → get nat_cmp it.leases n ≡ Some x → Replaces opening_cmp it new n l from to → (past : BTreeMap ℕ PeerLease) → AreApart it.leases it.next past → AreApart new.leases new.next past
  replaced n x l from to at_n h past are =
      let next = h.next in
      apart-came it.leases past it.next are new.leases new.next (omega (arith, next)) (λ m low none.
      h.leases.changed m ∙ still_none (Some l) (get nat_cmp it.leases m) (is_at (nat_cmp n) m) (λ t.
      none_some (get nat_cmp it.leases m) x none (ap (get nat_cmp it.leases) (sym (number_same n m t)) ∙ at_n)) none)

  stayed : Stays it new → (past : BTreeMap ℕ PeerLease) → AreApart it.leases it.next past → AreApart new.leases new.next past
  stayed h past are =
      let next = h.next in
      apart-came it.leases past it.next are new.leases new.next (omega (arith, next)) (λ m low none.
      ap (λ (es : List (ℕ × PeerLease)). lookup (is_at (nat_cmp m)) es) h.leases ∙ none)

  pub forgot_apart : (n : ℕ) (k : PeerKey) (p : Opening) → Forgets key_cmp opening_cmp it new n k p → (past : BTreeMap ℕ PeerLease) → AreApart it.leases it.next past → AreApart new.leases new.next past
  forgot_apart n k p h past are =
      let next = h.next in
      apart-came it.leases past it.next are new.leases new.next (omega (arith, next)) (λ m low none.
      h.leases.changed m ∙ gone_none (get nat_cmp it.leases m) (is_at (nat_cmp n) m) none)

  pub stay_apart : {X E : Type 0} (r : Result X E) → Stays it new → StaysApart it new r
  stay_apart r h = record { apart = stayed h; err = on_err r h.leases }

  pub replaced_apart : {X E : Type 0} (r : Result X E) (n : ℕ) (x l : PeerLease) (from to : Opening) → get nat_cmp it.leases n ≡ Some x → OnOk r (Replaces opening_cmp it new n l from to) → OnErr r (Stays it new) → StaysApart it new r
  replaced_apart (Ok v) n x l from to at_n ok err = record { apart = replaced n x l from to at_n ok; err = tt }
  replaced_apart (Err e) n x l from to at_n ok err = stay_apart (Err e) err

module _ (it : Numbered PeerLease PeerKey Opening) (past : BTreeMap ℕ PeerLease) (gone : ℕ) (h : AreAgedPeers it past gone) where
  pub are_both : AreBoth it.leases past
  are_both = apart-both it.leases past it.next h.apart h.kept.kept.ordered

  pub are_together : AreTogether (aged it.leases past)
  are_together = together it.leases.entries past.entries h.kept.kept.ordered h.apart.ordered h.apart.apart (values it.leases) refl

pub length_values : {X : Type 0} (es : List (ℕ × X)) → length (values_of es) ≡ length es
length_values [] = refl
length_values (e ∷ es) = let rest = length_values es in omega (arith, rest)

pub few_past : (it : Numbered PeerLease PeerKey Opening) (past : BTreeMap ℕ PeerLease) (gone : ℕ) → AreAgedPeers it past gone → length (values past) ≤ MOST_LEASES
few_past it past gone h = let same = length_values past.entries in let few = h.few in omega (arith, same, few)

-- what is looked up by the numbers of both
pub listed : (m : ℕ) (leases past : BTreeMap ℕ PeerLease) (numbers : List ℕ) → AreBoth leases past → AreNumbersOf leases past numbers →
    filter_map (live_with m leases past) numbers ≡ filter (is_live_peer m) (aged leases past).all
unfolding live_with
listed m leases past numbers both are = copied-passing leases past numbers both are (is_live_peer m)
