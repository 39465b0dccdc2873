-- Leases and their maps after a call.
use Rattle.std.proofs.Common.{◌≡◌, ℕ, ◌+◌, ◌%◌, ◌<◌, ◌≤◌, Bool, true, false, not, cond, List, [], ◌∷◌, ◌++◌, filter, find, count_by, Some, None, IsSome, Result, Ok, Err, OnOk, OnErr, refl, sym, ap, ◌∙◌, subst, arith}
use Rattle.std.specs.Prelude.{⊤}
use Rattle.std.specs.List.{AllByRecursion}
use Rattle.std.specs.List.Sorted.{IsStrictlySortedBy}
use Rattle.std.specs.Map.{lookup, set_value, remove_entry, keys_of, values_of}
use Rattle.std.specs.Ordering.{nat_cmp}
use Rattle.std.specs.declared.cmp.Ordering.{Ordering}
use Rattle.std.specs.Cmp.{IsTotalOrder, nat_cmp_total}
use Rattle.std.specs.BTreeMap.{BTreeMap, IsOrdered, get, is_at, values}
use Rattle.std.proofs.lemmas.Map.Lookups.{CmpEqualImpliesEq, exact_unsigned}
use Rattle.pcp_base.specs.Tables.{EachTwo, put}
use Rattle.pcp_base.proofs.Members.{All-weaker}
use Rattle.ordered_index.specs.declared.numbered.Numbered.{Numbered}
use Rattle.ordered_index.specs.declared.slots.TheConstants.{MOST_SLOTS}
use Rattle.ordered_index.specs.MapSteps.{HasEntry}
use Rattle.ordered_index.specs.Steps.{IsBlank, Appends, Replaces, Forgets, Stays}
use Rattle.ordered_index.specs.Kept.{Mirrors, Keying, IsKept}
use Rattle.ordered_index.proofs.EntryLaws.{tally, count-set, none_some, none_by, some_one, key-self}
use Rattle.ordered_index.proofs.Mirrorings.{entry-at, at-entry, mirrored-to, mirrored-from, mirrors-inserted, mirrors-removed, mirrors-moved, index-to, index-from}
use Rattle.ordered_index.proofs.OrderLaws.{at_exact}
use Rattle.ordered_index.proofs.Entries.{All-at, number_same, number_self, number_other, values_append, insert_last, keys_below, none_passes, passes_at, set_value-put, remove_entry-filter, find_is, find_none, one_passes}

-- the orders of the keys are total and tell all keys apart
pub record AreLaws {L K P : Type 0} (by : Keying L K P) : Type 0 where
  pub key_total : IsTotalOrder by.key_cmp
  pub key_exact : CmpEqualImpliesEq by.key_cmp
  pub port_total : IsTotalOrder by.port_cmp
  pub port_exact : CmpEqualImpliesEq by.port_cmp

-- the test passes the leases with this key
pub record Tells {L K P : Type 0} (by : Keying L K P) (has : L → Bool) (k : K) : Type 0 where
  pub to : (l : L) → has l ≡ true → by.key l ≡ k
  pub from : (l : L) → by.key l ≡ k → has l ≡ true

next_step : (next after : ℕ) → next % 32768 ≡ 0 → after ≡ next + 32768 → after % 32768 ≡ 0
next_step next after step more = omega (arith, step, more)

-- by equations of both lists
mirrored : {A B : Type 0} (image : A → B) (xs ys : List A) (us vs : List B) → ys ≡ xs → vs ≡ us → Mirrors image xs us → Mirrors image ys vs
mirrored image xs ys us vs e f h test = ap (count_by test) f ∙ h test ∙ ap (count_by (λ a. test (image a))) (sym e)

filter_none : {X : Type 0} (p : X → Bool) (xs : List X) → AllByRecursion (λ x. p x ≡ false) xs → filter (λ x. not (p x)) xs ≡ xs
filter_none p [] h = refl
filter_none p (x ∷ xs) h = ap (λ t. cond (not t) (x ∷ filter (λ y. not (p y)) xs) (filter (λ y. not (p y)) xs)) h.0 ∙ ap (λ t. x ∷ t) (filter_none p xs h.1)

pub put-last : {X : Type 0} (p : X → Bool) (y : X) (xs : List X) → AllByRecursion (λ x. p x ≡ false) xs → put p y xs ≡ xs ++ y ∷ []
put-last p y [] h = refl
put-last p y (x ∷ xs) h = ap (λ t. cond t (y ∷ xs) (x ∷ put p y xs)) h.0 ∙ ap (λ t. x ∷ t) (put-last p y xs h.1)

all_last : {X : Type 0} (P : X → Type 0) (xs : List X) (y : X) → AllByRecursion P (xs ++ y ∷ []) → P y
all_last P [] y h = h.0
all_last P (x ∷ xs) y h = all_last P xs y h.1

pub each-last : {X : Type 0} (R : X → X → Type 0) (xs : List X) (y : X) → EachTwo R (xs ++ y ∷ []) → AllByRecursion (λ x. R x y) xs
each-last R [] y h = tt
each-last R (x ∷ xs) y h = (all_last (R x) xs y h.0, each-last R xs y h.1)

-- by what is weaker of each two
pub each_weaker : {X : Type 0} (R S : X → X → Type 0) → ((x y : X) → R x y → S x y) → (xs : List X) → EachTwo R xs → EachTwo S xs
each_weaker R S f [] h = tt
each_weaker R S f (x ∷ xs) h = (All-weaker (R x) (S x) (f x) xs h.0, each_weaker R S f xs h.1)

module _ {L K P : Type 0} (by : Keying L K P) (laws : AreLaws by) (it : Numbered L K P) (kept : IsKept by it) where
  pub key-to : (n : ℕ) (l : L) → get nat_cmp it.leases n ≡ Some l → get by.key_cmp it.keys (by.key l) ≡ Some n
  key-to = index-to laws.key_total laws.key_exact by.key it.leases kept.ordered it.keys kept.keys_ordered kept.keys

  pub key-from : (k : K) (n : ℕ) → get by.key_cmp it.keys k ≡ Some n → (l : L) × (get nat_cmp it.leases n ≡ Some l) × (by.key l ≡ k)
  key-from = index-from laws.key_total laws.key_exact by.key it.leases kept.ordered it.keys kept.keys_ordered kept.keys

  pub port-to : (n : ℕ) (l : L) → get nat_cmp it.leases n ≡ Some l → get by.port_cmp it.ports (by.port l) ≡ Some n
  port-to = index-to laws.port_total laws.port_exact by.port it.leases kept.ordered it.ports kept.ports_ordered kept.ports

  pub port-from : (p : P) (n : ℕ) → get by.port_cmp it.ports p ≡ Some n → (l : L) × (get nat_cmp it.leases n ≡ Some l) × (by.port l ≡ p)
  port-from = index-from laws.port_total laws.port_exact by.port it.leases kept.ordered it.ports kept.ports_ordered kept.ports

  abbrev key_of : ℕ × L → K × ℕ
  key_of e = (by.key e.1, e.0)

  abbrev port_of : ℕ × L → P × ℕ
  port_of e = (by.port e.1, e.0)

  pub number-has : (k : K) (n : ℕ) → get by.key_cmp it.keys k ≡ Some n → IsSome (get nat_cmp it.leases n)
  number-has k n a = subst IsSome (sym (key-from k n a).1) refl

  module _ (has : L → Bool) (k : K) (tells : Tells by has k) where
    module _ (free : get by.key_cmp it.keys k ≡ None) where
      none_has : (n : ℕ) (l : L) → get nat_cmp it.leases n ≡ Some l → has l ≡ true → ⊥
      none_has n l a t = none_some (get by.key_cmp it.keys k) n free (ap (get by.key_cmp it.keys) (sym (tells.to l t)) ∙ key-to n l a)

      pub none-passes : AllByRecursion (λ l. has l ≡ false) (values it.leases)
      none-passes = Rattle.ordered_index.proofs.Entries.none_passes has it.leases kept.ordered none_has

      pub none-found : None ≡ find has (values it.leases)
      none-found = sym (find_none has it.leases kept.ordered none_has)

      pub none-gone : values it.leases ≡ filter (λ l. not (has l)) (values it.leases)
      none-gone = sym (filter_none has (values it.leases) none-passes)

      -- no lease has the port of a new one
      pub port-free : (l : L) → EachTwo (λ a b. by.port a ≡ by.port b → ⊥) (put has l (values it.leases)) → get by.port_cmp it.ports (by.port l) ≡ None
      port-free l two = none_by (get by.port_cmp it.ports (by.port l)) (λ n a.
          let y = port-from (by.port l) n a in
          All-at (λ x. by.port x ≡ by.port l → ⊥) it.leases.entries n y.0
          (each-last (λ a b. by.port a ≡ by.port b → ⊥) (values it.leases) l (subst (EachTwo (λ a b. by.port a ≡ by.port b → ⊥)) (put-last has l (values it.leases) none-passes) two)) y.1 y.2)

    module _ (n : ℕ) (x : L) (at_n : get nat_cmp it.leases n ≡ Some x) (key : by.key x ≡ k) where
      one_has : (m : ℕ) (y : L) → get nat_cmp it.leases m ≡ Some y → has y ≡ true → n ≡ m
      one_has m y a t =
          let both : Some n ≡ Some m = sym (key-to n x at_n) ∙ ap (get by.key_cmp it.keys) (key ∙ sym (tells.to y t)) ∙ key-to m y a in cc

      pub one-found : Some x ≡ find has (values it.leases)
      one-found = sym (find_is has it.leases kept.ordered n x at_n (tells.from x key) one_has)

      passes : Rattle.ordered_index.proofs.Entries.PassesAt has n it.leases.entries
      passes = passes_at has it.leases kept.ordered n x at_n (tells.from x key) one_has

      pub overwritten : (l : L) → values_of (set_value (is_at (nat_cmp n)) it.leases.entries l) ≡ put has l (values it.leases)
      overwritten l = set_value-put has l it.leases.entries n x passes at_n

      pub forgotten : values_of (remove_entry (is_at (nat_cmp n)) it.leases.entries) ≡ filter (λ l. not (has l)) (values it.leases)
      forgotten = remove_entry-filter has it.leases.entries n passes kept.ordered

  -- what a replacement asks for
  pub port-there : (n : ℕ) (x : L) (p : P) → get nat_cmp it.leases n ≡ Some x → p ≡ by.port x → HasEntry by.port_cmp it.ports p n
  port-there n x p at_n same = record { ordered = kept.ports_ordered; found = ap (get by.port_cmp it.ports) same ∙ port-to n x at_n }

  -- a number that isn't below the next step is free
  module _ (n : ℕ) (from : it.next ≤ n) where
    below_n : (m : ℕ) (l : L) → get nat_cmp it.leases m ≡ Some l → m < n
    below_n m l a = let less = kept.below m l a in omega (arith, less, from)

    no_number : get nat_cmp it.leases n ≡ None
    no_number = none_by (get nat_cmp it.leases n) (λ l a. let less : n < n = below_n n l a in omega (arith, less))

  module _ (new : Numbered L K P) (l : L) (k : K) (p : P) (n : ℕ) (k_is : k ≡ by.key l) (p_is : p ≡ by.port l) (h : Appends by.key_cmp by.port_cmp it new l k p n)
      (free : get by.key_cmp it.keys k ≡ None) (free_port : get by.port_cmp it.ports p ≡ None) where
    pub appended-values : (has : L → Bool) → Tells by has k → values new.leases ≡ put has l (values it.leases)
    appended-values has tells =
        ap values_of (h.leases.entries ∙ insert_last it.leases.entries n l (keys_below it.leases kept.ordered n (below_n n h.from)))
        ∙ values_append it.leases.entries n l ∙ sym (put-last has l (values it.leases) (none-passes has k tells free))

    below_step : (m : ℕ) (x : L) (b : Bool) → is_at (nat_cmp n) m ≡ b → cond b (Some l) (get nat_cmp it.leases m) ≡ Some x → m < new.next
    below_step m x true e a = let same = number_same n m e in let below = h.below in omega (arith, same, below)
    below_step m x false e a = let less = below_n n h.from m x a in let below = h.below in omega (arith, less, below)

    pub appended-kept : IsKept by new
    appended-kept = record {
      ordered = h.leases.ordered;
      below = λ m x a. below_step m x (is_at (nat_cmp n) m) refl (sym (h.leases.changed m) ∙ a);
      step = next_step it.next new.next kept.step h.next;
      keys_ordered = h.keys.ordered;
      keys = mirrored key_of _ _ _ _ h.leases.entries h.keys.entries (mirrors-inserted laws.key_total laws.key_exact key_of it.leases.entries it.keys.entries kept.keys n l k n (ap (λ z. (z, n)) (sym k_is)) (no_number n h.from) free);
      ports_ordered = h.ports.ordered;
      ports = mirrored port_of _ _ _ _ h.leases.entries h.ports.entries (mirrors-inserted laws.port_total laws.port_exact port_of it.leases.entries it.ports.entries kept.ports n l p n (ap (λ z. (z, n)) (sym p_is)) (no_number n h.from) free_port);
    }

  module _ (new : Numbered L K P) (n : ℕ) (x l : L) (at_n : get nat_cmp it.leases n ≡ Some x) (key : by.key x ≡ by.key l)
      (from to : P) (from_is : from ≡ by.port x) (to_is : to ≡ by.port l) (h : Replaces by.port_cmp it new n l from to) where
    pub replaced-values : (has : L → Bool) → Tells by has (by.key l) → values new.leases ≡ put has l (values it.leases)
    replaced-values has tells = ap values_of h.leases.entries ∙ overwritten has (by.key l) tells n x at_n key l

    at_new : get nat_cmp new.leases n ≡ Some l
    at_new = h.leases.changed n ∙ ap (λ t. cond t (Some l) (get nat_cmp it.leases n)) (number_self n)

    below_old : (m : ℕ) (y : L) (b : Bool) → is_at (nat_cmp n) m ≡ b → cond b (Some l) (get nat_cmp it.leases m) ≡ Some y → m < it.next
    below_old m y true e a = let same = number_same n m e in let less : n < it.next = kept.below n x at_n in omega (arith, same, less)
    below_old m y false e a = kept.below m y a

    -- no other lease has the new port
    port_free : EachTwo (λ a b. by.port a ≡ by.port b → ⊥) (values new.leases) → is_at (by.port_cmp from) to ≡ false → get by.port_cmp it.ports to ≡ None
    port_free two other = none_by (get by.port_cmp it.ports to) (λ m a.
        let y = port-from to m a in
        let apart : is_at (nat_cmp n) m ≡ false = number_other n m (λ same.
        let is : x ≡ y.0 = some_one (get nat_cmp it.leases m) x y.0 (ap (get nat_cmp it.leases) (sym same) ∙ at_n) y.1 in
        let ports : from ≡ to = from_is ∙ ap by.port is ∙ y.2 in
        let yes : is_at (by.port_cmp from) to ≡ true = ap (is_at (by.port_cmp from)) (sym ports) ∙ key-self laws.port_total from in
        let both : true ≡ false = sym yes ∙ other in absurd (cc)) in
        let stays : get nat_cmp new.leases m ≡ Some y.0 = h.leases.changed m ∙ ap (λ t. cond t (Some l) (get nat_cmp it.leases m)) apart ∙ y.1 in
        let test : L → Bool = λ z. is_at (by.port_cmp to) (by.port z) in
        let same : m ≡ n = one_passes test new.leases.entries m n y.0 l (each_weaker (λ a b. by.port a ≡ by.port b → ⊥) (λ a b. test a ≡ true → test b ≡ true → ⊥)
        (λ a b apart_ports s t. apart_ports (sym (at_exact laws.port_exact to (by.port a) s) ∙ at_exact laws.port_exact to (by.port b) t)) (values new.leases) two)
        stays at_new (ap (is_at (by.port_cmp to)) y.2 ∙ key-self laws.port_total to) (ap (is_at (by.port_cmp to)) (sym to_is) ∙ key-self laws.port_total to) in
        let yes : is_at (nat_cmp n) m ≡ true = ap (is_at (nat_cmp n)) same ∙ number_self n in
        let both : true ≡ false = sym yes ∙ apart in cc)

    mirrors_set : Mirrors key_of (set_value (is_at (nat_cmp n)) it.leases.entries l) it.keys.entries
    mirrors_set test =
        let b = count-set nat_cmp_total n (λ z. test (key_of z)) exact_unsigned x l it.leases.entries at_n in
        let old = kept.keys test in
        let one : tally (test (by.key x, n)) ≡ tally (test (by.key l, n)) = ap (λ z. tally (test (z, n))) key in
        omega (arith, b, old, one)

    pub replaced-kept : EachTwo (λ a b. by.port a ≡ by.port b → ⊥) (values new.leases) → IsKept by new
    replaced-kept two = record {
      ordered = h.leases.ordered;
      below = λ m y a. (let less = below_old m y (is_at (nat_cmp n) m) refl (sym (h.leases.changed m) ∙ a) in let next = h.next in omega (arith, less, next));
      step = ap (λ z. z % MOST_SLOTS) h.next ∙ kept.step;
      keys_ordered = subst (λ (z : BTreeMap K ℕ). IsOrdered by.key_cmp z) (sym h.keys) kept.keys_ordered;
      keys = mirrored key_of _ _ _ _ h.leases.entries (ap (λ (z : BTreeMap K ℕ). z.entries) h.keys) mirrors_set;
      ports_ordered = h.ports.ordered;
      ports = mirrored port_of _ _ _ _ h.leases.entries h.ports.entries (mirrors-moved laws.port_total laws.port_exact port_of it.leases.entries it.ports.entries kept.ports n x l from to n
          (ap (λ z. (z, n)) (sym from_is)) (ap (λ z. (z, n)) (sym to_is)) kept.ports_ordered at_n (ap (get by.port_cmp it.ports) from_is ∙ port-to n x at_n) (port_free two));
    }

  module _ (new : Numbered L K P) (n : ℕ) (x : L) (at_n : get nat_cmp it.leases n ≡ Some x) (k : K) (p : P) (k_is : k ≡ by.key x) (p_is : p ≡ by.port x)
      (h : Forgets by.key_cmp by.port_cmp it new n k p) where
    pub forgotten-values : (has : L → Bool) → Tells by has k → values new.leases ≡ filter (λ l. not (has l)) (values it.leases)
    forgotten-values has tells = ap values_of h.leases.entries ∙ forgotten has k tells n x at_n (sym k_is)

    below_gone : (m : ℕ) (y : L) (b : Bool) → cond b None (get nat_cmp it.leases m) ≡ Some y → m < it.next
    below_gone m y true a = absurd (let none : None ≡ Some y = a in cc)
    below_gone m y false a = kept.below m y a

    pub forgotten-kept : IsKept by new
    forgotten-kept = record {
      ordered = h.leases.ordered;
      below = λ m y a. (let less = below_gone m y (is_at (nat_cmp n) m) (sym (h.leases.changed m) ∙ a) in let next = h.next in omega (arith, less, next));
      step = ap (λ z. z % MOST_SLOTS) h.next ∙ kept.step;
      keys_ordered = h.keys.ordered;
      keys = mirrored key_of _ _ _ _ h.leases.entries h.keys.entries (mirrors-removed laws.key_total laws.key_exact key_of it.leases.entries it.keys.entries kept.keys n x k n
          (ap (λ z. (z, n)) (sym k_is)) at_n (ap (get by.key_cmp it.keys) k_is ∙ key-to n x at_n));
      ports_ordered = h.ports.ordered;
      ports = mirrored port_of _ _ _ _ h.leases.entries h.ports.entries (mirrors-removed laws.port_total laws.port_exact port_of it.leases.entries it.ports.entries kept.ports n x p n
          (ap (λ z. (z, n)) (sym p_is)) at_n (ap (get by.port_cmp it.ports) p_is ∙ port-to n x at_n));
    }

  module _ (new : Numbered L K P) (h : Stays it new) where
    pub same-values : values new.leases ≡ values it.leases
    same-values = ap values_of h.leases

    ordered_too : {A B : Type 0} (R : A → A → Ordering) (m m' : BTreeMap A B) → m'.entries ≡ m.entries → IsOrdered R m → IsOrdered R m'
    ordered_too {A} {B} R m m' e = subst (λ (es : List (A × B)). IsStrictlySortedBy R (keys_of es)) (sym e)

    pub same-kept : IsKept by new
    same-kept = record {
      ordered = ordered_too nat_cmp it.leases new.leases h.leases kept.ordered;
      below = λ n l a. (let less = kept.below n l (ap (λ (es : List (ℕ × L)). lookup (is_at (nat_cmp n)) es) (sym h.leases) ∙ a) in let next = h.next in omega (arith, less, next));
      step = ap (λ z. z % MOST_SLOTS) h.next ∙ kept.step;
      keys_ordered = ordered_too by.key_cmp it.keys new.keys h.keys kept.keys_ordered;
      keys = mirrored key_of _ _ _ _ h.leases h.keys kept.keys;
      ports_ordered = ordered_too by.port_cmp it.ports new.ports h.ports kept.ports_ordered;
      ports = mirrored port_of _ _ _ _ h.leases h.ports kept.ports;
    }

-- the test passes the leases with this port
pub record TellsPort {L K P : Type 0} (by : Keying L K P) (has : L → Bool) (p : P) : Type 0 where
  pub to : (l : L) → has l ≡ true → by.port l ≡ p
  pub from : (l : L) → by.port l ≡ p → has l ≡ true

module _ {L K P : Type 0} (by : Keying L K P) (laws : AreLaws by) (it : Numbered L K P) (kept : IsKept by it) (has : L → Bool) where
  -- what stands at the number under a key is what is found
  pub key-found : (k : K) (n : ℕ) → Tells by has k → get by.key_cmp it.keys k ≡ Some n → get nat_cmp it.leases n ≡ find has (values it.leases)
  key-found k n tells number = let y = key-from by laws it kept k n number in y.1 ∙ one-found by laws it kept has k tells n y.0 y.1 y.2

  pub port-found : (p : P) (n : ℕ) → TellsPort by has p → get by.port_cmp it.ports p ≡ Some n → get nat_cmp it.leases n ≡ find has (values it.leases)
  port-found p n tells number =
      let y = port-from by laws it kept p n number in
      y.1 ∙ sym (find_is has it.leases kept.ordered n y.0 y.1 (tells.from y.0 y.2) (λ m z a t.
      let both : Some n ≡ Some m = sym number ∙ ap (get by.port_cmp it.ports) (sym (tells.to z t)) ∙ port-to by laws it kept m z a in cc))

  pub no-port-found : (p : P) → TellsPort by has p → get by.port_cmp it.ports p ≡ None → None ≡ find has (values it.leases)
  no-port-found p tells free =
      sym (find_none has it.leases kept.ordered (λ n l a t. none_some (get by.port_cmp it.ports p) n free (ap (get by.port_cmp it.ports) (sym (tells.to l t)) ∙ port-to by laws it kept n l a)))

-- what holds of a list before and after a put
pub put-either : {X T E : Type 0} (Q : List X → Type 0) (old put new : List X) (r : Result T E) → OnOk r (new ≡ put) → OnErr r (new ≡ old) → Q old → Q put → Q new
put-either Q old put new (Ok v) ok err before after = subst Q (sym ok) after
put-either Q old put new (Err e) ok err before after = subst Q (sym err) before

-- a lease was put, or nothing changed
pub record IsPutInto {L K P X E : Type 0} (by : Keying L K P) (has : L → Bool) (l : L) (it new : Numbered L K P) (r : Result X E) : Type 0 where
  pub kept : IsKept by new
  pub ok : OnOk r (values new.leases ≡ put has l (values it.leases))
  pub err : OnErr r (values new.leases ≡ values it.leases)

-- the lease with a key was taken out
pub record IsTakenOut {L K P : Type 0} (by : Keying L K P) (has : L → Bool) (x : L) (it new : Numbered L K P) : Type 0 where
  pub kept : IsKept by new
  pub found : Some x ≡ find has (values it.leases)
  pub gone : values new.leases ≡ filter (λ l. not (has l)) (values it.leases)

module _ {L K P : Type 0} (by : Keying L K P) (laws : AreLaws by) (it : Numbered L K P) (kept : IsKept by it) (new : Numbered L K P) where
  module _ (has : L → Bool) (l : L) (tells : Tells by has (by.key l)) (two : EachTwo (λ a b. by.port a ≡ by.port b → ⊥) (put has l (values it.leases))) where
    put_new : (k : K) (p : P) (n : ℕ) → k ≡ by.key l → p ≡ by.port l → get by.key_cmp it.keys (by.key l) ≡ None → Appends by.key_cmp by.port_cmp it new l k p n → IsKept by new × (values new.leases ≡ put has l (values it.leases))
    put_new k p n k_is p_is free h =
        let free_key : get by.key_cmp it.keys k ≡ None = ap (get by.key_cmp it.keys) k_is ∙ free in
        let free_port : get by.port_cmp it.ports p ≡ None = ap (get by.port_cmp it.ports) p_is ∙ port-free by laws it kept has (by.key l) tells free l two in (
          appended-kept by laws it kept new l k p n k_is p_is h free_key free_port,
          appended-values by laws it kept new l k p n k_is p_is h free_key free_port has (subst (Tells by has) (sym k_is) tells),
        )

    pub put-appended : {X E : Type 0} (r : Result X E) (k : K) (p : P) → k ≡ by.key l → p ≡ by.port l → get by.key_cmp it.keys (by.key l) ≡ None →
        OnOk r ((n : ℕ) × Appends by.key_cmp by.port_cmp it new l k p n) → OnErr r (Stays it new) → IsPutInto by has l it new r
    put-appended (Ok v) k p k_is p_is free ok err = let both = put_new k p ok.0 k_is p_is free ok.1 in record { kept = both.0; ok = both.1; err = tt }
    put-appended (Err e) k p k_is p_is free ok err = record { kept = same-kept by laws it kept new err; ok = tt; err = same-values by laws it kept new err }

    put_old : (n : ℕ) (x : L) (from to : P) → get by.key_cmp it.keys (by.key l) ≡ Some n → get nat_cmp it.leases n ≡ Some x → from ≡ by.port x → to ≡ by.port l →
        Replaces by.port_cmp it new n l from to → IsKept by new × (values new.leases ≡ put has l (values it.leases))
    put_old n x from to number at_n from_is to_is h =
        let y = key-from by laws it kept (by.key l) n number in
        let key : by.key x ≡ by.key l = ap by.key (some_one (get nat_cmp it.leases n) x y.0 at_n y.1) ∙ y.2 in
        let is : values new.leases ≡ put has l (values it.leases) = replaced-values by laws it kept new n x l at_n key from to from_is to_is h has tells in
        (replaced-kept by laws it kept new n x l at_n key from to from_is to_is h (subst (EachTwo (λ a b. by.port a ≡ by.port b → ⊥)) (sym is) two), is)

    pub put-replaced : {X E : Type 0} (r : Result X E) (n : ℕ) (x : L) (from to : P) → get by.key_cmp it.keys (by.key l) ≡ Some n → get nat_cmp it.leases n ≡ Some x → from ≡ by.port x → to ≡ by.port l →
        OnOk r (Replaces by.port_cmp it new n l from to) → OnErr r (Stays it new) → IsPutInto by has l it new r
    put-replaced (Ok v) n x from to number at_n from_is to_is ok err = let both = put_old n x from to number at_n from_is to_is ok in record { kept = both.0; ok = both.1; err = tt }
    put-replaced (Err e) n x from to number at_n from_is to_is ok err = record { kept = same-kept by laws it kept new err; ok = tt; err = same-values by laws it kept new err }

  pub taken-out : (has : L → Bool) (k q : K) (p : P) (n : ℕ) (x : L) → Tells by has k → q ≡ k → p ≡ by.port x → get by.key_cmp it.keys q ≡ Some n → get nat_cmp it.leases n ≡ Some x →
      Forgets by.key_cmp by.port_cmp it new n q p → IsTakenOut by has x it new
  taken-out has k q p n x tells q_is p_is number at_n h =
      let y = key-from by laws it kept q n number in
      let key : by.key x ≡ q = ap by.key (some_one (get nat_cmp it.leases n) x y.0 at_n y.1) ∙ y.2 in
      let here : Tells by has q = subst (Tells by has) (sym q_is) tells in
      record {
        kept = forgotten-kept by laws it kept new n x at_n q p (sym key) p_is h;
        found = one-found by laws it kept has q here n x at_n key;
        gone = forgotten-values by laws it kept new n x at_n q p (sym key) p_is h has here;
      }

module _ {L K P : Type 0} (by : Keying L K P) (it : Numbered L K P) (h : IsBlank by.key_cmp by.port_cmp it) where
  pub blank-values : values it.leases ≡ []
  blank-values = ap values_of h.leases.entries

  pub blank-kept : IsKept by it
  blank-kept = record {
    ordered = h.leases.ordered;
    below = λ n l a. absurd (let none : None ≡ Some l = ap (λ (es : List (ℕ × L)). lookup (is_at (nat_cmp n)) es) (sym h.leases.entries) ∙ a in cc);
    step = ap (λ z. z % MOST_SLOTS) h.next;
    keys_ordered = h.keys.ordered;
    keys = mirrored (λ (e : ℕ × L). (by.key e.1, e.0)) _ _ _ _ h.leases.entries h.keys.entries (λ test. refl);
    ports_ordered = h.ports.ordered;
    ports = mirrored (λ (e : ℕ × L). (by.port e.1, e.0)) _ _ _ _ h.leases.entries h.ports.entries (λ test. refl);
  }
