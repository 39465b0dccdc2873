-- What is found in an ordered list of entries after one came or went.
use Rattle.std.proofs.Common.{◌≡◌, Bool, true, false, cond, List, [], ◌∷◌, Some, None, refl, sym, ap, ◌∙◌, subst}
use Rattle.std.specs.List.{AllByRecursion}
use Rattle.std.specs.List.Sorted.{IsStrictlySortedBy}
use Rattle.std.specs.Map.{lookup, remove_entry, keys_of}
use Rattle.std.specs.Ordering.{is_eq, match_ordering, ordering_reverse}
use Rattle.std.specs.declared.cmp.Ordering.{Ordering}
use Rattle.std.specs.declared.cmp.Ordering.TheVariants.{Less, Equal, Greater}
use Rattle.std.specs.Cmp.{IsTotalOrder}
use Rattle.std.specs.BTreeMap.{BTreeMap, IsOrdered, is_at, insert_entry}
use Rattle.std.proofs.lemmas.Map.Keys.{sorted_head, sorted_tail}
use Rattle.std.proofs.lemmas.Map.Lookups.{CmpEqualImpliesEq}
use Rattle.pcp_base.proofs.Members.{All-weaker}
use Rattle.ordered_index.proofs.EntryLaws.{equal, key-self, lookup-inserted}
use Rattle.ordered_index.specs.MapSteps.{Inserts, Removes}

sorted_cons : {K : Type 0} (R : K → K → Ordering) (k : K) (ks : List K) → AllByRecursion (λ y. R k y ≡ Less) ks → IsStrictlySortedBy R ks → IsStrictlySortedBy R (k ∷ ks)
unfolding IsStrictlySortedBy
sorted_cons R k ks above sorted = (above, sorted)

reversed_eq : (p : Ordering) → is_eq (ordering_reverse p) ≡ is_eq p
reversed_eq Less = refl
reversed_eq Equal = refl
reversed_eq Greater = refl

pub at_sym : {K : Type 0} {R : K → K → Ordering} → IsTotalOrder R → (k q : K) → is_at (R q) k ≡ is_at (R k) q
at_sym {R = R} o k q = ap is_eq (o.antisymm q k) ∙ reversed_eq (R k q)

module _ {K V : Type 0} {R : K → K → Ordering} (o : IsTotalOrder R) (k : K) where
  -- ---- one comes
  abbrev placed : Ordering → V → K × V → List (K × V) → List (K × V)
  placed p v e es = match_ordering p ((k, v) ∷ e ∷ es) ((e.0, v) ∷ es) (e ∷ insert_entry R es k v)

  here_step : (v : V) (e : K × V) (es : List (K × V)) (p : Ordering) → R k e.0 ≡ p → lookup (is_at (R k)) (insert_entry R es k v) ≡ Some v → lookup (is_at (R k)) (placed p v e es) ≡ Some v
  here_step v e es Less h rest = ap (λ t. cond t (Some v) (lookup (is_at (R k)) (e ∷ es))) (key-self o k)
  here_step v e es Equal h rest = ap (λ t. cond (is_eq t) (Some v) (lookup (is_at (R k)) es)) h
  here_step v e es Greater h rest = ap (λ t. cond (is_eq t) (Some e.1) (lookup (is_at (R k)) (insert_entry R es k v))) h ∙ rest

  found_here : (v : V) (es : List (K × V)) → lookup (is_at (R k)) (insert_entry R es k v) ≡ Some v
  found_here v [] = ap (λ t. cond t (Some v) None) (key-self o k)
  found_here v (e ∷ es) = here_step v e es (R k e.0) refl (found_here v es)

  all_placed : (P : K → Type 0) (v : V) (e : K × V) (es : List (K × V)) (p : Ordering) → AllByRecursion P (keys_of (e ∷ es)) → P k → AllByRecursion P (keys_of (insert_entry R es k v)) → AllByRecursion P (keys_of (placed p v e es))
  all_placed P v e es Less all here rest = (here, all)
  all_placed P v e es Equal all here rest = all
  all_placed P v e es Greater all here rest = (all.0, rest)

  all_inserted : (P : K → Type 0) (v : V) (es : List (K × V)) → AllByRecursion P (keys_of es) → P k → AllByRecursion P (keys_of (insert_entry R es k v))
  all_inserted P v [] all here = (here, tt)
  all_inserted P v (e ∷ es) all here = all_placed P v e es (R k e.0) all here (all_inserted P v es all.1 here)

  sorted_placed : (v : V) (e : K × V) (es : List (K × V)) (p : Ordering) → R k e.0 ≡ p → IsStrictlySortedBy R (keys_of (e ∷ es)) → IsStrictlySortedBy R (keys_of (insert_entry R es k v)) → IsStrictlySortedBy R (keys_of (placed p v e es))
  sorted_placed v e es Less h sorted rest =
      sorted_cons R k (e.0 ∷ keys_of es)
      (h, All-weaker (λ y. R e.0 y ≡ Less) (λ y. R k y ≡ Less) (λ y below. o.trans k e.0 y h below) (keys_of es) (sorted_head R e.0 (keys_of es) sorted)) sorted
  sorted_placed v e es Equal h sorted rest = sorted
  sorted_placed v e es Greater h sorted rest =
      let below : R e.0 k ≡ Less = o.antisymm e.0 k ∙ ap ordering_reverse h in
      sorted_cons R e.0 (keys_of (insert_entry R es k v)) (all_inserted (λ y. R e.0 y ≡ Less) v es (sorted_head R e.0 (keys_of es) sorted) below) rest

  pub sorted_inserted : (v : V) (es : List (K × V)) → IsStrictlySortedBy R (keys_of es) → IsStrictlySortedBy R (keys_of (insert_entry R es k v))
  sorted_inserted v [] sorted = sorted_cons R k [] tt sorted
  sorted_inserted v (e ∷ es) sorted = sorted_placed v e es (R k e.0) refl sorted (sorted_inserted v es (sorted_tail R e.0 (keys_of es) sorted))

  -- ---- one goes
  pub none_past : (es : List (K × V)) → AllByRecursion (λ y. R k y ≡ Less) (keys_of es) → lookup (is_at (R k)) es ≡ None
  none_past [] all = refl
  none_past (e ∷ es) all = ap (λ t. cond (is_eq t) (Some e.1) (lookup (is_at (R k)) es)) all.0 ∙ none_past es all.1

  all_gone : (P : K → Type 0) (e : K × V) (es rest : List (K × V)) (b : Bool) → AllByRecursion P (keys_of (e ∷ es)) → AllByRecursion P (keys_of rest) → AllByRecursion P (keys_of (cond b es (e ∷ rest)))
  all_gone P e es rest true all less = all.1
  all_gone P e es rest false all less = (all.0, less)

  all_removed : (P : K → Type 0) (es : List (K × V)) → AllByRecursion P (keys_of es) → AllByRecursion P (keys_of (remove_entry (is_at (R k)) es))
  all_removed P [] all = tt
  all_removed P (e ∷ es) all = all_gone P e es (remove_entry (is_at (R k)) es) (is_at (R k) e.0) all (all_removed P es all.1)

  sorted_gone : (e : K × V) (es rest : List (K × V)) (b : Bool) → IsStrictlySortedBy R (keys_of es) → AllByRecursion (λ y. R e.0 y ≡ Less) (keys_of rest) → IsStrictlySortedBy R (keys_of rest) → IsStrictlySortedBy R (keys_of (cond b es (e ∷ rest)))
  sorted_gone e es rest true sorted above less = sorted
  sorted_gone e es rest false sorted above less = sorted_cons R e.0 (keys_of rest) above less

  pub sorted_removed : (es : List (K × V)) → IsStrictlySortedBy R (keys_of es) → IsStrictlySortedBy R (keys_of (remove_entry (is_at (R k)) es))
  sorted_removed [] sorted = sorted
  sorted_removed (e ∷ es) sorted =
      sorted_gone e es (remove_entry (is_at (R k)) es) (is_at (R k) e.0) (sorted_tail R e.0 (keys_of es) sorted)
      (all_removed (λ y. R e.0 y ≡ Less) es (sorted_head R e.0 (keys_of es) sorted)) (sorted_removed es (sorted_tail R e.0 (keys_of es) sorted))

  module _ (exact : CmpEqualImpliesEq R) where
    pub changed_by : (v : V) (es : List (K × V)) (q : K) (b : Bool) → is_at (R k) q ≡ b → lookup (is_at (R q)) (insert_entry R es k v) ≡ cond b (Some v) (lookup (is_at (R q)) es)
    changed_by v es q true h = ap (λ z. lookup (is_at (R z)) (insert_entry R es k v)) (sym (exact k q (equal (R k q) h))) ∙ found_here v es
    changed_by v es q false h = lookup-inserted o k exact q v es (at_sym o k q ∙ h)

    gone_step : (e : K × V) (es : List (K × V)) (b : Bool) → is_at (R k) e.0 ≡ b → AllByRecursion (λ y. R e.0 y ≡ Less) (keys_of es) → lookup (is_at (R k)) (remove_entry (is_at (R k)) es) ≡ None →
        lookup (is_at (R k)) (cond b es (e ∷ remove_entry (is_at (R k)) es)) ≡ None
    gone_step e es true h above rest = none_past es (subst (λ z. AllByRecursion (λ y. R z y ≡ Less) (keys_of es)) (sym (exact k e.0 (equal (R k e.0) h))) above)
    gone_step e es false h above rest = ap (λ t. cond t (Some e.1) (lookup (is_at (R k)) (remove_entry (is_at (R k)) es))) h ∙ rest

    gone_here : (es : List (K × V)) → IsStrictlySortedBy R (keys_of es) → lookup (is_at (R k)) (remove_entry (is_at (R k)) es) ≡ None
    gone_here [] sorted = refl
    gone_here (e ∷ es) sorted = gone_step e es (is_at (R k) e.0) refl (sorted_head R e.0 (keys_of es) sorted) (gone_here es (sorted_tail R e.0 (keys_of es) sorted))

    other_step : (q : K) → is_at (R k) q ≡ false → (e : K × V) (es : List (K × V)) (b : Bool) → is_at (R k) e.0 ≡ b → lookup (is_at (R q)) (remove_entry (is_at (R k)) es) ≡ lookup (is_at (R q)) es →
        lookup (is_at (R q)) (cond b es (e ∷ remove_entry (is_at (R k)) es)) ≡ lookup (is_at (R q)) (e ∷ es)
    other_step q apart e es true h rest =
        let other : is_at (R q) e.0 ≡ false = ap (λ z. is_at (R q) z) (sym (exact k e.0 (equal (R k e.0) h))) ∙ (at_sym o k q ∙ apart) in
        ap (λ t. cond t (Some e.1) (lookup (is_at (R q)) es)) (sym other)
    other_step q apart e es false h rest = ap (λ r. cond (is_at (R q) e.0) (Some e.1) r) rest

    gone_other : (q : K) → is_at (R k) q ≡ false → (es : List (K × V)) → lookup (is_at (R q)) (remove_entry (is_at (R k)) es) ≡ lookup (is_at (R q)) es
    gone_other q apart [] = refl
    gone_other q apart (e ∷ es) = other_step q apart e es (is_at (R k) e.0) refl (gone_other q apart es)

    pub removed_by : (es : List (K × V)) → IsStrictlySortedBy R (keys_of es) → (q : K) (b : Bool) → is_at (R k) q ≡ b → lookup (is_at (R q)) (remove_entry (is_at (R k)) es) ≡ cond b None (lookup (is_at (R q)) es)
    removed_by es sorted q true h = ap (λ z. lookup (is_at (R z)) (remove_entry (is_at (R k)) es)) (sym (exact k q (equal (R k q) h))) ∙ gone_here es sorted
    removed_by es sorted q false h = gone_other q h es

    -- an entry was put in
    pub entered : (old new : BTreeMap K V) (v : V) → IsOrdered R old → new.entries ≡ insert_entry R old.entries k v → Inserts R old new k v
    entered old new v ordered entries = record {
      entries = entries;
      changed = λ q. ap (λ (es : List (K × V)). lookup (is_at (R q)) es) entries ∙ changed_by v old.entries q (is_at (R k) q) refl;
      ordered = subst (λ (es : List (K × V)). IsStrictlySortedBy R (keys_of es)) (sym entries) (sorted_inserted v old.entries ordered);
    }

    -- one was taken out
    pub taken_out : (old new : BTreeMap K V) → IsOrdered R old → new.entries ≡ remove_entry (is_at (R k)) old.entries → Removes R old new k
    taken_out old new ordered entries = record {
      entries = entries;
      changed = λ q. ap (λ (es : List (K × V)). lookup (is_at (R q)) es) entries ∙ removed_by old.entries ordered q (is_at (R k) q) refl;
      ordered = subst (λ (es : List (K × V)). IsStrictlySortedBy R (keys_of es)) (sym entries) (sorted_removed old.entries ordered);
    }
