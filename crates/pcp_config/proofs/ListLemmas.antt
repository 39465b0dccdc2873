-- Lists that the items of an array tell.
use Rattle.std.proofs.Common.{◌≡◌, List, [], ◌∷◌, ◌++◌, ℕ, zero, suc, ◌+◌, ◌-◌, ◌<◌, ◌≤◌, Some, None, map, take, drop, length, get_or, refl, sym, subst, ◌∙◌, ap, arith}
use Rattle.std.specs.List.{AllByRecursion, AllZip}
use Rattle.std.proofs.lemmas.List.{take_all, take_more}
use Rattle.std.proofs.lemmas.Option.{same_Some}
use Rattle.toml.specs.Data.{Data, Items, string, integer, float, boolean, datetime, array, table, as_array}
use Rattle.toml.specs.View.{view, items_of, items_view}
use Rattle.toml.specs.declared.value.Value.{Value}
use Rattle.pcp_config.specs.TomlValues.{IsListOf, list_of}

-- the value tells what x is
abbrev pub AreTold : {A : Type 0} → (Data → A → Type 0) → List Value → List A → Type 0
AreTold Tells vs xs = AllZip Tells (map view vs) xs

push : {A : Type 0} (Tells : Data → A → Type 0) (vs : List Value) (xs : List A) (v : Value) (x : A) → AreTold Tells vs xs → Tells (view v) x
    → AreTold Tells (vs ++ v ∷ []) (xs ++ x ∷ [])
push Tells [] [] v x h k = (k, tt)
push Tells [] (y ∷ xs) v x h k = absurd h
push Tells (w ∷ vs) [] v x h k = absurd h
push Tells (w ∷ vs) (y ∷ xs) v x h k = (h.0, push Tells vs xs v x h.1 k)

-- one row more
pub told_more : {A : Type 0} (Tells : Data → A → Type 0) (vs : List Value) (i : ℕ) (v : Value) (xs : List A) (x : A) → i < length vs
    → get_or vs i v ≡ v → AreTold Tells (take i vs) xs → Tells (view v) x → AreTold Tells (take (i + 1) vs) (xs ++ x ∷ [])
told_more Tells vs i v xs x within at h k =
    let more : take (i + 1) vs ≡ take i vs ++ v ∷ [] = take_more vs i v within ∙ ap (λ w. take i vs ++ w ∷ []) at in
    rw more (push Tells (take i vs) xs v x h k)

list_of-items : (ds : List Data) → list_of (items_of ds) ≡ ds
list_of-items [] = refl
list_of-items (d ∷ ds) = ap (λ t. d ∷ t) (list_of-items ds)

array_is : (d : Data) (items : Items) → Some items ≡ as_array d → d ≡ array items
array_is (string s) items e = let bad : Some items ≡ None = e in absurd (cc)
array_is (integer z) items e = let bad : Some items ≡ None = e in absurd (cc)
array_is (float x) items e = let bad : Some items ≡ None = e in absurd (cc)
array_is (boolean b) items e = let bad : Some items ≡ None = e in absurd (cc)
array_is (datetime t) items e = let bad : Some items ≡ None = e in absurd (cc)
array_is (array ds) items e = ap array (sym (same_Some _ _ e))
array_is (table ms) items e = let bad : Some items ≡ None = e in absurd (cc)

-- all rows are read
pub told_all : {A : Type 0} (Tells : Data → A → Type 0) (d : Data) (vs : List Value) (i : ℕ) (xs : List A) → Some (items_view vs) ≡ as_array d
    → take i vs ≡ vs → AreTold Tells (take i vs) xs → IsListOf Tells d xs
told_all Tells d vs i xs seen all h =
    (items_view vs, array_is d _ seen, rw (list_of-items (map view vs)) (subst (λ t. AreTold Tells t xs) all h))

-- the rest of a list, as a slice pattern tells it
abbrev rest_of : {X : Type 0} → List X → List X
rest_of xs = take (length xs - 1) (drop 1 xs)

rest_is : {X : Type 0} (x : X) (xs : List X) → rest_of (x ∷ xs) ≡ xs
rest_is x xs =
    let n : length (x ∷ xs) - 1 ≡ length xs = omega arith in
    ap (λ k. take k xs) n ∙ take_all (length xs) xs (omega arith)

-- a test of all items, where the first one passes
pub all_tested : {X Q : Type 0} (P : X → Type 0) (xs : List X) (x : X) → 1 ≤ length xs → x ≡ get_or xs 0 x → P x
    → (Q → AllByRecursion P (rest_of xs)) × (AllByRecursion P (rest_of xs) → Q) → (Q → AllByRecursion P xs) × (AllByRecursion P xs → Q)
all_tested P [] x some is p tested = absurd (let none : 1 ≤ 0 = some in omega (arith, none))
all_tested P (y ∷ ys) x some is p tested =
    let same : x ≡ y = is in
    (λ q. (subst P same p, subst (AllByRecursion P) (rest_is y ys) (tested.0 q)), λ all. tested.1 (subst (AllByRecursion P) (sym (rest_is y ys)) all.1))

-- a row that tells nothing
no_row : {A : Type 0} (Tells : Data → A → Type 0) (vs : List Value) (i : ℕ) (v : Value) (xs : List A) → i < length vs → get_or vs i v ≡ v
    → ((x : A) → ¬ (Tells (view v) x)) → ¬ (AreTold Tells vs xs)
no_row Tells [] i v xs within at none h = omega (arith, within)
no_row Tells (w ∷ vs) i v [] within at none h = h
no_row Tells (w ∷ vs) zero v (x ∷ xs) within at none h = none x (subst (λ t. Tells (view t) x) at h.0)
no_row Tells (w ∷ vs) (suc i) v (x ∷ xs) within at none h = no_row Tells vs i v xs (omega (arith, within)) at none h.1

pub untold_row : {A : Type 0} (Tells : Data → A → Type 0) (d : Data) (vs : List Value) (i : ℕ) (v : Value) → Some (items_view vs) ≡ as_array d
    → i < length vs → get_or vs i v ≡ v → ((x : A) → ¬ (Tells (view v) x)) → (xs : List A) → ¬ (IsListOf Tells d xs)
untold_row Tells d vs i v seen within at none xs (items, is, h) =
    let same : items ≡ items_view vs = same_Some _ _ (sym (ap as_array is) ∙ sym seen) in
    let told : AllZip Tells (list_of (items_view vs)) xs = subst (λ t. AllZip Tells (list_of t) xs) same h in
    no_row Tells vs i v xs within at none (rw (list_of-items (map view vs)) at told)
