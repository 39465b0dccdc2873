-- Lists whose elements stand in one order, and lists with a lease put in.
use Rattle.std.proofs.Common.{◌≡◌, ◌≢◌, ◌≤◌, ◌⊎◌, Bool, true, false, List, [], ◌∷◌, ◌++◌, map, length, refl, sym, ap, ◌∙◌, subst, inl, inr, arith, length-append}
use Rattle.std.specs.List.{AllByRecursion}
use Rattle.std.proofs.lemmas.Bool.{cond_both, cond-true, cond-false}
use Rattle.pcp_base.specs.Tables.{EachTwo, put}
use Rattle.pcp_base.proofs.Members.{IsIn, All-IsIn, All-from_IsIn, IsIn-append, IsIn-left, IsIn-right}

pub two-weaker : {X : Type 0} (R S : X → X → Type 0) → ((x y : X) → R x y → S x y) → (xs : List X) → EachTwo R xs → EachTwo S xs
two-weaker R S f [] h = tt
two-weaker R S f (x ∷ xs) h = (All-from_IsIn (S x) xs (λ y i. f x y (All-IsIn (R x) xs y h.0 i)), two-weaker R S f xs h.1)

all-map : {X Y : Type 0} (P : X → Type 0) (Q : Y → Type 0) (f : X → Y) → ((x : X) → P x → Q (f x)) → (xs : List X) → AllByRecursion P xs → AllByRecursion Q (map f xs)
all-map P Q f g [] h = tt
all-map P Q f g (x ∷ xs) h = (g x h.0, all-map P Q f g xs h.1)

pub two-map : {X Y : Type 0} (R : X → X → Type 0) (S : Y → Y → Type 0) (f : X → Y) → ((x y : X) → R x y → S (f x) (f y)) → (xs : List X) → EachTwo R xs → EachTwo S (map f xs)
two-map R S f g [] h = tt
two-map R S f g (x ∷ xs) h = (all-map (R x) (S (f x)) f (g x) xs h.0, two-map R S f g xs h.1)

-- ---- a lease put in

pub put-own : {X : Type 0} (key : X → Bool) (l : X) (xs : List X) → IsIn l (put key l xs)
put-own key l [] = inl refl
put-own key l (x ∷ xs) = cond_both (key x) (l ∷ xs) (x ∷ put key l xs) (λ ys. IsIn l ys) (λ _. inl refl) (λ _. inr (put-own key l xs))

pub put-stays : {X : Type 0} (key : X → Bool) (l : X) (xs : List X) (x : X) → IsIn x xs → key x ≡ false → IsIn x (put key l xs)
put-stays key l [] x h fails = absurd h
put-stays key l (y ∷ ys) x (inl same) fails =
    cond_both (key y) (l ∷ ys) (y ∷ put key l ys) (λ zs. IsIn x zs)
    (λ yes. absurd (let never : true ≡ false = sym yes ∙ ap key same ∙ fails in cc)) (λ _. inl same)
put-stays key l (y ∷ ys) x (inr h) fails =
    cond_both (key y) (l ∷ ys) (y ∷ put key l ys) (λ zs. IsIn x zs) (λ _. inr h) (λ _. inr (put-stays key l ys x h fails))

-- where no two have the key, what is in beside the new one hasn't
pub put-cases : {X : Type 0} (key : X → Bool) (l : X) (xs : List X) (x : X) → EachTwo (λ a b. key a ≡ true → key b ≡ true → ⊥) xs → IsIn x (put key l xs) → (l ≡ x) ⊎ (IsIn x xs × (key x ≡ false))
put-cases key l [] x apart (inl same) = inl same
put-cases key l [] x apart (inr h) = absurd h
put-cases key l (y ∷ ys) x apart h =
    cond_both (key y) (l ∷ ys) (y ∷ put key l ys) (λ zs. IsIn x zs → (l ≡ x) ⊎ (IsIn x (y ∷ ys) × (key x ≡ false)))
    (λ yes k. elim k [
      | inl same ↦ inl same
      | inr rest ↦ inr (inr rest, Rattle.std.proofs.lemmas.Bool.false_from_ne_true (key x) (All-IsIn (λ b. key y ≡ true → key b ≡ true → ⊥) ys x apart.0 rest yes))
    ])
    (λ no k. elim k [
      | inl same ↦ inr (inl same, ap key (sym same) ∙ no)
      | inr rest ↦ elim (put-cases key l ys x apart.1 rest) [ inl same ↦ inl same | inr r ↦ inr (inr r.0, r.1) ]
    ]) h

-- ---- different ones, each among others

pub split-in : {X : Type 0} (xs : List X) (x : X) → IsIn x xs → (fore : List X) × (back : List X) × (xs ≡ fore ++ x ∷ back)
split-in [] x h = absurd h
split-in (y ∷ ys) x (inl same) = ([], ys, ap (λ z. z ∷ ys) same)
split-in (y ∷ ys) x (inr h) = let r = split-in ys x h in (y ∷ r.0, r.1, ap (λ zs. y ∷ zs) r.2)

pub in-others : {X : Type 0} (fore back : List X) (x z : X) → x ≢ z → IsIn z (fore ++ x ∷ back) → IsIn z (fore ++ back)
in-others fore back x z other h = elim (IsIn-append fore (x ∷ back) z h) [
  | inl a ↦ IsIn-left fore back z a
  | inr b ↦ elim b [ inl same ↦ absurd (other same) | inr c ↦ IsIn-right fore back z c ]
]

-- different ones that are all among others are no more than these
pub no-more : {X : Type 0} (xs ys : List X) → EachTwo (λ x y. x ≢ y) xs → ((x : X) → IsIn x xs → IsIn x ys) → length xs ≤ length ys
no-more [] ys apart among = omega arith
no-more (x ∷ xs) ys apart among =
    let r = split-in ys x (among x (inl refl)) in
    let rest = no-more xs (r.0 ++ r.1) apart.1 (λ z i. in-others r.0 r.1 x z (All-IsIn (λ y. x ≢ y) xs z apart.0 i) (subst (λ zs. IsIn z zs) r.2 (among z (inr i)))) in
    let whole : length ys ≡ length (r.0 ++ x ∷ r.1) = ap length r.2 in
    omega (arith, rest, whole, length-append r.0 (x ∷ r.1), length-append r.0 r.1)
