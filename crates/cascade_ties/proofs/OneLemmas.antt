-- A list of which one passes a test, without that one, and with another in its place.
use Rattle.std.proofs.Common.{◌≡◌, suc, ◌+◌, Bool, true, false, not, cond, List, [], ◌∷◌, ◌++◌, length, filter, find, count_by, Option, Some, None, refl, sym, ap, ◌∙◌, subst, arith}
use Rattle.std.specs.List.{AllByRecursion, AllZip}
use Rattle.pcp_base.specs.Tables.{EachTwo, put}
use Rattle.pcp_base.proofs.Members.{All-IsIn, find-some, filter-all, AllZip-refl}
use Rattle.ordered_index.proofs.EntryLaws.{tally, count-cons}

-- of each two, the later one doesn't pass where the first does
abbrev pub Once : {X : Type 0} → (X → Bool) → List X → Type 0
Once p xs = EachTwo (λ a b. p a ≡ true → p b ≡ false) xs

module _ {X : Type 0} where
  pub all_after : (p : X → Bool) (a : X) (xs : List X) → p a ≡ true → AllByRecursion (λ b. p a ≡ true → p b ≡ false) xs → AllByRecursion (λ b. p b ≡ false) xs
  all_after p a [] t h = tt
  all_after p a (x ∷ xs) t h = (h.0 t, all_after p a xs t h.1)

  all_not : (p : X → Bool) (xs : List X) → AllByRecursion (λ x. p x ≡ false) xs → AllByRecursion (λ x. not (p x) ≡ true) xs
  all_not p [] h = tt
  all_not p (x ∷ xs) h = (ap not h.0, all_not p xs h.1)

  -- where none passes, all are kept
  pub none-out : (has : X → Bool) (xs : List X) → AllByRecursion (λ x. has x ≡ false) xs → filter (λ x. not (has x)) xs ≡ xs
  none-out has xs h = filter-all (λ x. not (has x)) xs (all_not has xs h)

  pub find-nothing : (p : X → Bool) (xs : List X) → AllByRecursion (λ x. p x ≡ false) xs → find p xs ≡ None
  find-nothing p [] h = refl
  find-nothing p (x ∷ xs) h = ap (λ b. cond b (Some x) (find p xs)) h.0 ∙ find-nothing p xs h.1

  pub find-append : (p : X → Bool) (xs : List X) (y : X) → find p xs ≡ None → find p (xs ++ y ∷ []) ≡ cond (p y) (Some y) None
  find-append p [] y h = refl
  find-append p (x ∷ xs) y h = step (p x) h (find-append p xs y)
    where
      step : (b : Bool) → cond b (Some x) (find p xs) ≡ None → (find p xs ≡ None → find p (xs ++ y ∷ []) ≡ cond (p y) (Some y) None) → cond b (Some x) (find p (xs ++ y ∷ [])) ≡ cond (p y) (Some y) None
      step true k rest = absurd cc
      step false k rest = rest k

  pub find-before : (p : X → Bool) (xs : List X) (y : X) → p y ≡ false → find p (xs ++ y ∷ []) ≡ find p xs
  find-before p [] y h = ap (λ b. cond b (Some y) None) h
  find-before p (x ∷ xs) y h = ap (cond (p x) (Some x)) (find-before p xs y h)

  pub count-append : (p : X → Bool) (xs : List X) (y : X) → count_by p (xs ++ y ∷ []) ≡ count_by p xs + tally (p y)
  count-append p [] y = let a = count-cons p y [] in let z : count_by p [] ≡ 0 = refl in omega (arith, a, z)
  count-append p (x ∷ xs) y = let a = count-cons p x (xs ++ y ∷ []) in let b = count-cons p x xs in let rest = count-append p xs y in omega (arith, a, b, rest)

  module _ (has : X → Bool) (x : X) where
    -- the others: those before and behind the one that is found
    pub count-out : (q : X → Bool) (xs : List X) → Once has xs → find has xs ≡ Some x → count_by q (filter (λ y. not (has y)) xs) + tally (q x) ≡ count_by q xs
    count-out q [] one h = absurd cc
    count-out q (y ∷ ys) one h = step (has y) refl h (count-out q ys one.1)
      where
        step : (b : Bool) → has y ≡ b → cond b (Some y) (find has ys) ≡ Some x → (find has ys ≡ Some x → count_by q (filter (λ z. not (has z)) ys) + tally (q x) ≡ count_by q ys) → count_by q (cond (not b) (y ∷ filter (λ z. not (has z)) ys) (filter (λ z. not (has z)) ys)) + tally (q x) ≡ count_by q (y ∷ ys)
        step true e k later =
            let same : y ≡ x = cc in
            let rest = ap (count_by q) (none-out has ys (all_after has y ys e one.0)) in
            let this = ap (λ z. tally (q z)) same in
            let a = count-cons q y ys in
            omega (arith, rest, this, a)
        step false e k later =
            let rest = later k in
            let a = count-cons q y ys in
            let b = count-cons q y (filter (λ z. not (has z)) ys) in
            omega (arith, rest, a, b)

    -- a test that the one fails finds the same
    pub find-out : (q : X → Bool) (xs : List X) → Once has xs → find has xs ≡ Some x → q x ≡ false → find q (filter (λ y. not (has y)) xs) ≡ find q xs
    find-out q [] one h f = absurd cc
    find-out q (y ∷ ys) one h f = step (has y) refl h (λ k. find-out q ys one.1 k f)
      where
        step : (b : Bool) → has y ≡ b → cond b (Some y) (find has ys) ≡ Some x → (find has ys ≡ Some x → find q (filter (λ z. not (has z)) ys) ≡ find q ys) → find q (cond (not b) (y ∷ filter (λ z. not (has z)) ys) (filter (λ z. not (has z)) ys)) ≡ cond (q y) (Some y) (find q ys)
        step true e k later =
            let same : y ≡ x = cc in
            ap (find q) (none-out has ys (all_after has y ys e one.0)) ∙ sym (ap (λ b. cond b (Some y) (find q ys)) (ap q same ∙ f))
        step false e k later = ap (cond (q y) (Some y)) (later k)

    left-step : (q : X → Bool) (y : X) (ys : List X) → AllByRecursion (λ z. q y ≡ true → q z ≡ false) ys → find has ys ≡ Some x → q x ≡ true → find q (filter (λ z. not (has z)) ys) ≡ None →
        cond (q y) (Some y) (find q (filter (λ z. not (has z)) ys)) ≡ None
    left-step q y ys only k t none = here (q y) refl
      where
        here : (b : Bool) → q y ≡ b → cond b (Some y) (find q (filter (λ z. not (has z)) ys)) ≡ None
        here true e = absurd (let r = find-some has ys x k in let no = All-IsIn (λ z. q y ≡ true → q z ≡ false) ys x only r.0 e in let both : true ≡ false = sym t ∙ no in cc)
        here false e = none

    -- a test that it passes as the only one finds nothing
    pub none-left : (q : X → Bool) (xs : List X) → Once has xs → Once q xs → find has xs ≡ Some x → q x ≡ true → find q (filter (λ y. not (has y)) xs) ≡ None
    none-left q [] one only h t = absurd cc
    none-left q (y ∷ ys) one only h t = step (has y) refl h (λ k. none-left q ys one.1 only.1 k t)
      where
        step : (b : Bool) → has y ≡ b → cond b (Some y) (find has ys) ≡ Some x → (find has ys ≡ Some x → find q (filter (λ z. not (has z)) ys) ≡ None) → find q (cond (not b) (y ∷ filter (λ z. not (has z)) ys) (filter (λ z. not (has z)) ys)) ≡ None
        step true e k later =
            let same : y ≡ x = cc in
            ap (find q) (none-out has ys (all_after has y ys e one.0)) ∙ find-nothing q ys (all_after q y ys (ap q same ∙ t) only.0)
        step false e k later = left-step q y ys only.0 k t (later k)

    -- a filter that drops it anyway
    pub filter-out : (q : X → Bool) (xs : List X) → Once has xs → find has xs ≡ Some x → q x ≡ false → filter q (filter (λ y. not (has y)) xs) ≡ filter q xs
    filter-out q [] one h f = absurd cc
    filter-out q (y ∷ ys) one h f = step (has y) refl h (λ k. filter-out q ys one.1 k f)
      where
        step : (b : Bool) → has y ≡ b → cond b (Some y) (find has ys) ≡ Some x → (find has ys ≡ Some x → filter q (filter (λ z. not (has z)) ys) ≡ filter q ys) → filter q (cond (not b) (y ∷ filter (λ z. not (has z)) ys) (filter (λ z. not (has z)) ys)) ≡ cond (q y) (y ∷ filter q ys) (filter q ys)
        step true e k later =
            let same : y ≡ x = cc in
            ap (filter q) (none-out has ys (all_after has y ys e one.0)) ∙ sym (ap (λ b. cond b (y ∷ filter q ys) (filter q ys)) (ap q same ∙ f))
        step false e k later = ap (λ zs. cond (q y) (y ∷ zs) zs) (later k)

    pub fewer-out : (xs : List X) → Once has xs → find has xs ≡ Some x → suc (length (filter (λ y. not (has y)) xs)) ≡ length xs
    fewer-out [] one h = absurd cc
    fewer-out (y ∷ ys) one h = step (has y) refl h (fewer-out ys one.1)
      where
        step : (b : Bool) → has y ≡ b → cond b (Some y) (find has ys) ≡ Some x → (find has ys ≡ Some x → suc (length (filter (λ z. not (has z)) ys)) ≡ length ys) → suc (length (cond (not b) (y ∷ filter (λ z. not (has z)) ys) (filter (λ z. not (has z)) ys))) ≡ suc (length ys)
        step true e k later = ap (λ zs. suc (length zs)) (none-out has ys (all_after has y ys e one.0))
        step false e k later = ap suc (later k)

    -- another one in its place
    pub put-zip : (R : X → X → Type 0) (y : X) (xs : List X) → ((z : X) → R z z) → R x y → find has xs ≡ Some x → AllZip R xs (put has y xs)
    put-zip R y [] r h k = absurd cc
    put-zip R y (z ∷ zs) r h k = step (has z) k (put-zip R y zs r h)
      where
        step : (b : Bool) → cond b (Some z) (find has zs) ≡ Some x → (find has zs ≡ Some x → AllZip R zs (put has y zs)) → AllZip R (z ∷ zs) (cond b (y ∷ zs) (z ∷ put has y zs))
        step true k' later = let same : z ≡ x = cc in (subst (λ w. R w y) (sym same) h, AllZip-refl R r zs)
        step false k' later = (r z, later k')

  -- lists that are alike item by item
  pub zip-count : (R : X → X → Type 0) (q : X → Bool) → ((a b : X) → R a b → q a ≡ q b) → (xs ys : List X) → AllZip R xs ys → count_by q xs ≡ count_by q ys
  zip-count R q same [] [] z = refl
  zip-count R q same [] (y ∷ ys) z = absurd z
  zip-count R q same (x ∷ xs) [] z = absurd z
  zip-count R q same (x ∷ xs) (y ∷ ys) z =
      let a = count-cons q x xs in let b = count-cons q y ys in
      let one = ap tally (same x y z.0) in let rest = zip-count R q same xs ys z.1 in omega (arith, a, b, one, rest)

  pub zip-find : {Y : Type 0} (R : X → X → Type 0) (q : X → Bool) (f : Option X → Y) → ((a b : X) → R a b → q a ≡ q b) → ((a b : X) → R a b → f (Some a) ≡ f (Some b)) →
      (xs ys : List X) → AllZip R xs ys → f (find q xs) ≡ f (find q ys)
  zip-find R q f same alike [] [] z = refl
  zip-find R q f same alike [] (y ∷ ys) z = absurd z
  zip-find R q f same alike (x ∷ xs) [] z = absurd z
  zip-find R q f same alike (x ∷ xs) (y ∷ ys) z =
      ap (λ b. f (cond b (Some x) (find q xs))) (same x y z.0) ∙ step (q y) (zip-find R q f same alike xs ys z.1)
    where
      step : (b : Bool) → f (find q xs) ≡ f (find q ys) → f (cond b (Some x) (find q xs)) ≡ f (cond b (Some y) (find q ys))
      step true later = alike x y z.0
      step false later = later
