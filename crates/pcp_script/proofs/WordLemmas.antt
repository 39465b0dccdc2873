-- A text has its fields in one way alone.
use Rattle.std.proofs.Common.{◌≡◌, ◌≢◌, ℕ, List, [], ◌∷◌, ◌++◌, map, flat_map, refl, sym, ap, subst, ◌∙◌, append_assoc, append-nil}
use Rattle.std.specs.List.{AllByRecursion}
use Rattle.pcp_base.proofs.Members.{All-push}
use Rattle.pcp_script.specs.Words.{IsWord, AreFields, spaced}

-- fields with a space behind each
abbrev pub before : List (List ℕ) → List ℕ
before fields = flat_map (λ f. f ++ 32 ∷ []) fields

before-push : (fields : List (List ℕ)) (field : List ℕ) → before (fields ++ field ∷ []) ≡ before fields ++ (field ++ 32 ∷ [])
before-push [] field = append-nil (field ++ 32 ∷ [])
before-push (f ∷ fields) field = ap (λ rest. (f ++ 32 ∷ []) ++ rest) (before-push fields field) ∙ sym (append_assoc (f ++ 32 ∷ []) (before fields) (field ++ 32 ∷ []))

-- what was parted so far
pub record IsParted (text rest : List ℕ) (fields : List (List ℕ)) : Type 0 where
  pub spelled : text ≡ before fields ++ rest
  pub words : AllByRecursion IsWord fields

pub parted-none : (text : List ℕ) → IsParted text text []
parted-none text = record { spelled = refl; words = tt }

pub parted-one : (text rest front behind : List ℕ) (fields : List (List ℕ)) → IsParted text rest fields → rest ≡ front ++ 32 ∷ behind → IsWord front
    → IsParted text behind (fields ++ front ∷ [])
parted-one text rest front behind fields h e word = record {
  spelled =
      h.spelled ∙ ap (λ r. before fields ++ r) (e ∙ sym (append_assoc front (32 ∷ []) behind))
      ∙ sym (append_assoc (before fields) (front ++ 32 ∷ []) behind) ∙ ap (λ r. r ++ behind) (sym (before-push fields front));
  words = All-push IsWord fields front h.words word;
}

-- the fields that have a space behind them, and the last one
before-last : (fields : List (List ℕ)) (last : List ℕ) → before fields ++ last ≡ spaced (fields ++ last ∷ [])
before-last [] last = sym (append-nil last)
before-last (f ∷ []) last =
    ap (λ r. r ++ last) (append-nil (f ++ 32 ∷ [])) ∙ append_assoc f (32 ∷ []) last ∙ ap (λ r. f ++ 32 ∷ r) (sym (append-nil last))
before-last (f ∷ g ∷ fields) last =
    append_assoc (f ++ 32 ∷ []) (before (g ∷ fields)) last ∙ ap (λ r. (f ++ 32 ∷ []) ++ r) (before-last (g ∷ fields) last)
    ∙ append_assoc f (32 ∷ []) (spaced (g ∷ fields ++ last ∷ []))

pushed-some : (fields : List (List ℕ)) (last : List ℕ) → fields ++ last ∷ [] ≢ []
pushed-some [] last e = absurd (cc)
pushed-some (f ∷ fields) last e = absurd (cc)

pub parted-whole : (text rest : List ℕ) (fields : List (List ℕ)) → IsParted text rest fields → IsWord rest → AreFields text (fields ++ rest ∷ [])
parted-whole text rest fields h word = record {
  spelled = h.spelled ∙ before-last fields rest;
  words = All-push IsWord fields rest h.words word;
  some = pushed-some fields rest;
}

-- two spellings as octets without a space, a space and a rest are one
split-unique : (xs ys r s : List ℕ) → IsWord xs → IsWord ys → xs ++ 32 ∷ r ≡ ys ++ 32 ∷ s → (xs ≡ ys) × (r ≡ s)
split-unique [] [] r s h k e = (refl, let same : 32 ∷ r ≡ 32 ∷ s = e in cc)
split-unique [] (y ∷ ys) r s h k e = absurd (k.0 (let same : 32 ∷ r ≡ y ∷ (ys ++ 32 ∷ s) = e in cc))
split-unique (x ∷ xs) [] r s h k e = absurd (h.0 (let same : x ∷ (xs ++ 32 ∷ r) ≡ 32 ∷ s = e in cc))
split-unique (x ∷ xs) (y ∷ ys) r s h k e =
    let same : x ∷ (xs ++ 32 ∷ r) ≡ y ∷ (ys ++ 32 ∷ s) = e in
    let tail : xs ++ 32 ∷ r ≡ ys ++ 32 ∷ s = cc in
    let t = split-unique xs ys r s h.1 k.1 tail in
    (let first : x ≡ y = cc in cc, t.1)

has-space : (xs r : List ℕ) → ¬ (IsWord (xs ++ 32 ∷ r))
has-space [] r h = h.0 refl
has-space (x ∷ xs) r h = has-space xs r h.1

not-word : (text xs r : List ℕ) → IsWord text → ¬ (text ≡ xs ++ 32 ∷ r)
not-word text xs r h e = has-space xs r (subst IsWord e h)

same-spaced : (x y : List ℕ) (xs ys : List (List ℕ)) → IsWord x → AllByRecursion IsWord xs → IsWord y → AllByRecursion IsWord ys
    → spaced (x ∷ xs) ≡ spaced (y ∷ ys) → x ∷ xs ≡ y ∷ ys
same-spaced x y [] [] hx hxs hy hys e = ap (λ f. f ∷ []) (sym (append-nil x) ∙ e ∙ append-nil y)
same-spaced x y [] (g ∷ ys) hx hxs hy hys e = absurd (not-word x y (spaced (g ∷ ys)) hx (sym (append-nil x) ∙ e))
same-spaced x y (f ∷ xs) [] hx hxs hy hys e = absurd (not-word y x (spaced (f ∷ xs)) hy (sym (append-nil y) ∙ sym e))
same-spaced x y (f ∷ xs) (g ∷ ys) hx hxs hy hys e =
    let split = split-unique x y (spaced (f ∷ xs)) (spaced (g ∷ ys)) hx hy e in
    let first : x ≡ y = split.0 in
    let rest : f ∷ xs ≡ g ∷ ys = same-spaced f g xs ys hxs.0 hxs.1 hys.0 hys.1 split.1 in
    cc

-- the fields of a text are these
pub fields-unique : (text : List ℕ) (xs ys : List (List ℕ)) → AreFields text xs → text ≡ spaced ys → AllByRecursion IsWord ys → ys ≢ [] → ys ≡ xs
fields-unique text [] ys h e words some = absurd (h.some refl)
fields-unique text (x ∷ xs) [] h e words some = absurd (some refl)
fields-unique text (x ∷ xs) (y ∷ ys) h e words some = same-spaced y x ys xs words.0 words.1 h.words.0 h.words.1 (sym e ∙ h.spelled)

map-push : {X : Type 0} (now : X → List ℕ) (xs : List X) (x : X) → map now (xs ++ x ∷ []) ≡ map now xs ++ now x ∷ []
map-push now [] x = refl
map-push now (y ∷ xs) x = ap (λ rest. now y ∷ rest) (map-push now xs x)

-- with the last field
pub parted-last : {X : Type 0} (now : X → List ℕ) (text : List ℕ) (xs ys : List X) (x : X) → ys ≡ xs ++ x ∷ [] → IsParted text (now x) (map now xs) → IsWord (now x)
    → AreFields text (map now ys)
parted-last now text xs ys x e h word =
    subst (λ (fields : List (List ℕ)). AreFields text fields) (sym (ap (map now) e ∙ map-push now xs x)) (parted-whole text (now x) (map now xs) h word)

-- with one more
pub parted-more : {X : Type 0} (now : X → List ℕ) (text rest behind : List ℕ) (xs ys : List X) (x : X) → ys ≡ xs ++ x ∷ [] → IsParted text rest (map now xs)
    → rest ≡ now x ++ 32 ∷ behind → IsWord (now x) → IsParted text behind (map now ys)
parted-more now text rest behind xs ys x e h split word =
    subst (λ (fields : List (List ℕ)). IsParted text behind fields) (sym (ap (map now) e ∙ map-push now xs x)) (parted-one text rest (now x) behind (map now xs) h split word)
