-- What a value tells is one thing.
use Rattle.std.proofs.Common.{◌≡◌, List, [], ◌∷◌, ℕ, Some, None, pos, inl, inr, refl, sym, subst, ◌∙◌, ap}
use Rattle.std.specs.List.{AllZip}
use Rattle.std.proofs.lemmas.Option.{same_Some}
use Rattle.toml.specs.Data.{Data, integer, as_str, as_table, as_array, Members}
use Rattle.pcp_config.specs.TomlValues.{TellsAt, TellsOr, IsNumberIn, IsTextOf, IsTableOf, IsListOf, list_of}

-- R and S tell the same of one value
abbrev pub Agree : {A : Type 0} → (Data → A → Type 0) → (Data → A → Type 0) → Type 0
Agree {A = A} R S = (d : Data) (x y : A) → R d x → S d y → x ≡ y

pub TellsAt-unique : {A : Type 0} (members : Members) (key : List ℕ) (R S : Data → A → Type 0) → Agree R S → (x y : A)
    → TellsAt members key R x → TellsAt members key S y → x ≡ y
TellsAt-unique _ key R S agree x y (d, at, h) (e, at', k) =
    let same : d ≡ e = same_Some _ _ (sym at ∙ at') in
    agree e x y (subst (λ t. R t x) same h) k

pub TellsOr-unique : {A : Type 0} (members : Members) (key : List ℕ) (default : A) (R S : Data → A → Type 0) → Agree R S → (x y : A)
    → TellsOr members key default R x → TellsOr members key default S y → x ≡ y
TellsOr-unique _ key default R S agree x y (inl h) (inl k) = h.1 ∙ sym k.1
TellsOr-unique _ key default R S agree x y (inl h) (inr k) = let bad : None ≡ Some k.0 = sym h.0 ∙ k.1 in absurd (cc)
TellsOr-unique _ key default R S agree x y (inr h) (inl k) = let bad : None ≡ Some h.0 = sym k.0 ∙ h.1 in absurd (cc)
TellsOr-unique _ key default R S agree x y (inr h) (inr k) = TellsAt-unique _ key R S agree x y h k

pub IsNumberIn-unique : (low high low' high' : ℕ) → Agree (IsNumberIn low high) (IsNumberIn low' high')
IsNumberIn-unique low high low' high' d x y h k = let same : integer (pos x) ≡ integer (pos y) = sym h.0 ∙ k.0 in cc

pub IsTextOf-unique : {A : Type 0} (W : List ℕ → A → Type 0) → ((text : List ℕ) (x y : A) → W text x → W text y → x ≡ y)
    → Agree (IsTextOf W) (IsTextOf W)
IsTextOf-unique W unique d x y (text, is, h) (text', is', k) =
    let same : text ≡ text' = same_Some _ _ (ap as_str (sym is ∙ is')) in
    unique text' x y (subst (λ t. W t x) same h) k

pub IsTableOf-unique : {A : Type 0} (R S : Members → A → Type 0) → ((members : Members) (x y : A) → R members x → S members y → x ≡ y)
    → Agree (IsTableOf R) (IsTableOf S)
IsTableOf-unique R S unique d x y (members, is, h) (members', is', k) =
    let same : members ≡ members' = same_Some _ _ (ap as_table (sym is ∙ is')) in
    unique members' x y (subst (λ t. R t x) same h) k

AllZip-unique : {A : Type 0} (R S : Data → A → Type 0) → Agree R S → (ds : List Data) (xs ys : List A) → AllZip R ds xs → AllZip S ds ys → xs ≡ ys
AllZip-unique R S agree [] [] [] h k = refl
AllZip-unique R S agree [] [] (y ∷ ys) h k = absurd k
AllZip-unique R S agree [] (x ∷ xs) ys h k = absurd h
AllZip-unique R S agree (d ∷ ds) [] ys h k = absurd h
AllZip-unique R S agree (d ∷ ds) (x ∷ xs) [] h k = absurd k
AllZip-unique R S agree (d ∷ ds) (x ∷ xs) (y ∷ ys) h k =
    let first : x ≡ y = agree d x y h.0 k.0 in
    let rest : xs ≡ ys = AllZip-unique R S agree ds xs ys h.1 k.1 in cc

pub IsListOf-unique : {A : Type 0} (R S : Data → A → Type 0) → Agree R S → Agree (IsListOf R) (IsListOf S)
IsListOf-unique R S agree d xs ys (items, is, h) (items', is', k) =
    let same : items ≡ items' = same_Some _ _ (ap as_array (sym is ∙ is')) in
    AllZip-unique R S agree (list_of items') xs ys (subst (λ t. AllZip R (list_of t) xs) same h) k
