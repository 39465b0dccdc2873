-- What a value tells, by what its accessors give.
use Rattle.std.proofs.Common.{◌≡◌, List, [], ◌∷◌, map, ℕ, Bool, true, false, IsTrue, Option, Some, None, IfNone, refl, sym, subst, ◌∙◌, ap}
use Rattle.std.specs.List.{list_any}
use Rattle.std.proofs.lemmas.Option.{same_Some}
use Rattle.toml.specs.Data.{Data, Members, as_str, get_member}
use Rattle.pcp_config.specs.TomlValues.{IsTextOf, TellsAt}

-- the text of a string writes nothing
pub untold_text : {A : Type 0} (Writes : List ℕ → A → Type 0) (d : Data) (text : List ℕ) → Some text ≡ as_str d
    → ((x : A) → ¬ (Writes text x)) → (x : A) → ¬ (IsTextOf Writes d x)
untold_text Writes d text seen none x (other, is, writes) =
    let same : text ≡ other = same_Some _ _ (seen ∙ ap as_str is) in
    none x (subst (λ t. Writes t x) (sym same) writes)

pub list_any-map : {X Y : Type 0} (p : X → Bool) (h : Y → X) (ys : List Y) → list_any p (map h ys) ≡ list_any (λ y. p (h y)) ys
list_any-map p h [] = refl
list_any-map p h (y ∷ ys) = rw (list_any-map p h ys) refl

pub none_weaker : {A : Type 0} {P Q : Type 0} (o : Option A) → (P → Q) → IfNone o P → IfNone o Q
none_weaker None f h = f h
none_weaker (Some x) f h = tt

-- a value that tells nothing, under a key
pub untold_at : {A : Type 0} (members : Members) (key : List ℕ) (Tells : Data → A → Type 0) (d : Data) → Some d ≡ get_member key members
    → ((x : A) → ¬ (Tells d x)) → (x : A) → ¬ (TellsAt members key Tells x)
untold_at _ key Tells d seen none x (other, at, tells) =
    let same : d ≡ other = same_Some _ _ (seen ∙ at) in
    none x (subst (λ t. Tells t x) (sym same) tells)

pub untrue : (b : Bool) → IsTrue b → b ≡ false → ⊥
untrue b h f = let bad : true ≡ false = sym h ∙ f in absurd (cc)
