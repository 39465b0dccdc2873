-- The words of orders.
use Rattle.std.proofs.Common.{◌≡◌, ◌≢◌, ℕ, List, [], ◌∷◌, length, get_or, map, codes, Option, Some, None, IfSome, IfNone, refl, sym, ap, ◌∙◌, arith}
use Rattle.std.specs.Bool.{Decides}
use Rattle.std.specs.Prelude.{Bool, true, false, not}
use Rattle.pcp_base.specs.AddressTexts.{IsAddressText}
use Rattle.pcp_base.specs.declared.addresses.Address.{Address}
use Rattle.order_commands.specs.OrderWords.{IsLoseWords, IsOrderWords, IsPlainWords}
use Rattle.order_commands.specs.declared.commands.OrderPlan.{OrderPlan}
use Rattle.order_commands.specs.declared.commands.OrderPlan.TheVariants.{Stop, Lose, Status}

two : {X : Type 0} (xs : List X) (a b : X) → length xs ≡ 2 → a ≡ get_or xs 0 a → b ≡ get_or xs 1 b → xs ≡ a ∷ b ∷ []
two [] a b n ea eb = absurd (omega arith)
two (p ∷ []) a b n ea eb = absurd (omega arith)
two (p ∷ q ∷ []) a b n ea eb = cc
two (p ∷ q ∷ r ∷ rs) a b n ea eb = absurd (omega arith)

-- the texts of two words
pub two-texts : {X : Type 0} (text : X → List ℕ) (xs : List X) (a b : X) → length xs ≡ 2 → a ≡ get_or xs 0 a → b ≡ get_or xs 1 b → map text xs ≡ text a ∷ text b ∷ []
two-texts text xs a b n ea eb = ap (map text) (two xs a b n ea eb)

three : {X : Type 0} (xs : List X) (a b c : X) → length xs ≡ 3 → a ≡ get_or xs 0 a → b ≡ get_or xs 1 b → c ≡ get_or xs 2 c → xs ≡ a ∷ b ∷ c ∷ []
three [] a b c n ea eb ec = absurd (omega arith)
three (p ∷ ps) a b c n ea eb ec = ap (λ rest. p ∷ rest) (two ps b c (omega arith) eb ec) ∙ ap (λ first. first ∷ b ∷ c ∷ []) (sym ea)

-- the texts of three words
pub three-texts : {X : Type 0} (text : X → List ℕ) (xs : List X) (a b c : X) → length xs ≡ 3 → a ≡ get_or xs 0 a → b ≡ get_or xs 1 b → c ≡ get_or xs 2 c
    → map text xs ≡ text a ∷ text b ∷ text c ∷ []
three-texts text xs a b c n ea eb ec = ap (map text) (three xs a b c n ea eb ec)

-- a test that isn't false, and one that is
pub same_true : {A : Type 0} {b : Bool} → Decides b A → false ≡ not b → A
same_true {b = true} h e = h.0 refl
same_true {b = false} h e = absurd (cc)

pub same_false : {A : Type 0} {b : Bool} → Decides b A → true ≡ not b → ¬ A
same_false {b = true} h e = absurd (cc)
same_false {b = false} h e = λ a. absurd (cc (h.1 a))

-- ---- stop, status

pub other_command : (words : List (List ℕ)) (command first journals : List ℕ) → words ≡ first ∷ journals ∷ [] → ¬ (first ≡ command) → ¬ (IsPlainWords command words)
other_command words command first journals same other h = other (cc (sym same ∙ h.spelled))

no_octets : (xs : List ℕ) → length xs ≡ 0 → xs ≡ []
no_octets [] e = refl
no_octets (x ∷ xs) e = absurd (omega arith)

pub no_folder : (words : List (List ℕ)) (command first journals : List ℕ) → words ≡ first ∷ journals ∷ [] → length journals ≡ 0 → ¬ (IsPlainWords command words)
no_folder words command first journals same none h =
    let is : h.journals ≡ journals = cc (sym same ∙ h.spelled) in
    h.filled (is ∙ no_octets journals none)

-- ---- lose

pub lose-found : (words : List (List ℕ)) (b text : List ℕ) (found : Option Address) → IfSome found (IsAddressText text)
    → words ≡ codes "lose" ∷ b ∷ text ∷ [] → b ≢ [] → IfSome found (IsLoseWords words)
lose-found words b text None h same hb = tt
lose-found words b text (Some a) h same hb = record { journals = b; text = text; spelled = same; filled = hb; address_is = h }

address_in : (words : List (List ℕ)) (a b text : List ℕ) (address : Address) → words ≡ a ∷ b ∷ text ∷ [] → IsLoseWords words address → IsAddressText text address
address_in words a b text address same h =
    let texts : h.text ≡ text = cc (sym same ∙ h.spelled) in
    let found = h.address_is in
    rw texts at found

pub lose-missed : (words : List (List ℕ)) (a b text : List ℕ) (found : Option Address) → IfNone found ((address : Address) → ¬ (IsAddressText text address))
    → words ≡ a ∷ b ∷ text ∷ [] → IfNone found ((address : Address) → ¬ (IsLoseWords words address))
lose-missed words a b text None h same = λ address k. h address (address_in words a b text address same k)
lose-missed words a b text (Some address) h same = tt

pub lose-once : (words : List (List ℕ)) (a b text : List ℕ) (found : Option Address) → IfSome found (λ x. (y : Address) → IsAddressText text y → y ≡ x)
    → words ≡ a ∷ b ∷ text ∷ [] → IfSome found (λ x. (y : Address) → IsLoseWords words y → y ≡ x)
lose-once words a b text None h same = tt
lose-once words a b text (Some x) h same = λ y k. h y (address_in words a b text y same k)

-- ---- which order

pub lose-only : (words : List (List ℕ)) (address : Address) → IsLoseWords words address → ((b : Address) → IsLoseWords words b → b ≡ address)
    → (plan : OrderPlan) → IsOrderWords words plan → Lose address ≡ plan
lose-only words address is once Stop k = absurd (cc (sym is.spelled ∙ k.spelled))
lose-only words address is once Status k = absurd (cc (sym is.spelled ∙ k.spelled))
lose-only words address is once (Lose b) k = ap Lose (sym (once b k))
