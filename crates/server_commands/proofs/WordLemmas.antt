-- The words of a command.
use Rattle.std.proofs.Common.{◌≡◌, ◌≢◌, ℕ, List, [], ◌∷◌, length, get_or, map, codes, decimal, Option, Some, None, IfSome, IfNone, refl, sym, ap, ◌∙◌, arith}
use Rattle.std.proofs.lemmas.Fmt.{decimal_injective}
use Rattle.std.specs.Bool.{Decides}
use Rattle.std.specs.Prelude.{Bool, true, false, not}
use Rattle.server_commands.specs.declared.commands.Command.{Command}
use Rattle.server_commands.specs.declared.commands.Command.TheVariants.{Play, Dump, Load}
use Rattle.server_commands.specs.declared.commands.LoadPlan.{LoadPlan}
use Rattle.server_commands.specs.Words.{IsCommand, IsLoadWords, IsMomentText, IsPlanText, IsPlayWords}

-- ---- the words of a list

three : {X : Type 0} (xs : List X) (a b c : X) → length xs ≡ 3 → a ≡ get_or xs 0 a → b ≡ get_or xs 1 b → c ≡ get_or xs 2 c
    → xs ≡ a ∷ b ∷ c ∷ []
three [] a b c n ea eb ec = absurd (omega arith)
three (p ∷ []) a b c n ea eb ec = absurd (omega arith)
three (p ∷ q ∷ []) a b c n ea eb ec = absurd (omega arith)
three (p ∷ q ∷ r ∷ []) a b c n ea eb ec = cc
three (p ∷ q ∷ r ∷ s ∷ ss) a b c n ea eb ec = absurd (omega arith)

five : {X : Type 0} (xs : List X) (a b c d e : X) → length xs ≡ 5 → a ≡ get_or xs 0 a → b ≡ get_or xs 1 b → c ≡ get_or xs 2 c → d ≡ get_or xs 3 d → e ≡ get_or xs 4 e
    → xs ≡ a ∷ b ∷ c ∷ d ∷ e ∷ []
five [] a b c d e n ea eb ec ed ee = absurd (omega arith)
five (p ∷ []) a b c d e n ea eb ec ed ee = absurd (omega arith)
five (p ∷ q ∷ []) a b c d e n ea eb ec ed ee = absurd (omega arith)
five (p ∷ q ∷ r ∷ []) a b c d e n ea eb ec ed ee = absurd (omega arith)
five (p ∷ q ∷ r ∷ s ∷ []) a b c d e n ea eb ec ed ee = absurd (omega arith)
five (p ∷ q ∷ r ∷ s ∷ t ∷ []) a b c d e n ea eb ec ed ee = cc
five (p ∷ q ∷ r ∷ s ∷ t ∷ u ∷ us) a b c d e n ea eb ec ed ee = absurd (omega arith)

six : {X : Type 0} (xs : List X) (a b c d e f : X) → length xs ≡ 6 → a ≡ get_or xs 0 a → b ≡ get_or xs 1 b → c ≡ get_or xs 2 c → d ≡ get_or xs 3 d → e ≡ get_or xs 4 e
    → f ≡ get_or xs 5 f → xs ≡ a ∷ b ∷ c ∷ d ∷ e ∷ f ∷ []
six [] a b c d e f n ea eb ec ed ee ef = absurd (omega arith)
six (p ∷ ps) a b c d e f n ea eb ec ed ee ef = ap (λ rest. p ∷ rest) (five ps b c d e f (omega arith) eb ec ed ee ef) ∙ ap (λ first. first ∷ b ∷ c ∷ d ∷ e ∷ f ∷ []) (sym ea)

-- the texts of three words
pub three-texts : {X : Type 0} (text : X → List ℕ) (xs : List X) (a b c : X) → length xs ≡ 3 → a ≡ get_or xs 0 a → b ≡ get_or xs 1 b → c ≡ get_or xs 2 c
    → map text xs ≡ text a ∷ text b ∷ text c ∷ []
three-texts text xs a b c n ea eb ec = ap (map text) (three xs a b c n ea eb ec)

-- the texts of five words
pub five-texts : {X : Type 0} (text : X → List ℕ) (xs : List X) (a b c d e : X) → length xs ≡ 5 → a ≡ get_or xs 0 a → b ≡ get_or xs 1 b → c ≡ get_or xs 2 c → d ≡ get_or xs 3 d → e ≡ get_or xs 4 e
    → map text xs ≡ text a ∷ text b ∷ text c ∷ text d ∷ text e ∷ []
five-texts text xs a b c d e n ea eb ec ed ee = ap (map text) (five xs a b c d e n ea eb ec ed ee)

-- the texts of six words
pub six-texts : {X : Type 0} (text : X → List ℕ) (xs : List X) (a b c d e f : X) → length xs ≡ 6 → a ≡ get_or xs 0 a → b ≡ get_or xs 1 b → c ≡ get_or xs 2 c → d ≡ get_or xs 3 d → e ≡ get_or xs 4 e
    → f ≡ get_or xs 5 f → map text xs ≡ text a ∷ text b ∷ text c ∷ text d ∷ text e ∷ text f ∷ []
six-texts text xs a b c d e f n ea eb ec ed ee ef = ap (map text) (six xs a b c d e f n ea eb ec ed ee ef)

-- a test that isn't false
pub same_true : {A : Type 0} {b : Bool} → Decides b A → false ≡ not b → A
same_true {b = true} h e = h.0 refl
same_true {b = false} h e = absurd (cc)

-- ---- play

pub play-found : (words : List (List ℕ)) (b c d text : List ℕ) (found : Option ℕ) → IfSome found (IsMomentText text)
    → words ≡ codes "play" ∷ b ∷ c ∷ d ∷ text ∷ [] → b ≢ [] → c ≢ [] → d ≢ [] → IfSome found (IsPlayWords words)
play-found words b c d text None h same hb hc hd = tt
play-found words b c d text (Some n) h same hb hc hd = record {
  config = b;
  script = c;
  journals = d;
  spelled = same ∙ ap (λ last. codes "play" ∷ b ∷ c ∷ d ∷ last ∷ []) h.0;
  filled = (hb, hc, hd);
  start_end = h.1;
}

last_text : (words : List (List ℕ)) (a b c d e : List ℕ) (start : ℕ) → words ≡ a ∷ b ∷ c ∷ d ∷ e ∷ [] → IsPlayWords words start → e ≡ decimal start
last_text words a b c d e start same h = cc (sym same ∙ h.spelled)

pub play-missed : (words : List (List ℕ)) (a b c d text : List ℕ) (found : Option ℕ) → IfNone found ((n : ℕ) → ¬ (IsMomentText text n))
    → words ≡ a ∷ b ∷ c ∷ d ∷ text ∷ [] → IfNone found ((start : ℕ) → ¬ (IsPlayWords words start))
play-missed words a b c d text None h same = λ start k. h start (last_text words a b c d text start same k, k.start_end)
play-missed words a b c d text (Some n) h same = tt

-- ---- load

pub load-found : (words : List (List ℕ)) (b c s n k : List ℕ) (found : Option LoadPlan) → IfSome found (IsPlanText s n k)
    → words ≡ codes "load" ∷ b ∷ c ∷ s ∷ n ∷ k ∷ [] → b ≢ [] → c ≢ [] → IfSome found (IsLoadWords words)
load-found words b c s n k None h same hb hc = tt
load-found words b c s n k (Some plan) h same hb hc = record {
  config = b;
  journals = c;
  start = s;
  number = n;
  count = k;
  spelled = same;
  filled = (hb, hc);
  numbers = h;
}

plan_texts : (words : List (List ℕ)) (a b c s n k : List ℕ) (plan : LoadPlan) → words ≡ a ∷ b ∷ c ∷ s ∷ n ∷ k ∷ [] → IsLoadWords words plan → IsPlanText s n k plan
plan_texts words a b c s n k plan same h =
    let starts : h.start ≡ s = cc (sym same ∙ h.spelled) in
    let numbers : h.number ≡ n = cc (sym same ∙ h.spelled) in
    let counts : h.count ≡ k = cc (sym same ∙ h.spelled) in
    let found = h.numbers in
    rw (starts, numbers, counts) at found

pub load-missed : (words : List (List ℕ)) (a b c s n k : List ℕ) (found : Option LoadPlan) → IfNone found ((plan : LoadPlan) → ¬ (IsPlanText s n k plan))
    → words ≡ a ∷ b ∷ c ∷ s ∷ n ∷ k ∷ [] → IfNone found ((plan : LoadPlan) → ¬ (IsLoadWords words plan))
load-missed words a b c s n k None h same = λ plan is. h plan (plan_texts words a b c s n k plan same is)
load-missed words a b c s n k (Some plan) h same = tt

-- ---- which command

plays_once : (words : List (List ℕ)) (m n : ℕ) → IsPlayWords words m → IsPlayWords words n → m ≡ n
plays_once words m n h k =
    let same : decimal m ≡ decimal n = cc (sym h.spelled ∙ k.spelled) in
    decimal_injective m n (omega (arith, h.start_end)) (omega (arith, k.start_end)) same

abbrev plan_of : ℕ → ℕ → ℕ → LoadPlan
plan_of s n k = record { start = s; number = n; count = k }

same_plan : (p q : LoadPlan) → p.start ≡ q.start → p.number ≡ q.number → p.count ≡ q.count → p ≡ q
same_plan p q starts numbers counts =
    ap (λ s. plan_of s p.number p.count) starts ∙ ap (λ n. plan_of q.start n p.count) numbers ∙ ap (λ k. plan_of q.start q.number k) counts

loads_once : (words : List (List ℕ)) (p q : LoadPlan) → IsLoadWords words p → IsLoadWords words q → p ≡ q
loads_once words p q h k =
    let starts : h.start ≡ k.start = cc (sym h.spelled ∙ k.spelled) in
    let numbers : h.number ≡ k.number = cc (sym h.spelled ∙ k.spelled) in
    let counts : h.count ≡ k.count = cc (sym h.spelled ∙ k.spelled) in
    let is = h.numbers in
    let so = k.numbers in
    same_plan p q
    (decimal_injective p.start q.start (omega (arith, is.start_is.1)) (omega (arith, so.start_is.1)) (sym is.start_is.0 ∙ starts ∙ so.start_is.0))
    (decimal_injective p.number q.number is.number_is.1 so.number_is.1 (sym is.number_is.0 ∙ numbers ∙ so.number_is.0))
    (decimal_injective p.count q.count (omega (arith, is.count_is.1)) (omega (arith, so.count_is.1)) (sym is.count_is.0 ∙ counts ∙ so.count_is.0))

pub command_once : (words : List (List ℕ)) (c d : Command) → IsCommand words c → IsCommand words d → c ≡ d
command_once words (Play m) (Play n) h k = ap Play (plays_once words m n h k)
command_once words Dump Dump h k = refl
command_once words (Load p) (Load q) h k = ap Load (loads_once words p q h k)
command_once words (Play m) Dump h k = absurd (cc (sym h.spelled ∙ k.spelled))
command_once words (Play m) (Load q) h k = absurd (cc (sym h.spelled ∙ k.spelled))
command_once words Dump (Play n) h k = absurd (cc (sym h.spelled ∙ k.spelled))
command_once words Dump (Load q) h k = absurd (cc (sym h.spelled ∙ k.spelled))
command_once words (Load p) (Play n) h k = absurd (cc (sym h.spelled ∙ k.spelled))
command_once words (Load p) Dump h k = absurd (cc (sym h.spelled ∙ k.spelled))
