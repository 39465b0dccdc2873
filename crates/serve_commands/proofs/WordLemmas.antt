-- The words of a `serve`.
use Rattle.std.proofs.Common.{◌≡◌, ◌≢◌, ℕ, ◌≤◌, List, [], ◌∷◌, codes, Option, Some, None, IfSome, IfNone, refl, sym, ap, ◌∙◌, arith}
use Rattle.std.proofs.lemmas.Fmt.{decimal_injective}
use Rattle.serve_commands.specs.declared.commands.ServePlan.{ServePlan}
use Rattle.serve_commands.specs.Words.{ArePortTexts, IsPortText, IsServeWords}

pub serve-found : (words : List (List ℕ)) (config journals port lane : List ℕ)
    (found : Option ServePlan) → IfSome found (ArePortTexts port lane)
    → words ≡ codes "serve" ∷ config ∷ journals ∷ port ∷ lane ∷ []
    → config ≢ [] → journals ≢ [] → IfSome found (IsServeWords words)
serve-found words config journals port lane None h same hc hj = tt
serve-found words config journals port lane (Some plan) h same hc hj = record {
  config = config;
  journals = journals;
  port = port;
  lane_port = lane;
  spelled = same;
  filled = (hc, hj);
  ports = h;
}

abbrev plan_of : ℕ → ℕ → ServePlan
plan_of port lane = record { port = port; lane_port = lane }

same_plan : (p q : ServePlan) → p.port ≡ q.port → p.lane_port ≡ q.lane_port → p ≡ q
same_plan p q ports lanes =
    ap (λ n. plan_of n p.lane_port) ports ∙ ap (λ n. plan_of q.port n) lanes

port_once : (last : ℕ) (text same : List ℕ) (m n : ℕ) → last ≤ 65535 → IsPortText last text m
    → IsPortText last same n → text ≡ same → m ≡ n
port_once last text same m n few h k e =
    decimal_injective m n (omega (arith, h.2, few)) (omega (arith, k.2, few))
    (sym h.0 ∙ e ∙ k.0)

plan_once : (port lane : List ℕ) (p q : ServePlan) → ArePortTexts port lane p
    → ArePortTexts port lane q → p ≡ q
plan_once port lane p q h k = same_plan p q
    (port_once _ _ _ _ _ (omega arith) h.port_is k.port_is refl)
    (port_once _ _ _ _ _ (omega arith) h.lane_port_is k.lane_port_is refl)

texts_of : (words : List (List ℕ)) (a b c port lane : List ℕ) (plan : ServePlan)
    → words ≡ a ∷ b ∷ c ∷ port ∷ lane ∷ [] → IsServeWords words plan → ArePortTexts port lane plan
texts_of words a b c port lane plan same h =
    let ports : h.port ≡ port = cc (sym same ∙ h.spelled) in
    let lanes : h.lane_port ≡ lane = cc (sym same ∙ h.spelled) in
    let found = h.ports in
    rw (ports, lanes) at found

-- no other plan is the words'
pub serve-only : (words : List (List ℕ)) (a b c port lane : List ℕ) (found : Option ServePlan)
    → words ≡ a ∷ b ∷ c ∷ port ∷ lane ∷ [] → IfSome found (ArePortTexts port lane)
    → IfNone found ((plan : ServePlan) → ¬ (ArePortTexts port lane plan))
    → (plan : ServePlan) → IsServeWords words plan → found ≡ Some plan
serve-only words a b c port lane None same some none plan is =
    absurd (none plan (texts_of words a b c port lane plan same is))
serve-only words a b c port lane (Some p) same some none plan is =
    ap Some (plan_once port lane p plan some (texts_of words a b c port lane plan same is))
