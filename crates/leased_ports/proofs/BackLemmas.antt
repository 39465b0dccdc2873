-- Whether suggested ports go back to their endpoints, by last ends.
use Rattle.std.specs.Prelude.{◌⊎◌, ◌↔◌}
use Rattle.std.proofs.Common.{◌≡◌, ℕ, ◌&&◌, ◌==◌, Bool, true, false, List, Option, Some, None, IfSome, IsTrue, is_none, refl, sym, ap, ◌∙◌, inr}
use Rattle.std.specs.Bool.{OnTrue, OnFalse}
use Rattle.std.proofs.lemmas.Bool.{and_parts, and_from, eqb-true, eq-eqb}
use Rattle.pcp_base.specs.declared.addresses.Address.{Address}
use Rattle.pcp_base.specs.declared.leases.Protocol.{Protocol}
use Rattle.pcp_base.specs.declared.leases.End.{End}
use Rattle.external_pool.specs.declared.uses.Use.{Use}
use Rattle.external_pool.specs.PortUses.{is_in_range, is_free_to, is_open}
use Rattle.port_spans.specs.declared.runs.Run.{Run}
use Rattle.leased_ports.specs.Kept.{end_by, use_by}
use Rattle.leased_ports.specs.Plain.{uses_by}
use Rattle.leased_ports.proofs.PlainLemmas.{each-at}

module _ (low high m : ℕ) (runs : List (Run End)) (p : Protocol) (who : Address) (internal port : ℕ) where
  abbrev opened : Bool
  opened = is_open (uses_by low high m runs p) who internal port

  abbrev free : Bool
  free = is_free_to who internal (use_by m (end_by runs p port))

  open-now : opened ≡ (is_in_range low high port && free)
  open-now = ap (λ (u : Use). is_in_range low high port && is_free_to who internal u) (each-at m runs p port)

  pub open-out : is_in_range low high port ≡ false → false ≡ opened
  open-out out = sym (open-now ∙ ap (λ (t : Bool). t && free) out)

  pub open-in : is_in_range low high port ≡ true → free ≡ opened
  open-in within = sym (open-now ∙ ap (λ (t : Bool). t && free) within)

pub back-told : (t : Bool) (X : Type 0) → IsTrue t ↔ X → OnTrue t X
back-told true X h = h.0 refl
back-told false X h = tt

pub back-not : (t : Bool) (X Y : Type 0) → IsTrue t ↔ X → OnFalse t (Y ⊎ (¬ X))
back-not true X Y h = tt
back-not false X Y h = inr (λ x. absurd (let no : false ≡ true = h.1 x in cc))

no_parity : (o : Option ℕ) → is_none o ≡ true → o ≡ None
no_parity None h = refl
no_parity (Some k) h = absurd (let no : false ≡ true = h in cc)

-- what is asked for is one port of any parity, or it isn't
pub plain-parts : (room : ℕ) (parity : Option ℕ) → (room == 1 && is_none parity) ≡ true → (room ≡ 1) × (parity ≡ None)
plain-parts room parity h = let both = and_parts (room == 1) (is_none parity) h in (eqb-true room 1 both.0, no_parity parity both.1)

pub plain-from : (room : ℕ) (parity : Option ℕ) → room ≡ 1 → parity ≡ None → (room == 1 && is_none parity) ≡ true
plain-from room parity one none = and_from (room == 1) (is_none parity) (eq-eqb room 1 one) (ap is_none none)

pub some-always : {X : Type 0} (o : Option X) (P : X → Type 0) → ((x : X) → P x) → IfSome o P
some-always None P h = tt
some-always (Some x) P h = h x
