-- One call after another.
use Rattle.std.proofs.Common.{◌≡◌, Option, Some, None, refl, subst, ◌∙◌, ap}
use Rattle.std.specs.Prelude.{Result, Ok, Err, OnOk, IfOk, IfErr, ℕ}
use Rattle.pcp_base.specs.declared.addresses.Address.{Address}
use Rattle.pcp_base.specs.declared.records.Record.{Record}
use Rattle.pcp_base.specs.States.{State}
use Rattle.journal_sides.specs.declared.errors.JournalFault.{JournalFault}
use Rattle.shard_book.specs.declared.standings.Standing.{Standing}
use Rattle.shard_book.specs.declared.standings.Standing.TheVariants.{Clean, In, Out, Fresh}
use Rattle.shard_book.specs.Settlings.{Refused, StandingMeans}

pub if_ok_with : {T E : Type 0} → (r : Result T E) (P : T → Type 0) (A B : Type 0) (Q : T → Type 0) → IfOk r P → OnOk r A → OnOk r B → ((x : T) → P x → A → B → Q x) → IfOk r Q
if_ok_with (Ok x) P A B Q has a b gives = gives x has a b
if_ok_with (Err e) P A B Q has a b gives = tt

pub map_if_err : {T E : Type 0} → (r : Result T E) (P Q : E → Type 0) → IfErr r P → ((e : E) → P e → Q e) → IfErr r Q
map_if_err (Ok x) P Q has gives = tt
map_if_err (Err e) P Q has gives = gives e has

-- the state that a settling leaves names the address that both states named
pub means_address : (m : ℕ) (configured : Address) (refused : Refused) (state : State) (told : Option Record) (standing : Standing) → refused.without.address ≡ Some configured → refused.with_.address ≡ Some configured → StandingMeans m configured refused state told standing → state.address ≡ Some configured
means_address m configured refused state told Clean out in_ is = ap (λ (u : State). u.address) is.same ∙ out
means_address m configured refused state told In out in_ is = ap (λ (u : State). u.address) is.same ∙ in_
means_address m configured refused state told Out out in_ is = ap (λ (u : State). u.address) is.same ∙ out
means_address m configured refused state told (Fresh r) out in_ is = ap (λ (u : State). u.address) is.new

-- the same at equal moments, addresses, faults and states
pub means_same : (m n : ℕ) (a b : Address) (f h : Option JournalFault) (without with_ s t : State) (told : Option Record) (standing : Standing) → m ≡ n → a ≡ b → f ≡ h → s ≡ t → StandingMeans m a (record { fault = f; without = without; with_ = with_ }) s told standing → StandingMeans n b (record { fault = h; without = without; with_ = with_ }) t told standing
means_same m n a b f h without with_ s t told standing m_is a_is f_is s_is is =
    subst (λ (x : ℕ). StandingMeans x b (record { fault = h; without = without; with_ = with_ }) t told standing) m_is
    (subst (λ (x : Address). StandingMeans m x (record { fault = h; without = without; with_ = with_ }) t told standing) a_is
    (subst (λ (x : Option JournalFault). StandingMeans m a (record { fault = x; without = without; with_ = with_ }) t told standing) f_is
    (subst (λ (x : State). StandingMeans m a (record { fault = f; without = without; with_ = with_ }) x told standing) s_is is)))

pub none_if : {A : Type 0} → (o : Option A) → ((x : A) → o ≡ Some x → ⊥) → o ≡ None
none_if None not_some = refl
none_if (Some x) not_some = absurd (not_some x refl)
