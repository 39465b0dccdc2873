-- What is said of a journal that was read again, over plain values.
use Rattle.std.proofs.Common.{◌≡◌, ◌≢◌, inl, inr, ℕ, max, true, List, [], Option, Some, None, refl, sym, ◌∙◌, ap, subst, arith}
use Rattle.std.specs.Prelude.{◌⊎◌, Result, Ok, Err, IfOk}
use Rattle.pcp_base.specs.declared.addresses.Address.{Address}
use Rattle.pcp_base.specs.declared.records.Record.{Record}
use Rattle.pcp_base.specs.Apply.{apply_all}
use Rattle.pcp_base.specs.Laws.{SnapshotsStand}
use Rattle.pcp_base.specs.Reached.{IsReached}
use Rattle.pcp_base.specs.Snapshots.{snapshot}
use Rattle.pcp_base.specs.States.{State}
use Rattle.journal_sides.specs.declared.errors.JournalFault.{JournalFault}
use Rattle.journal_sides.specs.declared.errors.JournalFault.TheVariants.{Disk, Memory}
use Rattle.shard_book.specs.declared.standings.Settled.{Settled}
use Rattle.shard_book.specs.declared.standings.Standing.{Standing}
use Rattle.shard_book.specs.declared.standings.Standing.TheVariants.{Clean, In, Out, Fresh}
use Rattle.shard_book.specs.Addresses.{renumber_at, state_anew}
use Rattle.shard_book.specs.Settlings.{BeginsAnew, IsAnew, IsExpected, IsFound, IsOneOf, IsRebuilt, StandingMeans, StandsAs}
use Rattle.shard_book.proofs.StateLemmas.{same_snapshots}

pub map_if_ok : {T E : Type 0} → (r : Result T E) (P Q : T → Type 0) → IfOk r P → ((x : T) → P x → Q x) → IfOk r Q
map_if_ok (Ok x) P Q has gives = gives x has
map_if_ok (Err e) P Q has gives = tt

pub judged_some : (m : ℕ) (configured : Address) (fault : JournalFault) (without with_ texts : List Record) (s : State) (standing : Standing) → texts ≡ snapshot s → IsFound fault without with_ texts (Some standing) → StandsAs m configured fault without with_ s s (record { journal = standing; address = None }) standing
judged_some m configured fault without with_ texts s In same found = (found.0, sym same ∙ found.1, refl, refl)
judged_some m configured fault without with_ texts s Out same found = (λ disk e. found.0 disk (same ∙ e), sym same ∙ found.1, refl, refl)
judged_some m configured fault without with_ texts s Clean same found = found
judged_some m configured fault without with_ texts s (Fresh r) same found = absurd found

pub judged_none : (m : ℕ) (configured : Address) (fault : JournalFault) (without with_ texts : List Record) (s state : State) (settled : Settled) → texts ≡ snapshot s → IsFound fault without with_ texts None → IsRebuilt m configured s state settled → StandsAs m configured fault without with_ s state settled settled.journal
judged_none m configured fault without with_ texts s state settled same found built =
    subst (λ (standing : Standing). StandsAs m configured fault without with_ s state settled standing) (sym built.fresh) (λ disk e. found.0 disk (same ∙ e), λ e. found.1 (same ∙ e), built)

pub not_found : (fault : JournalFault) (without with_ texts found : List Record) → texts ≡ found → IsFound fault without with_ texts None → IsOneOf fault without with_ found → ⊥
not_found fault without with_ texts found same none (inl (disk, e)) = none.0 disk (same ∙ e)
not_found fault without with_ texts found same none (inr e) = none.1 (same ∙ e)

-- a call of which nothing is in doubt but whether it failed for want of memory has no records
pub one_found : (fault : JournalFault) (s found : State) (rs : List Record) → (fault ≢ Disk → rs ≡ []) → (found ≡ s) ⊎ (found ≡ apply_all s rs) → IsOneOf fault (snapshot s) (snapshot (apply_all s rs)) (snapshot found)
one_found fault s found rs sure (inl is) = inr (ap snapshot is)
one_found Disk s found rs sure (inr is) = inl (refl, ap snapshot is)
one_found Memory s found rs sure (inr is) = inr (ap snapshot (is ∙ ap (apply_all s) (sure (λ e. cc))))

pub expected_standing : (m : ℕ) (configured : Address) (fault : JournalFault) (without with_ : List Record) (found state : State) (settled : Settled) (standing : Standing) → IsOneOf fault without with_ (snapshot found) → StandsAs m configured fault without with_ found state settled standing → IsExpected standing
expected_standing m configured fault without with_ found state settled In one stands = tt
expected_standing m configured fault without with_ found state settled Out one stands = tt
expected_standing m configured fault without with_ found state settled Clean one stands = tt
expected_standing m configured fault without with_ found state settled (Fresh r) (inl (disk, e)) stands = stands.0 disk e
expected_standing m configured fault without with_ found state settled (Fresh r) (inr e) stands = stands.1 e

some_same : (f : JournalFault) → ◌≡◌ {A = Option JournalFault} (Some f) (Some Disk) → f ≡ Disk
some_same f e = cc

anew_means : (now m : ℕ) (configured : Address) (fault : JournalFault) (s t found state : State) (settled : Settled) (r : Record) → settled.journal ≡ Fresh r → m ≡ max now t.last → (fault ≡ Disk → snapshot found ≢ snapshot t) → snapshot found ≢ snapshot s → IsRebuilt m configured found state settled
    → IsAnew now configured (record { fault = Some fault; without = s; with_ = t }) state settled.address r
anew_means now m configured fault s t found state settled r is m_is not_in not_out built =
    let same : built.r ≡ r = cc in
    let begins : BeginsAnew m found r = subst (BeginsAnew m found) same built.begins in
    record {
      fault = refl;
      found = found;
      not_in = λ disk e. not_in (some_same fault disk) (ap snapshot e);
      not_out = λ e. not_out (ap snapshot e);
      begins = record { begins = begins.begins; no_sooner = omega (arith, begins.no_sooner, m_is); later = begins.later };
      no_sooner = omega (arith, begins.no_sooner, m_is);
      new = subst (λ (x : Record). state ≡ state_anew x.moment configured) same built.new;
      named = subst (λ (x : Record). settled.address ≡ Some (renumber_at x.moment configured)) same built.named;
    }

pub standing_means : SnapshotsStand → (now m : ℕ) (configured : Address) (fault : JournalFault) (s t found state : State) (settled : Settled) (standing : Standing) → settled.journal ≡ standing → IsReached s → s.started ≡ true → IsReached t → t.started ≡ true → IsReached found → found.started ≡ true → m ≡ max now t.last
    → StandsAs m configured fault (snapshot s) (snapshot t) found state settled standing → StandingMeans now configured (record { fault = Some fault; without = s; with_ = t }) state settled.address standing
standing_means stand now m configured fault s t found state settled In is is_s start_s is_t start_t is_f start_f m_is stands =
    record { fault = ap (λ (f : JournalFault). Some f) stands.0; same = stands.2 ∙ same_snapshots stand found t is_f start_f is_t start_t stands.1; unnamed = stands.3 }
standing_means stand now m configured fault s t found state settled Out is is_s start_s is_t start_t is_f start_f m_is stands =
    record {
      fault = refl;
      not_in = λ disk e. stands.0 (some_same fault disk) (ap snapshot (sym stands.2 ∙ e));
      same = stands.2 ∙ same_snapshots stand found s is_f start_f is_s start_s stands.1;
      unnamed = stands.3;
    }
standing_means stand now m configured fault s t found state settled Clean is is_s start_s is_t start_t is_f start_f m_is stands = absurd stands
standing_means stand now m configured fault s t found state settled (Fresh r) is is_s start_s is_t start_t is_f start_f m_is stands =
    anew_means now m configured fault s t found state settled r is m_is stands.0 stands.1 stands.2
