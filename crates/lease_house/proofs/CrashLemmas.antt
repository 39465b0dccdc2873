-- What a book opens with, by what its sides stand for.
use Rattle.std.proofs.Common.{◌≡◌, ◌∙◌, ◌⊎◌, inl, inr, ℕ, max, List, ap, arith}
use Rattle.pcp_base.specs.Apply.{apply, apply_all}
use Rattle.pcp_base.specs.States.{State}
use Rattle.journal_sides.specs.Journals.{IsBlank, IsDamaged, StandsFor, fresh_state}
use Rattle.journal_sides.specs.Laws.{OneState, RecoveredAlone}
use Rattle.lease_journal.specs.Openings.{FoundMeans}
use Rattle.lease_journal.specs.declared.errors.Found.{Found}
use Rattle.lease_journal.specs.declared.errors.Found.TheVariants.{Recovered, Blank, Damaged}
use Rattle.shard_book.specs.Addresses.{renumber_at, renumbering}
use Rattle.lease_house.specs.CrashLaws.{CrashesAreFound, OthersBeginAnew}

-- sides that stand for a state are found with it
found-is : OneState → RecoveredAlone → (m : ℕ) (a b : List ℕ) (s now : State) (found : Found) → StandsFor s a b → FoundMeans m a b now found → now ≡ s
found-is one alone m a b s now Recovered stands means = one a b now s means stands
found-is one alone m a b s now Blank stands means = absurd ((alone a b stands.0 stands.1 stands.2).0 means.0)
found-is one alone m a b s now Damaged stands means = absurd ((alone a b stands.0 stands.1 stands.2).1 means.0)

-- others are found as a start
begins-anew : RecoveredAlone → (m : ℕ) (a b : List ℕ) (now : State) (found : Found) → IsBlank a b ⊎ IsDamaged a b → FoundMeans m a b now found → now ≡ fresh_state m
begins-anew alone m a b now Recovered (inl blank) means = absurd ((alone a b means.0 means.1 means.2).0 blank)
begins-anew alone m a b now Recovered (inr bad) means = absurd ((alone a b means.0 means.1 means.2).1 bad)
begins-anew alone m a b now Blank sides means = means.1
begins-anew alone m a b now Damaged sides means = means.1

pub crashes-are-found : {D : Type 0} (tells : Type 0) (seen : D → List ℕ) (moment : D → ℕ) (left_since : D → ℕ → List ℕ → Type 0) (may_leave : D → List ℕ → Type 0) (faults : D → ℕ)
    → OneState → RecoveredAlone → CrashesAreFound D tells seen moment left_since may_leave faults
crashes-are-found tells seen moment left_since may_leave faults one alone place houses config m x pair book told stands opens =
    let same : opens.opened.opened ≡ stands.shard.state =
    found-is one alone m (seen pair.a) (seen pair.b) stands.shard.state opens.opened.opened opens.found stands.stands (opens.opened.from told) in
    record {
      house = stands.house;
      shard = stands.shard;
      among = stands.among;
      there = stands.there;
      now_is = opens.opened.state ∙ ap (λ (s : State). apply_all s (renumbering m x.address s)) same;
    }

pub others-begin-anew : {D : Type 0} (tells : Type 0) (seen : D → List ℕ) (moment : D → ℕ) (left_since : D → ℕ → List ℕ → Type 0) (may_leave : D → List ℕ → Type 0) (faults : D → ℕ)
    → RecoveredAlone → OthersBeginAnew D tells seen moment left_since may_leave faults
others-begin-anew tells seen moment left_since may_leave faults alone config m x pair book told sides opens =
    let fresh : opens.opened.opened ≡ fresh_state m =
    begins-anew alone m (seen pair.a) (seen pair.b) opens.opened.opened opens.found sides (opens.opened.from told) in
    let at : max m m ≡ m = omega arith in
    opens.opened.state ∙ ap (λ (s : State). apply_all s (renumbering m x.address s)) fresh
    ∙ ap (λ (n : ℕ). apply (fresh_state m) (renumber_at n x.address)) at
