-- What opening a journal leaves, once both sides are synced.
use Rattle.std.proofs.Common.{◌≡◌, inl, inr, ⊎_elim, Result, Ok, Err, ℕ, List, [], ◌∷◌, ◌≤◌, sym, ◌∙◌, subst}
use Rattle.std.specs.Prelude.{◌⊎◌, OnOk}
use Rattle.pcp_base.specs.States.{State}
use Rattle.lease_disk.specs.declared.disks.DiskPair.{DiskPair}
use Rattle.lease_disk.specs.Pairs.{HoldsNow, Leads, OnOneSide, PairLeavesOnly}
use Rattle.lease_disk.proofs.CallLemmas.{has_now}
use Rattle.lease_disk.proofs.PairLemmas.{pair_goes_on, pair_weaker}
use Rattle.journal_sides.specs.declared.judging.Verdict.{Verdict}
use Rattle.journal_sides.specs.declared.judging.Verdict.TheVariants.{Counting, Neither, Broken}
use Rattle.journal_sides.specs.declared.formats.Format.{Format}
use Rattle.journal_sides.specs.declared.formats.Format.TheVariants.{First, Second}
use Rattle.journal_sides.specs.Formats.{IsReplaying}
use Rattle.journal_sides.specs.Journals.{IsBlank, IsDamaged, IsStarting, IsStartingAnew}
use Rattle.lease_journal.specs.declared.errors.Found.{Found}
use Rattle.lease_journal.specs.declared.errors.Found.TheVariants.{Recovered, Blank, Damaged}
use Rattle.lease_journal.specs.Openings.{IsShutAnew, IsStillOrShut, LeavesOld, MayOpen, Opens}
use Rattle.journal_sides.specs.Reads.{ArePairRead, AreSeenStill}
use Rattle.journal_sides.specs.Sides.{IsClosedSide}
use Rattle.journal_sides.specs.Verdicts.{AreFound}
use Rattle.journal_sides.specs.declared.sides.Side.{Side}
use Rattle.journal_sides.specs.declared.sides.Side.TheVariants.{B}
use Rattle.journal_sides.specs.Writes.{AreDurable, ChangesSide}
use Rattle.lease_journal.specs.Beginnings.{MayShut}
use Rattle.lease_journal.proofs.PrepareLaws.{anew_closed, pair_still, prepare_still}
use Rattle.lease_journal.proofs.StandingLaws.{stands_for}

-- what both sides were is said of the same octets
pub same_octets : (P : List ℕ → List ℕ → Type 0) (a b c d : List ℕ) → c ≡ a → d ≡ b → P c d → P a b
same_octets P a b c d same_a same_b has = subst (λ (l : List ℕ). P l b) same_a (subst (λ (l : List ℕ). P c l) same_b has)

pub found_again : (a b c d : List ℕ) (now : State) (verdict : Verdict) → c ≡ a → d ≡ b → AreFound a b now verdict → AreFound c d now verdict
found_again a b c d now verdict same_a same_b found = same_octets (λ (x y : List ℕ). AreFound x y now verdict) c d a b (sym same_a) (sym same_b) found

on_ok : {T E : Type 0} (P : Type 0) (result : Result T E) → P → OnOk result P
on_ok P (Ok x) holds = holds
on_ok P (Err e) holds = tt

pub on_ok_always : {T E : Type 0} {P : Type 0} (result : Result T E) → P → OnOk result P
on_ok_always {P = P} result holds = on_ok P result holds

both_on_ok : {T E : Type 0} (P Q R : Type 0) (result : Result T E) → (P → Q → R) → OnOk result P → OnOk result Q → OnOk result R
both_on_ok P Q R (Ok x) gives one two = gives one two
both_on_ok P Q R (Err e) gives one two = tt

pub on_ok_both : {T E : Type 0} {P Q R : Type 0} (result : Result T E) → (P → Q → R) → OnOk result P → OnOk result Q → OnOk result R
on_ok_both {P = P} {Q = Q} {R = R} result gives one two = both_on_ok P Q R result gives one two

-- before anything is written
pub may_open : (m : ℕ) (a b : List ℕ) (now : State) (verdict : Verdict) → AreFound a b now verdict → MayOpen m a b a b
may_open m a b now (Counting side standing) found = let stands = stands_for side standing now a b found in inl (now, stands, stands)
may_open m a b now Neither found = inr (inl (found, inl found))
may_open m a b now (Broken x y) found = inr (inr (found.damaged, inl found.damaged))

pub may_open_now : {D : Type 0} (seen : D → List ℕ) (may_leave : D → List ℕ → Type 0) (m : ℕ) (pair : DiskPair D) (now : State) (verdict : Verdict) → AreDurable seen may_leave pair → AreFound (seen pair.a) (seen pair.b) now verdict → HoldsNow may_leave (MayOpen m (seen pair.a) (seen pair.b)) pair
may_open_now seen may_leave m pair now verdict durable found x y left_a left_b = same_octets (MayOpen m (seen pair.a) (seen pair.b)) x y (seen pair.a) (seen pair.b) (sym (durable.a x left_a)) (sym (durable.b y left_b)) (may_open m (seen pair.a) (seen pair.b) now verdict found)

pub blank_may : (m : ℕ) (a b : List ℕ) → IsBlank a b → (x y : List ℕ) → IsStarting m x y → MayOpen m a b x y
blank_may m a b blank x y starting = inr (inl (blank, starting))

-- while side b is shut before a blank start
pub shut_starts : (m : ℕ) (a b : List ℕ) → IsBlank a b → (x y : List ℕ) → ChangesSide B MayShut a b x y → IsStarting m x y
shut_starts m a b blank x y ch = inl (subst IsClosedSide (sym ch.unchanged) blank.0, ⊎_elim (λ (same : y ≡ b). subst IsClosedSide (sym same) blank.1) (λ (closed : IsClosedSide y). closed) ch.changed)

pub shut_blank : (a b x y : List ℕ) → IsBlank a b → ChangesSide B IsShutAnew a b x y → IsBlank x y
shut_blank a b x y blank ch = (subst IsClosedSide (sym ch.unchanged) blank.0, anew_closed b y ch.changed)

pub damaged_may : (m : ℕ) (a b : List ℕ) → IsDamaged a b → (x y : List ℕ) → IsStartingAnew m x y → MayOpen m a b x y
damaged_may m a b damaged x y starting = inr (inr (damaged, starting))

pub shutting_starts : (m : ℕ) (x y : List ℕ) → IsDamaged x y ⊎ IsBlank x y → IsStartingAnew m x y
shutting_starts m x y (inl still) = inl still
shutting_starts m x y (inr blank) = inr (inl blank)

pub starting_anew : (m : ℕ) (x y : List ℕ) → IsStarting m x y → IsStartingAnew m x y
starting_anew m x y starting = inr starting

module _ {D : Type 0} (moment : D → ℕ) (left_since : D → ℕ → List ℕ → Type 0) (may_leave : D → List ℕ → Type 0)
    (counts_now : (disk : D) (t : ℕ) (image : List ℕ) → t ≤ moment disk → may_leave disk image → left_since disk t image)
    (only_now : (disk : D) (image : List ℕ) → left_since disk (moment disk) image → may_leave disk image) where
  side_now : (P : List ℕ → List ℕ → Type 0) (old new : DiskPair D) → OnOneSide moment left_since may_leave P old new → HoldsNow may_leave P new
  side_now P old new (inl (run, same)) x y left_a left_b = has_now moment left_since may_leave counts_now only_now old.a new.a (λ x. (y : List ℕ) → may_leave old.b y → P x y) run x left_a y (subst (λ (disk : D). may_leave disk y) same left_b)
  side_now P old new (inr (run, same)) x y left_a left_b = has_now moment left_since may_leave counts_now only_now old.b new.b (λ y. (x : List ℕ) → may_leave old.a x → P x y) run y left_b x (subst (λ (disk : D). may_leave disk x) same left_a)

  leads_now : (P : List ℕ → List ℕ → Type 0) (old : DiskPair D) (stretches : List (DiskPair D)) (new : DiskPair D) → HoldsNow may_leave P old → Leads moment left_since may_leave P old stretches new → HoldsNow may_leave P new
  leads_now P old [] new here is = subst (HoldsNow may_leave P) (sym is) here
  leads_now P old (next ∷ more) new here (side, rest) = leads_now P next more new (side_now P old next side) rest

  -- what holds at each moment of a run holds at its end
  pub pair_now : (P : List ℕ → List ℕ → Type 0) (old new : DiskPair D) → PairLeavesOnly moment left_since may_leave old new P → HoldsNow may_leave P new
  pair_now P old new run = leads_now P old run.stretches new run.starts run.lead

  -- both sides were synced, and then only read
  pub only_read : (old synced new : DiskPair D) → LeavesOld moment left_since may_leave old synced → ArePairRead moment left_since may_leave synced new → LeavesOld moment left_since may_leave old new
  only_read old synced new until read =
      pair_goes_on moment left_since may_leave old synced new (λ x y. may_leave old.a x × may_leave old.b y) until
      (pair_still moment left_since may_leave counts_now only_now (λ x y. may_leave old.a x × may_leave old.b y) synced new (pair_now (λ x y. may_leave old.a x × may_leave old.b y) old synced until) read)

  -- both sides were read, and then one was shut
  pub read_shut : (seen : D → List ℕ) (side : Side) (old mid new : DiskPair D) → AreDurable seen may_leave old → ArePairRead moment left_since may_leave old mid → AreSeenStill seen old mid
      → PairLeavesOnly moment left_since may_leave mid new (ChangesSide side MayShut (seen mid.a) (seen mid.b)) → PairLeavesOnly moment left_since may_leave old new (ChangesSide side MayShut (seen old.a) (seen old.b))
  read_shut seen side old mid new durable read still run =
      let P = ChangesSide side MayShut (seen old.a) (seen old.b) in
      pair_goes_on moment left_since may_leave old mid new P
      (prepare_still moment left_since may_leave counts_now only_now seen side old mid durable read)
      (pair_weaker moment left_since may_leave mid new (ChangesSide side MayShut (seen mid.a) (seen mid.b)) P run (λ x y ch. same_octets (λ (a b : List ℕ). ChangesSide side MayShut a b x y) (seen old.a) (seen old.b) (seen mid.a) (seen mid.b) still.a still.b ch))

  module _ (seen : D → List ℕ) (m : ℕ) where
    -- both sides were synced and read, and then started where no records were found
    pub opened : (old synced judged new : DiskPair D) (now : State) (verdict : Verdict) → LeavesOld moment left_since may_leave old synced → AreDurable seen may_leave synced → AreSeenStill seen old synced
        → ArePairRead moment left_since may_leave synced judged → AreSeenStill seen synced judged → AreFound (seen synced.a) (seen synced.b) now verdict
        → PairLeavesOnly moment left_since may_leave judged new (MayOpen m (seen judged.a) (seen judged.b)) → Opens seen moment left_since may_leave m old new
    opened old synced judged new now verdict until durable still read seen_still found run =
        let P = MayOpen m (seen old.a) (seen old.b) in
        let same_a : seen judged.a ≡ seen old.a = seen_still.a ∙ still.a in
        let same_b : seen judged.b ≡ seen old.b = seen_still.b ∙ still.b in
        let found_old = same_octets (λ (x y : List ℕ). AreFound x y now verdict) (seen old.a) (seen old.b) (seen synced.a) (seen synced.b) still.a still.b found in
        let here : HoldsNow may_leave P synced = λ x y left_a left_b. same_octets P x y (seen old.a) (seen old.b) (sym (durable.a x left_a ∙ still.a)) (sym (durable.b y left_b ∙ still.b)) (may_open m (seen old.a) (seen old.b) now verdict found_old) in
        record {
          synced = synced;
          until = until;
          durable = durable;
          still = still;
          from = pair_goes_on moment left_since may_leave synced judged new P (pair_still moment left_since may_leave counts_now only_now P synced judged here read)
              (pair_weaker moment left_since may_leave judged new (MayOpen m (seen judged.a) (seen judged.b)) P run (λ x y may. same_octets (λ (a b : List ℕ). MayOpen m a b x y) (seen old.a) (seen old.b) (seen judged.a) (seen judged.b) same_a same_b may));
        }

-- reads gave the same before that too
pub still_or_shut : {D : Type 0} (seen : D → List ℕ) (old mid new : DiskPair D) (found : Found) → AreSeenStill seen old mid → IsStillOrShut seen mid new found → IsStillOrShut seen old new found
still_or_shut seen old mid new Recovered first is = record { a = is.a ∙ first.a; b = is.b ∙ first.b }
still_or_shut seen old mid new Blank first is = subst (λ (l : List ℕ). IsShutAnew l (seen new.b)) first.b is
still_or_shut seen old mid new Damaged first is = subst (λ (l : List ℕ). IsShutAnew l (seen new.b)) first.b is

-- a replay that takes records of some format takes those of one of the two
pub replays_by : {R : Type 0} (replaying replaying_first : R → Type 0) (replay : R) (f : Format) → IsReplaying f replaying replaying_first replay → replaying_first replay ⊎ replaying replay
replays_by replaying replaying_first replay First takes = inl takes
replays_by replaying replaying_first replay Second takes = inr takes
