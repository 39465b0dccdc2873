-- What is promised holds of each history.
use Rattle.std.proofs.Common.{◌≡◌, ◌≤◌, ℕ, true, zero, suc, List, [], ◌∷◌, Some, sym, subst}
use Rattle.std.specs.List.{AllByRecursion, slice_get}
use Rattle.pcp_base.specs.declared.datagrams.Entry.{Entry}
use Rattle.pcp_base.specs.Owners.{owners}
use Rattle.pcp_base.specs.Reached.{IsReached}
use Rattle.pcp_base.specs.States.{State}
use Rattle.pcp_base.specs.Tables.{live}
use Rattle.lease_histories.specs.Entries.{Served}
use Rattle.lease_histories.specs.HouseHistories.{entries_at}
use Rattle.lease_histories.specs.Laws.{BasesDisclose, HasNoOther, NoncesDecide, PortsKeepOneOwner, PortsRest, StatesStand}
use Rattle.lease_histories.specs.Legal.{IsLegal, state_after}
use Rattle.lease_histories.specs.Promises.{HistoriesKeepPromises, LegalHistoriesKeepPromises}

All-at : {X : Type 0} (P : X → Type 0) (xs : List X) (i : ℕ) (x : X) → AllByRecursion P xs → slice_get xs i ≡ Some x → P x
All-at P [] i x all h = absurd cc
All-at P (y ∷ xs) zero x all h = let same : y ≡ x = cc in subst P same all.0
All-at P (y ∷ xs) (suc i) x all h = All-at P xs i x all.1 h

pub promises-one : StatesStand → PortsKeepOneOwner → NoncesDecide → PortsRest → BasesDisclose → LegalHistoriesKeepPromises
promises-one stand own decide rest disclose x opening entries is legal = record {
  replies = legal;
  states = λ before more e. stand x opening before more is (subst (IsLegal x opening) e legal);
  one_owner = λ before more e. own x opening before more is (subst (IsLegal x opening) e legal);
  nonces = λ before e more so. decide x opening before e more is (subst (IsLegal x opening) so legal);
  rests = λ before behind t o n so owns last soon.
      subst (λ es. HasNoOther (owners (live (state_after opening es).table n)) o) (sym so)
      (rest x opening before behind t o n is (subst (IsLegal x opening) so legal) owns
      (subst (λ es. (state_after opening es).last ≤ n) so last) soon);
  epochs = λ before e more g so granted. disclose x opening before e more g is (subst (IsLegal x opening) so legal) granted;
}

pub promises-each : LegalHistoriesKeepPromises → HistoriesKeepPromises
promises-each keep config openings history are solo = record {
  solo = solo;
  each = λ place x opening there at. keep (record { config = config; place = place; external = x }) opening (entries_at place history)
      (record {
        config = are.config_is;
        there = there;
        reached = All-at IsReached openings place opening are.reached at;
        started = All-at (λ s. s.started ≡ true) openings place opening are.started at;
      })
      (solo.house.legal place x opening there at);
}
