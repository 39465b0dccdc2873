use Rattle.std.proofs.Common.{◌≡◌, Result, Err, refl, sym, subst, rules}
use Rattle.pcp_base.specs.declared.asks.Ask.{Ask}
use Rattle.client_core.specs.Wants.{CanBeWanted}
use Rattle.client_runs.specs.declared.tries.Unanswered.{Unanswered}
use Rattle.client_runs.specs.declared.tries.Unanswered.TheVariants as Reasons
use Rattle.keep_runs.specs.declared.keepers.Keeper.{Keeper}
use Rattle.keep_runs.proofs.CallLemmas.{keeper_by}
use Rattle.keep_runs.proofs.runs.begin.Goals as goal

pub returns-in_err-nonce : goal.returns-in_err-nonce
returns-in_err-nonce g c =
    let same : ◌≡◌ {A = Result Keeper Unanswered} c.from_residual.result (Err c.in_err-nonce.field-0.0) = search rules in
    rw (same, c.in_err-nonce.ensures.reason) (c.in_err-nonce.ensures.part, refl)

pub returns-in_err-wanted : goal.returns-in_err-wanted
returns-in_err-wanted g c =
    let n = c.in_ok-nonce.ensures.nonce in
    let same : ◌≡◌ {A = Result Keeper Unanswered} c.from_residual-in_err-wanted.result (Err Reasons.Memory) = search rules in
    rw same (record { words = n.words; few = n.few; drawn = n.drawn; time = c.now-start_ms.result; clock = c.now-start_ms.ensures.time })

pub wanting_from-requires-clause-wanted : goal.wanting_from-requires-clause-wanted
wanting_from-requires-clause-wanted g c = subst (λ (a : Ask). CanBeWanted a) (sym c.in_ok-wanted.ensures) (c.requires c.in_ok-nonce.nonce)

pub returns-in_err-client : goal.returns-in_err-client
returns-in_err-client g c =
    let n = c.in_ok-nonce.ensures.nonce in
    let same : ◌≡◌ {A = Result Keeper Unanswered} c.from_residual-in_err-client.result (Err c.in_err-client.field-0.0) = search rules in
    rw (same, c.in_err-client.ensures.reason) (record { words = n.words; few = n.few; drawn = n.drawn; time = c.now-start_ms.result; clock = c.now-start_ms.ensures.time })

pub returns : goal.returns
returns g c =
    let n = c.in_ok-nonce.ensures.nonce in
    record {
      words = n.words;
      nonce = c.in_ok-nonce.nonce;
      nonce_by = n.is;
      time = c.now-start_ms.result;
      drawn = n.drawn;
      clock = c.now-start_ms.ensures.time;
      keeper_is = keeper_by c.args.asked.now c.in_ok-nonce.nonce c.now-start_ms.result c.in_ok-client.client c.in_ok-wanted.wanted _ c.in_ok-client.ensures.client c.in_ok-wanted.ensures c.nothing.ensures;
    }
