-- A batch of asks as decisions one after the other (our own).
use Rattle.std.specs.Prelude.{ℕ, List, [], ◌∷◌, map, Option, Some, None}
use Rattle.pcp_base.specs.declared.asks.Ask.{Ask}
use Rattle.pcp_base.specs.declared.records.Record.{Record}
use Rattle.pcp_base.specs.Apply.{apply}
use Rattle.pcp_base.specs.States.{State}
use Rattle.lease_store.specs.declared.terms.Terms.{Terms}
use Rattle.lease_core.specs.declared.decided.Decided.{Decided}
use Rattle.lease_core.specs.Decide.{decide}
use Rattle.shard_book.specs.declared.batches.Answered.{Answered}
use Rattle.shard_book.specs.declared.batches.DatedAnswer.{DatedAnswer}

-- the state with what is kept of an ask
abbrev pub with_kept : State → Option Record → State
with_kept s None = s
with_kept s (Some r) = apply s r

-- what is decided on the asks at m, on each in the state that those before it left
abbrev pub decide_all : Terms → State → ℕ → List Ask → List Decided
decide_all terms s m [] = []
decide_all terms s m (ask ∷ asks) = decide terms s m ask
    ∷ decide_all terms (with_kept s (decide terms s m ask).kept) m asks

-- a record, if there is one, before others
abbrev pub kept_before : Option Record → List Record → List Record
kept_before None rs = rs
kept_before (Some r) rs = r ∷ rs

-- the records that are kept, in order
abbrev pub records_kept : List Decided → List Record
records_kept [] = []
records_kept (d ∷ ds) = kept_before d.kept (records_kept ds)

-- what was decided, as it is answered with this moment and base
abbrev pub answer_at : ℕ → ℕ → Decided → Answered
answer_at m base d = record { moment = m; base = base; answer = d.answer; kept = d.kept }

abbrev pub answers_at : ℕ → ℕ → List Decided → List Answered
answers_at m base ds = map (answer_at m base) ds

-- what is answered, without what is kept
abbrev pub dated_of : Answered → DatedAnswer
dated_of a = record { moment = a.moment; base = a.base; answer = a.answer }
