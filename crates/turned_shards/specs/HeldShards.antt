-- A shard that is out with a pass (our own).
use Rattle.std.specs.Prelude.{◌≡◌, ℕ, true, List, []}
use Rattle.pcp_base.specs.declared.datagrams.Entry.{Entry}
use Rattle.turn_lock.specs.Passes.{PassKnowledge, TurnName}
use Rattle.turned_shards.specs.declared.marks.Mark.{Mark}
use Rattle.turned_shards.specs.declared.openings.Opening.{Opening}
use Rattle.turned_shards.specs.declared.shards.Shard.{Shard}
use Rattle.turned_shards.specs.Shards.{StandsFor}

-- the pass has noted all that it added
pub record IsHeldBy {D : Type 0} (tells : Type 0) (seen : D → List ℕ) (moment : D → ℕ)
    (left_since : D → ℕ → List ℕ → Type 0)
    (may_leave : D → List ℕ → Type 0) (faults : D → ℕ) (turn : TurnName (Opening D))
    (held : Shard D) (pass : PassKnowledge Entry (Mark D)) : Type 0 where
  pub turn_is : pass.turn ≡ turn.id
  pub out : pass.out ≡ true
  pub stands : StandsFor tells seen moment left_since may_leave faults turn.key held pass.seen
      pass.marks
  pub noted : held.added ≡ []
