use Rattle.std.proofs.Common.{◌≡◌, filter, not}
use Rattle.std.specs.Prelude.{vec_len}
use Rattle.pcp_base.specs.Ends.{with_ends, is_owned_by}
use Rattle.plain_replay.proofs.ends.add_left.Given as goal

-- adding what is left now makes the same as adding all at first
abbrev pub invariant-loop-rest : goal.invariant-loop-rest
invariant-loop-rest l = with_ends (filter (λ e. not (is_owned_by l.owners e)) l.left.items) l.ends.items
    ≡ with_ends (filter (λ e. not (is_owned_by l.owners e)) l.fn.left.items) l.fn.ends.items

abbrev pub decreases-loop-rest : goal.decreases-loop-rest
decreases-loop-rest l = vec_len l.left
