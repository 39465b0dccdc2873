use Rattle.house_rows.proofs.ThreeLemmas.{are-within, is-kept, opens, third}
use Rattle.house_rows.proofs.histories.three_entries.Goals as goal

pub returns-clause-kept : goal.returns-clause-kept
returns-clause-kept c =
    is-kept c.histories_grow.ensures.nothing c.histories_grow.ensures.next c.entries_come_next.ensures.servers c.entries_come_next.ensures.faults
    c.nonces_decide.ensures

pub returns-clause-epochs : goal.returns-clause-epochs
returns-clause-epochs c =
    are-within c.histories_grow.ensures.nothing c.histories_grow.ensures.next c.entries_come_next.ensures.servers c.entries_come_next.ensures.faults
    c.epochs_disclose.ensures.entries

pub returns-clause-opens : goal.returns-clause-opens
returns-clause-opens c = opens

pub returns-clause-legal : goal.returns-clause-legal
returns-clause-legal c =
    third c.histories_grow.ensures.nothing c.histories_grow.ensures.next c.entries_come_next.ensures.servers c.entries_come_next.ensures.faults
