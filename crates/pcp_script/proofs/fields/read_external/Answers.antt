use Rattle.std.proofs.Common.{sym, arith}
use Rattle.pcp_script.proofs.PlaceLemmas.{external-found, external-missed, external-past}
use Rattle.pcp_script.proofs.fields.read_external.Goals as goal

pub returns-in_default-clause-none : goal.returns-in_default-clause-none
returns-in_default-clause-none c = λ shard h. c.in_default.ensures.refused h.external.address h.address

pub returns-in_err-shard-clause-none : goal.returns-in_err-shard-clause-none
returns-in_err-shard-clause-none c =
    rw c.from_residual.ensures (external-missed c.args.externals.now c.args.text.now c.in-Ok.address (sym c.in_err-shard.ensures) c.in-Ok.ensures.only)

pub returns-then-shard-lt-MOST_EXTERNALS-clause-value : goal.returns-then-shard-lt-MOST_EXTERNALS-clause-value
returns-then-shard-lt-MOST_EXTERNALS-clause-value c =
    external-found c.args.externals.now c.args.text.now c.in-Ok.address c.in_ok-shard.shard (sym c.in_ok-shard.ensures) (omega arith) c.in-Ok.ensures.text

pub returns-else-shard-lt-MOST_EXTERNALS-clause-none : goal.returns-else-shard-lt-MOST_EXTERNALS-clause-none
returns-else-shard-lt-MOST_EXTERNALS-clause-none c =
    external-past c.args.externals.now c.args.text.now c.in-Ok.address c.in_ok-shard.shard (sym c.in_ok-shard.ensures) (omega arith) c.in-Ok.ensures.only
