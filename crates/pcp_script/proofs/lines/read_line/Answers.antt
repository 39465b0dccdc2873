use Rattle.pcp_script.proofs.LineLemmas.{line-missed, untrue}
use Rattle.pcp_script.proofs.lines.read_line.Goals as goal

pub returns-clause-refused : goal.returns-clause-refused
returns-clause-refused c = λ bad.
    let refused = rw (c.items.ensures, c.deref.ensures.value) at c.read_fields.ensures.refused in
    line-missed c.args.config.now.externals c.args.text.now _ c.in-Ok.ensures (untrue _ _ c.is_skipped.ensures c.if-is_skipped.false) (refused bad)
