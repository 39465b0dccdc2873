use Rattle.std.proofs.Common.{◌≡◌, false, sym, subst}
use Rattle.serde_json.specs.Data.{Data}
use Rattle.serde_json.specs.Written.{has_float}
use Rattle.watch_lines.proofs.FloatLemmas.{no_float}
use Rattle.watch_lines.proofs.lines.line_of.Goals as goal

pub text_of-requires : goal.text_of-requires
text_of-requires c =
    let whole : Data → Type 0 = λ d. has_float d ≡ false in
    subst whole (sym c.in_ok-value.ensures) (no_float c.args.setting.now c.args.happening.now)
