use Rattle.std.proofs.Common.{Err, ap, arith}
use Rattle.toml.specs.View.{table_view}
use Rattle.pcp_config.proofs.AllowedLemmas.{IsConfig-from, IsConfigText-unique}
use Rattle.pcp_config.proofs.texts.read_config.Goals as goal

pub returns-in-Err-NotConfig-clause-refused : goal.returns-in-Err-NotConfig-clause-refused
returns-in-Err-NotConfig-clause-refused c =
    record {
      short = omega (arith, c.if-text-gt-LONGEST_CONFIG.false);
      members = table_view c.in_ok-table.table;
      toml = c.in_ok-table.ensures.table;
      none = c.in-Err-NotConfig.ensures.refused (ap Err c.in-Err-NotConfig.field-0-is);
    }

pub returns-in-Ok-clause-only : goal.returns-in-Ok-clause-only
returns-in-Ok-clause-only c = λ d k.
    IsConfigText-unique c.args.text.now d c.in-Ok.config k
    (record {
      short = omega (arith, c.if-text-gt-LONGEST_CONFIG.false);
      members = table_view c.in_ok-table.table;
      toml = c.in_ok-table.ensures.table;
      stands = c.in-Ok.ensures.config;
    })

pub returns-in-Ok-clause-allowed : goal.returns-in-Ok-clause-allowed
returns-in-Ok-clause-allowed c = IsConfig-from (table_view c.in_ok-table.table) c.in-Ok.config c.in-Ok.ensures.config
