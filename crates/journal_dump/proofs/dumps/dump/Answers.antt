use Rattle.std.proofs.Common.{◌≡◌, List, Err, false, sym, subst, ap, ◌∙◌}
use Rattle.serde_json.specs.Data.{Data}
use Rattle.serde_json.specs.View.{items_of}
use Rattle.serde_json.specs.Written.{items_have_float}
use Rattle.journal_dump.specs.declared.faults.DumpFault.TheVariants.{Disk}
use Rattle.journal_dump.proofs.FloatLemmas.{no_float}
use Rattle.journal_dump.proofs.dumps.dump.Goals as goal

pub text_of-requires : goal.text_of-requires
text_of-requires g c =
    let are = c.in-Ok.ensures.values in
    let whole : List Data → Type 0 = λ vs. items_have_float (items_of vs) ≡ false in
    subst whole (sym are.tell_them) (no_float c.args.externals.now are.readings)

pub returns-in-Err-clause-disk_fault : goal.returns-in-Err-clause-disk_fault
returns-in-Err-clause-disk_fault g c = λ shard told.
    let same : c.in-Err.fault ≡ Disk shard = cc told in
    c.readings_of.ensures.disk_fault shard (c.in-Err.is ∙ ap Err same)
