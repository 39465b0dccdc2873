use Rattle.std.proofs.Common.{ℕ, zero, suc, ◌<◌, List, [], ◌∷◌, length, map, get_or, arith}
use Rattle.std.specs.List.{AllByRecursion}
use Rattle.pcp_base.specs.declared.leases.End.{End}
use Rattle.pcp_base.specs.Records.{IsWellFormedRecord}
use Rattle.pcp_base.specs.Snapshots.{end_record}
use Rattle.plain_store.proofs.records.add_end_records.Goals as goal

formed_at : (m : ℕ) (ends : List End) (i : ℕ) (d : End) → AllByRecursion IsWellFormedRecord (map (end_record m) ends) → i < length ends → IsWellFormedRecord (end_record m (get_or ends i d))
formed_at m [] i d all less = absurd (omega (arith, less))
formed_at m (e ∷ ends) zero d all less = all.0
formed_at m (e ∷ ends) (suc i) d all less = formed_at m ends i d all.1 (omega (arith, less))

pub take-requires : goal.take-requires
take-requires g c = formed_at c.args.m c.args.ends.now c.loop-end.end-index _ c.requires c.loop-end-test.true
