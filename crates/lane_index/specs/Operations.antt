-- What an operation does to a copy (our own).
use Rattle.lane_index.specs.declared.operations.Operation.{Operation}
use Rattle.lane_index.specs.declared.replicas.Replica.{Replica}
use Rattle.lane_index.specs.Applying.{fitted}

-- the record is taken in, and the copy has the history that ends with it
abbrev pub absorbed : Replica → Operation → Replica
absorbed copy op = record copy {
  index = fitted op.pushed.kept copy.index;
  last = op.pushed.kept.moment;
  seen = op.seen;
  count = op.count;
}
