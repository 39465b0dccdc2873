use Rattle.std.proofs.Common.{◌≡◌, drop, sym, ap}
use Rattle.pcp_io.specs.InMemory.{SourceInMemory}
use Rattle.pcp_io.proofs.ReadLemmas.{Reads-slice}
use Rattle.pcp_io.proofs.memory_sources.MemorySourceSource.read.Goals as goal

pub returns-clause-reads : goal.returns-clause-reads
returns-clause-reads c =
    let left : c.args.self.now.left ≡ drop c.self.inside.at c.self.inside.octets.items = ap (λ (s : SourceInMemory). s.left) (sym c.self.view_is) in
    Reads-slice c.self.inside.octets.items c.deref.result.now c.args.piece.now c.args.self.now.left c.copy_from_slice.new.self c.self.inside.at c.min-count.result
    c.deref.ensures.value left c.min-count.ensures c.copy_from_slice.ensures.after
