use Rattle.std.proofs.Common.{refl}
use Rattle.lease_house.proofs.OpenedBooks.{first_removed}
use Rattle.lease_house.proofs.opening.open_next.Goals as goal

pub returns-in-Ok-clause-opened : goal.returns-in-Ok-clause-opened
returns-in-Ok-clause-opened g c = record {
  pair = c.remove.result;
  book = c.in-Ok.book;
  taken = first_removed c.args.pairs.now.items c.remove.new.self.items c.remove.result c.requires.some c.remove.ensures.value c.remove.ensures.items;
  added = c.push_reserved.ensures.items;
  found = c.in-Ok.found;
  noted = c.push_reserved-in-Ok.ensures.items;
  is_found = c.in-Ok.ensures.opened;
  opens = record {
    found = c.in-Ok.found;
    opened = c.in-Ok.ensures.opened;
    moments = c.in-Ok.ensures.moments;
    later = c.in-Ok.ensures.later;
  };
  is_book = c.in-Ok.ensures.book;
}

pub returns-in-Err-clause-refused : goal.returns-in-Err-clause-refused
returns-in-Err-clause-refused g c = record {
  pair = c.remove.result;
  handed = c.in-Err.refused.pair;
  rest = c.remove.new.self.items;
  cause = c.in-Err.refused.fault;
  told = c.fault_at.ensures;
  taken = first_removed c.args.pairs.now.items c.remove.new.self.items c.remove.result c.requires.some c.remove.ensures.value c.remove.ensures.items;
  put = c.put_first.ensures.items;
  same = refl;
  hands = record { moments = c.in-Err.ensures.refused_moments; cause = c.in-Err.ensures.cause };
}
