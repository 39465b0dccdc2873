use Rattle.shard_book.proofs.books.LeaseBook.resume_untold.Goals as goal

pub returns-clause-settled : goal.returns-clause-settled
returns-clause-settled g c = (c.in_ok-resume.field-0, c.in_ok-resume.ensures.settled)
