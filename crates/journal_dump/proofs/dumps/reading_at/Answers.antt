use Rattle.std.proofs.Common.{get_or, refl}
use Rattle.std.proofs.lemmas.Option.{slice_get-get_or}
use Rattle.journal_dump.proofs.dumps.reading_at.Goals as goal

pub returns : goal.returns
returns g c =
    let cause = c.reading_in.ensures.cause in
    record {
      before = get_or c.args.pairs.now c.args.place c.index-pairs-place.result;
      after = c.reading_in.new.pair;
      was = slice_get-get_or c.args.pairs.now c.args.place c.index-pairs-place.result c.requires;
      is = refl;
      how = (
        record {
          read = c.reading_in.ensures.read;
          seen_still = c.reading_in.ensures.seen;
          later = record { later_a = cause.later_a; later_b = cause.later_b; risen = λ no. absurd no };
        },
        cause,
        c.reading_in.ensures.value,
      );
    }
