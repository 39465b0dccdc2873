use Rattle.std.proofs.Common.{get_or, refl}
use Rattle.std.proofs.lemmas.Option.{slice_get-get_or}
use Rattle.watch_runs.proofs.runs.told_at.Goals as goal

pub returns : goal.returns
returns g c = record {
  before = get_or c.args.links.now c.args.place c.index-links-place.result;
  after = c.told_behind.new.link;
  was = slice_get-get_or c.args.links.now c.args.place c.index-links-place.result c.requires.within;
  is = refl;
  how = (c.told_behind.ensures.told, c.told_behind.ensures.file);
}
