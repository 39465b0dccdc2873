use Rattle.client_words.proofs.OlderLemmas.{older_words}
use Rattle.client_words.proofs.laws.older_words_stay.Goals as goal

pub returns : goal.returns
returns c = older_words
