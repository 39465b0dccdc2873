use Rattle.journal_watch.proofs.TellingLaws.{doubt-stays, each-record_once, lines-come_to_shown, lives-go_on, lives-told, lives-whole, records-are_followed}
use Rattle.journal_watch.proofs.laws.readings_are_told.Goals as goal

pub returns-clause-lines : goal.returns-clause-lines
returns-clause-lines c = lines-come_to_shown

pub returns-clause-doubt : goal.returns-clause-doubt
returns-clause-doubt c = doubt-stays

pub returns-clause-followed : goal.returns-clause-followed
returns-clause-followed c = records-are_followed

pub returns-clause-once : goal.returns-clause-once
returns-clause-once c = each-record_once

pub returns-clause-whole : goal.returns-clause-whole
returns-clause-whole c = lives-whole

pub returns-clause-goes : goal.returns-clause-goes
returns-clause-goes c = lives-go_on

pub returns-clause-told : goal.returns-clause-told
returns-clause-told c = lives-told
