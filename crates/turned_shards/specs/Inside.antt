-- How the fields of a shard change (our own; for private contracts).
use Rattle.std.specs.Prelude.{◌≡◌, ◌+◌, ◌≤◌, ℕ, max, List, [], Option, Some, None, vec_capacity}
use Rattle.std.specs.Prelude.{vec_len}
use Rattle.pcp_base.specs.declared.addresses.Address.{Address}
use Rattle.pcp_base.specs.declared.datagrams.Entry.{Entry}
use Rattle.pcp_base.specs.declared.records.Record.{Record}
use Rattle.journal_sides.specs.declared.errors.JournalFault.{JournalFault}
use Rattle.lane_index.specs.Lanes.{WriterKnowledge}
use Rattle.shard_book.specs.declared.standings.Settled.{Settled}
use Rattle.shard_book.specs.declared.standings.Standing.{Standing}
use Rattle.shard_book.specs.declared.standings.Standing.TheVariants.{Clean, In, Out, Fresh}
use Rattle.shard_book.specs.Books.{BookView}
use Rattle.turned_shards.specs.declared.shards.Shard.{Shard}
use Rattle.turned_shards.specs.BatchEntries.{entries_by}
use Rattle.turned_shards.specs.ShardCalls.{doubted, faults_of}

-- the moment and the base of the last of the records with which a journal begins anew
abbrev pub moment_anew : Record → Option Record → ℕ
moment_anew r None = r.moment
moment_anew r (Some address) = address.moment

abbrev pub base_anew : ℕ → Record → Option Record → ℕ
base_anew base r None = max base r.moment
base_anew base r (Some address) = max (max base r.moment) address.moment

module _ {D : Type 0} where
  -- a shard of this book and of this writer, in whose history no entry stands; the last one has the
  -- memory for records that wait
  abbrev pub fresh_shard : Address → BookView D → WriterKnowledge → Shard D → Shard D
  fresh_shard address book writer s = record {
    address = address;
    book = book;
    moment = book.last;
    base = book.state.base;
    added = [];
    doubt = [];
    doubt_moment = book.last;
    doubt_base = book.state.base;
    writer = writer;
    unpushed = s.unpushed;
  }

  -- only the memory for records that wait is another
  pub record IsMoved (old new : Shard D) : Type 0 where
    pub same : new ≡ record old { unpushed = new.unpushed }
    pub waiting : new.unpushed.items ≡ old.unpushed.items

  -- there is room for so many more
  abbrev pub HasRoom : ℕ → Shard D → Type 0
  HasRoom count s = vec_len s.unpushed + count ≤ vec_capacity s.unpushed

  abbrev pub anew_shard : Record → Option Record → Shard D → Shard D
  anew_shard r address s = record s {
    added = entries_by s.base [] address (Fresh r);
    moment = moment_anew r address;
    base = base_anew s.base r address;
  }

  -- the entries in doubt have come in
  abbrev pub come_in_shard : Shard D → Shard D
  come_in_shard s = record s {
    added = s.doubt;
    doubt = [];
    moment = s.doubt_moment;
    base = s.doubt_base;
  }

  abbrev pub shard_by : Option Record → Standing → Shard D → Shard D
  shard_by address Clean s = s
  shard_by address In s = come_in_shard s
  shard_by address Out s = s
  shard_by address (Fresh r) s = anew_shard r address s

  abbrev pub settled_shard : Settled → Shard D → Shard D
  settled_shard settled s = record (shard_by settled.address settled.journal s) { doubt = [] }

  -- these entries are in doubt, with this moment and base
  abbrev pub asked_shard : List Entry → ℕ → ℕ → Shard D → Shard D
  asked_shard entries m base s =
      record s { doubt = entries; doubt_moment = m; doubt_base = base }

  -- a call with entries in doubt was refused
  abbrev pub left_shard : JournalFault → Shard D → Shard D
  left_shard fault s = record s {
    added = faults_of s.moment s.base fault;
    doubt = doubted fault s.doubt;
  }
