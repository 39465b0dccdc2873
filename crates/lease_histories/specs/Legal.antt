-- Histories that an external address may have (our own): each reply is the lease table's, in order.
use Rattle.std.specs.Prelude.{◌≡◌, ℕ, ◌<◌, ◌≤◌, ◌^◌, true, List, [], ◌∷◌, ◌++◌, Some, None, filter_map, IfSome}
use Rattle.std.specs.List.{AllByRecursion, last_or, slice_get}
use Rattle.std.specs.Option.{option_map_or}
use Rattle.pcp_base.specs.declared.datagrams.Entry.{Entry}
use Rattle.pcp_base.specs.declared.records.Change.{Change}
use Rattle.pcp_base.specs.declared.records.Change.TheVariants.{Renumber}
use Rattle.pcp_base.specs.declared.records.Record.{Record}
use Rattle.pcp_base.specs.Apply.{apply_all, empties}
use Rattle.pcp_base.specs.Configs.{IsConfig}
use Rattle.pcp_base.specs.Reached.{IsReached}
use Rattle.pcp_base.specs.States.{State}
use Rattle.pcp_options.specs.Responses.{AreOctets}
use Rattle.lease_histories.specs.Routes.{route_of}
use Rattle.lease_histories.specs.Entries.{Served, EntryKind, OfRequest, OfServer, OfFault, Request, entry_kind, has_just_begun, request_of, decided_on, reply_to}

-- ---- where entries lead

-- what the journal keeps of entries, in order
abbrev pub records_of : List Entry → List Record
records_of entries = filter_map (λ e. e.kept) entries

-- the state after entries that began at the opening one
abbrev pub state_after : State → List Entry → State
state_after opening entries = apply_all opening (records_of entries)

-- the moment of the last entry; before the first one the last moment of the opening state
abbrev pub moment_after : State → List Entry → ℕ
moment_after opening entries = option_map_or (λ e. e.moment) (last_or None entries) opening.last

-- the base that was told last; before the first entry that of the opening state
abbrev pub base_after : State → List Entry → ℕ
base_after opening entries = option_map_or (λ e. e.base) (last_or None entries) opening.base

-- ---- what an entry may be, by its kind

-- The entry is the lease table's: its record and its reply are what the table of the state decides.
pub record IsOfTable (x : Served) (s : State) (e : Entry) : Type 0 where
  pub routed : route_of x.config e.from ≡ x.place
  -- a silent datagram asks nothing
  pub request : Request
  pub asks : request_of x.config e.from ≡ Some request
  pub kept : e.kept ≡ (decided_on x s e.moment request).kept
  pub reply : e.reply
      ≡ reply_to e.from.octets x.external.address request (decided_on x s e.moment request) e.moment
      e.base

-- The server itself begins the table anew, or tells the address of a table that it just began.
abbrev pub IsOfServer : List Entry → Change → Type 0
IsOfServer before (Renumber a) = has_just_begun before ≡ true
IsOfServer before change = empties change ≡ true

-- nothing changes
pub record IsOfFault (opening : State) (before : List Entry) (e : Entry) : Type 0 where
  pub moment : e.moment ≡ moment_after opening before
  pub base : e.base ≡ base_after opening before

abbrev pub IsOfKind : EntryKind → Served → State → List Entry → Entry → Type 0
IsOfKind OfRequest x opening before e = IsOfTable x (state_after opening before) e
IsOfKind (OfServer r) x opening before e = IsOfServer before r.change
IsOfKind OfFault x opening before e = IsOfFault opening before e

-- ---- what may come after the entries before

-- a moment and octets are such
pub record IsEntryValue (e : Entry) : Type 0 where
  pub moment : e.moment < 2 ^ 40
  pub octets : AreOctets e.from.octets

pub record IsNextEntry (x : Served) (opening : State) (before : List Entry) (e : Entry)
    : Type 0 where
  pub value : IsEntryValue e
  pub later : moment_after opening before ≤ e.moment
  pub after_records : (state_after opening before).last ≤ e.moment
  pub recorded : IfSome e.kept (λ r. r.moment ≡ e.moment)
  pub kind : IsOfKind (entry_kind e) x opening before e
  -- the base that is told falls neither behind that of the state nor behind those told before
  pub base : (state_after opening (before ++ e ∷ [])).base ≤ e.base
  pub bases : AllByRecursion (λ p. p.base ≤ e.base) before

-- each entry may come after those before it
abbrev pub IsLegal : Served → State → List Entry → Type 0
IsLegal x opening entries = (before : List Entry) (e : Entry) (more : List Entry) →
    entries ≡ before ++ e ∷ more → IsNextEntry x opening before e

-- ---- where a history may begin

-- The external address is that of the configuration, with this index. Fitting records have made the
-- opening state, of which the first was a Start.
pub record IsOpening (x : Served) (opening : State) : Type 0 where
  pub config : IsConfig x.config
  pub there : slice_get x.config.externals x.place ≡ Some x.external
  pub reached : IsReached opening
  pub started : opening.started ≡ true
