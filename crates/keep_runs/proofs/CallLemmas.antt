-- The call of `keep` put together of its parts.
use Rattle.std.proofs.Common.{◌≡◌, ℕ, List, ◌∷◌, drop, codes, Option, Some, None, Err, refl, sym, subst, inl, inr}
use Rattle.std.specs.Prelude.{IfSome}
use Rattle.client_commands.specs.Commands.{IsOnly}
use Rattle.pcp_base.specs.declared.addresses.Nonce.{Nonce}
use Rattle.pcp_base.specs.declared.asks.Ask.{Ask}
use Rattle.pcp_io.specs.Times.{Times}
use Rattle.client_core.specs.Clients.{ClientView}
use Rattle.client_core.specs.Wants.{CanBeWanted}
use Rattle.client_commands.specs.declared.commands.ClientCommand.TheVariants.{Map}
use Rattle.client_words.specs.Asks.{IsKeep}
use Rattle.client_words.specs.Splits.{plain_in}
use Rattle.client_words.specs.declared.keeps.KeepAsk.{KeepAsk}
use Rattle.client_runs.specs.Askers.{wanting_from}
use Rattle.client_runs.specs.Asking.{asked_by}
use Rattle.client_runs.specs.Calls.{NeverAsked, status_without}
use Rattle.client_runs.specs.Links.{Drawing, Links}
use Rattle.client_runs.specs.declared.tries.Unanswered.{Unanswered}
use Rattle.client_runs.specs.declared.tries.Unanswered.TheVariants as Reasons
use Rattle.client_runs.proofs.CallLemmas.{by_command, map_wanted, no_client, no_nonce, opened}
use Rattle.tool_commands.specs.declared.statuses.ToolStatus.{ToolStatus}
use Rattle.keep_runs.specs.Ends.{EndsKeep, IsKeepCall, Outside}
use Rattle.keep_runs.specs.Keeping.{keeper_of}
use Rattle.keep_runs.specs.News.{nothing_told}
use Rattle.keep_runs.specs.Steps.{Begins, BeginsNot}
use Rattle.keep_runs.specs.declared.keepers.Keeper.{Keeper}
use Rattle.keep_runs.specs.declared.news.Told.{Told}

pub can_be_kept : (words : List (List ℕ)) (filed : Option (List ℕ)) (ask : KeepAsk) → IsKeep words filed ask → (nonce : Nonce)
    → CanBeWanted (asked_by (Map ask.target ask.wanted) ask.more nonce)
can_be_kept words filed ask is nonce =
    let can = by_command (codes "map" ∷ plain_in (drop 1 words)) (drop 1 words) filed ask.more is.more (Map ask.target ask.wanted) is.command in
    map_wanted (Map ask.target ask.wanted) ask.more ask.target ask.wanted refl can.1 can.2 nonce

pub keeper_by : (ask : KeepAsk) (nonce : Nonce) (time : ℕ) (client : ClientView) (wanted : Ask) (told : Told)
    → client ≡ wanting_from ask.target ask.more.third wanted time → wanted ≡ asked_by (Map ask.target ask.wanted) ask.more nonce → told ≡ nothing_told
    → ◌≡◌ {A = Keeper} (record { command = Map ask.target ask.wanted; client = client; told = told }) (keeper_of ask nonce time)
keeper_by ask nonce time client wanted told a b c = rw (a, b, c) refl

module _ (words : List (List ℕ)) (filed : Option (List ℕ)) (ask : KeepAsk) (old : Outside) (d : Drawing) (times : Option Times) (is : IsKeep words filed ask) where
  abbrev pub begun_at : Outside
  begun_at = record old { links = record old.links { times = times; drawing = d } }

  pub kept_by : (keeper : Keeper) (new : Outside) (status : ToolStatus) → Begins ask keeper old.links.drawing d old.links.times times
      → EndsKeep ask.target.server keeper begun_at new status → IsKeepCall words filed old new status
  kept_by keeper new status b ends = inl (record {
    ask = ask;
    is = is;
    drawn = b.words;
    nonce = b.nonce;
    nonce_by = b.nonce_by;
    time = b.time;
    begun = record old.links { times = times; drawing = d };
    opened = opened ask.target.server old.links d times b.words b.time b.drawn b.clock;
    ends = subst (λ (k : Keeper). EndsKeep ask.target.server k begun_at new status) b.keeper_is ends;
  })

  never : (why : Unanswered) → BeginsNot why old.links.drawing d old.links.times times → NeverAsked ask.target old.links (record old.links { times = times; drawing = d }) (Err why)
  never Reasons.EntropyFault b = subst (λ (t : Option Times). NeverAsked ask.target old.links (record old.links { times = t; drawing = d }) (Err Reasons.EntropyFault)) (sym b.1) (no_nonce ask.target old.links d b.0)
  never Reasons.Memory b = no_client ask.target old.links d times b.words b.time b.drawn b.few b.clock
  never Reasons.LinkFault b = absurd b
  never Reasons.Silence b = absurd b
  never Reasons.Turns b = absurd b
  never Reasons.Stopped b = absurd b

  pub never_by : (why : Unanswered) (status : ToolStatus) → status ≡ status_without why → BeginsNot why old.links.drawing d old.links.times times → IsKeepCall words filed old begun_at status
  never_by why status status_is b = inr (inl (record { ask = ask; is = is; why = why; never = never why b; status_is = status_is; still = refl }))

-- what was found in the words
pub found_kept : (words : List (List ℕ)) (filed : Option (List ℕ)) (found : Option KeepAsk) (ask : KeepAsk) → found ≡ Some ask → IsOnly (IsKeep words filed) found → IsKeep words filed ask
found_kept words filed found ask is only = subst (λ (f : Option KeepAsk). IfSome f (IsKeep words filed)) is only.value
