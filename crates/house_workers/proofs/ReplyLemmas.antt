-- Replies of own entries.
use Rattle.std.proofs.Common.{◌≡◌, ◌≤◌, ℕ, ◌/◌, List, [], ◌∷◌, ◌++◌, map, Option, Some, None, inl, refl, sym, ap, subst, ◌∙◌, arith}
use Rattle.std.proofs.lemmas.List.{append-nil, map-append}
use Rattle.pcp_base.specs.declared.datagrams.Datagram.{Datagram}
use Rattle.pcp_base.specs.declared.datagrams.Entry.{Entry}
use Rattle.pcp_io.specs.Sends.{sent_with}
use Rattle.job_queue.specs.declared.jobs.Job.{Job}
use Rattle.job_workers.specs.Sends.{Handed, HandsAll, HasRisenBy}
use Rattle.job_workers.specs.Stations.{OutState}
use Rattle.job_workers.specs.Works.{DoesCalls, IsOfHouse, Lost, Refused, Replied, WorkCall, WorkResult, WorkState, taken_in, unsent_in}
use Rattle.job_workers.proofs.SendLemmas.{HandsAll-append}
use Rattle.request_workers.specs.Served.{out_of}
use Rattle.turned_shards.specs.declared.passes.HousePass.{HousePass}
use Rattle.turned_shards.specs.BatchEntries.{reply_in}
use Rattle.shared_house.specs.HouseCalls.{HouseView}
use Rattle.house_workers.specs.HouseCallsOf.{calls_of}
use Rattle.house_workers.specs.OwnEntries.{HandsReplies, answered_by, answered_in}

sent_none : (before : Option (List Datagram)) → before ≡ sent_with before []
sent_none None = refl
sent_none (Some ds) = ap Some (sym (append-nil ds))

-- an outbox that had no call
pub hands_nothing : (s : OutState) → HandsReplies [] s s
hands_nothing s = record {
  handed = [];
  replies = refl;
  all = record { sent = sent_none s.sent; faults = inl (omega arith); later = omega arith };
}

-- what a call handed on
abbrev pub handed_in : WorkResult → List Handed
handed_in (Replied handed) = handed
handed_in Lost = []
handed_in (Refused fault) = []

handed_all : (result : WorkResult) (a b : Option (List Datagram)) (f g : ℕ)
    → b ≡ sent_with a (taken_in result) → HasRisenBy (unsent_in result) f g → f ≤ g
    → HandsAll (handed_in result) a b f g
handed_all (Replied handed) a b f g sent risen later =
    record { sent = sent; faults = risen; later = later }
handed_all Lost a b f g sent risen later = record { sent = sent; faults = risen; later = later }
handed_all (Refused fault) a b f g sent risen later =
    record { sent = sent; faults = risen; later = later }

module _ {D : Type 0} (tells : Type 0) (seen : D → List ℕ) (moment : D → ℕ)
    (left_since : D → ℕ → List ℕ → Type 0) (may_leave : D → List ℕ → Type 0) (faults : D → ℕ)
  where
    handed_of : (house : HouseView D) (now : ℕ) (old new : HousePass D) (jobs : List Job) (own : List Entry) (result : WorkResult)
        → IsOfHouse (calls_of tells seen moment left_since may_leave faults house) now old new jobs own result
        → map (λ (h : Handed). h.reply) (handed_in result) ≡ map reply_in (answered_by result own)
    handed_of house now old new jobs own (Replied handed) h =
        h.answers.serves.told ∙ ap (map reply_in) (sym h.answers.own_is)
    handed_of house now old new jobs own Lost h = refl
    handed_of house now old new jobs own (Refused fault) h = refl

    pub replies_along : (house : HouseView D) (calls : List WorkCall) (a b : WorkState (HousePass D))
        → DoesCalls (calls_of tells seen moment left_since may_leave faults house) calls a b
        → HandsReplies (answered_in calls) (out_of a) (out_of b)
    replies_along house [] a b does =
        subst (λ (s : WorkState (HousePass D)). HandsReplies [] (out_of a) (out_of s)) (sym does)
        (hands_nothing (out_of a))
    replies_along house (c ∷ cs) a b does =
        let mid = does.0 in
        let one = does.1 in
        let rest = replies_along house cs mid b does.2 in
        record {
          handed = handed_in c.result ++ rest.handed;
          replies = map-append (λ (h : Handed). h.reply) (handed_in c.result) rest.handed
              ∙ (ap (λ (l : List Datagram). l ++ map (λ (h : Handed). h.reply) rest.handed)
              (handed_of house (c.time / 1000) a.pass mid.pass c.jobs c.own c.result one.by_house)
              ∙ (ap (λ (l : List Datagram). map reply_in (answered_by c.result c.own) ++ l) rest.replies
              ∙ sym (map-append reply_in (answered_by c.result c.own) (answered_in cs))));
          all = HandsAll-append (handed_in c.result) rest.handed a.sent mid.sent b.sent a.faults mid.faults b.faults
              (handed_all c.result a.sent mid.sent a.faults mid.faults one.sent one.faults one.later) rest.all;
        }
