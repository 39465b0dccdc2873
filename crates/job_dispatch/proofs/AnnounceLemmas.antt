-- What is announced.
use Rattle.std.proofs.Common.{◌≡◌, ℕ, Bool, true, false, List, [], map, Option, None, Some, refl, sym, ap, ◌∙◌, inl, arith, if◌then◌else◌}
use Rattle.pcp_base.specs.declared.datagrams.Datagram.{Datagram}
use Rattle.pcp_io.specs.Times.{IsTimeNow}
use Rattle.pcp_announce.specs.declared.doors.Group.{Group}
use Rattle.pcp_announce.specs.Schedules.{Schedule, after_due, after_seen, announcement, is_due}
use Rattle.pcp_io.specs.Sends.{sent_with}
use Rattle.std.proofs.lemmas.List.{append-nil}
use Rattle.job_workers.specs.HouseCalls.{HouseCalls, IsTold}
use Rattle.job_workers.specs.Sends.{Handed, TellsAll, to_all}
use Rattle.job_dispatch.specs.Announcing.{AnnounceState, Announces, due_to}

sent_with-nil : (before : Option (List Datagram)) → sent_with before [] ≡ before
sent_with-nil None = refl
sent_with-nil (Some ds) = ap Some (append-nil ds)

due_if : (groups : List Group) (port : ℕ) (s : Schedule) (time : ℕ) (b : Bool) (octets old : List ℕ) (ds : List Datagram) → b ≡ true
    → octets ≡ (if b then announcement s time else old) → ds ≡ to_all groups port octets → ds ≡ (if b then to_all groups port (announcement s time) else [])
due_if groups port s time true octets old ds is head told = told ∙ ap (to_all groups port) head
due_if groups port s time false octets old ds is head told = absurd (let e : false ≡ true = is in cc)

none_if : (groups : List Group) (port : ℕ) (s : Schedule) (time : ℕ) (b : Bool) → b ≡ false → [] ≡ (if b then to_all groups port (announcement s time) else [])
none_if groups port s time false is = refl
none_if groups port s time true is = absurd (let e : true ≡ false = is in cc)

-- an announcement was due
pub announces_due : {P : Type 0} (house : HouseCalls P) (groups : List Group) (port : ℕ) (old new : AnnounceState P) (base time : ℕ) (s : Schedule) (octets before : List ℕ)
    → IsTold house old.pass new.pass base → IsTimeNow old.times new.times time → s ≡ after_seen old.schedule base time → new.schedule ≡ after_due s time
    → is_due s time ≡ true → octets ≡ (if is_due s time then announcement s time else before)
    → TellsAll groups port octets old.sent new.sent old.faults new.faults → Announces house groups port time old new
announces_due house groups port old new base time s octets before told clock seen made due head tells = record {
  base = base;
  told = told;
  clock = clock;
  schedule = made ∙ ap (λ (x : Schedule). after_due x time) seen;
  handed = tells.handed;
  announcements = due_if groups port s time (is_due s time) octets before (map (λ (h : Handed). h.reply) tells.handed) due head tells.told
      ∙ ap (λ (x : Schedule). due_to groups port x time) seen;
  sends = tells.sends;
}

-- none was
pub announces_none : {P : Type 0} (house : HouseCalls P) (groups : List Group) (port : ℕ) (old new : AnnounceState P) (base time : ℕ) (s : Schedule)
    → IsTold house old.pass new.pass base → IsTimeNow old.times new.times time → s ≡ after_seen old.schedule base time → new.schedule ≡ after_due s time
    → is_due s time ≡ false → new.sent ≡ old.sent → new.faults ≡ old.faults → Announces house groups port time old new
announces_none house groups port old new base time s told clock seen made due same faults = record {
  base = base;
  told = told;
  clock = clock;
  schedule = made ∙ ap (λ (x : Schedule). after_due x time) seen;
  handed = [];
  announcements = none_if groups port s time (is_due s time) due ∙ ap (λ (x : Schedule). due_to groups port x time) seen;
  sends = record { sent = same ∙ sym (sent_with-nil old.sent); faults = inl (omega (arith, faults)); later = omega (arith, faults) };
}
