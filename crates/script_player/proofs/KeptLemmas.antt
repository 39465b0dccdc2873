-- What a crash may leave of a run, by its status.
use Rattle.std.proofs.Common.{◌≡◌, ℕ, List, [], ◌∷◌, ◌++◌, length, take, drop, flat_map, sym, ap, subst, ◌∙◌, inl, inr, arith, append_assoc, append-nil, length-append, take-append-drop}
use Rattle.std.specs.Io.KnownBytes.{append_known}
use Rattle.pcp_io.proofs.KnownOctets.{append_known-append}
use Rattle.script_player.specs.Houses.{houses_along, out_of}
use Rattle.script_player.specs.Played.{AreAnswered, EndsInDoubt, HasRun, IsKept, IsOver, IsPlayed, Outcome, Streams}
use Rattle.script_player.specs.Scripts.{AreFirst, AreLines, ended}
use Rattle.script_player.specs.Ways.{Course}
use Rattle.script_player.specs.declared.player.PlayStatus.{PlayStatus}
use Rattle.script_player.specs.declared.player.PlayStatus.TheVariants as Statuses
use Rattle.script_player.proofs.HouseLemmas.{out_of-push}

module _ {House : Type 0} (course : Course House) (script : List ℕ) (before now : Streams) (outcome : Outcome) (held_is : now.held ≡ append_known before.held outcome.written) where
  -- all results are written, but for these octets
  all_but : (out unsaid : List ℕ) → outcome.written ++ unsaid ≡ out → append_known now.held unsaid ≡ append_known before.held out
  all_but out unsaid same =
      ap (λ known. append_known known unsaid) held_is ∙ append_known-append before.held outcome.written unsaid ∙ ap (append_known before.held) same

  all_said : (out : List ℕ) → outcome.written ≡ out → append_known now.held [] ≡ append_known before.held out
  all_said out same = all_but out [] (append-nil outcome.written ∙ same)

  answered_kept : (texts : List (List ℕ)) (rest : List ℕ) → AreFirst script rest texts → AreAnswered course texts outcome.written → IsKept course script before now
  answered_kept texts rest first a =
      let none : a.lines ++ [] ≡ a.lines = append-nil a.lines in
      record {
        texts = texts;
        rest = rest;
        first = first;
        lines = a.lines;
        next = [];
        few = omega arith;
        read = subst (λ lines. AreLines (course.effects.externals course.begun) texts lines) (sym none) a.done.read;
        unsaid = [];
        held_is = all_said (out_of course.effects course.begun a.lines) a.results;
        over = subst (λ lines. course.over (houses_along course.effects course.begun lines)) (sym none) a.done.over;
        at_end = a.done.at_end;
      }

  in_doubt_kept : EndsInDoubt course script outcome → IsKept course script before now
  in_doubt_kept d = record {
    texts = d.texts ++ d.text ∷ [];
    rest = d.rest;
    first = d.first;
    lines = d.lines;
    next = d.line ∷ [];
    few = omega arith;
    read = d.lines_read;
    unsaid = [];
    held_is = all_said (out_of course.effects course.begun d.lines) d.results;
    over = d.over;
    at_end = d.at_end;
  }

  kept : (status : PlayStatus) → IsPlayed course script outcome status → IsKept course script before now
  kept Statuses.Done p = answered_kept p.texts [] p.first p.answered
  kept (Statuses.ScriptRefused n) p = answered_kept p.texts (p.text ++ p.tail) p.first p.answered
  kept Statuses.ReadFault p =
      let rest = p.part ++ outcome.left in
      let spelled : script ≡ flat_map ended p.texts ++ rest = p.spelled ∙ append_assoc (flat_map ended p.texts) p.part outcome.left in
      answered_kept p.texts rest
      (record {
        unbroken = p.unbroken;
        spelled = inl spelled;
        few = omega (arith, ap length spelled, length-append (flat_map ended p.texts) rest, length-append p.part outcome.left, p.few);
      }) p.answered
  kept Statuses.WriteFault p =
      let lines = p.lines ++ p.line ∷ [] in
      let none : lines ++ [] ≡ lines = append-nil lines in
      let out = out_of course.effects course.begun p.lines in
      let whole : outcome.written ++ drop p.taken p.result ≡ out_of course.effects course.begun lines =
      ap (λ xs. xs ++ drop p.taken p.result) p.written_is
      ∙ append_assoc out (take p.taken p.result) (drop p.taken p.result)
      ∙ ap (λ xs. out ++ xs) (take-append-drop p.taken p.result ∙ p.result_is)
      ∙ sym (out_of-push course.effects course.begun p.lines p.line) in
      record {
        texts = p.texts ++ p.text ∷ [];
        rest = p.rest;
        first = p.first;
        lines = lines;
        next = [];
        few = omega arith;
        read = subst (λ ls. AreLines (course.effects.externals course.begun) (p.texts ++ p.text ∷ []) ls) (sym none) p.done.read;
        unsaid = drop p.taken p.result;
        held_is = all_but (out_of course.effects course.begun lines) (drop p.taken p.result) whole;
        over = subst (λ ls. course.over (houses_along course.effects course.begun ls)) (sym none) p.done.over;
        at_end = p.done.at_end;
      }
  kept (Statuses.DiskFault shard) p = in_doubt_kept p
  kept Statuses.Memory (inl e) = answered_kept e.texts e.rest e.first e.answered
  kept Statuses.Memory (inr d) = in_doubt_kept d

-- whatever the status
pub has_run : {House : Type 0} (course : Course House) (script : List ℕ) (before now : Streams) (status : PlayStatus) →
    IsOver course script before now status → HasRun course before now status
has_run course script before now status o =
    record { script = script; over = o; kept = kept course script before now o.outcome o.held_is status o.played }
