-- How a run over a script goes on over one line, or ends at it.
use Rattle.std.proofs.Common.{◌≡◌, ℕ, ◌+◌, ◌≤◌, List, [], ◌∷◌, ◌++◌, length, take, Option, None, Some, Result, Ok, Err, refl, sym, ap, subst, ◌∙◌, inl, inr, arith, append_assoc, append-nil, length-append}
use Rattle.std.specs.Io.KnownBytes.{append_known, prepend_known}
use Rattle.pcp_io.proofs.KnownOctets.{append_known-append}
use Rattle.pcp_io.specs.Writes.{WritesPart}
use Rattle.pcp_script.specs.Lines.{IsLine}
use Rattle.pcp_script.specs.declared.lines.Line.{Line}
use Rattle.script_player.specs.Houses.{LineEffects, after_lines, houses_along, line_out, out_of}
use Rattle.script_player.specs.Played.{AreAnswered, AreDone, EndsInDoubt, HasRun, IsOver, Streams}
use Rattle.script_player.specs.Playing.{Answers, Fails, IsDone, IsInDoubt, IsStill, IsTurned, IsUnderway, script_limits, status_at}
use Rattle.script_player.specs.Reading.{Reading, Ends, Stops, EndsByFeed}
use Rattle.script_player.specs.Scripts.{AreLines}
use Rattle.script_player.specs.Ways.{Course, WayLaws, course_of}
use Rattle.script_player.specs.declared.faults.LineFault.{LineFault}
use Rattle.script_player.specs.declared.faults.LineFault.TheVariants as Faults
use Rattle.script_player.specs.declared.player.PlayStatus.{PlayStatus}
use Rattle.script_player.specs.declared.player.PlayStatus.TheVariants as Statuses
use Rattle.script_player.specs.declared.readers.Ending.{Ending}
use Rattle.script_player.specs.declared.readers.Ending.TheVariants as Endings
use Rattle.script_player.specs.declared.readers.Limits.{Limits}
use Rattle.script_player.proofs.HouseLemmas.{AllZip-push, after_lines-push, along_more, along_still, externals_after, out_of-push}
use Rattle.script_player.proofs.KeptLemmas.{has_run}
use Rattle.script_player.proofs.ScriptLemmas.{ReadsAll, ReadsFew-weaker, ReadsLine, goes_by_feed, reads_all, reads_by_feed, reads_early, reads_last, reads_part, reads_refused}

module _ {A House : Type 0} (effects : LineEffects House) (house : A → House) (way : A → A → List House → Type 0) (laws : WayLaws way)
    (same_externals : (h : House) (line : Line) → effects.externals (effects.after h line) ≡ effects.externals h)
    (first mid : A) (before : Streams) (number : ℕ) (reading : Reading) (streams : Streams)
    (u : IsUnderway (course_of effects house way first mid) before number reading streams) where
  -- the house at the beginning, and that after the lines so far
  abbrev begun : House
  begun = house first

  abbrev last : House
  last = after_lines effects begun u.lines

  abbrev lines_out : List ℕ
  lines_out = out_of effects begun u.lines

  -- which external addresses there are
  same_so_far : effects.externals (house mid) ≡ effects.externals begun
  same_so_far = ap effects.externals u.house ∙ externals_after effects same_externals begun u.lines

  lines_more : (text : List ℕ) (line : Line) → IsLine (effects.externals (house mid)) text line →
      AreLines (effects.externals begun) (u.texts ++ text ∷ []) (u.lines ++ line ∷ [])
  lines_more text line read =
      AllZip-push (IsLine (effects.externals begun)) u.texts u.lines text line u.read
      (subst (λ externals. IsLine externals text line) same_so_far read)

  -- nothing was done since
  still : (new : A) → IsStill (course_of effects house way mid new) → AreDone (course_of effects house way first new) u.texts u.lines
  still new s = record {
    read = u.read;
    house = s.house ∙ u.house;
    over = laws.weaker first new (houses_along effects begun u.lines ++ last ∷ []) (houses_along effects begun u.lines) (along_still effects begun u.lines)
        (laws.joins first mid new (houses_along effects begun u.lines) (last ∷ []) u.over (subst (λ h. way mid new (h ∷ [])) u.house s.over));
    at_end = subst (λ h. way new new (h ∷ [])) u.house s.at_end;
  }

  answered : (new : A) → IsStill (course_of effects house way mid new) → AreAnswered (course_of effects house way first new) u.texts lines_out
  answered new s = record { lines = u.lines; done = still new s; results = refl }

  -- one more line may have been answered
  over_more : (new : A) (line : Line) → way mid new (house mid ∷ effects.after (house mid) line ∷ []) →
      way first new (houses_along effects begun (u.lines ++ line ∷ []))
  over_more new line w =
      laws.weaker first new (houses_along effects begun u.lines ++ last ∷ effects.after last line ∷ []) (houses_along effects begun (u.lines ++ line ∷ [])) (along_more effects begun u.lines line)
      (laws.joins first mid new (houses_along effects begun u.lines) (last ∷ effects.after last line ∷ []) u.over (subst (λ h. way mid new (h ∷ effects.after h line ∷ [])) u.house w))

  -- the house after one more line
  one_more : (line : Line) → effects.after (house mid) line ≡ after_lines effects begun (u.lines ++ line ∷ [])
  one_more line = ap (λ h. effects.after h line) u.house ∙ sym (after_lines-push effects begun u.lines line)

  more : (new : A) (text : List ℕ) (line : Line) → IsDone (course_of effects house way mid new) text line →
      AreDone (course_of effects house way first new) (u.texts ++ text ∷ []) (u.lines ++ line ∷ [])
  more new text line d = record {
    read = lines_more text line d.read;
    house = d.house ∙ one_more line;
    over = over_more new line d.over;
    at_end = subst (λ h. way new new (h ∷ [])) (one_more line) d.at_end;
  }

  -- one more line is written
  written_more : (line : Line) (now : Option (List ℕ)) →
      now ≡ append_known streams.held (line_out (effects.result_of (house mid) line)) → now ≡ append_known before.held (out_of effects begun (u.lines ++ line ∷ []))
  written_more line now h =
      h ∙ ap (λ x. append_known streams.held (line_out (effects.result_of x line))) u.house
      ∙ ap (λ known. append_known known (line_out (effects.result_of last line))) u.held_is
      ∙ append_known-append before.held lines_out (line_out (effects.result_of last line))
      ∙ ap (append_known before.held) (sym (out_of-push effects begun u.lines line))

  goes_on : (new : A) (text : List ℕ) (reading' : Reading) (left' held' : Option (List ℕ)) → reading'.limits ≡ reading.limits → EndsByFeed script_limits reading reading' streams.left left' text
      → Answers (course_of effects house way mid new) text streams.held held' → IsUnderway (course_of effects house way first new) before (number + 1) reading' (record { left = left'; held = held' })
  goes_on new text reading' left' held' limits e a =
      let goes = goes_by_feed before.left u.texts reading streams.left u.unbroken u.script_is u.used text reading' left' e in
      let done = more new text a.line a.done in
      record {
        limited = limits ∙ u.limited;
        texts = u.texts ++ text ∷ [];
        lines = u.lines ++ a.line ∷ [];
        read = done.read;
        unbroken = goes.2;
        count = omega (arith, u.count, length-append u.texts (text ∷ []));
        script_is = goes.0;
        used = goes.1;
        house = done.house;
        over = done.over;
        held_is = written_more a.line held' a.held_is;
      }

  -- a run over, of which this was written beside what was held
  held_same : (held' : Option (List ℕ)) → held' ≡ streams.held → held' ≡ append_known before.held lines_out
  held_same held' same = same ∙ u.held_is

  -- what was done, over this script
  ran : (new : A) (script : List ℕ) (left' held' : Option (List ℕ)) (status : PlayStatus) → IsOver (course_of effects house way first new) script before (record { left = left'; held = held' }) status
      → HasRun (course_of effects house way first new) before (record { left = left'; held = held' }) status
  ran new script left' held' status o = has_run (course_of effects house way first new) script before (record { left = left'; held = held' }) status o

  ends_all : (new : A) (left' held' : Option (List ℕ)) → ReadsAll before.left u.texts left' → held' ≡ streams.held → IsStill (course_of effects house way mid new)
      → HasRun (course_of effects house way first new) before (record { left = left'; held = held' }) Statuses.Done
  ends_all new left' held' r same s = ran new r.script left' held' Statuses.Done (record {
    outcome = record { left = []; written = lines_out };
    left_is = r.leaves;
    held_is = held_same held' same;
    played = record { texts = u.texts; first = r.first; read = refl; answered = answered new s };
  })

  -- the last line, which has no line feed, is answered
  ends_last : (new : A) (text : List ℕ) (left' held' : Option (List ℕ)) → ReadsAll before.left (u.texts ++ text ∷ []) left' → Answers (course_of effects house way mid new) text streams.held held'
      → HasRun (course_of effects house way first new) before (record { left = left'; held = held' }) Statuses.Done
  ends_last new text left' held' r a = ran new r.script left' held' Statuses.Done (record {
    outcome = record { left = []; written = out_of effects begun (u.lines ++ a.line ∷ []) };
    left_is = r.leaves;
    held_is = written_more a.line held' a.held_is;
    played = record {
      texts = u.texts ++ text ∷ [];
      first = r.first;
      read = refl;
      answered = record { lines = u.lines ++ a.line ∷ []; done = more new text a.line a.done; results = refl };
    };
  })

  -- the next line may have been answered, and nothing of its result is written
  in_doubt : (new : A) (text : List ℕ) (left' : Option (List ℕ)) → (r : ReadsLine before.left u.texts text left') → IsInDoubt (course_of effects house way mid new) text
      → EndsInDoubt (course_of effects house way first new) r.script (record { left = r.now; written = lines_out })
  in_doubt new text left' r d = record {
    texts = u.texts;
    text = text;
    lines = u.lines;
    line = d.line;
    rest = r.rest;
    first = r.first;
    read = r.read;
    lines_read = lines_more text d.line d.read;
    results = refl;
    over = over_more new d.line d.over;
    at_end = subst (λ h. way new new (h ∷ effects.after h d.line ∷ [])) u.house d.at_end;
  }

  -- a line that was read whole fails
  fails : (new : A) (text : List ℕ) (left' held' : Option (List ℕ)) (fault : LineFault) → ReadsLine before.left u.texts text left' → length text ≤ 8192
      → Fails (course_of effects house way mid new) text streams.held held' fault
      → HasRun (course_of effects house way first new) before (record { left = left'; held = held' }) (status_at number fault)
  fails new text left' held' Faults.Read r short h = absurd h
  fails new text left' held' Faults.NotLine r short h = ran new r.script left' held' (Statuses.ScriptRefused number) (record {
    outcome = record { left = r.now; written = lines_out };
    left_is = r.leaves;
    held_is = held_same held' h.1;
    played = record {
      texts = u.texts;
      text = text;
      tail = r.tail;
      first = r.before;
      number = u.count;
      refused = record {
        unbroken = r.unbroken;
        whole = r.whole;
        some = r.some;
        refused = inr (inr (subst (λ externals. (line : Line) → ¬ (IsLine externals text line)) same_so_far h.0));
      };
      read = r.read;
      answered = answered new h.2;
    };
  })
  fails new text left' held' Faults.Write r short h =
      let a = h in
      let result = line_out (effects.result_of last a.line) in
      let part : WritesPart streams.held held' result = subst (λ x. WritesPart streams.held held' (line_out (effects.result_of x a.line))) u.house a.part in
      ran new r.script left' held' Statuses.WriteFault (record {
        outcome = record { left = r.now; written = lines_out ++ take part.taken result };
        left_is = r.leaves;
        held_is = part.front ∙ ap (λ known. append_known known (take part.taken result)) u.held_is ∙ append_known-append before.held lines_out (take part.taken result);
        played = record {
          texts = u.texts;
          text = text;
          lines = u.lines;
          line = a.line;
          rest = r.rest;
          first = r.first;
          read = r.read;
          done = more new text a.line a.done;
          result = result;
          result_is = refl;
          taken = part.taken;
          short = part.short;
          written_is = refl;
        };
      })
  fails new text left' held' (Faults.Disk shard) r short h = ran new r.script left' held' (Statuses.DiskFault shard) (record {
    outcome = record { left = r.now; written = lines_out };
    left_is = r.leaves;
    held_is = held_same held' h.1;
    played = in_doubt new text left' r h.0;
  })
  fails new text left' held' Faults.Memory r short h = ran new r.script left' held' Statuses.Memory (record {
    outcome = record { left = r.now; written = lines_out };
    left_is = r.leaves;
    held_is = held_same held' h.1;
    played = elim h.0 [
      | inl s ↦ inl (record {
        texts = u.texts;
        rest = text ++ r.tail;
        first = r.before;
        read = ReadsFew-weaker r.script r.now u.texts _ _ r.read (omega (arith, short));
        answered = answered new s;
      })
      | inr d ↦ inr (in_doubt new text left' r d)
    ];
  })

  still_here : way mid mid (house mid ∷ []) → IsStill (course_of effects house way mid mid)
  still_here rests = record { house = refl; over = rests; at_end = rests }

  -- the reader tells a fault
  stops : (text : List ℕ) (reading' : Reading) (left' : Option (List ℕ)) (fault : LineFault) → way mid mid (house mid ∷ [])
      → Stops script_limits reading reading' streams.left left' text fault
      → HasRun (course_of effects house way first mid) before (record { left = left'; held = streams.held }) (status_at number fault)
  stops text reading' left' Faults.Read rests e =
      let r = reads_part before.left u.texts reading streams.left u.unbroken u.script_is u.used text reading' left' e in
      ran mid r.script left' streams.held Statuses.ReadFault (record {
        outcome = record { left = r.now; written = lines_out };
        left_is = r.leaves;
        held_is = u.held_is;
        played = record {
          texts = u.texts;
          part = text;
          spelled = r.spelled;
          unbroken = u.unbroken;
          unended = e.uses.unbroken;
          short = e.short;
          few = r.few;
          answered = answered mid (still_here rests);
        };
      })
  stops text reading' left' Faults.NotLine rests e =
      let r = reads_refused before.left u.texts reading streams.left u.unbroken u.script_is u.used (effects.externals begun) text reading' left' e in
      ran mid r.script left' streams.held (Statuses.ScriptRefused number) (record {
        outcome = record { left = r.now; written = lines_out };
        left_is = r.leaves;
        held_is = u.held_is;
        played = record {
          texts = u.texts;
          text = r.text;
          tail = r.tail;
          first = r.first;
          number = u.count;
          refused = r.refused;
          read = r.read;
          answered = answered mid (still_here rests);
        };
      })
  stops text reading' left' Faults.Write rests e = absurd e
  stops text reading' left' (Faults.Disk shard) rests e = absurd e
  stops text reading' left' Faults.Memory rests e =
      let r = reads_early before.left u.texts reading streams.left u.unbroken u.script_is u.used text reading' left' e in
      ran mid r.script left' streams.held Statuses.Memory (record {
        outcome = record { left = r.now; written = lines_out };
        left_is = r.leaves;
        held_is = u.held_is;
        played = inl (record {
          texts = u.texts;
          rest = r.rest;
          first = r.first;
          read = r.read;
          answered = answered mid (still_here rests);
        });
      })

  pub stops_at : (text : List ℕ) (reading' : Reading) (left' : Option (List ℕ)) (fault : LineFault) (result : Result Ending LineFault) → way mid mid (house mid ∷ [])
      → result ≡ Err fault → Stops reading.limits reading reading' streams.left left' text fault
      → IsTurned (course_of effects house way first mid) before number reading' (record { left = left'; held = streams.held }) result
  stops_at text reading' left' fault result rests same h =
      rw same (stops text reading' left' fault rests (subst (λ (l : Limits). Stops l reading reading' streams.left left' text fault) u.limited h))

  -- there was no further line
  pub ends_at : (text : List ℕ) (reading' : Reading) (left' : Option (List ℕ)) (ending : Ending) → way mid mid (house mid ∷ [])
      → ending ≡ Endings.End → Ends reading.limits reading reading' streams.left left' text ending
      → IsTurned (course_of effects house way first mid) before number reading' (record { left = left'; held = streams.held }) (Ok ending)
  ends_at text reading' left' ending rests same h =
      rw same (ends_all mid left' streams.held
      (reads_all before.left u.texts reading streams.left u.unbroken u.script_is u.used text reading' left'
      (rw same at (subst (λ (l : Limits). Ends l reading reading' streams.left left' text ending) u.limited h))) refl (still_here rests))

  -- the line is answered
  answers : (new : A) (text : List ℕ) (reading' : Reading) (left' held' : Option (List ℕ)) (ending : Ending) → ¬ (ending ≡ Endings.End) → reading'.limits ≡ reading.limits
      → Ends script_limits reading reading' streams.left left' text ending → Answers (course_of effects house way mid new) text streams.held held'
      → IsTurned (course_of effects house way first new) before number reading' (record { left = left'; held = held' }) (Ok ending)
  answers new text reading' left' held' Endings.Feed other limits e a = goes_on new text reading' left' held' limits e a
  answers new text reading' left' held' Endings.Last other limits e a =
      ends_last new text left' held' (reads_last before.left u.texts reading streams.left u.unbroken u.script_is u.used text reading' left' e).0 a
  answers new text reading' left' held' Endings.End other limits e a = absurd (other refl)

  pub answers_at : (new : A) (text text' : List ℕ) (reading' : Reading) (left' held' : Option (List ℕ)) (ending : Ending) → ¬ (ending ≡ Endings.End) → text' ≡ text → reading'.limits ≡ reading.limits
      → Ends reading.limits reading reading' streams.left left' text ending → Answers (course_of effects house way mid new) text' streams.held held'
      → IsTurned (course_of effects house way first new) before number reading' (record { left = left'; held = held' }) (Ok ending)
  answers_at new text text' reading' left' held' ending other same limits e a =
      answers new text reading' left' held' ending other limits
      (subst (λ (l : Limits). Ends l reading reading' streams.left left' text ending) u.limited e)
      (subst (λ (xs : List ℕ). Answers (course_of effects house way mid new) xs streams.held held') same a)

  -- it fails
  fails_by : (new : A) (text : List ℕ) (reading' : Reading) (left' held' : Option (List ℕ)) (ending : Ending) (fault : LineFault) → ¬ (ending ≡ Endings.End)
      → Ends script_limits reading reading' streams.left left' text ending → Fails (course_of effects house way mid new) text streams.held held' fault
      → HasRun (course_of effects house way first new) before (record { left = left'; held = held' }) (status_at number fault)
  fails_by new text reading' left' held' Endings.Feed fault other e h =
      fails new text left' held' fault (reads_by_feed before.left u.texts reading streams.left u.unbroken u.script_is u.used text reading' left' e) e.short h
  fails_by new text reading' left' held' Endings.Last fault other e h =
      fails new text left' held' fault (reads_last before.left u.texts reading streams.left u.unbroken u.script_is u.used text reading' left' e).1 e.short h
  fails_by new text reading' left' held' Endings.End fault other e h = absurd (other refl)

  pub fails_at : (new : A) (text text' : List ℕ) (reading' : Reading) (left' held' : Option (List ℕ)) (ending : Ending) (fault : LineFault) (result : Result Ending LineFault) → ¬ (ending ≡ Endings.End)
      → result ≡ Err fault → text' ≡ text → Ends reading.limits reading reading' streams.left left' text ending → Fails (course_of effects house way mid new) text' streams.held held' fault
      → IsTurned (course_of effects house way first new) before number reading' (record { left = left'; held = held' }) result
  fails_at new text text' reading' left' held' ending fault result other same same_text e h =
      rw same (fails_by new text reading' left' held' ending fault other
      (subst (λ (l : Limits). Ends l reading reading' streams.left left' text ending) u.limited e)
      (subst (λ (xs : List ℕ). Fails (course_of effects house way mid new) xs streams.held held' fault) same_text h))

nothing_used : (known : Option (List ℕ)) → known ≡ prepend_known [] (prepend_known [] known)
nothing_used None = refl
nothing_used (Some xs) = refl

nothing_written : (known : Option (List ℕ)) → known ≡ append_known known []
nothing_written None = refl
nothing_written (Some xs) = ap Some (sym (append-nil xs))

-- before the first line
pub begins : {House : Type 0} (course : Course House) (before : Streams) (reading : Reading) →
    course.ended ≡ course.begun → course.over (course.begun ∷ []) → reading ≡ record { pending = []; used = 0; limits = script_limits } →
    IsUnderway course before 1 reading before
begins course before reading same over r = rw r (record {
  limited = refl;
  texts = [];
  lines = [];
  read = tt;
  unbroken = tt;
  count = refl;
  script_is = nothing_used before.left;
  used = refl;
  house = same;
  over = over;
  held_is = nothing_written before.held;
})

-- behind a line that ended by its line feed
pub goes_on_at : {House : Type 0} (course : Course House) (before : Streams) (number : ℕ) (reading : Reading) (now : Streams) (ending : Ending) →
    ending ≡ Endings.Feed → IsTurned course before number reading now (Ok ending) → IsUnderway course before (number + 1) reading now
goes_on_at course before number reading now ending same h = rw same at h

-- behind any other
pub has_run_at : {House : Type 0} (course : Course House) (before : Streams) (number : ℕ) (reading : Reading) (now : Streams) (ending : Ending) →
    ¬ (ending ≡ Endings.Feed) → IsTurned course before number reading now (Ok ending) → HasRun course before now Statuses.Done
has_run_at course before number reading now Endings.Feed other h = absurd (other refl)
has_run_at course before number reading now Endings.Last other h = h
has_run_at course before number reading now Endings.End other h = h
