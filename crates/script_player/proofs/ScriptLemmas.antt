-- What is known of a script after one more line of it was read, or not.
use Rattle.std.proofs.Common.{◌≡◌, ◌≢◌, ℕ, ◌+◌, ◌<◌, ◌≤◌, ◌^◌, List, [], ◌∷◌, ◌++◌, length, flat_map, slice_get, Option, Some, None, refl, sym, ap, subst, ◌∙◌, inl, inr, ◌⊎◌, arith, append_assoc, append-nil, length-append, length-drop}
use Rattle.std.specs.List.{AllByRecursion}
use Rattle.std.specs.Io.KnownBytes.{prepend_known, IsAtEnd}
use Rattle.pcp_base.specs.declared.configs.External.{External}
use Rattle.pcp_io.proofs.KnownOctets.{prepend_known-append}
use Rattle.pcp_script.specs.Lines.{IsLine}
use Rattle.pcp_script.specs.declared.lines.Line.{Line}
use Rattle.script_player.specs.Played.{IsRefused, LeavesOf, ReadsFew, most_for, octets_through}
use Rattle.script_player.specs.Playing.{script_limits}
use Rattle.script_player.specs.Reading.{Reading, rest_of, EndsAll, EndsByFeed, EndsLast, StopsRefusing, StopsForMemory, StopsReading}
use Rattle.script_player.specs.Scripts.{AreFirst, IsUnbroken, ended}
use Rattle.script_player.specs.declared.readers.TheConstants.{PIECE}
use Rattle.script_player.proofs.FeedLemmas.{AllUnbroken-push, flat_map-ended-push, IsUnbroken-append, splits}

-- What is known of a script: this front of it was used, these octets are pending, and then comes what the source has left. Where
-- that tells nothing, it may be nothing.
pub record Told (front pending : List ℕ) (old left : Option (List ℕ)) : Type 0 where
  pub script : List ℕ
  pub now : List ℕ
  pub leaves : LeavesOf script now old left
  pub rest : List ℕ
  pub rest_is : rest ≡ pending ++ now
  pub spelled : script ≡ front ++ rest
  pub all : IsAtEnd left → now ≡ []

told : (front pending : List ℕ) (old left : Option (List ℕ)) → old ≡ prepend_known front (prepend_known pending left) → Told front pending old left
told front pending old None h = record {
  script = front ++ (pending ++ []);
  now = [];
  leaves = inr (h, refl);
  rest = pending ++ [];
  rest_is = refl;
  spelled = refl;
  all = λ ends. refl;
}
told front pending old (Some left) h = record {
  script = front ++ (pending ++ left);
  now = left;
  leaves = inl (h, refl);
  rest = pending ++ left;
  rest_is = refl;
  spelled = refl;
  all = λ ends. ends;
}

-- with nothing pending, at the end of the source
nothing_left : {front pending : List ℕ} {old left : Option (List ℕ)} → (t : Told front pending old left) → pending ≡ [] → IsAtEnd left → (t.now ≡ []) × (t.rest ≡ [])
nothing_left t none ends = (t.all ends, t.rest_is ∙ ap (λ xs. xs ++ t.now) none ∙ t.all ends)

has_octets : (xs : List ℕ) → xs ≢ [] → 0 < length xs
has_octets [] h = absurd (h refl)
has_octets (x ∷ xs) h = omega arith

not_empty : (xs : List ℕ) → 0 < length xs → xs ≢ []
not_empty xs h none = let zero_long : length xs ≡ 0 = ap length none in absurd (omega arith)

-- what is pending is left
pending_left : {front pending : List ℕ} {old left : Option (List ℕ)} → (t : Told front pending old left) → pending ≢ [] → 0 < length t.rest
pending_left {front} {pending} t some = omega (arith, ap length t.rest_is, length-append pending t.now, has_octets pending some)

-- a line that is refused by its length, or by the script's, has an octet or its line feed
too_long_some : (text front back : List ℕ) {rest : List ℕ} → (length text ≡ 8193) ⊎ (0 < length rest) → rest ≡ front ++ back → ((text ++ front) ≢ []) ⊎ (back ≢ [])
too_long_some text front [] (inl long) e = inl (not_empty (text ++ front) (omega (arith, length-append text front)))
too_long_some text front (y ∷ back) (inl long) e = inl (not_empty (text ++ front) (omega (arith, length-append text front)))
too_long_some text front [] (inr past) e = inl (not_empty (text ++ front) (omega (arith, ap length e, length-append front [], length-append text front)))
too_long_some text front (y ∷ back) (inr past) e = inr (not_empty (y ∷ back) (omega arith))

too_long_refused : (externals : List External) (script text front back rest : List ℕ) → rest ≡ front ++ back → (length text ≡ 8193) ⊎ ((0 < length rest) × (length script ≡ 2 ^ 30 + length rest))
    → (8192 < length (text ++ front)) ⊎ ((2 ^ 30 < octets_through script back) ⊎ ((line : Line) → ¬ (IsLine externals (text ++ front) line)))
too_long_refused externals script text front back rest e (inl long) = inl (omega (arith, length-append text front))
too_long_refused externals script text front back rest e (inr past) =
    inr (inl (omega (arith, past.0, past.1, ap length e, length-append front back, length-drop 1 back)))

most_for-longer : (text front : List ℕ) → length text ≤ 8193 → length text + PIECE ≤ most_for (text ++ front)
most_for-longer text front short = omega (arith, short, length-append text front)

length-ended : (text : List ℕ) → length (ended text) ≡ length text + 1
length-ended text = length-append text (10 ∷ [])

pub ReadsFew-weaker : (script left : List ℕ) (texts : List (List ℕ)) (most more : ℕ) → ReadsFew script left texts most → most ≤ more → ReadsFew script left texts more
ReadsFew-weaker script left texts most more r le = record { ahead = r.ahead; spelled = r.spelled; few = omega (arith, r.few, le) }

-- the next line was read whole, by its line feed or as the last one
pub record ReadsLine (old : Option (List ℕ)) (texts : List (List ℕ)) (text : List ℕ) (left : Option (List ℕ)) : Type 0 where
  pub script : List ℕ
  pub now : List ℕ
  pub leaves : LeavesOf script now old left
  pub read : ReadsFew script now texts (most_for text)
  -- with it
  pub rest : List ℕ
  pub first : AreFirst script rest (texts ++ text ∷ [])
  -- up to it
  pub tail : List ℕ
  pub before : AreFirst script (text ++ tail) texts
  pub unbroken : IsUnbroken text
  pub whole : (tail ≡ []) ⊎ (slice_get tail 0 ≡ Some 10)
  pub some : (text ≢ []) ⊎ (tail ≢ [])

-- the script was read to its end
pub record ReadsAll (old : Option (List ℕ)) (texts : List (List ℕ)) (left : Option (List ℕ)) : Type 0 where
  pub script : List ℕ
  pub leaves : LeavesOf script [] old left
  pub first : AreFirst script [] texts

-- the next line was read in part, and the source failed
pub record ReadsPart (old : Option (List ℕ)) (texts : List (List ℕ)) (text : List ℕ) (left : Option (List ℕ)) : Type 0 where
  pub script : List ℕ
  pub now : List ℕ
  pub leaves : LeavesOf script now old left
  pub spelled : script ≡ flat_map ended texts ++ text ++ now
  pub few : length (flat_map ended texts) + length text ≤ 2 ^ 30

-- the next line was read in part, and there was no memory for more
pub record ReadsEarly (old : Option (List ℕ)) (texts : List (List ℕ)) (left : Option (List ℕ)) : Type 0 where
  pub script : List ℕ
  pub now : List ℕ
  pub leaves : LeavesOf script now old left
  pub rest : List ℕ
  pub first : AreFirst script rest texts
  pub read : ReadsFew script now texts (8193 + PIECE)

-- the next line is refused before it was read whole
pub record ReadsRefused (externals : List External) (old : Option (List ℕ)) (texts : List (List ℕ)) (left : Option (List ℕ)) : Type 0 where
  pub script : List ℕ
  pub now : List ℕ
  pub leaves : LeavesOf script now old left
  pub text : List ℕ
  pub tail : List ℕ
  pub first : AreFirst script (text ++ tail) texts
  pub refused : IsRefused externals script text tail
  pub read : ReadsFew script now texts (most_for text)

module _ (old : Option (List ℕ)) (texts : List (List ℕ)) (reading : Reading) (left : Option (List ℕ)) (unbroken : AllByRecursion IsUnbroken texts)
    (script_is : old ≡ prepend_known (flat_map ended texts) (rest_of reading left)) (used : reading.used ≡ length (flat_map ended texts)) where
  -- octets that the reader used stand behind the lines so far
  told_after : (text : List ℕ) (reading' : Reading) (left' : Option (List ℕ)) → rest_of reading left ≡ prepend_known text (rest_of reading' left') → Told (flat_map ended texts ++ text) reading'.pending old left'
  told_after text reading' left' h =
      told (flat_map ended texts ++ text) reading'.pending old left'
      (script_is ∙ ap (prepend_known (flat_map ended texts)) h ∙ prepend_known-append (flat_map ended texts) text (rest_of reading' left'))

  -- the lines so far are the script's first
  first_so_far : (script text rest : List ℕ) (n : ℕ) → n ≡ reading.used + length text → n ≤ 2 ^ 30 → script ≡ (flat_map ended texts ++ text) ++ rest → AreFirst script (text ++ rest) texts
  first_so_far script text rest n count few h =
      let spelled : script ≡ flat_map ended texts ++ (text ++ rest) = h ∙ append_assoc (flat_map ended texts) text rest in
      record {
        unbroken = unbroken;
        spelled = inl spelled;
        few = omega (arith, ap length spelled, length-append (flat_map ended texts) (text ++ rest), length-append text rest, used, count, few);
      }

  -- octets that were used behind the lines so far, and what is pending, are few
  reads_few : (script front : List ℕ) (reading' : Reading) (rest now : List ℕ) (most : ℕ) → script ≡ (flat_map ended texts ++ front) ++ rest → rest ≡ reading'.pending ++ now → length reading'.pending ≤ PIECE → length front + PIECE ≤ most → ReadsFew script now texts most
  reads_few script front reading' rest now most spelled pending piece few = record {
    ahead = front ++ reading'.pending;
    spelled = spelled ∙ ap (λ xs. (flat_map ended texts ++ front) ++ xs) pending
        ∙ append_assoc (flat_map ended texts) front (reading'.pending ++ now)
        ∙ ap (λ xs. flat_map ended texts ++ xs) (sym (append_assoc front reading'.pending now))
        ∙ sym (append_assoc (flat_map ended texts) (front ++ reading'.pending) now);
    few = omega (arith, length-append front reading'.pending, piece, few);
  }

  pub reads_all : (text : List ℕ) (reading' : Reading) (left' : Option (List ℕ)) → EndsAll script_limits reading reading' left left' text → ReadsAll old texts left'
  reads_all text reading' left' e =
      let t = told_after text reading' left' e.uses.octets in
      let nothing = nothing_left t e.none_pending e.none_left in
      let front : flat_map ended texts ++ text ≡ flat_map ended texts = ap (λ x. flat_map ended texts ++ x) e.none ∙ append-nil (flat_map ended texts) in
      let spelled : t.script ≡ flat_map ended texts ++ [] = t.spelled ∙ ap (λ x. x ++ t.rest) front ∙ ap (λ x. flat_map ended texts ++ x) nothing.1 in
      record {
        script = t.script;
        leaves = subst (λ (now : List ℕ). LeavesOf t.script now old left') nothing.0 t.leaves;
        first = record {
          unbroken = unbroken;
          spelled = inl spelled;
          few = omega (arith, ap length spelled, length-append (flat_map ended texts) [], used, e.uses.used, e.uses.few);
        };
      }

  -- with the last line, which has no line feed, the script is read to its end
  first_by_last : (script text : List ℕ) (n : ℕ) → script ≡ flat_map ended texts ++ text → IsUnbroken text → text ≢ [] → n ≡ reading.used + length text → n ≤ 2 ^ 30 → AreFirst script [] (texts ++ text ∷ [])
  first_by_last script text n spelled unended some count few = record {
    unbroken = AllUnbroken-push texts text unbroken unended;
    spelled = inr (record { front = texts; last = text; texts_are = refl; some = some; spelled = spelled; none_behind = refl });
    few = omega (arith, ap length spelled, length-append (flat_map ended texts) text, used, count, few);
  }

  pub reads_last : (text : List ℕ) (reading' : Reading) (left' : Option (List ℕ)) → EndsLast script_limits reading reading' left left' text → ReadsAll old (texts ++ text ∷ []) left' × ReadsLine old texts text left'
  reads_last text reading' left' e =
      let t = told_after text reading' left' e.uses.octets in
      let nothing = nothing_left t e.none_pending e.none_left in
      let leaves : LeavesOf t.script [] old left' = subst (λ (now : List ℕ). LeavesOf t.script now old left') nothing.0 t.leaves in
      let whole : t.script ≡ (flat_map ended texts ++ text) ++ [] = t.spelled ∙ ap (λ x. (flat_map ended texts ++ text) ++ x) nothing.1 in
      let first = first_by_last t.script text reading'.used (whole ∙ append-nil (flat_map ended texts ++ text)) e.uses.unbroken e.some e.uses.used e.uses.few in
      let pending : [] ≡ reading'.pending ++ [] = ap (λ xs. xs ++ []) (sym e.none_pending) in (
        record { script = t.script; leaves = leaves; first = first },
        record {
          script = t.script;
          now = [];
          leaves = leaves;
          read = reads_few t.script text reading' [] [] (most_for text) whole pending e.uses.piece (omega (arith, e.short));
          rest = [];
          first = first;
          tail = [];
          before = first_so_far t.script text [] reading'.used e.uses.used e.uses.few whole;
          unbroken = e.uses.unbroken;
          whole = inl refl;
          some = inl e.some;
        },
      )

  -- the lines so far and the next one, which has its line feed
  script_by_feed : (text : List ℕ) (reading' : Reading) (left' : Option (List ℕ)) → EndsByFeed script_limits reading reading' left left' text
      → old ≡ prepend_known (flat_map ended (texts ++ text ∷ [])) (rest_of reading' left')
  script_by_feed text reading' left' e =
      script_is ∙ ap (prepend_known (flat_map ended texts)) e.octets
      ∙ prepend_known-append (flat_map ended texts) (ended text) (rest_of reading' left')
      ∙ ap (λ front. prepend_known front (rest_of reading' left')) (sym (flat_map-ended-push texts text))

  pub goes_by_feed : (text : List ℕ) (reading' : Reading) (left' : Option (List ℕ)) → EndsByFeed script_limits reading reading' left left' text
      → (old ≡ prepend_known (flat_map ended (texts ++ text ∷ [])) (rest_of reading' left')) × (reading'.used ≡ length (flat_map ended (texts ++ text ∷ []))) × AllByRecursion IsUnbroken (texts ++ text ∷ [])
  goes_by_feed text reading' left' e = (
    script_by_feed text reading' left' e,
    e.used ∙ ap (λ n. n + length text + 1) used
        ∙ (let grown : length (flat_map ended texts) + length text + 1 ≡ length (flat_map ended texts ++ ended text) = omega (arith, length-append (flat_map ended texts) (ended text), length-ended text) in grown)
        ∙ ap length (sym (flat_map-ended-push texts text)),
    AllUnbroken-push texts text unbroken e.unbroken,
  )

  pub reads_by_feed : (text : List ℕ) (reading' : Reading) (left' : Option (List ℕ)) → EndsByFeed script_limits reading reading' left left' text → ReadsLine old texts text left'
  reads_by_feed text reading' left' e =
      let t = told_after (ended text) reading' left' e.octets in
      let up_to : t.script ≡ (flat_map ended texts ++ text) ++ 10 ∷ t.rest =
      t.spelled ∙ append_assoc (flat_map ended texts) (ended text) t.rest
      ∙ ap (λ xs. flat_map ended texts ++ xs) (append_assoc text (10 ∷ []) t.rest)
      ∙ sym (append_assoc (flat_map ended texts) text (10 ∷ t.rest)) in
      record {
        script = t.script;
        now = t.now;
        leaves = t.leaves;
        read = reads_few t.script (ended text) reading' t.rest t.now (most_for text) t.spelled t.rest_is e.piece (omega (arith, length-ended text, e.short));
        rest = t.rest;
        first = record {
          unbroken = AllUnbroken-push texts text unbroken e.unbroken;
          spelled = inl (t.spelled ∙ ap (λ front. front ++ t.rest) (sym (flat_map-ended-push texts text)));
          few = omega (arith, ap length t.spelled, length-append (flat_map ended texts ++ ended text) t.rest, length-append (flat_map ended texts) (ended text), length-ended text, used, e.used, e.few);
        };
        tail = 10 ∷ t.rest;
        before = first_so_far t.script text (10 ∷ t.rest) (reading.used + length text) refl (omega (arith, e.used, e.few)) up_to;
        unbroken = e.unbroken;
        whole = inr refl;
        some = inr (λ none. absurd cc);
      }

  pub reads_part : (text : List ℕ) (reading' : Reading) (left' : Option (List ℕ)) → StopsReading script_limits reading reading' left left' text → ReadsPart old texts text left'
  reads_part text reading' left' e =
      let t = told_after text reading' left' e.uses.octets in
      record {
        script = t.script;
        now = t.now;
        leaves = t.leaves;
        spelled = t.spelled ∙ ap (λ xs. (flat_map ended texts ++ text) ++ xs) (t.rest_is ∙ ap (λ xs. xs ++ t.now) e.none_pending);
        few = omega (arith, used, e.uses.used, e.uses.few);
      }

  pub reads_early : (text : List ℕ) (reading' : Reading) (left' : Option (List ℕ)) → StopsForMemory script_limits reading reading' left left' text → ReadsEarly old texts left'
  reads_early text reading' left' e =
      let t = told_after text reading' left' e.uses.octets in
      record {
        script = t.script;
        now = t.now;
        leaves = t.leaves;
        rest = text ++ t.rest;
        first = first_so_far t.script text t.rest reading'.used e.uses.used e.uses.few t.spelled;
        read = reads_few t.script text reading' t.rest t.now (8193 + PIECE) t.spelled t.rest_is e.uses.piece (omega (arith, e.short));
      }

  -- the text is too long, or something is left behind it
  long_or_past : {text : List ℕ} {reading' : Reading} {left' : Option (List ℕ)} → StopsRefusing script_limits reading reading' left left' text → (t : Told (flat_map ended texts ++ text) reading'.pending old left') → (length text ≡ 8193) ⊎ (0 < length t.rest)
  long_or_past e t = elim e.refused [ inl long ↦ inl long | inr past ↦ inr (pending_left t past.1) ]

  -- the text is too long, or the script has more than 2 ^ 30 octets, by what is left behind it
  long_or_past_by : {text : List ℕ} {reading' : Reading} {left' : Option (List ℕ)} → (e : StopsRefusing script_limits reading reading' left left' text) → (t : Told (flat_map ended texts ++ text) reading'.pending old left') → (length text ≡ 8193) ⊎ ((0 < length t.rest) × (length t.script ≡ 2 ^ 30 + length t.rest))
  long_or_past_by {text} {reading'} {left'} e t =
      let whole : length t.script ≡ reading'.used + length t.rest = omega (arith, ap length t.spelled, length-append (flat_map ended texts ++ text) t.rest, length-append (flat_map ended texts) text, used, e.uses.used) in
      elim e.refused [ inl long ↦ inl long | inr past ↦ inr (pending_left t past.1, whole ∙ ap (λ n. n + length t.rest) past.0) ]

  used_few : {text : List ℕ} {reading' : Reading} {left' : Option (List ℕ)} → StopsRefusing script_limits reading reading' left left' text → length text ≤ 8193
  used_few e = elim e.refused [ inl long ↦ omega (arith, long) | inr past ↦ omega (arith, past.2) ]

  -- the reader refuses a line that is too long, or by whose end the script is
  pub reads_refused : (externals : List External) (text : List ℕ) (reading' : Reading) (left' : Option (List ℕ)) → StopsRefusing script_limits reading reading' left left' text → ReadsRefused externals old texts left'
  reads_refused externals text reading' left' e =
      let t = told_after text reading' left' e.uses.octets in
      let s = splits t.rest in
      let first = first_so_far t.script text t.rest reading'.used e.uses.used e.uses.few t.spelled in
      record {
        script = t.script;
        now = t.now;
        leaves = t.leaves;
        text = text ++ s.front;
        tail = s.back;
        first = subst (λ xs. AreFirst t.script xs texts) (ap (λ xs. text ++ xs) s.spelled ∙ sym (append_assoc text s.front s.back)) first;
        refused = record {
          unbroken = IsUnbroken-append text s.front e.uses.unbroken s.unbroken;
          whole = s.whole;
          some = too_long_some text s.front s.back (long_or_past e t) s.spelled;
          refused = too_long_refused externals t.script text s.front s.back t.rest s.spelled (long_or_past_by e t);
        };
        read = reads_few t.script text reading' t.rest t.now (most_for (text ++ s.front)) t.spelled t.rest_is e.uses.piece (most_for-longer text s.front (used_few e));
      }
