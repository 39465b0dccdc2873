-- How an image is made of the steps.
use Rattle.std.proofs.Common.{◌≡◌, inl, inr, ℕ, ◌==◌, ◌+◌, ◌<◌, ◌≤◌, nat_lt, if◌then◌else◌, Bool, true, false, max, List, [], ◌∷◌, ◌++◌, length, take, get_or, map, reverse, refl, sym, ◌∙◌, ap, subst, arith, length-take, replicate}
use Rattle.std.proofs.lemmas.Bool.Decides.{nat_tests}
use Rattle.std.proofs.lemmas.List.{append-nil, drop_all, length-replicate, length-map, length-reverse, map-append, reverse-append, take_more}
use Rattle.lease_disk.specs.Contents.{after_write}
use Rattle.lease_disk.specs.Changes.{step_of, steps_of}
use Rattle.lease_disk.specs.ImageLaws.{torn-after_write, torn-same, image-now}
use Rattle.lease_disk.specs.Replays.{synced_count, with_ff_from, FitRoom}
use Rattle.lease_disk.specs.Steps.{DiskStep, after_step, octets_after, IsImage, up_to_sync, with_ff, with_ff_since_sync, image_by}
use Rattle.lease_disk.specs.Steps.DiskStep.{Wrote, CutTo, Synced}
use Rattle.lease_disk.specs.declared.changes.Change.{Change}

pub length-steps_of : (changes : List Change) → length (steps_of changes) ≡ length changes
length-steps_of changes = length-reverse (map step_of changes) ∙ length-map changes step_of

pub steps_of-push : (changes : List Change) (change : Change) → steps_of (changes ++ change ∷ []) ≡ step_of change ∷ steps_of changes
steps_of-push changes change = ap (λ (steps : List DiskStep). reverse steps) (map-append step_of changes (change ∷ [])) ∙ reverse-append (map step_of changes) (step_of change ∷ [])

pub steps_of-more : (changes : List Change) (i : ℕ) (change : Change) → i < length changes → change ≡ get_or changes i change
    → steps_of (take (i + 1) changes) ≡ step_of change ∷ steps_of (take i changes)
steps_of-more changes i change within is =
    ap steps_of (take_more changes i change within ∙ ap (λ (c : Change). take i changes ++ c ∷ []) (sym is)) ∙ steps_of-push (take i changes) change

length-front : (changes : List Change) (i : ℕ) → i < length changes → length (steps_of (take i changes)) ≡ i
length-front changes i within = omega (arith, length-steps_of (take i changes), length-take i changes)

-- one change more
pub replay_more : (changes : List Change) (i plain : ℕ) (change : Change) → i < length changes → change ≡ get_or changes i change
    → octets_after (with_ff_from plain (steps_of (take (i + 1) changes)))
    ≡ after_step (if nat_lt i plain then step_of change else with_ff (step_of change)) (octets_after (with_ff_from plain (steps_of (take i changes))))
replay_more changes i plain change within is =
    let before : List DiskStep = steps_of (take i changes) in
    ap (λ (steps : List DiskStep). octets_after (with_ff_from plain steps)) (steps_of-more changes i change within is)
    ∙ ap (λ (n : ℕ). after_step (if nat_lt n plain then step_of change else with_ff (step_of change)) (octets_after (with_ff_from plain before))) (length-front changes i within)

-- where all are plain none has `ff`
pub plain_all : (plain : ℕ) (steps : List DiskStep) → length steps ≤ plain → with_ff_from plain steps ≡ steps
plain_all plain [] all = refl
plain_all plain (step ∷ steps) all =
    let is : nat_lt (length steps) plain ≡ true = grind (arith, nat_tests) in
    ap (λ (b : Bool). (if b then step else with_ff step) ∷ with_ff_from plain steps) is ∙ ap (λ (l : List DiskStep). step ∷ l) (plain_all plain steps (omega arith))

pub synced_within : (steps : List DiskStep) → synced_count steps ≤ length steps
synced_within [] = omega arith
synced_within (Wrote place piece ∷ steps) = omega (arith, synced_within steps)
synced_within (CutTo size ∷ steps) = omega (arith, synced_within steps)
synced_within (Synced ∷ steps) = omega arith

with_ff_step : (plain : ℕ) (step : DiskStep) (steps : List DiskStep) → plain ≤ length steps → with_ff_from plain (step ∷ steps) ≡ with_ff step ∷ with_ff_from plain steps
with_ff_step plain step steps past =
    let is : nat_lt (length steps) plain ≡ false = grind (arith, nat_tests) in
    ap (λ (b : Bool). (if b then step else with_ff step) ∷ with_ff_from plain steps) is

-- with `ff` from the last sync on
pub with_ff_octets : (steps : List DiskStep) → octets_after (with_ff_from (synced_count steps) steps) ≡ octets_after (with_ff_since_sync steps)
with_ff_octets [] = refl
with_ff_octets (Wrote place piece ∷ steps) =
    ap octets_after (with_ff_step (synced_count steps) (Wrote place piece) steps (synced_within steps)) ∙ ap (after_step (with_ff (Wrote place piece))) (with_ff_octets steps)
with_ff_octets (CutTo size ∷ steps) =
    ap octets_after (with_ff_step (synced_count steps) (CutTo size) steps (synced_within steps)) ∙ ap (after_step (CutTo size)) (with_ff_octets steps)
with_ff_octets (Synced ∷ steps) =
    ap octets_after (plain_all (length steps + 1) (Synced ∷ steps) (omega arith))

-- each image that is made is one
image-synced : (steps : List DiskStep) → IsImage steps (octets_after (up_to_sync steps))
image-synced [] = refl
image-synced (Wrote place piece ∷ steps) = (octets_after (up_to_sync steps), image-synced steps, torn-same place (length piece) (octets_after (up_to_sync steps)))
image-synced (CutTo size ∷ steps) = (octets_after (up_to_sync steps), image-synced steps, inl refl)
image-synced (Synced ∷ steps) = refl

image-with_ff : (steps : List DiskStep) → IsImage steps (octets_after (with_ff_since_sync steps))
image-with_ff [] = refl
image-with_ff (Wrote place piece ∷ steps) =
    (octets_after (with_ff_since_sync steps), image-with_ff steps, torn-after_write place (length piece) (octets_after (with_ff_since_sync steps)) (replicate (length piece) 255) (length-replicate {A = ℕ} (length piece) 255))
image-with_ff (CutTo size ∷ steps) = (octets_after (with_ff_since_sync steps), image-with_ff steps, inr refl)
image-with_ff (Synced ∷ steps) = refl

-- writes within a room leave octets within it
length-after_write : (octets : List ℕ) (place : ℕ) (piece : List ℕ) → length (after_write octets place piece) ≤ max (length octets) (place + length piece)
length-after_write octets place piece = (torn-after_write place (length piece) octets piece refl).no_longer

pub room-octets : (room : ℕ) (steps : List DiskStep) → FitRoom room steps → length (octets_after steps) ≤ room
room-octets room [] fit = omega arith
room-octets room (Wrote place piece ∷ steps) fit = omega (arith, room-octets room steps fit.1, length-after_write (octets_after steps) place piece, fit.0)
room-octets room (CutTo size ∷ steps) fit = omega (arith, room-octets room steps fit, length-take size (octets_after steps))
room-octets room (Synced ∷ steps) fit = room-octets room steps fit

room-synced : (room : ℕ) (steps : List DiskStep) → FitRoom room steps → FitRoom room (up_to_sync steps)
room-synced room [] fit = fit
room-synced room (Wrote place piece ∷ steps) fit = room-synced room steps fit.1
room-synced room (CutTo size ∷ steps) fit = room-synced room steps fit
room-synced room (Synced ∷ steps) fit = fit

room-with_ff : (room : ℕ) (steps : List DiskStep) → FitRoom room steps → FitRoom room (with_ff_since_sync steps)
room-with_ff room [] fit = fit
room-with_ff room (Wrote place piece ∷ steps) fit = (omega (arith, fit.0, length-replicate {A = ℕ} (length piece) 255), room-with_ff room steps fit.1)
room-with_ff room (CutTo size ∷ steps) fit = room-with_ff room steps fit
room-with_ff room (Synced ∷ steps) fit = fit

either : (P : List ℕ → Type 0) (b : Bool) (xs ys : List ℕ) → P xs → P ys → P (if b then xs else ys)
either P true xs ys first second = first
either P false xs ys first second = second

pub image_by_is : (steps : List DiskStep) (choice : ℕ) → IsImage steps (image_by steps choice)
image_by_is steps choice =
    let read : List ℕ = if choice == 1 then octets_after steps else octets_after (with_ff_since_sync steps) in
    either (IsImage steps) (choice == 0) (octets_after (up_to_sync steps)) read (image-synced steps)
    (either (IsImage steps) (choice == 1) (octets_after steps) (octets_after (with_ff_since_sync steps)) (image-now steps) (image-with_ff steps))

pub image_by_fits : (room : ℕ) (steps : List DiskStep) (choice : ℕ) → FitRoom room steps → length (image_by steps choice) ≤ room
image_by_fits room steps choice fit =
    let Fits : List ℕ → Type 0 = λ octets. length octets ≤ room in
    let read : List ℕ = if choice == 1 then octets_after steps else octets_after (with_ff_since_sync steps) in
    either Fits (choice == 0) (octets_after (up_to_sync steps)) read (room-octets room (up_to_sync steps) (room-synced room steps fit))
    (either Fits (choice == 1) (octets_after steps) (octets_after (with_ff_since_sync steps)) (room-octets room steps fit) (room-octets room (with_ff_since_sync steps) (room-with_ff room steps fit)))

-- what a replay makes at each choice
pub made_synced : (changes : List Change) (synced choice : ℕ) → choice ≡ 0 → octets_after (steps_of (take synced changes)) ≡ octets_after (up_to_sync (steps_of changes))
    → octets_after (with_ff_from synced (steps_of (take synced changes))) ≡ image_by (steps_of changes) choice
made_synced changes synced choice is octets =
    let few : length (steps_of (take synced changes)) ≤ synced = omega (arith, length-steps_of (take synced changes), length-take synced changes) in
    ap octets_after (plain_all synced (steps_of (take synced changes)) few) ∙ octets ∙ ap (λ (n : ℕ). image_by (steps_of changes) n) (sym is)

pub made_read : (changes : List Change) (count choice : ℕ) → choice ≡ 1 → count ≡ length changes
    → octets_after (with_ff_from count (steps_of changes)) ≡ image_by (steps_of changes) choice
made_read changes count choice is all =
    ap octets_after (plain_all count (steps_of changes) (omega (arith, length-steps_of changes))) ∙ ap (λ (n : ℕ). image_by (steps_of changes) n) (sym is)

pub made_with_ff : (changes : List Change) (synced choice : ℕ) → (choice ≡ 0 → ⊥) → (choice ≡ 1 → ⊥) → synced ≡ synced_count (steps_of changes)
    → octets_after (with_ff_from synced (steps_of changes)) ≡ image_by (steps_of changes) choice
made_with_ff changes synced choice not_0 not_1 is =
    let steps : List DiskStep = steps_of changes in
    let first : (choice == 0) ≡ false = grind (arith, nat_tests) in
    let second : (choice == 1) ≡ false = grind (arith, nat_tests) in
    ap (λ (n : ℕ). octets_after (with_ff_from n steps)) is ∙ with_ff_octets steps
    ∙ sym (ap (λ (b : Bool). if b then octets_after steps else octets_after (with_ff_since_sync steps)) second)
    ∙ sym (ap (λ (b : Bool). if b then octets_after (up_to_sync steps) else (if choice == 1 then octets_after steps else octets_after (with_ff_since_sync steps))) first)

-- a disk that holds octets from the first on
after_write_new : (octets : List ℕ) → after_write [] 0 octets ≡ octets
after_write_new [] = refl
after_write_new (x ∷ xs) =
    ap (λ (l : List ℕ). (x ∷ xs) ++ l) (drop_all (0 + length (x ∷ xs)) [] (omega arith)) ∙ append-nil (x ∷ xs)

pub disk_with_octets : (octets : List ℕ) (steps : List DiskStep) → steps ≡ Synced ∷ Wrote 0 octets ∷ [] → octets ≡ octets_after steps
disk_with_octets octets steps is = sym (ap octets_after is ∙ after_write_new octets)

pub disk_with_fits : (octets : List ℕ) (steps : List DiskStep) (room : ℕ) → steps ≡ Synced ∷ Wrote 0 octets ∷ [] → length octets ≤ room → FitRoom room steps
disk_with_fits octets steps room is few =
    let fit : FitRoom room (Synced ∷ Wrote 0 octets ∷ []) = (omega (arith, few), tt) in
    subst (FitRoom room) (sym is) fit
