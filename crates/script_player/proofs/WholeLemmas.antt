-- One more piece behind the octets that were read.
use Rattle.std.proofs.Common.{◌≡◌, ℕ, ◌+◌, ◌≤◌, List, ◌++◌, length, take, Option, ap, ◌∙◌, length-append, length-take, arith}
use Rattle.std.specs.Io.KnownBytes.{prepend_known}
use Rattle.pcp_io.specs.Reads.{Reads}
use Rattle.pcp_io.proofs.KnownOctets.{prepend_known-append}
use Rattle.script_player.specs.Wholes.{ReadsSome}
use Rattle.script_player.specs.declared.readers.TheConstants.{PIECE}

pub ReadsSome-piece : (before mid now : Option (List ℕ)) (text old new : List ℕ) (n least most : ℕ) →
    before ≡ prepend_known text mid → Reads mid now old new n → length new ≡ PIECE →
    least ≤ length text + n → length text + PIECE ≤ most → ReadsSome before now least most
ReadsSome-piece before mid now text old new n least most so reads size enough few =
    let bound : n ≤ length new = reads.bound in
    let count : length (text ++ take n new) ≡ length text + n =
    omega (arith, length-append text (take n new), length-take n new, bound) in
    record {
      ahead = text ++ take n new;
      octets = so ∙ ap (prepend_known text) reads.octets ∙ prepend_known-append text (take n new) now;
      enough = omega (arith, count, enough);
      few = omega (arith, count, bound, size, few);
    }
