use Rattle.std.proofs.Common.{◌≡◌, rules, sym, subst, IsOk}
use Rattle.std.proofs.lemmas.Bool.{false≢true}
use Rattle.std.specs.Str.{IsUtf8}
use Rattle.pcp_base.specs.AddressTexts.{address_text}
use Rattle.lease_json.proofs.AddressLemmas.{IsUtf8-address}
use Rattle.lease_json.proofs.texts.text_of.Goals as goal

pub unreachable-requires : goal.unreachable-requires
unreachable-requires c =
    let spelled : c.write.new.out.items ≡ address_text c.args.address.now = search rules in
    let is = IsUtf8-address _ _ c.write.ensures.read_again in
    let ok = c.from_utf8.ensures.succeeds (subst IsUtf8 (sym spelled) is) in
    false≢true (subst IsOk c.in-Err.is ok)
