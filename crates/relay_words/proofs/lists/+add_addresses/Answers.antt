use Rattle.std.proofs.Common.{[], rules}
use Rattle.pcp_base.specs.AddressTexts.{IsAddressText}
use Rattle.relay_words.proofs.TextLemmas.{adds_more_by, adds_not_by}
use Rattle.relay_words.proofs.lists.+add_addresses.Goals as goal

pub returns-in_default-address_of : goal.returns-in_default-address_of
returns-in_default-address_of n c =
    adds_not_by IsAddressText (λ s. s.now) c.args.texts.now _ c.as_bytes.result.now c.in-len1-up.len_at_least c.as_bytes.ensures.value c.address_of.result [] [] (search rules) c.address_of.ensures

pub returns : goal.returns
returns n c =
    adds_more_by IsAddressText (λ s. s.now) c.args.texts.now _ c.as_bytes.result.now c.in-len1-up.len_at_least c.as_bytes.ensures.value c.address_of.result c.in-Some.address
    c.args.addresses.now.items c.push.new.self.items c.add_addresses.new.addresses.items c.add_addresses.result (search rules) c.address_of.ensures c.in_ok-push.ensures.items c.add_addresses.ensures
