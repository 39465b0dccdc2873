use Rattle.pcp_base.proofs.AddressLemmas.{IsAddressText-address_text}
use Rattle.pcp_base.proofs.addresses.is_v4.Goals as goal

pub returns-clause-read_again : goal.returns-clause-read_again
returns-clause-read_again c = IsAddressText-address_text (record { 0 = c.args.octets.now }) c.told-octets c.fits-octets
