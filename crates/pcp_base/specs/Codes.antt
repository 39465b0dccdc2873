-- The result codes (RFC 6887, section 7.4).
use Rattle.std.specs.Prelude.{ℕ}
use Rattle.pcp_base.specs.declared.codes.TheConstants.{SHORT_ERROR, LONG_ERROR}
use Rattle.pcp_base.specs.declared.codes.Code.{Code}
use Rattle.pcp_base.specs.declared.codes.Code.TheVariants.{Success, UnsuppVersion, NotAuthorized, MalformedRequest, UnsuppOpcode, UnsuppOption, MalformedOption, NetworkFailure, NoResources, UnsuppProtocol, UserExQuota, CannotProvideExternal, AddressMismatch, ExcessiveRemotePeers}

-- the number of a code in a reply
abbrev pub code_number : Code → ℕ
code_number Success = 0
code_number UnsuppVersion = 1
code_number NotAuthorized = 2
code_number MalformedRequest = 3
code_number UnsuppOpcode = 4
code_number UnsuppOption = 5
code_number MalformedOption = 6
code_number NetworkFailure = 7
code_number NoResources = 8
code_number UnsuppProtocol = 9
code_number UserExQuota = 10
code_number CannotProvideExternal = 11
code_number AddressMismatch = 12
code_number ExcessiveRemotePeers = 13

-- The seconds that an error reply tells (RFC 6887, section 7.4, recommends 30 seconds where the error may pass soon,
-- and 30 minutes elsewhere).
abbrev pub lifetime_of : Code → ℕ
lifetime_of Success = 0
lifetime_of NetworkFailure = SHORT_ERROR
lifetime_of NoResources = SHORT_ERROR
lifetime_of UserExQuota = SHORT_ERROR
lifetime_of CannotProvideExternal = SHORT_ERROR
lifetime_of code = LONG_ERROR
