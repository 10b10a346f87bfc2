-- The codes that the checks and the commands reject with, as octets.
use Rattle.std.specs.Prelude.{ℕ}
use Rattle.commands_reply.specs.declared.Code.{Code}
use Rattle.commands_reply.specs.declared.Code.TheVariants.{Length, NoEndpoint, InUse, NotInUse, Form, NotSupported, WrongState}

abbrev pub octet_of : Code → ℕ
octet_of Length = 0x11
octet_of NoEndpoint = 0x12
octet_of InUse = 0x13
octet_of NotInUse = 0x14
octet_of Form = 0x18
octet_of NotSupported = 0x19
octet_of WrongState = 0x31
