-- What a single channel is read from: how its byte joins what stood there, and the byte.
-- Assumes nothing.
use Rattle.std.specs.Prelude.{true, false, ℕ}
use Rattle.rules.specs.Pixel.{Shows}
use Rattle.rules.specs.Channels.{or_channel, eac_byte}
use Rattle.rules.specs.Desktop.{replaced, bc3_alpha}
use Rattle.block_readers.specs.declared.Joined.{Joined}
use Rattle.block_readers.specs.declared.Joined.TheVariants.{Eac, EacSigned, Bc3Alpha}

abbrev pub join_of : Joined → ℕ → ℕ → ℕ → ℕ
join_of Eac = or_channel
join_of EacSigned = or_channel
join_of Bc3Alpha = replaced

abbrev pub byte_of : Joined → Shows
byte_of Eac = eac_byte false
byte_of EacSigned = eac_byte true
byte_of Bc3Alpha = bc3_alpha
