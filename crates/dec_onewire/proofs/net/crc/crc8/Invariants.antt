use Rattle.std.proofs.Common.{◌≡◌, drop}
use Rattle.dec_onewire.specs.Net.{crc_from, crc8}
use Rattle.dec_onewire.proofs.net.crc.crc8.Given as goal

abbrev pub invariant-loop-byte : goal.invariant-loop-byte
invariant-loop-byte l = crc_from l.crc (drop l.byte-index l.bytes) ≡ crc8 l.bytes
