use Rattle.std.proofs.Common.{◌≡◌, ◌-◌}
use Rattle.dec_onewire.specs.Net.{shifts}
use Rattle.dec_onewire.proofs.net.crc.behind_byte.Given as goal

abbrev pub invariant-loop : goal.invariant-loop
invariant-loop l = shifts (8 - l.counter) l.register ≡ shifts 8 l.fn.crc
