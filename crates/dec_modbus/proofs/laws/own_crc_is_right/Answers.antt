use Rattle.dec_modbus.proofs.MessageLaws.{own_crc}
use Rattle.dec_modbus.proofs.laws.own_crc_is_right.Goals as goal

pub returns : goal.returns
returns c = λ bytes. own_crc bytes
