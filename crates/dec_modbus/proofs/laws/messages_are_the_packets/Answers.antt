use Rattle.dec_modbus.specs.Modbus.{together}
use Rattle.dec_modbus.proofs.MessageLaws.{are_rows, whole_rows}
use Rattle.dec_modbus.proofs.laws.messages_are_the_packets.Goals as goal

pub returns-clause-rows : goal.returns-clause-rows
returns-clause-rows c = λ gap packets. are_rows (together gap) packets

pub returns-clause-whole : goal.returns-clause-whole
returns-clause-whole c = λ gap packets. whole_rows (together gap) packets
