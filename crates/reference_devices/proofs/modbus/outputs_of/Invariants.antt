use Rattle.std.proofs.Common.{◌≡◌, take}
use Rattle.dec_modbus.specs.Modbus.{messages, rows_outs}
use Rattle.reference_devices.specs.MessageParts.{open_row}
use Rattle.reference_devices.proofs.modbus.outputs_of.Given as goal

abbrev pub invariant-loop-packet : goal.invariant-loop-packet
invariant-loop-packet l = record {
  told : l.outs.items ≡ rows_outs (messages l.gap (take l.packet-index l.packets));
  left : l.row.items ≡ open_row (messages l.gap (take l.packet-index l.packets));
}
