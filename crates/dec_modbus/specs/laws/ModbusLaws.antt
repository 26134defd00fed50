-- What messages promise of their outputs, and that packets make their decoder.
use Rattle.std.proofs.Common.{◌≡◌, ℕ, List, sym, ◌∙◌}
use Rattle.std.proofs.Math.Nat.{ℕ_set}
use Rattle.std.proofs.Math.Path.{to_path_p}
use Rattle.la_base.specs.declared.wires.Packet.{Packet}
use Rattle.la_base.specs.declared.wires.Wire.TheVariants.{Nothing as NoWire, Uart as UartWire}
use Rattle.packet_walks.specs.Outputs.{PacketOuts}
use Rattle.packet_walks.specs.laws.WalkLaws.{walk_promises}
use Rattle.packet_walks.specs.laws.Walking.{one_walking}
use Rattle.dec_modbus.specs.declared.line.Line.{Line}
use Rattle.dec_modbus.specs.Modbus.{gap_of, modbus_outs}
use Rattle.dec_modbus.specs.Opening.{ModbusDecoder, StandsFor, line_of}
use Rattle.dec_modbus.specs.laws.Machine.{held_of, modbus_walk}
use Rattle.dec_modbus.specs.laws.Pushed.{modbus_pushed}
use Rattle.dec_modbus.specs.laws.Sound.{modbus_fits, modbus_sound}

pub modbus_promises : (gap : ℕ) → PacketOuts UartWire NoWire (modbus_outs gap)
modbus_promises gap =
    walk_promises (modbus_walk gap) (modbus_outs gap) (held_of gap) (modbus_pushed gap) NoWire
    modbus_fits (modbus_sound gap) UartWire

-- two lines with the same options at the same rate are equal, since the gap is that of these
pub same_line : (one other : Line) → one.opts ≡ other.opts → one.rate ≡ other.rate → one ≡ other
same_line one other opts rate =
    let gap : one.gap ≡ other.gap =
    one.gap_is ∙ (λ i. gap_of (opts i) (rate i)) ∙ sym other.gap_is in
    λ i. record {
      opts = opts i;
      rate = rate i;
      gap = gap i;
      gap_is = to_path_p (λ j. gap j ≡ gap_of (opts j) (rate j)) {a = one.gap_is}
          (ℕ_set _ _ _ other.gap_is) i;
    }

pub one_modbus : (one other : ModbusDecoder) (packets : List Packet) → line_of one ≡ line_of other
    → StandsFor one packets → StandsFor other packets → one ≡ other
one_modbus = one_walking (λ (line : Line). held_of (gap_of line.opts line.rate))
