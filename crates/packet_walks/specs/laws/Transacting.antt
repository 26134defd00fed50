-- Decoders of transactions that keep what packets leave.
use Rattle.std.specs.Prelude.{◌≡◌, List, [], Result, Ok, Err}
use Rattle.std.proofs.Common.{sym, ◌∙◌}
use Rattle.la_base.specs.declared.wires.Packet.{Packet}
use Rattle.decoder_core.specs.declared.faults.OptFault.{OptFault}
use Rattle.packet_walks.specs.declared.transacting.Transacting.{Transacting}
use Rattle.packet_walks.specs.Transactions.{Device}
use Rattle.packet_walks.specs.laws.Steps.{Steps, held_of}

module _ {O S : Type 0} (device : Device) (steps : Steps O) (kept : Packet → List Packet → O) where
  -- a decoder stands for packets: it keeps what they leave
  abbrev pub StandsFor : Transacting O S → List Packet → Type 0
  StandsFor machine packets = machine.held ≡ held_of device steps kept packets

  -- a decoder that stands for no packets; nothing is refused
  abbrev pub Opens : Result (Transacting O S) OptFault → Type 0
  Opens (Ok machine) = StandsFor machine []
  Opens (Err fault) = ⊥

  pub one_transacting : (opts : S) (one other : Transacting O S) (packets : List Packet)
      → opts ≡ opts → StandsFor one packets → StandsFor other packets → one ≡ other
  one_transacting opts one other packets same stands also =
      λ i. record { held = (stands ∙ sym also) i }
