-- Packets whose outputs are worked by hand: packet j goes from 10 j to 10 j + 5.
use Rattle.std.specs.Prelude.{ℕ, ◌+◌, ◌*◌, ◌≡◌, [], ◌∷◌}
use Rattle.std.proofs.Math.Nat.{le-add_right}
use Rattle.la_base.specs.declared.wires.Packet.{Packet}
use Rattle.la_base.specs.declared.wires.Out.{Out}
use Rattle.la_base.specs.declared.wires.PacketKind.{PacketKind}
use Rattle.la_base.specs.declared.wires.PacketKind.TheVariants.{SpiSelect, SpiWord, SpiDeselect}
use Rattle.decoder_core.specs.Outputs.{span_note, span_piece}
use Rattle.dev_flash25.specs.Flash.{flash_outs}

abbrev pub packet : ℕ → PacketKind → ℕ → ℕ → Packet
packet j kind a b =
    record {
      kind = kind;
      start = 10 * j;
      end = 10 * j + 5;
      a = a;
      b = b;
      in_order = le-add_right (10 * j) 5;
    }

-- a note and a piece of word j
abbrev pub note : ℕ → ℕ → ℕ → ℕ → Out
note class j a b = span_note class (10 * j) (10 * j + 5) a b

abbrev pub piece : ℕ → ℕ → ℕ → Out
piece class j byte = span_piece class (10 * j) (10 * j + 5) byte

-- two bytes are read at 000100
abbrev pub ReadTwo : Type 0
ReadTwo =
    flash_outs
    (packet 0 SpiSelect 0 0 ∷ packet 1 SpiWord 3 0 ∷ packet 2 SpiWord 0 0 ∷ packet 3 SpiWord 1 0
    ∷ packet 4 SpiWord 0 0 ∷ packet 5 SpiWord 0 170 ∷ packet 6 SpiWord 0 85
    ∷ packet 7 SpiDeselect 0 0 ∷ [])
    ≡ note 0 1 3 0 ∷ span_note 4 20 45 256 0 ∷ note 5 5 170 256 ∷ piece 0 5 170 ∷ note 5 6 85 257
    ∷ piece 0 6 85 ∷ span_note 7 10 65 2 256 ∷ []

-- a fast read has a word behind its address that says nothing
abbrev pub ReadFast : Type 0
ReadFast =
    flash_outs
    (packet 0 SpiSelect 0 0 ∷ packet 1 SpiWord 11 0 ∷ packet 2 SpiWord 0 0 ∷ packet 3 SpiWord 1 0
    ∷ packet 4 SpiWord 0 0 ∷ packet 5 SpiWord 0 170 ∷ packet 6 SpiWord 0 85
    ∷ packet 7 SpiDeselect 0 0 ∷ [])
    ≡ note 0 1 11 0 ∷ span_note 4 20 45 256 0 ∷ note 5 6 85 256 ∷ piece 0 6 85
    ∷ span_note 7 10 65 1 256 ∷ []

-- what is programmed stays in its page: 0001FF and 000100
abbrev pub Programmed : Type 0
Programmed =
    flash_outs
    (packet 0 SpiSelect 0 0 ∷ packet 1 SpiWord 2 0 ∷ packet 2 SpiWord 0 0 ∷ packet 3 SpiWord 1 0
    ∷ packet 4 SpiWord 255 0 ∷ packet 5 SpiWord 18 0 ∷ packet 6 SpiWord 52 0
    ∷ packet 7 SpiDeselect 0 0 ∷ [])
    ≡ note 0 1 2 0 ∷ span_note 4 20 45 511 0 ∷ note 6 5 18 511 ∷ piece 1 5 18 ∷ note 6 6 52 256
    ∷ piece 1 6 52 ∷ span_note 8 10 65 2 511 ∷ []

-- reading goes on over the end: FFFFFF and 000000; of a word of 16 bits the lowest eight are read
abbrev pub OverTheEnd : Type 0
OverTheEnd =
    flash_outs
    (packet 0 SpiSelect 0 0 ∷ packet 1 SpiWord 259 0 ∷ packet 2 SpiWord 511 0
    ∷ packet 3 SpiWord 255 0 ∷ packet 4 SpiWord 255 0 ∷ packet 5 SpiWord 0 4608
    ∷ packet 6 SpiWord 0 4660 ∷ [])
    ≡ note 0 1 3 0 ∷ span_note 4 20 45 16777215 0 ∷ note 5 5 0 16777215 ∷ piece 0 5 0
    ∷ note 5 6 52 0 ∷ piece 0 6 52 ∷ []

-- an erase is told where its address is whole, that of the whole chip always; its span goes up to
-- the last word
abbrev pub Erased : Type 0
Erased = flash_outs
    (packet 0 SpiSelect 0 0 ∷ packet 1 SpiWord 32 0 ∷ packet 2 SpiWord 1 0 ∷ packet 3 SpiWord 2 0
    ∷ packet 4 SpiWord 3 0 ∷ packet 5 SpiDeselect 0 0
    ∷ packet 6 SpiSelect 0 0 ∷ packet 7 SpiWord 216 0 ∷ packet 8 SpiWord 1 0 ∷ packet 9 SpiWord 2 0
    ∷ packet 10 SpiDeselect 0 0
    ∷ packet 11 SpiSelect 0 0 ∷ packet 12 SpiWord 96 0 ∷ packet 13 SpiWord 0 0
    ∷ packet 14 SpiDeselect 0 0 ∷ [])
    ≡ note 0 1 32 0 ∷ span_note 4 20 45 66051 0 ∷ span_note 9 10 45 0 66051 ∷ note 0 7 216 0
    ∷ note 0 12 96 0 ∷ span_note 11 120 135 0 0 ∷ []

-- the identification is what the flash sends
abbrev pub Identified : Type 0
Identified =
    flash_outs
    (packet 0 SpiSelect 0 0 ∷ packet 1 SpiWord 159 0 ∷ packet 2 SpiWord 0 239
    ∷ packet 3 SpiWord 0 64 ∷ packet 4 SpiWord 0 24 ∷ packet 5 SpiWord 0 1
    ∷ packet 6 SpiDeselect 0 0 ∷ [])
    ≡ note 0 1 159 0 ∷ span_note 1 20 45 15679512 0 ∷ []

-- each status that is read or written
abbrev pub Statuses : Type 0
Statuses =
    flash_outs
    (packet 0 SpiSelect 0 0 ∷ packet 1 SpiWord 5 0 ∷ packet 2 SpiWord 0 3 ∷ packet 3 SpiWord 0 2
    ∷ packet 4 SpiDeselect 0 0 ∷ packet 5 SpiSelect 0 0 ∷ packet 6 SpiWord 1 0
    ∷ packet 7 SpiWord 28 255 ∷ [])
    ≡ note 0 1 5 0 ∷ note 2 2 3 0 ∷ note 2 3 2 0 ∷ note 0 6 1 0 ∷ note 3 7 28 0 ∷ []

-- words in no transaction say nothing, and a select inside of one begins nothing
abbrev pub OnlyFirstSelect : Type 0
OnlyFirstSelect =
    flash_outs
    (packet 0 SpiWord 3 0 ∷ packet 1 SpiDeselect 0 0 ∷ packet 2 SpiWord 199 0
    ∷ packet 3 SpiSelect 0 0 ∷ packet 4 SpiSelect 0 0 ∷ packet 5 SpiWord 6 0
    ∷ packet 6 SpiSelect 0 0 ∷ packet 7 SpiWord 199 0 ∷ packet 8 SpiDeselect 0 0 ∷ [])
    ≡ note 0 5 6 0 ∷ []
