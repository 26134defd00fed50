-- Samples whose outputs are worked by hand: line 0 is the clock, line 1 is MOSI, line 2 is the
-- select line, line 3 is MISO.
use Rattle.std.specs.Prelude.{◌≡◌, [], ◌∷◌, Some, None}
use Rattle.std.proofs.Common.{refl}
use Rattle.la_base.specs.declared.wires.PacketKind.TheVariants.{SpiSelect, SpiWord, SpiDeselect}
use Rattle.list_cuts.specs.Groups.{groups, after_groups}
use Rattle.decoder_core.specs.Outputs.{note_at, packet_at, span_note, span_piece, span_packet}
use Rattle.dec_spi.specs.declared.options.SpiOpts.{SpiOpts}
use Rattle.dec_spi.specs.Bus.{words_outs, spi_outs}

-- the clock rests high, and bits are read where it rises
abbrev resting_high : SpiOpts
resting_high =
    record {
      sck = 0;
      mosi = Some 1;
      miso = None;
      cs = Some 2;
      cpol = 1;
      cpha = 1;
      bits = 8;
      mode = 0;
    }

-- a word, and three clocks that give nothing
pub a_word :
    spi_outs resting_high
    (5 ∷ 1 ∷ 2 ∷ 3 ∷ 0 ∷ 1 ∷ 0 ∷ 1 ∷ 2 ∷ 3 ∷ 2 ∷ 3 ∷ 2 ∷ 3 ∷ 2 ∷ 3 ∷ 2 ∷ 3 ∷ 0 ∷ 1 ∷ 0 ∷ 1 ∷ 0
    ∷ 1 ∷ 5 ∷ [])
    ≡ note_at 0 1 0 ∷ packet_at SpiSelect 1 0 ∷ span_note 2 3 17 159 0 ∷ span_piece 0 3 17 159
    ∷ span_packet SpiWord 3 17 159 0
    ∷ note_at 4 24 0 ∷ packet_at SpiDeselect 24 0 ∷ []
unfolding groups after_groups words_outs spi_outs
a_word = refl

-- two bits on each data line, the least significant one first; no select line
abbrev always_selected : SpiOpts
always_selected =
    record {
      sck = 0;
      mosi = Some 1;
      miso = Some 3;
      cs = None;
      cpol = 0;
      cpha = 0;
      bits = 2;
      mode = 2;
    }

pub two_lines :
    spi_outs always_selected (0 ∷ 3 ∷ 8 ∷ 9 ∷ 0 ∷ 1 ∷ [])
    ≡ note_at 0 0 0 ∷ packet_at SpiSelect 0 0 ∷ span_note 1 1 3 1 2 ∷ span_piece 0 1 3 1
    ∷ span_piece 1 1 3 2 ∷ span_packet SpiWord 1 3 1 2 ∷ []
unfolding groups after_groups words_outs spi_outs
two_lines = refl
