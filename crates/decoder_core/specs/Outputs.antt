-- Outputs of one sample, and from one sample up to another.
use Rattle.std.specs.Prelude.{ℕ, min}
use Rattle.std.proofs.Math.Nat.{le_refl, min-le_right}
use Rattle.la_base.specs.declared.wires.Out.{Out}
use Rattle.la_base.specs.declared.wires.Out.TheVariants.{Note as NoteOut, Piece as PieceOut}
use Rattle.la_base.specs.declared.wires.Out.TheVariants.{Packet as PacketOut}
use Rattle.la_base.specs.declared.wires.PacketKind.{PacketKind}

-- a note and a packet of one sample, with one value
abbrev pub note_at : ℕ → ℕ → ℕ → Out
note_at class at a =
    NoteOut (record { class = class; start = at; end = at; a = a; b = 0; in_order = le_refl at })

abbrev pub packet_at : PacketKind → ℕ → ℕ → Out
packet_at kind at a =
    PacketOut (record { kind = kind; start = at; end = at; a = a; b = 0; in_order = le_refl at })

-- a note, a piece and a packet from one sample up to another; where samples lead, the first never
-- lies behind the last
abbrev pub span_note : ℕ → ℕ → ℕ → ℕ → ℕ → Out
span_note class first last a b =
    NoteOut (record {
      class = class;
      start = min first last;
      end = last;
      a = a;
      b = b;
      in_order = min-le_right first last;
    })

abbrev pub span_piece : ℕ → ℕ → ℕ → ℕ → Out
span_piece class first last byte =
    PieceOut (record {
      class = class;
      start = min first last;
      end = last;
      byte = byte;
      in_order = min-le_right first last;
    })

abbrev pub span_packet : PacketKind → ℕ → ℕ → ℕ → ℕ → Out
span_packet kind first last a b =
    PacketOut (record {
      kind = kind;
      start = min first last;
      end = last;
      a = a;
      b = b;
      in_order = min-le_right first last;
    })
