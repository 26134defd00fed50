-- What the levels of a bit give, and those of a byte with its acknowledge.
use Rattle.std.proofs.Common.{◌≡◌, ℕ, ◌+◌, ◌*◌, ◌<◌, ◌≤◌, Bool, true, false, List, [], ◌∷◌, ◌++◌, Option, Some, None, refl, ◌∙◌, ap, arith, append-nil}
use Rattle.std.specs.List.{flat_map}
use Rattle.la_base.specs.Samples.{is_high}
use Rattle.la_base.specs.declared.wires.Out.{Out}
use Rattle.capture_make.specs.Made.{four, clock_levels, high_bits}
use Rattle.dec_i2c.specs.declared.held.Role.{Role}
use Rattle.dec_i2c.specs.declared.held.Role.TheVariants.{First, Write}
use Rattle.dec_i2c.specs.declared.held.Segment.{Segment}
use Rattle.dec_i2c.specs.Bytes.{read_by, address_outs, byte_outs}
use Rattle.dec_i2c.specs.Bus.{start_outs, stop_outs, ack_outs}
use Rattle.dec_i2c.specs.laws.Machine.{grown, role_next, ten_next, clock_gives, clock_next}
use Rattle.made_laws.specs.BusTold.{data_told}
use Rattle.made_laws.specs.laws.BusLevels.{given_levels}
use Rattle.made_laws.specs.laws.BusValues.{byte_by, byte_is, class_is, then_write, half_is, even_is}

-- a segment before the first bit of a byte
abbrev pub between_bytes : Role → Option ℕ → Segment
between_bytes role ten = record { role = role; ten = ten; bits = 0; byte = 0; first = 0 }

module _ (rest : Option Segment → ℕ → Bool → Bool → List Out) (scls sdas : List Bool) where
  -- what bits on the bus give behind a high SCL and this level of SDA, and then other levels
  abbrev pub given_bits : Option Segment → ℕ → Bool → List Bool → List Out
  given_bits held k sda bits = given_levels rest held k true sda (flat_map clock_levels bits ++ scls) (flat_map four bits ++ sdas)

  -- a bit is a clock at the third of its samples, and nothing else
  four_levels : (s : Segment) (k : ℕ) (sda bit : Bool) (bits : List Bool)
      → given_bits (Some s) k sda (bit ∷ bits) ≡ (clock_gives s (k + 1 + 1) bit ++ []) ++ given_bits (Some (clock_next s (k + 1 + 1) bit)) (k + 1 + 1 + 1 + 1) bit bits
  unfolding given_levels
  four_levels s k sda true bits = refl
  four_levels s k sda false bits = refl

  -- the same, by the places of its clock and of what follows
  pub bit_given : (s : Segment) (k clock behind : ℕ) (sda bit : Bool) (bits : List Bool) → k + 2 ≡ clock → k + 4 ≡ behind
      → given_bits (Some s) k sda (bit ∷ bits) ≡ clock_gives s clock bit ++ given_bits (Some (clock_next s clock bit)) behind bit bits
  bit_given s k clock behind sda bit bits at after =
      let place : k + 1 + 1 ≡ clock = omega (arith, at) in
      let end : k + 1 + 1 + 1 + 1 ≡ behind = omega (arith, after) in
      four_levels s k sda bit bits ∙ (λ i. append-nil (clock_gives s (place i) bit) i ++ given_bits (Some (clock_next s (place i) bit)) (end i) bit bits)

  -- eight bits and an acknowledge, where no bit has come before
  module _ (role : Role) (ten : Option ℕ) (k : ℕ) where
    -- behind so many bits
    abbrev with_bits : ℕ → ℕ → Segment
    with_bits bits byte = record { role = role; ten = ten; bits = bits; byte = byte; first = k + 2 }

    -- a byte, by its bits
    nine_given : (sda a b c d e f g h : Bool)
        → given_bits (Some (between_bytes role ten)) k sda (a ∷ b ∷ c ∷ d ∷ e ∷ f ∷ g ∷ h ∷ false ∷ [])
        ≡ byte_outs (λ own. read_by own ten) role (k + 2) (k + 30) (byte_by a b c d e f g h)
        ++ (ack_outs (k + 34) false ++ given_bits (Some (between_bytes (role_next role (byte_by a b c d e f g h)) (ten_next role (byte_by a b c d e f g h) ten))) (k + 36) false [])
    nine_given sda a b c d e f g h =
        let byte = byte_by a b c d e f g h in
        let n1 = grown 0 a in
        let n2 = grown n1 b in
        let n3 = grown n2 c in
        let n4 = grown n3 d in
        let n5 = grown n4 e in
        let n6 = grown n5 f in
        let n7 = grown n6 g in
        bit_given (between_bytes role ten) k (k + 2) (k + 4) sda a (b ∷ c ∷ d ∷ e ∷ f ∷ g ∷ h ∷ false ∷ []) refl refl
        ∙ bit_given (with_bits 1 n1) (k + 4) (k + 6) (k + 8) a b (c ∷ d ∷ e ∷ f ∷ g ∷ h ∷ false ∷ []) (omega arith) (omega arith)
        ∙ bit_given (with_bits 2 n2) (k + 8) (k + 10) (k + 12) b c (d ∷ e ∷ f ∷ g ∷ h ∷ false ∷ []) (omega arith) (omega arith)
        ∙ bit_given (with_bits 3 n3) (k + 12) (k + 14) (k + 16) c d (e ∷ f ∷ g ∷ h ∷ false ∷ []) (omega arith) (omega arith)
        ∙ bit_given (with_bits 4 n4) (k + 16) (k + 18) (k + 20) d e (f ∷ g ∷ h ∷ false ∷ []) (omega arith) (omega arith)
        ∙ bit_given (with_bits 5 n5) (k + 20) (k + 22) (k + 24) e f (g ∷ h ∷ false ∷ []) (omega arith) (omega arith)
        ∙ bit_given (with_bits 6 n6) (k + 24) (k + 26) (k + 28) f g (h ∷ false ∷ []) (omega arith) (omega arith)
        ∙ bit_given (with_bits 7 n7) (k + 28) (k + 30) (k + 32) g h (false ∷ []) (omega arith) (omega arith)
        ∙ ap (λ (l : List Out). byte_outs (λ own. read_by own ten) role (k + 2) (k + 30) byte ++ l)
        (bit_given (record { role = role_next role byte; ten = ten_next role byte ten; bits = 8; byte = byte; first = k + 2 }) (k + 32) (k + 34) (k + 36) h false [] (omega arith) (omega arith))

  -- a byte, by its value
  pub byte_given : (role : Role) (ten : Option ℕ) (k first last ack behind v : ℕ) (sda : Bool) → v < 256 → k + 2 ≡ first → k + 30 ≡ last → k + 34 ≡ ack → k + 36 ≡ behind
      → given_bits (Some (between_bytes role ten)) k sda (high_bits v ++ false ∷ [])
      ≡ byte_outs (λ own. read_by own ten) role first last v
      ++ (ack_outs ack false ++ given_bits (Some (between_bytes (role_next role v) (ten_next role v ten))) behind false [])
  byte_given role ten k first last ack behind v sda small is_first is_last is_ack is_behind =
      nine_given role ten k sda (is_high v 7) (is_high v 6) (is_high v 5) (is_high v 4) (is_high v 3) (is_high v 2) (is_high v 1) (is_high v 0)
      ∙ (λ i. byte_outs (λ own. read_by own ten) role (is_first i) (is_last i) (byte_is v small i)
      ++ (ack_outs (is_ack i) false ++ given_bits (Some (between_bytes (role_next role (byte_is v small i)) (ten_next role (byte_is v small i) ten))) (is_behind i) false []))

  -- an address with R/W 0 and its acknowledge
  pub address_given : (k first last ack behind address : ℕ) (sda : Bool) → 8 ≤ address → address ≤ 119 → k + 2 ≡ first → k + 30 ≡ last → k + 34 ≡ ack → k + 36 ≡ behind
      → given_bits (Some (between_bytes First None)) k sda (high_bits (2 * address) ++ false ∷ [])
      ≡ address_outs 3 first last address 0 ++ ack_outs ack false ++ given_bits (Some (between_bytes Write None)) behind false []
  address_given k first last ack behind address sda above below is_first is_last is_ack is_behind =
      let small : 2 * address < 256 = omega (arith, below) in
      byte_given First None k first last ack behind (2 * address) sda small is_first is_last is_ack is_behind
      ∙ (λ i. address_outs (class_is address above below i) first last (half_is address above below i) (even_is address above below i) ++ ack_outs ack false
      ++ given_bits (Some (between_bytes (then_write address above below i) None)) behind false [])

  -- a data byte that is written, and its acknowledge
  pub data_given : (k first last ack behind v : ℕ) (sda : Bool) → v < 256 → k + 2 ≡ first → k + 30 ≡ last → k + 34 ≡ ack → k + 36 ≡ behind
      → given_bits (Some (between_bytes Write None)) k sda (high_bits v ++ false ∷ [])
      ≡ data_told first last ack v ++ given_bits (Some (between_bytes Write None)) behind false []
  data_given k first last ack behind v sda small is_first is_last is_ack is_behind =
      byte_given Write None k first last ack behind v sda small is_first is_last is_ack is_behind

module _ (rest : Option Segment → ℕ → Bool → Bool → List Out) where
  -- SDA falls at the third of four samples in which SCL is high, the first of which is behind us: a START
  start_levels : (k : ℕ) (scls sdas : List Bool)
      → given_levels rest None k true true (true ∷ true ∷ true ∷ scls) (true ∷ false ∷ false ∷ sdas)
      ≡ start_outs false (k + 1) ++ given_levels rest (Some (between_bytes First None)) (k + 1 + 1 + 1) true false scls sdas
  unfolding given_levels
  start_levels k scls sdas = refl

  -- the same, by the places of the START and of what follows
  pub start_given : (k at behind : ℕ) (scls sdas : List Bool) → k + 1 ≡ at → k + 3 ≡ behind
      → given_levels rest None k true true (true ∷ true ∷ true ∷ scls) (true ∷ false ∷ false ∷ sdas)
      ≡ start_outs false at ++ given_levels rest (Some (between_bytes First None)) behind true false scls sdas
  start_given k at behind scls sdas is_at is_behind =
      let end : k + 1 + 1 + 1 ≡ behind = omega (arith, is_behind) in
      start_levels k scls sdas ∙ (λ i. start_outs false (is_at i) ++ given_levels rest (Some (between_bytes First None)) (end i) true false scls sdas)

  -- SCL stays high and SDA rises: a STOP, and nothing behind it
  stop_levels : (s : Segment) (k : ℕ) → given_levels rest (Some s) k true false (four true) (four true) ≡ stop_outs k ++ rest None (k + 1 + 1 + 1 + 1) true true
  unfolding given_levels
  stop_levels s k = refl

  -- the same, by the place of what follows
  pub stop_given : (s : Segment) (k behind : ℕ) → k + 4 ≡ behind → given_levels rest (Some s) k true false (four true) (four true) ≡ stop_outs k ++ rest None behind true true
  stop_given s k behind is_behind =
      let end : k + 1 + 1 + 1 + 1 ≡ behind = omega (arith, is_behind) in
      stop_levels s k ∙ (λ i. stop_outs k ++ rest None (end i) true true)
