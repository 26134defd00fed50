-- What the samples of a transaction give, and those of all.
use Rattle.std.proofs.Common.{◌≡◌, ℕ, zero, suc, ◌+◌, ◌<◌, ◌≤◌, Bool, true, false, List, [], ◌∷◌, ◌++◌, Option, Some, None, refl, ◌∙◌, ap, arith}
use Rattle.std.specs.List.{flat_map}
use Rattle.la_base.specs.declared.wires.Out.{Out}
use Rattle.capture_make.specs.declared.drawing.Sent.{Sent}
use Rattle.capture_make.specs.Made.{sent, high_bits, four, ten, bus_bits, low_bits, clock_levels, sample_of, samples_of, block, sent_from, made}
use Rattle.sample_walks.specs.Walks.{given}
use Rattle.dec_i2c.specs.declared.held.Role.TheVariants.{Write}
use Rattle.dec_i2c.specs.declared.held.Segment.{Segment}
use Rattle.dec_i2c.specs.Bus.{event_at, start_outs, ack_outs, i2c_outs}
use Rattle.dec_i2c.specs.Bytes.{address_outs}
use Rattle.dec_i2c.specs.laws.I2cLaws.{i2c_given}
use Rattle.dec_i2c.specs.laws.Machine.{clock_next}
use Rattle.made_laws.specs.BusTold.{data_told, bus_told, all_told}
use Rattle.made_laws.specs.laws.BusLevels.{bus_walk, told_from, given_levels, quiet, samples_are}
use Rattle.made_laws.specs.laws.BusBytes.{between_bytes, bit_given, address_given, data_given, start_given, stop_given}

-- the sample in which every line is high
abbrev high : ℕ
high = sample_of true true true

-- the levels behind some bits, and those of a transaction without its first sample
abbrev clocks_behind : List Bool → List Bool
clocks_behind bits = flat_map clock_levels bits ++ clock_levels false ++ four true

abbrev levels_behind : List Bool → List Bool
levels_behind bits = flat_map four bits ++ four false ++ four true

abbrev scl_later : Sent → List Bool
scl_later s = true ∷ true ∷ true ∷ clocks_behind (bus_bits s)

abbrev sda_later : Sent → List Bool
sda_later s = true ∷ false ∷ false ∷ levels_behind (bus_bits s)

abbrev rx_later : Sent → List Bool
rx_later s = true ∷ true ∷ true ∷ true ∷ true ∷ true ∷ true ∷ true ∷ true ∷ ten false ++ flat_map ten (low_bits s.serial) ++ ten true ++ ten true

-- the samples of a transaction are those of these levels
block_is : (s : Sent) (later : List ℕ) → block s ++ later ≡ high ∷ samples_of (scl_later s) (sda_later s) (rx_later s) ++ later
unfolding block
block_is s later = refl

-- the values that a transaction can send
record Fits (s : Sent) : Type 0 where
  pub above : 8 ≤ s.address
  pub below : s.address ≤ 119
  pub first : s.first < 256
  pub second : s.second < 256

-- the levels of a transaction at place t, whatever follows
module _ (rest : Option Segment → ℕ → Bool → Bool → List Out) (t : ℕ) (s : Sent) (fits : Fits s) where
  -- the bits of the second data byte, and of both, each with its acknowledge
  abbrev second_bits : List Bool
  second_bits = high_bits s.second ++ false ∷ []

  abbrev both_bits : List Bool
  both_bits = high_bits s.first ++ false ∷ second_bits

  -- they give what is to be told, and leave no segment open
  levels_give : given_levels rest None (t + 1) true true (scl_later s) (sda_later s) ≡ bus_told t s ++ rest None (t + 120) true true
  levels_give =
      start_given rest (t + 1) (t + 2) (t + 4) (clocks_behind (bus_bits s)) (levels_behind (bus_bits s)) (omega arith) (omega arith)
      ∙ ap (λ (l : List Out). start_outs false (t + 2) ++ l)
      (address_given rest (clocks_behind both_bits) (levels_behind both_bits) (t + 4) (t + 6) (t + 34) (t + 38) (t + 40) s.address false fits.above fits.below (omega arith) (omega arith) (omega arith) (omega arith)
      ∙ ap (λ (l : List Out). address_outs 3 (t + 6) (t + 34) s.address 0 ++ ack_outs (t + 38) false ++ l)
      (data_given rest (clocks_behind second_bits) (levels_behind second_bits) (t + 40) (t + 42) (t + 70) (t + 74) (t + 76) s.first false fits.first (omega arith) (omega arith) (omega arith) (omega arith)
      ∙ ap (λ (l : List Out). data_told (t + 42) (t + 70) (t + 74) s.first ++ l)
      (data_given rest (clocks_behind []) (levels_behind []) (t + 76) (t + 78) (t + 106) (t + 110) (t + 112) s.second false fits.second (omega arith) (omega arith) (omega arith) (omega arith)
      ∙ ap (λ (l : List Out). data_told (t + 78) (t + 106) (t + 110) s.second ++ l)
      (bit_given rest (four true) (four true) (between_bytes Write None) (t + 112) (t + 114) (t + 116) false false [] (omega arith) (omega arith)
      ∙ stop_given rest (clock_next (between_bytes Write None) (t + 114) false) (t + 116) (t + 120) (omega arith)))))

-- the samples of a transaction at place t, where the first of them is no event: behind no sample, or behind one with high lines
block_gives : (t : ℕ) (s : Sent) (before : Option ℕ) (later : List ℕ) → Fits s → event_at 0 1 t before high ≡ []
    → told_from None t before (block s ++ later) ≡ bus_told t s ++ told_from None (t + 120) (Some high) later
block_gives t s before later fits none =
    ap (told_from None t before) (block_is s later)
    ∙ quiet None t before high (samples_of (scl_later s) (sda_later s) (rx_later s) ++ later) none
    ∙ samples_are later (scl_later s) (sda_later s) (rx_later s) None (t + 1) true true true tt
    ∙ levels_give (λ held k scl sda. told_from held k (Some (sample_of scl sda true)) later) t s fits

-- what is drawn fits
sent_fits : (seed j : ℕ) → Fits (sent seed j)
sent_fits seed j = record {
  above = omega arith;
  below = omega arith;
  first = omega arith;
  second = omega arith;
}

-- no samples give nothing
none_told : (t : ℕ) (before : Option ℕ) → told_from None t before [] ≡ []
unfolding told_from
none_told t before = refl

-- all transactions, from place t on
blocks_give : (count seed j t : ℕ) (before : Option ℕ) → event_at 0 1 t before high ≡ [] → told_from None t before (flat_map block (sent_from seed j count)) ≡ all_told t (sent_from seed j count)
blocks_give zero seed j t before none = none_told t before
blocks_give (suc count) seed j t before none =
    block_gives t (sent seed j) before (flat_map block (sent_from seed (suc j) count)) (sent_fits seed j) none
    ∙ ap (λ (l : List Out). bus_told t (sent seed j) ++ l) (blocks_give count seed (suc j) (t + 120) (Some high) refl)

-- what made captures give is what the walk gives over their transactions
made_walked : (seed count : ℕ) → given bus_walk (made seed count) ≡ told_from None 0 None (flat_map block (sent_from seed 0 count))
unfolding given made told_from
made_walked seed count = refl

-- *made buses tell* what was sent
pub made_told : (seed count : ℕ) → i2c_outs 0 1 (made seed count) ≡ all_told 0 (sent_from seed 0 count)
made_told seed count = i2c_given 0 1 (made seed count) ∙ made_walked seed count ∙ blocks_give count seed 0 0 None refl
