-- What is written of a made capture is known from what was sent.
use Rattle.std.proofs.Common.{◌≡◌, ℕ, suc, ◌+◌, ◌*◌, ◌%◌, ◌^◌, ◌≤◌, List, [], ◌∷◌, length, map, refl, ◌∙◌, ap, arith}
use Rattle.std.specs.Prelude.{take}
use Rattle.std.proofs.lemmas.List.{take_all}
use Rattle.la_base.specs.declared.wires.Out.{Out}
use Rattle.capture_make.specs.declared.drawing.Sent.{Sent}
use Rattle.capture_make.specs.Made.{made, sent_from}
use Rattle.capture_make.proofs.Blocks.{made_length, sent_length}
use Rattle.dec_i2c.specs.Bus.{i2c_outs}
use Rattle.dec_uart.specs.Frames.{uart_outs}
use Rattle.decoder_core.specs.Inputs.{Sample, counted_samples, samples_in}
use Rattle.decoder_set.specs.Setups.{outs_of}
use Rattle.made_laws.specs.BusTold as bus
use Rattle.made_laws.specs.laws.BusBlocks.{made_told}
use Rattle.made_laws.specs.LineTold as line
use Rattle.made_laws.specs.LineTold.{made_opts}
use Rattle.made_laws.specs.laws.MadeLines.{made_tell}
use Rattle.tree_runs.specs.Listings.{notes_of}
use Rattle.make_job.specs.Making.{bus_setup, line_setup, made_rate, sum_of, tally_of}
use Rattle.make_job.specs.Sums.{ReadBack, bus_sum, line_sum}
use Rattle.listing_out.specs.Summaries.{summary}

pub made_few : (seed count : ℕ) → count ≤ 1000000 → length (made seed count) ≤ 2 ^ 60
made_few seed count few = let len = made_length seed count in omega (arith, len, few)

samples_of_items : (l : List ℕ) → samples_in (map Sample l) ≡ l
samples_of_items [] = refl
samples_of_items (x ∷ l) = ap (λ (rest : List ℕ). x ∷ rest) (samples_of_items l)

-- all samples of a made capture count
all_counted : (l : List ℕ) → length l ≤ 2 ^ 60 → counted_samples (map Sample l) ≡ l
unfolding counted_samples
all_counted l few = ap (take (2 ^ 60)) (samples_of_items l) ∙ take_all (2 ^ 60) l few

module _ (seed count : ℕ) (few : count ≤ 1000000) where
  abbrev sent_all : List Sent
  sent_all = sent_from seed 0 count

  counted : counted_samples (map Sample (made seed count)) ≡ made seed count
  counted = all_counted (made seed count) (made_few seed count few)

  bus_outs : outs_of bus_setup (map Sample (made seed count)) ≡ bus.all_told 0 sent_all
  bus_outs = ap (i2c_outs 0 1) counted ∙ made_told seed count

  line_outs : outs_of line_setup (map Sample (made seed count)) ≡ line.all_told 0 sent_all
  line_outs = ap (uart_outs made_opts made_rate) counted ∙ made_tell made_rate refl refl seed count

-- both give nothing on no samples
pub made_nothing : (outs_of bus_setup [] ≡ []) × (outs_of line_setup [] ≡ [])
unfolding made
made_nothing = (bus_outs 0 0 (omega arith), line_outs 0 0 (omega arith))

-- the notes of the bus
bus_count : (t : ℕ) (list : List Sent) → length (notes_of (bus.all_told t list)) ≡ 8 * length list
bus_count t [] = refl
bus_count t (s ∷ list) = let more = bus_count (t + 120) list in omega (arith, more)

bus_sums : (t : ℕ) (list : List Sent) → sum_of (notes_of (bus.all_told t list)) ≡ bus_sum list
bus_sums t [] = refl
bus_sums t (s ∷ list) = let more = bus_sums (t + 120) list in omega (arith, more)

-- the notes of the line
line_count : (t : ℕ) (list : List Sent) → length (notes_of (line.all_told t list)) ≡ length list
line_count t [] = refl
line_count t (s ∷ list) = ap suc (line_count (t + 120) list)

line_sums : (t : ℕ) (list : List Sent) → sum_of (notes_of (line.all_told t list)) ≡ line_sum list
line_sums t [] = refl
line_sums t (s ∷ list) = ap (λ (n : ℕ). s.serial + n) (line_sums (t + 120) list)

-- the tallies of both
pub bus_tally : (seed count : ℕ) → count ≤ 1000000 → tally_of (notes_of (outs_of bus_setup (map Sample (made seed count)))) ≡ record { count = 8 * count; sum = bus_sum (sent_from seed 0 count) % 2 ^ 32 }
bus_tally seed count few =
    let list = sent_from seed 0 count in
    let many : 8 * length list ≡ 8 * count = ap (λ (n : ℕ). 8 * n) (sent_length seed 0 count) in
    ap (λ (outs : List Out). tally_of (notes_of outs)) (bus_outs seed count few)
    ∙ (λ i. record { count = (bus_count 0 list ∙ many) i; sum = bus_sums 0 list i % 2 ^ 32 })

pub line_tally : (seed count : ℕ) → count ≤ 1000000 → tally_of (notes_of (outs_of line_setup (map Sample (made seed count)))) ≡ record { count = count; sum = line_sum (sent_from seed 0 count) % 2 ^ 32 }
line_tally seed count few =
    let list = sent_from seed 0 count in
    ap (λ (outs : List Out). tally_of (notes_of outs)) (line_outs seed count few)
    ∙ (λ i. record { count = (line_count 0 list ∙ sent_length seed 0 count) i; sum = line_sums 0 list i % 2 ^ 32 })

-- *made captures are read back*
pub read_back : ReadBack
read_back seed count few = λ i. summary (made_length seed count i) (bus_tally seed count few i) (line_tally seed count few i)
