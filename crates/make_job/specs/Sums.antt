-- What is sent in made captures, in sums; and what is written of one by them.
use Rattle.std.specs.Prelude.{ℕ, ◌≡◌, ◌+◌, ◌*◌, ◌%◌, ◌^◌, ◌≤◌, List, [], ◌∷◌}
use Rattle.capture_make.specs.declared.drawing.Sent.{Sent}
use Rattle.capture_make.specs.Made.{sent_from}
use Rattle.listing_out.specs.Summaries.{summary}
use Rattle.make_job.specs.Making.{made_listing}

-- the addresses and data bytes of the bus
abbrev pub bus_sum : List Sent → ℕ
bus_sum [] = 0
bus_sum (s ∷ list) = s.address + s.first + s.second + bus_sum list

-- the bytes of the serial line
abbrev pub line_sum : List Sent → ℕ
line_sum [] = 0
line_sum (s ∷ list) = s.serial + line_sum list

-- *made captures are read back*: eight notes for each transaction with its address and data bytes,
-- and a note for each byte of the serial line; so what is written is known from what was sent
abbrev pub ReadBack : Type 0
ReadBack = (seed count : ℕ) → count ≤ 1000000
    → made_listing seed count
    ≡ summary (120 * count)
    (record { count = 8 * count; sum = bus_sum (sent_from seed 0 count) % 2 ^ 32 })
    (record { count = count; sum = line_sum (sent_from seed 0 count) % 2 ^ 32 })
