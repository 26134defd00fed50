-- One group more of the bits of a 1-Wire segment.
use Rattle.std.proofs.Common.{◌≡◌, ℕ, zero, suc, ◌+◌, ◌-◌, ◌*◌, ◌/◌, ◌^◌, ◌≤◌, ◌<◌, Bool, false, List, [], ◌∷◌, ◌++◌, take, drop, map, length, refl, sym, ◌∙◌, ap, subst, length-take-le, length-drop, take-append-drop, arith}
use Rattle.std.specs.Prelude.{slice_index_or}
use Rattle.std.specs.List.{flat_map}
use Rattle.std.proofs.Math.Pow.{pow_mono}
use Rattle.std.proofs.lemmas.List.{length-map}
use Rattle.la_base.specs.declared.wires.Out.{Out}
use Rattle.la_base.specs.declared.wires.Packet.{Packet}
use Rattle.list_cuts.specs.Bits.{bit_of, low_first}
use Rattle.list_cuts.specs.Groups.{groups}
use Rattle.list_cuts.proofs.BitLaws.{low_below}
use Rattle.list_cuts.proofs.GroupLaws.{groups_count, groups_first, groups_short}
use Rattle.dec_onewire.specs.declared.net.held.Role.TheVariants.{Byte}
use Rattle.dec_onewire.specs.Net.{bytes_cut, directions, group_outs, last_bit, role_outs, rom_outs}
use Rattle.reference_devices.specs.declared.onewire_net.Rom.{Rom}
use Rattle.reference_devices.specs.declared.onewire_net.Rom.TheVariants.{Sent, Found}
use Rattle.reference_devices.specs.NetParts.{role_of}

-- a bit in front of those behind it
low_front : (bits : List Bool) (k : ℕ) → k < length bits → low_first (drop k bits) ≡ bit_of (slice_index_or bits k false) + 2 * low_first (drop (suc k) bits)
low_front [] k within = absurd (omega arith)
low_front (b ∷ bits) zero within = refl
low_front (b ∷ bits) (suc k) within = low_front bits k (omega arith)

module _ (bits : List Bool) (k : ℕ) (within : k < length bits) where
  pub bit_round : low_first (drop k bits) ≡ 2 * low_first (drop (k + 1) bits) + bit_of (slice_index_or bits k false)
  bit_round =
      let same : suc k ≡ k + 1 = omega arith in
      let front : low_first (drop k bits) ≡ bit_of (slice_index_or bits k false) + 2 * low_first (drop (k + 1) bits) = low_front bits k within ∙ ap (λ (n : ℕ). bit_of (slice_index_or bits k false) + 2 * low_first (drop n bits)) same in
      omega (arith, front)

  -- there is room for so many bits
  pub bit_room : length bits ≤ 64 → low_first (drop k bits) < 2 ^ 64
  bit_room few =
      let below = low_below (drop k bits) in
      let short : length (drop k bits) ≤ 64 = omega (arith, length-drop k bits, few) in
      let most : 2 ^ length (drop k bits) ≤ 2 ^ 64 = pow_mono {i = length (drop k bits)} {j = 64} short in
      omega (arith, below, most)

-- for the next bit of a number whose bits from a place on are known
pub next_room : (bits : List Bool) (place number : ℕ) → number ≡ low_first (drop place bits) → 0 < place → place ≤ length bits → length bits ≤ 64
    → 2 * number + bit_of (slice_index_or bits (place - 1) false) < 2 ^ 64
next_room bits place number so_far some within few =
    let k = place - 1 in
    let below : k < length bits = omega (arith, some, within) in
    let same : k + 1 ≡ place = omega (arith, some) in
    let bit = bit_of (slice_index_or bits k false) in
    let grown : low_first (drop k bits) ≡ 2 * low_first (drop place bits) + bit = bit_round bits k below ∙ ap (λ (n : ℕ). 2 * low_first (drop n bits) + bit) same in
    let room = bit_room bits k below few in
    omega (arith, grown, room, so_far)

pub whole_small : (bits : List Bool) (place number : ℕ) → number ≡ low_first (drop place bits) → place ≤ 0 → number < 2 ^ length bits
whole_small bits place number so_far none =
    let first : place ≡ 0 = omega (arith, none) in
    subst (λ (n : ℕ). n < 2 ^ length bits) (sym (so_far ∙ ap (λ (k : ℕ). low_first (drop k bits)) first)) (low_below bits)

-- a step of a search in front of others
pub step_round : (bits : List Packet) → 3 ≤ length bits → directions bits ≡ last_bit (take 3 bits) ∷ directions (drop 3 bits)
step_round bits long =
    ap directions (sym (take-append-drop 3 bits)) ∙ ap (map last_bit) (groups_first 3 (omega arith) (take 3 bits) (drop 3 bits) (length-take-le 3 bits long))

pub no_step : (bits : List Packet) → length bits < 3 → directions bits ≡ []
no_step bits short = ap (map last_bit) (groups_short 3 (omega arith) bits short)

-- a byte in front of others
pub byte_round : (bits : List Packet) → 8 ≤ length bits
    → flat_map group_outs (bytes_cut bits).whole ≡ group_outs (record { role = Byte; bits = take 8 bits }) ++ flat_map group_outs (bytes_cut (drop 8 bits)).whole
byte_round bits long =
    ap (λ (l : List (List Packet)). flat_map group_outs (map (λ (byte : List Packet). record { role = Byte; bits = byte }) l))
    (ap (groups 8) (sym (take-append-drop 8 bits)) ∙ groups_first 8 (omega arith) (take 8 bits) (drop 8 bits) (length-take-le 8 bits long))

pub no_byte : (bits : List Packet) → length bits < 8 → flat_map group_outs (bytes_cut bits).whole ≡ []
no_byte bits short =
    ap (λ (l : List (List Packet)). flat_map group_outs (map (λ (byte : List Packet). record { role = Byte; bits = byte }) l)) (groups_short 8 (omega arith) bits short)

-- a search has as many steps as a ROM has bits
pub directions_few : (bits : List Packet) → length bits ≡ 192 → length (directions bits) ≤ 64
directions_few bits long =
    let count : length (directions bits) ≡ 64 = length-map (groups 3 bits) last_bit ∙ groups_count 3 bits ∙ ap (λ (n : ℕ). n / 3) long in
    omega (arith, count)

-- a ROM gives the same, however it comes
pub rom_is : (rom : Rom) (first last number : ℕ) → rom_outs first last number ≡ role_outs (role_of rom) first last number
rom_is Sent first last number = refl
rom_is Found first last number = refl
