-- One more byte moves the CRC of all bytes but the last two on by the byte that is now third from
-- the end.
use Rattle.std.proofs.Common.{◌≡◌, ℕ, suc, ◌+◌, ◌-◌, ◌≤◌, List, [], ◌∷◌, ◌++◌, length, refl}
use Rattle.std.proofs.Common.{◌∙◌, ap, arith, take, length-append}
use Rattle.std.specs.Prelude.{get_or}
use Rattle.std.specs.Int.Bits.{bit_xor}
use Rattle.std.proofs.Math.ListN.{get_or-append}
use Rattle.std.proofs.Math.Seq.{take-suc, get_or-append_seam}
use Rattle.std.proofs.lemmas.List.{take-append-le}
use Rattle.dec_modbus.specs.Modbus.{shifts, crc_from}
use Rattle.dec_modbus.specs.laws.Machine.{crc_before}

crc_more : (crc : ℕ) (bytes : List ℕ) (byte : ℕ)
    → crc_from crc (bytes ++ byte ∷ []) ≡ shifts 8 (bit_xor (crc_from crc bytes) byte)
crc_more crc [] byte = refl
crc_more crc (x ∷ bytes) byte = crc_more (shifts 8 (bit_xor crc x)) bytes byte

module _ (bytes : List ℕ) (byte : ℕ) where
  one_more : length (bytes ++ byte ∷ []) ≡ length bytes + 1
  one_more = length-append bytes (byte ∷ [])

  -- the last byte, and the last but one
  pub high_more : get_or (bytes ++ byte ∷ []) (length (bytes ++ byte ∷ []) - 1) 0 ≡ byte
  high_more =
      let last : length (bytes ++ byte ∷ []) - 1 ≡ length bytes = omega (arith, one_more) in
      ap (λ (k : ℕ). get_or (bytes ++ byte ∷ []) k 0) last
      ∙ get_or-append_seam bytes byte [] 0

  pub low_more : 1 ≤ length bytes
      → get_or (bytes ++ byte ∷ []) (length (bytes ++ byte ∷ []) - 2) 0
      ≡ get_or bytes (length bytes - 1) 0
  low_more some =
      let last : length (bytes ++ byte ∷ []) - 2 ≡ length bytes - 1 =
      omega (arith, one_more, some) in
      ap (λ (k : ℕ). get_or (bytes ++ byte ∷ []) k 0) last
      ∙ get_or-append bytes (byte ∷ []) 0 (length bytes - 1) (omega (arith, some))

  front : 1 ≤ length bytes
      → crc_before (bytes ++ byte ∷ []) ≡ crc_from 65535 (take (length bytes - 1) bytes)
  front some =
      let last : length (bytes ++ byte ∷ []) - 2 ≡ length bytes - 1 =
      omega (arith, one_more, some) in
      ap (λ (k : ℕ). crc_from 65535 (take k (bytes ++ byte ∷ []))) last
      ∙ ap (crc_from 65535)
      (take-append-le (length bytes - 1) bytes (byte ∷ []) (omega arith))

  -- the first two bytes don't move it
  pub crc_stays : length bytes ≡ 1 → crc_before (bytes ++ byte ∷ []) ≡ crc_before bytes
  crc_stays one =
      let same : length bytes - 1 ≡ length bytes - 2 = omega (arith, one) in
      front (omega (arith, one)) ∙ ap (λ (k : ℕ). crc_from 65535 (take k bytes)) same

  pub crc_moves : 2 ≤ length bytes
      → crc_before (bytes ++ byte ∷ [])
      ≡ shifts 8 (bit_xor (crc_before bytes) (get_or bytes (length bytes - 2) 0))
  crc_moves some =
      let last : length bytes - 1 ≡ suc (length bytes - 2) = omega (arith, some) in
      front (omega (arith, some)) ∙ ap (λ (k : ℕ). crc_from 65535 (take k bytes)) last
      ∙ ap (crc_from 65535) (take-suc bytes (length bytes - 2) 0 (omega (arith, some)))
      ∙ crc_more 65535 (take (length bytes - 2) bytes) (get_or bytes (length bytes - 2) 0)
