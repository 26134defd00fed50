-- Segments keep their bits, and bytes with their own CRC have none.
use Rattle.std.proofs.Common.{◌≡◌, ℕ, Bool, true, false, if◌then◌else◌, List, [], ◌∷◌, ◌++◌, length, map, take, drop, Option, Some, None, refl, ◌∙◌, ap, append_assoc, take-append-drop}
use Rattle.std.specs.Prelude.{nat_lt}
use Rattle.std.specs.List.{flat_map}
use Rattle.std.specs.Int.Bits.{bit_xor, xor_self}
use Rattle.la_base.specs.declared.wires.Packet.{Packet}
use Rattle.list_cuts.specs.Groups.{groups, after_groups}
use Rattle.list_cuts.proofs.GroupLaws.{groups_whole}
use Rattle.dec_onewire.specs.declared.net.held.Role.{Role}
use Rattle.dec_onewire.specs.declared.net.held.Role.TheVariants.{Command, Byte}
use Rattle.dec_onewire.specs.Net.{Group, Cut, headed, first_group, bytes_cut, behind, rom_behind, number_of, size_of, segment_cut, shifts, crc_from, crc8}

abbrev all_bits : Cut → List Packet
all_bits cut = flat_map (λ (group : Group). group.bits) cut.whole ++ cut.rest

bytes_keep : (bits : List Packet) → all_bits (bytes_cut bits) ≡ bits
bytes_keep bits = ap (λ (l : List Packet). l ++ after_groups 8 bits) (by (groups 8 bits)) ∙ groups_whole 8 bits
  where
    by : (list : List (List Packet)) → flat_map (λ (group : Group). group.bits) (map (λ byte. record { role = Byte; bits = byte }) list) ≡ flat_map (λ g. g) list
    by [] = refl
    by (g ∷ list) = ap (λ (l : List Packet). g ++ l) (by list)

first_keeps : (role : Role) (others : List Packet → List Packet → Cut) → ((first rest : List Packet) → all_bits (others first rest) ≡ rest) → (bits : List Packet) → all_bits (first_group role others bits) ≡ bits
first_keeps role others keeps bits = by (nat_lt (length bits) (size_of role))
  where
    by : (t : Bool) → all_bits (if t then record { whole = []; rest = bits } else headed role (take (size_of role) bits) (others (take (size_of role) bits) (drop (size_of role) bits))) ≡ bits
    by true = refl
    by false =
        let cut = others (take (size_of role) bits) (drop (size_of role) bits) in
        append_assoc (take (size_of role) bits) (flat_map (λ (group : Group). group.bits) cut.whole) cut.rest
        ∙ ap (λ (l : List Packet). take (size_of role) bits ++ l) (keeps (take (size_of role) bits) (drop (size_of role) bits))
        ∙ take-append-drop (size_of role) bits

behind_keeps : (rom : Option Role) (bits : List Packet) → all_bits (behind rom bits) ≡ bits
behind_keeps None bits = bytes_keep bits
behind_keeps (Some role) bits = first_keeps role (λ first others. bytes_cut others) (λ first rest. bytes_keep rest) bits

pub segment_keeps : (bits : List Packet) → all_bits (segment_cut bits) ≡ bits
segment_keeps bits = first_keeps Command (λ command others. behind (rom_behind (number_of command)) others) (λ command rest. behind_keeps (rom_behind (number_of command)) rest) bits

crc_more : (bytes : List ℕ) (crc byte : ℕ) → crc_from crc (bytes ++ byte ∷ []) ≡ shifts 8 (bit_xor (crc_from crc bytes) byte)
crc_more [] crc byte = refl
crc_more (b ∷ bytes) crc byte = crc_more bytes (shifts 8 (bit_xor crc b)) byte

pub own_crc : (bytes : List ℕ) → crc8 (bytes ++ crc8 bytes ∷ []) ≡ 0
own_crc bytes = crc_more bytes 0 (crc8 bytes) ∙ ap (λ (n : ℕ). shifts 8 n) (xor_self (crc8 bytes))
