-- The bits of a segment, cut into groups: one more bit.
use Rattle.std.proofs.Common.{◌≡◌, ◌⊎◌, inl, inr, ℕ, suc, ◌+◌, ◌*◌, ◌/◌, ◌%◌, ◌^◌, ◌<◌, ◌≤◌, Bool}
use Rattle.std.proofs.Common.{true, false, if◌then◌else◌, ◌==◌, List, [], ◌∷◌, ◌++◌, length, map}
use Rattle.std.proofs.Common.{take, drop, Some, None, refl, sym, ◌∙◌, ap, subst, arith}
use Rattle.std.proofs.Common.{length-append, length-drop}
use Rattle.std.specs.Prelude.{min, nat_lt}
use Rattle.std.proofs.Math.Nat.{mod-eq_of_lt, mod-eq-sub-div-mul}
use Rattle.std.proofs.lemmas.Bool.{cases_lt}
use Rattle.std.proofs.lemmas.List.{append-nil, map-append, length-map, take_at, take-append-le}
use Rattle.std.proofs.lemmas.List.{drop-append-le, drop_all}
use Rattle.la_base.specs.declared.wires.Packet.{Packet}
use Rattle.list_cuts.specs.Bits.{bit_of, low_first}
use Rattle.list_cuts.specs.Groups.{groups, after_groups}
use Rattle.list_cuts.proofs.BitLaws.{low_push, low_below}
use Rattle.list_cuts.proofs.GroupLaws.{groups_short, groups_count, after_groups_few}
use Rattle.list_cuts.proofs.GroupLaws.{after_groups_short, groups_push_short, groups_push_full}
use Rattle.list_cuts.proofs.GroupLaws.{after_push_short, after_push_full}
use Rattle.list_cuts.proofs.TestLaws.{when_yes, when_no, less_yes, less_no, test_yes, test_no}
use Rattle.list_cuts.proofs.TestLaws.{suc_no}
use Rattle.dec_onewire.specs.declared.net.held.Begun.{Begun}
use Rattle.dec_onewire.specs.declared.net.held.Role.{Role}
use Rattle.dec_onewire.specs.declared.net.held.Role.TheVariants.{Command, Rom, Search, Byte}
use Rattle.dec_onewire.specs.Net.{bit_in, number_of, last_in, last_bit, directions, size_of}
use Rattle.dec_onewire.specs.Net.{number_in, sends_rom, searches, rom_behind, Group, Cut}
use Rattle.dec_onewire.specs.Net.{first_group, headed, bytes_cut, behind, segment_cut, starts_at}
use Rattle.dec_onewire.specs.Net.{ends_at}
use Rattle.dec_onewire.specs.laws.NetMachine.{none_begun, role_by, role_next, role_behind, begun_by}
use Rattle.dec_onewire.specs.laws.NetMachine.{put_bit, with_bit, start_of}

abbrev pub cut_of : List Group → List Packet → Cut
cut_of list rest = record { whole = list; rest = rest }

abbrev pub group_of : Role → List Packet → Group
group_of role bits = record { role = role; bits = bits }

-- a cut behind one more bit, by what its rest is to become: it joins the rest, or makes it whole
abbrev pub pushed_by : Bool → Role → Cut → Packet → Cut
pushed_by true role cut bit = cut_of cut.whole (cut.rest ++ bit ∷ [])
pushed_by false role cut bit = cut_of (cut.whole ++ group_of role (cut.rest ++ bit ∷ []) ∷ []) []

abbrev pub pushed : (List Group → Role) → Cut → Packet → Cut
pushed role cut bit =
    pushed_by (nat_lt (length cut.rest + 1) (size_of (role cut.whole))) (role cut.whole) cut bit

-- a way to cut bits that goes on bit by bit
pub record Cuts (cut : List Packet → Cut) (role : List Group → Role) : Type 0 where
  pub none : cut [] ≡ cut_of [] []
  pub short : (bits : List Packet) → length (cut bits).rest < size_of (role (cut bits).whole)
  pub more : (bits : List Packet) (bit : Packet)
      → cut (bits ++ bit ∷ []) ≡ pushed role (cut bits) bit

-- one more bit joins the rest, or makes it whole
module _ (role : List Group → Role) (cut : Cut) (bit : Packet) where
  joins : length cut.rest + 1 < size_of (role cut.whole)
      → pushed role cut bit ≡ cut_of cut.whole (cut.rest ++ bit ∷ [])
  joins less =
      ap (λ (t : Bool). pushed_by t (role cut.whole) cut bit)
      (less_yes (length cut.rest + 1) (size_of (role cut.whole)) less)

  ends : size_of (role cut.whole) ≤ length cut.rest + 1
      → pushed role cut bit
      ≡ cut_of (cut.whole ++ group_of (role cut.whole) (cut.rest ++ bit ∷ []) ∷ []) []
  ends more =
      ap (λ (t : Bool). pushed_by t (role cut.whole) cut bit)
      (less_no (length cut.rest + 1) (size_of (role cut.whole)) more)

some_bits : (role : Role) → 0 < size_of role
some_bits Command = omega arith
some_bits Rom = omega arith
some_bits Search = omega arith
some_bits Byte = omega arith

-- bytes
stay_bytes : (list : List Group) → role_behind Byte list ≡ Byte
stay_bytes [] = refl
stay_bytes (group ∷ list) = stay_bytes list

abbrev byte_group : List Packet → Group
byte_group bits = group_of Byte bits

bytes_cuts : Cuts bytes_cut (role_behind Byte)
bytes_cuts = record {
  none = λ i. cut_of (map byte_group (groups_short 8 (omega arith) [] (omega arith) i))
      (after_groups_few 8 (omega arith) [] (omega arith) i);
  short = λ bits. subst (λ (n : ℕ). length (after_groups 8 bits) < n) (sym (size bits))
      (after_groups_short 8 (omega arith) bits);
  more = λ bits bit. by bits bit (cases_lt (length (after_groups 8 bits) + 1) 8);
}
  where
    size : (bits : List Packet) → size_of (role_behind Byte (bytes_cut bits).whole) ≡ 8
    size bits = ap size_of (stay_bytes (bytes_cut bits).whole)

    by : (bits : List Packet) (bit : Packet)
        → (length (after_groups 8 bits) + 1 < 8) ⊎ (8 ≤ length (after_groups 8 bits) + 1)
        → bytes_cut (bits ++ bit ∷ []) ≡ pushed (role_behind Byte) (bytes_cut bits) bit
    by bits bit (inl less) =
        (λ i. cut_of (map byte_group (groups_push_short 8 (omega arith) bits bit less i))
        (after_push_short 8 (omega arith) bits bit less i))
        ∙ sym (joins (role_behind Byte) (bytes_cut bits) bit
        (subst (λ (n : ℕ). length (after_groups 8 bits) + 1 < n) (sym (size bits)) less))
    by bits bit (inr full) =
        let short = after_groups_short 8 (omega arith) bits in
        let whole : length (after_groups 8 bits) + 1 ≡ 8 = omega (arith, short, full) in
        (λ i. cut_of (map byte_group (groups_push_full 8 (omega arith) bits bit whole i))
        (after_push_full 8 (omega arith) bits bit whole i))
        ∙ ap (λ (list : List Group). cut_of list [])
        (map-append byte_group (groups 8 bits) ((after_groups 8 bits ++ bit ∷ []) ∷ []))
        ∙ ap (λ (role : Role). cut_of
        (map byte_group (groups 8 bits) ++ group_of role (after_groups 8 bits ++ bit ∷ []) ∷ []) [])
        (sym (stay_bytes (bytes_cut bits).whole))
        ∙ sym (ends (role_behind Byte) (bytes_cut bits) bit
        (subst (λ (n : ℕ). n ≤ length (after_groups 8 bits) + 1) (sym (size bits)) full))

-- a group, and others behind it
module _ (role : Role) (others : List Packet → List Packet → Cut)
    (after : List Packet → List Group → Role)
    (cuts : (first : List Packet) → Cuts (others first) (after first))
    (roles : List Group → Role) (begins : roles [] ≡ role)
    (goes_on : (first : List Packet) (list : List Group)
    → roles (group_of role first ∷ list) ≡ after first list) where
  abbrev n : ℕ
  n = size_of role

  abbrev cut : List Packet → Cut
  cut bits = first_group role others bits

  too_few : (bits : List Packet) → length bits < n → cut bits ≡ cut_of [] bits
  too_few bits less =
      when_yes (nat_lt (length bits) n) (cut_of [] bits)
      (headed role (take n bits) (others (take n bits) (drop n bits)))
      (less_yes (length bits) n less)

  enough : (bits : List Packet) → n ≤ length bits
      → cut bits ≡ headed role (take n bits) (others (take n bits) (drop n bits))
  enough bits most =
      when_no (nat_lt (length bits) n) (cut_of [] bits)
      (headed role (take n bits) (others (take n bits) (drop n bits)))
      (less_no (length bits) n most)

  first_size : size_of (roles []) ≡ n
  first_size = ap size_of begins

  short_by : (bits : List Packet) → (length bits < n) ⊎ (n ≤ length bits)
      → length (cut bits).rest < size_of (roles (cut bits).whole)
  short_by bits (inl less) =
      subst (λ (c : Cut). length c.rest < size_of (roles c.whole)) (sym (too_few bits less))
      (subst (λ (k : ℕ). length bits < k) (sym first_size) less)
  short_by bits (inr most) =
      let first = take n bits in
      let rest = others first (drop n bits) in
      subst (λ (c : Cut). length c.rest < size_of (roles c.whole)) (sym (enough bits most))
      (subst (λ (r : Role). length rest.rest < size_of r) (sym (goes_on first rest.whole))
      ((cuts first).short (drop n bits)))

  -- one more bit behind a whole group
  headed_more : (first : List Packet) (rest : Cut) (bit : Packet)
      → headed role first (pushed (after first) rest bit)
      ≡ pushed roles (headed role first rest) bit
  headed_more first rest bit = by (after first rest.whole) (goes_on first rest.whole)
    where
      at : (t : Bool) (r : Role)
          → headed role first (pushed_by t r rest bit) ≡ pushed_by t r (headed role first rest) bit
      at true r = refl
      at false r = refl

      by : (r : Role) → roles (group_of role first ∷ rest.whole) ≡ r
          → headed role first (pushed_by (nat_lt (length rest.rest + 1) (size_of r)) r rest bit)
          ≡ pushed roles (headed role first rest) bit
      by r is =
          at (nat_lt (length rest.rest + 1) (size_of r)) r
          ∙ ap (λ (s : Role). pushed_by (nat_lt (length rest.rest + 1) (size_of s)) s
          (headed role first rest) bit) (sym is)

  one_longer : (bits : List Packet) (bit : Packet) → length (bits ++ bit ∷ []) ≡ length bits + 1
  one_longer bits bit = length-append bits (bit ∷ [])

  more_by : (bits : List Packet) (bit : Packet) → (length bits + 1 < n) ⊎ (n ≤ length bits + 1)
      → (length bits < n) ⊎ (n ≤ length bits) → cut (bits ++ bit ∷ []) ≡ pushed roles (cut bits) bit
  more_by bits bit (inl less) any =
      let now : length (bits ++ bit ∷ []) < n = omega (arith, one_longer bits bit, less) in
      too_few (bits ++ bit ∷ []) now
      ∙ sym (joins roles (cut_of [] bits) bit
      (subst (λ (k : ℕ). length bits + 1 < k) (sym first_size) less))
      ∙ ap (λ (c : Cut). pushed roles c bit) (sym (too_few bits (omega (arith, less))))
  more_by bits bit (inr full) (inl less) =
      let long = bits ++ bit ∷ [] in
      let is : length long ≡ n = omega (arith, one_longer bits bit, full, less) in
      let all : take n long ≡ long =
      ap (λ (l : List Packet). take n l) (sym (append-nil long)) ∙ take_at long [] n is in
      let none : drop n long ≡ [] = drop_all n long (omega (arith, is)) in
      enough long (omega (arith, is))
      ∙ (λ i. headed role (all i) (others (all i) (none i)))
      ∙ ap (headed role long) ((cuts long).none)
      ∙ ap (λ (r : Role). cut_of (group_of r long ∷ []) []) (sym begins)
      ∙ sym (ends roles (cut_of [] bits) bit
      (subst (λ (k : ℕ). k ≤ length bits + 1) (sym first_size) full))
      ∙ ap (λ (c : Cut). pushed roles c bit) (sym (too_few bits less))
  more_by bits bit (inr full) (inr most) =
      let first = take n bits in
      let same : take n (bits ++ bit ∷ []) ≡ first = take-append-le n bits (bit ∷ []) most in
      let rest : drop n (bits ++ bit ∷ []) ≡ drop n bits ++ bit ∷ [] =
      drop-append-le n bits (bit ∷ []) most in
      enough (bits ++ bit ∷ []) (omega (arith, one_longer bits bit, most))
      ∙ (λ i. headed role (same i) (others (same i) (rest i)))
      ∙ ap (headed role first) ((cuts first).more (drop n bits) bit)
      ∙ headed_more first (others first (drop n bits)) bit
      ∙ ap (λ (c : Cut). pushed roles c bit) (sym (enough bits most))

  first_cuts : Cuts cut roles
  first_cuts = record {
    none = too_few [] (some_bits role);
    short = λ bits. short_by bits (cases_lt (length bits) n);
    more = λ bits bit. more_by bits bit (cases_lt (length bits + 1) n) (cases_lt (length bits) n);
  }

behind_cuts : (command : ℕ)
    → Cuts (behind (rom_behind command)) (role_behind (role_by (rom_behind command)))
behind_cuts command = by (sends_rom command) (searches command)
  where
    by : (t u : Bool) → Cuts (behind (if t then Some Rom else if u then Some Search else None))
        (role_behind (role_by (if t then Some Rom else if u then Some Search else None)))
    by true u =
        first_cuts Rom (λ first rest. bytes_cut rest) (λ first. role_behind Byte)
        (λ first. bytes_cuts) (role_behind Rom) refl (λ first list. refl)
    by false true =
        first_cuts Search (λ first rest. bytes_cut rest) (λ first. role_behind Byte)
        (λ first. bytes_cuts) (role_behind Search) refl (λ first list. refl)
    by false false = bytes_cuts

pub segment_cuts : Cuts segment_cut (role_behind Command)
segment_cuts =
    first_cuts Command (λ command rest. behind (rom_behind (number_of command)) rest)
    (λ command. role_behind (role_by (rom_behind (number_of command))))
    (λ command. behind_cuts (number_of command)) (role_behind Command) refl (λ first list. refl)

-- what stands behind one more group
pub role_more : (role : Role) (list : List Group) (group : Group)
    → role_behind role (list ++ group ∷ [])
    ≡ role_next (role_behind role list) (number_in group.role group.bits)
role_more role [] group = refl
role_more role (u ∷ list) group = role_more (role_next role (number_in u.role u.bits)) list group

-- what is kept of no bits, and of one bit more
pub nothing_begun : (role : Role) → begun_by role [] ≡ none_begun
nothing_begun Command = refl
nothing_begun Rom = refl
nothing_begun Search =
    ap (λ (l : List (List Packet)). begun_of (low_first (map last_bit l)))
    (groups_short 3 (omega arith) [] (omega arith))
  where
    begun_of : ℕ → Begun
    begun_of number = record { count = 0; start = 0; number = number }
nothing_begun Byte = refl

pub start_more : (role : Role) (rest : List Packet) (bit : Packet)
    → starts_at (rest ++ bit ∷ []) ≡ start_of (begun_by role rest) bit
start_more role [] bit = refl
start_more role (packet ∷ rest) bit =
    sym (when_no (suc (length rest) == 0) bit.start packet.start (suc_no (length rest)))

last_more : (packet : Packet) (packets : List Packet) (bit : Packet)
    → last_in packet (packets ++ bit ∷ []) ≡ bit
last_more packet [] bit = refl
last_more packet (next ∷ packets) bit = last_more next packets bit

pub end_more : (rest : List Packet) (bit : Packet) → ends_at (rest ++ bit ∷ []) ≡ bit.end
end_more [] bit = refl
end_more (packet ∷ rest) bit = ap (λ (p : Packet). p.end) (last_more packet rest bit)

last_bit_more : (packets : List Packet) (bit : Packet) → last_bit (packets ++ bit ∷ []) ≡ bit_in bit
last_bit_more [] bit = refl
last_bit_more (packet ∷ packets) bit = ap bit_in (last_more packet packets bit)

-- a number with one more bit above the others
put_is : (bits : List Bool) (b : Bool) → length bits ≤ 63
    → low_first (bits ++ b ∷ []) ≡ put_bit (length bits) (low_first bits) b
put_is bits b few =
    let place : length bits ≡ min (length bits) 63 = omega (arith, few) in
    low_push bits b
    ∙ ap (λ (n : ℕ). n + bit_of b * 2 ^ length bits) (sym (mod-eq_of_lt (low_below bits)))
    ∙ ap (λ (k : ℕ). low_first bits % 2 ^ k + bit_of b * 2 ^ k) place

number_more : (rest : List Packet) (bit : Packet) → length rest ≤ 63
    → number_of (rest ++ bit ∷ []) ≡ put_bit (length rest) (number_of rest) (bit_in bit)
number_more rest bit few =
    let len : length (map bit_in rest) ≡ length rest = length-map rest bit_in in
    ap low_first (map-append bit_in rest (bit ∷ []))
    ∙ put_is (map bit_in rest) (bit_in bit) (omega (arith, few, len))
    ∙ ap (λ (k : ℕ). put_bit k (number_of rest) (bit_in bit)) len

-- each third bit of a search is a direction
module _ (rest : List Packet) (bit : Packet) where
  left_is : length (after_groups 3 rest) ≡ length rest % 3
  unfolding after_groups
  left_is = length-drop (length rest / 3 * 3) rest ∙ sym (mod-eq-sub-div-mul (length rest) 3)

  found : length (directions rest) ≡ length rest / 3
  found = length-map (groups 3 rest) last_bit ∙ groups_count 3 rest

  search_more : length rest < 192 → low_first (directions (rest ++ bit ∷ []))
      ≡ with_bit Search (begun_by Search rest) (bit_in bit)
  search_more few = by (cases_lt (length (after_groups 3 rest) + 1) 3)
    where
      by : (length (after_groups 3 rest) + 1 < 3) ⊎ (3 ≤ length (after_groups 3 rest) + 1)
          → low_first (directions (rest ++ bit ∷ []))
          ≡ with_bit Search (begun_by Search rest) (bit_in bit)
      by (inl less) =
          let other : (length rest % 3 == 2) ≡ false =
          test_no (length rest % 3) 2 (λ is. absurd (omega (arith, is, less, left_is))) in
          ap (λ (l : List (List Packet)). low_first (map last_bit l))
          (groups_push_short 3 (omega arith) rest bit less)
          ∙ sym (when_no (length rest % 3 == 2)
          (put_bit (length rest / 3) (low_first (directions rest)) (bit_in bit))
          (low_first (directions rest)) other)
      by (inr full) =
          let short = after_groups_short 3 (omega arith) rest in
          let whole : length (after_groups 3 rest) + 1 ≡ 3 = omega (arith, short, full) in
          let third : (length rest % 3 == 2) ≡ true =
          test_yes (length rest % 3) 2 (omega (arith, whole, left_is)) in
          let place : length (directions rest) ≤ 63 = omega (arith, found, few) in
          ap (λ (l : List (List Packet)). low_first (map last_bit l))
          (groups_push_full 3 (omega arith) rest bit whole)
          ∙ ap low_first
          (map-append last_bit (groups 3 rest) ((after_groups 3 rest ++ bit ∷ []) ∷ []))
          ∙ ap (λ (b : Bool). low_first (directions rest ++ b ∷ []))
          (last_bit_more (after_groups 3 rest) bit)
          ∙ put_is (directions rest) (bit_in bit) place
          ∙ ap (λ (k : ℕ). put_bit k (low_first (directions rest)) (bit_in bit)) found
          ∙ sym (when_yes (length rest % 3 == 2)
          (put_bit (length rest / 3) (low_first (directions rest)) (bit_in bit))
          (low_first (directions rest)) third)

pub number_with : (role : Role) (rest : List Packet) (bit : Packet) → length rest < size_of role
    → number_in role (rest ++ bit ∷ []) ≡ with_bit role (begun_by role rest) (bit_in bit)
number_with Command rest bit few = number_more rest bit (omega (arith, few))
number_with Rom rest bit few = number_more rest bit (omega (arith, few))
number_with Search rest bit few = search_more rest bit few
number_with Byte rest bit few = number_more rest bit (omega (arith, few))

-- a byte is below 256
pub byte_small : (bits : List Packet) → length bits ≡ 8 → number_of bits % 256 ≡ number_of bits
byte_small bits is =
    let len : length (map bit_in bits) ≡ 8 = length-map bits bit_in ∙ is in
    let small : number_of bits < 256 =
    subst (λ (k : ℕ). number_of bits < 2 ^ k) len (low_below (map bit_in bits)) in
    mod-eq_of_lt small
