-- One more packet: what the whole list of packets gives is what the state says that the packets
-- before it left.
use Rattle.std.proofs.Common.{◌≡◌, ℕ, suc, ◌+◌, ◌<◌, ◌≤◌, Bool, true, false, if◌then◌else◌, ◌==◌}
use Rattle.std.proofs.Common.{cond, List, [], ◌∷◌, ◌++◌, length, refl, sym, ◌∙◌, ap, arith}
use Rattle.std.proofs.Common.{append_assoc, length-append}
use Rattle.std.specs.Prelude.{nat_lt}
use Rattle.std.specs.List.{flat_map}
use Rattle.std.proofs.lemmas.Bool.Decides.{nat_tests}
use Rattle.std.proofs.lemmas.Grind.{flat_map-append}
use Rattle.std.proofs.lemmas.List.{append-nil}
use Rattle.std.proofs.lemmas.List.Elements.{filter-append}
use Rattle.la_base.specs.declared.wires.Out.{Out}
use Rattle.la_base.specs.declared.wires.Packet.{Packet}
use Rattle.decoder_core.specs.Packets.{last_start}
use Rattle.list_cuts.specs.Parts.{before_mark, parts, grow_last}
use Rattle.list_cuts.proofs.PartLaws.{parts_mark, parts_join}
use Rattle.list_cuts.proofs.TestLaws.{when_no, suc_no}
use Rattle.dec_onewire.specs.declared.net.held.Begun.{Begun}
use Rattle.dec_onewire.specs.declared.net.held.Held.TheVariants.{Outside, Reset, Inside}
use Rattle.dec_onewire.specs.declared.net.held.Role.{Role}
use Rattle.dec_onewire.specs.declared.net.held.Role.TheVariants.{Command, Rom, Search, Byte}
use Rattle.dec_onewire.specs.Net.{is_reset, is_presence, is_bit, bit_in, size_of, number_in, Cut}
use Rattle.dec_onewire.specs.Net.{segment_cut, bits_in, starts_at, ends_at, role_outs, group_outs}
use Rattle.dec_onewire.specs.Net.{reset_outs, segment_outs, resets, net_outs, last_part, begun_at}
use Rattle.dec_onewire.specs.Net.{near_in, net_near}
use Rattle.dec_onewire.specs.laws.CutLaws.{group_of, pushed_by, pushed, segment_cuts, role_more}
use Rattle.dec_onewire.specs.laws.CutLaws.{nothing_begun, start_more, end_more, number_with}
use Rattle.dec_onewire.specs.laws.CutLaws.{byte_small}
use Rattle.dec_onewire.specs.laws.NetMachine.{none_begun, role_next, role_behind, begun_by}
use Rattle.dec_onewire.specs.laws.NetMachine.{inside_of, held_in, held_of, start_of, with_bit}
use Rattle.dec_onewire.specs.laws.NetMachine.{given_by, bit_gives, bit_next, inside_gives}
use Rattle.dec_onewire.specs.laws.NetMachine.{inside_next, gives, next, near_by, net_walk}
use Rattle.packet_walks.specs.Walks.{PushedPackets}

less_is : (a b : ℕ) → nat_lt a b ≡ true → a < b
less_is a b is = grind (arith, nat_tests)

less_not : (a b : ℕ) → nat_lt a b ≡ false → b ≤ a
less_not a b is = grind (arith, nat_tests)

-- one more bit of a segment
module _ (cut : Cut) (p : Packet)
    (short : length cut.rest < size_of (role_behind Command cut.whole)) where
  abbrev role : Role
  role = role_behind Command cut.whole

  abbrev begun : Begun
  begun = begun_by role cut.rest

  abbrev all : List Packet
  all = cut.rest ++ p ∷ []

  number_is : number_in role all ≡ with_bit role begun (bit_in p)
  number_is = number_with role cut.rest p short

  -- what the bits give that it makes whole
  given_is : length all ≡ size_of role → role_outs role (starts_at all) (ends_at all)
      (number_in role all) ≡ given_by role (start_of begun p) p.end (with_bit role begun (bit_in p))
  given_is full =
      by role full
      ∙ (λ i. given_by role (start_more role cut.rest p i) (end_more cut.rest p i) (number_is i))
    where
      by : (r : Role) → length all ≡ size_of r
          → role_outs r (starts_at all) (ends_at all) (number_in r all)
          ≡ given_by r (starts_at all) (ends_at all) (number_in r all)
      by Command full = refl
      by Rom full = refl
      by Search full = refl
      by Byte full =
          ap (λ (n : ℕ). role_outs Byte (starts_at all) (ends_at all) n) (sym (byte_small all full))

  groups_more : flat_map group_outs (pushed (role_behind Command) cut p).whole
      ≡ flat_map group_outs cut.whole ++ bit_gives role begun p
  groups_more = by (nat_lt (length cut.rest + 1) (size_of role)) refl
    where
      by : (t : Bool) → nat_lt (length cut.rest + 1) (size_of role) ≡ t
          → flat_map group_outs (pushed_by t role cut p).whole
          ≡ flat_map group_outs cut.whole
          ++ (if t then []
          else given_by role (start_of begun p) p.end (with_bit role begun (bit_in p)))
      by true is = sym (append-nil (flat_map group_outs cut.whole))
      by false is =
          let most = less_not (length cut.rest + 1) (size_of role) is in
          let full : length all ≡ size_of role =
          omega (arith, length-append cut.rest (p ∷ []), most, short) in
          flat_map-append group_outs cut.whole (group_of role all ∷ [])
          ∙ ap (λ (l : List Out). flat_map group_outs cut.whole ++ l)
          (append-nil (group_outs (group_of role all)) ∙ given_is full)

  inside_more : inside_of (pushed (role_behind Command) cut p) ≡ bit_next role begun p
  inside_more = by (nat_lt (length cut.rest + 1) (size_of role))
    where
      by : (t : Bool)
          → inside_of (pushed_by t role cut p)
          ≡ (if t then Inside role
          (record {
            count = begun.count + 1;
            start = start_of begun p;
            number = with_bit role begun (bit_in p);
          })
          else Inside (role_next role (with_bit role begun (bit_in p))) none_begun)
      by true =
          λ i. Inside role
          (record {
            count = length-append cut.rest (p ∷ []) i;
            start = start_more role cut.rest p i;
            number = number_is i;
          })
      by false =
          let now : role_behind Command (cut.whole ++ group_of role all ∷ [])
          ≡ role_next role (with_bit role begun (bit_in p)) =
          role_more Command cut.whole (group_of role all) ∙ ap (role_next role) number_is in
          ap (λ (r : Role). Inside r (begun_by r [])) now
          ∙ ap (λ (b : Begun). Inside (role_next role (with_bit role begun (bit_in p))) b)
          (nothing_begun (role_next role (with_bit role begun (bit_in p))))

-- one more packet behind a reset, which is none itself
abbrev Follows : List Packet → Packet → Type 0
Follows part p =
    (segment_outs (part ++ p ∷ []) ≡ segment_outs part ++ inside_gives (held_in part) p)
    × (held_in (part ++ p ∷ []) ≡ inside_next (held_in part) p)

module _ (p : Packet) where
  answered : (reset : Packet) → Follows (reset ∷ []) p
  answered reset = by (is_presence p.kind)
    where
      by : (t : Bool)
          → ((if t then reset_outs reset p ++ flat_map group_outs (segment_cut []).whole else [])
          ≡ (if t then reset_outs reset p else []))
          × ((if t then inside_of (segment_cut []) else Outside)
          ≡ (if t then Inside Command none_begun else Outside))
      by true = (
        ap (λ (c : Cut). reset_outs reset p ++ flat_map group_outs c.whole) segment_cuts.none,
        ap
            inside_of segment_cuts.none,
      )
      by false = (refl, refl)

  -- in a segment with these packets
  module _ (reset presence : Packet) (others : List Packet) where
    abbrev cut : Cut
    cut = segment_cut (bits_in others)

    abbrev told : List Packet → List Out
    told bits = reset_outs reset presence ++ flat_map group_outs (segment_cut bits).whole

    bits_more : bits_in (others ++ p ∷ [])
        ≡ bits_in others ++ (if is_bit p.kind then p ∷ [] else [])
    bits_more = filter-append (λ (packet : Packet). is_bit packet.kind) others (p ∷ [])

    one_bit : (t : Bool)
        → (told (bits_in others ++ (if t then p ∷ [] else []))
        ≡ told (bits_in others)
        ++ (if t then bit_gives (role_behind Command cut.whole)
        (begun_by (role_behind Command cut.whole) cut.rest) p else []))
        × (inside_of (segment_cut (bits_in others ++ (if t then p ∷ [] else [])))
        ≡ (if t then bit_next (role_behind Command cut.whole)
        (begun_by (role_behind Command cut.whole) cut.rest) p else inside_of cut))
    one_bit true =
        let short = segment_cuts.short (bits_in others) in
        let more = segment_cuts.more (bits_in others) p in (
          ap (λ (c : Cut). reset_outs reset presence ++ flat_map group_outs c.whole) more
              ∙ ap (λ (l : List Out). reset_outs reset presence ++ l) (groups_more cut p short)
              ∙ sym (append_assoc (reset_outs reset presence) (flat_map group_outs cut.whole)
              (bit_gives (role_behind Command cut.whole)
              (begun_by (role_behind Command cut.whole) cut.rest) p)),
          ap inside_of more ∙ inside_more cut p short,
        )
    one_bit false = (
      ap told (append-nil (bits_in others)) ∙ sym (append-nil (told (bits_in others))),
      ap (λ (l : List Packet). inside_of (segment_cut l)) (append-nil (bits_in others)),
    )

    inside : Follows (reset ∷ presence ∷ others) p
    inside = by (is_presence presence.kind)
      where
        by : (t : Bool)
            → ((if t then told (bits_in (others ++ p ∷ [])) else [])
            ≡ (if t then told (bits_in others) else [])
            ++ inside_gives (if t then inside_of cut else Outside) p)
            × ((if t then inside_of (segment_cut (bits_in (others ++ p ∷ []))) else Outside)
            ≡ inside_next (if t then inside_of cut else Outside) p)
        by true =
            let one = one_bit (is_bit p.kind) in (
              ap told bits_more ∙ one.0,
              ap (λ (l : List Packet). inside_of (segment_cut l)) bits_more ∙ one.1,
            )
        by false = (refl, refl)

  follows : (reset : Packet) (others : List Packet) → Follows (reset ∷ others) p
  follows reset [] = answered reset
  follows reset (presence ∷ others) = inside reset presence others

  -- it joins the last part
  abbrev all_outs : List (List Packet) → List Out
  all_outs list = flat_map segment_outs list

  abbrev Filled : List (List Packet) → Type 0
  Filled [] = Unit {0}
  Filled ([] ∷ list) = ⊥
  Filled ((packet ∷ packets) ∷ list) = Filled list

  last_stays : (part next : List Packet) (list : List (List Packet))
      → last_part (part ∷ grow_last (next ∷ list) p) ≡ last_part (grow_last (next ∷ list) p)
  last_stays part next [] = refl
  last_stays part next (other ∷ list) = refl

  joins : (list : List (List Packet)) → Filled list
      → (all_outs (grow_last list p) ≡ all_outs list ++ inside_gives (held_in (last_part list)) p)
      × (held_in (last_part (grow_last list p)) ≡ inside_next (held_in (last_part list)) p)
  joins [] filled = (refl, refl)
  joins ([] ∷ list) filled = absurd filled
  joins ((reset ∷ others) ∷ []) filled =
      let part = reset ∷ others in
      let one = follows reset others in (
        append-nil (segment_outs (part ++ p ∷ [])) ∙ one.0
            ∙ ap (λ (l : List Out). l ++ inside_gives (held_in part) p)
            (sym (append-nil (segment_outs part))),
        one.1,
      )
  joins ((reset ∷ others) ∷ next ∷ list) filled =
      let part = reset ∷ others in
      let rest = joins (next ∷ list) filled in (
        ap (λ (l : List Out). segment_outs part ++ l) rest.0
            ∙ sym (append_assoc (segment_outs part) (all_outs (next ∷ list))
            (inside_gives (held_in (last_part (next ∷ list))) p)),
        ap held_in (last_stays part next list) ∙ rest.1,
      )

  abbrev mark : Packet → Bool
  mark packet = is_reset packet.kind

  filled : (xs : List Packet) → Filled (parts mark xs)
  filled [] = tt
  filled (x ∷ xs) = by (mark x) (filled xs)
    where
      by : (t : Bool) → Filled (parts mark xs)
          → Filled (cond t ((x ∷ before_mark mark xs) ∷ parts mark xs) (parts mark xs))
      by true rest = rest
      by false rest = rest

  last_is : (list : List (List Packet)) (part : List Packet) → last_part (list ++ part ∷ []) ≡ part
  last_is [] part = refl
  last_is (x ∷ []) part = refl
  last_is (x ∷ y ∷ list) part = last_is (y ∷ list) part

  -- or begins one
  more : (xs : List Packet) → (net_outs (xs ++ p ∷ []) ≡ net_outs xs ++ gives (held_of xs) p)
      × (held_of (xs ++ p ∷ []) ≡ next (held_of xs) p)
  unfolding net_outs held_of
  more xs = by (mark p) refl
    where
      by : (t : Bool) → mark p ≡ t
          → (all_outs (parts mark (xs ++ p ∷ [])) ≡ all_outs (parts mark xs)
          ++ (if t then [] else inside_gives (held_in (last_part (parts mark xs))) p))
          × (held_in (last_part (parts mark (xs ++ p ∷ [])))
          ≡ (if t then Reset p.start else inside_next (held_in (last_part (parts mark xs))) p))
      by true is = (
        ap all_outs (parts_mark mark xs p is)
            ∙ flat_map-append segment_outs (parts mark xs) ((p ∷ []) ∷ []),
        ap (λ (l : List (List Packet)). held_in (last_part l)) (parts_mark mark xs p is)
            ∙ ap held_in (last_is (parts mark xs) (p ∷ [])),
      )
      by false is =
          let one = joins (parts mark xs) (filled xs) in (
            ap all_outs (parts_join mark xs p is) ∙ one.0,
            ap (λ (l : List (List Packet)). held_in (last_part l)) (parts_join mark xs p is)
                ∙ one.1,
          )

pub net_pushed : PushedPackets net_walk net_outs held_of
unfolding net_outs held_of
net_pushed = record {
  no_outs = refl;
  no_kept = refl;
  outs_push = λ ps p. (more p ps).0;
  kept_push = λ ps p. (more p ps).1;
}

-- where what has begun starts
pub near_is : (packets : List Packet) (from : ℕ)
    → net_near packets from ≡ near_by (held_of packets) from
unfolding net_near held_of
near_is packets from = by (last_part (resets packets))
  where
    rest_is : (last : ℕ) (kind : Role) (rest : List Packet)
        → begun_at rest last ≡ near_by (Inside kind (begun_by kind rest)) last
    rest_is last kind [] = refl
    rest_is last kind (x ∷ rest) =
        sym (when_no (suc (length rest) == 0) last x.start (suc_no (length rest)))

    by : (part : List Packet)
        → near_in part from ≡ near_by (held_in part) from
    by [] = refl
    by (reset ∷ []) = refl
    by (reset ∷ presence ∷ others) = go (is_presence presence.kind)
      where
        go : (t : Bool)
            → (if t then begun_at (segment_cut (bits_in others)).rest from
            else from) ≡ near_by
            (if t then inside_of (segment_cut (bits_in others)) else Outside) from
        go true =
            rest_is from
            (role_behind Command (segment_cut (bits_in others)).whole)
            (segment_cut (bits_in others)).rest
        go false = refl
