-- One more packet: what the whole list of packets gives is what the state says that the packets
-- before it left.
use Rattle.std.proofs.Common.{◌≡◌, ℕ, ◌+◌, ◌-◌, ◌^◌, Bool, true, false, if◌then◌else◌}
use Rattle.std.proofs.Common.{cond, List, [], ◌∷◌, ◌++◌, length, Option, Some, None, refl, sym}
use Rattle.std.proofs.Common.{◌∙◌, ap, arith, append_assoc, length-append}
use Rattle.std.specs.Prelude.{min}
use Rattle.std.specs.List.{flat_map}
use Rattle.std.proofs.lemmas.Grind.{flat_map-append}
use Rattle.std.proofs.lemmas.List.{append-nil}
use Rattle.std.proofs.lemmas.List.Elements.{filter-append}
use Rattle.la_base.specs.declared.wires.Out.{Out}
use Rattle.la_base.specs.declared.wires.Packet.{Packet}
use Rattle.decoder_core.specs.Packets.{last_start}
use Rattle.list_cuts.specs.Along.{along}
use Rattle.list_cuts.specs.Neighbours.{neighbours_from, at_neighbours, last_from, last_of}
use Rattle.list_cuts.specs.Parts.{before_mark, parts, grow_last}
use Rattle.list_cuts.proofs.AlongLaws.{along_push}
use Rattle.list_cuts.proofs.NeighbourLaws.{at_neighbours_push, last_from_push}
use Rattle.list_cuts.proofs.PartLaws.{before_mark_mark, parts_mark, parts_join}
use Rattle.list_cuts.proofs.TestLaws.{when_yes, when_no}
use Rattle.packet_walks.specs.Walks.{PushedPackets}
use Rattle.packet_walks.specs.laws.CutLaws.{joined}
use Rattle.dec_midi.specs.declared.held.Held.{Held}
use Rattle.dec_midi.specs.declared.held.Held.TheVariants.{Stray, Running, Begun, Exclusive}
use Rattle.dec_midi.specs.declared.held.Sort.{Sort}
use Rattle.dec_midi.specs.declared.held.Sort.TheVariants.{Data, Status, RealTime}
use Rattle.dec_midi.specs.declared.held.Takes.{Takes}
use Rattle.dec_midi.specs.declared.held.Takes.TheVariants.{Nothing, One, Two, Ones, Twos, Any}
use Rattle.dec_midi.specs.Midi.{is_byte, as_byte, byte_at, bytes_in, sort_of, is_status_sort, is_data_sort, is_status}
use Rattle.dec_midi.specs.Midi.{data_in, takes, one_outs, two_outs, ones_outs, twos_outs}
use Rattle.dec_midi.specs.Midi.{datum_outs, inside_outs, inside_by, outside_outs, outside_by}
use Rattle.dec_midi.specs.Midi.{own_outs, data_end, data_count, behind_by, status_outs, part_outs}
use Rattle.dec_midi.specs.Midi.{bytes_outs, midi_outs, twos_near, part_near}
use Rattle.dec_midi.specs.Midi.{near_in, midi_near, message}
use Rattle.dec_midi.specs.laws.Steps.{by_two, runs, one_held, two_held, ones_held, twos_held}
use Rattle.dec_midi.specs.laws.Steps.{part_held, held_in, held_of, behind, data_gives, data_next}
use Rattle.dec_midi.specs.laws.Steps.{first_gives, first_next, status_gives, opened, sort_gives}
use Rattle.dec_midi.specs.laws.Steps.{sort_next, gives, next, near_by, midi_walk}

-- one more data byte behind those of a status
module _ (status : Packet) (p : Packet) where
  abbrev kind : Takes
  kind = takes status.a

  -- what it gives, and what is kept behind it
  abbrev Goes : (List Packet → Packet → List Out) → (List Packet → Held) → List Packet → Type 0
  Goes outs held bytes =
      (outs bytes p ≡ data_gives (held bytes) p)
      × (held (bytes ++ p ∷ []) ≡ data_next (held bytes) p)

  gives_whole : (start : ℕ) → by_two kind ≡ false
      → message status.a start p.end p.a 0 ≡ first_gives (by_two kind) status.a start p
  gives_whole start is = sym (when_no (by_two kind) [] (message status.a start p.end p.a 0) is)

  gives_none : (start : ℕ) → by_two kind ≡ true → [] ≡ first_gives (by_two kind) status.a start p
  gives_none start is = sym (when_yes (by_two kind) [] (message status.a start p.end p.a 0) is)

  next_whole : (start : ℕ) → by_two kind ≡ false
      → behind status.a ≡ first_next (by_two kind) status.a start p
  next_whole start is =
      sym (when_no (by_two kind) (Begun status.a start (Some p.a)) (behind status.a) is)

  next_begun : (start : ℕ) → by_two kind ≡ true
      → Begun status.a start (Some p.a) ≡ first_next (by_two kind) status.a start p
  next_begun start is =
      sym (when_yes (by_two kind) (Begun status.a start (Some p.a)) (behind status.a) is)

  behind_runs : runs kind ≡ true → Running status.a ≡ behind status.a
  behind_runs is = sym (when_yes (runs kind) (Running status.a) Stray is)

  behind_ends : runs kind ≡ false → Stray ≡ behind status.a
  behind_ends is = sym (when_no (runs kind) (Running status.a) Stray is)

  one_goes : kind ≡ One → (bytes : List Packet) → Goes (one_outs status) (one_held status) bytes
  one_goes is [] =
      let two : by_two kind ≡ false = ap by_two is in (
        gives_whole status.start two,
        behind_ends (ap runs is) ∙ next_whole status.start two,
      )
  one_goes is (one ∷ bytes) = (refl, refl)

  two_goes : kind ≡ Two → (bytes : List Packet) → Goes (two_outs status) (two_held status) bytes
  two_goes is [] =
      let two : by_two kind ≡ true = ap by_two is in (
        gives_none status.start two,
        next_begun status.start two,
      )
  two_goes is (one ∷ []) = (refl, behind_ends (ap runs is))
  two_goes is (one ∷ two ∷ bytes) = (refl, refl)

  ones_goes : kind ≡ Ones → (bytes : List Packet) → Goes (ones_outs status) (ones_held status) bytes
  ones_goes is [] =
      let two : by_two kind ≡ false = ap by_two is in (
        gives_whole status.start two,
        behind_runs (ap runs is) ∙ next_whole status.start two,
      )
  ones_goes is (one ∷ bytes) =
      let two : by_two kind ≡ false = ap by_two is in (
        gives_whole p.start two,
        behind_runs (ap runs is) ∙ next_whole p.start two,
      )

  twos_goes : kind ≡ Twos → (first : Bool) (bytes : List Packet)
      → Goes (twos_outs first status) (twos_held first status) bytes
  twos_goes is true [] =
      let two : by_two kind ≡ true = ap by_two is in (
        gives_none status.start two,
        next_begun status.start two,
      )
  twos_goes is false [] =
      let two : by_two kind ≡ true = ap by_two is in (
        gives_none p.start two,
        next_begun p.start two,
      )
  twos_goes is true (one ∷ []) = (refl, behind_runs (ap runs is))
  twos_goes is false (one ∷ []) = (refl, behind_runs (ap runs is))
  twos_goes is true (one ∷ two ∷ bytes) = twos_goes is false bytes
  twos_goes is false (one ∷ two ∷ bytes) = twos_goes is false bytes

  end_more : (last : ℕ) (bytes : List Packet) → data_end last (bytes ++ p ∷ []) ≡ p.end
  end_more last [] = refl
  end_more last (one ∷ bytes) = end_more one.end bytes

  count_more : (bytes : List Packet)
      → data_count (bytes ++ p ∷ []) ≡ min (data_count bytes) (2 ^ 60 - 1) + 1
  count_more bytes =
      ap (λ (n : ℕ). min n (2 ^ 60)) (length-append bytes (p ∷ []))
      ∙ by (length bytes)
    where
      by : (n : ℕ) → min (n + 1) (2 ^ 60) ≡ min (min n (2 ^ 60)) (2 ^ 60 - 1) + 1
      by n = omega arith

  datum_goes : (t : Takes) → kind ≡ t → (bytes : List Packet)
      → Goes (datum_outs t status) (part_held t status) bytes
  datum_goes Nothing is bytes = (refl, refl)
  datum_goes One is bytes = one_goes is bytes
  datum_goes Two is bytes = two_goes is bytes
  datum_goes Ones is bytes = ones_goes is bytes
  datum_goes Twos is bytes = twos_goes is true bytes
  datum_goes Any is bytes = (
    refl,
    λ i. Exclusive status.start (end_more status.end bytes i) (count_more bytes i),
  )

-- what a part leaves gives with a status what the definition says of the part
status_is : (t : Takes) (before : Packet) (bytes : List Packet) (p : Packet)
    → behind_by t before bytes p ≡ status_gives (part_held t before bytes) p
status_is Nothing before bytes p = refl
status_is One before [] p = refl
status_is One before (one ∷ bytes) p = refl
status_is Two before [] p = refl
status_is Two before (one ∷ []) p = refl
status_is Two before (one ∷ two ∷ bytes) p = refl
status_is Ones before [] p = refl
status_is Ones before (one ∷ bytes) p = refl
status_is Twos before bytes p = by true bytes
  where
    by : (first : Bool) (bytes : List Packet)
        → own_outs p ≡ status_gives (twos_held first before bytes) p
    by true [] = refl
    by false [] = refl
    by true (one ∷ []) = refl
    by false (one ∷ []) = refl
    by true (one ∷ two ∷ bytes) = by false bytes
    by false (one ∷ two ∷ bytes) = by false bytes
status_is Any before bytes p = refl

pub status_all : (part : Option (List Packet)) (p : Packet)
    → status_outs part p ≡ status_gives (held_in part) p
status_all None p = refl
status_all (Some []) p = refl
status_all (Some (before ∷ others)) p = status_is (takes before.a) before (data_in others) p

-- a status opens its part
opens : (t : Takes) (p : Packet) → part_held t p [] ≡ opened t p
opens Nothing p = refl
opens One p = refl
opens Two p = refl
opens Ones p = refl
opens Twos p = refl
opens Any p = refl

-- a byte that is no status
abbrev Inner : Sort → Type 0
Inner sort = is_status_sort sort ≡ false

module _ (p : Packet) (inner : is_status p ≡ false) where
  abbrev sort : Sort
  sort = sort_of p.a

  -- inside of a part
  module _ (status : Packet) (others : List Packet) where
    data_more : data_in (others ++ p ∷ [])
        ≡ data_in others ++ (if is_data_sort sort then p ∷ [] else [])
    data_more = filter-append (λ (byte : Packet). is_data_sort (sort_of byte.a)) others (p ∷ [])

    abbrev held : List Packet → Held
    held bytes = part_held (takes status.a) status bytes

    inside_is : (s : Sort) → is_status_sort s ≡ false
        → (inside_by s status others p ≡ sort_gives s (held (data_in others)) p)
        × (held (data_in others ++ (if is_data_sort s then p ∷ [] else []))
        ≡ sort_next s (held (data_in others)) p)
    inside_is Data is = datum_goes status p (takes status.a) refl (data_in others)
    inside_is RealTime is = (refl, ap held (append-nil (data_in others)))
    inside_is Status is = absurd (yes_no is)
      where
        yes_no : true ≡ false → ⊥
        yes_no e = absurd cc

    pub inside_goes : (inside_outs status others p ≡ sort_gives sort (held (data_in others)) p)
        × (held (data_in (others ++ p ∷ [])) ≡ sort_next sort (held (data_in others)) p)
    inside_goes =
        let both = inside_is sort inner in (both.0, ap held data_more ∙ both.1)

  -- the last part with it
  module _ (k : ℕ) (before : Option (List Packet)) where
    part_more : (status : Packet) (others : List Packet)
        → part_outs k before (status ∷ others ++ p ∷ [])
        ≡ part_outs k before (status ∷ others)
        ++ sort_gives sort (held_in (Some (status ∷ others))) p
    part_more status others =
        ap (λ (l : List Out). status_outs before status ++ l)
        (along_push (inside_outs status) others p
        ∙ ap (λ (l : List Out). along (inside_outs status) others ++ l)
        (inside_goes status others).0)
        ∙ sym (append_assoc (status_outs before status) (along (inside_outs status) others)
        (sort_gives sort (held_in (Some (status ∷ others))) p))

  abbrev Filled : List (List Packet) → Type 0
  Filled [] = Unit {0}
  Filled ([] ∷ list) = ⊥
  Filled ((x ∷ xs) ∷ list) = Filled list

  parts_more : (k : ℕ) (before : Option (List Packet)) (part : List Packet)
      (list : List (List Packet)) → Filled (part ∷ list)
      → (neighbours_from part_outs k before (grow_last (part ∷ list) p)
      ≡ neighbours_from part_outs k before (part ∷ list)
      ++ sort_gives sort (held_in (last_from before (part ∷ list))) p)
      × (held_in (last_from before (grow_last (part ∷ list) p))
      ≡ sort_next sort (held_in (last_from before (part ∷ list))) p)
  parts_more k before [] list filled = absurd filled
  parts_more k before (status ∷ others) [] filled =
      let part = part_outs k before (status ∷ others) in
      let more = sort_gives sort (held_in (Some (status ∷ others))) p in (
        append-nil (part_outs k before (status ∷ others ++ p ∷ []))
            ∙ part_more k before status others
            ∙ ap (λ (l : List Out). l ++ more) (sym (append-nil part)),
        (inside_goes status others).1,
      )
  parts_more k before (status ∷ others) (next ∷ list) filled =
      let part = part_outs k before (status ∷ others) in
      let rest = parts_more (k + 1) (Some (status ∷ others)) next list filled in (
        ap (λ (l : List Out). part ++ l) rest.0
            ∙ sym (append_assoc part
            (neighbours_from part_outs (k + 1) (Some (status ∷ others)) (next ∷ list))
            (sort_gives sort (held_in (last_from (Some (status ∷ others)) (next ∷ list))) p)),
        rest.1,
      )

  filled : (xs : List Packet) → Filled (parts is_status xs)
  filled [] = tt
  filled (x ∷ xs) = by (is_status x) (filled xs)
    where
      by : (t : Bool) → Filled (parts is_status xs)
          → Filled
          (cond t ((x ∷ before_mark is_status xs) ∷ parts is_status xs) (parts is_status xs))
      by true rest = rest
      by false rest = rest

  -- before any status
  pub outside_is : (s : Sort) → is_status_sort s ≡ false
      → (outside_by s p ≡ sort_gives s Stray p) × (Stray ≡ sort_next s Stray p)
  outside_is Data is = (refl, refl)
  outside_is RealTime is = (refl, refl)
  outside_is Status is = absurd (yes_no is)
    where
      yes_no : true ≡ false → ⊥
      yes_no e = absurd cc

  before_joins : (xs : List Packet) → before_mark is_status (xs ++ p ∷ [])
      ≡ joined p (before_mark is_status xs) (parts is_status xs)
  before_joins [] = ap (λ (t : Bool). cond t [] (p ∷ [])) inner
  before_joins (x ∷ xs) =
      ap (λ (l : List Packet). cond (is_status x) [] (x ∷ l)) (before_joins xs)
      ∙ by (is_status x) (parts is_status xs)
    where
      by : (t : Bool) (list : List (List Packet))
          → cond t [] (x ∷ joined p (before_mark is_status xs) list)
          ≡ joined p (cond t [] (x ∷ before_mark is_status xs))
          (cond t ((x ∷ before_mark is_status xs) ∷ list) list)
      by true list = refl
      by false [] = refl
      by false (part ∷ list) = refl

  abbrev told : List Packet → List (List Packet) → List Out
  told front list = flat_map outside_outs front ++ at_neighbours part_outs list

  inner_more : (front : List Packet) (list : List (List Packet)) → Filled list
      → (told (joined p front list) (grow_last list p)
      ≡ told front list ++ sort_gives sort (held_in (last_of list)) p)
      × (held_in (last_of (grow_last list p)) ≡ sort_next sort (held_in (last_of list)) p)
  inner_more front [] filled =
      let one = outside_is sort inner in
      let all = flat_map outside_outs front in (
        append-nil (flat_map outside_outs (front ++ p ∷ []))
            ∙ flat_map-append outside_outs front (p ∷ [])
            ∙ ap (λ (l : List Out). all ++ l) (append-nil (outside_outs p) ∙ one.0)
            ∙ ap (λ (l : List Out). l ++ sort_gives sort Stray p) (sym (append-nil all)),
        one.1,
      )
  inner_more front (part ∷ list) filled =
      let rest = parts_more 0 None part list filled in
      let all = flat_map outside_outs front in (
        ap (λ (l : List Out). all ++ l) rest.0
            ∙ sym (append_assoc all (at_neighbours part_outs (part ∷ list))
            (sort_gives sort (held_in (last_of (part ∷ list))) p)),
        rest.1,
      )

-- one more byte
abbrev pub kept_in : List Packet → Held
kept_in bytes = held_in (last_of (parts is_status bytes))

module _ (p : Packet) (bytes : List Packet) where
  abbrev pub ByteGoes : Type 0
  ByteGoes =
      (bytes_outs (bytes ++ p ∷ [])
      ≡ bytes_outs bytes ++ sort_gives (sort_of p.a) (kept_in bytes) p)
      × (kept_in (bytes ++ p ∷ []) ≡ sort_next (sort_of p.a) (kept_in bytes) p)

  -- a status begins a part
  pub status_goes : sort_of p.a ≡ Status → ByteGoes
  status_goes is =
      let mark : is_status p ≡ true = ap is_status_sort is in
      let list = parts is_status bytes in
      let front = flat_map outside_outs (before_mark is_status bytes) in
      let own = status_outs (last_of list) p in (
        (λ i. flat_map outside_outs (before_mark_mark is_status bytes p mark i)
            ++ at_neighbours part_outs (parts_mark is_status bytes p mark i))
            ∙ ap (λ (l : List Out). front ++ l) (at_neighbours_push part_outs list (p ∷ []))
            ∙ sym (append_assoc front (at_neighbours part_outs list) (own ++ []))
            ∙ ap (λ (l : List Out). bytes_outs bytes ++ l)
            (append-nil own ∙ status_all (last_of list) p
            ∙ ap (λ (s : Sort). sort_gives s (kept_in bytes) p) (sym is)),
        ap (λ (l : List (List Packet)). held_in (last_of l)) (parts_mark is_status bytes p mark)
            ∙ ap held_in (last_from_push list (p ∷ []) None)
            ∙ opens (takes p.a) p
            ∙ ap (λ (s : Sort). sort_next s (kept_in bytes) p) (sym is),
      )

  -- any other one joins the last, or those before any status
  pub inner_goes : is_status p ≡ false → ByteGoes
  inner_goes is =
      let more = inner_more p is (before_mark is_status bytes) (parts is_status bytes)
      (filled p is bytes) in (
        (λ i. told p is (before_joins p is bytes i) (parts_join is_status bytes p is i))
            ∙ more.0,
        ap (λ (l : List (List Packet)). held_in (last_of l)) (parts_join is_status bytes p is)
            ∙ more.1,
      )

  byte_goes : ByteGoes
  byte_goes = by (sort_of p.a) refl
    where
      by : (s : Sort) → sort_of p.a ≡ s → ByteGoes
      by Data is = inner_goes (ap is_status_sort is)
      by Status is = status_goes is
      by RealTime is = inner_goes (ap is_status_sort is)

-- one more packet
module _ (ps : List Packet) (p : Packet) where
  abbrev q : Packet
  q = as_byte p

  more : (midi_outs (ps ++ p ∷ []) ≡ midi_outs ps ++ gives (held_of ps) p)
      × (held_of (ps ++ p ∷ []) ≡ next (held_of ps) p)
  unfolding midi_outs held_of
  more =
      let both = by (is_byte p) in (
        ap bytes_outs (flat_map-append byte_at ps (p ∷ [])) ∙ both.0,
        ap kept_in (flat_map-append byte_at ps (p ∷ [])) ∙ both.1,
      )
    where
      by : (t : Bool)
          → (bytes_outs (bytes_in ps ++ ((if t then q ∷ [] else []) ++ []))
          ≡ bytes_outs (bytes_in ps)
          ++ (if t then sort_gives (sort_of q.a) (kept_in (bytes_in ps)) q else []))
          × (kept_in (bytes_in ps ++ ((if t then q ∷ [] else []) ++ []))
          ≡ (if t then sort_next (sort_of q.a) (kept_in (bytes_in ps)) q
          else kept_in (bytes_in ps)))
      by true = byte_goes q (bytes_in ps)
      by false = (
        ap bytes_outs (append-nil (bytes_in ps)) ∙ sym (append-nil (bytes_outs (bytes_in ps))),
        ap kept_in (append-nil (bytes_in ps)),
      )

pub midi_pushed : PushedPackets midi_walk midi_outs held_of
unfolding midi_outs held_of
midi_pushed = record {
  no_outs = refl;
  no_kept = refl;
  outs_push = λ ps p. (more ps p).0;
  kept_push = λ ps p. (more ps p).1;
}

-- where what has begun starts
module _ (last : ℕ) where
  twos_near_is : (status : Packet) (first : Bool) (bytes : List Packet)
      → twos_near first status bytes last ≡ near_by (twos_held first status bytes) last
  twos_near_is status true [] = refl
  twos_near_is status false [] = refl
  twos_near_is status true (one ∷ []) = refl
  twos_near_is status false (one ∷ []) = refl
  twos_near_is status true (one ∷ two ∷ bytes) = twos_near_is status false bytes
  twos_near_is status false (one ∷ two ∷ bytes) = twos_near_is status false bytes

  part_near_is : (t : Takes) (status : Packet) (bytes : List Packet)
      → part_near t status bytes last ≡ near_by (part_held t status bytes) last
  part_near_is Nothing status bytes = refl
  part_near_is One status [] = refl
  part_near_is One status (one ∷ bytes) = refl
  part_near_is Two status [] = refl
  part_near_is Two status (one ∷ []) = refl
  part_near_is Two status (one ∷ two ∷ bytes) = refl
  part_near_is Ones status [] = refl
  part_near_is Ones status (one ∷ bytes) = refl
  part_near_is Twos status bytes = twos_near_is status true bytes
  part_near_is Any status bytes = refl

  near_in_is : (part : Option (List Packet)) → near_in part last ≡ near_by (held_in part) last
  near_in_is None = refl
  near_in_is (Some []) = refl
  near_in_is (Some (status ∷ others)) =
      part_near_is (takes status.a) status (data_in others)

pub near_is : (packets : List Packet) (from : ℕ)
    → midi_near packets from ≡ near_by (held_of packets) from
unfolding midi_near held_of
near_is packets from =
    near_in_is from (last_of (parts is_status (bytes_in packets)))
