-- One more packet: what the whole list of packets gives is what the state says that the packets
-- before it left.
use Rattle.std.proofs.Common.{◌≡◌, ℕ, suc, ◌+◌, ◌-◌, ◌<◌, ◌≤◌, ◌^◌, Bool, true, false, List, []}
use Rattle.std.proofs.Common.{if◌then◌else◌, ◌∷◌, ◌++◌, length, map, refl, sym, ◌∙◌, ap, arith}
use Rattle.std.proofs.Common.{append_assoc, length-append}
use Rattle.std.specs.Prelude.{nat_lt, min, ◌&&◌, ◌||◌, Option, Some, None}
use Rattle.std.specs.Int.Bits.{bit_xor}
use Rattle.std.proofs.lemmas.Bool.Decides.{nat_tests}
use Rattle.std.proofs.lemmas.List.{append-nil}
use Rattle.la_base.specs.declared.wires.Out.{Out}
use Rattle.la_base.specs.declared.wires.Packet.{Packet}
use Rattle.list_cuts.specs.Bits.{bit_of}
use Rattle.list_cuts.specs.Neighbours.{last_of}
use Rattle.list_cuts.proofs.NeighbourLaws.{at_neighbours_push}
use Rattle.decoder_core.specs.Outputs.{span_note}
use Rattle.decoder_core.specs.Packets.{last_start}
use Rattle.packet_walks.specs.Walks.{PushedPackets}
use Rattle.dec_modbus.specs.declared.held.Held.{Held}
use Rattle.dec_modbus.specs.declared.held.Held.TheVariants.{Outside, Inside}
use Rattle.dec_modbus.specs.declared.held.Message.{Message}
use Rattle.dec_modbus.specs.Modbus.{is_frame, follows, together, in_front, messages, byte_in}
use Rattle.dec_modbus.specs.Modbus.{byte_outs, bytes_outs, shifts, crc_wrong, has_error}
use Rattle.dec_modbus.specs.Modbus.{message_note, last_in, message_outs, rows_outs, modbus_outs}
use Rattle.dec_modbus.specs.Modbus.{started_at, modbus_near}
use Rattle.dec_modbus.specs.laws.Crc.{high_more, low_more, crc_stays, crc_moves}
use Rattle.dec_modbus.specs.laws.Machine.{crc_before, kept_of, message_of, held_in, held_of}
use Rattle.dec_modbus.specs.laws.Machine.{note_of, is_bad, begun, longer, begin_next, inside_gives}
use Rattle.dec_modbus.specs.laws.Machine.{inside_next, gives, next, near_by, modbus_walk}
use Rattle.dec_modbus.specs.laws.RowCuts.{grown, pushed, rows_push}

-- what is kept of a number of bytes tells as much as the number
below_most : (n : ℕ) → min (n + 1) (2 ^ 60) ≡ min (min n (2 ^ 60)) (2 ^ 60 - 1) + 1
below_most n = omega arith

same_place : (n : ℕ) (p : Packet) → byte_outs n p ≡ byte_outs (min n (2 ^ 60)) p
same_place n p =
    let same : min n 2 ≡ min (min n (2 ^ 60)) 2 = omega arith in
    ap (λ (c : ℕ). if is_frame p.kind then span_note c p.start p.end (byte_in p) 0 ∷ [] else [])
    same

short_same : (n : ℕ) → nat_lt n 4 ≡ nat_lt (min n (2 ^ 60)) 4
short_same n = grind (arith, nat_tests)

long_same : (n : ℕ) → nat_lt 256 n ≡ nat_lt 256 (min n (2 ^ 60))
long_same n = grind (arith, nat_tests)

same_note : (first last n : ℕ) (errors wrong : Bool)
    → message_note first last n errors wrong
    ≡ message_note first last (min n (2 ^ 60)) errors wrong
same_note first last n errors wrong = λ i.
    if errors then span_note 6 first last (told i) 0
    else if short_same n i then span_note 4 first last (told i) 0
    else if long_same n i then span_note 5 first last (told i) 0
    else span_note 3 first last (told i) (bit_of wrong)
  where
    told : min n (2 ^ 60) ≡ min (min n (2 ^ 60)) (2 ^ 60)
    told = omega arith

-- errors of the line
or_false : (b : Bool) → (b || false) ≡ b
or_false true = refl
or_false false = refl

or_assoc : (a b c : Bool) → (a || (b || c)) ≡ ((a || b) || c)
or_assoc true b c = refl
or_assoc false b c = refl

error_more : (row : List Packet) (p : Packet)
    → has_error (row ++ p ∷ []) ≡ (has_error row || is_bad p)
error_more [] p = or_false (is_bad p)
error_more (x ∷ row) p =
    ap (λ (b : Bool). is_bad x || b) (error_more row p)
    ∙ or_assoc (is_bad x) (has_error row) (is_bad p)

last_more : (x : Packet) (xs : List Packet) (p : Packet) → last_in x (xs ++ p ∷ []) ≡ p
last_more x [] p = refl
last_more x (y ∷ xs) p = last_more y xs p

map_more : (row : List Packet) (p : Packet)
    → map byte_in (row ++ p ∷ []) ≡ map byte_in row ++ byte_in p ∷ []
map_more [] p = refl
map_more (x ∷ row) p = ap (λ (l : List ℕ). byte_in x ∷ l) (map_more row p)

map_count : (row : List Packet) → length (map byte_in row) ≡ length row
map_count [] = refl
map_count (x ∷ row) = ap suc (map_count row)

less_two : (n : ℕ) → nat_lt (min n (2 ^ 60)) 2 ≡ true → n < 2
less_two n is = grind (arith, nat_tests)

not_less_two : (n : ℕ) → nat_lt (min n (2 ^ 60)) 2 ≡ false → 2 ≤ n
not_less_two n is = grind (arith, nat_tests)

-- what is kept of one frame
begun_is : (p : Packet) → message_of p [] ≡ begun p
begun_is p = λ i. record {
  start = p.start;
  end = p.end;
  count = 1;
  crc = 65535;
  low = byte_in p;
  high = byte_in p;
  errors = or_false (is_bad p) i;
}

begin_is : (p : Packet) → held_in (Some (p ∷ [])) ≡ begin_next p
begin_is p =
    ap (λ (m : Message). if is_frame p.kind then Inside m else Outside) (begun_is p)

-- what is kept of a message with one more frame
module _ (x : Packet) (xs : List Packet) (p : Packet) where
  abbrev frames : List Packet
  frames = x ∷ xs

  abbrev bytes : List ℕ
  bytes = map byte_in frames

  abbrev message : Message
  message = message_of x xs

  not_empty : 1 ≤ length bytes
  not_empty = omega arith

  crc_more : (short : Bool) → nat_lt message.count 2 ≡ short
      → crc_before (bytes ++ byte_in p ∷ [])
      ≡ (if short then message.crc else shifts 8 (bit_xor message.crc message.low))
  crc_more true is =
      crc_stays bytes (byte_in p)
      (omega (arith, not_empty, less_two (length frames) is, map_count frames))
  crc_more false is =
      crc_moves bytes (byte_in p)
      (omega (arith, not_less_two (length frames) is, map_count frames))

  longer_is : message_of x (xs ++ p ∷ []) ≡ longer message p
  longer_is =
      ap (kept_of x (xs ++ p ∷ [])) (map_more frames p)
      ∙ (λ i. record {
        start = x.start;
        end = (last_more x xs p i).end;
        count = count_more i;
        crc = crc_more (nat_lt message.count 2) refl i;
        low = low_more bytes (byte_in p) not_empty i;
        high = high_more bytes (byte_in p) i;
        errors = error_more frames p i;
      })
    where
      count_more : min (length (frames ++ p ∷ [])) (2 ^ 60)
          ≡ min (min (length frames) (2 ^ 60)) (2 ^ 60 - 1) + 1
      count_more =
          ap (λ (n : ℕ). min n (2 ^ 60)) (length-append frames (p ∷ []))
          ∙ below_most (length frames)

  note_is :
      message_note x.start (last_in x xs).end (length frames) (has_error frames) (crc_wrong bytes)
      ≡ note_of message
  note_is =
      same_note x.start (last_in x xs).end (length frames) (has_error frames) (crc_wrong bytes)

  bytes_more : bytes_outs (frames ++ p ∷ []) ≡ bytes_outs frames ++ byte_outs message.count p
  bytes_more =
      at_neighbours_push (λ place (before : Option Packet) packet. byte_outs place packet) frames p
      ∙ ap (λ (l : List Out). bytes_outs frames ++ l) (same_place (length frames) p)

-- one more packet behind a row
module _ (gap : ℕ) (p : Packet) where
  abbrev Goes : List (List Packet) → List (List Packet) → Type 0
  Goes list all =
      (rows_outs all ≡ rows_outs list ++ gives gap (held_in (last_of list)) p)
      × (held_in (last_of all) ≡ next gap (held_in (last_of list)) p)

  module _ (x : Packet) (xs : List Packet)
      (alike : is_frame x.kind ≡ is_frame (last_in x xs).kind) where
    abbrev all : List Packet
    all = x ∷ xs

    abbrev on : Bool
    on = follows gap (last_in x xs).end p

    abbrev told : Bool → List Out
    told is =
        if is then message_note x.start (last_in x xs).end (length all) (has_error all)
        (crc_wrong (map byte_in all)) ∷ [] else []

    abbrev kept : Bool → Held
    kept is = if is then Inside (message_of x xs) else Outside

    joins : (is : Bool) → is_frame x.kind ≡ is
        → together gap (last_in x xs) p ≡ (is && on)
    joins is same = ap (λ (b : Bool). b && on) (sym alike ∙ same)

    one_row : (is goes : Bool) → is_frame x.kind ≡ is → on ≡ goes
        → Goes (all ∷ []) (grown (together gap (last_in x xs) p) all p)
    one_row false goes same follow =
        let ends = joins false same in (
          (λ i. rows_outs (grown (ends i) all p))
              ∙ (λ i. bytes_outs all ++ (told (same i) ++ bytes_outs (p ∷ [])))
              ∙ ap (λ (l : List Out). bytes_outs all ++ l) (append-nil (byte_outs 0 p))
              ∙ sym (ap (λ (b : Bool). bytes_outs all ++ gives gap (kept b) p) same),
          (λ i. held_in (last_of (grown (ends i) all p))) ∙ begin_is p
              ∙ sym (ap (λ (b : Bool). next gap (kept b) p) same),
        )
    one_row true false same follow =
        let ends = joins true same ∙ follow in (
          (λ i. rows_outs (grown (ends i) all p))
              ∙ (λ i. bytes_outs all ++ (told (same i) ++ bytes_outs (p ∷ [])))
              ∙ (λ i. bytes_outs all ++ note_is x xs p i ∷ append-nil (byte_outs 0 p) i)
              ∙ sym (ap (λ (b : Bool). bytes_outs all ++ gives gap (kept b) p) same
              ∙ ap (λ (b : Bool). bytes_outs all ++ inside_gives b (message_of x xs) p) follow),
          (λ i. held_in (last_of (grown (ends i) all p))) ∙ begin_is p
              ∙ sym (ap (λ (b : Bool). next gap (kept b) p) same
              ∙ ap (λ (b : Bool). inside_next b (message_of x xs) p) follow),
        )
    one_row true true same follow =
        let more = joins true same ∙ follow in (
          (λ i. rows_outs (grown (more i) all p)) ∙ bytes_more x xs p
              ∙ sym (ap (λ (b : Bool). bytes_outs all ++ gives gap (kept b) p) same
              ∙ ap (λ (b : Bool). bytes_outs all ++ inside_gives b (message_of x xs) p) follow),
          (λ i. held_in (last_of (grown (more i) all p)))
              ∙ ap (λ (b : Bool). if b then Inside (message_of x (xs ++ p ∷ [])) else Outside) same
              ∙ ap Inside (longer_is x xs p)
              ∙ sym (ap (λ (b : Bool). next gap (kept b) p) same
              ∙ ap (λ (b : Bool). inside_next b (message_of x xs) p) follow),
        )

  -- a row is of frames, or begins and ends with the same break
  abbrev Fine : List (List Packet) → Type 0
  Fine [] = Unit {0}
  Fine ([] ∷ list) = ⊥
  Fine ((x ∷ xs) ∷ list) = (is_frame x.kind ≡ is_frame (last_in x xs).kind) × Fine list

  -- there is a row
  abbrev Some_rows : List (List Packet) → Type 0
  Some_rows [] = ⊥
  Some_rows (row ∷ list) = Unit {0}

  some_rows : (row : List Packet) (list : List (List Packet))
      → Some_rows (pushed (together gap) (row ∷ list) p)
  some_rows [] [] = tt
  some_rows (x ∷ xs) [] = by (together gap (last_in x xs) p)
    where
      by : (b : Bool) → Some_rows (grown b (x ∷ xs) p)
      by true = tt
      by false = tt
  some_rows row (next ∷ list) = tt

  -- a row in front of others, the last of which the packet joins or follows
  later : (first row : List Packet) (list new : List (List Packet)) → Some_rows new
      → Goes (row ∷ list) new → Goes (first ∷ row ∷ list) (first ∷ new)
  later first row list [] some goes = absurd some
  later first row list (n ∷ new) some goes =
      let given = gives gap (held_in (last_of (row ∷ list))) p in (
        ap (λ (l : List Out). bytes_outs first ++ (message_outs first ++ l)) goes.0
            ∙ ap (λ (l : List Out). bytes_outs first ++ l)
            (sym (append_assoc (message_outs first) (rows_outs (row ∷ list)) given))
            ∙ sym (append_assoc (bytes_outs first) (message_outs first ++ rows_outs (row ∷ list))
            given),
        goes.1,
      )

  goes_on : (list : List (List Packet)) → Fine list → Goes list (pushed (together gap) list p)
  goes_on [] fine = (append-nil (byte_outs 0 p), begin_is p)
  goes_on ([] ∷ list) fine = absurd fine
  goes_on ((x ∷ xs) ∷ []) fine =
      one_row x xs fine.0 (is_frame x.kind) (follows gap (last_in x xs).end p) refl refl
  goes_on ((x ∷ xs) ∷ row ∷ list) fine =
      later (x ∷ xs) row list (pushed (together gap) (row ∷ list) p) (some_rows row list)
      (goes_on (row ∷ list) fine.1)

  fine_rows : (xs : List Packet) → Fine (messages gap xs)
  fine_rows [] = tt
  fine_rows (x ∷ xs) = by (messages gap xs) (fine_rows xs)
    where
      both : (a b : Bool) → (a && b) ≡ true → (a ≡ true) × (b ≡ true)
      both true b e = (refl, e)
      both false b e = absurd cc

      by : (list : List (List Packet)) → Fine list → Fine (in_front (together gap) x list)
      by [] fine = (refl, tt)
      by ([] ∷ list) fine = absurd fine
      by ((y ∷ ys) ∷ list) fine = go (together gap x y) refl
        where
          go : (b : Bool) → together gap x y ≡ b
              → Fine (if b then (x ∷ y ∷ ys) ∷ list else (x ∷ []) ∷ (y ∷ ys) ∷ list)
          go true e =
              let one = both (is_frame x.kind) (follows gap x.end y) e in
              let other = both (is_frame y.kind) (nat_lt y.start (x.end + gap)) one.1 in
              (one.0 ∙ sym other.0 ∙ fine.0, fine.1)
          go false e = (refl, fine)

  one_more : (xs : List Packet)
      → (modbus_outs gap (xs ++ p ∷ []) ≡ modbus_outs gap xs ++ gives gap (held_of gap xs) p)
      × (held_of gap (xs ++ p ∷ []) ≡ next gap (held_of gap xs) p)
  unfolding modbus_outs held_of
  one_more xs =
      let goes = goes_on (messages gap xs) (fine_rows xs) in
      let cut = rows_push (together gap) xs p in (
        ap rows_outs cut ∙ goes.0,
        ap (λ (list : List (List Packet)). held_in (last_of list)) cut ∙ goes.1,
      )

pub modbus_pushed : (gap : ℕ) → PushedPackets (modbus_walk gap) (modbus_outs gap) (held_of gap)
unfolding modbus_outs held_of
modbus_pushed gap = record {
  no_outs = refl;
  no_kept = refl;
  outs_push = λ ps p. (one_more gap p ps).0;
  kept_push = λ ps p. (one_more gap p ps).1;
}

-- where what has begun starts
pub near_is : (gap : ℕ) (packets : List Packet) (from : ℕ)
    → modbus_near gap packets from ≡ near_by (held_of gap packets) from
unfolding modbus_near held_of
near_is gap packets from = by (last_of (messages gap packets))
  where
    by : (row : Option (List Packet)) → started_at row from ≡ near_by (held_in row) from
    by None = refl
    by (Some []) = refl
    by (Some (x ∷ xs)) = go (is_frame x.kind)
      where
        go : (b : Bool) → (if b then x.start else from)
            ≡ near_by (if b then Inside (message_of x xs) else Outside) from
        go true = refl
        go false = refl
