-- A device that owes what it does with one packet of a transaction walks soundly over all packets.
use Rattle.std.proofs.Common.{◌≡◌, ℕ, ◌≤◌, Bool, true, false, cond, if◌then◌else◌, List, [], ◌∷◌}
use Rattle.std.proofs.Common.{◌++◌, length, Option, Some, None, refl, sym, ◌∙◌, ap, subst}
use Rattle.std.proofs.Common.{append_assoc, arith}
use Rattle.std.proofs.Math.Nat.{le_refl}
use Rattle.std.proofs.lemmas.List.{append-nil}
use Rattle.la_base.specs.declared.wires.Out.{Out}
use Rattle.la_base.specs.declared.wires.Out.TheVariants.{Note as NoteOut, Piece as PieceOut}
use Rattle.la_base.specs.declared.wires.Out.TheVariants.{Packet as PacketOut}
use Rattle.la_base.specs.declared.wires.Packet.{Packet}
use Rattle.la_base.specs.declared.wires.Wire.{Wire}
use Rattle.la_base.specs.declared.wires.Wire.TheVariants.{Nothing as NoWire}
use Rattle.decoder_core.specs.Packets.{IsPacketFloor, last_start}
use Rattle.decoder_core.specs.Promises.{NotesFrom, PacketsOn, packet_starts}
use Rattle.sample_walks.specs.Walks.{Between}
use Rattle.packet_walks.specs.Walks.{SoundPackets, PushedPackets}
use Rattle.packet_walks.specs.Transactions.{from_first, Device, closed_outs, open_outs}
use Rattle.packet_walks.specs.Transactions.{transaction_outs, open_part, begun_at, transaction_near}
use Rattle.packet_walks.specs.Promises.{Promises}
use Rattle.packet_walks.specs.laws.Steps.{NoPackets, Steps, begin_next, held_gives, held_next}
use Rattle.packet_walks.specs.laws.Steps.{held_near, transaction_walk, held_in, held_of, Pushed}
use Rattle.packet_walks.specs.laws.Steps.{Sound}
use Rattle.packet_walks.specs.laws.WalkLaws.{notes_from_less, packets_from_less, walk_floor}
use Rattle.packet_walks.specs.laws.WalkLaws.{walk_promises}
use Rattle.packet_walks.specs.laws.CutLaws.{grown_first, first_push, ended_of, last_of, ended_stay}
use Rattle.packet_walks.specs.laws.CutLaws.{last_grows, ended_grow, last_begins}

-- outputs without a packet are of any wire
pub any_wire : (wire : Wire) (outs : List Out) → NoPackets outs → PacketsOn wire outs
any_wire wire [] none = tt
any_wire wire (NoteOut note ∷ outs) none = any_wire wire outs none
any_wire wire (PieceOut piece ∷ outs) none = any_wire wire outs none
any_wire wire (PacketOut packet ∷ outs) none = absurd none

no_starts : (outs : List Out) → NoPackets outs → packet_starts outs ≡ []
no_starts [] none = refl
no_starts (NoteOut note ∷ outs) none = no_starts outs none
no_starts (PieceOut piece ∷ outs) none = no_starts outs none
no_starts (PacketOut packet ∷ outs) none = absurd none

module _ {O : Type 0} (device : Device) (steps : Steps O) where
  module _ (kept : Packet → List Packet → O) (pushed : Pushed device steps kept) where
    abbrev held : List Packet → Option O
    held part = held_in device steps kept part

    module _ (p : Packet) where
      -- what a packet gives that ends nothing, and what is kept behind it
      abbrev told : Option O → List Out
      told None = []
      told (Some o) = steps.gives o p

      abbrev goes : Option O → Option O
      goes None = begin_next device steps p
      goes (Some o) = Some (steps.next o p)

      -- what the packet gives that ends it
      abbrev ends_with : Option O → List Out
      ends_with None = []
      ends_with (Some o) = steps.closes o

      open_gives : (part : List Packet) (begins : Bool)
          → open_outs device (grown_first p part begins) ≡ open_outs device part ++ told (held part)
      open_gives [] true = pushed.no_packets
      open_gives [] false = refl
      open_gives (first ∷ packets) begins = pushed.inside_push first packets p

      open_next : (part : List Packet)
          → held (grown_first p part (device.begins p)) ≡ goes (held part)
      open_next [] = by (device.begins p)
        where
          by : (t : Bool) → held (cond t (p ∷ []) []) ≡ (if t then Some (steps.opens p) else None)
          by true = ap Some (pushed.none_kept p)
          by false = refl
      open_next (first ∷ packets) = ap Some (pushed.kept_push first packets p)

      closes : (part : List Packet)
          → closed_outs device part ≡ open_outs device part ++ ends_with (held part)
      closes [] = refl
      closes (first ∷ packets) =
          ap (λ (l : List Out). device.inside packets ++ l) (pushed.closing_is first packets)

      -- a transaction that this packet alone may have begun gives nothing
      alone_gives : (begins : Bool) → open_outs device (cond begins (p ∷ []) []) ≡ []
      alone_gives true = pushed.no_packets
      alone_gives false = refl

      alone_held : (begins : Bool)
          → held (cond begins (p ∷ []) []) ≡ (if begins then Some (steps.opens p) else None)
      alone_held true = ap Some (pushed.none_kept p)
      alone_held false = refl

      module _ (xs : List Packet) where
        abbrev more : List Packet
        more = xs ++ p ∷ []

        abbrev part : List Packet
        part = open_part device xs

        abbrev before : List Out
        before = ended_of device xs

        abbrev given : List Out
        given = before ++ open_outs device part

        gives_no : (h : Option O) → device.ends p ≡ false → told h ≡ held_gives device steps h p
        gives_no None is = refl
        gives_no (Some o) is =
            sym (ap (λ (t : Bool). if t then steps.closes o else steps.gives o p) is)

        gives_yes : (h : Option O) → device.ends p ≡ true
            → ends_with h ≡ held_gives device steps h p
        gives_yes None is = refl
        gives_yes (Some o) is =
            sym (ap (λ (t : Bool). if t then steps.closes o else steps.gives o p) is)

        next_no : (h : Option O) → device.ends p ≡ false → goes h ≡ held_next device steps h p
        next_no None is = refl
        next_no (Some o) is =
            sym (ap (λ (t : Bool). if t then begin_next device steps p else Some (steps.next o p))
            is)

        next_yes : (h : Option O) → device.ends p ≡ true
            → begin_next device steps p ≡ held_next device steps h p
        next_yes None is = refl
        next_yes (Some o) is =
            sym (ap (λ (t : Bool). if t then begin_next device steps p else Some (steps.next o p))
            is)

        abbrev GoesOn : Type 0
        GoesOn =
            (ended_of device more ++ open_outs device (open_part device more)
            ≡ given ++ held_gives device steps (held part) p)
            × (held (open_part device more) ≡ held_next device steps (held part) p)

        joins : device.ends p ≡ false → GoesOn
        joins is =
            let grown : open_part device more ≡ grown_first p part (device.begins p) =
            ap (from_first device.begins) (last_grows device p xs is)
            ∙ first_push p device.begins (last_of device xs) in (
              (λ i. ended_stay device p xs is i ++ open_outs device (grown i))
                  ∙ ap (λ (l : List Out). before ++ l) (open_gives part (device.begins p))
                  ∙ sym (append_assoc before (open_outs device part) (told (held part)))
                  ∙ ap (λ (l : List Out). given ++ l) (gives_no (held part) is),
              ap held grown ∙ open_next part ∙ next_no (held part) is,
            )

        ends : device.ends p ≡ true → GoesOn
        ends is =
            let alone : open_part device more ≡ cond (device.begins p) (p ∷ []) [] =
            ap (from_first device.begins) (last_begins device p xs is) in (
              (λ i. ended_grow device p xs is i ++ open_outs device (alone i))
                  ∙ ap (λ (l : List Out). (before ++ closed_outs device part) ++ l)
                  (alone_gives (device.begins p))
                  ∙ append-nil (before ++ closed_outs device part)
                  ∙ ap (λ (l : List Out). before ++ l) (closes part)
                  ∙ sym (append_assoc before (open_outs device part) (ends_with (held part)))
                  ∙ ap (λ (l : List Out). given ++ l) (gives_yes (held part) is),
              ap held alone ∙ alone_held (device.begins p) ∙ next_yes (held part) is,
            )

        goes_on : GoesOn
        goes_on = by (device.ends p) refl
          where
            by : (t : Bool) → device.ends p ≡ t → GoesOn
            by true is = ends is
            by false is = joins is

    pub transactions_pushed : PushedPackets (transaction_walk device steps)
        (transaction_outs device) (held_of device steps kept)
    unfolding transaction_outs held_of
    transactions_pushed = record {
      no_outs = refl;
      no_kept = refl;
      outs_push = λ ps p. (goes_on p ps).0;
      kept_push = λ ps p. (goes_on p ps).1;
    }

  -- nothing but an open transaction has to fit
  abbrev pub held_fits : (O → ℕ → Type 0) → Option O → ℕ → Type 0
  held_fits fits None last = Unit {0}
  held_fits fits (Some kept) last = fits kept last

  module _ (fits : O → ℕ → Type 0) (sound : Sound device steps fits) where
    fits_begin : (p : Packet) → held_fits fits (begin_next device steps p) p.start
    fits_begin p = by (device.begins p)
      where
        by : (t : Bool) → held_fits fits (if t then Some (steps.opens p) else None) p.start
        by true = sound.opens_fits p
        by false = tt

    fits_next : (h : Option O) (last : ℕ) (p : Packet) → held_fits fits h last → last ≤ p.start
        → held_fits fits (held_next device steps h p) p.start
    fits_next None last p fit after = fits_begin p
    fits_next (Some kept) last p fit after = by (device.ends p)
      where
        by : (t : Bool) → held_fits fits
            (if t then begin_next device steps p else Some (steps.next kept p)) p.start
        by true = fits_begin p
        by false = sound.next_fits kept last p fit after

    fits_later : (h : Option O) (last from : ℕ) → held_fits fits h last → last ≤ from
        → held_fits fits h from
    fits_later None last from fit later = tt
    fits_later (Some kept) last from fit later = sound.later_fits kept last from fit later

    few : (h : Option O) (p : Packet) → length (held_gives device steps h p) ≤ 16
    few None p = omega arith
    few (Some kept) p = by (device.ends p)
      where
        by : (t : Bool) → length (if t then steps.closes kept else steps.gives kept p) ≤ 16
        by true = sound.few_closing kept
        by false = sound.few kept p

    none : (h : Option O) (p : Packet) → NoPackets (held_gives device steps h p)
    none None p = tt
    none (Some kept) p = by (device.ends p)
      where
        by : (t : Bool) → NoPackets (if t then steps.closes kept else steps.gives kept p)
        by true = sound.no_packet_closing kept
        by false = sound.no_packet kept p

    notes : (h : Option O) (last : ℕ) (p : Packet) → held_fits fits h last → last ≤ p.start
        → NotesFrom (held_near device steps h last) (held_gives device steps h p)
    notes None last p fit after = tt
    notes (Some kept) last p fit after = by (device.ends p)
      where
        by : (t : Bool) → NotesFrom (steps.near kept last)
            (if t then steps.closes kept else steps.gives kept p)
        by true = sound.notes_closing kept last fit
        by false = sound.notes kept last p fit after

    -- the near place never goes back
    near_begin : (low : ℕ) (p : Packet) → low ≤ p.start
        → low ≤ held_near device steps (begin_next device steps p) p.start
    near_begin low p below = by (device.begins p)
      where
        by : (t : Bool)
            → low ≤ held_near device steps (if t then Some (steps.opens p) else None) p.start
        by true = let opens = sound.opens_near p in omega (arith, below, opens)
        by false = below

    near_rises : (h : Option O) (last : ℕ) (p : Packet) → held_fits fits h last → last ≤ p.start
        → held_near device steps h last ≤ held_near device steps
        (held_next device steps h p) p.start
    near_rises None last p fit after = near_begin last p after
    near_rises (Some kept) last p fit after = by (device.ends p)
      where
        by : (t : Bool) → steps.near kept last ≤ held_near device steps
            (if t then begin_next device steps p else Some (steps.next kept p)) p.start
        by true = let below = sound.near_below kept last fit in
            near_begin (steps.near kept last) p (omega (arith, below, after))
        by false = sound.next_near kept last p fit after

    pub transactions_sound : SoundPackets (transaction_walk device steps) NoWire (held_fits fits)
    transactions_sound = record {
      begin_fits = tt;
      next_fits = fits_next;
      later_fits = fits_later;
      few = few;
      on_wire = λ h p. any_wire NoWire (held_gives device steps h p) (none h p);
      notes = notes;
      packets =
          λ h last p fit after. subst
          (Between (held_near device steps h last)
          (held_near device steps (held_next device steps h p) p.start))
          (sym (no_starts (held_gives device steps h p) (none h p)))
          (near_rises h last p fit after);
    }

  -- the near place is no later than the one that is kept
  module _ (kept : Packet → List Packet → O) (pushed : Pushed device steps kept) where
    pub near_most : (packets : List Packet) (from : ℕ) → transaction_near device packets from
        ≤ held_near device steps (held_of device steps kept packets) from
    unfolding transaction_near held_of
    near_most packets from = by (open_part device packets)
      where
        by : (part : List Packet) → begun_at device part from
            ≤ held_near device steps (held_in device steps kept part) from
        by [] = le_refl from
        by (first ∷ others) = pushed.near_after first others from

-- what a device promises that owes this
module _ {O : Type 0} (device : Device) (steps : Steps O) (wants : Wire) (fits : O → ℕ → Type 0)
    (kept : Packet → List Packet → O) (sound : Sound device steps fits)
    (pushed : Pushed device steps kept) where
  pub promises : Promises (transaction_walk device steps) wants NoWire (transaction_outs device)
      (held_of device steps kept)
  promises =
      let w = transaction_walk device steps in
      let outs = transaction_outs device in
      let held = held_of device steps kept in
      let walks = transactions_pushed device steps kept pushed in
      let walks_soundly = transactions_sound device steps fits sound in
      record {
        all = walk_promises w outs held walks NoWire
            (held_fits device steps fits) walks_soundly wants;
        floor = walk_floor w outs held walks NoWire
            (held_fits device steps fits) walks_soundly wants;
      }

  pub floor_is : (seen : List Packet) (from : ℕ) → last_start 0 seen ≤ from
      → IsPacketFloor wants (transaction_outs device) seen from (transaction_near device seen from)
  floor_is seen from later more new all behind is =
      let low = transaction_near device seen from in
      let high = held_near device steps (held_of device steps kept seen) from in
      let below = near_most device steps kept pushed seen from in
      let both = promises.floor seen from later more new all behind is in (
        notes_from_less new low high below both.0,
        packets_from_less new low high below both.1,
      )

  -- what is kept of packets makes the floor and the near place, and says what one more packet does
  module _ (held : Option O) (seen : List Packet)
      (stands : held ≡ held_of device steps kept seen) where
    module _ (from result : ℕ) (later : last_start 0 seen ≤ from)
        (result_is : result ≡ held_near device steps held from) where
      same : held_near device steps (held_of device steps kept seen) from ≡ result
      same = sym (result_is ∙ ap (λ (h : Option O). held_near device steps h from) stands)

      pub kept_floor : IsPacketFloor wants (transaction_outs device) seen from result
      kept_floor =
          subst (IsPacketFloor wants (transaction_outs device) seen from) same
          (promises.floor seen from later)

      pub kept_near : transaction_near device seen from ≤ result
      kept_near =
          subst (λ (n : ℕ). transaction_near device seen from ≤ n) same
          (near_most device steps kept pushed seen from)

    module _ (packet : Packet) where
      pub kept_stands : (new : Option O) → new ≡ held_next device steps held packet
          → new ≡ held_of device steps kept (seen ++ packet ∷ [])
      kept_stands new is =
          is ∙ ap (λ (h : Option O). held_next device steps h packet) stands
          ∙ sym ((transactions_pushed device steps kept pushed).kept_push seen packet)

      pub kept_loud : (into : List Out) → into ≡ held_gives device steps held packet
          → transaction_outs device (seen ++ packet ∷ []) ≡ transaction_outs device seen ++ into
      kept_loud into is =
          (transactions_pushed device steps kept pushed).outs_push seen packet
          ∙ ap (λ (l : List Out). transaction_outs device seen ++ l)
          (ap (λ (h : Option O). held_gives device steps h packet) (sym stands) ∙ sym is)
