-- One packet more behind rows of packets.
use Rattle.std.proofs.Common.{◌≡◌, ℕ, ◌+◌, ◌<◌, Bool, true, false, if◌then◌else◌, List, [], ◌∷◌, ◌++◌, take, length, get_or, refl, sym, ◌∙◌, ap, append_assoc, Option}
use Rattle.std.proofs.lemmas.List.{append-nil}
use Rattle.la_base.specs.declared.wires.Out.{Out}
use Rattle.la_base.specs.declared.wires.Packet.{Packet}
use Rattle.list_cuts.proofs.NeighbourLaws.{at_neighbours_push}
use Rattle.dec_modbus.specs.Modbus.{byte_outs, bytes_outs, last_in, message_outs, messages, rows_outs, together}
use Rattle.dec_modbus.specs.laws.RowCuts.{grown, pushed, rows_push}
use Rattle.reference_devices.specs.MessageParts.{joins, open_row, packet_outs, with_packet}
use Rattle.reference_devices.proofs.Rounds.{next_taken}

module _ (gap : ℕ) (p : Packet) where
  -- what the packet gives behind rows, and the row that it is in
  abbrev Goes : List (List Packet) → List (List Packet) → Type 0
  Goes list all = (rows_outs all ≡ rows_outs list ++ packet_outs gap (open_row list) p) × (open_row all ≡ with_packet gap (open_row list) p)

  abbrev Filled : List (List Packet) → Type 0
  Filled [] = ⊥
  Filled (row ∷ list) = Unit {0}

  filled : (row : List Packet) (list : List (List Packet)) → Filled (pushed (together gap) (row ∷ list) p)
  filled [] [] = tt
  filled (x ∷ xs) [] = by (together gap (last_in x xs) p)
    where
      by : (b : Bool) → Filled (grown b (x ∷ xs) p)
      by true = tt
      by false = tt
  filled row (next ∷ list) = tt

  one_row : (row : List Packet) (b : Bool)
      → (rows_outs (grown b row p) ≡ bytes_outs row ++ (if b then byte_outs (length row) p else message_outs row ++ byte_outs 0 p))
      × (open_row (grown b row p) ≡ (if b then row else []) ++ p ∷ [])
  one_row row true = (at_neighbours_push (λ place (before : Option Packet) packet. byte_outs place packet) row p, refl)
  one_row row false = (ap (λ (l : List Out). bytes_outs row ++ (message_outs row ++ l)) (append-nil (byte_outs 0 p)), refl)

  later : (first row : List Packet) (list all : List (List Packet)) → Filled all → Goes (row ∷ list) all → Goes (first ∷ row ∷ list) (first ∷ all)
  later first row list [] some goes = absurd some
  later first row list (n ∷ all) some goes =
      let given = packet_outs gap (open_row (row ∷ list)) p in (
        ap (λ (l : List Out). bytes_outs first ++ (message_outs first ++ l)) goes.0
            ∙ ap (λ (l : List Out). bytes_outs first ++ l) (sym (append_assoc (message_outs first) (rows_outs (row ∷ list)) given))
            ∙ sym (append_assoc (bytes_outs first) (message_outs first ++ rows_outs (row ∷ list)) given),
        goes.1,
      )

  more : (list : List (List Packet)) → Goes list (pushed (together gap) list p)
  more [] = (append-nil (byte_outs 0 p), refl)
  more ([] ∷ []) = (append-nil (byte_outs 0 p), refl)
  more ((x ∷ xs) ∷ []) = one_row (x ∷ xs) (together gap (last_in x xs) p)
  more (row ∷ next ∷ others) = later row next others (pushed (together gap) (next ∷ others) p) (filled next others) (more (next ∷ others))

-- one round of the loop
module _ (gap : ℕ) (packets : List Packet) (i : ℕ) (packet : Packet) (within : i < length packets) (is : packet ≡ get_or packets i packet) where
  pub message_round : (now next : List Out) (row longer : List Packet) → now ≡ rows_outs (messages gap (take i packets)) → row ≡ open_row (messages gap (take i packets))
      → next ≡ now ++ packet_outs gap row packet → longer ≡ with_packet gap row packet
      → (next ≡ rows_outs (messages gap (take (i + 1) packets))) × (longer ≡ open_row (messages gap (take (i + 1) packets)))
  message_round now next row longer so_far left adds grows =
      let goes = more gap packet (messages gap (take i packets)) in
      let cut : messages gap (take (i + 1) packets) ≡ pushed (together gap) (messages gap (take i packets)) packet = ap (messages gap) (next_taken packets i packet within is) ∙ rows_push (together gap) (take i packets) packet in (
        adds ∙ (λ j. so_far j ++ packet_outs gap (left j) packet) ∙ sym goes.0 ∙ sym (ap rows_outs cut),
        grows ∙ (λ j. with_packet gap (left j) packet) ∙ sym goes.1 ∙ sym (ap open_row cut),
      )
