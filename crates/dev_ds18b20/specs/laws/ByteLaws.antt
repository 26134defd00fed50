-- One more packet of a transaction: what all of them give is what the state says that those before
-- it left.
use Rattle.std.proofs.Common.{◌≡◌, ℕ, ◌+◌, ◌<◌, ◌≤◌, Bool, true, false, cond, if◌then◌else◌, ◌==◌}
use Rattle.std.proofs.Common.{List, [], ◌∷◌, ◌++◌, length, map, take, drop, Option, Some, None}
use Rattle.std.proofs.Common.{refl, sym, ◌∙◌, ap, subst, arith, length-append}
use Rattle.std.specs.Prelude.{nat_lt}
use Rattle.std.proofs.Math.ListN.{drop_of_length-le}
use Rattle.std.proofs.Math.Nat.{le_refl}
use Rattle.std.proofs.lemmas.Bool.Decides.{nat_tests}
use Rattle.std.proofs.lemmas.List.{map-append, append-nil, take-append-le, drop-append-le}
use Rattle.std.proofs.lemmas.List.{length-drop}
use Rattle.std.proofs.lemmas.List.Elements.{filter-append}
use Rattle.std.specs.List.{filter}
use Rattle.la_base.specs.declared.wires.Out.{Out}
use Rattle.la_base.specs.declared.wires.Packet.{Packet}
use Rattle.list_cuts.proofs.TestLaws.{less_yes, less_no}
use Rattle.packet_walks.specs.laws.Steps.{Pushed}
use Rattle.dev_ds18b20.specs.declared.spot.Spot.{Spot}
use Rattle.dev_ds18b20.specs.declared.held.Stage.{Stage}
use Rattle.dev_ds18b20.specs.declared.held.Stage.TheVariants.{Foreign, Own, Reads, Writes, Told}
use Rattle.dev_ds18b20.specs.declared.held.Transaction.{Transaction}
use Rattle.dev_ds18b20.specs.Probe.{is_byte, is_own, behind_own, bytes_in, spot_of, note_over}
use Rattle.dev_ds18b20.specs.Probe.{scratchpad_outs, written_outs, with_last, first_bytes}
use Rattle.dev_ds18b20.specs.Probe.{behind_function, bytes_outs, own_outs, probe}
use Rattle.dev_ds18b20.specs.laws.Held.{opened, gathered, function_kept, bytes_kept, own_kept}
use Rattle.dev_ds18b20.specs.laws.Held.{transaction_kept, stage_behind, gathers_give, byte_gives}
use Rattle.dev_ds18b20.specs.laws.Held.{transaction_gives, gathers_next, stage_next}
use Rattle.dev_ds18b20.specs.laws.Held.{transaction_next, near_at, probe_steps}

less_is : (a b : ℕ) → nat_lt a b ≡ true → a < b
less_is a b is = grind (arith, nat_tests)

pub less_not : (a b : ℕ) → nat_lt a b ≡ false → b ≤ a
less_not a b is = grind (arith, nat_tests)

-- what the first bytes give, with one more byte
module _ (n : ℕ) (give : List Spot → Spot → List Out) (bytes : List Spot) (p : Spot) where
  longer : length (bytes ++ p ∷ []) ≡ length bytes + 1
  longer = length-append bytes (p ∷ [])

  too_few : (list : List Spot) → length list ≤ n → first_bytes n give list ≡ []
  too_few list few = ap (with_last give (take n list)) (drop_of_length-le list few)

  gives_below : length bytes < n
      → first_bytes n give (bytes ++ p ∷ []) ≡ first_bytes n give bytes ++ []
  gives_below below =
      too_few (bytes ++ p ∷ []) (omega (arith, longer, below))
      ∙ sym (append-nil (first_bytes n give bytes) ∙ too_few bytes (omega (arith, below)))

  same_last : (front rest : List Spot) → 0 < length rest
      → with_last give front (rest ++ p ∷ []) ≡ with_last give front rest
  same_last front [] some = absurd (omega (arith, some))
  same_last front (x ∷ rest) some = refl

  gives_above : n < length bytes
      → first_bytes n give (bytes ++ p ∷ []) ≡ first_bytes n give bytes ++ []
  gives_above above =
      let within : n ≤ length bytes = omega (arith, above) in
      (λ i. with_last give (take-append-le n bytes (p ∷ []) within i)
      (drop-append-le n bytes (p ∷ []) within i))
      ∙ same_last (take n bytes) (drop n bytes) (omega (arith, length-drop n bytes, above))
      ∙ sym (append-nil (first_bytes n give bytes))

  gives_at : length bytes ≡ n
      → first_bytes n give (bytes ++ p ∷ []) ≡ first_bytes n give bytes ++ give (take n bytes) p
  gives_at at =
      let within : n ≤ length bytes = omega (arith, at) in
      let none : length bytes ≤ n = omega (arith, at) in
      (λ i. with_last give (take-append-le n bytes (p ∷ []) within i)
      (drop-append-le n bytes (p ∷ []) within i))
      ∙ ap (λ (l : List Spot). with_last give (take n bytes) (l ++ p ∷ []))
      (drop_of_length-le bytes none)
      ∙ ap (λ (l : List Out). l ++ give (take n bytes) p) (sym (too_few bytes none))

-- what is kept behind a byte
abbrev byte_next : ℕ → Stage → List Spot → Packet → Transaction
byte_next start Foreign bytes p = stage_next start Foreign bytes p
byte_next start Own bytes p = opened start (stage_behind (spot_of p).byte) bytes
byte_next start Reads bytes p = gathers_next start 8 Reads bytes (spot_of p)
byte_next start Writes bytes p = gathers_next start 2 Writes bytes (spot_of p)
byte_next start Told bytes p = opened start Told bytes

module _ (start : ℕ) (p : Packet) where
  abbrev byte : Spot
  byte = spot_of p

  -- outputs and what is kept go on by a byte
  abbrev GoesOn : List Out → List Out → Transaction → Transaction → Type 0
  GoesOn old now kept next =
      (now ≡ old ++ byte_gives kept.stage kept.bytes byte)
      × (next ≡ byte_next start kept.stage kept.bytes p)

  module _ (n : ℕ) (stage : Stage) (give : List Spot → Spot → List Out)
      (gives : (bytes : List Spot) → byte_gives stage bytes byte ≡ gathers_give n give bytes byte)
      (goes : (bytes : List Spot)
      → byte_next start stage bytes p ≡ gathers_next start n stage bytes byte)
      (bytes : List Spot) where
    abbrev Gathers : Transaction → Type 0
    Gathers kept =
        GoesOn (first_bytes n give bytes) (first_bytes n give (bytes ++ byte ∷ [])) kept
        (gathered start n stage (bytes ++ byte ∷ []))

    behind_yes : n < length bytes + 1
        → gathered start n stage (bytes ++ byte ∷ []) ≡ opened start Told []
    behind_yes above =
        ap (λ (t : Bool). if t then opened start Told []
        else opened start stage (bytes ++ byte ∷ []))
        (less_yes n (length (bytes ++ byte ∷ [])) (omega (arith, longer n give bytes byte, above)))

    behind_no : length bytes + 1 ≤ n
        → gathered start n stage (bytes ++ byte ∷ []) ≡ opened start stage (bytes ++ byte ∷ [])
    behind_no below =
        ap (λ (t : Bool). if t then opened start Told []
        else opened start stage (bytes ++ byte ∷ []))
        (less_no n (length (bytes ++ byte ∷ [])) (omega (arith, longer n give bytes byte, below)))

    told : n < length bytes → Gathers (opened start Told [])
    told above = (gives_above n give bytes byte above, behind_yes (omega (arith, above)))

    begun : length bytes ≤ n → Gathers (opened start stage bytes)
    begun few =
        (now (nat_lt (length bytes) n) refl, next (nat_lt (length bytes) n) refl ∙ sym (goes bytes))
      where
        now : (t : Bool) → nat_lt (length bytes) n ≡ t
            → first_bytes n give (bytes ++ byte ∷ [])
            ≡ first_bytes n give bytes ++ byte_gives stage bytes byte
        now true is =
            gives_below n give bytes byte (less_is (length bytes) n is)
            ∙ ap (λ (l : List Out). first_bytes n give bytes ++ l)
            (sym (gives bytes ∙ ap (λ (t : Bool). if t then [] else give (take n bytes) byte) is))
        now false is =
            let most = less_not (length bytes) n is in
            gives_at n give bytes byte (omega (arith, most, few))
            ∙ ap (λ (l : List Out). first_bytes n give bytes ++ l)
            (sym (gives bytes ∙ ap (λ (t : Bool). if t then [] else give (take n bytes) byte) is))

        next : (t : Bool) → nat_lt (length bytes) n ≡ t
            → gathered start n stage (bytes ++ byte ∷ []) ≡ gathers_next start n stage bytes byte
        next true is =
            let below = less_is (length bytes) n is in
            behind_no (omega (arith, below)) ∙ sym
            (ap (λ (t : Bool). if t then opened start stage (bytes ++ byte ∷ [])
            else opened start Told []) is)
        next false is =
            let most = less_not (length bytes) n is in
            behind_yes (omega (arith, most)) ∙ sym
            (ap (λ (t : Bool). if t then opened start stage (bytes ++ byte ∷ [])
            else opened start Told []) is)

    gathers : Gathers (gathered start n stage bytes)
    gathers = by (nat_lt n (length bytes)) refl
      where
        by : (t : Bool) → nat_lt n (length bytes) ≡ t
            → Gathers (if t then opened start Told [] else opened start stage bytes)
        by true is = told (less_is n (length bytes) is)
        by false is = begun (less_not n (length bytes) is)

  -- one more byte behind a function
  module _ (function : Spot) (bytes : List Spot) where
    abbrev note : Out
    note = note_over 0 function function function.byte 0

    behind_more : GoesOn (note ∷ behind_function function.byte bytes)
        (note ∷ behind_function function.byte (bytes ++ byte ∷ []))
        (function_kept start function.byte bytes)
        (function_kept start function.byte (bytes ++ byte ∷ []))
    behind_more = by (function.byte == 190) (function.byte == 78)
      where
        read : Gathers 8 Reads scratchpad_outs (λ bs. refl) (λ bs. refl) bytes
            (gathered start 8 Reads bytes)
        read = gathers 8 Reads scratchpad_outs (λ bs. refl) (λ bs. refl) bytes

        written : Gathers 2 Writes written_outs (λ bs. refl) (λ bs. refl) bytes
            (gathered start 2 Writes bytes)
        written = gathers 2 Writes written_outs (λ bs. refl) (λ bs. refl) bytes

        by : (t u : Bool)
            → GoesOn (note
            ∷ (if t then first_bytes 8 scratchpad_outs bytes else if u
            then first_bytes 2 written_outs bytes else []))
            (note ∷ (if t then first_bytes 8 scratchpad_outs (bytes ++ byte ∷ []) else if u
            then first_bytes 2 written_outs (bytes ++ byte ∷ []) else []))
            (if t then gathered start 8 Reads bytes else if u then gathered start 2 Writes bytes
            else opened start Told [])
            (if t then gathered start 8 Reads (bytes ++ byte ∷ []) else if u
            then gathered start 2 Writes (bytes ++ byte ∷ []) else opened start Told [])
        by true u = (ap (λ (l : List Out). note ∷ l) read.0, read.1)
        by false true = (ap (λ (l : List Out). note ∷ l) written.0, written.1)
        by false false = (refl, refl)

  -- one more byte of a transaction of its own
  first_more : GoesOn [] (bytes_outs (byte ∷ [])) (opened start Own [])
      (bytes_kept start (byte ∷ []))
  first_more = by (byte.byte == 190) (byte.byte == 78)
    where
      by : (t u : Bool)
          → (note_over 0 byte byte byte.byte 0
          ∷ (if t then first_bytes 8 scratchpad_outs [] else if u then first_bytes 2 written_outs []
          else []) ≡ note_over 0 byte byte byte.byte 0 ∷ [])
          × ((if t then gathered start 8 Reads [] else if u then gathered start 2 Writes []
          else opened start Told [])
          ≡ opened start (if t then Reads else if u then Writes else Told) [])
      by true u = (refl, refl)
      by false true = (refl, refl)
      by false false = (refl, refl)

  bytes_more : (bytes : List Spot) → GoesOn (bytes_outs bytes) (bytes_outs (bytes ++ byte ∷ []))
      (bytes_kept start bytes) (bytes_kept start (bytes ++ byte ∷ []))
  bytes_more [] = first_more
  bytes_more (function ∷ bytes) = behind_more function bytes

  -- a packet that is a byte, and one that is none
  next_byte : (stage : Stage) (bytes : List Spot) → is_byte p.kind ≡ true
      → byte_next start stage bytes p ≡ stage_next start stage bytes p
  next_byte Foreign bytes is = refl
  next_byte Own bytes is =
      sym (ap (λ (t : Bool). opened start (if t then stage_behind byte.byte else Own) bytes) is)
  next_byte Reads bytes is =
      sym (ap (λ (t : Bool). if t then gathers_next start 8 Reads bytes byte
      else opened start Reads bytes) is)
  next_byte Writes bytes is =
      sym (ap (λ (t : Bool). if t then gathers_next start 2 Writes bytes byte
      else opened start Writes bytes) is)
  next_byte Told bytes is = refl

  module _ (is : is_byte p.kind ≡ false) where
    abbrev Stays : Transaction → Type 0
    Stays kept = kept ≡ stage_next start kept.stage kept.bytes p

    stays_reads : (bytes : List Spot) → Stays (opened start Reads bytes)
    stays_reads bytes =
        sym (ap (λ (t : Bool). if t then gathers_next start 8 Reads bytes byte
        else opened start Reads bytes) is)

    stays_writes : (bytes : List Spot) → Stays (opened start Writes bytes)
    stays_writes bytes =
        sym (ap (λ (t : Bool). if t then gathers_next start 2 Writes bytes byte
        else opened start Writes bytes) is)

    stays_gathered : (n : ℕ) (stage : Stage) (bytes : List Spot) → Stays (opened start stage bytes)
        → Stays (gathered start n stage bytes)
    stays_gathered n stage bytes stays = by (nat_lt n (length bytes))
      where
        by : (t : Bool) → Stays (if t then opened start Told [] else opened start stage bytes)
        by true = refl
        by false = stays

    stays : (bytes : List Spot) → Stays (bytes_kept start bytes)
    stays [] =
        sym (ap (λ (t : Bool). opened start (if t then stage_behind byte.byte else Own) []) is)
    stays (function ∷ bytes) = by (function.byte == 190) (function.byte == 78)
      where
        by : (t u : Bool) → Stays
            (if t then gathered start 8 Reads bytes else if u then gathered start 2 Writes bytes
            else opened start Told [])
        by true u = stays_gathered 8 Reads bytes (stays_reads bytes)
        by false true = stays_gathered 2 Writes bytes (stays_writes bytes)
        by false false = refl

-- one more packet behind those of a transaction
module _ (p : Packet) where
  -- the first that makes a transaction the thermometer's
  abbrev grown_own : Option (List Packet) → Bool → Option (List Packet)
  grown_own None own = cond own (Some []) None
  grown_own (Some packets) own = Some (packets ++ p ∷ [])

  own_push : (packets : List Packet)
      → behind_own (packets ++ p ∷ []) ≡ grown_own (behind_own packets) (is_own p)
  own_push [] = refl
  own_push (x ∷ packets) = by (is_own x) (own_push packets)
    where
      by : (t : Bool) → behind_own (packets ++ p ∷ []) ≡ grown_own (behind_own packets) (is_own p)
          → cond t (Some (packets ++ p ∷ [])) (behind_own (packets ++ p ∷ []))
          ≡ grown_own (cond t (Some packets) (behind_own packets)) (is_own p)
      by true more = refl
      by false more = more

  more_bytes : (packets : List Packet) → bytes_in (packets ++ p ∷ [])
      ≡ bytes_in packets ++ (if is_byte p.kind then spot_of p ∷ [] else [])
  more_bytes packets =
      ap (map spot_of) (filter-append (λ packet. is_byte packet.kind) packets (p ∷ []))
      ∙ map-append spot_of (filter (λ packet. is_byte packet.kind) packets)
      (if is_byte p.kind then p ∷ [] else [])
      ∙ ap (λ (l : List Spot). bytes_in packets ++ l) (by (is_byte p.kind))
    where
      by : (t : Bool) → map spot_of (if t then p ∷ [] else []) ≡ (if t then spot_of p ∷ [] else [])
      by true = refl
      by false = refl

  own_tells : (start : ℕ) (own : Option (List Packet))
      → own_outs (grown_own own (is_own p))
      ≡ own_outs own ++ transaction_gives (own_kept start own) p
  own_tells start None = none (is_own p) ∙ by (is_byte p.kind)
    where
      none : (t : Bool) → own_outs (cond t (Some []) None) ≡ []
      none true = refl
      none false = refl

      by : (t : Bool) → [] ≡ (if t then byte_gives Foreign [] (spot_of p) else [])
      by true = refl
      by false = refl
  own_tells start (Some packets) = ap bytes_outs (more_bytes packets) ∙ by (is_byte p.kind)
    where
      kept : Transaction
      kept = bytes_kept start (bytes_in packets)

      by : (t : Bool) → bytes_outs (bytes_in packets ++ (if t then spot_of p ∷ [] else []))
          ≡ bytes_outs (bytes_in packets)
          ++ (if t then byte_gives kept.stage kept.bytes (spot_of p) else [])
      by true = (bytes_more start p (bytes_in packets)).0
      by false =
          ap bytes_outs (append-nil (bytes_in packets))
          ∙ sym (append-nil (bytes_outs (bytes_in packets)))

  starts_stay : (start : ℕ) (bytes : List Spot) → (bytes_kept start bytes).start ≡ start
  starts_stay start [] = refl
  starts_stay start (function ∷ bytes) = by (function.byte == 190) (function.byte == 78)
    where
      few : (t : Bool) (stage : Stage)
          → (if t then opened start Told [] else opened start stage bytes).start ≡ start
      few true stage = refl
      few false stage = refl

      by : (t u : Bool)
          → (if t then gathered start 8 Reads bytes else if u then gathered start 2 Writes bytes
          else opened start Told []).start ≡ start
      by true u = few (nat_lt 8 (length bytes)) Reads
      by false true = few (nat_lt 2 (length bytes)) Writes
      by false false = refl

  own_keeps : (start : ℕ) (own : Option (List Packet))
      → own_kept start (grown_own own (is_own p)) ≡ transaction_next (own_kept start own) p
  own_keeps start None = by (is_own p)
    where
      by : (t : Bool)
          → own_kept start (cond t (Some []) None) ≡ opened start (if t then Own else Foreign) []
      by true = refl
      by false = refl
  own_keeps start (Some packets) =
      ap (bytes_kept start) (more_bytes packets) ∙ by (is_byte p.kind) refl
      ∙ ap (λ (n : ℕ). stage_next n kept.stage kept.bytes p)
      (sym (starts_stay start (bytes_in packets)))
    where
      kept : Transaction
      kept = bytes_kept start (bytes_in packets)

      by : (t : Bool) → is_byte p.kind ≡ t → bytes_kept start
          (bytes_in packets ++ (if t then spot_of p ∷ [] else []))
          ≡ stage_next start kept.stage kept.bytes p
      by true is =
          (bytes_more start p (bytes_in packets)).1 ∙ next_byte start p kept.stage kept.bytes is
      by false is =
          ap (bytes_kept start) (append-nil (bytes_in packets))
          ∙ stays start p is (bytes_in packets)

-- a transaction starts where its reset does
kept_start : (first : Packet) (packets : List Packet)
    → (transaction_kept first packets).start ≡ first.start
kept_start first packets = by (behind_own packets)
  where
    by : (own : Option (List Packet)) → (own_kept first.start own).start ≡ first.start
    by None = refl
    by (Some packets) = starts_stay first first.start (bytes_in packets)

-- what is near starts no earlier than the transaction
pub near_low : (stage : Stage) (start last : ℕ) → start ≤ near_at stage start last
near_low Foreign start last = le_refl start
near_low Own start last = le_refl start
near_low Reads start last = le_refl start
near_low Writes start last = le_refl start
near_low Told start last = omega arith

pub probe_pushed : Pushed probe probe_steps transaction_kept
probe_pushed = record {
  no_packets = refl;
  none_kept = λ first. refl;
  inside_push = λ first ps p. ap own_outs (own_push p ps) ∙ own_tells p first.start (behind_own ps);
  kept_push =
      λ first ps p. ap (own_kept first.start) (own_push p ps)
      ∙ own_keeps p first.start (behind_own ps);
  closing_is = λ first ps. refl;
  near_after =
      λ first ps last. subst (λ (n : ℕ). n ≤ probe_steps.near (transaction_kept first ps) last)
      (kept_start first ps)
      (near_low (transaction_kept first ps).stage (transaction_kept first ps).start last);
}
