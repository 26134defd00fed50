-- What is kept, and what the phases mean, behind one more packet.
use Rattle.std.proofs.Common.{◌≡◌, ◌⊎◌, inl, inr, ℕ, ◌+◌, ◌≤◌, ◌==◌, ◌&&◌, ◌||◌, Bool, true, false}
use Rattle.std.proofs.Common.{if◌then◌else◌, cond, List, [], ◌∷◌, ◌++◌, length, map, Option, Some}
use Rattle.std.proofs.Common.{None, refl, sym, ◌∙◌, ap, subst, arith}
use Rattle.std.proofs.Math.Path.{transport}
use Rattle.std.specs.List.{flat_map}
use Rattle.std.proofs.lemmas.Bool.Decides.{nat_tests}
use Rattle.std.proofs.lemmas.List.{append-nil, map-append}
use Rattle.std.proofs.lemmas.List.Elements.{filter-append}
use Rattle.std.proofs.lemmas.Grind.{flat_map-append}
use Rattle.la_base.specs.declared.wires.Packet.{Packet}
use Rattle.la_base.specs.declared.wires.PacketKind.{PacketKind}
use Rattle.la_base.specs.declared.wires.PacketKind.TheVariants.{I2cAddress, I2cData, I2cAck}
use Rattle.list_cuts.specs.Parts.{parts, grow_last}
use Rattle.list_cuts.proofs.PartLaws.{parts_mark, parts_join, grow_last_at}
use Rattle.i2c_phases.specs.declared.tracker.Role.{Role}
use Rattle.i2c_phases.specs.declared.tracker.Role.TheVariants.{Fresh, Late, AskedWrite, AskedRead}
use Rattle.i2c_phases.specs.declared.tracker.Role.TheVariants.{AskedCall, Writing, Reading, Called}
use Rattle.i2c_phases.specs.declared.tracker.Role.TheVariants.{WasReset, Other}
use Rattle.i2c_phases.specs.declared.tracker.Event.{Event}
use Rattle.i2c_phases.specs.declared.tracker.Event.TheVariants.{Begins, WriteByte, ReadByte, Resets}
use Rattle.i2c_phases.specs.declared.tracker.Event.TheVariants.{Passes}
use Rattle.i2c_phases.specs.declared.tracker.Track.{Track}
use Rattle.i2c_phases.specs.Phases.{last_part, is_start, is_stop, is_address, is_ack, is_data}
use Rattle.i2c_phases.specs.Phases.{is_mark, byte_of, phase_in, Behind, first_of, when_acked}
use Rattle.i2c_phases.specs.Phases.{with_ack, data_in, is_six, is_reset, Meaning, Nothing, Writes}
use Rattle.i2c_phases.specs.Phases.{Reads, Reset, meaning, meaning_by, meanings}
use Rattle.i2c_phases.specs.laws.Tracking.{Comes, no_phase, asked, inside, ends, told, event}
use Rattle.i2c_phases.specs.laws.Tracking.{track_of}
use Rattle.i2c_phases.specs.laws.Tracking.{track, track_next}
use Rattle.i2c_phases.specs.laws.PhaseLaws.{back}

address_no_data : (k : PacketKind) → is_address k ≡ true → is_data k ≡ false
address_no_data I2cAddress e = refl
address_no_data I2cData e = absurd cc
address_no_data other e = refl

ack_no_data : (k : PacketKind) → is_ack k ≡ true → is_data k ≡ false
ack_no_data I2cAck e = refl
ack_no_data I2cData e = absurd cc
ack_no_data other e = refl

-- how one more packet changes what a phase means
abbrev pub Goes : Event → Packet → Meaning → Meaning → Type 0
Goes Begins p old now = ⊥
Goes WriteByte p old now =
    (bytes : List Packet) × (old ≡ Writes bytes) × (now ≡ Writes (bytes ++ p ∷ []))
Goes ReadByte p old now =
    (bytes : List Packet) × (old ≡ Reads bytes) × (now ≡ Reads (bytes ++ p ∷ []))
Goes Resets p old now = (old ≡ Nothing) × (now ≡ Reset)
Goes Passes p old now = (now ≡ old) ⊎ ((old ≡ Nothing) × ((now ≡ Writes []) ⊎ (now ≡ Reads [])))

module _ (device : ℕ) (resets : Bool) where
  -- what the rest of a phase means, by how far it has come
  abbrev run : Role → List Packet → Meaning
  run Writing ps = Writes (data_in ps)
  run Reading ps = Reads (data_in ps)
  run WasReset ps = Reset
  run Fresh [] = Nothing
  run Fresh (p ∷ ps) = run (inside device resets Fresh p) ps
  run Late [] = Nothing
  run Late (p ∷ ps) = run (inside device resets Late p) ps
  run AskedWrite [] = Nothing
  run AskedWrite (p ∷ ps) = run (inside device resets AskedWrite p) ps
  run AskedRead [] = Nothing
  run AskedRead (p ∷ ps) = run (inside device resets AskedRead p) ps
  run AskedCall [] = Nothing
  run AskedCall (p ∷ ps) = run (inside device resets AskedCall p) ps
  run Called [] = Nothing
  run Called (p ∷ ps) = run (inside device resets Called p) ps
  run Other [] = Nothing
  run Other (p ∷ ps) = run Other ps

  run_other : (ps : List Packet) → run Other ps ≡ Nothing
  run_other [] = refl
  run_other (p ∷ ps) = run_other ps

  run_called : (ps : List Packet) → run Called ps ≡ (if is_six (data_in ps) then Reset else Nothing)
  run_called [] = refl
  run_called (x ∷ ps) = by (is_data x.kind) (byte_of x == 6) refl (run_called ps)
    where
      by : (d u : Bool) → (byte_of x == 6) ≡ u
          → run Called ps ≡ (if is_six (data_in ps) then Reset else Nothing)
          → run (if d then (if u then WasReset else Other) else Called) ps
          ≡ (if is_six (cond d (x ∷ data_in ps) (data_in ps)) then Reset else Nothing)
      by true true e rest = sym (ap (λ (b : Bool). if b then Reset else Nothing) e)
      by true false e rest = run_other ps ∙ sym (ap (λ (b : Bool). if b then Reset else Nothing) e)
      by false u e rest = rest

  first_shorter : (test : PacketKind → Bool) (xs : List Packet) (b : Behind)
      → first_of test xs ≡ Some b → length (data_in b.others) ≤ length (data_in xs)
  first_shorter test [] b is = absurd cc
  first_shorter test (x ∷ xs) b is =
      by (test x.kind) (is_data x.kind) is (λ e. first_shorter test xs b e)
    where
      by : (t d : Bool)
          → (if t then Some (record { packet = x; others = xs }) else first_of test xs) ≡ Some b
          → (first_of test xs ≡ Some b → length (data_in b.others) ≤ length (data_in xs))
          → length (data_in b.others) ≤ length (cond d (x ∷ data_in xs) (data_in xs))
      by true true e rest = let same : (record { packet = x; others = xs }) ≡ b = cc in
          subst (λ (c : Behind). length (data_in c.others) ≤ length (x ∷ data_in xs)) same
          (omega arith)
      by true false e rest = let same : (record { packet = x; others = xs }) ≡ b = cc in
          subst (λ (c : Behind). length (data_in c.others) ≤ length (data_in xs)) same (omega arith)
      by false true e rest = let low = rest e in omega (arith, low)
      by false false e rest = rest e

  module _ (phase : List Packet) where
    abbrev shown : Bool → Bool → Bool → List Packet → Meaning
    shown t u r bytes =
        if t then Writes bytes else (if u then Reads bytes else (if r then Reset else Nothing))

    module _ (address : Packet) where
      abbrev to_write : Bool
      to_write = address.a == device && address.b == 0

      abbrev to_read : Bool
      to_read = address.a == device && address.b == 1

      abbrev to_all : Bool
      to_all = address.a == 0 && address.b == 0

      abbrev meant : Option Behind → Meaning
      meant o = meaning_by device resets phase (when_acked address o)

      asked_write : (ps : List Packet) → to_write ≡ true
          → run AskedWrite ps ≡ meant (first_of is_ack ps)
      asked_write [] t = refl
      asked_write (x ∷ ps) t = by (is_ack x.kind) (asked_write ps t)
        where
          hit : (z : Bool) → run (if z then Writing else Other) ps
              ≡ meaning_by device resets phase
              (if z then Some (record { packet = address; others = ps }) else None)
          hit true =
              sym (ap (λ (b : Bool). shown b to_read
              (resets && is_reset phase (record { packet = address; others = ps })) (data_in ps)) t)
          hit false = run_other ps

          by : (k : Bool) → run AskedWrite ps ≡ meant (first_of is_ack ps)
              → run (if k then (if x.a == 0 then Writing else Other) else AskedWrite) ps
              ≡ meant (if k then Some (record { packet = x; others = ps }) else first_of is_ack ps)
          by true rest = hit (x.a == 0)
          by false rest = rest

      asked_read : (ps : List Packet) → to_write ≡ false → to_read ≡ true
          → run AskedRead ps ≡ meant (first_of is_ack ps)
      asked_read [] t u = refl
      asked_read (x ∷ ps) t u = by (is_ack x.kind) (asked_read ps t u)
        where
          hit : (z : Bool) → run (if z then Reading else Other) ps
              ≡ meaning_by device resets phase
              (if z then Some (record { packet = address; others = ps }) else None)
          hit true =
              sym (λ i. shown (t i) (u i)
              (resets && is_reset phase (record { packet = address; others = ps })) (data_in ps))
          hit false = run_other ps

          by : (k : Bool) → run AskedRead ps ≡ meant (first_of is_ack ps)
              → run (if k then (if x.a == 0 then Reading else Other) else AskedRead) ps
              ≡ meant (if k then Some (record { packet = x; others = ps }) else first_of is_ack ps)
          by true rest = hit (x.a == 0)
          by false rest = rest

      -- where no packet behind the acknowledge bit makes a reset, there is none
      no_meaning : (o : Option Behind) → to_write ≡ false → to_read ≡ false
          → ((k : Behind) → o ≡ Some k
          → (resets && is_reset phase (record { packet = address; others = k.others })) ≡ false)
          → meant o ≡ Nothing
      no_meaning None t u none = refl
      no_meaning (Some k) t u none = by (k.packet.a == 0)
        where
          by : (z : Bool) → meaning_by device resets phase
              (if z then Some (record { packet = address; others = k.others }) else None) ≡ Nothing
          by true = λ i. shown (t i) (u i) (none k refl i) (data_in k.others)
          by false = refl

      shorter_no : (c : Bool) (others : List Packet)
          → length (data_in others) + 1 ≤ length (data_in phase)
          → (resets && (c && (length (data_in phase) == length (data_in others) && is_six
          (data_in others)))) ≡ false
      shorter_no c others low = by resets c
        where
          differ : (length (data_in phase) == length (data_in others)) ≡ false
          differ = grind (arith, nat_tests)

          by : (r d : Bool)
              → (r && (d && (length (data_in phase) == length (data_in others) && is_six
              (data_in others)))) ≡ false
          by true true = ap (λ (b : Bool). b && is_six (data_in others)) differ
          by true false = refl
          by false d = refl

      late_none : (ps : List Packet) → to_write ≡ false → to_read ≡ false
          → length (data_in ps) + 1 ≤ length (data_in phase) → meant (first_of is_ack ps) ≡ Nothing
      late_none ps t u low =
          no_meaning (first_of is_ack ps) t u
          (λ k is. let less = first_shorter is_ack ps k is in
          shorter_no to_all k.others (omega (arith, less, low)))

      asked_call : (ps : List Packet) → to_write ≡ false → to_read ≡ false → resets ≡ true
          → to_all ≡ true → data_in phase ≡ data_in ps
          → run AskedCall ps ≡ meant (first_of is_ack ps)
      asked_call [] t u r c same = refl
      asked_call (x ∷ ps) t u r c same =
          by (is_ack x.kind) (is_data x.kind) refl refl
          (λ d_is. asked_call ps t u r c
          (same ∙ ap (λ (b : Bool). cond b (x ∷ data_in ps) (data_in ps)) d_is))
        where
          equal : data_in phase ≡ data_in ps
              → (length (data_in phase) == length (data_in ps)) ≡ true
          equal is = let e : length (data_in phase) ≡ length (data_in ps) = ap length is in
              grind (arith, nat_tests)

          hit : (z : Bool) → data_in phase ≡ data_in ps
              → run (if z then Called else Other) ps ≡ meaning_by device resets phase
              (if z then Some (record { packet = address; others = ps }) else None)
          hit true now =
              run_called ps ∙ sym
              (λ i. shown (t i) (u i) (r i && (c i && (equal now i && is_six (data_in ps))))
              (data_in ps))
          hit false now = run_other ps

          by : (k d : Bool) → is_ack x.kind ≡ k → is_data x.kind ≡ d
              → (is_data x.kind ≡ false → run AskedCall ps ≡ meant (first_of is_ack ps))
              → run (if k then (if x.a == 0 then Called else Other)
              else (if d then Other else AskedCall)) ps
              ≡ meant (if k then Some (record { packet = x; others = ps }) else first_of is_ack ps)
          by true d k_is d_is rest =
              hit (x.a == 0)
              (same ∙ ap (λ (b : Bool). cond b (x ∷ data_in ps) (data_in ps))
              (ack_no_data x.kind k_is))
          by false true k_is d_is rest =
              let now : data_in phase ≡ x ∷ data_in ps =
              same ∙ ap (λ (b : Bool). cond b (x ∷ data_in ps) (data_in ps)) d_is in
              let count : length (data_in phase) ≡ length (x ∷ data_in ps) = ap length now in
              run_other ps ∙ sym (late_none ps t u (omega (arith, count)))
          by false false k_is d_is rest = rest d_is

      -- what an address asks for is what the phase means
      asked_means : (first : Bool) (ps : List Packet) → (first ≡ true → data_in phase ≡ data_in ps)
          → (first ≡ false → length (data_in ps) + 1 ≤ length (data_in phase))
          → run (asked device resets first address) ps ≡ meant (first_of is_ack ps)
      asked_means first ps same low =
          by to_write to_read first resets to_all refl refl refl refl refl
        where
          by : (t u f r c : Bool) → to_write ≡ t → to_read ≡ u → first ≡ f → resets ≡ r → to_all ≡ c
              → run (if t then AskedWrite
              else (if u then AskedRead else (if r && (f && c) then AskedCall else Other))) ps
              ≡ meant (first_of is_ack ps)
          by true u f r c t_is u_is f_is r_is c_is = asked_write ps t_is
          by false true f r c t_is u_is f_is r_is c_is = asked_read ps t_is u_is
          by false false true true true t_is u_is f_is r_is c_is =
              asked_call ps t_is u_is r_is c_is (same f_is)
          by false false true true false t_is u_is f_is r_is c_is =
              run_other ps ∙ sym
              (no_meaning (first_of is_ack ps) t_is u_is
              (λ k is. λ i. r_is
              i && (c_is
              i && (length (data_in phase) == length (data_in k.others) && is_six
              (data_in k.others)))))
          by false false true false c t_is u_is f_is r_is c_is =
              run_other ps ∙ sym
              (no_meaning (first_of is_ack ps) t_is u_is
              (λ k is. λ i. r_is i && is_reset phase
              (record { packet = address; others = k.others })))
          by false false false true c t_is u_is f_is r_is c_is =
              run_other ps ∙ sym (late_none ps t_is u_is (low f_is))
          by false false false false c t_is u_is f_is r_is c_is =
              run_other ps ∙ sym (late_none ps t_is u_is (low f_is))

    late_means : (ps : List Packet) → length (data_in ps) + 1 ≤ length (data_in phase)
        → run Late ps ≡ meaning_by device resets phase (with_ack (first_of is_address ps))
    late_means [] low = refl
    late_means (x ∷ ps) low = by (is_address x.kind) (less (is_data x.kind) low) (late_means ps)
      where
        less : (d : Bool) → length (cond d (x ∷ data_in ps) (data_in ps)) + 1 ≤ length
            (data_in phase) → length (data_in ps) + 1 ≤ length (data_in phase)
        less true high = omega (arith, high)
        less false high = high

        by : (t : Bool) → length (data_in ps) + 1 ≤ length (data_in phase)
            → (length (data_in ps) + 1 ≤ length (data_in phase)
            → run Late ps ≡ meaning_by device resets phase (with_ack (first_of is_address ps)))
            → run (if t then asked device resets false x else Late) ps
            ≡ meaning_by device resets phase
            (with_ack
            (if t then Some (record { packet = x; others = ps }) else first_of is_address ps))
        by true below rest = asked_means x false ps (λ e. absurd cc) (λ e. below)
        by false below rest = rest below

    fresh_means : (ps : List Packet) → data_in phase ≡ data_in ps
        → run Fresh ps ≡ meaning_by device resets phase (with_ack (first_of is_address ps))
    fresh_means [] same = refl
    fresh_means (x ∷ ps) same = by (is_address x.kind) (is_data x.kind) refl refl (fresh_means ps)
      where
        by : (t d : Bool) → is_address x.kind ≡ t → is_data x.kind ≡ d
            → (data_in phase ≡ data_in ps
            → run Fresh ps ≡ meaning_by device resets phase (with_ack (first_of is_address ps)))
            → run (if t then asked device resets true x else (if d then Late else Fresh)) ps
            ≡ meaning_by device resets phase
            (with_ack
            (if t then Some (record { packet = x; others = ps }) else first_of is_address ps))
        by true d t_is d_is rest =
            asked_means x true ps
            (λ e. same ∙ ap (λ (b : Bool). cond b (x ∷ data_in ps) (data_in ps))
            (address_no_data x.kind t_is)) (λ e. absurd cc)
        by false true t_is d_is rest =
            let now : data_in phase ≡ x ∷ data_in ps =
            same ∙ ap (λ (b : Bool). cond b (x ∷ data_in ps) (data_in ps)) d_is in
            let count : length (data_in phase) ≡ length (x ∷ data_in ps) = ap length now in
            late_means ps (omega (arith, count))
        by false false t_is d_is rest =
            rest (same ∙ ap (λ (b : Bool). cond b (x ∷ data_in ps) (data_in ps)) d_is)

  means : (phase : List Packet) → meaning device resets phase ≡ run Fresh phase
  means phase = sym (fresh_means phase phase refl)

  -- how one more packet changes what a phase means
  stay_writing : (ps : List Packet) → ends device resets Writing ps ≡ Writing
  stay_writing [] = refl
  stay_writing (p ∷ ps) = stay_writing ps

  stay_reading : (ps : List Packet) → ends device resets Reading ps ≡ Reading
  stay_reading [] = refl
  stay_reading (p ∷ ps) = stay_reading ps

  stay_reset : (ps : List Packet) → ends device resets WasReset ps ≡ WasReset
  stay_reset [] = refl
  stay_reset (p ∷ ps) = stay_reset ps

  asked_empty : (first : Bool) (p : Packet) → run (asked device resets first p) [] ≡ Nothing
  asked_empty first p =
      by (p.a == device && p.b == 0) (p.a == device && p.b == 1)
      (resets && (first && (p.a == 0 && p.b == 0)))
    where
      by : (t u r : Bool) → run
          (if t then AskedWrite else (if u then AskedRead else (if r then AskedCall else Other))) []
          ≡ Nothing
      by true u r = refl
      by false true r = refl
      by false false true = refl
      by false false false = refl

  grows : (kind : List Packet → Meaning) (ps : List Packet) (p : Packet) (e : Event)
      → ((bytes : List Packet) → Goes e p (kind bytes) (kind (bytes ++ p ∷ [])))
      → Goes (if is_data p.kind then e else Passes) p (kind (data_in ps))
      (kind (data_in (ps ++ p ∷ [])))
  grows kind ps p e one =
      subst (λ (l : List Packet). Goes (if is_data p.kind then e else Passes) p (kind (data_in ps))
      (kind l)) (sym (filter-append (λ packet. is_data packet.kind) ps (p ∷ [])))
      (by (is_data p.kind))
    where
      by : (t : Bool) → Goes (if t then e else Passes) p (kind (data_in ps))
          (kind (data_in ps ++ (if t then p ∷ [] else [])))
      by true = one (data_in ps)
      by false = inl (ap kind (append-nil (data_in ps)))

  run_more : (role : Role) (ps : List Packet) (p : Packet)
      → Goes (told (ends device resets role ps) p) p (run role ps) (run role (ps ++ p ∷ []))
  run_more Writing ps p =
      subst (λ (r : Role). Goes (told r p) p (Writes (data_in ps))
      (Writes (data_in (ps ++ p ∷ [])))) (sym (stay_writing ps))
      (grows Writes ps p WriteByte (λ bytes. (bytes, refl, refl)))
  run_more Reading ps p =
      subst (λ (r : Role). Goes (told r p) p (Reads (data_in ps)) (Reads (data_in (ps ++ p ∷ []))))
      (sym (stay_reading ps)) (grows Reads ps p ReadByte (λ bytes. (bytes, refl, refl)))
  run_more WasReset ps p =
      subst (λ (r : Role). Goes (told r p) p Reset Reset) (sym (stay_reset ps)) (inl refl)
  run_more Fresh [] p = by (is_address p.kind) (is_data p.kind)
    where
      by : (t d : Bool) → Goes Passes p Nothing
          (run (if t then asked device resets true p else (if d then Late else Fresh)) [])
      by true d = inl (asked_empty true p)
      by false true = inl refl
      by false false = inl refl
  run_more Late [] p = by (is_address p.kind)
    where
      by : (t : Bool)
          → Goes Passes p Nothing (run (if t then asked device resets false p else Late) [])
      by true = inl (asked_empty false p)
      by false = inl refl
  run_more AskedWrite [] p = by (is_ack p.kind) (p.a == 0)
    where
      by : (t z : Bool) → Goes Passes p Nothing
          (run (if t then (if z then Writing else Other) else AskedWrite) [])
      by true true = inr (refl, inl refl)
      by true false = inl refl
      by false z = inl refl
  run_more AskedRead [] p = by (is_ack p.kind) (p.a == 0)
    where
      by : (t z : Bool) → Goes Passes p Nothing
          (run (if t then (if z then Reading else Other) else AskedRead) [])
      by true true = inr (refl, inr refl)
      by true false = inl refl
      by false z = inl refl
  run_more AskedCall [] p = by (is_ack p.kind) (p.a == 0) (is_data p.kind)
    where
      by : (t z d : Bool) → Goes Passes p Nothing
          (run (if t then (if z then Called else Other) else (if d then Other else AskedCall)) [])
      by true true d = inl refl
      by true false d = inl refl
      by false z true = inl refl
      by false z false = inl refl
  run_more Called [] p = by (is_data p.kind) (byte_of p == 6)
    where
      by : (d u : Bool) → Goes (if d then (if u then Resets else Passes) else Passes) p Nothing
          (run (if d then (if u then WasReset else Other) else Called) [])
      by true true = (refl, refl)
      by true false = inl refl
      by false u = inl refl
  run_more Other [] p = inl refl
  run_more Fresh (x ∷ ps) p = run_more (inside device resets Fresh x) ps p
  run_more Late (x ∷ ps) p = run_more (inside device resets Late x) ps p
  run_more AskedWrite (x ∷ ps) p = run_more (inside device resets AskedWrite x) ps p
  run_more AskedRead (x ∷ ps) p = run_more (inside device resets AskedRead x) ps p
  run_more AskedCall (x ∷ ps) p = run_more (inside device resets AskedCall x) ps p
  run_more Called (x ∷ ps) p = run_more (inside device resets Called x) ps p
  run_more Other (x ∷ ps) p = run_more Other ps p

  ends_more : (role : Role) (ps : List Packet) (p : Packet)
      → ends device resets role (ps ++ p ∷ []) ≡ inside device resets (ends device resets role ps) p
  ends_more role [] p = refl
  ends_more role (x ∷ ps) p = ends_more (inside device resets role x) ps p

  -- what is kept and what all phases mean, behind one more packet
  abbrev StepOn : Track → Track → List Meaning → List Meaning → Packet → Type 0
  StepOn old now ms longer p =
      (now ≡ track_next device resets old p) × Comes (event old.role p) p ms longer

  abbrev of_parts : List (List Packet) → List Meaning
  of_parts ps = map (meaning device resets) (flat_map phase_in ps)

  of_last : (qs : List (List Packet)) (q : List Packet)
      → of_parts (qs ++ q ∷ []) ≡ of_parts qs ++ map (meaning device resets) (phase_in q)
  of_last qs q =
      ap (map (meaning device resets))
      (flat_map-append phase_in qs (q ∷ []) ∙ ap (λ l. flat_map phase_in qs ++ l)
      (append-nil (phase_in q)))
      ∙ map-append (meaning device resets) (flat_map phase_in qs) (phase_in q)

  last_is : (qs : List (List Packet)) (q : List Packet) → last_part (qs ++ q ∷ []) ≡ q
  last_is [] q = refl
  last_is (x ∷ []) q = refl
  last_is (x ∷ y ∷ qs) q = last_is (y ∷ qs) q

  goes_comes : (e : Event) (p : Packet) (before : List Meaning) (old now : Meaning)
      → Goes e p old now → Comes e p (before ++ old ∷ []) (before ++ now ∷ [])
  goes_comes Begins p before old now goes = absurd goes
  goes_comes WriteByte p before old now goes = (
    before,
    goes.0,
    ap (λ (m : Meaning). before ++ m ∷ []) goes.1,
    ap
        (λ (m : Meaning). before ++ m ∷ []) goes.2,
  )
  goes_comes ReadByte p before old now goes = (
    before,
    goes.0,
    ap (λ (m : Meaning). before ++ m ∷ []) goes.1,
    ap
        (λ (m : Meaning). before ++ m ∷ []) goes.2,
  )
  goes_comes Resets p before old now goes = (
    before,
    ap (λ (m : Meaning). before ++ m ∷ []) goes.0,
    ap
        (λ (m : Meaning). before ++ m ∷ []) goes.1,
  )
  goes_comes Passes p before old now (inl same) = inl (ap (λ (m : Meaning). before ++ m ∷ []) same)
  goes_comes Passes p before old now (inr opens) = inr (
    before,
    ap (λ (m : Meaning). before ++ m ∷ []) opens.0,
    elim opens.1 [
      | inl writes ↦ inl (ap (λ (m : Meaning). before ++ m ∷ []) writes)
      | inr reads ↦ inr (ap (λ (m : Meaning). before ++ m ∷ []) reads)
    ],
  )

  module _ (p : Packet) where
    module _ (no_start : is_start p.kind ≡ false) (no_stop : is_stop p.kind ≡ false) where
      event_told : (role : Role) → event role p ≡ told role p
      event_told role =
          λ i. if no_start i then Begins else (if no_stop i then Passes else told role p)

      next_inside : (kept : Track) → track_next device resets kept p
          ≡ record {
            begun = kept.begun;
            start = kept.start;
            role = inside device resets kept.role p;
          }
      next_inside kept =
          λ i. if no_start i then (record { begun = true; start = p.start; role = Fresh })
          else (if no_stop i then no_phase
          else (record {
            begun = kept.begun;
            start = kept.start;
            role = inside device resets kept.role p;
          }))

      quiet : (qs : List (List Packet)) (now : Track) (longer : List Meaning) → now ≡ no_phase
          → longer ≡ of_parts qs → StepOn no_phase now (of_parts qs) longer p
      quiet qs now longer same kept = (
        same ∙ sym (next_inside no_phase),
        subst (λ (e : Event). Comes e p (of_parts qs) longer)
            (sym (event_told Other)) (inl kept),
      )

      on_last : (qs : List (List Packet)) (q : List Packet)
          → StepOn (track_of device resets q) (track_of device resets (q ++ p ∷ []))
          (of_parts qs ++ map (meaning device resets) (phase_in q))
          (of_parts qs ++ map (meaning device resets) (phase_in (q ++ p ∷ []))) p
      on_last qs [] =
          subst (λ (l : List Meaning). StepOn no_phase (track_of device resets (p ∷ [])) l
          (of_parts qs ++ map (meaning device resets) (phase_in (p ∷ []))) p)
          (sym (append-nil (of_parts qs)))
          (quiet qs (track_of device resets (p ∷ []))
          (of_parts qs ++ map (meaning device resets) (phase_in (p ∷ [])))
          (ap (λ (b : Bool). if b then (record { begun = true; start = p.start; role = Fresh })
          else no_phase) no_start)
          (ap (λ (b : Bool). of_parts qs ++ map (meaning device resets) (if b then [] ∷ [] else []))
          no_start ∙ append-nil (of_parts qs)))
      on_last qs (x ∷ q) = by (is_start x.kind)
        where
          by : (t : Bool) → StepOn
              (if t then (record {
                begun = true;
                start = x.start;
                role = ends device resets Fresh q;
              }) else no_phase)
              (if t then (record {
                begun = true;
                start = x.start;
                role = ends device resets Fresh (q ++ p ∷ []);
              }) else no_phase)
              (of_parts qs ++ map (meaning device resets) (if t then q ∷ [] else []))
              (of_parts qs ++ map (meaning device resets) (if t then (q ++ p ∷ []) ∷ [] else [])) p
          by true =
              let role = ends device resets Fresh q in
              let goes : Goes (told role p) p (meaning device resets q)
              (meaning device resets (q ++ p ∷ [])) = transport
              (λ i. Goes (told role p) p (sym (means q) i) (sym (means (q ++ p ∷ [])) i))
              (run_more Fresh q p) in (
                ap (λ (r : Role). record { begun = true; start = x.start; role = r })
                    (ends_more Fresh q p)
                    ∙ sym (next_inside (record { begun = true; start = x.start; role = role })),
                subst (λ (e : Event). Comes e p (of_parts qs ++ meaning device resets q ∷ [])
                    (of_parts qs ++ meaning device resets (q ++ p ∷ []) ∷ []))
                    (sym (event_told role))
                    (goes_comes (told role p) p (of_parts qs) (meaning device resets q)
                    (meaning device resets (q ++ p ∷ [])) goes),
              )
          by false =
              subst (λ (l : List Meaning). StepOn no_phase no_phase l l p)
              (sym (append-nil (of_parts qs))) (quiet qs no_phase (of_parts qs) refl refl)

      joins : (ps : List (List Packet)) → (ps ≡ [])
          ⊎ ((front : List (List Packet)) × (last : List Packet) × (ps ≡ front ++ last ∷ []))
          → StepOn (track_of device resets (last_part ps))
          (track_of device resets (last_part (grow_last ps p))) (of_parts ps)
          (of_parts (grow_last ps p)) p
      joins ps (inl none) =
          subst (λ (l : List (List Packet)). StepOn (track_of device resets (last_part l))
          (track_of device resets (last_part (grow_last l p))) (of_parts l)
          (of_parts (grow_last l p)) p) (sym none) (quiet [] no_phase [] refl refl)
      joins ps (inr some) =
          let qs = some.0 in
          let q = some.1 in
          let now : grow_last ps p ≡ qs ++ (q ++ p ∷ []) ∷ [] =
          ap (λ (l : List (List Packet)). grow_last l p) some.2 ∙ grow_last_at qs q p in
          let old_last : last_part ps ≡ q = ap last_part some.2 ∙ last_is qs q in
          let new_last : last_part (grow_last ps p) ≡ q ++ p ∷ [] =
          ap last_part now ∙ last_is qs (q ++ p ∷ []) in
          let old_means : of_parts ps ≡ of_parts qs ++ map (meaning device resets) (phase_in q) =
          ap of_parts some.2 ∙ of_last qs q in
          let new_means : of_parts (grow_last ps p)
          ≡ of_parts qs ++ map (meaning device resets) (phase_in (q ++ p ∷ [])) =
          ap of_parts now ∙ of_last qs (q ++ p ∷ []) in
          transport
          (λ i. StepOn (track_of device resets (sym old_last i))
          (track_of device resets (sym new_last i)) (sym old_means i) (sym new_means i) p)
          (on_last qs q)

    begins : (ps : List (List Packet)) → is_mark p ≡ true
        → StepOn (track_of device resets (last_part ps))
        (track_of device resets (last_part (ps ++ (p ∷ []) ∷ []))) (of_parts ps)
        (of_parts (ps ++ (p ∷ []) ∷ [])) p
    begins ps mark =
        transport
        (λ i. StepOn (track_of device resets (last_part ps))
        (track_of device resets (sym (last_is ps (p ∷ [])) i)) (of_parts ps)
        (sym (of_last ps (p ∷ [])) i) p) (by (is_start p.kind) (is_stop p.kind) mark)
      where
        by : (t u : Bool) → (t || u) ≡ true
            → ((if t then (record { begun = true; start = p.start; role = Fresh }) else no_phase)
            ≡ (if t then (record { begun = true; start = p.start; role = Fresh })
            else (if u then no_phase
            else (record {
              begun = (track_of device resets (last_part ps)).begun;
              start = (track_of device resets (last_part ps)).start;
              role =
                  inside device resets (track_of device resets (last_part ps)).role p;
            }))))
            × Comes (if t then Begins
            else (if u then Passes else told (track_of device resets (last_part ps)).role p)) p
            (of_parts ps) (of_parts ps ++ map (meaning device resets) (if t then [] ∷ [] else []))
        by true u is = (refl, refl)
        by false true is = (refl, inl (append-nil (of_parts ps)))
        by false false is = absurd cc

    either : (t u : Bool) → (t || u) ≡ false → (t ≡ false) × (u ≡ false)
    either false false e = (refl, refl)
    either true u e = absurd cc
    either false true e = absurd cc

    -- one more packet
    pub track_more : (xs : List Packet) → StepOn (track device resets xs)
        (track device resets (xs ++ p ∷ [])) (meanings device resets xs)
        (meanings device resets (xs ++ p ∷ [])) p
    unfolding track
    track_more xs = by (is_mark p) refl
      where
        by : (t : Bool) → is_mark p ≡ t → StepOn
            (track_of device resets (last_part (parts is_mark xs)))
            (track_of device resets (last_part (parts is_mark (xs ++ p ∷ []))))
            (of_parts (parts is_mark xs)) (of_parts (parts is_mark (xs ++ p ∷ []))) p
        by true is =
            subst (λ (l : List (List Packet)). StepOn
            (track_of device resets (last_part (parts is_mark xs)))
            (track_of device resets (last_part l)) (of_parts (parts is_mark xs)) (of_parts l) p)
            (sym (parts_mark is_mark xs p is)) (begins (parts is_mark xs) is)
        by false is =
            let none = either (is_start p.kind) (is_stop p.kind) is in
            subst (λ (l : List (List Packet)). StepOn
            (track_of device resets (last_part (parts is_mark xs)))
            (track_of device resets (last_part l)) (of_parts (parts is_mark xs)) (of_parts l) p)
            (sym (parts_join is_mark xs p is))
            (joins none.0 none.1 (parts is_mark xs) (back (parts is_mark xs)))
