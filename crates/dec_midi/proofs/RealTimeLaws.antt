-- Bytes of real time change no other note.
use Rattle.std.proofs.Common.{◌≡◌, ℕ, ◌-◌, ◌/◌, ◌%◌, Bool, true, false, if◌then◌else◌, ◌==◌, ◌||◌}
use Rattle.std.proofs.Common.{◌&&◌, ◌⊎◌, List, [], ◌∷◌, ◌++◌, Some, None, refl, sym, ◌∙◌, ap, subst}
use Rattle.std.proofs.Common.{inl, inr, true≢false, arith, append_assoc}
use Rattle.std.specs.Prelude.{nat_lt, not}
use Rattle.std.proofs.lemmas.Bool.Decides.{nat_tests}
use Rattle.std.proofs.lemmas.List.{append-nil}
use Rattle.std.proofs.lemmas.List.Elements.{filter-append}
use Rattle.la_base.specs.declared.wires.Out.{Out}
use Rattle.la_base.specs.declared.wires.Packet.{Packet}
use Rattle.decoder_core.specs.Outputs.{span_note}
use Rattle.dec_midi.specs.declared.held.Held.{Held}
use Rattle.dec_midi.specs.declared.held.Held.TheVariants.{Stray, Running, Begun, Exclusive}
use Rattle.dec_midi.specs.declared.held.Sort.{Sort}
use Rattle.dec_midi.specs.declared.held.Sort.TheVariants.{Data, Status, RealTime}
use Rattle.dec_midi.specs.declared.held.Takes.{Takes}
use Rattle.dec_midi.specs.declared.held.Takes.TheVariants.{Nothing, One, Two, Ones, Twos, Any}
use Rattle.dec_midi.specs.Midi.{is_byte, as_byte, sort_of, takes, class_of, message, byte_note}
use Rattle.dec_midi.specs.Midi.{own_outs, midi_outs}
use Rattle.dec_midi.specs.RealTime.{is_real_time, is_real_time_sort, without_real_time, is_other}
use Rattle.dec_midi.specs.RealTime.{other_outs, RealTimeStandsAlone}
use Rattle.dec_midi.specs.laws.Steps.{by_two, runs, behind, first_gives, first_next}
use Rattle.dec_midi.specs.laws.Steps.{data_gives, data_next, status_gives, opened}
use Rattle.dec_midi.specs.laws.Steps.{sort_gives, sort_next, gives, next, held_of}
use Rattle.dec_midi.specs.laws.Pushed.{midi_pushed}

-- the messages of a status aren't of class 11
abbrev IsApart : ℕ → Type 0
IsApart status = (class_of status == 11) ≡ false

-- that of no status which takes data is of class 11
apart : (status : ℕ) → IsApart status ⊎ (takes status ≡ Nothing)
apart status = by (status == 245) refl
  where
    low : nat_lt status 240 ≡ true → IsApart status
    low is = rw is (grind (arith, nat_tests))

    high : nat_lt status 240 ≡ false → (status == 245) ≡ false → IsApart status
    high is other = rw is (grind (arith, nat_tests))

    below : (t : Bool) → nat_lt status 240 ≡ t → (status == 245) ≡ false → IsApart status
    below true is other = low is
    below false is other = high is other

    by : (t : Bool) → (status == 245) ≡ t → IsApart status ⊎ (takes status ≡ Nothing)
    by true is = let same : 245 ≡ status = grind (arith, nat_tests) in
        inr (subst (λ (n : ℕ). takes n ≡ Nothing) same refl)
    by false is = inl (below (nat_lt status 240) refl is)

-- what is kept is of such a status
abbrev Speaks : Held → Type 0
Speaks Stray = Unit {0}
Speaks (Running status) = IsApart status
Speaks (Begun status start first) = IsApart status
Speaks (Exclusive start end count) = Unit {0}

-- outputs without a note of real time
abbrev Others : List Out → Type 0
Others outs = other_outs outs ≡ outs

others_message : (status first last one two : ℕ) → IsApart status
    → Others (message status first last one two)
others_message status first last one two is = rw is refl

module _ (p : Packet) where
  others_own : Others (own_outs p)
  others_own = by (p.a == 246) (p.a == 244 || (p.a == 245 || p.a == 247))
    where
      by : (tune other : Bool)
          → Others (if tune then byte_note 10 p else if other then byte_note 15 p else [])
      by true other = refl
      by false true = refl
      by false false = refl

  others_first : (two : Bool) (status start : ℕ) → IsApart status
      → Others (first_gives two status start p)
  others_first true status start is = refl
  others_first false status start is = others_message status start p.end p.a 0 is

  others_data : (h : Held) → Speaks h → Others (data_gives h p)
  others_data Stray is = refl
  others_data (Running status) is = others_first (by_two (takes status)) status p.start is
  others_data (Begun status start None) is = others_first (by_two (takes status)) status start is
  others_data (Begun status start (Some one)) is = others_message status start p.end one p.a is
  others_data (Exclusive start end count) is = refl

  others_status : (h : Held) → Others (status_gives h p)
  others_status Stray = others_own
  others_status (Running status) = others_own
  others_status (Begun status start first) = others_own
  others_status (Exclusive start end count) = by (p.a == 247)
    where
      by : (t : Bool)
          → Others (if t then span_note 12 start p.end count 0 ∷ []
          else span_note 13 start end count 0 ∷ own_outs p)
      by true = refl
      by false = ap (λ (l : List Out). span_note 13 start end count 0 ∷ l) others_own

  -- what is kept behind a byte
  speaks_behind : (status : ℕ) → IsApart status → Speaks (behind status)
  speaks_behind status is = by (runs (takes status))
    where
      by : (t : Bool) → Speaks (if t then Running status else Stray)
      by true = is
      by false = tt

  speaks_first : (two : Bool) (status start : ℕ) → IsApart status
      → Speaks (first_next two status start p)
  speaks_first true status start is = is
  speaks_first false status start is = speaks_behind status is

  speaks_data : (h : Held) → Speaks h → Speaks (data_next h p)
  speaks_data Stray is = tt
  speaks_data (Running status) is = speaks_first (by_two (takes status)) status p.start is
  speaks_data (Begun status start None) is = speaks_first (by_two (takes status)) status start is
  speaks_data (Begun status start (Some one)) is = speaks_behind status is
  speaks_data (Exclusive start end count) is = tt

  speaks_opened : (t : Takes) → IsApart p.a ⊎ (t ≡ Nothing) → Speaks (opened t p)
  speaks_opened Nothing is = tt
  speaks_opened Any is = tt
  speaks_opened One (inl is) = is
  speaks_opened One (inr none) = absurd (cc none)
  speaks_opened Two (inl is) = is
  speaks_opened Two (inr none) = absurd (cc none)
  speaks_opened Ones (inl is) = is
  speaks_opened Ones (inr none) = absurd (cc none)
  speaks_opened Twos (inl is) = is
  speaks_opened Twos (inr none) = absurd (cc none)

  speaks_sort : (s : Sort) (h : Held) → Speaks h → Speaks (sort_next s h p)
  speaks_sort Data h is = speaks_data h is
  speaks_sort Status h is = speaks_opened (takes p.a) (apart p.a)
  speaks_sort RealTime h is = is

-- what a packet gives, and what is kept behind it
module _ (h : Held) (p : Packet) where
  speaks_next : Speaks h → Speaks (next h p)
  speaks_next is = by (is_byte p)
    where
      by : (t : Bool) → Speaks (if t then sort_next (sort_of (p.a % 256)) h (as_byte p) else h)
      by true = speaks_sort (as_byte p) (sort_of (p.a % 256)) h is
      by false = is

  clock_gives : is_real_time p ≡ true → other_outs (gives h p) ≡ []
  clock_gives = by (is_byte p) (sort_of (p.a % 256))
    where
      by : (t : Bool) (s : Sort) → (t && is_real_time_sort s) ≡ true
          → other_outs (if t then sort_gives s h (as_byte p) else []) ≡ []
      by true RealTime is = refl
      by true Data is = absurd (true≢false (sym is))
      by true Status is = absurd (true≢false (sym is))
      by false s is = refl

  clock_next : is_real_time p ≡ true → next h p ≡ h
  clock_next = by (is_byte p) (sort_of (p.a % 256))
    where
      by : (t : Bool) (s : Sort) → (t && is_real_time_sort s) ≡ true
          → (if t then sort_next s h (as_byte p) else h) ≡ h
      by true RealTime is = refl
      by true Data is = absurd (true≢false (sym is))
      by true Status is = absurd (true≢false (sym is))
      by false s is = refl

  others_gives : Speaks h → is_real_time p ≡ false → Others (gives h p)
  others_gives speaks = by (is_byte p) (sort_of (p.a % 256))
    where
      by : (t : Bool) (s : Sort) → (t && is_real_time_sort s) ≡ false
          → Others (if t then sort_gives s h (as_byte p) else [])
      by true RealTime is = absurd (true≢false is)
      by true Data is = others_data (as_byte p) h speaks
      by true Status is = others_status (as_byte p) h
      by false s is = refl

-- packets, and the same without the bytes of real time
record Same (ps : List Packet) : Type 0 where
  pub held : held_of (without_real_time ps) ≡ held_of ps
  pub outs : other_outs (midi_outs ps) ≡ midi_outs (without_real_time ps)
  pub speaks : Speaks (held_of ps)

none_same : Same []
unfolding midi_outs held_of
none_same = record { held = refl; outs = refl; speaks = tt }

one_more : (ps : List Packet) (p : Packet) → Same ps → Same (ps ++ p ∷ [])
one_more ps p same = by (is_real_time p) refl
  where
    left : (t : Bool) → is_real_time p ≡ t
        → without_real_time (ps ++ p ∷ [])
        ≡ without_real_time ps ++ (if not t then p ∷ [] else [])
    left t is =
        filter-append (λ (q : Packet). not (is_real_time q)) ps (p ∷ [])
        ∙ ap (λ (b : Bool). without_real_time ps ++ (if not b then p ∷ [] else [])) is

    next_is : held_of (ps ++ p ∷ []) ≡ next (held_of ps) p
    next_is = midi_pushed.kept_push ps p

    outs_are : other_outs (midi_outs (ps ++ p ∷ []))
        ≡ midi_outs (without_real_time ps) ++ other_outs (gives (held_of ps) p)
    outs_are =
        ap other_outs (midi_pushed.outs_push ps p)
        ∙ filter-append is_other (midi_outs ps) (gives (held_of ps) p)
        ∙ ap (λ (l : List Out). l ++ other_outs (gives (held_of ps) p)) same.outs

    speaks : Speaks (held_of (ps ++ p ∷ []))
    speaks = subst Speaks (sym next_is) (speaks_next (held_of ps) p same.speaks)

    by : (t : Bool) → is_real_time p ≡ t → Same (ps ++ p ∷ [])
    by true is = record {
      held =
          ap held_of (left true is ∙ append-nil (without_real_time ps)) ∙ same.held
          ∙ sym (next_is ∙ clock_next (held_of ps) p is);
      outs =
          outs_are
          ∙ ap (λ (l : List Out). midi_outs (without_real_time ps) ++ l)
          (clock_gives (held_of ps) p is)
          ∙ append-nil (midi_outs (without_real_time ps))
          ∙ ap midi_outs (sym (left true is ∙ append-nil (without_real_time ps)));
      speaks = speaks;
    }
    by false is = record {
      held =
          ap held_of (left false is) ∙ midi_pushed.kept_push (without_real_time ps) p
          ∙ ap (λ (k : Held). next k p) same.held ∙ sym next_is;
      outs =
          outs_are
          ∙ ap (λ (l : List Out). midi_outs (without_real_time ps) ++ l)
          (others_gives (held_of ps) p same.speaks is
          ∙ ap (λ (k : Held). gives k p) (sym same.held))
          ∙ sym (midi_pushed.outs_push (without_real_time ps) p)
          ∙ ap midi_outs (sym (left false is));
      speaks = speaks;
    }

all_same : (rest ps : List Packet) → Same ps → Same (ps ++ rest)
all_same [] ps same = subst Same (sym (append-nil ps)) same
all_same (p ∷ rest) ps same =
    subst Same (append_assoc ps (p ∷ []) rest) (all_same rest (ps ++ p ∷ []) (one_more ps p same))

pub stands_alone : RealTimeStandsAlone
stands_alone packets = (all_same packets [] none_same).outs
