-- The walk over a bus is sound.
use Rattle.std.proofs.Common.{◌≡◌, ◌≢◌, ◌⊎◌, inl, inr, ℕ, zero, suc, ◌+◌, ◌<◌, ◌≤◌, Bool, true}
use Rattle.std.proofs.Common.{false, List, [], ◌∷◌, slice_get, Option, Some, None, refl, sym, ◌∙◌}
use Rattle.std.proofs.Common.{ap, subst, arith, if◌then◌else◌, ◌==◌}
use Rattle.std.specs.Prelude.{nat_lt}
use Rattle.std.proofs.Math.Nat.{le_refl}
use Rattle.std.proofs.lemmas.Bool.{true≢false}
use Rattle.std.proofs.lemmas.Option.{slice_get_within}
use Rattle.wait_cond.specs.declared.alt.Alt.{Alt}
use Rattle.wait_cond.specs.Meets.{MeetsAt}
use Rattle.wait_cond.specs.Stops.{MetSet}
use Rattle.decoder_core.specs.Promises.{NotesFrom, packet_starts}
use Rattle.sample_walks.specs.Walks.{Between}
use Rattle.sample_walks.specs.Events.{SoundEvents, is_some_event}
use Rattle.sample_walks.specs.laws.AltLaws.{same_alt, alone_none, alone_some, met_none, met_some}
use Rattle.dec_spi.specs.declared.held.Held.{Held}
use Rattle.dec_spi.specs.declared.held.Held.TheVariants.{Fresh, Outside, Inside}
use Rattle.dec_spi.specs.declared.options.SpiOpts.{SpiOpts}
use Rattle.dec_spi.specs.Bus.{Event, Select, Deselect, Clock, is_active_high, is_low_first}
use Rattle.dec_spi.specs.Bus.{selected_by, is_selected, reads_rises, is_edge, level_of, event_by}
use Rattle.dec_spi.specs.Bus.{event_at}
use Rattle.dec_spi.specs.laws.Machine.{select_alt, clock_alt, change_alt, change_alts, event_alts}
use Rattle.dec_spi.specs.laws.Machine.{spi_alts, inside, begun, with_bit, start_of, clock_next}
use Rattle.dec_spi.specs.laws.Machine.{gives, next, near_by, spi_walk, event_by_held, event_of}
use Rattle.dec_spi.specs.laws.MetLaws.{select_meets, meets_select, clock_meets, meets_clock}
use Rattle.dec_spi.specs.laws.MetLaws.{change_meets, meets_change}
use Rattle.dec_spi.specs.laws.GivenLaws.{start_most, clock_notes, clock_packets, gives_few}
use Rattle.dec_spi.specs.laws.GivenLaws.{gives_on}

-- whether there is a sample before, and it is selected
abbrev pub was_selected : SpiOpts → Option ℕ → Bool
was_selected opts None = false
was_selected opts (Some before) = is_selected opts before

-- a state stands where the last sample is selected or isn't, and the word that has begun did so
-- before
abbrev pub spi_fits : SpiOpts → Held → ℕ → Option ℕ → Type 0
spi_fits opts Fresh q before = was_selected opts before ≡ false
spi_fits opts Outside q None = ⊥
spi_fits opts Outside q (Some before) = is_selected opts before ≡ false
spi_fits opts (Inside word) q None = ⊥
spi_fits opts (Inside word) q (Some before) = (is_selected opts before ≡ true) × (word.first ≤ q)

-- which event stands between two samples, by whether they are selected
data Seen (q : ℕ) (a b : Bool) (e : Event) : Type 0 where
  Begins : a ≡ false → b ≡ true → Select q ≡ e → Seen q a b e
  Ends : a ≡ true → b ≡ false → Deselect q ≡ e → Seen q a b e
  Ticks : (out back : Bool) → a ≡ true → b ≡ true → Clock q out back ≡ e → Seen q a b e

head_of : Event → List Event → Event
head_of other [] = other
head_of other (e ∷ es) = e

seen_by : (q : ℕ) (a b edge out back : Bool) (e : Event) → event_by q a b edge out back ≡ e ∷ []
    → Seen q a b e
unfolding head_of
seen_by q false true edge out back e is = Begins refl refl (ap (head_of e) is)
seen_by q true false edge out back e is = Ends refl refl (ap (head_of e) is)
seen_by q true true true out back e is = Ticks out back refl refl (ap (head_of e) is)
seen_by q true true false out back e is = absurd cc
seen_by q false false edge out back e is = absurd cc

one_by : (q : ℕ) (a b edge out back : Bool)
    → (event_by q a b edge out back ≡ []) ⊎ ((e : Event) × (event_by q a b edge out back ≡ e ∷ []))
one_by q false true edge out back = inr (Select q, refl)
one_by q true false edge out back = inr (Deselect q, refl)
one_by q true true true out back = inr (Clock q out back, refl)
one_by q true true false out back = inl refl
one_by q false false edge out back = inl refl

same_by : (q : ℕ) (a b edge out back : Bool) → event_by q a b edge out back ≡ [] → a ≡ b
same_by q false true edge out back is = absurd cc
same_by q true false edge out back is = absurd cc
same_by q true true edge out back is = refl
same_by q false false edge out back is = refl

module _ (opts : SpiOpts) where
  -- the edge between two samples, if there are two
  abbrev edge_at : Option ℕ → ℕ → Bool
  edge_at None now = false
  edge_at (Some before) now = is_edge opts before now

  event_is : (q : ℕ) (before : Option ℕ) (now : ℕ)
      → event_at opts q before now ≡ event_by q (was_selected opts before) (is_selected opts now)
      (edge_at before now) (level_of opts.mosi now) (level_of opts.miso now)
  event_is q None now = refl
  event_is q (Some before) now = refl

  one : (q : ℕ) (before : Option ℕ) (now : ℕ)
      → (event_at opts q before now ≡ []) ⊎ ((e : Event) × (event_at opts q before now ≡ e ∷ []))
  one q before now =
      elim (one_by q (was_selected opts before) (is_selected opts now) (edge_at before now)
      (level_of opts.mosi now) (level_of opts.miso now)) [
        | inl none ↦ inl (event_is q before now ∙ none)
        | inr e ↦ inr (e.0, event_is q before now ∙ e.1)
      ]

  seen : (q : ℕ) (before : Option ℕ) (now : ℕ) (e : Event) → event_at opts q before now ≡ e ∷ []
      → Seen q (was_selected opts before) (is_selected opts now) e
  seen q before now e is =
      seen_by q (was_selected opts before) (is_selected opts now) (edge_at before now)
      (level_of opts.mosi now) (level_of opts.miso now) e (sym (event_is q before now) ∙ is)

  -- what is waited for
  module _ (q : ℕ) (before now from : ℕ) where
    abbrev high : Bool
    high = is_active_high opts

    abbrev rises : Bool
    rises = reads_rises opts

    quiet : MetSet (event_alts opts) (Some before) now from q 0
        → event_at opts q (Some before) now ≡ []
    quiet set =
        by (is_selected opts before) (is_selected opts now) (is_edge opts before now) refl refl refl
      where
        alts : List Alt
        alts = event_alts opts

        differs : (cs : Option ℕ) → opts.cs ≡ cs
            → selected_by opts.cs high before ≢ selected_by opts.cs high now
            → MetSet (clock_alt opts.sck rises opts.cs high ∷ change_alts cs)
            (Some before) now from q 0 → ⊥
        differs None is other none =
            other (ap (λ (o : Option ℕ). selected_by o high before) is
            ∙ ap (λ (o : Option ℕ). selected_by o high now) (sym is))
        differs (Some own) is other none =
            met_none (clock_alt opts.sck rises opts.cs high ∷ change_alt own ∷ [])
            (Some before) now from q 1 (change_alt own) none refl
            (change_meets opts.cs high from q before now own is other)

        by : (a b edge : Bool) → is_selected opts before ≡ a → is_selected opts now ≡ b
            → is_edge opts before now ≡ edge
            → event_by q a b edge (level_of opts.mosi now) (level_of opts.miso now) ≡ []
        by false false edge was is moves = refl
        by true true false was is moves = refl
        by false true edge was is moves =
            absurd (differs opts.cs refl (λ same. true≢false (sym is ∙ sym same ∙ was)) set)
        by true false edge was is moves =
            absurd (differs opts.cs refl (λ same. true≢false (sym was ∙ same ∙ is)) set)
        by true true true was is moves =
            absurd (met_none (event_alts opts) (Some before) now from q 0
            (clock_alt opts.sck rises opts.cs high) set refl
            (clock_meets opts.cs high from q before now opts.sck rises was is moves))

    -- where nothing happens no alternative is met
    module _ (same : is_selected opts before ≡ is_selected opts now)
        (still : is_selected opts now ≡ true → is_edge opts before now ≡ false) where
      no_clock : MeetsAt (clock_alt opts.sck rises opts.cs high) (Some before) now from q → ⊥
      no_clock meets = let is = meets_clock opts.cs high from q before now opts.sck rises meets in
          true≢false (sym is.2 ∙ still is.1)

      none_at : (cs : Option ℕ) → opts.cs ≡ cs → (i : ℕ) (alt : Alt)
          → slice_get (clock_alt opts.sck rises opts.cs high ∷ change_alts cs) i ≡ Some alt
          → MeetsAt alt (Some before) now from q → ⊥
      none_at cs is zero alt at meets =
          no_clock (same_alt (event_alts opts) (Some before) now from q
          (clock_alt opts.sck rises opts.cs high) alt at meets)
      none_at None is (suc i) alt at meets =
          let clock = clock_alt opts.sck rises opts.cs high in
          let within : suc i < 1 = slice_get_within (clock ∷ []) (suc i) alt at in
          absurd (omega (arith, within))
      none_at (Some own) is (suc zero) alt at meets =
          meets_change opts.cs high from q before now own is
          (same_alt (event_alts opts) (Some before) now from q (change_alt own) alt at meets) same
      none_at (Some own) is (suc (suc i)) alt at meets =
          let within : suc (suc i) < 2 =
          slice_get_within (clock_alt opts.sck rises opts.cs high ∷ change_alt own ∷ [])
          (suc (suc i)) alt at in absurd (omega (arith, within))

    loud : (met : ℕ) → MetSet (event_alts opts) (Some before) now from q met → met ≢ 0
        → (e : Event) × (event_at opts q (Some before) now ≡ e ∷ [])
    loud met set some =
        by (is_selected opts before) (is_selected opts now) (is_edge opts before now) refl refl refl
      where
        nothing : is_selected opts before ≡ is_selected opts now
            → (is_selected opts now ≡ true → is_edge opts before now ≡ false) → ⊥
        nothing same still =
            met_some (event_alts opts) (Some before) now from q met set some
            (none_at same still opts.cs refl)

        by : (a b edge : Bool) → is_selected opts before ≡ a → is_selected opts now ≡ b
            → is_edge opts before now ≡ edge → (e : Event)
            × (event_by q a b edge (level_of opts.mosi now) (level_of opts.miso now) ≡ e ∷ [])
        by false true edge was is moves = (Select q, refl)
        by true false edge was is moves = (Deselect q, refl)
        by true true true was is moves =
            (Clock q (level_of opts.mosi now) (level_of opts.miso now), refl)
        by false false edge was is moves =
            absurd (nothing (was ∙ sym is) (λ yes. absurd (true≢false (sym yes ∙ is))))
        by true true false was is moves = absurd (nothing (was ∙ sym is) (λ yes. moves))

  -- before the first select, that it has come
  module _ (q : ℕ) (before : Option ℕ) (now from : ℕ) (fit : was_selected opts before ≡ false) where
    fresh_is : (b : Bool) → is_selected opts now ≡ b
        → event_at opts q before now
        ≡ event_by q false b (edge_at before now) (level_of opts.mosi now) (level_of opts.miso now)
    fresh_is b is =
        event_is q before now
        ∙ (λ i. event_by q (fit i) (is i) (edge_at before now) (level_of opts.mosi now)
        (level_of opts.miso now))

    fresh_quiet : MetSet (spi_alts opts Fresh) before now from q 0 → event_at opts q before now ≡ []
    fresh_quiet set =
        fresh_is false
        (alone_none (select_alt opts.cs (is_active_high opts)) before now from q 0
        (is_selected opts now) (select_meets opts.cs (is_active_high opts) from q before now)
        (meets_select opts.cs (is_active_high opts) from q before now) set)

    fresh_loud : (met : ℕ) → MetSet (spi_alts opts Fresh) before now from q met → met ≢ 0
        → (e : Event) × (event_at opts q before now ≡ e ∷ [])
    fresh_loud met set some = (
      Select q,
      fresh_is true
          (alone_some (select_alt opts.cs (is_active_high opts)) before now from q met
          (is_selected opts now) (select_meets opts.cs (is_active_high opts) from q before now)
          (meets_select opts.cs (is_active_high opts) from q before now) set some),
    )

  none : (h : Held) (q : ℕ) (before : Option ℕ) (now from : ℕ) → spi_fits opts h q before
      → MetSet (spi_alts opts h) before now from q 0 → event_at opts q before now ≡ []
  none Fresh q before now from fit set = fresh_quiet q before now from fit set
  none Outside q (Some before) now from fit set = quiet q before now from set
  none Outside q None now from fit set = absurd fit
  none (Inside word) q (Some before) now from fit set = quiet q before now from set
  none (Inside word) q None now from fit set = absurd fit

  some : (h : Held) (q : ℕ) (before : Option ℕ) (now from met : ℕ) → spi_fits opts h q before
      → MetSet (spi_alts opts h) before now from q met → met ≢ 0
      → (e : Event) × (event_at opts q before now ≡ e ∷ [])
  some Fresh q before now from met fit set is = fresh_loud q before now from fit met set is
  some Outside q (Some before) now from met fit set is = loud q before now from met set is
  some Outside q None now from met fit set is = absurd fit
  some (Inside word) q (Some before) now from met fit set is = loud q before now from met set is
  some (Inside word) q None now from met fit set is = absurd fit

  -- a state fits behind a sample without an event, and behind an event
  fits_on : (h : Held) (q : ℕ) (before : Option ℕ) (now : ℕ) → spi_fits opts h q before
      → event_at opts q before now ≡ [] → spi_fits opts h (q + 1) (Some now)
  fits_on h q before now fit is = by h before fit same
    where
      same : was_selected opts before ≡ is_selected opts now
      same = same_by q (was_selected opts before) (is_selected opts now) (edge_at before now)
          (level_of opts.mosi now) (level_of opts.miso now) (sym (event_is q before now) ∙ is)

      by : (g : Held) (b : Option ℕ) → spi_fits opts g q b
          → was_selected opts b ≡ is_selected opts now → spi_fits opts g (q + 1) (Some now)
      by Fresh b f e = sym e ∙ f
      by Outside (Some own) f e = sym e ∙ f
      by Outside None f e = absurd f
      by (Inside word) (Some own) f e = (sym e ∙ f.0, omega (arith, f.1))
      by (Inside word) None f e = absurd f

  -- what is selected before a state, as far as the state says it
  Before : Held → ℕ → Bool → Type 0
  Before Fresh q a = a ≡ false
  Before Outside q a = a ≡ false
  Before (Inside word) q a = (a ≡ true) × (word.first ≤ q)

  before_is : (h : Held) (q : ℕ) (before : Option ℕ) → spi_fits opts h q before
      → Before h q (was_selected opts before)
  unfolding Before
  before_is Fresh q before fit = fit
  before_is Outside q (Some own) fit = fit
  before_is Outside q None fit = refl
  before_is (Inside word) q (Some own) fit = fit
  before_is (Inside word) q None fit = absurd fit

  begun_fits : (q now : ℕ) → is_selected opts now ≡ true → spi_fits opts begun q (Some now)
  begun_fits q now is = (is, omega arith)

  clock_fits : (count mosi miso first q : ℕ) (out back : Bool) (now : ℕ) → first ≤ q
      → is_selected opts now ≡ true
      → spi_fits opts (clock_next opts count mosi miso first q out back) (q + 1) (Some now)
  clock_fits count mosi miso first q out back now below is = by (nat_lt (count + 1) opts.bits)
    where
      start : start_of count first q ≤ q
      start = start_most opts count mosi miso first q out back below

      by : (b : Bool)
          → spi_fits opts
          (if b then inside (count + 1) (with_bit (is_low_first opts) count mosi out)
          (with_bit (is_low_first opts) count miso back) (start_of count first q) else begun)
          (q + 1) (Some now)
      by true = (is, omega (arith, start))
      by false = (is, omega arith)

  next_fits : (h : Held) (q : ℕ) (a : Bool) (now : ℕ) (e : Event) → Before h q a
      → Seen q a (is_selected opts now) e → spi_fits opts (next opts h e) (q + 1) (Some now)
  unfolding Before
  next_fits h q a now e fit (Begins was here is) =
      subst (λ (x : Event). spi_fits opts (next opts h x) (q + 1) (Some now)) is
      (begun_fits (q + 1) now here)
  next_fits Fresh q a now e fit (Ends was here is) = absurd (true≢false (sym was ∙ fit))
  next_fits Outside q a now e fit (Ends was here is) = absurd (true≢false (sym was ∙ fit))
  next_fits (Inside word) q a now e fit (Ends was here is) =
      subst (λ (x : Event). spi_fits opts (next opts (Inside word) x) (q + 1) (Some now)) is here
  next_fits Fresh q a now e fit (Ticks out back was here is) = absurd (true≢false (sym was ∙ fit))
  next_fits Outside q a now e fit (Ticks out back was here is) = absurd (true≢false (sym was ∙ fit))
  next_fits (Inside word) q a now e fit (Ticks out back was here is) =
      subst (λ (x : Event). spi_fits opts (next opts (Inside word) x) (q + 1) (Some now)) is
      (clock_fits word.count word.mosi word.miso word.first q out back now fit.1 here)

  -- where what is open starts
  near_most : (h : Held) (q : ℕ) (a : Bool) → Before h q a → near_by h q ≤ q
  unfolding Before
  near_most Fresh q a fit = le_refl q
  near_most Outside q a fit = le_refl q
  near_most (Inside word) q a fit = by (word.count == 0)
    where
      by : (b : Bool) → (if b then q else word.first) ≤ q
      by true = le_refl q
      by false = fit.1

  near_on : (h : Held) (q : ℕ) (a : Bool) → Before h q a → near_by h q ≤ near_by h (q + 1)
  unfolding Before
  near_on Fresh q a fit = omega arith
  near_on Outside q a fit = omega arith
  near_on (Inside word) q a fit = by (word.count == 0)
    where
      by : (b : Bool) → (if b then q else word.first) ≤ (if b then q + 1 else word.first)
      by true = omega arith
      by false = le_refl word.first

  -- from where on an event gives notes and packets
  Given : Held → ℕ → Event → Type 0
  Given h q e =
      NotesFrom (near_by h q) (gives opts h e)
      × Between (near_by h q) (near_by (next opts h e) (q + 1)) (packet_starts (gives opts h e))

  given : (h : Held) (q : ℕ) (a b : Bool) (e : Event) → Before h q a → Seen q a b e → Given h q e
  unfolding Before Given
  given h q a b e fit (Begins was here is) =
      subst (λ (x : Event). Given h q x) is
      ((near_most h q a fit, tt), (near_most h q a fit, omega arith))
  given Fresh q a b e fit (Ends was here is) = absurd (true≢false (sym was ∙ fit))
  given Outside q a b e fit (Ends was here is) = absurd (true≢false (sym was ∙ fit))
  given (Inside word) q a b e fit (Ends was here is) =
      let low = near_most (Inside word) q a fit in
      subst (λ (x : Event). Given (Inside word) q x) is ((low, tt), (low, omega arith))
  given Fresh q a b e fit (Ticks out back was here is) = absurd (true≢false (sym was ∙ fit))
  given Outside q a b e fit (Ticks out back was here is) = absurd (true≢false (sym was ∙ fit))
  given (Inside word) q a b e fit (Ticks out back was here is) =
      subst (λ (x : Event). Given (Inside word) q x) is (
        clock_notes opts word.count word.mosi word.miso word.first q out back fit.1,
        clock_packets
            opts word.count word.mosi word.miso word.first q out back fit.1,
      )

  -- the event at a stop
  stop_by : (h : Held) (q : ℕ) (a b edge out back : Bool) (e : Event) → Before h q a
      → event_by q a b edge out back ≡ e ∷ []
      → event_by q a b edge out back ≡ event_by_held h q b out back ∷ []
  unfolding Before
  stop_by Fresh q false true edge out back e fit is = refl
  stop_by Fresh q false false edge out back e fit is = absurd cc
  stop_by Fresh q true b edge out back e fit is = absurd (true≢false fit)
  stop_by Outside q false true edge out back e fit is = refl
  stop_by Outside q false false edge out back e fit is = absurd cc
  stop_by Outside q true b edge out back e fit is = absurd (true≢false fit)
  stop_by (Inside word) q true true true out back e fit is = refl
  stop_by (Inside word) q true true false out back e fit is = absurd cc
  stop_by (Inside word) q true false edge out back e fit is = refl
  stop_by (Inside word) q false b edge out back e fit is = absurd (true≢false (sym fit.0))

  stop_is : (h : Held) (q : ℕ) (before : Option ℕ) (value : ℕ) → spi_fits opts h q before
      → is_some_event (event_at opts q before value) ≡ true
      → event_at opts q before value ≡ event_of opts h q value ∷ []
  stop_is h q before value fit moves = elim (one q before value) [
    | inl nothing ↦ absurd
        (true≢false (sym moves ∙ ap (λ (es : List Event). is_some_event es) nothing))
    | inr e ↦
        event_is q before value
        ∙ stop_by h q (was_selected opts before) (is_selected opts value) (edge_at before value)
        (level_of opts.mosi value) (level_of opts.miso value) e.0 (before_is h q before fit)
        (sym (event_is q before value) ∙ e.1)
  ]

  module _ (few : opts.bits ≤ 32) where
    pub spi_events : SoundEvents (spi_walk opts) (spi_fits opts)
    unfolding Given
    spi_events = record {
      one = one;
      begin_fits = refl;
      fits_on = fits_on;
      next_fits =
          λ h q before now e fit is. next_fits h q (was_selected opts before) now e
          (before_is h q before fit) (seen q before now e is);
      none = none;
      some = λ h q before now from met fit set is. stop_is h q before now fit
          (ap (λ (es : List Event). is_some_event es) (some h q before now from met fit set is).1);
      few = gives_few opts few;
      near_on = λ h q before fit. near_on h q (was_selected opts before) (before_is h q before fit);
      notes = λ h q before now e fit is. (given h q (was_selected opts before)
          (is_selected opts now) e (before_is h q before fit) (seen q before now e is)).0;
      packets =
          λ h q before now e fit is. (given h q (was_selected opts before) (is_selected opts now) e
          (before_is h q before fit) (seen q before now e is)).1;
      on_wire = gives_on opts;
    }
