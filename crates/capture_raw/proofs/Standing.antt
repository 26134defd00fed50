-- What a raw reader stands for, as it goes on.
use Rattle.std.proofs.Common.{◌≡◌, ℕ, ◌+◌, ◌-◌, ◌*◌, ◌/◌, ◌%◌, ◌^◌, ◌≤◌, ◌<◌, List, [], ◌++◌, take, drop, length, refl, sym, ◌∙◌, ap, arith, length-append, length-take-le, length-drop, take-append-drop, Option, Bool, true, false, if◌then◌else◌, ◌==◌, Ok, subst}
use Rattle.std.proofs.lemmas.List.{take-take, drop-append-le, take-append-le, drop-drop, take_all}
use Rattle.std.proofs.Math.Seq.{take-add}
use Rattle.std.proofs.Math.Nat.{mod-add-div'}
use Rattle.std.proofs.lemmas.Nat.{mod-mul-add}
use Rattle.std.specs.Io.KnownBytes.{IsAtEnd}
use Rattle.la_base.specs.declared.samples.Rate.{Rate}
use Rattle.la_io.specs.declared.fault.CaptureFault.TheVariants.{ShortUnit as ShortUnitFault, Bytes as BytesFault}
use Rattle.la_io.specs.Capture.{Told, AtEnd, Cut, Ending, Clean, Faulty, Open, Ends}
use Rattle.capture_raw.specs.declared.step.RawStep.{RawStep}
use Rattle.capture_raw.specs.declared.step.RawStep.TheVariants.{End, ShortUnit}
use Rattle.la_io.specs.Intake.{Front, Takes}
use Rattle.capture_raw.specs.Raw.{unit_len, raw_samples, raw_rest, raw_capture}
use Rattle.capture_raw.specs.Reader.{Stands, StandsAt, Gives, LetsGo, MeansAt, ToldEnd, stays_open, raw_given, raw_held, raw_taken, raw_unit}
use Rattle.capture_raw.specs.declared.reader.RawReader.{RawReader}
use Rattle.capture_raw.proofs.Captures.{unit_some, samples_after, samples_at_end, no_samples, settled_is, ending_is, ending_full, ending_rest}

module _ (unit : ℕ) (some : 0 < unit) (pins : List ℕ) where
  -- nothing was read
  pub stands_new : (front : Front) → front ≡ record { bytes = []; taken = 0 } → StandsAt unit pins front [] []
  stands_new front is =
      let none : 0 * unit ≡ 0 = omega arith in
      record {
        taken = ap (λ (f : Front). f.taken) is;
        within = omega arith;
        held = ap (λ (f : Front). f.bytes) is ∙ ap (λ (n : ℕ). drop n []) (sym none);
        gave = no_samples unit some pins ∙ ap (λ (n : ℕ). raw_samples unit pins (take n [])) (sym none);
      }

  -- other pins, where no sample was given
  pub stands_again : (old_unit : ℕ) (old_pins : List ℕ) (front : Front) (bytes : List ℕ) → StandsAt old_unit old_pins front bytes [] → StandsAt unit pins front bytes []
  stands_again old_unit old_pins front bytes st =
      let none : 0 * unit ≡ 0 = omega arith in
      let old_none : 0 * old_unit ≡ 0 = omega arith in
      record {
        taken = st.taken;
        within = omega arith;
        held = st.held ∙ ap (λ (n : ℕ). drop n bytes) (old_none ∙ sym none);
        gave = no_samples unit some pins ∙ ap (λ (n : ℕ). raw_samples unit pins (take n bytes)) (sym none);
      }

  -- bytes were taken
  pub stands_more : (old new : Front) (left_old left_new : Option (List ℕ)) (bytes before given : List ℕ) → Takes old new left_old left_new bytes → StandsAt unit pins old before given → StandsAt unit pins new (before ++ bytes) given
  stands_more old new left_old left_new bytes before given takes st =
      let n = length given * unit in
      record {
        taken = omega (arith, length-append before bytes, st.taken, takes.taken);
        within = omega (arith, length-append before bytes, st.within);
        held = takes.held ∙ ap (λ (l : List ℕ). l ++ bytes) st.held ∙ sym (drop-append-le n before bytes st.within);
        gave = st.gave ∙ ap (λ (l : List ℕ). raw_samples unit pins l) (sym (take-append-le n before bytes st.within));
      }

  -- units were let go, and their samples given
  pub stands_run : (old new : Front) (bytes given more : List ℕ) → Gives unit pins old new more → StandsAt unit pins old bytes given → StandsAt unit pins new bytes (given ++ more)
  stands_run old new bytes given more gives st =
      let n = length given * unit in
      let m = length more * unit in
      let total : length (given ++ more) * unit ≡ n + m = ap (λ (k : ℕ). k * unit) (length-append given more) ∙ split_sum (length given) (length more) in
      let held_len : length old.bytes ≡ length bytes - n = ap length st.held ∙ length-drop n bytes in
      let front_len : length (take n bytes) ≡ n = length-take-le n bytes st.within in
      let next = ap (λ (l : List ℕ). take m l) st.held in
      record {
        taken = gives.taken ∙ st.taken;
        within = omega (arith, total, held_len, gives.within, st.within);
        held = gives.held ∙ ap (λ (l : List ℕ). drop m l) st.held ∙ drop-drop m n bytes ∙ ap (λ (k : ℕ). drop k bytes) (sym total);
        gave = (λ i. st.gave i ++ gives.same_samples i) ∙ ap (λ (l : List ℕ). raw_samples unit pins (take n bytes) ++ raw_samples unit pins l) next
            ∙ sym (samples_after unit some pins (take n bytes) (length given) front_len (take m (drop n bytes)))
            ∙ ap (λ (l : List ℕ). raw_samples unit pins l) (sym (take-add n m bytes) ∙ ap (λ (k : ℕ). take k bytes) (sym total));
      }
    where
      split_sum : (a b : ℕ) → (a + b) * unit ≡ a * unit + b * unit
      split_sum a b = grind arith

  -- less than a unit is held: all is given
  all_given : (front : Front) (bytes given : List ℕ) → length front.bytes < unit → StandsAt unit pins front bytes given → raw_samples unit pins bytes ≡ given
  all_given front bytes given short st =
      let n = length given * unit in
      ap (λ (l : List ℕ). raw_samples unit pins l) (sym (take-append-drop n bytes))
      ∙ samples_at_end unit some pins (take n bytes) (length given) (length-take-le n bytes st.within) (drop n bytes) (omega (arith, ap length st.held, short))
      ∙ sym st.gave

  -- and it is the rest
  rest_len : (front : Front) (bytes given : List ℕ) → length front.bytes < unit → StandsAt unit pins front bytes given → (length bytes % unit ≡ length front.bytes) × (length bytes / unit * unit + length front.bytes ≡ length bytes)
  rest_len front bytes given short st =
      let total : length bytes ≡ length given * unit + length front.bytes = omega (arith, ap length st.held, length-drop (length given * unit) bytes, st.within) in
      let rest : length bytes % unit ≡ length front.bytes = ap (λ (n : ℕ). n % unit) total ∙ mod-mul-add (length given) unit (length front.bytes) short in
      (rest, omega (arith, rest, mod-add-div' (length bytes) unit))

-- the same channels and pins
pub stands_same : (channels same_channels : ℕ) (pins same_pins : List ℕ) (front : Front) (bytes given : List ℕ) → same_channels ≡ channels → same_pins ≡ pins
    → StandsAt (unit_len channels) pins front bytes given → StandsAt (unit_len same_channels) same_pins front bytes given
stands_same channels same_channels pins same_pins front bytes given is_channels is_pins st =
    let by_channels : ℕ → Type 0 = λ k. StandsAt (unit_len k) pins front bytes given in
    let by_pins : List ℕ → Type 0 = λ l. StandsAt (unit_len same_channels) l front bytes given in
    subst by_pins (sym is_pins) (subst by_channels (sym is_channels) st)

-- samples of so many bytes at the front, which were let go
pub gives_front : (unit : ℕ) (pins : List ℕ) (old new : Front) (given : List ℕ) (n : ℕ) → length given * unit ≡ n → n ≤ length old.bytes → given ≡ raw_samples unit pins (take n old.bytes)
    → new.bytes ≡ drop n old.bytes → new.taken ≡ old.taken → Gives unit pins old new given
gives_front unit pins old new given n is within same held taken = record {
  within = omega (arith, is, within);
  same_samples = same ∙ ap (λ (m : ℕ). raw_samples unit pins (take m old.bytes)) (sym is);
  held = held ∙ ap (λ (m : ℕ). drop m old.bytes) (sym is);
  taken = taken;
}

-- there are as many bytes in what was given as samples or more
pub more_given : (unit : ℕ) (pins : List ℕ) (old new : Front) (given : List ℕ) → 0 < unit → length old.bytes ≤ old.taken → Gives unit pins old new given
    → old.taken - length old.bytes + length given ≤ new.taken - length new.bytes
more_given unit pins old new given some few gives =
    let enough : length given ≤ length given * unit = count_enough (length given) in
    omega (arith, enough, ap length gives.held, length-drop (length given * unit) old.bytes, gives.taken, gives.within, few)
  where
    count_enough : (count : ℕ) → count ≤ count * unit
    count_enough count = grind arith

-- bytes that are taken are not given
pub taken_given : (old new : Front) (left_old left_new : Option (List ℕ)) (bytes : List ℕ) → Takes old new left_old left_new bytes → old.taken - length old.bytes ≤ new.taken - length new.bytes
taken_given old new left_old left_new bytes takes = omega (arith, takes.taken, ap length takes.held, length-append old.bytes bytes)

-- a reader that lets units go, and gives their samples, stands for what it stood for
pub stands_on : (old new : RawReader) (bytes given more : List ℕ) → LetsGo old new more → Stands old bytes given → Stands new bytes (given ++ more)
stands_on old new bytes given more go st =
    stands_same old.channels new.channels old.pins.items new.pins.items new.held bytes (given ++ more) go.form.channels go.form.pins
    (stands_run (unit_len old.channels) (unit_some old.channels old.channels_fit.0) old.pins.items old.held new.held bytes given more go.gives st)

-- and it has given so many samples more, or more bytes
pub given_on : (old new : RawReader) (more : List ℕ) → length (raw_held old) ≤ raw_taken old → LetsGo old new more → raw_given old + length more ≤ raw_given new
given_on old new more few go = more_given (raw_unit old) old.pins.items old.held new.held more (unit_some old.channels old.channels_fit.0) few go.gives

-- what was given is a front of what the bytes settle
pub given_front : (channels : ℕ) → 0 < unit_len channels → (rate : Rate) (pins : List ℕ) (front : Front) (bytes given : List ℕ) (told : Told)
    → StandsAt (unit_len channels) pins front bytes given → front.taken - length front.bytes ≤ 2 ^ 60
    → (rest : List ℕ) × ((raw_capture channels rate pins bytes told).settled ≡ given ++ rest)
given_front channels some rate pins front bytes given told st few =
    let unit = unit_len channels in
    let n = length given * unit in
    let most = take (2 ^ 60) bytes in
    let below : n ≤ 2 ^ 60 = omega (arith, few, st.taken, st.within, ap length st.held, length-drop n bytes) in
    let whole = length-take-le n bytes st.within in (
      raw_samples unit pins (drop n most),
      settled_is channels rate pins bytes told
          ∙ ap (λ (l : List ℕ). raw_samples unit pins l) (sym (take-append-drop n most) ∙ ap (λ (l : List ℕ). l ++ drop n most) (take-take n (2 ^ 60) bytes below))
          ∙ samples_after unit some pins (take n bytes) (length given) whole (drop n most)
          ∙ ap (λ (l : List ℕ). l ++ raw_samples unit pins (drop n most)) (sym st.gave),
    )

-- nothing is left to give: what an answer means then
module _ (channels : ℕ) (some : 0 < unit_len channels) (rate : Rate) (pins : List ℕ) (front : Front) (bytes given : List ℕ)
    (short : length front.bytes < unit_len channels) (few : front.taken ≤ 2 ^ 60) (st : StandsAt (unit_len channels) pins front bytes given) where
  all_settled : (told : Told) → (raw_capture channels rate pins bytes told).settled ≡ given
  all_settled told =
      let count : length bytes ≤ 2 ^ 60 = omega (arith, st.taken) in
      settled_is channels rate pins bytes told ∙ ap (λ (l : List ℕ). raw_samples (unit_len channels) pins l) (take_all (2 ^ 60) bytes count) ∙ all_given (unit_len channels) some pins front bytes given short st

  -- 2^60 bytes were taken
  pub ends_full : 2 ^ 60 ≤ front.taken → (told : Told) → Ends (raw_capture channels rate pins bytes told) given (Faulty BytesFault)
  ends_full full told = record {
    settled = all_settled told;
    ending = ending_is channels rate pins bytes told ∙ ending_full (unit_len channels) (length bytes) told (omega (arith, st.taken));
  }

  module _ (below : front.taken < 2 ^ 60) where
    ends_so : (told : Told) (how : Ending) → raw_rest (unit_len channels) (length bytes) told ≡ how → Ends (raw_capture channels rate pins bytes told) given how
    ends_so told how is = record {
      settled = all_settled told;
      ending = ending_is channels rate pins bytes told ∙ ending_rest (unit_len channels) (length bytes) told (omega (arith, st.taken)) ∙ is;
    }

    -- the source failed
    pub ends_open : Ends (raw_capture channels rate pins bytes Cut) given Open
    ends_open = ends_so Cut Open refl

    abbrev Good : RawStep → Type 0
    Good step = MeansAt channels rate pins front bytes given (Ok step)

    rest_so : (b : Bool) → (length bytes % unit_len channels == 0) ≡ b → raw_rest (unit_len channels) (length bytes) AtEnd ≡ (if b then Clean else Faulty (ShortUnitFault (length bytes / unit_len channels * unit_len channels)))
    rest_so b is = ap (λ (t : Bool). if t then Clean else Faulty (ShortUnitFault (length bytes / unit_len channels * unit_len channels))) is

    -- the source told its end
    pub ended : (step : RawStep) → step ≡ (if length front.bytes == 0 then End else ShortUnit (front.taken - length front.bytes)) → Good step
    ended step is = subst Good (sym is) (by_test (length front.bytes == 0) refl)
      where
        rest : (length bytes % unit_len channels ≡ length front.bytes) × (length bytes / unit_len channels * unit_len channels + length front.bytes ≡ length bytes)
        rest = rest_len (unit_len channels) some pins front bytes given short st

        by_test : (b : Bool) → (length front.bytes == 0) ≡ b → Good (if b then End else ShortUnit (front.taken - length front.bytes))
        by_test true e = ends_so AtEnd Clean (rest_so true (ap (λ (n : ℕ). n == 0) rest.0 ∙ e))
        by_test false e =
            let at : length bytes / unit_len channels * unit_len channels ≡ front.taken - length front.bytes = omega (arith, rest.1, st.taken) in
            ends_so AtEnd (Faulty (ShortUnitFault (front.taken - length front.bytes))) (rest_so false (ap (λ (n : ℕ). n == 0) rest.0 ∙ e) ∙ ap (λ (n : ℕ). Faulty (ShortUnitFault n)) at)

-- either answer tells the end, and closes the reader
pub ended_told : (left : Option (List ℕ)) (at : ℕ) (b : Bool) (step : RawStep) → IsAtEnd left → step ≡ (if b then End else ShortUnit at) → ToldEnd left (Ok step) × (false ≡ stays_open (Ok step))
ended_told left at b step told is = subst (λ (q : RawStep). ToldEnd left (Ok q) × (false ≡ stays_open (Ok q))) (sym is) (by_test b)
  where
    by_test : (t : Bool) → ToldEnd left (Ok (if t then End else ShortUnit at)) × (false ≡ stays_open (Ok (if t then End else ShortUnit at)))
    by_test true = (told, refl)
    by_test false = (told, refl)
