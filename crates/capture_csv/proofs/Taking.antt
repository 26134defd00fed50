-- What a record says behind those before it.
use Rattle.std.proofs.Common.{◌≡◌, ℕ, ◌+◌, ◌-◌, ◌*◌, ◌/◌, ◌^◌, ◌==◌, ◌≤◌, ◌<◌, List, [], ◌∷◌, ◌++◌, length, map, replicate, refl, sym, ◌∙◌, ap, subst, arith, Option, Some, None, Result, Ok, Err, Bool, true, false, cond, nat_lt, nat_le}
use Rattle.std.proofs.lemmas.Bool.{cond-true, cond-false, eq-eqb, le-leb, lt-leb, lt-ltb, le-ltb, ne_eqb}
use Rattle.std.proofs.lemmas.List.{append-nil, map-append}
use Rattle.std.proofs.lemmas.List.FromFn.{length-map-range_with_len}
use Rattle.std.specs.List.{range_with_len}
use Rattle.std.proofs.Math.Nat.{zero-div}
use Rattle.la_base.specs.Samples.{samples}
use Rattle.la_base.specs.declared.samples.Rate.{Rate}
use Rattle.la_base.specs.declared.samples.Run.{Run}
use Rattle.la_io.specs.Capture.{Faulty, Open, Clean}
use Rattle.la_io.specs.declared.fault.CaptureFault.{CaptureFault}
use Rattle.la_io.specs.declared.fault.CaptureFault.TheVariants as fault
use Rattle.capture_csv.specs.Csv.{Taken, fields_say, first_time, levels_at, last_time, levels_of, record_says, settled_by, taken_at, timed, timed_words, word_of, words_from}
use Rattle.text_parts.specs.Reading.{after_one, read_front}
use Rattle.capture_csv.specs.Modes.{at_of, sample_of}
use Rattle.capture_csv.specs.Records.{Record}
use Rattle.capture_csv.specs.Running.{BodyAt, BodyFaulty, FoundIs, Gave, GaveRows, Keeps, SpanFrom, SpanIs, Spans, pins_in, words_of}
use Rattle.capture_csv.specs.Stretches.{TimesTo, levels_now}
use Rattle.capture_csv.specs.Times.{from_zero, sample_at}
use Rattle.capture_csv.specs.Values.{LevelsRead}
use Rattle.capture_csv.specs.declared.body.Body.{Body}
use Rattle.la_base.specs.declared.modes.CsvMode.{CsvMode}
use Rattle.la_base.specs.declared.modes.CsvMode.TheVariants.{Rows, Times}
use Rattle.capture_csv.specs.declared.span.Found.{Found}
use Rattle.capture_csv.specs.declared.span.Span.{Span}
use Rattle.text_parts.proofs.FrontLemmas.{front_none}
use Rattle.capture_csv.proofs.Longer.{last_on}
use Rattle.capture_csv.proofs.Words.{last_is_run, sample_rises, stretch_is_run}

module _ (mode : CsvMode) (num den want : ℕ) (records : List Record) (taken : List Taken) (line : ℕ) (fields : List (List ℕ)) (read : read_front (record_says mode num den want) [] records ≡ (taken, None)) where
  one_more : read_front (record_says mode num den want) [] (records ++ (line, fields) ∷ []) ≡ read_front (record_says mode num den want) taken ((line, fields) ∷ [])
  one_more =
      front_none (record_says mode num den want) [] records ((line, fields) ∷ []) (ap (λ (r : List Taken × Option CaptureFault). r.1) read)
      ∙ ap (λ (r : List Taken × Option CaptureFault). read_front (record_says mode num den want) r.0 ((line, fields) ∷ [])) read

  -- a fault, and none
  pub read_fault : (f : CaptureFault) → record_says mode num den want taken (line, fields) ≡ Err f → read_front (record_says mode num den want) [] (records ++ (line, fields) ∷ []) ≡ (taken, Some f)
  read_fault f is = one_more ∙ ap (λ (r : Result Taken CaptureFault). after_one {P = Record} (λ values rest. read_front (record_says mode num den want) values []) taken [] r) is

  pub read_taken : (t : Taken) → record_says mode num den want taken (line, fields) ≡ Ok t → read_front (record_says mode num den want) [] (records ++ (line, fields) ∷ []) ≡ (taken ++ t ∷ [], None)
  read_taken t is = one_more ∙ ap (λ (r : Result Taken CaptureFault). after_one {P = Record} (λ values rest. read_front (record_says mode num den want) values []) taken [] r) is

  pub said : length fields ≡ want → record_says mode num den want taken (line, fields) ≡ fields_say mode num den taken line fields
  said same = cond-true (length fields == want) _ _ (eq-eqb (length fields) want same)

  pub columns_said : (length fields ≡ want → ⊥) → record_says mode num den want taken (line, fields) ≡ Err (fault.Columns line want (length fields))
  columns_said other = cond-false (length fields == want) _ _ (ne_eqb (length fields) want other)

-- the samples given are all that come before a fault
pub gave_before : (mode : CsvMode) (rate : Rate) (pins : List ℕ) (held : Bool) (taken : List Taken) (given : List ℕ) (f : CaptureFault) → Gave mode rate pins held taken given → held ≡ false → given ≡ settled_by mode rate.num rate.den pins taken (Faulty f)
gave_before Rows rate pins true taken given f gave e = absurd cc e
gave_before Rows rate pins false taken given f gave e = gave
gave_before Times rate pins held [] given f gave e = gave.1
gave_before Times rate pins held (t ∷ taken) given f gave e = gave.1

-- and those of a cut input
pub gave_open : (mode : CsvMode) (rate : Rate) (pins : List ℕ) (held : Bool) (taken : List Taken) (given : List ℕ) → Gave mode rate pins held taken given → held ≡ false → given ≡ settled_by mode rate.num rate.den pins taken Open
gave_open Rows rate pins true taken given gave e = absurd cc e
gave_open Rows rate pins false taken given gave e = gave
gave_open Times rate pins held taken given gave e = gave.1

levels_on : (so_far : List Bool) (taken : List Taken) (t : Taken) → levels_now so_far (taken ++ t ∷ []) ≡ t.levels
levels_on so_far [] t = refl
levels_on so_far (x ∷ taken) t = levels_on x.levels taken t

pub keeps_on : (pins : List ℕ) (taken : List Taken) (t : Taken) (word : ℕ) → word ≡ word_of pins t.levels → Keeps pins t.levels word (taken ++ t ∷ [])
keeps_on pins [] t word is = (refl, is)
keeps_on pins (b ∷ bs) t word is = (sym (levels_on b.levels bs t), is ∙ ap (λ (l : List Bool). word_of pins l) (sym (levels_on b.levels bs t)))

-- the time of a record that was found
pub time_said : (num den line : ℕ) (taken : List Taken) (fields : List (List ℕ)) (levels : List Bool) (found : Found) → FoundIs Times fields levels found
    → (said : Result (List Bool) CaptureFault) × (fields_say Times num den taken line fields ≡ timed num den taken line said found.time)
    × ((bad : ℕ) → found.bad ≡ Some bad → said ≡ Err (fault.Field line bad)) × (found.bad ≡ None → said ≡ Ok levels)
time_said num den line taken [] levels found is = (
  Ok levels,
  ap (λ (o : Option ℕ). timed num den taken line (Ok levels) o) (sym is.0),
  λ bad e. none_bad bad (subst (λ (o : Option ℕ). LevelsRead 2 [] levels o) e is.1 line),
  λ e. refl,
) where
  none_bad : (bad : ℕ) → levels_of line 2 [] ≡ Err (fault.Field line bad) → Ok levels ≡ Err (fault.Field line bad)
  none_bad bad e = cc
time_said num den line taken (field ∷ fields) levels found is = (
  levels_of line 2 fields,
  ap (λ (o : Option ℕ). timed num den taken line (levels_of line 2 fields) o) (sym is.0),
  λ bad e. subst (λ (o : Option ℕ). LevelsRead 2 fields levels o) e is.1 line,
  λ e. subst (λ (o : Option ℕ). LevelsRead 2 fields levels o) e is.1 line,
)

-- where the span stands
pub span_stands : (old : Option Span) (time : ℕ) (span : Span) (taken : List Taken) → SpanIs old taken → SpanFrom old time span → (span.start ≡ first_time time taken) × (span.last ≡ last_time time taken)
span_stands None time span [] is from = (from.0, from.1)
span_stands None time span (t ∷ taken) is from = absurd is
span_stands (Some s) time span [] is from = absurd is
span_stands (Some s) time span (t ∷ taken) is from = (ap (λ (x : Span). x.start) from ∙ is.0, ap (λ (x : Span). x.last) from ∙ is.1)

pub span_at : (rate : Rate) (old : Option Span) (time : ℕ) (span : Span) → at_of old ≡ sample_of rate old → SpanFrom old time span → (at_of old ≡ span.at) × (span.at ≤ sample_at rate.num rate.den span.start span.last)
span_at rate None time span fits from = (sym from.2, omega (arith, from.2))
span_at rate (Some s) time span fits from = (ap (λ (x : Span). x.at) (sym from), let same : span.at ≡ sample_at rate.num rate.den span.start span.last = subst (λ (x : Span). x.at ≡ sample_at rate.num rate.den x.start x.last) (sym from) fits in omega (arith, same))

module _ (num den line time : ℕ) (taken : List Taken) (said : Result (List Bool) CaptureFault) where
  pub timed_back : (was now : _) → time < last_time time taken → was ≡ from_zero (last_time time taken) → now ≡ from_zero time → timed num den taken line said (Some time) ≡ Err (fault.TimeBack line was now)
  timed_back was now less was_is now_is = cond-true (nat_lt time (last_time time taken)) _ _ (lt-ltb time (last_time time taken) less) ∙ (λ i. Err (fault.TimeBack line (sym was_is i) (sym now_is i)))

  after_back : last_time time taken ≤ time → timed num den taken line said (Some time) ≡ cond (nat_le (2 ^ 60) (sample_at num den (first_time time taken) time)) (Err (fault.TimeLarge line)) (taken_at time said)
  after_back late = cond-false (nat_lt time (last_time time taken)) _ _ (le-ltb time (last_time time taken) late)

  pub timed_large : last_time time taken ≤ time → 2 ^ 60 ≤ sample_at num den (first_time time taken) time → timed num den taken line said (Some time) ≡ Err (fault.TimeLarge line)
  timed_large late large = after_back late ∙ cond-true (nat_le (2 ^ 60) (sample_at num den (first_time time taken) time)) _ _ (le-leb (2 ^ 60) (sample_at num den (first_time time taken) time) large)

  pub timed_taken : last_time time taken ≤ time → sample_at num den (first_time time taken) time < 2 ^ 60 → timed num den taken line said (Some time) ≡ taken_at time said
  timed_taken late few = after_back late ∙ cond-false (nat_le (2 ^ 60) (sample_at num den (first_time time taken) time)) _ _ (lt-leb (2 ^ 60) (sample_at num den (first_time time taken) time) few)

times_weaker : (a b : ℕ) (taken : List Taken) → a ≤ b → TimesTo a taken → TimesTo b taken
times_weaker a b [] few times = tt
times_weaker a b (t ∷ taken) few times = (omega (arith, times.0, few), times_weaker a b taken few times.1)

times_on : (end : ℕ) (taken : List Taken) (t : Taken) → TimesTo end taken → t.time ≤ end → TimesTo end (taken ++ t ∷ [])
times_on end [] t times few = (few, tt)
times_on end (x ∷ taken) t times few = (times.0, times_on end taken t times.1 few)

sample_self : (num den x : ℕ) → sample_at num den x x ≡ 0
sample_self num den x = let none : (x - x) * num ≡ 0 = (let zero_is : x - x ≡ 0 = omega arith in ap (λ (n : ℕ). n * num) zero_is ∙ omega arith) in ap (λ (n : ℕ). n / (10 ^ 12 * den)) none ∙ zero-div (10 ^ 12 * den)

no_words : (num den : ℕ) (pins : List ℕ) (start : ℕ) (taken : List Taken) (n : ℕ) → n ≡ 0 → words_from num den pins start taken n ≡ []
unfolding words_from
no_words num den pins start taken n none = ap (λ (k : ℕ). map (λ k. word_of pins (levels_at num den start k [] taken)) (range_with_len 0 k)) none

-- one more record with a time: the samples from that of the last one on
module _ (rate : Rate) (pins : List ℕ) (old : Option Span) (span new : Span) (levels : List Bool) (word : ℕ) (t : Taken) (from : SpanFrom old t.time span) (fits : at_of old ≡ sample_of rate old) (start : new.start ≡ span.start) (last : new.last ≡ t.time) (late : span.last ≤ t.time)
    (at : new.at ≡ sample_at rate.num rate.den span.start t.time) where
  pub spans_on : (taken : List Taken) → SpanIs old taken → SpanIs (Some new) (taken ++ t ∷ [])
  spans_on taken is = by_old old from taken is where
    by_old : (old : Option Span) → SpanFrom old t.time span → (taken : List Taken) → SpanIs old taken → SpanIs (Some new) (taken ++ t ∷ [])
    by_old None from [] is = (start ∙ from.0, last, (omega (arith, last), tt))
    by_old None from (b ∷ bs) is = absurd is
    by_old (Some s) from [] is = absurd is
    by_old (Some s) from (b ∷ bs) is =
        let same : span.last ≡ s.last = ap (λ (x : Span). x.last) from in
        (start ∙ ap (λ (x : Span). x.start) from ∙ is.0, last ∙ sym (last_on b.time bs t), times_on new.last (b ∷ bs) t (times_weaker s.last new.last (b ∷ bs) (omega (arith, last, late, same)) is.2) (omega (arith, last)))

  pub words_on : (taken : List Taken) (given run : List ℕ) → SpanIs old taken → Keeps pins levels word taken → given ≡ timed_words rate.num rate.den pins taken Open → run ≡ replicate (new.at - span.at) word
      → given ++ run ≡ timed_words rate.num rate.den pins (taken ++ t ∷ []) Open
  words_on taken given run is keeps gave run_is = by_old old from fits taken is keeps gave where
    by_old : (old : Option Span) → SpanFrom old t.time span → at_of old ≡ sample_of rate old → (taken : List Taken) → SpanIs old taken → Keeps pins levels word taken → given ≡ timed_words rate.num rate.den pins taken Open
        → given ++ run ≡ timed_words rate.num rate.den pins (taken ++ t ∷ []) Open
    by_old None from fits [] is keeps gave =
        let self = ap (λ (x : ℕ). sample_at rate.num rate.den x t.time) from.0 ∙ sample_self rate.num rate.den t.time in
        let none : new.at - span.at ≡ 0 = omega (arith, at, self) in
        (λ i. gave i ++ run_is i) ∙ ap (λ (n : ℕ). replicate n word) none ∙ sym (no_words rate.num rate.den pins t.time (t ∷ []) (sample_at rate.num rate.den t.time t.time) (sample_self rate.num rate.den t.time))
    by_old None from fits (b ∷ bs) is keeps gave = absurd is
    by_old (Some s) from fits [] is keeps gave = absurd is
    by_old (Some s) from fits (b ∷ bs) is keeps gave =
        let start_is : span.start ≡ b.time = ap (λ (x : Span). x.start) from ∙ is.0 in
        let last_is : span.last ≡ last_time b.time bs = ap (λ (x : Span). x.last) from ∙ is.1 in
        let first : span.at ≡ sample_at rate.num rate.den b.time (last_time b.time bs) = ap (λ (x : Span). x.at) from ∙ fits ∙ (λ i. sample_at rate.num rate.den (is.0 i) (is.1 i)) in
        let to : new.at ≡ sample_at rate.num rate.den b.time t.time = at ∙ ap (λ (x : ℕ). sample_at rate.num rate.den x t.time) start_is in
        let rises = sample_rises rate.num rate.den b.time (last_time b.time bs) t.time (omega (arith, late, last_is)) in
        let total : sample_at rate.num rate.den b.time (last_time b.time (bs ++ t ∷ [])) ≡ span.at + (new.at - span.at) = ap (λ (x : ℕ). sample_at rate.num rate.den b.time x) (last_on b.time bs t) ∙ omega (arith, to, first, rises) in
        (λ i. gave i ++ run_is i)
        ∙ (λ i. words_from rate.num rate.den pins b.time (b ∷ bs) (sym first i) ++ replicate (new.at - span.at) (keeps.1 i))
        ∙ sym (stretch_is_run rate.num rate.den pins b.time (last_time b.time bs) t.time (b ∷ bs) (t ∷ []) span.at (new.at - span.at) (subst (λ (x : ℕ). TimesTo x (b ∷ bs)) is.1 is.2) (omega arith, tt) first (omega (arith, to, first, rises)))
        ∙ ap (λ (n : ℕ). words_from rate.num rate.den pins b.time (b ∷ (bs ++ t ∷ [])) n) (sym total)

-- the last sample, at a clean end
pub words_end : (rate : Rate) (pins : List ℕ) (span : Span) (levels : List Bool) (word : ℕ) (taken : List Taken) (given run : List ℕ) → SpanIs (Some span) taken → Keeps pins levels word taken → given ≡ timed_words rate.num rate.den pins taken Open → run ≡ replicate 1 word
    → timed_words rate.num rate.den pins taken Clean ≡ given ++ run
words_end rate pins span levels word [] given run is keeps gave run_is = absurd is
words_end rate pins span levels word (b ∷ bs) given run is keeps gave run_is =
    last_is_run rate.num rate.den pins b.time (last_time b.time bs) (b ∷ bs) (sample_at rate.num rate.den b.time (last_time b.time bs)) (subst (λ (x : ℕ). TimesTo x (b ∷ bs)) is.1 is.2) refl
    ∙ (λ i. sym gave i ++ replicate 1 (sym keeps.1 i)) ∙ ap (λ (l : List ℕ). given ++ l) (sym run_is)

-- the sample that is held
pub held_given : (pins : List ℕ) (levels : List Bool) (word : ℕ) (taken : List Taken) (given run : List ℕ) → GaveRows pins true taken given → Keeps pins levels word taken → run ≡ replicate 1 word → given ++ run ≡ words_of pins taken
held_given pins levels word taken given run gave keeps run_is =
    let last_keeps : Keeps pins levels word (gave.0 ++ gave.1 ∷ []) = subst (λ (l : List Taken). Keeps pins levels word l) gave.2 keeps in
    (λ i. gave.3 i ++ run_is i) ∙ ap (λ (w : ℕ). words_of pins gave.0 ++ replicate 1 w) (word_is gave.0 gave.1 last_keeps)
    ∙ sym (map-append (λ (t : Taken). word_of pins t.levels) gave.0 (gave.1 ∷ [])) ∙ ap (λ (l : List Taken). words_of pins l) (sym gave.2)
  where
    word_is : (before : List Taken) (t : Taken) → Keeps pins levels word (before ++ t ∷ []) → word ≡ word_of pins t.levels
    word_is [] t keeps = keeps.1
    word_is (b ∷ bs) t keeps = keeps.1 ∙ ap (λ (l : List Bool). word_of pins l) (levels_on b.levels bs t)

-- other channels, where nothing was given
keeps_others : (pins others : List ℕ) (levels : List Bool) (word : ℕ) (taken : List Taken) → Keeps pins levels word taken → Keeps others levels (word_of others levels) taken
keeps_others pins others levels word [] keeps = tt
keeps_others pins others levels word (t ∷ taken) keeps = (keeps.0, ap (λ (l : List Bool). word_of others l) keeps.0)

no_rows : (pins others : List ℕ) (taken : List Taken) → [] ≡ words_of pins taken → [] ≡ words_of others taken
no_rows pins others [] is = refl
no_rows pins others (t ∷ taken) is = cc

words_len : (num den : ℕ) (pins : List ℕ) (start : ℕ) (taken : List Taken) (n : ℕ) → length (words_from num den pins start taken n) ≡ n
unfolding words_from
words_len num den pins start taken n = length-map-range_with_len (λ (k : ℕ). word_of pins (levels_at num den start k [] taken)) 0 n

gave_others : (mode : CsvMode) (rate : Rate) (pins others : List ℕ) (held : Bool) (taken : List Taken) → Gave mode rate pins held taken [] → Gave mode rate others held taken []
gave_others Rows rate pins others false taken gave = no_rows pins others taken gave
gave_others Rows rate pins others true taken gave = (gave.0, gave.1, gave.2, no_rows pins others gave.0 gave.3)
gave_others Times rate pins others held [] gave = gave
gave_others Times rate pins others held (t ∷ taken) gave =
    let n = sample_at rate.num rate.den t.time (last_time t.time taken) in
    let none : n ≡ 0 = sym (words_len rate.num rate.den pins t.time (t ∷ taken) n) ∙ ap length (sym gave.1) in
    (gave.0, sym (no_words rate.num rate.den others t.time (t ∷ taken) n none))

pub selects : (mode : CsvMode) (rate : Rate) (want : ℕ) (pins others : List ℕ) (levels : List Bool) (word other : ℕ) (span : Option Span) (held : Bool) (records : List Record) → other ≡ word_of others levels → BodyAt mode rate want pins levels word span held records []
    → BodyAt mode rate want others levels other span held records []
selects mode rate want pins others levels word other span held records is st = record {
  taken = st.taken;
  read = st.read;
  keeps = subst (λ (w : ℕ). Keeps others levels w st.taken) (sym is) (keeps_others pins others levels word st.taken st.keeps);
  spans = st.spans;
  gave = gave_others mode rate pins others held st.taken st.gave;
}

-- a fault of a record
pub body_faulty : (body : Body) (levels : List Bool) (records : List Record) (given : List ℕ) (line : ℕ) (fields : List (List ℕ)) (f : CaptureFault)
    → (st : BodyAt body.mode body.rate body.want (pins_in body) levels body.word body.span body.held records given) → body.held ≡ false
    → record_says body.mode body.rate.num body.rate.den body.want st.taken (line, fields) ≡ Err f → BodyFaulty body (records ++ (line, fields) ∷ []) given f
body_faulty body levels records given line fields f st held is = record {
  taken = st.taken;
  read = read_fault body.mode body.rate.num body.rate.den body.want records st.taken line fields st.read f is;
  gave = gave_before body.mode body.rate (pins_in body) body.held st.taken given f st.gave held;
}

-- what the fields of a record say that is a sample
pub row_said : (mode : CsvMode) (num den line : ℕ) (taken : List Taken) (fields : List (List ℕ)) (levels : List Bool) (found : Found) → mode ≡ Rows → FoundIs mode fields levels found
    → ((bad : ℕ) → found.bad ≡ Some bad → fields_say mode num den taken line fields ≡ Err (fault.Field line bad)) × (found.bad ≡ None → fields_say mode num den taken line fields ≡ Ok (record { time = 0; levels = levels }))
row_said mode num den line taken fields levels found is found_is =
    let rows = subst (λ (m : CsvMode). FoundIs m fields levels found) is found_is in
    let said = ap (λ (m : CsvMode). fields_say m num den taken line fields) is in (
      λ bad e. said ∙ ap (λ (r : Result (List Bool) CaptureFault). taken_at 0 r) (subst (λ (o : Option ℕ). LevelsRead 1 fields levels o) e rows line),
      λ e. said ∙ ap (λ (r : Result (List Bool) CaptureFault). taken_at 0 r) (subst (λ (o : Option ℕ). LevelsRead 1 fields levels o) e rows line),
    )

rows_gave : (rate : Rate) (pins : List ℕ) (held : Bool) (taken : List Taken) (given : List ℕ) → Gave Rows rate pins held taken given → held ≡ false → given ≡ words_of pins taken
rows_gave rate pins true taken given gave e = absurd cc e
rows_gave rate pins false taken given gave e = gave

pub row_taken : (mode : CsvMode) (rate : Rate) (want : ℕ) (pins : List ℕ) (before levels : List Bool) (old word : ℕ) (span : Option Span) (held : Bool) (records : List Record) (given : List ℕ) (line : ℕ) (fields : List (List ℕ)) → mode ≡ Rows
    → (st : BodyAt mode rate want pins before old span held records given) → held ≡ false → record_says mode rate.num rate.den want st.taken (line, fields) ≡ Ok (record { time = 0; levels = levels }) → word ≡ word_of pins levels
    → BodyAt mode rate want pins levels word span true (records ++ (line, fields) ∷ []) (given ++ [])
row_taken mode rate want pins before levels old word span held records given line fields is st none said word_is =
    let t : Taken = record { time = 0; levels = levels } in record {
      taken = st.taken ++ t ∷ [];
      read = read_taken mode rate.num rate.den want records st.taken line fields st.read t said;
      keeps = keeps_on pins st.taken t word word_is;
      spans = subst (λ (m : CsvMode). Spans m span (st.taken ++ t ∷ [])) (sym is) tt;
      gave = subst (λ (m : CsvMode). Gave m rate pins true (st.taken ++ t ∷ []) (given ++ [])) (sym is)
          (st.taken, t, refl, append-nil given ∙ rows_gave rate pins held st.taken given (subst (λ (m : CsvMode). Gave m rate pins held st.taken given) is st.gave) none);
    }

-- one with a time
pub timed_on : (mode : CsvMode) (rate : Rate) (want : ℕ) (pins : List ℕ) (before levels : List Bool) (old word time : ℕ) (span : Option Span) (from new : Span) (held : Bool) (records : List Record) (given run : List ℕ) (line : ℕ) (fields : List (List ℕ)) → mode ≡ Times
    → (st : BodyAt mode rate want pins before old span held records given) → held ≡ false → record_says mode rate.num rate.den want st.taken (line, fields) ≡ Ok (record { time = time; levels = levels }) → word ≡ word_of pins levels
    → SpanFrom span time from → at_of span ≡ sample_of rate span → new.start ≡ from.start → new.last ≡ time → from.last ≤ time → new.at ≡ sample_at rate.num rate.den from.start time → run ≡ replicate (new.at - from.at) old
    → BodyAt mode rate want pins levels word (Some new) held (records ++ (line, fields) ∷ []) (given ++ run)
timed_on mode rate want pins before levels old word time span from new held records given run line fields is st none said word_is from_is fits start last late at run_is =
    let t : Taken = record { time = time; levels = levels } in
    let spans = subst (λ (m : CsvMode). Spans m span st.taken) is st.spans in
    let gave = subst (λ (m : CsvMode). Gave m rate pins held st.taken given) is st.gave in record {
      taken = st.taken ++ t ∷ [];
      read = read_taken mode rate.num rate.den want records st.taken line fields st.read t said;
      keeps = keeps_on pins st.taken t word word_is;
      spans = subst (λ (m : CsvMode). Spans m (Some new) (st.taken ++ t ∷ [])) (sym is) (spans_on rate pins span from new before old t from_is fits start last late at st.taken spans);
      gave = subst (λ (m : CsvMode). Gave m rate pins held (st.taken ++ t ∷ []) (given ++ run)) (sym is) (none, words_on rate pins span from new before old t from_is fits start last late at st.taken given run spans st.keeps gave.1 run_is);
    }

pub times_said : (mode : CsvMode) (num den line : ℕ) (taken : List Taken) (fields : List (List ℕ)) (levels : List Bool) (found : Found) → mode ≡ Times → FoundIs mode fields levels found
    → (said : Result (List Bool) CaptureFault) × (fields_say mode num den taken line fields ≡ timed num den taken line said found.time)
    × ((bad : ℕ) → found.bad ≡ Some bad → said ≡ Err (fault.Field line bad)) × (found.bad ≡ None → said ≡ Ok levels)
times_said mode num den line taken fields levels found is found_is =
    let one = time_said num den line taken fields levels found (subst (λ (m : CsvMode). FoundIs m fields levels found) is found_is) in
    (one.0, ap (λ (m : CsvMode). fields_say m num den taken line fields) is ∙ one.1, one.2, one.3)

pub times_spans : (mode : CsvMode) (old : Option Span) (time : ℕ) (span : Span) (taken : List Taken) → mode ≡ Times → Spans mode old taken → SpanFrom old time span → (span.start ≡ first_time time taken) × (span.last ≡ last_time time taken)
times_spans mode old time span taken is spans from = span_stands old time span taken (subst (λ (m : CsvMode). Spans m old taken) is spans) from

-- the sample that was held is given
pub flushed : (mode : CsvMode) (rate : Rate) (want : ℕ) (pins : List ℕ) (levels : List Bool) (word : ℕ) (span : Option Span) (held : Bool) (records : List Record) (given run : List ℕ) → held ≡ true → run ≡ replicate 1 word
    → BodyAt mode rate want pins levels word span held records given → BodyAt mode rate want pins levels word span false records (given ++ run)
flushed mode rate want pins levels word span false records given run is run_is st = absurd cc is
flushed Times rate want pins levels word span true records given run is run_is st = absurd (let bad = st.gave.0 in cc)
flushed Rows rate want pins levels word span true records given run is run_is st = record {
  taken = st.taken;
  read = st.read;
  keeps = st.keeps;
  spans = st.spans;
  gave = held_given pins levels word st.taken given run st.gave st.keeps run_is;
}

-- the last sample of records with times
pub times_end : (mode : CsvMode) (rate : Rate) (want : ℕ) (pins : List ℕ) (levels : List Bool) (word : ℕ) (old : Option Span) (span : Span) (held : Bool) (records : List Record) (given run : List ℕ) → mode ≡ Times → old ≡ Some span → run ≡ replicate 1 word
    → BodyAt mode rate want pins levels word old held records given
    → (taken : List Taken) × (read_front (record_says mode rate.num rate.den want) [] records ≡ (taken, None)) × (settled_by mode rate.num rate.den pins taken Clean ≡ given ++ run)
times_end mode rate want pins levels word old span held records given run is span_is run_is st =
    let spans = subst (λ (o : Option Span). SpanIs o st.taken) span_is (subst (λ (m : CsvMode). Spans m old st.taken) is st.spans) in
    let gave = subst (λ (m : CsvMode). Gave m rate pins held st.taken given) is st.gave in
    (st.taken, st.read, ap (λ (m : CsvMode). settled_by m rate.num rate.den pins st.taken Clean) is ∙ words_end rate pins span levels word st.taken given run spans st.keeps gave.1 run_is)

pub one_sample : (run : Run) (word : ℕ) → run.len ≡ 1 → run.value ≡ word → samples run ≡ replicate 1 word
unfolding samples
one_sample run word len value = λ i. replicate (len i) (value i)
