use Rattle.std.proofs.lemmas.Int.{to_z-of_z}
use Rattle.std.specs.Int.{w128}
use Rattle.std.proofs.Common.{rules, ◌∙◌, ap, refl, arith, ℕ, List, Bool, Option, Result}
use Rattle.la_io.specs.declared.fault.CaptureFault.{CaptureFault}
use Rattle.capture_csv.specs.Csv.{taken_at, timed, word_of}
use Rattle.capture_csv.specs.Times.{from_zero, sample_at}
use Rattle.capture_csv.proofs.Taking.{body_faulty, said, span_at, timed_back, timed_large, timed_on, timed_taken, times_said, times_spans}
use Rattle.capture_csv.proofs.Words.{sample_rises}
use Rattle.capture_csv.proofs.body.Body.take_timed.Goals as goal

pub overflow_sub-at : goal.overflow_sub-at
overflow_sub-at c =
    let s = c.args.self.now in
    let span = c.span_from-span.result in
    let at = span_at s.rate s.span c.in-Some.time span s.timed c.span_from-span.ensures in
    let rises = sample_rises s.rate.num s.rate.den span.start span.last c.in-Some.time c.if-time-span.false in
    omega (arith, at.1, rises, c.sample_at-at.ensures)

pub returns-clause-counts : goal.returns-clause-counts
returns-clause-counts c =
    let s = c.args.self.now in
    let span = c.span_from-span.result in
    let at = span_at s.rate s.span c.in-Some.time span s.timed c.span_from-span.ensures in
    let rises = sample_rises s.rate.num s.rate.den span.start span.last c.in-Some.time c.if-time-span.false in
    omega (arith, at.0, at.1, rises, c.sample_at-at.ensures, c.run_of-run.ensures.len_is)

pub returns-in-None-clause-says : goal.returns-in-None-clause-says
returns-in-None-clause-says c = λ levels fields records given same found st held.
    let s = c.args.self.now in
    let one = times_said s.mode s.rate.num s.rate.den c.args.line st.taken fields s.levels.items c.args.found c.requires.mode found in
    body_faulty s levels records given c.args.line fields _ st held
    (said s.mode s.rate.num s.rate.den s.want records st.taken c.args.line fields st.read same ∙ one.1 ∙ ap (λ (o : Option ℕ). timed s.rate.num s.rate.den st.taken c.args.line one.0 o) c.in-None.is)

pub returns-then-time-span-clause-says : goal.returns-then-time-span-clause-says
returns-then-time-span-clause-says c = λ levels fields records given same found st held.
    let s = c.args.self.now in
    let time = c.in-Some.time in
    let one = times_said s.mode s.rate.num s.rate.den c.args.line st.taken fields s.levels.items c.args.found c.requires.mode found in
    let spans = times_spans s.mode s.span time c.span_from-span.result st.taken c.requires.mode st.spans c.span_from-span.ensures in
    body_faulty s levels records given c.args.line fields _ st held
    (said s.mode s.rate.num s.rate.den s.want records st.taken c.args.line fields st.read same ∙ one.1 ∙ ap (λ (o : Option ℕ). timed s.rate.num s.rate.den st.taken c.args.line one.0 o) c.in-Some.is
    ∙ timed_back s.rate.num s.rate.den c.args.line time st.taken one.0 _ _ (omega (arith, c.if-time-span.true, spans.1)) (to_z-of_z w128 c.from_zero.result (search rules) ∙ c.from_zero.ensures ∙ ap (λ (n : ℕ). from_zero n) spans.1) (to_z-of_z w128 c.from_zero-then-time-span.result (search rules) ∙ c.from_zero-then-time-span.ensures))

pub returns-then-at-ge-LARGE-clause-says : goal.returns-then-at-ge-LARGE-clause-says
returns-then-at-ge-LARGE-clause-says c = λ levels fields records given same found st held.
    let s = c.args.self.now in
    let time = c.in-Some.time in
    let one = times_said s.mode s.rate.num s.rate.den c.args.line st.taken fields s.levels.items c.args.found c.requires.mode found in
    let spans = times_spans s.mode s.span time c.span_from-span.result st.taken c.requires.mode st.spans c.span_from-span.ensures in
    let at = c.sample_at-at.ensures ∙ ap (λ (n : ℕ). sample_at s.rate.num s.rate.den n time) spans.0 in
    body_faulty s levels records given c.args.line fields _ st held
    (said s.mode s.rate.num s.rate.den s.want records st.taken c.args.line fields st.read same ∙ one.1 ∙ ap (λ (o : Option ℕ). timed s.rate.num s.rate.den st.taken c.args.line one.0 o) c.in-Some.is
    ∙ timed_large s.rate.num s.rate.den c.args.line time st.taken one.0 (omega (arith, c.if-time-span.false, spans.1)) (omega (arith, c.if-at-ge-LARGE.true, at)))

pub returns-in-Some-bad-clause-says : goal.returns-in-Some-bad-clause-says
returns-in-Some-bad-clause-says c = λ levels fields records given same found st held.
    let s = c.args.self.now in
    let time = c.in-Some.time in
    let one = times_said s.mode s.rate.num s.rate.den c.args.line st.taken fields s.levels.items c.args.found c.requires.mode found in
    let spans = times_spans s.mode s.span time c.span_from-span.result st.taken c.requires.mode st.spans c.span_from-span.ensures in
    let at = c.sample_at-at.ensures ∙ ap (λ (n : ℕ). sample_at s.rate.num s.rate.den n time) spans.0 in
    body_faulty s levels records given c.args.line fields _ st held
    (said s.mode s.rate.num s.rate.den s.want records st.taken c.args.line fields st.read same ∙ one.1 ∙ ap (λ (o : Option ℕ). timed s.rate.num s.rate.den st.taken c.args.line one.0 o) c.in-Some.is
    ∙ timed_taken s.rate.num s.rate.den c.args.line time st.taken one.0 (omega (arith, c.if-time-span.false, spans.1)) (omega (arith, c.if-at-ge-LARGE.false, at))
    ∙ ap (λ (r : Result (List Bool) CaptureFault). taken_at time r) (one.2 c.in-Some-bad.column c.in-Some-bad.is))

pub returns-clause-says : goal.returns-clause-says
returns-clause-says c = λ levels fields records given same found st held.
    let s = c.args.self.now in
    let time = c.in-Some.time in
    let span = c.span_from-span.result in
    let one = times_said s.mode s.rate.num s.rate.den c.args.line st.taken fields s.levels.items c.args.found c.requires.mode found in
    let spans = times_spans s.mode s.span time span st.taken c.requires.mode st.spans c.span_from-span.ensures in
    let at = c.sample_at-at.ensures ∙ ap (λ (n : ℕ). sample_at s.rate.num s.rate.den n time) spans.0 in
    timed_on s.mode s.rate s.want s.pins.items levels s.levels.items s.word c.word_of-self.result time s.span span _ s.held records given _ c.args.line fields c.requires.mode st held
    (said s.mode s.rate.num s.rate.den s.want records st.taken c.args.line fields st.read same ∙ one.1 ∙ ap (λ (o : Option ℕ). timed s.rate.num s.rate.den st.taken c.args.line one.0 o) c.in-Some.is
    ∙ timed_taken s.rate.num s.rate.den c.args.line time st.taken one.0 (omega (arith, c.if-time-span.false, spans.1)) (omega (arith, c.if-at-ge-LARGE.false, at))
    ∙ ap (λ (r : Result (List Bool) CaptureFault). taken_at time r) (one.3 c.in-None-bad.is))
    (c.word_of-self.ensures ∙ (λ i. word_of (c.deref.ensures.0 i) (c.deref-2.ensures.value i)))
    c.span_from-span.ensures s.timed refl refl c.if-time-span.false c.sample_at-at.ensures c.run_of-run.ensures.gives
