use Rattle.std.proofs.Common.{◌≡◌, ◌∙◌, ◌+◌, ap, sym, subst, refl, arith, replicate, List, [], ℕ, Some}
use Rattle.std.proofs.lemmas.List.{append-nil}
use Rattle.capture_csv.specs.Reader.{GoesHeld}
use Rattle.capture_csv.specs.Running.{at_in, held_in}
use Rattle.capture_csv.specs.declared.body.Body.{Body}
use Rattle.capture_csv.proofs.Answering.{flush_counts, flushed_run}
use Rattle.capture_csv.proofs.Holding.{goes_on, held_goes, row_goes, run_is, run_more}
use Rattle.capture_csv.proofs.Repeating.{run_again}
use Rattle.capture_csv.proofs.reader.CsvReader.held_run.Goals as goal

pub held-init : goal.held-init
held-init c =
    let run = c.in-Some.run' in
    let some = c.in-Some.ensures in
    let again = c.again.ensures in
    let counts = some.counts in
    let more = again.counts in
    let one = run.not_empty in
    record {
      phase = again.phase ∙ some.phase ∙ c.reads_rows.ensures.going c.if-not-reads_rows.false;
      none = ap (λ (b : Body). held_in b) again.body ∙ some.held;
      some = omega (arith, one);
      gave = goes_on c.args.self.now c.sample.new.self c.again.new.self (replicate run.len run.value) _ (replicate (run.len + c.again.result) run.value) (run_again run.len run.value c.again.result c.sample.new.self.body.word (sym some.value))
          (subst (λ (l : List ℕ). GoesHeld c.args.self.now c.sample.new.self l) (run_is run) some.given) again.given;
      counts = omega (arith, counts, more);
      form = record { mode = again.form.mode ∙ some.form.mode; header = again.form.header ∙ some.form.header; names = again.form.names ∙ some.form.names; rate = again.form.rate ∙ some.form.rate; pins = again.form.pins ∙ some.form.pins };
      is_open = again.is_open ∙ some.is_open;
    }

pub returns-then-not-row-clause-given : goal.returns-then-not-row-clause-given
returns-then-not-row-clause-given c =
    let s = c.args.self.now in
    let i = c.held.invariant in
    let row = c.row.ensures in
    let all = replicate c.held.len c.in-Some.run'.value in
    held_goes s c.row.new.self _ (c.reads_rows.ensures.going c.if-not-reads_rows.false) (row.phase ∙ i.phase)
    (goes_on s c.held.self c.row.new.self all [] _ (append-nil all ∙ sym (run_is _)) i.gave (row_goes c.held.self c.row.new.self c.row.result row.goes row.kept))

pub held-preserved : goal.held-preserved
held-preserved c =
    let s = c.args.self.now in
    let i = c.held.invariant in
    let row = c.row.ensures in
    let taken = c.row.new.self in
    let flush = c.flush.ensures in
    let again = c.again-in-held.ensures in
    let body = c.flush.new.self in
    let new = c.again-in-held.new.self in
    let value = c.in-Some.run'.value in
    let len = c.held.len in
    let all = replicate len value in
    let yes = c.if-not-row.false in
    let held = row.held yes in
    let counts = flush_counts taken.body.mode body.mode taken.phase taken.lines.number taken.body.held body.held (at_in taken.body) c.flush.result.len held flush.held (taken.body.rows held) flush.form.mode (taken.counted held) flush.len (at_in body) in
    let more = again.counts in
    let word = flush.word ∙ sym c.word.ensures ∙ c.if-word-value.false in
    let total : len + 1 + c.again-in-held.result ≡ len + (1 + c.again-in-held.result) = omega arith in
    record {
      phase = again.phase ∙ row.phase ∙ i.phase;
      none = ap (λ (b : Body). held_in b) again.body ∙ flush.held;
      some = omega arith;
      gave = goes_on s _ new (replicate (len + 1) value) _ (replicate (len + (1 + c.again-in-held.result)) value) (run_again (len + 1) value c.again-in-held.result body.word word ∙ ap (λ (n : ℕ). replicate n value) total)
          (goes_on s taken _ all _ (replicate (len + 1) value) (run_more len value c.flush.result (flush.value ∙ sym c.word.ensures ∙ c.if-word-value.false) flush.len)
          (goes_on s c.held.self taken all [] all (append-nil all) i.gave (row.goes yes))
          (flushed_run taken _ (Some c.flush.result) refl refl refl flush.form.mode flush.form.want flush.flushes))
          again.given;
      counts = omega (arith, i.counts, row.counts yes, counts, more, flush.len);
      form = record {
        mode = again.form.mode ∙ flush.form.mode ∙ row.form.mode ∙ i.form.mode;
        header = again.form.header ∙ row.form.header ∙ i.form.header;
        names = again.form.names ∙ row.form.names ∙ i.form.names;
        rate = again.form.rate ∙ flush.form.rate ∙ row.form.rate ∙ i.form.rate;
        pins = again.form.pins ∙ flush.form.pins ∙ row.form.pins ∙ i.form.pins;
      };
      is_open = again.is_open ∙ row.is_open ∙ i.is_open;
    }
