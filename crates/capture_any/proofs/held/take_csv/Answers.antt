use Rattle.std.proofs.Common.{◌++◌, ◌∷◌, [], refl, sym, ◌∙◌, ap, arith, append_assoc}
use Rattle.std.proofs.lemmas.List.{append-nil}
use Rattle.la_base.proofs.RunLemmas.{samples_len}
use Rattle.capture_csv.specs.Reader.{CsvStands, csv_given}
use Rattle.capture_csv.proofs.Stepping.{same_on}
use Rattle.capture_any.proofs.Taking.{counts_one, handed_more, handed_none}
use Rattle.capture_any.proofs.held.take_csv.Goals as goal

pub loop-reader-init : goal.loop-reader-init
loop-reader-init c = record {
  new = [];
  into = sym (append-nil c.args.into.now);
  gave = handed_none (CsvStands c.args.reader.now);
  counts = omega arith;
  form = record { mode = refl; header = refl; names = refl; rate = refl; pins = refl };
  is_open = refl;
  few = λ few. few;
}

pub loop-reader-preserved : goal.loop-reader-preserved
loop-reader-preserved c =
    let i = c.loop-reader.invariant in
    let held = c.in-Some.ensures in
    let run = c.in-Some.run' in
    record {
      new = i.new ++ run ∷ [];
      into = c.push.ensures ∙ ap (λ l. l ++ run ∷ []) i.into ∙ append_assoc c.args.into.now i.new (run ∷ []);
      gave = handed_more (CsvStands c.args.reader.now) (CsvStands c.loop-reader.reader) (CsvStands c.held_run.new.self) i.new run i.gave held.given;
      counts = counts_one i.new run (csv_given c.args.reader.now) (csv_given c.loop-reader.reader) (csv_given c.held_run.new.self) i.counts (omega (arith, samples_len run, held.counts));
      form = same_on _ _ _ i.form held.form;
      is_open = held.is_open ∙ i.is_open;
      few = λ _. held.few;
    }
