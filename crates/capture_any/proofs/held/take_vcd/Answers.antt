use Rattle.std.proofs.Common.{◌++◌, ◌∷◌, [], refl, sym, ◌∙◌, ap, arith, append_assoc}
use Rattle.std.proofs.lemmas.List.{append-nil}
use Rattle.la_base.proofs.RunLemmas.{samples_len}
use Rattle.capture_vcd.specs.Reader.{VcdStands, vcd_given}
use Rattle.capture_vcd.proofs.Stepping.{same_on}
use Rattle.capture_any.proofs.Taking.{counts_one, handed_more, handed_none}
use Rattle.capture_any.proofs.held.take_vcd.Goals as goal

pub loop-reader-init : goal.loop-reader-init
loop-reader-init c = record {
  new = [];
  into = sym (append-nil c.args.into.now);
  gave = handed_none (VcdStands c.args.reader.now);
  counts = omega arith;
  form = record { names = refl; rate = refl; pins = refl; down = refl };
  is_open = refl;
  few = λ few. few;
}

pub loop-reader-preserved : goal.loop-reader-preserved
loop-reader-preserved c =
    let i = c.loop-reader.invariant in
    let held = c.in-Some.ensures in
    let run = c.in-Some.run' in
    record {
      new = i.new ++ run ∷ [];
      into = c.push.ensures ∙ ap (λ l. l ++ run ∷ []) i.into ∙ append_assoc c.args.into.now i.new (run ∷ []);
      gave = handed_more (VcdStands c.args.reader.now) (VcdStands c.loop-reader.reader) (VcdStands c.held_run.new.self) i.new run i.gave held.given;
      counts = counts_one i.new run (vcd_given c.args.reader.now) (vcd_given c.loop-reader.reader) (vcd_given c.held_run.new.self) i.counts (omega (arith, samples_len run, held.counts.0));
      form = same_on _ _ _ i.form held.form;
      is_open = held.is_open ∙ i.is_open;
      few = λ _. held.few;
    }
