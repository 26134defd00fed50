use Rattle.capture_any.proofs.Answering.{next_csv, next_raw, next_vcd}
use Rattle.capture_any.proofs.capture.Capture.next.Goals as goal

pub returns-in-Raw-clause-next : goal.returns-in-Raw-clause-next
returns-in-Raw-clause-next g c = next_raw c.args.self.now _ _ _ _ _ _ c.next.ensures.next c.next.ensures.few c.answer_of.ensures c.in-Raw.is

pub returns-in-Vcd-clause-next : goal.returns-in-Vcd-clause-next
returns-in-Vcd-clause-next g c = next_vcd c.args.self.now _ _ _ _ _ c.next-in-Vcd.ensures.next c.next-in-Vcd.ensures.few c.in-Vcd.is

pub returns-in-Csv-clause-next : goal.returns-in-Csv-clause-next
returns-in-Csv-clause-next g c = next_csv c.args.self.now _ _ _ _ _ c.next-in-Csv.ensures.next c.next-in-Csv.ensures.few c.in-Csv.is
