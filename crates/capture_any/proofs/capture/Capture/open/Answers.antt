use Rattle.std.proofs.Common.{◌≡◌, [], rules, arith, refl}
use Rattle.la_io.specs.Capture.{Cut}
use Rattle.std.proofs.KnownBytes.{Consumes-nil}
use Rattle.capture_raw.specs.Raw.{raw_names}
use Rattle.capture_raw.specs.Reader.{raw_channels, raw_rate}
use Rattle.capture_any.proofs.Answering.{opens_csv}
use Rattle.capture_any.proofs.CaptureLaws.{opened_head}
use Rattle.capture_any.specs.declared.form.Form.TheVariants.{Raw, Csv}
use Rattle.capture_any.proofs.capture.Capture.open.Goals as goal

pub returns-in-Ok-clause-opens : goal.returns-in-Ok-clause-opens
returns-in-Ok-clause-opens g c =
    let is : Raw (raw_channels c.open.result) (raw_rate c.open.result) ≡ c.args.form = search rules in
    let named : c.in-Ok.names ≡ raw_names (raw_channels c.open.result) = search rules in
    record {
      bytes = [];
      consumed = Consumes-nil (g.S.Source.left c.args.source.now);
      opened = (
        Cut,
        λ e. cc,
        record {
          stands = (refl, c.open.ensures.new);
          few = omega (arith, c.open.ensures.new.taken);
        },
        opened_head c.args.form (raw_channels c.open.result) (raw_rate c.open.result) c.in-Ok.names is named,
      );
    }

pub returns-in-Ok-open-2-clause-opens : goal.returns-in-Ok-open-2-clause-opens
returns-in-Ok-open-2-clause-opens g c =
    let form = c.in-Csv in
    let is : Csv form.mode form.header form.rate ≡ c.args.form = search rules in
    opens_csv c.args.form form.mode form.header form.rate (g.S.Source.left c.args.source.now) _ c.in-Ok-open-2.reader is c.in-Ok-open-2.ensures.opens c.in-Ok-open-2.ensures.new
