-- A decoder of any kind whose machine stays is the same.
use Rattle.std.proofs.Common.{◌≡◌, None}
use Rattle.std.proofs.Math.Path.{to_path_p}
use Rattle.std.proofs.Props.{props}
use Rattle.la_base.specs.declared.samples.TheConstants.{MOST_PINS}
use Rattle.decoder_set.specs.Faults.{open_fault}
use Rattle.decoder_set.specs.Owning.{IsOwn}
use Rattle.decoder_set.specs.declared.any.AnyDecoder.{AnyDecoder}
use Rattle.decoder_set.specs.declared.any_machine.AnyMachine.{AnyMachine}
use Rattle.decoder_set.specs.laws.OwnLaws.{own_prop}

pub same_any : (d : AnyDecoder) (new : AnyMachine) (own : IsOwn d.setup new)
    (opened : open_fault MOST_PINS d.setup.kind d.setup.values.given d.setup.rate ≡ None)
    → new ≡ d.machine
    → ◌≡◌ {A = AnyDecoder} record {
      setup = d.setup;
      machine = new;
      own = own;
      opened = opened;
    } d
same_any d new own opened is =
    let one : IsProp (open_fault MOST_PINS d.setup.kind d.setup.values.given d.setup.rate ≡ None) =
    hlevel props in
    λ i. record {
      setup = d.setup;
      machine = is i;
      own = to_path_p (λ j. IsOwn d.setup (is j)) {a = own} (own_prop d.setup d.machine _ d.own) i;
      opened = one opened d.opened i;
    }
