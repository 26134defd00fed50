use Rattle.std.proofs.Common.{arith}
use Rattle.std.proofs.lemmas.Bool.{ltb-false}
use Rattle.capture_vcd.specs.Running.{channels_in}
use Rattle.capture_vcd.proofs.Chaining.{keys_count, none_has}
use Rattle.capture_vcd.proofs.body.Body.may_change.Goals as goal

pub returns : goal.returns
returns c = λ past.
    let s = c.args.self.now in
    let codes = s.codes.items in
    let leads = c.first.ensures (channels_in s) s.linked in
    let behind = ltb-false c.first.result c.len.result past in
    none_has codes c.args.code.now s.slots.items (λ k less. leads.none k (omega arith) (omega (arith, less, behind, c.len.ensures.value, keys_count codes s.slots.items)) less)
