use Rattle.std.proofs.Common.{◌∙◌, ◌++◌, List, sym, ap, append_assoc, arith}
use Rattle.std.specs.List.{flat_map}
use Rattle.std.proofs.lemmas.List.{append-nil}
use Rattle.la_base.specs.declared.wires.Out.{Out}
use Rattle.dec_onewire.specs.declared.net.held.Role.TheVariants.{Byte}
use Rattle.dec_onewire.specs.Net.{bytes_cut, group_outs}
use Rattle.reference_devices.proofs.NetRounds.{byte_round, no_byte}
use Rattle.reference_devices.proofs.onewire_net.add_bytes.Goals as goal

pub loop-rest-preserved : goal.loop-rest-preserved
loop-rest-preserved c =
    let s = c.loop-rest in
    let group = c.split_at.result.0.now in
    let behind = flat_map group_outs (bytes_cut c.split_at.result.1.now).whole in
    ap (λ (l : List Out). l ++ behind) c.in_ok-add_byte.ensures
    ∙ append_assoc s.outs.items (group_outs (record { role = Byte; bits = group })) behind
    ∙ ap (λ (l : List Out). s.outs.items ++ l)
    ((λ i. group_outs (record { role = Byte; bits = c.split_at.ensures.front i }) ++ flat_map group_outs (bytes_cut (c.split_at.ensures.back i)).whole)
    ∙ sym (byte_round s.rest.now (omega arith)))
    ∙ s.invariant

pub returns : goal.returns
returns c =
    let s = c.loop-rest in
    sym (append-nil s.outs.items) ∙ ap (λ (l : List Out). s.outs.items ++ l) (sym (no_byte s.rest.now (omega arith))) ∙ s.invariant
