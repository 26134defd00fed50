use Rattle.std.proofs.Common.{◌∙◌, ◌++◌, ◌∷◌, [], Bool, List, sym, ap, append_assoc, arith}
use Rattle.std.proofs.lemmas.List.{append-nil}
use Rattle.la_base.specs.declared.wires.Packet.{Packet}
use Rattle.dec_onewire.specs.Net.{directions, last_bit}
use Rattle.reference_devices.proofs.NetRounds.{no_step, step_round}
use Rattle.reference_devices.proofs.onewire_net.directions.Goals as goal

pub loop-rest-preserved : goal.loop-rest-preserved
loop-rest-preserved c =
    let s = c.loop-rest in
    let step = c.last_bit.result in
    let behind = directions c.split_at.result.1.now in
    ap (λ (l : List Bool). l ++ behind) c.in_ok-push.ensures.items
    ∙ append_assoc s.list.items (step ∷ []) behind
    ∙ ap (λ (l : List Bool). s.list.items ++ l)
    ((λ i. (c.last_bit.ensures ∙ ap last_bit c.split_at.ensures.front) i ∷ directions (c.split_at.ensures.back i))
    ∙ sym (step_round s.rest.now (omega arith)))
    ∙ s.invariant

pub returns : goal.returns
returns c =
    let s = c.loop-rest in
    sym (append-nil s.list.items) ∙ ap (λ (l : List Bool). s.list.items ++ l) (sym (no_step s.rest.now (omega arith))) ∙ s.invariant
