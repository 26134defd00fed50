use Rattle.std.proofs.Common.{◌++◌, ◌∷◌, [], ◌∙◌, sym, ap, List, append_assoc}
use Rattle.capture_vcd.specs.Places.{places_of}
use Rattle.capture_vcd.specs.declared.place.Place.{Place}
use Rattle.capture_vcd.proofs.Declaring.{places_more}
use Rattle.capture_vcd.proofs.bits.push_places.Goals as goal

pub loop-bit-preserved : goal.loop-bit-preserved
loop-bit-preserved c =
    let places = c.args.places.now.items in
    c.in_ok-push.ensures.items ∙ (λ i. c.loop-bit.invariant i ++ (record { variable = c.args.variable; bit = c.loop-bit.bit }) ∷ []) ∙ append_assoc places (places_of c.args.variable c.loop-bit.bit) _
    ∙ ap (λ (l : List Place). places ++ l) (sym (places_more c.args.variable c.loop-bit.bit))
