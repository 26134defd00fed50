use Rattle.std.proofs.Common.{◌≡◌, ◌≤◌, ◌∙◌, ℕ, List, Option, Some, length, sym, ap, subst}
use Rattle.la_base.specs.Naming.{find_channel}
use Rattle.la_base.specs.declared.samples.TheConstants.{MOST_PINS}
use Rattle.cond_words.proofs.PinLemmas.{found_below}
use Rattle.stack_spec.specs.Binding.{on_channel}
use Rattle.stack_spec.specs.BindSteps.{ArePins, BindsRow}
use Rattle.stack_spec.proofs.BindLemmas.{channel_placed, channel_refused, pins_with}
use Rattle.stack_spec.proofs.binding.bind_channel.Goals as goal

pub returns-in-Some-place_of-clause-step : goal.returns-in-Some-place_of-clause-step
returns-in-Some-place_of-clause-step c =
    let names = c.args.names.now in
    let old = c.args.pins.now.items in
    let new = c.place_of.new.pins.items in
    let found : find_channel names c.args.reference.now ≡ Some c.in-Some.channel = sym (c.find.ensures ∙ ap (λ (l : List ℕ). find_channel names l) c.as_bytes.ensures.value) ∙ c.in-Some.is in
    let placed = channel_placed MOST_PINS (length names) old new c.in-Some.channel c.in-Some-place_of.place c.requires c.in-Some-place_of.ensures in
    subst (λ (o : Option ℕ). BindsRow (on_channel MOST_PINS old o) old new (Some c.from.result)) (sym found)
    (subst (λ (n : ℕ). BindsRow (on_channel MOST_PINS old (Some c.in-Some.channel)) old new (Some n)) (sym c.from.ensures) placed)

pub returns-in-Some-place_of-clause-pins : goal.returns-in-Some-place_of-clause-pins
returns-in-Some-place_of-clause-pins c =
    let names = c.args.names.now in
    let old = c.args.pins.now.items in
    let found : find_channel names c.args.reference.now ≡ Some c.in-Some.channel = sym (c.find.ensures ∙ ap (λ (l : List ℕ). find_channel names l) c.as_bytes.ensures.value) ∙ c.in-Some.is in
    let placed = c.in-Some-place_of.ensures in
    subst (ArePins MOST_PINS (length names)) (sym placed.0)
    (pins_with MOST_PINS (length names) old c.in-Some.channel c.requires (found_below names c.args.reference.now c.in-Some.channel found) (subst (λ (l : List ℕ). length l ≤ MOST_PINS) placed.0 placed.2))

pub returns-in-None-clause-step : goal.returns-in-None-clause-step
returns-in-None-clause-step c =
    let names = c.args.names.now in
    let old = c.args.pins.now.items in
    let found : find_channel names c.args.reference.now ≡ Some c.in-Some.channel = sym (c.find.ensures ∙ ap (λ (l : List ℕ). find_channel names l) c.as_bytes.ensures.value) ∙ c.in-Some.is in
    ap (on_channel MOST_PINS old) found ∙ channel_refused MOST_PINS (length names) old c.place_of.new.pins.items c.in-Some.channel c.requires c.in-None.ensures
