use Rattle.std.proofs.Common.{◌<◌, ◌∙◌, ap, arith, Bool, length, map}
use Rattle.std.proofs.lemmas.List.{length-map}
use Rattle.capture_vcd.specs.Slots.{assigned, channel_of, slot_in, with_level}
use Rattle.capture_vcd.specs.declared.slots.Slot.{Slot}
use Rattle.capture_vcd.proofs.Chaining.{assigned_leaves, keys_count, passed, walked, walked_all}
use Rattle.capture_vcd.proofs.Levels.{read_at}
use Rattle.capture_vcd.proofs.slots.assign.Goals as goal

pub loop-place-init : goal.loop-place-init
loop-place-init c =
    let codes = c.args.codes.now in
    let xs = c.args.slots.now in
    let leads = c.first-place.ensures (map (channel_of codes) xs) c.requires.linked in
    record {
      walked = passed codes (assigned codes c.args.code.now) c.args.code.now (assigned_leaves codes c.args.code.now) xs 0 c.first-place.result leads.later leads.none;
      key = λ less. leads.has (omega (arith, less, keys_count codes xs));
      word = c.requires.is;
    }

pub loop-place-preserved : goal.loop-place-preserved
loop-place-preserved c =
    let codes = c.args.codes.now in
    let xs = c.args.slots.now in
    let now = c.loop-place.slots in
    let n = c.loop-place.place in
    let x : Slot = slot_in now n in
    let less : n < length xs = omega (arith, c.loop-place-test.true, c.loop-place.auto.slots) in
    let leads = c.behind-place.ensures (map (channel_of codes) xs) c.requires.linked (omega (arith, less, length-map xs (channel_of codes))) in
    let key = c.loop-place.invariant.key less in
    record {
      walked = c.set_level.ensures.slots ∙ ap (λ (level : Bool). with_level now n level) c.level_behind-level.ensures
          ∙ walked codes (assigned codes c.args.code.now) c.args.code.now (assigned_leaves codes c.args.code.now) xs now n c.behind-place.result x less c.loop-place.invariant.walked (read_at now n _ x c.loop-place-test.true) key leads;
      key = λ within. leads.has (omega (arith, within, keys_count codes xs)) ∙ key;
      word = c.set_level.ensures.is;
    }

pub returns-clause-slots : goal.returns-clause-slots
returns-clause-slots c =
    let codes = c.args.codes.now in
    walked_all codes (assigned codes c.args.code.now) c.args.code.now (assigned_leaves codes c.args.code.now) c.args.slots.now c.loop-place.slots c.loop-place.place (omega (arith, c.loop-place-test.false, c.loop-place.auto.slots)) c.loop-place.invariant.walked
