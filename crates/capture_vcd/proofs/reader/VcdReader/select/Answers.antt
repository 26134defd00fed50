use Rattle.std.proofs.Common.{◌≡◌, ◌∙◌, ap, subst, refl, sym, map, length, List, [], ◌++◌, Option}
use Rattle.text_parts.specs.Places.{Placed}
use Rattle.byte_feed.specs.Reader.{Stands}
use Rattle.capture_vcd.specs.Reader.{StandsAs}
use Rattle.capture_vcd.specs.Slots.{slot_at}
use Rattle.capture_vcd.specs.Slots.{channel_of, level_of}
use Rattle.capture_vcd.specs.Following.{levels_now}
use Rattle.capture_vcd.specs.Running.{channels_in, held_by}
use Rattle.capture_vcd.specs.declared.body.Span.{Span}
use Rattle.capture_vcd.specs.declared.reader.Phase.{Phase}
use Rattle.capture_vcd.proofs.Waiting.{none_waits}
use Rattle.capture_vcd.specs.declared.slots.Slot.{Slot}
use Rattle.capture_vcd.proofs.Choosing.{body_selected, head_selected, is_fresh, slots_channels, slots_low}
use Rattle.capture_vcd.proofs.reader.VcdReader.select.Goals as goal

pub returns-clause-stands : goal.returns-clause-stands
returns-clause-stands c = λ bytes told st.
    let old = c.args.self.now in
    let body = c.select.new.self in
    let set = c.select.ensures in
    let codes = old.body.codes.items in
    let phase_is = is_fresh old.phase old bytes told st in
    let r = subst (λ (p : Phase). StandsAs p old bytes told []) phase_is st in
    let slots_are : body.slots.items ≡ map (slot_at old.places.items (length codes)) c.args.pins.items =
    set.slots ∙ c.slots_of-slots.ensures ∙ (λ i. map (slot_at (c.deref.ensures.value i) (c.variables.ensures i)) (c.deref-2.ensures.0 i)) in
    let channels_are : channels_in body ≡ map (channel_of codes) (map (slot_at old.places.items (length codes)) c.args.pins.items) = λ i. map (channel_of (set.codes i).items) (slots_are i) in
    let low : map level_of body.slots.items ≡ levels_now (channels_in body) [] =
    ap (λ (l : List Slot). map level_of l) slots_are ∙ slots_low codes old.places.items (length codes) c.args.pins.items ∙ sym (ap (λ ch. levels_now ch []) channels_are) in
    rw phase_is (record {
      going = record {
        head = r.going.head;
        items = [];
        header = head_selected old.body.down body.down old.pins.items c.args.pins.items (channels_in old.body) (channels_in body) old.names old.places.items old.rate old.body.codes body.codes r.going.head r.going.header set.down set.codes
            (channels_are ∙ slots_channels codes old.places.items c.args.pins.items);
        fresh = r.going.fresh;
        tokens = subst (λ (l : List Placed). Stands old.tokens bytes told (r.going.head ++ l)) r.unread r.going.tokens;
        few = r.going.few;
        body = none_waits body [] [] (ap (λ (o : Option Span). held_by o body.down) set.span) (body_selected body.down (channels_in body) body.slots.items body.pending body.span set.free set.span low);
      };
      none = refl;
      unread = refl;
    })
