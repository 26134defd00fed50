use Rattle.std.proofs.Common.{◌∙◌, arith, ap, refl, length}
use Rattle.la_io.specs.Intake.{Front}
use Rattle.byte_feed.proofs.Repeating.{few_again, gave_again, held_again, let_go, line_again, text_again}
use Rattle.byte_feed.proofs.lines.Lines.again.Goals as goal

pub invariant_of-self : goal.invariant_of-self
invariant_of-self c =
    let s = c.args.self.now in
    let again = let_go s c.advance.new.self c.deref_mut.result.now c.bytes-bytes.result.now c.common.result c.if-over-self-ne1.false (c.bytes-bytes.ensures.bytes ∙ ap (λ (f : Front). f.bytes) c.deref.ensures) c.deref_mut.ensures.value
    c.common.ensures.within c.common.ensures.same c.advance.ensures.bytes c.advance.ensures.taken in
    let few = few_again s c.advance.new.self _ again in
    let taken = c.bytes-bytes.ensures.few in
    record {
      within = s.within;
      held = held_again s c.advance.new.self _ again;
      few = few;
      small = omega (arith, few, again.taken, taken, ap (λ (f : Front). f.taken) c.deref.ensures);
      counted = λ e. let was = s.counted e in omega (arith, was);
      whole = λ e. line_again s c.advance.new.self _ again;
    }

pub returns-clause-gave : goal.returns-clause-gave
returns-clause-gave c =
    let s = c.args.self.now in
    let again = let_go s c.advance.new.self c.deref_mut.result.now c.bytes-bytes.result.now c.common.result c.if-over-self-ne1.false (c.bytes-bytes.ensures.bytes ∙ ap (λ (f : Front). f.bytes) c.deref.ensures) c.deref_mut.ensures.value
    c.common.ensures.within c.common.ensures.same c.advance.ensures.bytes c.advance.ensures.taken in
    let room = c.bytes-bytes.ensures.room in
    gave_again s c.advance.new.self _ again (omega (arith, again.over_is, s.held, room, ap (λ (f : Front). length f.bytes) c.deref.ensures)) _ refl refl refl refl refl

pub returns-clause-text : goal.returns-clause-text
returns-clause-text c =
    let s = c.args.self.now in
    let again = let_go s c.advance.new.self c.deref_mut.result.now c.bytes-bytes.result.now c.common.result c.if-over-self-ne1.false (c.bytes-bytes.ensures.bytes ∙ ap (λ (f : Front). f.bytes) c.deref.ensures) c.deref_mut.ensures.value
    c.common.ensures.within c.common.ensures.same c.advance.ensures.bytes c.advance.ensures.taken in
    text_again s c.advance.new.self _ again
