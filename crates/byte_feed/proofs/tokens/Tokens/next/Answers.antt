use Rattle.std.proofs.Common.{◌≡◌, ◌∙◌, ℕ, List, drop, ap, arith, refl, ◌++◌, length, Option, Result, Err}
use Rattle.la_io.specs.Intake.{Front}
use Rattle.std.proofs.KnownBytes.{Consumes-trans}
use Rattle.byte_feed.proofs.Answering.{found_is, left_falls, none_left, none_twice, skip_not_spent, skip_stops, token_given, token_not_spent, token_stops}
use Rattle.byte_feed.specs.declared.fault.FeedFault.{FeedFault}
use Rattle.byte_feed.proofs.tokens.Tokens.next.Goals as goal

err_is : (f h : FeedFault) → ◌≡◌ {A = Result (Option ℕ) FeedFault} (Err f) (Err h) → f ≡ h
err_is f h e = cc

gone : (n : ℕ) (boxed old : Front) (new : List ℕ) → boxed ≡ old → new ≡ drop n boxed.bytes → new ≡ drop n old.bytes
gone n boxed old new is new_is = new_is ∙ ap (λ (f : Front). drop n f.bytes) is

pub returns-in-Ok-false-clause-next : goal.returns-in-Ok-false-clause-next
returns-in-Ok-false-clause-next g c =
    let skips = rw c.deref_mut-2.ensures.value at c.in-Ok-false.ensures.skips in
    record {
      bytes = skips.bytes;
      consumed = skips.moves.consumed;
      none = skips.moves.none;
      stays = skips.moves.stays;
      answers = λ before told given fresh at st.
          none_left c.args.self.now c.advance.new.self c.skip_blanks.new.intake c.skip_blanks.new.ended _ _ _ skips (gone c.args.self.now.len _ _ _ c.deref_mut.ensures.value c.advance.ensures.bytes) (c.advance.ensures.taken ∙ ap (λ (f : Front). f.taken) c.deref_mut.ensures.value) before told given at st _ refl refl refl (found_is c.skip_blanks.new.intake c.skip_blanks.new.ended _ _ c.in-Ok-false.field-0-test skips.answer);
    }

pub returns-in-Err-clause-next : goal.returns-in-Err-clause-next
returns-in-Err-clause-next g c =
    let skips = rw c.deref_mut-2.ensures.value at c.in-Err.ensures.skips in
    record {
      bytes = skips.bytes;
      consumed = skips.moves.consumed;
      none = skips.moves.none;
      stays = skips.moves.stays;
      answers = λ before told given fresh at st.
          skip_stops c.args.self.now c.advance.new.self c.skip_blanks.new.intake c.skip_blanks.new.ended _ _ _ skips (gone c.args.self.now.len _ _ _ c.deref_mut.ensures.value c.advance.ensures.bytes) (c.advance.ensures.taken ∙ ap (λ (f : Front). f.taken) c.deref_mut.ensures.value) before told given at st (record c.args.self.now { ended = c.skip_blanks.new.ended }) c.in-Err.fault refl skips.answer;
    }

pub returns-in-Ok-clause-next : goal.returns-in-Ok-clause-next
returns-in-Ok-clause-next g c =
    let skips = rw c.deref_mut-2.ensures.value at c.in-Ok-true.ensures.skips in
    let reaches = rw c.deref_mut-3.ensures.value at c.in-Ok.ensures.reaches in
    record {
      bytes = skips.bytes ++ reaches.bytes;
      consumed = Consumes-trans _ _ _ _ _ skips.moves.consumed reaches.moves.consumed;
      none = none_twice c.args.self.now.ended c.skip_blanks.new.ended skips.bytes reaches.bytes skips.moves.none skips.moves.stays reaches.moves.none;
      stays = λ e. reaches.moves.stays (skips.moves.stays e);
      answers = λ before told given fresh at st.
          token_given c.args.self.now c.advance.new.self c.skip_blanks.new.intake c.skip_blanks.new.ended _ _ _ skips (gone c.args.self.now.len _ _ _ c.deref_mut.ensures.value c.advance.ensures.bytes) (c.advance.ensures.taken ∙ ap (λ (f : Front). f.taken) c.deref_mut.ensures.value) before told given at st
          c.token_len.new.intake c.token_len.new.ended _ _ reaches (found_is c.skip_blanks.new.intake c.skip_blanks.new.ended _ _ c.in-Ok-true.field-0-test skips.answer) _ c.in-Ok.count _ refl refl refl (omega (arith, c.taken.ensures.taken, ap (λ (f : Front). f.taken) c.deref.ensures, ap length c.bytes.ensures.bytes, ap (λ (f : Front). length f.bytes) c.deref-in-Ok.ensures)) reaches.answer;
    }

pub returns-in-Err-token_len-clause-next : goal.returns-in-Err-token_len-clause-next
returns-in-Err-token_len-clause-next g c =
    let skips = rw c.deref_mut-2.ensures.value at c.in-Ok-true.ensures.skips in
    let reaches = rw c.deref_mut-3.ensures.value at c.in-Err-token_len.ensures.reaches in
    record {
      bytes = skips.bytes ++ reaches.bytes;
      consumed = Consumes-trans _ _ _ _ _ skips.moves.consumed reaches.moves.consumed;
      none = none_twice c.args.self.now.ended c.skip_blanks.new.ended skips.bytes reaches.bytes skips.moves.none skips.moves.stays reaches.moves.none;
      stays = λ e. reaches.moves.stays (skips.moves.stays e);
      answers = λ before told given fresh at st.
          token_stops c.args.self.now c.advance.new.self c.skip_blanks.new.intake c.skip_blanks.new.ended _ _ _ skips (gone c.args.self.now.len _ _ _ c.deref_mut.ensures.value c.advance.ensures.bytes) (c.advance.ensures.taken ∙ ap (λ (f : Front). f.taken) c.deref_mut.ensures.value) before told given at st
          c.token_len.new.intake c.token_len.new.ended _ _ reaches (found_is c.skip_blanks.new.intake c.skip_blanks.new.ended _ _ c.in-Ok-true.field-0-test skips.answer) (record c.args.self.now { ended = c.token_len.new.ended }) c.in-Err-token_len.fault refl reaches.answer;
    }

pub returns-in-Ok-clause-progress : goal.returns-in-Ok-clause-progress
returns-in-Ok-clause-progress g c =
    let skips = rw c.deref_mut-2.ensures.value at c.in-Ok-true.ensures.skips in
    let reaches = rw c.deref_mut-3.ensures.value at c.in-Ok.ensures.reaches in
    let taken_is = ap (λ (f : Front). f.taken) c.deref.ensures in
    left_falls _ c.advance.new.self c.skip_blanks.new.intake c.token_len.new.intake c.args.self.now.len c.in-Ok.count _ _ _ _ _ _ _ _ skips reaches
    (found_is c.skip_blanks.new.intake c.skip_blanks.new.ended _ _ c.in-Ok-true.field-0-test skips.answer) reaches.answer
    (gone c.args.self.now.len _ _ _ c.deref_mut.ensures.value c.advance.ensures.bytes) (c.advance.ensures.taken ∙ ap (λ (f : Front). f.taken) c.deref_mut.ensures.value) c.args.self.now.within (omega (arith, c.taken.ensures.few, c.taken.ensures.taken, taken_is))

pub returns-in-Err-clause-why : goal.returns-in-Err-clause-why
returns-in-Err-clause-why g c = λ fresh e. skip_not_spent _ _ c.in-Err.fault c.in-Err.ensures.skips.answer (err_is _ _ e)

pub returns-in-Err-token_len-clause-why : goal.returns-in-Err-token_len-clause-why
returns-in-Err-token_len-clause-why g c = λ fresh e. token_not_spent _ _ c.in-Err-token_len.fault c.in-Err-token_len.ensures.reaches.answer (err_is _ _ e)
