use Rattle.std.proofs.Common.{◌≡◌, List, map, sym, ap, subst, ◌∙◌, rules, refl}
use Rattle.decoder_set.specs.Opening.{setup_of}
use Rattle.decoder_set.specs.declared.any.AnyDecoder.{AnyDecoder}
use Rattle.stack_words.specs.Stacks.{instances_in}
use Rattle.words.specs.Settings.{meaning_of}
use Rattle.run_asks.specs.Parting.{places_of}
use Rattle.ldecode.specs.Headline.{WorksOn}
use Rattle.ldecode.proofs.Begun.{places_same}
use Rattle.ldecode.proofs.Opened.{part_comes_by, refuses_by, seen_text}
use Rattle.ldecode.proofs.Working.{works_refused}
use Rattle.ldecode.proofs.part.part_stack.Goals as goal

pub returns-in-Err-clause-causes : goal.returns-in-Err-clause-causes
returns-in-Err-clause-causes g c = record {
  unread = c.in-Err.ensures.unread;
  read = c.in-Err.ensures.read;
  write = c.in-Err.ensures.write (g.K.Sink.faults c.args.sink.now);
}

pub returns-in-Err-clause-works : goal.returns-in-Err-clause-works
returns-in-Err-clause-works g c = works_refused _ (meaning_of c.args.settings.now) _ _ (g.K.Sink.written c.args.sink.now) _ c.in-Err.ensures.refuses

pub returns-in-Err-begin-clause-works : goal.returns-in-Err-begin-clause-works
returns-in-Err-begin-clause-works g c =
    let settings = c.args.settings.now in
    let opened = c.in-Ok.opened in
    let decoders : List AnyDecoder = c.as_mut_slice-machines.result.now in
    let same : decoders ≡ opened.machines.items = search rules in
    refuses_by _ (meaning_of settings) (g.S.Source.left c.args.source.now) (g.S.Source.left c.open_stack.new.source) opened c.in-Ok.ensures.opened c.requires.job (g.K.Sink.written c.args.sink.now) c.in-Err-begin.fault
    decoders same _ (seen_text c.as_ref.result settings.from c.as_ref.ensures.value) c.in-Err-begin.ensures.refused

pub returns-clause-works : goal.returns-clause-works
returns-clause-works g c =
    let settings = c.args.settings.now in
    let opened = c.in-Ok.opened in
    let is = c.in-Ok.ensures.opened in
    let decoders : List AnyDecoder = c.as_mut_slice-machines.result.now in
    let same : decoders ≡ opened.machines.items = search rules in
    let parents : c.deref-2.result.now ≡ opened.parents.items = c.deref-2.ensures.value in
    let kinds : c.as_slice.result.now ≡ places_of (map setup_of decoders) = c.as_slice.ensures.value ∙ (c.places-kinds.ensures ∙ (sym (places_same opened.machines.items (instances_in opened.stack) is.kinds) ∙ ap (λ (l : List AnyDecoder). places_of (map setup_of l)) (sym same))) in
    let lists = c.part.ensures.lists is.bytes is.told is.at is.stands in
    subst (WorksOn _ (meaning_of settings) (g.S.Source.left c.args.source.now) (g.S.Source.left c.part.new.source) (g.K.Sink.written c.args.sink.now) (g.K.Sink.written c.part.new.sink)) (sym c.status_of_part.ensures)
    (part_comes_by _ (meaning_of settings) c.requires.job (g.S.Source.left c.args.source.now) (g.S.Source.left c.open_stack.new.source) (g.S.Source.left c.part.new.source) (g.K.Sink.written c.args.sink.now) (g.K.Sink.written c.part.new.sink) opened is
    _ refl refl refl _ (seen_text c.as_ref.result settings.from c.as_ref.ensures.value) c.begin.new.machines c.in-Ok-begin.earlier c.as_slice.result.now decoders same c.deref-2.result.now parents kinds
    c.in-Ok-begin.ensures.begun c.in-Ok-begin.ensures.begins c.deref.result.now c.deref.ensures.value c.new_machines_stand.ensures c.part.result lists)
