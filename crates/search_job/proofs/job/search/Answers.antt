use Rattle.std.proofs.Common.{rules, inl, refl, sym, ◌∙◌, subst}
use Rattle.std.specs.Prelude.{Ok, Err, ℕ, List}
use Rattle.wait_cond.specs.Conds.{cond_alts}
use Rattle.words.specs.Settings.{meaning_of}
use Rattle.capture_any.specs.Reading.{names_of, rate_of}
use Rattle.cond_words.specs.declared.faults.BindError.{BindError}
use Rattle.cond_words.specs.declared.faults.BindError.TheVariants.{Fault}
use Rattle.text_parts.specs.declared.chain.ChainWord.{ChainWord}
use Rattle.run_status.specs.declared.status.Status.{Status}
use Rattle.run_asks.proofs.Opening.{binding_fails, opening_fails}
use Rattle.run_asks.proofs.Forms.{no_head_here}
use Rattle.search_job.specs.Chosen.{AreTerms, Chooses}
use Rattle.search_job.specs.Searching.{SearchesOn}
use Rattle.search_job.proofs.Asked.{search_asks, search_refused, the_search}
use Rattle.search_job.proofs.Searching.{search_ends, searches_refused}
use Rattle.search_job.proofs.job.search.Goals as goal

pub returns-in-Err-clause-searches : goal.returns-in-Err-clause-searches
returns-in-Err-clause-searches g c =
    let values = meaning_of c.args.settings.now in
    subst (λ (s : Status). SearchesOn values (g.S.Source.left c.args.source.now) (g.S.Source.left c.open.new.source) (g.K.Sink.written c.args.sink.now) (g.K.Sink.written c.args.sink.now) s) (sym c.status_at_head.ensures)
    (searches_refused values _ _ (g.K.Sink.written c.args.sink.now) _ (opening_fails values c.form_of.result c.form_of.ensures.named (inl c.requires.job) _ _ c.in-Err.error c.in-Err.ensures.opens))

pub returns-in-Err-Fault-clause-searches : goal.returns-in-Err-Fault-clause-searches
returns-in-Err-Fault-clause-searches g c =
    let values = meaning_of c.args.settings.now in
    let capture = c.in-Ok.capture in
    let s = the_search c.args.settings.now c.requires.job (c.requires.readable.good refl) in
    let terms = subst (λ (l : List ChainWord). AreTerms l s.0) (sym c.deref.ensures.value) s.1 in
    let refused = subst (λ (n : List (List ℕ)). Chooses n s.0 (Err (Fault c.in-Err-Fault.fault))) c.names.ensures (subst (λ (e : BindError). Chooses c.names.result.now s.0 (Err e)) c.in-Err-Fault.field-0-is (c.in-Err-Fault.ensures.chooses s.0 terms)) in
    searches_refused values _ _ (g.K.Sink.written c.args.sink.now) _ (binding_fails values c.form_of.result c.form_of.ensures.named (inl c.requires.job) _ _ capture c.in-Ok.ensures.opens c.in-Err-Fault.fault (search_refused values (names_of capture) (rate_of capture) s.0 s.2 c.in-Err-Fault.fault refused))

pub returns-clause-searches : goal.returns-clause-searches
returns-clause-searches g c =
    let values = meaning_of c.args.settings.now in
    let capture = c.in-Ok.capture in
    let now = c.select.new.self in
    let wanted = c.in-Ok-bind_words.wanted in
    let opens = c.in-Ok.ensures.opens in
    let s = the_search c.args.settings.now c.requires.job (c.requires.readable.good refl) in
    let terms = subst (λ (l : List ChainWord). AreTerms l s.0) (sym c.deref.ensures.value) s.1 in
    let chosen = subst (λ (n : List (List ℕ)). Chooses n s.0 (Ok wanted)) c.names.ensures (c.in-Ok-bind_words.ensures.chooses s.0 terms) in
    let asks = search_asks values (names_of capture) (rate_of capture) s.0 s.2 wanted.pins.items (cond_alts wanted.cond) chosen in
    let lists = c.find_buffered.ensures.finds opens.bytes opens.opened.0 opens.opened.1 (c.select.ensures.stands opens.bytes opens.opened.0 opens.opened.2) in
    subst (λ (status : Status). SearchesOn values (g.S.Source.left c.args.source.now) (g.S.Source.left c.find_buffered.new.source) (g.K.Sink.written c.args.sink.now) (g.K.Sink.written c.find_buffered.new.sink) status) (sym c.from.ensures)
    (search_ends values c.form_of.result c.form_of.ensures.named (g.S.Source.left c.args.source.now) (g.S.Source.left c.open.new.source) (g.K.Sink.written c.args.sink.now) capture opens now wanted.pins.items
    (c.select.ensures.form ∙ c.in-Ok.ensures.form) c.select.ensures.pins (g.S.Source.left c.find_buffered.new.source) (g.K.Sink.written c.find_buffered.new.sink) (cond_alts wanted.cond) c.find_buffered.result asks c.find_buffered.ensures.memory lists)

pub returns-in-Err-Fault-clause-causes : goal.returns-in-Err-Fault-clause-causes
returns-in-Err-Fault-clause-causes g c = record {
  unread = λ names. c.in-Ok.ensures.unread (no_head_here (meaning_of c.args.settings.now) c.form_of.result c.form_of.ensures.named names);
  read = search rules;
  write = search rules;
}
