use Rattle.std.proofs.Common.{rules, ◌≡◌, ℕ, List, map, inr, sym, ◌∙◌, subst, Ok, Err}
use Rattle.la_base.specs.declared.samples.TheConstants.{MOST_PINS}
use Rattle.la_base.specs.declared.samples.Rate.{Rate}
use Rattle.capture_any.specs.Captures.{IsForm}
use Rattle.capture_any.specs.Reading.{form_of, names_of, pins_of, rate_of}
use Rattle.stack_spec.specs.BindSteps.{Binds}
use Rattle.stack_spec.specs.Binding.{stack_pins}
use Rattle.stack_words.specs.Stacks.{stack_meaning}
use Rattle.cond_words.specs.declared.faults.BindFault.{BindFault}
use Rattle.cond_words.specs.declared.faults.BindError.{BindError}
use Rattle.cond_words.specs.declared.faults.BindError.TheVariants.{Fault}
use Rattle.words.specs.Settings.{meaning_of}
use Rattle.capture_any.specs.declared.form.Form.{Form}
use Rattle.decoder_set.specs.Opening.{setup_of}
use Rattle.tree_runs.specs.Runs.{nodes_of as tree_nodes}
use Rattle.run_status.specs.declared.status.Status.TheVariants.{Bind}
use Rattle.run_asks.specs.Asking.{HasHead, IsFormOf, nodes_of}
use Rattle.run_asks.specs.Refusing.{RefusesOn}
use Rattle.run_asks.proofs.Opening.{binding_fails, no_room, no_room_to_bind, opening_fails}
use Rattle.run_asks.proofs.Forms.{no_head_here}
use Rattle.stack_open.proofs.Stacked.{as_many_machines, as_many_parents, asked_setups, bound_nodes, stack_asks, stack_forest, stack_refused, the_stack}
use Rattle.stack_open.proofs.opening.open_stack.Goals as goal

pub returns-in-Err-NoMemory-clause-refuses : goal.returns-in-Err-NoMemory-clause-refuses
returns-in-Err-NoMemory-clause-refuses g c = no_room (meaning_of c.args.settings.now) (g.S.Source.left c.args.source.now)

pub returns-in-Err-clause-refuses : goal.returns-in-Err-clause-refuses
returns-in-Err-clause-refuses g c =
    let values = meaning_of c.args.settings.now in
    let accepted = stack_meaning c.in-Ok.stack in
    let stacks = the_stack c.args.settings.now c.deref.result.now c.as_ref.result c.as_ref-2.result c.in-Ok.stack c.requires.job c.deref.ensures.value c.as_ref.ensures.value c.as_ref-2.ensures.value c.in-Ok.ensures.gives in
    subst (RefusesOn values (g.S.Source.left c.args.source.now) (g.S.Source.left c.open.new.source)) (sym c.status_at_head.ensures)
    (opening_fails values c.form_of.result c.form_of.ensures.named (inr (accepted, stacks)) (g.S.Source.left c.args.source.now) (g.S.Source.left c.open.new.source) c.in-Err.error c.in-Err.ensures.opens)

pub returns-in-Err-Fault-bind-clause-refuses : goal.returns-in-Err-Fault-bind-clause-refuses
returns-in-Err-Fault-bind-clause-refuses g c =
    let values = meaning_of c.args.settings.now in
    let capture = c.in-Ok-open.capture in
    let accepted = stack_meaning c.in-Ok.stack in
    let stacks = the_stack c.args.settings.now c.deref.result.now c.as_ref.result c.as_ref-2.result c.in-Ok.stack c.requires.job c.deref.ensures.value c.as_ref.ensures.value c.as_ref-2.ensures.value c.in-Ok.ensures.gives in
    let fault = c.in-Err-Fault-bind.fault in
    let refused = subst (λ (n : List (List ℕ)). Binds MOST_PINS n (rate_of capture) accepted.instances (Err (Fault fault))) c.names.ensures
    (subst (λ (r : Rate). Binds MOST_PINS c.names.result.now r accepted.instances (Err (Fault fault))) c.rate.ensures
    (subst (λ (e : BindError). Binds MOST_PINS c.names.result.now c.rate.result accepted.instances (Err e)) c.in-Err-Fault-bind.field-0-is c.in-Err-Fault-bind.ensures.binds)) in
    subst (λ (f : BindFault). RefusesOn values (g.S.Source.left c.args.source.now) (g.S.Source.left c.open.new.source) (Bind f)) (sym c.in-Err-Fault-bind.fault-is)
    (binding_fails values c.form_of.result c.form_of.ensures.named (inr (accepted, stacks)) (g.S.Source.left c.args.source.now) (g.S.Source.left c.open.new.source) capture c.in-Ok-open.ensures.opens fault (stack_refused values (names_of capture) (rate_of capture) accepted stacks fault refused))

pub returns-in-Err-Fault-bind-clause-unread : goal.returns-in-Err-Fault-bind-clause-unread
returns-in-Err-Fault-bind-clause-unread g c = λ names. c.in-Ok-open.ensures.unread (no_head_here (meaning_of c.args.settings.now) c.form_of.result c.form_of.ensures.named names)

pub returns-clause-opened : goal.returns-clause-opened
returns-clause-opened g c =
    let values = meaning_of c.args.settings.now in
    let capture = c.in-Ok-open.capture in
    let opens = c.in-Ok-open.ensures.opens in
    let now = c.select.new.self in
    let accepted = stack_meaning c.in-Ok.stack in
    let stacks = the_stack c.args.settings.now c.deref.result.now c.as_ref.result c.as_ref-2.result c.in-Ok.stack c.requires.job c.deref.ensures.value c.as_ref.ensures.value c.as_ref-2.ensures.value c.in-Ok.ensures.gives in
    let bound = c.in-Ok-bind.bound in
    let here = c.in-Ok-bind.ensures in
    let is_bound = subst (λ (n : List (List ℕ)). Binds MOST_PINS n (rate_of capture) accepted.instances (Ok bound)) c.names.ensures
    (subst (λ (r : Rate). Binds MOST_PINS c.names.result.now r accepted.instances (Ok bound)) c.rate.ensures here.binds) in
    let nodes = nodes_of accepted.instances is_bound.read in
    let form_stays : form_of now ≡ c.form_of.result = c.select.ensures.form ∙ c.in-Ok-open.ensures.form in
    let tree = tree_nodes (map setup_of bound.machines.items) bound.parents.items in
    let pins_are : pins_of now ≡ stack_pins is_bound.read = c.select.ensures.pins ∙ is_bound.pins in
    let nodes_are : tree ≡ nodes = bound_nodes (names_of capture) (rate_of capture) accepted.instances bound is_bound in
    let parents = as_many_parents (names_of capture) (rate_of capture) accepted.instances bound is_bound in
    record {
      is_open = c.select.ensures.is_open ∙ c.in-Ok-open.ensures.is_open;
      forest = stack_forest accepted.instances bound.parents.items here.forest is_bound.parents;
      few = search rules;
      each = as_many_machines (names_of capture) (rate_of capture) accepted.instances bound is_bound here.kinds ∙ sym parents;
      instances = sym parents;
      kinds = here.kinds;
      wanted = search rules;
      consumed = is_bound.consumed;
      bytes = opens.bytes;
      told = opens.opened.0;
      taken = opens.consumed;
      at = opens.opened.1;
      stands = c.select.ensures.stands opens.bytes opens.opened.0 opens.opened.2;
      names = names_of capture;
      rate = rate_of capture;
      form_is = subst (IsFormOf values) (sym form_stays) c.form_of.ensures.named;
      fits = subst IsForm (sym form_stays) c.form_of.ensures.fits;
      head = subst (λ (f : Form). HasHead f opens.bytes opens.opened.0 (names_of capture) (rate_of capture)) (sym form_stays) opens.opened.3;
      asks = stack_asks values (names_of capture) (rate_of capture) accepted stacks (pins_of now) is_bound.read is_bound.reads pins_are tree nodes_are;
      setups = is_bound.setups ∙ sym (asked_setups values (names_of capture) (rate_of capture) accepted stacks (pins_of now) is_bound.read is_bound.reads pins_are tree nodes_are);
    }

pub returns-clause-headless : goal.returns-clause-headless
returns-clause-headless g c = λ names. c.in-Ok-open.ensures.unread (no_head_here (meaning_of c.args.settings.now) c.form_of.result c.form_of.ensures.named names)

pub returns-in-Err-NoMemory-bind-clause-refuses : goal.returns-in-Err-NoMemory-bind-clause-refuses
returns-in-Err-NoMemory-bind-clause-refuses g c = no_room_to_bind (meaning_of c.args.settings.now) c.form_of.result c.form_of.ensures.named (inr (stack_meaning c.in-Ok.stack, the_stack c.args.settings.now c.deref.result.now c.as_ref.result c.as_ref-2.result c.in-Ok.stack c.requires.job c.deref.ensures.value c.as_ref.ensures.value c.as_ref-2.ensures.value c.in-Ok.ensures.gives)) (g.S.Source.left c.args.source.now) (g.S.Source.left c.open.new.source) c.in-Ok-open.capture c.in-Ok-open.ensures.opens
