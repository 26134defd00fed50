use Rattle.std.proofs.Common.{◌∙◌, ℕ, subst, refl, sym, List}
use Rattle.std.proofs.lemmas.List.{append-nil}
use Rattle.capture_vcd.specs.Reader.{StandsAs, VcdStands}
use Rattle.capture_vcd.specs.declared.reader.Phase.{Phase}
use Rattle.capture_vcd.proofs.Stepping.{same_on}
use Rattle.capture_vcd.proofs.reader.VcdReader.held_run.Goals as goal

pub held-init : goal.held-init
held-init c =
    let is = c.is_running.ensures in
    record {
      phase = is.phase c.if-not-is_running.false;
      is_open = is.open c.if-not-is_running.false;
      was_open = is.open c.if-not-is_running.false;
      form = record { names = refl; rate = refl; pins = refl; down = refl };
      count = refl;
      went = λ bytes told given st. st;
    }

pub held-preserved : goal.held-preserved
held-preserved c =
    let inv = c.held.invariant in
    let step = c.in-Went.ensures in
    record {
      phase = step.went.0;
      is_open = step.is_open;
      was_open = inv.was_open;
      form = same_on _ _ _ inv.form step.form;
      count = step.counts ∙ inv.count;
      went = λ bytes told given st. step.steps bytes told given (inv.went bytes told given st);
    }

pub returns-then-not-is_running-clause-given : goal.returns-then-not-is_running-clause-given
returns-then-not-is_running-clause-given c = λ bytes told given st. subst (λ (l : List ℕ). VcdStands c.args.self.now bytes told l) (sym (append-nil given)) st

pub returns-in-Gave-clause-given : goal.returns-in-Gave-clause-given
returns-in-Gave-clause-given c = λ bytes told given st.
    let is = c.is_running.ensures.phase c.if-not-is_running.false in
    c.in-Gave.ensures.steps bytes told given (c.held.invariant.went bytes told given (subst (λ (p : Phase). StandsAs p c.args.self.now bytes told given) is st))

pub returns-in-Over-clause-given : goal.returns-in-Over-clause-given
returns-in-Over-clause-given c = λ bytes told given st.
    let is = c.is_running.ensures.phase c.if-not-is_running.false in
    subst (λ (l : List ℕ). VcdStands c.held_step.new.self bytes told l) (sym (append-nil given))
    (c.in-Over.ensures.steps bytes told given (c.held.invariant.went bytes told given (subst (λ (p : Phase). StandsAs p c.args.self.now bytes told given) is st)))
