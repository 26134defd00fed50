-- One input makes one driver, where the laws of its machine say that samples make one machine and one last stop.
use Rattle.std.proofs.Common.{◌≡◌, inl, inr, ℕ, ◌-◌, ◌≤◌, List, [], ◌++◌, take, drop, length, sym, ◌∙◌, ap, subst, arith, length-take-le, take-append-drop, slice_index}
use Rattle.std.proofs.lemmas.List.{append-nil, take-take}
use Rattle.std.proofs.lemmas.Bool.{cases_lt}
use Rattle.wait_cond.specs.declared.alt.Alt.{Alt}
use Rattle.wait_cond.specs.declared.scan.Waiter.{Waiter}
use Rattle.wait_cond.specs.Stops.{NoneMet}
use Rattle.wait_cond.specs.Waiting.{alts_of, wait_from, consumed_by}
use Rattle.wait_cond.proofs.ChainLemmas.{none_in_shorter}
use Rattle.decoder_core.specs.Inputs.{Item, counted_samples}
use Rattle.decoder_core.specs.Promises.{Rests, OneMachine, OneLastStop}
use Rattle.decoder_core.specs.Driving.{Drives, SameState}

module _ {L S : Type 0} (setup : L → S) (stands : L → List ℕ → Type 0) (alts : L → List Alt)
    (one_machine : OneMachine setup stands) (one_stop : OneLastStop setup stands alts) where
  -- no driver stopped later than another
  no_later : (one other : L) (list : List ℕ) (a b : ℕ) → setup one ≡ setup other → a ≤ b → b ≤ length list → stands one (take a list) → stands other (take b list) → NoneMet list (alts one) a (length list) → a ≡ b
  no_later one other list a b same within fits st later none =
      let seen = take a list in
      let more = drop a (take b list) in
      let seen_len : length seen ≡ a = length-take-le a list (omega (arith, within, fits)) in
      let front_len : length (take b list) ≡ b = length-take-le b list fits in
      let parts : seen ++ more ≡ take b list = ap (λ (l : List ℕ). l ++ more) (sym (take-take a b list within)) ∙ take-append-drop a (take b list) in
      let early : NoneMet list (alts one) a b = λ q after below. none q after (omega (arith, below, fits)) in
      let in_front : NoneMet (take b list) (alts one) a b =
      none_in_shorter (take b list) (drop b list) (alts one) a b (omega (arith, front_len)) (subst (λ (l : List ℕ). NoneMet l (alts one) a b) (sym (take-append-drop b list)) early) in
      let rests : Rests (alts one) seen more =
      subst (λ (l : List ℕ). NoneMet l (alts one) (length seen) (length l)) (sym parts)
      (subst (λ (n : ℕ). NoneMet (take b list) (alts one) n (length (take b list))) (sym seen_len) (subst (λ (n : ℕ). NoneMet (take b list) (alts one) a n) (sym front_len) in_front)) in
      let empty = one_stop one other seen more same st (subst (λ (l : List ℕ). stands other l) (sym parts) later) rests in
      let whole : b ≡ length (seen ++ []) = sym front_len ∙ ap length (sym parts) ∙ ap (λ (l : List ℕ). length (seen ++ l)) empty in
      sym (whole ∙ ap length (append-nil seen) ∙ seen_len)

  module _ (one other : L) (waiter other_waiter : Waiter) (input : List Item) (same : setup one ≡ setup other)
      (d : Drives stands alts one waiter input) (e : Drives stands alts other other_waiter input) where
    none_behind : (machine : L) (w : Waiter) → Drives stands alts machine w input → NoneMet (counted_samples input) (alts machine) (wait_from w) (length (counted_samples input))
    none_behind machine w drives =
        subst (λ (l : List Alt). NoneMet (counted_samples input) l (wait_from w) (length (counted_samples input))) drives.cond
        (subst (λ (n : ℕ). NoneMet (counted_samples input) (alts_of w) (wait_from w) n) (sym drives.waits.count) drives.waits.none)

    same_from : wait_from waiter ≡ wait_from other_waiter
    same_from = elim (cases_lt (wait_from waiter) (wait_from other_waiter)) [
      | inl less ↦ no_later one other (counted_samples input) (wait_from waiter) (wait_from other_waiter) same (omega (arith, less)) (omega (arith, e.waits.stop, e.waits.count)) d.machine_stands e.machine_stands (none_behind one waiter d)
      | inr more ↦ sym (no_later other one (counted_samples input) (wait_from other_waiter) (wait_from waiter) (sym same) (omega (arith, more)) (omega (arith, d.waits.stop, d.waits.count)) e.machine_stands d.machine_stands (none_behind other other_waiter e))
    ]

    pub one_state : SameState one other waiter other_waiter
    one_state =
        let equal : one ≡ other = one_machine one other (take (wait_from other_waiter) (counted_samples input)) same
        (subst (λ (n : ℕ). stands one (take n (counted_samples input))) same_from d.machine_stands) e.machine_stands in
        let consumed : consumed_by waiter ≡ consumed_by other_waiter = sym d.waits.count ∙ e.waits.count in
        record {
          machine = equal;
          numbers = record { consumed = consumed; from = same_from; last = d.waits.last_is ∙ ap (λ (n : ℕ). slice_index (counted_samples input) (n - 1)) consumed ∙ sym e.waits.last_is };
          alts = d.cond ∙ ap alts equal ∙ sym e.cond;
        }
