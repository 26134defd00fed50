-- One line that is held, and what was given behind it.
use Rattle.std.proofs.Common.{◌≡◌, ℕ, ◌+◌, ◌≤◌, ◌∙◌, refl, sym, ap, subst, arith, Bool, true, false, List}
use Rattle.capture_csv.specs.Modes.{skips}
use Rattle.capture_csv.specs.Reader.{given_at}
use Rattle.capture_csv.specs.Running.{BodyAt, BodyStands, SameStands, held_in, mode_in}
use Rattle.capture_csv.specs.Records.{Record}
use Rattle.capture_csv.specs.declared.body.Body.{Body}
use Rattle.la_base.specs.declared.modes.CsvMode.{CsvMode}
use Rattle.la_base.specs.declared.modes.CsvMode.TheVariants.{Rows, Times}
use Rattle.capture_csv.specs.declared.phase.Phase.{Phase}
use Rattle.capture_csv.specs.declared.phase.Phase.TheVariants.{Running}

-- the measure rises by at least the samples that a line gave, which are none where a record is one
pub line_counts : (mode after : CsvMode) (phase : Phase) (n m : ℕ) (was held : Bool) (at now extra : ℕ) → after ≡ mode → phase ≡ Running → m ≡ n + 1 → was ≡ false → at + extra ≡ now → (mode ≡ Rows → extra ≡ 0) → given_at mode phase n was at + extra ≤ given_at after phase m held now
line_counts mode after phase n m true held at now extra same runs more none is rows = absurd (let bad : true ≡ false = none in cc)
line_counts Rows Times phase n m false held at now extra same runs more none is rows = cc
line_counts Times Rows phase n m false held at now extra same runs more none is rows = cc
line_counts Rows Rows phase n m false true at now extra same runs more none is rows = let no = rows refl in omega (arith, more, no)
line_counts Rows Rows phase n m false false at now extra same runs more none is rows = let no = rows refl in omega (arith, more, no)
line_counts Times Times phase n m false held at now extra same runs more none is rows =
    subst (λ (p : Phase). given_at Times p n false at + extra ≤ given_at Times p m held now) (sym runs) (omega (arith, is))

-- it doesn't fall where a line gave none
pub passed_counts : (mode after : CsvMode) (phase : Phase) (n m : ℕ) (was held : Bool) (at now : ℕ) → after ≡ mode → phase ≡ Running → m ≡ n + 1 → was ≡ false → at ≡ now → given_at mode phase n was at ≤ given_at after phase m held now
passed_counts mode after phase n m was held at now same runs more none is =
    let counts = line_counts mode after phase n m was held at now 0 same runs more none (omega (arith, is)) (λ e. refl) in omega (arith, counts)

-- a record with a time isn't held
pub timed_unheld : (body : Body) → mode_in body ≡ Times → held_in body ≡ false
timed_unheld body times = by_held (held_in body) refl where
  by_held : (b : Bool) → held_in body ≡ b → held_in body ≡ false
  by_held false is = is
  by_held true is = absurd (let none = sym (ap skips times) ∙ body.rows is in omega (arith, none))

-- other room for levels changes nothing
pub stands_same : (old new : Body) (records : List Record) (given : List ℕ) → SameStands old new → BodyStands old records given → BodyStands new records given
stands_same old new records given same stands =
    coe 0 1 (i. BodyAt (sym same.form.mode i) (sym same.form.rate i) (sym same.form.want i) (sym same.form.pins i) (sym same.levels i) (sym same.word i) (sym same.span i) (sym same.held i) records given) stands
