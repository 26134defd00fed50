-- Whether the end is told, from one moment to the next.
use Rattle.std.proofs.Common.{ℕ, List, [], ◌++◌, refl}
use Rattle.la_io.specs.Capture.{Told, Cut}
use Rattle.capture_any.specs.Captures.{Later}

pub later_cut : (bytes : List ℕ) (now : Told) → Later Cut bytes now
later_cut bytes now = record { none = λ e. cc; still = λ e. cc }

pub later_still : (told : Told) → Later told [] told
later_still told = record { none = λ e. refl; still = λ e. e }

pub later_on : (a b c : Told) (x y : List ℕ) → Later a x b → Later b y c → Later a (x ++ y) c
later_on a b c x y first second = record {
  none = λ e i. first.none e i ++ second.none (first.still e) i;
  still = λ e. second.still (first.still e);
}
