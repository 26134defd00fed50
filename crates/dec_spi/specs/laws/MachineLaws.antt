-- Machines of one bus that stand for samples, and what they wait for.
use Rattle.std.proofs.Common.{refl, ◌≡◌, ℕ, Bool, true, false, nat_lt, if◌then◌else◌, ◌+◌, ◌≤◌, ◌<◌}
use Rattle.std.proofs.Common.{List, [], ◌++◌, Option, sym, ◌∙◌, subst}
use Rattle.std.specs.Option.{ForSome}
use Rattle.std.proofs.lemmas.Bool.{true≢false}
use Rattle.std.proofs.Math.Bridge.{le_prop}
use Rattle.std.proofs.Math.Bool.{Bool-set}
use Rattle.std.proofs.Math.Nat.{ℕ_set}
use Rattle.std.proofs.Math.Path.{to_path_p}
use Rattle.la_base.specs.declared.samples.TheConstants.{MOST_PINS}
use Rattle.decoder_core.specs.Promises.{Rests}
use Rattle.sample_walks.specs.laws.EventDecoders.{one_stop_of}
use Rattle.dec_spi.specs.declared.held.Bus.{Bus}
use Rattle.dec_spi.specs.declared.held.Held.{Held}
use Rattle.dec_spi.specs.declared.held.Spi.{Spi}
use Rattle.dec_spi.specs.declared.lines.Lines.{Lines}
use Rattle.dec_spi.specs.declared.options.SpiOpts.{SpiOpts}
use Rattle.dec_spi.specs.declared.held.Held.TheVariants.{Fresh, Outside, Inside}
use Rattle.dec_spi.specs.Bus.{Event, Select, Deselect, Clock, is_low_first}
use Rattle.dec_spi.specs.Opening.{opts_of, alts_of, StandsFor}
use Rattle.dec_spi.specs.laws.Lines.{lines_of}
use Rattle.dec_spi.specs.laws.Machine.{next, EndsAtEvent, held_at, is_fresh, spi_alts, event_alts}
use Rattle.dec_spi.specs.laws.Machine.{with_bit, start_of, inside, begun}
use Rattle.dec_spi.specs.laws.SpiLaws.{spi_decoder}

-- that a line that is given is below a number is one fact
some_prop : (o : Option ℕ) (most : ℕ) (f g : ForSome o (λ line. line < most)) → f ≡ g
some_prop o most f g = λ i line is. le_prop (f line is) (g line is) i

-- two buses of the same options are equal
pub same_bus : (one other : Bus) → one.opts ≡ other.opts → one ≡ other
same_bus one other same = λ i. record {
  opts = same i;
  sck_below =
      to_path_p (λ j. (same j).sck < MOST_PINS) {a = one.sck_below} (le_prop _ other.sck_below) i;
  mosi_below =
      to_path_p (λ j. ForSome (same j).mosi (λ line. line < MOST_PINS)) {a = one.mosi_below}
      (some_prop other.opts.mosi MOST_PINS _ other.mosi_below) i;
  miso_below =
      to_path_p (λ j. ForSome (same j).miso (λ line. line < MOST_PINS)) {a = one.miso_below}
      (some_prop other.opts.miso MOST_PINS _ other.miso_below) i;
  cs_below =
      to_path_p (λ j. ForSome (same j).cs (λ line. line < MOST_PINS)) {a = one.cs_below}
      (some_prop other.opts.cs MOST_PINS _ other.cs_below) i;
  bits_some = to_path_p (λ j. 1 ≤ (same j).bits) {a = one.bits_some} (le_prop _ other.bits_some) i;
  bits_few = to_path_p (λ j. (same j).bits ≤ 32) {a = one.bits_few} (le_prop _ other.bits_few) i;
}

lines_set : IsSet Lines
lines_set = hlevel (ℕ_set, Bool-set)

-- the lines are those of the options, so the options and what is held make the machine
pub same_spi : (one other : Spi) → opts_of one ≡ opts_of other → one.held ≡ other.held
    → one ≡ other
unfolding same_bus
same_spi one other same held =
    let lines : one.lines ≡ other.lines =
    one.lines_are ∙ (λ i. lines_of (same i)) ∙ sym other.lines_are in
    λ i. record {
      bus = same_bus one.bus other.bus same i;
      lines = lines i;
      held = held i;
      lines_are =
          to_path_p (λ j. lines j ≡ lines_of (same j)) {a = one.lines_are}
          (lines_set _ _ _ other.lines_are) i;
    }

pub one_spi : (one other : Spi) (list : List ℕ) → opts_of one ≡ opts_of other → StandsFor one list
    → StandsFor other list → one ≡ other
one_spi one other list same stands also =
    same_spi one other same (stands.1 ∙ (λ i. held_at (same i) list) ∙ sym also.1)

pub spi_one_stop : (one other : Spi) (seen more : List ℕ) → opts_of one ≡ opts_of other
    → StandsFor one seen → StandsFor other (seen ++ more) → Rests (alts_of one) seen more
    → more ≡ []
spi_one_stop one other seen more same stands also none =
    one_stop_of (spi_decoder one.bus.opts one.bus.bits_some one.bus.bits_few) one.held seen more
    stands none (subst (λ (opts : SpiOpts). EndsAtEvent opts (seen ++ more)) (sym same) also.0)

-- behind the first selected sample the same events are waited for
pub waits_on : (options : SpiOpts) (held : Held) (event : Event) → is_fresh held ≡ false
    → spi_alts options (next options held event) ≡ spi_alts options held
waits_on options Fresh event later = absurd (true≢false later)
waits_on options Outside (Select k) later = refl
waits_on options Outside (Deselect k) later = refl
waits_on options Outside (Clock k out back) later = refl
waits_on options (Inside word) (Select k) later = refl
waits_on options (Inside word) (Deselect k) later = refl
waits_on options (Inside word) (Clock k out back) later =
    stays (nat_lt (word.count + 1) options.bits)
  where
    stays : (more : Bool) → spi_alts options
        (if more then inside (word.count + 1)
        (with_bit (is_low_first options) word.count word.mosi out)
        (with_bit (is_low_first options) word.count word.miso back)
        (start_of word.count word.first k) else begun) ≡ event_alts options
    stays true = refl
    stays false = refl
