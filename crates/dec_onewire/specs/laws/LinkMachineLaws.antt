-- Machines of one line that stand for samples.
use Rattle.std.proofs.Common.{◌≡◌, ℕ, List, [], ◌++◌, sym, ◌∙◌, subst}
use Rattle.std.proofs.Math.Nat.{ℕ_set}
use Rattle.std.proofs.Math.Path.{to_path_p}
use Rattle.decoder_core.specs.Promises.{Rests}
use Rattle.sample_walks.specs.laws.EventDecoders.{one_stop_of}
use Rattle.dec_onewire.specs.declared.link.held.Line.{Line}
use Rattle.dec_onewire.specs.declared.link.held.OwLink.{OwLink}
use Rattle.dec_onewire.specs.Link.{lengths_of}
use Rattle.dec_onewire.specs.Opening.{line_of, alts_of, StandsFor}
use Rattle.dec_onewire.specs.laws.LinkLaws.{link_decoder}
use Rattle.dec_onewire.specs.laws.LinkMachine.{EndsAtEdge, held_at}

lengths_by : (machine : OwLink) → machine.lengths ≡ lengths_of machine.line.opts machine.line.rate
lengths_by machine = λ i. record {
  reset = machine.reset_is i;
  window = machine.window_is i;
  bit = machine.bit_is i;
}

-- the lengths are those of the options at the rate, so the line and what is held make the link
pub same_link : (one other : OwLink) → line_of one ≡ line_of other → one.held ≡ other.held
    → one ≡ other
same_link one other same held =
    let own = λ (line : Line). lengths_of line.opts line.rate in
    let lengths : one.lengths ≡ other.lengths =
    lengths_by one ∙ (λ i. own (same i)) ∙ sym (lengths_by other) in
    λ i. record {
      line = same i;
      lengths = lengths i;
      held = held i;
      reset_is = to_path_p (λ j. (lengths j).reset ≡ (own (same j)).reset) {a = one.reset_is}
          (ℕ_set _ _ _ other.reset_is) i;
      window_is = to_path_p (λ j. (lengths j).window ≡ (own (same j)).window) {a = one.window_is}
          (ℕ_set _ _ _ other.window_is) i;
      bit_is = to_path_p (λ j. (lengths j).bit ≡ (own (same j)).bit) {a = one.bit_is}
          (ℕ_set _ _ _ other.bit_is) i;
    }

pub one_link : (one other : OwLink) (list : List ℕ) → line_of one ≡ line_of other
    → StandsFor one list → StandsFor other list → one ≡ other
one_link one other list same stands also =
    same_link one other same
    (stands.1 ∙ (λ i. held_at (same i).opts (same i).rate list) ∙ sym also.1)

pub link_one_stop : (one other : OwLink) (seen more : List ℕ) → line_of one ≡ line_of other
    → StandsFor one seen → StandsFor other (seen ++ more) → Rests (alts_of one) seen more
    → more ≡ []
link_one_stop one other seen more same stands also none =
    one_stop_of (link_decoder one.line.opts one.line.rate) one.held seen more
    (stands.0, stands.1) none
    (subst (λ (own : Line). EndsAtEdge own.opts own.rate (seen ++ more)) (sym same) also.0)
