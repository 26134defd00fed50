-- Machines of one bus that stand for samples.
use Rattle.std.proofs.Common.{◌≡◌, ℕ, ◌^◌, List, [], ◌++◌, sym, ◌∙◌, subst}
use Rattle.std.proofs.Math.Nat.{ℕ_set}
use Rattle.std.proofs.Math.Path.{to_path_p}
use Rattle.decoder_core.specs.Promises.{Rests}
use Rattle.sample_walks.specs.Walks.{walked, EndsThere}
use Rattle.sample_walks.specs.Events.{by_events}
use Rattle.sample_walks.specs.laws.EventDecoders.{one_stop_of}
use Rattle.dec_i2c.specs.declared.held.Bus.{Bus}
use Rattle.dec_i2c.specs.declared.held.I2c.{I2c}
use Rattle.dec_i2c.specs.Opening.{bus_of, StandsFor}
use Rattle.dec_i2c.specs.laws.I2cLaws.{i2c_decoder}
use Rattle.dec_i2c.specs.laws.Machine.{i2c_alts, i2c_walk}

pub one_i2c : (one other : I2c) (list : List ℕ) → bus_of one ≡ bus_of other → StandsFor one list
    → StandsFor other list → one ≡ other
one_i2c one other list same stands also =
    let held : one.held ≡ other.held =
    stands.1 ∙ (λ i. walked (by_events (i2c_walk (same i).scl (same i).sda)) list)
    ∙ sym also.1 in
    let masks : one.sda_mask ≡ other.sda_mask =
    one.mask_is ∙ (λ i. 2 ^ (same i).sda) ∙ sym other.mask_is in
    λ i. record {
      bus = same i;
      sda_mask = masks i;
      held = held i;
      mask_is =
          to_path_p (λ j. masks j ≡ 2 ^ (same j).sda) {a = one.mask_is}
          (ℕ_set _ _ _ other.mask_is) i;
    }

pub i2c_one_stop : (one other : I2c) (seen more : List ℕ) → bus_of one ≡ bus_of other
    → StandsFor one seen → StandsFor other (seen ++ more)
    → Rests (i2c_alts one.bus.scl one.bus.sda) seen more → more ≡ []
i2c_one_stop one other seen more same stands also none =
    one_stop_of (i2c_decoder one.bus.scl one.bus.sda) one.held seen more stands none
    (subst (λ (bus : Bus). EndsThere (by_events (i2c_walk bus.scl bus.sda)) (seen ++ more))
    (sym same) also.0)
