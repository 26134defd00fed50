-- Two decoders for devices of one setup that stand for the same packets are equal.
use Rattle.std.specs.Prelude.{ℕ, ◌≡◌, Bool, List}
use Rattle.std.proofs.Common.{sym, ◌∙◌, subst}
use Rattle.la_base.specs.declared.wires.Packet.{Packet}
use Rattle.i2c_phases.specs.declared.phased.Phased.{Phased}
use Rattle.i2c_phases.specs.Phases.{Meaning, meanings}
use Rattle.i2c_phases.specs.laws.Tracking.{track}
use Rattle.i2c_phases.specs.Devices.{OneDevice, StandsFor}

module _ {D S : Type 0} (setup : D → S) (address : S → ℕ) (resets : S → Bool)
    (knows : D → List Meaning → Type 0) (one_device : OneDevice setup knows) where
  pub one_phased : (one other : Phased D S) (packets : List Packet)
      → setup one.device ≡ setup other.device → StandsFor (knows one.device)
      (address (setup one.device)) (resets (setup one.device)) one.kept packets
      → StandsFor (knows other.device) (address (setup other.device))
      (resets (setup other.device)) other.kept packets → one ≡ other
  one_phased one other packets same stands also =
      let theirs : knows other.device
      (meanings (address (setup one.device)) (resets (setup one.device)) packets) =
      subst (λ (s : S). knows other.device (meanings (address s) (resets s) packets))
      (sym same) also.1 in
      let device : one.device ≡ other.device =
      one_device one.device other.device
      (meanings (address (setup one.device)) (resets (setup one.device)) packets) same stands.1
      theirs in
      let kept : one.kept ≡ other.kept =
      stands.0 ∙ (λ i. track (address (same i)) (resets (same i)) packets) ∙ sym also.0 in
      λ i. record { device = device i; kept = kept i }
