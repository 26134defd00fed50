-- What follows for the outputs of a device on an I2C bus from what it promises.
use Rattle.std.proofs.Common.{◌≡◌, ◌≤◌, inl, inr, ℕ, Bool, true, false, if◌then◌else◌, List, []}
use Rattle.std.proofs.Common.{◌∷◌}
use Rattle.std.proofs.Common.{◌++◌, refl, sym, ◌∙◌, ap, subst, append_assoc, arith}
use Rattle.std.proofs.lemmas.List.{append-nil}
use Rattle.la_base.specs.declared.wires.Out.{Out}
use Rattle.la_base.specs.declared.wires.Packet.{Packet}
use Rattle.la_base.specs.declared.wires.Wire.TheVariants.{Nothing as NoWire, I2c as I2cWire}
use Rattle.decoder_core.specs.Promises.{AddsFew, GivesNothing, GivesOn, KeepsFront, NotesFrom}
use Rattle.decoder_core.specs.Packets.{IsPacketFloor, PacketsStayInOrder, last_start}
use Rattle.decoder_core.specs.laws.PacketLaws.{from_free, order_free}
use Rattle.list_cuts.specs.Along.{along}
use Rattle.list_cuts.proofs.AlongLaws.{along_push}
use Rattle.list_cuts.specs.Parts.{parts}
use Rattle.packet_walks.specs.Outputs.{PacketOuts}
use Rattle.i2c_phases.specs.declared.tracker.Event.TheVariants.{Begins, WriteByte, ReadByte, Resets}
use Rattle.i2c_phases.specs.declared.tracker.Event.TheVariants.{Passes}
use Rattle.i2c_phases.specs.declared.tracker.Role.TheVariants.{Fresh}
use Rattle.i2c_phases.specs.declared.tracker.Track.{Track}
use Rattle.i2c_phases.specs.Phases.{Meaning, Nothing, Writes, Reads, Reset, is_mark, is_start}
use Rattle.i2c_phases.specs.Phases.{last_part, meanings, phase_near, starts_at}
use Rattle.i2c_phases.specs.laws.Tracking.{Comes, ends, event, no_phase, track, track_next}
use Rattle.i2c_phases.specs.laws.Tracking.{track_of}
use Rattle.i2c_phases.specs.laws.PhaseLaws.{by_weaker, adds_few, along_on, keeps_front}
use Rattle.i2c_phases.specs.laws.FloorLaws.{floor_is}
use Rattle.i2c_phases.specs.laws.TrackLaws.{track_more}
use Rattle.i2c_phases.specs.Devices.{FewFrom, StartsFrom, GivesByByte, GivesNoPackets, KnowsOpened}
use Rattle.i2c_phases.specs.Devices.{TakesByte, Happens, StandsFor, near_by, phased}

module _ (step : List Meaning → Meaning → List Out) (bytes : GivesByByte step) where
  longer_gives : (before phases longer : List Meaning) (old now : Meaning) (into : List Out)
      → phases ≡ before ++ old ∷ [] → longer ≡ before ++ now ∷ []
      → step before now ≡ step before old ++ into → along step longer ≡ along step phases ++ into
  longer_gives before phases longer old now into was is more =
      ap (along step) is ∙ along_push step before now
      ∙ ap (λ (l : List Out). along step before ++ l) more
      ∙ sym (append_assoc (along step before) (step before old) into)
      ∙ ap (λ (l : List Out). l ++ into) (sym (ap (along step) was ∙ along_push step before old))

  -- a change that gives nothing
  none_more : (now old : List Out) (into : List Out) → now ≡ [] → old ≡ [] → into ≡ []
      → now ≡ old ++ into
  none_more now old into a b c = a ∙ sym (λ i. b i ++ c i)

  module _ (old new : List Meaning → Type 0) (p : Packet) (into : List Out) where
    pub happens_begin : into ≡ []
        → ((phases : List Meaning) → old phases → new (phases ++ Nothing ∷ []))
        → Happens old new step Begins p into
    happens_begin none knows phases longer comes had = (
      subst new (sym comes) (knows phases had),
      ap (along step) comes ∙ along_push step phases Nothing
          ∙ (λ i. along step phases ++ ((bytes 0 phases).nothing ∙ sym none) i),
    )

    pub happens_reset : into ≡ []
        → ((before : List Meaning) → old (before ++ Nothing ∷ []) → new (before ++ Reset ∷ []))
        → Happens old new step Resets p into
    happens_reset none knows phases longer comes had =
        let before = comes.0 in (
          subst new (sym comes.2) (knows before (subst old comes.1 had)),
          longer_gives before phases longer Nothing Reset into comes.1 comes.2
              (none_more _ _ into (bytes 0 before).reset (bytes 0 before).nothing none),
        )

    pub happens_write : TakesByte Writes old new step p into → Happens old new step WriteByte p into
    happens_write takes phases longer comes had =
        let t = takes comes.0 comes.1 (subst old comes.2 had) in (
          subst new (sym comes.3) t.0,
          longer_gives comes.0 phases longer (Writes comes.1)
              (Writes (comes.1 ++ p ∷ [])) into comes.2 comes.3 t.1,
        )

    pub happens_read : TakesByte Reads old new step p into → Happens old new step ReadByte p into
    happens_read takes phases longer comes had =
        let t = takes comes.0 comes.1 (subst old comes.2 had) in (
          subst new (sym comes.3) t.0,
          longer_gives comes.0 phases longer (Reads comes.1)
              (Reads (comes.1 ++ p ∷ [])) into comes.2 comes.3 t.1,
        )

    pub happens_pass : into ≡ [] → KnowsOpened old
        → ((phases : List Meaning) → old phases → new phases) → Happens old new step Passes p into
    happens_pass none opened keeps phases longer (inl same) had = (
      keeps longer (subst old (sym same) had),
      ap (along step) same
          ∙ sym (append-nil (along step phases)) ∙ (λ i. along step phases ++ sym none i),
    )
    happens_pass none opened keeps phases longer (inr opens) had =
        let before = opens.0 in
        let both = opened before (subst old opens.1 had) in
        elim opens.2 [
          | inl writes ↦ (
            keeps longer (subst old (sym writes) both.0),
            longer_gives before phases longer
                Nothing (Writes []) into opens.1 writes
                (none_more _ _ into (bytes 0 before).no_write (bytes 0 before).nothing none),
          )
          | inr reads ↦ (
            keeps longer (subst old (sym reads) both.1),
            longer_gives before phases longer
                Nothing (Reads []) into opens.1 reads
                (none_more _ _ into (bytes 0 before).no_read (bytes 0 before).nothing none),
          )
        ]

  module _ (device : ℕ) (resets : Bool) where
    phased_nothing : GivesNothing (phased device resets step)
    phased_nothing = refl

    phased_prefix : KeepsFront (phased device resets step)
    phased_prefix =
        keeps_front device resets (FewFrom 0) (StartsFrom 0) step (bytes 0) (λ p. omega arith)

    phased_few : AddsFew (phased device resets step)
    phased_few =
        adds_few device resets (FewFrom 0) (StartsFrom 0) step (bytes 0) (λ p. omega arith)
        (λ new few. few.0)

    pub phased_floor : GivesOn NoWire (phased device resets step) → (seen : List Packet) (from : ℕ)
        → last_start 0 seen ≤ from
        → IsPacketFloor I2cWire (phased device resets step) seen from (phase_near seen from)
    phased_floor on seen from later more new all behind is = (
      floor_is device resets step
          (λ floor before. by_weaker (FewFrom floor) (NotesFrom floor) (StartsFrom floor)
          (step before) (λ l few. few.1) (bytes floor before)) I2cWire seen from later all more new
          behind is,
      from_free (phased device resets step) on seen (phase_near seen from) more new is,
    )

-- where a packet happens to a device, and what is kept follows it, the device stands for one packet
-- more
module _ (old new : List Meaning → Type 0) (step : List Meaning → Meaning → List Out) (device : ℕ)
    (resets : Bool) (kept : Track) (p : Packet) (into : List Out)
    (happens : Happens old new step (event kept.role p) p into) (seen : List Packet)
    (stands : StandsFor old device resets kept seen) where
  abbrev more : Type 0
  more = new (meanings device resets (seen ++ p ∷ []))
      × (along step (meanings device resets (seen ++ p ∷ []))
      ≡ along step (meanings device resets seen) ++ into)

  grown : more
  grown =
      let comes = (track_more device resets p seen).1 in
      happens (meanings device resets seen) (meanings device resets (seen ++ p ∷ []))
      (subst (λ (t : Track). Comes (event t.role p) p (meanings device resets seen)
      (meanings device resets (seen ++ p ∷ []))) (sym stands.0) comes) stands.1

  pub stands_more : (now : Track) → now ≡ track_next device resets kept p
      → StandsFor new device resets now (seen ++ p ∷ [])
  stands_more now is = (
    is ∙ ap (λ (t : Track). track_next device resets t p) stands.0
        ∙ sym (track_more device resets p seen).0,
    grown.0,
  )

  pub loud_more : phased device resets step (seen ++ p ∷ [])
      ≡ phased device resets step seen ++ into
  loud_more = grown.1

module _ (step : List Meaning → Meaning → List Out) (no_packets : GivesNoPackets step) (device : ℕ)
    (resets : Bool) where
  pub phased_on : GivesOn NoWire (phased device resets step)
  phased_on packets = along_on NoWire step no_packets [] (meanings device resets packets)

  phased_order : PacketsStayInOrder I2cWire (phased device resets step)
  phased_order = order_free I2cWire (phased device resets step) phased_on

  pub phased_promises : GivesByByte step → PacketOuts I2cWire NoWire (phased device resets step)
  phased_promises by_byte = record {
    nothing = phased_nothing step by_byte device resets;
    prefix = phased_prefix step by_byte device resets;
    order = phased_order;
    few = phased_few step by_byte device resets;
    on_wire = phased_on;
  }

-- where the open phase starts
module _ (device : ℕ) (resets : Bool) where
  pub near_is : (packets : List Packet) (from : ℕ)
      → near_by (track device resets packets) from ≡ phase_near packets from
  unfolding track
  near_is packets from = by (last_part (parts is_mark packets))
    where
      by : (part : List Packet) → near_by (track_of device resets part) from
          ≡ starts_at from part
      by [] = refl
      by (x ∷ xs) = go (is_start x.kind)
        where
          go : (t : Bool) → near_by
              (if t then (record {
                begun = true;
                start = x.start;
                role = ends device resets Fresh xs;
              }) else no_phase) from
              ≡ (if t then x.start else from)
          go true = refl
          go false = refl

  pub near_kept : (kept : Track) (packets : List Packet) (from result : ℕ)
      → kept ≡ track device resets packets → result ≡ near_by kept from
      → phase_near packets from ≡ result
  near_kept kept packets from result is result_is =
      sym (result_is ∙ ap (λ (t : Track). near_by t from) is ∙ near_is packets from)

  pub kept_nothing : no_phase ≡ track device resets []
  unfolding track
  kept_nothing = refl
