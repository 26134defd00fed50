-- What a reader has given is a front of what its bytes settle.
use Rattle.std.proofs.Common.{◌≡◌, ℕ, ◌<◌, List, [], ◌++◌, sym, ◌∙◌, ap, arith, append_assoc, Option}
use Rattle.std.proofs.lemmas.List.{append-nil}
use Rattle.text_parts.specs.Places.{Placed}
use Rattle.la_io.specs.Capture.{Told, Open}
use Rattle.la_io.specs.declared.fault.CaptureFault.{CaptureFault}
use Rattle.capture_vcd.specs.Body.{Event, Statement, event_of}
use Rattle.capture_vcd.specs.Within.{Free, statements_from}
use Rattle.capture_vcd.specs.Vcd.{body_by, settled_by}
use Rattle.text_parts.specs.Reading.{read_front}
use Rattle.capture_vcd.specs.Running.{channels_in, waiting}
use Rattle.capture_vcd.specs.declared.reader.Phase.{Phase}
use Rattle.capture_vcd.specs.declared.reader.Phase.TheVariants.{Fresh, Running, Ended, Refused}
use Rattle.capture_vcd.specs.Reader.{Going, GivenIsFront, StandsAs, kept_in, pins_in, vcd_by, vcd_down}
use Rattle.capture_vcd.specs.declared.reader.VcdReader.{VcdReader}
use Rattle.capture_vcd.proofs.Longer.{body_goes, statements_on}
use Rattle.capture_vcd.proofs.Reading.{capture_is, given_first, head_is}

going_front : (reader : VcdReader) (bytes : List ℕ) (told : Told) (given : List ℕ) → Going reader bytes told given → (rest : List ℕ) × ((vcd_by reader bytes told).settled ≡ given ++ rest)
going_front reader bytes told given going =
    let down = vcd_down reader in
    let channels = channels_in reader.body in
    let some : 0 < down = omega (arith, reader.body.down_fits.0) in
    let first = given_first reader.tokens bytes told (going.head ++ going.items) going.tokens going.few in
    let how = first.0.ending in
    let is = first.1 ∙ ap (λ (l : List Placed). record { items = l; ending = how }) (append_assoc going.head going.items first.0.items) in
    let whole = capture_is down (pins_in reader) channels (kept_in reader) going.head going.header bytes told (going.items ++ first.0.items) how is in
    let head = head_is down (pins_in reader) channels (kept_in reader) going.head going.header in
    let body = going.body.stands in
    let on = statements_on down head channels how going.items first.0.items in
    let goes = (body_goes down head channels how (statements_from Free going.items) on.0).settled some in
    let front : (body_by down head channels Open (read_front event_of [] (statements_from Free going.items))).settled ≡ given ++ waiting reader.body =
    ap (λ (r : List Event × Option CaptureFault). (body_by down head channels Open r).settled) body.read ∙ (λ i. settled_by down channels body.events Open (body.first i) (body.latest i)) ∙ sym body.gave in (
      waiting reader.body ++ goes.0,
      ap (λ c. c.settled) whole ∙ ap (λ (l : List Statement). (body_by down head channels how (read_front event_of [] l)).settled) on.1 ∙ goes.1 ∙ ap (λ (l : List ℕ). l ++ goes.0) front ∙ append_assoc given (waiting reader.body) goes.0,
    )

pub given_is_front : GivenIsFront
given_is_front reader bytes told given st = by_phase reader.phase st where
  by_phase : (phase : Phase) → StandsAs phase reader bytes told given → (rest : List ℕ) × ((vcd_by reader bytes told).settled ≡ given ++ rest)
  by_phase Fresh st = going_front reader bytes told given st.going
  by_phase Running st = going_front reader bytes told given st.going
  by_phase Ended st = ([], st.ends.settled ∙ sym (append-nil given))
  by_phase (Refused fault) st = ([], st.ends.settled ∙ sym (append-nil given))
