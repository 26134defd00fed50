-- The laws of captures, by their form.
use Rattle.std.proofs.Common.{◌≡◌, ℕ, ◌≤◌, ◌^◌, List, [], ◌++◌, refl, sym, ◌∙◌, ap, subst, arith}
use Rattle.la_base.specs.declared.samples.Rate.{Rate}
use Rattle.la_io.specs.declared.fault.CaptureFault.{CaptureFault}
use Rattle.la_io.specs.Capture.{Told, Cut, Good, Bad}
use Rattle.capture_raw.proofs.Captures.{unit_some, settled_longer, fault_stays}
use Rattle.capture_raw.proofs.Standing.{given_front}
use Rattle.capture_raw.specs.Raw.{raw_names, raw_capture}
use Rattle.capture_vcd.proofs.Longer.{longer_goes_on}
use Rattle.capture_vcd.proofs.Longer as vcd
use Rattle.capture_vcd.proofs.Given as vcd_given
use Rattle.capture_csv.proofs.Longer as csv
use Rattle.capture_csv.proofs.Giving as csv_given
use Rattle.capture_any.specs.Captures.{capture_of}
use Rattle.capture_any.specs.Laws.{LongerExtends, FaultStays, HeadStays, PinsLeaveTheHead, PinsLeaveTheEnding, GivenIsFront}
use Rattle.capture_any.specs.Reading.{StandsIn, form_in, pins_in, given_in}
use Rattle.capture_any.specs.declared.form.Form.{Form}
use Rattle.capture_any.specs.declared.form.Form.TheVariants.{Raw, Vcd, Csv}
use Rattle.capture_any.specs.declared.reader.Reader.{Reader}
use Rattle.capture_any.specs.declared.reader.Reader.TheVariants.{Raw as OfRaw, Vcd as OfVcd, Csv as OfCsv}

-- a raw capture has a good head from the first
pub raw_head : (channels : ℕ) (rate : Rate) (pins bytes : List ℕ) (told : Told) → (raw_capture channels rate pins bytes told).head ≡ Good (raw_names channels) rate.num rate.den
unfolding raw_capture
raw_head channels rate pins bytes told = refl

pub longer_extends : LongerExtends
longer_extends (Raw channels rate) pins front more told is = settled_longer channels rate pins front more told (omega (arith, is.0))
longer_extends (Vcd down) pins front more told is = (longer_goes_on down pins front more told).settled (omega (arith, is.0))
longer_extends (Csv mode header rate) pins front more told is = (csv.longer_goes_on mode header rate.num rate.den pins front more told).settled

pub faults_stay : FaultStays
faults_stay (Raw channels rate) pins front more told fault is = fault_stays channels rate pins front more told fault is
faults_stay (Vcd down) pins front more told fault is = (longer_goes_on down pins front more told).fault fault is
faults_stay (Csv mode header rate) pins front more told fault is = (csv.longer_goes_on mode header rate.num rate.den pins front more told).fault fault is

good_stays : (form : Form) (pins front more : List ℕ) (told : Told) (names : List (List ℕ)) (num den : ℕ)
    → (capture_of form pins front Cut).head ≡ Good names num den → (capture_of form pins (front ++ more) told).head ≡ Good names num den
unfolding raw_capture
good_stays (Raw channels rate) pins front more told names num den is = is
good_stays (Vcd down) pins front more told names num den is = (longer_goes_on down pins front more told).good names num den is
good_stays (Csv mode header rate) pins front more told names num den is = (csv.longer_goes_on mode header rate.num rate.den pins front more told).good names num den is

bad_stays : (form : Form) (pins front more : List ℕ) (told : Told) (fault : CaptureFault)
    → (capture_of form pins front Cut).head ≡ Bad fault → (capture_of form pins (front ++ more) told).head ≡ Bad fault
unfolding raw_capture
bad_stays (Raw channels rate) pins front more told fault is = is
bad_stays (Vcd down) pins front more told fault is = (longer_goes_on down pins front more told).bad fault is
bad_stays (Csv mode header rate) pins front more told fault is = (csv.longer_goes_on mode header rate.num rate.den pins front more told).bad fault is

pub head_stays : HeadStays
head_stays = record {
  good = good_stays;
  bad = bad_stays;
}

pub pins_leave_the_head : PinsLeaveTheHead
unfolding raw_capture
pins_leave_the_head (Raw channels rate) pins others bytes told = refl
pins_leave_the_head (Vcd down) pins others bytes told = vcd.pins_leave_the_head down pins others bytes told
pins_leave_the_head (Csv mode header rate) pins others bytes told = csv.pins_leave_the_head mode header rate.num rate.den pins others bytes told

pub pins_leave_the_ending : PinsLeaveTheEnding
unfolding raw_capture
pins_leave_the_ending (Raw channels rate) pins others bytes told = refl
pins_leave_the_ending (Vcd down) pins others bytes told = vcd.pins_leave_the_ending down pins others bytes told
pins_leave_the_ending (Csv mode header rate) pins others bytes told = csv.pins_leave_the_ending mode header rate.num rate.den pins others bytes told

front_in : (reader : Reader) (bytes : List ℕ) (told : Told) (given : List ℕ) → StandsIn reader bytes told given → given_in reader ≤ 2 ^ 60
    → (rest : List ℕ) × ((capture_of (form_in reader) (pins_in reader) bytes told).settled ≡ given ++ rest)
front_in (OfRaw raw) bytes told given st few =
    let reader = raw.reader in
    given_front reader.channels (unit_some reader.channels reader.channels_fit.0) reader.rate reader.pins.items reader.held bytes given told st.1 few
front_in (OfVcd reader) bytes told given st few = vcd_given.given_is_front reader bytes told given st
front_in (OfCsv reader) bytes told given st few = csv_given.given_is_front reader bytes told given st

-- what a reader has given are the first samples that its bytes settle, also where it gives no more
pub given_is_front : GivenIsFront
given_is_front capture bytes told given st = front_in capture.reader bytes told given st.stands st.few

-- the head of a form that is opened
pub opened_head : (form : Form) (channels : ℕ) (rate : Rate) (names : List (List ℕ)) → Raw channels rate ≡ form → names ≡ raw_names channels
    → (capture_of form [] [] Cut).head ≡ Good names rate.num rate.den
opened_head form channels rate names is named =
    let Q : Form → Type 0 = λ (f : Form). (capture_of f [] [] Cut).head ≡ Good names rate.num rate.den in
    subst Q is (raw_head channels rate [] [] Cut ∙ ap (λ (l : List (List ℕ)). Good l rate.num rate.den) (sym named))
