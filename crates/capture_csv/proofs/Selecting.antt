-- A reader with other channels.
use Rattle.std.proofs.Common.{◌≡◌, ℕ, ◌≤◌, ◌^◌, false, List, [], refl, sym, subst, arith, Bool}
use Rattle.la_io.specs.Capture.{Told, Clean, Faulty, Ends}
use Rattle.byte_feed.specs.declared.lines.Lines.{Lines}
use Rattle.byte_feed.specs.LineReader.{Stands, is_spent, taken_of}
use Rattle.capture_csv.specs.Csv.{body_of, csv_capture}
use Rattle.capture_csv.specs.Reader.{FirstIs, StandsAs, csv_header, csv_mode, csv_names, csv_rate}
use Rattle.capture_csv.specs.Records.{Record}
use Rattle.capture_csv.specs.Running.{BodyStands, want_in}
use Rattle.capture_csv.specs.declared.phase.Phase.{Phase}
use Rattle.capture_csv.specs.declared.phase.Phase.TheVariants.{Running, Ended, Empty, Refused}
use Rattle.capture_csv.specs.declared.reader.CsvReader.{CsvReader}

module _ (old new : CsvReader) (bytes : List ℕ) (told : Told) (lines_is : new.lines ≡ old.lines) (mode : csv_mode new ≡ csv_mode old) (header : csv_header new ≡ csv_header old) (rate : csv_rate new ≡ csv_rate old)
    (want : want_in new.body ≡ want_in old.body) (names : csv_names new ≡ csv_names old) (body : (records : List Record) → BodyStands old.body records [] → BodyStands new.body records []) where
  pub selected : (phase : Phase) → StandsAs phase old bytes told [] → StandsAs phase new bytes told []
  selected Running st = record {
    items = st.items;
    first = st.first;
    rest = st.rest;
    records = st.records;
    head = coe 0 1 (i. FirstIs (sym mode i) (sym header i) (sym want i) (sym names i) st.first) st.head;
    fresh = subst (λ (l : Lines). is_spent l ≡ false) (sym lines_is) st.fresh;
    lines = subst (λ (l : Lines). Stands l bytes told st.items) (sym lines_is) st.lines;
    few = subst (λ (l : Lines). taken_of l ≤ 2 ^ 60) (sym lines_is) st.few;
    body = subst (λ (h : Bool). BodyStands new.body (body_of h st.first st.rest) []) (sym header) (body (body_of (csv_header old) st.first st.rest) st.body);
  }
  selected Ended st = absurd (omega (arith, st.some))
  selected Empty st = record {
    told_end = st.told_end;
    none = refl;
    ends = λ pins. coe 0 1 (i. Ends (csv_capture (sym mode i) (sym header i) (sym rate i).num (sym rate i).den pins bytes told) [] Clean) (st.ends pins);
  }
  selected (Refused fault) st = record {
    none = refl;
    ends = λ pins. coe 0 1 (i. Ends (csv_capture (sym mode i) (sym header i) (sym rate i).num (sym rate i).den pins bytes told) [] (Faulty fault)) (st.ends pins);
  }
