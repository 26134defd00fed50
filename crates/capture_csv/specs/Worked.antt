-- Worked lines and captures, which the definition computes.
use Rattle.std.specs.Prelude.{pos, ◌≡◌, ◌^◌, true, false, [], ◌∷◌, ◌++◌, codes}
use Rattle.la_io.specs.declared.fault.CaptureFault.TheVariants.{Columns, Field, Time, TimeBack}
use Rattle.la_io.specs.declared.fault.CaptureFault.TheVariants.{TimeLarge}
use Rattle.la_io.specs.Capture.{AtEnd, Cut, Good, Unread, Clean, Faulty, Open}
use Rattle.byte_feed.specs.Lines.{mark}
use Rattle.capture_csv.specs.Fields.{fields_in}
use Rattle.capture_csv.specs.Csv.{csv_capture}
use Rattle.la_base.specs.declared.modes.CsvMode.TheVariants.{Rows, Times}

pub record WorkedLines : Type 0 where
  pub plain : fields_in (codes "0, 1,") ≡ codes "0" ∷ codes " 1" ∷ [] ∷ []
  pub behind_quote : fields_in (codes "\"1\"x,0") ≡ codes "1x" ∷ codes "0" ∷ []
  pub two_quotes : fields_in (codes "\"a\"\"b\",c") ≡ codes "a\"b" ∷ codes "c" ∷ []
  pub never_closed : fields_in (codes "0,\"1,0") ≡ codes "0" ∷ codes "1,0" ∷ []
  pub not_first : fields_in (codes "0 \"1\",0") ≡ codes "0 \"1\"" ∷ codes "0" ∷ []
  pub empty : fields_in (codes "\"\"") ≡ [] ∷ []

-- one record is one sample
pub record WorkedRows : Type 0 where
  -- a mark, a comment and an empty line before the names; carriage returns, spaces and quotes
  pub exported : csv_capture Rows true (10 ^ 6) 1 (0 ∷ 1 ∷ [])
      (mark ++ codes "; exported\r\n\r\nA,B\r\n0, 1\r\n\"1\",0\r\n") AtEnd
      ≡ record {
        head = Good (codes "A" ∷ codes "B" ∷ []) (10 ^ 6) 1;
        settled = 2 ∷ 1 ∷ [];
        ending = Clean;
      }
  -- a value that is neither 0 nor 1
  pub field : csv_capture Rows true 1 1 (0 ∷ []) (codes "A,B\n0,1\n2,0\n") AtEnd
      ≡ record {
        head = Good (codes "A" ∷ codes "B" ∷ []) 1 1;
        settled = 0 ∷ [];
        ending = Faulty (Field 3 1);
      }
  -- a record that lacks a field
  pub columns : csv_capture Rows true 1 1 (0 ∷ []) (codes "A,B\n0,1\n0") AtEnd
      ≡ record {
        head = Good (codes "A" ∷ codes "B" ∷ []) 1 1;
        settled = 0 ∷ [];
        ending = Faulty (Columns 3 2 1);
      }
  -- the same bytes cut: the last line doesn't count
  pub cut : csv_capture Rows true 1 1 (0 ∷ []) (codes "A,B\n0,1\n0") Cut
      ≡ record { head = Good (codes "A" ∷ codes "B" ∷ []) 1 1; settled = 0 ∷ []; ending = Open }
  -- no header: the first record is a sample, and names nothing
  pub no_header : csv_capture Rows false 1 1 (1 ∷ 0 ∷ []) (codes "#\n0,1\n1,1") AtEnd
      ≡ record {
        head = Good (codes "D0" ∷ codes "D1" ∷ []) 1 1;
        settled = 1 ∷ 3 ∷ [];
        ending = Clean;
      }
  -- no record
  pub none : csv_capture Rows true 1 2 [] (codes "\n \t\n # A\n") AtEnd
      ≡ record { head = Good [] 1 2; settled = []; ending = Clean }
  pub unread : csv_capture Rows true 1 2 [] (codes "\nA,B") Cut
      ≡ record { head = Unread; settled = []; ending = Open }
  -- quotes
  pub quotes : (csv_capture Rows true 1 1 (0 ∷ [])
      (codes "A,\"B\"\n\"1\",\" 0\"\n\"1\"x,0\n") AtEnd).ending ≡ Faulty (Field 3 1)
  pub comma : (csv_capture Rows true 1 1 (0 ∷ []) (codes "A,B\n\"0,1\"\n") AtEnd).ending
      ≡ Faulty (Columns 2 2 1)
  -- a mark before each of the lines
  pub marks : csv_capture Rows true 1 1 (0 ∷ [])
      (mark ++ mark ++ codes "A\n" ++ mark ++ mark ++ codes "1\n") AtEnd
      ≡ record { head = Good (codes "A" ∷ []) 1 1; settled = 1 ∷ []; ending = Clean }

-- records hold from their times on
pub record WorkedTimes : Type 0 where
  -- times before 0, and between two samples
  pub edges : csv_capture Times true 1000 1 (0 ∷ [])
      (codes "time,A\n-0.002,0\n0,1\n0.0015,0\n") AtEnd
      ≡ record { head = Good (codes "A" ∷ []) 1000 1; settled = 0 ∷ 0 ∷ 1 ∷ 0 ∷ []; ending = Clean }
  pub edges_cut : (csv_capture Times true 1000 1 (0 ∷ [])
      (codes "time,A\n-0.002,0\n0,1\n0.0015,0\n") Cut).settled ≡ 0 ∷ 0 ∷ 1 ∷ []
  -- a time that falls
  pub back : csv_capture Times true 1000 1 (0 ∷ []) (codes "t,A\n0,0\n0.002,1\n0.001,0\n") AtEnd
      ≡ record {
        head = Good (codes "A" ∷ []) 1000 1;
        settled = 0 ∷ 0 ∷ [];
        ending = Faulty (TimeBack 4 (pos 2000000000) (pos 1000000000));
      }
  -- equal times: the last record counts
  pub equal : (csv_capture Times true 1000 1 (0 ∷ []) (codes "t,A\n1,0\n1.0,1\n") AtEnd).settled
      ≡ 1 ∷ []
  -- decimals behind the twelfth are dropped
  pub decimals : csv_capture Times false 1 1 (0 ∷ [])
      (codes "+1.0000000000009,0\n1.0000000000001,1\n") AtEnd
      ≡ record { head = Good (codes "D0" ∷ []) 1 1; settled = 1 ∷ []; ending = Clean }
  pub zero : (csv_capture Times true 1 1 (0 ∷ [])
      (codes "t,A\n-0.0000000000009,0\n0,1\n") AtEnd).settled ≡ 1 ∷ []
  -- faults, in their order
  pub time : (csv_capture Times true 1 1 (0 ∷ []) (codes "t,A\n0.,2\n") AtEnd).ending
      ≡ Faulty (Time 2)
  pub digits : (csv_capture Times true 1 1 (0 ∷ []) (codes "t,A\n12345678901,0\n") AtEnd).ending
      ≡ Faulty (Time 2)
  pub large : (csv_capture Times true (10 ^ 15) 1 (0 ∷ [])
      (codes "t,A\n0,0\n1152.921504606847,2\n") AtEnd).ending ≡ Faulty (TimeLarge 3)
  pub not_large : (csv_capture Times true (10 ^ 15) 1 (0 ∷ [])
      (codes "t,A\n0,0\n1152.9215046068469,2\n") AtEnd).ending ≡ Faulty (Field 3 2)
  pub columns : (csv_capture Times true 1 1 (0 ∷ []) (codes "t,A\nx\n") AtEnd).ending
      ≡ Faulty (Columns 2 2 1)
  -- two records a day apart
  pub sparse : (csv_capture Times true (10 ^ 6) 1 (0 ∷ [])
      (codes "t,A\n0,0\n86400,1\n") AtEnd).ending ≡ Clean
