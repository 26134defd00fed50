-- What stands before a decoding or a search fails.
use Rattle.std.proofs.Common.{◌≡◌, ℕ, ◌⊎◌, List, [], Option, Ok, Err, refl}
use Rattle.std.proofs.KnownBytes.{Consumes-nil}
use Rattle.la_io.specs.Capture.{Told, Cut}
use Rattle.la_io.specs.declared.fault.CaptureError.{CaptureError}
use Rattle.la_io.specs.declared.fault.CaptureError.TheVariants as error
use Rattle.capture_any.specs.Listings.{Says}
use Rattle.capture_any.specs.Reading.{Opens, names_of, rate_of}
use Rattle.capture_any.specs.declared.capture.Capture.{Capture}
use Rattle.capture_any.specs.declared.end.ListingEnd.{ListingEnd}
use Rattle.capture_any.specs.declared.end.ListingEnd.TheVariants as ends
use Rattle.capture_any.specs.declared.form.Form.{Form}
use Rattle.words.specs.Settings.{Values}
use Rattle.run_status.specs.Notices.{status_at_head}
use Rattle.run_status.specs.declared.status.Status.TheVariants.{Bind, NoMemory}
use Rattle.run_asks.specs.Asking.{IsFormOf, IsJudged, SearchRefused, StackRefused}
use Rattle.run_asks.specs.Refusing.{RefusesOn}
use Rattle.cond_words.specs.declared.faults.BindFault.{BindFault}

module _ (values : Values) (form : Form) (named : IsFormOf values form) (judged : IsJudged values) (left_old left_mid : Option (List ℕ)) where
  -- the capture can't be opened
  pub opening_fails : (why : CaptureError) → Opens form left_old left_mid (Err why) → RefusesOn values left_old left_mid (status_at_head why)
  opening_fails (error.Fault fault) opens = record {
    bytes = opens.bytes;
    told = opens.opened.0;
    taken = opens.consumed;
    at_end = opens.opened.1;
    refuses = record { form = form; form_is = named; judged = judged; head_is = opens.opened.2 };
  }
  opening_fails error.Read opens = record {
    bytes = opens.bytes;
    told = Cut;
    taken = opens.consumed;
    at_end = λ e. cc;
    refuses = (refl, record { form = form; form_is = named; judged = judged; head_is = opens.opened });
  }
  opening_fails error.NoMemory opens = record {
    bytes = opens.bytes;
    told = Cut;
    taken = opens.consumed;
    at_end = λ e. cc;
    refuses = tt;
  }

  module _ (capture : Capture) (opens : Opens form left_old left_mid (Ok capture)) where
    -- a channel isn't there
    pub binding_fails : (fault : BindFault) → SearchRefused values (names_of capture) fault ⊎ StackRefused values (names_of capture) (rate_of capture) fault → RefusesOn values left_old left_mid (Bind fault)
    binding_fails fault refused = record {
      bytes = opens.bytes;
      told = opens.opened.0;
      taken = opens.consumed;
      at_end = opens.opened.1;
      refuses = record { head = record { form = form; names = names_of capture; rate = rate_of capture; form_is = named; is = opens.opened.3 }; refused = refused };
    }

    -- there was no memory to bind
    pub no_room_to_bind : RefusesOn values left_old left_mid NoMemory
    no_room_to_bind = record {
      bytes = opens.bytes;
      told = Cut;
      taken = opens.consumed;
      at_end = λ e. cc;
      refuses = tt;
    }

-- there was no memory before anything was read
pub no_room : (values : Values) (left : Option (List ℕ)) → RefusesOn values left left NoMemory
no_room values left = record {
  bytes = [];
  told = Cut;
  taken = Consumes-nil left;
  at_end = λ e. cc;
  refuses = tt;
}

pub read_is_cut : (form : Form) (pins : List ℕ) (Whole Front : List ℕ → Type 0) (bytes : List ℕ) (told : Told) (end : ListingEnd) → end ≡ ends.Read → Says form pins Whole Front bytes told end → told ≡ Cut
read_is_cut form pins Whole Front bytes told ends.Done is says = cc
read_is_cut form pins Whole Front bytes told ends.Read is says = says.0
read_is_cut form pins Whole Front bytes told ends.Write is says = cc
read_is_cut form pins Whole Front bytes told (ends.Fault fault) is says = cc
read_is_cut form pins Whole Front bytes told ends.NoMemory is says = cc
