-- What a search came to.
use Rattle.std.proofs.Common.{◌≡◌, ◌≢◌, ℕ, inl, inr, List, ◌++◌, Option, Ok, refl, sym, subst}
use Rattle.std.proofs.KnownBytes.{Consumes-trans}
use Rattle.la_io.specs.Grown.{appends_nothing}
use Rattle.capture_any.specs.Captures.{TakesNoMemory}
use Rattle.capture_any.specs.Listings.{Lists}
use Rattle.capture_any.specs.Reading.{Opens, form_of as capture_form, names_of, pins_of, rate_of}
use Rattle.capture_any.specs.declared.capture.Capture.{Capture}
use Rattle.capture_any.specs.declared.end.ListingEnd.{ListingEnd}
use Rattle.capture_any.specs.declared.end.ListingEnd.TheVariants as ends
use Rattle.capture_any.specs.declared.form.Form.{Form}
use Rattle.find_job.specs.Finding.{WholeListing, ListingFront}
use Rattle.wait_cond.specs.declared.alt.Alt.{Alt}
use Rattle.words.specs.Settings.{Values}
use Rattle.std.proofs.Math.Path.{transport}
use Rattle.run_status.specs.Notices.{status_of}
use Rattle.run_status.specs.declared.status.Status.{Status}
use Rattle.run_asks.specs.Asking.{AsksFor, IsFormOf}
use Rattle.run_asks.specs.Refusing.{RefusesOn}
use Rattle.run_asks.proofs.Forms.{head_later}
use Rattle.search_job.specs.Searching.{SearchesOn}

-- one that couldn't begin, as what its status says: nothing was written
pub searches_refused : (values : Values) (left_old left_new written : Option (List ℕ)) (status : Status) → RefusesOn values left_old left_new status → SearchesOn values left_old left_new written written status
searches_refused values left_old left_new written status r = record {
  bytes = r.bytes;
  told = r.told;
  taken = r.taken;
  at_end = r.at_end;
  searched = inr (r.refuses, appends_nothing written);
}

module _ (values : Values) (form : Form) (named : IsFormOf values form) (left_old left_mid old : Option (List ℕ)) where
  module _ (capture : Capture) (opens : Opens form left_old left_mid (Ok capture)) where
    module _ (now : Capture) (pins : List ℕ) (form_stays : capture_form now ≡ form) (pins_are : pins_of now ≡ pins) (left_new new : Option (List ℕ)) where
      as_opened : (Whole Front : List ℕ → Type 0) (end : ListingEnd) → Lists (capture_form now) (pins_of now) Whole Front opens.bytes opens.opened.0 left_mid left_new end → Lists form pins Whole Front opens.bytes opens.opened.0 left_mid left_new end
      as_opened Whole Front end lists = transport (λ i. Lists (form_stays i) (pins_are i) Whole Front opens.bytes opens.opened.0 left_mid left_new end) lists

      -- a search came to its end
      pub search_ends : (alts : List Alt) (end : ListingEnd) → AsksFor values (names_of capture) pins alts → (TakesNoMemory (capture_form now) → end ≢ ends.NoMemory)
          → Lists (capture_form now) (pins_of now) (λ samples. WholeListing samples alts old new) (λ samples. ListingFront samples alts old new) opens.bytes opens.opened.0 left_mid left_new end → SearchesOn values left_old left_new old new (status_of end)
      search_ends alts end asks memory lists =
          let l = as_opened (λ samples. WholeListing samples alts old new) (λ samples. ListingFront samples alts old new) end lists in
          let head = head_later form opens.bytes l.bytes opens.opened.0 l.told (names_of capture) (rate_of capture) l.later opens.opened.3 in
          record {
            bytes = opens.bytes ++ l.bytes;
            told = l.told;
            taken = Consumes-trans left_old left_mid left_new opens.bytes l.bytes opens.consumed l.taken;
            at_end = l.at_end;
            searched = inl (end, refl, record { head = record { form = form; names = names_of capture; rate = rate_of capture; form_is = named; is = head }; pins = pins; alts = alts; asks = asks; says = l.says; memory = λ takes_none. memory (subst TakesNoMemory (sym form_stays) takes_none) });
          }
