-- The search for all stops, as it goes on.
use Rattle.std.proofs.Common.{◌≡◌, ℕ, List, [], ◌++◌, Option, sym, subst}
use Rattle.std.proofs.lemmas.List.{append-nil}
use Rattle.std.specs.Io.KnownBytes.{Appends, Keeps}
use Rattle.la_io.specs.Causes.{AppendsFront}
use Rattle.la_io.specs.Grown.{appends_nothing, appends_on}
use Rattle.la_io.proofs.Bytes.{appends_kept}
use Rattle.wait_cond.specs.Stops.{Stop, Chain, AreStops}
use Rattle.wait_cond.specs.Waiting.{Waits, alts_of, wait_from}
use Rattle.wait_cond.specs.declared.alt.Alt.{Alt}
use Rattle.wait_cond.specs.declared.scan.Waiter.{Waiter}
use Rattle.wait_cond.proofs.ChainLemmas.{chain_longer, waits_stops}
use Rattle.la_io.specs.Capture.{Told}
use Rattle.capture_any.specs.Captures.{ToldAt}
use Rattle.capture_any.specs.Reading.{Stands}
use Rattle.capture_any.specs.declared.capture.Capture.{Capture}
use Rattle.capture_any.proofs.ListingLemmas.{Gave, gave_nothing}
use Rattle.listing_out.specs.StopLines.{lines_of}
use Rattle.find_job.specs.Stopping.{AllWritten, CutOff}
use Rattle.find_job.specs.Finding.{WholeListing, ListingFront}
use Rattle.la_io.proofs.Fronts.{front_on, front_whole}
use Rattle.find_job.proofs.Fronts.{lines_append}

-- the capture has given samples of the bytes that were taken, and the lines of their stops are written
pub record Searching (capture : Capture) (waiter : Waiter) (before : List ℕ) (then : Told) (left_old left_now old now : Option (List ℕ)) : Type 0 where
  pub given : List ℕ
  pub stops : List Stop
  pub gave : Gave capture before then left_old left_now given
  pub waits : Waits waiter given
  pub chain : Chain given (alts_of waiter) 0 stops (wait_from waiter)
  pub written : Appends old now (lines_of stops)

pub searching_starts : (capture : Capture) (waiter : Waiter) (before : List ℕ) (then : Told) (left old : Option (List ℕ)) → ToldAt then left → Stands capture before then [] → Waits waiter [] → wait_from waiter ≡ 0
    → Searching capture waiter before then left left old old
searching_starts capture waiter before then left old at stands waits from = record {
  given = [];
  stops = [];
  gave = gave_nothing capture before then left at stands;
  waits = waits;
  chain = sym from;
  written = appends_nothing old;
}

module _ (capture : Capture) (waiter : Waiter) (before : List ℕ) (then : Told) (left_old left_now old now : Option (List ℕ)) (so_far : Searching capture waiter before then left_old left_now old now) where
  -- samples, whose stops are written
  pub searching_on : (next : Capture) (left_new : Option (List ℕ)) (samples : List ℕ) (after : Waiter) (new : Option (List ℕ)) → Gave next before then left_old left_new (so_far.given ++ samples) → alts_of after ≡ alts_of waiter
      → AllWritten after (alts_of waiter) (so_far.given ++ samples) so_far.stops now new → Searching next after before then left_old left_new old new
  searching_on next left_new samples after new gave alts written = record {
    given = so_far.given ++ samples;
    stops = so_far.stops ++ written.more;
    gave = gave;
    waits = written.waits;
    chain = subst (λ (a : List Alt). Chain (so_far.given ++ samples) a 0 (so_far.stops ++ written.more) (wait_from after)) (sym alts) written.chain;
    written = appends_on old now new (lines_of so_far.stops) (lines_of written.more) (lines_of (so_far.stops ++ written.more)) so_far.written written.written (sym (lines_append so_far.stops written.more));
  }

  -- what is written stays written
  pub searching_kept : (new : Option (List ℕ)) → Keeps now new → Searching capture waiter before then left_old left_now old new
  searching_kept new kept = record {
    given = so_far.given;
    stops = so_far.stops;
    gave = so_far.gave;
    waits = so_far.waits;
    chain = so_far.chain;
    written = appends_kept old now new (lines_of so_far.stops) so_far.written kept;
  }

  -- nothing more was written
  pub cut_nothing : (new : Option (List ℕ)) → Keeps now new → CutOff (alts_of waiter) (so_far.given ++ []) so_far.stops now new
  cut_nothing new kept = record {
    more = [];
    to = wait_from waiter;
    chain = subst (λ (l : List ℕ). Chain l (alts_of waiter) 0 (so_far.stops ++ []) (wait_from waiter)) (sym (append-nil so_far.given))
        (subst (λ (l : List Stop). Chain so_far.given (alts_of waiter) 0 l (wait_from waiter)) (sym (append-nil so_far.stops)) so_far.chain);
    written = front_whole now new (lines_of []) (appends_kept now now new (lines_of []) (appends_nothing now) kept);
  }

  module _ (alts : List Alt) (same : alts_of waiter ≡ alts) where
    -- the listing of the samples that were given is whole
    pub whole_so_far : WholeListing so_far.given alts old now
    whole_so_far = record {
      stops = so_far.stops;
      all = subst (λ (a : List Alt). AreStops so_far.given a so_far.stops) same (waits_stops waiter so_far.given so_far.stops so_far.waits so_far.chain);
      written = so_far.written;
    }

    -- a write failed: a front of the listing of these samples and any more was appended
    pub front_of_more : (samples : List ℕ) (new : Option (List ℕ)) → CutOff (alts_of waiter) (so_far.given ++ samples) so_far.stops now new
        → (rest : List ℕ) → ListingFront (so_far.given ++ samples ++ rest) alts old new
    front_of_more samples new cut rest = record {
      stops = so_far.stops ++ cut.more;
      to = cut.to;
      first = subst (λ (a : List Alt). Chain (so_far.given ++ samples ++ rest) a 0 (so_far.stops ++ cut.more) cut.to) same
          (chain_longer (so_far.given ++ samples) rest (alts_of waiter) 0 cut.to (so_far.stops ++ cut.more) cut.chain);
      written = subst (λ (l : List ℕ). AppendsFront old new l) (sym (lines_append so_far.stops cut.more)) (front_on old now new (lines_of so_far.stops) (lines_of cut.more) so_far.written cut.written);
    }

-- what was appended whole is also a front
pub whole_is_front : (samples : List ℕ) (alts : List Alt) (old new : Option (List ℕ)) → WholeListing samples alts old new → ListingFront samples alts old new
whole_is_front samples alts old new whole = record {
  stops = whole.stops;
  to = whole.all.to;
  first = whole.all.chain;
  written = front_whole old new (lines_of whole.stops) whole.written;
}
