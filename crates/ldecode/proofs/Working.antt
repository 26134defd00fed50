-- What a run's status says, from what its parts say.
use Rattle.std.proofs.Common.{◌≡◌, ℕ, inl, inr, List, [], ◌++◌, Option, Err, refl, sym, subst, arith}
use Rattle.std.proofs.KnownBytes.{Consumes-trans}
use Rattle.la_base.specs.declared.samples.Rate.{Rate}
use Rattle.la_io.specs.Capture.{Told, Cut}
use Rattle.la_io.specs.Grown.{appends_nothing}
use Rattle.la_io.specs.declared.fault.CaptureError.{CaptureError}
use Rattle.la_io.specs.declared.fault.CaptureError.TheVariants as error
use Rattle.capture_any.specs.Captures.{IsForm, ToldAt}
use Rattle.capture_any.specs.Listings.{ReadCause, WriteCause}
use Rattle.la_io.specs.Reading.{CaptureCause}
use Rattle.capture_any.specs.declared.end.ListingEnd.{ListingEnd}
use Rattle.capture_any.specs.declared.end.ListingEnd.TheVariants as ends
use Rattle.capture_any.specs.declared.form.Form.{Form}
use Rattle.find_job.specs.Finding.{WholeListing, ListingFront}
use Rattle.words.specs.Settings.{Values}
use Rattle.stack_words.specs.Accepting.{Accepted}
use Rattle.check_point.specs.declared.faults.CheckFault.{CheckFault}
use Rattle.words.specs.declared.kinds.Job.TheVariants.{Part}
use Rattle.std.specs.Io.KnownBytes.{Appends, Consumes}
use Rattle.decoder_core.specs.Trees.{Node}
use Rattle.decoder_set.specs.declared.setup.Setup.{Setup}
use Rattle.run_status.specs.Causes.{SinkCause, SourceCause, WhereUnread}
use Rattle.run_status.specs.Notices.{status_at_head, status_of}
use Rattle.run_status.specs.declared.status.Status.{Status}
use Rattle.run_status.specs.declared.status.Status.TheVariants.{Bind, Capture as CaptureStatus, Check, Done, NoMemory, ReadFault, Stack, Words, WriteFault}
use Rattle.search_job.specs.Searching.{SearchTells, SearchesOn}
use Rattle.run_asks.proofs.Opening.{read_is_cut}
use Rattle.run_asks.proofs.Forms.{head_later}
use Rattle.run_asks.specs.Asking.{AsksStack, HasHead, IsFormOf, PartRefused, setups_in}
use Rattle.run_asks.specs.Refusing.{Refuses, RefusesOn}
use Rattle.run_asks.specs.Parting.{CanBegin, Saves}
use Rattle.ldecode.specs.Headline.{Worked, Works, WorksOn}
use Rattle.ldecode.specs.Parts.{PartEnds, PartLists}

-- work that came to its end, as what the status of that end says
pub worked : (saves : Saves) (values : Values) (bytes : List ℕ) (told : Told) (old new : Option (List ℕ)) (end : ListingEnd) → (end ≡ ends.Read → told ≡ Cut) → Worked saves values bytes told old new end → Works saves values bytes told old new (status_of end)
worked saves values bytes told old new ends.Done cut w = w
worked saves values bytes told old new ends.Read cut w = (cut refl, inl w)
worked saves values bytes told old new ends.Write cut w = w
worked saves values bytes told old new (ends.Fault fault) cut w = inl w
worked saves values bytes told old new ends.NoMemory cut w = inl w

part_is_cut : (form : Form) (pins : List ℕ) (count : ℕ) (bytes : List ℕ) (told : Told) (end : ListingEnd) → PartEnds form pins count bytes told end → end ≡ ends.Read → told ≡ Cut
part_is_cut form pins count bytes told ends.Done says is = cc
part_is_cut form pins count bytes told ends.Read says is = says
part_is_cut form pins count bytes told ends.Write says is = cc
part_is_cut form pins count bytes told (ends.Fault fault) says is = cc
part_is_cut form pins count bytes told ends.NoMemory says is = cc

-- what couldn't begin, as what its status says: nothing was written
pub refused_works : (saves : Saves) (values : Values) (bytes : List ℕ) (told : Told) (old new : Option (List ℕ)) → Appends old new [] → (status : Status) → Refuses values bytes told status → Works saves values bytes told old new status
refused_works saves values bytes told old new none Done r = absurd r
refused_works saves values bytes told old new none (Words fault) r = absurd r
refused_works saves values bytes told old new none (Stack fault) r = (r.0, r.1, none)
refused_works saves values bytes told old new none (Bind fault) r = (r, none)
refused_works saves values bytes told old new none (Check fault) r = absurd r
refused_works saves values bytes told old new none ReadFault r = (r.0, inr (r.1, none))
refused_works saves values bytes told old new none (CaptureStatus fault) r = inr (r, none)
refused_works saves values bytes told old new none WriteFault r = absurd r
refused_works saves values bytes told old new none NoMemory r = inr none

pub works_refused : (saves : Saves) (values : Values) (left_old left_new written : Option (List ℕ)) (status : Status) → RefusesOn values left_old left_new status → WorksOn saves values left_old left_new written written status
works_refused saves values left_old left_new written status r = record {
  bytes = r.bytes;
  told = r.told;
  taken = r.taken;
  at_end = r.at_end;
  works = refused_works saves values r.bytes r.told written written (appends_nothing written) status r.refuses;
}

-- what a search came to, as work
pub works_searched : (saves : Saves) (values : Values) (left_old left_new old new : Option (List ℕ)) (status : Status) → SearchesOn values left_old left_new old new status → WorksOn saves values left_old left_new old new status
works_searched saves values left_old left_new old new status s = record {
  bytes = s.bytes;
  told = s.told;
  taken = s.taken;
  at_end = s.at_end;
  works = by s.searched;
}
  where
    by : SearchTells values s.bytes s.told old new status → Works saves values s.bytes s.told old new status
    by (inl (end, is, d)) =
        subst (Works saves values s.bytes s.told old new) (sym is) (worked saves values s.bytes s.told old new end
        (λ read. read_is_cut d.head.form d.pins (λ samples. WholeListing samples d.alts old new) (λ samples. ListingFront samples d.alts old new) s.bytes s.told end read d.says) (inl d))
    by (inr (refuses, none)) = refused_works saves values s.bytes s.told old new none status refuses

module _ (saves : Saves) (values : Values) (form : Form) (named : IsFormOf values form) (left_old left_mid old : Option (List ℕ)) (before : List ℕ) (then : Told) (taken : Consumes left_old left_mid before) (at : ToldAt then left_mid)
    (names : List (List ℕ)) (rate : Rate) (head : HasHead form before then names rate) where
  -- the checkpoint of a part is refused
  pub checking_fails : (fault : CheckFault) → PartRefused saves values names rate fault → WorksOn saves values left_old left_mid old old (Check fault)
  checking_fails fault refused = record {
    bytes = before;
    told = then;
    taken = taken;
    at_end = at;
    works = (record { head = record { form = form; names = names; rate = rate; form_is = named; is = head }; refused = refused }, appends_nothing old);
  }

  -- the decoding of a part came to its end
  pub part_ends : (pins : List ℕ) (left_new new : Option (List ℕ)) → IsForm form → values.job ≡ Part → (accepted : Accepted) (nodes : List (Node Setup)) (asks : AsksStack values names rate pins accepted nodes) (count : ℕ) → CanBegin saves (setups_in asks.stack) values.from count → (end : ListingEnd)
      → PartLists saves accepted nodes values.from count form pins before then left_mid left_new old new end → WorksOn saves values left_old left_new old new (status_of end)
  part_ends pins left_new new fits job accepted nodes asks count begins end l = record {
    bytes = before ++ l.bytes;
    told = l.told;
    taken = Consumes-trans left_old left_mid left_new before l.bytes taken l.taken;
    at_end = l.at_end;
    works = worked saves values (before ++ l.bytes) l.told old new end (part_is_cut form pins count (before ++ l.bytes) l.told end l.ends)
        (inr (inr (record { head = record { form = form; names = names; rate = rate; form_is = named; is = head_later form before l.bytes then l.told names rate l.later head }; opens = fits; pins = pins; accepted = accepted; nodes = nodes; job = job; asks = asks; count = count; begins = begins; ends = l.ends; says = l.says })));
  }

-- what holds behind each end, at a head that is no good one, and where binding failed
pub unread_at_end : (N P : Type 0) (end : ListingEnd) → WhereUnread N (status_of end) P
unread_at_end N P ends.Done = tt
unread_at_end N P ends.Read = tt
unread_at_end N P ends.Write = tt
unread_at_end N P (ends.Fault fault) = tt
unread_at_end N P ends.NoMemory = tt

pub unread_at_head : (N P : Type 0) (why : CaptureError) → WhereUnread N (status_at_head why) P
unread_at_head N P (error.Fault fault) = tt
unread_at_head N P error.Read = tt
unread_at_head N P error.NoMemory = tt

-- the causes of a run are those of its work
pub source_cause : (before mid now : ℕ) (end : ListingEnd) → mid ≡ before → ReadCause mid now end → SourceCause before now (status_of end)
source_cause before mid now end same cause = subst (λ (n : ℕ). SourceCause n now (status_of end)) same (by end cause)
  where
    by : (end : ListingEnd) → ReadCause mid now end → SourceCause mid now (status_of end)
    by ends.Done c = c
    by ends.Read c = c
    by ends.Write c = c
    by (ends.Fault fault) c = c
    by ends.NoMemory c = c

pub sink_cause : (before now : ℕ) (end : ListingEnd) → WriteCause before now end → SinkCause before now (status_of end)
sink_cause before now ends.Done c = c
sink_cause before now ends.Read c = c
sink_cause before now ends.Write c = c
sink_cause before now (ends.Fault fault) c = c
sink_cause before now ends.NoMemory c = c

pub head_source_cause : (T : Type 0) (before now : ℕ) (why : CaptureError) → CaptureCause {T = T} before now (Err why) → SourceCause before now (status_at_head why)
head_source_cause T before now (error.Fault fault) c = c
head_source_cause T before now error.Read c = c
head_source_cause T before now error.NoMemory c = omega (arith, c)

pub head_sink_cause : (count : ℕ) (why : CaptureError) → SinkCause count count (status_at_head why)
head_sink_cause count (error.Fault fault) = refl
head_sink_cause count error.Read = refl
head_sink_cause count error.NoMemory = refl
