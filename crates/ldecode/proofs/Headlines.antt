-- The whole promise of a run, from what its status says.
use Rattle.std.proofs.Common.{◌≡◌, ◌+◌, ◌<◌, ◌≤◌, ◌⊎◌, inl, inr, ℕ, List, [], ◌++◌, length, Option, Some, None, Err, refl, sym, ◌∙◌, ap, subst, arith}
use Rattle.std.proofs.lemmas.List.{append-nil, length-append}
use Rattle.std.specs.Io.KnownBytes.{Appends, Consumes}
use Rattle.la_io.specs.Capture.{Told, AtEnd, Cut, Bad, Unread, Ending, Clean, Faulty, Captured}
use Rattle.la_io.specs.declared.fault.CaptureFault.{CaptureFault}
use Rattle.capture_any.specs.Captures.{IsForm, ToldAt, capture_of}
use Rattle.capture_any.specs.declared.end.ListingEnd.{ListingEnd}
use Rattle.capture_any.specs.declared.end.ListingEnd.TheVariants as end
use Rattle.capture_any.specs.declared.form.Form.{Form}
use Rattle.capture_any.proofs.CaptureLaws.{faults_stay, head_stays, longer_extends}
use Rattle.words.specs.Lexer.{Text}
use Rattle.words.specs.Settings.{Values, settings_of}
use Rattle.words.specs.declared.kinds.WordFault.{WordFault}
use Rattle.cond_words.specs.declared.faults.BindFault.{BindFault}
use Rattle.stack_words.specs.declared.faults.StackFault.{StackFault}
use Rattle.check_point.specs.declared.faults.CheckFault.{CheckFault}
use Rattle.la_io.specs.declared.fault.CaptureFault.TheVariants.{Past}
use Rattle.stack_spec.specs.Binding as binding
use Rattle.run_status.specs.Causes.{SinkCause, SourceCause, WhereUnread}
use Rattle.run_status.specs.declared.status.Status.{Status}
use Rattle.run_status.specs.declared.status.Status.TheVariants.{Bind, Capture, Check, Done, NoMemory, ReadFault, Stack, Words, WriteFault}
use Rattle.run_status.specs.Notices.{line_of, notice_of}
use Rattle.run_asks.specs.Asking.{CanBind, CannotBind, CheckRefused, EndsAs, GoesPast, HasFault, HasStack, HasStackFault, HeadIs, IsFormOf, IsJudged, NamesNoHead}
use Rattle.run_asks.specs.Parting.{Saves, most_samples}
use Rattle.run_asks.proofs.Exact.{bound_judged, refused_judged, bad_or_can, bad_or_cannot, bad_or_check, can_or_cannot, can_or_check, can_or_stack, cannot_or_stack, check_or_cannot, check_or_stack, head_or_stack, one_bad, one_check, one_ending, one_refusal, one_stack_fault, past_can, unread_or_cannot, unread_or_check, within_or_past}
use Rattle.ldecode.specs.Headline.{DidFail, Does, Good, IsLine, IsMade, Makes, Notified, OrNoMemory, Parted, Promises, RunTells, Saw, Stream, Tells, Worked, Works}
use Rattle.ldecode.specs.Watching.{RunsShelved, WatchedHeadline}
use Rattle.view_store.specs.Listings.{Listing}
use Rattle.ldecode.proofs.Running.{of_these}

-- what speaks of a stack or of alternatives doesn't speak of a made capture
module _ (saves : Saves) (values : Values) where
  judged_not_made : IsJudged values → IsMade values → ⊥
  judged_not_made (inl find) made = let both = sym find ∙ made in cc
  judged_not_made (inr ready) made = subst HasStack made ready.1.job

  stack_not_made : (fault : StackFault) → HasStackFault values fault → IsMade values → ⊥
  stack_not_made fault s made = subst HasStack made s.job

  cannot_not_made : (bytes : List ℕ) (told : Told) (fault : BindFault) → CannotBind values bytes told fault → IsMade values → ⊥
  cannot_not_made bytes told fault c made = judged_not_made (refused_judged saves values c.head.names c.head.rate fault c.refused) made

  check_not_made : (bytes : List ℕ) (told : Told) (fault : CheckFault) → CheckRefused saves values bytes told fault → IsMade values → ⊥
  check_not_made bytes told fault r made = let both = sym r.refused.job ∙ made in cc

  ends_not_made : (bytes : List ℕ) (told : Told) (ending : Ending) → EndsAs saves values bytes told ending → IsMade values → ⊥
  ends_not_made bytes told ending e made = judged_not_made (bound_judged saves values e.can.head.names e.can.head.rate e.can.bound) made

  fault_not_made : (bytes : List ℕ) (told : Told) (fault : CaptureFault) → HasFault saves values bytes told fault → IsMade values → ⊥
  fault_not_made bytes told fault (inl h) made = judged_not_made h.judged made
  fault_not_made bytes told fault (inr (inl e)) made = ends_not_made bytes told (Faulty fault) e made
  fault_not_made bytes told fault (inr (inr g)) made = let both = sym g.1.part.job ∙ made in cc

module _ (saves : Saves) (values : Values) (bytes : List ℕ) (told : Told) (old new : Option (List ℕ)) where
  -- what work is done for is bound to a good head
  worked_can : (e : ListingEnd) → Worked saves values bytes told old new e → CanBind saves values bytes told
  worked_can e (inl s) = record { head = s.head; bound = inl s.asks.search }
  worked_can e (inr (inl d)) = record { head = d.head; bound = inr (inl (record { job = d.job; stack = d.asks.stack })) }
  worked_can e (inr (inr p)) = record { head = p.head; bound = inr (inr (p.count, record { job = p.job; stack = p.asks.stack; begins = p.begins })) }

  -- the pins of a part are those of its stack
  as_bound : (e : ListingEnd) (p : Parted saves values bytes told old new e) → p.count + length (capture_of p.head.form p.pins bytes told).settled ≡ p.count + length (capture_of p.head.form (binding.stack_pins p.asks.stack.bounds) bytes told).settled
  as_bound e p = ap (λ (pins : List ℕ). p.count + length (capture_of p.head.form pins bytes told).settled) p.asks.pins_are

  parted_past : (e : ListingEnd) (p : Parted saves values bytes told old new e) → most_samples < p.count + length (capture_of p.head.form p.pins bytes told).settled → GoesPast saves values bytes told
  parted_past e p past = record {
    head = p.head;
    earlier = p.count;
    part = record { job = p.job; stack = p.asks.stack; begins = p.begins };
    past = subst (λ (n : ℕ). most_samples < n) (as_bound e p) past;
  }

  -- work that is done behind a part's bound is that of a part
  parted_within : (e : ListingEnd) (p : Parted saves values bytes told old new e) → p.count + length (capture_of p.head.form p.pins bytes told).settled ≤ most_samples → GoesPast saves values bytes told → ⊥
  unfolding worked_can
  parted_within e p within g = within_or_past saves values bytes told (worked_can e (inr (inr p))) (subst (λ (n : ℕ). n ≤ most_samples) (as_bound e p) within) g

  done_or_past : Worked saves values bytes told old new end.Done → GoesPast saves values bytes told → ⊥
  done_or_past (inl s) g = let both = sym s.asks.search.searches.job ∙ g.part.job in cc
  done_or_past (inr (inl d)) g = let both = sym d.job ∙ g.part.job in cc
  done_or_past (inr (inr p)) g = parted_within end.Done p p.ends.2 g

  fault_is_past : (fault : CaptureFault) → Worked saves values bytes told old new (end.Fault fault) → GoesPast saves values bytes told → fault ≡ Past
  fault_is_past fault (inl s) g = absurd (let both = sym s.asks.search.searches.job ∙ g.part.job in cc)
  fault_is_past fault (inr (inl d)) g = absurd (let both = sym d.job ∙ g.part.job in cc)
  fault_is_past fault (inr (inr p)) g = by p.ends
    where
      by : ((fault ≡ Past) × (most_samples < p.count + length (capture_of p.head.form p.pins bytes told).settled)) ⊎ (((capture_of p.head.form p.pins bytes told).ending ≡ Faulty fault) × (p.count + length (capture_of p.head.form p.pins bytes told).settled ≤ most_samples)) → fault ≡ Past
      by (inl past) = past.0
      by (inr within) = absurd (parted_within (end.Fault fault) p within.1 g)

  -- and so isn't a made capture
  worked_not_made : (e : ListingEnd) → Worked saves values bytes told old new e → IsMade values → ⊥
  worked_not_made e w made = let c = worked_can e w in judged_not_made saves values (bound_judged saves values c.head.names c.head.rate c.bound) made

  works_not_made : (status : Status) → Works saves values bytes told old new status → IsMade values → status ≡ NoMemory
  works_not_made Done w made = absurd (worked_not_made end.Done w made)
  works_not_made (Words other) w made = absurd w
  works_not_made (Stack other) w made = absurd (stack_not_made saves values other w.0 made)
  works_not_made (Bind other) w made = absurd (cannot_not_made saves values bytes told other w.0 made)
  works_not_made (Check other) w made = absurd (check_not_made saves values bytes told other w.0 made)
  works_not_made ReadFault w made = absurd (by w.1)
    where
      by : Worked saves values bytes told old new end.Read ⊎ (HeadIs values bytes told Unread × Appends old new []) → ⊥
      by (inl k) = worked_not_made end.Read k made
      by (inr h) = judged_not_made saves values h.0.judged made
  works_not_made (Capture other) (inl k) made = absurd (worked_not_made (end.Fault other) k made)
  works_not_made (Capture other) (inr h) made = absurd (judged_not_made saves values h.0.judged made)
  works_not_made WriteFault w made = absurd (worked_not_made end.Write w made)
  works_not_made NoMemory w made = refl

  -- a made capture is done where the sink didn't fail
  makes_done : (status : Status) → Makes values bytes old new status → (sink : Stream) → SinkCause sink.failed_old sink.failed_new status → ¬ DidFail sink → OrNoMemory Done status
  makes_done Done m sink k no_write = inl refl
  makes_done (Words other) m sink k no_write = absurd m.wrote
  makes_done (Stack other) m sink k no_write = absurd m.wrote
  makes_done (Bind other) m sink k no_write = absurd m.wrote
  makes_done (Check other) m sink k no_write = absurd m.wrote
  makes_done ReadFault m sink k no_write = absurd m.wrote
  makes_done (Capture other) m sink k no_write = absurd m.wrote
  makes_done WriteFault m sink k no_write = absurd (no_write k.1)
  makes_done NoMemory m sink k no_write = inr refl

  -- how the bytes end of work that is done, and of work that met a fault
  ends_clean : (e : Ending) → Worked saves values bytes told old new end.Done → EndsAs saves values bytes told e → e ≡ Clean
  ends_clean e (inl s) ends = one_ending saves values bytes told e ends s.head.form s.pins Clean s.head.form_is s.says.1
  ends_clean e (inr (inl d)) ends = one_ending saves values bytes told e ends d.head.form d.pins Clean d.head.form_is d.says.1
  ends_clean e (inr (inr p)) ends = one_ending saves values bytes told e ends p.head.form p.pins Clean p.head.form_is p.ends.1

  ends_faulty : (e : Ending) (fault : CaptureFault) → Worked saves values bytes told old new (end.Fault fault) → EndsAs saves values bytes told e → e ≡ Faulty fault
  ends_faulty e fault (inl s) ends = one_ending saves values bytes told e ends s.head.form s.pins (Faulty fault) s.head.form_is s.says.0
  ends_faulty e fault (inr (inl d)) ends = one_ending saves values bytes told e ends d.head.form d.pins (Faulty fault) d.head.form_is d.says.0
  ends_faulty e fault (inr (inr p)) ends = by p.ends
    where
      by : ((fault ≡ Past) × (most_samples < p.count + length (capture_of p.head.form p.pins bytes told).settled)) ⊎ (((capture_of p.head.form p.pins bytes told).ending ≡ Faulty fault) × (p.count + length (capture_of p.head.form p.pins bytes told).settled ≤ most_samples)) → e ≡ Faulty fault
      by (inl past) = absurd (within_or_past saves values bytes told ends.can ends.within (parted_past (end.Fault fault) p past.1))
      by (inr within) = one_ending saves values bytes told e ends p.head.form p.pins (Faulty fault) p.head.form_is within.0

  works_stack : (status : Status) → Works saves values bytes told old new status → (fault : StackFault) → HasStackFault values fault → OrNoMemory (Stack fault) status
  works_stack Done w fault s = absurd (can_or_stack saves values bytes told (worked_can end.Done w) fault s)
  works_stack (Words other) w fault s = absurd w
  works_stack (Stack other) w fault s = inl (ap Stack (one_stack_fault saves values other fault w.0 s))
  works_stack (Bind other) w fault s = absurd (cannot_or_stack saves values bytes told other w.0 fault s)
  works_stack (Check other) w fault s = absurd (check_or_stack saves values bytes told other w.0 fault s)
  works_stack ReadFault w fault s = absurd (by w.1)
    where
      by : Worked saves values bytes told old new end.Read ⊎ (HeadIs values bytes told Unread × Appends old new []) → ⊥
      by (inl k) = can_or_stack saves values bytes told (worked_can end.Read k) fault s
      by (inr h) = head_or_stack saves values bytes told Unread h.0 fault s
  works_stack (Capture other) (inl k) fault s = absurd (can_or_stack saves values bytes told (worked_can (end.Fault other) k) fault s)
  works_stack (Capture other) (inr h) fault s = absurd (head_or_stack saves values bytes told (Bad other) h.0 fault s)
  works_stack WriteFault w fault s = absurd (can_or_stack saves values bytes told (worked_can end.Write w) fault s)
  works_stack NoMemory w fault s = inr refl

  works_bind : (status : Status) → Works saves values bytes told old new status → (fault : BindFault) → CannotBind values bytes told fault → OrNoMemory (Bind fault) status
  works_bind Done w fault c = absurd (can_or_cannot saves values bytes told (worked_can end.Done w) fault c)
  works_bind (Words other) w fault c = absurd w
  works_bind (Stack other) w fault c = absurd (cannot_or_stack saves values bytes told fault c other w.0)
  works_bind (Bind other) w fault c = inl (ap Bind (one_refusal saves values bytes told other fault w.0 c))
  works_bind (Check other) w fault c = absurd (check_or_cannot saves values bytes told other w.0 fault c)
  works_bind ReadFault w fault c = absurd (by w.1)
    where
      by : Worked saves values bytes told old new end.Read ⊎ (HeadIs values bytes told Unread × Appends old new []) → ⊥
      by (inl k) = can_or_cannot saves values bytes told (worked_can end.Read k) fault c
      by (inr h) = unread_or_cannot saves values bytes told h.0 fault c
  works_bind (Capture other) (inl k) fault c = absurd (can_or_cannot saves values bytes told (worked_can (end.Fault other) k) fault c)
  works_bind (Capture other) (inr h) fault c = absurd (bad_or_cannot saves values bytes told other h.0 fault c)
  works_bind WriteFault w fault c = absurd (can_or_cannot saves values bytes told (worked_can end.Write w) fault c)
  works_bind NoMemory w fault c = inr refl

  works_check : (status : Status) → Works saves values bytes told old new status → (fault : CheckFault) → CheckRefused saves values bytes told fault → OrNoMemory (Check fault) status
  works_check Done w fault c = absurd (can_or_check saves values bytes told (worked_can end.Done w) fault c)
  works_check (Words other) w fault c = absurd w
  works_check (Stack other) w fault c = absurd (check_or_stack saves values bytes told fault c other w.0)
  works_check (Bind other) w fault c = absurd (check_or_cannot saves values bytes told fault c other w.0)
  works_check (Check other) w fault c = inl (ap Check (one_check saves values bytes told other fault w.0 c))
  works_check ReadFault w fault c = absurd (by w.1)
    where
      by : Worked saves values bytes told old new end.Read ⊎ (HeadIs values bytes told Unread × Appends old new []) → ⊥
      by (inl k) = can_or_check saves values bytes told (worked_can end.Read k) fault c
      by (inr h) = unread_or_check saves values bytes told h.0 fault c
  works_check (Capture other) (inl k) fault c = absurd (can_or_check saves values bytes told (worked_can (end.Fault other) k) fault c)
  works_check (Capture other) (inr h) fault c = absurd (bad_or_check saves values bytes told other h.0 fault c)
  works_check WriteFault w fault c = absurd (can_or_check saves values bytes told (worked_can end.Write w) fault c)
  works_check NoMemory w fault c = inr refl

  module _ (source sink : Stream) (no_read : ¬ DidFail source) (no_write : ¬ DidFail sink) where
    works_fault : (status : Status) → Works saves values bytes told old new status → SourceCause source.failed_old source.failed_new status → SinkCause sink.failed_old sink.failed_new status
        → (fault : CaptureFault) → HasFault saves values bytes told fault → OrNoMemory (Capture fault) status
    works_fault Done w r k fault (inl h) = absurd (bad_or_can saves values bytes told fault h (worked_can end.Done w))
    works_fault Done w r k fault (inr (inl e)) = let both : Faulty fault ≡ Clean = ends_clean (Faulty fault) w e in cc
    works_fault Done w r k fault (inr (inr g)) = absurd (done_or_past w g.1)
    works_fault (Words other) w r k fault has = absurd w
    works_fault (Stack other) w r k fault (inl h) = absurd (head_or_stack saves values bytes told (Bad fault) h other w.0)
    works_fault (Stack other) w r k fault (inr (inl e)) = absurd (can_or_stack saves values bytes told e.can other w.0)
    works_fault (Stack other) w r k fault (inr (inr g)) = absurd (can_or_stack saves values bytes told (past_can saves values bytes told g.1) other w.0)
    works_fault (Bind other) w r k fault (inl h) = absurd (bad_or_cannot saves values bytes told fault h other w.0)
    works_fault (Bind other) w r k fault (inr (inl e)) = absurd (can_or_cannot saves values bytes told e.can other w.0)
    works_fault (Bind other) w r k fault (inr (inr g)) = absurd (can_or_cannot saves values bytes told (past_can saves values bytes told g.1) other w.0)
    works_fault (Check other) w r k fault (inl h) = absurd (bad_or_check saves values bytes told fault h other w.0)
    works_fault (Check other) w r k fault (inr (inl e)) = absurd (can_or_check saves values bytes told e.can other w.0)
    works_fault (Check other) w r k fault (inr (inr g)) = absurd (can_or_check saves values bytes told (past_can saves values bytes told g.1) other w.0)
    works_fault ReadFault w r k fault has = absurd (no_read r.1)
    works_fault (Capture other) (inl w) r k fault (inl h) = absurd (bad_or_can saves values bytes told fault h (worked_can (end.Fault other) w))
    works_fault (Capture other) (inl w) r k fault (inr (inl e)) =
        let both : Faulty fault ≡ Faulty other = ends_faulty (Faulty fault) other w e in
        let same : other ≡ fault = cc in
        inl (ap Capture same)
    works_fault (Capture other) (inl w) r k fault (inr (inr g)) = inl (ap Capture (fault_is_past other w g.1 ∙ sym g.0))
    works_fault (Capture other) (inr b) r k fault (inl h) = inl (ap Capture (one_bad saves values bytes told other fault b.0 h))
    works_fault (Capture other) (inr b) r k fault (inr (inl e)) = absurd (bad_or_can saves values bytes told other b.0 e.can)
    works_fault (Capture other) (inr b) r k fault (inr (inr g)) = absurd (bad_or_can saves values bytes told other b.0 (past_can saves values bytes told g.1))
    works_fault WriteFault w r k fault has = absurd (no_write k.1)
    works_fault NoMemory w r k fault has = inr refl

-- what holds of the bytes that were taken holds of all that were left
module _ (saves : Saves) (values : Values) where
  whole_cannot : (bytes rest : List ℕ) (told : Told) → (told ≡ AtEnd → rest ≡ []) → (fault : BindFault) → CannotBind values bytes told fault → CannotBind values (bytes ++ rest) AtEnd fault
  whole_cannot bytes rest AtEnd none fault c = subst (λ (l : List ℕ). CannotBind values l AtEnd fault) (sym (append-nil bytes) ∙ ap (λ (l : List ℕ). bytes ++ l) (sym (none refl))) c
  whole_cannot bytes rest Cut none fault c = record {
    head = record { form = c.head.form; names = c.head.names; rate = c.head.rate; form_is = c.head.form_is; is = head_stays.good c.head.form [] bytes rest AtEnd c.head.names c.head.rate.num c.head.rate.den c.head.is };
    refused = c.refused;
  }

  whole_check : (bytes rest : List ℕ) (told : Told) → (told ≡ AtEnd → rest ≡ []) → (fault : CheckFault) → CheckRefused saves values bytes told fault → CheckRefused saves values (bytes ++ rest) AtEnd fault
  whole_check bytes rest AtEnd none fault c = subst (λ (l : List ℕ). CheckRefused saves values l AtEnd fault) (sym (append-nil bytes) ∙ ap (λ (l : List ℕ). bytes ++ l) (sym (none refl))) c
  whole_check bytes rest Cut none fault c = record {
    head = record { form = c.head.form; names = c.head.names; rate = c.head.rate; form_is = c.head.form_is; is = head_stays.good c.head.form [] bytes rest AtEnd c.head.names c.head.rate.num c.head.rate.den c.head.is };
    refused = c.refused;
  }

  -- more bytes settle no fewer samples
  whole_past : (bytes rest : List ℕ) (told : Told) → (told ≡ AtEnd → rest ≡ []) → (g : GoesPast saves values bytes told) → IsForm g.head.form → GoesPast saves values (bytes ++ rest) AtEnd
  whole_past bytes rest AtEnd none g fits = subst (λ (l : List ℕ). GoesPast saves values l AtEnd) (sym (append-nil bytes) ∙ ap (λ (l : List ℕ). bytes ++ l) (sym (none refl))) g
  whole_past bytes rest Cut none g fits =
      let pins = binding.stack_pins g.part.stack.bounds in
      let more = longer_extends g.head.form pins bytes rest AtEnd fits in
      record {
        head = record { form = g.head.form; names = g.head.names; rate = g.head.rate; form_is = g.head.form_is; is = head_stays.good g.head.form [] bytes rest AtEnd g.head.names g.head.rate.num g.head.rate.den g.head.is };
        earlier = g.earlier;
        part = g.part;
        past = let past = g.past in let longer = ap length more.1 ∙ length-append (capture_of g.head.form pins bytes Cut).settled more.0 in omega (arith, past, longer);
      }

  whole_bad : (bytes rest : List ℕ) (told : Told) → (told ≡ AtEnd → rest ≡ []) → (fault : CaptureFault) → HeadIs values bytes told (Bad fault) → HeadIs values (bytes ++ rest) AtEnd (Bad fault)
  whole_bad bytes rest AtEnd none fault h = subst (λ (l : List ℕ). HeadIs values l AtEnd (Bad fault)) (sym (append-nil bytes) ∙ ap (λ (l : List ℕ). bytes ++ l) (sym (none refl))) h
  whole_bad bytes rest Cut none fault h = record {
    form = h.form;
    form_is = h.form_is;
    judged = h.judged;
    head_is = head_stays.bad h.form [] bytes rest AtEnd fault h.head_is;
  }

  whole_faulty : (bytes rest : List ℕ) (told : Told) → (told ≡ AtEnd → rest ≡ []) → (form : Form) (pins : List ℕ) (fault : CaptureFault) → (capture_of form pins bytes told).ending ≡ Faulty fault → (capture_of form pins (bytes ++ rest) AtEnd).ending ≡ Faulty fault
  whole_faulty bytes rest AtEnd none form pins fault is = subst (λ (l : List ℕ). (capture_of form pins l AtEnd).ending ≡ Faulty fault) (sym (append-nil bytes) ∙ ap (λ (l : List ℕ). bytes ++ l) (sym (none refl))) is
  whole_faulty bytes rest Cut none form pins fault is = ap (λ (c : Captured). c.ending) (faults_stay form pins bytes rest AtEnd fault is) ∙ is

  works_complete : (bytes rest : List ℕ) (told : Told) → (told ≡ AtEnd → rest ≡ []) → (old new : Option (List ℕ)) (source sink : Stream) → ¬ DidFail source → ¬ DidFail sink → (status : Status) → Works saves values bytes told old new status
      → SourceCause source.failed_old source.failed_new status → SinkCause sink.failed_old sink.failed_new status → EndsAs saves values (bytes ++ rest) AtEnd Clean → OrNoMemory Done status
  unfolding parted_past
  works_complete bytes rest told none old new source sink no_read no_write Done w r k e = inl refl
  works_complete bytes rest told none old new source sink no_read no_write (Words other) w r k e = absurd w
  works_complete bytes rest told none old new source sink no_read no_write (Stack other) w r k e = absurd (can_or_stack saves values (bytes ++ rest) AtEnd e.can other w.0)
  works_complete bytes rest told none old new source sink no_read no_write (Bind other) w r k e = absurd (can_or_cannot saves values (bytes ++ rest) AtEnd e.can other (whole_cannot bytes rest told none other w.0))
  works_complete bytes rest told none old new source sink no_read no_write (Check other) w r k e = absurd (can_or_check saves values (bytes ++ rest) AtEnd e.can other (whole_check bytes rest told none other w.0))
  works_complete bytes rest told none old new source sink no_read no_write ReadFault w r k e = absurd (no_read r.1)
  works_complete bytes rest told none old new source sink no_read no_write (Capture other) (inl w) r k e = by w
    where
      wrong : (form : Form) (pins : List ℕ) → IsFormOf values form → (capture_of form pins bytes told).ending ≡ Faulty other → OrNoMemory Done (Capture other)
      wrong form pins is ends =
          let both : Clean ≡ Faulty other = one_ending saves values (bytes ++ rest) AtEnd Clean e form pins (Faulty other) is (whole_faulty bytes rest told none form pins other ends) in
          cc

      by : Worked saves values bytes told old new (end.Fault other) → OrNoMemory Done (Capture other)
      by (inl s) = wrong s.head.form s.pins s.head.form_is s.says.0
      by (inr (inl d)) = wrong d.head.form d.pins d.head.form_is d.says.0
      by (inr (inr p)) = by_part p.ends
        where
          by_part : ((other ≡ Past) × (most_samples < p.count + length (capture_of p.head.form p.pins bytes told).settled)) ⊎ (((capture_of p.head.form p.pins bytes told).ending ≡ Faulty other) × (p.count + length (capture_of p.head.form p.pins bytes told).settled ≤ most_samples)) → OrNoMemory Done (Capture other)
          by_part (inl past) = absurd (within_or_past saves values (bytes ++ rest) AtEnd e.can e.within (whole_past bytes rest told none (parted_past saves values bytes told old new (end.Fault other) p past.1) p.opens))
          by_part (inr within) = wrong p.head.form p.pins p.head.form_is within.0
  works_complete bytes rest told none old new source sink no_read no_write (Capture other) (inr b) r k e = absurd (bad_or_can saves values (bytes ++ rest) AtEnd other (whole_bad bytes rest told none other b.0) e.can)
  works_complete bytes rest told none old new source sink no_read no_write WriteFault w r k e = absurd (no_write k.1)
  works_complete bytes rest told none old new source sink no_read no_write NoMemory w r k e = inr refl

-- a status is want of memory, or a fault of the words, or speaks of good words
outcome : (saves : Saves) (words : List Text) (bytes : List ℕ) (told : Told) (old new : Option (List ℕ)) (status : Status) → Tells saves words bytes told old new status
    → (status ≡ NoMemory) ⊎ (((fault : WordFault) × (settings_of words ≡ Err fault) × (status ≡ Words fault)) ⊎ Good words (λ values. Does saves values bytes told old new status))
outcome saves words bytes told old new Done t = inr (inr t)
outcome saves words bytes told old new (Words fault) t = inr (inl (fault, t.0, refl))
outcome saves words bytes told old new (Stack fault) t = inr (inr t)
outcome saves words bytes told old new (Bind fault) t = inr (inr t)
outcome saves words bytes told old new (Check fault) t = inr (inr t)
outcome saves words bytes told old new ReadFault t = inr (inr t)
outcome saves words bytes told old new (Capture fault) t = inr (inr t)
outcome saves words bytes told old new WriteFault t = inr (inr t)
outcome saves words bytes told old new NoMemory t = inl refl

-- what was left of a source, by what was taken and what is left
left_over : (left bytes : List ℕ) (told : Told) (new : Option (List ℕ)) → Consumes (Some left) new bytes → ToldAt told new → (rest : List ℕ) × (left ≡ bytes ++ rest) × (told ≡ AtEnd → rest ≡ [])
left_over left bytes told None taken at_end = absurd taken
left_over left bytes told (Some rest) taken at_end = (rest, taken, at_end)

module _ (saves : Saves) (words : List Text) (source sink notices : Stream) (same : Type 0) (status : Status) (runs : RunTells saves words source.old source.new sink.old sink.new status)
    (read : SourceCause source.failed_old source.failed_new status) (write : SinkCause sink.failed_old sink.failed_new status) where
  -- what of good words makes a status makes it
  exactly : (P : Values → Type 0) (expected : Status) → ((values : Values) → Works saves values runs.bytes runs.told sink.old sink.new status → P values → OrNoMemory expected status) → ((values : Values) → P values → IsMade values → ⊥) → Good words P → OrNoMemory expected status
  exactly P expected on not_made g = by (outcome saves words runs.bytes runs.told sink.old sink.new status runs.tells)
    where
      by : (status ≡ NoMemory) ⊎ (((fault : WordFault) × (settings_of words ≡ Err fault) × (status ≡ Words fault)) ⊎ Good words (λ values. Does saves values runs.bytes runs.told sink.old sink.new status)) → OrNoMemory expected status
      by (inl none) = inr none
      by (inr (inl w)) = let both = sym w.1 ∙ g.1 in cc
      by (inr (inr k)) = by_job k.2
        where
          by_job : Does saves k.0 runs.bytes runs.told sink.old sink.new status → OrNoMemory expected status
          by_job (inl w) = on k.0 w (of_these saves words k.0 k.1 P g)
          by_job (inr m) = absurd (not_made k.0 (of_these saves words k.0 k.1 P g) m.job)

  made_here : Good words IsMade → ¬ DidFail sink → OrNoMemory Done status
  made_here g no_write = by (outcome saves words runs.bytes runs.told sink.old sink.new status runs.tells)
    where
      by : (status ≡ NoMemory) ⊎ (((fault : WordFault) × (settings_of words ≡ Err fault) × (status ≡ Words fault)) ⊎ Good words (λ values. Does saves values runs.bytes runs.told sink.old sink.new status)) → OrNoMemory Done status
      by (inl none) = inr none
      by (inr (inl w)) = let both = sym w.1 ∙ g.1 in cc
      by (inr (inr k)) = by_job k.2
        where
          by_job : Does saves k.0 runs.bytes runs.told sink.old sink.new status → OrNoMemory Done status
          by_job (inl w) = inr (works_not_made saves k.0 runs.bytes runs.told sink.old sink.new status w (of_these saves words k.0 k.1 IsMade g))
          by_job (inr m) = makes_done saves k.0 runs.bytes runs.told sink.old sink.new status m sink write no_write

  words_exact : (fault : WordFault) → settings_of words ≡ Err fault → OrNoMemory (Words fault) status
  words_exact fault is = by (outcome saves words runs.bytes runs.told sink.old sink.new status runs.tells)
    where
      by : (status ≡ NoMemory) ⊎ (((other : WordFault) × (settings_of words ≡ Err other) × (status ≡ Words other)) ⊎ Good words (λ values. Does saves values runs.bytes runs.told sink.old sink.new status)) → OrNoMemory (Words fault) status
      by (inl none) = inr none
      by (inr (inl w)) = let both = sym w.1 ∙ is in let one : w.0 ≡ fault = cc in inl (w.2 ∙ ap Words one)
      by (inr (inr k)) = let both = sym k.1 ∙ is in cc

  complete_here : (left : List ℕ) → source.old ≡ Some left → Good words (λ values. EndsAs saves values left AtEnd Clean) → ¬ DidFail source → ¬ DidFail sink → OrNoMemory Done status
  complete_here left is g no_read no_write =
      let over = left_over left runs.bytes runs.told source.new (subst (λ (o : Option (List ℕ)). Consumes o source.new runs.bytes) is runs.taken) runs.at_end in
      exactly (λ values. EndsAs saves values left AtEnd Clean) Done
      (λ values w e. works_complete saves values runs.bytes over.0 runs.told over.2 sink.old sink.new source sink no_read no_write status w read write (subst (λ (l : List ℕ). EndsAs saves values l AtEnd Clean) over.1 e)) (λ values e made. ends_not_made saves values left AtEnd Clean e made) g

  pub promises : (Line : List ℕ → Told → List ℕ → Type 0) → WhereUnread (Good words NamesNoHead) status same → (Good words IsMade → same) → Notified notices (Line runs.bytes runs.told) → Promises saves words source sink notices same status Line
  promises Line unread made_same notified = record {
    bytes = runs.bytes;
    told = runs.told;
    taken = runs.taken;
    at_end = runs.at_end;
    tells = runs.tells;
    words_fault = words_exact;
    stack_fault = λ fault g. exactly (λ values. HasStackFault values fault) (Stack fault) (λ values w s. works_stack saves values runs.bytes runs.told sink.old sink.new status w fault s) (λ values s made. stack_not_made saves values fault s made) g;
    bind_fault = λ fault g. exactly (λ values. CannotBind values runs.bytes runs.told fault) (Bind fault) (λ values w c. works_bind saves values runs.bytes runs.told sink.old sink.new status w fault c) (λ values c made. cannot_not_made saves values runs.bytes runs.told fault c made) g;
    check_fault = λ fault g. exactly (λ values. CheckRefused saves values runs.bytes runs.told fault) (Check fault) (λ values w c. works_check saves values runs.bytes runs.told sink.old sink.new status w fault c) (λ values c made. check_not_made saves values runs.bytes runs.told fault c made) g;
    capture_fault = λ fault g no_read no_write. exactly (λ values. HasFault saves values runs.bytes runs.told fault) (Capture fault) (λ values w h. works_fault saves values runs.bytes runs.told sink.old sink.new source sink no_read no_write status w read write fault h) (λ values h made. fault_not_made saves values runs.bytes runs.told fault h made) g;
    complete = complete_here;
    made = made_here;
    made_unread = made_same;
    read = read;
    write = write;
    unread = unread;
    notified = notified;
  }

-- the line that tells what a viewer saw is that of the run
pub line_told : (words : List Text) (bytes : List ℕ) (told : Told) (status : Status) (seen : Option ℕ) → Saw words bytes told status seen → (notices : Stream) → Notified notices (λ line. line ≡ line_of status seen) → Notified notices (IsLine words bytes told status)
line_told words bytes told status seen saw notices n = record {
  line = n.line;
  is = record { seen = seen; saw = saw; is = n.is };
  front = n.front;
  whole = n.whole;
}

-- the promise of a run onto a new shelf
pub watched : (saves : Saves) (words : List Text) (source sink notices : Stream) (same : Type 0) (status : Status) (shelf : Listing) (runs : RunsShelved saves words source.old source.new sink.old sink.new shelf status) → SourceCause source.failed_old source.failed_new status → SinkCause sink.failed_old sink.failed_new status
    → WhereUnread (Good words NamesNoHead) status same → (Good words IsMade → same) → Notified notices (λ line. line ≡ notice_of status) → WatchedHeadline saves words source sink notices same shelf status
unfolding promises
watched saves words source sink notices same status shelf runs read write unread made notified = record {
  run = promises saves words source sink notices same status runs.runs read write (λ (bytes : List ℕ) (told : Told) (line : List ℕ). line ≡ notice_of status) unread made notified;
  on_shelf = runs.on_shelf;
}
