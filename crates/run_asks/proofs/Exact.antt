-- What words, stack, channels and bytes can be at one time: no two of a good head, a refusal and a fault, and no two refusals.
use Rattle.std.proofs.Common.{◌≡◌, ℕ, ◌+◌, ◌⊎◌, inl, inr, List, [], length, map, sym, ◌∙◌, ap, ap₂, subst, arith}
use Rattle.la_base.specs.declared.samples.Rate.{Rate}
use Rattle.la_base.specs.declared.samples.TheConstants.{MOST_PINS}
use Rattle.la_io.specs.Capture.{Told, Head, Good as GoodHead, Bad, Unread, Ending}
use Rattle.la_io.specs.declared.fault.CaptureFault.{CaptureFault}
use Rattle.capture_any.specs.Captures.{capture_of}
use Rattle.capture_any.specs.declared.form.Form.{Form}
use Rattle.capture_any.proofs.CaptureLaws.{pins_leave_the_ending}
use Rattle.words.specs.Settings.{Values}
use Rattle.words.specs.declared.kinds.Job.TheVariants.{Decode, Find, Part}
use Rattle.stack_words.specs.Accepting.{Accepted}
use Rattle.stack_spec.specs.Binding.{bound_of}
use Rattle.cond_words.specs.declared.faults.BindFault.{BindFault}
use Rattle.stack_words.specs.declared.faults.StackFault.{StackFault}
use Rattle.check_point.specs.declared.faults.CheckFault.{CheckFault}
use Rattle.stack_spec.specs.Binding as binding
use Rattle.stack_spec.specs.Binding.{BoundInstance}
use Rattle.decoder_set.specs.declared.setup.Setup.{Setup}
use Rattle.run_asks.specs.Asking.{CanBind, CannotBind, CheckRefused, EndsAs, GoesPast, HasHead, HasStack, HasStackFault, HeadIs, AllBound, IsFormOf, IsJudged, SearchBound, SearchRefused, StackBound, StackRefused, StaysWithin, bind_all, part_samples}
use Rattle.run_asks.specs.Parting.{CanBegin, CantBegin, Saves}
use Rattle.run_asks.proofs.OneBeginning.{can_or_cant, one_beginning, one_cant}
use Rattle.run_asks.proofs.OneAsked.{one_search}
use Rattle.run_asks.proofs.OneAsked.{one_stack}
use Rattle.run_asks.proofs.Forms.{one_form, one_head, one_rate}

module _ (saves : Saves) (values : Values) where
  one_job : values.job ≡ Find → HasStack values.job → ⊥
  one_job find has = subst HasStack find has

  pub judged_stack : IsJudged values → (fault : StackFault) → HasStackFault values fault → ⊥
  judged_stack (inl find) fault s = one_job find s.job
  judged_stack (inr ready) fault s = let both = sym ready.1.stack ∙ s.stack in cc

  pub one_stack_fault : (one other : StackFault) → HasStackFault values one → HasStackFault values other → one ≡ other
  one_stack_fault one other a b = let both = sym a.stack ∙ b.stack in cc

  module _ (names : List (List ℕ)) (rate : Rate) where
    -- what is bound, whatever a checkpoint says
    all_bound : AllBound saves values names rate → SearchBound values names ⊎ StackBound values names rate
    all_bound (inl s) = inl s
    all_bound (inr (inl w)) = inr w.stack
    all_bound (inr (inr p)) = inr p.1.stack

    judged_bound : SearchBound values names ⊎ StackBound values names rate → IsJudged values
    judged_bound (inl s) = inl s.searches.job
    judged_bound (inr s) = inr (s.accepted, s.stacks)

    pub bound_judged : AllBound saves values names rate → IsJudged values
    bound_judged b = judged_bound (all_bound b)

    pub refused_judged : (fault : BindFault) → SearchRefused values names fault ⊎ StackRefused values names rate fault → IsJudged values
    refused_judged fault (inl s) = inl s.searches.job
    refused_judged fault (inr s) = inr (s.accepted, s.stacks)

    both_bound : (fault : BindFault) → SearchBound values names ⊎ StackBound values names rate → SearchRefused values names fault ⊎ StackRefused values names rate fault → ⊥
    both_bound fault (inl a) (inl b) =
        let same = one_search values a.alternatives b.alternatives a.searches b.searches in
        let both = sym a.bound ∙ ap (bind_all names 0 []) same ∙ b.refused in
        cc
    both_bound fault (inl a) (inr b) = one_job a.searches.job b.stacks.job
    both_bound fault (inr a) (inl b) = one_job b.searches.job a.stacks.job
    both_bound fault (inr a) (inr b) =
        let same = one_stack values a.accepted b.accepted a.stacks b.stacks in
        let both = sym a.bound ∙ ap (λ (s : Accepted). bound_of MOST_PINS names rate s.instances) same ∙ b.refused in
        cc

    both_refused : (one other : BindFault) → SearchRefused values names one ⊎ StackRefused values names rate one → SearchRefused values names other ⊎ StackRefused values names rate other → one ≡ other
    both_refused one other (inl a) (inl b) =
        let same = one_search values a.alternatives b.alternatives a.searches b.searches in
        let both = sym a.refused ∙ ap (bind_all names 0 []) same ∙ b.refused in
        cc
    both_refused one other (inl a) (inr b) = absurd (one_job a.searches.job b.stacks.job)
    both_refused one other (inr a) (inl b) = absurd (one_job b.searches.job a.stacks.job)
    both_refused one other (inr a) (inr b) =
        let same = one_stack values a.accepted b.accepted a.stacks b.stacks in
        let both = sym a.refused ∙ ap (λ (s : Accepted). bound_of MOST_PINS names rate s.instances) same ∙ b.refused in
        cc

  -- two stacks that are bound at the same names and rate are bound in one way
  bounds_same : (names others : List (List ℕ)) (rate other : Rate) (a : StackBound values names rate) (b : StackBound values others other) → names ≡ others → rate ≡ other → a.bounds ≡ b.bounds
  bounds_same names others rate other a b names_are rates_are =
      let stacks = one_stack values a.accepted b.accepted a.stacks b.stacks in
      let both = sym a.bound ∙ ap (λ (s : Accepted). bound_of MOST_PINS names rate s.instances) stacks ∙ ap₂ (λ (n : List (List ℕ)) (r : Rate). bound_of MOST_PINS n r b.accepted.instances) names_are rates_are ∙ b.bound in
      cc

  same_setups : (one other : List BoundInstance) → one ≡ other → map (λ (b : BoundInstance). b.setup) one ≡ map (λ (b : BoundInstance). b.setup) other
  same_setups one other same = ap (map (λ (b : BoundInstance). b.setup)) same

  module _ (bytes : List ℕ) (told : Told) where
    same_head : (form other : Form) (one two : Head) → IsFormOf values form → IsFormOf values other → (capture_of form [] bytes told).head ≡ one → (capture_of other [] bytes told).head ≡ two → one ≡ two
    same_head form other one two is also a b = sym (one_head values form other bytes told one is also a) ∙ b

    -- two good heads have the same names and rate
    same_names : (form other : Form) (names others : List (List ℕ)) (rate other_rate : Rate) → IsFormOf values form → IsFormOf values other → HasHead form bytes told names rate → HasHead other bytes told others other_rate
        → (names ≡ others) × (rate ≡ other_rate)
    same_names form other names others rate other_rate is also a b =
        let both : GoodHead names rate.num rate.den ≡ GoodHead others other_rate.num other_rate.den = same_head form other (GoodHead names rate.num rate.den) (GoodHead others other_rate.num other_rate.den) is also a b in
        (cc, one_rate rate other_rate (cc) (cc))

    -- a refusal at one head is one at the other
    refused_there : (fault : BindFault) (c : CannotBind values bytes told fault) (other : Form) (names : List (List ℕ)) (rate : Rate) → IsFormOf values other → HasHead other bytes told names rate
        → SearchRefused values names fault ⊎ StackRefused values names rate fault
    refused_there fault c other names rate also head =
        let same = same_names c.head.form other c.head.names names c.head.rate rate c.head.form_is also c.head.is head in
        subst (λ (n : List (List ℕ)). SearchRefused values n fault ⊎ StackRefused values n rate fault) same.0 (subst (λ (r : Rate). SearchRefused values c.head.names fault ⊎ StackRefused values c.head.names r fault) same.1 c.refused)

    pub can_is_judged : CanBind saves values bytes told → IsJudged values
    can_is_judged c = bound_judged c.head.names c.head.rate c.bound

    pub can_or_stack : CanBind saves values bytes told → (fault : StackFault) → HasStackFault values fault → ⊥
    can_or_stack c = judged_stack (can_is_judged c)

    pub cannot_or_stack : (refused : BindFault) → CannotBind values bytes told refused → (fault : StackFault) → HasStackFault values fault → ⊥
    cannot_or_stack refused c = judged_stack (refused_judged c.head.names c.head.rate refused c.refused)

    pub head_or_stack : (head : Head) → HeadIs values bytes told head → (fault : StackFault) → HasStackFault values fault → ⊥
    head_or_stack head h = judged_stack h.judged

    pub can_or_cannot : CanBind saves values bytes told → (fault : BindFault) → CannotBind values bytes told fault → ⊥
    can_or_cannot c fault d = both_bound c.head.names c.head.rate fault (all_bound c.head.names c.head.rate c.bound) (refused_there fault d c.head.form c.head.names c.head.rate c.head.form_is c.head.is)

    pub one_refusal : (one other : BindFault) → CannotBind values bytes told one → CannotBind values bytes told other → one ≡ other
    one_refusal one other c d = both_refused c.head.names c.head.rate one other c.refused (refused_there other d c.head.form c.head.names c.head.rate c.head.form_is c.head.is)

    -- a head that is no good one
    module _ (head : Head) (h : HeadIs values bytes told head) where
      pub head_or_can : ((names : List (List ℕ)) (num den : ℕ) → head ≡ GoodHead names num den → ⊥) → CanBind saves values bytes told → ⊥
      head_or_can never c = never c.head.names c.head.rate.num c.head.rate.den (same_head h.form c.head.form head (GoodHead c.head.names c.head.rate.num c.head.rate.den) h.form_is c.head.form_is h.head_is c.head.is)

      pub head_or_cannot : ((names : List (List ℕ)) (num den : ℕ) → head ≡ GoodHead names num den → ⊥) → (fault : BindFault) → CannotBind values bytes told fault → ⊥
      head_or_cannot never fault c = never c.head.names c.head.rate.num c.head.rate.den (same_head h.form c.head.form head (GoodHead c.head.names c.head.rate.num c.head.rate.den) h.form_is c.head.form_is h.head_is c.head.is)

      pub head_or_head : (other : Head) → HeadIs values bytes told other → head ≡ other
      head_or_head other k = same_head h.form k.form head other h.form_is k.form_is h.head_is k.head_is

    pub bad_or_can : (fault : CaptureFault) → HeadIs values bytes told (Bad fault) → CanBind saves values bytes told → ⊥
    bad_or_can fault h = head_or_can (Bad fault) h (λ names num den e. cc)

    pub bad_or_cannot : (fault : CaptureFault) → HeadIs values bytes told (Bad fault) → (refused : BindFault) → CannotBind values bytes told refused → ⊥
    bad_or_cannot fault h = head_or_cannot (Bad fault) h (λ names num den e. cc)

    pub unread_or_can : HeadIs values bytes told Unread → CanBind saves values bytes told → ⊥
    unread_or_can h = head_or_can Unread h (λ names num den e. cc)

    pub unread_or_cannot : HeadIs values bytes told Unread → (refused : BindFault) → CannotBind values bytes told refused → ⊥
    unread_or_cannot h = head_or_cannot Unread h (λ names num den e. cc)

    pub one_bad : (one other : CaptureFault) → HeadIs values bytes told (Bad one) → HeadIs values bytes told (Bad other) → one ≡ other
    one_bad one other h k = let both : Bad one ≡ Bad other = head_or_head (Bad one) h (Bad other) k in cc

    -- an ending is the same whichever channels are chosen
    pub one_ending : (e : Ending) → EndsAs saves values bytes told e → (form : Form) (pins : List ℕ) (how : Ending) → IsFormOf values form → (capture_of form pins bytes told).ending ≡ how → e ≡ how
    one_ending e ends form pins how is ended =
        sym ends.ends ∙ ap (λ (f : Form). (capture_of f [] bytes told).ending) (one_form values ends.can.head.form form ends.can.head.form_is is) ∙ pins_leave_the_ending form [] pins bytes told ∙ ended

    -- checkpoints
    module _ (form other : Form) (names others : List (List ℕ)) (rate other_rate : Rate) (is : IsFormOf values form) (also : IsFormOf values other) (head : HasHead form bytes told names rate) (head_too : HasHead other bytes told others other_rate)
        (a : StackBound values names rate) (b : StackBound values others other_rate) where
      same_bounds : a.bounds ≡ b.bounds
      same_bounds =
          let same = same_names form other names others rate other_rate is also head head_too in
          bounds_same names others rate other_rate a b same.0 same.1

      setups_are : map (λ (i : BoundInstance). i.setup) a.bounds ≡ map (λ (i : BoundInstance). i.setup) b.bounds
      setups_are = same_setups a.bounds b.bounds same_bounds

      begun_or_refused : (samples : ℕ) (fault : CheckFault) → CanBegin saves (map (λ (i : BoundInstance). i.setup) a.bounds) values.from samples → CantBegin saves (map (λ (i : BoundInstance). i.setup) b.bounds) values.from fault → ⊥
      begun_or_refused samples fault can cant = can_or_cant saves (map (λ (i : BoundInstance). i.setup) b.bounds) values.from samples fault (subst (λ (l : List Setup). CanBegin saves l values.from samples) setups_are can) cant

      one_fault : (one two : CheckFault) → CantBegin saves (map (λ (i : BoundInstance). i.setup) a.bounds) values.from one → CantBegin saves (map (λ (i : BoundInstance). i.setup) b.bounds) values.from two → one ≡ two
      one_fault one two cant cant_too = one_cant saves (map (λ (i : BoundInstance). i.setup) b.bounds) values.from one two (subst (λ (l : List Setup). CantBegin saves l values.from one) setups_are cant) cant_too

      one_total : (n m : ℕ) → CanBegin saves (map (λ (i : BoundInstance). i.setup) a.bounds) values.from n → CanBegin saves (map (λ (i : BoundInstance). i.setup) b.bounds) values.from m → part_samples a n form bytes told ≡ part_samples b m other bytes told
      one_total n m can can_too =
          let counts : n ≡ m = one_beginning saves (map (λ (i : BoundInstance). i.setup) b.bounds) values.from n m (subst (λ (l : List Setup). CanBegin saves l values.from n) setups_are can) can_too in
          let forms : form ≡ other = one_form values form other is also in
          λ i. counts i + length (capture_of (forms i) (binding.stack_pins (same_bounds i)) bytes told).settled

    find_or_part : values.job ≡ Find → values.job ≡ Part → ⊥
    find_or_part a b = let both = sym a ∙ b in cc

    decode_or_part : values.job ≡ Decode → values.job ≡ Part → ⊥
    decode_or_part a b = let both = sym a ∙ b in cc

    pub can_or_check : CanBind saves values bytes told → (fault : CheckFault) → CheckRefused saves values bytes told fault → ⊥
    can_or_check c fault r = by c.bound
      where
        by : AllBound saves values c.head.names c.head.rate → ⊥
        by (inl s) = find_or_part s.searches.job r.refused.job
        by (inr (inl w)) = decode_or_part w.job r.refused.job
        by (inr (inr p)) = begun_or_refused c.head.form r.head.form c.head.names r.head.names c.head.rate r.head.rate c.head.form_is r.head.form_is c.head.is r.head.is p.1.stack r.refused.stack p.0 fault p.1.begins r.refused.refused

    pub one_check : (one other : CheckFault) → CheckRefused saves values bytes told one → CheckRefused saves values bytes told other → one ≡ other
    one_check one other a b = one_fault a.head.form b.head.form a.head.names b.head.names a.head.rate b.head.rate a.head.form_is b.head.form_is a.head.is b.head.is a.refused.stack b.refused.stack one other a.refused.refused b.refused.refused

    pub check_or_stack : (fault : CheckFault) → CheckRefused saves values bytes told fault → (other : StackFault) → HasStackFault values other → ⊥
    check_or_stack fault r = judged_stack (inr (r.refused.stack.accepted, r.refused.stack.stacks))

    pub check_or_cannot : (fault : CheckFault) → CheckRefused saves values bytes told fault → (other : BindFault) → CannotBind values bytes told other → ⊥
    check_or_cannot fault r other d = both_bound r.head.names r.head.rate other (inr r.refused.stack) (refused_there other d r.head.form r.head.names r.head.rate r.head.form_is r.head.is)

    head_or_check : (head : Head) → HeadIs values bytes told head → ((names : List (List ℕ)) (num den : ℕ) → head ≡ GoodHead names num den → ⊥) → (fault : CheckFault) → CheckRefused saves values bytes told fault → ⊥
    head_or_check head h never fault r = never r.head.names r.head.rate.num r.head.rate.den (same_head h.form r.head.form head (GoodHead r.head.names r.head.rate.num r.head.rate.den) h.form_is r.head.form_is h.head_is r.head.is)

    pub bad_or_check : (bad : CaptureFault) → HeadIs values bytes told (Bad bad) → (fault : CheckFault) → CheckRefused saves values bytes told fault → ⊥
    bad_or_check bad h = head_or_check (Bad bad) h (λ names num den e. cc)

    pub unread_or_check : HeadIs values bytes told Unread → (fault : CheckFault) → CheckRefused saves values bytes told fault → ⊥
    unread_or_check h = head_or_check Unread h (λ names num den e. cc)

    -- samples that go past their bound don't stay within it
    pub past_can : GoesPast saves values bytes told → CanBind saves values bytes told
    past_can g = record { head = g.head; bound = inr (inr (g.earlier, g.part)) }

    pub within_or_past : (c : CanBind saves values bytes told) → StaysWithin c.bound c.head.form bytes told → GoesPast saves values bytes told → ⊥
    within_or_past c within g = by c.bound within
      where
        by : (b : AllBound saves values c.head.names c.head.rate) → StaysWithin b c.head.form bytes told → ⊥
        by (inl s) w = find_or_part s.searches.job g.part.job
        by (inr (inl whole)) w = decode_or_part whole.job g.part.job
        by (inr (inr p)) w =
            let same = one_total c.head.form g.head.form c.head.names g.head.names c.head.rate g.head.rate c.head.form_is g.head.form_is c.head.is g.head.is p.1.stack g.part.stack p.0 g.earlier p.1.begins g.part.begins in
            let past = g.past in
            omega (arith, w, same, past)
