-- How the parts of a body's reader go on.
use Rattle.std.proofs.Common.{◌≡◌, ℕ, ◌+◌, ◌-◌, ◌^◌, ◌≤◌, ◌<◌, List, [], ◌∷◌, ◌++◌, map, replicate, refl, sym, ◌∙◌, ap, subst, Bool, nat_le, nat_lt, Option, Some, None, Err, ℤ, pos}
use Rattle.std.proofs.lemmas.Bool.{cond-true, cond-false, lt-ltb, lt-leb}
use Rattle.std.proofs.lemmas.List.{append-nil}
use Rattle.text_parts.specs.Places.{Placed}
use Rattle.la_base.specs.Samples.{samples}
use Rattle.la_base.specs.declared.samples.Run.{Run}
use Rattle.la_io.specs.declared.fault.CaptureFault.{CaptureFault}
use Rattle.la_io.specs.declared.fault.CaptureFault.TheVariants as fault
use Rattle.capture_vcd.specs.Body.{Channel, Event, Statement, Time, Change, Wrong, event_of, samples_before, samples_to, time_behind}
use Rattle.capture_vcd.specs.Within.{Within, hanging, token_gives}
use Rattle.capture_vcd.specs.Within as within
use Rattle.capture_vcd.specs.Following.{BodyAt, is_one, word_bits}
use Rattle.capture_vcd.specs.Chains.{NoneHas}
use Rattle.capture_vcd.proofs.Chaining.{levels_left, none_valued}
use Rattle.capture_vcd.specs.Slots.{assigned, changed, channel_of, level_of, value_of, valued}
use Rattle.capture_vcd.specs.Running.{BodyFaulty, BodyEnds, OpenAt, PartsStand, hanging_of}
use Rattle.la_io.specs.Capture.{Clean, Ends, Faulty, Open}
use Rattle.capture_vcd.specs.Vcd.{body_by, settled_by}
use Rattle.text_parts.specs.Reading.{read_front}
use Rattle.capture_vcd.specs.Within.{statements_read}
use Rattle.capture_vcd.specs.declared.slots.Slot.{Slot}
use Rattle.capture_vcd.specs.declared.body.Pending.{Pending}
use Rattle.capture_vcd.specs.declared.body.Pending.TheVariants.{Free, Value, Skip, Comment}
use Rattle.std.specs.declared.vec.Vec.{Vec}
use Rattle.std.specs.declared.alloc.Global.{Global}
use Rattle.capture_vcd.proofs.Levels.{bits_keep, channels_assigned, channels_changed, channels_valued, levels_assigned, levels_changed, levels_keep, values_are}
use Rattle.capture_vcd.proofs.Following.{body_changes, body_ends, body_fault, body_hangs, body_last, body_on, body_reaches, body_starts}

pub samples_are : (run : Run) → samples run ≡ replicate run.len run.value
unfolding samples
samples_are run = refl

module _ (down : ℕ) (some : 0 < down) (channels : List Channel) (slots : List Slot) where
  abbrev Parts : Pending → Option ℕ → Option ℕ → List Placed → List ℕ → Type 0
  Parts pending start last items given = PartsStand down channels slots pending start last items given

  abbrev At : Within → Option ℕ → Option ℕ → List Placed → List ℕ → Type 0
  At open_is start last items given = BodyAt down channels (map level_of slots) open_is start last items given

  free_at : (pending : Pending) (start last : Option ℕ) (items : List Placed) (given : List ℕ) → pending ≡ Free → Parts pending start last items given → At within.Free start last items given
  free_at pending start last items given is st =
      let open_free : st.open_is ≡ within.Free = subst (λ (p : Pending). OpenAt p slots st.open_is) is st.opened in
      subst (λ (w : Within). At w start last items given) open_free st.stands

  at_free : (pending : Pending) (start last : Option ℕ) (items : List Placed) (given : List ℕ) → pending ≡ Free → At within.Free start last items given → Parts pending start last items given
  at_free pending start last items given is at = record {
    open_is = within.Free;
    opened = subst (λ (p : Pending). OpenAt p slots within.Free) (sym is) refl;
    stands = at;
  }

  -- a time
  module _ (pending : Pending) (start last : Option ℕ) (items : List Placed) (given : List ℕ) (token : Placed) (at time : ℕ) (small : time < 2 ^ 60) (free : pending ≡ Free)
      (gives : token_gives within.Free token ≡ (Time at time ∷ [], within.Free)) (st : Parts pending start last items given) where
    moved : (s l : Option ℕ) → start ≡ s → last ≡ l → At within.Free s l items given
    moved s l start_is last_is = subst (λ (o : Option ℕ). At within.Free s o items given) last_is (subst (λ (o : Option ℕ). At within.Free o last items given) start_is (free_at pending start last items given free st))

    pub parts_start : start ≡ None → last ≡ None → Parts pending (Some time) (Some time) (items ++ token ∷ []) given
    parts_start start_is last_is =
        at_free pending (Some time) (Some time) (items ++ token ∷ []) given free
        (body_starts down some channels (map level_of slots) within.Free items given token within.Free at time small gives (moved None None start_is last_is))

    pub parts_reach : (s l count : ℕ) → start ≡ Some s → last ≡ Some l → l ≤ time → samples_before (l - s) down + count ≡ samples_before (time - s) down
        → Parts pending (Some s) (Some time) (items ++ token ∷ []) (given ++ replicate count (word_bits (map level_of slots)))
    parts_reach s l count start_is last_is order total =
        at_free pending (Some s) (Some time) (items ++ token ∷ []) _ free
        (body_reaches down some channels (map level_of slots) within.Free items given token within.Free at time small gives s l count order total (moved (Some s) (Some l) start_is last_is))

    back_is : (l : ℕ) → last ≡ Some l → time < l → BodyFaulty down channels (items ++ token ∷ []) given (fault.TimeBack at (pos l) (pos time))
    back_is l last_is less =
        let body = moved start (Some l) refl last_is in
        body_fault down some channels (map level_of slots) within.Free start (Some l) items given body token within.Free (Time at time) gives (fault.TimeBack at (pos l) (pos time))
        (cond-false (nat_le (2 ^ 60) time) _ _ (lt-leb (2 ^ 60) time small) ∙ ap (λ (o : Option ℕ). time_behind at time o) body.latest ∙ cond-true (nat_lt time l) _ _ (lt-ltb time l less))

    pub parts_back : (l : ℕ) (was now : ℤ) → last ≡ Some l → time < l → was ≡ pos l → now ≡ pos time → BodyFaulty down channels (items ++ token ∷ []) given (fault.TimeBack at was now)
    parts_back l was now last_is less was_is now_is =
        subst (λ (z : ℤ). BodyFaulty down channels (items ++ token ∷ []) given (fault.TimeBack at z now)) (sym was_is)
        (subst (λ (z : ℤ). BodyFaulty down channels (items ++ token ∷ []) given (fault.TimeBack at (pos l) z)) (sym now_is) (back_is l last_is less))

  -- any other token
  pub parts_fault : (pending : Pending) (start last : Option ℕ) (items : List Placed) (given : List ℕ) (token : Placed) (part : Statement) (after : Within) (why : CaptureFault) → pending ≡ Free → token_gives within.Free token ≡ (part ∷ [], after)
      → ((events : List Event) → event_of events part ≡ Err why) → Parts pending start last items given → BodyFaulty down channels (items ++ token ∷ []) given why
  parts_fault pending start last items given token part after why free gives bad st =
      let body = free_at pending start last items given free st in
      body_fault down some channels (map level_of slots) within.Free start last items given body token after part gives why (bad body.events)

  pub parts_hang : (pending : Pending) (start last : Option ℕ) (items : List Placed) (given : List ℕ) (at : ℕ) → hanging_of pending ≡ Some at → Parts pending start last items given → BodyEnds down channels items given (Faulty (fault.Token at))
  parts_hang pending start last items given at is st = λ head.
      body_hangs down some channels (map level_of slots) st.open_is start last items given st.stands head at (by_pending pending is st.open_is st.opened)
    where
      by_pending : (p : Pending) → hanging_of p ≡ Some at → (w : Within) → OpenAt p slots w → hanging w ≡ Wrong at ∷ []
      by_pending Free is w o = cc
      by_pending Comment is w o = cc
      by_pending (Value n) is w o = let same : n ≡ at = cc in ap hanging o.1 ∙ ap (λ (k : ℕ). Wrong k ∷ []) same
      by_pending (Skip n) is w o = let same : n ≡ at = cc in ap hanging o ∙ ap (λ (k : ℕ). Wrong k ∷ []) same

  none_hangs : (p : Pending) (w : Within) → hanging_of p ≡ None → OpenAt p slots w → hanging w ≡ []
  none_hangs Free w is o = ap hanging o
  none_hangs Comment w is o = ap hanging o
  none_hangs (Value n) w is o = cc
  none_hangs (Skip n) w is o = cc

  module _ (pending : Pending) (start last : Option ℕ) (items : List Placed) (given : List ℕ) (none : hanging_of pending ≡ None) (st : Parts pending start last items given) where
    -- no time came
    pub parts_empty : start ≡ None → BodyEnds down channels items given Clean
    parts_empty start_is = λ head.
        let same : given ++ [] ≡ settled_by down channels st.stands.events Clean start last =
        append-nil given ∙ st.stands.gave ∙ ap (λ (o : Option ℕ). settled_by down channels st.stands.events Open o last) start_is ∙ sym (ap (λ (o : Option ℕ). settled_by down channels st.stands.events Clean o last) start_is) in
        subst (λ (g : List ℕ). Ends (body_by down head channels Clean (read_front event_of [] (statements_read Clean items))) g Clean) (append-nil given)
        (body_ends down some channels (map level_of slots) st.open_is start last items given st.stands head [] (none_hangs pending st.open_is none st.opened) same)

    module _ (s l : ℕ) (start_is : start ≡ Some s) (last_is : last ≡ Some l) where
      at : BodyAt down channels (map level_of slots) st.open_is (Some s) (Some l) items given
      at = subst (λ (o : Option ℕ). BodyAt down channels (map level_of slots) st.open_is (Some s) o items given) last_is (subst (λ (o : Option ℕ). BodyAt down channels (map level_of slots) st.open_is o last items given) start_is st.stands)

      pub parts_count : (count : ℕ) → samples_before (l - s) down + count ≡ samples_to (l - s) down → BodyEnds down channels items (given ++ replicate count (word_bits (map level_of slots))) Clean
      parts_count count total = λ head.
          body_ends down some channels (map level_of slots) st.open_is (Some s) (Some l) items given at head (replicate count (word_bits (map level_of slots))) (none_hangs pending st.open_is none st.opened)
          (body_last down some channels (map level_of slots) st.open_is s l count items given at total)

-- what slots make of a token
module _ (down : ℕ) (some : 0 < down) (codes : List (Vec ℕ Global)) where
  abbrev Stand : List Slot → Pending → Option ℕ → Option ℕ → List Placed → List ℕ → Type 0
  Stand slots pending start last items given = PartsStand down (map (channel_of codes) slots) slots pending start last items given

  module _ (start last : Option ℕ) (items : List Placed) (given : List ℕ) (token : Placed) where
    -- a token that says nothing
    pub parts_on : (slots : List Slot) (pending next : Pending) (after : Within) → pending ≡ Free → token_gives within.Free token ≡ ([], after) → OpenAt next slots after → Stand slots pending start last items given
        → Stand slots next start last (items ++ token ∷ []) given
    parts_on slots pending next after free gives opened st = record {
      open_is = after;
      opened = opened;
      stands = body_on down some (map (channel_of codes) slots) (map level_of slots) within.Free start last items given (free_at down some (map (channel_of codes) slots) slots pending start last items given free st) token after gives;
    }

    -- one that is passed over
    pub parts_pass : (slots : List Slot) (pending : Pending) → pending ≡ Free → token_gives within.Free token ≡ ([], within.Free) → Stand slots pending start last items given → Stand slots pending start last (items ++ token ∷ []) given
    parts_pass slots pending free gives st = subst (λ (p : Pending). Stand slots p start last (items ++ token ∷ []) given) (sym free) (parts_on slots pending Free within.Free free gives refl st)

    -- the same behind something that is open
    pub parts_close : (slots : List Slot) (pending next : Pending) (before after : Within) → ((w : Within) → OpenAt pending slots w → w ≡ before) → token_gives before token ≡ ([], after) → OpenAt next slots after → Stand slots pending start last items given
        → Stand slots next start last (items ++ token ∷ []) given
    parts_close slots pending next before after is gives opened st = record {
      open_is = after;
      opened = opened;
      stands = body_on down some (map (channel_of codes) slots) (map level_of slots) st.open_is start last items given st.stands token after (ap (λ (w : Within). token_gives w token) (is st.open_is st.opened) ∙ gives);
    }

    -- a value
    pub parts_open : (slots new : List Slot) (pending : Pending) (at : ℕ) (digits : List ℕ) → new ≡ map (valued digits) slots → pending ≡ Free → token_gives within.Free token ≡ ([], within.Value at digits) → Stand slots pending start last items given
        → Stand new (Value at) start last (items ++ token ∷ []) given
    parts_open slots new pending at digits new_is free gives st =
        let body = body_on down some (map (channel_of codes) slots) (map level_of slots) within.Free start last items given (free_at down some (map (channel_of codes) slots) slots pending start last items given free st) token (within.Value at digits) gives in
        subst (λ (n : List Slot). Stand n (Value at) start last (items ++ token ∷ []) given) (sym new_is) (record {
          open_is = within.Value at digits;
          opened = (digits, refl, values_are digits slots ∙ sym (bits_keep digits slots));
          stands = subst (λ (ch : List Channel). BodyAt down ch (map level_of (map (valued digits) slots)) (within.Value at digits) start last (items ++ token ∷ []) given) (sym (channels_valued codes digits slots))
              (subst (λ (bs : List Bool). BodyAt down (map (channel_of codes) slots) bs (within.Value at digits) start last (items ++ token ∷ []) given) (sym (levels_keep digits slots)) body);
        })

    -- a change
    pub parts_set : (mid new : List Slot) (open_is : Within) (code digits : List ℕ) → BodyAt down (map (channel_of codes) mid) (map level_of mid) open_is start last items given → map value_of mid ≡ map (λ slot. is_one slot.bit digits) mid
        → new ≡ map (assigned codes code) mid → token_gives open_is token ≡ (Change code digits ∷ [], within.Free) → Stand new Free start last (items ++ token ∷ []) given
    parts_set mid new open_is code digits body noted new_is gives =
        subst (λ (n : List Slot). Stand n Free start last (items ++ token ∷ []) given) (sym new_is) (record {
          open_is = within.Free;
          opened = refl;
          stands = subst (λ (ch : List Channel). BodyAt down ch (map level_of (map (assigned codes code) mid)) within.Free start last (items ++ token ∷ []) given) (sym (channels_assigned codes code mid))
              (body_changes down some (map (channel_of codes) mid) (map level_of mid) open_is start last items given body token within.Free code digits (map level_of (map (assigned codes code) mid)) gives
              (levels_assigned codes code digits body.events mid body.levels_are noted));
        })

    pub parts_code : (slots new : List Slot) (pending : Pending) (at : ℕ) → pending ≡ Value at → new ≡ map (assigned codes token.1) slots → Stand slots pending start last items given → Stand new Free start last (items ++ token ∷ []) given
    parts_code slots new pending at is new_is st =
        let opened : OpenAt (Value at) slots st.open_is = subst (λ (p : Pending). OpenAt p slots st.open_is) is st.opened in
        parts_set slots new st.open_is token.1 opened.0 st.stands opened.2 new_is (ap (λ (w : Within). token_gives w token) opened.1)

    pub parts_scalar : (slots mid new : List Slot) (pending : Pending) (code digits : List ℕ) → mid ≡ map (valued digits) slots → new ≡ map (assigned codes code) mid → pending ≡ Free → token_gives within.Free token ≡ (Change code digits ∷ [], within.Free)
        → Stand slots pending start last items given → Stand new pending start last (items ++ token ∷ []) given
    parts_scalar slots mid new pending code digits mid_is new_is free gives st =
        let body = free_at down some (map (channel_of codes) slots) slots pending start last items given free st in
        let same = subst (λ (ch : List Channel). BodyAt down ch (map level_of (map (valued digits) slots)) within.Free start last items given) (sym (channels_valued codes digits slots))
        (subst (λ (bs : List Bool). BodyAt down (map (channel_of codes) slots) bs within.Free start last items given) (sym (levels_keep digits slots)) body) in
        subst (λ (p : Pending). Stand new p start last (items ++ token ∷ []) given) (sym free)
        (parts_set (map (valued digits) slots) new within.Free code digits same (values_are digits slots ∙ sym (bits_keep digits slots)) (new_is ∙ ap (λ (l : List Slot). map (assigned codes code) l) mid_is) gives)

  -- channels of the same levels
  parts_like : (start last : Option ℕ) (items : List Placed) (given : List ℕ) (slots new : List Slot) → map level_of new ≡ map level_of slots → map (channel_of codes) new ≡ map (channel_of codes) slots → Stand new Free start last items given → Stand slots Free start last items given
  parts_like start last items given slots new levels channels p = record {
    open_is = p.open_is;
    opened = p.opened;
    stands = subst (λ (ch : List Channel). BodyAt down ch (map level_of slots) p.open_is start last items given) channels
        (subst (λ (bs : List Bool). BodyAt down (map (channel_of codes) new) bs p.open_is start last items given) levels p.stands);
  }

  module _ (start last : Option ℕ) (items : List Placed) (given : List ℕ) (token : Placed) (slots : List Slot) (pending : Pending) where
    -- a change to a value of one digit
    module _ (code : List ℕ) (first : ℕ) (free : pending ≡ Free) (gives : token_gives within.Free token ≡ (Change code (first ∷ []) ∷ [], within.Free)) (st : Stand slots pending start last items given) where
      abbrev set : List Slot
      set = map (assigned codes code) (map (valued (first ∷ [])) slots)

      scalar : Stand set Free start last (items ++ token ∷ []) given
      scalar = subst (λ (q : Pending). Stand set q start last (items ++ token ∷ []) given) free (parts_scalar start last items given token slots (map (valued (first ∷ [])) slots) set pending code (first ∷ []) refl refl free gives st)

      pub parts_changed : (new : List Slot) → new ≡ map (changed codes first code) slots → Stand new pending start last (items ++ token ∷ []) given
      parts_changed new new_is =
          subst (λ (n : List Slot). Stand n pending start last (items ++ token ∷ []) given) (sym new_is)
          (subst (λ (q : Pending). Stand (map (changed codes first code) slots) q start last (items ++ token ∷ []) given) (sym free)
          (parts_like start last (items ++ token ∷ []) given (map (changed codes first code) slots) set (levels_changed codes first code slots) (channels_changed codes first code slots) scalar))

      -- of a code that none of the channels has
      pub parts_left : NoneHas codes code slots → Stand slots pending start last (items ++ token ∷ []) given
      parts_left none =
          subst (λ (q : Pending). Stand slots q start last (items ++ token ∷ []) given) (sym free)
          (parts_like start last (items ++ token ∷ []) given slots set (levels_left codes code (map (valued (first ∷ [])) slots) (none_valued codes code (first ∷ []) slots none) ∙ levels_keep (first ∷ []) slots)
          (channels_assigned codes code (map (valued (first ∷ [])) slots) ∙ channels_valued codes (first ∷ []) slots) scalar)

    -- the value that was noted is that of such a code
    pub parts_passed : (at : ℕ) → pending ≡ Value at → NoneHas codes token.1 slots → Stand slots pending start last items given → Stand slots Free start last (items ++ token ∷ []) given
    parts_passed at is none st =
        parts_like start last (items ++ token ∷ []) given slots (map (assigned codes token.1) slots) (levels_left codes token.1 slots none) (channels_assigned codes token.1 slots)
        (parts_code start last items given token slots (map (assigned codes token.1) slots) pending at is refl st)
