-- What samples give and leave is what the walk over them gives and keeps.
use Rattle.std.proofs.Common.{◌≡◌, ◌⊎◌, inl, inr, ℕ, ◌+◌, ◌<◌, ◌≤◌, suc, Bool, true, false, List}
use Rattle.std.proofs.Common.{[], ◌∷◌, ◌++◌, length, Option, refl, sym, ◌∙◌, ap, subst, arith}
use Rattle.std.proofs.Common.{append_assoc, length-append}
use Rattle.std.specs.Prelude.{Some, None}
use Rattle.std.proofs.lemmas.Bool.{true≢false}
use Rattle.std.proofs.lemmas.List.{append-nil}
use Rattle.std.proofs.lemmas.Grind.{flat_map-append}
use Rattle.la_base.specs.declared.wires.Out.{Out}
use Rattle.list_cuts.specs.Neighbours.{last_of}
use Rattle.list_cuts.proofs.NeighbourLaws.{last_from_push}
use Rattle.list_cuts.proofs.TestLaws.{when_yes, when_no}
use Rattle.sample_walks.specs.Walks.{walked, given}
use Rattle.sample_walks.specs.laws.WalkLaws.{walked_push, given_push}
use Rattle.dec_uart.specs.Chain.{Shape, Look, is_fall, look_outs, is_open, behind, look}
use Rattle.dec_uart.specs.Chain.{starts_from, starts, frames_outs, near_of, chain_outs, chain_near}
use Rattle.dec_uart.specs.laws.Machine.{Kept, Idle, Inside, Low, line_next, line_gives, line_near}
use Rattle.dec_uart.specs.laws.Machine.{line_walk}
use Rattle.dec_uart.specs.laws.Looks.{View, Far, Stray, On, All, view, look_far, look_stray}
use Rattle.dec_uart.specs.laws.Looks.{look_on, behind_low, look_stays}
use Rattle.dec_uart.specs.laws.Starts.{free_of, free_last, fall_here, more_starts, one_start}
use Rattle.dec_uart.specs.laws.Starts.{no_start, taken_start}
use Rattle.dec_uart.specs.laws.Steps.{Reading, Resting, Progress, Stepped, look_reading}
use Rattle.dec_uart.specs.laws.Steps.{look_resting, step_inside, step_resting}

module _ (c : Shape) (first : 1 ≤ c.point 0) (up : (i : ℕ) → c.point i < c.point (suc i)) where
  -- frames that have nothing more to give
  abbrev Closed : List ℕ → List ℕ → Type 0
  Closed s [] = Unit {0}
  Closed s (f ∷ fs) = (is_open (look c s f) ≡ false) × Closed s fs

  closed_push : (s fs : List ℕ) (f : ℕ) → Closed s fs → is_open (look c s f) ≡ false
      → Closed s (fs ++ f ∷ [])
  closed_push s [] f all one = (one, tt)
  closed_push s (g ∷ fs) f all one = (all.0, closed_push s fs f all.1 one)

  closed_stays : (s more fs : List ℕ) → Closed s fs → Closed (s ++ more) fs
  closed_stays s more [] all = tt
  closed_stays s more (f ∷ fs) all =
      (ap is_open (look_stays c up s more f all.0) ∙ all.0, closed_stays s more fs all.1)

  closed_outs : (s more fs : List ℕ) → Closed s fs
      → frames_outs c (s ++ more) fs ≡ frames_outs c s fs
  closed_outs s more [] all = refl
  closed_outs s more (f ∷ fs) all =
      λ k. look_outs c f (look_stays c up s more f all.0 k) ++ closed_outs s more fs all.1 k

  frames_push : (s fs : List ℕ) (f : ℕ)
      → frames_outs c s (fs ++ f ∷ []) ≡ frames_outs c s fs ++ look_outs c f (look c s f)
  frames_push s fs f =
      flat_map-append (λ g. look_outs c g (look c s g)) fs (f ∷ [])
      ∙ ap (λ (l : List Out). frames_outs c s fs ++ l) (append-nil (look_outs c f (look c s f)))

  -- what samples leave: no frame, or some that are closed and a last one
  abbrev Left : List ℕ → Kept → Type 0
  Left s h =
      ((starts c s ≡ []) × (h ≡ Idle))
      ⊎ ((fs : List ℕ) × (f : ℕ) × (starts c s ≡ fs ++ f ∷ []) × Closed s fs × Progress c s f h)

  module _ (s : List ℕ) (now : ℕ) where
    abbrev whole : List ℕ
    whole = s ++ now ∷ []

    abbrev here_falls : List ℕ
    here_falls = fall_here c up s now

    -- a frame that begins at the new sample
    fresh : Reading c whole (length s) (length s) []
    fresh = record {
      same = refl;
      within = omega arith;
      ahead = omega (arith, first, length-append s (now ∷ []));
      before = λ j e. absurd (omega (arith, e));
      low = λ j e. absurd (omega (arith, e));
      levels_are = refl;
    }

    fresh_none : look_outs c (length s) (look c whole (length s)) ≡ []
    fresh_none =
        ap (λ (l : Look). look_outs c (length s) l)
        (look_reading c up whole (length s) (length s) [] fresh)

    -- one more sample gives what the state says, and leaves what the state says
    record Grown (h : Kept) : Type 0 where
      pub outs : chain_outs c whole ≡ chain_outs c s ++ line_gives c h (length s) (last_of s) now
      pub left : Left whole (line_next c h (length s) (last_of s) now)

    -- a new frame behind closed ones
    grown_start : (fs : List ℕ) → starts c s ≡ fs → Closed s fs
        → is_fall c.rx (last_of s) now ≡ true → starts c whole ≡ fs ++ length s ∷ [] → Grown Idle
    unfolding chain_outs
    grown_start fs had closed fall has = record {
      outs = ap (λ (l : List ℕ). frames_outs c whole l) has
          ∙ frames_push whole fs (length s)
          ∙ (λ k. closed_outs s (now ∷ []) fs closed k ++ fresh_none k)
          ∙ ap (λ (l : List ℕ). frames_outs c s l ++ []) (sym had);
      left = inr (
        fs,
        length s,
        has,
        closed_stays s (now ∷ []) fs closed,
        subst
            (λ (h : Kept). Progress c whole (length s) h)
            (sym (when_yes (is_fall c.rx (last_of s) now) _ _ fall)) fresh,
      );
    }

    -- no frame so far
    grown_none : starts c s ≡ [] → Grown Idle
    unfolding chain_outs
    grown_none none = by (is_fall c.rx (last_of s) now) refl
      where
        begins : (fs : List ℕ) → starts c s ≡ fs
            → starts c whole ≡ fs ++ starts_from c whole (free_of c whole 0 fs) here_falls
        begins fs is =
            more_starts c up s now
            ∙ (λ k. is k ++ starts_from c whole (free_of c whole 0 (is k)) here_falls)

        by : (b : Bool) → is_fall c.rx (last_of s) now ≡ b → Grown Idle
        by true fall =
            grown_start [] none tt fall (begins [] none ∙ one_start c up s now 0 fall (omega arith))
        by false still =
            let has : starts c whole ≡ [] = begins [] none ∙ no_start c up s now 0 still in
            record {
              outs = ap (λ (l : List ℕ). frames_outs c whole l) has
                  ∙ ap (λ (l : List ℕ). frames_outs c s l ++ []) (sym none);
              left = inl (has, when_no (is_fall c.rx (last_of s) now) _ _ still);
            }

    -- frames so far, the last of which goes on
    module _ (fs : List ℕ) (f : ℕ) (had : starts c s ≡ fs ++ f ∷ []) (closed : Closed s fs) where
      had_then : starts c whole
          ≡ (fs ++ f ∷ []) ++ starts_from c whole (behind c f (look c whole f)) here_falls
      had_then =
          more_starts c up s now
          ∙ (λ k. had k ++ starts_from c whole (free_of c whole 0 (had k)) here_falls)
          ∙ ap (λ (n : ℕ). (fs ++ f ∷ []) ++ starts_from c whole n here_falls)
          (free_last c whole fs f 0)

      goes_on : (h : Kept) → Stepped c s now f h
          → starts_from c whole (behind c f (look c whole f)) here_falls ≡ [] → Grown h
      unfolding chain_outs
      goes_on h step none =
          let has : starts c whole ≡ fs ++ f ∷ [] =
          had_then ∙ ap (λ (l : List ℕ). (fs ++ f ∷ []) ++ l) none
          ∙ append-nil (fs ++ f ∷ []) in
          let new = line_gives c h (length s) (last_of s) now in
          record {
            outs = ap (λ (l : List ℕ). frames_outs c whole l) has
                ∙ frames_push whole fs f
                ∙ (λ k. closed_outs s (now ∷ []) fs closed k ++ step.gives k)
                ∙ sym (append_assoc (frames_outs c s fs) (look_outs c f (look c s f)) new)
                ∙ ap (λ (l : List Out). l ++ new) (sym (frames_push s fs f))
                ∙ ap (λ (l : List ℕ). frames_outs c s l ++ new) (sym had);
            left = inr (fs, f, has, closed_stays s (now ∷ []) fs closed, step.progress);
          }

      none_here : (h : Kept) → Stepped c s now f h
          → starts_from c whole (behind c f (look c whole f)) here_falls ≡ []
      none_here h step = by (is_fall c.rx (last_of s) now) refl
        where
          by : (b : Bool) → is_fall c.rx (last_of s) now ≡ b
              → starts_from c whole (behind c f (look c whole f)) here_falls ≡ []
          by true fall = taken_start c up s now (behind c f (look c whole f)) (step.taken fall)
          by false still = no_start c up s now (behind c f (look c whole f)) still

      -- a closed frame leaves the line free
      closed_within : is_open (look c s f) ≡ false → behind c f (look c s f) ≤ length s
      closed_within shut = by (view c s f)
        where
          by : View c s f → behind c f (look c s f) ≤ length s
          by (Far past) = absurd (true≢false (sym (ap is_open (look_far c s f past)) ∙ shut))
          by (Stray within is) =
              let e : behind c f (look c s f) ≡ f + c.point 0 + 1 =
              ap (λ (l : Look). behind c f l) (look_stray c s f within is) in
              omega (arith, e, within)
          by (On within is past) =
              absurd (true≢false (sym (ap is_open (look_on c s f within is past)) ∙ shut))
          by (All within is all) = let e = behind_low c s f within is in omega (arith, e, all)

      idle_on : is_open (look c s f) ≡ false → Grown Idle
      idle_on shut = by (is_fall c.rx (last_of s) now) refl
        where
          same : look c whole f ≡ look c s f
          same = look_stays c up s (now ∷ []) f shut

          by : (b : Bool) → is_fall c.rx (last_of s) now ≡ b → Grown Idle
          by true fall =
              let free : behind c f (look c whole f) ≤ length s =
              subst (λ (l : Look). behind c f l ≤ length s) (sym same) (closed_within shut) in
              grown_start (fs ++ f ∷ []) had (closed_push s fs f closed shut) fall
              (had_then ∙ ap (λ (l : List ℕ). (fs ++ f ∷ []) ++ l)
              (one_start c up s now (behind c f (look c whole f)) fall free))
          by false still = goes_on Idle (record {
            progress =
                subst (λ (h : Kept). Progress c whole f h)
                (sym (when_no (is_fall c.rx (last_of s) now) _ _ still)) (ap is_open same ∙ shut);
            gives = ap (λ (l : Look). look_outs c f l) same
                ∙ sym (append-nil (look_outs c f (look c s f)));
            taken = λ fall. absurd (true≢false (sym fall ∙ still));
          }) (no_start c up s now (behind c f (look c whole f)) still)

      grown_last : (h : Kept) → Progress c s f h → Grown h
      grown_last Idle shut = idle_on shut
      grown_last (Inside g levels) r =
          let step : Stepped c s now f (Inside g levels) =
          subst (λ (n : ℕ). Stepped c s now f (Inside n levels)) (sym r.same)
          (step_inside c up s now f levels
          (subst (λ (n : ℕ). Reading c s f n levels) r.same r)) in
          goes_on (Inside g levels) step (none_here (Inside g levels) step)
      grown_last (Low g) r =
          let step : Stepped c s now f (Low g) =
          subst (λ (n : ℕ). Stepped c s now f (Low n)) (sym r.same)
          (step_resting c up s now f (subst (λ (n : ℕ). Resting c s f n) r.same r)) in
          goes_on (Low g) step (none_here (Low g) step)

    grown : (h : Kept) → Left s h → Grown h
    grown h left = elim left [
      | inl none ↦ subst Grown (sym none.1) (grown_none none.0)
      | inr last ↦ grown_last last.0 last.1 last.2 last.3 h last.4
    ]

  -- the outputs of samples are those of the walk over them
  record Walked (s : List ℕ) : Type 0 where
    pub outs : chain_outs c s ≡ given (line_walk c) s
    pub left : Left s (walked (line_walk c) s)

  walked_more : (more s : List ℕ) → Walked s → Walked (s ++ more)
  walked_more [] s w = subst Walked (sym (append-nil s)) w
  walked_more (now ∷ more) s w =
      let g = grown s now (walked (line_walk c) s) w.left in
      let one : Walked (s ++ now ∷ []) = record {
        outs = g.outs ∙ ap
            (λ (l : List Out). l ++ line_gives c (walked (line_walk c) s) (length s)
            (last_of s) now) w.outs ∙ sym (given_push (line_walk c) s now);
        left = subst (λ (h : Kept). Left (s ++ now ∷ []) h)
            (sym (walked_push (line_walk c) s now)) g.left;
      } in
      subst Walked (append_assoc s (now ∷ []) more) (walked_more more (s ++ now ∷ []) one)

  walked_all : (s : List ℕ) → Walked s
  unfolding walked given chain_outs
  walked_all s = walked_more s [] (record { outs = refl; left = inl (refl, refl) })

  pub outs_walked : (s : List ℕ) → chain_outs c s ≡ given (line_walk c) s
  outs_walked s = (walked_all s).outs

  -- and so is the start of what is open
  pub near_walked : (s : List ℕ) → chain_near c s ≡ line_near (walked (line_walk c) s) (length s)
  unfolding chain_near
  near_walked s = elim (walked_all s).left [
    | inl none ↦ ap (λ (l : List ℕ). near_of c s (last_of l)) none.0
        ∙ ap (λ (h : Kept). line_near h (length s)) (sym none.1)
    | inr last ↦
        let f = last.1 in
        ap (λ (l : List ℕ). near_of c s (last_of l)) last.2
        ∙ ap (λ (o : Option ℕ). near_of c s o) (last_from_push last.0 f None)
        ∙ by f (walked (line_walk c) s) last.4
  ]
    where
      by : (f : ℕ) (h : Kept) → Progress c s f h → near_of c s (Some f) ≡ line_near h (length s)
      by f Idle shut = when_no (is_open (look c s f)) _ _ shut
      by f (Inside g levels) r =
          when_yes (is_open (look c s f)) _ _ (ap is_open (look_reading c up s f g levels r))
          ∙ sym r.same
      by f (Low g) r =
          when_yes (is_open (look c s f)) _ _ (ap is_open (look_resting c up s f g r)) ∙ sym r.same
