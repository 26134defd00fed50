-- One more sample of a frame: what it shows then is what the state says that it left.
use Rattle.std.proofs.Common.{◌≡◌, inl, inr, ℕ, zero, suc, ◌+◌, ◌<◌, ◌≤◌, Bool, true, false, not}
use Rattle.std.proofs.Common.{List, [], ◌∷◌, ◌++◌, drop, length, slice_index, Option, Some, None}
use Rattle.std.proofs.Common.{refl, sym, ◌∙◌, ap, subst, arith, length-append, if◌then◌else◌}
use Rattle.std.specs.Prelude.{nat_lt, ◌&&◌, ◌||◌}
use Rattle.std.proofs.Math.Seq.{get_or-append_seam}
use Rattle.std.proofs.lemmas.Bool.{cases_lt, true≢false}
use Rattle.std.proofs.lemmas.List.{append-nil, drop-append-le, drop_all, length-drop}
use Rattle.std.proofs.lemmas.List.Folds.{list_any-append}
use Rattle.la_base.specs.Samples.{is_high}
use Rattle.la_base.specs.declared.wires.Out.{Out}
use Rattle.list_cuts.specs.Neighbours.{last_of}
use Rattle.list_cuts.proofs.NeighbourLaws.{last_from_push}
use Rattle.list_cuts.proofs.TestLaws.{when_yes, when_no, less_yes, less_no}
use Rattle.dec_uart.specs.Chain.{Shape, Look, Ahead, FalseStart, Whole, AllLow, any_high, is_fall}
use Rattle.dec_uart.specs.Chain.{high_from, look_outs, is_open, behind, level, levels_at}
use Rattle.dec_uart.specs.Chain.{all_points, look}
use Rattle.dec_uart.specs.laws.Machine.{Kept, Idle, Inside, Low, is_false_start, after_all}
use Rattle.dec_uart.specs.laws.Machine.{point_gives, point_next, line_next, line_gives}
use Rattle.dec_uart.specs.laws.Looks.{high_later, look_far, look_stray, look_on, look_all}
use Rattle.dec_uart.specs.laws.Looks.{behind_low, rising, level_stays, levels_stay, all_levels_stay}

module _ (c : Shape) where
  -- a frame that is being read: the levels at those of its points that the samples have
  pub record Reading (s : List ℕ) (f g : ℕ) (levels : List Bool) : Type 0 where
    pub same : g ≡ f
    pub within : length levels ≤ c.last
    pub ahead : length s ≤ f + c.point (length levels)
    pub before : (j : ℕ) → length levels ≡ suc j → f + c.point j < length s
    pub low : (j : ℕ) → length levels ≡ suc j → level c s (f + c.point 0) ≡ false
    pub levels_are : levels ≡ levels_at c s f (length levels)

  -- a frame that was low at all its points, on a line that is still low
  pub record Resting (s : List ℕ) (f g : ℕ) : Type 0 where
    pub same : g ≡ f
    pub all : f + c.point c.last < length s
    pub low : level c s (f + c.point 0) ≡ false
    pub none : any_high (levels_at c s f (suc c.last)) ≡ false
    pub quiet : high_from c.rx (f + c.point c.last + 1) (drop (f + c.point c.last + 1) s) ≡ None
    pub now : ℕ
    pub last_is : last_of s ≡ Some now
    pub still : is_high now c.rx ≡ false

  -- what the last frame of samples has left
  abbrev pub Progress : List ℕ → ℕ → Kept → Type 0
  Progress s f Idle = is_open (look c s f) ≡ false
  Progress s f (Inside g levels) = Reading s f g levels
  Progress s f (Low g) = Resting s f g

  -- one more sample: what is given, what is then kept, and that no frame begins there
  pub record Stepped (s : List ℕ) (now f : ℕ) (h : Kept) : Type 0 where
    pub progress : Progress (s ++ now ∷ []) f (line_next c h (length s) (last_of s) now)
    pub gives : look_outs c f (look c (s ++ now ∷ []) f)
        ≡ look_outs c f (look c s f) ++ line_gives c h (length s) (last_of s) now
    pub taken : is_fall c.rx (last_of s) now ≡ true
        → length s < behind c f (look c (s ++ now ∷ []) f)

module _ (c : Shape) (up : (i : ℕ) → c.point i < c.point (suc i)) where
  pub look_reading : (s : List ℕ) (f g : ℕ) (levels : List Bool) → Reading c s f g levels
      → look c s f ≡ Ahead
  look_reading s f g levels r = by (length levels) refl
    where
      by : (n : ℕ) → length levels ≡ n → look c s f ≡ Ahead
      by zero is =
          look_far c s f
          (let e : c.point (length levels) ≡ c.point 0 = ap c.point is in omega (arith, r.ahead, e))
      by (suc j) is =
          let one = rising c up 0 j (omega arith) in
          let two = rising c up (length levels) c.last r.within in
          look_on c s f (omega (arith, one, r.before j is)) (r.low j is)
          (omega (arith, two, r.ahead))

  pub look_resting : (s : List ℕ) (f g : ℕ) → Resting c s f g
      → look c s f ≡ AllLow (levels_at c s f (suc c.last)) None
  look_resting s f g r =
      let one = rising c up 0 c.last (omega arith) in
      look_all c s f (omega (arith, one, r.all)) r.low r.all
      ∙ when_no (any_high (levels_at c s f (suc c.last))) _ _ r.none
      ∙ ap (AllLow (levels_at c s f (suc c.last))) r.quiet

  module _ (s : List ℕ) (now f : ℕ) where
    abbrev t : List ℕ
    t = s ++ now ∷ []

    abbrev up_now : Bool
    up_now = is_high now c.rx

    t_len : length t ≡ length s + 1
    t_len = length-append s (now ∷ [])

    now_is : slice_index t (length s) ≡ now
    now_is = get_or-append_seam s now [] 0

    module _ (levels : List Bool) (r : Reading c s f f levels) where
      abbrev n : ℕ
      n = length levels

      -- between two points nothing happens
      reading_stays : length s < f + c.point n → Reading c t f f levels
      reading_stays early = record {
        same = refl;
        within = r.within;
        ahead = omega (arith, early, t_len);
        before = λ j e. omega (arith, r.before j e, t_len);
        low = λ j e. level_stays c up s (now ∷ []) (f + c.point 0)
            (let one = rising c up 0 j (omega arith) in omega (arith, one, r.before j e))
            ∙ r.low j e;
        levels_are = r.levels_are ∙ sym (levels_stay c up s (now ∷ []) f n r.before);
      }

      step_early : length s < f + c.point n → Stepped c s now f (Inside f levels)
      step_early early =
          let yes : nat_lt (length s) (f + c.point n) ≡ true =
          less_yes (length s) (f + c.point n) early in
          let then_ = reading_stays early in
          let next : line_next c (Inside f levels) (length s) (last_of s) now ≡ Inside f levels =
          when_yes (nat_lt (length s) (f + c.point n)) _ _ yes in
          let none : line_gives c (Inside f levels) (length s) (last_of s) now ≡ [] =
          when_yes (nat_lt (length s) (f + c.point n)) _ _ yes in
          let far = rising c up n c.last r.within in
          record {
            progress = subst (λ (h : Kept). Progress c t f h) (sym next) then_;
            gives = (λ k. look_outs c f (look_reading t f f levels then_ k))
                ∙ (λ k. look_outs c f (sym (look_reading s f f levels r) k) ++ sym none k);
            taken = λ fall. subst (λ (l : Look). length s < behind c f l)
                (sym (look_reading t f f levels then_)) (omega (arith, early, far));
          }

      module _ (reached : f + c.point n ≡ length s) where
        abbrev levels_now : List Bool
        levels_now = levels ++ up_now ∷ []

        count_now : length levels_now ≡ suc n
        count_now = let e = length-append levels (up_now ∷ []) in omega (arith, e)

        here : level c t (f + c.point n) ≡ up_now
        here = ap (λ (k : ℕ). is_high (slice_index t k) c.rx) reached
            ∙ ap (λ (k : ℕ). is_high k c.rx) now_is

        levels_next : levels_now ≡ levels_at c t f (suc n)
        levels_next =
            let same : levels ≡ levels_at c t f n =
            r.levels_are ∙ sym (levels_stay c up s (now ∷ []) f n r.before) in
            λ k. same k ++ sym here k ∷ []

        late : nat_lt (length s) (f + c.point n) ≡ false
        late = less_no (length s) (f + c.point n) (omega (arith, reached))

        next_is : line_next c (Inside f levels) (length s) (last_of s) now
            ≡ point_next c f levels up_now
        next_is = when_no (nat_lt (length s) (f + c.point n)) _ _ late

        gives_is : line_gives c (Inside f levels) (length s) (last_of s) now
            ≡ point_gives c f levels (length s) up_now
        gives_is = when_no (nat_lt (length s) (f + c.point n)) _ _ late

        -- from what follows for the point
        stepped : (next : Kept) (outs : List Out) → point_next c f levels up_now ≡ next
            → point_gives c f levels (length s) up_now ≡ outs
            → Progress c t f next → look_outs c f (look c t f) ≡ outs
            → length s < behind c f (look c t f) → Stepped c s now f (Inside f levels)
        stepped next outs next_then outs_then then_ told after = record {
          progress = subst (λ (h : Kept). Progress c t f h) (sym (next_is ∙ next_then)) then_;
          gives = told
              ∙ (λ k. look_outs c f (sym (look_reading s f f levels r) k)
              ++ sym (gives_is ∙ outs_then) k);
          taken = λ fall. after;
        }

        -- the line is high at point 0
        stray_is : (ls : List Bool) (b : Bool) → is_false_start ls b ≡ true
            → (length ls ≡ 0) × (b ≡ true)
        stray_is [] b is = (refl, is)
        stray_is (l ∷ ls) b is = absurd (true≢false (sym is))

        step_stray : is_false_start levels up_now ≡ true → Stepped c s now f (Inside f levels)
        step_stray is =
            let zero_is : n ≡ 0 = (stray_is levels up_now is).0 in
            let point_is : c.point 0 ≡ c.point n = ap c.point (sym zero_is) in
            let place : f + c.point 0 ≡ length s = ap (λ (k : ℕ). f + k) point_is ∙ reached in
            let high : level c t (f + c.point 0) ≡ true =
            ap (λ (k : ℕ). level c t (f + k)) point_is ∙ here ∙ (stray_is levels up_now is).1 in
            let shows : look c t f ≡ FalseStart =
            look_stray c t f (omega (arith, place, t_len)) high in
            stepped Idle (c.false_start f (length s))
            (when_yes (is_false_start levels up_now) _ _ is)
            (when_yes (is_false_start levels up_now) _ _ is)
            (ap is_open shows)
            (ap (λ (l : Look). look_outs c f l) shows ∙ ap (λ (k : ℕ). c.false_start f k) place)
            (subst (λ (l : Look). length s < behind c f l) (sym shows) (omega (arith, place)))

        -- point 0 is low
        low_first : (ls : List Bool) → levels ≡ ls → is_false_start ls up_now ≡ false
            → level c t (f + c.point 0) ≡ false
        low_first [] e is = let none : length levels ≡ 0 = ap length e in
            ap (λ (k : ℕ). level c t (f + c.point k)) (sym none) ∙ here ∙ is
        low_first (l ∷ ls) e is =
            let some : length levels ≡ suc (length ls) = ap length e in
            level_stays c up s (now ∷ []) (f + c.point 0)
            (let one = rising c up 0 (length ls) (omega arith) in
            omega (arith, one, r.before (length ls) some)) ∙ r.low (length ls) some

        module _ (proper : is_false_start levels up_now ≡ false) where
          low_now : level c t (f + c.point 0) ≡ false
          low_now = low_first levels refl proper

          zero_in : f + c.point 0 < length t
          zero_in = let one = rising c up 0 n (omega arith) in omega (arith, one, reached, t_len)

          after_it : length s < behind c f (look c t f)
          after_it =
              let far = rising c up n c.last r.within in
              let e = behind_low c t f zero_in low_now in
              omega (arith, far, e, reached)

          -- a point before the last one
          step_point : n < c.last → Stepped c s now f (Inside f levels)
          step_point less =
              let yes : nat_lt n c.last ≡ true = less_yes n c.last less in
              let later = up n in
              let then_ : Reading c t f f levels_now = record {
                same = refl;
                within = omega (arith, less, count_now);
                ahead =
                    let e : c.point (length levels_now) ≡ c.point (suc n) = ap c.point count_now in
                    omega (arith, later, reached, t_len, e);
                before = λ j e.
                    let eq : j ≡ n = omega (arith, e, count_now) in
                    let same : c.point j ≡ c.point n = ap c.point eq in
                    omega (arith, same, reached, t_len);
                low = λ j e. low_now;
                levels_are = levels_next ∙ ap (λ (k : ℕ). levels_at c t f k) (sym count_now);
              } in
              stepped (Inside f levels_now) []
              (when_no (is_false_start levels up_now) _ _ proper
              ∙ when_yes (nat_lt n c.last) _ _ yes)
              (when_no (is_false_start levels up_now) _ _ proper
              ∙ when_yes (nat_lt n c.last) _ _ yes)
              then_
              (ap (λ (l : Look). look_outs c f l) (look_reading t f f levels_now then_))
              after_it

          -- the last point
          module _ (is_last : n ≡ c.last) where
            last_place : f + c.point c.last ≡ length s
            last_place = ap (λ (k : ℕ). f + c.point k) (sym is_last) ∙ reached

            all_levels : levels_now ≡ levels_at c t f (suc c.last)
            all_levels = levels_next ∙ ap (λ (k : ℕ). levels_at c t f (suc k)) is_last

            shows : look c t f ≡ all_points c t f levels_now
            shows = look_all c t f zero_in low_now (omega (arith, last_place, t_len))
                ∙ ap (λ (l : List Bool). all_points c t f l) (sym all_levels)

            nothing_behind : high_from c.rx (f + c.point c.last + 1)
                (drop (f + c.point c.last + 1) t) ≡ None
            nothing_behind =
                ap (λ (l : List ℕ). high_from c.rx (f + c.point c.last + 1) l)
                (drop_all (f + c.point c.last + 1) t (omega (arith, last_place, t_len)))

            no : nat_lt n c.last ≡ false
            no = less_no n c.last (omega (arith, is_last))

            next_last : point_next c f levels up_now ≡ after_all f levels_now
            next_last =
                when_no (is_false_start levels up_now) _ _ proper ∙ when_no (nat_lt n c.last) _ _ no

            gives_last : point_gives c f levels (length s) up_now ≡ c.frame f (length s) levels_now
            gives_last =
                when_no (is_false_start levels up_now) _ _ proper ∙ when_no (nat_lt n c.last) _ _ no

            -- where all levels are low the last one was
            low_last : any_high levels_now ≡ false → up_now ≡ false
            low_last none =
                by (any_high levels) up_now
                (sym (list_any-append (λ level. level) levels (up_now ∷ [])) ∙ none)
              where
                by : (a b : Bool) → (a || (b || false)) ≡ false → b ≡ false
                by a false is = refl
                by true true is = absurd (true≢false is)
                by false true is = absurd (true≢false is)

            step_low_frame : any_high levels_now ≡ false → Stepped c s now f (Inside f levels)
            step_low_frame none =
                let silent : look c t f ≡ AllLow levels_now None =
                shows ∙ when_no (any_high levels_now) _ _ none
                ∙ ap (AllLow levels_now) nothing_behind in
                let then_ : Resting c t f f = record {
                  same = refl;
                  all = omega (arith, last_place, t_len);
                  low = low_now;
                  none = ap any_high (sym all_levels) ∙ none;
                  quiet = nothing_behind;
                  now = now;
                  last_is = last_from_push s now None;
                  still = low_last none;
                } in
                stepped (Low f) (c.frame f (length s) levels_now)
                (next_last ∙ when_no (any_high levels_now) _ _ none)
                gives_last
                then_
                (ap (λ (l : Look). look_outs c f l) silent
                ∙ append-nil (c.frame f (f + c.point c.last) levels_now)
                ∙ ap (λ (k : ℕ). c.frame f k levels_now) last_place)
                after_it

            step_frame : any_high levels_now ≡ true → Stepped c s now f (Inside f levels)
            step_frame some =
                let whole : look c t f ≡ Whole levels_now =
                shows ∙ when_yes (any_high levels_now) _ _ some in
                stepped Idle (c.frame f (length s) levels_now)
                (next_last ∙ when_yes (any_high levels_now) _ _ some)
                gives_last
                (ap is_open whole)
                (ap (λ (l : Look). look_outs c f l) whole
                ∙ ap (λ (k : ℕ). c.frame f k levels_now) last_place)
                after_it

        step_late : Stepped c s now f (Inside f levels)
        step_late = by (is_false_start levels up_now) refl
          where
            last : is_false_start levels up_now ≡ false → n ≡ c.last → (b : Bool)
                → any_high levels_now ≡ b → Stepped c s now f (Inside f levels)
            last is is_last true some = step_frame is is_last some
            last is is_last false none = step_low_frame is is_last none

            by : (b : Bool) → is_false_start levels up_now ≡ b → Stepped c s now f (Inside f levels)
            by true is = step_stray is
            by false is = elim (cases_lt n c.last) [
              | inl less ↦ step_point is less
              | inr more ↦ last is (omega (arith, more, r.within)) (any_high levels_now) refl
            ]

      pub step_inside : Stepped c s now f (Inside f levels)
      step_inside = elim (cases_lt (length s) (f + c.point n)) [
        | inl early ↦ step_early early
        | inr more ↦ step_late (omega (arith, more, r.ahead))
      ]

    -- behind a frame that was low throughout
    module _ (r : Resting c s f f) where
      at : ℕ
      at = f + c.point c.last + 1

      within : at ≤ length s
      unfolding at
      within = omega (arith, r.all)

      no_fall : is_fall c.rx (last_of s) now ≡ false
      no_fall =
          ap (λ (o : Option ℕ). is_fall c.rx o now) r.last_is
          ∙ ap (λ (b : Bool). b && not (is_high now c.rx)) r.still

      found : high_from c.rx at (drop at t) ≡ (if up_now then Some (length s) else None)
      unfolding at
      found =
          let place : at + length (drop at s) ≡ length s =
          omega (arith, within, length-drop at s) in
          ap (λ (l : List ℕ). high_from c.rx at l) (drop-append-le at s (now ∷ []) within)
          ∙ high_later c.rx at (drop at s) (now ∷ []) r.quiet
          ∙ ap (λ (k : ℕ). high_from c.rx k (now ∷ [])) place

      abbrev levels_s : List Bool
      levels_s = levels_at c s f (suc c.last)

      levels_same : levels_at c t f (suc c.last) ≡ levels_s
      levels_same = all_levels_stay c up s (now ∷ []) f r.all

      low_still : level c t (f + c.point 0) ≡ false
      low_still = let one = rising c up 0 c.last (omega arith) in
          level_stays c up s (now ∷ []) (f + c.point 0) (omega (arith, one, r.all)) ∙ r.low

      shows_silent : look c t f ≡ AllLow levels_s (high_from c.rx at (drop at t))
      unfolding at
      shows_silent =
          let one = rising c up 0 c.last (omega arith) in
          look_all c t f (omega (arith, one, r.all, t_len)) low_still (omega (arith, r.all, t_len))
          ∙ ap (λ (l : List Bool). all_points c t f l) levels_same
          ∙ when_no (any_high levels_s) _ _ r.none

      pub step_resting : Stepped c s now f (Low f)
      unfolding at
      step_resting = by up_now refl
        where
          by : (b : Bool) → up_now ≡ b → Stepped c s now f (Low f)
          by true is =
              let shows : look c t f ≡ AllLow levels_s (Some (length s)) =
              shows_silent ∙ ap (AllLow levels_s) (found ∙ when_yes up_now _ _ is) in
              record {
                progress =
                    subst (λ (h : Kept). Progress c t f h) (sym (when_yes up_now _ _ is))
                    (ap is_open shows);
                gives = ap (λ (l : Look). look_outs c f l) shows
                    ∙ (λ k. sym (append-nil (c.frame f (f + c.point c.last) levels_s)) k
                    ++ sym (when_yes up_now (c.rise f (length s)) [] is) k)
                    ∙ ap (λ (l : Look). look_outs c f l ++ line_gives c (Low f) (length s)
                    (last_of s) now) (sym (look_resting s f f r));
                taken = λ fall. absurd (true≢false (sym fall ∙ no_fall));
              }
          by false is =
              let shows : look c t f ≡ AllLow levels_s None =
              shows_silent ∙ ap (AllLow levels_s) (found ∙ when_no up_now _ _ is) in
              let then_ : Resting c t f f = record {
                same = refl;
                all = omega (arith, r.all, t_len);
                low = low_still;
                none = ap any_high levels_same ∙ r.none;
                quiet = found ∙ when_no up_now _ _ is;
                now = now;
                last_is = last_from_push s now None;
                still = is;
              } in
              record {
                progress =
                    subst (λ (h : Kept). Progress c t f h) (sym (when_no up_now _ _ is)) then_;
                gives = ap (λ (l : Look). look_outs c f l) shows
                    ∙ sym (append-nil (look_outs c f (AllLow levels_s None)))
                    ∙ (λ k. look_outs c f (sym (look_resting s f f r) k)
                    ++ sym (when_no up_now (c.rise f (length s)) [] is) k);
                taken = λ fall. absurd (true≢false (sym fall ∙ no_fall));
              }
