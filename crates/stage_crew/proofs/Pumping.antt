-- Runs that were put into the row and handed out.
use Rattle.std.proofs.Common.{◌≡◌, ◌<◌, ◌≤◌, ◌+◌, ◌-◌, ℕ, Bool, true, false, not, List, [], ◌∷◌, ◌++◌, map, length, take, drop, get_or, set, refl, sym, ◌∙◌, ap, subst, arith, append_assoc, take-append-drop}
use Rattle.std.specs.Prelude.{nat_eq, ◌&&◌}
use Rattle.std.specs.List.{All}
use Rattle.std.proofs.lemmas.Bool.Decides.{nat_tests}
use Rattle.std.proofs.lemmas.List.Elements.{All-push, All-same}
use Rattle.std.proofs.lemmas.List.{append-nil, drop-drop, take_more, map-append, length-drop, length-set, take_all, take-set, get_or-set_same}
use Rattle.la_base.specs.declared.samples.Run.{Run}
use Rattle.la_base.specs.declared.wires.Feed.{Feed}
use Rattle.la_base.specs.declared.wires.Feed.TheVariants.{Run as RunFeed}
use Rattle.tree_io.specs.Feeds.{GivesRuns, TellsMore, given_now, together}
use Rattle.tree_io.specs.declared.feeds.RunFeed.{Ghosts as FeedGhosts}
use Rattle.tree_io.proofs.Together.{together-append}
use Rattle.stage_run.specs.Inputs.{feeds_in, half_run_of, telling, told_behind, upper_of}
use Rattle.stage_run.specs.declared.input.HalfRun.{HalfRun}
use Rattle.stage_run.proofs.Telling.{feeds_in-append, plain_feeds, tell_feeds, tell_told, told-append}
use Rattle.stage_crew.specs.Fans.{Fans}
use Rattle.stage_crew.specs.Pumping.{InPlace, IsFree, Pumped, Pumps, PumpsOn, end_if, is_sent}
use Rattle.stage_crew.specs.declared.fan.Cursor.{Cursor}
use Rattle.stage_crew.specs.declared.pump.Pump.{Pump}
use Rattle.stage_crew.proofs.Common.{gone, not_true}
use Rattle.stage_crew.proofs.Handing.{fans_append}

-- one more half run at the front of room
pub row_next : (runs : List Run) (i : ℕ) (d : Run) (room : List HalfRun) (half_run : HalfRun) → i < length runs → i < length room → half_run ≡ half_run_of (get_or runs i d)
    → take i room ≡ map half_run_of (take i runs) → take (i + 1) (set room i half_run) ≡ map half_run_of (take (i + 1) runs)
row_next runs i d room half_run within low is had =
    let longer : i < length (set room i half_run) = omega (arith, low, length-set room i half_run) in
    take_more (set room i half_run) i half_run longer ∙ (λ k. take-set room i half_run k ++ get_or-set_same room i half_run half_run low k ∷ [])
    ∙ (λ k. had k ++ is k ∷ []) ∙ sym (map-append half_run_of (take i runs) (get_or runs i d ∷ [])) ∙ ap (map half_run_of) (sym (take_more runs i d within))

-- one more run with this upper half of its lines
pub uppers_next : (upper : ℕ) (runs : List Run) (i : ℕ) (d : Run) → i < length runs → upper_of (get_or runs i d) ≡ upper → All (λ run. upper_of run ≡ upper) (take i runs) → All (λ run. upper_of run ≡ upper) (take (i + 1) runs)
uppers_next upper runs i d within is had =
    All-same (λ run. upper_of run ≡ upper) (take (i + 1) runs) (take i runs ++ get_or runs i d ∷ []) (take_more runs i d within) (All-push (λ run. upper_of run ≡ upper) (take i runs) (get_or runs i d) had is)

-- the end isn't told yet
untold : (fed : List HalfRun) (upper : ℕ) (said : Bool) → said ≡ false → fed ++ end_if (telling upper) said ≡ fed
untold fed upper said still = ap (λ (b : Bool). fed ++ end_if (telling upper) b) still ∙ append-nil fed

nothing_more : (lists : List (List Run)) → map RunFeed (together lists) ≡ map RunFeed (together (lists ++ []))
nothing_more lists = ap (λ (l : List (List Run)). map RunFeed (together l)) (sym (append-nil lists))

-- they are other numbers
other : (one two : ℕ) → (one ≡ two → ⊥) → nat_eq one two ≡ false
other one two differ = by (nat_eq one two) refl
  where
    by : (b : Bool) → nat_eq one two ≡ b → nat_eq one two ≡ false
    by true is = let same : one ≡ two = grind (arith, nat_tests, is) in absurd (differ same)
    by false is = is

-- what the feed holds is what it gave last
given_is : (more ended : Bool) (held : List Run) → TellsMore more ended held → together (given_now more held) ≡ held
given_is true ended held tells = append-nil held
given_is false ended held tells = sym tells.1

at_end_is : (more ended : Bool) (held : List Run) → TellsMore more ended held → not more ≡ true → ended ≡ true
at_end_is true ended held tells is = absurd (not_true refl is)
at_end_is false ended held tells is = tells.0

module _ {A O : Type 0} (f : FeedGhosts A O) (feed : A) (p q : Pump) (sents : List (List HalfRun)) where
  abbrev held : List Run
  held = f.held feed

  same_gave : (earlier : List (List Run)) → f.gave feed earlier → f.gave feed (earlier ++ [])
  same_gave earlier had = subst (f.gave feed) (sym (append-nil earlier)) had

  -- what was in the row was handed out
  pub pumps_hand : (sents_new : List (List HalfRun)) → InPlace held p → q.at ≡ p.at → q.over ≡ p.over → q.said ≡ p.said → q.upper ≡ p.upper
      → ((all : List HalfRun) → Fans sents p.row p.cursor all → Fans sents_new q.row q.cursor all) → Pumps f feed feed p q sents sents_new
  pumps_hand sents_new place at over said upper fans = record {
    more = [];
    gave = same_gave;
    pumped = λ lists had. record {
      fed = had.fed;
      left = ap (λ (n : ℕ). feeds_in 0 had.fed ++ map RunFeed (drop n held)) at ∙ had.left ∙ nothing_more lists;
      told = had.told ∙ sym upper;
      all = λ is. ap (λ (n : ℕ). drop n held) at ∙ had.all (sym said ∙ is);
      fans = subst (λ (u : ℕ). Fans sents_new q.row q.cursor (had.fed ++ end_if (telling u) q.said)) (sym upper)
          (subst (λ (b : Bool). Fans sents_new q.row q.cursor (had.fed ++ end_if (telling p.upper) b)) (sym said) (fans (had.fed ++ end_if (telling p.upper) p.said) had.fans));
    };
    in_place = record { at = omega (arith, at, place.at); said = λ is. over ∙ place.said (sym said ∙ is) };
    origin = refl;
    over = λ is. (over ∙ is, refl);
    at_end = λ still is. absurd (not_true still (sym over ∙ is));
  }

  -- these were put into the row
  added_fans : (fed new : List HalfRun) → IsFree p → p.cursor.given ≤ length p.row → q.said ≡ p.said → q.cursor ≡ p.cursor → q.row ≡ p.row ++ new → Fans sents p.row p.cursor (fed ++ end_if (telling p.upper) p.said)
      → Fans sents q.row q.cursor ((fed ++ new) ++ end_if (telling q.upper) q.said)
  added_fans fed new free within said cursor row fans =
      let all : List HalfRun = (fed ++ new) ++ end_if (telling q.upper) q.said in
      subst (λ (h : Cursor). Fans sents q.row h all) (sym cursor)
      (subst (λ (l : List HalfRun). Fans sents l p.cursor all) (sym row)
      (fans_append fans new all within free.first
      (untold (fed ++ new) q.upper q.said (said ∙ free.said) ∙ ap (λ (l : List HalfRun). l ++ new) (sym (untold fed p.upper p.said free.said)))))

  -- further runs were put into the row
  pub pumps_fill : (n : ℕ) → InPlace held p → IsFree p → p.cursor.given ≤ length p.row → n ≤ length (take (length held - p.at) (drop p.at held)) → q.at ≡ p.at + n → q.over ≡ p.over → q.said ≡ p.said → q.upper ≡ p.upper → q.cursor ≡ p.cursor
      → q.row ≡ map half_run_of (take n (take (length held - p.at) (drop p.at held))) → All (λ run. upper_of run ≡ p.upper) (take n (take (length held - p.at) (drop p.at held))) → Pumps f feed feed p q sents sents
  pumps_fill n place free within few at over said upper cursor row uppers = record {
    more = [];
    gave = same_gave;
    pumped = λ lists had.
        let runs = take n (drop p.at held) in
        let new = map half_run_of runs in
        let plain = plain_feeds p.upper runs (subst (λ (l : List Run). All (λ run. upper_of run ≡ p.upper) (take n l)) whole uppers) in
        let row_is : q.row ≡ p.row ++ new = row ∙ ap (λ (l : List Run). map half_run_of (take n l)) whole ∙ ap (λ (l : List HalfRun). l ++ new) (sym free.none) in
        let parts : map RunFeed (drop p.at held) ≡ map RunFeed runs ++ map RunFeed (drop q.at held) =
        ap (map RunFeed) (sym (take-append-drop n (drop p.at held))) ∙ map-append RunFeed runs (drop n (drop p.at held)) ∙ ap (λ (l : List Run). map RunFeed runs ++ map RunFeed l) (drop-drop n p.at held ∙ ap (λ (k : ℕ). drop k held) (omega (arith, at))) in
        let feeds_new : feeds_in 0 (had.fed ++ new) ≡ feeds_in 0 had.fed ++ map RunFeed runs =
        feeds_in-append 0 had.fed new ∙ ap (λ (u : ℕ). feeds_in 0 had.fed ++ feeds_in u new) had.told ∙ ap (λ (l : List Feed). feeds_in 0 had.fed ++ l) plain.0 in
        record {
          fed = had.fed ++ new;
          left = ap (λ (l : List Feed). l ++ map RunFeed (drop q.at held)) feeds_new ∙ append_assoc (feeds_in 0 had.fed) (map RunFeed runs) (map RunFeed (drop q.at held)) ∙ ap (λ (l : List Feed). feeds_in 0 had.fed ++ l) (sym parts) ∙ had.left ∙ nothing_more lists;
          told = told-append 0 had.fed new ∙ ap (λ (u : ℕ). told_behind u new) had.told ∙ plain.1 ∙ sym upper;
          all = λ is. absurd (not_true (said ∙ free.said) is);
          fans = added_fans had.fed new free within said cursor row_is had.fans;
        };
    in_place = record { at = omega (arith, at, place.at, few, ap length whole, length-drop p.at held); said = λ is. absurd (not_true (said ∙ free.said) is) };
    origin = refl;
    over = λ is. (over ∙ is, refl);
    at_end = λ still is. absurd (not_true still (sym over ∙ is));
  }
    where
      whole : take (length held - p.at) (drop p.at held) ≡ drop p.at held
      whole = take_all (length held - p.at) (drop p.at held) (omega (arith, length-drop p.at held))

  -- what tells another upper half of the lines was put into the row
  pub pumps_tell : (upper : ℕ) → InPlace held p → IsFree p → p.cursor.given ≤ length p.row → (upper ≡ p.upper → ⊥) → q.at ≡ p.at → q.over ≡ p.over → q.said ≡ p.said → q.upper ≡ upper → q.cursor ≡ p.cursor → q.row ≡ p.row ++ telling upper ∷ []
      → Pumps f feed feed p q sents sents
  pumps_tell upper place free within differ at over said is_upper cursor row = record {
    more = [];
    gave = same_gave;
    pumped = λ lists had. record {
      fed = had.fed ++ telling upper ∷ [];
      left = ap (λ (n : ℕ). feeds_in 0 (had.fed ++ telling upper ∷ []) ++ map RunFeed (drop n held)) at ∙ ap (λ (l : List Feed). l ++ map RunFeed (drop p.at held)) (tell_feeds had.fed upper p.upper had.told (other upper p.upper differ)) ∙ had.left ∙ nothing_more lists;
      told = tell_told had.fed upper p.upper had.told ∙ sym is_upper;
      all = λ is. absurd (not_true (said ∙ free.said) is);
      fans = added_fans had.fed (telling upper ∷ []) free within said cursor row had.fans;
    };
    in_place = record { at = omega (arith, at, place.at); said = λ is. absurd (not_true (said ∙ free.said) is) };
    origin = refl;
    over = λ is. (over ∙ is, refl);
    at_end = λ still is. absurd (not_true still (sym over ∙ is));
  }

  -- the end was put into the row
  pub pumps_end : InPlace held p → IsFree p → p.cursor.given ≤ length p.row → length held ≤ p.at → p.over ≡ true → q.at ≡ p.at → q.over ≡ p.over → q.said ≡ true → q.upper ≡ p.upper → q.cursor ≡ p.cursor → q.row ≡ p.row ++ telling p.upper ∷ []
      → Pumps f feed feed p q sents sents
  pumps_end place free within all is_over at over said upper cursor row = record {
    more = [];
    gave = same_gave;
    pumped = λ lists had.
        let end : List HalfRun = telling p.upper ∷ [] in
        record {
          fed = had.fed;
          left = ap (λ (n : ℕ). feeds_in 0 had.fed ++ map RunFeed (drop n held)) at ∙ had.left ∙ nothing_more lists;
          told = had.told ∙ sym upper;
          all = λ is. gone held q.at (omega (arith, at, all));
          fans = subst (λ (h : Cursor). Fans sents q.row h (had.fed ++ end_if (telling q.upper) q.said)) (sym cursor)
              (subst (λ (u : ℕ). Fans sents q.row p.cursor (had.fed ++ end_if (telling u) q.said)) (sym upper)
              (subst (λ (b : Bool). Fans sents q.row p.cursor (had.fed ++ end_if (telling p.upper) b)) (sym said)
              (subst (λ (l : List HalfRun). Fans sents l p.cursor (had.fed ++ end)) (sym row)
              (fans_append had.fans end (had.fed ++ end) within free.first (ap (λ (l : List HalfRun). l ++ end) (sym (untold had.fed p.upper p.said free.said)))))));
        };
    in_place = record { at = omega (arith, at, place.at); said = λ is. over ∙ is_over };
    origin = refl;
    over = λ is. (over ∙ is, refl);
    at_end = λ still is. absurd (not_true still (sym over ∙ is));
  }

  -- the feed was asked for more
  pub pumps_ask : (new : A) (more : Bool) → IsFree p → length held ≤ p.at → p.over ≡ false → TellsMore more (f.at_end new) (f.held new) → GivesRuns more (f.gave feed) (f.gave new) (f.held new) → f.origin new ≡ f.origin feed
      → q.at ≡ 0 → q.over ≡ not more → q.said ≡ p.said → q.upper ≡ p.upper → q.cursor ≡ p.cursor → q.row ≡ p.row → Pumps f feed new p q sents sents
  pumps_ask new more free all going tells gives origin at over said upper cursor row = record {
    more = given_now more (f.held new);
    gave = gives.gave;
    pumped = λ lists had. record {
      fed = had.fed;
      left =
          ap (λ (n : ℕ). feeds_in 0 had.fed ++ map RunFeed (drop n (f.held new))) at
          ∙ ap (λ (l : List Feed). l ++ map RunFeed (f.held new)) (sym (append-nil (feeds_in 0 had.fed)) ∙ ap (λ (l : List Run). feeds_in 0 had.fed ++ map RunFeed l) (sym (gone held p.at all)) ∙ had.left)
          ∙ sym (map-append RunFeed (together lists) (f.held new)) ∙ ap (λ (l : List Run). map RunFeed (together lists ++ l)) (sym (given_is more (f.at_end new) (f.held new) tells)) ∙ ap (map RunFeed) (sym (together-append lists (given_now more (f.held new))));
      told = had.told ∙ sym upper;
      all = λ is. absurd (not_true (said ∙ free.said) is);
      fans = subst (λ (h : Cursor). Fans sents q.row h (had.fed ++ end_if (telling q.upper) q.said)) (sym cursor)
          (subst (λ (l : List HalfRun). Fans sents l p.cursor (had.fed ++ end_if (telling q.upper) q.said)) (sym row)
          (subst (λ (u : ℕ). Fans sents p.row p.cursor (had.fed ++ end_if (telling u) q.said)) (sym upper)
          (subst (λ (b : Bool). Fans sents p.row p.cursor (had.fed ++ end_if (telling p.upper) b)) (sym said) had.fans)));
    };
    in_place = record { at = omega (arith, at); said = λ is. absurd (not_true (said ∙ free.said) is) };
    origin = origin;
    over = λ is. absurd (not_true going is);
    at_end = λ still is. at_end_is more (f.at_end new) (f.held new) tells (sym over ∙ is);
  }

  -- nothing was at hand
  pub pumps_stay : (new : A) → IsFree p → length held ≤ p.at → p.over ≡ false → ((earlier : List (List Run)) → f.gave feed earlier → f.gave new earlier) → f.origin new ≡ f.origin feed → f.at_end new ≡ f.at_end feed
      → q.at ≡ length (f.held new) → q.over ≡ p.over → q.said ≡ p.said → q.upper ≡ p.upper → q.cursor ≡ p.cursor → q.row ≡ p.row → Pumps f feed new p q sents sents
  pumps_stay new free all going stays origin same_end at over said upper cursor row = record {
    more = [];
    gave = λ earlier had. subst (f.gave new) (sym (append-nil earlier)) (stays earlier had);
    pumped = λ lists had. record {
      fed = had.fed;
      left =
          ap (λ (l : List Run). feeds_in 0 had.fed ++ map RunFeed l) (gone (f.held new) q.at (omega (arith, at)) ∙ sym (gone held p.at all)) ∙ had.left ∙ nothing_more lists;
      told = had.told ∙ sym upper;
      all = λ is. absurd (not_true (said ∙ free.said) is);
      fans = subst (λ (h : Cursor). Fans sents q.row h (had.fed ++ end_if (telling q.upper) q.said)) (sym cursor)
          (subst (λ (l : List HalfRun). Fans sents l p.cursor (had.fed ++ end_if (telling q.upper) q.said)) (sym row)
          (subst (λ (u : ℕ). Fans sents p.row p.cursor (had.fed ++ end_if (telling u) q.said)) (sym upper)
          (subst (λ (b : Bool). Fans sents p.row p.cursor (had.fed ++ end_if (telling p.upper) b)) (sym said) had.fans)));
    };
    in_place = record { at = omega (arith, at); said = λ is. absurd (not_true (said ∙ free.said) is) };
    origin = origin;
    over = λ is. absurd (not_true going is);
    at_end = λ still is. absurd (not_true still (sym over ∙ is));
  }

  -- nothing was done
  pub pumps_none : InPlace held p → q ≡ p → Pumps f feed feed p q sents sents
  pumps_none place same = pumps_hand sents place (ap (λ (x : Pump). x.at) same) (ap (λ (x : Pump). x.over) same) (ap (λ (x : Pump). x.said) same) (ap (λ (x : Pump). x.upper) same) (λ all fans. subst (λ (x : Pump). Fans sents x.row x.cursor all) (sym same) fans)

-- it has ended, where no more is asked for
ended_then : (o1 o2 e1 e2 : Bool) → (o1 ≡ true → e1 ≡ true) → (o1 ≡ true → (o2 ≡ true) × (e2 ≡ e1)) → (o1 ≡ false → o2 ≡ true → e2 ≡ true) → o2 ≡ true → e2 ≡ true
ended_then true o2 e1 e2 had keeps asks is = (keeps refl).1 ∙ had refl
ended_then false o2 e1 e2 had keeps asks is = asks refl is

-- one step behind others
pumps_both : {A O : Type 0} (f : FeedGhosts A O) {a b c : A} {p q r : Pump} {s0 s1 s2 : List (List HalfRun)} → Pumps f a b p q s0 s1 → Pumps f b c q r s1 s2 → Pumps f a c p r s0 s2
pumps_both f {a} {b} {c} {p} {q} {r} {s2 = s2} x y = record {
  more = x.more ++ y.more;
  gave = λ earlier had. subst (f.gave c) (append_assoc earlier x.more y.more) (y.gave (earlier ++ x.more) (x.gave earlier had));
  pumped = λ lists had. subst (λ (l : List (List Run)). Pumped l (f.held c) r s2) (append_assoc lists x.more y.more) (y.pumped (lists ++ x.more) (x.pumped lists had));
  in_place = y.in_place;
  origin = y.origin ∙ x.origin;
  over = λ is. let o = x.over is in let n = y.over o.0 in (n.0, n.1 ∙ o.1);
  at_end = λ still. ended_then q.over r.over (f.at_end b) (f.at_end c) (x.at_end still) (λ is. let n = y.over is in (n.0, ap f.at_end n.1)) y.at_end;
}

pub pumps_then : {A O : Type 0} (f : FeedGhosts A O) {a b c : A} {p q r : Pump} {s0 s1 s2 : List (List HalfRun)} → PumpsOn f a b p q s0 s1 → PumpsOn f b c q r s1 s2 → PumpsOn f a c p r s0 s2
pumps_then f x y place = let first = x place in pumps_both f first (y first.in_place)

-- a pump that is over has told the end, and handed out all of its row
pub sent_all : (pump : Pump) → is_sent pump ≡ true → (pump.said ≡ true) × (pump.row ≡ []) × (pump.cursor.child ≡ 0)
sent_all pump is = by pump.said (nat_eq (length pump.row) 0) (nat_eq pump.cursor.child 0) refl refl refl is
  where
    none : (l : List HalfRun) → nat_eq (length l) 0 ≡ true → l ≡ []
    none [] e = refl
    none (x ∷ l) e = absurd (contra e)
      where
        contra : nat_eq (length (x ∷ l)) 0 ≡ true → ⊥
        contra e = let differ : length (x ∷ l) ≡ 0 = grind (arith, nat_tests, e) in omega (arith, differ)

    zero_is : (n : ℕ) → nat_eq n 0 ≡ true → n ≡ 0
    zero_is n e = let same : n ≡ 0 = grind (arith, nat_tests, e) in same

    by : (a b c : Bool) → a ≡ pump.said → b ≡ nat_eq (length pump.row) 0 → c ≡ nat_eq pump.cursor.child 0 → (a && b && c) ≡ true → (pump.said ≡ true) × (pump.row ≡ []) × (pump.cursor.child ≡ 0)
    by true true true x y z all = (sym x, none pump.row (sym y), zero_is pump.cursor.child (sym z))
    by true true false x y z all = absurd (not_true refl all)
    by true false true x y z all = absurd (not_true refl all)
    by true false false x y z all = absurd (not_true refl all)
    by false true true x y z all = absurd (not_true refl all)
    by false true false x y z all = absurd (not_true refl all)
    by false false true x y z all = absurd (not_true refl all)
    by false false false x y z all = absurd (not_true refl all)
