-- A feed that gives at most so many samples, one call more.
use Rattle.std.proofs.Common.{◌≡◌, ◌≤◌, ◌<◌, ◌+◌, ◌-◌, ◌^◌, ℕ, Bool, true, false, List, [], ◌∷◌, ◌++◌, length, length-append, append_assoc, replicate, take, drop, get_or, Option, refl, sym, ◌∙◌, ap, subst, arith}
use Rattle.std.proofs.Math.Path.{transport}
use Rattle.std.proofs.lemmas.List.{append-nil, get_or_default, length-replicate, take-append-le, take-replicate}
use Rattle.la_base.proofs.RunLemmas.{count_more, samples_append, samples_len, samples_more, samples_parts}
use Rattle.la_base.specs.Samples.{samples}
use Rattle.la_base.specs.Runs.{samples_of}
use Rattle.la_base.specs.declared.samples.Run.{Run}
use Rattle.tree_io.specs.Feeds.{GivesRuns, together}
use Rattle.la_io.proofs.Bytes.{take_past}
use Rattle.tree_io.proofs.Together.{together-last}
use Rattle.capture_any.specs.Reading.{is_open_of}
use Rattle.decode_job.specs.Feeding.{GaveRuns}
use Rattle.decode_job.specs.UpTo.{GaveOf, GaveUpTo, count_of, has_ended, inner_of, is_past, most_of}
use Rattle.decode_job.specs.declared.capture_feed.CaptureFeed.{CaptureFeed}
use Rattle.decode_job.specs.declared.up_to.UpTo.{UpTo}

samples_are : (run : Run) → samples run ≡ replicate run.len run.value
unfolding samples
samples_are run = refl

-- runs that are cut at a place have the first samples
pub record CutAt (runs held : List Run) (most : ℕ) : Type 0 where
  pub more : most < length (samples_of runs)
  pub first : samples_of held ≡ take most (samples_of runs)
  pub many : length (samples_of held) ≡ most

pub cut_at : (runs held : List Run) (place left most : ℕ) (d : Run) → place < length runs → length (samples_of (take place runs)) + left ≡ most → left < (get_or runs place d).len → samples_of held ≡ samples_of (take place runs) ++ replicate left (get_or runs place d).value → CutAt runs held most
cut_at runs held place left most d within fits less is = record {
  more = omega (arith, counts, len_all, fits, less);
  first = is ∙ (ap (λ (l : List ℕ). samples_of (take place runs) ++ l) (sym front)
      ∙ (sym (take_past (samples_of (take place runs)) behind left) ∙ ((λ i. take (fits i) (samples_of (take place runs) ++ behind)) ∙ ap (take most) (sym all))));
  many = ap length is ∙ (length-append (samples_of (take place runs)) (replicate left run.value) ∙ (ap (λ (n : ℕ). length (samples_of (take place runs)) + n) (length-replicate left run.value) ∙ fits));
}
  where
    run : Run
    run = get_or runs place d

    at : run ≡ get_or runs place run
    at = get_or_default runs place d run within

    rest : List ℕ
    rest = samples_of (drop (place + 1) runs)

    behind : List ℕ
    behind = samples run ++ rest

    all : samples_of runs ≡ samples_of (take place runs) ++ behind
    all = samples_parts runs (place + 1) ∙ (ap (λ (l : List ℕ). l ++ rest) (samples_more runs place run within at) ∙ append_assoc (samples_of (take place runs)) (samples run) rest)

    counts : length (samples_of (take (place + 1) runs)) ≡ length (samples_of (take place runs)) + run.len
    counts = count_more runs place run within at

    len_all : length (samples_of runs) ≡ length (samples_of (take (place + 1) runs)) + length rest
    len_all = ap length (samples_parts runs (place + 1)) ∙ length-append (samples_of (take (place + 1) runs)) rest

    shorter : left ≤ length (samples run)
    shorter = omega (arith, less, samples_len run)

    front : take left behind ≡ replicate left run.value
    front = take-append-le left (samples run) rest shorter ∙ (ap (take left) (samples_are run) ∙ take-replicate left run.len run.value (omega (arith, less)))

-- no more samples than are numbered
pub limit_few : {S : Type 0} (left : S → Option (List ℕ)) (faults : S → ℕ) (feed : UpTo S) (runs : List Run) → GaveUpTo left faults feed runs → length (samples_of runs) ≤ 2 ^ 60
limit_few left faults feed runs gave = let count = gave.count in let few = gave.few in let within = gave.within in omega (arith, count, few, within)

-- what a feed gave doesn't tell of the runs that it holds
pub other_runs : {S : Type 0} (left : S → Option (List ℕ)) (faults : S → ℕ) (feed : CaptureFeed S) (held runs : List Run) → GaveRuns left faults feed runs → GaveRuns left faults (record feed { runs = held }) runs
other_runs left faults feed held runs gave = record {
  same_source = gave.same_source;
  form = gave.form;
  pins = gave.pins;
  count = gave.count;
  few = gave.few;
  given = gave.given;
  cause = gave.cause;
}

module _ {S : Type 0} (left : S → Option (List ℕ)) (faults : S → ℕ) (old new : UpTo S) (before : List Run) (gave : GaveUpTo left faults old before) where
  abbrev Of : Bool → Bool → UpTo S → List ℕ → List ℕ → Type 0
  Of past is_open feed all samples = GaveOf past (most_of feed) is_open all samples

  -- all runs were given so far
  same_so_far : is_past old ≡ false → samples_of before ≡ samples_of gave.all
  same_so_far not = subst (λ (b : Bool). GaveOf b (most_of old) (is_open_of (inner_of old).capture.now) (samples_of gave.all) (samples_of before)) not gave.samples

  -- there were more samples already
  pub limit_stays : is_past old ≡ true → is_past new ≡ true → most_of new ≡ most_of old → is_open_of (inner_of new).capture.now ≡ is_open_of (inner_of old).capture.now → GaveRuns left faults (inner_of new) gave.all → count_of new ≡ count_of old → GaveUpTo left faults new before
  limit_stays past still most same its count = record {
    few = subst (λ (n : ℕ). n ≤ 2 ^ 59) (sym most) gave.few;
    within = (let w = gave.within in omega (arith, most, count, w));
    all = gave.all;
    gave = its;
    count = count ∙ gave.count;
    samples = transport (λ i. GaveOf (both i) (sym most i) (sym same i) (samples_of gave.all) (samples_of before)) gave.samples;
    at_end = λ ended not_past. absurd (never not_past);
  }
    where
      both : is_past old ≡ is_past new
      both = past ∙ sym still

      never : is_past new ≡ false → ⊥
      never not_past = let clash : true ≡ false = sym still ∙ not_past in cc

  -- there is nothing more
  pub limit_ends : is_past old ≡ false → is_past new ≡ false → most_of new ≡ most_of old → GaveRuns left faults (inner_of new) gave.all → count_of new ≡ count_of old → is_open_of (inner_of new).capture.now ≡ false → GaveUpTo left faults new before
  limit_ends not still most its count closed = record {
    few = subst (λ (n : ℕ). n ≤ 2 ^ 59) (sym most) gave.few;
    within = (let w = gave.within in omega (arith, most, count, w));
    all = gave.all;
    gave = its;
    count = count ∙ gave.count;
    samples = subst (λ (b : Bool). GaveOf b (most_of new) (is_open_of (inner_of new).capture.now) (samples_of gave.all) (samples_of before)) (sym still) (same_so_far not);
    at_end = λ ended past. closed;
  }

  -- all runs that came were given
  module _ (runs : List Run) (its : GaveRuns left faults (inner_of new) (gave.all ++ runs)) (not : is_past old ≡ false) (going : has_ended new ≡ false) (most : most_of new ≡ most_of old) where
    still_going : has_ended new ≡ true → ⊥
    still_going ended = let both : true ≡ false = sym ended ∙ going in cc

    pub limit_on : is_past new ≡ false → count_of new ≡ count_of old + length (samples_of runs) → count_of new ≤ most_of old → GaveUpTo left faults new (before ++ runs)
    limit_on still count fits =
        let joined : samples_of (before ++ runs) ≡ samples_of before ++ samples_of runs = samples_append before runs in
        let same : samples_of (before ++ runs) ≡ samples_of (gave.all ++ runs) = joined ∙ (ap (λ (l : List ℕ). l ++ samples_of runs) (same_so_far not) ∙ sym (samples_append gave.all runs)) in
        let had = gave.count in
        let len : length (samples_of (before ++ runs)) ≡ length (samples_of before) + length (samples_of runs) = ap length joined ∙ length-append (samples_of before) (samples_of runs) in
        record {
          few = subst (λ (n : ℕ). n ≤ 2 ^ 59) (sym most) gave.few;
          within = omega (arith, most, fits);
          all = gave.all ++ runs;
          gave = its;
          count = omega (arith, count, had, len);
          samples = subst (λ (b : Bool). GaveOf b (most_of new) (is_open_of (inner_of new).capture.now) (samples_of (gave.all ++ runs)) (samples_of (before ++ runs))) (sym still) same;
          at_end = λ ended past. absurd (still_going ended);
        }

    -- there were more than may be given: the first ones were
    pub limit_cut : (held : List Run) → is_past new ≡ true → is_open_of (inner_of new).capture.now ≡ true → count_of new ≡ most_of old
        → most_of old - count_of old < length (samples_of runs) → samples_of held ≡ take (most_of old - count_of old) (samples_of runs) → length (samples_of held) ≡ most_of old - count_of old → GaveUpTo left faults new (before ++ held)
    limit_cut held past is_open full more first many =
        let had = gave.count in
        let within = gave.within in
        let so_far = same_so_far not in
        let same_len : length (samples_of before) ≡ length (samples_of gave.all) = ap length so_far in
        let is : length (samples_of gave.all) + (most_of old - count_of old) ≡ most_of new = omega (arith, had, same_len, within, most) in
        let joined : samples_of (before ++ held) ≡ samples_of before ++ samples_of held = samples_append before held in
        let len : length (samples_of (before ++ held)) ≡ length (samples_of before) + length (samples_of held) = ap length joined ∙ length-append (samples_of before) (samples_of held) in
        let all : samples_of (gave.all ++ runs) ≡ samples_of gave.all ++ samples_of runs = samples_append gave.all runs in
        let all_len : length (samples_of (gave.all ++ runs)) ≡ length (samples_of gave.all) + length (samples_of runs) = ap length all ∙ length-append (samples_of gave.all) (samples_of runs) in
        let cut : samples_of (before ++ held) ≡ take (most_of new) (samples_of (gave.all ++ runs)) =
        joined ∙ ((λ i. so_far i ++ first i) ∙ (sym (take_past (samples_of gave.all) (samples_of runs) (most_of old - count_of old)) ∙ (λ i. take (is i) (sym all i)))) in
        record {
          few = subst (λ (n : ℕ). n ≤ 2 ^ 59) (sym most) gave.few;
          within = omega (arith, most, full);
          all = gave.all ++ runs;
          gave = its;
          count = omega (arith, full, many, had, len, within);
          samples = subst (λ (b : Bool). GaveOf b (most_of new) (is_open_of (inner_of new).capture.now) (samples_of (gave.all ++ runs)) (samples_of (before ++ held))) (sym past) (is_open, omega (arith, all_len, is, more), cut);
          at_end = λ ended not_past. absurd (still_going ended);
        }

-- one call more of the feed behind it, flat
pub given_on : {S : Type 0} (left : S → Option (List ℕ)) (faults : S → ℕ) (old new : CaptureFeed S) (all runs : List Run) (result : Bool) → result ≡ true
    → GivesRuns result (λ lists. GaveRuns left faults old (together lists)) (λ lists. GaveRuns left faults new (together lists)) runs → GaveRuns left faults old all → GaveRuns left faults new (all ++ runs)
given_on left faults old new all runs result more gives had =
    let g : GivesRuns true (λ lists. GaveRuns left faults old (together lists)) (λ lists. GaveRuns left faults new (together lists)) runs =
    subst (λ (b : Bool). GivesRuns b (λ lists. GaveRuns left faults old (together lists)) (λ lists. GaveRuns left faults new (together lists)) runs) more gives in
    subst (GaveRuns left faults new) (together-last (all ∷ []) runs ∙ ap (λ (l : List Run). l ++ runs) (append-nil all)) (g.gave (all ∷ []) (subst (GaveRuns left faults old) (sym (append-nil all)) had))
