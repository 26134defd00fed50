-- A decoder of samples on its walk over many stops: over samples that have none, and up to one.
use Rattle.std.proofs.Common.{◌≡◌, ℕ, ◌+◌, ◌-◌, ◌≤◌, ◌<◌, List, [], ◌++◌, length, replicate, slice_index, refl, sym, ◌∙◌, ap, subst, arith, append_assoc, length-append}
use Rattle.std.proofs.lemmas.List.{append-nil, replicate-append-replicate}
use Rattle.la_base.specs.Samples.{samples}
use Rattle.la_base.specs.declared.samples.Run.{Run}
use Rattle.la_base.specs.declared.wires.Out.{Out}
use Rattle.la_base.proofs.RunLemmas.{samples_len}
use Rattle.wait_cond.specs.Stops.{IsStop, NoneMet}
use Rattle.wait_cond.specs.Walks.{StopsBehind, Walks, walk_from, walked}
use Rattle.wait_cond.specs.declared.alt.Alt.{Alt}
use Rattle.wait_cond.specs.declared.walk.Walk.{Walk}
use Rattle.wait_cond.proofs.Runs.{now_is}
use Rattle.decoder_core.specs.Promises.{IsLoud, IsQuiet, StandsThere}
use Rattle.decoder_core.specs.Treading.{OnWalk}
use Rattle.decoder_core.specs.Striding.{Awaits, PassesOver, Strides, Timed}
use Rattle.decoder_core.proofs.Counting.{samples_are}
use Rattle.decoder_core.proofs.Treading.{tread_anew, tread_pass}

-- more samples of one value
pub further : (run : Run) (value k n : ℕ) → run.value ≡ value → k + run.len ≡ n → replicate k value ++ samples run ≡ replicate n value
further run value k n same count =
    ap (λ (l : List ℕ). replicate k value ++ l) (samples_are run ∙ ap (λ (v : ℕ). replicate run.len v) same)
    ∙ replicate-append-replicate k run.len value ∙ ap (λ (i : ℕ). replicate i value) count

-- what is waited for behind a run that ends before the stop
pub timed_pass : (alts : List Alt) (walk next : Walk) (left len : ℕ) → Timed alts walk left → 0 < len → len ≤ left → walked next ≡ walked walk + len → walk_from next ≡ walk_from walk → Timed alts next (left - len)
timed_pass alts walk next left len t some short count from = record {
  skip = t.skip;
  timer = t.timer;
  left_is = omega (arith, t.left_is, some, short, count, from, walk.few, next.few);
}

pub awaits_pass : (alts : List Alt) (walk next : Walk) (falls left len : ℕ) → Awaits alts walk falls left → 0 < len → len ≤ left → walked next ≡ walked walk + len → walk_from next ≡ walk_from walk → Awaits alts next falls (left - len)
awaits_pass alts walk next falls left len a some short count from = record {
  timed = λ none. timed_pass alts walk next left len (a.timed none) some short count from;
  falling = a.falling;
}

-- a run in two parts
pub parts : (run : Run) (rest : ℕ) → rest < run.len → samples run ≡ replicate (run.len - rest) run.value ++ replicate rest run.value
parts run rest within =
    let total : run.len - rest + rest ≡ run.len = omega (arith, within) in
    samples_are run ∙ ap (λ (n : ℕ). replicate n run.value) (sym total) ∙ sym (replicate-append-replicate (run.len - rest) rest run.value)

module _ {L S : Type 0} (setup : L → S) (outs : S → List ℕ → List Out) (stands : L → List ℕ → Type 0) (alts : L → List Alt)
    (quiet : (machine : L) → IsQuiet (outs (setup machine)) (stands machine) (alts machine)) (s : S) (old machine : L) (walk_old walk next : Walk) (given earlier : List Out) (before after : List ℕ) (run : Run) (left : ℕ)
    (strides : Strides (outs s) stands alts old machine walk_old walk given earlier before) (same : setup machine ≡ s) (behind : StopsBehind (alts machine) walk run.value left) (longer : before ++ samples run ≡ after) where
  whole : (all : List ℕ) → (all ++ before) ++ samples run ≡ all ++ after
  whole all = append_assoc all before (samples run) ∙ ap (λ (l : List ℕ). all ++ l) longer

  -- a run before the next stop
  pub stride_pass : run.len ≤ left → ((asked : List Alt) (list : List ℕ) → Walks asked walk list → NoneMet (list ++ samples run) asked (walk_from walk) (length list + run.len) → Walks asked next (list ++ samples run))
      → walk_from next ≡ walk_from walk → Strides (outs s) stands alts old machine walk_old next given earlier after
  stride_pass short waits from list all on =
      let here = all ++ before in
      let o = strides list all on in
      subst (λ (l : List ℕ). OnWalk (outs s) stands (alts machine) machine next list l earlier) (whole all)
      (tread_pass setup outs stands alts quiet machine walk next list here (samples run) earlier s (alts machine) same refl o
      (waits (alts machine) here o.waits (behind.none here run o.waits refl short)) from)

  -- a run whose last sample is the next stop
  pub stride_stop : (new : L) (into : List Out) (at value : ℕ) → run.value ≡ value → at ≡ walked walk + left → run.len ≡ left + 1 → left < walk.room → StandsThere (stands machine) (stands new) (alts machine) at value 1
      → IsLoud (outs (setup machine)) (stands machine) (alts machine) at value 1 earlier into → ((asked now : List Alt) (list : List ℕ) → Walks asked walk list → Walks now next (list ++ samples run))
      → walk_from next ≡ walked walk + run.len → Strides (outs s) stands alts old new walk_old next given into after
  stride_stop new into at value value_same at_is long room there loud waits from list all on =
      let here = all ++ before in
      let o = strides list all on in
      let place : length here + left ≡ at = omega (arith, o.waits.count, at_is) in
      let last : at + 1 ≡ length (here ++ samples run) = omega (arith, place, long, length-append here (samples run), samples_len run) in
      let value_is : value ≡ slice_index (here ++ samples run) at = sym value_same ∙ sym (now_is here (samples run) run.value run.len (samples_are run) left (omega (arith, long)))
      ∙ ap (λ (q : ℕ). slice_index (here ++ samples run) q) place in
      subst (λ (l : List ℕ). OnWalk (outs s) stands (alts new) new next list l into) (whole all)
      (tread_anew setup outs stands alts quiet machine walk next list here (samples run) earlier new at value 1 into there loud value_is s same last o
      (subst (λ (q : ℕ). IsStop (here ++ samples run) (alts machine) (walk_from walk) q 1) place (behind.stop here run o.waits refl long room))
      (waits (alts machine) (alts new) here o.waits) (omega (arith, from, at_is, long)))

module _ {L : Type 0} (outs : List ℕ → List Out) (stands : L → List ℕ → Type 0) (alts : L → List Alt) where
  -- nothing yet
  pub strides_begin : (machine : L) (walk : Walk) (given : List Out) → Strides outs stands alts machine machine walk walk given given []
  strides_begin machine walk given list all on = subst (λ (l : List ℕ). OnWalk outs stands (alts machine) machine walk list l given) (sym (append-nil all)) on

  -- one behind another
  pub strides_then : (old middle new : L) (walk_old walk next : Walk) (given earlier into : List Out) (before more : List ℕ) → Strides outs stands alts old middle walk_old walk given earlier before
      → Strides outs stands alts middle new walk next earlier into more → Strides outs stands alts old new walk_old next given into (before ++ more)
  strides_then old middle new walk_old walk next given earlier into before more first then list all on =
      subst (λ (l : List ℕ). OnWalk outs stands (alts new) new next list l into) (append_assoc all before more) (then list (all ++ before) (first list all on))

  -- a walk that has passed nothing yet
  pub passes_begin : (machine : L) (walk : Walk) (before : List ℕ) → PassesOver outs stands alts machine walk walk before before
  passes_begin machine walk before = record {
    more = [];
    split = sym (append-nil before);
    strides = λ given. strides_begin machine walk given;
  }

  -- and one that passes samples after its strides
  pub strides_pass : (old machine : L) (walk_old walk next : Walk) (given earlier : List Out) (before after : List ℕ) → Strides outs stands alts old machine walk_old walk given earlier before
      → PassesOver outs stands alts machine walk next before after → Strides outs stands alts old machine walk_old next given earlier after
  strides_pass old machine walk_old walk next given earlier before after first p =
      subst (λ (l : List ℕ). Strides outs stands alts old machine walk_old next given earlier l) (sym p.split)
      (strides_then old machine machine walk_old walk next given earlier earlier before p.more first (p.strides earlier))

-- a walk passes one more run that ends before the stop
pub passes_more : {L S : Type 0} (setup : L → S) (outs : S → List ℕ → List Out) (stands : L → List ℕ → Type 0) (alts : L → List Alt) (quiet : (machine : L) → IsQuiet (outs (setup machine)) (stands machine) (alts machine))
    (machine : L) (walk_old walk next : Walk) (before after longer : List ℕ) (run : Run) (left : ℕ) → PassesOver (outs (setup machine)) stands alts machine walk_old walk before after → StopsBehind (alts machine) walk run.value left → longer ≡ after ++ samples run → run.len ≤ left
    → ((asked : List Alt) (list : List ℕ) → Walks asked walk list → NoneMet (list ++ samples run) asked (walk_from walk) (length list + run.len) → Walks asked next (list ++ samples run))
    → walk_from next ≡ walk_from walk → PassesOver (outs (setup machine)) stands alts machine walk_old next before longer
passes_more setup outs stands alts quiet machine walk_old walk next before after longer run left p behind is short waits from = record {
  more = p.more ++ samples run;
  split = is ∙ ap (λ (l : List ℕ). l ++ samples run) p.split ∙ append_assoc before p.more (samples run);
  strides = λ given. stride_pass setup outs stands alts quiet (setup machine) machine machine walk_old walk next given given p.more (p.more ++ samples run) run left (p.strides given) refl behind refl short waits from;
}
