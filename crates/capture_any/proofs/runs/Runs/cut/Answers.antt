use Rattle.std.proofs.Common.{◌≡◌, ◌++◌, List, ℕ, [], ◌∷◌, replicate, take, get_or, refl, sym, ◌∙◌, ap}
use Rattle.std.proofs.lemmas.List.{get_or_read}
use Rattle.la_base.specs.Samples.{samples}
use Rattle.la_base.specs.Runs.{samples_of}
use Rattle.la_base.specs.declared.samples.Run.{Run}
use Rattle.la_base.proofs.RunLemmas.{samples_push}
use Rattle.capture_any.proofs.runs.Runs.cut.Goals as goal

samples_are : (run : Run) → samples run ≡ replicate run.len run.value
unfolding samples
samples_are run = refl

pushed : (kept new front : List Run) (run : Run) → new ≡ kept ++ run ∷ [] → kept ≡ front → (value : ℕ) → run.value ≡ value → samples_of new ≡ samples_of front ++ replicate run.len value
pushed kept new front run is same value v =
    ap samples_of is ∙ (samples_push kept run ∙ ((λ i. samples_of (same i) ++ samples_are run i) ∙ ap (λ (w : ℕ). samples_of front ++ replicate run.len w) v))

pub returns-then-left-gt0 : goal.returns-then-left-gt0
returns-then-left-gt0 c = λ d.
    let old = c.args.self.now in
    let run = c.index-list-place.result in
    let same = c.list.ensures in
    let at : run ≡ get_or old c.args.place run = c.index-list-place.is ∙ ap (λ (l : List Run). get_or l c.args.place run) same in
    let value = ap (λ (r : Run). r.value) (get_or_read old c.args.place run c.requires at d) in
    pushed c.keep.new.self c.push.new.self (take c.args.place old) _ c.push.ensures c.keep.ensures.kept (get_or old c.args.place d).value (ap (λ (r : Run). r.value) (sym c.index-list-place.is) ∙ value)
