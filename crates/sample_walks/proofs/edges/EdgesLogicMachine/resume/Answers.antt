use Rattle.std.proofs.Common.{◌∙◌, ◌++◌, ◌∷◌, [], ℕ, ap, refl}
use Rattle.decoder_core.specs.Outputs.{note_at}
use Rattle.sample_walks.specs.laws.EdgeLaws.{edges}
use Rattle.sample_walks.specs.laws.EventDecoders.{loud_of, holds_of}
use Rattle.sample_walks.proofs.edges.EdgesLogicMachine.resume.Goals as goal

pub returns-clause-stands : goal.returns-clause-stands
returns-clause-stands c = λ seen more ends stop. (holds_of edges tt seen more (ends, refl) c.args.at c.args.value c.args._met stop tt refl).0

pub returns-clause-loud : goal.returns-clause-loud
returns-clause-loud c = λ seen more ends stop.
    let note = c.note_at.ensures ∙ ap (λ (n : ℕ). note_at 0 c.args.at n) c.level.ensures in
    loud_of edges tt seen more (ends, refl) c.args.at c.args.value c.args._met stop c.args.into.now _ (c.push.ensures ∙ (λ i. c.args.into.now ++ note i ∷ []))
