-- What single moves are, and what they make.
use Rattle.std.proofs.Common.{◌≡◌, List, [], ◌∷◌, ◌++◌, map, refl, ◌∙◌, ap}
use Rattle.std.proofs.lemmas.List.Elements.{All-cons, All-nil}
use Rattle.std.proofs.lemmas.List.{append-nil}
use Rattle.stack_laws.specs.Moves.{Move, Sending, makes}
use Rattle.stage_ring.specs.Link.{tx_link}
use Rattle.stage_run.specs.Boxes.{SameLinks, SameSent}
use Rattle.stage_run.specs.Inputs.{input_link, reads_samples}
use Rattle.stage_run.specs.Stages.{AreOf, kind_of, links_by}
use Rattle.stage_run.specs.declared.input.Input.{Input}
use Rattle.stage_run.specs.declared.outbox.Outbox.{Outbox}

-- one move is of its kind
pub one_of : (move : Move) → AreOf (kind_of move) (move ∷ [])
one_of move = All-cons (λ other. kind_of other ≡ kind_of move) move [] refl (All-nil (λ other. kind_of other ≡ kind_of move))

-- nothing more behind it
pub makes_outs : {T : Type 0} (xs none : List T) (m : Sending T) → none ≡ [] → makes (xs ++ none) m ≡ makes xs m
makes_outs xs none m is = ap (λ l. makes l m) (ap (λ l. xs ++ l) is ∙ append-nil xs)

-- the links of a stage whose ends are the same
pub links_kept : (input : Input) (old new : Outbox) → SameSent old new → links_by input new ≡ links_by input old
links_kept input old new same = λ i. record { input = input_link input; samples = reads_samples input; children = map tx_link (same.children i).items; marks = tx_link (same.marks i) }

pub links_given : (input : Input) (old new : Outbox) → SameLinks old new → links_by input new ≡ links_by input old
links_given input old new same = λ i. record { input = input_link input; samples = reads_samples input; children = same.children i; marks = same.marks i }

pub links_to : (old new : Input) (outbox : Outbox) → input_link new ≡ input_link old → reads_samples new ≡ reads_samples old → links_by new outbox ≡ links_by old outbox
links_to old new outbox link samples = λ i. record { input = link i; samples = samples i; children = map tx_link outbox.children.items; marks = tx_link outbox.marks }

-- nothing is made
pub made_none : {T : Type 0} (xs : List (Sending T)) → map (makes []) xs ≡ xs
made_none [] = refl
made_none (x ∷ xs) = λ i. record { made = append-nil x.made i; sent = x.sent } ∷ made_none xs i
