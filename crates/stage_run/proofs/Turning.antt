-- Moves of a stage behind moves.
use Rattle.std.proofs.Common.{◌≡◌, ℕ, ◌+◌, ◌≤◌, List, [], ◌∷◌, ◌++◌, length-append, refl, sym, ◌∙◌, subst, arith}
use Rattle.std.specs.List.{All}
use Rattle.std.proofs.lemmas.List.Elements.{All-cons, All-head, All-nil, All-tail}
use Rattle.tree_io.specs.Feeds.{together}
use Rattle.tree_io.proofs.Together.{together-last}
use Rattle.decoder_core.specs.declared.machine.Machine.{Ghosts as MachineGhosts}
use Rattle.decoder_core.specs.Inputs.{Item}
use Rattle.decoder_core.specs.Promises.{KeepsFront}
use Rattle.stack_laws.specs.Keeping.{Keeps, MovesKeep}
use Rattle.stack_laws.specs.Moves.{MayMoveAll, Move, View, moved_all}
use Rattle.stack_laws.specs.Rests.{near_behind, whole_behind}
use Rattle.stage_run.specs.Stages.{ActsOn, ActsOnce, KeepsOn, Goes, IsAct, Kind, Means, Moves, SameEnds, kind_of}
use Rattle.stage_run.specs.declared.stage.Stage.{Stage}
use Rattle.stage_run.proofs.Behind.{behind_prefix}
use Rattle.stage_run.proofs.Moving.{may-append, moved-append}

All-append : {X : Type 0} (P : X → Type 0) (xs ys : List X) → All P xs → All P ys → All P (xs ++ ys)
All-append P [] ys first rest = rest
All-append P (x ∷ xs) ys first rest = All-cons P x (xs ++ ys) (All-head P x xs first) (All-append P xs ys (All-tail P x xs first) rest)

module _ {M : Type 0} where
  pub same_none : (a : Stage M) → SameEnds a a
  same_none a = record { input = refl; over = refl; sent = record { children = refl; marks = refl }; closed = refl }

  pub same_then : (a b c : Stage M) → SameEnds a b → SameEnds b c → SameEnds a c
  same_then a b c one other = record {
    input = other.input ∙ one.input;
    over = other.over ∙ one.over;
    sent = record { children = other.sent.children ∙ one.sent.children; marks = other.sent.marks ∙ one.sent.marks };
    closed = other.closed ∙ one.closed;
  }

module _ {M S : Type 0} (m : MachineGhosts M S) where
  moves_then : (start : List Item) (a b c : Stage M) (view : View) (xs ys : List Move) → m.setup b.machine ≡ m.setup a.machine → Moves m start a b view xs → Moves m start b c (moved_all xs view) ys → Moves m start a c view (xs ++ ys)
  moves_then start a b c view xs ys setup one other = record {
    may = may-append (whole_behind (m.outputs (m.setup a.machine)) start) (near_behind (λ input. m.near (m.setup a.machine) input 0) start) xs ys view one.may
        (subst (λ s. MayMoveAll (whole_behind (m.outputs s) start) (near_behind (λ input. m.near s input 0) start) ys (moved_all xs view)) setup other.may);
    means = subst (Means m start c) (sym (moved-append xs ys view)) other.means;
  }

  pub goes_none : (kind : Kind) (a : Stage M) → Goes m kind 0 a a
  goes_none kind a = record { links = refl; setup = refl; moves = λ start view v. ([], omega arith, All-nil (λ move. kind_of move ≡ kind), record { may = tt; means = v }) }

  pub goes_then : (kind : Kind) (n k total : ℕ) (a b c : Stage M) → n + k ≤ total → Goes m kind n a b → Goes m kind k b c → Goes m kind total a c
  goes_then kind n k total a b c few one other = record {
    links = other.links ∙ one.links;
    setup = other.setup ∙ one.setup;
    moves = λ start view v.
        let x = one.moves start view v in
        let y = other.moves start (moved_all x.0 view) x.3.means in (
          x.0 ++ y.0,
          (let p = x.1 in let q = y.1 in omega (arith, few, p, q, length-append x.0 y.0)),
          All-append (λ move. kind_of move ≡ kind) x.0 y.0 x.2 y.2,
          moves_then start a b c view x.0 y.0 one.setup x.3 y.3,
        );
  }

  -- moves of one kind are an act
  pub goes_once : (kind : Kind) (n : ℕ) (a b : Stage M) → n ≤ 65 → Goes m kind n a b → ActsOnce m a b
  goes_once kind n a b few goes = record {
    links = goes.links;
    setup = goes.setup;
    act = λ start view v. let x = goes.moves start view v in (x.0, (kind, (let p = x.1 in omega (arith, few, p)), x.2), x.3);
  }

  pub acts_none : (a : Stage M) → ActsOn m 0 a a
  acts_none a = record { links = refl; setup = refl; acts = λ start view v. ([], omega arith, All-nil IsAct, record { may = tt; means = v }) }

  pub acts_then : (n total : ℕ) (a b c : Stage M) → n + 1 ≤ total → ActsOn m n a b → ActsOnce m b c → ActsOn m total a c
  acts_then n total a b c few one other = record {
    links = other.links ∙ one.links;
    setup = other.setup ∙ one.setup;
    acts = λ start view v.
        let x = one.acts start view v in
        let y = other.act start (moved_all (together x.0) view) x.3.means in
        let all : together (x.0 ++ y.0 ∷ []) ≡ together x.0 ++ y.0 = together-last x.0 y.0 in (
          x.0 ++ y.0 ∷ [],
          (let p = x.1 in omega (arith, few, p, length-append x.0 (y.0 ∷ []))),
          All-append IsAct x.0 (y.0 ∷ []) x.2 (All-cons IsAct y.0 [] y.1 (All-nil IsAct)),
          subst (Moves m start a c view) (sym all) (moves_then start a b c view (together x.0) y.0 one.setup x.3 y.2),
        );
  }

  pub acts_fewer : (n total : ℕ) (a b : Stage M) → n ≤ total → ActsOn m n a b → ActsOn m total a b
  acts_fewer n total a b few on = record { links = on.links; setup = on.setup; acts = λ start view v. let x = on.acts start view v in (x.0, (let p = x.1 in omega (arith, few, p)), x.2, x.3) }

  -- acts keep what a stage has
  pub keeps_on : MovesKeep → ((one : M) → KeepsFront (m.outputs (m.setup one))) → (n : ℕ) (a b : Stage M) → ActsOn m n a b → KeepsOn m a b
  keeps_on law prefix n a b on = λ start view v keeps.
      let x = on.acts start view v in
      let whole = whole_behind (m.outputs (m.setup a.machine)) start in
      let now = moved_all (together x.0) view in
      let kept = law whole (near_behind (λ input. m.near (m.setup a.machine) input 0) start) (behind_prefix (m.outputs (m.setup a.machine)) (prefix a.machine) start) (together x.0) view keeps x.3.may in
      (now, x.3.means, subst (λ s. Keeps (whole_behind (m.outputs s) start) (near_behind (λ input. m.near s input 0) start) now) (sym on.setup) kept)
