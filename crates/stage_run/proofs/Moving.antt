-- Several moves of one kind, and moves behind moves.
use Rattle.std.proofs.Common.{◌≡◌, ℕ, true, false, List, [], ◌∷◌, ◌++◌, map, refl, sym, ◌∙◌, append_assoc}
use Rattle.std.proofs.lemmas.List.{append-nil}
use Rattle.std.proofs.lemmas.List.Elements.{All-cons, All-nil}
use Rattle.la_base.specs.declared.wires.Feed.{Feed}
use Rattle.la_base.specs.declared.wires.Mark.{Mark}
use Rattle.la_base.specs.declared.wires.Out.{Out}
use Rattle.decoder_core.specs.Inputs.{Item}
use Rattle.stack_laws.specs.Moves.{GiveTo, MayMoveAll, Move, TakeIn, TellOut, View, moved, moved_all}
use Rattle.stage_run.specs.Sendings.{MayGiveAll, MaySendAll, gives_all, sends_all}
use Rattle.stage_run.specs.Stages.{AreOf, Kind, kind_of}

pub kinds_all : {X : Type 0} (f : X → Move) (kind : Kind) → ((x : X) → kind_of (f x) ≡ kind) → (xs : List X) → AreOf kind (map f xs)
kinds_all f kind is [] = All-nil (λ move. kind_of move ≡ kind)
kinds_all f kind is (x ∷ xs) = All-cons (λ move. kind_of move ≡ kind) (f x) (map f xs) (is x) (kinds_all f kind is xs)

module _ (whole : List Item → List Out) (near : List Item → ℕ) where
  pub took_all : (feeds : List Feed) (view : View) → view.closed ≡ false → view.told ≡ true → MayMoveAll whole near (map TakeIn feeds) view × (moved_all (map TakeIn feeds) view ≡ record view { received = view.received ++ feeds })
  took_all [] view going told = (tt, λ i. record view { received = sym (append-nil view.received) i })
  took_all (x ∷ xs) view going told =
      let on = took_all xs (moved (TakeIn x) view) going told in
      (((going, told), on.0), on.1 ∙ (λ i. record view { received = append_assoc view.received (x ∷ []) xs i }))

  pub told_all : (marks : List Mark) (view : View) → MaySendAll marks view.marks → MayMoveAll whole near (map TellOut marks) view × (moved_all (map TellOut marks) view ≡ record view { marks = sends_all marks view.marks })
  told_all [] view may = (tt, refl)
  told_all (x ∷ xs) view may = let on = told_all xs (moved (TellOut x) view) may.1 in ((may.0, on.0), on.1)

  pub given_all : (place : ℕ) (feeds : List Feed) (view : View) → MayGiveAll place feeds view.children
      → MayMoveAll whole near (map (GiveTo place) feeds) view × (moved_all (map (GiveTo place) feeds) view ≡ record view { children = gives_all place feeds view.children })
  given_all place [] view may = (tt, refl)
  given_all place (x ∷ xs) view may = let on = given_all place xs (moved (GiveTo place x) view) may.1 in ((may.0, on.0), on.1)

  pub may-append : (xs ys : List Move) (view : View) → MayMoveAll whole near xs view → MayMoveAll whole near ys (moved_all xs view) → MayMoveAll whole near (xs ++ ys) view
  may-append [] ys view first rest = rest
  may-append (x ∷ xs) ys view first rest = (first.0, may-append xs ys (moved x view) first.1 rest)

pub moved-append : (xs ys : List Move) (view : View) → moved_all (xs ++ ys) view ≡ moved_all ys (moved_all xs view)
moved-append [] ys view = refl
moved-append (x ∷ xs) ys view = moved-append xs ys (moved x view)
