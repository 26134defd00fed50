-- What the driver sent and gathered.
use Rattle.std.proofs.Common.{◌≡◌, Bool, true, false, ◌||◌, List, [], ◌∷◌, ◌++◌, refl, sym, ◌∙◌, ap, subst, if◌then◌else◌}
use Rattle.std.proofs.lemmas.List.{append-nil}
use Rattle.la_base.specs.declared.wires.Mark.{Mark}
use Rattle.la_base.specs.declared.wires.Mark.TheVariants.{Note as NoteMark, Piece as PieceMark, Floor as FloorMark, End as EndMark}
use Rattle.tree_runs.specs.Reaching.{Reaches}
use Rattle.stack_laws.specs.Links.{EndsLast, IsFront, some}
use Rattle.stack_laws.specs.Feeds.{ends_marks}
use Rattle.stack_laws.proofs.Lists.{front_trans, some-append, some_front}
use Rattle.stage_crew.specs.Driving.{EndsWith}
use Rattle.tree_io.specs.Feeds.{real}

-- of marks whose only end is the last, all others are real
pub real_body : (body : List Mark) → EndsLast ends_marks (body ++ EndMark ∷ []) → (real (body ++ EndMark ∷ []) ≡ body) × (some ends_marks body ≡ false)
real_body [] last = (refl, refl)
real_body (NoteMark x ∷ body) last = let r = real_body body last.1 in (ap (λ (l : List Mark). NoteMark x ∷ l) r.0, r.1)
real_body (PieceMark x ∷ body) last = let r = real_body body last.1 in (ap (λ (l : List Mark). PieceMark x ∷ l) r.0, r.1)
real_body (FloorMark x ∷ body) last = let r = real_body body last.1 in (ap (λ (l : List Mark). FloorMark x ∷ l) r.0, r.1)
real_body (EndMark ∷ body) last = absurd (none body (last.0 refl))
  where
    none : (xs : List Mark) → xs ++ EndMark ∷ [] ≡ [] → ⊥
    none [] e = cc
    none (x ∷ xs) e = cc

-- the marks that were taken of an instance, and its end where that was taken, are a front of those that were gathered of it
module _ (got taken : List Mark) (done : Bool) (last : EndsLast ends_marks got) (ends : EndsWith EndMark got) (reach : Reaches done taken (real got)) where
  abbrev body : List Mark
  body = ends.0

  of_body : (real got ≡ body) × (some ends_marks body ≡ false)
  of_body = let r = real_body body (subst (EndsLast ends_marks) ends.1 last) in (ap real ends.1 ∙ r.0, r.1)

  front_by : (d : Bool) → Reaches d taken (real got) → IsFront taken body
  front_by true all = ([], sym (append-nil taken ∙ all ∙ of_body.0))
  front_by false some_of = (some_of.0, sym (some_of.1 ∙ of_body.0))

  none_taken : (b : Bool) → some ends_marks taken ≡ b → b ≡ false
  none_taken true is = sym (some_front ends_marks taken body (front_by done reach) is) ∙ of_body.1
  none_taken false is = refl

  none_end : some ends_marks taken ≡ false
  none_end = none_taken (some ends_marks taken) refl

  pub marks_front : (ended : Bool) → (ended ≡ true → done ≡ true) → IsFront (taken ++ (if ended then EndMark ∷ [] else [])) got × (some ends_marks (taken ++ (if ended then EndMark ∷ [] else [])) ≡ ended)
  marks_front true whole =
      let all : taken ≡ body = subst (λ (d : Bool). Reaches d taken (real got)) (whole refl) reach ∙ of_body.0 in
      (([], ends.1 ∙ ap (λ (l : List Mark). l ++ EndMark ∷ []) (sym all) ∙ sym (append-nil (taken ++ EndMark ∷ []))), some-append ends_marks taken (EndMark ∷ []) ∙ ap (λ (b : Bool). b || true) none_end)
  marks_front false whole =
      let front = front_trans taken body got (front_by done reach) (EndMark ∷ [], ends.1) in
      (subst (λ (l : List Mark). IsFront l got) (sym (append-nil taken)) front, ap (some ends_marks) (append-nil taken) ∙ none_end)
