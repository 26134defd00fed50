-- Links that each get the same row.
use Rattle.std.proofs.Common.{◌≡◌, ℕ, zero, suc, ◌≤◌, ◌<◌, List, [], ◌∷◌, ◌++◌, map, drop, set, get_or, length, refl, sym, ◌∙◌, ap, subst, arith, append_assoc}
use Rattle.std.proofs.lemmas.List.{append-nil}
use Rattle.la_base.specs.declared.wires.Feed.{Feed}
use Rattle.stack_laws.specs.Moves.{Sending, makes, sends, sends_at}
use Rattle.stage_run.specs.Boxes.{keeps, served}
use Rattle.stage_run.specs.Rows.{Kept, none_kept, waiting}
use Rattle.stage_run.specs.Sendings.{MayGiveAll, MaySendAll, Sends, gives_all, sends_all}

module _ {T : Type 0} where
  pub keeps_same : (kept others sent : List T) → kept ≡ others → keeps kept sent ≡ keeps others sent
  keeps_same kept others sent is = ap (λ (l : List T). keeps l sent) is

  -- more is made
  pub keeps_more : (kept xs now sent : List T) → now ≡ kept ++ xs → keeps now sent ≡ makes xs (keeps kept sent)
  keeps_more kept xs now sent is =
      let made : sent ++ now ≡ (sent ++ kept) ++ xs = ap (λ (l : List T). sent ++ l) is ∙ sym (append_assoc sent kept xs) in
      λ i. record { made = made i; sent = sent }

  all_more : (kept xs now : List T) → now ≡ kept ++ xs → (sents : List (List T)) → map (keeps now) sents ≡ map (makes xs) (map (keeps kept) sents)
  all_more kept xs now is [] = refl
  all_more kept xs now is (s ∷ ss) = λ i. keeps_more kept xs now s is i ∷ all_more kept xs now is ss i

  -- one of those that are kept is sent
  next_sent : (x : T) (rest sent : List T) → sends x (keeps (x ∷ rest) sent) ≡ keeps rest (sent ++ x ∷ [])
  next_sent x rest sent = let made : sent ++ x ∷ rest ≡ (sent ++ x ∷ []) ++ rest = sym (append_assoc sent (x ∷ []) rest) in λ i. record { made = made i; sent = sent ++ x ∷ [] }

  -- some of those that are kept are sent
  pub some_sent : (xs rest sent : List T) → MaySendAll xs (keeps (xs ++ rest) sent) × (sends_all xs (keeps (xs ++ rest) sent) ≡ keeps rest (sent ++ xs))
  some_sent [] rest sent = (tt, ap (keeps rest) (sym (append-nil sent)))
  some_sent (x ∷ xs) rest sent =
      let on = some_sent xs rest (sent ++ x ∷ []) in
      let next = sym (next_sent x (xs ++ rest) sent) in (
        ((xs ++ rest, refl), subst (MaySendAll xs) next on.0),
        ap (sends_all xs) (sym next) ∙ on.1 ∙ ap (keeps rest) (append_assoc sent (x ∷ []) xs),
      )

  pub sends_some : (xs rest sent : List T) (old new : Sending T) → old ≡ keeps (xs ++ rest) sent → new ≡ keeps rest (sent ++ xs) → Sends xs old new
  sends_some xs rest sent old new was is = record {
    may = subst (MaySendAll xs) (sym was) (some_sent xs rest sent).0;
    is = is ∙ sym (some_sent xs rest sent).1 ∙ ap (sends_all xs) (sym was);
  }

-- where nothing of a row was given, more is made for all
pub served_more : (place : ℕ) (row now : Kept Feed) (xs : List Feed) (sents : List (List Feed)) → place ≡ 0 → row.at ≡ 0 → now.at ≡ 0 → now.list ≡ row.list ++ xs → served place now sents ≡ map (makes xs) (served place row sents)
served_more place row now xs sents first fresh still is = ap (λ k. served k now sents) first ∙ at_first sents ∙ ap (λ k. map (makes xs) (served k row sents)) (sym first)
  where
    at_first : (sents : List (List Feed)) → served 0 now sents ≡ map (makes xs) (served 0 row sents)
    at_first [] = refl
    at_first (s ∷ ss) =
        let kept : waiting row ≡ row.list = ap (λ n. drop n row.list) fresh in
        let wait : waiting now ≡ waiting row ++ xs = ap (λ n. drop n now.list) still ∙ is ∙ ap (λ (l : List Feed). l ++ xs) (sym kept) in
        λ i. keeps_more (waiting row) xs (waiting now) s wait i ∷ all_more row.list xs now.list is ss i

-- where there is no child, nothing is kept
pub served_nobody : (place : ℕ) (row now : Kept Feed) (xs : List Feed) (sents : List (List Feed)) → length sents ≡ 0 → served place now sents ≡ map (makes xs) (served place row sents)
served_nobody place row now xs [] none = refl
served_nobody place row now xs (s ∷ ss) none = absurd (omega (arith, none))

-- all that were given a row
pub served_past : (place : ℕ) (row : Kept Feed) (sents : List (List Feed)) → length sents ≤ place → served place row sents ≡ map (keeps []) sents
served_past place row [] past = refl
served_past zero row (s ∷ ss) past = absurd (omega (arith, past))
served_past (suc place) row (s ∷ ss) past = ap (λ (l : List (Sending Feed)). keeps [] s ∷ l) (served_past place row ss (omega (arith, past)))

pub served_none : (place : ℕ) (sents : List (List Feed)) → served place none_kept sents ≡ map (keeps []) sents
served_none place [] = refl
served_none zero (s ∷ ss) = refl
served_none (suc place) (s ∷ ss) = ap (λ (l : List (Sending Feed)). keeps [] s ∷ l) (served_none place ss)

gives_head : (xs : List Feed) (first : Sending Feed) (others : List (Sending Feed)) → (MaySendAll xs first → MayGiveAll 0 xs (first ∷ others)) × (gives_all 0 xs (first ∷ others) ≡ sends_all xs first ∷ others)
gives_head [] first others = (λ may. tt, refl)
gives_head (x ∷ xs) first others = let on = gives_head xs (sends x first) others in (λ may. (may.0, on.0 may.1), on.1)

gives_tail : (place : ℕ) (xs : List Feed) (first : Sending Feed) (others : List (Sending Feed)) → (MayGiveAll place xs others → MayGiveAll (suc place) xs (first ∷ others)) × (gives_all (suc place) xs (first ∷ others) ≡ first ∷ gives_all place xs others)
gives_tail place [] first others = (λ may. tt, refl)
gives_tail place (x ∷ xs) first others = let on = gives_tail place xs first (sends_at place x others) in (λ may. (may.0, on.0 may.1), on.1)

-- the child at a place is given some of a row
pub gives_some : (place : ℕ) (xs rest : List Feed) (row now : Kept Feed) (sents : List (List Feed)) (sent : List Feed)
    → place < length sents → sent ≡ get_or sents place sent → waiting row ≡ xs ++ rest → waiting now ≡ rest → now.list ≡ row.list
    → MayGiveAll place xs (served place row sents) × (gives_all place xs (served place row sents) ≡ served place now (set sents place (sent ++ xs)))
gives_some place xs rest row now [] sent low at was is same = absurd (omega (arith, low))
gives_some zero xs rest row now (s ∷ ss) sent low at was is same =
    let on = gives_head xs (keeps (waiting row) s) (map (keeps row.list) ss) in
    let some = some_sent xs rest s in (
      on.0 (subst (λ (l : List Feed). MaySendAll xs (keeps l s)) (sym was) some.0),
      on.1 ∙ (λ i. (ap (λ (l : List Feed). sends_all xs (keeps l s)) was ∙ some.1 ∙ (λ j. keeps (sym is j) (sym at j ++ xs))) i ∷ map (keeps (sym same i)) ss),
    )
gives_some (suc place) xs rest row now (s ∷ ss) sent low at was is same =
    let tail = gives_some place xs rest row now ss sent (omega (arith, low)) at was is same in
    let on = gives_tail place xs (keeps [] s) (served place row ss) in
    (on.0 tail.0, on.1 ∙ ap (λ (l : List (Sending Feed)). keeps [] s ∷ l) tail.1)

-- all of it
pub gives_rest : (place : ℕ) (now : Kept Feed) (sents : List (List Feed)) (sent : List Feed)
    → place < length sents → waiting now ≡ [] → served place now (set sents place sent) ≡ served (suc place) (record { list = now.list; at = 0 }) (set sents place sent)
gives_rest place now [] sent low none = absurd (omega (arith, low))
gives_rest zero now (s ∷ ss) sent low none = λ i. keeps (none i) sent ∷ first ss i
  where
    first : (ss : List (List Feed)) → map (keeps now.list) ss ≡ served 0 (record { list = now.list; at = 0 }) ss
    first [] = refl
    first (s ∷ ss) = refl
gives_rest (suc place) now (s ∷ ss) sent low none = ap (λ (l : List (Sending Feed)). keeps [] s ∷ l) (gives_rest place now ss sent (omega (arith, low)) none)
