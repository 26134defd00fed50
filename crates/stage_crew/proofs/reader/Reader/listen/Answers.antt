use Rattle.std.proofs.Common.{◌≡◌, ◌∙◌, ◌<◌, ◌≤◌, ◌-◌, ◌^◌, ◌⊎◌, ℕ, Bool, false, true, Option, Some, None, inl, inr, refl, sym, arith}
use Rattle.std.specs.Prelude.{IfNone, is_some}
use Rattle.std.proofs.lemmas.Bool.{cases_lt}
use Rattle.stage_ring.specs.Link.{more}
use Rattle.stage_run.specs.Acts.{More}
use Rattle.stage_crew.proofs.reader.Reader.listen.Goals as goal

nothing : {P : Type 0} (found : Option Bool) → IfNone found P → false ≡ is_some found → P
nothing None told is = told
nothing (Some stop) told is = absurd (contra is)
  where
    contra : false ≡ true → ⊥
    contra e = cc

missed : (m n : ℕ) → n ≡ more m → More m n
missed m n is = by (cases_lt m (2 ^ 64 - 1))
  where
    by : (m < 2 ^ 64 - 1) ⊎ (2 ^ 64 - 1 ≤ m) → More m n
    by (inl less) = inl (omega (arith, is, less))
    by (inr all) = inr (all, omega (arith, is, all))

pub returns-else-is_some-clause-reads : goal.returns-else-is_some-clause-reads
returns-else-is_some-clause-reads g c =
    let e = c.take.ensures in
    let none = nothing c.take.result e.none c.if-is_some.ensures in
    record {
      lent = refl;
      feeds = refl;
      stop = e.link;
      keeps = λ start had. record {
        lists = had.lists;
        gave = had.gave;
        origin = had.origin;
        pumped = had.pumped;
        in_place = had.in_place;
        at_end = had.at_end;
        heard = λ is empty. had.heard is (sym none.0 ∙ empty);
        obeys = had.obeys;
      };
      listens = λ had. (
        record { in_place = had.in_place; over = had.over },
        record {
          stays = λ is. is;
          hears = λ is. none.0;
          obeys = λ is. refl;
          looks = inl refl;
          misses = inr (missed _ _ none.3);
        },
      );
    }
