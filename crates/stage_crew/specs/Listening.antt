-- How a reader hears that no more is wanted.
use Rattle.std.specs.Prelude.{◌≡◌, ◌≤◌, ◌<◌, ◌-◌, ◌^◌, ◌⊎◌, ℕ, Bool, true, false}
use Rattle.std.proofs.Common.{refl, ◌∙◌, inl, inr, arith, subst, sym}
use Rattle.std.proofs.lemmas.Bool.{cases_lt}
use Rattle.stage_ring.specs.Link.{received, rx_misses}
use Rattle.stage_run.specs.Acts.{More}
use Rattle.stage_crew.specs.declared.reader.Reader.{Reader}

-- there were as many misses, or more
abbrev pub Later : ℕ → ℕ → Type 0
Later old new = (new ≡ old) ⊎ More old new

more_then : {m n k : ℕ} → More m n → More n k → More m k
more_then (inl a) (inl b) = inl (omega (arith, a, b))
more_then (inr a) (inl b) = inr (a.0, omega (arith, a.1, b))
more_then (inr a) (inr b) = inr (a.0, b.1)
more_then {m = m} {k = k} (inl a) (inr b) = by (cases_lt m (2 ^ 64 - 1))
  where
    by : (m < 2 ^ 64 - 1) ⊎ (2 ^ 64 - 1 ≤ m) → More m k
    by (inl less) = inl (omega (arith, less, b.1))
    by (inr all) = inr (all, b.1)

more_on : {m n k : ℕ} → More m n → Later n k → More m k
more_on {m = m} a (inl same) = subst (More m) (sym same) a
more_on a (inr b) = more_then a b

on_more : {m n k : ℕ} → Later m n → More n k → More m k
on_more {k = k} (inl same) b = subst (λ (x : ℕ). More x k) same b
on_more (inr a) b = more_then a b

later_both : {m n k : ℕ} → Later m n → Later n k → Later m k
later_both (inl same) (inl still) = inl (still ∙ same)
later_both (inl same) (inr b) = inr (on_more (inl same) b)
later_both (inr a) later = inr (more_on a later)

unheard : (before now : Bool) → (before ≡ true → now ≡ true) → now ≡ false → before ≡ false
unheard false now stays still = refl
unheard true now stays still = absurd (contra (sym (stays refl) ∙ still))
  where
    contra : true ≡ false → ⊥
    contra e = cc

module _ {A : Type 0} where
  -- the feed is called only where the reader has looked for a stop and found none; once it has heard
  -- of one, never again
  pub record Listens (old new : Reader A) : Type 0 where
    pub stays : old.stop_heard ≡ true → new.stop_heard ≡ true
    pub hears : new.stop_heard ≡ false → received new.stop ≡ received old.stop
    pub obeys : old.stop_heard ≡ true → new.feed.now ≡ old.feed.now
    pub looks : (new.feed.now ≡ old.feed.now) ⊎ More (rx_misses old.stop) (rx_misses new.stop)
    pub misses : Later (rx_misses old.stop) (rx_misses new.stop)

  -- what does nothing listens
  pub listens_still : (one : Reader A) → Listens one one
  listens_still one = record {
    stays = λ is. is;
    hears = λ is. refl;
    obeys = λ is. refl;
    looks = inl refl;
    misses = inl refl;
  }

  -- it has looked in one of two steps
  looks_both : {one two three : A} {m n k : ℕ} → (two ≡ one) ⊎ More m n → (three ≡ two) ⊎ More n k
      → Later m n → Later n k → (three ≡ one) ⊎ More m k
  looks_both (inl same) (inl still) low high = inl (still ∙ same)
  looks_both (inr more) later low high = inr (more_on more high)
  looks_both (inl same) (inr more) low high = inr (on_more low more)

  -- what listens on from what listens listens
  pub listens_further : (one two three : Reader A) → Listens one two → Listens two three
      → Listens one three
  listens_further one two three a b = record {
    stays = λ is. b.stays (a.stays is);
    hears = λ is. b.hears is ∙ a.hears (unheard two.stop_heard three.stop_heard b.stays is);
    obeys = λ is. b.obeys (a.stays is) ∙ a.obeys is;
    looks = looks_both a.looks b.looks a.misses b.misses;
    misses = later_both a.misses b.misses;
  }
