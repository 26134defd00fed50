-- The writing of a run's stops, as it goes on.
use Rattle.std.proofs.Common.{◌≡◌, ℕ, ◌+◌, List, [], ◌∷◌, ◌++◌, take, Option, Some, None, Result, Ok, Err, refl, sym, ◌∙◌, subst, arith, append_assoc}
use Rattle.std.specs.Io.KnownBytes.{Appends, Keeps}
use Rattle.std.proofs.lemmas.List.{append-nil}
use Rattle.la_base.specs.Samples.{samples}
use Rattle.la_base.specs.declared.samples.Run.{Run}
use Rattle.la_io.specs.Causes.{AppendsFront}
use Rattle.la_io.specs.Grown.{appends_nothing, appends_on}
use Rattle.wait_cond.specs.Stops.{Stop, Chain, IsStop}
use Rattle.wait_cond.specs.Waiting.{Waits, Scanned, alts_of, wait_from, rest_samples}
use Rattle.wait_cond.specs.declared.alt.Alt.{Alt}
use Rattle.wait_cond.specs.declared.scan.Waiter.{Waiter}
use Rattle.wait_cond.specs.declared.scan.Scan.TheVariants.{Met, Through}
use Rattle.wait_cond.proofs.ChainLemmas.{chain_longer, chain_more}
use Rattle.listing_out.specs.StopLines.{line_of, lines_of}
use Rattle.std.specs.Prelude.{OnOk}
use Rattle.la_io.specs.declared.outside.Failed.{Failed}
use Rattle.find_job.specs.Stopping.{AllWritten, CutOff, Written}
use Rattle.la_io.proofs.Bytes.{appends_kept}
use Rattle.la_io.proofs.Fronts.{front_on, front_whole}
use Rattle.find_job.proofs.Fronts.{lines_append, lines_more}

-- of all these samples, what is left of the run is still to be scanned; the stops before it are written
pub record Going (alts : List Alt) (all : List ℕ) (stops : List Stop) (waiter : Waiter) (rest : Option Run) (old now : Option (List ℕ)) : Type 0 where
  pub so_far : List ℕ
  pub more : List Stop
  pub split : all ≡ so_far ++ rest_samples rest
  pub waits : Waits waiter so_far
  pub chain : Chain all alts 0 (stops ++ more) (wait_from waiter)
  pub written : Appends old now (lines_of more)

pub going_starts : (list : List ℕ) (run : Run) (stops : List Stop) (waiter : Waiter) (old : Option (List ℕ)) → Waits waiter list → Chain list (alts_of waiter) 0 stops (wait_from waiter)
    → Going (alts_of waiter) (list ++ samples run) stops waiter (Some run) old old
going_starts list run stops waiter old waits chain = record {
  so_far = list;
  more = [];
  split = refl;
  waits = waits;
  chain = subst (λ (l : List Stop). Chain (list ++ samples run) (alts_of waiter) 0 l (wait_from waiter)) (sym (append-nil stops)) (chain_longer list (samples run) (alts_of waiter) 0 (wait_from waiter) stops chain);
  written = appends_nothing old;
}

module _ (alts : List Alt) (all : List ℕ) (stops : List Stop) (waiter : Waiter) (run : Run) (old now : Option (List ℕ)) (going : Going alts all stops waiter (Some run) old now)
    (same : alts_of waiter ≡ alts) where
  module _ (after : Waiter) (at value met : ℕ) (rest : Option Run) (scanned : (list : List ℕ) → Waits waiter list → Scanned waiter after (list ++ samples run) (Met at value met rest)) where
    is_stop : IsStop all alts (wait_from waiter) at met
    is_stop =
        let stop = (scanned going.so_far going.waits).0 in
        subst (λ (a : List Alt). IsStop all a (wait_from waiter) at met) same (subst (λ (l : List ℕ). IsStop l (alts_of waiter) (wait_from waiter) at met) (sym going.split) stop)

    longer : Chain all alts 0 (stops ++ going.more ++ (at, met) ∷ []) (at + 1)
    longer = chain_more all alts 0 (wait_from waiter) (stops ++ going.more) at met going.chain is_stop

    -- a stop, whose line is written
    pub going_met : (new : Option (List ℕ)) → Appends now new (line_of (at, met)) → Going alts all stops after rest old new
    going_met new line =
        let s = scanned going.so_far going.waits in
        record {
          so_far = take (at + 1) (going.so_far ++ samples run);
          more = going.more ++ (at, met) ∷ [];
          split = going.split ∙ s.2;
          waits = s.3;
          chain = subst (λ (l : List Stop). Chain all alts 0 l (wait_from after)) (append_assoc stops going.more ((at, met) ∷ []))
              (subst (λ (n : ℕ). Chain all alts 0 (stops ++ going.more ++ (at, met) ∷ []) n) (sym s.4) longer);
          written = appends_on old now new (lines_of going.more) (line_of (at, met)) (lines_of (going.more ++ (at, met) ∷ [])) going.written line (sym (lines_more going.more (at, met)));
        }

    -- a stop, of whose line a front is written
    pub going_cut : (new : Option (List ℕ)) → AppendsFront now new (line_of (at, met)) → CutOff alts all stops old new
    going_cut new line = record {
      more = going.more ++ (at, met) ∷ [];
      to = at + 1;
      chain = subst (λ (l : List Stop). Chain all alts 0 l (at + 1)) (append_assoc stops going.more ((at, met) ∷ [])) longer;
      written = subst (λ (l : List ℕ). AppendsFront old new l) (sym (lines_more going.more (at, met))) (front_on old now new (lines_of going.more) (line_of (at, met)) going.written line);
    }

  -- no further stop
  pub going_through : (after : Waiter) → ((list : List ℕ) → Waits waiter list → Scanned waiter after (list ++ samples run) Through) → Going alts all stops after None old now
  going_through after scanned =
      let s = scanned going.so_far going.waits in
      record {
        so_far = going.so_far ++ samples run;
        more = going.more;
        split = going.split ∙ sym (append-nil (going.so_far ++ samples run));
        waits = s.0;
        chain = subst (λ (n : ℕ). Chain all alts 0 (stops ++ going.more) n) (sym s.1) going.chain;
        written = going.written;
      }

-- nothing is left of the run
pub going_ends : (alts : List Alt) (all : List ℕ) (stops : List Stop) (waiter : Waiter) (old now : Option (List ℕ)) → Going alts all stops waiter None old now → AllWritten waiter alts all stops old now
going_ends alts all stops waiter old now going = record {
  more = going.more;
  waits = subst (λ (l : List ℕ). Waits waiter l) (sym (going.split ∙ append-nil going.so_far)) going.waits;
  chain = going.chain;
  written = going.written;
}

-- nothing was scanned yet
pub written_nothing : (waiter : Waiter) (list : List ℕ) (stops : List Stop) (old : Option (List ℕ)) → Waits waiter list → Chain list (alts_of waiter) 0 stops (wait_from waiter) → AllWritten waiter (alts_of waiter) (list ++ []) stops old old
written_nothing waiter list stops old waits chain = record {
  more = [];
  waits = subst (λ (l : List ℕ). Waits waiter l) (sym (append-nil list)) waits;
  chain = subst (λ (l : List ℕ). Chain l (alts_of waiter) 0 (stops ++ []) (wait_from waiter)) (sym (append-nil list)) (subst (λ (s : List Stop). Chain list (alts_of waiter) 0 s (wait_from waiter)) (sym (append-nil stops)) chain);
  written = appends_nothing old;
}

module _ (alts : List Alt) (stops : List Stop) (before : Waiter) (front : List ℕ) (old now : Option (List ℕ)) (first : AllWritten before alts front stops old now) where
  -- the stops of samples behind those that were scanned
  pub written_more : (after : Waiter) (all : List ℕ) (new : Option (List ℕ)) → AllWritten after alts all (stops ++ first.more) now new → AllWritten after alts all stops old new
  written_more after all new second = record {
    more = first.more ++ second.more;
    waits = second.waits;
    chain = subst (λ (s : List Stop). Chain all alts 0 s (wait_from after)) (append_assoc stops first.more second.more) second.chain;
    written = appends_on old now new (lines_of first.more) (lines_of second.more) (lines_of (first.more ++ second.more)) first.written second.written (sym (lines_append first.more second.more));
  }

  -- they were cut off
  pub cut_more : (part rest : List ℕ) (new : Option (List ℕ)) → CutOff alts part (stops ++ first.more) now new → CutOff alts (part ++ rest) stops old new
  cut_more part rest new cut = record {
    more = first.more ++ cut.more;
    to = cut.to;
    chain = subst (λ (s : List Stop). Chain (part ++ rest) alts 0 s cut.to) (append_assoc stops first.more cut.more) (chain_longer part rest alts 0 cut.to ((stops ++ first.more) ++ cut.more) cut.chain);
    written = subst (λ (l : List ℕ). AppendsFront old new l) (sym (lines_append first.more cut.more)) (front_on old now new (lines_of first.more) (lines_of cut.more) first.written cut.written);
  }

-- samples behind others whose stops were written
pub written_on : (first_waiter before after : Waiter) (stops : List Stop) (list front more all : List ℕ) (old now new : Option (List ℕ)) (result : Result (Unit {0}) Failed) → alts_of before ≡ alts_of first_waiter → front ++ more ≡ list ++ all
    → (first : AllWritten before (alts_of first_waiter) front stops old now) → Written after before more front (stops ++ first.more) now new result → Written after first_waiter all list stops old new result
written_on first_waiter before after stops list front more all old now new (Ok done) same whole first second =
    subst (λ (l : List ℕ). AllWritten after (alts_of first_waiter) l stops old new) whole
    (written_more (alts_of first_waiter) stops before front old now first after (front ++ more) new (subst (λ (a : List Alt). AllWritten after a (front ++ more) (stops ++ first.more) now new) same second))
written_on first_waiter before after stops list front more all old now new (Err failed) same whole first second =
    subst (λ (l : List ℕ). CutOff (alts_of first_waiter) l stops old new) (append-nil (front ++ more) ∙ whole)
    (cut_more (alts_of first_waiter) stops before front old now first (front ++ more) [] new (subst (λ (a : List Alt). CutOff a (front ++ more) (stops ++ first.more) now new) same second))

-- how many samples were consumed then
pub consumed_on : (result : Result (Unit {0}) Failed) (last now first front rest all : ℕ) → now ≡ first + front → front + rest ≡ all → OnOk result (last ≡ now + rest) → OnOk result (last ≡ first + all)
consumed_on (Ok done) last now first front rest all count total more = omega (arith, count, total, more)
consumed_on (Err failed) last now first front rest all count total more = tt
