use Rattle.std.proofs.Common.{inl, inr, length, Some, arith}
use Rattle.std.proofs.lemmas.Bool.{cases_lt}
use Rattle.annot_merge.specs.Bounds.{Allows, AllowsAt}
use Rattle.annot_merge.specs.Held.{held_in}
use Rattle.annot_merge.proofs.GivingLemmas.{first_waits, none_held}
use Rattle.annot_merge.proofs.HoldLemmas.{empty, place_is}
use Rattle.annot_merge.proofs.MergeLemmas.{either_way, gives_first}
use Rattle.annot_merge.proofs.merge.Merge.is_ready.Goals as goal

pub returns-then-self : goal.returns-then-self
returns-then-self c =
    let m = c.args.self.now in
    let h = m.held in
    elim (cases_lt h.lead.least.instance (length h.queues.items)) [
      | inl within ↦ (
          let f = place_is h.queues.items h.heads.items h.lead h.arranged within in
          first_waits m f.entry f.rest f.whole (omega (arith, f.low)) (omega (arith, f.few)) (λ allowed. omega (arith, allowed.0, f.starts, c.if-self.true))
          )
      | inr past ↦ none_held m (empty h.queues.items h.heads.items h.lead h.arranged past)
    ]

pub returns-in-Some : goal.returns-in-Some
returns-in-Some c =
    let m = c.args.self.now in
    let place = c.in-Some.place in
    let f = c.in-Some.ensures.some in
    let here : AllowsAt (Some m.limit.start) m.limit.instance place.start place.instance → Allows (Some m.limit.start) m.limit.instance f.entry = λ allowed.
    (omega (arith, allowed.0, f.starts), λ same. let a = allowed.1 in omega (arith, same, a, f.starts, f.of)) in
    let there : Allows (Some m.limit.start) m.limit.instance f.entry → AllowsAt (Some m.limit.start) m.limit.instance place.start place.instance = λ allowed.
    (omega (arith, allowed.0, f.starts), λ same. let a = allowed.1 in omega (arith, same, a, f.starts, f.of)) in
    either_way c.allows.result c.allows.ensures
    (λ allowed. record { entry = f.entry; others = f.rest; least = f.whole; allowed = λ marks given s. (gives_first m.count m.bounds.items m.limit (held_in m) f.entry f.rest f.whole (here allowed) marks given s).0 })
    (λ never. first_waits m f.entry f.rest f.whole (omega (arith, f.low)) (omega (arith, f.few)) (λ allowed. never (there allowed)))

pub returns-in-None : goal.returns-in-None
returns-in-None c = none_held c.args.self.now c.in-None.ensures.none
