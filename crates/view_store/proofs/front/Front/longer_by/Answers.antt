use Rattle.std.proofs.Common.{◌≡◌, List, [], ◌∷◌, ◌++◌, sym, ◌∙◌, ap, rules}
use Rattle.view_store.specs.Listings.{ended_of}
use Rattle.view_store.proofs.Adding.{adds_moves}
use Rattle.view_store.proofs.Growing.{ended_by}
use Rattle.view_store.proofs.front.Front.longer_by.Goals as goal

pub compare_exchange-found-requires : goal.compare_exchange-found-requires
compare_exchange-found-requires c =
    let h = c.requires.head in
    let seen = c.again-seen.ensures in
    let offer = c.plain-offer.ensures in
    let pen = c.no_pen-pen.ensures in (
      ap (λ w. w.tracked) h,
      ap (λ s. s.book) seen ∙ sym (ap (λ w. w.book) h),
      pen.0 ∙ (ap (λ s. s.book) seen ∙ sym (ap (λ w. w.book) h)),
      offer.0,
      rw (ap (λ w. w.key) h, pen.1, offer.1, offer.3, seen) (adds_moves c.args.self.now.seen.log c.args.added c.args.self.now.count (sym c.args.self.now.counted) c.requires.going),
    )

pub invariant_of-result-clause-over : goal.invariant_of-result-clause-over
invariant_of-result-clause-over c =
    let log = c.args.self.now.seen.log in
    let longer : c.compare_exchange-found.new.seen.log ≡ log ++ c.args.added ∷ [] = search rules in
    c.is_end-ended.ensures ∙ ended_by log c.args.added c.requires.going ∙ ap ended_of (sym longer)
