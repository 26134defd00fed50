use Rattle.std.proofs.Common.{Bool, true, false, ◌≡◌, ◌+◌, length, refl, ap, ◌∙◌, arith}
use mir.Val.{bool_byte}
use Rattle.view_store.specs.Listings.{notes_of, ended_of}
use Rattle.view_store.proofs.Growing.{length_listing, one_more}
use Rattle.view_store.proofs.views.ask.notes_added.Goals as goal

one_byte : (b : Bool) → bool_byte b ≡ one_more b
one_byte true = refl
one_byte false = refl

pub returns : goal.returns
returns c =
    let log = c.args.front.now.seen.log in
    let all : length log ≡ length (notes_of log) + one_more (ended_of log) = length_listing log c.args.front.now.legal in
    let byte : c.from.result ≡ one_more (ended_of log) = c.from.ensures ∙ (one_byte c.args.front.now.ended ∙ ap one_more c.args.front.now.over) in
    omega (arith, all, byte, c.args.front.now.counted)
