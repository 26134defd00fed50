use Rattle.note_order.proofs.Entries.{instances_make_listing}
use Rattle.note_order.proofs.laws.instances_make_the_listing.Goals as goal

pub returns : goal.returns
returns c = instances_make_listing
