use Rattle.check_point.specs.laws.EntryLaws.{entries_step}
use Rattle.check_point.proofs.entries.+are_entries.Goals as goal

pub returns-in-Some-entry_of : goal.returns-in-Some-entry_of
returns-in-Some-entry_of t c =
    entries_step c.args.kinds.now c.in-Some.place.now c.in-Some.others.now c.in-Some.ensures.cases.0 c.args.bytes.now c.in-Some-entry_of.field-0-0.now c.in-Some-entry_of.rest.now
    c.in-Some-entry_of.ensures.0 c.in-Some-entry_of.ensures.1 c.are_entries.result c.are_entries.ensures
