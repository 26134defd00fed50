-- The lines of notes.
use Rattle.std.specs.Prelude.{ℕ, if◌then◌else◌, Bool, List, [], slice_get, Option, Some, None}
use Rattle.std.specs.List.{filter, flat_map}
use Rattle.la_base.specs.declared.wires.Note.{Note}
use Rattle.listing_out.specs.NoteLines.{line_as}
use Rattle.note_order.specs.declared.entry.Entry.{Entry}
use Rattle.stack_words.specs.Accepting.{Accepted, is_shown}
use Rattle.stack_words.specs.Instances.{Instance}

-- the line of a note of an instance
abbrev pub line_by : Option Instance → Note → List ℕ
line_by None note = []
line_by (Some instance) note = line_as instance.kind instance.number note

abbrev pub note_line : List Instance → Entry → List ℕ
note_line instances entry = line_by (slice_get instances entry.instance) entry.note

abbrev pub note_lines : List Instance → List Entry → List ℕ
note_lines instances entries = flat_map (note_line instances) entries

-- the line of a note, where its instance is shown
abbrev pub shown_line : Accepted → Entry → List ℕ
shown_line accepted entry =
    if is_shown accepted.shown entry.instance then note_line accepted.instances entry else []

abbrev pub shown_lines : Accepted → List Entry → List ℕ
shown_lines accepted entries = flat_map (shown_line accepted) entries

-- whether the instance of a note is shown
abbrev pub has_shown : Accepted → Entry → Bool
has_shown accepted entry = is_shown accepted.shown entry.instance

-- the notes whose instances are shown, in their order
abbrev pub shown_entries : Accepted → List Entry → List Entry
shown_entries accepted entries = filter (has_shown accepted) entries
