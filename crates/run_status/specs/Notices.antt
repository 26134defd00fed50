-- What a run's status tells its user: the exit status, and one line of text.
use Rattle.std.specs.Prelude.{ℕ, Bool, true, false, List, [], ◌++◌, Option, Some, None, Result, Ok, Err, codes}
use Rattle.std.specs.Fmt.{decimal}
use Rattle.la_io.specs.declared.fault.CaptureError.{CaptureError}
use Rattle.la_io.specs.declared.fault.CaptureError.TheVariants as error
use Rattle.la_io.specs.declared.fault.CaptureFault.{CaptureFault}
use Rattle.la_io.specs.declared.fault.CaptureFault.TheVariants as capture
use Rattle.cond_words.specs.declared.faults.BindWhy.{BindWhy}
use Rattle.cond_words.specs.declared.faults.BindWhy.TheVariants as binding
use Rattle.words.specs.declared.kinds.WordWhy.{WordWhy}
use Rattle.words.specs.declared.kinds.WordsError.{WordsError}
use Rattle.words.specs.declared.kinds.WordsError.TheVariants as words
use Rattle.words.specs.declared.kinds.WordWhy.TheVariants as word
use Rattle.stack_words.specs.declared.faults.StackWhy.{StackWhy}
use Rattle.stack_words.specs.declared.faults.StackWhy.TheVariants as stack
use Rattle.check_point.specs.declared.faults.CheckWhy.{CheckWhy}
use Rattle.check_point.specs.declared.faults.CheckWhy.TheVariants as check
use Rattle.capture_any.specs.declared.end.ListingEnd.{ListingEnd}
use Rattle.capture_any.specs.declared.end.ListingEnd.TheVariants as end
use Rattle.run_status.specs.declared.status.Status.{Status}
use Rattle.run_status.specs.declared.status.Status.TheVariants.{Done, Words, Stack, Bind, ReadFault}
use Rattle.run_status.specs.declared.status.Status.TheVariants.{Check, Capture, WriteFault, NoMemory}

-- the status of a run whose work ended so
abbrev pub status_of : ListingEnd → Status
status_of end.Done = Done
status_of end.Read = ReadFault
status_of end.Write = WriteFault
status_of (end.Fault fault) = Capture fault
status_of end.NoMemory = NoMemory

-- the status of a run whose words can't be read
abbrev pub status_at_words : WordsError → Status
status_at_words (words.Fault fault) = Words fault
status_at_words words.NoMemory = NoMemory

-- the status of a run whose capture can't be opened
abbrev pub status_at_head : CaptureError → Status
status_at_head (error.Fault fault) = Capture fault
status_at_head error.Read = ReadFault
status_at_head error.NoMemory = NoMemory

-- the status of a decoding that came to this end, or couldn't begin
abbrev pub status_by : Result ListingEnd Status → Status
status_by (Ok end) = status_of end
status_by (Err status) = status

-- whether a run is done
abbrev pub is_done : Status → Bool
is_done Done = true
is_done (Words fault) = false
is_done (Stack fault) = false
is_done (Bind fault) = false
is_done (Check fault) = false
is_done ReadFault = false
is_done (Capture fault) = false
is_done WriteFault = false
is_done NoMemory = false

-- the exit status
abbrev pub code_of : Status → ℕ
code_of Done = 0
code_of (Words fault) = 1
code_of (Stack fault) = 1
code_of (Bind fault) = 1
code_of (Check fault) = 1
code_of ReadFault = 2
code_of (Capture fault) = 3
code_of WriteFault = 4
code_of NoMemory = 5

-- why a word is refused
abbrev pub word_why : WordWhy → List ℕ
word_why word.Unknown = codes "Unknown"
word_why word.NoValue = codes "NoValue"
word_why word.Repeat = codes "Repeat"
word_why word.Value = codes "Value"
word_why word.Range = codes "Range"
word_why word.Empty = codes "Empty"
word_why word.Long = codes "Long"
word_why word.Extra = codes "Extra"
word_why word.Few = codes "Few"
word_why word.Many = codes "Many"
word_why word.Clash = codes "Clash"
word_why word.Cond = codes "Cond"

-- why a stack is refused
abbrev pub stack_why : StackWhy → List ℕ
stack_why stack.Unknown = codes "Unknown"
stack_why stack.Value = codes "Value"
stack_why stack.Range = codes "Range"
stack_why stack.Repeat = codes "Repeat"
stack_why stack.NoParent = codes "NoParent"
stack_why stack.Mismatch = codes "Mismatch"
stack_why stack.Missing = codes "Missing"
stack_why stack.Many = codes "Many"

-- why a channel isn't bound
abbrev pub bind_why : BindWhy → List ℕ
bind_why binding.Unknown = codes "Unknown"
bind_why binding.TooMany = codes "TooMany"
bind_why binding.Rate = codes "Rate"

-- why a checkpoint is refused
abbrev pub check_why : CheckWhy → List ℕ
check_why check.Many = codes "Many"
check_why check.Form = codes "Form"
check_why check.Fit = codes "Fit"

-- what is wrong with a capture
abbrev pub capture_why : CaptureFault → List ℕ
capture_why (capture.ShortUnit at) = codes "ShortUnit"
capture_why (capture.Token at) = codes "Token"
capture_why (capture.TooLong at) = codes "TooLong"
capture_why capture.NoTimescale = codes "NoTimescale"
capture_why capture.NoDefinitions = codes "NoDefinitions"
capture_why (capture.TooMany at) = codes "TooMany"
capture_why (capture.TimeBack at was now) = codes "TimeBack"
capture_why (capture.TimeLarge at) = codes "TimeLarge"
capture_why (capture.Field line column) = codes "Field"
capture_why (capture.Columns line want have) = codes "Columns"
capture_why (capture.Time line) = codes "Time"
capture_why capture.Bytes = codes "Bytes"
capture_why capture.Past = codes "Past"

-- the place of a capture's fault, or its line; 0 where it has neither
abbrev pub capture_at : CaptureFault → ℕ
capture_at (capture.ShortUnit at) = at
capture_at (capture.Token at) = at
capture_at (capture.TooLong at) = at
capture_at capture.NoTimescale = 0
capture_at capture.NoDefinitions = 0
capture_at (capture.TooMany at) = at
capture_at (capture.TimeBack at was now) = at
capture_at (capture.TimeLarge at) = at
capture_at (capture.Field line column) = line
capture_at (capture.Columns line want have) = line
capture_at (capture.Time line) = line
capture_at capture.Bytes = 0
capture_at capture.Past = 0

-- the line that tells of a status; a run that is done tells nothing
abbrev pub notice_of : Status → List ℕ
notice_of Done = []
notice_of (Words fault) =
    codes "ldecode: word " ++ decimal fault.word ++ codes " at " ++ decimal fault.at ++ codes ": "
    ++ word_why fault.why ++ codes "\n"
notice_of (Stack fault) =
    codes "ldecode: stack word " ++ decimal fault.word ++ codes " at " ++ decimal fault.at
    ++ codes ": " ++ stack_why fault.why ++ codes "\n"
notice_of (Bind fault) =
    codes "ldecode: entry " ++ decimal fault.entry ++ codes " item " ++ decimal fault.item
    ++ codes ": " ++ bind_why fault.why ++ codes "\n"
notice_of (Check fault) =
    codes "ldecode: checkpoint at " ++ decimal fault.instance ++ codes ": "
    ++ check_why fault.why ++ codes "\n"
notice_of ReadFault = codes "ldecode: read fault\n"
notice_of (Capture fault) =
    codes "ldecode: capture at " ++ decimal (capture_at fault) ++ codes ": " ++ capture_why fault
    ++ codes "\n"
notice_of WriteFault = codes "ldecode: write fault\n"
notice_of NoMemory = codes "ldecode: out of memory\n"

-- the line that tells of a run that is done, and of a viewer that saw so many notes
abbrev pub viewer_saw : ℕ → List ℕ
viewer_saw count = codes "ldecode: viewer saw " ++ decimal count ++ codes " notes\n"

-- the line that tells of a run: that of its status, or how many notes a viewer saw
abbrev pub line_of : Status → Option ℕ → List ℕ
line_of status None = notice_of status
line_of status (Some count) = viewer_saw count
