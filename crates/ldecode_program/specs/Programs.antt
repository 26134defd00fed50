-- What the program does with its words and streams, and its exit status.
use Rattle.std.specs.Prelude.{ℕ, ◌≡◌, ◌⊎◌, List, []}
use Rattle.std.specs.Io.KnownBytes.{Appends}
use Rattle.la_io.specs.Causes.{AppendsFront}
use Rattle.run_status.specs.Notices.{code_of}
use Rattle.run_status.specs.declared.status.Status.{Status}
use Rattle.run_status.specs.declared.status.Status.TheVariants as status
use Rattle.run_asks.specs.Parting.{Saves}
use Rattle.ldecode.specs.Headline.{DidFail, Headline, Stream}
use Rattle.ldecode_program.specs.declared.request.Request.{Request}
use Rattle.ldecode_program.specs.declared.request.Request.TheVariants.{Help, Version, Run}

-- a text was written whole; or the sink failed, and a front of it was
abbrev pub TextWritten : List ℕ → Stream → ℕ → Type 0
TextWritten text sink code =
    (Appends sink.old sink.new text × (sink.failed_new ≡ sink.failed_old)
    × (code ≡ code_of status.Done))
    ⊎ (AppendsFront sink.old sink.new text × DidFail sink × (code ≡ code_of status.WriteFault))

-- the same of a text that takes memory to make
abbrev pub MadeWritten : (List ℕ → Type 0) → Stream → ℕ → Type 0
MadeWritten Is sink code =
    ((text : List ℕ) × Is text × TextWritten text sink code)
    ⊎ (Appends sink.old sink.new [] × (sink.failed_new ≡ sink.failed_old)
    × (code ≡ code_of status.NoMemory))

-- a run of the words keeps its promise, and its status makes the exit status
pub record RunEnds (saves : Saves) (words : List (List ℕ)) (source sink notices : Stream)
    (same : Type 0) (code : ℕ) : Type 0 where
  pub status : Status
  pub headline : Headline saves words source sink notices same status
  pub code_is : code ≡ code_of status

-- what is asked for is done; `same` and `quiet` say that the source and the notices are just as
-- they were
abbrev pub ProgramDoes : Saves → Request → (List ℕ → Type 0) → List ℕ → List (List ℕ) → Stream → Stream
    → Stream → Type 0 → Type 0 → ℕ → Type 0
ProgramDoes saves Help IsHelp version words source sink notices same quiet code =
    MadeWritten IsHelp sink code × same × quiet
ProgramDoes saves Version IsHelp version words source sink notices same quiet code =
    TextWritten version sink code × same × quiet
ProgramDoes saves Run IsHelp version words source sink notices same quiet code =
    RunEnds saves words source sink notices same code
