use Rattle.std.proofs.Common.{ℕ, List, inl, subst}
use Rattle.std.specs.String.{string_bytes}
use Rattle.ldecode.specs.Headline.{stream}
use Rattle.ldecode_program.specs.Programs.{TextWritten}
use Rattle.ldecode_program.proofs.over_streams.tell_help.Goals as goal

pub returns-in-Ok : goal.returns-in-Ok
returns-in-Ok g c = inl (
  string_bytes c.in-Ok.text,
  c.in-Ok.ensures,
  subst (λ (text : List ℕ). TextWritten text (stream g.K.Sink.written g.K.Sink.faults c.args.sink.now c.tell.new.sink) c.tell.result) c.as_str.ensures.value c.tell.ensures,
)
