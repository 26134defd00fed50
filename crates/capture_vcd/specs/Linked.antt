-- The chains of channels, as a reader keeps them.
use Rattle.std.specs.Prelude.{List}
use Rattle.capture_vcd.specs.Body.{Channel}
use Rattle.capture_vcd.specs.Chains.{ChainedFrom, keys_of}
use Rattle.capture_vcd.specs.declared.chains.Chains.{Chains}

abbrev pub Linked : Chains → List Channel → Type 0
Linked chains channels = ChainedFrom 0 chains.heads chains.next (keys_of channels)
