-- Edges and pulses of a 1-Wire line as the reference program keeps them.
use Rattle.std.specs.Prelude.{ℕ, Bool, true, false, List, [], ◌∷◌, Option, Some, None}
use Rattle.la_base.specs.Samples.{is_high}
use Rattle.dec_onewire.specs.Link as link
use Rattle.dec_onewire.specs.Link.{To}
use Rattle.reference_devices.specs.declared.onewire_link.Edge.{Edge}
use Rattle.reference_devices.specs.declared.onewire_link.Pulse.{Pulse}

abbrev pub edge_of : Edge → link.Edge
edge_of edge = To edge.at edge.high

abbrev pub pulse_of : Pulse → link.Pulse
pulse_of pulse = record { fall = pulse.fall; rise = pulse.rise }

-- an edge where two levels differ
abbrev pub edge_by : ℕ → Bool → Bool → List Edge
edge_by k false true = record { at = k; high = true } ∷ []
edge_by k true false = record { at = k; high = false } ∷ []
edge_by k false false = []
edge_by k true true = []

abbrev pub line_edge : ℕ → ℕ → Option ℕ → ℕ → List Edge
line_edge line k None now = []
line_edge line k (Some before) now = edge_by k (is_high before line) (is_high now line)

-- a pulse where the line has fallen and now rises
abbrev pub pulse_by : ℕ → Bool → ℕ → Bool → List Pulse
pulse_by fall false rise true = record { fall = fall; rise = rise } ∷ []
pulse_by fall false rise false = []
pulse_by fall true rise level = []

abbrev pub line_pulse : ℕ → Option Edge → Edge → List Pulse
line_pulse place None now = []
line_pulse place (Some before) now = pulse_by before.at before.high now.at now.high
